-- What the entries of a path say together.
use Rattle.std.specs.Prelude.{◌≡◌, List, bit_and, bit_or}
use Rattle.svm_model.specs.Memory.Bits.{has}
use Rattle.svm_model.specs.Memory.PageEntries.{writable, user, accessed, no_execute}
use Rattle.svm_model.specs.Memory.PageTables.{all_have, some_has, leaf_bits}
use Rattle.svm_model.specs.declared.page_tables.Entry.{Entry}
use Rattle.page_walk.specs.declared.path_bits.PathBits.{PathBits}

-- of the topmost entry alone
abbrev pub of_top : Entry → PathBits
of_top e = record { common = record { 0 = e.bits }; joined = record { 0 = e.bits }; leaf = record { 0 = e.bits } }

-- with one entry more, below the others
abbrev pub with_below : PathBits → Entry → PathBits
with_below bits e = record { common = record { 0 = bit_and bits.common.0 e.bits }; joined = record { 0 = bit_or bits.joined.0 e.bits }; leaf = record { 0 = e.bits } }

-- they tell of each bit that counts over the whole path, and what the leaf has
pub record Join (bits : PathBits) (path : List Entry) : Type 0 where
  pub writable : has bits.common.0 writable ≡ all_have path writable
  pub user : has bits.common.0 user ≡ all_have path user
  pub accessed : has bits.common.0 accessed ≡ all_have path accessed
  pub no_execute : has bits.joined.0 no_execute ≡ some_has path no_execute
  pub leaf : bits.leaf.0 ≡ leaf_bits path
