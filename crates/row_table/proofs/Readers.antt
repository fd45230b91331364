-- What it means that bytes are read one after another, with no byte read in vain.
use Rattle.std.proofs.Common.{◌≡◌, ℕ, List, [], ◌∷◌, ◌++◌, Result, Ok, Err}
use Rattle.svm_model.specs.Instructions.InstructionBytes.{AreBytes}
use Rattle.svm_model.specs.declared.row_lines.Unread.{Unread}
use Rattle.svm_model.specs.declared.row_lines.Unread.TheVariants.{More, Unlisted}

abbrev pub Reader : Type 0 → Type 0
Reader X = List ℕ → Result (X × List ℕ) Unread

-- a value is read from a front, whatever follows it
pub record Takes {X : Type 0} (p : Reader X) (bs : List ℕ) (x : X) (rest : List ℕ) : Type 0 where
  pub front : List ℕ
  pub split : bs ≡ front ++ rest
  pub again : (more : List ℕ) → p (front ++ more) ≡ Ok (x, more)

-- some bytes after these make a value
pub record Waits {X : Type 0} (p : Reader X) (bs : List ℕ) : Type 0 where
  pub next : List ℕ
  pub bytes : AreBytes next
  pub value : X
  pub read : p (bs ++ next) ≡ Ok (value, [])

-- the bytes before b may go on to a value, and with b they do not, whatever follows
pub record Refuses {X : Type 0} (p : Reader X) (bs : List ℕ) (b : ℕ) : Type 0 where
  pub front : List ℕ
  pub rest : List ℕ
  pub split : bs ≡ front ++ b ∷ rest
  pub waits : p front ≡ Err More
  pub again : (more : List ℕ) → p (front ++ b ∷ more) ≡ Err (Unlisted b)

pub record IsReader {X : Type 0} (p : Reader X) : Type 0 where
  pub takes : (bs : List ℕ) (x : X) (rest : List ℕ) → p bs ≡ Ok (x, rest) → Takes p bs x rest
  pub waits : (bs : List ℕ) → p bs ≡ Err More → Waits p bs
  pub refuses : (bs : List ℕ) (b : ℕ) → p bs ≡ Err (Unlisted b) → Refuses p bs b
