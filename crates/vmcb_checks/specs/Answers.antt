-- What is answered to a VMCB.
use Rattle.std.specs.Prelude.{ℕ, Option, Some, None}
use Rattle.svm_model.specs.declared.vmcbs.Checked.{Checked}
use Rattle.svm_model.specs.declared.vmcbs.Checked.TheVariants.{Legal, Illegal}

-- the answer where this is the least rule that is broken
abbrev pub checked : Option ℕ → Checked
checked None = Legal
checked (Some rule) = Illegal rule
