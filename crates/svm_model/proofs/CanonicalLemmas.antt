-- Within a page of 4 KiB all bytes are canonical where the first is: the canonical addresses end and begin at the edge of a
-- page. This is why the code looks at the first byte of a part of an access alone, as a part stays within one page.
use Rattle.std.proofs.Common.{ℕ, ◌+◌, ◌%◌, ◌≤◌, arith}
use Rattle.std.proofs.lemmas.Bool.Decides.{nat_tests}
use Rattle.svm_model.specs.Memory.RegisterFile.{AreCanonicalAlike}

pub canonical_alike : (address count : ℕ) → address % 4096 + count ≤ 4096 → AreCanonicalAlike address count
canonical_alike address count h = λ offset k. grind (arith, nat_tests)
