-- How a walk that is done piece by piece reaches what it comes to.
use Rattle.std.specs.Prelude.{◌≡◌, ℕ, List, ◌++◌}
use Rattle.svm_model.specs.Memory.OuterPasses.{Reached, pass_told, passed}
use Rattle.svm_model.specs.declared.names.Kind.{Kind}
use Rattle.svm_model.specs.declared.page_tables.Nested.{Nested}
use Rattle.svm_model.specs.declared.page_tables.Outer.{Outer}
use Rattle.svm_model.specs.declared.page_tables.Pass.{Pass}
use Rattle.svm_model.specs.declared.page_tables.Walked.{Walked}

-- the answer and memory are those of what is left of the walk, and its passes are told behind those before it
pub record Reaches (reached : Reached) (before : List Pass) (result : Nested) (memory : List ℕ) (passes : List Pass) : Type 0 where
  pub answer : result ≡ reached.answer
  pub memory_is : memory ≡ reached.memory
  pub passes_are : passes ≡ before ++ reached.passes

-- a page was passed, which is told behind the passes before it
pub record Passes (outer : Outer) (memory : List ℕ) (page : ℕ) (kind : Kind) (before : List Pass) (result : Walked) (after : List ℕ) (passes : List Pass) : Type 0 where
  pub answer : result ≡ (passed outer memory page kind).0
  pub memory_is : after ≡ (passed outer memory page kind).1
  pub passes_are : passes ≡ before ++ pass_told outer memory page kind
