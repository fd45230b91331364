-- The translations that an access makes: that of its own page and, through outer tables, those of the pages on its way
-- (volume 2, 'Page Translation and Protection', 'Nested Paging').
use Rattle.std.specs.Prelude.{ℕ, Bool, true, false, Option, Some, None}
use Rattle.svm_model.specs.declared.audits.Outcome.{Outcome}
use Rattle.svm_model.specs.declared.audits.Outcome.TheVariants as outcome
use Rattle.svm_model.specs.declared.names.Access.{Access}
use Rattle.svm_model.specs.declared.names.Kind.{Kind}
use Rattle.svm_model.specs.declared.names.Kind.TheVariants.{Read, Write, Fetch}
use Rattle.svm_model.specs.declared.page_tables.Leaf.{Leaf}
use Rattle.svm_model.specs.declared.page_tables.Nested.{Nested}
use Rattle.svm_model.specs.declared.page_tables.Nested.TheVariants as nested
use Rattle.svm_model.specs.declared.page_tables.Pass.{Pass}
use Rattle.svm_model.specs.declared.page_tables.Walked.{Walked}
use Rattle.svm_model.specs.declared.page_tables.Walked.TheVariants as walked

-- a translation of linear memory or, nested, of memory that outer tables map
pub record Making : Type 0 where
  pub asid : ℕ
  pub nested : Bool
  pub access : Access
  pub write_protect : Bool
  pub leaf : Option Leaf
  pub outcome : Outcome

-- of linear memory, by what the walk answers
abbrev pub leaf_of : Nested → Option Leaf
leaf_of (nested.Leaf leaf guest_frame changed) = Some leaf
leaf_of (nested.Bar leaf changed) = Some leaf
leaf_of (nested.PageFault code) = None
leaf_of (nested.NestedFault code address) = None
leaf_of (nested.Ended outside) = None

abbrev pub outcome_of : Nested → Outcome
outcome_of (nested.Leaf leaf guest_frame changed) = outcome.Frame leaf.frame changed
outcome_of (nested.Bar leaf changed) = outcome.Frame leaf.frame changed
outcome_of (nested.PageFault code) = outcome.Fault code
outcome_of (nested.NestedFault code address) = outcome.Fault code
outcome_of (nested.Ended outside) = outcome.End

abbrev pub making : ℕ → Bool → Access → Nested → Making
making asid write_protect access answer = record {
  asid = asid;
  nested = false;
  access = access;
  write_protect = write_protect;
  leaf = leaf_of answer;
  outcome = outcome_of answer;
}

-- of a page that is passed through the outer tables, which is a user's access
abbrev pub passed_leaf : Walked → Option Leaf
passed_leaf (walked.Leaf leaf changed) = Some leaf
passed_leaf (walked.PageFault code) = None
passed_leaf (walked.Ended outside) = None

abbrev pub passed_outcome : Walked → Outcome
passed_outcome (walked.Leaf leaf changed) = outcome.Frame leaf.frame changed
passed_outcome (walked.PageFault code) = outcome.Fault code
passed_outcome (walked.Ended outside) = outcome.End

abbrev pub passing : ℕ → Bool → Pass → Making
passing asid write_protect pass = record {
  asid = asid;
  nested = true;
  access = record { page = record { 0 = pass.page.0 }; kind = pass.kind; user = true };
  write_protect = write_protect;
  leaf = passed_leaf pass.walked;
  outcome = passed_outcome pass.walked;
}

abbrev pub is_write : Kind → Bool
is_write Read = false
is_write Write = true
is_write Fetch = false

abbrev pub is_fetch : Kind → Bool
is_fetch Read = false
is_fetch Write = false
is_fetch Fetch = true
