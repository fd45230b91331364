-- What a look-up in a table comes to.
use Rattle.std.specs.Prelude.{Option, Some, None, Result, Ok, Err}
use Rattle.svm_model.specs.declared.page_tables.Entry.{Entry}
use Rattle.svm_model.specs.declared.page_tables.Walked.{Walked}

-- the entry, unless something ends the walk there
abbrev pub looked : Option Walked → Entry → Result Entry Walked
looked None entry = Ok entry
looked (Some end) entry = Err end
