-- What the code answers, beside what the definition says.
use Rattle.std.specs.Prelude.{◌≡◌, Result, Ok, Err}
use Rattle.svm_model.specs.Formats.Script.{Script, ScriptFault}
use Rattle.script_format.specs.declared.refusal.ScriptRefusal.{ScriptRefusal}
use Rattle.script_format.specs.declared.refusal.ScriptRefusal.TheVariants.{Bad, NoMemory}

-- a refusal is the fault that the definition tells; want of memory may come at any line
abbrev pub GivesFault : {A : Type 0} → ScriptRefusal → Result A ScriptFault → Type 0
GivesFault (Bad line reason) told = told ≡ Err (record { line = line; reason = reason })
GivesFault NoMemory told = Unit {0}

-- what was answered is what the definition tells, unless memory ran out
abbrev pub Gives : {A : Type 0} → Result A ScriptRefusal → Result A ScriptFault → Type 0
Gives (Ok x) told = told ≡ Ok x
Gives (Err refusal) told = GivesFault refusal told

-- the same for a whole script
abbrev pub GivesScript : Result Script ScriptRefusal → Result Script ScriptFault → Type 0
GivesScript result told = Gives result told
