-- Where the events of a script stand.
use Rattle.std.specs.Prelude.{◌≡◌, ◌<◌, ℕ, List, length, take}
use Rattle.std.specs.List.{flat_map, slice_index_or}
use Rattle.svm_model.specs.Formats.Script.{Script, IsLawful, events_of_line}
use Rattle.svm_model.specs.Machine.Shapes.{Shape}
use Rattle.svm_model.specs.declared.formats.ScriptLine.{ScriptLine}

-- a script that is lawful for some image of so many processors
pub record IsScriptFor (cpus : ℕ) (script : Script) : Type 0 where
  pub shape : Shape
  pub processors : shape.cpus ≡ cpus
  pub lawful : IsLawful shape script

-- each line's number is that of the events in the lines before it, on so many processors
abbrev pub AreInOrder : ℕ → List ScriptLine → Type 0
AreInOrder cpus lines =
    (i : ℕ) (d : ScriptLine) → i < length lines → (slice_index_or lines i d).first ≡ length (flat_map (events_of_line cpus) (take i lines))
