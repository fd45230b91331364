-- The script: what its bytes say for an image, or the first line where they are refused.
use Rattle.std.specs.Prelude.{◌≡◌, ℕ, ◌+◌, ◌<◌, ◌≤◌, nat_lt, List, [], ◌∷◌, ◌++◌, Bool, true, false, if◌then◌else◌, Option, Some, None, Result, Ok, Err, length, map, replicate}
use Rattle.std.specs.List.{flat_map, range_with_len}
use Rattle.std.specs.Option.{option_to_list}
use Rattle.svm_model.specs.Formats.Image.{Image}
use Rattle.svm_model.specs.Machine.Shapes.{Shape, image_shape, IsNamed}
use Rattle.svm_model.specs.declared.formats.ScriptLine.{ScriptLine}
use Rattle.svm_model.specs.declared.formats.ScriptReason.{ScriptReason}
use Rattle.svm_model.specs.declared.formats.ScriptReason.TheVariants.{TooLong}
use Rattle.svm_model.specs.declared.names.Event.{Event}
use Rattle.svm_model.specs.declared.names.Event.TheVariants.{Run}
use Rattle.svm_model.specs.Formats.ScriptWords.{◌>>=◌, lines_of}
use Rattle.svm_model.specs.Formats.ScriptLines.{line_length, said_of}

-- the line that is refused, counted from 1, and why; a script that is too long is line 0
pub record ScriptFault : Type 0 where
  pub line : ℕ
  pub reason : ScriptReason

-- the lines in order, and how many events they have
pub record Script : Type 0 where
  pub lines : List ScriptLine
  pub events : ℕ

-- The script.

abbrev pub at_line : {A : Type 0} → ℕ → Result A ScriptReason → Result A ScriptFault
at_line line (Ok x) = Ok x
at_line line (Err reason) = Err (record { line = line; reason = reason })

-- how many events a line has, on so many processors
abbrev pub count_of : ℕ → Option ScriptLine → ℕ
count_of cpus None = 0
count_of cpus (Some line) = line_length cpus line

-- the lines from a number on, where so many events come before them
unfoldable pub script_from : Shape → ℕ → ℕ → List (List ℕ) → Result Script ScriptFault
script_from shape line first [] = Ok (record { lines = []; events = first })
script_from shape line first (text ∷ texts) = do
  said ← at_line line (said_of shape first text)
  rest ← script_from shape (line + 1) (first + count_of shape.cpus said) texts
  Ok (record { lines = option_to_list said ++ rest.lines; events = rest.events })

-- the most bytes that a script has
abbrev pub script_limit : ℕ
script_limit = 1048576

-- the script that these bytes are for an image, or which line is refused and why
unfoldable pub script_of : List ℕ → Image → Result Script ScriptFault
script_of bytes image =
    if nat_lt script_limit (length bytes) then Err (record { line = 0; reason = TooLong })
    else script_from (image_shape image) 1 0 (lines_of bytes)

-- Its events.

abbrev pub run_on : ℕ → Event
run_on cpu = Run (record { 0 = cpu })

-- one round of a line, on so many processors: its event, or a run on each, in their order
abbrev pub round_of : ℕ → ScriptLine → List Event
round_of cpus line = if line.each then map run_on (range_with_len 0 cpus) else line.event ∷ []

abbrev pub events_of_line : ℕ → ScriptLine → List Event
events_of_line cpus line = flat_map (λ (round : List Event). round) (replicate line.times (round_of cpus line))

-- all events, in order, on so many processors
unfoldable pub events_of : ℕ → Script → List Event
events_of cpus script = flat_map (events_of_line cpus) script.lines

-- a line of rounds has a run on the first processor as its event
abbrev pub IsRoundOf : Shape → Bool → Event → Type 0
IsRoundOf shape true event = (event ≡ run_on 0) × (0 < shape.cpus)
IsRoundOf shape false event = IsNamed shape event

-- the names of a line are in the image, and it comes at least once
pub record IsLawfulLine (shape : Shape) (line : ScriptLine) : Type 0 where
  pub named : IsRoundOf shape line.each line.event
  pub some : 0 < line.times

-- each line begins at the event behind those of the lines before it
abbrev pub AreLawful : Shape → ℕ → List ScriptLine → ℕ → Type 0
AreLawful shape first [] events = events ≡ first
AreLawful shape first (line ∷ lines) events =
    IsLawfulLine shape line × (line.first ≡ first) × AreLawful shape (first + line_length shape.cpus line) lines events

pub record IsLawful (shape : Shape) (script : Script) : Type 0 where
  pub lines : AreLawful shape 0 script.lines script.events
  pub few : script.events ≤ 1048576
