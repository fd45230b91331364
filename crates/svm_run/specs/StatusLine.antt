-- The line that a refusal prints.
use Rattle.std.specs.Prelude.{ℕ, List, [], if◌then◌else◌, codes}
use Rattle.std.specs.Fmt.{decimal}
use Rattle.svm_model.specs.Formats.Text.{◌⧺◌, newline, image_reason_name, script_reason_name}
use Rattle.svm_model.specs.declared.formats.ImageReason.{ImageReason}
use Rattle.svm_model.specs.declared.formats.ScriptReason.{ScriptReason}
use Rattle.svm_run.specs.declared.status.Status.{Status}
use Rattle.svm_run.specs.declared.status.Status.TheVariants.{Done, Words, Input, Breach, OutsideFault, NoMemory, LeftProfile}
use Rattle.svm_run.specs.declared.status.InputFault.TheVariants.{Missing, Image, Script}
use Rattle.svm_run.specs.declared.status.OutsideFault.TheVariants.{Read, Write, Device}

unfoldable pub image_line : ℕ → ImageReason → List ℕ
image_line place reason = codes "refused image place=" ⧺ decimal place ⧺ codes " reason=" ⧺ image_reason_name reason ⧺ newline

unfoldable pub script_line : ℕ → ScriptReason → List ℕ
script_line line reason = codes "refused script line=" ⧺ decimal line ⧺ codes " reason=" ⧺ script_reason_name reason ⧺ newline

unfoldable pub device_line : ℕ → List ℕ
device_line device = codes "fault device " ⧺ decimal device ⧺ newline

-- the line that a refusal prints; a write fault prints nothing more
abbrev pub status_line : Status → List ℕ
status_line Words = codes "refused words\n"
status_line (Input (Missing script)) = if script then codes "refused missing script\n" else codes "refused missing image\n"
status_line (Input (Image place reason)) = image_line place reason
status_line (Input (Script line reason)) = script_line line reason
status_line (OutsideFault Read) = codes "fault read\n"
status_line (OutsideFault Write) = []
status_line (OutsideFault (Device device)) = device_line device
status_line NoMemory = codes "no memory\n"
status_line Done = []
status_line Breach = []
status_line LeftProfile = []
