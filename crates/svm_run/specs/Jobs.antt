-- What words over the told files name: a job, which is an image, a script for it and what is asked for, or a status that ends
-- the program before any event. The order of refusals is the order of the cases. Generated input is made, whatever the shelf
-- has.
use Rattle.std.specs.Prelude.{ℕ, List, true, false, Option, Some, None, Result, Ok, Err}
use Rattle.byte_shelf.specs.Shelf.{Files, file_of, whole_file}
use Rattle.byte_shelf.specs.declared.answers.ReadAll.{ReadAll}
use Rattle.byte_shelf.specs.declared.answers.ReadAll.TheVariants.{Missing as NoFile, Failed, TooLong as TooManyBytes, NoMemory as NoRoom}
use Rattle.svm_model.specs.Formats.Image.{Image as ImageRecord, ImageFault}
use Rattle.svm_model.specs.Formats.ImageBytes.{image_of, image_limit}
use Rattle.svm_model.specs.Formats.Script.{Script as ScriptRecord, ScriptFault, script_of, script_limit}
use Rattle.svm_model.specs.declared.formats.ImageReason.TheVariants.{TooLong as ImageTooLong}
use Rattle.svm_model.specs.declared.formats.ScriptReason.TheVariants.{TooLong as ScriptTooLong}
use Rattle.svm_run.specs.Words.{Asked, Files as NamedFiles, Made as OfNumbers, asked_of}
use Rattle.svm_run.specs.declared.status.Status.{Status}
use Rattle.svm_run.specs.declared.status.Status.TheVariants.{Words, Input, OutsideFault, NoMemory}
use Rattle.svm_run.specs.declared.status.InputFault.TheVariants.{Missing, Image, Script}
use Rattle.svm_run.specs.declared.status.OutsideFault.TheVariants.{Read}
use Rattle.svm_run.specs.declared.words.Numbers.{Numbers}
use Rattle.svm_run.specs.declared.words.Work.{Work}
use Rattle.svm_run.specs.declared.words.Work.TheVariants.{Made}
use Rattle.workload.specs.Generated.{made_image, made_script}

-- an image, a script for it, and what is asked for of the run
pub record Job : Type 0 where
  pub work : Work
  pub image : ImageRecord
  pub script : ScriptRecord

abbrev pub job : Work → ImageRecord → ScriptRecord → Job
job work image script = record { work = work; image = image; script = script }

-- the image that bytes say
abbrev pub image_said : Result ImageRecord ImageFault → Result ImageRecord Status
image_said (Ok image) = Ok image
image_said (Err fault) = Err (Input (Image fault.place fault.reason))

abbrev pub image_from : Result (List ℕ) ReadAll → Result ImageRecord Status
image_from (Ok bytes) = image_said (image_of bytes)
image_from (Err NoFile) = Err (Input (Missing false))
image_from (Err TooManyBytes) = Err (Input (Image image_limit ImageTooLong))
image_from (Err Failed) = Err (OutsideFault Read)
image_from (Err NoRoom) = Err NoMemory

-- the script that bytes say for an image
abbrev pub script_said : Result ScriptRecord ScriptFault → Result ScriptRecord Status
script_said (Ok script) = Ok script
script_said (Err fault) = Err (Input (Script fault.line fault.reason))

abbrev pub script_from : ImageRecord → Result (List ℕ) ReadAll → Result ScriptRecord Status
script_from image (Ok bytes) = script_said (script_of bytes image)
script_from image (Err NoFile) = Err (Input (Missing true))
script_from image (Err TooManyBytes) = Err (Input (Script 0 ScriptTooLong))
script_from image (Err Failed) = Err (OutsideFault Read)
script_from image (Err NoRoom) = Err NoMemory

-- what the names of a shelf stand for
unfoldable pub image_in : Option Files → List ℕ → Result ImageRecord Status
image_in files name = image_from (whole_file image_limit (file_of files name))

unfoldable pub script_in : ImageRecord → Option Files → List ℕ → Result ScriptRecord Status
script_in image files name = script_from image (whole_file script_limit (file_of files name))

abbrev pub job_with_script : Work → ImageRecord → Result ScriptRecord Status → Result Job Status
job_with_script work image (Err status) = Err status
job_with_script work image (Ok script) = Ok (job work image script)

abbrev pub job_with_image : Option Files → Work → List ℕ → Result ImageRecord Status → Result Job Status
job_with_image files work script (Err status) = Err status
job_with_image files work script (Ok image) = job_with_script work image (script_in image files script)

abbrev pub made_job : Numbers → Job
made_job numbers = job (Made numbers) (made_image numbers.seed numbers.size) (made_script numbers.size)

abbrev pub job_with_names : Option Files → Option Asked → Result Job Status
job_with_names files None = Err Words
job_with_names files (Some (NamedFiles work image script)) = job_with_image files work script (image_in files image)
job_with_names files (Some (OfNumbers numbers)) = Ok (made_job numbers)

abbrev pub job_of : Option Files → List (List ℕ) → Result Job Status
job_of files words = job_with_names files (asked_of words)
