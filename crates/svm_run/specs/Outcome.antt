-- What the program answers and prints where nothing outside fails and memory is ample, and how far a run is after some
-- events.
use Rattle.std.specs.Prelude.{ℕ, ◌==◌, List, [], ◌∷◌, Bool, true, false, if◌then◌else◌, Option, None, Result, Ok, Err, is_some, length, replicate, take}
use Rattle.byte_shelf.specs.Shelf.{Files}
use Rattle.svm_model.specs.Audit.Verdicts.{Audited, audit_of, verdict_of}
use Rattle.svm_model.specs.Machine.Bus.{Bus, device_count}
use Rattle.svm_model.specs.Machine.Guest.{Guest}
use Rattle.svm_model.specs.Formats.Script.{events_of}
use Rattle.svm_model.specs.Formats.Text.{◌⧺◌, report}
use Rattle.svm_model.specs.Formats.Trace.{block, shown_line}
use Rattle.svm_model.specs.Formats.VerdictText.{verdict_text}
use Rattle.svm_model.specs.Machine.Events.{plain_event}
use Rattle.svm_model.specs.Machine.Runs.{Led, plain_run}
use Rattle.svm_model.specs.Machine.World.{World, world_of}
use Rattle.svm_model.specs.declared.audits.Verdict.{Verdict}
use Rattle.svm_model.specs.declared.audits.Verdict.TheVariants.{Keeps, Breach as BreachOf}
use Rattle.svm_model.specs.declared.names.Event.{Event}
use Rattle.svm_run.specs.Jobs.{Job, job_of}
use Rattle.svm_run.specs.StatusLine.{status_line}
use Rattle.svm_run.specs.Summary.{summary}
use Rattle.svm_run.specs.declared.status.Status.{Status}
use Rattle.svm_run.specs.declared.status.Status.TheVariants.{Done, Breach, LeftProfile}
use Rattle.svm_run.specs.declared.words.Numbers.{Numbers}
use Rattle.svm_run.specs.declared.words.Work.{Work}
use Rattle.svm_run.specs.declared.words.Work.TheVariants.{Run, Trace, Audit, Made}

-- a status, what is printed before the program ends with it, how many events were run, and the bus behind them
pub record Outcome : Type 0 where
  pub status : Status
  pub text : List ℕ
  pub events : ℕ
  pub bus : Bus

-- no event is run
abbrev pub refused : Bus → Status → Outcome
refused bus status = record { status = status; text = status_line status; events = 0; bus = bus }

-- whether a guest was ended
abbrev pub has_ended : List Guest → Bool
has_ended [] = false
has_ended (guest ∷ guests) = if is_some guest.ended then true else has_ended guests

abbrev pub status_ended : List Guest → Status
status_ended guests = if has_ended guests then LeftProfile else Done

-- What is printed of the events: of each dump its line, or of each event its block, and the report behind the last; or only
-- the verdict on the run, or the summary.

-- what an event prints, by the world and the bus that it finds
abbrev pub event_text : Work → World → Bus → Event → List ℕ
event_text Run w bus event = shown_line w event
event_text Trace w bus event = block w bus event
event_text Audit w bus event = []
event_text (Made numbers) w bus event = []

-- what the events of a list print, one after another
unfoldable pub texts_of : Work → World → Bus → List Event → List ℕ
texts_of work w bus [] = []
texts_of work w bus (event ∷ events) = event_text work w bus event ⧺ texts_of work (plain_event w bus event).world (plain_event w bus event).bus events

-- all events were run, have printed this and led here
unfoldable pub outcome_after : List ℕ → Led → Outcome
outcome_after text led = record {
  status = status_ended led.world.guests;
  text = text ⧺ report led.world led.bus;
  events = led.world.event;
  bus = led.bus;
}

abbrev pub status_by : Verdict → Status
status_by (Keeps events) = Done
status_by (BreachOf breach) = Breach

-- a script of so many events was audited
unfoldable pub outcome_audited : ℕ → Audited → Outcome
outcome_audited events audited = record {
  status = status_by (verdict_of events audited.breach);
  text = verdict_text (verdict_of events audited.breach);
  events = audited.world.event;
  bus = audited.bus;
}

-- Generated input is run and audited on a bus of its own, with no device and no write so far, so that the bus is as it was.

abbrev pub no_devices : Bus
no_devices = record { devices = replicate device_count None; output = [] }

abbrev pub status_made : List Guest → Verdict → Status
status_made guests (Keeps events) = status_ended guests
status_made guests (BreachOf breach) = Breach

-- the run led here, and this is the verdict on it
unfoldable pub outcome_summed : Numbers → Bus → Led → Verdict → Outcome
outcome_summed numbers bus ran verdict = record {
  status = status_made ran.world.guests verdict;
  text = summary numbers ran.world verdict;
  events = ran.world.event;
  bus = bus;
}

-- the verdict on events that were run before on this bus
abbrev pub verdict_behind : World → Bus → List Event → Verdict
verdict_behind w bus events = verdict_of (length events) (audit_of w bus events).breach

abbrev pub outcome_made : Numbers → World → Bus → List Event → Outcome
outcome_made numbers w bus events =
    outcome_summed numbers bus (plain_run w no_devices events) (verdict_behind w (plain_run w no_devices events).bus events)

-- a job that prints the report of its run
abbrev pub PrintsReport : Work → Type 0
PrintsReport Run = Unit {0}
PrintsReport Trace = Unit {0}
PrintsReport Audit = ⊥
PrintsReport (Made numbers) = ⊥

abbrev pub outcome_for : Work → World → Bus → List Event → Outcome
outcome_for Audit w bus events = outcome_audited (length events) (audit_of w bus events)
outcome_for (Made numbers) w bus events = outcome_made numbers w bus events
outcome_for work w bus events = outcome_after (texts_of work w bus events) (plain_run w bus events)

-- all events of a job are run, or those that an audit runs
unfoldable pub completed : Bus → Job → Outcome
completed bus job = outcome_for job.work (world_of job.image) bus (events_of job.image.cpus job.script)

abbrev pub outcome_by : Bus → Result Job Status → Outcome
outcome_by bus (Err status) = refused bus status
outcome_by bus (Ok job) = completed bus job

-- what words over these files give on a bus
abbrev pub outcome_of : Bus → Option Files → List (List ℕ) → Outcome
outcome_of bus files words = outcome_by bus (job_of files words)

-- the world and the bus behind so many first events of a job
unfoldable pub led_until : ℕ → Bus → Job → Led
led_until count bus job = plain_run (world_of job.image) bus (take count (events_of job.image.cpus job.script))

-- what these events print
unfoldable pub events_text : ℕ → Bus → Job → List ℕ
events_text count bus job = texts_of job.work (world_of job.image) bus (take count (events_of job.image.cpus job.script))

-- what a job prints until so many of its events are done: behind the last of all the report too, or the verdict
unfoldable pub text_until : ℕ → Bus → Job → List ℕ
text_until count bus job = if count == (completed bus job).events then (completed bus job).text else events_text count bus job
