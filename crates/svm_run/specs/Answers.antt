-- When an answer of the program is right: by what its status means.
use Rattle.std.specs.Prelude.{◌≡◌, ◌⊎◌, ◌≤◌, ◌<◌, ◌-◌, ℕ, List, [], Option, Some, None, Result, Ok, Err, length, slice_get, take}
use Rattle.byte_shelf.specs.Sink.{appended, IsCutShort}
use Rattle.fault_counts.specs.Causes.{Rose}
use Rattle.svm_model.specs.Machine.Bus.{Bus}
use Rattle.svm_model.specs.Formats.Script.{events_of}
use Rattle.svm_model.specs.Machine.Runs.{HandsOver, Led}
use Rattle.svm_model.specs.Machine.World.{World}
use Rattle.svm_model.specs.declared.names.Event.{Event}
use Rattle.svm_model.specs.declared.names.RunEnd.TheVariants.{Device}
use Rattle.plain_machine.specs.Cuts.{HasTurn, bus_reached}
use Rattle.port_bus.specs.Causes.{Blames}
use Rattle.svm_run.specs.Jobs.{Job}
use Rattle.svm_run.specs.Outcome.{completed, events_text, led_until, text_until}
use Rattle.svm_run.specs.StatusLine.{status_line}
use Rattle.svm_run.specs.Statuses.{EventsRun, NoEvents, FirstEvents, NotAllEvents, EventsToLine, AllEvents, Printed, WholeText, PartOfText, TextThenLine, PartThenLine, LineAlone, Blame, NothingOutside, TheShelf, TheSink, TheDevice, WantOfMemory, Meaning, meaning_of}
use Rattle.svm_run.specs.declared.status.Status.{Status}
use Rattle.svm_run.specs.Words.{Asked, Files, Made as OfNumbers}
use Rattle.svm_run.specs.declared.status.Status.TheVariants.{Input, Breach, OutsideFault, NoMemory, LeftProfile}
use Rattle.svm_run.specs.declared.status.OutsideFault.TheVariants.{Read}
use Rattle.svm_run.specs.declared.words.Work.{Work}
use Rattle.svm_run.specs.declared.words.Work.TheVariants.{Run, Trace, Audit, Made}

-- What a sink received.

-- a line was received, or a part of it where the sink refused
abbrev pub ReceivesLine : Option (List ℕ) → Option (List ℕ) → List ℕ → Type 0 → Type 0
ReceivesLine old new line refused = (new ≡ appended old line) ⊎ (IsCutShort old new line × refused)

-- a first part of a text was received, and not all of it, but all of what it begins with
pub record IsCutBehind (old new : Option (List ℕ)) (before text : List ℕ) : Type 0 where
  pub count : ℕ
  pub behind : length before ≤ count
  pub short : count < length text
  pub written : new ≡ appended old (take count text)

-- a first part of a text was received, with all of what it begins with, and then a line as above
pub record ReceivesPart (old new : Option (List ℕ)) (before text line : List ℕ) (refused : Type 0) : Type 0 where
  pub count : ℕ
  pub behind : length before ≤ count
  pub line_after : ReceivesLine (appended old (take count text)) new line refused

-- what was received of a text, which begins with what the events before the last print
abbrev pub Receives : Printed → (before text line : List ℕ) → (old new : Option (List ℕ)) → Type 0 → Type 0
Receives WholeText before text line old new refused = new ≡ appended old text
Receives PartOfText before text line old new refused = IsCutBehind old new before text
Receives TextThenLine before text line old new refused = ReceivesLine (appended old text) new line refused
Receives PartThenLine before text line old new refused = ReceivesPart old new before text line refused
Receives LineAlone before text line old new refused = ReceivesLine old new line refused

-- How far the run came.

-- so many events of all were run
abbrev pub IsReached : EventsRun → (count all : ℕ) → Type 0
IsReached NoEvents count all = count ≡ 0
IsReached FirstEvents count all = count ≤ all
IsReached NotAllEvents count all = count < all
IsReached EventsToLine count all = count ≤ all
IsReached AllEvents count all = count ≡ all

abbrev pub HandsOverIt : World → Bus → Option Event → Type 0
HandsOverIt w bus None = ⊥
HandsOverIt w bus (Some event) = (call : ℕ) × HandsOver call w bus event

-- the event of this number, which was refused, hands something to the bus; any other way to end has no such event
abbrev pub IsRefusedAt : EventsRun → ℕ → Bus → Job → Type 0
IsRefusedAt NotAllEvents count bus job =
    HandsOverIt (led_until count bus job).world (led_until count bus job).bus (slice_get (events_of job.image.cpus job.script) count)
IsRefusedAt _ count bus job = Unit {0}

-- the turn of the next event was cut off, and the bus is as it had left it
abbrev pub IsWithin : Led → Option Event → Bus → Type 0
IsWithin led None after = ⊥
IsWithin led (Some event) after = (call : ℕ) × HasTurn led.world event × (after ≡ bus_reached call led.world led.bus event)

-- The bus is behind events that led here. Where an audit had no memory for what the next one tells it may be within that.
-- Generated input has a bus of its own, and this one stays as it was.
abbrev pub StandsBehind : Work → EventsRun → (before : Bus) → Led → Option Event → (after : Bus) → Type 0
StandsBehind (Made numbers) _ before led next after = after ≡ before
StandsBehind Audit FirstEvents before led next after = (after ≡ led.bus) ⊎ IsWithin led next after
StandsBehind _ _ before led next after = after ≡ led.bus

-- The run of a job came so far: one number of events says where the bus is and what was printed.
pub record EndsRun (m : Meaning) (line : List ℕ) (job : Job) (before after : Bus) (old new : Option (List ℕ)) (refused : Type 0) : Type 0 where
  pub count : ℕ
  pub reached : IsReached m.events count (completed before job).events
  pub refused_at : IsRefusedAt m.events count before job
  pub bus : StandsBehind job.work m.events before (led_until count before job) (slice_get (events_of job.image.cpus job.script) count) after
  pub printed : Receives m.printed (events_text (count - 1) before job) (text_until count before job) line old new refused

-- the program may end so before it has a job
abbrev pub MayPrecede : EventsRun → Type 0
MayPrecede NoEvents = Unit {0}
MayPrecede FirstEvents = Unit {0}
MayPrecede NotAllEvents = ⊥
MayPrecede EventsToLine = ⊥
MayPrecede AllEvents = ⊥

-- there is no job, so that no event was run and only the line may have been printed
pub record EndsUnrun (m : Meaning) (line : List ℕ) (before after : Bus) (old new : Option (List ℕ)) (refused : Type 0) : Type 0 where
  pub events : MayPrecede m.events
  pub bus : after ≡ before
  pub printed : Receives m.printed [] [] line old new refused

-- what a status leaves behind: the bus, and what the sink received
abbrev pub Ends : Status → Result Job Status → (before after : Bus) → (old new : Option (List ℕ)) → Type 0 → Type 0
Ends status (Err told) before after old new refused = EndsUnrun (meaning_of status) (status_line status) before after old new refused
Ends status (Ok job) before after old new refused = EndsRun (meaning_of status) (status_line status) job before after old new refused

-- Which works end so.

-- an audit is made
abbrev pub Audits : Work → Type 0
Audits Run = ⊥
Audits Trace = ⊥
Audits Audit = Unit {0}
Audits (Made numbers) = Unit {0}

-- it is told that a guest was ended
abbrev pub TellsEnds : Work → Type 0
TellsEnds Run = Unit {0}
TellsEnds Trace = Unit {0}
TellsEnds Audit = ⊥
TellsEnds (Made numbers) = Unit {0}

-- a work may end by this status
abbrev pub MayEnd : Status → Work → Type 0
MayEnd Breach work = Audits work
MayEnd LeftProfile work = TellsEnds work
MayEnd _ work = Unit {0}

-- what is asked for may end by this status
abbrev pub MayEndAsked : Status → Option Asked → Type 0
MayEndAsked status None = Unit {0}
MayEndAsked status (Some (Files work image script)) = MayEnd status work
MayEndAsked status (Some (OfNumbers numbers)) = MayEnd status (Made numbers)

-- Causes.

abbrev pub IsNothing : Blame → Type 0
IsNothing NothingOutside = Unit {0}
IsNothing _ = ⊥

-- nothing outside is to blame: the words, the files and the run determine the status
abbrev pub IsDetermined : Status → Type 0
IsDetermined status = IsNothing (meaning_of status).blame

abbrev pub AreNone : EventsRun → Type 0
AreNone NoEvents = Unit {0}
AreNone _ = ⊥

-- no event was run, and the line alone was printed
abbrev pub IsBeforeRun : Status → Type 0
IsBeforeRun status = AreNone (meaning_of status).events

-- what is blamed counted a fault: the counts of the shelf, the sink and the devices, before and after
abbrev pub HasCause : Blame → (shelf shelf' sink sink' : ℕ) → (devices devices' : List (Option ℕ)) → Type 0
HasCause NothingOutside shelf shelf' sink sink' devices devices' = Unit {0}
HasCause TheShelf shelf shelf' sink sink' devices devices' = Rose shelf shelf'
HasCause TheSink shelf shelf' sink sink' devices devices' = Rose sink sink'
HasCause (TheDevice device) shelf shelf' sink sink' devices devices' = Blames (Device device) devices devices'
HasCause WantOfMemory shelf shelf' sink sink' devices devices' = Unit {0}

-- all events were run, the text was wholly received, and nothing outside is to blame
pub record IsWhole (m : Meaning) : Type 0 where
  pub events : m.events ≡ AllEvents
  pub printed : m.printed ≡ WholeText
  pub blame : m.blame ≡ NothingOutside

-- How a job ends whose events were all run and whose last text is printed: by the status that it is to have, else for a fault
-- of the sink or for want of memory. The counts are those of the sink, before and after.
pub record EndsPrinting (wanted status : Status) (text : List ℕ) (old new : Option (List ℕ)) (refused : Type 0) (before now : ℕ) : Type 0 where
  pub exact : IsDetermined status → status ≡ wanted
  pub run : IsBeforeRun status → ⊥
  pub reached : (count : ℕ) → IsReached (meaning_of status).events count count
  pub not_refused : (count : ℕ) (bus : Bus) (job : Job) → IsRefusedAt (meaning_of status).events count bus job
  pub printed : Receives (meaning_of status).printed [] text (status_line status) old new refused
  pub cause : (shelf shelf' : ℕ) (devices devices' : List (Option ℕ)) → HasCause (meaning_of status).blame shelf shelf' before now devices devices'

-- What a part of the work answered is what is told of it: an error that is determined is that error.
abbrev pub IsAsTold : {A B : Type 0} → (A → B) → Result A Status → Result B Status → Type 0
IsAsTold view (Ok x) told = told ≡ Ok (view x)
IsAsTold view (Err status) told = IsDetermined status → told ≡ Err status

-- an error of reading the input: it is refused, there was no memory, or the shelf counted a fault
abbrev pub IsOfReading : Status → (before now : ℕ) → Type 0
IsOfReading (Input fault) before now = Unit {0}
IsOfReading (OutsideFault Read) before now = Rose before now
IsOfReading NoMemory before now = Unit {0}
IsOfReading _ before now = ⊥
