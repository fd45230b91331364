-- Where a run of events stood that ended early: which of them the bus is behind, and what of their lines was received.
use Rattle.std.specs.Prelude.{◌≡◌, ◌<◌, ◌≤◌, ◌*◌, ◌+◌, ℕ, List, [], Option, Some, None, length, slice_get, take}
use Rattle.byte_shelf.specs.Sink.{appended, IsCutShort}
use Rattle.byte_shelf.specs.declared.answers.SinkRefusal.{SinkRefusal}
use Rattle.byte_shelf.specs.declared.answers.SinkRefusal.TheVariants as sink
use Rattle.fault_counts.specs.Causes.{Rose}
use Rattle.svm_model.specs.Machine.Bus.{Bus as BusRecord}
use Rattle.svm_model.specs.Machine.Events.{plain_event}
use Rattle.svm_model.specs.Machine.Runs.{Led, HandsOver, plain_run}
use Rattle.svm_model.specs.Machine.World.{World}
use Rattle.svm_model.specs.declared.names.Event.{Event}
use Rattle.svm_model.specs.declared.names.RunEnd.TheVariants.{Device, NoMemory as WantOfMemory}
use Rattle.port_bus.specs.Causes.{Blames}
use Rattle.svm_run.specs.Answers.{HandsOverIt}
use Rattle.svm_run.specs.Outcome.{event_text, texts_of}
use Rattle.svm_run.specs.declared.running.RunFault.{RunFault}
use Rattle.svm_run.specs.declared.running.RunFault.TheVariants.{NoMemory, Bus, Unprinted}
use Rattle.svm_run.specs.declared.status.Status.{Status}
use Rattle.svm_run.specs.Words.{Asked, Files as NamedFiles, Made as OfNumbers}
use Rattle.svm_run.specs.declared.words.Work.{Work}
use Rattle.svm_run.specs.declared.words.Work.TheVariants.{Run, Trace, Audit, Made}
use Rattle.svm_run.specs.declared.status.Status.TheVariants as status
use Rattle.svm_run.specs.declared.status.OutsideFault.TheVariants as outside

-- One event, in the world and on the bus that it finds.

-- it was not done, and nothing of it was printed
pub record IsUndone (before after : BusRecord) (old new : Option (List ℕ)) : Type 0 where
  pub bus : after ≡ before
  pub printed : new ≡ old

-- so it was, since the bus refused what it handed over
pub record IsRefused (world : World) (event : Event) (before after : BusRecord) (old new : Option (List ℕ)) : Type 0 where
  pub undone : IsUndone before after old new
  pub call : ℕ
  pub hands_over : HandsOver call world before event

-- it was done, and what it prints was not wholly received
pub record IsUnprinted (work : Work) (world : World) (event : Event) (before after : BusRecord) (old new : Option (List ℕ)) : Type 0 where
  pub bus : after ≡ (plain_event world before event).bus
  pub printed : IsCutShort old new (event_text work world before event)

abbrev pub EndsEvent : Work → RunFault → World → Event → (before after : BusRecord) → (old new : Option (List ℕ)) → Type 0
EndsEvent work NoMemory world event before after old new = IsUndone before after old new
EndsEvent work (Bus end) world event before after old new = IsRefused world event before after old new
EndsEvent work (Unprinted refusal) world event before after old new = IsUnprinted work world event before after old new

-- A list of events.

-- what the event prints, where there is one
abbrev pub text_at : Work → Led → Option Event → List ℕ
text_at work led None = []
text_at work led (Some event) = event_text work led.world led.bus event

-- it was run up to one that was not done: the bus is behind so many of the first, and what these print was received
pub record IsStoppedAt (work : Work) (world : World) (events : List Event) (before after : BusRecord) (old new : Option (List ℕ)) : Type 0 where
  pub count : ℕ
  pub short : count < length events
  pub bus : after ≡ (plain_run world before (take count events)).bus
  pub printed : new ≡ appended old (texts_of work world before (take count events))

-- so it was, and the next event, which was refused, hands something to the bus
pub record IsCutAt (work : Work) (world : World) (events : List Event) (before after : BusRecord) (old new : Option (List ℕ)) : Type 0 where
  pub stopped : IsStoppedAt work world events before after old new
  pub refused : HandsOverIt (plain_run world before (take stopped.count events)).world after (slice_get events stopped.count)

-- it was run up to one whose text was not wholly received: the bus is behind that one too
pub record IsUnprintedAt (work : Work) (world : World) (events : List Event) (before after : BusRecord) (old new : Option (List ℕ)) : Type 0 where
  pub count : ℕ
  pub short : count < length events
  pub bus : after ≡ (plain_run world before (take (count + 1) events)).bus
  pub printed : IsCutShort (appended old (texts_of work world before (take count events))) new
      (text_at work (plain_run world before (take count events)) (slice_get events count))

abbrev pub EndsEvents : Work → RunFault → World → List Event → (before after : BusRecord) → (old new : Option (List ℕ)) → Type 0
EndsEvents work NoMemory world events before after old new = IsStoppedAt work world events before after old new
EndsEvents work (Bus end) world events before after old new = IsCutAt work world events before after old new
EndsEvents work (Unprinted refusal) world events before after old new = IsUnprintedAt work world events before after old new

-- How the program ends.

abbrev pub status_of : RunFault → Status
status_of NoMemory = status.NoMemory
status_of (Bus (Device device)) = status.OutsideFault (outside.Device device)
status_of (Bus WantOfMemory) = status.NoMemory
status_of (Unprinted sink.Failed) = status.OutsideFault outside.Write
status_of (Unprinted sink.NoMemory) = status.NoMemory

-- Causes: the counts of the devices and of the sink, before and after.

abbrev pub IsOfSink : SinkRefusal → (before now : ℕ) → Type 0
IsOfSink sink.Failed before now = Rose before now
IsOfSink sink.NoMemory before now = Unit {0}

-- a device or a sink that is blamed counted a fault
abbrev pub IsOfCounts : RunFault → (devices devices' : List (Option ℕ)) → (sink sink' : ℕ) → Type 0
IsOfCounts NoMemory devices devices' before now = Unit {0}
IsOfCounts (Bus end) devices devices' before now = Blames end devices devices'
IsOfCounts (Unprinted refusal) devices devices' before now = IsOfSink refusal before now

-- How many reads of guests' memories are counted, from one number to another, in so many events. A traced run reads the pages
-- that it compares besides, and has no bound; generated input is run twice, once to be audited.
abbrev pub AreRead : Work → (old new events : ℕ) → Type 0
AreRead Run old new events = (old ≤ new) × (new ≤ old + 6368 * events)
AreRead Trace old new events = old ≤ new
AreRead Audit old new events = (old ≤ new) × (new ≤ old + 6368 * events)
AreRead (Made numbers) old new events = (old ≤ new) × (new ≤ old + 2 * (6368 * events))

-- by what the words ask for; none without words that ask for something
abbrev pub AreReadFor : Option Asked → (old new events : ℕ) → Type 0
AreReadFor None old new events = new ≡ old
AreReadFor (Some (NamedFiles work image script)) old new events = AreRead work old new events
AreReadFor (Some (OfNumbers numbers)) old new events = AreRead (Made numbers) old new events
