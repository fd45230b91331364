-- What each status means, one line a status: the program's exit code; which events of the run are behind the bus; what the
-- sink received; and what is to blame for it. The events of a run and of a trace are those of the script; those of an audit
-- end with that of the first breach.
use Rattle.std.specs.Prelude.{ℕ}
use Rattle.svm_run.specs.declared.status.Status.{Status}
use Rattle.svm_run.specs.declared.status.Status.TheVariants.{Done, Words, Input, Breach, OutsideFault, NoMemory, LeftProfile}
use Rattle.svm_run.specs.declared.status.OutsideFault.TheVariants.{Read, Write, Device}

pub data EventsRun : Type 0 where
  -- none, and the bus is as it was
  NoEvents : EventsRun
  -- so many of the first, maybe none or all
  FirstEvents : EventsRun
  -- so many of the first, and not all: the next one was refused
  NotAllEvents : EventsRun
  -- so many of the first, up to the one whose line was not wholly received; or all, where the report was not
  EventsToLine : EventsRun
  -- all that the job runs
  AllEvents : EventsRun

-- What was printed. The text is that of the events that were run; the line is that of the status, or a part of it where
-- the sink refused. A part of the text is a first part, and has all that the events before the last print.
pub data Printed : Type 0 where
  WholeText : Printed
  -- a part of the text, and not all of it
  PartOfText : Printed
  TextThenLine : Printed
  -- a part of the text, maybe all of it, and then the line
  PartThenLine : Printed
  LineAlone : Printed

pub data Blame : Type 0 where
  -- nothing: the words, the files and the run determine the status
  NothingOutside : Blame
  -- the count of faults of the shelf, the sink, or that device rose
  TheShelf : Blame
  TheSink : Blame
  TheDevice : (device : ℕ) → Blame
  -- there was no memory, which no count tells
  WantOfMemory : Blame

pub record Meaning : Type 0 where
  pub code : ℕ
  pub events : EventsRun
  pub printed : Printed
  pub blame : Blame

abbrev pub meaning : ℕ → EventsRun → Printed → Blame → Meaning
meaning code events printed blame = record { code = code; events = events; printed = printed; blame = blame }

abbrev pub meaning_of : Status → Meaning
meaning_of Done = meaning 0 AllEvents WholeText NothingOutside
meaning_of Words = meaning 1 NoEvents LineAlone NothingOutside
meaning_of (Input fault) = meaning 2 NoEvents LineAlone NothingOutside
meaning_of Breach = meaning 3 AllEvents WholeText NothingOutside
meaning_of (OutsideFault Read) = meaning 4 NoEvents LineAlone TheShelf
meaning_of (OutsideFault Write) = meaning 4 EventsToLine PartOfText TheSink
meaning_of (OutsideFault (Device device)) = meaning 4 NotAllEvents TextThenLine (TheDevice device)
meaning_of NoMemory = meaning 5 FirstEvents PartThenLine WantOfMemory
meaning_of LeftProfile = meaning 6 AllEvents WholeText NothingOutside
