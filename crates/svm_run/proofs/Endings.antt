-- How the runs of a job end, by what ended them.
use Rattle.std.proofs.Common.{◌≡◌, ◌∙◌, ℕ, ◌+◌, ◌-◌, ◌≤◌, ◌<◌, ◌==◌, true, false, List, [], ◌++◌, Option, Some, None, Result, Ok, Err, IfSome, length, slice_get, take, ap, refl, sym, subst, arith, append_assoc, append-nil, inl, inr}
use Rattle.std.proofs.Math.Nat.{eq-or-lt_of_le}
use Rattle.std.proofs.Math.Seq.{take-length}
use Rattle.std.proofs.lemmas.Bool.Decides.{nat_tests}
use Rattle.byte_shelf.specs.Shelf.{Files}
use Rattle.byte_shelf.specs.Sink.{appended, IsCutShort}
use Rattle.byte_shelf.specs.declared.answers.SinkRefusal.TheVariants as sink
use Rattle.svm_model.specs.Machine.Bus.{Bus}
use Rattle.svm_model.specs.Formats.Image.{Image}
use Rattle.svm_model.specs.Formats.Script.{Script, events_of}
use Rattle.svm_model.specs.Formats.Text.{report}
use Rattle.svm_model.specs.Machine.Runs.{Led, plain_run}
use Rattle.svm_model.specs.Machine.World.{World, world_of}
use Rattle.svm_model.specs.declared.names.Event.{Event}
use Rattle.svm_model.specs.declared.names.RunEnd.TheVariants.{Device as FailedDevice, NoMemory as NoRoom}
use Rattle.svm_run.specs.Answers.{Ends, EndsPrinting, EndsRun, HandsOverIt, HasCause, IsBeforeRun, IsCutBehind, IsDetermined, IsOfReading, IsReached, Receives, ReceivesLine, ReceivesPart, StandsBehind}
use Rattle.svm_run.specs.Jobs.{Job, job, job_with_names}
use Rattle.svm_run.specs.Outcome.{Outcome, PrintsReport, completed, event_text, events_text, outcome_after, led_until, text_until, texts_of}
use Rattle.svm_run.specs.StatusLine.{status_line}
use Rattle.svm_run.specs.Statuses.{Blame, NothingOutside, TheShelf, TheSink, TheDevice, WantOfMemory, EventsRun, NoEvents, FirstEvents, NotAllEvents, EventsToLine, AllEvents, PartOfText, TextThenLine, PartThenLine, meaning, meaning_of}
use Rattle.svm_run.specs.Stops.{EndsEvents, IsCutAt, IsOfCounts, IsStoppedAt, status_of, text_at}
use Rattle.svm_run.specs.declared.running.RunFault.{RunFault}
use Rattle.svm_run.specs.declared.running.RunFault.TheVariants as fault
use Rattle.svm_run.specs.declared.status.Status.{Status}
use Rattle.svm_run.specs.declared.status.Status.TheVariants.{Done, Words, Input, Breach, OutsideFault, NoMemory, LeftProfile}
use Rattle.svm_run.specs.declared.status.OutsideFault.TheVariants.{Read, Write, Device}
use Rattle.svm_run.specs.Words.{Asked}
use Rattle.svm_run.specs.declared.words.Work.{Work}
use Rattle.svm_run.specs.declared.words.Work.TheVariants.{Run, Trace, Audit, Made}
use Rattle.svm_run.proofs.Events.{led, led_same, texts-grow, texts_next, texts_none}
use Rattle.svm_run.proofs.Received.{appended-nothing, appended-twice, at_once, because, behind_cut, behind_text, cut_after, cut_behind, part_after}
use Rattle.svm_run.proofs.Runs.{led-some, bus-none, bus-some, bus-all, events-completed, outcome-reported}

itself : (n : ℕ) → (n == n) ≡ true
itself n = grind (arith, nat_tests)

other : (m n : ℕ) → m < n → (m == n) ≡ false
other m n h = grind (arith, nat_tests)

-- the last text stands behind all events
pub text-done : (bus : Bus) (j : Job) → text_until (completed bus j).events bus j ≡ (completed bus j).text
unfolding text_until
text-done bus j = rw (itself (completed bus j).events) refl

-- before there are the texts of events alone
pub text-before : (count : ℕ) (bus : Bus) (j : Job) → count < (completed bus j).events → text_until count bus j ≡ events_text count bus j
unfolding text_until
text-before count bus j h = rw (other count (completed bus j).events h) refl

text-all : (work : Work) (told : PrintsReport work) (bus : Bus) (image : Image) (script : Script) → text_until (length (events_of image.cpus script)) bus (job work image script) ≡ (completed bus (job work image script)).text
text-all work told bus image script = ap (λ n. text_until n bus (job work image script)) (sym (events-completed work told bus image script)) ∙ text-done bus (job work image script)

-- where the bus is behind so many events of an audit
pub stands-audited : (events : EventsRun) (before : Bus) (l : Led) (next : Option Event) (after : Bus) → after ≡ l.bus → StandsBehind Audit events before l next after
stands-audited NoEvents before l next after h = h
stands-audited FirstEvents before l next after h = inl h
stands-audited NotAllEvents before l next after h = h
stands-audited EventsToLine before l next after h = h
stands-audited AllEvents before l next after h = h

-- of a job that prints a report
stands-behind : (work : Work) (told : PrintsReport work) (events : EventsRun) (before : Bus) (l : Led) (next : Option Event) (after : Bus) → after ≡ l.bus → StandsBehind work events before l next after
stands-behind Run told ran before l next after h = h
stands-behind Trace told ran before l next after h = h
stands-behind Audit told ran before l next after h = absurd told
stands-behind (Made numbers) told ran before l next after h = absurd told

-- where no event was done
pub stands-still : (work : Work) (events : EventsRun) (bus : Bus) (l : Led) (next : Option Event) → bus ≡ l.bus → StandsBehind work events bus l next bus
stands-still Run ran bus l next h = h
stands-still Trace ran bus l next h = h
stands-still Audit ran bus l next h = stands-audited ran bus l next bus h
stands-still (Made numbers) ran bus l next h = refl

-- of all events this is printed
whole-text : (work : Work) (told : PrintsReport work) (w v : World) (bus now : Bus) (image : Image) (script : Script) → w ≡ world_of image → v ≡ (plain_run w bus (events_of image.cpus script)).world → now ≡ (plain_run w bus (events_of image.cpus script)).bus →
    texts_of work w bus (events_of image.cpus script) ++ (outcome_after [] (led v now)).text ≡ text_until (length (events_of image.cpus script)) bus (job work image script)
unfolding completed outcome_after
whole-text work told w v bus now image script e f g =
    ap (λ (l : Led). texts_of work w bus (events_of image.cpus script) ++ report l.world l.bus) (led_same _ _ _ _ f g)
    ∙ ap (λ (u : World). texts_of work u bus (events_of image.cpus script) ++ report (plain_run u bus (events_of image.cpus script)).world (plain_run u bus (events_of image.cpus script)).bus) e
    ∙ ap (λ (o : Outcome). o.text) (sym (outcome-reported work (world_of image) bus (events_of image.cpus script) told)) ∙ sym (text-all work told bus image script)

-- the texts of so many events
texts-some : (work : Work) (w : World) (bus : Bus) (image : Image) (script : Script) (count : ℕ) → w ≡ world_of image → texts_of work w bus (take count (events_of image.cpus script)) ≡ events_text count bus (job work image script)
unfolding events_text
texts-some work w bus image script count e = ap (λ (u : World). texts_of work u bus (take count (events_of image.cpus script))) e

-- those before the last print no more
before-few : (work : Work) (w : World) (bus : Bus) (image : Image) (script : Script) (count : ℕ) → w ≡ world_of image →
    length (events_text (count - 1) bus (job work image script)) ≤ length (texts_of work w bus (take count (events_of image.cpus script)))
before-few work w bus image script count e =
    let P : List ℕ → Type 0 = λ front. length front ≤ length (texts_of work w bus (take count (events_of image.cpus script))) in
    subst P (texts-some work w bus image script (count - 1) e) (texts-grow work w bus (events_of image.cpus script) (count - 1) count (omega arith))

before-all : (work : Work) (w : World) (bus : Bus) (image : Image) (script : Script) → w ≡ world_of image →
    length (events_text (length (events_of image.cpus script) - 1) bus (job work image script)) ≤ length (texts_of work w bus (events_of image.cpus script))
before-all work w bus image script e =
    let P : List Event → Type 0 = λ es. length (events_text (length (events_of image.cpus script) - 1) bus (job work image script)) ≤ length (texts_of work w bus es) in
    subst P (take-length (events_of image.cpus script)) (before-few work w bus image script (length (events_of image.cpus script)) e)

before-none : (bus : Bus) (j : Job) → length (events_text 0 bus j) ≤ 0
unfolding events_text
before-none bus j = texts_none j.work (world_of j.image) bus (events_of j.image.cpus j.script)

-- there was no memory for the machine
pub ends-unstarted : (code : ℕ) (blame : Blame) (line : List ℕ) (j : Job) (bus : Bus) (old new : Option (List ℕ)) (r : Type 0) →
    ReceivesLine old new line r → EndsRun (meaning code FirstEvents PartThenLine blame) line j bus bus old new r
ends-unstarted code blame line j bus old new r h = record {
  count = 0;
  reached = omega arith;
  refused_at = tt;
  bus = stands-still j.work FirstEvents bus (led_until 0 bus j) (slice_get (events_of j.image.cpus j.script) 0) (bus-none bus j);
  printed = at_once old new (events_text 0 bus j) (text_until 0 bus j) line r (before-none bus j) h;
}

-- All events were run.

-- what was received of the report, behind the texts of the events
pub received-all : (status : Status) (old mid new : Option (List ℕ)) (before front text : List ℕ) (r s : Type 0) → (IsBeforeRun status → ⊥) → length before ≤ length front → mid ≡ appended old front → (r → s) →
    Receives (meaning_of status).printed [] text (status_line status) mid new r → Receives (meaning_of status).printed before (front ++ text) (status_line status) old new s
received-all Done old mid new before front text r s run few e cause h = h ∙ ap (λ (o : Option (List ℕ)). appended o text) e ∙ appended-twice old front text
received-all Words old mid new before front text r s run few e cause h = absurd (run tt)
received-all (Input fault) old mid new before front text r s run few e cause h = absurd (run tt)
received-all Breach old mid new before front text r s run few e cause h = h ∙ ap (λ (o : Option (List ℕ)). appended o text) e ∙ appended-twice old front text
received-all (OutsideFault Read) old mid new before front text r s run few e cause h = absurd (run tt)
received-all (OutsideFault Write) old mid new before front text r s run few e cause h =
    let P : Option (List ℕ) → Type 0 = λ o. IsCutBehind o new [] text in
    cut_after old new before front text few (subst P e h)
received-all (OutsideFault (Device device)) old mid new before front text r s run few e cause h =
    let P : Option (List ℕ) → Type 0 = λ o. ReceivesLine o new (status_line (OutsideFault (Device device))) s in
    subst P (ap (λ (o : Option (List ℕ)). appended o text) e ∙ appended-twice old front text)
    (because (appended mid text) new (status_line (OutsideFault (Device device))) r s cause h)
received-all NoMemory old mid new before front text r s run few e cause h =
    let P : Option (List ℕ) → Type 0 = λ o. ReceivesPart o new [] text (status_line NoMemory) r in
    part_after old new before front text (status_line NoMemory) r s few cause (subst P e h)
received-all LeftProfile old mid new before front text r s run few e cause h = h ∙ ap (λ (o : Option (List ℕ)). appended o text) e ∙ appended-twice old front text

pub ends-finished : (work : Work) (told : PrintsReport work) (status : Status) (w v : World) (bus now : Bus) (image : Image) (script : Script) (old mid new : Option (List ℕ)) (r s : Type 0) (k m : ℕ) →
    w ≡ world_of image → v ≡ (plain_run w bus (events_of image.cpus script)).world → now ≡ (plain_run w bus (events_of image.cpus script)).bus → mid ≡ appended old (texts_of work w bus (events_of image.cpus script)) → (r → s) →
    EndsPrinting (outcome_after [] (led v now)).status status (outcome_after [] (led v now)).text mid new r k m →
    EndsRun (meaning_of status) (status_line status) (job work image script) bus now old new s
ends-finished work told status w v bus now image script old mid new r s k m e f g texts cause last =
    let j = job work image script in
    let count = length (events_of image.cpus script) in
    let before = events_text (count - 1) bus j in
    let all = received-all status old mid new before (texts_of work w bus (events_of image.cpus script)) (outcome_after [] (led v now)).text r s last.run (before-all work w bus image script e) texts cause last.printed in
    record {
      count = count;
      reached =
          let P : ℕ → Type 0 = λ n. IsReached (meaning_of status).events count n in
          subst P (sym (events-completed work told bus image script)) (last.reached count);
      refused_at = last.not_refused count bus j;
      bus = stands-behind work told (meaning_of status).events bus (led_until count bus j) (slice_get (events_of image.cpus script) count) now (bus-all work w bus now image script e g);
      printed =
          let P : List ℕ → Type 0 = λ text. Receives (meaning_of status).printed before text (status_line status) old new s in
          subst P (whole-text work told w v bus now image script e f g) all;
    }

-- The run was ended before.

-- what was printed until a number of events that are not all
text-at : (work : Work) (told : PrintsReport work) (w : World) (bus : Bus) (image : Image) (script : Script) (count : ℕ) → w ≡ world_of image → count < length (events_of image.cpus script) →
    text_until count bus (job work image script) ≡ texts_of work w bus (take count (events_of image.cpus script))
text-at work told w bus image script count e h =
    text-before count bus (job work image script) (let all = events-completed work told bus image script in omega (arith, h, all)) ∙ sym (texts-some work w bus image script count e)

-- the bus refused what an event handed it
ends-refused : (work : Work) (told : PrintsReport work) (code : ℕ) (blame : Blame) (line : List ℕ) (w : World) (bus now : Bus) (image : Image) (script : Script) (old mid new : Option (List ℕ)) (r : Type 0) →
    w ≡ world_of image → IsCutAt work w (events_of image.cpus script) bus now old mid → ReceivesLine mid new line r →
    EndsRun (meaning code NotAllEvents TextThenLine blame) line (job work image script) bus now old new r
ends-refused work told code blame line w bus now image script old mid new r e cut h =
    let j = job work image script in
    let stop = cut.stopped in
    let there : now ≡ (led_until stop.count bus j).bus = bus-some work w bus now image script stop.count e stop.bus in
    record {
      count = stop.count;
      reached = (let all = events-completed work told bus image script in omega (arith, stop.short, all));
      refused_at =
          let P : World → Type 0 = λ u. HandsOverIt u (led_until stop.count bus j).bus (slice_get (events_of image.cpus script) stop.count) in
          let Q : Bus → Type 0 = λ b. HandsOverIt (plain_run w bus (take stop.count (events_of image.cpus script))).world b (slice_get (events_of image.cpus script) stop.count) in
          subst P (ap (λ (l : Led). l.world) (led-some work w bus image script stop.count e)) (subst Q there cut.refused);
      bus = stands-behind work told NotAllEvents bus (led_until stop.count bus j) (slice_get (events_of image.cpus script) stop.count) now there;
      printed =
          let P : Option (List ℕ) → Type 0 = λ o. ReceivesLine o new line r in
          subst P (stop.printed ∙ ap (appended old) (sym (text-at work told w bus image script stop.count e stop.short))) h;
    }

-- there was no memory for an event
ends-stopped : (work : Work) (told : PrintsReport work) (code : ℕ) (blame : Blame) (line : List ℕ) (w : World) (bus now : Bus) (image : Image) (script : Script) (old mid new : Option (List ℕ)) (r : Type 0) →
    w ≡ world_of image → IsStoppedAt work w (events_of image.cpus script) bus now old mid → ReceivesLine mid new line r →
    EndsRun (meaning code FirstEvents PartThenLine blame) line (job work image script) bus now old new r
ends-stopped work told code blame line w bus now image script old mid new r e stop h =
    let j = job work image script in
    let front = texts_of work w bus (take stop.count (events_of image.cpus script)) in
    record {
      count = stop.count;
      reached = (let all = events-completed work told bus image script in omega (arith, stop.short, all));
      refused_at = tt;
      bus = stands-behind work told FirstEvents bus (led_until stop.count bus j) (slice_get (events_of image.cpus script) stop.count) now (bus-some work w bus now image script stop.count e stop.bus);
      printed =
          let P : List ℕ → Type 0 = λ text. ReceivesPart old new (events_text (stop.count - 1) bus j) text line r in
          subst P (append-nil front ∙ sym (text-at work told w bus image script stop.count e stop.short))
          (behind_text old mid new (events_text (stop.count - 1) bus j) front [] line r (before-few work w bus image script stop.count e) stop.printed h);
    }

-- The sink refused what an event prints.

rest-all : (work : Work) (told : PrintsReport work) (w : World) (bus : Bus) (image : Image) (script : Script) (count : ℕ) → w ≡ world_of image → count ≡ length (events_of image.cpus script) →
    (rest : List ℕ) × (text_until count bus (job work image script) ≡ texts_of work w bus (take count (events_of image.cpus script)) ++ rest)
rest-all work told w bus image script count e same =
    let now = plain_run w bus (events_of image.cpus script) in
    let rest = (outcome_after [] (led now.world now.bus)).text in
    let whole : take count (events_of image.cpus script) ≡ events_of image.cpus script = ap (λ n. take n (events_of image.cpus script)) same ∙ take-length (events_of image.cpus script) in (
      rest,
      ap (λ n. text_until n bus (job work image script)) same ∙ sym (whole-text work told w now.world bus now.bus image script e refl refl)
          ∙ ap (λ es. texts_of work w bus es ++ rest) (sym whole),
    )

-- what stands behind the texts of so many events: nothing, or the report
rest-of : (work : Work) (told : PrintsReport work) (w : World) (bus : Bus) (image : Image) (script : Script) (count : ℕ) → w ≡ world_of image → count ≤ length (events_of image.cpus script) →
    (rest : List ℕ) × (text_until count bus (job work image script) ≡ texts_of work w bus (take count (events_of image.cpus script)) ++ rest)
rest-of work told w bus image script count e h =
    elim (eq-or-lt_of_le h) [ inl same ↦ rest-all work told w bus image script count e same | inr less ↦ ([], text-at work told w bus image script count e less ∙ sym (append-nil _)) ]

-- a number of events, and the one behind them that was not wholly printed
abbrev IsBehind : Work → World → Bus → Bus → Image → Script → ℕ → Option (List ℕ) → Option (List ℕ) → Option Event → Type 0
IsBehind work w bus now image script n old mid event =
    (n < length (events_of image.cpus script)) × (now ≡ (plain_run w bus (take (n + 1) (events_of image.cpus script))).bus)
    × IsCutShort (appended old (texts_of work w bus (take n (events_of image.cpus script)))) mid (text_at work (plain_run w bus (take n (events_of image.cpus script))) event)

-- the text that it was cut of
cut-text : (work : Work) (told : PrintsReport work) (w : World) (bus : Bus) (image : Image) (script : Script) (n : ℕ) (event : Event) → w ≡ world_of image → n < length (events_of image.cpus script) → slice_get (events_of image.cpus script) n ≡ Some event →
    (rest : List ℕ) × (text_until (n + 1) bus (job work image script) ≡ texts_of work w bus (take n (events_of image.cpus script)) ++ (event_text work (plain_run w bus (take n (events_of image.cpus script))).world (plain_run w bus (take n (events_of image.cpus script))).bus event ++ rest))
cut-text work told w bus image script n event e short there =
    let more = rest-of work told w bus image script (n + 1) e (omega (arith, short)) in (
      more.0,
      more.1 ∙ ap (λ front. front ++ more.0) (texts_next work w bus (events_of image.cpus script) n event there)
          ∙ append_assoc (texts_of work w bus (take n (events_of image.cpus script))) (event_text work (plain_run w bus (take n (events_of image.cpus script))).world (plain_run w bus (take n (events_of image.cpus script))).bus event) more.0,
    )

-- all that the events before it print
before-it : (work : Work) (w : World) (bus : Bus) (image : Image) (script : Script) (n : ℕ) → w ≡ world_of image →
    length (events_text (n + 1 - 1) bus (job work image script)) ≤ length (texts_of work w bus (take n (events_of image.cpus script)))
before-it work w bus image script n e =
    let same : n ≡ n + 1 - 1 = omega arith in
    let P : ℕ → Type 0 = λ m. length (events_text m bus (job work image script)) ≤ length (texts_of work w bus (take n (events_of image.cpus script))) in
    let Q : List ℕ → Type 0 = λ text. length text ≤ length (texts_of work w bus (take n (events_of image.cpus script))) in
    subst P same (subst Q (texts-some work w bus image script n e) (omega arith))

nothing-more : (mid new : Option (List ℕ)) (r : Type 0) → ReceivesLine mid new [] r → mid ≡ new
nothing-more mid new r h = elim h [ inl e ↦ sym (e ∙ appended-nothing mid) | inr p ↦ absurd (let short = p.0.short in omega (arith, short)) ]

-- the sink had a fault
ends-cut : (work : Work) (told : PrintsReport work) (code : ℕ) (blame : Blame) (w : World) (bus now : Bus) (image : Image) (script : Script) (n : ℕ) (old mid new : Option (List ℕ)) (event : Option Event) (r : Type 0) →
    w ≡ world_of image → slice_get (events_of image.cpus script) n ≡ event → IsBehind work w bus now image script n old mid event → ReceivesLine mid new [] r →
    EndsRun (meaning code EventsToLine PartOfText blame) [] (job work image script) bus now old new r
ends-cut work told code blame w bus now image script n old mid new None r e there cut h = absurd (let short = cut.2.short in omega (arith, short))
ends-cut work told code blame w bus now image script n old mid new (Some event) r e there cut h =
    let j = job work image script in
    let text = cut-text work told w bus image script n event e cut.0 there in
    let before = events_text (n + 1 - 1) bus j in
    record {
      count = n + 1;
      reached = (let all = events-completed work told bus image script in omega (arith, cut.0, all));
      refused_at = tt;
      bus = stands-behind work told EventsToLine bus (led_until (n + 1) bus j) (slice_get (events_of image.cpus script) (n + 1)) now (bus-some work w bus now image script (n + 1) e cut.1);
      printed =
          let P : List ℕ → Type 0 = λ t. IsCutBehind old new before t in
          let Q : Option (List ℕ) → Type 0 = λ o. IsCutShort (appended old (texts_of work w bus (take n (events_of image.cpus script)))) o (event_text work (plain_run w bus (take n (events_of image.cpus script))).world (plain_run w bus (take n (events_of image.cpus script))).bus event) in
          subst P (sym text.1)
          (cut_behind old new before _ _ text.0 (before-it work w bus image script n e) (subst Q (nothing-more mid new r h) cut.2));
    }

-- the sink had no memory
ends-full : (work : Work) (told : PrintsReport work) (code : ℕ) (blame : Blame) (line : List ℕ) (w : World) (bus now : Bus) (image : Image) (script : Script) (n : ℕ) (old mid new : Option (List ℕ)) (event : Option Event) (r : Type 0) →
    w ≡ world_of image → slice_get (events_of image.cpus script) n ≡ event → IsBehind work w bus now image script n old mid event → ReceivesLine mid new line r →
    EndsRun (meaning code FirstEvents PartThenLine blame) line (job work image script) bus now old new r
ends-full work told code blame line w bus now image script n old mid new None r e there cut h = absurd (let short = cut.2.short in omega (arith, short))
ends-full work told code blame line w bus now image script n old mid new (Some event) r e there cut h =
    let j = job work image script in
    let text = cut-text work told w bus image script n event e cut.0 there in
    let before = events_text (n + 1 - 1) bus j in
    record {
      count = n + 1;
      reached = (let all = events-completed work told bus image script in omega (arith, cut.0, all));
      refused_at = tt;
      bus = stands-behind work told FirstEvents bus (led_until (n + 1) bus j) (slice_get (events_of image.cpus script) (n + 1)) now (bus-some work w bus now image script (n + 1) e cut.1);
      printed =
          let P : List ℕ → Type 0 = λ t. ReceivesPart old new before t line r in
          subst P (sym text.1)
          (behind_cut old mid new before _ _ text.0 line r (before-it work w bus image script n e) cut.2 h);
    }

-- whatever ended the run before all was done
pub ends-early : (work : Work) (told : PrintsReport work) (fault : RunFault) (w : World) (bus now : Bus) (image : Image) (script : Script) (old mid new : Option (List ℕ)) (r s : Type 0) → w ≡ world_of image →
    EndsEvents work fault w (events_of image.cpus script) bus now old mid → (r → s) → ReceivesLine mid new (status_line (status_of fault)) r →
    EndsRun (meaning_of (status_of fault)) (status_line (status_of fault)) (job work image script) bus now old new s
ends-early work told fault.NoMemory w bus now image script old mid new r s e stop cause h = ends-stopped work told _ _ _ w bus now image script old mid new s e stop (because mid new _ r s cause h)
ends-early work told (fault.Bus (FailedDevice device)) w bus now image script old mid new r s e stop cause h = ends-refused work told _ _ _ w bus now image script old mid new s e stop (because mid new _ r s cause h)
ends-early work told (fault.Bus NoRoom) w bus now image script old mid new r s e stop cause h = ends-stopped work told _ _ _ w bus now image script old mid new s e stop.stopped (because mid new _ r s cause h)
ends-early work told (fault.Unprinted sink.Failed) w bus now image script old mid new r s e stop cause h =
    ends-cut work told _ _ w bus now image script stop.count old mid new (slice_get (events_of image.cpus script) stop.count) s e refl (stop.short, stop.bus, stop.printed) (because mid new _ r s cause h)
ends-early work told (fault.Unprinted sink.NoMemory) w bus now image script old mid new r s e stop cause h =
    ends-full work told _ _ _ w bus now image script stop.count old mid new (slice_get (events_of image.cpus script) stop.count) s e refl (stop.short, stop.bus, stop.printed) (because mid new _ r s cause h)

-- its status is not determined, comes of a run, and has a cause
pub undetermined : (fault : RunFault) → IsDetermined (status_of fault) → ⊥
undetermined fault.NoMemory h = h
undetermined (fault.Bus (FailedDevice device)) h = h
undetermined (fault.Bus NoRoom) h = h
undetermined (fault.Unprinted sink.Failed) h = h
undetermined (fault.Unprinted sink.NoMemory) h = h

pub started : (fault : RunFault) → IsBeforeRun (status_of fault) → ⊥
started fault.NoMemory h = h
started (fault.Bus (FailedDevice device)) h = h
started (fault.Bus NoRoom) h = h
started (fault.Unprinted sink.Failed) h = h
started (fault.Unprinted sink.NoMemory) h = h

pub caused : (fault : RunFault) (s t k l m : ℕ) (d e : List (Option ℕ)) → l ≤ m → IsOfCounts fault d e k l → HasCause (meaning_of (status_of fault)).blame s t k m d e
caused fault.NoMemory s t k l m d e less h = tt
caused (fault.Bus (FailedDevice device)) s t k l m d e less h = h
caused (fault.Bus NoRoom) s t k l m d e less h = tt
caused (fault.Unprinted sink.Failed) s t k l m d e less h = omega (arith, h, less)
caused (fault.Unprinted sink.NoMemory) s t k l m d e less h = tt

-- the status that is answered is the one whose line was printed
pub answered : (answer status : Status) (j : Job) (before after : Bus) (old new : Option (List ℕ)) (r : Type 0) → answer ≡ status →
    EndsRun (meaning_of status) (status_line status) j before after old new r → EndsRun (meaning_of answer) (status_line answer) j before after old new r
answered answer status j before after old new r e h =
    let P : Status → Type 0 = λ s. EndsRun (meaning_of s) (status_line s) j before after old new r in subst P (sym e) h

pub printed_by : (status : Status) (fault : RunFault) (old new : Option (List ℕ)) (r : Type 0) → status ≡ status_of fault → ReceivesLine old new (status_line status) r →
    ReceivesLine old new (status_line (status_of fault)) r
printed_by status fault old new r e h = let P : Status → Type 0 = λ s. ReceivesLine old new (status_line s) r in subst P e h

pub of_status : (P : Status → Type 0) (answer status : Status) → answer ≡ status → P answer → P status
of_status P answer status e h = subst P e h

pub cause_of : (answer status : Status) (s t k m : ℕ) (d e : List (Option ℕ)) → answer ≡ status → HasCause (meaning_of status).blame s t k m d e → HasCause (meaning_of answer).blame s t k m d e
cause_of answer status s t k m d e same h = let P : Status → Type 0 = λ x. HasCause (meaning_of x).blame s t k m d e in subst P (sym same) h

-- a cause in a part of the call is one in all of it
pub cause_later : (blame : Blame) (s t k l m : ℕ) (d e : List (Option ℕ)) → k ≤ l → HasCause blame s t l m d e → HasCause blame s t k m d e
cause_later NothingOutside s t k l m d e less h = tt
cause_later TheShelf s t k l m d e less h = h
cause_later TheSink s t k l m d e less h = omega (arith, h, less)
cause_later (TheDevice device) s t k l m d e less h = h
cause_later WantOfMemory s t k l m d e less h = tt

-- Before a run.

unmoved : (j : Job) (bus : Bus) → StandsBehind j.work NoEvents bus (led_until 0 bus j) (slice_get (events_of j.image.cpus j.script) 0) bus
unmoved j bus = stands-still j.work NoEvents bus (led_until 0 bus j) (slice_get (events_of j.image.cpus j.script) 0) (bus-none bus j)

unread : (status : Status) (j : Job) (s t : ℕ) (bus : Bus) (old new : Option (List ℕ)) (r : Type 0) → IsOfReading status s t →
    ReceivesLine old new (status_line status) r → Ends status (Ok j) bus bus old new r
unread Done j s t bus old new r h k = absurd h
unread Words j s t bus old new r h k = absurd h
unread (Input fault) j s t bus old new r h k = record { count = 0; reached = refl; refused_at = tt; bus = unmoved j bus; printed = k }
unread Breach j s t bus old new r h k = absurd h
unread (OutsideFault Read) j s t bus old new r h k = record { count = 0; reached = refl; refused_at = tt; bus = unmoved j bus; printed = k }
unread (OutsideFault Write) j s t bus old new r h k = absurd h
unread (OutsideFault (Device device)) j s t bus old new r h k = absurd h
unread NoMemory j s t bus old new r h k = ends-unstarted _ _ _ j bus old new r k
unread LeftProfile j s t bus old new r h k = absurd h

untold : (status told : Status) (s t : ℕ) (bus : Bus) (old new : Option (List ℕ)) (r : Type 0) → IsOfReading status s t →
    ReceivesLine old new (status_line status) r → Ends status (Err told) bus bus old new r
untold Done told s t bus old new r h k = absurd h
untold Words told s t bus old new r h k = absurd h
untold (Input fault) told s t bus old new r h k = record { events = tt; bus = refl; printed = k }
untold Breach told s t bus old new r h k = absurd h
untold (OutsideFault Read) told s t bus old new r h k = record { events = tt; bus = refl; printed = k }
untold (OutsideFault Write) told s t bus old new r h k = absurd h
untold (OutsideFault (Device device)) told s t bus old new r h k = absurd h
untold NoMemory told s t bus old new r h k = record { events = tt; bus = refl; printed = at_once old new [] [] _ r (omega arith) k }
untold LeftProfile told s t bus old new r h k = absurd h

ends-by : (told : Result Job Status) (status : Status) (s t : ℕ) (bus : Bus) (old new : Option (List ℕ)) (r : Type 0) → IsOfReading status s t →
    ReceivesLine old new (status_line status) r → Ends status told bus bus old new r
ends-by (Ok j) status s t bus old new r h k = unread status j s t bus old new r h k
ends-by (Err told) status s t bus old new r h k = untold status told s t bus old new r h k

-- the input could not be read, or is refused
pub ends-unread : (files : Option Files) (names : Option Asked) (answer status : Status) (s t : ℕ) (bus : Bus) (old new : Option (List ℕ)) (r : Type 0) →
    answer ≡ status → IsOfReading status s t → ReceivesLine old new (status_line status) r →
    IfSome files (λ _. Ends answer (job_with_names files names) bus bus old new r)
ends-unread None names answer status s t bus old new r e h k = tt
ends-unread (Some told) names answer status s t bus old new r e h k =
    let P : Status → Type 0 = λ a. Ends a (job_with_names (Some told) names) bus bus old new r in
    subst P (sym e) (ends-by (job_with_names (Some told) names) status s t bus old new r h k)
