-- Where a run of events stood that ended early.
use Rattle.std.proofs.Common.{◌≡◌, ◌∙◌, ℕ, ◌+◌, ◌*◌, ◌≤◌, Bool, true, false, List, Option, Some, take, slice_get, ap, sym, refl, subst, arith}
use Rattle.std.proofs.lemmas.Option.{slice_get_within}
use Rattle.byte_shelf.specs.Sink.{appended, IsCutShort}
use Rattle.byte_shelf.specs.declared.answers.SinkRefusal.TheVariants as sink
use Rattle.svm_model.specs.Machine.Bus.{Bus as BusRecord}
use Rattle.svm_model.specs.Machine.Runs.{Led, plain_run}
use Rattle.svm_model.specs.Machine.World.{World}
use Rattle.svm_model.specs.declared.names.Event.{Event}
use Rattle.port_bus.specs.Causes.{NoneFell}
use Rattle.port_bus.proofs.Counts.{blames-then}
use Rattle.svm_run.specs.Answers.{HandsOverIt}
use Rattle.svm_run.specs.Outcome.{texts_of}
use Rattle.svm_run.specs.Stops.{AreRead, EndsEvent, EndsEvents, IsOfCounts, IsStoppedAt, IsUndone, text_at}
use Rattle.svm_run.specs.declared.running.RunFault.{RunFault}
use Rattle.svm_run.specs.declared.words.Work.{Work}
use Rattle.svm_run.specs.declared.words.Work.TheVariants.{Run, Trace, Audit, Made}
use Rattle.svm_run.specs.declared.running.RunFault.TheVariants.{NoMemory, Bus, Unprinted}
use Rattle.svm_run.proofs.Events.{led, led_next}

-- a turn reads memory, or a dump, and never both
pub reads-few : (run : Bool) (old mid new : ℕ) → mid ≤ old + 256 → (run ≡ true → mid ≡ old) → new ≤ mid + 6368 → (run ≡ false → new ≡ mid) → new ≤ old + 6368 * 1
reads-few true old mid new h still k quiet = omega (arith, still refl, k)
reads-few false old mid new h still k quiet = omega (arith, h, quiet refl)

-- an event that was not done is the first that was not
stopped : (work : Work) (w : World) (bus mid new : BusRecord) (events : List Event) (n : ℕ) (event : Event) (l : Led) (a b c : Option (List ℕ)) → plain_run w bus (take n events) ≡ l → mid ≡ l.bus →
    slice_get events n ≡ Some event → b ≡ appended a (texts_of work w bus (take n events)) → IsUndone mid new b c → IsStoppedAt work w events bus new a c
stopped work w bus mid new events n event l a b c h on there before undone = record {
  count = n;
  short = slice_get_within events n event there;
  bus = undone.bus ∙ on ∙ sym (ap (λ (x : Led). x.bus) h);
  printed = undone.printed ∙ before;
}

-- the event that ended one is where the list ends
pub ends-here : (work : Work) (fault : RunFault) (w v : World) (bus mid new : BusRecord) (events : List Event) (n : ℕ) (event : Event) (a b c : Option (List ℕ)) →
    plain_run w bus (take n events) ≡ led v mid → slice_get events n ≡ Some event → b ≡ appended a (texts_of work w bus (take n events)) → EndsEvent work fault v event mid new b c → EndsEvents work fault w events bus new a c
unfolding stopped
ends-here work NoMemory w v bus mid new events n event a b c h there before ends = stopped work w bus mid new events n event (led v mid) a b c h refl there before ends
ends-here work (Bus end) w v bus mid new events n event a b c h there before ends = record {
  stopped = stopped work w bus mid new events n event (led v mid) a b c h refl there before ends.undone;
  refused =
      let P : World → Type 0 = λ u. HandsOverIt u new (slice_get events n) in
      let Q : Option Event → Type 0 = λ o. HandsOverIt v new o in
      let R : BusRecord → Type 0 = λ x. HandsOverIt v x (Some event) in
      subst P (sym (ap (λ (x : Led). x.world) h)) (subst Q (sym there) (subst R (sym ends.undone.bus) (ends.call, ends.hands_over)));
}
ends-here work (Unprinted refusal) w v bus mid new events n event a b c h there before ends = record {
  count = n;
  short = slice_get_within events n event there;
  bus = ends.bus ∙ sym (ap (λ (x : Led). x.bus) (led_next w bus events n event (led v mid) h there));
  printed =
      let P : Option (List ℕ) → Type 0 = λ o. IsCutShort o c (text_at work (plain_run w bus (take n events)) (slice_get events n)) in
      let Q : Led → Type 0 = λ l. IsCutShort b c (text_at work l (slice_get events n)) in
      let R : Option Event → Type 0 = λ o. IsCutShort b c (text_at work (led v mid) o) in
      subst P before (subst Q (sym h) (subst R (sym there) ends.printed));
}

-- its cause is one of the whole run
pub caused-later : (fault : RunFault) (d e f : List (Option ℕ)) (k l m : ℕ) → NoneFell d e → k ≤ l → IsOfCounts fault e f l m → IsOfCounts fault d f k m
caused-later NoMemory d e f k l m none less cause = tt
caused-later (Bus end) d e f k l m none less cause = blames-then end d e f none cause
caused-later (Unprinted sink.Failed) d e f k l m none less cause = omega (arith, cause, less)
caused-later (Unprinted sink.NoMemory) d e f k l m none less cause = tt

-- the reads of one event more
pub read_none : (work : Work) (n : ℕ) → AreRead work n n 0
read_none Run n = (omega arith, omega arith)
read_none Trace n = omega arith
read_none Audit n = (omega arith, omega arith)
read_none (Made numbers) n = (omega arith, omega arith)

pub read_next : (work : Work) (old mid new events : ℕ) → AreRead work old mid events → AreRead work mid new 1 → AreRead work old new (events + 1)
read_next Run old mid new events h k = (omega (arith, h.0, k.0), omega (arith, h.1, k.1))
read_next Trace old mid new events h k = omega (arith, h, k)
read_next Audit old mid new events h k = (omega (arith, h.0, k.0), omega (arith, h.1, k.1))
read_next (Made numbers) old mid new events h k = (omega (arith, h.0, k.0), omega (arith, h.1, k.1))

-- fewer events are no more reads
pub read_most : (work : Work) (old new events most : ℕ) → events ≤ most → AreRead work old new events → AreRead work old new most
read_most Run old new events most few h = (h.0, omega (arith, few, h.1))
read_most Trace old new events most few h = h
read_most Audit old new events most few h = (h.0, omega (arith, few, h.1))
read_most (Made numbers) old new events most few h = (h.0, omega (arith, few, h.1))

pub read_still : (work : Work) (old new events : ℕ) → new ≡ old → AreRead work old new events
read_still Run old new events e = (omega (arith, e), omega (arith, e))
read_still Trace old new events e = omega (arith, e)
read_still Audit old new events e = (omega (arith, e), omega (arith, e))
read_still (Made numbers) old new events e = (omega (arith, e), omega (arith, e))

pub ruleset stops = (reads-few, read_none, read_still, read_most)
