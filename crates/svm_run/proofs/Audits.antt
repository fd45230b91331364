-- How an audit ends.
use Rattle.std.proofs.Common.{◌≡◌, ◌∙◌, ℕ, ◌+◌, ◌*◌, ◌-◌, ◌≤◌, ◌<◌, List, [], ◌∷◌, Option, length, slice_get, take, ap, refl, sym, subst, arith, inl, inr}
use Rattle.std.proofs.lemmas.Option.{slice_get_within}
use Rattle.byte_shelf.specs.Sink.{appended}
use Rattle.svm_model.specs.Audit.Breaches.{nothing_known}
use Rattle.svm_model.specs.Audit.Verdicts.{audit_of, verdict_of}
use Rattle.svm_model.specs.Formats.Image.{Image}
use Rattle.svm_model.specs.Formats.Script.{Script, events_of}
use Rattle.svm_model.specs.Formats.VerdictText.{verdict_text}
use Rattle.svm_model.specs.Machine.Bus.{Bus}
use Rattle.svm_model.specs.Machine.Events.{plain_event}
use Rattle.svm_model.specs.Machine.Runs.{Led, HandsOver, plain_run}
use Rattle.svm_model.specs.Machine.World.{World, world_of}
use Rattle.svm_model.specs.declared.names.Event.{Event}
use Rattle.svm_model.specs.declared.names.RunEnd.{RunEnd}
use Rattle.svm_model.specs.declared.names.RunEnd.TheVariants.{Device as FailedDevice, NoMemory as NoRoom}
use Rattle.auditor.specs.CutOffs.{EndsEarly, IsCutAt, IsCutOff}
use Rattle.auditor.proofs.LengthLemmas.{goes_on, is_led}
use Rattle.svm_run.specs.Answers.{EndsPrinting, EndsRun, HandsOverIt, IsWithin, Receives, ReceivesLine}
use Rattle.svm_run.specs.Jobs.{Job, job}
use Rattle.svm_run.specs.Outcome.{completed, events_text, led_until, outcome_audited, status_by, text_until, texts_of}
use Rattle.svm_run.specs.StatusLine.{status_line}
use Rattle.svm_run.specs.Statuses.{meaning_of}
use Rattle.svm_run.specs.Stops.{AreRead, status_of}
use Rattle.svm_run.specs.declared.running.RunFault.TheVariants as fault
use Rattle.svm_run.specs.declared.status.Status.{Status}
use Rattle.svm_run.specs.declared.words.Work.TheVariants.{Audit}
use Rattle.svm_run.proofs.Endings.{ends-unstarted, received-all, stands-audited, text-before, text-done}
use Rattle.svm_run.proofs.Received.{appended-nothing, at_once}
use Rattle.svm_run.proofs.Runs.{starts-at-0}

-- no event prints anything
pub nothing-told : (w : World) (bus : Bus) (events : List Event) → texts_of Audit w bus events ≡ []
unfolding texts_of
nothing-told w bus [] = refl
nothing-told w bus (event ∷ events) = nothing-told (plain_event w bus event).world (plain_event w bus event).bus events

module _ (bus : Bus) (image : Image) (script : Script) where
  abbrev it : Job
  it = job Audit image script

  abbrev events : List Event
  events = events_of image.cpus script

  nothing-printed : (count : ℕ) → events_text count bus it ≡ []
  unfolding events_text
  nothing-printed count = nothing-told (world_of image) bus (take count events)

  nothing-before : (count : ℕ) → length (events_text count bus it) ≤ 0
  nothing-before count = let none = ap (λ (text : List ℕ). length text) (nothing-printed count) in omega (arith, none)

  -- nothing is printed before the verdict
  silent-until : (count : ℕ) → count < (completed bus it).events → text_until count bus it ≡ []
  silent-until count few = text-before count bus it few ∙ nothing-printed count

  -- where the audit leads
  bus-audited : (now : Bus) → now ≡ (audit_of (world_of image) bus events).bus → now ≡ (led_until (completed bus it).events bus it).bus
  unfolding completed outcome_audited audit_of led_until
  bus-audited now h =
      let led = is_led (λ vcpu. nothing_known) (world_of image) bus events in
      let number = led.number in
      let first = starts-at-0 image in
      let count : led.count ≡ (audit_of (world_of image) bus events).world.event = omega (arith, number, first) in
      h ∙ ap (λ (l : Led). l.bus) (sym led.led) ∙ ap (λ n. (plain_run (world_of image) bus (take n events)).bus) count

  -- its status and its text are those of the verdict
  pub status-audited : (count : ℕ) → length events ≡ count → status_by (verdict_of count (audit_of (world_of image) bus events).breach) ≡ (completed bus it).status
  unfolding completed outcome_audited
  status-audited count whole = ap (λ n. status_by (verdict_of n (audit_of (world_of image) bus events).breach)) (sym whole)

  text-audited : (count : ℕ) → length events ≡ count → verdict_text (verdict_of count (audit_of (world_of image) bus events).breach) ≡ (completed bus it).text
  unfolding completed outcome_audited
  text-audited count whole = ap (λ n. verdict_text (verdict_of n (audit_of (world_of image) bus events).breach)) (sym whole)

  -- the verdict was printed
  pub ends-audited : (wanted status : Status) (now : Bus) (old new : Option (List ℕ)) (r : Type 0) (k m count : ℕ) → length events ≡ count → now ≡ (audit_of (world_of image) bus events).bus →
      EndsPrinting wanted status (verdict_text (verdict_of count (audit_of (world_of image) bus events).breach)) old new r k m → EndsRun (meaning_of status) (status_line status) it bus now old new r
  ends-audited wanted status now old new r k m count whole h last =
      let all = (completed bus it).events in
      let text = verdict_text (verdict_of count (audit_of (world_of image) bus events).breach) in
      let before = events_text (all - 1) bus it in
      record {
        count = all;
        reached = last.reached all;
        refused_at = last.not_refused all bus it;
        bus = stands-audited (meaning_of status).events bus (led_until all bus it) (slice_get events all) now (bus-audited now h);
        printed =
            let P : List ℕ → Type 0 = λ text. Receives (meaning_of status).printed before text (status_line status) old new r in
            subst P (text-audited count whole ∙ sym (text-done bus it))
            (received-all status old old new before [] text r r last.run (nothing-before (all - 1)) (sym (appended-nothing old)) (λ rose. rose) last.printed);
      }

  -- The audit ended early.

  module _ (end : RunEnd) (now : Bus) (cut : IsCutOff end (world_of image) bus events now) where
    cut-short : cut.count < (completed bus it).events
    unfolding completed outcome_audited audit_of
    cut-short =
        let more = goes_on (λ vcpu. nothing_known) (world_of image) bus events cut.count (slice_get_within events cut.count cut.event cut.next) cut.keeps in
        let first = starts-at-0 image in
        omega (arith, more, first)

    cut-led : plain_run (world_of image) bus (take cut.count events) ≡ led_until cut.count bus it
    unfolding led_until
    cut-led = refl

    cut-at : IsCutAt end (led_until cut.count bus it).world (led_until cut.count bus it).bus cut.event now
    cut-at = let P : Led → Type 0 = λ l. IsCutAt end l.world l.bus cut.event now in subst P cut-led cut.cut

    cut-line : (old new : Option (List ℕ)) (line : List ℕ) (r : Type 0) → ReceivesLine old new line r → ReceivesLine (appended old (text_until cut.count bus it)) new line r
    cut-line old new line r h =
        let P : Option (List ℕ) → Type 0 = λ o. ReceivesLine o new line r in
        subst P (sym (ap (appended old) (silent-until cut.count cut-short) ∙ appended-nothing old)) h

  -- a device refused what an event handed it
  ends-failed : (device : ℕ) (now : Bus) (old new : Option (List ℕ)) (line : List ℕ) (r : Type 0) → IsCutOff (FailedDevice device) (world_of image) bus events now → ReceivesLine old new line r →
      EndsRun (meaning_of (status_of (fault.Bus (FailedDevice device)))) line it bus now old new r
  ends-failed device now old new line r cut h =
      let at = cut-at (FailedDevice device) now cut in
      let l = led_until cut.count bus it in
      let handed : HandsOver at.call l.world l.bus cut.event × (now ≡ l.bus) = elim at.cause [ inl p ↦ p | inr p ↦ absurd (cc) ] in
      record {
        count = cut.count;
        reached = cut-short (FailedDevice device) now cut;
        refused_at =
            let P : Option Event → Type 0 = λ o. HandsOverIt l.world l.bus o in
            subst P (sym cut.next) (at.call, handed.0);
        bus = handed.1;
        printed = cut-line (FailedDevice device) now cut old new line r h;
      }

  -- there was no memory for what an event tells, or hands over
  ends-starved : (now : Bus) (old new : Option (List ℕ)) (line : List ℕ) (r : Type 0) → IsCutOff NoRoom (world_of image) bus events now → ReceivesLine old new line r →
      EndsRun (meaning_of (status_of (fault.Bus NoRoom))) line it bus now old new r
  ends-starved now old new line r cut h =
      let at = cut-at NoRoom now cut in
      let l = led_until cut.count bus it in
      record {
        count = cut.count;
        reached = (let short = cut-short NoRoom now cut in omega (arith, short));
        refused_at = tt;
        bus = elim at.cause [
          | inl p ↦ inl p.1
          | inr p ↦ inr (let P : Option Event → Type 0 = λ o. IsWithin l o now in subst P (sym cut.next) (at.call, p.0, at.reached))
        ];
        printed = at_once old new (events_text (cut.count - 1) bus it) (text_until cut.count bus it) line r (nothing-before (cut.count - 1)) h;
      }

  pub ends-unaudited : (end : RunEnd) (now : Bus) (old new : Option (List ℕ)) (r : Type 0) → EndsEarly end (world_of image) bus events now → ReceivesLine old new (status_line (status_of (fault.Bus end))) r →
      EndsRun (meaning_of (status_of (fault.Bus end))) (status_line (status_of (fault.Bus end))) it bus now old new r
  ends-unaudited (FailedDevice device) now old new r early h = ends-failed device now old new _ r early h
  ends-unaudited NoRoom now old new r early h =
      elim early [
        | inl same ↦ (let P : Bus → Type 0 = λ b. EndsRun (meaning_of (status_of (fault.Bus NoRoom))) (status_line (status_of (fault.Bus NoRoom))) it bus b old new r in subst P (sym same) (ends-unstarted _ _ _ it bus old new r h))
        | inr cut ↦ ends-starved now old new _ r cut h
      ]

  -- the reads of its events, of which there are no more than the script has
  pub reads-audited : (old new : ℕ) → old ≤ new → new ≤ old + 6368 * (audit_of (world_of image) bus events).world.event → AreRead Audit old new (completed bus it).events
  unfolding completed outcome_audited
  reads-audited old new later few = (later, few)

  pub reads-at-most : (old new most : ℕ) → length events ≤ most → old ≤ new → new ≤ old + 6368 * (audit_of (world_of image) bus events).world.event → AreRead Audit old new most
  unfolding audit_of
  reads-at-most old new most less later few =
      let led = is_led (λ vcpu. nothing_known) (world_of image) bus events in
      let number = led.number in
      let within = led.few in
      let first = starts-at-0 image in
      (later, omega (arith, few, number, within, first, less))
