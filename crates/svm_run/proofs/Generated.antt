-- How generated input ends.
use Rattle.std.proofs.Common.{◌≡◌, ◌∙◌, ℕ, ◌+◌, ◌*◌, ◌-◌, ◌≤◌, List, [], ◌∷◌, Option, Some, None, Result, Ok, Err, IfErr, OnOk, length, slice_get, take, ap, refl, sym, subst, arith}
use Rattle.byte_shelf.specs.Sink.{appended}
use Rattle.svm_model.specs.Audit.Breaches.{nothing_known}
use Rattle.svm_model.specs.Audit.Verdicts.{audit_of, verdict_of}
use Rattle.svm_model.specs.Formats.Image.{Image}
use Rattle.svm_model.specs.Formats.Script.{Script, events_of}
use Rattle.svm_model.specs.Machine.Bus.{Bus}
use Rattle.svm_model.specs.Machine.Events.{plain_event}
use Rattle.svm_model.specs.Machine.Runs.{Led, plain_run}
use Rattle.svm_model.specs.Machine.World.{World, world_of}
use Rattle.svm_model.specs.declared.audits.Verdict.{Verdict}
use Rattle.svm_model.specs.declared.names.Event.{Event}
use Rattle.svm_model.specs.declared.ports.PortWrite.{PortWrite}
use Rattle.svm_model.proofs.WorldLemmas.{run-counted}
use Rattle.auditor.proofs.LengthLemmas.{is_led}
use Rattle.svm_run.specs.Answers.{EndsPrinting, EndsRun, Receives, ReceivesLine}
use Rattle.svm_run.specs.Jobs.{Job, job}
use Rattle.svm_run.specs.Outcome.{Outcome, completed, events_text, no_devices, outcome_summed, status_made, texts_of, verdict_behind}
use Rattle.svm_run.specs.StatusLine.{status_line}
use Rattle.svm_run.specs.Statuses.{meaning_of}
use Rattle.svm_run.specs.Stops.{AreRead, EndsEvents, text_at}
use Rattle.svm_run.specs.Summary.{summary}
use Rattle.svm_run.specs.declared.running.RunFault.{RunFault}
use Rattle.svm_run.specs.declared.running.RunFault.TheVariants as fault
use Rattle.svm_run.specs.declared.status.Status.{Status}
use Rattle.svm_run.specs.declared.status.Status.TheVariants.{NoMemory}
use Rattle.svm_run.specs.declared.words.Numbers.{Numbers}
use Rattle.svm_run.specs.declared.words.Work.TheVariants.{Audit, Made}
use Rattle.svm_run.proofs.Audits.{nothing-told}
use Rattle.svm_run.proofs.NoDeviceLemmas.{bare}
use Rattle.svm_run.proofs.Endings.{ends-unstarted, received-all, text-done}
use Rattle.svm_run.proofs.Received.{appended-nothing, because}
use Rattle.svm_run.proofs.Runs.{starts-at-0}

-- A run that tells nothing prints nothing.

pub silent : (w : World) (bus : Bus) (events : List Event) (old mid : Option (List ℕ)) → mid ≡ appended old (texts_of Audit w bus events) → mid ≡ old
silent w bus events old mid h = h ∙ ap (appended old) (nothing-told w bus events) ∙ appended-nothing old

no_text : (l : Led) (event : Option Event) → text_at Audit l event ≡ []
no_text l None = refl
no_text l (Some event) = refl

-- also where it ends early
pub still-silent : (end : RunFault) (w : World) (events : List Event) (bus now : Bus) (old mid : Option (List ℕ)) → EndsEvents Audit end w events bus now old mid → mid ≡ old
still-silent fault.NoMemory w events bus now old mid h = silent w bus (take h.count events) old mid h.printed
still-silent (fault.Bus end) w events bus now old mid h = silent w bus (take h.stopped.count events) old mid h.stopped.printed
still-silent (fault.Unprinted refusal) w events bus now old mid h =
    let cut = h.printed in
    let none = ap (λ (text : List ℕ). length text) (no_text (plain_run w bus (take h.count events)) (slice_get events h.count)) in
    let short = cut.short in
    absurd (omega (arith, none, short))

-- whether it ends early or not
pub quiet-run : {A : Type 0} (r : Result A RunFault) (w : World) (events : List Event) (bus now : Bus) (old mid : Option (List ℕ)) → OnOk r (mid ≡ appended old (texts_of Audit w bus events)) →
    IfErr r (λ end. EndsEvents Audit end w events bus now old mid) → mid ≡ old
quiet-run (Ok x) w events bus now old mid h k = silent w bus events old mid h
quiet-run (Err end) w events bus now old mid h k = still-silent end w events bus now old mid k

pub starts-bare : (output : List PortWrite) → output ≡ [] → bare output ≡ no_devices
starts-bare output e = ap bare e

module _ (numbers : Numbers) (bus : Bus) (image : Image) (script : Script) where
  abbrev it : Job
  it = job (Made numbers) image script

  abbrev events : List Event
  events = events_of image.cpus script

  -- no event prints anything
  untold : (w : World) (b : Bus) (es : List Event) → texts_of (Made numbers) w b es ≡ []
  unfolding texts_of
  untold w b [] = refl
  untold w b (event ∷ es) = untold (plain_event w b event).world (plain_event w b event).bus es

  nothing-before : (count : ℕ) → length (events_text count bus it) ≤ 0
  unfolding events_text
  nothing-before count = let none = ap (λ (text : List ℕ). length text) (untold (world_of image) bus (take count events)) in omega (arith, none)

  -- what the run led to and the verdict on it are those of the outcome
  outcome-made : (v : World) (verdict : Verdict) → v ≡ (plain_run (world_of image) no_devices events).world →
      verdict ≡ verdict_behind (world_of image) (plain_run (world_of image) no_devices events).bus events →
      (completed bus it) ≡ record { status = status_made v.guests verdict; text = summary numbers v verdict; events = v.event; bus = bus }
  unfolding completed outcome_summed
  outcome-made v verdict e f = rw (e, f) refl

  pub status-completed : (v : World) (verdict : Verdict) → v ≡ (plain_run (world_of image) no_devices events).world →
      verdict ≡ verdict_behind (world_of image) (plain_run (world_of image) no_devices events).bus events → status_made v.guests verdict ≡ (completed bus it).status
  status-completed v verdict e f = sym (ap (λ (o : Outcome). o.status) (outcome-made v verdict e f))

  -- where the code's run led to, and the verdict behind it
  pub world-made : (m : World) (b : Bus) (n : ℕ) (v : World) → m ≡ world_of image → b ≡ no_devices → n ≡ image.cpus → v ≡ (plain_run m b (events_of n script)).world → v ≡ (plain_run (world_of image) no_devices events).world
  world-made m b n v e f s h =
      h ∙ ap (λ k. (plain_run m b (events_of k script)).world) s ∙ ap (λ u. (plain_run u b events).world) e ∙ ap (λ x. (plain_run (world_of image) x events).world) f

  pub bus-made : (m : World) (b : Bus) (n : ℕ) (v : Bus) → m ≡ world_of image → b ≡ no_devices → n ≡ image.cpus → v ≡ (plain_run m b (events_of n script)).bus → v ≡ (plain_run (world_of image) no_devices events).bus
  bus-made m b n v e f s h =
      h ∙ ap (λ k. (plain_run m b (events_of k script)).bus) s ∙ ap (λ u. (plain_run u b events).bus) e ∙ ap (λ x. (plain_run (world_of image) x events).bus) f

  pub verdict-made : (verdict : Verdict) (b : Bus) (count : ℕ) → length events ≡ count → b ≡ (plain_run (world_of image) no_devices events).bus → verdict ≡ verdict_of count (audit_of (world_of image) b events).breach →
      verdict ≡ verdict_behind (world_of image) (plain_run (world_of image) no_devices events).bus events
  verdict-made verdict b count whole e h =
      h ∙ ap (λ k. verdict_of k (audit_of (world_of image) b events).breach) (sym whole) ∙ ap (λ x. verdict_of (length events) (audit_of (world_of image) x events).breach) e

  -- the summary was printed
  pub ends-summed : (status : Status) (v : World) (verdict : Verdict) (old mid new : Option (List ℕ)) (r s : Type 0) (k m : ℕ) → mid ≡ old → (r → s) → v ≡ (plain_run (world_of image) no_devices events).world →
      verdict ≡ verdict_behind (world_of image) (plain_run (world_of image) no_devices events).bus events →
      EndsPrinting (status_made v.guests verdict) status (summary numbers v verdict) mid new r k m → EndsRun (meaning_of status) (status_line status) it bus bus old new s
  ends-summed status v verdict old mid new r s k m same cause e f last =
      let all = (completed bus it).events in
      let before = events_text (all - 1) bus it in
      record {
        count = all;
        reached = last.reached all;
        refused_at = last.not_refused all bus it;
        bus = refl;
        printed =
            let P : List ℕ → Type 0 = λ text. Receives (meaning_of status).printed before text (status_line status) old new s in
            subst P (sym (ap (λ (o : Outcome). o.text) (outcome-made v verdict e f)) ∙ sym (text-done bus it))
            (received-all status old mid new before [] (summary numbers v verdict) r s last.run (nothing-before (all - 1)) (same ∙ sym (appended-nothing old)) cause last.printed);
      }

  -- there was no memory for it
  pub ends-wanting : (status : Status) (old mid new : Option (List ℕ)) (r s : Type 0) → status ≡ NoMemory → mid ≡ old → (r → s) → ReceivesLine mid new (status_line NoMemory) r →
      EndsRun (meaning_of status) (status_line status) it bus bus old new s
  ends-wanting status old mid new r s e same cause h =
      let P : Status → Type 0 = λ x. EndsRun (meaning_of x) (status_line x) it bus bus old new s in
      let Q : Option (List ℕ) → Type 0 = λ o. ReceivesLine o new (status_line NoMemory) s in
      subst P (sym e) (ends-unstarted _ _ _ it bus old new s (subst Q same (because mid new (status_line NoMemory) r s cause h)))

  -- The reads of the run and of the audit.

  run-events : (completed bus it).events ≡ length events
  unfolding completed outcome_summed
  run-events = let counted = run-counted (world_of image) no_devices events in let first = starts-at-0 image in omega (arith, counted, first)

  audited-few : (b : Bus) → (audit_of (world_of image) b events).world.event ≤ length events
  unfolding audit_of
  audited-few b =
      let led = is_led (λ vcpu. nothing_known) (world_of image) b events in
      let number = led.number in
      let within = led.few in
      let first = starts-at-0 image in
      omega (arith, number, within, first)

  pub reads-run : (old mid : ℕ) → length events ≡ script.events → AreRead Audit old mid script.events → AreRead (Made numbers) old mid (completed bus it).events
  reads-run old mid whole h = let all = run-events in (h.0, omega (arith, h.1, all, whole))

  pub reads-both : (old mid new : ℕ) (b : Bus) → length events ≡ script.events → AreRead Audit old mid script.events → mid ≤ new → new ≤ mid + 6368 * (audit_of (world_of image) b events).world.event →
      AreRead (Made numbers) old new (completed bus it).events
  reads-both old mid new b whole h later few =
      let all = run-events in
      let less = audited-few b in
      (omega (arith, h.0, later), omega (arith, h.1, all, whole, few, less))

  pub reads-most : (old mid new most : ℕ) (b : Bus) → length events ≡ script.events → script.events ≤ most → AreRead Audit old mid script.events → mid ≤ new → new ≤ mid + 6368 * (audit_of (world_of image) b events).world.event →
      AreRead (Made numbers) old new most
  reads-most old mid new most b whole all h later few =
      let less = audited-few b in
      (omega (arith, h.0, later), omega (arith, h.1, all, whole, few, less))
