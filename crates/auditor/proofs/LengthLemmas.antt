-- How many events an audit comes to.
use Rattle.std.proofs.Common.{◌≡◌, ◌∙◌, ℕ, zero, suc, ◌+◌, ◌≤◌, ◌<◌, List, [], ◌∷◌, Option, Some, None, length, take, ap, arith, refl}
use Rattle.svm_model.specs.Audit.Breaches.{Known}
use Rattle.svm_model.specs.Audit.Verdicts.{Audited, audited, ended_by}
use Rattle.svm_model.specs.Machine.Bus.{Bus}
use Rattle.svm_model.specs.Machine.Events.{Happened, plain_event}
use Rattle.svm_model.specs.Machine.Runs.{plain_run}
use Rattle.svm_model.specs.Machine.World.{World}
use Rattle.svm_model.specs.declared.audits.Breach.{Breach}
use Rattle.svm_model.specs.declared.names.Event.{Event}
use Rattle.svm_model.specs.declared.names.VcpuId.{VcpuId}
use Rattle.svm_model.proofs.WorldLemmas.{run-counted}
use Rattle.auditor.specs.Steps.{breach_at, known_at}

one_counted : (w : World) (bus : Bus) (event : Event) → (plain_event w bus event).world.event ≡ w.event + 1
one_counted w bus event = run-counted w bus (event ∷ [])

-- whether an event ends the audit or not, it comes so far
so_far : (found : Option Breach) (happened : Happened) (rest : Audited) (n : ℕ) → n ≤ happened.world.event → n ≤ rest.world.event → n ≤ (ended_by found happened rest).world.event
so_far None happened rest n h k = k
so_far (Some breach) happened rest n h k = h

not_back : (known : VcpuId → Known) (w : World) (bus : Bus) (events : List Event) → w.event ≤ (audited known w bus events).world.event
not_back known w bus [] = omega arith
not_back known w bus (event ∷ events) =
    let one = one_counted w bus event in
    so_far (breach_at known w bus event) (plain_event w bus event) (audited (known_at known w bus event) (plain_event w bus event).world (plain_event w bus event).bus events) w.event (omega (arith, one))
    (omega (arith, one, not_back (known_at known w bus event) (plain_event w bus event).world (plain_event w bus event).bus events))

-- an event did not end the audit of fewer events, and so not that of more
kept_on : (found : Option Breach) (happened : Happened) (fewer rest : Audited) (n : ℕ) → (ended_by found happened fewer).breach ≡ None → (fewer.breach ≡ None → n ≤ rest.world.event) → n ≤ (ended_by found happened rest).world.event
kept_on None happened fewer rest n kept on = on kept
kept_on (Some breach) happened fewer rest n kept on = absurd (cc)

-- where first events keep the rules, an audit comes to the one behind them
pub goes_on : (known : VcpuId → Known) (w : World) (bus : Bus) (events : List Event) (n : ℕ) → n < length events → (audited known w bus (take n events)).breach ≡ None → w.event + n + 1 ≤ (audited known w bus events).world.event
goes_on known w bus [] n few kept = absurd (omega (arith, few))
goes_on known w bus (event ∷ events) zero few kept =
    let one = one_counted w bus event in
    so_far (breach_at known w bus event) (plain_event w bus event) (audited (known_at known w bus event) (plain_event w bus event).world (plain_event w bus event).bus events) (w.event + zero + 1) (omega (arith, one))
    (omega (arith, one, not_back (known_at known w bus event) (plain_event w bus event).world (plain_event w bus event).bus events))
goes_on known w bus (event ∷ events) (suc n) few kept =
    let rest = goes_on (known_at known w bus event) (plain_event w bus event).world (plain_event w bus event).bus events n (omega (arith, few)) in
    kept_on (breach_at known w bus event) (plain_event w bus event) (audited (known_at known w bus event) (plain_event w bus event).world (plain_event w bus event).bus (take n events))
    (audited (known_at known w bus event) (plain_event w bus event).world (plain_event w bus event).bus events) (w.event + suc n + 1) kept
    (λ none. omega (arith, one_counted w bus event, rest none))

-- An audit leads where the run of its first events does.
pub record IsLed (w : World) (bus : Bus) (events : List Event) (a : Audited) : Type 0 where
  pub count : ℕ
  pub few : count ≤ length events
  pub number : a.world.event ≡ w.event + count
  pub led : plain_run w bus (take count events) ≡ record { world = a.world; bus = a.bus }

led_by : (found : Option Breach) (w : World) (bus : Bus) (event : Event) (events : List Event) (rest : Audited) → IsLed (plain_event w bus event).world (plain_event w bus event).bus events rest →
    IsLed w bus (event ∷ events) (ended_by found (plain_event w bus event) rest)
led_by None w bus event events rest h = record {
  count = suc h.count;
  few = omega (arith, h.few);
  number = omega (arith, h.number, one_counted w bus event);
  led = h.led;
}
led_by (Some breach) w bus event events rest h = record {
  count = 1;
  few = omega arith;
  number = one_counted w bus event;
  led = refl;
}

pub is_led : (known : VcpuId → Known) (w : World) (bus : Bus) (events : List Event) → IsLed w bus events (audited known w bus events)
is_led known w bus [] = record { count = 0; few = omega arith; number = omega arith; led = refl }
is_led known w bus (event ∷ events) =
    led_by (breach_at known w bus event) w bus event events (audited (known_at known w bus event) (plain_event w bus event).world (plain_event w bus event).bus events)
    (is_led (known_at known w bus event) (plain_event w bus event).world (plain_event w bus event).bus events)
