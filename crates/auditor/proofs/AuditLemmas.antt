-- The audit of first events, and what is left of it.
use Rattle.std.proofs.Common.{◌≡◌, ◌∙◌, ℕ, zero, suc, ◌+◌, ◌≤◌, List, [], ◌∷◌, ◌++◌, Option, Some, None, length, take, drop, slice_get, add-one, ap, append_assoc, append-nil, arith, refl, subst, sym}
use Rattle.std.proofs.lemmas.List.{take-append-drop, take_all}
use Rattle.std.proofs.lemmas.Option.{slice_get_within}
use Rattle.svm_model.specs.Audit.Breaches.{Known, nothing_known}
use Rattle.svm_model.specs.Audit.Verdicts.{Audited, audit_of, audited, ended_by, verdict_of}
use Rattle.svm_model.specs.Machine.Bus.{Bus}
use Rattle.svm_model.specs.Machine.Events.{plain_event}
use Rattle.svm_model.specs.Machine.Runs.{Led, plain_run}
use Rattle.svm_model.specs.Machine.World.{World}
use Rattle.svm_model.specs.declared.audits.Breach.{Breach}
use Rattle.svm_model.specs.declared.audits.Verdict.TheVariants.{Breach as Broken, Keeps}
use Rattle.svm_model.specs.declared.names.Event.{Event}
use Rattle.svm_model.specs.declared.names.RunEnd.{RunEnd}
use Rattle.svm_model.specs.declared.names.VcpuId.{VcpuId}
use Rattle.auditor.specs.CutOffs.{IsCutAt, IsCutOff}
use Rattle.auditor.specs.Steps.{breach_at, known_at}
use Rattle.auditor.proofs.LengthLemmas.{goes_on}

run_more : (w : World) (bus : Bus) (events : List Event) (event : Event) (led : Led) → plain_run w bus events ≡ led
    → plain_run w bus (events ++ event ∷ []) ≡ record { world = (plain_event led.world led.bus event).world; bus = (plain_event led.world led.bus event).bus }
run_more w bus [] event led h = ap (λ (l : Led). plain_run l.world l.bus (event ∷ [])) h
run_more w bus (e ∷ events) event led h = run_more (plain_event w bus e).world (plain_event w bus e).bus events event led h

taken-suc : {A : Type 0} (xs : List A) (n : ℕ) (x : A) → slice_get xs n ≡ Some x → take (suc n) xs ≡ take n xs ++ x ∷ []
taken-suc [] n x h = absurd (cc)
taken-suc (y ∷ xs) zero x h = let same : y ≡ x = cc in ap (λ z. z ∷ []) same
taken-suc (y ∷ xs) (suc n) x h = ap (λ zs. y ∷ zs) (taken-suc xs n x h)

taken-next : {A : Type 0} (xs : List A) (n : ℕ) (x : A) → slice_get xs n ≡ Some x → take (n + 1) xs ≡ take n xs ++ x ∷ []
taken-next xs n x h = ap (λ k. take k xs) (add-one n) ∙ taken-suc xs n x h

split-next : {A : Type 0} (xs : List A) (n : ℕ) (x : A) → slice_get xs n ≡ Some x → xs ≡ take n xs ++ x ∷ drop (n + 1) xs
split-next xs n x h =
    sym (take-append-drop (n + 1) xs) ∙ ap (λ zs. zs ++ drop (n + 1) xs) (taken-next xs n x h) ∙ append_assoc (take n xs) (x ∷ []) (drop (n + 1) xs)

-- one event, and what is left behind it
ended : (known : VcpuId → Known) (w : World) (bus : Bus) (event : Event) (left : List Event) (found : Option Breach) → found ≡ breach_at known w bus event
    → audited known w bus (event ∷ left) ≡ ended_by found (plain_event w bus event) (audited (known_at known w bus event) (plain_event w bus event).world (plain_event w bus event).bus left)
ended known w bus event left found is =
    ap (λ o. ended_by o (plain_event w bus event) (audited (known_at known w bus event) (plain_event w bus event).world (plain_event w bus event).bus left)) (sym is)

module _ (w : World) (bus : Bus) where
  -- These events kept the rules: they led to this world and bus, and this may have been kept of each vcpu behind them. What is
  -- left of an audit goes on from there.
  pub record AreKept (done : List Event) (known : VcpuId → Known) (v : World) (now : Bus) : Type 0 where
    pub led : plain_run w bus done ≡ record { world = v; bus = now }
    pub audit : (left : List Event) → audit_of w bus (done ++ left) ≡ audited known v now left

  pub none_kept : AreKept [] (λ vcpu. nothing_known) w bus
  unfolding audit_of
  none_kept = record { led = refl; audit = λ left. refl }

  -- these events alone
  kept_alone : (done : List Event) (known : VcpuId → Known) (v : World) (now : Bus) → AreKept done known v now → audit_of w bus done ≡ record { world = v; bus = now; breach = None }
  kept_alone done known v now kept = ap (audit_of w bus) (sym (append-nil done)) ∙ kept.audit []

  module _ (events : List Event) (n : ℕ) (known : VcpuId → Known) (v : World) (now : Bus) (kept : AreKept (take n events) known v now) where
    -- where they are all, there is no breach
    kept_all : length events ≡ n → audit_of w bus events ≡ record { world = v; bus = now; breach = None }
    kept_all whole = ap (audit_of w bus) (sym (take_all n events (omega arith))) ∙ kept_alone (take n events) known v now kept

    pub kept_verdict : (count : ℕ) → length events ≡ n → Keeps count ≡ verdict_of count (audit_of w bus events).breach
    kept_verdict count whole = ap (λ (a : Audited). verdict_of count a.breach) (sym (kept_all whole))

    pub kept_bus : length events ≡ n → now ≡ (audit_of w bus events).bus
    kept_bus whole = ap (λ (a : Audited). a.bus) (sym (kept_all whole))

    -- all of them were audited
    pub kept_count : length events ≡ n → v.event ≡ n → n ≤ (audit_of w bus events).world.event
    kept_count whole number = let count = ap (λ (a : Audited). a.world.event) (kept_all whole) in omega (arith, count, number)

    module _ (event : Event) (next : Option Event) (got : next ≡ slice_get events n) (is : next ≡ Some event) where
      there : slice_get events n ≡ Some event
      there = sym got ∙ is

      -- an audit comes to one event more
      pub next_counts : w.event ≡ 0 → n + 1 ≤ (audit_of w bus events).world.event
      unfolding audit_of
      next_counts first =
          let more = goes_on (λ vcpu. nothing_known) w bus events n (slice_get_within events n event there) (ap (λ (a : Audited). a.breach) (kept_alone (take n events) known v now kept)) in
          omega (arith, first, more)

      -- one event more that has no breach
      pub kept_next : (found : Option Breach) (u : World) (new : Bus) → found ≡ breach_at known v now event → found ≡ None
          → u ≡ (plain_event v now event).world → new ≡ (plain_event v now event).bus → AreKept (take (n + 1) events) (known_at known v now event) u new
      kept_next found u new right none world bus_is = record {
        led =
            ap (plain_run w bus) (taken-next events n event there) ∙ run_more w bus (take n events) event _ kept.led
            ∙ sym (λ i. record { world = world i; bus = bus_is i });
        audit = λ left.
            ap (λ es. audit_of w bus (es ++ left)) (taken-next events n event there) ∙ ap (audit_of w bus) (append_assoc (take n events) (event ∷ []) left)
            ∙ kept.audit (event ∷ left) ∙ ended known v now event left None (sym none ∙ right)
            ∙ sym (λ i. audited (known_at known v now event) (world i) (bus_is i) left);
      }

      -- an event with a breach is where the audit ends
      module _ (found : Option Breach) (breach : Breach) (right : found ≡ breach_at known v now event) (some : found ≡ Some breach) where
        broken : audit_of w bus events ≡ record { world = (plain_event v now event).world; bus = (plain_event v now event).bus; breach = Some breach }
        broken =
            ap (audit_of w bus) (split-next events n event there) ∙ kept.audit (event ∷ drop (n + 1) events)
            ∙ ended known v now event (drop (n + 1) events) (Some breach) (sym some ∙ right)

        pub broken_verdict : (count : ℕ) → Broken breach ≡ verdict_of count (audit_of w bus events).breach
        broken_verdict count = ap (λ (a : Audited). verdict_of count a.breach) (sym broken)

        pub broken_bus : (new : Bus) → new ≡ (plain_event v now event).bus → new ≡ (audit_of w bus events).bus
        broken_bus new is = is ∙ ap (λ (a : Audited). a.bus) (sym broken)

      -- an event that is cut off cuts off the audit
      pub cut_here : (end : RunEnd) (new : Bus) → IsCutAt end v now event new → IsCutOff end w bus events new
      cut_here end new cut = record {
        count = n;
        keeps = ap (λ (a : Audited). a.breach) (kept_alone (take n events) known v now kept);
        event = event;
        next = there;
        cut = subst (λ (l : Led). IsCutAt end l.world l.bus event new) (sym kept.led) cut;
      }
