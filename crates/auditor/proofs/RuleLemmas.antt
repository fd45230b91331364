-- What the calls of an event make of rules without a breach.
use Rattle.std.proofs.Common.{◌≡◌, ◌∙◌, ℕ, ◌==◌, ◌&&◌, Bool, true, false, List, [], ◌∷◌, Option, Some, None, if◌then◌else◌, ap, arith, refl, subst, sym}
use Rattle.svm_model.specs.Audit.Breaches.{Known, known_after_all}
use Rattle.svm_model.specs.Audit.Verdicts.{breach_by, known_behind}
use Rattle.svm_model.specs.Audit.WatchCalls.{Notice, Rules, event_notices, known_with, notices, rules_after, rules_after_all, told_notices}
use Rattle.svm_model.specs.Machine.Bus.{Bus}
use Rattle.svm_model.specs.Machine.Events.{is_vcpu, plain_event}
use Rattle.svm_model.specs.Machine.World.{World}
use Rattle.svm_model.specs.Turn.Course.{Told}
use Rattle.svm_model.specs.declared.audits.Breach.{Breach}
use Rattle.svm_model.specs.declared.audits.TurnId.{TurnId}
use Rattle.svm_model.specs.declared.names.Event.{Event}
use Rattle.svm_model.specs.declared.names.VcpuId.{VcpuId}
use Rattle.svm_model.proofs.FirstBreachLemmas.{first_of_turn, known_after_turn, others_after_turn}
use Rattle.rule_memory.specs.Stands.{Keeps, Stands}
use Rattle.rule_memory.specs.declared.memory.RuleMemory.{RuleMemory}
use Rattle.watch.specs.Leads.{Leads}
use Rattle.auditor.specs.Steps.{IsAudited, breach_at, kept_so_far, known_at, turn_at}

both : (a b : Bool) → (a && b) ≡ true → (a ≡ true) × (b ≡ true)
both true b e = (refl, e)
both false b e = grind (arith, e)

same_number : (a b : ℕ) → (a == b) ≡ true → a ≡ b
same_number a b e = grind (arith, e)

same_vcpu : (a b : VcpuId) → is_vcpu a b ≡ true → a ≡ b
same_vcpu a b e =
    let is = both (a.guest.0 == b.guest.0) (a.index == b.index) e in
    let guest = same_number a.guest.0 b.guest.0 is.0 in
    let index = same_number a.index b.index is.1 in
    λ i. record { guest = record { 0 = guest i }; index = index i }

-- what is known of each vcpu behind a turn
known_by : (turn : TurnId) (told : List Told) (rules : Rules) (id : VcpuId) (b : Bool) → is_vcpu id turn.vcpu ≡ b
    → (rules_after_all (notices turn told) rules).known id ≡ (if b then known_after_all told (rules.known turn.vcpu) else rules.known id)
known_by turn told rules id true e = ap (rules_after_all (notices turn told) rules).known (same_vcpu id turn.vcpu e) ∙ known_after_turn turn told rules (rules.known turn.vcpu) refl
known_by turn told rules id false e = others_after_turn turn told rules id e

known_is : (turn : TurnId) (told : List Told) (rules : Rules) → (rules_after_all (notices turn told) rules).known ≡ known_with turn.vcpu (known_after_all told (rules.known turn.vcpu)) rules.known
known_is turn told rules = λ i id. known_by turn told rules id (is_vcpu id turn.vcpu) refl i

-- the first breach, and what is known, behind the calls of an event
first_by_turn : (turn : Option TurnId) (told : List Told) (known : VcpuId → Known) → (rules_after_all (told_notices turn told) (kept_so_far known)).first ≡ breach_by turn told known
first_by_turn None told known = refl
first_by_turn (Some turn) told known = first_of_turn turn told (kept_so_far known) refl

known_by_turn : (turn : Option TurnId) (told : List Told) (known : VcpuId → Known) → (rules_after_all (told_notices turn told) (kept_so_far known)).known ≡ known_behind turn told known
known_by_turn None told known = refl
known_by_turn (Some turn) told known = known_is turn told (kept_so_far known)

-- calls lead from what stands to what stands
leads_stand : (calls : List Notice) (old new : RuleMemory) (rules : Rules) → Leads Keeps old calls new → Stands old rules → Stands new (rules_after_all calls rules)
leads_stand [] old new rules h stands = subst (λ m. Stands m rules) h stands
leads_stand (call ∷ calls) old new rules h stands = leads_stand calls h.0 new (rules_after call rules) h.2 (h.1 rules stands)

module _ (old new : RuleMemory) (w : World) (bus : Bus) (event : Event) (told : Leads Keeps old (event_notices w bus event) new) where
  abbrev behind : (VcpuId → Known) → Rules
  behind known = rules_after_all (told_notices (turn_at w bus event) (plain_event w bus event).told) (kept_so_far known)

  stands_behind : (known : VcpuId → Known) → Stands old (kept_so_far known) → Stands new (behind known)
  unfolding event_notices
  stands_behind known stands = leads_stand (event_notices w bus event) old new (kept_so_far known) told stands

  stands_on : (known : VcpuId → Known) → Stands old (kept_so_far known) → breach_at known w bus event ≡ None → Stands new (kept_so_far (known_at known w bus event))
  stands_on known stands none =
      let first = first_by_turn (turn_at w bus event) (plain_event w bus event).told known ∙ none in
      let same = known_by_turn (turn_at w bus event) (plain_event w bus event).told known in
      subst (λ (r : Rules). Stands new r) (λ i. record { known = same i; first = first i }) (stands_behind known stands)

  -- the breach that the memory tells is that of the event
  pub is_audited : (found : Option Breach) → ((rules : Rules) → Stands new rules → found ≡ rules.first) → IsAudited old w bus event found new
  is_audited found tells =
      let right = λ (known : VcpuId → Known) (stands : Stands old (kept_so_far known)).
      tells (behind known) (stands_behind known stands) ∙ first_by_turn (turn_at w bus event) (plain_event w bus event).told known in
      record {
        breach = right;
        stands = λ known stands none. stands_on known stands (sym (right known stands) ∙ none);
      }
