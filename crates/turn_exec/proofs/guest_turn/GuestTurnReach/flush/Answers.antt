-- Translations are dropped, unless that is refused.
use Rattle.std.proofs.Common.{◌∙◌, rules, arith, sym}
use Rattle.turn_exec.proofs.Costs.{free}
use Rattle.turn_exec.proofs.Hearing.{on_dropped, out-kept}
use Rattle.turn_exec.proofs.guest_turn.GuestTurnReach.flush.Goals as goal

pub invariant_of-self : goal.invariant_of-self
invariant_of-self g c =
    let out = out-kept _ _ _ _ c.grant.ensures.denied c.grant.ensures.kept c.args.self.now.out in
    search rules

pub returns-clause-goes : goal.returns-clause-goes
returns-clause-goes g c = λ next last vcpu stepped h.
    let refused = c.flush-dropped.ensures.refused in
    let calls = c.grant.ensures.calls _ _ _ _ _ _ _ _ c.flush-dropped.ensures.none_fell refused h.1.1.0 in
    let called = c.grant.ensures.called _ _ _ _ _ _ _ h.1.1.0 in
    let plays = on_dropped _ _ _ _ _ _ _ _ _ _ _ _ _ _ _ next _ _ _ _ _ vcpu stepped c.flush-dropped.ensures.stands c.flush-dropped.ensures.told
    (c.grant.ensures.done _ _ _ _ _ _ _ h.1.1.0) (λ none. c.grant.ensures.granted _ _ _ _ _ _ _ h.1.1.0 none) called.counted called.cut h.1.1.1 in (
      record {
        translator = h.0.translator;
        memory = h.0.memory;
        bus = h.0.bus;
        apics = h.0.apics;
        steps = h.0.steps;
        outward = h.0.outward;
        told = sym c.flush-dropped.ensures.name ∙ h.0.told;
      },
      ((free _ _ _ g.T.Translator.cost _ h.1.0.0, h.1.0.1), (calls, rw (c.grant.ensures.denied, c.grant.ensures.sent) at plays)),
    )
