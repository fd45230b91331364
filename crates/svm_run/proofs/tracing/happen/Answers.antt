-- What was put together is the event's block.
use Rattle.std.proofs.Common.{◌∙◌, ap, sym, subst, refl, length, drop}
use Rattle.svm_model.specs.Formats.Trace.{shown_line}
use Rattle.svm_model.specs.Machine.Shapes.{IsWellFormed}
use Rattle.svm_model.specs.Machine.World.{World}
use Rattle.plain_machine.proofs.GuestTurnLemmas.{if_ok, on_ok}
use Rattle.svm_run.specs.Blocks.{memories_in}
use Rattle.svm_run.proofs.TracedLemmas.{block-told, copies-told, may-have-run}
use Rattle.svm_run.proofs.tracing.happen.Goals as goal

pub whole_text-requires : goal.whole_text-requires
whole_text-requires g c =
    let same = c.mark_unchanged.ensures.world in
    may-have-run c.mark_unchanged.new.self c.do_event.new.machine (g.B.Ports.bus c.args.bus.now) c.args.event c.in-Ok.effect c.args.blocks.now
    (c.requires.ready ∙ ap (λ (w : World). memories_in w.guests) (sym same)) c.do_event.ensures.shape c.do_event.ensures.marked (subst IsWellFormed (sym same) c.is_well_formed.ensures.world) c.in-Ok.ensures.effect

pub returns-clause-text : goal.returns-clause-text
returns-clause-text g c =
    let w = c.args.machine.now.world in
    if_ok c.whole_text.result _ _ (λ text e.
    block-told c.mark_unchanged.new.self c.do_event.new.machine w (g.B.Ports.bus c.args.bus.now) (g.B.Ports.bus c.do_event.new.bus) c.args.event _ c.in-Ok.effect c.args.blocks.now _ c.writes-before.result.now (shown_line w c.args.event) text.items
    c.mark_unchanged.ensures.world c.requires.ready c.in-Ok.ensures.world c.in-Ok.ensures.bus c.in-Ok.ensures.effect c.event_number-number.ensures
    (c.behind-writes.ensures ∙ ap (drop (length c.writes-before.result.now)) c.writes.ensures) c.writes-before.ensures refl c.do_event.ensures.shape c.do_event.ensures.others c.is_well_formed.ensures.world e)
    (c.whole_text.ensures.text (shown_line w c.args.event) c.requires.shown)

pub returns-clause-copies : goal.returns-clause-copies
returns-clause-copies g c =
    on_ok c.whole_text.result _ _ (λ e.
    e ∙ copies-told c.mark_unchanged.new.self c.do_event.new.machine c.args.machine.now.world (g.B.Ports.bus c.args.bus.now) c.args.event c.in-Ok.effect c.args.blocks.now
    c.mark_unchanged.ensures.world c.requires.ready c.in-Ok.ensures.effect c.do_event.ensures.shape c.do_event.ensures.others c.is_well_formed.ensures.world)
    c.whole_text.ensures.copies
