use Rattle.std.proofs.Common.{◌∙◌, ap, true}
use Rattle.plain_machine.specs.Slots.{Kept, layout}
use Rattle.plain_machine.proofs.GuestTurnLemmas.{layout-vcpu}
use Rattle.plain_machine.proofs.changes.make_nmi_pending_in.Goals as goal

pub returns-then-is_none-clause-layout : goal.returns-then-is_none-clause-layout
returns-then-is_none-clause-layout c =
    let slot : Kept = record { window = c.slot.inside.window; ended = c.slot.inside.ended; vcpus = c.slot.inside.vcpus.items; apics = c.slot.inside.apics.items } in
    layout-vcpu slot c.slot.inside.ended c.from.result (record c.index_mut.result.now { nmi = true })
    ∙ ap layout c.slot.view_is
