use Rattle.std.proofs.Common.{◌<◌, ℕ, sym, subst, arith, length, IfSome, slice_get}
use Rattle.svm_model.specs.Machine.Events.{guest_with_nmi}
use Rattle.plain_machine.proofs.ChangeLemmas.{slot_change}
use Rattle.plain_machine.proofs.Rows.{slot_vcpu, slot_layouts}
use Rattle.plain_machine.proofs.changes.make_nmi_pending.Goals as goal

pub make_nmi_pending_in-requires : goal.make_nmi_pending_in-requires
make_nmi_pending_in-requires c =
    slot_vcpu c.args.slots.now _ _ _ (omega (arith, c.requires.there, c.from.ensures))
    (subst (λ (n : ℕ). IfSome (slice_get c.args.slots.now n) (λ slot. c.args.vcpu.index < length slot.vcpus)) (sym c.from.ensures) c.requires.vcpu)

pub returns-clause-guests : goal.returns-clause-guests
returns-clause-guests c = λ bytes.
    slot_change (guest_with_nmi c.args.vcpu.index) bytes c.args.slots.now _ _ _ _ c.from.ensures (omega (arith, c.requires.there, c.from.ensures)) (c.make_nmi_pending_in.ensures.guest bytes)

pub returns-clause-layouts : goal.returns-clause-layouts
returns-clause-layouts c = slot_layouts c.args.slots.now _ _ _ (omega (arith, c.requires.there, c.from.ensures)) c.make_nmi_pending_in.ensures.layout
