use Rattle.std.proofs.Common.{◌<◌, ℕ, sym, subst, arith, length, IfSome, slice_get}
use Rattle.svm_model.specs.Machine.Events.{guest_with_irq}
use Rattle.plain_machine.proofs.ChangeLemmas.{slot_change}
use Rattle.plain_machine.proofs.Rows.{slot_apic, slot_layouts}
use Rattle.plain_machine.proofs.changes.interrupt.Goals as goal

pub interrupt_guest-requires : goal.interrupt_guest-requires
interrupt_guest-requires c =
    slot_apic c.args.slots.now _ _ _ (omega (arith, c.requires.there, c.from.ensures))
    (subst (λ (n : ℕ). IfSome (slice_get c.args.slots.now n) (λ slot. c.args.vcpu.index < length slot.apics)) (sym c.from.ensures) c.requires.vcpu)

pub returns-clause-guests : goal.returns-clause-guests
returns-clause-guests c = λ bytes.
    slot_change (guest_with_irq c.args.vcpu.index c.args.vector) bytes c.args.slots.now _ _ _ _ c.from.ensures (omega (arith, c.requires.there, c.from.ensures)) (c.interrupt_guest.ensures.guest bytes)

pub returns-clause-layouts : goal.returns-clause-layouts
returns-clause-layouts c = slot_layouts c.args.slots.now _ _ _ (omega (arith, c.requires.there, c.from.ensures)) c.interrupt_guest.ensures.layout
