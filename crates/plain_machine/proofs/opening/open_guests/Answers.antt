use Rattle.std.proofs.Common.{◌≡◌, ◌∙◌, ◌*◌, ap, arith, get_or}
use Rattle.svm_model.specs.Formats.Image.{ImageGuest}
use Rattle.svm_model.specs.Memory.Bytes.{guest_of}
use Rattle.svm_model.specs.Machine.World.{loaded}
use Rattle.plain_machine.specs.Opening.{slot_of}
use Rattle.plain_machine.specs.Slots.{Kept}
use Rattle.plain_machine.proofs.OpeningLemmas.{opened_next, pages_in-few, room}
use Rattle.plain_machine.proofs.opening.open_guests.Goals as goal

pub open_guest-requires-clause-room : goal.open_guest-requires-clause-room
open_guest-requires-clause-room c =
    let here = room c.args.guests.now c.loop-guest.guest-index c.guest-item.result c.loop-guest.slots.items c.loop-guest.base c.loop-guest.memory.bytes c.loop-guest-test.true c.loop-guest.invariant.opened in
    omega (arith, here, ap (λ (g : ImageGuest). g.pages) c.guest-item.is)

pub overflow_add-base : goal.overflow_add-base
overflow_add-base c =
    let here = room c.args.guests.now c.loop-guest.guest-index c.guest-item.result c.loop-guest.slots.items c.loop-guest.base c.loop-guest.memory.bytes c.loop-guest-test.true c.loop-guest.invariant.opened in
    let few = pages_in-few c.args.guests.now c.requires.lawful in
    let size : c.slot.inside.window.size ≡ 4096 * c.guest-item.result.pages = ap (λ (s : Kept). s.window.size) (c.slot.view_is ∙ c.in_ok-slot.ensures.slot) in
    omega (arith, here, few, size, c.loop-guest.invariant.opened.size, c.requires.few, ap (λ (g : ImageGuest). g.pages) c.guest-item.is)

pub loop-guest-preserved : goal.loop-guest-preserved
loop-guest-preserved c =
    let g = c.guest-item.result in
    let is : c.in_ok-slot.slot ≡ slot_of c.loop-guest.base (get_or c.args.guests.now c.loop-guest.guest-index g) = c.in_ok-slot.ensures.slot ∙ ap (slot_of c.loop-guest.base) c.guest-item.is in
    let filled = c.in_ok-slot.ensures.loaded ∙ ap (λ (k : ImageGuest). loaded (guest_of c.in_ok-slot.slot.window c.loop-guest.memory.bytes) k.segments) c.guest-item.is in
    let next = opened_next c.args.guests.now c.loop-guest.guest-index g c.loop-guest.slots.items c.loop-guest.base c.loop-guest.memory c.open_guest.new.memory c.in_ok-slot.slot
    c.requires.lawful c.loop-guest-test.true c.loop-guest.invariant.opened is filled c.in_ok-slot.ensures.others in
    record { opened = rw (c.in-Ok.ensures.items, ap (λ (s : Kept). s.window.size) c.slot.view_is) next }
