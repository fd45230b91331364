use Rattle.std.proofs.Common.{◌≡◌, ◌∙◌, ◌<◌, ◌+◌, ℕ, List, Option, Some, length, ap, sym, subst, arith, slice_get}
use Rattle.svm_model.specs.Memory.Bytes.{is_written}
use Rattle.plain_machine.specs.Machines.{Machine}
use Rattle.plain_machine.specs.Marks.{mark_from}
use Rattle.plain_machine.specs.Slots.{Kept, Layout, layout, layouts}
use Rattle.std.specs.Option.{option_map}
use Rattle.std.proofs.lemmas.Option.{slice_get-map}
use Rattle.plain_machine.proofs.MarkLemmas.{in_slot, mark_in, mark-layouts}
use Rattle.plain_machine.proofs.Worlds.{few_slots}
use Rattle.plain_machine.proofs.machine.PlainMachine.page_written.Goals as goal

pub slot_of-slot-requires : goal.slot_of-slot-requires
slot_of-slot-requires c =
    let here = few_slots c.args.self.now.world c.self.inside.memory.bytes c.self.inside.guests.items c.args.guest.0 (sym (ap (λ (m : Machine). m.world.guests) c.self.view_is)) c.requires.there in
    subst (λ (slots : List Kept). c.args.guest.0 < length slots) (sym c.deref.ensures.value) here

pub first_page-requires : goal.first_page-requires
first_page-requires c =
    let there : slice_get c.self.inside.guests.items c.args.guest.0 ≡ Some c.slot_of-slot.result.now =
    ap (λ (slots : List Kept). slice_get slots c.args.guest.0) (sym c.deref.ensures.value) ∙ c.slot_of-slot.ensures.slot in
    let slot = in_slot c.self.inside.memory.bytes c.self.inside.guests.items c.args.self.now.world.guests c.args.guest.0 c.slot_of-slot.result.now c.self.invariant.0 (sym (ap (λ (m : Machine). m.world.guests) c.self.view_is)) there in
    omega (arith, slot.within, c.self.invariant.2)

pub returns : goal.returns
returns c =
    let there : slice_get c.self.inside.guests.items c.args.guest.0 ≡ Some c.slot_of-slot.result.now =
    ap (λ (slots : List Kept). slice_get slots c.args.guest.0) (sym c.deref.ensures.value) ∙ c.slot_of-slot.ensures.slot in
    let memory = c.self.inside.memory in
    let slots = c.self.inside.guests.items in
    let first : slice_get (layouts slots) c.args.guest.0 ≡ Some (layout c.slot_of-slot.result.now) = slice_get-map layout slots c.args.guest.0 ∙ ap (option_map layout) there in
    c.page_written.ensures
    ∙ ap (λ (n : ℕ). is_written memory (n + c.args.page)) c.first_page.ensures
    ∙ sym (mark-layouts memory (layouts slots) c.args.guest.0 c.args.page ∙ ap (λ (o : Option Layout). mark_in memory o c.args.page) first)
    ∙ ap (λ (m : Machine). mark_from m.marks.is_changed m.marks.pages (slice_get m.marks.firsts c.args.guest.0) c.args.page) c.self.view_is
