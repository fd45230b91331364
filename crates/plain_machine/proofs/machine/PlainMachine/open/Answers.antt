use Rattle.std.proofs.Common.{◌≡◌, ◌∙◌, ◌+◌, ◌*◌, ◌≤◌, ℕ, List, Option, None, length, map, replicate, ap, sym, subst, arith}
use Rattle.std.proofs.lemmas.List.{length-replicate}
use Rattle.svm_model.specs.Formats.Image.{Image}
use Rattle.svm_model.specs.Machine.Guest.{Guest}
use Rattle.svm_model.specs.Machine.Shapes.{world_shape}
use Rattle.svm_model.specs.Machine.World.{World, first_guest, world_of}
use Rattle.svm_model.specs.declared.names.VcpuId.{VcpuId}
use Rattle.svm_model.proofs.WorldLemmas.{world_shape-world_of}
use Rattle.plain_machine.specs.Opening.{pages_in, slots_of}
use Rattle.plain_machine.specs.Slots.{Kept, AreInRow, AreThere, counts, guests_at, layouts}
use Rattle.plain_machine.proofs.OpeningLemmas.{row_of}
use Rattle.plain_machine.proofs.PlacingLemmas.{there-none}
use Rattle.plain_machine.proofs.WellFormed.{well_formed}
use Rattle.plain_machine.proofs.machine.PlainMachine.open.Goals as goal

-- the guests of the image
guests_are : (c : goal.After-new-2) → c.deref-2.result.now ≡ c.args.image.now.guests
guests_are c = c.deref-2.ensures.value ∙ ap (λ (i : Image). i.guests) c.image.view_is

row : (c : goal.After-new-2) → AreInRow (length c.open_guests.new.memory.bytes) 0 (layouts c.in_ok-guests.guests.items)
row c =
    let guests = c.args.image.now.guests in
    let pages : c.pages_in.result ≡ pages_in guests = c.pages_in.ensures.pages ∙ ap pages_in (c.deref.ensures.value ∙ ap (λ (i : Image). i.guests) c.image.view_is) in
    let size : length c.open_guests.new.memory.bytes ≡ 4096 * c.pages_in.result = c.in_ok-guests.ensures.size ∙ ap length c.in-Ok.ensures.bytes ∙ length-replicate (4096 * c.pages_in.result) 0 in
    let room : 0 + 4096 * pages_in guests ≤ length c.open_guests.new.memory.bytes = omega (arith, pages, size) in
    let slots : c.in_ok-guests.guests.items ≡ slots_of 0 guests = c.in_ok-guests.ensures.slots ∙ ap (slots_of 0) (guests_are c) in
    subst (λ (ss : List Kept). AreInRow (length c.open_guests.new.memory.bytes) 0 (layouts ss)) (sym slots)
    (row_of (length c.open_guests.new.memory.bytes) 0 guests c.requires.lawful.guests room)

there : (c : goal.After-new-2) → AreThere (counts (layouts c.in_ok-guests.guests.items)) c.in_ok-placing.placing.items
there c = subst (λ (ps : List (Option VcpuId)). AreThere (counts (layouts c.in_ok-guests.guests.items)) ps) (sym c.in_ok-placing.ensures) (there-none (counts (layouts c.in_ok-guests.guests.items)) c.image.inside.cpus)

size : (c : goal.After-new-2) → length c.open_guests.new.memory.bytes ≤ 335544320
size c = omega (arith, c.in_ok-guests.ensures.size ∙ ap length c.in-Ok.ensures.bytes ∙ length-replicate (4096 * c.pages_in.result) 0, c.pages_in.ensures.most, ap length (c.deref.ensures.value ∙ ap (λ (i : Image). i.guests) c.image.view_is), c.requires.lawful.most_guests)

pub invariant_of-result : goal.invariant_of-result
invariant_of-result c = (row c, there c, size c)

-- the world of its parts
abbrev world_with : goal.After-new-2 → ℕ → List Guest → List (Option VcpuId) → World
world_with c cpus guests placing = record {
  version = c.image.inside.version;
  features = c.image.inside.features;
  cpus = cpus;
  guests = guests;
  placing = placing;
  event = 0;
}

pub returns-clause-world : goal.returns-clause-world
unfolding world_of
returns-clause-world c =
    ap (λ (ps : List (Option VcpuId)). world_with c (length ps) (guests_at c.open_guests.new.memory.bytes c.in_ok-guests.guests.items) ps) c.in_ok-placing.ensures
    ∙ ap (λ (n : ℕ). world_with c n (guests_at c.open_guests.new.memory.bytes c.in_ok-guests.guests.items) (replicate c.image.inside.cpus None)) (length-replicate c.image.inside.cpus None)
    ∙ ap (λ (gs : List Guest). world_with c c.image.inside.cpus gs (replicate c.image.inside.cpus None)) (c.in_ok-guests.ensures.guests ∙ ap (map first_guest) c.deref-2.ensures.value)
    ∙ ap world_of c.image.view_is

pub returns-clause-shape : goal.returns-clause-shape
returns-clause-shape c = ap world_shape (returns-clause-world c) ∙ world_shape-world_of c.args.image.now c.requires.lawful

pub returns-clause-well_formed : goal.returns-clause-well_formed
returns-clause-well_formed c =
    well_formed c.image.inside.version c.image.inside.features 0 c.open_guests.new.memory.bytes c.in_ok-guests.guests.items c.in_ok-placing.placing.items (row c) (there c)
