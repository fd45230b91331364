-- The world of the guests that are kept: its shape, who is named in it, and the turn of a vcpu.
use Rattle.std.proofs.Common.{◌≡◌, ◌∙◌, ℕ, zero, suc, ◌+◌, ◌≤◌, ◌<◌, List, [], ◌∷◌, ◌++◌, take, drop, arith, refl, Option, Some, None, inl, inr, length, map, ap, sym, subst, slice_get, slice_set, IfSome}
use Rattle.std.specs.Option.{option_map}
use Rattle.std.proofs.lemmas.List.{length-map, take_at}
use Rattle.std.proofs.lemmas.Option.{slice_get-map}
use Rattle.svm_model.specs.Machine.Apic.{Apic}
use Rattle.svm_model.specs.Machine.Bus.{Bus}
use Rattle.svm_model.specs.Machine.Guest.{Guest}
use Rattle.svm_model.specs.Machine.Runs.{IsOut}
use Rattle.svm_model.specs.Machine.Shapes.{Shape, IsVcpu}
use Rattle.svm_model.specs.Machine.Turns.{Turn, turn_of, with_apic, with_vcpu, with_live, with_guest}
use Rattle.svm_model.specs.Machine.World.{World}
use Rattle.svm_model.specs.declared.names.Ended.{Ended}
use Rattle.svm_model.specs.declared.names.RunEnd.{RunEnd}
use Rattle.svm_model.specs.declared.names.VcpuId.{VcpuId}
use Rattle.svm_model.specs.declared.vcpus.Vcpu.{Vcpu}
use Rattle.svm_model.proofs.WindowLemmas.{length-guest_of}
use Rattle.plain_machine.specs.Cuts.{IsCutBy}
use Rattle.plain_machine.specs.GuestTurns.{GuestTurn, guest_turn, with_live_in, with_vcpu_in, with_apic_in, IsOutIn}
use Rattle.plain_machine.specs.Slots.{Kept, Layout, layout, layouts, guest_at, guests_at, counts, AreInRow, IsSlot}
use Rattle.plain_machine.specs.declared.turns.Moment.{Moment}
use Rattle.plain_machine.proofs.Rows.{in_row-slot, row_end}

-- The shape.

abbrev vcpus_in : List Guest → List ℕ
vcpus_in guests = map (λ (g : Guest). length g.vcpus) guests

abbrev sizes_in : List Guest → List ℕ
sizes_in guests = map (λ (g : Guest). length g.memory) guests

pub counts-layouts : (bytes : List ℕ) (slots : List Kept) → counts (layouts slots) ≡ vcpus_in (guests_at bytes slots)
counts-layouts bytes [] = refl
counts-layouts bytes (x ∷ slots) =
    ap (λ (ns : List ℕ). length x.vcpus ∷ ns) (counts-layouts bytes slots)

sizes-layouts : (bytes : List ℕ) (from : ℕ) (slots : List Kept) → AreInRow (length bytes) from (layouts slots) → sizes_in (guests_at bytes slots) ≡ map (λ (l : Layout). l.window.size) (layouts slots)
sizes-layouts bytes from [] row = refl
sizes-layouts bytes from (x ∷ slots) row =
    let rest = row_end (length bytes) (from + x.window.size) (layouts slots) row.2 in
    let within : x.window.base + x.window.size ≤ length bytes = omega (arith, row.0, rest) in
    ap (λ (n : ℕ). n ∷ sizes_in (guests_at bytes slots)) (length-guest_of x.window bytes within)
    ∙ ap (λ (ns : List ℕ). x.window.size ∷ ns) (sizes-layouts bytes (from + x.window.size) slots row.2)

abbrev shape_in : ℕ → List Guest → Shape
shape_in cpus guests = record { cpus = cpus; vcpus = vcpus_in guests; sizes = sizes_in guests }

-- guests that keep their layouts keep their shape
pub shape-kept : (cpus : ℕ) (old new : List ℕ) (s t : List Kept) → AreInRow (length old) 0 (layouts s) → layouts t ≡ layouts s → length new ≡ length old → shape_in cpus (guests_at new t) ≡ shape_in cpus (guests_at old s)
shape-kept cpus old new s t row same size =
    let after : AreInRow (length new) 0 (layouts t) = subst (λ (n : ℕ). AreInRow n 0 (layouts t)) (sym size) (subst (λ (ls : List Layout). AreInRow (length old) 0 ls) (sym same) row) in
    let vcpus : vcpus_in (guests_at new t) ≡ vcpus_in (guests_at old s) = sym (counts-layouts new t) ∙ ap counts same ∙ counts-layouts old s in
    let sizes : sizes_in (guests_at new t) ≡ sizes_in (guests_at old s) =
    sizes-layouts new 0 t after ∙ ap (λ (ls : List Layout). map (λ (l : Layout). l.window.size) ls) same ∙ sym (sizes-layouts old 0 s row) in
    ap (λ (ns : List ℕ). record { cpus = cpus; vcpus = ns; sizes = sizes_in (guests_at new t) }) vcpus
    ∙ ap (λ (ns : List ℕ). record { cpus = cpus; vcpus = vcpus_in (guests_at old s); sizes = ns }) sizes

-- the same of slots that were written in the place of others
pub shape-written : (cpus : ℕ) (old new : List ℕ) (s t : List Kept) (n : ℕ) → length t ≡ n → AreInRow (length old) 0 (layouts s) → layouts t ≡ layouts s → length new ≡ length old →
    shape_in cpus (guests_at new (take n (t ++ drop (length t) s))) ≡ shape_in cpus (guests_at old s)
shape-written cpus old new s t n long row same size =
    ap (λ (slots : List Kept). shape_in cpus (guests_at new slots)) (take_at t (drop (length t) s) n long) ∙ shape-kept cpus old new s t row same size

-- Who is named.

-- the guests are as many as their slots
pub few_slots : (w : World) (bytes : List ℕ) (slots : List Kept) (place : ℕ) → w.guests ≡ guests_at bytes slots → place < length w.guests → place < length slots
few_slots w bytes slots place same h = omega (arith, h, ap (λ (gs : List Guest). length gs) same, length-map slots (guest_at bytes))

-- its guest has a place, and the guest that many vcpus
counted : (bytes : List ℕ) (slots : List Kept) (place count : ℕ) → slice_get (vcpus_in (guests_at bytes slots)) place ≡ Some count →
    (place < length slots) × IfSome (slice_get slots place) (λ slot. length slot.vcpus ≡ count)
counted bytes [] place count e = absurd (cc)
counted bytes (x ∷ slots) zero count e =
    let same : length x.vcpus ≡ count = cc in
    (omega arith, same)
counted bytes (x ∷ slots) (suc place) count e =
    let rest = counted bytes slots place count e in
    (omega (arith, rest.0), rest.1)

fewer : (o : Option Kept) (index count : ℕ) → index < count → IfSome o (λ slot. length slot.vcpus ≡ count) → IfSome o (λ slot. index < length slot.vcpus)
fewer None index count h e = e
fewer (Some slot) index count h e = omega (arith, h, e)

pub named_place : (bytes : List ℕ) (slots : List Kept) (id : VcpuId) (shape : Shape) → shape.vcpus ≡ vcpus_in (guests_at bytes slots) → IsVcpu shape id → id.guest.0 < length slots
named_place bytes slots id shape same named = (counted bytes slots id.guest.0 named.0 (ap (λ (ns : List ℕ). slice_get ns id.guest.0) (sym same) ∙ named.1)).0

pub named_vcpu : (bytes : List ℕ) (slots : List Kept) (id : VcpuId) (shape : Shape) → shape.vcpus ≡ vcpus_in (guests_at bytes slots) → IsVcpu shape id → IfSome (slice_get slots id.guest.0) (λ slot. id.index < length slot.vcpus)
named_vcpu bytes slots id shape same named =
    fewer (slice_get slots id.guest.0) id.index named.0 named.2 (counted bytes slots id.guest.0 named.0 (ap (λ (ns : List ℕ). slice_get ns id.guest.0) (sym same) ∙ named.1)).1

apic_for : (o : Option Kept) (index : ℕ) → ((s : Kept) → o ≡ Some s → IsSlot (layout s)) → IfSome o (λ slot. index < length slot.vcpus) → IfSome o (λ slot. index < length slot.apics)
apic_for None index one h = h
apic_for (Some s) index one h =
    let slot = one s refl in
    omega (arith, h, slot.apics)

-- its APIC is there too
pub named_apic : (size : ℕ) (slots : List Kept) (id : VcpuId) → AreInRow size 0 (layouts slots) → IfSome (slice_get slots id.guest.0) (λ slot. id.index < length slot.vcpus) → IfSome (slice_get slots id.guest.0) (λ slot. id.index < length slot.apics)
named_apic size slots id row h = apic_for (slice_get slots id.guest.0) id.index (λ s e. in_row-slot size 0 slots id.guest.0 s row e) h

-- The turn of a vcpu in the world is that in its guest.

set-same : {A : Type 0} (xs : List A) (i : ℕ) (x : A) → slice_get xs i ≡ Some x → slice_set xs i x ≡ xs
set-same [] i x e = refl
set-same (y ∷ xs) zero x e =
    let same : y ≡ x = cc in
    ap (λ z. z ∷ xs) (sym same)
set-same (y ∷ xs) (suc i) x e = ap (λ zs. y ∷ zs) (set-same xs i x e)

abbrev pub moment_of : World → VcpuId → Moment
moment_of w id = record { vcpu = id; event = w.event; features = w.features }

pub record InWorld (turn : Turn) (w : World) (place : ℕ) (t : GuestTurn) : Type 0 where
  pub world_is : turn.world ≡ record w { guests = slice_set w.guests place t.guest }
  pub bus_is : turn.bus ≡ t.bus
  pub ended_is : turn.ended ≡ t.ended
  pub calls_are : turn.calls ≡ t.calls
  pub denied_is : turn.denied ≡ t.denied
  pub told_is : turn.told ≡ t.told

nothing : (w : World) (bus : Bus) (place : ℕ) (guest : Guest) → slice_get w.guests place ≡ Some guest →
    InWorld (record { world = w; bus = bus; ended = None; calls = 0; denied = None; told = [] }) w place (record { guest = guest; bus = bus; ended = None; calls = 0; denied = None; told = [] })
nothing w bus place guest there = record {
  world_is = ap (λ (gs : List Guest). record w { guests = gs }) (sym (set-same w.guests place guest there));
  bus_is = refl;
  ended_is = refl;
  calls_are = refl;
  denied_is = refl;
  told_is = refl;
}

by_apic : (refused : Option ℕ) (w : World) (bus : Bus) (id : VcpuId) (guest : Guest) (vcpu : Vcpu) (o : Option Apic) → slice_get w.guests id.guest.0 ≡ Some guest →
    InWorld (with_apic refused w bus guest id vcpu o) w id.guest.0 (with_apic_in refused (moment_of w id) bus guest vcpu o)
by_apic refused w bus id guest vcpu None there = nothing w bus id.guest.0 guest there
by_apic refused w bus id guest vcpu (Some apic) there = record { world_is = refl; bus_is = refl; ended_is = refl; calls_are = refl; denied_is = refl; told_is = refl }

by_vcpu : (refused : Option ℕ) (w : World) (bus : Bus) (id : VcpuId) (guest : Guest) (o : Option Vcpu) → slice_get w.guests id.guest.0 ≡ Some guest →
    InWorld (with_vcpu refused w bus guest id o) w id.guest.0 (with_vcpu_in refused (moment_of w id) bus guest o)
by_vcpu refused w bus id guest None there = nothing w bus id.guest.0 guest there
by_vcpu refused w bus id guest (Some vcpu) there = by_apic refused w bus id guest vcpu (slice_get guest.apics id.index) there

by_live : (refused : Option ℕ) (w : World) (bus : Bus) (id : VcpuId) (guest : Guest) (o : Option Ended) → slice_get w.guests id.guest.0 ≡ Some guest →
    InWorld (with_live refused w bus guest id o) w id.guest.0 (with_live_in refused (moment_of w id) bus guest o)
by_live refused w bus id guest (Some end) there = nothing w bus id.guest.0 guest there
by_live refused w bus id guest None there = by_vcpu refused w bus id guest (slice_get guest.vcpus id.index) there

pub in_world : (refused : Option ℕ) (w : World) (bus : Bus) (id : VcpuId) (guest : Guest) → slice_get w.guests id.guest.0 ≡ Some guest →
    InWorld (turn_of refused w bus id) w id.guest.0 (guest_turn refused (moment_of w id) bus guest)
unfolding guest_turn
in_world refused w bus id guest there =
    subst (λ (o : Option Guest). InWorld (with_guest refused w bus id o) w id.guest.0 (with_live_in refused (moment_of w id) bus guest guest.ended)) (sym there)
    (by_live refused w bus id guest guest.ended there)

-- the write that cuts the turn off
pub out_in_world : (call : ℕ) (w : World) (bus : Bus) (id : VcpuId) (guest : Guest) → slice_get w.guests id.guest.0 ≡ Some guest → IsOutIn call (moment_of w id) bus guest → IsOut call w bus id
out_in_world call w bus id guest there out = record {
  write = out.write;
  denied = (in_world (Some call) w bus id guest there).denied_is ∙ out.denied;
  granted = (in_world None w bus id guest there).bus_is ∙ out.granted;
  last = (in_world None w bus id guest there).calls_are ∙ out.last;
}

pub cut_in_world : (call : ℕ) (w : World) (end : RunEnd) (bus new : Bus) (id : VcpuId) (guest : Guest) (refusals later : ℕ) → slice_get w.guests id.guest.0 ≡ Some guest →
    IsCutBy (IsOutIn call (moment_of w id) bus guest) (Unit {0}) end bus new refusals later → IsCutBy (IsOut call w bus id) (Unit {0}) end bus new refusals later
cut_in_world call w end bus new id guest refusals later there (inl out) = inl (out_in_world call w bus id guest there out.0, out.1)
cut_in_world call w end bus new id guest refusals later there (inr unheard) = inr unheard

pub slot_there : (slots : List Kept) (i : ℕ) → i < length slots → (slot : Kept) × (slice_get slots i ≡ Some slot)
slot_there [] i h = absurd (omega (arith, h))
slot_there (x ∷ slots) zero h = (x, refl)
slot_there (x ∷ slots) (suc i) h = slot_there slots i (omega (arith, h))

pub guest_there : (bytes : List ℕ) (slots : List Kept) (i : ℕ) (slot : Kept) → slice_get slots i ≡ Some slot → slice_get (guests_at bytes slots) i ≡ Some (guest_at bytes slot)
guest_there bytes slots i slot e = slice_get-map (guest_at bytes) slots i ∙ ap (option_map (guest_at bytes)) e

pub ruleset worlds = (named_place, named_vcpu, named_apic, shape-kept)
