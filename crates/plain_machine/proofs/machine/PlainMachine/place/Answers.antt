use Rattle.std.proofs.Common.{◌≡◌, ◌∙◌, ℕ, List, Option, Some, length, map, ap, sym, subst, arith, slice_set}
use Rattle.svm_model.specs.Machine.Shapes.{IsVcpu, world_shape}
use Rattle.svm_model.specs.declared.names.VcpuId.{VcpuId}
use Rattle.plain_machine.specs.Machines.{Machine}
use Rattle.plain_machine.specs.Marks.{marks_in}
use Rattle.plain_machine.specs.Slots.{AreThere, IsThere, counts, guests_at, layouts}
use Rattle.plain_machine.proofs.Worlds.{counts-layouts}
use Rattle.std.proofs.lemmas.List.{length-map, length-set, take_at}
use Rattle.svm_model.specs.Machine.Events.{placed, without}
use Rattle.plain_machine.proofs.machine.PlainMachine.place.Goals as goal

pub invariant_of-self : goal.invariant_of-self
invariant_of-self c =
    let here : IsThere (counts (layouts c.self.inside.guests.items)) c.args.vcpu
    = subst (λ (ns : List ℕ). IsThere ns c.args.vcpu) (sym (counts-layouts c.self.inside.memory.bytes c.self.inside.guests.items))
    (subst (λ (m : Machine). IsVcpu (world_shape m.world) c.args.vcpu) (sym c.self.view_is) c.requires.1) in
    let there : AreThere (counts (layouts c.self.inside.guests.items)) c.place_on.new.placing
    = c.place_on.ensures.there _ here (subst (AreThere (counts (layouts c.self.inside.guests.items))) (sym c.deref_mut.ensures.value) c.self.invariant.1) in
    let long : length c.place_on.new.placing ≡ c.self.inside.placing.len = omega (arith, c.place_on.auto.placing, c.deref_mut.ensures.len) in
    (c.self.invariant.0, subst (AreThere (counts (layouts c.self.inside.guests.items))) (sym (take_at c.place_on.new.placing _ _ long)) there, c.self.invariant.2)

pub returns : goal.returns
returns c =
    let id = c.args.vcpu in
    let old = c.self.inside.placing.items in
    let next : List (Option VcpuId) = slice_set (map (without id) old) c.args.cpu.0 (Some id) in
    let of : ℕ → List (Option VcpuId) → Machine = λ cpus placing. record {
      world = record {
        version = c.self.inside.version;
        features = c.self.inside.features;
        cpus = cpus;
        guests = guests_at c.self.inside.memory.bytes c.self.inside.guests.items;
        placing = placing;
        event = c.self.inside.event;
      };
      stopped = c.self.inside.stopped;
      marks = marks_in c.self.inside.memory (layouts c.self.inside.guests.items);
    } in
    let long : length c.place_on.new.placing ≡ c.self.inside.placing.len = omega (arith, c.place_on.auto.placing, c.deref_mut.ensures.len) in
    let is : c.place_on.new.placing ≡ next = c.place_on.ensures.placed ∙ ap (λ (ps : List (Option VcpuId)). slice_set (map (without id) ps) c.args.cpu.0 (Some id)) c.deref_mut.ensures.value in
    let same : length next ≡ length old = length-set (map (without id) old) c.args.cpu.0 (Some id) ∙ length-map old (without id) in
    ap (λ (ps : List (Option VcpuId)). of (length ps) ps) (take_at c.place_on.new.placing _ _ long ∙ is)
    ∙ ap (λ (n : ℕ). of n next) same
    ∙ ap (λ (m : Machine). record m { world = placed m.world c.args.cpu id }) c.self.view_is
