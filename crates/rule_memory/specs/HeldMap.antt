-- Held fields of VMCBs in a map.
use Rattle.std.specs.Prelude.{ℕ, ◌==◌, ◌&&◌, Bool}
use Rattle.std.specs.BTreeMap.{BTreeMap, get}
use Rattle.std.specs.declared.cmp.Ordering.{Ordering}
use Rattle.svm_model.specs.Audit.HeldFields.{Held}
use Rattle.svm_model.specs.Svm.Vmcb.{Fields}
use Rattle.svm_model.specs.declared.names.VcpuId.{VcpuId}
use Rattle.rule_memory.specs.contracts.held.HeldPlaceOrd.TheImpl as held_order
use Rattle.rule_memory.specs.declared.held.HeldPlace.{HeldPlace}

abbrev pub held_places : HeldPlace → HeldPlace → Ordering
held_places = (held_order.ghosts).cmp

abbrev pub HeldMap : Type 0
HeldMap = BTreeMap HeldPlace Fields

-- the vcpu that a place is of
abbrev pub held_owner : HeldPlace → VcpuId
held_owner place = record { guest = record { 0 = place.guest }; index = place.vcpu }

abbrev pub held_place : VcpuId → ℕ → HeldPlace
held_place vcpu vmcb = record { guest = vcpu.guest.0; vcpu = vcpu.index; vmcb = vmcb }

abbrev pub same_held : HeldPlace → HeldPlace → Bool
same_held a b = (a.vmcb == b.vmcb) && (a.guest == b.guest) && (a.vcpu == b.vcpu)

-- what is held of a VMCB of a vcpu
abbrev pub fields_at : HeldMap → HeldPlace → Held
fields_at held place = get held_places held place
