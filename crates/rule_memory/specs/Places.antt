-- Where records stand: a page of a space.
use Rattle.std.specs.Prelude.{ℕ, ◌==◌, ◌&&◌, Bool}
use Rattle.std.specs.Bool.{beq}
use Rattle.svm_model.specs.declared.audits.Made.{Made}
use Rattle.svm_model.specs.declared.names.VcpuId.{VcpuId}
use Rattle.rule_memory.specs.declared.places.Place.{Place}
use Rattle.rule_memory.specs.declared.places.Space.{Space}

abbrev pub space_of : VcpuId → ℕ → Bool → Space
space_of vcpu asid nested = record { guest = vcpu.guest.0; vcpu = vcpu.index; asid = asid; nested = nested }

abbrev pub place_of : Made → Place
place_of made = record { space = space_of made.turn.vcpu made.asid made.nested; page = made.access.page.0 }

-- the vcpu that a space is of
abbrev pub owner_of : Space → VcpuId
owner_of space = record { guest = record { 0 = space.guest }; index = space.vcpu }

abbrev pub same_space : Space → Space → Bool
same_space a b = (a.asid == b.asid) && beq a.nested b.nested && (a.guest == b.guest) && (a.vcpu == b.vcpu)

abbrev pub same_place : Place → Place → Bool
same_place a b = (a.page == b.page) && same_space a.space b.space
