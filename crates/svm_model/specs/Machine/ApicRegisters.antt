-- The registers of the local APIC: their places in its page, reads and writes (volume 2, 'Local APIC Registers',
-- 'Interrupt Command Register'). Their table stands in src/apics.rt.
use Rattle.std.specs.Prelude.{ℕ, ◌+◌, ◌-◌, ◌*◌, ◌/◌, ◌%◌, ◌^◌, nat_le, nat_lt, List, [], ◌∷◌, Bool, ◌==◌, ◌&&◌, ◌||◌, if◌then◌else◌, Option, Some, None, take, drop, slice_index, slice_set, bit_and}
use Rattle.svm_model.specs.Memory.Bits.{bit, bits_from}
use Rattle.svm_model.specs.Memory.Bytes.{value_of_bytes}
use Rattle.svm_model.specs.declared.apics.ApicPlace.{ApicPlace}
use Rattle.svm_model.specs.declared.apics.ApicRegister.{ApicRegister}
use Rattle.svm_model.specs.declared.apics.ApicRegister.TheVariants as register
use Rattle.svm_model.specs.declared.apics.ApicRegisterLine.{ApicRegisterLine}
use Rattle.svm_model.specs.declared.apics.Ipi.{Ipi}
use Rattle.svm_model.specs.declared.apics.TheConstants.{APIC_REGISTERS}
use Rattle.svm_model.specs.Machine.Apic.{Apic, highest, processor_priority, out_of_service, current_count}

abbrev pub is_on_line : ApicRegisterLine → ℕ → Bool
is_on_line l offset = nat_le l.offset offset && nat_lt offset (l.offset + 16 * l.count) && (offset % 16 == 0)

unfoldable pub place_on : List ApicRegisterLine → ℕ → Option ApicPlace
place_on [] offset = None
place_on (l ∷ lines) offset =
    if is_on_line l offset then Some (record { register = l.register; number = (offset - l.offset) / 16 }) else place_on lines offset

-- the register of an offset, where one is there
abbrev pub place_of : ℕ → Option ApicPlace
place_of offset = place_on APIC_REGISTERS offset

-- four bytes of a set of vectors
abbrev pub vectors_at : List ℕ → ℕ → ℕ
vectors_at set number = value_of_bytes (take 4 (drop (4 * number) set))

-- what a register reads, at this event
unfoldable pub value_at : ApicRegister → ℕ → Apic → ℕ → ℕ
value_at register.Id number a event = 2 ^ 24 * a.id
value_at register.Version number a event = 0x50014
value_at register.Tpr number a event = a.tpr
value_at register.Ppr number a event = processor_priority a
value_at register.Eoi number a event = 0
value_at register.Ldr number a event = 2 ^ 24 * a.ldr
value_at register.Dfr number a event = 2 ^ 28 * a.dfr + 0xFFFFFFF
value_at register.Svr number a event = a.svr
value_at register.Isr number a event = vectors_at a.isr number
value_at register.Tmr number a event = 0
value_at register.Irr number a event = vectors_at a.irr number
value_at register.Esr number a event = 0
value_at register.IcrLow number a event = a.icr_low
value_at register.IcrHigh number a event = a.icr_high
value_at register.Lvt number a event = slice_index a.lvt number
value_at register.InitialCount number a event = a.count
value_at register.CurrentCount number a event = current_count a event
value_at register.DivideBy number a event = a.divide

abbrev pub read_at : Option ApicPlace → Apic → ℕ → Option ℕ
read_at None a event = None
read_at (Some place) a event = Some (value_at place.register place.number a event)

-- a read of an offset: None where no register is there
unfoldable pub register_read : Apic → ℕ → ℕ → Option ℕ
register_read a offset event = read_at (place_of offset) a event

-- what a write leads to, and what it sends
pub record Written : Type 0 where
  pub apic : Apic
  pub sent : Option Ipi

abbrev pub stored : Apic → Option Written
stored a = Some (record { apic = a; sent = None })

-- the bits of a word of the local vector table that are kept: vector and mask, and for the timer periodic
abbrev pub lvt_mask : ℕ → ℕ
lvt_mask number = if number == 0 then 0x300FF else 0x100FF

abbrev pub with_dfr : Apic → ℕ → Option Written
with_dfr a model = if (model == 0) || (model == 15) then stored (record a { dfr = model }) else None

-- The interrupt command register ('Interrupt Command Register').

-- modes fixed, lowest priority and NMI
abbrev pub is_mode : ℕ → Bool
is_mode mode = (mode == 0) || (mode == 1) || (mode == 4)

abbrev pub command_of : Apic → ℕ → Ipi
command_of a value = record {
  vector = value % 256;
  mode = bits_from 8 3 value;
  logical = bit 11 value;
  shorthand = bits_from 18 2 value;
  destination = a.icr_high / 2 ^ 24;
}

abbrev pub with_command : Apic → ℕ → Option Written
with_command a value =
    if is_mode (bits_from 8 3 value) then Some (record { apic = record a { icr_low = value }; sent = Some (command_of a value) }) else None

-- what a write of 32 bits makes of the APIC; None where it is not offered
unfoldable pub written_at : ApicRegister → ℕ → Apic → ℕ → ℕ → Option Written
written_at register.Id number a value event = stored a
written_at register.Version number a value event = stored a
written_at register.Tpr number a value event = stored (record a { tpr = value % 256 })
written_at register.Ppr number a value event = stored a
written_at register.Eoi number a value event = stored (out_of_service a (highest a.isr))
written_at register.Ldr number a value event = stored (record a { ldr = value / 2 ^ 24 })
written_at register.Dfr number a value event = with_dfr a (value / 2 ^ 28)
written_at register.Svr number a value event = stored (record a { svr = value % 512 })
written_at register.Isr number a value event = stored a
written_at register.Tmr number a value event = stored a
written_at register.Irr number a value event = stored a
written_at register.Esr number a value event = stored a
written_at register.IcrLow number a value event = with_command a value
written_at register.IcrHigh number a value event = stored (record a { icr_high = bit_and value 0xFF000000 })
written_at register.Lvt number a value event = stored (record a { lvt = slice_set a.lvt number (bit_and value (lvt_mask number)) })
written_at register.InitialCount number a value event = stored (record a { count = value; start = event })
written_at register.CurrentCount number a value event = stored a
written_at register.DivideBy number a value event = stored (record a { divide = bit_and value 11; start = event })

abbrev pub write_at : Option ApicPlace → Apic → ℕ → ℕ → Option Written
write_at None a value event = None
write_at (Some place) a value event = written_at place.register place.number a value event

-- a write to an offset: None where no register is there, or what is written is not offered
unfoldable pub register_written : Apic → ℕ → ℕ → ℕ → Option Written
register_written a offset value event = write_at (place_of offset) a value event
