-- The printed text. Every line ends with a line feed.
use Rattle.std.specs.Prelude.{ℕ, ◌+◌, ◌/◌, ◌%◌, ◌==◌, List, [], ◌∷◌, ◌++◌, Bool, false, if◌then◌else◌, Option, Some, None, codes, slice_index}
use Rattle.std.specs.List.{flat_map}
use Rattle.std.specs.Fmt.{decimal, digits}
use Rattle.svm_model.specs.Machine.Bus.{Bus}
use Rattle.svm_model.specs.Machine.Guest.{level_in, Guest}
use Rattle.svm_model.specs.declared.vcpus.Vcpu.{Vcpu}
use Rattle.svm_model.specs.Machine.World.{World}
use Rattle.svm_model.specs.declared.formats.ImageReason.{ImageReason}
use Rattle.svm_model.specs.declared.formats.ImageReason.TheVariants as image_reason
use Rattle.svm_model.specs.declared.formats.ScriptReason.{ScriptReason}
use Rattle.svm_model.specs.declared.formats.ScriptReason.TheVariants as script_reason
use Rattle.svm_model.specs.declared.names.End.{End}
use Rattle.svm_model.specs.declared.names.End.TheVariants.{Unlisted, OutsideMemory, ApicAccess, Mode, Shutdown}
use Rattle.svm_model.specs.declared.names.Ended.{Ended}
use Rattle.svm_model.specs.declared.ports.PortWrite.{PortWrite}
use Rattle.svm_model.specs.declared.register_file.Registers.{Registers}

-- one text after another
infixr 9 ◌⧺◌
abbrev pub ◌⧺◌ : List ℕ → List ℕ → List ℕ
a ⧺ b = a ++ b

-- lower case, without leading zeros
abbrev pub hex : ℕ → List ℕ
hex n = digits 16 false n

abbrev pub newline : List ℕ
newline = 10 ∷ []

-- What events print.

-- a byte, in two digits
abbrev pub byte_digits : ℕ → List ℕ
byte_digits byte = hex (byte / 16) ⧺ hex (byte % 16)

-- bytes of a guest's memory from an address on, as they are at an event
unfoldable pub dump_line : ℕ → ℕ → ℕ → List ℕ → List ℕ
dump_line event guest address bytes =
    codes "dump event=" ⧺ decimal event ⧺ codes " guest=" ⧺ decimal guest ⧺ codes " at=" ⧺ hex address ⧺ codes " bytes="
    ⧺ flat_map byte_digits bytes ⧺ newline

-- The report.

-- the registers that a line shows where they are not 0, in their order
abbrev pub shown_registers : Registers → List (List ℕ × ℕ)
shown_registers r =
    (codes "rip", r.rip)
    ∷ (codes "rfl", r.rflags)
    ∷ (codes "rax", slice_index r.general 0)
    ∷ (codes "rcx", slice_index r.general 1)
    ∷ (codes "rdx", slice_index r.general 2)
    ∷ (codes "rbx", slice_index r.general 3)
    ∷ (codes "rsp", slice_index r.general 4)
    ∷ (codes "rbp", slice_index r.general 5)
    ∷ (codes "rsi", slice_index r.general 6)
    ∷ (codes "rdi", slice_index r.general 7)
    ∷ (codes "r8", slice_index r.general 8)
    ∷ (codes "r9", slice_index r.general 9)
    ∷ (codes "r10", slice_index r.general 10)
    ∷ (codes "r11", slice_index r.general 11)
    ∷ (codes "r12", slice_index r.general 12)
    ∷ (codes "r13", slice_index r.general 13)
    ∷ (codes "r14", slice_index r.general 14)
    ∷ (codes "r15", slice_index r.general 15)
    ∷ (codes "cr0", r.cr0)
    ∷ (codes "cr2", r.cr2)
    ∷ (codes "cr3", r.cr3)
    ∷ (codes "cr4", r.cr4)
    ∷ (codes "efer", r.efer)
    ∷ []

abbrev pub register_text : List ℕ × ℕ → List ℕ
register_text shown = if shown.1 == 0 then [] else codes " " ⧺ shown.0 ⧺ codes "=" ⧺ hex shown.1

-- the shown registers, a blank before each
unfoldable pub registers_text : Registers → List ℕ
registers_text r = flat_map register_text (shown_registers r)

abbrev pub state_name : Bool → List ℕ
state_name halted = if halted then codes "halted" else codes "ready"

-- a vcpu, with its level, its state and its registers
unfoldable pub vcpu_line : ℕ → ℕ → ℕ → Bool → Registers → List ℕ
vcpu_line guest index level halted r =
    codes "vcpu " ⧺ decimal guest ⧺ codes "." ⧺ decimal index ⧺ codes " l" ⧺ decimal level ⧺ codes " " ⧺ state_name halted
    ⧺ registers_text r ⧺ newline

abbrev pub end_name : End → List ℕ
end_name (Unlisted byte) = codes "Unlisted"
end_name (OutsideMemory address) = codes "OutsideMemory"
end_name (ApicAccess offset) = codes "ApicAccess"
end_name (Mode rule) = codes "Mode"
end_name Shutdown = codes "Shutdown"

abbrev pub end_value : End → ℕ
end_value (Unlisted byte) = byte
end_value (OutsideMemory address) = address
end_value (ApicAccess offset) = offset
end_value (Mode rule) = rule
end_value Shutdown = 0

-- a guest, with its end where it was ended
unfoldable pub guest_line : ℕ → Option Ended → List ℕ
guest_line guest None = codes "guest " ⧺ decimal guest ⧺ codes " live" ⧺ newline
guest_line guest (Some e) =
    codes "guest " ⧺ decimal guest ⧺ codes " ended " ⧺ end_name e.end ⧺ codes " value=" ⧺ hex (end_value e.end)
    ⧺ codes " vcpu=" ⧺ decimal e.vcpu ⧺ codes " event=" ⧺ decimal e.event ⧺ newline

-- how many events there were
unfoldable pub events_line : ℕ → List ℕ
events_line count = codes "events " ⧺ decimal count ⧺ newline

abbrev pub vcpu_lines : ℕ → ℕ → List Vcpu → List ℕ
vcpu_lines guest index [] = []
vcpu_lines guest index (vcpu ∷ vcpus) = vcpu_line guest index (level_in vcpu.inside) vcpu.halted vcpu.registers ⧺ vcpu_lines guest (index + 1) vcpus

-- what was written, and where
abbrev pub sent_text : ℕ → ℕ → ℕ → List ℕ
sent_text port width value = codes " port=" ⧺ hex port ⧺ codes " width=" ⧺ decimal width ⧺ codes " value=" ⧺ hex value ⧺ newline

-- a write to a port, with its width in bytes
unfoldable pub out_line : PortWrite → List ℕ
out_line w =
    codes "out " ⧺ decimal w.vcpu.guest.0 ⧺ codes "." ⧺ decimal w.vcpu.index ⧺ codes " event=" ⧺ decimal w.event
    ⧺ sent_text w.port w.width w.value

-- the writes of a guest, in order
abbrev pub guest_out_line : ℕ → PortWrite → List ℕ
guest_out_line guest w = if w.vcpu.guest.0 == guest then out_line w else []

unfoldable pub out_lines : ℕ → List PortWrite → List ℕ
out_lines guest output = flat_map (guest_out_line guest) output

abbrev pub guest_lines : List PortWrite → ℕ → List Guest → List ℕ
guest_lines output number [] = []
guest_lines output number (guest ∷ guests) =
    guest_line number guest.ended ⧺ vcpu_lines number 0 guest.vcpus ⧺ out_lines number output ⧺ guest_lines output (number + 1) guests

-- the report of a run, from the world and the bus that it leads to
unfoldable pub report : World → Bus → List ℕ
report w bus = events_line w.event ⧺ guest_lines bus.output 0 w.guests

-- Refusals.

abbrev pub image_reason_name : ImageReason → List ℕ
image_reason_name image_reason.TooLong = codes "TooLong"
image_reason_name image_reason.Short = codes "Short"
image_reason_name image_reason.Magic = codes "Magic"
image_reason_name image_reason.Version = codes "Version"
image_reason_name image_reason.Count = codes "Count"
image_reason_name image_reason.Zero = codes "Zero"
image_reason_name image_reason.Feature = codes "Feature"
image_reason_name image_reason.Register = codes "Register"
image_reason_name image_reason.Range = codes "Range"
image_reason_name image_reason.Trailing = codes "Trailing"

abbrev pub script_reason_name : ScriptReason → List ℕ
script_reason_name script_reason.TooLong = codes "TooLong"
script_reason_name script_reason.Bytes = codes "Bytes"
script_reason_name script_reason.Word = codes "Word"
script_reason_name script_reason.Words = codes "Words"
script_reason_name script_reason.Number = codes "Number"
script_reason_name script_reason.Cpu = codes "Cpu"
script_reason_name script_reason.Guest = codes "Guest"
script_reason_name script_reason.Vcpu = codes "Vcpu"
script_reason_name script_reason.Device = codes "Device"
script_reason_name script_reason.Count = codes "Count"
script_reason_name script_reason.Value = codes "Value"
script_reason_name script_reason.Vector = codes "Vector"
script_reason_name script_reason.Length = codes "Length"
script_reason_name script_reason.Address = codes "Address"
script_reason_name script_reason.Events = codes "Events"
