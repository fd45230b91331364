-- The printed text of a traced run: a block of lines for each event.
use Rattle.std.specs.Prelude.{ℕ, zero, suc, ◌+◌, ◌-◌, ◌*◌, ◌/◌, ◌==◌, List, [], ◌∷◌, ◌++◌, if◌then◌else◌, Option, Some, None, codes, drop, length, slice_get, take}
use Rattle.std.specs.List.{flat_map}
use Rattle.std.specs.Fmt.{decimal}
use Rattle.svm_model.specs.Formats.Text.{◌⧺◌, byte_digits, dump_line, guest_line, hex, newline, out_line, vcpu_line}
use Rattle.svm_model.specs.Machine.Bus.{Bus}
use Rattle.svm_model.specs.Machine.Events.{Happened, plain_event}
use Rattle.svm_model.specs.Machine.Guest.{level_in, Guest}
use Rattle.svm_model.specs.Machine.World.{World}
use Rattle.svm_model.specs.Memory.Bytes.{page_at}
use Rattle.svm_model.specs.declared.names.Ended.{Ended}
use Rattle.svm_model.specs.declared.names.Event.{Event}
use Rattle.svm_model.specs.declared.names.Event.TheVariants.{Place, Run, Feed, Irq, Nmi, Unplug, Dump}
use Rattle.svm_model.specs.declared.names.VcpuId.{VcpuId}
use Rattle.svm_model.specs.declared.vcpus.Vcpu.{Vcpu}

-- The event.

-- a vcpu by its guest and its place there
abbrev pub id_text : VcpuId → List ℕ
id_text id = decimal id.guest.0 ⧺ codes "." ⧺ decimal id.index

-- the vcpu that a turn was given to
abbrev pub ran_text : Option VcpuId → List ℕ
ran_text None = codes "none"
ran_text (Some id) = id_text id

abbrev pub event_name : Option VcpuId → Event → List ℕ
event_name ran (Place cpu id) = codes "place " ⧺ decimal cpu.0 ⧺ codes " " ⧺ id_text id
event_name ran (Run cpu) = codes "run " ⧺ decimal cpu.0 ⧺ codes " " ⧺ ran_text ran
event_name ran (Feed device value) = codes "feed " ⧺ decimal device ⧺ codes " " ⧺ hex value
event_name ran (Irq id vector) = codes "irq " ⧺ id_text id ⧺ codes " " ⧺ hex vector
event_name ran (Nmi id) = codes "nmi " ⧺ id_text id
event_name ran (Unplug device) = codes "unplug " ⧺ decimal device
event_name ran (Dump guest address length) = codes "dump " ⧺ decimal guest.0

-- an event with its number
unfoldable pub event_line : ℕ → Event → Option VcpuId → List ℕ
event_line number event ran = codes "event " ⧺ decimal number ⧺ codes " " ⧺ event_name ran event ⧺ newline

-- The vcpu that ran, as the event leaves it.

abbrev pub vcpu_text : VcpuId → Option Vcpu → List ℕ
vcpu_text id None = []
vcpu_text id (Some vcpu) = vcpu_line id.guest.0 id.index (level_in vcpu.inside) vcpu.halted vcpu.registers

abbrev pub vcpus_text : VcpuId → Option Guest → List ℕ
vcpus_text id None = []
vcpus_text id (Some guest) = vcpu_text id (slice_get guest.vcpus id.index)

abbrev pub ran_line : World → Option VcpuId → List ℕ
ran_line w None = []
ran_line w (Some id) = vcpus_text id (slice_get w.guests id.guest.0)

-- The bytes of memory that the event changed, in as few lines as there are stretches of them in a page.

-- bytes of a guest's memory from an address on, as the event leaves them
unfoldable pub memory_line : ℕ → ℕ → List ℕ → List ℕ
memory_line guest address bytes =
    codes "mem " ⧺ decimal guest ⧺ codes " at=" ⧺ hex address ⧺ codes " bytes=" ⧺ flat_map byte_digits bytes ⧺ newline

-- the line of changed bytes that lie right before an address, where there are any
abbrev pub stretch_line : ℕ → ℕ → List ℕ → List ℕ
stretch_line guest end [] = []
stretch_line guest end (byte ∷ bytes) = memory_line guest (end - length (byte ∷ bytes)) (byte ∷ bytes)

-- the lines of the bytes in which two lists differ, which begin at an address, behind a stretch of changed bytes
unfoldable pub changed_lines : ℕ → ℕ → List ℕ → List ℕ → List ℕ → List ℕ
changed_lines guest at stretch [] new = stretch_line guest at stretch
changed_lines guest at stretch (was ∷ old) [] = stretch_line guest at stretch
changed_lines guest at stretch (was ∷ old) (byte ∷ new) =
    if was == byte then stretch_line guest at stretch ⧺ changed_lines guest (at + 1) [] old new
    else changed_lines guest (at + 1) (stretch ++ byte ∷ []) old new

abbrev pub page_lines : ℕ → List ℕ → List ℕ → ℕ → List ℕ
page_lines guest old new page = changed_lines guest (4096 * page) [] (page_at old page) (page_at new page)

-- those of so many pages, from the first on
unfoldable pub pages_lines : ℕ → List ℕ → List ℕ → ℕ → List ℕ
pages_lines guest old new zero = []
pages_lines guest old new (suc pages) = pages_lines guest old new pages ⧺ page_lines guest old new pages

abbrev pub memory_lines : ℕ → List ℕ → List ℕ → List ℕ
memory_lines guest old new = pages_lines guest old new (length new / 4096)

unfoldable pub guests_memory_lines : ℕ → List Guest → List Guest → List ℕ
guests_memory_lines number [] new = []
guests_memory_lines number (was ∷ old) [] = []
guests_memory_lines number (was ∷ old) (guest ∷ new) = memory_lines number was.memory guest.memory ⧺ guests_memory_lines (number + 1) old new

-- What went out, a guest's end, and what a dump shows.

-- the writes to ports behind so many
abbrev pub sent_lines : ℕ → Bus → List ℕ
sent_lines count bus = flat_map out_line (drop count bus.output)

-- the guest of the vcpu that ran, where it was ended
abbrev pub end_line : Option VcpuId → Option Ended → List ℕ
end_line None ended = []
end_line (Some id) None = []
end_line (Some id) (Some ended) = guest_line id.guest.0 (Some ended)

abbrev pub memory_of : Option Guest → List ℕ
memory_of None = []
memory_of (Some guest) = guest.memory

-- the line of a dump, by the world that it finds; nothing of another event
unfoldable pub shown_line : World → Event → List ℕ
shown_line w (Dump guest address length) =
    dump_line w.event guest.0 address (take length (drop address (memory_of (slice_get w.guests guest.0))))
shown_line w _ = []

-- The block of an event, from the world and the bus that it finds and what happened.
unfoldable pub block_of : World → Bus → Event → Happened → List ℕ
block_of w bus event happened =
    event_line w.event event happened.effect.vcpu ⧺ ran_line happened.world happened.effect.vcpu
    ⧺ guests_memory_lines 0 w.guests happened.world.guests ⧺ sent_lines (length bus.output) happened.bus
    ⧺ end_line happened.effect.vcpu happened.effect.ended ⧺ shown_line w event

unfoldable pub block : World → Bus → Event → List ℕ
block w bus event = block_of w bus event (plain_event w bus event)
