-- The lines of a script that are not skipped. Each gives its event, the number of the first one, and how often it comes.
use Rattle.std.specs.Prelude.{ℕ, ◌+◌, ◌*◌, ◌^◌, ◌&&◌, nat_lt, nat_le, List, [], ◌∷◌, Bool, true, false, if◌then◌else◌, Option, Some, None, Result, Ok, Err, codes, slice_get}
use Rattle.std.specs.List.{list_all}
use Rattle.std.specs.Str.{bytes_eq}
use Rattle.svm_model.specs.Machine.Bus.{device_count}
use Rattle.svm_model.specs.Machine.Shapes.{Shape, dump_limit}
use Rattle.svm_model.specs.declared.formats.ScriptLine.{ScriptLine}
use Rattle.svm_model.specs.declared.formats.ScriptReason.{ScriptReason}
use Rattle.svm_model.specs.declared.formats.ScriptReason.TheVariants.{Bytes, Word, Words, Cpu, Guest, Vcpu, Device, Count, Value, Vector, Length, Address, Events}
use Rattle.svm_model.specs.declared.names.Event.{Event}
use Rattle.svm_model.specs.declared.names.VcpuId.{VcpuId}
use Rattle.svm_model.specs.declared.names.Event.TheVariants.{Place, Run, Feed, Irq, Nmi, Unplug, Dump}
use Rattle.svm_model.specs.Formats.ScriptWords.{◌>>=◌, words_of, is_text, is_comment, number_in}

-- a value passes the test, or is the reason
abbrev pub judged : {A : Type 0} → ScriptReason → Bool → A → Result A ScriptReason
judged reason good x = if good then Ok x else Err reason

-- what the image has of a guest, where it has that guest
abbrev pub of_guest : Option ℕ → Result ℕ ScriptReason
of_guest None = Err Guest
of_guest (Some count) = Ok count

abbrev pub line_of : Event → ℕ → ℕ → ScriptLine
line_of event first times = record { event = event; first = first; times = times; each = false }

-- a vcpu of the image: its guest is looked at first
abbrev pub vcpu_named : Shape → ℕ → ℕ → Result VcpuId ScriptReason
vcpu_named shape guest vcpu = do
  count ← of_guest (slice_get shape.vcpus guest)
  index ← judged Vcpu (nat_lt vcpu count) vcpu
  Ok (record { guest = record { 0 = guest }; index = index })

abbrev pub place_values : Shape → ℕ → ℕ → ℕ → ℕ → Result ScriptLine ScriptReason
place_values shape first cpu guest vcpu = do
  there ← judged Cpu (nat_lt cpu shape.cpus) cpu
  id ← vcpu_named shape guest vcpu
  Ok (line_of (Place (record { 0 = there }) id) first 1)

-- place CPU GUEST VCPU
unfoldable pub place_line : Shape → ℕ → List (List ℕ) → Result ScriptLine ScriptReason
place_line shape first [] = Err Words
place_line shape first (a ∷ []) = Err Words
place_line shape first (a ∷ b ∷ []) = Err Words
place_line shape first (cpu ∷ guest ∷ vcpu ∷ []) = do
  c ← number_in cpu
  g ← number_in guest
  v ← number_in vcpu
  place_values shape first c g v
place_line shape first (a ∷ b ∷ c ∷ d ∷ words) = Err Words

-- the most events of a line, and of a script
abbrev pub event_limit : ℕ
event_limit = 1048576

abbrev pub run_values : Shape → ℕ → ℕ → ℕ → Result ScriptLine ScriptReason
run_values shape first cpu count = do
  there ← judged Cpu (nat_lt cpu shape.cpus) cpu
  times ← judged Count (nat_le 1 count && nat_le count event_limit) count
  Ok (line_of (Run (record { 0 = there })) first times)

-- run CPU COUNT
unfoldable pub run_line : Shape → ℕ → List (List ℕ) → Result ScriptLine ScriptReason
run_line shape first [] = Err Words
run_line shape first (a ∷ []) = Err Words
run_line shape first (cpu ∷ count ∷ []) = do
  c ← number_in cpu
  n ← number_in count
  run_values shape first c n
run_line shape first (a ∷ b ∷ c ∷ words) = Err Words

-- so many rounds of one run on each processor, in their order; the event is the first of them
abbrev pub each_values : ℕ → ℕ → Result ScriptLine ScriptReason
each_values first count = do
  rounds ← judged Count (nat_le 1 count && nat_le count event_limit) count
  Ok (record { event = Run (record { 0 = 0 }); first = first; times = rounds; each = true })

-- each COUNT
unfoldable pub each_line : ℕ → List (List ℕ) → Result ScriptLine ScriptReason
each_line first [] = Err Words
each_line first (count ∷ []) = do
  n ← number_in count
  each_values first n
each_line first (a ∷ b ∷ words) = Err Words

abbrev pub feed_values : ℕ → ℕ → ℕ → Result ScriptLine ScriptReason
feed_values first device value = do
  place ← judged Device (nat_lt device device_count) device
  fed ← judged Value (nat_lt value (2 ^ 32)) value
  Ok (line_of (Feed place fed) first 1)

-- feed DEVICE VALUE
unfoldable pub feed_line : ℕ → List (List ℕ) → Result ScriptLine ScriptReason
feed_line first [] = Err Words
feed_line first (a ∷ []) = Err Words
feed_line first (device ∷ value ∷ []) = do
  d ← number_in device
  v ← number_in value
  feed_values first d v
feed_line first (a ∷ b ∷ c ∷ words) = Err Words

-- the vectors below 16 are the processor's own
abbrev pub irq_values : Shape → ℕ → ℕ → ℕ → ℕ → Result ScriptLine ScriptReason
irq_values shape first guest vcpu vector = do
  id ← vcpu_named shape guest vcpu
  sent ← judged Vector (nat_le 16 vector && nat_le vector 255) vector
  Ok (line_of (Irq id sent) first 1)

-- irq GUEST VCPU VECTOR
unfoldable pub irq_line : Shape → ℕ → List (List ℕ) → Result ScriptLine ScriptReason
irq_line shape first [] = Err Words
irq_line shape first (a ∷ []) = Err Words
irq_line shape first (a ∷ b ∷ []) = Err Words
irq_line shape first (guest ∷ vcpu ∷ vector ∷ []) = do
  g ← number_in guest
  v ← number_in vcpu
  n ← number_in vector
  irq_values shape first g v n
irq_line shape first (a ∷ b ∷ c ∷ d ∷ words) = Err Words

abbrev pub nmi_values : Shape → ℕ → ℕ → ℕ → Result ScriptLine ScriptReason
nmi_values shape first guest vcpu = do
  id ← vcpu_named shape guest vcpu
  Ok (line_of (Nmi id) first 1)

-- nmi GUEST VCPU
unfoldable pub nmi_line : Shape → ℕ → List (List ℕ) → Result ScriptLine ScriptReason
nmi_line shape first [] = Err Words
nmi_line shape first (a ∷ []) = Err Words
nmi_line shape first (guest ∷ vcpu ∷ []) = do
  g ← number_in guest
  v ← number_in vcpu
  nmi_values shape first g v
nmi_line shape first (a ∷ b ∷ c ∷ words) = Err Words

abbrev pub unplug_values : ℕ → ℕ → Result ScriptLine ScriptReason
unplug_values first device = do
  place ← judged Device (nat_lt device device_count) device
  Ok (line_of (Unplug place) first 1)

-- unplug DEVICE
unfoldable pub unplug_line : ℕ → List (List ℕ) → Result ScriptLine ScriptReason
unplug_line first [] = Err Words
unplug_line first (device ∷ []) = do
  d ← number_in device
  unplug_values first d
unplug_line first (a ∷ b ∷ words) = Err Words

-- the address is looked at behind the length
abbrev pub dump_values : Shape → ℕ → ℕ → ℕ → ℕ → Result ScriptLine ScriptReason
dump_values shape first guest address length = do
  size ← of_guest (slice_get shape.sizes guest)
  count ← judged Length (nat_le 1 length && nat_le length dump_limit) length
  at ← judged Address (nat_le (address + count) size) address
  Ok (line_of (Dump (record { 0 = guest }) at count) first 1)

-- dump GUEST ADDRESS LENGTH
unfoldable pub dump_line : Shape → ℕ → List (List ℕ) → Result ScriptLine ScriptReason
dump_line shape first [] = Err Words
dump_line shape first (a ∷ []) = Err Words
dump_line shape first (a ∷ b ∷ []) = Err Words
dump_line shape first (guest ∷ address ∷ length ∷ []) = do
  g ← number_in guest
  a ← number_in address
  l ← number_in length
  dump_values shape first g a l
dump_line shape first (a ∷ b ∷ c ∷ d ∷ words) = Err Words

-- what the words behind a first word say
abbrev pub command : Shape → ℕ → List ℕ → List (List ℕ) → Result ScriptLine ScriptReason
command shape first word words =
    if bytes_eq word (codes "place") then place_line shape first words
    else if bytes_eq word (codes "run") then run_line shape first words
    else if bytes_eq word (codes "each") then each_line first words
    else if bytes_eq word (codes "feed") then feed_line first words
    else if bytes_eq word (codes "irq") then irq_line shape first words
    else if bytes_eq word (codes "nmi") then nmi_line shape first words
    else if bytes_eq word (codes "unplug") then unplug_line first words
    else if bytes_eq word (codes "dump") then dump_line shape first words
    else Err Word

-- how many events one round of a line has: one, or one for each of so many processors
abbrev pub round_length : ℕ → ScriptLine → ℕ
round_length cpus line = if line.each then cpus else 1

-- how many events a line has
abbrev pub line_length : ℕ → ScriptLine → ℕ
line_length cpus line = line.times * round_length cpus line

-- no line goes past the most events
abbrev pub within_limit : ℕ → ScriptLine → Result ScriptLine ScriptReason
within_limit cpus line = judged Events (nat_le (line.first + line_length cpus line) event_limit) line

-- the bytes of the line are looked at first, then the words, and the events last
abbrev pub said_by : Shape → ℕ → List ℕ → List ℕ → List (List ℕ) → Result (Option ScriptLine) ScriptReason
said_by shape first line word words = do
  text ← judged Bytes (list_all is_text line) line
  spoken ← command shape first word words
  kept ← within_limit shape.cpus spoken
  Ok (Some kept)

abbrev pub said_in : Shape → ℕ → List ℕ → List (List ℕ) → Result (Option ScriptLine) ScriptReason
said_in shape first line [] = Ok None
said_in shape first line (word ∷ words) = if is_comment word then Ok None else said_by shape first line word words

-- what a line says: nothing where it has no word or is a comment
unfoldable pub said_of : Shape → ℕ → List ℕ → Result (Option ScriptLine) ScriptReason
said_of shape first line = said_in shape first line (words_of line)
