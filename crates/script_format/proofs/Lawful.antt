-- Each script that is read is lawful.
use Rattle.std.proofs.Common.{◌≡◌, ℕ, ◌+◌, ◌≤◌, ◌<◌, ◌^◌, cond, ltb, leb, ◌&&◌, Bool, true, false, List, [], ◌∷◌, ◌++◌, Option, Some, None, length, Result, Ok, Err, refl, subst, arith, codes}
use Rattle.std.specs.Prelude.{IfOk, ⊤}
use Rattle.std.specs.List.{list_all, slice_get}
use Rattle.std.specs.Str.{bytes_eq}
use Rattle.std.specs.Option.{option_to_list}
use Rattle.std.proofs.lemmas.Result.{IfOk-weaker}
use Rattle.std.proofs.lemmas.Bool.{ltb-true, leb-true, and_parts}
use Rattle.svm_model.specs.Machine.Bus.{device_count}
use Rattle.svm_model.specs.Formats.Image.{Image}
use Rattle.svm_model.specs.Formats.Script.{Script, at_line, count_of, script_from, script_limit, script_of, IsLawfulLine, AreLawful, IsLawful, events_of}
use Rattle.svm_model.specs.Formats.ScriptLines.{judged, of_guest, vcpu_named, place_values, place_line, run_values, run_line, each_values, each_line, feed_values, feed_line, irq_values, irq_line, nmi_values, nmi_line, unplug_values, unplug_line, dump_values, dump_line, command, line_length, within_limit, said_by, said_in, said_of, event_limit}
use Rattle.svm_model.specs.Formats.ScriptWords.{◌>>=◌, number_in, is_text, is_comment, words_of, lines_of}
use Rattle.svm_model.specs.Machine.Shapes.{Shape, IsVcpu, dump_limit, image_shape}
use Rattle.svm_model.specs.declared.formats.ScriptLine.{ScriptLine}
use Rattle.svm_model.specs.declared.formats.ScriptReason.{ScriptReason}
use Rattle.svm_model.specs.declared.formats.ScriptReason.TheVariants.{Bytes, Cpu, Vcpu, Device, Count, Value, Vector, Length, Address, Events}
use Rattle.script_format.specs.declared.refusal.ScriptRefusal.{ScriptRefusal}
use Rattle.script_format.specs.Reading.{GivesScript}
use Rattle.script_format.proofs.Order.{all_counted}

-- what a step gives has a property if what follows a good value always does
then : {A B E : Type 0} (P : A → Type 0) (Q : B → Type 0) (r : Result A E) (f : A → Result B E) → IfOk r P → ((x : A) → P x → IfOk (f x) Q) → IfOk (r >>= f) Q
then P Q (Ok x) f p q = q x p
then P Q (Err e) f p q = tt

-- a step whose value says nothing
skip : {A B E : Type 0} (Q : B → Type 0) (r : Result A E) (f : A → Result B E) → ((x : A) → IfOk (f x) Q) → IfOk (r >>= f) Q
skip Q (Ok x) f q = q x
skip Q (Err e) f q = tt

-- what passed a test
passes : {A : Type 0} (reason : ScriptReason) (good : Bool) (x : A) (Q : A → Type 0) → (good ≡ true → Q x) → IfOk (judged reason good x) Q
passes reason true x Q h = h refl
passes reason false x Q h = tt

either : {A E : Type 0} (test : Bool) (r s : Result A E) (Q : A → Type 0) → IfOk r Q → IfOk s Q → IfOk (cond test r s) Q
either true r s Q h k = h
either false r s Q h k = k

-- a lawful line that begins at a number
abbrev BeginsAt : Shape → ℕ → ScriptLine → Type 0
BeginsAt shape first line = IsLawfulLine shape line × (line.first ≡ first)

counted : (o : Option ℕ) → IfOk (of_guest o) (λ count. o ≡ Some count)
counted None = tt
counted (Some count) = refl

vcpu_is : (shape : Shape) (guest vcpu : ℕ) → IfOk (vcpu_named shape guest vcpu) (IsVcpu shape)
vcpu_is shape guest vcpu =
    then (λ count. slice_get shape.vcpus guest ≡ Some count) (IsVcpu shape) (of_guest (slice_get shape.vcpus guest)) _ (counted (slice_get shape.vcpus guest)) (λ count a.
    then (λ index. index < count) (IsVcpu shape) (judged Vcpu (ltb vcpu count) vcpu) _ (passes Vcpu (ltb vcpu count) vcpu (λ index. index < count) (λ good. ltb-true vcpu count good)) (λ index b.
    (count, a, b)))

place_is : (shape : Shape) (first cpu guest vcpu : ℕ) → IfOk (place_values shape first cpu guest vcpu) (BeginsAt shape first)
place_is shape first cpu guest vcpu =
    then (λ there. there < shape.cpus) (BeginsAt shape first) (judged Cpu (ltb cpu shape.cpus) cpu) _ (passes Cpu (ltb cpu shape.cpus) cpu (λ there. there < shape.cpus) (λ good. ltb-true cpu shape.cpus good)) (λ there a.
    then (IsVcpu shape) (BeginsAt shape first) (vcpu_named shape guest vcpu) _ (vcpu_is shape guest vcpu) (λ id b.
    (record { named = (a, b); some = omega arith }, refl)))

place_line_is : (shape : Shape) (first : ℕ) (words : List (List ℕ)) → IfOk (place_line shape first words) (BeginsAt shape first)
unfolding place_line
place_line_is shape first [] = tt
place_line_is shape first (a ∷ []) = tt
place_line_is shape first (a ∷ b ∷ []) = tt
place_line_is shape first (cpu ∷ guest ∷ vcpu ∷ []) =
    skip (BeginsAt shape first) (number_in cpu) _ (λ c.
    skip (BeginsAt shape first) (number_in guest) _ (λ g.
    skip (BeginsAt shape first) (number_in vcpu) _ (λ v.
    place_is shape first c g v)))
place_line_is shape first (a ∷ b ∷ c ∷ d ∷ words) = tt

count_is : (count : ℕ) → IfOk (judged Count (leb 1 count && leb count event_limit) count) (λ times. 1 ≤ times)
count_is count =
    passes Count (leb 1 count && leb count event_limit) count (λ times. 1 ≤ times) (λ good. leb-true 1 count (and_parts (leb 1 count) (leb count event_limit) good).0)

run_is : (shape : Shape) (first cpu count : ℕ) → IfOk (run_values shape first cpu count) (BeginsAt shape first)
run_is shape first cpu count =
    then (λ there. there < shape.cpus) (BeginsAt shape first) (judged Cpu (ltb cpu shape.cpus) cpu) _ (passes Cpu (ltb cpu shape.cpus) cpu (λ there. there < shape.cpus) (λ good. ltb-true cpu shape.cpus good)) (λ there a.
    then (λ times. 1 ≤ times) (BeginsAt shape first) (judged Count (leb 1 count && leb count event_limit) count) _ (count_is count) (λ times b.
    (record { named = a; some = omega arith }, refl)))

run_line_is : (shape : Shape) (first : ℕ) (words : List (List ℕ)) → IfOk (run_line shape first words) (BeginsAt shape first)
unfolding run_line
run_line_is shape first [] = tt
run_line_is shape first (a ∷ []) = tt
run_line_is shape first (cpu ∷ count ∷ []) =
    skip (BeginsAt shape first) (number_in cpu) _ (λ c.
    skip (BeginsAt shape first) (number_in count) _ (λ n.
    run_is shape first c n))
run_line_is shape first (a ∷ b ∷ c ∷ words) = tt

each_is : (shape : Shape) (first count : ℕ) → 0 < shape.cpus → IfOk (each_values first count) (BeginsAt shape first)
each_is shape first count cpus =
    then (λ times. 1 ≤ times) (BeginsAt shape first) (judged Count (leb 1 count && leb count event_limit) count) _ (count_is count) (λ times a.
    (record { named = (refl, cpus); some = omega arith }, refl))

each_line_is : (shape : Shape) (first : ℕ) (words : List (List ℕ)) → 0 < shape.cpus → IfOk (each_line first words) (BeginsAt shape first)
unfolding each_line
each_line_is shape first [] cpus = tt
each_line_is shape first (count ∷ []) cpus = skip (BeginsAt shape first) (number_in count) _ (λ n. each_is shape first n cpus)
each_line_is shape first (a ∷ b ∷ words) cpus = tt

device_is : (device : ℕ) → IfOk (judged Device (ltb device device_count) device) (λ place. place < device_count)
device_is device = passes Device (ltb device device_count) device (λ place. place < device_count) (λ good. ltb-true device device_count good)

feed_is : (shape : Shape) (first device value : ℕ) → IfOk (feed_values first device value) (BeginsAt shape first)
feed_is shape first device value =
    then (λ place. place < device_count) (BeginsAt shape first) (judged Device (ltb device device_count) device) _ (device_is device) (λ place a.
    skip (BeginsAt shape first) (judged Value (ltb value (2 ^ 32)) value) _ (λ fed.
    (record { named = a; some = omega arith }, refl)))

feed_line_is : (shape : Shape) (first : ℕ) (words : List (List ℕ)) → IfOk (feed_line first words) (BeginsAt shape first)
unfolding feed_line
feed_line_is shape first [] = tt
feed_line_is shape first (a ∷ []) = tt
feed_line_is shape first (device ∷ value ∷ []) =
    skip (BeginsAt shape first) (number_in device) _ (λ d.
    skip (BeginsAt shape first) (number_in value) _ (λ v.
    feed_is shape first d v))
feed_line_is shape first (a ∷ b ∷ c ∷ words) = tt

irq_is : (shape : Shape) (first guest vcpu vector : ℕ) → IfOk (irq_values shape first guest vcpu vector) (BeginsAt shape first)
irq_is shape first guest vcpu vector =
    then (IsVcpu shape) (BeginsAt shape first) (vcpu_named shape guest vcpu) _ (vcpu_is shape guest vcpu) (λ id a.
    skip (BeginsAt shape first) (judged Vector (leb 16 vector && leb vector 255) vector) _ (λ sent.
    (record { named = a; some = omega arith }, refl)))

irq_line_is : (shape : Shape) (first : ℕ) (words : List (List ℕ)) → IfOk (irq_line shape first words) (BeginsAt shape first)
unfolding irq_line
irq_line_is shape first [] = tt
irq_line_is shape first (a ∷ []) = tt
irq_line_is shape first (a ∷ b ∷ []) = tt
irq_line_is shape first (guest ∷ vcpu ∷ vector ∷ []) =
    skip (BeginsAt shape first) (number_in guest) _ (λ g.
    skip (BeginsAt shape first) (number_in vcpu) _ (λ v.
    skip (BeginsAt shape first) (number_in vector) _ (λ n.
    irq_is shape first g v n)))
irq_line_is shape first (a ∷ b ∷ c ∷ d ∷ words) = tt

nmi_is : (shape : Shape) (first guest vcpu : ℕ) → IfOk (nmi_values shape first guest vcpu) (BeginsAt shape first)
nmi_is shape first guest vcpu =
    then (IsVcpu shape) (BeginsAt shape first) (vcpu_named shape guest vcpu) _ (vcpu_is shape guest vcpu) (λ id a.
    (record { named = a; some = omega arith }, refl))

nmi_line_is : (shape : Shape) (first : ℕ) (words : List (List ℕ)) → IfOk (nmi_line shape first words) (BeginsAt shape first)
unfolding nmi_line
nmi_line_is shape first [] = tt
nmi_line_is shape first (a ∷ []) = tt
nmi_line_is shape first (guest ∷ vcpu ∷ []) =
    skip (BeginsAt shape first) (number_in guest) _ (λ g.
    skip (BeginsAt shape first) (number_in vcpu) _ (λ v.
    nmi_is shape first g v))
nmi_line_is shape first (a ∷ b ∷ c ∷ words) = tt

unplug_is : (shape : Shape) (first device : ℕ) → IfOk (unplug_values first device) (BeginsAt shape first)
unplug_is shape first device =
    then (λ place. place < device_count) (BeginsAt shape first) (judged Device (ltb device device_count) device) _ (device_is device) (λ place a.
    (record { named = a; some = omega arith }, refl))

unplug_line_is : (shape : Shape) (first : ℕ) (words : List (List ℕ)) → IfOk (unplug_line first words) (BeginsAt shape first)
unfolding unplug_line
unplug_line_is shape first [] = tt
unplug_line_is shape first (device ∷ []) = skip (BeginsAt shape first) (number_in device) _ (λ d. unplug_is shape first d)
unplug_line_is shape first (a ∷ b ∷ words) = tt

dump_is : (shape : Shape) (first guest address length : ℕ) → IfOk (dump_values shape first guest address length) (BeginsAt shape first)
dump_is shape first guest address length =
    let fits = leb 1 length && leb length dump_limit in
    then (λ size. slice_get shape.sizes guest ≡ Some size) (BeginsAt shape first) (of_guest (slice_get shape.sizes guest)) _ (counted (slice_get shape.sizes guest)) (λ size a.
    then (λ count. (1 ≤ count) × (count ≤ dump_limit)) (BeginsAt shape first) (judged Length fits length) _
    (passes Length fits length (λ count. (1 ≤ count) × (count ≤ dump_limit)) (λ good.
    let parts = and_parts (leb 1 length) (leb length dump_limit) good in
    (leb-true 1 length parts.0, leb-true length dump_limit parts.1))) (λ count b.
    then (λ at. at + count ≤ size) (BeginsAt shape first) (judged Address (leb (address + count) size) address) _
    (passes Address (leb (address + count) size) address (λ at. at + count ≤ size) (λ good. leb-true (address + count) size good)) (λ at d.
    (record { named = record { size = size; there = a; some = b.0; most = b.1; within = d }; some = omega arith }, refl))))

dump_line_is : (shape : Shape) (first : ℕ) (words : List (List ℕ)) → IfOk (dump_line shape first words) (BeginsAt shape first)
unfolding dump_line
dump_line_is shape first [] = tt
dump_line_is shape first (a ∷ []) = tt
dump_line_is shape first (a ∷ b ∷ []) = tt
dump_line_is shape first (guest ∷ address ∷ length ∷ []) =
    skip (BeginsAt shape first) (number_in guest) _ (λ g.
    skip (BeginsAt shape first) (number_in address) _ (λ a.
    skip (BeginsAt shape first) (number_in length) _ (λ l.
    dump_is shape first g a l)))
dump_line_is shape first (a ∷ b ∷ c ∷ d ∷ words) = tt

command_is : (shape : Shape) (first : ℕ) (word : List ℕ) (words : List (List ℕ)) → 0 < shape.cpus → IfOk (command shape first word words) (BeginsAt shape first)
command_is shape first word words cpus =
    either (bytes_eq word (codes "place")) _ _ (BeginsAt shape first) (place_line_is shape first words)
    (either (bytes_eq word (codes "run")) _ _ (BeginsAt shape first) (run_line_is shape first words)
    (either (bytes_eq word (codes "each")) _ _ (BeginsAt shape first) (each_line_is shape first words cpus)
    (either (bytes_eq word (codes "feed")) _ _ (BeginsAt shape first) (feed_line_is shape first words)
    (either (bytes_eq word (codes "irq")) _ _ (BeginsAt shape first) (irq_line_is shape first words)
    (either (bytes_eq word (codes "nmi")) _ _ (BeginsAt shape first) (nmi_line_is shape first words)
    (either (bytes_eq word (codes "unplug")) _ _ (BeginsAt shape first) (unplug_line_is shape first words)
    (either (bytes_eq word (codes "dump")) _ _ (BeginsAt shape first) (dump_line_is shape first words) tt)))))))

-- what a line says is lawful, begins at the number, and does not go past the most events
abbrev IsKept : Shape → ℕ → ScriptLine → Type 0
IsKept shape first line = BeginsAt shape first line × (line.first + line_length shape.cpus line ≤ 1048576)

abbrev IsSaid : Shape → ℕ → Option ScriptLine → Type 0
IsSaid shape first None = ⊤
IsSaid shape first (Some line) = IsKept shape first line

limited : (shape : Shape) (first : ℕ) (line : ScriptLine) → BeginsAt shape first line → IfOk (within_limit shape.cpus line) (IsKept shape first)
limited shape first line h =
    let end : ℕ = line.first + line_length shape.cpus line in
    passes Events (leb end event_limit) line (IsKept shape first) (λ good. (h, leb-true end event_limit good))

said_by_is : (shape : Shape) (first : ℕ) (line word : List ℕ) (words : List (List ℕ)) → 0 < shape.cpus → IfOk (said_by shape first line word words) (IsSaid shape first)
said_by_is shape first line word words cpus =
    skip (IsSaid shape first) (judged Bytes (list_all is_text line) line) _ (λ text.
    then (BeginsAt shape first) (IsSaid shape first) (command shape first word words) _ (command_is shape first word words cpus) (λ spoken a.
    then (IsKept shape first) (IsSaid shape first) (within_limit shape.cpus spoken) _ (limited shape first spoken a) (λ kept b.
    b)))

said_in_is : (shape : Shape) (first : ℕ) (line : List ℕ) (words : List (List ℕ)) → 0 < shape.cpus → IfOk (said_in shape first line words) (IsSaid shape first)
said_in_is shape first line [] cpus = tt
said_in_is shape first line (word ∷ words) cpus =
    either (is_comment word) (Ok None) (said_by shape first line word words) (IsSaid shape first) tt (said_by_is shape first line word words cpus)

said_of_is : (shape : Shape) (first : ℕ) (line : List ℕ) → 0 < shape.cpus → IfOk (said_of shape first line) (IsSaid shape first)
unfolding said_of
said_of_is shape first line cpus = said_in_is shape first line (words_of line) cpus

at_line_is : {A : Type 0} (line : ℕ) (r : Result A ScriptReason) (P : A → Type 0) → IfOk r P → IfOk (at_line line r) P
at_line_is line (Ok x) P h = h
at_line_is line (Err reason) P h = tt

within : (shape : Shape) (first : ℕ) (said : Option ScriptLine) → first ≤ 1048576 → IsSaid shape first said → first + count_of shape.cpus said ≤ 1048576
within shape first None few h = omega arith
within shape first (Some line) few h = subst (λ n. n + line_length shape.cpus line ≤ 1048576) h.0.1 h.1

-- how many events there are behind a line
pub few_behind : (shape : Shape) (line first : ℕ) (text : List ℕ) (said : Option ScriptLine) → 0 < shape.cpus → first ≤ 1048576 → at_line line (said_of shape first text) ≡ Ok said
    → first + count_of shape.cpus said ≤ 1048576
few_behind shape line first text said cpus few h =
    within shape first said few (rw h at (at_line_is line (said_of shape first text) (IsSaid shape first) (said_of_is shape first text cpus)))

abbrev IsLawfulFrom : Shape → ℕ → Script → Type 0
IsLawfulFrom shape first script = AreLawful shape first script.lines script.events × (script.events ≤ 1048576)

with_said : (shape : Shape) (first : ℕ) (said : Option ScriptLine) (rest : Script) → IsSaid shape first said → IsLawfulFrom shape (first + count_of shape.cpus said) rest
    → IsLawfulFrom shape first (record { lines = option_to_list said ++ rest.lines; events = rest.events })
with_said shape first None rest h k =
    let same : first + 0 ≡ first = omega arith in
    subst (λ n. IsLawfulFrom shape n rest) same k
with_said shape first (Some line) rest h k = ((h.0.0, h.0.1, k.0), k.1)

script_from_is : (shape : Shape) (line first : ℕ) (texts : List (List ℕ)) → 0 < shape.cpus → first ≤ 1048576 → IfOk (script_from shape line first texts) (IsLawfulFrom shape first)
unfolding script_from
script_from_is shape line first [] cpus few = (refl, few)
script_from_is shape line first (text ∷ texts) cpus few =
    then (IsSaid shape first) (IsLawfulFrom shape first) (at_line line (said_of shape first text)) _ (at_line_is line (said_of shape first text) (IsSaid shape first) (said_of_is shape first text cpus)) (λ said a.
    let next : ℕ = first + count_of shape.cpus said in
    then (IsLawfulFrom shape next) (IsLawfulFrom shape first) (script_from shape (line + 1) next texts) _ (script_from_is shape (line + 1) next texts cpus (within shape first said few a)) (λ rest b.
    with_said shape first said rest a b))

script_of-lawful : (bytes : List ℕ) (image : Image) → 1 ≤ image.cpus → IfOk (script_of bytes image) (IsLawful (image_shape image))
unfolding script_of
script_of-lawful bytes image cpus =
    let shape : Shape = image_shape image in
    either (ltb script_limit (length bytes)) _ (script_from shape 1 0 (lines_of bytes)) (IsLawful shape) tt
    (IfOk-weaker (script_from shape 1 0 (lines_of bytes)) (IsLawfulFrom shape 0) (IsLawful shape) (λ script h. record { lines = h.0; few = h.1 }) (script_from_is shape 1 0 (lines_of bytes) (omega arith) (omega arith)))

-- what the code answers is what the definition gives
pub GivesScript-lawful : (bytes : List ℕ) (image : Image) (r : Result Script ScriptRefusal) → 1 ≤ image.cpus → GivesScript r (script_of bytes image) → IfOk r (IsLawful (image_shape image))
GivesScript-lawful bytes image (Ok script) cpus given = rw given at (script_of-lawful bytes image cpus)
GivesScript-lawful bytes image (Err refusal) cpus given = tt

-- its events are all that it counts
pub GivesScript-counted : (bytes : List ℕ) (image : Image) (r : Result Script ScriptRefusal) → 1 ≤ image.cpus → GivesScript r (script_of bytes image)
    → IfOk r (λ script. length (events_of image.cpus script) ≡ script.events)
GivesScript-counted bytes image r cpus given = IfOk-weaker r _ _ (λ script h. all_counted (image_shape image) script h) (GivesScript-lawful bytes image r cpus given)
