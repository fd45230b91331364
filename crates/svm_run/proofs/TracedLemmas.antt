-- The block of an event, by the guest of the vcpu that ran: the memory of all others stays.
use Rattle.std.proofs.Common.{◌≡◌, ◌∙◌, ℕ, zero, suc, ◌+◌, ◌*◌, ◌/◌, ◌<◌, List, [], ◌∷◌, ◌++◌, Option, Some, None, length, map, drop, ap, sym, subst, refl, arith, append_assoc, append-nil, slice_get}
use Rattle.std.specs.List.{flat_map}
use Rattle.std.proofs.Math.ListN.{get_or, set}
use Rattle.std.proofs.lemmas.List.{length-map}
use Rattle.std.specs.Option.{option_map}
use Rattle.svm_model.specs.Formats.Text.{out_line, vcpu_line}
use Rattle.svm_model.specs.Formats.Trace.{block, block_of, changed_lines, end_line, event_line, guests_memory_lines, memory_lines, memory_of, pages_lines, ran_line, sent_lines, shown_line, vcpu_text, vcpus_text}
use Rattle.svm_model.specs.Machine.Bus.{Bus}
use Rattle.svm_model.specs.Machine.Events.{event_of, plain_event, run_of, with_timers}
use Rattle.svm_model.specs.Machine.Guest.{Guest, level_in}
use Rattle.svm_model.specs.Machine.Shapes.{Shape, IsVcpu, IsWellFormed, world_shape}
use Rattle.svm_model.specs.Machine.World.{World}
use Rattle.svm_model.specs.Memory.Bytes.{page_at}
use Rattle.svm_model.specs.declared.names.Effect.{Effect}
use Rattle.svm_model.specs.declared.names.Event.{Event}
use Rattle.svm_model.specs.declared.names.Event.TheVariants.{Place, Run, Feed, Irq, Nmi, Unplug, Dump}
use Rattle.svm_model.specs.declared.names.VcpuId.{VcpuId}
use Rattle.svm_model.specs.declared.ports.PortWrite.{PortWrite}
use Rattle.svm_model.specs.declared.vcpus.Vcpu.{Vcpu}
use Rattle.plain_machine.specs.Machines.{Machine, vcpu_in, vcpu_of}
use Rattle.plain_machine.specs.Marks.{ChangesAreMarked}
use Rattle.plain_machine.specs.Others.{HasNoTurn, IsNotOf, OthersStay, memory_of as told_memory}
use Rattle.byte_shelf.specs.Sink.{IsCutShort}
use Rattle.svm_run.proofs.Received.{appended-nothing}
use Rattle.report_text.proofs.TraceLemmas.{changed_lines-same}
use Rattle.svm_run.specs.Blocks.{changes_of, copies_after, copy_of, memories_in, memory_in, ran_lines, HasRun, MayHaveRun}

-- Who ran.

abbrev placed_at : Option (Option VcpuId) → Option VcpuId
placed_at None = None
placed_at (Some o) = o

-- the vcpu that an event gives a turn
abbrev pub ran_at : World → Event → Option VcpuId
ran_at w (Place cpu id) = None
ran_at w (Run cpu) = placed_at (slice_get w.placing cpu.0)
ran_at w (Feed device value) = None
ran_at w (Irq id vector) = None
ran_at w (Nmi id) = None
ran_at w (Unplug device) = None
ran_at w (Dump guest address length) = None

by-place : (w : World) (bus : Bus) (o : Option (Option VcpuId)) → (run_of w bus o).effect.vcpu ≡ placed_at o
by-place w bus None = refl
by-place w bus (Some None) = refl
by-place w bus (Some (Some id)) = refl

pub effect-ran : (w : World) (bus : Bus) (event : Event) → (plain_event w bus event).effect.vcpu ≡ ran_at w event
unfolding event_of with_timers
effect-ran w bus (Place cpu id) = refl
effect-ran w bus (Run cpu) = by-place (with_timers w) bus (slice_get w.placing cpu.0)
effect-ran w bus (Feed device value) = refl
effect-ran w bus (Irq id vector) = refl
effect-ran w bus (Nmi id) = refl
effect-ran w bus (Unplug device) = refl
effect-ran w bus (Dump guest address length) = refl

-- a guest of which no vcpu ran has no turn
abbrev IsOther : ℕ → Option VcpuId → Type 0
IsOther guest None = Unit {0}
IsOther guest (Some id) = id.guest.0 ≡ guest → ⊥

no-turn-by : (w : World) (cpu : ℕ) (guest : ℕ) (o : Option (Option VcpuId)) → slice_get w.placing cpu ≡ o → IsOther guest (placed_at o) → HasNoTurn w (Run (record { 0 = cpu })) guest
no-turn-by w cpu guest o e h = subst (λ p. IsNotOf guest p) (sym e) (by o h)
  where
    by : (p : Option (Option VcpuId)) → IsOther guest (placed_at p) → IsNotOf guest p
    by None h = tt
    by (Some None) h = tt
    by (Some (Some id)) h = h

no-turn : (w : World) (event : Event) (guest : ℕ) → IsOther guest (ran_at w event) → HasNoTurn w event guest
no-turn w (Place cpu id) guest h = tt
no-turn w (Run cpu) guest h = no-turn-by w cpu.0 guest (slice_get w.placing cpu.0) refl h
no-turn w (Feed device value) guest h = tt
no-turn w (Irq id vector) guest h = tt
no-turn w (Nmi id) guest h = tt
no-turn w (Unplug device) guest h = tt
no-turn w (Dump g address length) guest h = tt

abbrev unwrapped : Option (List ℕ) → List ℕ
unwrapped None = []
unwrapped (Some memory) = memory

unwraps : (o : Option Guest) → memory_of o ≡ unwrapped (told_memory o)
unwraps None = refl
unwraps (Some guest) = refl

-- its memory stays
stays : (w v : World) (event : Event) (guest : ℕ) → OthersStay w event v → IsOther guest (ran_at w event) → memory_in v guest ≡ memory_in w guest
stays w v event guest others h = unwraps (slice_get v.guests guest) ∙ ap unwrapped (others guest (no-turn w event guest h)) ∙ sym (unwraps (slice_get w.guests guest))

-- The lines of what changed.

pages-same : (guest : ℕ) (m : List ℕ) (count : ℕ) → pages_lines guest m m count ≡ []
unfolding pages_lines
pages-same guest m zero = refl
pages-same guest m (suc count) =
    ap (λ l. l ++ changed_lines guest (4096 * count) [] (page_at m count) (page_at m count)) (pages-same guest m count)
    ∙ changed_lines-same guest (4096 * count) (page_at m count)

lines-same : (guest : ℕ) (old new : List ℕ) → new ≡ old → memory_lines guest old new ≡ []
lines-same guest old new e = ap (λ m. memory_lines guest old m) e ∙ pages-same guest old (length old / 4096)

lines-none : (n : ℕ) (old new : List Guest) → ((i : ℕ) → memory_of (slice_get new i) ≡ memory_of (slice_get old i)) → guests_memory_lines n old new ≡ []
unfolding guests_memory_lines
lines-none n [] new same = refl
lines-none n (g ∷ old) [] same = refl
lines-none n (g ∷ old) (h ∷ new) same =
    ap (λ l. l ++ guests_memory_lines (n + 1) old new) (lines-same n g.memory h.memory (same 0))
    ∙ lines-none (n + 1) old new (λ i. same (suc i))

lines-one : (n : ℕ) (old new : List Guest) (guest : ℕ) → length old ≡ length new → guest < length old → ((i : ℕ) → (guest ≡ i → ⊥) → memory_of (slice_get new i) ≡ memory_of (slice_get old i)) →
    guests_memory_lines n old new ≡ memory_lines (n + guest) (memory_of (slice_get old guest)) (memory_of (slice_get new guest))
unfolding guests_memory_lines
lines-one n [] new guest e h same = absurd (omega (arith, h))
lines-one n (g ∷ old) [] guest e h same = absurd (omega (arith, e))
lines-one n (g ∷ old) (x ∷ new) zero e h same =
    let here : n ≡ n + 0 = omega arith in
    ap (λ l. memory_lines n g.memory x.memory ++ l) (lines-none (n + 1) old new (λ i. same (suc i) (λ f. omega (arith, f))))
    ∙ append-nil (memory_lines n g.memory x.memory)
    ∙ ap (λ k. memory_lines k g.memory x.memory) here
lines-one n (g ∷ old) (x ∷ new) (suc guest) e h same =
    let there : n + 1 + guest ≡ n + suc guest = omega arith in
    ap (λ l. l ++ guests_memory_lines (n + 1) old new) (lines-same n g.memory x.memory (same 0 (λ f. omega (arith, f))))
    ∙ lines-one (n + 1) old new guest (omega (arith, e)) (omega (arith, h)) (λ i d. same (suc i) (λ f. d (omega (arith, f))))
    ∙ ap (λ k. memory_lines k (memory_of (slice_get old guest)) (memory_of (slice_get new guest))) there

-- The copies.

copies-none : (old new : List Guest) → length old ≡ length new → ((i : ℕ) → memory_of (slice_get new i) ≡ memory_of (slice_get old i)) → memories_in old ≡ memories_in new
copies-none [] [] e same = refl
copies-none [] (x ∷ new) e same = absurd (omega (arith, e))
copies-none (g ∷ old) [] e same = absurd (omega (arith, e))
copies-none (g ∷ old) (x ∷ new) e same =
    ap (λ (m : List ℕ). m ∷ memories_in old) (sym (same 0)) ∙ ap (λ ms. x.memory ∷ ms) (copies-none old new (omega (arith, e)) (λ i. same (suc i)))

copies-one : (old new : List Guest) (guest : ℕ) → length old ≡ length new → guest < length old → ((i : ℕ) → (guest ≡ i → ⊥) → memory_of (slice_get new i) ≡ memory_of (slice_get old i)) →
    set (memories_in old) guest (memory_of (slice_get new guest)) ≡ memories_in new
copies-one [] new guest e h same = absurd (omega (arith, h))
copies-one (g ∷ old) [] guest e h same = absurd (omega (arith, e))
copies-one (g ∷ old) (x ∷ new) zero e h same = ap (λ ms. x.memory ∷ ms) (copies-none old new (omega (arith, e)) (λ i. same (suc i) (λ f. omega (arith, f))))
copies-one (g ∷ old) (x ∷ new) (suc guest) e h same =
    ap (λ (m : List ℕ). m ∷ set (memories_in old) guest (memory_of (slice_get new guest))) (sym (same 0 (λ f. omega (arith, f))))
    ∙ ap (λ ms. x.memory ∷ ms) (copies-one old new guest (omega (arith, e)) (omega (arith, h)) (λ i d. same (suc i) (λ f. d (omega (arith, f)))))

copy-memory : (guests : List Guest) (guest : ℕ) → copy_of (memories_in guests) guest ≡ memory_of (slice_get guests guest)
copy-memory [] guest = refl
copy-memory (g ∷ guests) zero = refl
copy-memory (g ∷ guests) (suc guest) = copy-memory guests guest

size-at : (guests : List Guest) (guest : ℕ) → get_or (map (λ (g : Guest). length g.memory) guests) guest 0 ≡ length (memory_of (slice_get guests guest))
size-at [] guest = refl
size-at (g ∷ guests) zero = refl
size-at (g ∷ guests) (suc guest) = size-at guests guest

there-by : (guests : List Guest) (guest count : ℕ) → slice_get (map (λ (g : Guest). length g.vcpus) guests) guest ≡ Some count → guest < length guests
there-by [] guest count e = absurd (cc)
there-by (g ∷ guests) zero count e = omega arith
there-by (g ∷ guests) (suc guest) count e = omega (arith, there-by guests guest count e)

as-many : (w v : World) → world_shape v ≡ world_shape w → length w.guests ≡ length v.guests
as-many w v shape =
    sym (length-map w.guests (λ (g : Guest). length g.vcpus)) ∙ ap (λ (s : Shape). length s.vcpus) (sym shape) ∙ length-map v.guests (λ (g : Guest). length g.vcpus)

same-size : (w v : World) (guest : ℕ) → world_shape v ≡ world_shape w → length (memory_in v guest) ≡ length (memory_in w guest)
same-size w v guest shape = sym (size-at v.guests guest) ∙ ap (λ (s : Shape). get_or s.sizes guest 0) shape ∙ size-at w.guests guest

-- The event's own guest has its copy.

run-there : (w : World) (event : Event) (id : VcpuId) → IsWellFormed w → ran_at w event ≡ Some id → IsVcpu (world_shape w) id
run-there w (Place cpu other) id well e = absurd (cc)
run-there w (Run cpu) id well e = well.there cpu.0 id (placed-some (slice_get w.placing cpu.0) id refl e)
  where
    placed-some : (o : Option (Option VcpuId)) (id : VcpuId) → slice_get w.placing cpu.0 ≡ o → placed_at o ≡ Some id → slice_get w.placing cpu.0 ≡ Some (Some id)
    placed-some None id f g = absurd (cc)
    placed-some (Some o) id f g = f ∙ ap (λ (p : Option VcpuId). Some p) g
run-there w (Feed device value) id well e = absurd (cc)
run-there w (Irq other vector) id well e = absurd (cc)
run-there w (Nmi other) id well e = absurd (cc)
run-there w (Unplug device) id well e = absurd (cc)
run-there w (Dump guest address length) id well e = absurd (cc)

has-run : (a b : Machine) (copies : List (List ℕ)) (id : VcpuId) → copies ≡ memories_in a.world.guests → world_shape b.world ≡ world_shape a.world → ChangesAreMarked a b → IsVcpu (world_shape a.world) id → HasRun copies b id
has-run a b copies id are shape told vcpu =
    let there : id.guest.0 < length a.world.guests = there-by a.world.guests id.guest.0 vcpu.0 vcpu.1 in
    let same : copy_of copies id.guest.0 ≡ memory_in a.world id.guest.0 = ap (λ cs. copy_of cs id.guest.0) are ∙ copy-memory a.world.guests id.guest.0 in
    record {
      vcpu = subst (λ (s : Shape). IsVcpu s id) (sym shape) vcpu;
      guest = record {
        there = omega (arith, there, as-many a.world b.world shape);
        copied = omega (arith, there, ap length are, length-map a.world.guests (λ (g : Guest). g.memory));
        size = ap length same ∙ sym (same-size a.world b.world id.guest.0 shape);
        told = λ page clear. (told.unmarked id.guest.0 page clear).1 ∙ ap (λ m. page_at m page) (sym same);
      };
    }

may-have-by : (a b : Machine) (copies : List (List ℕ)) (o : Option VcpuId) → copies ≡ memories_in a.world.guests → world_shape b.world ≡ world_shape a.world → ChangesAreMarked a b →
    ((id : VcpuId) → o ≡ Some id → IsVcpu (world_shape a.world) id) → MayHaveRun copies b o
may-have-by a b copies None are shape told h = tt
may-have-by a b copies (Some id) are shape told h = has-run a b copies id are shape told (h id refl)

pub may-have-run : (a b : Machine) (bus : Bus) (event : Event) (effect : Effect) (copies : List (List ℕ)) → copies ≡ memories_in a.world.guests → world_shape b.world ≡ world_shape a.world → ChangesAreMarked a b → IsWellFormed a.world →
    effect ≡ (plain_event a.world bus event).effect → MayHaveRun copies b effect.vcpu
may-have-run a b bus event effect copies are shape told well e =
    subst (MayHaveRun copies b) (sym (ap (λ (x : Effect). x.vcpu) e ∙ effect-ran a.world bus event))
    (may-have-by a b copies (ran_at a.world event) are shape told (λ id f. run-there a.world event id well f))

-- What is printed of memory, and the copies behind it.

changes-by : (w v : World) (o : Option VcpuId) → length w.guests ≡ length v.guests → ((guest : ℕ) → IsOther guest o → memory_in v guest ≡ memory_in w guest) → ((id : VcpuId) → o ≡ Some id → id.guest.0 < length w.guests) →
    (changes_of (memories_in w.guests) v o ≡ guests_memory_lines 0 w.guests v.guests) × (copies_after (memories_in w.guests) v o ≡ memories_in v.guests)
changes-by w v None e same there = (sym (lines-none 0 w.guests v.guests (λ i. same i tt)), copies-none w.guests v.guests e (λ i. same i tt))
changes-by w v (Some id) e same there =
    let here = there id refl in
    let from : 0 + id.guest.0 ≡ id.guest.0 = omega arith in (
      ap (λ m. memory_lines id.guest.0 m (memory_in v id.guest.0)) (copy-memory w.guests id.guest.0)
          ∙ sym (lines-one 0 w.guests v.guests id.guest.0 e here same ∙ ap (λ n. memory_lines n (memory_in w id.guest.0) (memory_in v id.guest.0)) from),
      copies-one w.guests v.guests id.guest.0 e here same,
    )

pub changes : (w v : World) (bus : Bus) (event : Event) (effect : Effect) → world_shape v ≡ world_shape w → OthersStay w event v → IsWellFormed w → effect ≡ (plain_event w bus event).effect →
    (changes_of (memories_in w.guests) v effect.vcpu ≡ guests_memory_lines 0 w.guests v.guests) × (copies_after (memories_in w.guests) v effect.vcpu ≡ memories_in v.guests)
changes w v bus event effect shape others well e =
    let P : Option VcpuId → Type 0 = λ o. (changes_of (memories_in w.guests) v o ≡ guests_memory_lines 0 w.guests v.guests) × (copies_after (memories_in w.guests) v o ≡ memories_in v.guests) in
    subst P (sym (ap (λ (x : Effect). x.vcpu) e ∙ effect-ran w bus event))
    (changes-by w v (ran_at w event) (as-many w v shape) (λ guest h. stays w v event guest others h)
    (λ id f. let vcpu = run-there w event id well f in there-by w.guests id.guest.0 vcpu.0 vcpu.1))

-- The block.

regroup : (a r m s d l : List ℕ) → (((a ++ (r ++ m)) ++ s) ++ d) ++ l ≡ a ++ (r ++ (m ++ (s ++ (d ++ l))))
regroup a r m s d l =
    append_assoc ((a ++ (r ++ m)) ++ s) d l
    ∙ append_assoc (a ++ (r ++ m)) s (d ++ l)
    ∙ append_assoc a (r ++ m) (s ++ (d ++ l))
    ∙ ap (λ x. a ++ x) (append_assoc r m (s ++ (d ++ l)))

-- what was put together is the block, and the copies are the memories behind the event
pub block-is : (w v : World) (bus now : Bus) (event : Event) (number : ℕ) (effect : Effect) (copies : List (List ℕ)) (writes : List PortWrite) (line text : List ℕ) →
    v ≡ (plain_event w bus event).world → now ≡ (plain_event w bus event).bus → effect ≡ (plain_event w bus event).effect → number ≡ w.event → copies ≡ memories_in w.guests →
    writes ≡ drop (length bus.output) now.output → line ≡ shown_line w event → changes_of (memories_in w.guests) v effect.vcpu ≡ guests_memory_lines 0 w.guests v.guests →
    text ≡ event_line number event effect.vcpu ++ ran_lines copies v effect.vcpu ++ flat_map out_line writes ++ end_line effect.vcpu effect.ended ++ line →
    text ≡ block w bus event
unfolding block block_of
block-is w v bus now event number effect copies writes line text e f g n are sent shown changed is =
    let happened = plain_event w bus event in
    let rest : Effect → World → List ℕ → List ℕ → List ℕ = λ x u m s. event_line w.event event x.vcpu ++ (ran_line u x.vcpu ++ (m ++ (s ++ (end_line x.vcpu x.ended ++ shown_line w event)))) in
    is
    ∙ regroup (event_line number event effect.vcpu) (ran_line v effect.vcpu) (changes_of copies v effect.vcpu) (flat_map out_line writes) (end_line effect.vcpu effect.ended) line
    ∙ ap (λ (k : ℕ). event_line k event effect.vcpu ++ (ran_line v effect.vcpu ++ (changes_of copies v effect.vcpu ++ (flat_map out_line writes ++ (end_line effect.vcpu effect.ended ++ line))))) n
    ∙ ap (λ (l : List ℕ). event_line w.event event effect.vcpu ++ (ran_line v effect.vcpu ++ (changes_of copies v effect.vcpu ++ (flat_map out_line writes ++ (end_line effect.vcpu effect.ended ++ l))))) shown
    ∙ ap (λ m. rest effect v m (flat_map out_line writes)) (ap (λ cs. changes_of cs v effect.vcpu) are ∙ changed ∙ ap (λ (u : World). guests_memory_lines 0 w.guests u.guests) e)
    ∙ ap (λ s. rest effect v (guests_memory_lines 0 w.guests happened.world.guests) s) (ap (flat_map out_line) (sent ∙ ap (λ (b : Bus). drop (length bus.output) b.output) f))
    ∙ ap (λ (u : World). rest effect u (guests_memory_lines 0 w.guests happened.world.guests) (sent_lines (length bus.output) happened.bus)) e
    ∙ ap (λ x. rest x happened.world (guests_memory_lines 0 w.guests happened.world.guests) (sent_lines (length bus.output) happened.bus)) g

-- the same of machines, of which the one is marked unwritten, and the other behind its event
pub block-told : (a b : Machine) (w : World) (bus now : Bus) (event : Event) (number : ℕ) (effect : Effect) (copies : List (List ℕ)) (writes before : List PortWrite) (line text : List ℕ) →
    a.world ≡ w → copies ≡ memories_in w.guests → b.world ≡ (plain_event a.world bus event).world → now ≡ (plain_event a.world bus event).bus → effect ≡ (plain_event a.world bus event).effect → number ≡ w.event →
    writes ≡ drop (length before) now.output → before ≡ bus.output → line ≡ shown_line w event → world_shape b.world ≡ world_shape a.world → OthersStay a.world event b.world → IsWellFormed w →
    text ≡ event_line number event effect.vcpu ++ ran_lines copies b.world effect.vcpu ++ flat_map out_line writes ++ end_line effect.vcpu effect.ended ++ line →
    text ≡ block w bus event
block-told a b w bus now event number effect copies writes before line text same are e f g n sent was shown shape others well is =
    let P : World → Type 0 = λ u. copies ≡ memories_in u.guests → number ≡ u.event → line ≡ shown_line u event → IsWellFormed u → text ≡ block u bus event in
    subst P same
    (λ are n shown well.
    block-is a.world b.world bus now event number effect copies writes line text e f g n are
    (sent ∙ ap (λ (l : List PortWrite). drop (length l) now.output) was) shown (changes a.world b.world bus event effect shape others well g).0 is)
    are n shown well

pub copies-told : (a b : Machine) (w : World) (bus : Bus) (event : Event) (effect : Effect) (copies : List (List ℕ)) →
    a.world ≡ w → copies ≡ memories_in w.guests → effect ≡ (plain_event a.world bus event).effect → world_shape b.world ≡ world_shape a.world → OthersStay a.world event b.world → IsWellFormed w →
    copies_after copies b.world effect.vcpu ≡ memories_in b.world.guests
copies-told a b w bus event effect copies same are g shape others well =
    let well' : IsWellFormed a.world = subst IsWellFormed (sym same) well in
    ap (λ cs. copies_after cs b.world effect.vcpu) (are ∙ ap (λ (u : World). memories_in u.guests) (sym same))
    ∙ (changes a.world b.world bus event effect shape others well' g).1

-- it has a line at least
pub block-some : (w : World) (bus : Bus) (event : Event) → 0 < length (block w bus event)
unfolding block block_of event_line
block-some w bus event = omega arith

-- the line of the vcpu that ran
vcpu-by : (text told : List ℕ) (id : VcpuId) (v : Option Vcpu) → option_map (λ (x : Vcpu). text ++ vcpu_line id.guest.0 id.index (level_in x.inside) x.halted x.registers) v ≡ Some told → told ≡ text ++ vcpu_text id v
vcpu-by text told id None e = absurd (cc)
vcpu-by text told id (Some v) e = cc

vcpus-by : (text told : List ℕ) (id : VcpuId) (o : Option Guest) → option_map (λ (x : Vcpu). text ++ vcpu_line id.guest.0 id.index (level_in x.inside) x.halted x.registers) (vcpu_of o id.index) ≡ Some told → told ≡ text ++ vcpus_text id o
vcpus-by text told id None e = absurd (cc)
vcpus-by text told id (Some g) e = vcpu-by text told id (slice_get g.vcpus id.index) e

-- with what changed in its guest's memory behind it
pub ran_told : (text told whole : List ℕ) (copies : List (List ℕ)) (w : World) (id : VcpuId) →
    option_map (λ (x : Vcpu). text ++ vcpu_line id.guest.0 id.index (level_in x.inside) x.halted x.registers) (vcpu_in w id) ≡ Some told →
    whole ≡ told ++ memory_lines id.guest.0 (copy_of copies id.guest.0) (memory_in w id.guest.0) → whole ≡ text ++ ran_lines copies w (Some id)
ran_told text told whole copies w id e f =
    f
    ∙ ap (λ l. l ++ memory_lines id.guest.0 (copy_of copies id.guest.0) (memory_in w id.guest.0)) (vcpus-by text told id (slice_get w.guests id.guest.0) e)
    ∙ append_assoc text (ran_line w (Some id)) (memory_lines id.guest.0 (copy_of copies id.guest.0) (memory_in w id.guest.0))

-- nothing of it was received
pub block-unprinted : (w : World) (bus : Bus) (event : Event) (old : Option (List ℕ)) → IsCutShort old old (block w bus event)
block-unprinted w bus event old = record { count = 0; short = block-some w bus event; written = sym (appended-nothing old) }

pub ruleset traced = (block-unprinted)
