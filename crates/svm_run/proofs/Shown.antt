-- The bytes that a dump shows are there, and are read one by one.
use Rattle.std.proofs.Common.{◌≡◌, ◌∙◌, ℕ, zero, suc, ◌+◌, ◌^◌, ◌≤◌, ◌<◌, List, [], ◌∷◌, ◌++◌, Option, Some, None, Result, Ok, IfSome, length, map, take, drop, slice_get, get_or, slice_index, ap, sym, arith, length-drop}
use Rattle.std.proofs.lemmas.List.{take_more, get_or-drop, get_or-take}
use Rattle.std.proofs.lemmas.Bool.{le-leb}
use Rattle.svm_model.specs.Machine.Guest.{Guest}
use Rattle.svm_model.specs.Machine.Shapes.{world_shape, IsShown}
use Rattle.svm_model.specs.Machine.World.{World}
use Rattle.svm_model.specs.Memory.Bytes.{byte_at}
use Rattle.svm_model.specs.declared.names.GuestId.{GuestId}
use Rattle.svm_model.specs.declared.windows.OutsideMemory.{OutsideMemory}
use Rattle.svm_model.specs.Formats.Trace.{memory_of}

-- the guest of a size that is told
sized : (guests : List Guest) (n size : ℕ) → slice_get (map (λ (g : Guest). length g.memory) guests) n ≡ Some size → (n < length guests) × (length (memory_of (slice_get guests n)) ≡ size)
sized [] n size e = absurd (cc)
sized (g ∷ guests) zero size e = (omega arith, (cc))
sized (g ∷ guests) (suc n) size e = let rest = sized guests n size e in (omega (arith, rest.0), rest.1)

pub guest_shown : (w : World) (guest : GuestId) (address count : ℕ) → IsShown (world_shape w) guest address count → guest.0 < length w.guests
guest_shown w guest address count h = (sized w.guests guest.0 h.size h.there).0

pub bytes_shown : (w : World) (guest : GuestId) (address count : ℕ) → IsShown (world_shape w) guest address count → address + count ≤ length (memory_of (slice_get w.guests guest.0))
bytes_shown w guest address count h = omega (arith, (sized w.guests guest.0 h.size h.there).1, h.within)

first_byte : (m : List ℕ) (at : ℕ) → slice_index (take 1 (drop at m)) 0 ≡ get_or m at 0
first_byte m at = get_or-take 1 (drop at m) 0 0 (omega arith) ∙ get_or-drop at m 0 0 ∙ ap (λ n. get_or m n 0) (omega arith)

byte_there : (m : List ℕ) (at : ℕ) → at < length m → byte_at m at ≡ Ok (get_or m at 0)
byte_there m at h =
    let fits : at + 1 ≤ length m = omega arith in
    rw (le-leb (at + 1) (length m) fits) (ap (λ n. Ok n) (first_byte m at))

-- a byte that is there is read
pub read_there : (o : Option Guest) (at : ℕ) (r : Result ℕ OutsideMemory) → at < length (memory_of o) → IfSome o (λ g. r ≡ byte_at g.memory at) → r ≡ Ok (get_or (memory_of o) at 0)
read_there None at r h e = absurd (omega arith)
read_there (Some g) at r h e = e ∙ byte_there g.memory at h

pub same_byte : (a b : ℕ) (r : Result ℕ OutsideMemory) → r ≡ Ok a → r ≡ Ok b → a ≡ b
same_byte a b r e f = cc

pub few_bytes : (o : Option Guest) → IfSome o (λ g. length g.memory < 2 ^ 64) → length (memory_of o) < 2 ^ 64
few_bytes None h = omega arith
few_bytes (Some g) h = h

-- one byte more
pub one_more : (m bytes : List ℕ) (address place at byte : ℕ) → at ≡ address + place → at < length m → bytes ≡ take place (drop address m) → byte ≡ get_or m at 0 →
    bytes ++ byte ∷ [] ≡ take (place + 1) (drop address m)
one_more m bytes address place at byte e h so_far is =
    let within : place < length (drop address m) = omega (arith, length-drop address m) in
    let same : get_or (drop address m) place 0 ≡ byte = get_or-drop address m place 0 ∙ ap (λ n. get_or m n 0) (sym e) ∙ sym is in
    ap (λ xs. xs ++ byte ∷ []) so_far ∙ ap (λ b. take place (drop address m) ++ b ∷ []) (sym same) ∙ sym (take_more (drop address m) place 0 within)

pub ruleset shown = (guest_shown)
