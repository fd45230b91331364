-- A bus with no device stays so.
use Rattle.std.proofs.Common.{◌≡◌, ℕ, zero, suc, ◌/◌, nat_lt, Bool, true, false, if◌then◌else◌, List, ◌∷◌, ◌++◌, [], Option, None, replicate, slice_get, slice_set, ap, refl, sym}
use Rattle.svm_model.specs.Machine.Bus.{Bus, Device, bus_after_feed, bus_after_read, bus_after_unplug, bus_after_write, device_at, device_of, fed, on_device, after_read, plugged_at, sent_to}
use Rattle.svm_model.specs.declared.ports.PortWrite.{PortWrite}

abbrev pub bare : List PortWrite → Bus
bare output = record { devices = replicate 16 None; output = output }

none_at : (k n : ℕ) → plugged_at (slice_get (replicate k None) n) ≡ None
none_at zero n = refl
none_at (suc k) zero = refl
none_at (suc k) (suc n) = none_at k n

none_of : (output : List PortWrite) (port : ℕ) → device_of (bare output) port ≡ None
none_of output port = at (nat_lt port 256)
  where
    at : (b : Bool) → (if b then device_at (bare output) (port / 16) else None) ≡ None
    at true = none_at 16 (port / 16)
    at false = refl

abbrev nones : ℕ → List (Option Device)
nones k = replicate k None

unplugged : (k n : ℕ) → slice_set (nones k) n None ≡ nones k
unplugged zero n = refl
unplugged (suc k) zero = refl
unplugged (suc k) (suc n) = ap (λ (rest : List (Option Device)). None ∷ rest) (unplugged k n)

pub bare-read : (output : List PortWrite) (port : ℕ) → bare output ≡ bus_after_read (bare output) port
unfolding bus_after_read
bare-read output port = sym (ap (λ (d : Option Device). on_device (bare output) (port / 16) d after_read) (none_of output port))

pub bare-written : (output : List PortWrite) (w : PortWrite) → bare (output ++ w ∷ []) ≡ bus_after_write (bare output) w
unfolding bus_after_write
bare-written output w =
    sym (ap (λ (d : Option Device). record (on_device (bare output) (w.port / 16) d (λ device. sent_to device w.port w.width w.value)) { output = output ++ w ∷ [] }) (none_of output w.port))

pub bare-fed : (output : List PortWrite) (place value : ℕ) → bare output ≡ bus_after_feed (bare output) place value
unfolding bus_after_feed
bare-fed output place value = sym (ap (λ (d : Option Device). on_device (bare output) place d (λ device. fed device value)) (none_at 16 place))

pub bare-unplugged : (output : List PortWrite) (place : ℕ) → bare output ≡ bus_after_unplug (bare output) place
unfolding bus_after_unplug
bare-unplugged output place = sym (ap (λ (ds : List (Option Device)). record { devices = ds; output = output }) (unplugged 16 place))
