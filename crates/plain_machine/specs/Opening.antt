-- How an image's guests stand in host memory.
use Rattle.std.specs.Prelude.{ℕ, ◌+◌, ◌*◌, List, [], ◌∷◌, None, map}
use Rattle.svm_model.specs.Formats.Image.{ImageGuest}
use Rattle.svm_model.specs.Machine.World.{first_apics, first_vcpu}
use Rattle.plain_machine.specs.Slots.{Kept}

-- how many pages they have together
abbrev pub pages_in : List ImageGuest → ℕ
pages_in [] = 0
pages_in (guest ∷ guests) = guest.pages + pages_in guests

abbrev pub slot_of : ℕ → ImageGuest → Kept
slot_of base guest = record {
  window = record { base = base; size = 4096 * guest.pages };
  ended = None;
  vcpus = map first_vcpu guest.vcpus;
  apics = first_apics 0 guest.vcpus;
}

-- their slots, one behind another from a place on
abbrev pub slots_of : ℕ → List ImageGuest → List Kept
slots_of base [] = []
slots_of base (guest ∷ guests) = slot_of base guest ∷ slots_of (base + 4096 * guest.pages) guests
