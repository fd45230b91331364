-- The translations told last, by a slot of their pages.
use Rattle.std.specs.Prelude.{◌≡◌, ℕ, ◌%◌, ◌==◌, ◌&&◌, not, List, Bool, true, false, Option, Some, None, if◌then◌else◌, slice_index_or}
use Rattle.std.specs.List.{list_all, list_any}
use Rattle.svm_model.specs.Audit.Records.{agrees, exceeds}
use Rattle.svm_model.specs.declared.audits.Made.{Made}
use Rattle.svm_model.specs.declared.page_tables.Leaf.{Leaf}
use Rattle.rule_memory.specs.Kept.{Translations, kept_at}
use Rattle.rule_memory.specs.Leaves.{same_leaf}
use Rattle.rule_memory.specs.Places.{place_of, same_place}
use Rattle.rule_memory.specs.declared.places.Place.{Place}
use Rattle.rule_memory.specs.declared.recent.Recent.{Recent}

abbrev pub slot_of : Place → ℕ
slot_of place = place.page % 64

abbrev pub is_same_found : Leaf → Option Leaf → Bool
is_same_found leaf None = false
is_same_found leaf (Some found) = same_leaf leaf found

abbrev pub known_by : Option Recent → Made → Bool
known_by None made = false
known_by (Some last) made = (same_place last.place (place_of made) && is_same_found last.leaf made.leaf) && agrees last.leaf made.outcome

-- the translation was told last in its page's slot, and comes to the same
abbrev pub is_known : List (Option Recent) → Made → Bool
is_known recent made = known_by (slice_index_or recent (slot_of (place_of made)) None) made

-- a leaf that is kept has this one's frame and, nested, no right and no mark beyond it
abbrev pub agrees_with : Bool → Leaf → Leaf → Bool
agrees_with nested leaf kept = (kept.frame.0 == leaf.frame.0) && not (nested && exceeds kept leaf)

abbrev pub settled : Place → Leaf → List Leaf → Bool
settled place leaf leaves = list_any (same_leaf leaf) leaves && list_all (agrees_with place.space.nested leaf) leaves

abbrev pub recent_of : Place → Option Leaf → List Leaf → Option Recent
recent_of place None leaves = None
recent_of place (Some leaf) leaves = if settled place leaf leaves then Some (record { place = place; leaf = leaf }) else None

-- what was told last in a slot is settled still
abbrev pub AreSettled : Translations → List (Option Recent) → Type 0
AreSettled translations recent =
    (slot : ℕ) (last : Recent) → slice_index_or recent slot None ≡ Some last → (slot ≡ slot_of last.place) × (settled last.place last.leaf (kept_at translations last.place) ≡ true)
