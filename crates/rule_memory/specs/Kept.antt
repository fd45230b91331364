-- What the maps of leaves keep, and what a flush leaves of it.
use Rattle.std.specs.Prelude.{◌≡◌, ℕ, List, [], Bool, false, Option, Some, None, filter, not, if◌then◌else◌}
use Rattle.std.specs.BTreeMap.{BTreeMap, get}
use Rattle.std.specs.Global.{Vec}
use Rattle.std.specs.List.{list_any}
use Rattle.std.specs.Ordering.{nat_cmp}
use Rattle.std.specs.declared.cmp.Ordering.{Ordering}
use Rattle.svm_model.specs.Audit.Records.{covers}
use Rattle.svm_model.specs.Machine.Events.{is_vcpu}
use Rattle.svm_model.specs.declared.audits.Remembered.{Remembered}
use Rattle.svm_model.specs.declared.names.VcpuId.{VcpuId}
use Rattle.svm_model.specs.declared.page_tables.Leaf.{Leaf}
use Rattle.svm_model.specs.declared.system.Flush.{Flush}
use Rattle.rule_memory.specs.Leaves.{is_huge}
use Rattle.rule_memory.specs.Places.{owner_of}
use Rattle.rule_memory.specs.contracts.places.SpaceOrd.TheImpl as space_ord
use Rattle.rule_memory.specs.declared.places.Place.{Place}
use Rattle.rule_memory.specs.declared.places.Space.{Space}

-- the order of spaces
abbrev pub spaces : Space → Space → Ordering
spaces = (space_ord.ghosts).cmp

abbrev pub Pages : Type 0
Pages = BTreeMap ℕ (Vec Leaf)

abbrev pub Translations : Type 0
Translations = BTreeMap Space Pages

abbrev pub leaves_in : Option (Vec Leaf) → List Leaf
leaves_in None = []
leaves_in (Some leaves) = leaves.items

-- the leaves that are kept of a page of a space
abbrev pub kept_of : Pages → ℕ → List Leaf
kept_of pages page = leaves_in (get nat_cmp pages page)

abbrev pub kept_in : Option Pages → ℕ → List Leaf
kept_in None page = []
kept_in (Some pages) page = kept_of pages page

-- the leaves that are kept of a place
abbrev pub kept_at : Translations → Place → List Leaf
kept_at translations place = kept_in (get spaces translations place.space) place.page

-- the record of a leaf that is kept of a page of a space
abbrev pub record_at : Space → ℕ → Leaf → Remembered
record_at space page leaf = record { asid = space.asid; nested = space.nested; page = record { 0 = page }; leaf = leaf }

-- a flush leaves these leaves of a page of a space of the vcpu's
abbrev pub uncovered_in : Space → Flush → ℕ → List Leaf → List Leaf
uncovered_in space flush page leaves = filter (λ leaf. not (covers flush (record_at space page leaf))) leaves

-- a flush of a vcpu leaves these leaves of a place
abbrev pub uncovered : VcpuId → Flush → Place → List Leaf → List Leaf
uncovered vcpu flush place leaves =
    if is_vcpu (owner_of place.space) vcpu then uncovered_in place.space flush place.page leaves else leaves

-- `huge` is false only where no page of 1 GiB is kept
abbrev pub IsHugeKnown : Bool → Pages → Type 0
IsHugeKnown huge pages = huge ≡ false → (page : ℕ) → list_any is_huge (kept_of pages page) ≡ false

abbrev pub IsHugeKnownAt : Bool → Translations → Type 0
IsHugeKnownAt huge translations = huge ≡ false → (place : Place) → list_any is_huge (kept_at translations place) ≡ false

-- how many pages of 4 KiB the greatest page has that may be kept
abbrev pub span : Bool → ℕ
span huge = if huge then 262144 else 512
