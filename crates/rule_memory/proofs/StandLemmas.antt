-- What a call makes of a memory stands for what it makes of the rules.
use Rattle.std.proofs.Common.{true≢false, ◌≡◌, ℕ, ◌==◌, Bool, true, false, ◌&&◌, ◌||◌, List, [], ◌∷◌, ◌++◌, arith, sym, refl, ap, ◌∙◌, subst, Option, Some, None, if◌then◌else◌, Result, Ok, Err, OnOk, is_err}
use Rattle.std.specs.BTreeMap.{IsEmpty, is_at as is_key}
use Rattle.std.specs.Map.{lookup}
use Rattle.std.specs.Bool.{beq}
use Rattle.std.specs.List.{fold, list_any}
use Rattle.svm_model.specs.Audit.Breaches.{Known, after_flush, after_making}
use Rattle.svm_model.specs.Audit.Records.{record_of, stale_leaf, stale_with, with_leaf}
use Rattle.svm_model.specs.Audit.WatchCalls.{known_with, making_of}
use Rattle.svm_model.specs.Machine.Events.{is_vcpu}
use Rattle.svm_model.specs.declared.audits.Made.{Made}
use Rattle.svm_model.specs.declared.audits.Remembered.{Remembered}
use Rattle.svm_model.specs.declared.names.VcpuId.{VcpuId}
use Rattle.svm_model.specs.declared.page_tables.Leaf.{Leaf}
use Rattle.svm_model.specs.declared.system.Flush.{Flush}
use Rattle.rule_memory.specs.HeldMap.{HeldMap, fields_at, held_places}
use Rattle.rule_memory.specs.Kept.{IsHugeKnownAt, Translations, kept_at, kept_in, spaces, uncovered, uncovered_in}
use Rattle.rule_memory.specs.Leaves.{added, added_option, found_huge, is_at, is_huge, leaves_at, same_leaf}
use Rattle.rule_memory.specs.Places.{owner_of, place_of, same_place, same_space}
use Rattle.rule_memory.specs.declared.held.HeldPlace.{HeldPlace}
use Rattle.rule_memory.specs.declared.places.Place.{Place}
use Rattle.rule_memory.specs.declared.places.Space.{Space}
use Rattle.rule_memory.proofs.LeafLemmas.{both, leaves_at_dropped, same_bools, same_numbers, stale_leaf_at}

-- Equal names.

pub vcpu_from_is : (a b : VcpuId) → is_vcpu a b ≡ true → a ≡ b
vcpu_from_is a b e =
    let p = both (a.guest.0 == b.guest.0) (a.index == b.index) e in
    let guest = same_numbers a.guest.0 b.guest.0 p.0 in
    let index = same_numbers a.index b.index p.1 in
    λ i. record { guest = record { 0 = guest i }; index = index i }

pub same_number : (n : ℕ) → (n == n) ≡ true
same_number n = grind arith

flipped : (m n : ℕ) → (m == n) ≡ (n == m)
flipped m n = grind arith

flipped_bools : (a b : Bool) → beq a b ≡ beq b a
flipped_bools true true = refl
flipped_bools true false = refl
flipped_bools false true = refl
flipped_bools false false = refl

pub space_from_same : (a b : Space) → same_space a b ≡ true → a ≡ b
space_from_same a b e =
    let v = both (((a.asid == b.asid) && beq a.nested b.nested) && (a.guest == b.guest)) (a.vcpu == b.vcpu) e in
    let g = both ((a.asid == b.asid) && beq a.nested b.nested) (a.guest == b.guest) v.0 in
    let n = both (a.asid == b.asid) (beq a.nested b.nested) g.0 in
    let asid = same_numbers a.asid b.asid n.0 in
    let nested = same_bools a.nested b.nested n.1 in
    let guest = same_numbers a.guest b.guest g.1 in
    let vcpu = same_numbers a.vcpu b.vcpu v.1 in
    λ i. record { asid = asid i; nested = nested i; guest = guest i; vcpu = vcpu i }

pub place_from_same : (a b : Place) → same_place a b ≡ true → a ≡ b
place_from_same a b e =
    let p = both (a.page == b.page) (same_space a.space b.space) e in
    let page = same_numbers a.page b.page p.0 in
    let space = space_from_same a.space b.space p.1 in
    λ i. record { page = page i; space = space i }

neither : (a b : Bool) → (a || b) ≡ false → (a ≡ false) × (b ≡ false)
neither true b e = absurd (true≢false e)
neither false b e = (refl, e)

-- A translation.

five : (page asid nested guest vcpu : Bool) → (guest && vcpu) ≡ true → ((asid && nested) && page) ≡ (page && (((asid && nested) && guest) && vcpu))
five true true true true true e = refl
five page asid nested true false e = grind (arith, e)
five page asid nested false vcpu e = grind (arith, e)
five true true false true true e = refl
five true false true true true e = refl
five true false false true true e = refl
five false true true true true e = refl
five false true false true true e = refl
five false false true true true e = refl
five false false false true true e = refl

-- among a vcpu's places
is_at_place : (p : Place) (made : Made) (leaf : Leaf) → is_vcpu (owner_of p.space) made.turn.vcpu ≡ true → is_at p (record_of (making_of made) leaf) ≡ same_place p (place_of made)
is_at_place p made leaf e =
    rw (flipped made.asid p.space.asid) (rw (flipped_bools made.nested p.space.nested) (rw (flipped made.access.page.0 p.page)
    (five (p.page == made.access.page.0) (p.space.asid == made.asid) (beq p.space.nested made.nested) (p.space.guest == made.turn.vcpu.guest.0) (p.space.vcpu == made.turn.vcpu.index) e)))

found_by : (p : Place) (made : Made) (found : Option Leaf) (old : Translations) (records : List Remembered) (b : Bool) → same_place p (place_of made) ≡ b
    → is_vcpu (owner_of p.space) made.turn.vcpu ≡ true → kept_at old p ≡ leaves_at p records
    → (if b then added_option found (kept_at old (place_of made)) else kept_at old p) ≡ leaves_at p (with_leaf (making_of made) found records)
found_by p made None old records true same owner h = ap (kept_at old) (sym (place_from_same p (place_of made) same)) ∙ h
found_by p made None old records false same owner h = h
found_by p made (Some leaf) old records true same owner h =
    rw (is_at_place p made leaf owner ∙ same) (ap (added leaf) (ap (kept_at old) (sym (place_from_same p (place_of made) same)) ∙ h))
found_by p made (Some leaf) old records false same owner h = rw (is_at_place p made leaf owner ∙ same) h

not_owned : (page asid nested guest vcpu : Bool) → (guest && vcpu) ≡ false → (page && (((asid && nested) && guest) && vcpu)) ≡ false
not_owned page asid nested true false h = grind arith
not_owned page asid nested true true h = grind (arith, h)
not_owned page asid nested false vcpu h = grind arith

made_by : (old new : Translations) (known : VcpuId → Known) (made : Made) (p : Place) (b : Bool) → is_vcpu (owner_of p.space) made.turn.vcpu ≡ b
    → kept_at old p ≡ leaves_at p (known (owner_of p.space)).records
    → kept_at new p ≡ (if same_place p (place_of made) then added_option made.leaf (kept_at old (place_of made)) else kept_at old p)
    → kept_at new p ≡ leaves_at p (if b then after_making (making_of made) (known made.turn.vcpu) else known (owner_of p.space)).records
made_by old new known made p true owner h now =
    now ∙ found_by p made made.leaf old (known made.turn.vcpu).records (same_place p (place_of made)) refl owner
    (subst (λ v. kept_at old p ≡ leaves_at p (known v).records) (vcpu_from_is (owner_of p.space) made.turn.vcpu owner) h)
made_by old new known made p false owner h now =
    now ∙ ap (λ b. if b then added_option made.leaf (kept_at old (place_of made)) else kept_at old p)
    (not_owned (p.page == made.access.page.0) (p.space.asid == made.asid) (beq p.space.nested made.nested) (p.space.guest == made.turn.vcpu.guest.0) (p.space.vcpu == made.turn.vcpu.index) owner) ∙ h

pub made_translations : (old new : Translations) (known : VcpuId → Known) (made : Made) → ((p : Place) → kept_at old p ≡ leaves_at p (known (owner_of p.space)).records)
    → ((p : Place) → kept_at new p ≡ (if same_place p (place_of made) then added_option made.leaf (kept_at old (place_of made)) else kept_at old p))
    → (p : Place) → kept_at new p ≡ leaves_at p (known_with made.turn.vcpu (after_making (making_of made) (known made.turn.vcpu)) known (owner_of p.space)).records
made_translations old new known made h now p = made_by old new known made p (is_vcpu (owner_of p.space) made.turn.vcpu) refl (h p) (now p)

-- the pages of 1 GiB stay known

any_behind : (leaf : Leaf) (leaves : List Leaf) → list_any is_huge leaves ≡ false → is_huge leaf ≡ false → list_any is_huge (leaves ++ leaf ∷ []) ≡ false
any_behind leaf [] e h = rw h refl
any_behind leaf (l ∷ leaves) e h =
    let p = neither (is_huge l) (list_any is_huge leaves) e in
    rw p.0 (any_behind leaf leaves p.1 h)

any_added : (leaf : Leaf) (leaves : List Leaf) (b : Bool) → list_any is_huge leaves ≡ false → is_huge leaf ≡ false → list_any is_huge (if b then leaves else leaves ++ leaf ∷ []) ≡ false
any_added leaf leaves true e h = e
any_added leaf leaves false e h = any_behind leaf leaves e h

any_option : (found : Option Leaf) (leaves : List Leaf) → list_any is_huge leaves ≡ false → found_huge found ≡ false → list_any is_huge (added_option found leaves) ≡ false
any_option None leaves e h = e
any_option (Some leaf) leaves e h = any_added leaf leaves (list_any (same_leaf leaf) leaves) e h

huge_by : (found : Option Leaf) (there here : List Leaf) (b : Bool) → list_any is_huge there ≡ false → list_any is_huge here ≡ false → found_huge found ≡ false → list_any is_huge (if b then added_option found there else here) ≡ false
huge_by found there here true e k h = any_option found there e h
huge_by found there here false e k h = k

pub made_huge : (huge : Bool) (old new : Translations) (place : Place) (found : Option Leaf) → IsHugeKnownAt huge old
    → ((p : Place) → kept_at new p ≡ (if same_place p place then added_option found (kept_at old place) else kept_at old p)) → IsHugeKnownAt (huge || found_huge found) new
made_huge huge old new place found known now none p =
    let n = neither huge (found_huge found) none in
    ap (list_any is_huge) (now p) ∙ huge_by found (kept_at old place) (kept_at old p) (same_place p place) (known n.0 place) (known n.0 p) n.1

-- the stale leaf of what is kept is that of the records
pub made_stale : (old : Translations) (known : VcpuId → Known) (made : Made) → ((p : Place) → kept_at old p ≡ leaves_at p (known (owner_of p.space)).records)
    → fold (λ older newer. stale_with (making_of made) newer older) None (kept_at old (place_of made)) ≡ stale_leaf (making_of made) (known made.turn.vcpu).records
made_stale old known made h =
    ap (λ leaves. fold (λ older newer. stale_with (making_of made) newer older) None leaves) (h (place_of made))
    ∙ sym (stale_leaf_at (making_of made) (place_of made) (λ r. refl) (known made.turn.vcpu).records)

-- A flush.

flushed_by : (old new : Translations) (known : VcpuId → Known) (vcpu : VcpuId) (flush : Flush) (p : Place) (b : Bool) → is_vcpu (owner_of p.space) vcpu ≡ b
    → kept_at old p ≡ leaves_at p (known (owner_of p.space)).records
    → kept_at new p ≡ (if b then uncovered_in p.space flush p.page (kept_at old p) else kept_at old p)
    → kept_at new p ≡ leaves_at p (if b then after_flush flush (known vcpu) else known (owner_of p.space)).records
flushed_by old new known vcpu flush p true owner h now =
    now ∙ ap (uncovered_in p.space flush p.page) (subst (λ v. kept_at old p ≡ leaves_at p (known v).records) (vcpu_from_is (owner_of p.space) vcpu owner) h)
    ∙ sym (leaves_at_dropped p flush (known vcpu).records)
flushed_by old new known vcpu flush p false owner h now = now ∙ h

pub flushed_translations : (old new : Translations) (known : VcpuId → Known) (vcpu : VcpuId) (flush : Flush) → ((p : Place) → kept_at old p ≡ leaves_at p (known (owner_of p.space)).records)
    → ((p : Place) → kept_at new p ≡ uncovered vcpu flush p (kept_at old p))
    → (p : Place) → kept_at new p ≡ leaves_at p (known_with vcpu (after_flush flush (known vcpu)) known (owner_of p.space)).records
flushed_translations old new known vcpu flush h now p = flushed_by old new known vcpu flush p (is_vcpu (owner_of p.space) vcpu) refl (h p) (now p)

-- what is known of a vcpu changes in what is held alone
pub same_translations : (kept : Translations) (known : VcpuId → Known) (vcpu : VcpuId) (new : Known) → (new.records ≡ (known vcpu).records)
    → ((p : Place) → kept_at kept p ≡ leaves_at p (known (owner_of p.space)).records) → (p : Place) → kept_at kept p ≡ leaves_at p (known_with vcpu new known (owner_of p.space)).records
same_translations kept known vcpu new same h p = by (is_vcpu (owner_of p.space) vcpu) refl where
  by : (b : Bool) → is_vcpu (owner_of p.space) vcpu ≡ b → kept_at kept p ≡ leaves_at p (if b then new else known (owner_of p.space)).records
  by true e = subst (λ v. kept_at kept p ≡ leaves_at p (known v).records) (vcpu_from_is (owner_of p.space) vcpu e) (h p) ∙ ap (leaves_at p) (sym same)
  by false e = h p

-- Results.
pub on_ok : {A E : Type 0} (r : Result A E) (P : Type 0) → is_err r ≡ false → OnOk r P → P
on_ok (Ok x) P e h = h
on_ok (Err x) P e h = grind (arith, e)

-- Nothing is kept at first.
pub nothing_kept : (kept : Translations) → IsEmpty kept → (p : Place) → kept_at kept p ≡ []
nothing_kept kept e p = ap (λ es. kept_in (lookup (is_key (spaces p.space)) es) p.page) e

pub nothing_held : (kept : HeldMap) → IsEmpty kept → (p : HeldPlace) → fields_at kept p ≡ None
nothing_held kept e p = ap (λ es. lookup (is_key (held_places p)) es) e
