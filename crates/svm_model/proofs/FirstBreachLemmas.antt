-- The first breach that the calls of a turn lead to is the first breach of what the turn tells.
use Rattle.std.proofs.Common.{◌≡◌, ℕ, zero, suc, ◌==◌, Bool, true, false, not, ◌&&◌, List, [], ◌∷◌, arith, sym, refl, ap, ◌∙◌, subst, Option, Some, None, if◌then◌else◌}
use Rattle.std.specs.Option.{option_map, option_or}
use Rattle.svm_model.specs.Audit.Breaches.{Known, known_after_all, after_exit, after_flush, after_found, after_making, after_passes, field_breach, first_by, first_in, stale_pass, stale_translation, translation_breach}
use Rattle.svm_model.specs.Audit.HeldFields.{Held, counts, field_stale, first_differing, held_groups, stale_below, stale_fields, stale_in}
use Rattle.svm_model.specs.Audit.Makings.{Making, making, passing}
use Rattle.svm_model.specs.Audit.Records.{record_of, stale_leaf}
use Rattle.svm_model.specs.Audit.WatchCalls.{Finds, Flushes, Leaves, Makes, Notice, Rules, breach_in, is_field, joined, known_with, made_in, noticed_passes, notices, rules_after, rules_after_all}
use Rattle.svm_model.specs.Machine.Events.{is_vcpu}
use Rattle.svm_model.specs.Svm.Vmcb.{Fields, FieldValue}
use Rattle.svm_model.specs.Svm.VmcbLayout.{group_fields}
use Rattle.svm_model.specs.Turn.Course.{Told, Accessed, Flushed, Found, Left}
use Rattle.svm_model.specs.declared.audits.Breach.{Breach}
use Rattle.svm_model.specs.declared.audits.Outcome.{Outcome}
use Rattle.svm_model.specs.declared.audits.Stale.{Stale}
use Rattle.svm_model.specs.declared.audits.Stale.TheVariants.{Translation}
use Rattle.svm_model.specs.declared.audits.TurnId.{TurnId}
use Rattle.svm_model.specs.declared.names.VcpuId.{VcpuId}
use Rattle.svm_model.specs.declared.page_tables.Leaf.{Leaf}
use Rattle.svm_model.specs.declared.page_tables.Pass.{Pass}
use Rattle.svm_model.specs.declared.system.Flush.{Flush}
use Rattle.svm_model.specs.declared.vmcbs.Field.{Field}

same_number : (n : ℕ) → (n == n) ≡ true
same_number n = grind arith

pub vcpu_itself : (v : VcpuId) → is_vcpu v v ≡ true
vcpu_itself v = rw (same_number v.guest.0) (same_number v.index)

-- one of a field comes before one of a translation
abbrev pub join_field : Option Stale → Option Stale → Option Stale
join_field None next = next
join_field (Some first) None = Some first
join_field (Some first) (Some next) = if not (is_field first) then Some next else Some first

-- what is first, by what was first before, and the first field and translation breaches that come
abbrev pub after : Option Stale → Option Stale → Option Stale → Option Stale
after None field translation = option_or field translation
after (Some first) field translation = if is_field first then Some first else option_or field (Some first)

after_nothing : (first : Option Stale) → after first None None ≡ first
after_nothing None = refl
after_nothing (Some first) = by (is_field first) where
  by : (b : Bool) → (if b then Some first else Some first) ≡ Some first
  by true = refl
  by false = refl

or_nothing : (o : Option Stale) → option_or o None ≡ o
or_nothing None = refl
or_nothing (Some s) = refl

or_or : (a b c : Option Stale) → option_or (option_or a b) c ≡ option_or a (option_or b c)
or_or None b c = refl
or_or (Some a) b c = refl

-- what is stale of a field
AreOfFields : Option Stale → Type 0
AreOfFields found = (s : Stale) → found ≡ Some s → is_field s ≡ true

none_of_field : AreOfFields None
unfolding AreOfFields
none_of_field s e = grind (arith, e)

some_of_field : (make : Field → Stale) → ((f : Field) → is_field (make f) ≡ true) → (found : Option Field) → AreOfFields (option_map make found)
unfolding AreOfFields
some_of_field make h None s e = grind (arith, e)
some_of_field make h (Some f) s e = ap (kind_of true) (sym e) ∙ h f where
  kind_of : Bool → Option Stale → Bool
  kind_of b None = b
  kind_of b (Some s) = is_field s

or_of_fields : (a b : Option Stale) → AreOfFields a → AreOfFields b → AreOfFields (option_or a b)
unfolding AreOfFields
or_of_fields None b h k s e = k s e
or_of_fields (Some a) b h k s e = h s e

in_of_fields : (counted : Bool) (vmcb : ℕ) (found held : Fields) (group : ℕ) → AreOfFields (if counted then option_map (field_stale vmcb found held group) (first_differing found held (group_fields group)) else None)
unfolding AreOfFields
in_of_fields true vmcb found held group = some_of_field (field_stale vmcb found held group) (λ f. refl) (first_differing found held (group_fields group))
in_of_fields false vmcb found held group = none_of_field

below_of_fields : (entering : Bool) (vmcb : ℕ) (found held : Fields) (n : ℕ) → AreOfFields (stale_below entering vmcb found held n)
unfolding AreOfFields stale_below
below_of_fields entering vmcb found held zero = none_of_field
below_of_fields entering vmcb found held (suc group) =
    or_of_fields (stale_below entering vmcb found held group) (stale_in entering vmcb found held group)
    (below_of_fields entering vmcb found held group) (in_of_fields (counts entering found group) vmcb found held group)

fields_of_fields : (entering : Bool) (vmcb : ℕ) (found : Fields) (held : Held) → AreOfFields (stale_fields entering vmcb found held)
unfolding AreOfFields
fields_of_fields entering vmcb found None = none_of_field
fields_of_fields entering vmcb found (Some held) = below_of_fields entering vmcb found held held_groups

module _ (turn : TurnId) where
  abbrev pub breach : Option Stale → Option Breach
  breach stale = option_map (breach_in turn) stale

  -- what is known of the turn's vcpu, and the first breach, which is of the turn's event if there is one
  pub record Tracks (rules : Rules) (first : Option Stale) (known : Known) : Type 0 where
    pub here : rules.known turn.vcpu ≡ known
    pub first_is : rules.first ≡ breach first

  joined_translation : (first : Option Stale) (made : Making) (outcome : Outcome) (found : Option Leaf)
      → joined (breach first) (breach (option_map (λ leaf. Translation (record_of made leaf) outcome) found)) ≡ breach (option_or first (option_map (λ leaf. Translation (record_of made leaf) outcome) found))
  joined_translation None made outcome found = refl
  joined_translation (Some s) made outcome None = refl
  joined_translation (Some s) made outcome (Some leaf) = refl

  joined_field_by : (s next : Stale) (b : Bool) → is_field next ≡ true → (if (is_field next && not b) && (turn.event == turn.event) then Some (breach_in turn next) else Some (breach_in turn s)) ≡ breach (if not b then Some next else Some s)
  joined_field_by s next true e = rw e refl
  joined_field_by s next false e = rw e (rw (same_number turn.event) refl)

  joined_field : (first found : Option Stale) → AreOfFields found → joined (breach first) (breach found) ≡ breach (join_field first found)
  unfolding AreOfFields
  joined_field None found h = refl
  joined_field (Some s) None h = refl
  joined_field (Some s) (Some next) h = joined_field_by s next (is_field s) (h next refl)

  known_here : (known : VcpuId → Known) (new : Known) → known_with turn.vcpu new known turn.vcpu ≡ new
  known_here known new = rw (vcpu_itself turn.vcpu) refl

  made_tracks : (rules : Rules) (first : Option Stale) (known : Known) (m : Making) → Tracks rules first known
      → Tracks (rules_after (Makes (made_in turn m)) rules) (option_or first (stale_translation m known.records)) (after_making m known)
  made_tracks rules first known m t = record {
    here = known_here rules.known (after_making m (rules.known turn.vcpu)) ∙ ap (after_making m) t.here;
    first_is = ap (λ f. joined f (breach (stale_translation m (rules.known turn.vcpu).records))) t.first_is
        ∙ ap (λ (k : Known). joined (breach first) (breach (stale_translation m k.records))) t.here ∙ joined_translation first m m.outcome (stale_leaf m known.records);
  }

  flush_tracks : (rules : Rules) (first : Option Stale) (known : Known) (flush : Flush) → Tracks rules first known → Tracks (rules_after (Flushes turn.vcpu flush) rules) first (after_flush flush known)
  flush_tracks rules first known flush t = record {
    here = known_here rules.known (after_flush flush (rules.known turn.vcpu)) ∙ ap (after_flush flush) t.here;
    first_is = t.first_is;
  }

  exit_tracks : (rules : Rules) (first : Option Stale) (known : Known) (vmcb : ℕ) (stored : List FieldValue) → Tracks rules first known
      → Tracks (rules_after (Leaves turn.vcpu vmcb stored) rules) first (after_exit vmcb stored known)
  exit_tracks rules first known vmcb stored t = record {
    here = known_here rules.known (after_exit vmcb stored (rules.known turn.vcpu)) ∙ ap (after_exit vmcb stored) t.here;
    first_is = t.first_is;
  }

  fields_first : (rules : Rules) (first : Option Stale) (known : Known) (entering : Bool) (vmcb : ℕ) (found : Fields) → Tracks rules first known
      → joined rules.first (breach (stale_fields entering vmcb found ((rules.known turn.vcpu).held vmcb))) ≡ breach (join_field first (stale_fields entering vmcb found (known.held vmcb)))
  fields_first rules first known entering vmcb found t =
      ap (λ f. joined f (breach (stale_fields entering vmcb found ((rules.known turn.vcpu).held vmcb)))) t.first_is
      ∙ ap (λ (k : Known). joined (breach first) (breach (stale_fields entering vmcb found (k.held vmcb)))) t.here
      ∙ joined_field first (stale_fields entering vmcb found (known.held vmcb)) (fields_of_fields entering vmcb found (known.held vmcb))

  found_tracks : (rules : Rules) (first : Option Stale) (known : Known) (vmcb : ℕ) (entering : Bool) (found : Fields) → Tracks rules first known
      → Tracks (rules_after (Finds turn vmcb entering found) rules) (join_field first (stale_fields entering vmcb found (known.held vmcb))) (after_found vmcb entering found known)
  found_tracks rules first known vmcb entering found t = record {
    here = known_here rules.known (after_found vmcb entering found (rules.known turn.vcpu)) ∙ ap (after_found vmcb entering found) t.here;
    first_is = fields_first rules first known entering vmcb found t;
  }

  -- the passes of an access, and what comes after them
  passes_rules : ℕ → Bool → List Pass → Rules → Rules
  passes_rules asid wp [] rules = rules
  passes_rules asid wp (pass ∷ passed) rules = passes_rules asid wp passed (rules_after (Makes (made_in turn (passing asid wp pass))) rules)

  passes_lead : (asid : ℕ) (wp : Bool) (passed : List Pass) (next : List Notice) (rules : Rules)
      → rules_after_all (noticed_passes turn asid wp passed next) rules ≡ rules_after_all next (passes_rules asid wp passed rules)
  unfolding passes_rules
  passes_lead asid wp [] next rules = refl
  passes_lead asid wp (pass ∷ passed) next rules = passes_lead asid wp passed next (rules_after (Makes (made_in turn (passing asid wp pass))) rules)

  passes_track : (asid : ℕ) (wp : Bool) (passed : List Pass) (rules : Rules) (first : Option Stale) (known : Known) → Tracks rules first known
      → Tracks (passes_rules asid wp passed rules) (option_or first (stale_pass asid wp passed known)) (after_passes asid wp passed known)
  unfolding passes_rules
  passes_track asid wp [] rules first known t = subst (λ f. Tracks rules f known) (sym (or_nothing first)) t
  passes_track asid wp (pass ∷ passed) rules first known t =
      subst (λ f. Tracks (passes_rules asid wp passed (rules_after (Makes (made_in turn (passing asid wp pass))) rules)) f (after_passes asid wp passed (after_making (passing asid wp pass) known)))
      (or_or first (stale_translation (passing asid wp pass) known.records) (stale_pass asid wp passed (after_making (passing asid wp pass) known)))
      (passes_track asid wp passed (rules_after (Makes (made_in turn (passing asid wp pass))) rules) (option_or first (stale_translation (passing asid wp pass) known.records))
      (after_making (passing asid wp pass) known) (made_tracks rules first known (passing asid wp pass) t))

  -- translation breaches after what was first
  after_or : (first a field translation : Option Stale) → ((s : Stale) → a ≡ Some s → is_field s ≡ false) → after (option_or first a) field translation ≡ after first field (option_or a translation)
  after_or None None field translation h = refl
  after_or None (Some s) field translation h = rw (h s refl) refl
  after_or (Some f) a field translation h = refl

  translation_is : (m : Making) (outcome : Outcome) (found : Option Leaf) (s : Stale) → option_map (λ leaf. Translation (record_of m leaf) outcome) found ≡ Some s → is_field s ≡ false
  translation_is m outcome None s e = grind (arith, e)
  translation_is m outcome (Some leaf) s e = ap (kind_of true) (sym e) where
    kind_of : Bool → Option Stale → Bool
    kind_of b None = b
    kind_of b (Some s) = is_field s

  or_is : (a b : Option Stale) → ((s : Stale) → a ≡ Some s → is_field s ≡ false) → ((s : Stale) → b ≡ Some s → is_field s ≡ false) → (s : Stale) → option_or a b ≡ Some s → is_field s ≡ false
  or_is None b h k s e = k s e
  or_is (Some a) b h k s e = h s e

  pass_is : (asid : ℕ) (wp : Bool) (passed : List Pass) (known : Known) (s : Stale) → stale_pass asid wp passed known ≡ Some s → is_field s ≡ false
  pass_is asid wp [] known s e = grind (arith, e)
  pass_is asid wp (pass ∷ passed) known s e =
      or_is (stale_translation (passing asid wp pass) known.records) (stale_pass asid wp passed (after_making (passing asid wp pass) known))
      (translation_is (passing asid wp pass) (passing asid wp pass).outcome (stale_leaf (passing asid wp pass) known.records)) (pass_is asid wp passed (after_making (passing asid wp pass) known)) s e

  -- a field breach after what was first
  after_field_by : (f s : Stale) (field translation : Option Stale) (b : Bool) → is_field f ≡ b → is_field s ≡ true
      → after (if not b then Some s else Some f) field translation ≡ (if b then Some f else option_or (option_or (Some s) field) (Some f))
  after_field_by f s field translation true e k = rw e refl
  after_field_by f s field translation false e k = rw k refl

  after_field : (first found : Option Stale) → AreOfFields found → (field translation : Option Stale) → after (join_field first found) field translation ≡ after first (option_or found field) translation
  unfolding AreOfFields
  after_field None None h field translation = refl
  after_field None (Some x) h field translation = rw (h x refl) refl
  after_field (Some f) None h field translation = refl
  after_field (Some f) (Some x) h field translation = after_field_by f x field translation (is_field f) refl (h x refl)

  pub First : Rules → List Told → Option Stale → Known → Type 0
  First rules told first known = (rules_after_all (notices turn told) rules).first ≡ breach (after first (first_by field_breach told known) (first_by translation_breach told known))

  -- the first breach after all that a turn tells
  pub first_after : (told : List Told) (rules : Rules) (first : Option Stale) (known : Known) → Tracks rules first known → First rules told first known
  unfolding First
  first_after [] rules first known t = t.first_is ∙ ap breach (sym (after_nothing first))
  first_after (Accessed asid wp access answer passed ∷ told) rules first known t =
      let m = making asid wp access answer in
      let between = passes_rules asid wp passed rules in
      let k = after_passes asid wp passed known in
      let a = stale_pass asid wp passed known in
      let b = stale_translation m k.records in
      let field = first_by field_breach told (after_making m k) in
      let translation = first_by translation_breach told (after_making m k) in
      ap (λ r. r.first) (passes_lead asid wp passed (Makes (made_in turn m) ∷ notices turn told) rules)
      ∙ first_after told (rules_after (Makes (made_in turn m)) between) (option_or (option_or first a) b) (after_making m k)
      (made_tracks between (option_or first a) k m (passes_track asid wp passed rules first known t))
      ∙ ap breach (ap (λ o. after o field translation) (or_or first a b)
      ∙ after_or first (option_or a b) field translation (or_is a b (pass_is asid wp passed known) (translation_is m m.outcome (stale_leaf m k.records))))
  first_after (Flushed flush ∷ told) rules first known t =
      first_after told (rules_after (Flushes turn.vcpu flush) rules) first (after_flush flush known) (flush_tracks rules first known flush t)
  first_after (Found vmcb entering found ∷ told) rules first known t =
      let stale = stale_fields entering vmcb found (known.held vmcb) in
      first_after told (rules_after (Finds turn vmcb entering found) rules) (join_field first stale) (after_found vmcb entering found known) (found_tracks rules first known vmcb entering found t)
      ∙ ap breach (after_field first stale (fields_of_fields entering vmcb found (known.held vmcb)) _ _)
  first_after (Left vmcb stored ∷ told) rules first known t =
      first_after told (rules_after (Leaves turn.vcpu vmcb stored) rules) first (after_exit vmcb stored known) (exit_tracks rules first known vmcb stored t)

  -- where there was no breach before
  pub first_of_turn : (told : List Told) (rules : Rules) → rules.first ≡ None → (rules_after_all (notices turn told) rules).first ≡ breach (first_in told (rules.known turn.vcpu))
  unfolding First first_in
  first_of_turn told rules none = first_after told rules None (rules.known turn.vcpu) (record { here = refl; first_is = none })

  -- what is known of the turn's vcpu
  passes_known : (asid : ℕ) (wp : Bool) (passed : List Pass) (rules : Rules) (known : Known) → rules.known turn.vcpu ≡ known → (passes_rules asid wp passed rules).known turn.vcpu ≡ after_passes asid wp passed known
  unfolding passes_rules
  passes_known asid wp [] rules known h = h
  passes_known asid wp (pass ∷ passed) rules known h =
      passes_known asid wp passed (rules_after (Makes (made_in turn (passing asid wp pass))) rules) (after_making (passing asid wp pass) known)
      (known_here rules.known (after_making (passing asid wp pass) (rules.known turn.vcpu)) ∙ ap (after_making (passing asid wp pass)) h)

  pub known_after_turn : (told : List Told) (rules : Rules) (known : Known) → rules.known turn.vcpu ≡ known → (rules_after_all (notices turn told) rules).known turn.vcpu ≡ known_after_all told known
  known_after_turn [] rules known h = h
  known_after_turn (Accessed asid wp access answer passed ∷ told) rules known h =
      let m = making asid wp access answer in
      let between = passes_rules asid wp passed rules in
      ap (λ r. r.known turn.vcpu) (passes_lead asid wp passed (Makes (made_in turn m) ∷ notices turn told) rules)
      ∙ known_after_turn told (rules_after (Makes (made_in turn m)) between) (after_making m (after_passes asid wp passed known))
      (known_here between.known (after_making m (between.known turn.vcpu)) ∙ ap (after_making m) (passes_known asid wp passed rules known h))
  known_after_turn (Flushed flush ∷ told) rules known h =
      known_after_turn told (rules_after (Flushes turn.vcpu flush) rules) (after_flush flush known) (known_here rules.known (after_flush flush (rules.known turn.vcpu)) ∙ ap (after_flush flush) h)
  known_after_turn (Found vmcb entering found ∷ told) rules known h =
      known_after_turn told (rules_after (Finds turn vmcb entering found) rules) (after_found vmcb entering found known) (known_here rules.known (after_found vmcb entering found (rules.known turn.vcpu)) ∙ ap (after_found vmcb entering found) h)
  known_after_turn (Left vmcb stored ∷ told) rules known h =
      known_after_turn told (rules_after (Leaves turn.vcpu vmcb stored) rules) (after_exit vmcb stored known) (known_here rules.known (after_exit vmcb stored (rules.known turn.vcpu)) ∙ ap (after_exit vmcb stored) h)

  -- and of the others
  apart : (known : VcpuId → Known) (new : Known) (other : VcpuId) → is_vcpu other turn.vcpu ≡ false → known_with turn.vcpu new known other ≡ known other
  apart known new other e = rw e refl

  passes_others : (asid : ℕ) (wp : Bool) (passed : List Pass) (rules : Rules) (other : VcpuId) → is_vcpu other turn.vcpu ≡ false → (passes_rules asid wp passed rules).known other ≡ rules.known other
  unfolding passes_rules
  passes_others asid wp [] rules other e = refl
  passes_others asid wp (pass ∷ passed) rules other e =
      passes_others asid wp passed (rules_after (Makes (made_in turn (passing asid wp pass))) rules) other e ∙ apart rules.known (after_making (passing asid wp pass) (rules.known turn.vcpu)) other e

  pub others_after_turn : (told : List Told) (rules : Rules) (other : VcpuId) → is_vcpu other turn.vcpu ≡ false → (rules_after_all (notices turn told) rules).known other ≡ rules.known other
  others_after_turn [] rules other e = refl
  others_after_turn (Accessed asid wp access answer passed ∷ told) rules other e =
      let m = making asid wp access answer in
      let between = passes_rules asid wp passed rules in
      ap (λ r. r.known other) (passes_lead asid wp passed (Makes (made_in turn m) ∷ notices turn told) rules)
      ∙ others_after_turn told (rules_after (Makes (made_in turn m)) between) other e
      ∙ apart between.known (after_making m (between.known turn.vcpu)) other e ∙ passes_others asid wp passed rules other e
  others_after_turn (Flushed flush ∷ told) rules other e =
      others_after_turn told (rules_after (Flushes turn.vcpu flush) rules) other e ∙ apart rules.known (after_flush flush (rules.known turn.vcpu)) other e
  others_after_turn (Found vmcb entering found ∷ told) rules other e =
      others_after_turn told (rules_after (Finds turn vmcb entering found) rules) other e ∙ apart rules.known (after_found vmcb entering found (rules.known turn.vcpu)) other e
  others_after_turn (Left vmcb stored ∷ told) rules other e =
      others_after_turn told (rules_after (Leaves turn.vcpu vmcb stored) rules) other e ∙ apart rules.known (after_exit vmcb stored (rules.known turn.vcpu)) other e
