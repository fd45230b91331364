-- A turn keeps the rules exactly where it has no first breach.
use Rattle.std.proofs.Common.{◌≡◌, Bool, true, false, ◌&&◌, List, [], ◌∷◌, refl, sym, ap, ◌∙◌, Option, Some, None}
use Rattle.std.specs.Prelude.{is_none}
use Rattle.std.specs.Option.{option_or}
use Rattle.svm_model.specs.Audit.Breaches.{field_breach, first_by, first_in, keeps_at, known_after, known_of, translation_breach}
use Rattle.svm_model.specs.Turn.Course.{Told}
use Rattle.svm_model.specs.Turn.Histories.{keeps_by}
use Rattle.svm_model.specs.declared.audits.Stale.{Stale}

none_or : (a b : Option Stale) → is_none (option_or a b) ≡ (is_none a && is_none b)
none_or None b = refl
none_or (Some s) b = refl

swapped : (a b c d : Bool) → ((a && b) && (c && d)) ≡ ((a && c) && (b && d))
swapped true true c d = refl
swapped true false true d = refl
swapped true false false d = refl
swapped false b c d = refl

pub keeps_is : (told history : List Told) → keeps_by keeps_at history told ≡ is_none (first_in told (known_of history))
unfolding keeps_at first_in
keeps_is [] history = refl
keeps_is (t ∷ told) history =
    let k = known_of history in
    let a = field_breach t k in
    let b = translation_breach t k in
    let fields = first_by field_breach told (known_after t k) in
    let translations = first_by translation_breach told (known_after t k) in
    ap (λ x. (is_none a && is_none b) && x) (keeps_is told (t ∷ history) ∙ none_or fields translations)
    ∙ swapped (is_none a) (is_none b) (is_none fields) (is_none translations)
    ∙ sym (none_or (option_or a fields) (option_or b translations) ∙ (λ i. none_or a fields i && none_or b translations i))
