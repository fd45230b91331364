-- The file at the first place of a name is the first file of that name.
use Rattle.std.proofs.Common.{◌≡◌, ◌≤◌, ◌<◌, ◌+◌, ℕ, suc, List, [], ◌∷◌, length, Bool, true, false, not, cond, Option, Some, None, refl, ap, sym, ◌∙◌, arith}
use Rattle.std.specs.Prelude.{String, Vec, slice_get, position, string_bytes, nat_lt}
use Rattle.std.specs.List.{position_or_len}
use Rattle.std.specs.Str.{bytes_eq}
use Rattle.std.proofs.lemmas.List.{length-map}
use Rattle.std.proofs.lemmas.Option.{slice_get_past, slice_get-get_or, cond_some}
use Rattle.byte_shelf.specs.Shelf.{file_in}
use Rattle.byte_shelf.specs.Memory.{contents, files_of, left_of, opened_of}

by_test : (t : Bool) (P : Bool → Type 0) → (t ≡ true → P true) → (t ≡ false → P false) → P t
by_test true P f g = f refl
by_test false P f g = g refl

-- the first place of a name, or the number of names where it is not among them
abbrev place_of : {A : Type 0} → List (String A) → List ℕ → ℕ
place_of names name = position_or_len (λ held. bytes_eq (string_bytes held) name) names

at_place : {A B : Type 0} (names : List (String A)) (files : List (Vec ℕ B)) (name : List ℕ) → length names ≡ length files → slice_get (contents files) (place_of names name) ≡ file_in (files_of names files) name
at_place [] [] name same = refl
at_place [] (file ∷ files) name same = absurd (omega arith)
at_place (held ∷ names) [] name same = absurd (omega arith)
at_place (held ∷ names) (file ∷ files) name same =
    let rest : length names ≡ length files = omega arith in
    let later = at_place names files name rest in
    let next : 1 + place_of names name ≡ suc (place_of names name) = omega arith in
    by_test (bytes_eq (string_bytes held) name)
    (λ t. slice_get (file.items ∷ contents files) (cond (not t) (1 + place_of names name) 0) ≡ cond t (Some file.items) (file_in (files_of names files) name))
    (λ _. refl)
    (λ _. rw next later)

pub first_file : {A B : Type 0} (names : List (String A)) (files : List (Vec ℕ B)) (name : List ℕ) → length names ≡ length files → opened_of files (position (λ held. bytes_eq (string_bytes held) name) names) ≡ file_in (files_of names files) name
first_file names files name same =
    by_test (nat_lt (place_of names name) (length names))
    (λ t. opened_of files (cond t (Some (place_of names name)) None) ≡ file_in (files_of names files) name)
    (λ _. at_place names files name same)
    (λ past.
    let behind : length (contents files) ≤ place_of names name = rw (length-map, ← same) (grind (arith, past)) in
    sym (slice_get_past (contents files) (place_of names name) behind) ∙ at_place names files name same)

-- what a shelf tells of a name by its first place: the file, or none
pub found_file : {A B : Type 0} (names : List (String A)) (files : List (Vec ℕ B)) (name : List ℕ) (index : ℕ) → length names ≡ length files → Some index ≡ position (λ held. bytes_eq (string_bytes held) name) names → Some (left_of (opened_of files (Some index)) 0) ≡ file_in (files_of names files) name
found_file names files name index same found =
    let first = first_file names files name same in
    let both = cond_some (nat_lt (place_of names name) (length names)) (place_of names name) index (sym found) in
    let within : index < length names = grind (arith, both.0, both.1) in
    let inside : index < length (contents files) = rw length-map (rw (← same) within) in
    let there = slice_get-get_or (contents files) index [] inside in
    ap (λ (file : Option (List ℕ)). Some (left_of file 0)) there ∙ sym there ∙ ap (opened_of files) found ∙ first

pub missing_file : {A B : Type 0} (names : List (String A)) (files : List (Vec ℕ B)) (name : List ℕ) → length names ≡ length files → None ≡ position (λ held. bytes_eq (string_bytes held) name) names → file_in (files_of names files) name ≡ None
missing_file names files name same missing = sym (ap (opened_of files) missing ∙ first_file names files name same)
