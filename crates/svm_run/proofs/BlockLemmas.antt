-- What a traced run keeps and prints, page by page and guest by guest.
use Rattle.std.proofs.Common.{◌≡◌, ◌∙◌, ℕ, zero, suc, ◌+◌, ◌*◌, ◌/◌, ◌≤◌, ◌<◌, List, [], ◌∷◌, ◌++◌, length, take, drop, ap, sym, refl, arith, add-one, append_assoc, append-nil, length-append, length-drop, slice_set}
use Rattle.std.proofs.Math.ListN.{set}
use Rattle.std.proofs.lemmas.List.{length-take-le, take-append-drop, drop_all, get_or-set_same, length-set, set-get_or, take_all}
use Rattle.svm_model.specs.Formats.Trace.{changed_lines, memory_lines, pages_lines}
use Rattle.svm_model.specs.Memory.Bytes.{page_at, put_at}
use Rattle.report_text.proofs.TraceLemmas.{changed_lines-same, page-merge, merge-put}
use Rattle.svm_run.specs.Blocks.{copy_of}

-- What is new up to a page, and old from there on.
abbrev pub merged : List ℕ → List ℕ → ℕ → List ℕ
merged new old page = take (4096 * page) new ++ drop (4096 * page) old

-- a place that is set twice
set-twice : {A : Type 0} (xs : List A) (i : ℕ) (x y : A) → set (set xs i x) i y ≡ set xs i y
set-twice [] i x y = refl
set-twice (z ∷ xs) zero x y = refl
set-twice (z ∷ xs) (suc i) x y = ap (λ zs. z ∷ zs) (set-twice xs i x y)

-- at first all is old
pub merged_none : (copies : List (List ℕ)) (guest : ℕ) (new : List ℕ) → copies ≡ slice_set copies guest (merged new (copy_of copies guest) 0)
merged_none copies guest new = sym (set-get_or copies guest [])

pub pages_none : (text : List ℕ) (guest : ℕ) (old new : List ℕ) → text ≡ text ++ pages_lines guest old new 0
unfolding pages_lines
pages_none text guest old new = sym (append-nil text)

-- in the end all is new
pub merged_all : (old new : List ℕ) (count : ℕ) → 4096 * count ≡ length new → length old ≡ length new → merged new old count ≡ new
merged_all old new count e size =
    ap (λ l. l ++ drop (4096 * count) old) (take_all (4096 * count) new (omega (arith, e)))
    ∙ ap (λ l. new ++ l) (drop_all (4096 * count) old (omega (arith, e, size)))
    ∙ append-nil new

pub pages_all : (guest : ℕ) (old new : List ℕ) (count : ℕ) → 4096 * count ≡ length new → pages_lines guest old new count ≡ memory_lines guest old new
pages_all guest old new count e =
    let same : count ≡ length new / 4096 = omega (arith, e) in
    ap (pages_lines guest old new) same

more : (guest : ℕ) (old new : List ℕ) (page : ℕ) → pages_lines guest old new (page + 1) ≡ pages_lines guest old new page ++ changed_lines guest (4096 * page) [] (page_at old page) (page_at new page)
unfolding pages_lines
more guest old new page = ap (pages_lines guest old new) (add-one page)

pub merged-page : (old new : List ℕ) (page : ℕ) → length new ≡ length old → 4096 * page + 4096 ≤ length old → page_at (merged new old page) page ≡ page_at old page
merged-page old new page e h = page-merge page new old e h

pub merged-long : (old new : List ℕ) (page : ℕ) → length new ≡ length old → 4096 * page + 4096 ≤ length old → length (merged new old page) ≡ length old
merged-long old new page e h =
    omega (arith, e, h, length-append (take (4096 * page) new) (drop (4096 * page) old), length-take-le (4096 * page) new (omega (arith, e, h)), length-drop (4096 * page) old)

-- one page more, which is printed and put
pub text_put : (text initial text' : List ℕ) (guest : ℕ) (old new merge : List ℕ) (page : ℕ) → length new ≡ length old → 4096 * page + 4096 ≤ length old → merge ≡ merged new old page →
    text ≡ initial ++ pages_lines guest old new page → text' ≡ text ++ changed_lines guest (4096 * page) [] (page_at merge page) (page_at new page) →
    text' ≡ initial ++ pages_lines guest old new (page + 1)
text_put text initial text' guest old new merge page size h is before e =
    e
    ∙ ap (λ m. text ++ changed_lines guest (4096 * page) [] (page_at m page) (page_at new page)) is
    ∙ ap (λ p. text ++ changed_lines guest (4096 * page) [] p (page_at new page)) (page-merge page new old size h)
    ∙ ap (λ t. t ++ changed_lines guest (4096 * page) [] (page_at old page) (page_at new page)) before
    ∙ append_assoc initial (pages_lines guest old new page) (changed_lines guest (4096 * page) [] (page_at old page) (page_at new page))
    ∙ ap (λ l. initial ++ l) (sym (more guest old new page))

pub copies_put : (copies initial copies' : List (List ℕ)) (guest : ℕ) (old new merge : List ℕ) (page : ℕ) → length new ≡ length old → 4096 * page + 4096 ≤ length old → merge ≡ merged new old page →
    copies ≡ slice_set initial guest (merged new old page) → copies' ≡ slice_set copies guest (put_at merge (4096 * page) (page_at new page)) →
    copies' ≡ slice_set initial guest (merged new old (page + 1))
copies_put copies initial copies' guest old new merge page size h is before e =
    e
    ∙ ap (λ m. slice_set copies guest (put_at m (4096 * page) (page_at new page))) is
    ∙ ap (λ m. slice_set copies guest m) (merge-put page new old size h)
    ∙ ap (λ cs. slice_set cs guest (merged new old (page + 1))) before
    ∙ set-twice initial guest (merged new old page) (merged new old (page + 1))

-- the copy of the guest, among those that were set
pub copy_there : (copies initial : List (List ℕ)) (guest : ℕ) (memory : List ℕ) → copies ≡ slice_set initial guest memory → guest < length initial → copy_of copies guest ≡ memory
copy_there copies initial guest memory e h = ap (λ cs. copy_of cs guest) e ∙ get_or-set_same initial guest memory [] h

pub copies_long : (copies initial : List (List ℕ)) (guest : ℕ) (memory : List ℕ) → copies ≡ slice_set initial guest memory → length copies ≡ length initial
copies_long copies initial guest memory e = ap length e ∙ length-set initial guest memory

pub page-long : (memory : List ℕ) (page : ℕ) → 4096 * page + 4096 ≤ length memory → length (page_at memory page) ≡ 4096
page-long memory page h = length-take-le 4096 (drop (4096 * page) memory) (omega (arith, h, length-drop (4096 * page) memory))

-- a page that is the same has no line, and its copy stays
pub lines_unchanged : (text : List ℕ) (guest : ℕ) (old new : List ℕ) (page : ℕ) → page_at new page ≡ page_at old page →
    text ≡ text ++ changed_lines guest (4096 * page) [] (page_at old page) (page_at new page)
lines_unchanged text guest old new page same =
    sym (ap (λ p. text ++ changed_lines guest (4096 * page) [] (page_at old page) p) same
    ∙ ap (λ l. text ++ l) (changed_lines-same guest (4096 * page) (page_at old page)) ∙ append-nil text)

put-same : (memory : List ℕ) (page : ℕ) → 4096 * page + 4096 ≤ length memory → put_at memory (4096 * page) (page_at memory page) ≡ memory
put-same memory page h =
    ap (λ m. put_at m (4096 * page) (page_at memory page)) (sym (take-append-drop (4096 * page) memory))
    ∙ merge-put page memory memory refl h
    ∙ take-append-drop (4096 * (page + 1)) memory

pub copies_unchanged : (copies : List (List ℕ)) (guest : ℕ) (new : List ℕ) (page : ℕ) → 4096 * page + 4096 ≤ length (copy_of copies guest) → page_at new page ≡ page_at (copy_of copies guest) page →
    copies ≡ slice_set copies guest (put_at (copy_of copies guest) (4096 * page) (page_at new page))
copies_unchanged copies guest new page h same =
    sym (ap (λ p. slice_set copies guest (put_at (copy_of copies guest) (4096 * page) p)) same
    ∙ ap (slice_set copies guest) (put-same (copy_of copies guest) page h) ∙ set-get_or copies guest [])
