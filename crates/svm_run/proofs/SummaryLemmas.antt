-- RAX of the vcpus of a guest, one after another.
use Rattle.std.proofs.Common.{◌≡◌, ◌∙◌, ℕ, zero, suc, ◌+◌, Option, Some, None, List, [], ◌∷◌, ◌++◌, length, map, drop, ap, sym, refl, arith, add-one, slice_get, append_assoc, append-nil}
use Rattle.std.specs.Option.{option_map}
use Rattle.std.proofs.lemmas.List.{drop_all}
use Rattle.std.proofs.lemmas.Option.{slice_get-map}
use Rattle.svm_model.specs.Machine.Guest.{Guest}
use Rattle.svm_model.specs.declared.vcpus.Vcpu.{Vcpu}
use Rattle.plain_machine.specs.Machines.{vcpu_of}
use Rattle.svm_run.specs.Summary.{rax_line, rax_lines, vcpus_of_first}

-- the lines from one vcpu on are its line, and those from the next on
rax-next : (vcpus : List Vcpu) (index n : ℕ) (text text' : List ℕ) → option_map (λ v. text ++ rax_line index v.registers) (slice_get vcpus n) ≡ Some text' →
    text' ++ rax_lines (index + 1) (drop (suc n) vcpus) ≡ text ++ rax_lines index (drop n vcpus)
rax-next [] index n text text' e = absurd (cc)
rax-next (v ∷ vcpus) index zero text text' e =
    let same : text' ≡ text ++ rax_line index v.registers = cc in
    ap (λ (t : List ℕ). t ++ rax_lines (index + 1) vcpus) same ∙ append_assoc text _ _
rax-next (v ∷ vcpus) index (suc n) text text' e = rax-next vcpus index n text text' e

pub raxes_next : (o : Option Guest) (n : ℕ) (text text' : List ℕ) → option_map (λ v. text ++ rax_line n v.registers) (vcpu_of o n) ≡ Some text' →
    option_map (λ g. text' ++ rax_lines (n + 1) (drop (n + 1) g.vcpus)) o ≡ option_map (λ g. text ++ rax_lines n (drop n g.vcpus)) o
raxes_next None n text text' e = refl
raxes_next (Some g) n text text' e = ap (λ k. Some (text' ++ rax_lines (n + 1) (drop k g.vcpus))) (add-one n) ∙ ap Some (rax-next g.vcpus n n text text' e)

none_left : (o : Option Guest) (count : ℕ) (text : List ℕ) → option_map (λ g. length g.vcpus) o ≡ Some count → option_map (λ g. text ++ rax_lines count (drop count g.vcpus)) o ≡ Some text
none_left None count text e = absurd (cc)
none_left (Some g) count text e =
    let all : length g.vcpus ≡ count = cc in
    ap (λ (vs : List Vcpu). Some (text ++ rax_lines count vs)) (drop_all count g.vcpus (omega arith)) ∙ ap Some (append-nil text)

-- behind the last vcpu
pub raxes_all : (guests : List Guest) (guest count : ℕ) (text : List ℕ) → slice_get (map (λ (g : Guest). length g.vcpus) guests) guest ≡ Some count →
    option_map (λ g. text ++ rax_lines count (drop count g.vcpus)) (slice_get guests guest) ≡ Some text
raxes_all guests guest count text e = none_left (slice_get guests guest) count text (sym (slice_get-map (λ (g : Guest). length g.vcpus) guests guest) ∙ e)

-- of the first guest
pub raxes_first : (guests : List Guest) (front text : List ℕ) → option_map (λ (g : Guest). front ++ rax_lines 0 g.vcpus) (slice_get guests 0) ≡ Some text → text ≡ front ++ rax_lines 0 (vcpus_of_first guests)
raxes_first [] front text e = absurd (cc)
raxes_first (g ∷ guests) front text e = cc
