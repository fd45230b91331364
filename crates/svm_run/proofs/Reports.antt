-- The report of a world, guest by guest and vcpu by vcpu.
use Rattle.std.proofs.Common.{◌≡◌, ◌∙◌, ℕ, zero, suc, ◌+◌, true, Option, Some, None, List, [], ◌∷◌, ◌++◌, length, map, drop, ap, sym, refl, arith, add-one, is_some, slice_get, append_assoc, append-nil}
use Rattle.std.specs.Option.{option_map}
use Rattle.std.proofs.lemmas.List.{drop_all}
use Rattle.std.proofs.lemmas.Option.{slice_get-map}
use Rattle.svm_model.specs.Machine.Bus.{Bus, Device}
use Rattle.svm_model.specs.Machine.Guest.{Guest, level_in}
use Rattle.svm_model.specs.Formats.Text.{report, guest_lines, vcpu_line, vcpu_lines}
use Rattle.svm_model.specs.Machine.World.{World}
use Rattle.svm_model.specs.declared.names.Ended.{Ended}
use Rattle.svm_model.specs.declared.ports.PortWrite.{PortWrite}
use Rattle.svm_model.specs.declared.vcpus.Vcpu.{Vcpu}
use Rattle.plain_machine.specs.Machines.{vcpu_of}
use Rattle.svm_run.specs.Outcome.{has_ended, outcome_after, status_ended}

-- the lines from one vcpu on are its line, and those from the next on
vcpu-next : (vcpus : List Vcpu) (guest index n : ℕ) (text text' : List ℕ) → option_map (λ v. text ++ vcpu_line guest index (level_in v.inside) v.halted v.registers) (slice_get vcpus n) ≡ Some text' →
    text' ++ vcpu_lines guest (index + 1) (drop (suc n) vcpus) ≡ text ++ vcpu_lines guest index (drop n vcpus)
vcpu-next [] guest index n text text' e = absurd (cc)
vcpu-next (v ∷ vcpus) guest index zero text text' e =
    let same : text' ≡ text ++ vcpu_line guest index (level_in v.inside) v.halted v.registers = cc in
    ap (λ (t : List ℕ). t ++ vcpu_lines guest (index + 1) vcpus) same ∙ append_assoc text _ _
vcpu-next (v ∷ vcpus) guest index (suc n) text text' e = vcpu-next vcpus guest index n text text' e

pub vcpus_next : (o : Option Guest) (guest n : ℕ) (text text' : List ℕ) → option_map (λ v. text ++ vcpu_line guest n (level_in v.inside) v.halted v.registers) (vcpu_of o n) ≡ Some text' →
    option_map (λ g. text' ++ vcpu_lines guest (n + 1) (drop (n + 1) g.vcpus)) o ≡ option_map (λ g. text ++ vcpu_lines guest n (drop n g.vcpus)) o
vcpus_next None guest n text text' e = refl
vcpus_next (Some g) guest n text text' e =
    ap (λ k. Some (text' ++ vcpu_lines guest (n + 1) (drop k g.vcpus))) (add-one n) ∙ ap Some (vcpu-next g.vcpus guest n n text text' e)

none_left : (o : Option Guest) (guest count : ℕ) (text : List ℕ) → option_map (λ g. length g.vcpus) o ≡ Some count → option_map (λ g. text ++ vcpu_lines guest count (drop count g.vcpus)) o ≡ Some text
none_left None guest count text e = absurd (cc)
none_left (Some g) guest count text e =
    let all : length g.vcpus ≡ count = cc in
    ap (λ (vs : List Vcpu). Some (text ++ vcpu_lines guest count vs)) (drop_all count g.vcpus (omega arith)) ∙ ap Some (append-nil text)

-- behind the last vcpu
pub vcpus_all : (guests : List Guest) (guest count : ℕ) (text : List ℕ) → slice_get (map (λ (g : Guest). length g.vcpus) guests) guest ≡ Some count →
    option_map (λ g. text ++ vcpu_lines guest count (drop count g.vcpus)) (slice_get guests guest) ≡ Some text
vcpus_all guests guest count text e = none_left (slice_get guests guest) guest count text (sym (slice_get-map (λ (g : Guest). length g.vcpus) guests guest) ∙ e)

-- what is told from one guest on is what is told of it, and from the next on
guest-next : (guests : List Guest) (output : List PortWrite) (number n : ℕ) (text text' : List ℕ) → option_map (λ g. text ++ guest_lines output number (g ∷ [])) (slice_get guests n) ≡ Some text' →
    text' ++ guest_lines output (number + 1) (drop (suc n) guests) ≡ text ++ guest_lines output number (drop n guests)
guest-next [] output number n text text' e = absurd (cc)
guest-next (g ∷ guests) output number zero text text' e =
    let same : text' ≡ text ++ guest_lines output number (g ∷ []) = cc in
    rw same (simp (append_assoc, append-nil))
guest-next (g ∷ guests) output number (suc n) text text' e = guest-next guests output number n text text' e

pub guests_next : (guests : List Guest) (output : List PortWrite) (n : ℕ) (text text' : List ℕ) → option_map (λ g. text ++ guest_lines output n (g ∷ [])) (slice_get guests n) ≡ Some text' →
    text' ++ guest_lines output (n + 1) (drop (n + 1) guests) ≡ text ++ guest_lines output n (drop n guests)
guests_next guests output n text text' e =
    ap (λ k. text' ++ guest_lines output (n + 1) (drop k guests)) (add-one n) ∙ guest-next guests output n n text text' e

-- a guest that was ended is one of those from it on
pub ended_here : (guests : List Guest) (n : ℕ) (e : Option Ended) → option_map (λ g. g.ended) (slice_get guests n) ≡ Some e → is_some e ≡ true → has_ended (drop n guests) ≡ true
ended_here [] n e s t = absurd (cc)
ended_here (g ∷ guests) zero e s t =
    let same : g.ended ≡ e = cc in
    rw (same, t) refl
ended_here (g ∷ guests) (suc n) e s t = ended_here guests n e s t

-- the report of a world beside a bus with this output
pub report_of_bus : (w : World) (bus : Bus) (output : List PortWrite) (text : List ℕ) → output ≡ bus.output →
    ((devices : List (Option Device)) → text ≡ report w (record { devices = devices; output = output })) → text ≡ (outcome_after [] (record { world = w; bus = bus })).text
unfolding outcome_after
report_of_bus w bus output text e h = h bus.devices ∙ ap (λ (o : List PortWrite). report w (record { devices = bus.devices; output = o })) e

pub status_led : (w : World) (bus : Bus) → status_ended w.guests ≡ (outcome_after [] (record { world = w; bus = bus })).status
unfolding outcome_after
status_led w bus = refl

pub ruleset reports = (guests_next, ended_here)
