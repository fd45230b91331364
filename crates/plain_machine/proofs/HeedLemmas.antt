-- A turn whose vcpu takes no interrupts is the same whatever its APIC gives.
use Rattle.std.proofs.Common.{◌≡◌, ℕ, Bool, true, false, ◌&&◌, not, cond, Option, None, refl, sym, subst}
use Rattle.svm_model.specs.Turn.Control.{Control, physical_flag, turn_by}
use Rattle.svm_model.specs.Turn.Work.{course_of, done, is_some, next_work, takes_nmi, takes_virtual, turn_course}
use Rattle.svm_model.specs.declared.turns.Facts.{Facts}
use Rattle.svm_model.specs.declared.turns.Work.{Work}
use Rattle.svm_model.specs.declared.turns.Work.TheVariants.{Inject, Nmi, Interrupt, Virtual, Nothing, Instruction}
use Rattle.svm_model.specs.declared.vcpus.Vcpu.{Vcpu}
use Rattle.turn_exec.specs.Takes.{takes}

-- the first work that is due, by the tests for each
abbrev first : Bool → Bool → Bool → Bool → Bool → Work
first injects nmi interrupt virtual halted =
    cond injects Inject (cond nmi Nmi (cond interrupt Interrupt (cond virtual Virtual (cond halted Nothing Instruction))))

other_work : (control : Option Control) (facts : Facts) (vcpu : Vcpu) (one other : Option ℕ) (injects nmi virtual halted : Bool) →
    course_of (first injects nmi false virtual halted) control facts vcpu one done ≡ course_of (first injects nmi false virtual halted) control facts vcpu other done
unfolding course_of
other_work control facts vcpu one other true nmi virtual halted = refl
other_work control facts vcpu one other false true virtual halted = refl
other_work control facts vcpu one other false false true halted = refl
other_work control facts vcpu one other false false false true = refl
other_work control facts vcpu one other false false false false = refl

not_taken : (some gif shadow flag : Bool) → (gif && not shadow && flag) ≡ false → (some && gif && not shadow && flag) ≡ false
not_taken true gif shadow flag e = e
not_taken false gif shadow flag e = refl

pub unheeded : (control : Option Control) (facts : Facts) (vcpu : Vcpu) (interrupt : Option ℕ) → takes control vcpu ≡ false → turn_course control facts vcpu None ≡ turn_course control facts vcpu interrupt
unfolding next_work
unheeded control facts vcpu interrupt e =
    let t = turn_by control vcpu interrupt in
    let P : Bool → Type 0 = λ i. turn_course control facts vcpu None ≡ course_of (first t.injection (takes_nmi t) i (takes_virtual t) t.halted) control facts vcpu interrupt done in
    subst P (sym (not_taken (is_some interrupt) vcpu.gif vcpu.registers.shadow (physical_flag control vcpu) e))
    (other_work control facts vcpu None interrupt t.injection (takes_nmi t) (takes_virtual t) t.halted)
