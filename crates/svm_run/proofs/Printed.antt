-- How a job ends by what was received of its last text.
use Rattle.std.proofs.Common.{◌≡◌, ℕ, List, [], Option, sym, refl, subst, arith}
use Rattle.byte_shelf.specs.Sink.{appended, IsCutShort}
use Rattle.fault_counts.specs.Causes.{Rose}
use Rattle.svm_run.specs.Answers.{AreNone, EndsPrinting, HasCause, IsReached, IsRefusedAt, IsWhole, Receives, ReceivesLine}
use Rattle.svm_run.specs.StatusLine.{status_line}
use Rattle.svm_run.specs.Statuses.{Blame, EventsRun, Printed, meaning_of}
use Rattle.svm_run.specs.declared.status.Status.{Status}
use Rattle.svm_run.specs.declared.status.Status.TheVariants.{OutsideFault, NoMemory}
use Rattle.svm_run.specs.declared.status.OutsideFault.TheVariants.{Write}
use Rattle.svm_run.proofs.Received.{at_once, behind, cut_alone}

-- all of it
pub printed_whole : (status : Status) (text : List ℕ) (old new : Option (List ℕ)) (r : Type 0) (k m : ℕ) → IsWhole (meaning_of status) → new ≡ appended old text → EndsPrinting status status text old new r k m
printed_whole status text old new r k m whole h = record {
  exact = λ _. refl;
  run = λ none. subst (λ (e : EventsRun). AreNone e) whole.events none;
  reached = λ count. subst (λ (e : EventsRun). IsReached e count count) (sym whole.events) refl;
  not_refused = λ count bus job. subst (λ (e : EventsRun). IsRefusedAt e count bus job) (sym whole.events) tt;
  printed = subst (λ (p : Printed). Receives p [] text (status_line status) old new r) (sym whole.printed) h;
  cause = λ s t d e. subst (λ (b : Blame). HasCause b s t k m d e) (sym whole.blame) tt;
}

-- a part of it, as the sink had a fault
pub printed_in_part : (wanted : Status) (text : List ℕ) (old new : Option (List ℕ)) (r : Type 0) (k m : ℕ) → IsCutShort old new text → Rose k m → EndsPrinting wanted (OutsideFault Write) text old new r k m
printed_in_part wanted text old new r k m cut rose = record {
  exact = λ answer. absurd answer;
  run = λ none. none;
  reached = λ count. omega arith;
  not_refused = λ count bus job. tt;
  printed = cut_alone old new text cut;
  cause = λ s t d e. rose;
}

-- without memory

printed_without : (wanted status : Status) (text : List ℕ) (old new : Option (List ℕ)) (r : Type 0) (k m : ℕ) → status ≡ NoMemory → Receives (meaning_of NoMemory).printed [] text (status_line NoMemory) old new r → EndsPrinting wanted status text old new r k m
printed_without wanted status text old new r k m e h = subst (λ (s : Status). EndsPrinting wanted s text old new r k m) (sym e) (record {
  exact = λ answer. absurd answer;
  run = λ none. none;
  reached = λ count. omega arith;
  not_refused = λ count bus job. tt;
  printed = h;
  cause = λ s t d e. tt;
})

-- of the sink: a part of it
pub printed_to_want : (wanted status : Status) (text : List ℕ) (old mid new : Option (List ℕ)) (r s : Type 0) (k m : ℕ) → status ≡ NoMemory → IsCutShort old mid text → s → ReceivesLine mid new (status_line NoMemory) r → EndsPrinting wanted status text old new s k m
printed_to_want wanted status text old mid new r s k m e cut cause h = printed_without wanted status text old new s k m e (behind old mid new text (status_line NoMemory) r s cut cause h)

-- for the text: nothing of it
pub printed_nothing : (wanted status : Status) (text : List ℕ) (old new : Option (List ℕ)) (r : Type 0) (k m : ℕ) → status ≡ NoMemory → ReceivesLine old new (status_line NoMemory) r → EndsPrinting wanted status text old new r k m
printed_nothing wanted status text old new r k m e h = printed_without wanted status text old new r k m e (at_once old new [] text (status_line NoMemory) r (omega arith) h)

-- the status and the text are the same as others
pub printed_as : (wanted other status : Status) (text same : List ℕ) (old new : Option (List ℕ)) (r : Type 0) (k m : ℕ) → wanted ≡ other → text ≡ same → EndsPrinting wanted status text old new r k m →
    EndsPrinting other status same old new r k m
printed_as wanted other status text same old new r k m e f h =
    let P : Status → Type 0 = λ w. EndsPrinting w status same old new r k m in
    let Q : List ℕ → Type 0 = λ t. EndsPrinting wanted status t old new r k m in
    subst P e (subst Q f h)
