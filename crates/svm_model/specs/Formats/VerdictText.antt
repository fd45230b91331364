-- The printed text of a verdict: one line.
use Rattle.std.specs.Prelude.{ℕ, ◌==◌, List, Bool, if◌then◌else◌, codes}
use Rattle.std.specs.Fmt.{decimal}
use Rattle.svm_model.specs.Formats.Text.{◌⧺◌, hex, newline}
use Rattle.svm_model.specs.Formats.Trace.{id_text}
use Rattle.svm_model.specs.Svm.VmcbLayout.{place_of}
use Rattle.svm_model.specs.declared.audits.Breach.{Breach}
use Rattle.svm_model.specs.declared.audits.Outcome.{Outcome}
use Rattle.svm_model.specs.declared.audits.Outcome.TheVariants as outcome
use Rattle.svm_model.specs.declared.audits.Remembered.{Remembered}
use Rattle.svm_model.specs.declared.audits.Stale.{Stale}
use Rattle.svm_model.specs.declared.audits.Stale.TheVariants as stale
use Rattle.svm_model.specs.declared.audits.TurnId.{TurnId}
use Rattle.svm_model.specs.declared.audits.Verdict.{Verdict}
use Rattle.svm_model.specs.declared.audits.Verdict.TheVariants as verdict

-- what the walk comes to; the frame where it is not the one that was kept
abbrev pub plain_text : ℕ → Outcome → List ℕ
plain_text kept (outcome.Frame frame changed) = if frame.0 == kept then codes "changed" else codes "frame:" ⧺ hex frame.0
plain_text kept (outcome.Fault code) = codes "fault:" ⧺ hex code
plain_text kept outcome.End = codes "end"

abbrev pub kind_text : Bool → List ℕ
kind_text nested = if nested then codes "nested" else codes "translation"

abbrev pub kept_text : Remembered → Outcome → List ℕ
kept_text kept plain =
    kind_text kept.nested ⧺ codes " asid=" ⧺ decimal kept.asid ⧺ codes " page=" ⧺ hex kept.page.0
    ⧺ codes " kept=" ⧺ hex kept.leaf.frame.0 ⧺ codes " plain=" ⧺ plain_text kept.leaf.frame.0 plain

abbrev pub stale_text : Stale → List ℕ
stale_text (stale.Translation kept plain) = kept_text kept plain
stale_text (stale.Field group vmcb field held found) =
    codes "field group=" ⧺ decimal group ⧺ codes " at=" ⧺ hex vmcb ⧺ codes " offset=" ⧺ hex (place_of field).offset
    ⧺ codes " held=" ⧺ hex held ⧺ codes " found=" ⧺ hex found

abbrev pub turn_text : TurnId → List ℕ
turn_text turn = codes "event=" ⧺ decimal turn.event ⧺ codes " cpu=" ⧺ decimal turn.cpu.0 ⧺ codes " vcpu=" ⧺ id_text turn.vcpu

abbrev pub breach_line : Breach → List ℕ
breach_line breach = codes "breach " ⧺ turn_text breach.turn ⧺ codes " " ⧺ stale_text breach.stale ⧺ newline

abbrev pub keeps_line : ℕ → List ℕ
keeps_line events = codes "keeps events=" ⧺ decimal events ⧺ newline

unfoldable pub verdict_text : Verdict → List ℕ
verdict_text (verdict.Keeps events) = keeps_line events
verdict_text (verdict.Breach breach) = breach_line breach
