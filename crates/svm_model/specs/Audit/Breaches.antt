-- The breaches of the rules in what a turn tells, and which is the first.
use Rattle.std.specs.Prelude.{ℕ, ◌&&◌, List, [], ◌∷◌, Bool, true, false, Option, None, is_none}
use Rattle.std.specs.Option.{option_map, option_or}
use Rattle.svm_model.specs.Audit.HeldFields.{HeldFields, held_at_entry, held_at_exit, held_with, stale_fields}
use Rattle.svm_model.specs.Audit.Makings.{Making, making, passing}
use Rattle.svm_model.specs.Audit.Records.{dropped, record_of, recorded, stale_leaf}
use Rattle.svm_model.specs.Svm.Vmcb.{Fields, FieldValue}
use Rattle.svm_model.specs.Turn.Course.{Told, Accessed, Flushed, Found, Left}
use Rattle.svm_model.specs.declared.audits.Remembered.{Remembered}
use Rattle.svm_model.specs.declared.audits.Stale.{Stale}
use Rattle.svm_model.specs.declared.audits.Stale.TheVariants as stale
use Rattle.svm_model.specs.declared.page_tables.Pass.{Pass}
use Rattle.svm_model.specs.declared.system.Flush.{Flush}

-- What may have been kept of a vcpu: records of translations, the newest first, and held fields.
pub record Known : Type 0 where
  pub records : List Remembered
  pub held : HeldFields

-- nothing, before the first turn
abbrev pub nothing_known : Known
nothing_known = record { records = []; held = λ vmcb. None }

-- What a thing that is told adds or drops.

abbrev pub after_making : Making → Known → Known
after_making made known = record known { records = recorded made known.records }

-- each pass through the outer tables, in order
abbrev pub after_passes : ℕ → Bool → List Pass → Known → Known
after_passes asid write_protect [] known = known
after_passes asid write_protect (pass ∷ passed) known =
    after_passes asid write_protect passed (after_making (passing asid write_protect pass) known)

abbrev pub after_flush : Flush → Known → Known
after_flush flush known = record known { records = dropped flush known.records }

-- the fields of a VMCB that are found are held at a VMRUN alone
abbrev pub after_found : ℕ → Bool → Fields → Known → Known
after_found vmcb true found known = record known { held = held_with vmcb (held_at_entry found (known.held vmcb)) known.held }
after_found vmcb false found known = known

abbrev pub after_exit : ℕ → List FieldValue → Known → Known
after_exit vmcb stored known = record known { held = held_with vmcb (held_at_exit stored (known.held vmcb)) known.held }

abbrev pub known_after : Told → Known → Known
known_after (Accessed asid write_protect access answer passed) known =
    after_making (making asid write_protect access answer) (after_passes asid write_protect passed known)
known_after (Flushed flush) known = after_flush flush known
known_after (Found vmcb entering found) known = after_found vmcb entering found known
known_after (Left vmcb stored) known = after_exit vmcb stored known

abbrev pub known_after_all : List Told → Known → Known
known_after_all [] known = known
known_after_all (told ∷ next) known = known_after_all next (known_after told known)

-- after a history, which has the newest first
abbrev pub known_of : List Told → Known
known_of [] = nothing_known
known_of (told ∷ history) = known_after told (known_of history)

-- What is stale at a thing that is told.

-- a translation breach
abbrev pub stale_translation : Making → List Remembered → Option Stale
stale_translation made records = option_map (λ leaf. stale.Translation (record_of made leaf) made.outcome) (stale_leaf made records)

abbrev pub stale_pass : ℕ → Bool → List Pass → Known → Option Stale
stale_pass asid write_protect [] known = None
stale_pass asid write_protect (pass ∷ passed) known =
    option_or (stale_translation (passing asid write_protect pass) known.records)
    (stale_pass asid write_protect passed (after_making (passing asid write_protect pass) known))

-- those of the passes of an access come before its own
abbrev pub translation_breach : Told → Known → Option Stale
translation_breach (Accessed asid write_protect access answer passed) known =
    option_or (stale_pass asid write_protect passed known)
    (stale_translation (making asid write_protect access answer) (after_passes asid write_protect passed known).records)
translation_breach (Flushed flush) known = None
translation_breach (Found vmcb entering found) known = None
translation_breach (Left vmcb stored) known = None

-- a field breach
abbrev pub field_breach : Told → Known → Option Stale
field_breach (Accessed asid write_protect access answer passed) known = None
field_breach (Flushed flush) known = None
field_breach (Found vmcb entering found) known = stale_fields entering vmcb found (known.held vmcb)
field_breach (Left vmcb stored) known = None

-- The first breach of an event, by what is told in it.

-- the first one of a kind
abbrev pub first_by : (Told → Known → Option Stale) → List Told → Known → Option Stale
first_by breach [] known = None
first_by breach (told ∷ next) known = option_or (breach told known) (first_by breach next (known_after told known))

-- field breaches come first, then translation breaches, in the order of translation
unfoldable pub first_in : List Told → Known → Option Stale
first_in told known = option_or (first_by field_breach told known) (first_by translation_breach told known)

-- The rule that a thing that is told keeps, by the history before it.

unfoldable pub keeps_at : List Told → Told → Bool
keeps_at history told = is_none (field_breach told (known_of history)) && is_none (translation_breach told (known_of history))
