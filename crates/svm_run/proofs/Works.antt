-- A work ends by a status that tells of it.
use Rattle.std.proofs.Common.{◌≡◌, ℕ, Bool, true, false, if◌then◌else◌, List, length, Option, Some, None, subst, sym}
use Rattle.svm_model.specs.Audit.Verdicts.{audit_of, verdict_of}
use Rattle.svm_model.specs.Formats.Image.{Image}
use Rattle.svm_model.specs.Formats.Script.{Script, events_of}
use Rattle.svm_model.specs.Machine.Bus.{Bus}
use Rattle.svm_model.specs.Machine.Runs.{Led, plain_run}
use Rattle.svm_model.specs.Machine.World.{World, world_of}
use Rattle.svm_model.specs.declared.audits.Verdict.{Verdict}
use Rattle.svm_model.specs.declared.audits.Verdict.TheVariants.{Keeps, Breach as BreachOf}
use Rattle.svm_model.specs.declared.names.Event.{Event}
use Rattle.svm_run.specs.Answers.{IsDetermined, IsOfReading, MayEnd, MayEndAsked, TellsEnds}
use Rattle.svm_run.specs.Jobs.{job}
use Rattle.svm_run.specs.Words.{Asked, Files, Made as OfNumbers}
use Rattle.svm_run.specs.Outcome.{completed, has_ended, outcome_after, outcome_audited, outcome_for, outcome_summed, status_by, status_made, texts_of, verdict_behind, no_devices}
use Rattle.svm_run.specs.declared.status.Status.{Status}
use Rattle.svm_run.specs.declared.status.Status.TheVariants.{Done, Words, Input, Breach, OutsideFault, NoMemory, LeftProfile}
use Rattle.svm_run.specs.declared.status.OutsideFault.TheVariants.{Read, Write, Device}
use Rattle.svm_run.specs.declared.words.Numbers.{Numbers}
use Rattle.svm_run.specs.declared.words.Work.{Work}
use Rattle.svm_run.specs.declared.words.Work.TheVariants.{Run, Trace, Audit, Made}

ended : (work : Work) → TellsEnds work → (b : Bool) → MayEnd (if b then LeftProfile else Done) work
ended work told true = told
ended work told false = tt

reported : (work : Work) → TellsEnds work → (text : List ℕ) (led : Led) → MayEnd (outcome_after text led).status work
unfolding outcome_after
reported work told text led = ended work told (has_ended led.world.guests)

judged : (v : Verdict) → MayEnd (status_by v) Audit
judged (Keeps events) = tt
judged (BreachOf breach) = tt

audited : (w : World) (bus : Bus) (events : List Event) → MayEnd (outcome_for Audit w bus events).status Audit
unfolding outcome_audited
audited w bus events = judged (verdict_of (length events) (audit_of w bus events).breach)

judged_made : (numbers : Numbers) (w : World) (v : Verdict) → MayEnd (status_made w.guests v) (Made numbers)
judged_made numbers w (Keeps events) = ended (Made numbers) tt (has_ended w.guests)
judged_made numbers w (BreachOf breach) = tt

summed : (numbers : Numbers) (w : World) (bus : Bus) (events : List Event) → MayEnd (outcome_for (Made numbers) w bus events).status (Made numbers)
unfolding outcome_summed
summed numbers w bus events = judged_made numbers (plain_run w no_devices events).world (verdict_behind w (plain_run w no_devices events).bus events)

done : (work : Work) (w : World) (bus : Bus) (events : List Event) → MayEnd (outcome_for work w bus events).status work
done Run w bus events = reported Run tt (texts_of Run w bus events) (plain_run w bus events)
done Trace w bus events = reported Trace tt (texts_of Trace w bus events) (plain_run w bus events)
done Audit w bus events = audited w bus events
done (Made numbers) w bus events = summed numbers w bus events

completes : (bus : Bus) (work : Work) (image : Image) (script : Script) → MayEnd (completed bus (job work image script)).status work
unfolding completed
completes bus work image script = done work (world_of image) bus (events_of image.cpus script)

-- a status that is the run's where it is determined
pub ends-work : (bus : Bus) (work : Work) (image : Image) (script : Script) (status : Status) →
    (IsDetermined status → status ≡ (completed bus (job work image script)).status) → MayEnd status work
ends-work bus work image script Done exact = tt
ends-work bus work image script Words exact = tt
ends-work bus work image script (Input fault) exact = tt
ends-work bus work image script Breach exact = let P : Status → Type 0 = λ s. MayEnd s work in subst P (sym (exact tt)) (completes bus work image script)
ends-work bus work image script (OutsideFault fault) exact = tt
ends-work bus work image script NoMemory exact = tt
ends-work bus work image script LeftProfile exact = let P : Status → Type 0 = λ s. MayEnd s work in subst P (sym (exact tt)) (completes bus work image script)

-- The same of what is asked for.

of-any : (status : Status) (asked : Option Asked) → ((work : Work) → MayEnd status work) → MayEndAsked status asked
of-any status None h = tt
of-any status (Some (Files work image script)) h = h work
of-any status (Some (OfNumbers numbers)) h = h (Made numbers)

unread : (status : Status) (s t : ℕ) (asked : Option Asked) → IsOfReading status s t → MayEndAsked status asked
unread Done s t asked h = absurd h
unread Words s t asked h = absurd h
unread (Input fault) s t asked h = of-any (Input fault) asked (λ work. tt)
unread Breach s t asked h = absurd h
unread (OutsideFault Read) s t asked h = of-any (OutsideFault Read) asked (λ work. tt)
unread (OutsideFault Write) s t asked h = absurd h
unread (OutsideFault (Device device)) s t asked h = absurd h
unread NoMemory s t asked h = of-any NoMemory asked (λ work. tt)
unread LeftProfile s t asked h = absurd h

-- what could not be read or made may end any work
pub ends-unstarted-work : (answer status : Status) (s t : ℕ) (asked : Option Asked) → answer ≡ status → IsOfReading status s t → MayEndAsked answer asked
ends-unstarted-work answer status s t asked e h = let P : Status → Type 0 = λ a. MayEndAsked a asked in subst P (sym e) (unread status s t asked h)

pub asked-as : (status : Status) (told : Asked) (asked : Option Asked) → Some told ≡ asked → MayEndAsked status (Some told) → MayEndAsked status asked
asked-as status told asked e h = let P : Option Asked → Type 0 = λ a. MayEndAsked status a in subst P e h
