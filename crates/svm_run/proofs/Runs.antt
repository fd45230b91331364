-- What a run of all events leads to, and how many there are.
use Rattle.std.proofs.Common.{◌≡◌, ◌∙◌, ℕ, List, [], length, take, ap, refl, sym, subst, arith}
use Rattle.std.proofs.Math.Seq.{take-length}
use Rattle.svm_model.specs.Machine.Bus.{Bus}
use Rattle.svm_model.specs.Formats.Image.{Image}
use Rattle.svm_model.specs.Formats.Script.{Script, events_of}
use Rattle.svm_model.specs.Machine.Runs.{Led, plain_run}
use Rattle.svm_model.specs.Machine.World.{World, world_of}
use Rattle.svm_model.specs.declared.names.Event.{Event}
use Rattle.svm_model.proofs.WorldLemmas.{run-counted}
use Rattle.svm_run.specs.Jobs.{Job, job}
use Rattle.svm_run.specs.Outcome.{Outcome, PrintsReport, completed, outcome_after, outcome_for, led_until, texts_of}
use Rattle.svm_run.specs.Stops.{AreRead}
use Rattle.svm_run.specs.declared.words.Work.{Work}
use Rattle.svm_run.specs.declared.words.Work.TheVariants.{Run, Trace, Audit, Made}
use Rattle.svm_run.proofs.Events.{led, led_same}

-- a job that prints a report runs all events
pub outcome-reported : (work : Work) (w : World) (bus : Bus) (events : List Event) → PrintsReport work → outcome_for work w bus events ≡ outcome_after (texts_of work w bus events) (plain_run w bus events)
outcome-reported Run w bus events told = refl
outcome-reported Trace w bus events told = refl
outcome-reported Audit w bus events told = absurd told
outcome-reported (Made numbers) w bus events told = absurd told

-- the status is that of where the run leads
pub status-completed : (work : Work) (told : PrintsReport work) (w v : World) (bus now : Bus) (image : Image) (script : Script) → w ≡ world_of image → v ≡ (plain_run w bus (events_of image.cpus script)).world →
    now ≡ (plain_run w bus (events_of image.cpus script)).bus → (outcome_after [] (led v now)).status ≡ (completed bus (job work image script)).status
unfolding completed outcome_after
status-completed work told w v bus now image script e f g =
    ap (λ (l : Led). (outcome_after [] l).status) (led_same _ _ _ _ f g) ∙ ap (λ u. (outcome_after [] (plain_run u bus (events_of image.cpus script))).status) e
    ∙ ap (λ (o : Outcome). o.status) (sym (outcome-reported work (world_of image) bus (events_of image.cpus script) told))

pub starts-at-0 : (image : Image) → (world_of image).event ≡ 0
unfolding world_of
starts-at-0 image = refl

-- a run has the script's events
pub events-completed : (work : Work) (told : PrintsReport work) (bus : Bus) (image : Image) (script : Script) → (completed bus (job work image script)).events ≡ length (events_of image.cpus script)
unfolding completed outcome_after
events-completed work told bus image script =
    let reported = ap (λ (o : Outcome). o.events) (outcome-reported work (world_of image) bus (events_of image.cpus script) told) in
    omega (arith, reported, run-counted (world_of image) bus (events_of image.cpus script), starts-at-0 image)

-- the reads for all events
pub reads-completed : (work : Work) (told : PrintsReport work) (old new : ℕ) (bus : Bus) (image : Image) (script : Script) → length (events_of image.cpus script) ≡ script.events → AreRead work old new script.events →
    AreRead work old new (completed bus (job work image script)).events
reads-completed work told old new bus image script whole h =
    let P : ℕ → Type 0 = λ count. AreRead work old new count in
    subst P (sym (events-completed work told bus image script ∙ whole)) h

-- The bus behind some first events.

pub bus-none : (bus : Bus) (j : Job) → bus ≡ (led_until 0 bus j).bus
unfolding led_until
bus-none bus j = refl

-- some first events from the image's world
pub led-some : (work : Work) (w : World) (bus : Bus) (image : Image) (script : Script) (count : ℕ) → w ≡ world_of image → plain_run w bus (take count (events_of image.cpus script)) ≡ led_until count bus (job work image script)
unfolding led_until
led-some work w bus image script count e = ap (λ u. plain_run u bus (take count (events_of image.cpus script))) e

pub bus-some : (work : Work) (w : World) (bus now : Bus) (image : Image) (script : Script) (count : ℕ) → w ≡ world_of image → now ≡ (plain_run w bus (take count (events_of image.cpus script))).bus →
    now ≡ (led_until count bus (job work image script)).bus
bus-some work w bus now image script count e g = g ∙ ap (λ (l : Led). l.bus) (led-some work w bus image script count e)

pub bus-all : (work : Work) (w : World) (bus now : Bus) (image : Image) (script : Script) → w ≡ world_of image → now ≡ (plain_run w bus (events_of image.cpus script)).bus →
    now ≡ (led_until (length (events_of image.cpus script)) bus (job work image script)).bus
bus-all work w bus now image script e g =
    bus-some work w bus now image script (length (events_of image.cpus script)) e
    (g ∙ ap (λ (es : List Event). (plain_run w bus es).bus) (sym (take-length (events_of image.cpus script))))
