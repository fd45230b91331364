-- What cut an event off: when its timers have rung, and where nobody refuses a notice.
use Rattle.std.proofs.Common.{◌≡◌, ℕ, inl, inr, Result, Ok, Err, IfErr, OnErr, arith}
use Rattle.svm_model.specs.Machine.Bus.{Bus}
use Rattle.svm_model.specs.Machine.Events.{with_timers}
use Rattle.svm_model.specs.Machine.World.{World}
use Rattle.svm_model.specs.declared.names.Event.{Event}
use Rattle.svm_model.specs.declared.names.RunEnd.{RunEnd}
use Rattle.svm_model.specs.declared.names.Event.TheVariants.{Place, Run, Feed, Irq, Nmi, Unplug, Dump}
use Rattle.plain_machine.specs.Cuts.{HasTurn, IsCut, IsCutBy, IsCutOf}

-- the timers place nobody
has_turn : (w : World) (event : Event) → HasTurn (with_timers w) event → HasTurn w event
unfolding HasTurn with_timers
has_turn w (Place cpu id) h = h
has_turn w (Run cpu) h = h
has_turn w (Feed device value) h = h
has_turn w (Irq id vector) h = h
has_turn w (Nmi id) h = h
has_turn w (Unplug device) h = h
has_turn w (Dump guest address count) h = h

pub cut-timed : (call : ℕ) (w : World) (end : RunEnd) (bus new : Bus) (event : Event) (refusals later : ℕ) → IsCutOf call (with_timers w) bus event end new refusals later → IsCut call w bus event end new refusals later
cut-timed call w end bus new event refusals later (inl out) = inl out
cut-timed call w end bus new event refusals later (inr unheard) = inr (has_turn w event unheard.0, unheard.1, unheard.2)

pub err-then : {T E : Type 0} (r : Result T E) (A : E → Type 0) (B : Type 0) → ((e : E) → A e → B) → IfErr r A → OnErr r B
err-then (Ok x) A B f a = tt
err-then (Err e) A B f a = f e a

pub handed-over : {Out Turn : Type 0} {end : RunEnd} {bus new : Bus} → IsCutBy Out Turn end bus new 0 0 → Out
handed-over (inl out) = out.0
handed-over (inr unheard) = absurd (omega (arith, unheard.2))

pub kept-so : {Out Turn : Type 0} {end : RunEnd} {bus new : Bus} → IsCutBy Out Turn end bus new 0 0 → new ≡ bus
kept-so (inl out) = out.1
kept-so (inr unheard) = absurd (omega (arith, unheard.2))
