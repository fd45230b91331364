-- What one who watches is told of a turn, in pieces.
use Rattle.std.proofs.Common.{◌≡◌, ◌∙◌, ℕ, Bool, List, [], ◌∷◌, ◌++◌, Option, ap, sym, refl, subst}
use Rattle.svm_model.specs.Audit.WatchCalls.{Notice, noticed_passes, notices, told_first}
use Rattle.svm_model.specs.Turn.Course.{Told, Accessed, Flushed, Found, Left}
use Rattle.svm_model.specs.declared.audits.TurnId.{TurnId}
use Rattle.svm_model.specs.declared.names.RunEnd.{RunEnd}
use Rattle.svm_model.specs.declared.page_tables.Pass.{Pass}
use Rattle.turn_exec.specs.Follows.{LedBy}
use Rattle.watch.specs.Leads.{Leads}
use Rattle.plain_machine.specs.Turning.{Adds}

module _ {W : Type 0} (tells : W → Notice → W → Type 0) (turn : TurnId) where
  -- what leads on from where something else led
  leads-from : (a b : W) (rest : List Notice) (new : W) → a ≡ b → Leads tells b rest new → Leads tells a rest new
  leads-from a b rest new e h = subst (λ (x : W). Leads tells x rest new) (sym e) h

  -- The calls of one thing that is told, and others behind them.

  passes-then : (asid : ℕ) (wp : Bool) (passed : List Pass) (n : Notice) (rest : List Notice) (old mid new : W) →
      Leads tells old (noticed_passes turn asid wp passed (n ∷ [])) mid → Leads tells mid rest new → Leads tells old (noticed_passes turn asid wp passed (n ∷ rest)) new
  passes-then asid wp [] n rest old mid new h k = (h.0, h.1, leads-from h.0 mid rest new h.2 k)
  passes-then asid wp (pass ∷ passed) n rest old mid new h k = (h.0, h.1, passes-then asid wp passed n rest h.0 mid new h.2 k)

  pub first-then : (t : Told) (rest : List Notice) (old mid new : W) → Leads tells old (told_first turn t []) mid → Leads tells mid rest new → Leads tells old (told_first turn t rest) new
  first-then (Accessed asid wp access answer passed) rest old mid new h k = passes-then asid wp passed _ rest old mid new h k
  first-then (Flushed flush) rest old mid new h k = (h.0, h.1, leads-from h.0 mid rest new h.2 k)
  first-then (Found vmcb entering found) rest old mid new h k = (h.0, h.1, leads-from h.0 mid rest new h.2 k)
  first-then (Left vmcb stored) rest old mid new h k = (h.0, h.1, leads-from h.0 mid rest new h.2 k)

  abbrev Between : List Notice → List Notice → W → W → Type 0
  Between first rest old new = (mid : W) × Leads tells old first mid × Leads tells mid rest new

  passes-split : (asid : ℕ) (wp : Bool) (passed : List Pass) (n : Notice) (rest : List Notice) (old new : W) →
      Leads tells old (noticed_passes turn asid wp passed (n ∷ rest)) new → Between (noticed_passes turn asid wp passed (n ∷ [])) rest old new
  passes-split asid wp [] n rest old new h = (h.0, (h.0, h.1, refl), h.2)
  passes-split asid wp (pass ∷ passed) n rest old new h =
      let b = passes-split asid wp passed n rest h.0 new h.2 in (b.0, (h.0, h.1, b.1), b.2)

  first-split : (t : Told) (rest : List Notice) (old new : W) → Leads tells old (told_first turn t rest) new → Between (told_first turn t []) rest old new
  first-split (Accessed asid wp access answer passed) rest old new h = passes-split asid wp passed _ rest old new h
  first-split (Flushed flush) rest old new h = (h.0, (h.0, h.1, refl), h.2)
  first-split (Found vmcb entering found) rest old new h = (h.0, (h.0, h.1, refl), h.2)
  first-split (Left vmcb stored) rest old new h = (h.0, (h.0, h.1, refl), h.2)

  -- Several things that are told, and others behind them.
  leads-then : (told rest : List Told) (old mid new : W) → Leads tells old (notices turn told) mid → Leads tells mid (notices turn rest) new → Leads tells old (notices turn (told ++ rest)) new
  leads-then [] rest old mid new h k = leads-from old mid (notices turn rest) new h k
  leads-then (t ∷ told) rest old mid new h k =
      let b = first-split t (notices turn told) old mid h in
      first-then t (notices turn (told ++ rest)) old b.0 new b.1 (leads-then told rest b.0 mid new b.2 k)

  pub adds-then : (refused : Option RunEnd) (told rest : List Told) (old mid new : W) → Adds tells turn refused told old mid → Adds tells turn refused rest mid new → Adds tells turn refused (told ++ rest) old new
  adds-then refused told rest old mid new h k = λ e. leads-then told rest old mid new (h e) (k e)

  -- one more thing in front
  pub adds-first : (refused : Option RunEnd) (t : Told) (rest : List Told) (old mid new : W) → Leads tells old (told_first turn t []) mid → Adds tells turn refused rest mid new → Adds tells turn refused (t ∷ rest) old new
  adds-first refused t rest old mid new h k = λ e. first-then t (notices turn rest) old mid new h (k e)

-- What a way to translate tells, where it tells of the turn that it has.
module _ {S W : Type 0} (turn_of : S → TurnId) (watch_of : S → W) (tells : W → Notice → W → Type 0) where
  abbrev pub TellsOf : S → Told → S → Type 0
  TellsOf t told u = (turn_of u ≡ turn_of t) × Leads tells (watch_of t) (told_first (turn_of t) told []) (watch_of u)

  pub led-turn : (told : List Told) (old new : S) → LedBy TellsOf old told new → turn_of new ≡ turn_of old
  led-turn [] old new h = sym (ap turn_of h)
  led-turn (t ∷ told) old new h = led-turn told h.0 new h.2 ∙ h.1.0

  pub led-leads : (told : List Told) (old new : S) → LedBy TellsOf old told new → Leads tells (watch_of old) (notices (turn_of old) told) (watch_of new)
  led-leads [] old new h = ap watch_of h
  led-leads (t ∷ told) old new h =
      first-then tells (turn_of old) t (notices (turn_of old) told) (watch_of old) (watch_of h.0) (watch_of new) h.1.1
      (subst (λ (x : TurnId). Leads tells (watch_of h.0) (notices x told) (watch_of new)) h.1.0 (led-leads told h.0 new h.2))
