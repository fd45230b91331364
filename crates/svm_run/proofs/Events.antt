-- The run of a script's first events, and what these print.
use Rattle.std.proofs.Common.{◌≡◌, ◌∙◌, ℕ, zero, suc, ◌+◌, ◌≤◌, List, [], ◌∷◌, ◌++◌, Option, Some, take, length, slice_get, ap, sym, refl, arith, add-one, append_assoc, append-nil, length-append}
use Rattle.std.proofs.lemmas.List.{take_all}
use Rattle.svm_model.specs.Machine.Bus.{Bus}
use Rattle.svm_model.specs.Machine.Events.{plain_event}
use Rattle.svm_model.specs.Machine.Runs.{Led, plain_run}
use Rattle.svm_model.specs.Machine.World.{World}
use Rattle.svm_model.specs.declared.names.Event.{Event}
use Rattle.byte_shelf.specs.Sink.{appended}
use Rattle.svm_run.specs.Outcome.{event_text, texts_of}
use Rattle.svm_run.specs.declared.words.Work.{Work}
use Rattle.svm_run.proofs.Received.{appended-nothing, appended-twice}

-- what an event makes of what a run led to
abbrev pub led_on : Led → Event → Led
led_on led event = record { world = (plain_event led.world led.bus event).world; bus = (plain_event led.world led.bus event).bus }

one_more : (w : World) (bus : Bus) (events : List Event) (event : Event) → plain_run w bus (events ++ event ∷ []) ≡ led_on (plain_run w bus events) event
one_more w bus [] event = refl
one_more w bus (e ∷ events) event = one_more (plain_event w bus e).world (plain_event w bus e).bus events event

taken-suc : {A : Type 0} (xs : List A) (n : ℕ) (x : A) → slice_get xs n ≡ Some x → take (suc n) xs ≡ take n xs ++ x ∷ []
taken-suc [] n x h = absurd (cc)
taken-suc (y ∷ xs) zero x h = let same : y ≡ x = cc in ap (λ z. z ∷ []) same
taken-suc (y ∷ xs) (suc n) x h = ap (λ zs. y ∷ zs) (taken-suc xs n x h)

-- a world and a bus
abbrev pub led : World → Bus → Led
led w bus = record { world = w; bus = bus }

pub led_same : (v w : World) (a b : Bus) → v ≡ w → a ≡ b → led v a ≡ led w b
led_same v w a b e f = ap (λ u. led u a) e ∙ ap (λ c. led w c) f

-- the run of one event more
pub led_next : (w : World) (bus : Bus) (events : List Event) (n : ℕ) (event : Event) (led : Led) → plain_run w bus (take n events) ≡ led → slice_get events n ≡ Some event →
    plain_run w bus (take (n + 1) events) ≡ led_on led event
led_next w bus events n event led h there =
    ap (λ k. plain_run w bus (take k events)) (add-one n) ∙ ap (λ es. plain_run w bus es) (taken-suc events n event there)
    ∙ one_more w bus (take n events) event ∙ ap (λ (l : Led). led_on l event) h

-- the run of all events
pub led_all : (w : World) (bus : Bus) (events : List Event) (n : ℕ) (led : Led) → plain_run w bus (take n events) ≡ led → length events ≡ n → plain_run w bus events ≡ led
led_all w bus events n led h whole = ap (λ es. plain_run w bus es) (sym (take_all n events (omega arith))) ∙ h

-- What first events print.

texts-more : (work : Work) (w : World) (bus : Bus) (events : List Event) (event : Event) → texts_of work w bus (events ++ event ∷ []) ≡ texts_of work w bus events ++ event_text work (plain_run w bus events).world (plain_run w bus events).bus event
unfolding texts_of
texts-more work w bus [] event = append-nil (event_text work w bus event)
texts-more work w bus (e ∷ events) event =
    ap (λ rest. event_text work w bus e ++ rest) (texts-more work (plain_event w bus e).world (plain_event w bus e).bus events event)
    ∙ sym (append_assoc (event_text work w bus e) _ _)

-- the texts of one event more
pub texts_next : (work : Work) (w : World) (bus : Bus) (events : List Event) (n : ℕ) (event : Event) → slice_get events n ≡ Some event →
    texts_of work w bus (take (n + 1) events) ≡ texts_of work w bus (take n events) ++ event_text work (plain_run w bus (take n events)).world (plain_run w bus (take n events)).bus event
texts_next work w bus events n event there =
    ap (λ k. texts_of work w bus (take k events)) (add-one n) ∙ ap (λ es. texts_of work w bus es) (taken-suc events n event there) ∙ texts-more work w bus (take n events) event

-- what was received before it and of it
pub received_next : (work : Work) (w : World) (bus : Bus) (events : List Event) (n : ℕ) (event : Event) (led : Led) (old mid new : Option (List ℕ)) → plain_run w bus (take n events) ≡ led → slice_get events n ≡ Some event →
    mid ≡ appended old (texts_of work w bus (take n events)) → new ≡ appended mid (event_text work led.world led.bus event) → new ≡ appended old (texts_of work w bus (take (n + 1) events))
received_next work w bus events n event led old mid new h there before of =
    of ∙ ap (λ (o : Option (List ℕ)). appended o (event_text work led.world led.bus event)) before ∙ appended-twice old _ _
    ∙ ap (λ (l : Led). appended old (texts_of work w bus (take n events) ++ event_text work l.world l.bus event)) (sym h) ∙ ap (appended old) (sym (texts_next work w bus events n event there))

-- the texts of all events
pub texts_all : (work : Work) (w : World) (bus : Bus) (events : List Event) (n : ℕ) (old new : Option (List ℕ)) → new ≡ appended old (texts_of work w bus (take n events)) → length events ≡ n → new ≡ appended old (texts_of work w bus events)
texts_all work w bus events n old new h whole = h ∙ ap (λ es. appended old (texts_of work w bus es)) (take_all n events (omega arith))

-- fewer events print no more
pub texts-grow : (work : Work) (w : World) (bus : Bus) (events : List Event) (m n : ℕ) → m ≤ n → length (texts_of work w bus (take m events)) ≤ length (texts_of work w bus (take n events))
unfolding texts_of
texts-grow work w bus [] zero n h = omega arith
texts-grow work w bus [] (suc m) n h = omega arith
texts-grow work w bus (e ∷ events) zero n h = omega arith
texts-grow work w bus (e ∷ events) (suc m) zero h = absurd (omega arith)
texts-grow work w bus (e ∷ events) (suc m) (suc n) h =
    omega (
      arith,
      length-append (event_text work w bus e) (texts_of work (plain_event w bus e).world (plain_event w bus e).bus (take m events)),
      length-append (event_text work w bus e) (texts_of work (plain_event w bus e).world (plain_event w bus e).bus (take n events)),
      texts-grow work (plain_event w bus e).world (plain_event w bus e).bus events m n (omega arith),
    )

pub received_none : (work : Work) (w : World) (bus : Bus) (written : Option (List ℕ)) → written ≡ appended written (texts_of work w bus [])
unfolding texts_of
received_none work w bus written = sym (appended-nothing written)

-- nothing is printed before the first
pub texts_none : (work : Work) (w : World) (bus : Bus) (events : List Event) → length (texts_of work w bus (take 0 events)) ≤ 0
unfolding texts_of
texts_none work w bus events = omega arith

pub ruleset events = (led_next, led_all, texts_all, received_none)
