use Rattle.std.proofs.Common.{◌≡◌, ◌∙◌, ◌<◌, ◌+◌, ◌++◌, ℕ, List, [], length, length-append, ap, sym, arith}
use Rattle.std.proofs.lemmas.Bool.{eqb-true}
use Rattle.std.proofs.lemmas.List.{nil_from_length}
use Rattle.svm_model.specs.Formats.Trace.{stretch_line}
use Rattle.report_text.proofs.ChangeLemmas.{from_place, from_changed, from_stayed, from_equal, from_end}
use Rattle.report_text.proofs.changes.memory_text.Goals.{then-old-place+in_ok-push_changed, else-old-place+then-not-is_empty+in_ok-end_stretch, else-old-place+else-not-is_empty}
use Rattle.report_text.proofs.changes.memory_text.Goals as goal

pub loop-place-preserved : goal.loop-place-preserved
loop-place-preserved c =
    let guest : ℕ = c.args.guest.0 in
    let address : ℕ = c.args.address in
    let n : ℕ = c.loop-place.place in
    let old : List ℕ = c.args.old.now in
    let new : List ℕ = c.args.new.now in
    let text : List ℕ = c.loop-place.text.items in
    let stretch : List ℕ = c.loop-place.stretch.items in
    let before = c.loop-place.invariant in
    let here : n < length new = c.loop-place-test.true in
    let there : n < length old = omega (arith, here, c.requires.same) in
    elim c.if-old-place.branch [
      | then-old-place+in_ok-push_changed w ↦
          let longer = ap (λ s. s.items) w.stretch-is ∙ w.in_ok-push_changed.ensures in
          record {
            short = grind (arith, longer, before.short, length-append {A = ℕ});
            lines =
                ap (λ t. t.items ++ from_place guest address (n + 1) c.if-old-place.stretch.items old new) w.text-is
                ∙ ap (λ (l : List ℕ). text ++ l) (from_changed guest address n stretch c.if-old-place.stretch.items old new there here w.if-old-place.true longer)
                ∙ before.lines;
          }
      | else-old-place+then-not-is_empty+in_ok-end_stretch w ↦
          let none = ap (λ s. s.items) w.stretch-is ∙ w.in_ok-end_stretch.ensures.ended in
          let line = ap (λ t. t.items) w.text-is ∙ w.in_ok-end_stretch.ensures.line in
          record {
            short = grind (arith, none);
            lines = from_stayed guest address n text c.if-old-place.text.items stretch c.if-old-place.stretch.items old new there here w.if-old-place.false none line ∙ before.lines;
          }
      | else-old-place+else-not-is_empty w ↦
          let none : stretch ≡ [] = nil_from_length stretch (sym c.loop-place.stretch.ok.0 ∙ eqb-true c.loop-place.stretch.len 0 (sym w.is_empty.ensures ∙ w.if-not-is_empty.false)) in
          record {
            short = grind (arith, ap (λ s. length s.items) w.stretch-is, before.short);
            lines =
                ap (λ t. t.items ++ from_place guest address (n + 1) c.if-old-place.stretch.items old new) w.text-is
                ∙ ap (λ s. text ++ from_place guest address (n + 1) s.items old new) w.stretch-is
                ∙ from_equal guest address n text stretch old new there here w.if-old-place.false none
                ∙ before.lines;
          }
    ]

pub returns : goal.returns
returns c =
    let done : c.loop-place.place ≡ length c.args.new.now = omega (arith, c.loop-place-test.false, c.loop-place.auto.place-end) in
    c.in_ok-end_stretch-2.ensures.line
    ∙ ap (λ (k : ℕ). c.loop-place.text.items ++ stretch_line c.args.guest.0 (c.args.address + k) c.loop-place.stretch.items) (sym done)
    ∙ ap (λ (l : List ℕ). c.loop-place.text.items ++ l) (sym (from_end c.args.guest.0 c.args.address c.loop-place.place c.loop-place.stretch.items c.args.old.now c.args.new.now (omega (arith, done, c.requires.same))))
    ∙ c.loop-place.invariant.lines
