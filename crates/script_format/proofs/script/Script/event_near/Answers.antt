use Rattle.std.proofs.Common.{◌≡◌, ◌∙◌, ◌≤◌, ◌↔◌, List, ap, sym, subst}
use Rattle.std.specs.List.{flat_map, slice_get}
use Rattle.std.specs.Option.{IsNone}
use Rattle.svm_model.specs.Formats.Script.{Script, events_of, events_of_line}
use Rattle.svm_model.specs.declared.formats.ScriptLine.{ScriptLine}
use Rattle.script_format.specs.Order.{AreInOrder}
use Rattle.script_format.proofs.Order.{count, count_on, in_order_on, named}
use Rattle.script_format.proofs.script.Script.event_near.Goals as goal

pub event_near-requires-clause-in_order : goal.event_near-requires-clause-in_order
event_near-requires-clause-in_order c =
    let same : c.args.self.now.lines ≡ c.deref.result.now = sym (c.deref.ensures.value ∙ ap (λ (s : Script). s.lines) c.self.view_is) in
    subst (AreInOrder c.args.cpus) same (in_order_on c.args.cpus c.args.self.now c.requires.lawful)

pub event_near-requires-clause-count : goal.event_near-requires-clause-count
event_near-requires-clause-count c =
    let same : c.deref.result.now ≡ c.args.self.now.lines = c.deref.ensures.value ∙ ap (λ (s : Script). s.lines) c.self.view_is in
    ap (count c.args.cpus) same ∙ count_on c.args.cpus c.args.self.now c.requires.lawful ∙ sym (ap (λ (s : Script). s.events) c.self.view_is)

pub returns-clause-event : goal.returns-clause-event
unfolding events_of
returns-clause-event c =
    let same : c.deref.result.now ≡ c.args.self.now.lines = c.deref.ensures.value ∙ ap (λ (s : Script). s.lines) c.self.view_is in
    c.event_near.ensures.event ∙ ap (λ (lines : List ScriptLine). slice_get (flat_map (events_of_line c.args.cpus) lines) c.args.number) same

pub returns-clause-past : goal.returns-clause-past
returns-clause-past c =
    let same : c.self.inside.events ≡ c.args.self.now.events = ap (λ (s : Script). s.events) c.self.view_is in
    subst (λ n. IsNone c.event_near.result ↔ (n ≤ c.args.number)) same c.event_near.ensures.past

pub returns-clause-named : goal.returns-clause-named
returns-clause-named c shape h =
    let same : c.deref.result.now ≡ c.args.self.now.lines = c.deref.ensures.value ∙ ap (λ (s : Script). s.lines) c.self.view_is in
    named shape c.args.cpus c.args.self.now c.args.number c.event_near.result h c.requires.lawful
    (c.event_near.ensures.event ∙ ap (λ (lines : List ScriptLine). slice_get (flat_map (events_of_line c.args.cpus) lines) c.args.number) same)
