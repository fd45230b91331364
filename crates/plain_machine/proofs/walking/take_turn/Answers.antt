-- The turn in L1.
use Rattle.std.proofs.Common.{◌≡◌, ℕ, List, None, sym, subst, IfSome, rules}
use Rattle.svm_model.specs.Machine.Turns.{board_of}
use Rattle.svm_model.specs.Memory.Bytes.{guest_of}
use Rattle.svm_model.specs.Turn.Course.{Board, Turned}
use Rattle.turn_exec.specs.Plays.{board_with, refused_at}
use Rattle.plain_machine.specs.Turning.{Adds, Gives, GrantsLast}
use Rattle.plain_machine.proofs.Turning.{turned-alone}
use Rattle.plain_machine.proofs.walking.take_turn.Given.{Over}
use Rattle.plain_machine.proofs.walking.take_turn.Goals as goal

alone : (g : Over) (c : goal.After-take_under g) → c.args.vcpu.now.inside ≡ None
alone g c = search rules

pub returns-in-None-clause-turned : goal.returns-in-None-clause-turned
returns-in-None-clause-turned g c =
    let memory : List ℕ = guest_of c.args.window c.args.memory.now.bytes in
    let start : Board = board_of (g.B.Ports.bus c.args.bus.now) c.args.apic.now in
    let turn = c.take_under.new.outward in
    let under = rw c.requires.begun at c.take_under.ensures.turned in
    subst (λ (t : Turned). Gives t (guest_of c.args.window c.take_under.new.memory.bytes) (board_with (g.B.Ports.bus c.take_under.new.bus) c.take_under.new.apic turn.sent turn.calls turn.refused turn.denied) c.take_under.new.vcpu c.take_under.new.stepped)
    (sym (turned-alone (refused_at turn.refused turn.calls) c.args.facts.now start memory c.args.vcpu.now (alone g c))) under

pub returns-in-None-clause-told : goal.returns-in-None-clause-told
returns-in-None-clause-told g c =
    let memory : List ℕ = guest_of c.args.window c.args.memory.now.bytes in
    let start : Board = board_of (g.B.Ports.bus c.args.bus.now) c.args.apic.now in
    let turn = c.take_under.new.outward in
    let told = rw c.requires.begun at c.take_under.ensures.told in
    subst (λ (t : Turned). Adds g.W.Watch.tells c.args.walking.now.turn turn.refused t.told c.args.walking.now.watch.now c.take_under.new.walking.watch.now)
    (sym (turned-alone (refused_at turn.refused turn.calls) c.args.facts.now start memory c.args.vcpu.now (alone g c))) told

pub returns-in-None-clause-last : goal.returns-in-None-clause-last
returns-in-None-clause-last g c =
    let memory : List ℕ = guest_of c.args.window c.args.memory.now.bytes in
    let start : Board = board_of (g.B.Ports.bus c.args.bus.now) c.args.apic.now in
    let turn = c.take_under.new.outward in
    let last = rw c.requires.begun at c.take_under.ensures.last in
    subst (λ (t : Turned). IfSome turn.denied (λ write. GrantsLast turn.calls (g.B.Ports.bus c.args.bus.now) write t))
    (sym (turned-alone None c.args.facts.now start memory c.args.vcpu.now (alone g c))) last
