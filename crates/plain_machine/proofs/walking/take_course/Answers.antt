-- The turn of the executor is the course, played.
use Rattle.std.proofs.Common.{◌≡◌, ℕ, List, [], Option, Some, None, ap, sym, subst, refl, ◌∙◌}
use Rattle.std.specs.Option.{option_copied}
use Rattle.svm_model.specs.Machine.Turns.{board_of}
use Rattle.svm_model.specs.Memory.Bytes.{guest_of}
use Rattle.svm_model.specs.Turn.Control.{Control}
use Rattle.svm_model.specs.Turn.Course.{Board, Told, Turned}
use Rattle.svm_model.specs.declared.ports.PortWrite.{PortWrite}
use Rattle.svm_model.proofs.LastPlays.{DeniesLast}
use Rattle.turn_exec.specs.Follows.{LedBy}
use Rattle.turn_exec.specs.Plays.{board_with, refused_at}
use Rattle.plain_machine.specs.Turning.{IsGoing, counted, course_played}
use Rattle.plain_machine.proofs.NoticeLemmas.{TellsOf, led-leads, led-turn}
use Rattle.plain_machine.proofs.Turning.{IfSome-of, as_played, needs_nothing, played-denied, played-is, played-kept, refused_by, turn-played, under-last}
use Rattle.plain_machine.proofs.walking.take_course.Given.{Over}
use Rattle.plain_machine.proofs.walking.take_course.Goals as goal

abbrev under : (g : Over) → goal.After-take_turn g → Option Control
under g c = option_copied c.args.control

abbrev start : (g : Over) → goal.After-take_turn g → Board
start g c = counted (board_of (g.B.Ports.bus c.args.bus.now) c.args.apic.now) c.args.outward.now.calls

abbrev old_memory : (g : Over) → goal.After-take_turn g → List ℕ
old_memory g c = guest_of c.args.window c.args.memory.now.bytes

abbrev cut : (g : Over) → goal.After-take_turn g → Option ℕ
cut g c = refused_at c.take_turn.new.outward.refused c.take_turn.new.outward.calls

abbrev last_board : (g : Over) → goal.After-take_turn g → Board
last_board g c = board_with (g.B.Ports.bus c.take_turn.new.bus) c.take_turn.new.apics c.take_turn.new.outward.sent c.take_turn.new.outward.calls c.take_turn.new.outward.refused c.take_turn.new.outward.denied

pub returns-clause-played : goal.returns-clause-played
returns-clause-played g c =
    let f = c.take_turn.ensures.follows [] tt (needs_nothing _) in
    turn-played (cut g c) (under g c) c.args.facts.now (start g c) (old_memory g c) c.args.vcpu.now c.interrupt_for-interrupt.result c.space-space.result
    (guest_of c.args.window c.take_turn.new.memory.bytes) (last_board g c) c.take_turn.new.vcpu c.take_turn.new.stepped
    (c.interrupt_for-interrupt.ensures c.args.facts.now) c.space-space.ensures f.memory_is f.board_is f.vcpu_is f.stepped_is

-- what was told of the course
led : (g : Over) (c : goal.After-take_turn g) → IsGoing c.take_turn.new.outward → LedBy (TellsOf (λ w. w.turn) (λ w. w.watch.now) g.W.Watch.tells) c.args.walking.now (course_played (cut g c) (under g c) c.args.facts.now (start g c) (old_memory g c) c.args.vcpu.now).told c.take_turn.new.translator
led g c going =
    subst (λ (ts : List Told). LedBy (TellsOf (λ w. w.turn) (λ w. w.watch.now) g.W.Watch.tells) c.args.walking.now ts c.take_turn.new.translator)
    (ap (λ (t : Turned). t.told) (played-is (cut g c) (under g c) c.args.facts.now (start g c) (old_memory g c) c.args.vcpu.now c.interrupt_for-interrupt.result c.space-space.result (c.interrupt_for-interrupt.ensures c.args.facts.now) c.space-space.ensures))
    ((c.take_turn.ensures.follows [] tt (needs_nothing _)).led going)

pub returns-clause-told : goal.returns-clause-told
returns-clause-told g c = λ going. led-leads (λ w. w.turn) (λ w. w.watch.now) g.W.Watch.tells _ c.args.walking.now c.take_turn.new.translator (led g c going)

pub returns-clause-turn : goal.returns-clause-turn
returns-clause-turn g c = λ going. led-turn (λ w. w.turn) (λ w. w.watch.now) g.W.Watch.tells _ c.args.walking.now c.take_turn.new.translator (led g c going)

pub returns-clause-page : goal.returns-clause-page
returns-clause-page g c = λ h.
    played-kept (cut g c) (under g c) c.args.facts.now (start g c) (old_memory g c) c.args.vcpu.now (guest_of c.args.window c.take_turn.new.memory.bytes) (last_board g c) c.take_turn.new.vcpu c.take_turn.new.stepped
    c.args.window.size (returns-clause-played g c) h

-- where a write was denied it was the last call
denies : (g : Over) (c : goal.After-take_turn g) (write : PortWrite) → c.take_turn.new.outward.denied ≡ Some write →
    DeniesLast c.take_turn.new.outward.calls (g.B.Ports.bus c.args.bus.now) write (as_played (course_played (cut g c) (under g c) c.args.facts.now (start g c) (old_memory g c) c.args.vcpu.now))
    (as_played (course_played None (under g c) c.args.facts.now (start g c) (old_memory g c) c.args.vcpu.now))
denies g c write denied =
    played-denied (cut g c) (under g c) c.args.facts.now (start g c) (old_memory g c) c.args.vcpu.now c.take_turn.new.outward.calls write
    (refused_by c.take_turn.new.outward.refused c.take_turn.new.outward.denied write c.take_turn.new.outward.calls c.take_turn.ensures.out denied) refl refl
    (ap (λ (b : Board). b.denied) (returns-clause-played g c).board_is ∙ denied)

pub returns-clause-kept : goal.returns-clause-kept
returns-clause-kept g c =
    IfSome-of _ c.take_turn.new.outward.denied (λ write denied. sym (ap (λ (b : Board). b.bus) (returns-clause-played g c).board_is) ∙ (denies g c write denied).kept)

pub returns-clause-last : goal.returns-clause-last
returns-clause-last g c =
    IfSome-of _ c.take_turn.new.outward.denied
    (λ write denied. under-last (under g c) c.args.facts.now (start g c) (old_memory g c) c.args.vcpu.now c.take_turn.new.outward.calls write _ (denies g c write denied))
