-- The course of a turn, settled, is the plain turn.
use Rattle.std.proofs.Common.{◌≡◌, ◌∙◌, ℕ, List, [], Option, None, is_some, ap, sym, subst, refl}
use Rattle.std.specs.Option.{option_copied}
use Rattle.svm_model.specs.Machine.Notices.{over}
use Rattle.svm_model.specs.Machine.PlainTurn.{settled, turned_under}
use Rattle.svm_model.specs.Machine.Turns.{board_of}
use Rattle.svm_model.specs.Memory.Bytes.{guest_of}
use Rattle.svm_model.specs.Turn.Control.{Control, space_of}
use Rattle.svm_model.specs.Turn.Course.{Board, Told, Turned}
use Rattle.svm_model.specs.declared.audits.TurnId.{TurnId}
use Rattle.svm_model.specs.declared.names.RunEnd.{RunEnd}
use Rattle.turn_exec.specs.Plays.{board_with, refused_at}
use Rattle.plain_machine.specs.Turning.{Adds, Gives, counted, course_played, heard_board, way_by}
use Rattle.plain_machine.proofs.NoticeLemmas.{adds-then}
use Rattle.plain_machine.proofs.Noticed.{adds-is}
use Rattle.plain_machine.proofs.Turning.{IfSome-none, cause-before, gives-board, gives-same, none-denied, same-board, settled-told, unblamed, under-settled, under-still, unsettled-going}
use Rattle.plain_machine.proofs.walking.take_under.Given.{Over}
use Rattle.plain_machine.proofs.walking.take_under.Goals as goal

abbrev under : (g : Over) → goal.After-settle g → Option Control
under g c = option_copied c.args.control

abbrev start : (g : Over) → goal.After-settle g → Board
start g c = counted (board_of (g.B.Ports.bus c.args.bus.now) c.args.apic.now) c.args.outward.now.calls

abbrev memory : (g : Over) → goal.After-settle g → List ℕ
memory g c = guest_of c.args.window c.args.memory.now.bytes

abbrev mid : (g : Over) → goal.After-settle g → List ℕ
mid g c = guest_of c.args.window c.take_course.new.memory.bytes

abbrev between : (g : Over) → goal.After-settle g → Board
between g c =
    let turn = c.take_course.new.outward in board_with (g.B.Ports.bus c.take_course.new.bus) c.take_course.new.apic turn.sent turn.calls turn.refused turn.denied

still : (g : Over) (c : goal.Else-goes_on g) →
    let turn = c.take_course.new.outward in
    turned_under (refused_at turn.refused turn.calls) (option_copied c.args.control) c.args.facts.now (counted (board_of (g.B.Ports.bus c.args.bus.now) c.args.apic.now) c.args.outward.now.calls) (guest_of c.args.window c.args.memory.now.bytes) c.args.vcpu.now
    ≡ course_played (refused_at turn.refused turn.calls) (option_copied c.args.control) c.args.facts.now (counted (board_of (g.B.Ports.bus c.args.bus.now) c.args.apic.now) c.args.outward.now.calls) (guest_of c.args.window c.args.memory.now.bytes) c.args.vcpu.now
still g c =
    let turn = c.take_course.new.outward in
    under-still (refused_at turn.refused turn.calls) (option_copied c.args.control) c.args.facts.now (counted (board_of (g.B.Ports.bus c.args.bus.now) c.args.apic.now) c.args.outward.now.calls) (guest_of c.args.window c.args.memory.now.bytes) c.args.vcpu.now
    (guest_of c.args.window c.take_course.new.memory.bytes) (board_with (g.B.Ports.bus c.take_course.new.bus) c.take_course.new.apic turn.sent turn.calls turn.refused turn.denied) c.take_course.new.vcpu c.take_course.new.stepped
    c.take_course.ensures.played (sym c.if-goes_on.ensures)

pub returns-else-goes_on-clause-turned : goal.returns-else-goes_on-clause-turned
returns-else-goes_on-clause-turned g c = gives-same _ _ _ _ c.take_course.new.vcpu c.take_course.new.stepped (still g c) c.take_course.ensures.played

pub returns-else-goes_on-clause-told : goal.returns-else-goes_on-clause-told
returns-else-goes_on-clause-told g c = adds-is g.W.Watch.tells c.args.walking.now.turn _ _ _ _ _ (ap (λ (t : Turned). t.told) (still g c)) c.take_course.ensures.told

none : (g : Over) (c : goal.After-settle g) → c.take_course.new.outward.refused ≡ None
none g c = unsettled-going _ c.take_course.new.outward.refused c.if-goes_on.ensures

pub settle-requires-clause-going : goal.settle-requires-clause-going
settle-requires-clause-going g c = unsettled-going _ c.take_course.new.outward.refused c.if-goes_on.ensures

played : (g : Over) (c : goal.After-settle g) → Gives (course_played None (option_copied c.args.control) c.args.facts.now (start g c) (memory g c) c.args.vcpu.now) (mid g c) (between g c) c.take_course.new.vcpu c.take_course.new.stepped
played g c =
    let turn = c.take_course.new.outward in
    subst (λ (r : Option RunEnd). Gives (course_played (refused_at r turn.calls) (option_copied c.args.control) c.args.facts.now (start g c) (memory g c) c.args.vcpu.now) (mid g c) (between g c) c.take_course.new.vcpu c.take_course.new.stepped)
    (none g c) c.take_course.ensures.played

-- the turn is the course, and then what it came out to
settles : (g : Over) (c : goal.After-settle g) →
    turned_under (refused_at c.settle.new.outward.refused c.settle.new.outward.calls) (option_copied c.args.control) c.args.facts.now (start g c) (memory g c) c.args.vcpu.now
    ≡ settled (way_by (space_of (option_copied c.args.control) c.args.vcpu.now) c.settle.new.outward) (option_copied c.args.control) c.args.facts.now
    (over (mid g c) (between g c) c.take_course.new.vcpu c.take_course.new.stepped (course_played None (option_copied c.args.control) c.args.facts.now (start g c) (memory g c) c.args.vcpu.now).told) c.take_course.new.stepped
settles g c =
    under-settled c.take_course.new.outward.calls c.settle.new.outward (option_copied c.args.control) c.args.facts.now (start g c) (memory g c) c.args.vcpu.now (mid g c) (between g c) c.take_course.new.vcpu c.take_course.new.stepped
    (played g c) (ap is_some (none g c)) refl c.settle.ensures.more

pub returns-then-goes_on-clause-turned : goal.returns-then-goes_on-clause-turned
returns-then-goes_on-clause-turned g c =
    let turn = c.settle.new.outward in
    let new : List ℕ = guest_of c.args.window c.settle.new.memory.bytes in
    gives-board _ new _ _ c.settle.new.vcpu c.settle.new.stepped
    (same-board (g.B.Ports.bus c.take_course.new.bus) c.take_course.new.apic turn.calls turn.refused c.settle.ensures.sent c.settle.ensures.denied)
    (gives-same _ _ new (heard_board (between g c) turn) c.settle.new.vcpu c.settle.new.stepped (settles g c)
    (c.settle.ensures.gives (space_of (option_copied c.args.control) c.args.vcpu.now) (option_copied c.args.control) (between g c) _ (sym c.asks-nested.ensures)))

pub returns-then-goes_on-clause-told : goal.returns-then-goes_on-clause-told
returns-then-goes_on-clause-told g c =
    let tells = g.W.Watch.tells in
    let turn = c.args.walking.now.turn in
    let space = space_of (option_copied c.args.control) c.args.vcpu.now in
    let refused = c.settle.new.outward.refused in
    let course = course_played None (option_copied c.args.control) c.args.facts.now (start g c) (memory g c) c.args.vcpu.now in
    let first : Adds tells turn refused course.told c.args.walking.now.watch.now c.take_course.new.walking.watch.now =
    λ e. (subst (λ (r : Option RunEnd). Adds tells turn r (course_played (refused_at r c.take_course.new.outward.calls) (option_copied c.args.control) c.args.facts.now (start g c) (memory g c) c.args.vcpu.now).told c.args.walking.now.watch.now c.take_course.new.walking.watch.now) (none g c) c.take_course.ensures.told) refl in
    let more : List Told = (settled (way_by space c.settle.new.outward) (option_copied c.args.control) c.args.facts.now (over (mid g c) (between g c) c.take_course.new.vcpu c.take_course.new.stepped []) c.take_course.new.stepped).told in
    let rest = subst (λ (t : TurnId). Adds tells t refused more c.take_course.new.walking.watch.now c.settle.new.walking.watch.now) (c.take_course.ensures.turn (none g c))
    (c.settle.ensures.told space (option_copied c.args.control) (between g c) (sym c.asks-nested.ensures)) in
    adds-is tells turn refused _ _ _ _
    (ap (λ (t : Turned). t.told) (settles g c)
    ∙ settled-told (way_by space c.settle.new.outward) (option_copied c.args.control) c.args.facts.now (mid g c) (between g c) c.take_course.new.vcpu c.take_course.new.stepped c.take_course.new.stepped course.told)
    (adds-then tells turn refused course.told more _ c.take_course.new.walking.watch.now _ first rest)

denied : (g : Over) (c : goal.After-settle g) → c.settle.new.outward.denied ≡ None
denied g c = c.settle.ensures.denied ∙ none-denied c.take_course.new.outward.refused c.take_course.new.outward.denied c.take_course.ensures.out (none g c)

pub returns-then-goes_on-clause-cause : goal.returns-then-goes_on-clause-cause
returns-then-goes_on-clause-cause g c = cause-before c.settle.new.outward.refused c.settle.new.outward.denied _ _ _ c.take_course.ensures.none_refused (denied g c) c.settle.ensures.cause

pub returns-then-goes_on-clause-kept : goal.returns-then-goes_on-clause-kept
returns-then-goes_on-clause-kept g c = IfSome-none _ c.settle.new.outward.denied (denied g c)

pub returns-then-goes_on-clause-last : goal.returns-then-goes_on-clause-last
returns-then-goes_on-clause-last g c = IfSome-none _ c.settle.new.outward.denied (denied g c)

pub returns-then-goes_on-clause-blamed : goal.returns-then-goes_on-clause-blamed
returns-then-goes_on-clause-blamed g c = unblamed c.settle.new.outward.refused _ _ _ _ c.settle.ensures.cause
