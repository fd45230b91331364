-- The turn in L2, under the fields that are found.
use Rattle.std.proofs.Common.{◌≡◌, ◌∙◌, IfSome, ℕ, List, [], ◌∷◌, None, Some, Ok, Err, true, false, sym, subst, refl, ap}
use Rattle.svm_model.specs.Machine.PlainTurn.{control_of, turned, turned_under}
use Rattle.svm_model.specs.Machine.Turns.{board_of}
use Rattle.svm_model.specs.Memory.Bytes.{guest_of}
use Rattle.svm_model.specs.Svm.Vmcb.{fields_at}
use Rattle.svm_model.specs.Turn.Course.{Board, Found, Told, Turned}
use Rattle.svm_model.specs.Turn.Play.{called, is_refused}
use Rattle.svm_model.specs.declared.audits.TurnId.{TurnId}
use Rattle.turn_exec.specs.Plays.{board_with, refused_at}
use Rattle.plain_machine.specs.Turning.{Adds, Gives, GrantsLast, counted, heard_board}
use Rattle.plain_machine.proofs.NoticeLemmas.{adds-first}
use Rattle.plain_machine.proofs.Noticed.{adds-is}
use Rattle.plain_machine.proofs.Turning.{found-told, gives-board, gives-then, if-last-then, later-going, later-itself, outside-told, same-board, turned-found, turned-outside, turned-unheard, within}
use Rattle.plain_machine.proofs.walking.take_inside.Given.{Over}
use Rattle.plain_machine.proofs.walking.take_inside.Goals as goal

pub returns-in-Err-clause-turned : goal.returns-in-Err-clause-turned
returns-in-Err-clause-turned g c =
    let memory : List ℕ = guest_of c.args.window c.args.memory.now.bytes in
    let w = within c.args.vmcb c.args.vcpu.now.inside c.requires.inside in
    let found : Err c.in-Err.outside ≡ fields_at memory w.inside.kept.vmcb = c.in-Err.ensures.fields ∙ ap (fields_at memory) (sym w.vmcb_is) in
    rw c.requires.begun
    (turned-outside None c.args.facts.now (board_of (g.B.Ports.bus c.args.bus.now) c.args.apic.now) memory c.args.vcpu.now w.inside c.in-Err.outside w.is found)

pub returns-in-Err-clause-told : goal.returns-in-Err-clause-told
returns-in-Err-clause-told g c =
    let memory : List ℕ = guest_of c.args.window c.args.memory.now.bytes in
    let w = within c.args.vmcb c.args.vcpu.now.inside c.requires.inside in
    let found : Err c.in-Err.outside ≡ fields_at memory w.inside.kept.vmcb = c.in-Err.ensures.fields ∙ ap (fields_at memory) (sym w.vmcb_is) in
    let refused = refused_at c.args.outward.now.refused c.args.outward.now.calls in
    adds-is g.W.Watch.tells c.args.walking.now.turn c.args.outward.now.refused _ [] _ _
    (outside-told refused c.args.facts.now (board_of (g.B.Ports.bus c.args.bus.now) c.args.apic.now) memory c.args.vcpu.now w.inside c.in-Err.outside w.is found) (λ none. refl)

pub returns-then-not-tell_found-clause-turned : goal.returns-then-not-tell_found-clause-turned
returns-then-not-tell_found-clause-turned g c =
    let start : Board = board_of (g.B.Ports.bus c.args.bus.now) c.args.apic.now in
    let memory : List ℕ = guest_of c.args.window c.args.memory.now.bytes in
    let w = within c.args.vmcb c.args.vcpu.now.inside c.requires.inside in
    let found : Ok c.in-Ok.fields ≡ fields_at memory w.inside.kept.vmcb = c.in-Ok.ensures.fields ∙ ap (fields_at memory) (sym w.vmcb_is) in
    let turn = c.tell_found.new.outward in
    let refuse : is_refused (refused_at turn.refused turn.calls) 0 ≡ true = rw c.requires.begun at (c.if-not-tell_found.ensures.granted turn (later-itself turn)) in
    let board : heard_board start turn ≡ called true start = rw c.requires.begun at (c.if-not-tell_found.ensures.board start) in
    let sent = rw c.requires.begun at c.if-not-tell_found.ensures.sent in
    let denied = rw c.requires.begun at c.if-not-tell_found.ensures.denied in
    rw c.requires.went
    (gives-board _ _ _ _ c.args.vcpu.now _ (sym board ∙ same-board (g.B.Ports.bus c.args.bus.now) c.args.apic.now turn.calls turn.refused sent denied)
    (turned-unheard (refused_at turn.refused turn.calls) c.args.facts.now start memory c.args.vcpu.now w.inside c.in-Ok.fields w.is found refuse))

-- the notice was granted
granted : (g : Over) (c : goal.After-take_under g) → is_refused (refused_at c.take_under.new.outward.refused c.take_under.new.outward.calls) 0 ≡ false
granted g c =
    let turn = c.take_under.new.outward in
    rw c.requires.begun at (c.if-not-tell_found.ensures.granted turn (later-going c.tell_found.new.outward turn (c.if-not-tell_found.ensures.going refl) c.take_under.ensures.more))

-- what stands about the vcpu then
begins : (g : Over) (c : goal.After-take_under g) → counted (board_of (g.B.Ports.bus c.args.bus.now) c.args.apic.now) c.tell_found.new.outward.calls ≡ called false (board_of (g.B.Ports.bus c.args.bus.now) c.args.apic.now)
begins g c =
    let start : Board = board_of (g.B.Ports.bus c.args.bus.now) c.args.apic.now in
    let board : heard_board start c.tell_found.new.outward ≡ called false start = rw c.requires.begun at (c.if-not-tell_found.ensures.board start) in
    ap (λ (b : Board). counted start b.calls) board

pub returns-else-not-tell_found-clause-turned : goal.returns-else-not-tell_found-clause-turned
returns-else-not-tell_found-clause-turned g c =
    let start : Board = board_of (g.B.Ports.bus c.args.bus.now) c.args.apic.now in
    let memory : List ℕ = guest_of c.args.window c.args.memory.now.bytes in
    let w = within c.args.vmcb c.args.vcpu.now.inside c.requires.inside in
    let found : Ok c.in-Ok.fields ≡ fields_at memory w.inside.kept.vmcb = c.in-Ok.ensures.fields ∙ ap (fields_at memory) (sym w.vmcb_is) in
    let turn = c.take_under.new.outward in
    let refused = refused_at turn.refused turn.calls in
    let last : Board = board_with (g.B.Ports.bus c.take_under.new.bus) c.take_under.new.apic turn.sent turn.calls turn.refused turn.denied in
    let new : List ℕ = guest_of c.args.window c.take_under.new.memory.bytes in
    gives-then (turned refused c.args.facts.now start memory c.args.vcpu.now) (turned_under refused (Some (control_of c.in-Ok.fields)) c.args.facts.now (called false start) memory c.args.vcpu.now)
    new last c.take_under.new.vcpu c.take_under.new.stepped (turned-found refused c.args.facts.now start memory c.args.vcpu.now w.inside c.in-Ok.fields w.is found (granted g c))
    (subst (λ (b : Board). Gives (turned_under refused (Some (control_of c.in-Ok.fields)) c.args.facts.now b memory c.args.vcpu.now) new last c.take_under.new.vcpu c.take_under.new.stepped) (begins g c) c.take_under.ensures.turned)

pub returns-else-not-tell_found-clause-told : goal.returns-else-not-tell_found-clause-told
returns-else-not-tell_found-clause-told g c =
    let tells = g.W.Watch.tells in
    let id = c.args.walking.now.turn in
    let start : Board = board_of (g.B.Ports.bus c.args.bus.now) c.args.apic.now in
    let memory : List ℕ = guest_of c.args.window c.args.memory.now.bytes in
    let w = within c.args.vmcb c.args.vcpu.now.inside c.requires.inside in
    let found : Ok c.in-Ok.fields ≡ fields_at memory w.inside.kept.vmcb = c.in-Ok.ensures.fields ∙ ap (fields_at memory) (sym w.vmcb_is) in
    let turn = c.take_under.new.outward in
    let refused = refused_at turn.refused turn.calls in
    let of : Board → List Told = λ b. (turned_under refused (Some (control_of c.in-Ok.fields)) c.args.facts.now b memory c.args.vcpu.now).told in
    let between = c.tell_found.new.self.watch.now in
    let after = c.take_under.new.walking.watch.now in
    let rest : Adds tells id turn.refused (of (called false start)) between after =
    subst (λ (b : Board). Adds tells id turn.refused (of b) between after) (begins g c)
    (subst (λ (t : TurnId). Adds tells t turn.refused (of (counted start c.tell_found.new.outward.calls)) between after) c.if-not-tell_found.ensures.turn c.take_under.ensures.told) in
    adds-is tells id turn.refused _ (Found c.args.vmcb false c.in-Ok.fields ∷ of (called false start)) _ _
    (found-told refused c.args.facts.now start memory c.args.vcpu.now w.inside c.in-Ok.fields w.is found (granted g c) ∙ ap (λ (n : ℕ). Found n false c.in-Ok.fields ∷ of (called false start)) w.vmcb_is)
    (adds-first tells id turn.refused (Found c.args.vmcb false c.in-Ok.fields) _ _ between _ (between, c.if-not-tell_found.ensures.told refl, refl) rest)

pub returns-else-not-tell_found-clause-last : goal.returns-else-not-tell_found-clause-last
returns-else-not-tell_found-clause-last g c =
    let start : Board = board_of (g.B.Ports.bus c.args.bus.now) c.args.apic.now in
    let memory : List ℕ = guest_of c.args.window c.args.memory.now.bytes in
    let w = within c.args.vmcb c.args.vcpu.now.inside c.requires.inside in
    let found : Ok c.in-Ok.fields ≡ fields_at memory w.inside.kept.vmcb = c.in-Ok.ensures.fields ∙ ap (fields_at memory) (sym w.vmcb_is) in
    let turn = c.take_under.new.outward in
    let under : Board → Turned = λ b. turned_under None (Some (control_of c.in-Ok.fields)) c.args.facts.now b memory c.args.vcpu.now in
    let is = turned-found None c.args.facts.now start memory c.args.vcpu.now w.inside c.in-Ok.fields w.is found refl in
    if-last-then (turned None c.args.facts.now start memory c.args.vcpu.now) (under (called false start)) turn.calls (g.B.Ports.bus c.args.bus.now) turn.denied is.board_is
    (subst (λ (b : Board). IfSome turn.denied (λ write. GrantsLast turn.calls (g.B.Ports.bus c.args.bus.now) write (under b))) (begins g c) c.take_under.ensures.last)
