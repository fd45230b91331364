use Rattle.std.proofs.Common.{◌∙◌, ap, map}
use Rattle.script_format.proofs.Endings.{closes}
use Rattle.script_format.proofs.lines.lines_in.Goals as goal

pub returns : goal.returns
returns c =
    ap (map (λ line. line.now)) c.in_ok-push-2.ensures.items
    ∙ closes c.loop-piece.lines.items c.in-Some.ended.now c.args.pieces.now c.in-Some.last.now c.loop-piece.piece-index c.loop-piece-test.false c.in-Some.ensures.cases.0 c.loop-piece.invariant
