use Rattle.std.proofs.Common.{◌≡◌, ◌++◌, drop, map}
use Rattle.svm_model.specs.Formats.ScriptWords.{without_return}
use Rattle.script_format.proofs.lines.lines_in.Given as goal

-- the lines so far, and those of the pieces that are left
abbrev pub invariant-loop-piece : goal.invariant-loop-piece
invariant-loop-piece l =
    map (λ line. line.now) l.lines.items ++ map without_return (map (λ piece. piece.now) (drop l.piece-index l.ended)) ≡ map without_return (map (λ piece. piece.now) l.ended)
