use Rattle.std.proofs.Common.{◌≡◌, ◌++◌, drop, map}
use Rattle.std.specs.List.{filter}
use Rattle.svm_model.specs.Formats.ScriptWords.{is_some_word}
use Rattle.script_format.proofs.words.words_in.Given as goal

-- the words so far, and those of the pieces that are left
abbrev pub invariant-loop-piece : goal.invariant-loop-piece
invariant-loop-piece l =
    map (λ word. word.now) l.words.items ++ filter is_some_word (map (λ piece. piece.now) (drop l.piece-index l.piece-items)) ≡ filter is_some_word (map (λ piece. piece.now) l.piece-items)
