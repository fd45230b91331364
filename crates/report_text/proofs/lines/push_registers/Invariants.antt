use Rattle.std.proofs.Common.{◌≡◌, ◌++◌, string_bytes, take}
use Rattle.std.specs.List.{flat_map}
use Rattle.svm_model.specs.Formats.Text.{register_text}
use Rattle.report_text.proofs.lines.push_registers.Given as goal

-- the registers so far are written behind the text
abbrev pub invariant-loop-name : goal.invariant-loop-name
invariant-loop-name l =
    string_bytes l.text ≡ string_bytes l.initial.text ++ flat_map (λ n. register_text (n.0.now, n.1)) (take l.name-index l.shown)
