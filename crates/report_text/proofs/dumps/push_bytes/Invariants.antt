use Rattle.std.proofs.Common.{◌≡◌, ◌++◌, string_bytes, take}
use Rattle.std.specs.List.{flat_map}
use Rattle.svm_model.specs.Formats.Text.{byte_digits}
use Rattle.report_text.proofs.dumps.push_bytes.Given as goal

-- the bytes so far are written behind the text
abbrev pub invariant-loop-byte : goal.invariant-loop-byte
invariant-loop-byte l = string_bytes l.text ≡ string_bytes l.initial.text ++ flat_map byte_digits (take l.byte-index l.bytes)
