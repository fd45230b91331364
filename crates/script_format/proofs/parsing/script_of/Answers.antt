use Rattle.std.proofs.Common.{◌≤◌, ◌+◌, length, arith}
use Rattle.script_format.proofs.Endings.{few_lines}
use Rattle.script_format.proofs.parsing.script_of.Goals as goal

pub script_from-requires-clause-few : goal.script_from-requires-clause-few
script_from-requires-clause-few c =
    let few : length c.in_ok-lines.lines.items ≤ length c.args.bytes.now + 1 = few_lines c.in_ok-lines.lines.items c.args.bytes.now c.in_ok-lines.ensures in
    rw c.deref.ensures.value (omega arith)
