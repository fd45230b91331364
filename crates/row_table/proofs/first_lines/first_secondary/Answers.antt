use Rattle.std.proofs.Common.{arith}
use Rattle.row_table.proofs.Index.{IsPassed-SECONDARY, small-SECONDARY}
use Rattle.row_table.proofs.first_lines.first_secondary.Goals as goal

pub returns-clause-passed : goal.returns-clause-passed
returns-clause-passed c = IsPassed-SECONDARY c.args.opcode (omega arith)

pub returns-clause-within : goal.returns-clause-within
returns-clause-within c = small-SECONDARY c.args.opcode
