use Rattle.std.proofs.Common.{arith}
use Rattle.row_table.proofs.Index.{IsPassed-PRIMARY, small-PRIMARY}
use Rattle.row_table.proofs.first_lines.first_primary.Goals as goal

pub returns-clause-passed : goal.returns-clause-passed
returns-clause-passed c = IsPassed-PRIMARY c.args.opcode (omega arith)

pub returns-clause-within : goal.returns-clause-within
returns-clause-within c = small-PRIMARY c.args.opcode
