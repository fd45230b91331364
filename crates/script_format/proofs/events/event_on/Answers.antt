use Rattle.std.proofs.Common.{◌<◌, ◌-◌, arith}
use Rattle.svm_model.specs.Formats.ScriptLines.{line_length}
use Rattle.script_format.proofs.Rounds.{one_event, turn_of}
use Rattle.script_format.proofs.events.event_on.Goals as goal

pub returns-then-not-line : goal.returns-then-not-line
returns-then-not-line c =
    let within : c.args.number - c.args.line.now.first < line_length c.args.cpus c.args.line.now = omega (arith, c.requires.from, c.requires.to) in
    one_event c.args.cpus (c.args.number - c.args.line.now.first) c.args.line.now c.if-not-line.true within

pub returns : goal.returns
returns c =
    let within : c.args.number - c.args.line.now.first < line_length c.args.cpus c.args.line.now = omega (arith, c.requires.from, c.requires.to) in
    turn_of c.args.cpus (c.args.number - c.args.line.now.first) c.args.line.now c.if-not-line.false within
