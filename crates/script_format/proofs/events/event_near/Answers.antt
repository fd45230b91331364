use Rattle.std.proofs.Common.{◌<◌, ◌≤◌, arith}
use Rattle.script_format.proofs.Order.{count, found, has_it, if_there}
use Rattle.script_format.proofs.events.event_near.Goals as goal

pub event_on-requires-clause-to : goal.event_on-requires-clause-to
event_on-requires-clause-to c =
    let inside : c.args.number < count c.args.cpus c.args.lines.now = omega arith in
    has_it c.args.cpus c.args.lines.now c.line_near.result c.args.number _ c.requires.in_order c.line_near.ensures.place c.line_near.ensures.to inside

pub returns-clause-event : goal.returns-clause-event
returns-clause-event c =
    let inside : c.args.number < count c.args.cpus c.args.lines.now = omega arith in
    let from = if_there (λ line. line.first ≤ c.args.number) c.args.lines.now c.line_near.result _ c.line_near.ensures.place c.line_near.ensures.from in
    found c.args.cpus c.args.lines.now c.line_near.result c.args.number _ c.event_on.result c.requires.in_order c.line_near.ensures.place from inside c.event_on.ensures
