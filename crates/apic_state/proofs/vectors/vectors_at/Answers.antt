use Rattle.std.proofs.Common.{rules, ◌*◌, ◌≤◌, drop, length}
use Rattle.apic_state.proofs.VectorLemmas.{four_bytes}
use Rattle.apic_state.proofs.vectors.vectors_at.Goals as goal

pub returns : goal.returns
returns c =
    let long : 4 ≤ length (drop (4 * c.args.number) c.args.set.now) = search rules in
    let same = four_bytes (drop (4 * c.args.number) c.args.set.now) long in
    search (rules, same)
