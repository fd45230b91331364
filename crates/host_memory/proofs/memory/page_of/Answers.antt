use Rattle.std.proofs.Common.{◌≡◌, ℕ, ◌+◌, ◌*◌, ◌-◌, ap, take, drop, arith}
use Rattle.host_memory.proofs.memory.page_of.Goals as goal

pub returns-clause-bytes : goal.returns-clause-bytes
returns-clause-bytes g c =
    let count : 4096 * c.args.page + 4096 - 4096 * c.args.page ≡ 4096 = omega arith in
    ap (λ (n : ℕ). take n (drop (4096 * c.args.page) c.args.guest.now)) count
