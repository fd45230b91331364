use Rattle.std.proofs.Common.{◌≡◌, ℕ, ◌+◌, ◌-◌, ◌*◌, take, drop, ap, arith}
use Rattle.report_text.proofs.tracer.page_of.Goals as goal

pub returns : goal.returns
returns c =
    let size : 4096 * c.args.page + 4096 - 4096 * c.args.page ≡ 4096 = omega arith in
    ap (λ (n : ℕ). take n (drop (4096 * c.args.page) c.args.memory.now)) size
