-- What a turn's calls may cost.
use Rattle.std.proofs.Common.{◌≡◌, ◌≤◌, ◌+◌, ◌*◌, ℕ, arith}

-- one call more
dear : (cost n : ℕ) → cost * (n + 1) ≡ cost * n + cost
dear cost n = grind arith

-- a call costs so many reads at most, and what follows costs what it may
pub one-more : (old mid new spent cost last : ℕ) → new + cost * (spent + 1) ≤ mid + cost * last → mid ≤ old + cost → new + cost * spent ≤ old + cost * last
one-more old mid new spent cost last h k = omega (arith, h, k, dear cost spent)

-- a call that costs nothing that it may
pub free : (old new spent cost last : ℕ) → new + cost * (spent + 1) ≤ old + cost * last → new + cost * spent ≤ old + cost * last
free old new spent cost last h = omega (arith, h, dear cost spent)

-- a read
pub read-more : (old mid new spent cost last : ℕ) → 1 ≤ cost → new + cost * (spent + 1) ≤ mid + cost * last → mid ≤ old + 1 → new + cost * spent ≤ old + cost * last
read-more old mid new spent cost last some h k = omega (arith, h, k, some, dear cost spent)

more : (cost m n : ℕ) → m ≤ n → cost * m ≤ cost * n
more cost m n h = grind (arith, h)

nothing : (cost : ℕ) → cost * 0 ≡ 0
nothing cost = grind arith

-- all calls of a turn
pub spent-all : (old new cost last : ℕ) → new + cost * 0 ≤ old + cost * last → last ≤ 225 → new ≤ old + cost * 225
spent-all old new cost last h k = omega (arith, h, nothing cost, more cost last 225 k)

pub ruleset costs = (free, read-more)
