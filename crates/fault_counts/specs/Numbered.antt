-- The calls of an object, numbered from 0, some of which fail.
use Rattle.std.specs.Prelude.{ℕ, ◌+◌, ◌-◌, ◌^◌, min, Contains, List}

-- the numbers of the calls that fail, and the number of the next call
pub record Numbered : Type 0 where
  pub failing : List ℕ
  pub next : ℕ

-- the next call fails
abbrev pub Fails : Numbered → Type 0
Fails calls = Contains calls.failing calls.next

-- after one more call; the last number is that of every later call
abbrev pub after_call : Numbered → Numbered
after_call calls = record { failing = calls.failing; next = min (calls.next + 1) (2 ^ 64 - 1) }

-- the calls, and how many of them failed so far
pub record CountedCalls : Type 0 where
  pub numbered : Numbered
  pub faults : ℕ
