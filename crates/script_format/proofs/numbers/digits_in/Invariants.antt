use Rattle.std.proofs.Common.{◌≡◌, ◌<◌, ◌^◌, drop}
use Rattle.script_format.proofs.Digits.{digits_left}
use Rattle.script_format.proofs.numbers.digits_in.Given as goal

-- what the digits that are left make of the number so far is what all make
abbrev pub invariant-loop-byte : goal.invariant-loop-byte
invariant-loop-byte l = record {
  left : digits_left l.base l.number (drop l.byte-index l.bytes) ≡ digits_left l.base 0 l.bytes;
  fits : l.number < 2 ^ 64;
}
