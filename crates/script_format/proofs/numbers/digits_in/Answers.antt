use Rattle.std.proofs.Common.{◌∙◌, ◌+◌, ◌*◌, ◌^◌, ◌≤◌, drop, ap, arith}
use Rattle.script_format.proofs.Digits.{digits_left, refuses, goes_on, is_done}
use Rattle.script_format.proofs.numbers.digits_in.Goals as goal

pub returns-in_default : goal.returns-in_default
returns-in_default c =
    let digit = c.digit_of-digit.result in
    let large : 2 ^ 64 ≤ c.args.base * c.loop-byte.number + digit = omega (arith, c.in_default.ensures) in
    refuses c.args.base c.loop-byte.number digit c.loop-byte.byte-index c.args.bytes.now c.loop-byte-test.true c.requires c.if-is_empty.ensures c.digit_of-digit.ensures large c.loop-byte.invariant.left

pub loop-byte-preserved : goal.loop-byte-preserved
loop-byte-preserved c = record {
  left = ap (λ n. digits_left c.args.base n (drop (c.loop-byte.byte-index + 1) c.args.bytes.now)) c.in-Some.ensures.1
      ∙ goes_on c.args.base c.loop-byte.number c.digit_of-digit.result c.loop-byte.byte-index c.args.bytes.now c.loop-byte-test.true c.digit_of-digit.ensures c.if-digit-base.false c.loop-byte.invariant.left;
  fits = omega (arith, c.in-Some.ensures.0, c.in-Some.ensures.1);
}

pub returns : goal.returns
returns c =
    is_done c.args.base c.loop-byte.number c.loop-byte.byte-index c.args.bytes.now c.loop-byte-test.false c.if-is_empty.ensures c.loop-byte.invariant.fits c.loop-byte.invariant.left
