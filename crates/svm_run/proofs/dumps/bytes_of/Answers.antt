-- The byte at the address is there, and is the next one.
use Rattle.std.proofs.Common.{◌∙◌, ◌<◌, arith, slice_get, length, get_or}
use Rattle.svm_model.specs.Formats.Trace.{memory_of}
use Rattle.svm_run.proofs.Shown.{bytes_shown, few_bytes, one_more, read_there, same_byte}
use Rattle.svm_run.proofs.dumps.bytes_of.Goals as goal

pub unreachable-requires : goal.unreachable-requires
unreachable-requires g c =
    let there = slice_get c.args.machine.now.world.guests c.args.guest.0 in
    let within : c.loop-place.at < length (memory_of there) =
    omega (arith, c.loop-place.invariant.next, c.loop-place-test.true, bytes_shown c.args.machine.now.world c.args.guest c.args.address c.args.length c.requires) in
    c.in_default.not-Ok (get_or (memory_of there) c.loop-place.at 0) (read_there there c.loop-place.at c.memory_byte.result within c.memory_byte.ensures.byte)

pub overflow_add-at : goal.overflow_add-at
overflow_add-at g c =
    omega (
      arith,
      c.loop-place.invariant.next,
      c.loop-place-test.true,
      bytes_shown c.args.machine.now.world c.args.guest c.args.address c.args.length c.requires,
      few_bytes (slice_get c.args.machine.now.world.guests c.args.guest.0) c.memory_byte.ensures.fits,
    )

pub loop-place-preserved : goal.loop-place-preserved
loop-place-preserved g c =
    let before = c.loop-place.invariant in
    let there = slice_get c.args.machine.now.world.guests c.args.guest.0 in
    let within : c.loop-place.at < length (memory_of there) =
    omega (arith, before.next, c.loop-place-test.true, bytes_shown c.args.machine.now.world c.args.guest c.args.address c.args.length c.requires) in
    let read = read_there there c.loop-place.at c.memory_byte.result within c.memory_byte.ensures.byte in
    record {
      so_far =
          c.in-Ok-push.ensures.items
          ∙ one_more (memory_of there) c.loop-place.bytes.items c.args.address c.loop-place._place c.loop-place.at c.in-Ok.byte before.next within before.so_far
          (same_byte c.in-Ok.byte _ _ c.in-Ok.is read);
      next = omega (arith, before.next);
      cost = omega (arith, before.cost, c.memory_byte.ensures.steps);
      later = omega (arith, before.later, c.memory_byte.ensures.steps);
    }
