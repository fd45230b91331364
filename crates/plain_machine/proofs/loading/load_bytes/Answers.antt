use Rattle.std.proofs.Common.{arith, ◌≡◌, ◌∙◌, ◌+◌, ◌≤◌, ap, ℕ, List, take, drop, length}
use Rattle.std.proofs.lemmas.List.{take_at}
use Rattle.std.proofs.lemmas.Grind.{common_steps}
use Rattle.svm_model.specs.Memory.Bytes.{put_at, guest_of}
use Rattle.svm_model.proofs.WindowLemmas.{same_outside-then, is_within-after, length-guest_of}
use Rattle.svm_model.proofs.PutLemmas.{put_at-next}
use Rattle.plain_machine.proofs.loading.load_bytes.Goals as goal

pub loop-done-preserved : goal.loop-done-preserved
loop-done-preserved c =
    let before = c.loop-done.invariant in
    let whole = length-guest_of c.args.window c.args.memory.now.bytes c.requires.window in
    let room : c.args.address + c.loop-done.done + c.min-count.result ≤ c.args.window.size = omega (arith, c.min-count.ensures, before.within) in
    let fits : c.args.address + length c.args.bytes.now ≤ length (guest_of c.args.window c.args.memory.now.bytes) = omega (arith, whole) in
    let put = (c.write_guest.ensures.inside room).1 in
    let piece = c.copy_from_slice.new.self in
    let copied : piece ≡ take c.min-count.result (drop c.loop-done.done c.args.bytes.now) = grind (arith, common_steps, c.copy_from_slice.ensures.after) in
    let long : length piece ≡ c.min-count.result = ap length copied ∙ grind (arith, common_steps, c.min-count.ensures) in
    record {
      within = omega (arith, c.min-count.ensures);
      window = is_within-after c.write_guest.ensures.others before.window;
      loaded =
          put ∙ ap (put_at (guest_of c.args.window c.loop-done.memory.bytes) (c.args.address + c.loop-done.done)) (take_at piece _ _ long ∙ copied)
          ∙ ap (λ (m : List ℕ). put_at m (c.args.address + c.loop-done.done) (take c.min-count.result (drop c.loop-done.done c.args.bytes.now))) before.loaded
          ∙ put_at-next (guest_of c.args.window c.args.memory.now.bytes) c.args.bytes.now c.args.address c.loop-done.done c.min-count.result before.within fits;
      others = same_outside-then before.others c.write_guest.ensures.others;
    }
