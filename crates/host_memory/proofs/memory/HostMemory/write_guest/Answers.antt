use Rattle.std.proofs.Common.{◌≡◌, ◌∙◌, ◌+◌, ap, sym, subst, take, true, arith}
use Rattle.std.proofs.lemmas.List.{length-take-le}
use Rattle.svm_model.specs.Memory.Bytes.{Host, SameOutside, is_written}
use Rattle.host_memory.specs.Marks.{marked}
use Rattle.host_memory.proofs.MarkLemmas.{marks_write, marks_touched}
use Rattle.host_memory.proofs.memory.HostMemory.write_guest.Goals as goal

pub mark-requires-clause-few : goal.mark-requires-clause-few
mark-requires-clause-few c = omega (arith, c.in_ok-write.ensures.placed.0, c.requires.window, c.write.ensures.fits, c.write.ensures.around.size)

pub returns-clause-others : goal.returns-clause-others
returns-clause-others c =
    let few = c.requires.few in
    let some = c.requires.some in
    let P : Host → Type 0 = λ h. SameOutside c.args.window c.args.self.now h in
    subst P (sym (c.mark.ensures ∙ ap (λ (h : Host). marked h (c.args.window.base + c.args.address) c.args.length) c.write.ensures.marks)) (record {
      size = c.write.ensures.around.size;
      before = c.write.ensures.around.before;
      after = c.write.ensures.around.after;
      marked = marks_write c.args.self.now c.write.new.self.bytes (take c.args.length c.args.from.now) (c.args.window.base + c.args.address) c.args.length
          some (omega (arith, few)) (length-take-le c.args.length c.args.from.now (omega (arith, c.told-from, few)))
          (omega (arith, c.in_ok-write.ensures.placed.0, c.requires.window)) c.in_ok-write.ensures.placed.1;
    })

pub returns-clause-marks : goal.returns-clause-marks
returns-clause-marks c page there e =
    let H : Host → Type 0 = λ h. is_written h page ≡ true in
    marks_touched c.args.self.now c.write.new.self.bytes (c.args.window.base + c.args.address) c.args.length page c.requires.some (omega (arith, c.requires.few)) there
    (subst H (c.mark.ensures ∙ ap (λ (h : Host). marked h (c.args.window.base + c.args.address) c.args.length) c.write.ensures.marks) e)
