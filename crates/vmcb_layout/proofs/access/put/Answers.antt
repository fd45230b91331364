use Rattle.std.proofs.Common.{◌≡◌, ◌+◌, ◌≤◌, length, subst, sym, arith}
use Rattle.svm_model.specs.Memory.Bytes.{guest_of}
use Rattle.svm_model.specs.declared.vmcbs.FieldPlace.{FieldPlace}
use Rattle.svm_model.proofs.WindowLemmas.{length-guest_of}
use Rattle.vmcb_layout.proofs.PutLaw.{put-alone}
use Rattle.vmcb_layout.proofs.access.put.Goals as goal

pub returns-clause-alone : goal.returns-clause-alone
returns-clause-alone c h =
    let size : length (guest_of c.args.window c.args.memory.now.bytes) ≡ c.args.window.size = length-guest_of c.args.window c.args.memory.now.bytes c.requires.window in
    let line = c.line_of-place.ensures.line in
    let done = c.write_guest.ensures.inside (subst (λ (p : FieldPlace). c.args.vmcb + p.offset + p.width ≤ c.args.window.size) (sym line) h) in (
      done.0,
      put-alone (guest_of c.args.window c.args.memory.now.bytes) (guest_of c.args.window c.write_guest.new.self.bytes) c.bytes_of-bytes.result c.args.vmcb c.args.field c.args.value c.line_of-place.result
          line c.line_of-place.ensures.bound c.bytes_of-bytes.ensures c.requires.fits (omega (arith, h, size)) done.1,
    )
