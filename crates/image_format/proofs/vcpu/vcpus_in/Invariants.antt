use Rattle.std.proofs.Common.{◌≡◌, ◌-◌}
use Rattle.svm_model.specs.Formats.ImageBytes.{many_in}
use Rattle.svm_model.specs.Formats.ImageVcpus.{vcpu_in}
use Rattle.image_format.specs.Reading.{left}
use Rattle.image_format.proofs.Many.{with_front}
use Rattle.image_format.proofs.vcpu.vcpus_in.Given as goal

abbrev pub invariant-loop : goal.invariant-loop
invariant-loop l = with_front l.vcpus.items (many_in vcpu_in (l.count - l.counter) (left l.rest)) ≡ many_in vcpu_in l.count (left l.source)
