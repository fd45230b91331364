use Rattle.std.proofs.Common.{◌≡◌, ◌-◌}
use Rattle.svm_model.specs.Formats.ImageBytes.{guest_in, many_in}
use Rattle.image_format.specs.Reading.{left}
use Rattle.image_format.proofs.Many.{with_front}
use Rattle.image_format.proofs.guest.guests_in.Given as goal

abbrev pub invariant-loop : goal.invariant-loop
invariant-loop l = with_front l.guests.items (many_in guest_in (l.count - l.counter) (left l.rest)) ≡ many_in guest_in l.count (left l.source)
