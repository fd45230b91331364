use Rattle.std.proofs.Common.{◌≡◌, ◌-◌}
use Rattle.svm_model.specs.Formats.ImageBytes.{segment_in, many_in}
use Rattle.image_format.specs.Reading.{left}
use Rattle.image_format.proofs.Many.{with_front}
use Rattle.image_format.proofs.segment.segments_in.Given as goal

abbrev pub invariant-loop : goal.invariant-loop
invariant-loop l = with_front l.segments.items (many_in (segment_in l.pages) (l.count - l.counter) (left l.rest)) ≡ many_in (segment_in l.pages) l.count (left l.source)
