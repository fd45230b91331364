-- A script that is lawful for a generated image is one for two processors.
use Rattle.std.proofs.Common.{ℕ, refl}
use Rattle.svm_model.specs.Formats.Script.{Script, IsLawful}
use Rattle.svm_model.specs.Machine.Shapes.{image_shape}
use Rattle.script_format.specs.Order.{IsScriptFor}
use Rattle.workload.specs.Generated.{cpu_count, made_image}
use Rattle.workload.proofs.tests.script_of_a_size.Goals as goal

for_two : (seed size : ℕ) (script : Script) → IsLawful (image_shape (made_image seed size)) script → IsScriptFor cpu_count script
unfolding made_image
for_two seed size script lawful = record { shape = image_shape (made_image seed size); processors = refl; lawful = lawful }

pub event_at-requires : goal.event_at-requires
event_at-requires g c = record { lawful = for_two 0 3 c.in-Ok.script (c.in-Ok.ensures.lawful 0) }
