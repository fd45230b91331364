-- What the code answers, beside what the definition says.
use Rattle.std.specs.Prelude.{◌≡◌, Result, Ok, Err}
use Rattle.svm_model.specs.Formats.Image.{Image, ImageFault}
use Rattle.svm_model.specs.Formats.ImageFields.{Source as Left}
use Rattle.image_format.specs.declared.source.Source.{Source}
use Rattle.image_format.specs.declared.refusal.ImageRefusal.{ImageRefusal}
use Rattle.image_format.specs.declared.refusal.ImageRefusal.TheVariants.{Bad, NoMemory}

-- a source without where its bytes lie in memory
abbrev pub left : Source → Left
left source = record { place = source.place; rest = source.rest.now }

-- a refusal is the fault that the definition tells; want of memory may come at any place
abbrev pub GivesFault : {B : Type 0} → ImageRefusal → Result B ImageFault → Type 0
GivesFault (Bad place reason) told = told ≡ Err (record { place = place; reason = reason })
GivesFault NoMemory told = Unit {0}

-- what was answered, seen by view, is what the definition tells, unless memory ran out
abbrev pub Gives : {A B : Type 0} → (A → B) → Result A ImageRefusal → Result B ImageFault → Type 0
Gives view (Ok x) told = told ≡ Ok (view x)
Gives view (Err refusal) told = GivesFault refusal told

-- the same for a whole image
abbrev pub GivesImage : Result Image ImageRefusal → Result Image ImageFault → Type 0
GivesImage result told = Gives (λ image. image) result told
