-- The width of physical addresses, which is 40 bits (volume 2, 'Page Translation and Protection'), in what a walk of both levels
-- answers.
use Rattle.std.specs.Prelude.{◌^◌, ◌<◌}
use Rattle.svm_model.specs.declared.page_tables.Nested.{Nested}
use Rattle.svm_model.specs.declared.page_tables.Nested.TheVariants.{Leaf, Bar, PageFault, NestedFault, Ended}

-- a leaf's frame has 28 bits, and the address that a nested fault tells fits
abbrev pub IsPhysical : Nested → Type 0
IsPhysical (Leaf leaf guest_frame changed) = leaf.frame.0 < 2 ^ 28
IsPhysical (Bar leaf changed) = Unit {0}
IsPhysical (PageFault code) = Unit {0}
IsPhysical (NestedFault code address) = address < 2 ^ 63
IsPhysical (Ended outside) = Unit {0}
