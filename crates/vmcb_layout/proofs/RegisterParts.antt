-- The ten segment and table registers have their parts.
use Rattle.std.proofs.Common.{refl, arith}
use Rattle.svm_model.specs.Svm.VmcbLayout.{layout, number_of, place_at}
use Rattle.svm_model.specs.declared.vmcbs.Field.TheVariants as f
use Rattle.vmcb_layout.specs.Widths.{HasParts}

pub parts-es : HasParts (number_of f.EsSelector)
unfolding layout number_of place_at
parts-es = record { inside = omega arith; selector = refl; attributes = refl; limit = refl; base = refl }

pub parts-cs : HasParts (number_of f.CsSelector)
unfolding layout number_of place_at
parts-cs = record { inside = omega arith; selector = refl; attributes = refl; limit = refl; base = refl }

pub parts-ss : HasParts (number_of f.SsSelector)
unfolding layout number_of place_at
parts-ss = record { inside = omega arith; selector = refl; attributes = refl; limit = refl; base = refl }

pub parts-ds : HasParts (number_of f.DsSelector)
unfolding layout number_of place_at
parts-ds = record { inside = omega arith; selector = refl; attributes = refl; limit = refl; base = refl }

pub parts-fs : HasParts (number_of f.FsSelector)
unfolding layout number_of place_at
parts-fs = record { inside = omega arith; selector = refl; attributes = refl; limit = refl; base = refl }

pub parts-gs : HasParts (number_of f.GsSelector)
unfolding layout number_of place_at
parts-gs = record { inside = omega arith; selector = refl; attributes = refl; limit = refl; base = refl }

pub parts-gdtr : HasParts (number_of f.GdtrSelector)
unfolding layout number_of place_at
parts-gdtr = record { inside = omega arith; selector = refl; attributes = refl; limit = refl; base = refl }

pub parts-ldtr : HasParts (number_of f.LdtrSelector)
unfolding layout number_of place_at
parts-ldtr = record { inside = omega arith; selector = refl; attributes = refl; limit = refl; base = refl }

pub parts-idtr : HasParts (number_of f.IdtrSelector)
unfolding layout number_of place_at
parts-idtr = record { inside = omega arith; selector = refl; attributes = refl; limit = refl; base = refl }

pub parts-tr : HasParts (number_of f.TrSelector)
unfolding layout number_of place_at
parts-tr = record { inside = omega arith; selector = refl; attributes = refl; limit = refl; base = refl }

pub ruleset registers = (parts-es, parts-cs, parts-ss, parts-ds, parts-fs, parts-gs, parts-gdtr, parts-ldtr, parts-idtr, parts-tr)
