use Rattle.std.proofs.Common.{◌∙◌, sym}
use Rattle.svm_model.specs.Memory.OuterPasses.{final_fault}
use Rattle.svm_model.specs.declared.page_tables.Outer.TheVariants.{Tables}
use Rattle.nested_walk.proofs.ReachLemmas.{on_final, reaches-over, passes-then, fault-ends, outside-ends, leaf-goes-on, last-barred, last-passes}
use Rattle.std.proofs.Common.{refl}
use Rattle.nested_walk.proofs.last_page.pass_last.Goals as goal

pub returns-then-is_bar-clause-reached : goal.returns-then-is_bar-clause-reached
returns-then-is_bar-clause-reached g c path e =
    last-barred (Tables c.args.of.now.outer) c.args.of.now.guest c.args.of.now.access path c.args.changed _ c.args.leaf c.args.passes.now.items e (sym c.is_bar.ensures ∙ c.if-is_bar.true)

pub returns-in-Leaf-clause-reached : goal.returns-in-Leaf-clause-reached
returns-in-Leaf-clause-reached g c path e =
    last-passes (Tables c.args.of.now.outer) c.args.of.now.guest c.args.of.now.access path c.args.changed _ c.args.leaf _ c.found_through.result _ c.pass_on.new.passes.items e (sym c.is_bar.ensures ∙ c.if-is_bar.false)
    (passes-then (final_fault c.args.leaf.frame.0) (on_final c.args.leaf c.args.changed) c.found_through.result _ c.pass_on.new.passes.items c.pass_on.ensures.passed
    (leaf-goes-on _ c.pass_on.new.passes.items (final_fault c.args.leaf.frame.0) (on_final c.args.leaf c.args.changed) c.found_through.result _ c.pass_on.new.passes.items c.in-Leaf.is (reaches-over c.pass_on.new.passes.items c.found_through.ensures)))

pub returns-in-PageFault-clause-reached : goal.returns-in-PageFault-clause-reached
returns-in-PageFault-clause-reached g c path e =
    last-passes (Tables c.args.of.now.outer) c.args.of.now.guest c.args.of.now.access path c.args.changed _ c.args.leaf _ c.final_fault.result _ c.pass_on.new.passes.items e (sym c.is_bar.ensures ∙ c.if-is_bar.false)
    (passes-then (final_fault c.args.leaf.frame.0) (on_final c.args.leaf c.args.changed) c.final_fault.result _ c.pass_on.new.passes.items c.pass_on.ensures.passed
    (fault-ends _ c.pass_on.new.passes.items (final_fault c.args.leaf.frame.0) (on_final c.args.leaf c.args.changed) c.in-PageFault.is c.final_fault.ensures.value))

pub returns-in-Ended-clause-reached : goal.returns-in-Ended-clause-reached
returns-in-Ended-clause-reached g c path e =
    last-passes (Tables c.args.of.now.outer) c.args.of.now.guest c.args.of.now.access path c.args.changed _ c.args.leaf _ _ _ c.pass_on.new.passes.items e (sym c.is_bar.ensures ∙ c.if-is_bar.false)
    (passes-then (final_fault c.args.leaf.frame.0) (on_final c.args.leaf c.args.changed) _ _ c.pass_on.new.passes.items c.pass_on.ensures.passed
    (outside-ends _ c.pass_on.new.passes.items (final_fault c.args.leaf.frame.0) (on_final c.args.leaf c.args.changed) c.in-Ended.is refl))
