use Rattle.std.proofs.Common.{◌∙◌, ◌+◌, ◌*◌, ◌-◌, ℕ, refl, sym, ap, arith}
use Rattle.svm_model.specs.Memory.Bytes.{guest_of}
use Rattle.svm_model.specs.Memory.OuterPasses.{table_fault}
use Rattle.svm_model.specs.declared.page_tables.Outer.TheVariants.{Tables}
use Rattle.svm_model.proofs.WindowLemmas.{is_within-after}
use Rattle.nested_walk.proofs.ReadLemmas.{read-level}
use Rattle.nested_walk.proofs.ReachLemmas.{from-pass, reads-entry, entry-ends, leaf-next, table-next, fault-ends, outside-ends, leaf-goes-on, level-below, leads-below}
use Rattle.nested_walk.proofs.descent.+descend.Goals as goal

pub returns-in-PageFault-clause-reached : goal.returns-in-PageFault-clause-reached
returns-in-PageFault-clause-reached g t c =
    let of = c.args.of.now in
    let so_far = c.args.so_far.now in
    let below = c.args.level - 1 in
    let level = level-below c.args.level c.requires.some in
    let at = so_far.table + 8 * c.index_of.result in
    let place = ap (λ (n : ℕ). so_far.table + 8 * n) c.index_of.ensures.value in
    let memory = guest_of of.window c.pass_on.new.memory.bytes in
    let told = c.pass_on.new.passes.items in
    from-pass below at of.guest of.access so_far.table so_far.path.items so_far.changed level place c.pass_on.ensures.passed
    (fault-ends memory told (table_fault at) _ c.in-PageFault.is c.table_fault.ensures.value)

pub returns-in-Ended-clause-reached : goal.returns-in-Ended-clause-reached
returns-in-Ended-clause-reached g t c =
    let of = c.args.of.now in
    let so_far = c.args.so_far.now in
    let below = c.args.level - 1 in
    let level = level-below c.args.level c.requires.some in
    let at = so_far.table + 8 * c.index_of.result in
    let place = ap (λ (n : ℕ). so_far.table + 8 * n) c.index_of.ensures.value in
    let memory = guest_of of.window c.pass_on.new.memory.bytes in
    let told = c.pass_on.new.passes.items in
    from-pass below at of.guest of.access so_far.table so_far.path.items so_far.changed level place c.pass_on.ensures.passed
    (outside-ends memory told (table_fault at) _ c.in-Ended.is refl)

pub returns-in-Some-clause-reached : goal.returns-in-Some-clause-reached
returns-in-Some-clause-reached g t c =
    let of = c.args.of.now in
    let so_far = c.args.so_far.now in
    let below = c.args.level - 1 in
    let level = level-below c.args.level c.requires.some in
    let at = so_far.table + 8 * c.index_of.result in
    let place = ap (λ (n : ℕ). so_far.table + 8 * n) c.index_of.ensures.value in
    let memory = guest_of of.window c.pass_on.new.memory.bytes in
    let told = c.pass_on.new.passes.items in
    from-pass below at of.guest of.access so_far.table so_far.path.items so_far.changed level place c.pass_on.ensures.passed
    (leaf-goes-on memory told (table_fault at) _ c.stop.result memory told c.in-Leaf.is
    (reads-entry below at (Tables of.outer) of.guest of.access so_far.table so_far.path.items so_far.changed c.in-Leaf.changed c.in-Leaf.leaf memory c.look_up-end.result.entry c.look_up-end.result.end level place c.requires.read.aligned c.look_up-end.ensures.entry
    (entry-ends c.look_up-end.result.entry memory told _ c.in-Some.is c.stop.ensures.value)))

pub end_at_leaf-requires-clause-inside : goal.end_at_leaf-requires-clause-inside
end_at_leaf-requires-clause-inside g t c =
    let size = c.args.of.now.window.size in
    (c.add_entry.ensures.read size (c.args.level - 1) (read-level size c.args.level c.args.so_far.now c.requires.some c.requires.read) (c.look_up-end.ensures.inside c.in_default.is)).inside

pub end_at_leaf-requires-clause-bits : goal.end_at_leaf-requires-clause-bits
end_at_leaf-requires-clause-bits g t c =
    let size = c.args.of.now.window.size in
    (c.add_entry.ensures.read size (c.args.level - 1) (read-level size c.args.level c.args.so_far.now c.requires.some c.requires.read) (c.look_up-end.ensures.inside c.in_default.is)).bits

pub returns-then-ends_path-clause-reached : goal.returns-then-ends_path-clause-reached
returns-then-ends_path-clause-reached g t c =
    let of = c.args.of.now in
    let so_far = c.args.so_far.now in
    let below = c.args.level - 1 in
    let level = level-below c.args.level c.requires.some in
    let at = so_far.table + 8 * c.index_of.result in
    let place = ap (λ (n : ℕ). so_far.table + 8 * n) c.index_of.ensures.value in
    let memory = guest_of of.window c.pass_on.new.memory.bytes in
    let told = c.pass_on.new.passes.items in
    let now = guest_of of.window c.end_at_leaf.new.memory.bytes in
    let passes = c.end_at_leaf.new.passes.items in
    from-pass below at of.guest of.access so_far.table so_far.path.items so_far.changed level place c.pass_on.ensures.passed
    (leaf-goes-on memory told (table_fault at) _ c.end_at_leaf.result now passes c.in-Leaf.is
    (reads-entry below at (Tables of.outer) of.guest of.access so_far.table so_far.path.items so_far.changed c.in-Leaf.changed c.in-Leaf.leaf memory c.look_up-end.result.entry c.look_up-end.result.end level place c.requires.read.aligned c.look_up-end.ensures.entry
    (leaf-next below (Tables of.outer) of.guest of.access so_far.path.items memory c.look_up-end.result.entry level c.in_default.is (sym c.ends_path.ensures ∙ c.if-ends_path.true) c.add_entry.ensures.path c.add_entry.ensures.changed c.end_at_leaf.ensures.reached)))

pub descend-requires : goal.descend-requires
descend-requires g t c κs within =
    let size = c.args.of.now.window.size in
    let bits = c.look_up-end.result.entry.bits in
    let lower = leads-below c.args.level bits c.requires.some (sym c.ends_path.ensures ∙ c.if-ends_path.false) in
    let read = c.add_entry.ensures.read size (c.args.level - 1) (read-level size c.args.level c.args.so_far.now c.requires.some c.requires.read) (c.look_up-end.ensures.inside c.in_default.is) in
    (omega arith, (within, (is_within-after c.pass_on.ensures.others c.requires.window, (lower, (omega arith, read)))))

pub returns-else-ends_path-clause-reached : goal.returns-else-ends_path-clause-reached
returns-else-ends_path-clause-reached g t c =
    let of = c.args.of.now in
    let so_far = c.args.so_far.now in
    let below = c.args.level - 1 in
    let level = level-below c.args.level c.requires.some in
    let at = so_far.table + 8 * c.index_of.result in
    let place = ap (λ (n : ℕ). so_far.table + 8 * n) c.index_of.ensures.value in
    let memory = guest_of of.window c.pass_on.new.memory.bytes in
    let told = c.pass_on.new.passes.items in
    let now = guest_of of.window c.descend.new.memory.bytes in
    let passes = c.descend.new.passes.items in
    from-pass below at of.guest of.access so_far.table so_far.path.items so_far.changed level place c.pass_on.ensures.passed
    (leaf-goes-on memory told (table_fault at) _ c.descend.result now passes c.in-Leaf.is
    (reads-entry below at (Tables of.outer) of.guest of.access so_far.table so_far.path.items so_far.changed c.in-Leaf.changed c.in-Leaf.leaf memory c.look_up-end.result.entry c.look_up-end.result.end level place c.requires.read.aligned c.look_up-end.ensures.entry
    (table-next below (Tables of.outer) of.guest of.access so_far.path.items memory c.look_up-end.result.entry level c.in_default.is (sym c.ends_path.ensures ∙ c.if-ends_path.false) c.add_entry.ensures.table c.add_entry.ensures.path c.add_entry.ensures.changed c.descend.ensures.reached)))
