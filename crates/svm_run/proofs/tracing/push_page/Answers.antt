-- A page that is not marked is the same: it has no line, and its copy stays.
use Rattle.std.proofs.Common.{sym}
use Rattle.svm_run.specs.Blocks.{copy_of, memory_in}
use Rattle.svm_run.proofs.BlockLemmas.{copies_unchanged, lines_unchanged}
use Rattle.svm_run.proofs.tracing.push_page.Goals as goal

pub returns-else-page_written-clause-text : goal.returns-else-page_written-clause-text
returns-else-page_written-clause-text g c =
    lines_unchanged c.args.text.now.items c.args.guest.0 (copy_of c.args.blocks.now c.args.guest.0) (memory_in c.args.machine.now.world c.args.guest.0) c.args.page
    (c.requires.told (sym c.if-page_written.ensures))

pub returns-else-page_written-clause-copies : goal.returns-else-page_written-clause-copies
returns-else-page_written-clause-copies g c =
    copies_unchanged c.args.blocks.now c.args.guest.0 (memory_in c.args.machine.now.world c.args.guest.0) c.args.page c.requires.copied_page
    (c.requires.told (sym c.if-page_written.ensures))
