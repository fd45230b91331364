-- Page by page the changed bytes are printed, and the copy takes them over.
use Rattle.std.proofs.Common.{◌≡◌, ◌∙◌, ◌+◌, ◌*◌, ◌≤◌, ◌++◌, ℕ, List, length, ap, sym, arith, slice_set}
use Rattle.svm_model.specs.Memory.Bytes.{page_at}
use Rattle.svm_run.specs.Blocks.{copy_of, memory_in}
use Rattle.svm_run.proofs.BlockLemmas.{copies_long, copies_put, copy_there, merged, merged-long, merged_all, merged_none, merged-page, pages_all, pages_none, text_put}
use Rattle.svm_run.proofs.tracing.push_changes.Goals as goal

pub page_count-page-end-requires : goal.page_count-page-end-requires
page_count-page-end-requires g c = c.requires.there

pub loop-page-init : goal.loop-page-init
loop-page-init g c = record {
  text = pages_none c.args.text.now.items c.args.guest.0 (copy_of c.args.blocks.now c.args.guest.0) (memory_in c.args.machine.now.world c.args.guest.0);
  copies = merged_none c.args.blocks.now c.args.guest.0 (memory_in c.args.machine.now.world c.args.guest.0);
  later = omega arith;
}

pub push_page-requires-clause-there : goal.push_page-requires-clause-there
push_page-requires-clause-there g c = c.requires.there

pub push_page-requires-clause-copied : goal.push_page-requires-clause-copied
push_page-requires-clause-copied g c =
    omega (arith, c.requires.copied, copies_long c.loop-page.blocks c.args.blocks.now c.args.guest.0 _ c.loop-page.invariant.copies)

pub push_page-requires-clause-page : goal.push_page-requires-clause-page
push_page-requires-clause-page g c =
    let world = c.args.machine.now.world in
    let guest = c.args.guest.0 in
    let old : List ℕ = copy_of c.args.blocks.now guest in
    let new : List ℕ = memory_in world guest in
    let count : 4096 * c.page_count-page-end.result ≡ length new = c.page_count-page-end.ensures in
    omega (arith, count, c.loop-page-test.true)

pub push_page-requires-clause-copied_page : goal.push_page-requires-clause-copied_page
push_page-requires-clause-copied_page g c =
    let world = c.args.machine.now.world in
    let guest = c.args.guest.0 in
    let old : List ℕ = copy_of c.args.blocks.now guest in
    let new : List ℕ = memory_in world guest in
    let count : 4096 * c.page_count-page-end.result ≡ length new = c.page_count-page-end.ensures in
    let merge : copy_of c.loop-page.blocks guest ≡ merged new old c.loop-page.page = copy_there c.loop-page.blocks c.args.blocks.now guest (merged new old c.loop-page.page) c.loop-page.invariant.copies c.requires.copied in
    let inside : 4096 * c.loop-page.page + 4096 ≤ length old = omega (arith, count, c.loop-page-test.true, c.requires.size) in
    let long : length (copy_of c.loop-page.blocks guest) ≡ length old = ap length merge ∙ merged-long old new c.loop-page.page (sym c.requires.size) inside in
    omega (arith, inside, long)

pub push_page-requires-clause-told : goal.push_page-requires-clause-told
push_page-requires-clause-told g c = λ clear.
    let world = c.args.machine.now.world in
    let guest = c.args.guest.0 in
    let old : List ℕ = copy_of c.args.blocks.now guest in
    let new : List ℕ = memory_in world guest in
    let count : 4096 * c.page_count-page-end.result ≡ length new = c.page_count-page-end.ensures in
    let merge : copy_of c.loop-page.blocks guest ≡ merged new old c.loop-page.page = copy_there c.loop-page.blocks c.args.blocks.now guest (merged new old c.loop-page.page) c.loop-page.invariant.copies c.requires.copied in
    let inside : 4096 * c.loop-page.page + 4096 ≤ length old = omega (arith, count, c.loop-page-test.true, c.requires.size) in
    let long : length (copy_of c.loop-page.blocks guest) ≡ length old = ap length merge ∙ merged-long old new c.loop-page.page (sym c.requires.size) inside in
    c.requires.told c.loop-page.page clear ∙ sym (ap (λ m. page_at m c.loop-page.page) merge ∙ merged-page old new c.loop-page.page (sym c.requires.size) inside)

pub loop-page-preserved : goal.loop-page-preserved
loop-page-preserved g c =
    let world = c.args.machine.now.world in
    let guest = c.args.guest.0 in
    let old : List ℕ = copy_of c.args.blocks.now guest in
    let new : List ℕ = memory_in world guest in
    let count : 4096 * c.page_count-page-end.result ≡ length new = c.page_count-page-end.ensures in
    let merge : copy_of c.loop-page.blocks guest ≡ merged new old c.loop-page.page = copy_there c.loop-page.blocks c.args.blocks.now guest (merged new old c.loop-page.page) c.loop-page.invariant.copies c.requires.copied in
    let inside : 4096 * c.loop-page.page + 4096 ≤ length old = omega (arith, count, c.loop-page-test.true, c.requires.size) in
    let long : length (copy_of c.loop-page.blocks guest) ≡ length old = ap length merge ∙ merged-long old new c.loop-page.page (sym c.requires.size) inside in
    record {
      text = text_put c.loop-page.text.items c.args.text.now.items _ guest old new (copy_of c.loop-page.blocks guest) c.loop-page.page (sym c.requires.size) inside merge c.loop-page.invariant.text c.in_ok-push_page.ensures.text;
      copies = copies_put c.loop-page.blocks c.args.blocks.now _ guest old new (copy_of c.loop-page.blocks guest) c.loop-page.page (sym c.requires.size) inside merge c.loop-page.invariant.copies c.in_ok-push_page.ensures.copies;
      later = omega (arith, c.loop-page.invariant.later, c.push_page.ensures.later);
    }

pub returns-clause-text : goal.returns-clause-text
returns-clause-text g c =
    let world = c.args.machine.now.world in
    let guest = c.args.guest.0 in
    let old : List ℕ = copy_of c.args.blocks.now guest in
    let new : List ℕ = memory_in world guest in
    let count : 4096 * c.page_count-page-end.result ≡ length new = c.page_count-page-end.ensures in
    let all : c.loop-page.page ≡ c.page_count-page-end.result = omega (arith, c.loop-page-test.false, c.loop-page.auto.page-end) in
    c.loop-page.invariant.text ∙ ap (λ l. c.args.text.now.items ++ l) (pages_all guest old new c.loop-page.page (omega (arith, count, all)))

pub returns-clause-copies : goal.returns-clause-copies
returns-clause-copies g c =
    let world = c.args.machine.now.world in
    let guest = c.args.guest.0 in
    let old : List ℕ = copy_of c.args.blocks.now guest in
    let new : List ℕ = memory_in world guest in
    let count : 4096 * c.page_count-page-end.result ≡ length new = c.page_count-page-end.ensures in
    let all : c.loop-page.page ≡ c.page_count-page-end.result = omega (arith, c.loop-page-test.false, c.loop-page.auto.page-end) in
    c.loop-page.invariant.copies ∙ ap (slice_set c.args.blocks.now guest) (merged_all old new c.loop-page.page (omega (arith, count, all)) c.requires.size)
