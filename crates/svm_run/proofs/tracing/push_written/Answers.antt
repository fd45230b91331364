-- The page of the copy is printed against that of the machine, and takes over its bytes.
use Rattle.std.proofs.Common.{◌≡◌, ◌∙◌, ◌+◌, ◌*◌, ◌≤◌, ◌++◌, ℕ, List, [], Option, Some, length, ap, sym, subst, arith, slice_get, slice_set, IfSome}
use Rattle.std.proofs.lemmas.Option.{slice_get-get_or}
use Rattle.svm_model.specs.Formats.Trace.{changed_lines}
use Rattle.svm_model.specs.Memory.Bytes.{page_at, put_at}
use Rattle.plain_machine.proofs.GuestTurnLemmas.{on_ok}
use Rattle.svm_run.specs.Blocks.{copy_of, memory_in}
use Rattle.svm_run.proofs.BlockLemmas.{page-long}
use Rattle.svm_run.proofs.tracing.push_written.Goals as goal

pub memory_text-requires-clause-same : goal.memory_text-requires-clause-same
memory_text-requires-clause-same g c =
    let tracer = c.blocks-2.inside.tracer in
    let same : tracer ≡ c.args.blocks.now = c.blocks-2.view_is in
    let there : slice_get tracer c.args.guest.0 ≡ Some (copy_of tracer c.args.guest.0) = slice_get-get_or tracer c.args.guest.0 [] (omega (arith, c.requires.copied, ap length same)) in
    let old : c.page-old.result.now ≡ page_at (copy_of c.args.blocks.now c.args.guest.0) c.args.page =
    c.page-old.ensures (copy_of tracer c.args.guest.0) there ∙ ap (λ (cs : List (List ℕ)). page_at (copy_of cs c.args.guest.0) c.args.page) same in
    let new-long : length c.page-new.result.now ≡ 4096 = ap length c.page-new.ensures.bytes ∙ page-long (memory_in c.args.machine.now.world c.args.guest.0) c.args.page c.requires.page in
    ap length old ∙ page-long (copy_of c.args.blocks.now c.args.guest.0) c.args.page c.requires.copied_page ∙ sym new-long

pub memory_text-requires-clause-fits : goal.memory_text-requires-clause-fits
memory_text-requires-clause-fits g c =
    let tracer = c.blocks-2.inside.tracer in
    let same : tracer ≡ c.args.blocks.now = c.blocks-2.view_is in
    let there : slice_get tracer c.args.guest.0 ≡ Some (copy_of tracer c.args.guest.0) = slice_get-get_or tracer c.args.guest.0 [] (omega (arith, c.requires.copied, ap length same)) in
    let old : c.page-old.result.now ≡ page_at (copy_of c.args.blocks.now c.args.guest.0) c.args.page =
    c.page-old.ensures (copy_of tracer c.args.guest.0) there ∙ ap (λ (cs : List (List ℕ)). page_at (copy_of cs c.args.guest.0) c.args.page) same in
    let new-long : length c.page-new.result.now ≡ 4096 = ap length c.page-new.ensures.bytes ∙ page-long (memory_in c.args.machine.now.world c.args.guest.0) c.args.page c.requires.page in
    omega (arith, new-long, c.from-address.ensures, c.ranges.page.fits)

pub put-requires-clause-within : goal.put-requires-clause-within
put-requires-clause-within g c =
    let tracer = c.blocks-2.inside.tracer in
    let same : tracer ≡ c.args.blocks.now = c.blocks-2.view_is in
    let there : slice_get tracer c.args.guest.0 ≡ Some (copy_of tracer c.args.guest.0) = slice_get-get_or tracer c.args.guest.0 [] (omega (arith, c.requires.copied, ap length same)) in
    let old : c.page-old.result.now ≡ page_at (copy_of c.args.blocks.now c.args.guest.0) c.args.page =
    c.page-old.ensures (copy_of tracer c.args.guest.0) there ∙ ap (λ (cs : List (List ℕ)). page_at (copy_of cs c.args.guest.0) c.args.page) same in
    let new-long : length c.page-new.result.now ≡ 4096 = ap length c.page-new.ensures.bytes ∙ page-long (memory_in c.args.machine.now.world c.args.guest.0) c.args.page c.requires.page in
    subst (λ (o : Option (List ℕ)). IfSome o (λ memory. 4096 * c.args.page + 4096 ≤ length memory)) (sym there)
    (omega (arith, c.requires.copied_page, ap (λ (cs : List (List ℕ)). length (copy_of cs c.args.guest.0)) same))

pub put-requires-clause-whole : goal.put-requires-clause-whole
put-requires-clause-whole g c =
    let tracer = c.blocks-2.inside.tracer in
    let same : tracer ≡ c.args.blocks.now = c.blocks-2.view_is in
    let there : slice_get tracer c.args.guest.0 ≡ Some (copy_of tracer c.args.guest.0) = slice_get-get_or tracer c.args.guest.0 [] (omega (arith, c.requires.copied, ap length same)) in
    let old : c.page-old.result.now ≡ page_at (copy_of c.args.blocks.now c.args.guest.0) c.args.page =
    c.page-old.ensures (copy_of tracer c.args.guest.0) there ∙ ap (λ (cs : List (List ℕ)). page_at (copy_of cs c.args.guest.0) c.args.page) same in
    let new-long : length c.page-new.result.now ≡ 4096 = ap length c.page-new.ensures.bytes ∙ page-long (memory_in c.args.machine.now.world c.args.guest.0) c.args.page c.requires.page in
    new-long

pub returns-clause-text : goal.returns-clause-text
returns-clause-text g c =
    let tracer = c.blocks-2.inside.tracer in
    let same : tracer ≡ c.args.blocks.now = c.blocks-2.view_is in
    let there : slice_get tracer c.args.guest.0 ≡ Some (copy_of tracer c.args.guest.0) = slice_get-get_or tracer c.args.guest.0 [] (omega (arith, c.requires.copied, ap length same)) in
    let old : c.page-old.result.now ≡ page_at (copy_of c.args.blocks.now c.args.guest.0) c.args.page =
    c.page-old.ensures (copy_of tracer c.args.guest.0) there ∙ ap (λ (cs : List (List ℕ)). page_at (copy_of cs c.args.guest.0) c.args.page) same in
    let new-long : length c.page-new.result.now ≡ 4096 = ap length c.page-new.ensures.bytes ∙ page-long (memory_in c.args.machine.now.world c.args.guest.0) c.args.page c.requires.page in
    on_ok c.push_text.result _ _ (λ e.
    e ∙ ap (λ l. c.args.text.now.items ++ l)
    (c.deref.ensures.value ∙ c.in_ok-lines.ensures
    ∙ ap (λ n. changed_lines c.args.guest.0 (4096 * n) [] c.page-old.result.now c.page-new.result.now) c.from-address.ensures
    ∙ ap (λ l. changed_lines c.args.guest.0 (4096 * c.args.page) [] l c.page-new.result.now) old
    ∙ ap (λ l. changed_lines c.args.guest.0 (4096 * c.args.page) [] (page_at (copy_of c.args.blocks.now c.args.guest.0) c.args.page) l) c.page-new.ensures.bytes))
    c.push_text.ensures

pub returns-clause-copies : goal.returns-clause-copies
returns-clause-copies g c =
    let tracer = c.blocks-2.inside.tracer in
    let same : tracer ≡ c.args.blocks.now = c.blocks-2.view_is in
    let there : slice_get tracer c.args.guest.0 ≡ Some (copy_of tracer c.args.guest.0) = slice_get-get_or tracer c.args.guest.0 [] (omega (arith, c.requires.copied, ap length same)) in
    let old : c.page-old.result.now ≡ page_at (copy_of c.args.blocks.now c.args.guest.0) c.args.page =
    c.page-old.ensures (copy_of tracer c.args.guest.0) there ∙ ap (λ (cs : List (List ℕ)). page_at (copy_of cs c.args.guest.0) c.args.page) same in
    let new-long : length c.page-new.result.now ≡ 4096 = ap length c.page-new.ensures.bytes ∙ page-long (memory_in c.args.machine.now.world c.args.guest.0) c.args.page c.requires.page in
    on_ok c.push_text.result _ _ (λ e.
    c.put.ensures (copy_of tracer c.args.guest.0) there
    ∙ ap (λ (cs : List (List ℕ)). slice_set cs c.args.guest.0 (put_at (copy_of cs c.args.guest.0) (4096 * c.args.page) c.page-new.result.now)) same
    ∙ ap (λ l. slice_set c.args.blocks.now c.args.guest.0 (put_at (copy_of c.args.blocks.now c.args.guest.0) (4096 * c.args.page) l)) c.page-new.ensures.bytes)
    c.push_text.ensures
