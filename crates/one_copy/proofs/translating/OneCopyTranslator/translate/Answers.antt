use Rattle.std.proofs.Common.{refl, ◌∙◌, sym}
use Rattle.svm_model.specs.Memory.Bytes.{guest_of}
use Rattle.one_copy.proofs.RecallLemmas.{hit}
use Rattle.one_copy.proofs.translating.OneCopyTranslator.translate.Goals as goal

pub returns-in-Some-clause-walks : goal.returns-in-Some-clause-walks
returns-in-Some-clause-walks g c history stands needs =
    let guest = guest_of c.args.window c.args.memory.now.bytes in
    let found = hit c.args.self.now.kept c.args.space.now guest c.args.access history c.in-Some.leaf (sym c.find.ensures ∙ c.in-Some.is) stands (needs refl) in
    record { answer = found.answer; memory_is = found.memory_is; stands_after = found.stands_after; told = tt }
