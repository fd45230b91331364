use Rattle.std.proofs.Common.{◌∙◌, ℕ, ap, sym}
use Rattle.svm_model.specs.Machine.ApicRegisters.{lvt_mask}
use Rattle.apic_state.proofs.KeptLemmas.{entries-set}
use Rattle.apic_state.proofs.state.Apic.set_entry.Goals as goal

pub invariant_of-self : goal.invariant_of-self
invariant_of-self c =
    let before = c.self.invariant in
    record {
      model = before.model;
      spurious = before.spurious;
      command = before.command;
      divides = before.divides;
      entries =
          entries-set c.self.inside.lvt c.from.result c.args.value c.entry_mask-mask.result
          (c.entry_mask-mask.ensures ∙ ap (λ (n : ℕ). lvt_mask n) (sym c.from.ensures)) before.entries;
      in_service = before.in_service;
      requested = before.requested;
    }
