use Rattle.apic_state.proofs.KeptLemmas.{kept_once}
use Rattle.apic_state.proofs.state.Apic.store.Goals as goal

pub invariant_of-self-in-DivideBy : goal.invariant_of-self-in-DivideBy
invariant_of-self-in-DivideBy c =
    let before = c.self-in-DivideBy.invariant in
    record {
      model = before.model;
      spurious = before.spurious;
      command = before.command;
      divides = kept_once c.args.value 11;
      entries = before.entries;
      in_service = before.in_service;
      requested = before.requested;
    }
