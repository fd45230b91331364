use Rattle.std.proofs.Common.{◌≡◌, ◌+◌, ◌*◌, ◌≤◌, false, take}
use Rattle.svm_model.specs.Audit.Breaches.{Known}
use Rattle.svm_model.specs.Formats.Script.{events_of}
use Rattle.svm_model.specs.Machine.Shapes.{world_shape}
use Rattle.svm_model.specs.declared.names.VcpuId.{VcpuId}
use Rattle.port_bus.specs.Causes.{NoneFell}
use Rattle.rule_memory.specs.Stands.{Stands}
use Rattle.auditor.specs.Steps.{kept_so_far}
use Rattle.auditor.proofs.AuditLemmas.{AreKept}
use Rattle.auditor.proofs.verdicts.audit_events.Given as goal

-- the events so far kept the rules, and the memory stands for what may have been kept behind them
abbrev pub invariant-loop-number : goal.invariant-loop-number
invariant-loop-number g l = record {
  known : VcpuId → Known;
  stands : Stands l.memory (kept_so_far known);
  kept : AreKept l.initial.machine.world (g.B.Ports.bus l.initial.bus) (take l.number (events_of l.cpus l.script)) known l.machine.world (g.B.Ports.bus l.bus);
  shape : world_shape l.machine.world ≡ world_shape l.initial.machine.world;
  going : l.machine.stopped ≡ false;
  done : l.machine.world.event ≡ l.number;
  counts : NoneFell (g.B.Ports.faults l.initial.bus) (g.B.Ports.faults l.bus);
  cost : l.steps ≤ l.initial.steps + 6368 * l.number;
  later : l.initial.steps ≤ l.steps;
}
