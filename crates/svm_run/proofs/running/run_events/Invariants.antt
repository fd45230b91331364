use Rattle.std.proofs.Common.{◌≡◌, ◌≤◌, false, take}
use Rattle.byte_shelf.specs.Sink.{appended}
use Rattle.svm_model.specs.Formats.Script.{events_of}
use Rattle.svm_model.specs.Machine.Runs.{plain_run}
use Rattle.svm_model.specs.Machine.Shapes.{world_shape}
use Rattle.port_bus.specs.Causes.{NoneFell}
use Rattle.svm_run.specs.Outcome.{texts_of}
use Rattle.svm_run.specs.Stops.{AreRead}
use Rattle.svm_run.proofs.running.run_events.Given as goal

-- the machine and the bus stand behind the events so far, and their texts were received
abbrev pub invariant-loop-number : goal.invariant-loop-number
invariant-loop-number g l = record {
  so_far : plain_run l.initial.machine.world
      (g.B.Ports.bus l.initial.bus)
      (take l.number (events_of l.cpus l.script)) ≡ record {
        world = l.machine.world;
        bus = g.B.Ports.bus l.bus;
      };
  printed : g.K.Sink.written l.sink ≡ appended (g.K.Sink.written l.initial.sink)
      (texts_of g.T.Teller.work l.initial.machine.world (g.B.Ports.bus l.initial.bus) (take l.number (events_of l.cpus l.script)));
  shape : world_shape l.machine.world ≡ world_shape l.initial.machine.world;
  going : l.machine.stopped ≡ false;
  done : l.machine.world.event ≡ l.number;
  counts : NoneFell (g.B.Ports.faults l.initial.bus) (g.B.Ports.faults l.bus);
  cost : AreRead g.T.Teller.work l.initial.steps l.steps l.number;
  ready : g.T.Teller.ready l.teller l.machine.world;
  later_faults : g.K.Sink.faults l.initial.sink ≤ g.K.Sink.faults l.sink;
  later_refusals : g.K.Sink.refusals l.initial.sink ≤ g.K.Sink.refusals l.sink;
}
