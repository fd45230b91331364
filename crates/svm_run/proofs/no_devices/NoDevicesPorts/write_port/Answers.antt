use Rattle.std.proofs.Common.{◌∙◌, ap}
use Rattle.svm_run.proofs.NoDeviceLemmas.{bare, bare-written}
use Rattle.svm_run.proofs.no_devices.NoDevicesPorts.write_port.Goals as goal

pub returns-in-Ok-clause-written : goal.returns-in-Ok-clause-written
returns-in-Ok-clause-written c = ap bare c.in-Ok.ensures.items ∙ bare-written c.args.self.now.output.items c.args.write.now
