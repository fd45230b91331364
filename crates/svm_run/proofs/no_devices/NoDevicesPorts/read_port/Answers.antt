use Rattle.svm_run.proofs.NoDeviceLemmas.{bare-read}
use Rattle.svm_run.proofs.no_devices.NoDevicesPorts.read_port.Goals as goal

pub returns-clause-bus : goal.returns-clause-bus
returns-clause-bus c = bare-read c.args.self.now.output.items c.args._port
