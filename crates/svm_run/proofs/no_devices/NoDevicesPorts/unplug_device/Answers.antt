use Rattle.svm_run.proofs.NoDeviceLemmas.{bare-unplugged}
use Rattle.svm_run.proofs.no_devices.NoDevicesPorts.unplug_device.Goals as goal

pub returns-clause-bus : goal.returns-clause-bus
returns-clause-bus c = bare-unplugged c.args.self.now.output.items c.args._device
