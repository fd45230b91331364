use Rattle.svm_run.proofs.NoDeviceLemmas.{bare-fed}
use Rattle.svm_run.proofs.no_devices.NoDevicesPorts.feed_device.Goals as goal

pub returns-clause-fed : goal.returns-clause-fed
returns-clause-fed c = bare-fed c.args.self.now.output.items c.args._device c.args._value
