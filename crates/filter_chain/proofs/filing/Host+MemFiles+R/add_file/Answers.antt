-- By what adding a file makes of the device.
use Rattle.bucket_kinds.specs.MemDevice.{files_of, failures_of}
use Rattle.filter_chain.proofs.HostAdds.{tries_to_add}
use Rattle.filter_chain.proofs.filing.Host+MemFiles+R.add_file.Goals as goal

pub returns-clause-event : goal.returns-clause-event
returns-clause-event g c w hosts =
    let old = c.args.self.now.files in
    let new = c.add.new.self in
    tries_to_add c.args.self.now new c.args.name.now c.args.bytes.items w (files_of old) (files_of new) (failures_of old)
    (failures_of new) c.add.ensures.failures c.add.result hosts c.add.ensures.files
