use Rattle.bucket_kinds.specs.MemDevice.{files_of, failures_of}
use Rattle.bucket_kinds.proofs.MemDeviceLemmas.{opening_device}
use Rattle.bucket_kinds.proofs.mem_files.MemFilesFiles.open_file.Goals as goal

pub returns-clause-device : goal.returns-clause-device
returns-clause-device c =
    opening_device (files_of c.args.self.now) (files_of c.open.new.self) c.args.name.now c.open.result (failures_of c.args.self.now)
    (failures_of c.open.new.self) c.open.ensures.files c.open.ensures.failures
