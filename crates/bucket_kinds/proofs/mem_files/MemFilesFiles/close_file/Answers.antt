use Rattle.std.proofs.Common.{◌∙◌, ap}
use Rattle.bucket_kinds.specs.MemDevice.{files_of, failures_of, device_of}
use Rattle.bucket_kinds.specs.MemAnswers.{file_closed}
use Rattle.bucket_kinds.proofs.MemDeviceLemmas.{closed_device}
use Rattle.bucket_kinds.proofs.mem_files.MemFilesFiles.close_file.Goals as goal

pub returns-clause-device : goal.returns-clause-device
returns-clause-device c =
    let old = files_of c.args.self.now in
    ap (λ fs. device_of fs (failures_of c.close.new.self)) c.close.ensures.files
    ∙ (ap (device_of (file_closed c.args.file old)) c.close.ensures.failures ∙ closed_device old c.args.file (failures_of c.args.self.now))
