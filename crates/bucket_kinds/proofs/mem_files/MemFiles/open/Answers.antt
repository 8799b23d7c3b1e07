use Rattle.bucket_kinds.specs.MemDevice.{files_of}
use Rattle.bucket_kinds.proofs.MemDeviceLemmas.{counted_opening}
use Rattle.bucket_kinds.proofs.mem_files.MemFiles.open.Goals as goal

pub returns-clause-files : goal.returns-clause-files
returns-clause-files c =
    counted_opening (files_of c.args.self.now) (files_of c.call_fails-fails.new.self) (files_of c.open_unless.new.self) c.args.name.now c.open_unless.result c.call_fails-fails.result
    c.call_fails-fails.ensures.result c.call_fails-fails.ensures.files c.open_unless.ensures.files
