use Rattle.bucket_kinds.specs.MemDevice.{files_of}
use Rattle.bucket_kinds.proofs.MemDeviceLemmas.{due_opening, undue_opening}
use Rattle.bucket_kinds.proofs.mem_files.MemFiles.open_unless.Goals as goal

pub returns-then-fails-clause-files : goal.returns-then-fails-clause-files
returns-then-fails-clause-files c = due_opening (files_of c.args.self.now) c.args.name.now c.args.fails c.if-fails.true

pub returns-clause-files : goal.returns-clause-files
returns-clause-files c =
    undue_opening (files_of c.args.self.now) (files_of c.open_named.new.self) c.args.name.now c.open_named.result c.args.fails c.if-fails.false c.open_named.ensures.files
