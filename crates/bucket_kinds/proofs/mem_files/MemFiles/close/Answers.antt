use Rattle.std.proofs.Common.{None, ap}
use Rattle.bucket_kinds.specs.InMemory.{under_one}
use Rattle.bucket_kinds.specs.MemDevice.{files_of}
use Rattle.bucket_kinds.proofs.OpenNumbers.{numbered_after}
use Rattle.bucket_kinds.proofs.InMemoryLemmas.{renumbered_files}
use Rattle.bucket_kinds.proofs.mem_files.MemFiles.close.Goals as goal

pub returns-clause-files : goal.returns-clause-files
unfolding files_of
returns-clause-files c =
    let mem = c.args.self.now in
    ap (renumbered_files (files_of mem) mem.next)
    (numbered_after (under_one mem.files) mem.opened c.take_number.new.opened c.args.file None c.take_number.ensures)
