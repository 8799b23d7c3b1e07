use Rattle.std.proofs.Common.{None, ap}
use Rattle.bucket_kinds.specs.DiskDevice.{untold, disk_device}
use Rattle.bucket_kinds.proofs.OpenNumbers.{numbered_after, renumbered}
use Rattle.bucket_kinds.proofs.disk_files.DiskFilesFiles.close_file.Goals as goal

pub returns-in-Some : goal.returns-in-Some
returns-in-Some g c =
    let disk = c.args.self.now in
    ap (renumbered (disk_device disk.opened disk.next disk.failures))
    (numbered_after untold disk.opened c.take_number.new.opened c.args.file None c.take_number.ensures)

pub returns-in_default : goal.returns-in_default
returns-in_default g c =
    let disk = c.args.self.now in
    ap (renumbered (disk_device disk.opened disk.next disk.failures))
    (numbered_after untold disk.opened c.take_number.new.opened c.args.file None c.take_number.ensures)
