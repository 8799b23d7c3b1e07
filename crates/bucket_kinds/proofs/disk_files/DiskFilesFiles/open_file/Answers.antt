use Rattle.std.proofs.Common.{◌≡◌, Some, ap, refl, rules}
use Rattle.bucket_kinds.specs.Device.{opened}
use Rattle.bucket_kinds.specs.DiskDevice.{untold, disk_number, disk_device}
use Rattle.bucket_kinds.proofs.OpenNumbers.{numbered_after, numbered_on, next_is_free, open_after}
use Rattle.bucket_kinds.proofs.disk_files.DiskFilesFiles.open_file.Goals as goal

pub returns : goal.returns
returns g c =
    let disk = c.args.self.now in
    let old = disk_device disk.opened disk.next disk.failures in
    let new = numbered_on old (disk_number c.put_number.new.opened) in
    let after : new ≡ opened c.args.name.now old =
    ap (numbered_on old)
    (numbered_after untold disk.opened c.put_number.new.opened disk.next (Some c.in-Ok-Some.opened.0) c.in_ok-put_number.ensures.ok) in
    record {
      number_is = refl;
      number_fits = search rules;
      number_is_new = next_is_free untold disk.opened disk.next disk.given;
      length_is = tt;
      went_well = tt;
      after = after;
      is_open = open_after old new c.args.name.now c.in-Ok-Some.opened.1 tt after;
    }
