use Rattle.std.proofs.Common.{Some, None, refl, length, ◌≤◌, ◌<◌, arith, rules}
use Rattle.bucket_kinds.specs.MemDevice.{files_of}
use Rattle.bucket_kinds.proofs.ReadLemmas.{read_failing, read_well, filled_whole, filled_short}
use Rattle.bucket_kinds.proofs.mem_files.MemFiles.read_part.Goals as goal

pub returns-then-call_fails-clause-err : goal.returns-then-call_fails-clause-err
returns-then-call_fails-clause-err c =
    read_failing (files_of c.args.self.now) c.args.file c.args.at (length c.args.buffer.now) c.call_fails.result c.call_fails.ensures.result c.if-call_fails.true

pub returns-in_default-clause-err : goal.returns-in_default-clause-err
returns-in_default-clause-err c =
    read_well (files_of c.args.self.now) (files_of c.call_fails.new.self) c.args.file c.args.at (length c.args.buffer.now) c.call_fails.result None None
    c.call_fails.ensures.result c.if-call_fails.false c.call_fails.ensures.files (search rules) refl

pub returns-then-copy_from-buffer-clause-err : goal.returns-then-copy_from-buffer-clause-err
returns-then-copy_from-buffer-clause-err c =
    let old = c.args.buffer.now in
    let short : c.copy_from.result < length old = omega arith in
    read_well (files_of c.args.self.now) (files_of c.call_fails.new.self) c.args.file c.args.at (length old) c.call_fails.result (Some c.deref.result.now) None
    c.call_fails.ensures.result c.if-call_fails.false c.call_fails.ensures.files (search rules)
    (filled_short c.deref.result.now c.args.at old c.copy_from.result c.copy_from.new.buffer c.copy_from.ensures short)

pub returns-clause-ok : goal.returns-clause-ok
returns-clause-ok c =
    let old = c.args.buffer.now in
    let whole : length old ≤ c.copy_from.result = omega arith in
    read_well (files_of c.args.self.now) (files_of c.call_fails.new.self) c.args.file c.args.at (length old) c.call_fails.result (Some c.deref.result.now) (Some c.copy_from.new.buffer)
    c.call_fails.ensures.result c.if-call_fails.false c.call_fails.ensures.files (search rules)
    (filled_whole c.deref.result.now c.args.at old c.copy_from.result c.copy_from.new.buffer c.copy_from.ensures whole)
