use Rattle.std.proofs.Common.{◌≡◌, ℕ, List, None, Some, cond, is_some, false, refl, sym, ◌∙◌, rules}
use Rattle.std.proofs.Math.Path.{fun_ext}
use Rattle.std.specs.Str.{bytes_eq}
use Rattle.bucket_kinds.specs.InMemory.{under}
use Rattle.bucket_kinds.specs.MemDevice.{files_of}
use Rattle.bucket_kinds.proofs.InMemoryLemmas.{same_numbered, renamed_after, none_if}
use Rattle.bucket_kinds.proofs.mem_files.MemFiles.add.Goals as goal

pub returns-clause-files : goal.returns-clause-files
unfolding files_of
returns-clause-files c =
    let mem = c.args.self.now in
    let name = c.args.name.now in
    let absent : is_some (under mem.files name) ≡ false = search rules in
    let missing : under mem.files name ≡ None = none_if (under mem.files name) absent in
    let same : c.in_ok-name.name.items ≡ name = search rules in
    let put : (q : List ℕ) → under c.put.new.files q ≡ cond (bytes_eq q name) (Some c.args.bytes.items) (under mem.files q) =
    rw same at c.in_ok-put.ensures.ok in
    (missing, renamed_after (files_of mem) (fun_ext put) (same_numbered mem.files c.put.new.files mem.opened name c.args.bytes.items put missing mem.there))

pub returns-then-has-clause-files : goal.returns-then-has-clause-files
returns-then-has-clause-files c = (sym c.has.ensures ∙ c.if-has.true, refl)
