use Rattle.std.proofs.Common.{◌≡◌, ◌+◌, Some, ap, ◌∙◌, refl, rules}
use Rattle.run_model.specs.Indexed.{upd}
use Rattle.bucket_kinds.specs.InMemory.{under, under_one, at_number}
use Rattle.bucket_kinds.specs.MemDevice.{files_of}
use Rattle.bucket_kinds.proofs.OpenNumbers.{numbered_after, next_is_free}
use Rattle.bucket_kinds.proofs.InMemoryLemmas.{renumbered_files}
use Rattle.bucket_kinds.proofs.mem_files.MemFiles.open_named.Goals as goal

pub returns-clause-files : goal.returns-clause-files
unfolding files_of
returns-clause-files c =
    let mem = c.args.self.now in
    let name = c.in_ok-name.name in
    let same : name.items ≡ c.args.name.now = search rules in
    record {
      text = c.in-Some.bytes.now.items;
      text_is = search rules;
      length_is = search rules;
      number_is = refl;
      number_fits = search rules;
      number_is_new = next_is_free (under_one mem.files) mem.opened mem.next mem.given;
      after = ap (renumbered_files (files_of mem) (mem.next + 1))
          (numbered_after (under_one mem.files) mem.opened c.put_number.new.opened mem.next (Some name) c.in_ok-put_number.ensures.ok
          ∙ ap (λ q. upd (at_number mem.files mem.opened) mem.next (under mem.files q)) same);
    }
