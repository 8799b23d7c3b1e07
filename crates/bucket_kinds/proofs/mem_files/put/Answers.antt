use Rattle.bucket_kinds.proofs.InMemoryLemmas.{under_after}
use Rattle.bucket_kinds.proofs.mem_files.put.Goals as goal

pub returns-clause-ok : goal.returns-clause-ok
returns-clause-ok c = under_after c.args.files.now c.insert.new.self c.args.name c.args.bytes c.in_ok-insert.ensures.entries
