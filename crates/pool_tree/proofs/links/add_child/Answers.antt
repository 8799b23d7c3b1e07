use Rattle.std.specs.Prelude.{refl}
use Rattle.pool_tree.specs.Records.{record_of}
use Rattle.pool_tree.proofs.Changes.{bare_cleanups, added_by}
use Rattle.pool_tree.proofs.links.add_child.Goals as goal

pub returns-clause-ok : goal.returns-clause-ok
returns-clause-ok g c =
    added_by (record_of c.args.records.now) (record_of c.put.new.self) (record_of c.set_newest.new.self) (record_of c.set_younger.new.self)
    c.args.name c.args.parent c.newest-older.result _
    c.requires.free c.requires.live c.requires.last c.newest-older.ensures
    refl refl refl refl (bare_cleanups c.new.result.items c.new-2.result.items c.new.ensures.items c.new-2.ensures.items)
    c.in_ok-put.ensures.ok c.set_newest.ensures c.set_younger.ensures
