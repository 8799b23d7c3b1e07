use Rattle.std.specs.Prelude.{◌≡◌, true, false, is_some}
use Rattle.std.proofs.Common.{◌∙◌, sym, ap}
use Rattle.pool_tree.specs.Records.{record_of}
use Rattle.pool_tree.proofs.Changes.{removed_by}
use Rattle.pool_tree.proofs.links.remove_leaf.Goals as goal

pub returns-in-Some : goal.returns-in-Some
returns-in-Some g c =
    removed_by (record_of c.args.records.now) (record_of c.take.new.self) (record_of c.set_younger.new.self) (record_of c.set_older.new.self) (record_of c.set_newest.new.self)
    c.args.name c.in-Some.pool c.newest_child_of.result
    (sym c.in-Some.ensures.value) c.newest_child_of.ensures c.requires
    c.take.ensures.rest c.set_younger.ensures c.set_older.ensures c.set_newest.ensures

pub returns-in_default : goal.returns-in_default
returns-in_default g c =
    let gone = sym c.take.ensures.value ∙ c.in_default.is in
    let bad : false ≡ true = sym (ap is_some gone) ∙ c.requires.live in
    cc
