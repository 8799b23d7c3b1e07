-- From the map, and from its place where it lies there.
use Rattle.std.proofs.Common.{◌%◌, None, slice_set, nat_eq, sym, ◌∙◌, rules}
use Rattle.std.specs.HashMap.{get}
use Rattle.name_table.specs.NameTable.{near_in, value_in, upd}
use Rattle.name_table.proofs.Tables.{emptied, same_written, both_changed}
use Rattle.name_table.proofs.table.NameTable.remove.Goals as goal

pub returns-then-is_some : goal.returns-then-is_some
unfolding value_in upd
returns-then-is_some g c =
    let near = c.args.self.now.near.items in
    let q = c.args.name in
    rw c.place_of.ensures
    (both_changed (near_in near) (near_in (slice_set near (q % 64) None)) (get nat_eq c.args.self.now.far) (get nat_eq c.remove.new.self) q None None
    (emptied near q c.near.result (sym c.near.ensures) (sym c.is_some.ensures ∙ c.if-is_some.true)) (search rules))

pub returns-else-is_some : goal.returns-else-is_some
unfolding value_in upd
returns-else-is_some g c =
    let near = near_in c.args.self.now.near.items in
    both_changed near near (get nat_eq c.args.self.now.far) (get nat_eq c.remove.new.self) c.args.name None None (same_written near c.args.name None (search rules)) (search rules)
