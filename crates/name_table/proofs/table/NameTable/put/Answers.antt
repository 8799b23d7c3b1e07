-- At its place, where that is free, or in the map.
use Rattle.std.proofs.Common.{◌≡◌, ◌%◌, ℕ, None, Some, slice_index_or, slice_set, nat_eq, refl, ap, ◌∙◌, rules}
use Rattle.std.specs.HashMap.{get}
use Rattle.name_table.specs.NameTable.{near_in, value_in, upd}
use Rattle.name_table.proofs.Tables.{OfNone, of_named, own_named, placed, same_written, both_changed}
use Rattle.name_table.proofs.table.NameTable.put.Goals as goal

pub returns-then-has_place-clause-values : goal.returns-then-has_place-clause-values
unfolding value_in
returns-then-has_place-clause-values g c =
    let near = c.args.self.now.near.items in
    let far = get nat_eq c.args.self.now.far in
    let q = c.args.name in
    let v = c.args.value in
    let free : OfNone q (slice_index_or near (q % 64) None) = c.has_place.ensures.free c.if-has_place.true in
    rw c.place_of.ensures (both_changed (near_in near) (near_in (slice_set near (q % 64) (Some (record { name = q; value = v })))) far far q (Some v) (far q)
    (λ n. placed near q (Some (record { name = q; value = v })) (c.has_place.ensures.there c.if-has_place.true) free (of_named q v) n ∙ ap (λ o. upd (near_in near) q o n) (own_named q v))
    (same_written far q (far q) refl))

pub returns-clause-values : goal.returns-clause-values
unfolding value_in upd
returns-clause-values g c =
    let near = c.args.self.now.near.items in
    let far = get nat_eq c.args.self.now.far in
    let q = c.args.name in
    let v = c.args.value in
    let put : (n : ℕ) → get nat_eq c.insert.new.self n ≡ upd far q (Some v) n = search rules in
    both_changed (near_in near) (near_in near) far (get nat_eq c.insert.new.self) q None (Some v)
    (same_written (near_in near) q None (c.has_place.ensures.taken c.if-has_place.false)) put
