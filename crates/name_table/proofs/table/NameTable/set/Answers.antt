-- Where the value lies, near or in the map.
use Rattle.std.proofs.Common.{◌≡◌, ℕ, None, Some, nat_eq, ap, sym, ◌∙◌, rules}
use Rattle.std.specs.HashMap.{get}
use Rattle.std.specs.Option.{option_map}
use Rattle.name_table.specs.NameTable.{near_in, or_far, value_in, upd}
use Rattle.name_table.proofs.Tables.{rewritten, same_written, both_changed}
use Rattle.name_table.proofs.table.NameTable.set.Goals as goal

pub returns-then-is_some : goal.returns-then-is_some
unfolding value_in
returns-then-is_some g c = λ n.
    let near = c.args.self.now.near.items in
    let far = get nat_eq c.args.self.now.far in
    rw c.place_of.ensures (rewritten near far c.args.name c.args.value c.near.result (sym c.near.ensures) (sym c.is_some.ensures ∙ c.if-is_some.true) n)

pub returns-in-Some : goal.returns-in-Some
unfolding value_in upd
returns-in-Some g c = λ n.
    let s = c.args.self.now in
    let near = s.near.items in
    let far = get nat_eq s.far in
    let q = c.args.name in
    let v = c.args.value in
    let far2 = get nat_eq (c.get_mut.follows.lender v) in
    let none : near_in near q ≡ None = search rules in
    let was : far q ≡ Some c.in-Some.place.now = search rules in
    let is : (k : ℕ) → far2 k ≡ upd far q (Some v) k = search rules in
    both_changed (near_in near) (near_in near) far far2 q None (Some v) (same_written (near_in near) q None none) is n
    ∙ ap (λ o. upd (value_in s) q o n)
    (sym (ap (λ o. option_map (λ w. v) (or_far o (far q))) none ∙ ap (option_map (λ w. v)) was))

pub returns-in_default : goal.returns-in_default
unfolding value_in upd
returns-in_default g c = λ n.
    let s = c.args.self.now in
    let far = get nat_eq s.far in
    let q = c.args.name in
    let v = c.args.value in
    let far2 = get nat_eq c.get_mut.follows.lender-at-none in
    let none : near_in s.near.items q ≡ None = search rules in
    let was : far q ≡ None = search rules in
    let same : (k : ℕ) → far2 k ≡ far k = search rules in
    ap (or_far (near_in s.near.items n)) (same n)
    ∙ same_written (value_in s) q (option_map (λ w. v) (value_in s q))
    (let no : value_in s q ≡ None = ap (λ o. or_far o (far q)) none ∙ was in no ∙ sym (ap (option_map (λ w. v)) no)) n
