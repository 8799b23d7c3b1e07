use Rattle.std.proofs.Common.{◌≡◌, ◌+◌, ℕ, Option, Some, is_some, true, false, [], sym, ap, ◌∙◌, arith, rules}
use Rattle.std.proofs.lemmas.Result.{err_from_is_err_and}
use Rattle.std.specs.List.{list_any}
use Rattle.std.specs.Option.{option_map_or}
use Rattle.bucket_ring.specs.Lists.{upd, list_at, times, found}
use Rattle.bucket_store.specs.Dependents.{noted}
use Rattle.bucket_store.specs.Items.{StoredItems}
use Rattle.bucket_store.specs.Noted.{held_under, is_noted}
use Rattle.bucket_store.proofs.Noted.{listed_by_found, list_now}
use Rattle.bucket_store.proofs.Placing.{all_free}
use Rattle.bucket_store.proofs.Tested.{noted_since, paired}
use Rattle.bucket_store.proofs.Walks.{once_listed}
use Rattle.bucket_store.proofs.indexed.IndexedRingsStored.new_pair.Goals as goal

pub invariant_of-self-then-depend-clause-indexed : goal.invariant_of-self-then-depend-clause-indexed
invariant_of-self-then-depend-clause-indexed g c =
    let s = c.args.self.now in
    let old = g.R.Rings.lists s.rings in
    let rings = c.new_pair.new.self in
    let new = g.R.Rings.lists rings in
    let ok = c.in_ok-first.ensures.ok in
    let bs : StoredItems = ok.0 in
    let first = g.R.Rings.next_name s.rings in
    let second : c.in_ok-first.second ≡ first + 1 = ap (λ (pair : ℕ × ℕ). pair.1) c.in_ok-first.ensures.name in
    let list_is : (o : Option StoredItems) → o ≡ Some bs
    → option_map_or (λ (xs : StoredItems). xs) o [] ≡ bs = λ o e. ap (λ (q : Option StoredItems). option_map_or (λ (xs : StoredItems). xs) q []) e in
    let whole : list_at new c.in_ok-first.second ≡ bs = list_is (new c.in_ok-first.second) (ap new second ∙ (ok.2 (first + 1) ∙ list_now (upd old first (Some [])) (first + 1) (Some bs))) in
    paired (noted_since s c.make_room_for_all.new.dependents c.note_ring.new.dependents (c.in_ok-make_room_for_all.ensures old s.indexed) c.note_ring.ensures.kept)
    rings first (first + 1) bs
    (listed_by_found (is_noted (noted c.note_ring.new.dependents)) bs
    (λ i. once_listed c.in_ok-first.second (g.R.Rings.ring_at rings i) (times i bs) (ap (times i) (sym whole) ∙ g.met.R.Rings.counted rings i c.in_ok-first.second))
    (λ id x there. c.note_ring.ensures.here id x (ap (found id) whole ∙ there) (omega arith)))
    ok.2

pub invariant_of-self-else-depend-clause-indexed : goal.invariant_of-self-else-depend-clause-indexed
invariant_of-self-else-depend-clause-indexed g c =
    let s = c.args.self.now in
    let deps = c.make_room_for_all.new.dependents in
    let ok = c.in_ok-first.ensures.ok in
    let first = g.R.Rings.next_name s.rings in
    let none : list_any (held_under (λ p. true)) c.args.given.items ≡ false = search rules in
    paired (noted_since s deps deps (c.in_ok-make_room_for_all.ensures (g.R.Rings.lists s.rings) s.indexed) (λ p id e. e)) c.new_pair.new.self first (first + 1) ok.0
    (all_free (noted deps) (first + 2) ok.0 c.args.given.items ok.1 none) ok.2

pub note_ring-requires : goal.note_ring-requires
note_ring-requires g c =
    let first = g.R.Rings.next_name c.args.self.now.rings in
    let second : c.in_ok-first.second ≡ first + 1 = ap (λ (pair : ℕ × ℕ). pair.1) c.in_ok-first.ensures.name in
    let ok = c.in_ok-first.ensures.ok in
    ap is_some (ap (g.R.Rings.lists c.new_pair.new.self) second ∙ (ok.2 (first + 1) ∙ list_now (upd (g.R.Rings.lists c.args.self.now.rings) first (Some [])) (first + 1) (Some ok.0)))

pub invariant_of-self : goal.invariant_of-self
invariant_of-self g c =
    let s = c.args.self.now in
    record { kept = s.kept; indexed = c.in_err-make_room_for_all.ensures (g.R.Rings.lists s.rings) s.indexed }

pub invariant_of-self-then-depend-clause-kept : goal.invariant_of-self-then-depend-clause-kept
invariant_of-self-then-depend-clause-kept g c = g.met.R.Rings.kept c.new_pair.new.self

pub invariant_of-self-else-depend-clause-kept : goal.invariant_of-self-else-depend-clause-kept
invariant_of-self-else-depend-clause-kept g c = g.met.R.Rings.kept c.new_pair.new.self

pub returns-in_err-first : goal.returns-in_err-first
returns-in_err-first g c =
    let p = err_from_is_err_and c.from_residual-in_err-first.result c.from_residual-in_err-first.ensures.1 in
    rw (p.1, p.2) c.in_err-first.ensures

pub returns-then-depend : goal.returns-then-depend
returns-then-depend g c = c.in_ok-first.ensures

pub returns-else-depend : goal.returns-else-depend
returns-else-depend g c = c.in_ok-first.ensures
