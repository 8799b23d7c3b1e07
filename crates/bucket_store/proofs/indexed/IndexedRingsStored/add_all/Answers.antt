use Rattle.std.proofs.Common.{◌≡◌, ◌≤◌, ◌++◌, sym, ap, ◌∙◌, arith}
use Rattle.std.proofs.lemmas.Result.{err_from_is_err_and}
use Rattle.bucket_ring.specs.declared.names.BucketId.{BucketId}
use Rattle.bucket_ring.specs.Lists.{list_at, times, found}
use Rattle.bucket_store.specs.Dependents.{noted}
use Rattle.bucket_store.specs.Items.{StoredItems}
use Rattle.bucket_store.specs.Noted.{is_noted}
use Rattle.bucket_store.proofs.Lists.{list_on}
use Rattle.bucket_store.proofs.Noted.{fresh_noted, still_there}
use Rattle.bucket_store.proofs.Tested.{noted_since, joined_in}
use Rattle.bucket_store.proofs.Walks.{once_listed}
use Rattle.bucket_store.proofs.indexed.IndexedRingsStored.add_all.Goals as goal

pub invariant_of-self-2-clause-indexed : goal.invariant_of-self-2-clause-indexed
invariant_of-self-2-clause-indexed g c =
    let s = c.args.self.now in
    let ring = c.args.ring in
    let old = g.R.Rings.lists s.rings in
    let rings = c.add_all.new.self in
    let new = g.R.Rings.lists rings in
    let ok = c.in_ok-add_all.ensures.ok in
    let bs : StoredItems = ok.0 in
    let whole : list_at new ring ≡ list_at old ring ++ bs = list_on ring (λ xs. xs ++ bs) old new ok.2 c.requires in
    let once : ((i : BucketId) → times i (list_at old ring ++ bs) ≤ 1) =
    λ i. once_listed ring (g.R.Rings.ring_at rings i) (times i (list_at old ring ++ bs)) (ap (times i) (sym whole) ∙ g.met.R.Rings.counted rings i ring) in
    joined_in (noted_since s c.make_room_for_all.new.dependents c.note_ring.new.dependents (c.in_ok-make_room_for_all.ensures old s.indexed) c.note_ring.ensures.kept)
    rings ring bs
    (fresh_noted (is_noted (noted c.note_ring.new.dependents)) (g.R.Rings.next_name s.rings) (list_at old ring) bs c.args.given.items ok.1 once
    (λ id x there le. c.note_ring.ensures.here id x (ap (found id) whole ∙ there) (omega (arith, le, c.next_name-before.ensures))))
    ok.2

pub note_ring-requires : goal.note_ring-requires
note_ring-requires g c =
    let ok = c.in_ok-add_all.ensures.ok in
    still_there c.args.ring (λ xs. xs ++ ok.0) (g.R.Rings.lists c.args.self.now.rings) (g.R.Rings.lists c.add_all.new.self) ok.2 c.requires

pub invariant_of-self-2-clause-kept : goal.invariant_of-self-2-clause-kept
invariant_of-self-2-clause-kept g c = g.met.R.Rings.kept c.add_all.new.self

pub returns-in_err-add_all : goal.returns-in_err-add_all
returns-in_err-add_all g c =
    let p = err_from_is_err_and c.from_residual-in_err-add_all.result c.from_residual-in_err-add_all.ensures.1 in
    rw (p.1, p.2) c.in_err-add_all.ensures

pub returns : goal.returns
returns g c = c.in_ok-add_all.ensures
