use Rattle.std.proofs.Common.{◌≡◌, ◌++◌, is_some, Some, Option, refl, sym, ap, ◌∙◌}
use Rattle.bucket_ring.specs.declared.names.BucketId.{BucketId}
use Rattle.bucket_ring.specs.Lists.{on, list_at, front, rest, times, payload_of}
use Rattle.bucket_ring.specs.Kept.{once_in}
use Rattle.bucket_ring.specs.Laws.{once_elsewhere}
use Rattle.bucket_store.specs.Items.{Items, before_place, from_place}
use Rattle.brigade_ops.specs.Store.{lists, brigade_of}
use Rattle.bucket_store.proofs.Lists.{none_place, list_on, list_off, there_off, on_after, rest_append, rest_again}
use Rattle.bucket_store.proofs.Walks.{told_some}
use Rattle.bucket_store.specs.BucketStore.{seen}
use Rattle.bucket_store.proofs.BucketStores.{counted, found_in, in_found}
use Rattle.brigade_ops.proofs.store.Brigades.split_at.Goals as goal
use Rattle.brigade_ops.proofs.store.Brigades.split_at.Goals.{After-splice_from}

pub returns-in_default-clause-out : goal.returns-in_default-clause-out
unfolding lists
returns-in_default-clause-out g c n =
    c.drop_all.ensures.out n
    ∙ none_place c.args.a c.args.b n (seen c.args.self.now.held) before_place from_place c.args.place c.in_default.not-Some (λ xs. refl) (λ xs. refl)

inside : (g : _) (c : After-splice_from g) → g.R.Rings.ring_at c.args.self.now.held.rings.rings c.in-Some.id ≡ Some c.args.b
unfolding brigade_of
inside g c = told_some (λ (j : BucketId). g.R.Rings.ring_at c.args.self.now.held.rings.rings j ≡ Some c.args.b) c.args.place c.requires.inside c.in-Some.id
    c.in-Some.is

-- what was moved behind the buckets of `a` begins with the bucket at the place
moved : (g : _) (c : After-splice_from g) → let L = seen c.args.self.now.held in
    rest c.in-Some.id (list_at (on c.args.b (front c.in-Some.id) L) c.args.a ++ rest c.in-Some.id (list_at L c.args.b)) ≡ rest c.in-Some.id (list_at L c.args.b)
moved g c =
    let s = c.args.self.now.held in
    let id = c.in-Some.id in
    let a = c.args.a in
    let b = c.args.b in
    let L = seen s in
    let none : times id (list_at L a) ≡ 0 = counted s id a ∙ (ap (once_in a) (inside g c) ∙ once_elsewhere a b (λ e. c.requires.apart (sym e))) in
    ap (λ ys. rest id (ys ++ rest id (list_at L b))) (list_off a b (front id) L c.requires.apart)
    ∙ (rest_append id (list_at L a) (rest id (list_at L b)) none ∙ rest_again id (list_at L b))

pub drop_before-requires : goal.drop_before-requires
unfolding lists brigade_of
drop_before-requires g c =
    let d = (goal.at.drop_before-requires g c).After-splice_from in
    let s = c.args.self.now.held in
    let new = c.splice_from.new.self in
    let id = c.in-Some.id in
    let a = c.args.a in
    let b = c.args.b in
    let L = seen s in
    let list : list_at (seen new) a ≡ list_at (on b (front id) L) a ++ rest id (list_at L b) =
    list_on a (λ bs. bs ++ rest id (list_at L b)) (on b (front id) L) (seen new) (λ k. c.splice_from.ensures.out b k (inside g d))
    (ap is_some (there_off a b (front id) L c.requires.apart) ∙ c.requires.into) in
    in_found new id a (ap (λ ys. is_some (payload_of ys)) (ap (rest id) list ∙ moved g d) ∙ found_in s id b (inside g d))

pub returns-clause-out : goal.returns-clause-out
unfolding lists brigade_of
returns-clause-out g c n =
    let d = (goal.at.returns-clause-out g c).After-splice_from in
    let id = c.in-Some.id in
    let a = c.args.a in
    let b = c.args.b in
    let L = seen c.args.self.now.held in
    c.drop_before.ensures.out n
    ∙ (on_after a n (λ bs. bs ++ rest id (list_at L b)) (rest id) (λ xs. rest id (list_at L b)) (on b (front id) L) (seen c.splice_from.new.self)
    (λ k. c.splice_from.ensures.out b k (inside g d)) (moved g d)
    ∙ ap (λ (p : Option BucketId). on a (λ (xs : Items). from_place p (list_at L b)) (on b (before_place p) L) n) (sym c.in-Some.is))
