use Rattle.std.proofs.Common.{◌≡◌, ℕ, ◌<◌, Option, None, Some, is_some, drop, length, refl, sym, ap, subst, ◌∙◌}
use Rattle.bucket_ring.specs.declared.names.BucketId.{BucketId}
use Rattle.run_model.specs.Cutting.{set_aside}
use Rattle.run_model.specs.Steps.{is_above}
use Rattle.pool_tree.specs.Tree.{map_of}
use Rattle.brigade_ops.proofs.OnlyLists.{only_twice}
use Rattle.bucket_ring.specs.Lists.{on, list_at, found, rest, with_payload}
use Rattle.bucket_store.specs.Views.{bucket_of}
use Rattle.bucket_store.specs.Items.{Items, from_place, aside_behind}
use Rattle.brigade_ops.specs.Store.{lists, brigade_of, bucket_at}
use Rattle.bucket_store.proofs.Lists.{and_then_told, found_set, list_on, on_after, on_same}
use Rattle.bucket_store.proofs.Walks.{told_some}
use Rattle.bucket_store.proofs.Saves.{aside_step, fewer_left, none_left}
use Rattle.bucket_store.specs.BucketStore.{seen}
use Rattle.bucket_store.proofs.BucketStores.{found_in, in_found, ring_there}
use Rattle.brigade_ops.proofs.store.Brigades.put_all_aside.Goals as goal
use Rattle.brigade_ops.proofs.store.Brigades.put_all_aside.Goals.{After-put_aside}

inside : (g : _) (c : After-put_aside g) → g.R.Rings.ring_at c.loop-place.self.held.rings.rings c.in-Some.id ≡ Some c.args.b
unfolding brigade_of
inside g c = c.loop-place.invariant.inside c.in-Some.id c.in-Some.is

here : (g : _) (c : After-put_aside g) → found c.in-Some.id (list_at (seen c.loop-place.self.held) c.args.b) ≡ Some (bucket_of c.payload.result)
unfolding bucket_at
here g c =
    let s = c.loop-place.self.held in
    and_then_told (g.R.Rings.ring_at s.rings.rings c.in-Some.id) (λ q. found c.in-Some.id (list_at (seen s) q)) c.args.b (bucket_of c.payload.result) (inside g c) c.payload.ensures

change : (g : _) (c : After-put_aside g) (n : ℕ)
    → seen c.put_aside.new.self.held n ≡ on c.args.b (with_payload c.in-Some.id
    (set_aside c.args.pool (is_above (map_of c.args.tree.now) c.args.pool (bucket_of c.payload.result).home) (bucket_of c.payload.result))) (seen c.loop-place.self.held) n
unfolding lists brigade_of
change g c n =
    c.put_aside.ensures.out c.args.b n (bucket_of c.payload.result) (inside g c) c.payload.ensures
    ∙ ap (λ above. on c.args.b (with_payload c.in-Some.id (set_aside c.args.pool above (bucket_of c.payload.result))) (seen c.loop-place.self.held) n) c.is_above-above.ensures

list : (g : _) (c : After-put_aside g)
    → list_at (seen c.put_aside.new.self.held) c.args.b
    ≡ with_payload c.in-Some.id (set_aside c.args.pool (is_above (map_of c.args.tree.now) c.args.pool (bucket_of c.payload.result).home) (bucket_of c.payload.result))
    (list_at (seen c.loop-place.self.held) c.args.b)
list g c =
    let s = c.loop-place.self.held in
    list_on c.args.b (with_payload c.in-Some.id _) (seen s) (seen c.put_aside.new.self.held) (change g c) (ring_there s c.in-Some.id c.args.b (inside g c))

still : (g : _) (c : After-put_aside g) → g.R.Rings.ring_at c.put_aside.new.self.held.rings.rings c.in-Some.id ≡ Some c.args.b
still g c =
    let s = c.loop-place.self.held in
    let id = c.in-Some.id in
    in_found c.put_aside.new.self.held id c.args.b
    (ap (λ (ys : Items). is_some (found id ys)) (list g c) ∙ found_set id _ (list_at (seen s) c.args.b) (found_in s id c.args.b (inside g c)))

pub behind-place-requires : goal.behind-place-requires
unfolding brigade_of
behind-place-requires g c = ap is_some (still g c)

pub loop-place-smaller : goal.loop-place-smaller
unfolding lists brigade_of
loop-place-smaller g c =
    let d = (goal.at.loop-place-smaller g c).After-put_aside in
    let id = c.in-Some.id in
    let x = (bucket_of c.payload.result) in
    let ps = map_of c.args.tree.now in
    let xs : Items = list_at (seen c.loop-place.self.held) c.args.b in
    let place = c.behind-place.result in
    let others = c.behind-place.ensures.others c.args.b (still g d) in
    let ys = with_payload id (set_aside c.args.pool (is_above ps c.args.pool x.home) x) xs in
    let told : from_place place ys ≡ drop 1 (rest id ys) = subst (λ (zs : Items). from_place place zs ≡ drop 1 (rest id zs)) (list g d) others in
    let less : length (from_place place ys) < length (rest id xs) = fewer_left ps c.args.pool id place x xs (here g d) told in
    subst (λ (k : ℕ). k < length (from_place c.loop-place.place xs)) (ap (λ (zs : Items). length (from_place place zs)) (sym (list g d)))
    (subst (λ (p : Option BucketId). length (from_place place ys) < length (from_place p xs)) (sym c.in-Some.is) less)

pub loop-place-preserved : goal.loop-place-preserved
unfolding lists brigade_of
loop-place-preserved g c =
    let d = (goal.at.loop-place-preserved g c).After-put_aside in
    let s = c.loop-place.self.held in
    let id = c.in-Some.id in
    let x = (bucket_of c.payload.result) in
    let ps = map_of c.args.tree.now in
    let pool = c.args.pool in
    let b = c.args.b in
    let xs : Items = list_at (seen s) b in
    let place = c.behind-place.result in
    let ys = with_payload id (set_aside pool (is_above ps pool x.home) x) xs in
    let told : from_place place ys ≡ drop 1 (rest id ys) = subst (λ (zs : Items). from_place place zs ≡ drop 1 (rest id zs)) (list g d) (c.behind-place.ensures.others b (still g d)) in
    record {
      out = λ n. on_after b n (with_payload id (set_aside pool (is_above ps pool x.home) x)) (aside_behind ps pool place) (aside_behind ps pool (Some id)) (seen s) (seen c.put_aside.new.self.held)
          (change g d) (aside_step ps pool id place x xs (here g d) told)
          ∙ (ap (λ (p : Option BucketId). on b (aside_behind ps pool p) (seen s) n) (sym c.in-Some.is) ∙ c.loop-place.invariant.out n);
      inside = told_some (λ j. g.R.Rings.ring_at c.put_aside.new.self.held.rings.rings j ≡ Some b) place (c.behind-place.ensures.inside b (still g d));
      others = only_twice c.loop-place.invariant.others c.put_aside.ensures.others;
    }

pub returns-clause-out : goal.returns-clause-out
unfolding lists
returns-clause-out g c n = out c.loop-place.place c.in_default.not-Some (c.loop-place.invariant.out n) where
  out : (p : Option BucketId) → ((id : BucketId) → p ≡ Some id → ⊥)
      → on c.args.b (aside_behind (map_of c.args.tree.now) c.args.pool p) (seen c.loop-place.self.held) n ≡ on c.args.b (aside_behind (map_of c.args.tree.now) c.args.pool c.args.from)
      (seen c.args.self.now.held) n
      → seen c.loop-place.self.held n ≡ on c.args.b (aside_behind (map_of c.args.tree.now) c.args.pool c.args.from) (seen c.args.self.now.held) n
  out None never told =
      on_same c.args.b n (aside_behind (map_of c.args.tree.now) c.args.pool None) (seen c.loop-place.self.held)
      (none_left (map_of c.args.tree.now) c.args.pool (list_at (seen c.loop-place.self.held) c.args.b)) ∙ told
  out (Some id) never told = absurd (never id refl)
