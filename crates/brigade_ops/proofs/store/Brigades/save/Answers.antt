use Rattle.std.proofs.Common.{◌≡◌, ℕ, ◌+◌, ◌++◌, Option, Some, is_some, List, [], length, filter_map, map, refl, sym, ap, subst, ◌∙◌}
use Rattle.std.specs.Prelude.{IfSome}
use Rattle.std.proofs.lemmas.Bool.{false≢true}
use Rattle.std.proofs.lemmas.Option.{same_Some}
use Rattle.std.proofs.lemmas.Result.{err_from_is_err_and}
use Rattle.run_model.specs.declared.payload.Payload.{Payload}
use Rattle.run_model.specs.Pools.{Pools}
use Rattle.run_model.specs.Steps.{new_ref}
use Rattle.pool_tree.specs.Tree.{map_of}
use Rattle.bucket_ring.specs.Lists.{on, list_at, found, times}
use Rattle.brigade_ops.specs.Files.{times_in}
use Rattle.bucket_store.specs.Items.{Item, Items, named, before_place, from_place, aside_item, aside_behind}
use Rattle.brigade_ops.specs.Files.{count_at}
use Rattle.brigade_ops.specs.Store.{lists, brigade_of, pool_of, next_name, references}
use Rattle.pool_tree.proofs.Trees.{tree_formed}
use Rattle.brigade_ops.specs.House.{AreHoused}
use Rattle.brigade_ops.proofs.Housed.{house_referred, on_some}
use Rattle.bucket_store.proofs.Lists.{list_off, on_after}
use Rattle.bucket_store.proofs.Walks.{if_some, told_some}
use Rattle.brigade_ops.proofs.Referred.{aside_same}
use Rattle.bucket_store.proofs.Saves.{none_other, found_append, joined, moved_aside}
use Rattle.bucket_store.specs.BucketStore.{seen}
use Rattle.bucket_store.proofs.BucketStores.{counted, found_in, in_found}
use Rattle.brigade_ops.proofs.store.Brigades.save.Goals as goal

pub put_all_aside-requires-clause-inside : goal.put_all_aside-requires-clause-inside
unfolding seen lists brigade_of
put_all_aside-requires-clause-inside g c =
    let s = c.args.self.now.held in
    let o = c.args.o in
    let b = c.args.b in
    let new = c.splice_tail.new.self in
    let whole : list_at (seen new) o ≡ list_at (seen s) o ++ list_at (seen s) b
    = joined o b (seen s) (seen new) c.requires.apart c.requires.onto c.splice_tail.ensures.out in
    if_some (λ id. g.R.Rings.ring_at new.rings.rings id ≡ Some o) c.start-first.result
    (λ id is.
    let inside = told_some (λ j. g.R.Rings.ring_at s.rings.rings j ≡ Some b) c.start-first.result c.start-first.ensures.inside id is in
    let none = none_other o b (times id (list_at (seen s) o)) (g.R.Rings.ring_at s.rings.rings id) c.requires.apart inside (counted s id o) in
    in_found new id o
    (ap (λ (zs : Items). is_some (found id zs)) whole ∙ found_append id (list_at (seen s) o) (list_at (seen s) b) none (found_in s id b inside)))

pub returns-clause-ok : goal.returns-clause-ok
unfolding seen lists brigade_of pool_of
returns-clause-ok g c p n at =
    let s = c.args.self.now.held in
    let o = c.args.o in
    let b = c.args.b in
    let pool = c.in-Some.pool in
    let ps = map_of c.args.tree.now in
    let first = c.start-first.result in
    let new = c.splice_tail.new.self in
    let others = on b (λ (xs : Items). []) (seen s) in
    let bs : Items = list_at (seen s) b in
    let same_pool : pool ≡ p = same_Some pool p (sym c.in-Some.is ∙ (c.get.ensures ∙ at)) in
    let paths : aside_item (map_of c.refer_all.new.tree) pool ≡ aside_item ps pool
    = ap (λ (qs : Pools Payload). aside_item qs pool) c.in_ok-refer_all.ensures.ok ∙ aside_same pool c.as_slice.result.now ps in
    let none : IfSome first (λ id. times id (list_at others o) ≡ 0)
    = if_some (λ id. times id (list_at others o) ≡ 0) first
    (λ id is.
    ap (λ (zs : Items). times id zs) (list_off o b (λ (xs : Items). []) (seen s) c.requires.apart)
    ∙ none_other o b (times id (list_at (seen s) o)) (g.R.Rings.ring_at s.rings.rings id) c.requires.apart
    (told_some (λ j. g.R.Rings.ring_at s.rings.rings j ≡ Some b) first c.start-first.ensures.inside id is) (counted s id o)) in
    c.put_all_aside.ensures.out n
    ∙ (ap (λ (f : Item → Item). on o (λ xs. before_place first xs ++ map f (from_place first xs)) (seen new) n) paths
    ∙ (on_after o n (λ xs. xs ++ bs) (aside_behind ps pool first) (λ xs. xs ++ map (aside_item ps pool) bs) others (seen new) c.splice_tail.ensures.out
    (moved_aside ps pool first (list_at others o) bs c.start-first.ensures.whole none)
    ∙ ap (λ (q : ℕ). on o (λ xs. xs ++ map (aside_item ps q) bs) others n) same_pool))

pub returns-clause-counted : goal.returns-clause-counted
unfolding lists pool_of references count_at
returns-clause-counted g c p f at =
    let pool = c.in-Some.pool in
    let ps = map_of c.args.tree.now in
    let same_pool : pool ≡ p = same_Some pool p (sym c.in-Some.is ∙ (c.get.ensures ∙ at)) in
    let start = count_at c.args.self.now.references f in
    let bs : Items = list_at (lists c.args.self.now) c.args.b in
    ap (λ (r : ℕ → ℕ). r f) c.put_all_aside.ensures.others.references
    ∙ (c.in_ok-refer_all.ensures.counted f
    ∙ (ap (λ (files : List ℕ). start + times_in f files) (c.as_slice.ensures ∙ c.in_ok-files.ensures.ok)
    ∙ ap (λ (q : ℕ). start + times_in f (filter_map (new_ref ps q) (named bs))) same_pool))

pub returns-clause-house : goal.returns-clause-house
unfolding seen lists pool_of references count_at
returns-clause-house g c house =
    let store = c.args.self.now in
    let after = c.put_all_aside.new.self in
    let o = c.args.o in
    let b = c.args.b in
    let pool = c.in-Some.pool in
    let ps = map_of c.args.tree.now in
    let s = seen store.held in
    let bs : Items = list_at s b in
    let moved = seen c.splice_tail.new.self in
    let joined : ((n : ℕ) → moved n ≡ on o (λ xs. xs ++ bs) (on b (λ xs. []) s) n) = c.splice_tail.ensures.out in
    subst (AreHoused (lists after) (pool_of after) (references after)) (sym c.in_ok-refer_all.ensures.ok)
    (house_referred (lists store) (pool_of store) (references store) ps house (lists after) (pool_of after) (references after) pool c.as_slice.result.now (tree_formed c.args.tree.now)
    (c.requires.live pool (sym c.get.ensures ∙ c.in-Some.is))
    (λ n p at some.
    ap is_some (c.put_all_aside.ensures.out n)
    ∙ (on_some o n _ moved
    ∙ (ap is_some (joined n) ∙ (on_some o n (λ xs. xs ++ bs) (on b (λ xs. []) s) ∙ (on_some b n (λ xs. []) s ∙ some)))))
    (λ n. ap (λ (f : ℕ → Option ℕ). f n) c.put_all_aside.ensures.others.pools)
    (λ f. ap (λ (h : ℕ → ℕ). h f) c.put_all_aside.ensures.others.references ∙ c.in_ok-refer_all.ensures.counted f))

-- no file is to be referred to, whatever the pool is called
none_for : (ps : Pools Payload) (bs : Items) (pool p : ℕ) → pool ≡ p → filter_map (new_ref ps p) (named bs) ≡ [] → filter_map (new_ref ps pool) (named bs) ≡ []
none_for ps bs pool p same none = ap (λ (q : ℕ). filter_map (new_ref ps q) (named bs)) same ∙ none

pub returns-in_err-files : goal.returns-in_err-files
unfolding seen lists brigade_of pool_of next_name references
returns-in_err-files g c =
    let gone = err_from_is_err_and c.from_residual.result c.from_residual.ensures.1 in
    let bs : Items = list_at (lists c.args.self.now) c.args.b in
    rw gone.1 (record {
      sure = λ p at none.
          absurd (false≢true (c.in_err-files.ensures.sure
          (none_for (map_of c.args.tree.now) bs c.in-Some.pool p (same_Some _ p (sym c.in-Some.is ∙ (c.get.ensures ∙ at))) none)));
      ok = tt;
      names = λ id there young. there;
      registered = tt;
      err = λ n. refl;
      counted = tt;
      uncounted = λ f. refl;
      next = refl;
      house = λ house. house;
      pools = refl;
      formed = tree_formed c.args.tree.now;
      kept = refl;
      unasked = refl;
      tree_unasked = refl;
    })

pub returns-in_err-refer_all : goal.returns-in_err-refer_all
unfolding seen lists brigade_of pool_of next_name references count_at
returns-in_err-refer_all g c =
    let gone = err_from_is_err_and c.from_residual-in_err-refer_all.result c.from_residual-in_err-refer_all.ensures.1 in
    let bs : Items = list_at (lists c.args.self.now) c.args.b in
    rw (gone.1, c.in_err-refer_all.ensures.kept) (record {
      ok = tt;
      registered = tt;
      counted = tt;
      next = refl;
      err = λ n. refl;
      names = λ id there young. there;
      pools = refl;
      formed = tree_formed c.args.tree.now;
      sure = λ p at none.
          let same = none_for (map_of c.args.tree.now) bs c.in-Some.pool p (same_Some _ p (sym c.in-Some.is ∙ (c.get.ensures ∙ at))) none in
          absurd (false≢true (c.in_err-refer_all.ensures.sure (c.as_slice.ensures ∙ (c.in_ok-files.ensures.ok ∙ same))));
      kept = refl;
      uncounted = c.in_err-refer_all.ensures.uncounted;
      house = λ house. record { held = house.held; there = house.there; referred = λ f. c.in_err-refer_all.ensures.uncounted f ∙ house.referred f };
      unasked = refl;
      tree_unasked = c.refer_all.ensures.tree_unasked;
    })
