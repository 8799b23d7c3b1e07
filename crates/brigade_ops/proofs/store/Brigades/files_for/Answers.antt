use Rattle.std.proofs.Common.{◌≡◌, ℕ, ◌++◌, Bool, Option, None, Some, List, [], drop, refl, sym, ap, ◌∙◌, filter_map}
use Rattle.std.specs.List.{cons_option}
use Rattle.run_model.specs.declared.bucket.Bucket.{Bucket}
use Rattle.run_model.specs.Steps.{new_ref, is_above}
use Rattle.pool_tree.specs.Tree.{map_of}
use Rattle.bucket_ring.specs.Lists.{list_at, rest, found}
use Rattle.bucket_store.specs.Items.{Items, named, from_place, file_for}
use Rattle.brigade_ops.specs.Store.{lists, brigade_of}
use Rattle.bucket_store.proofs.Walks.{told_some, fewer_behind}
use Rattle.bucket_store.proofs.Saves.{found_some, files_step, none_put}
use Rattle.brigade_ops.proofs.Stores.{found_in, found_bucket}
use Rattle.brigade_ops.proofs.store.Brigades.files_for.Goals as goal
use Rattle.brigade_ops.proofs.store.Brigades.files_for.Goals.{After-file_for-file}

-- the bucket at hand, and what was told of its file
told : (g : _) (c : After-file_for-file g) → (x : Bucket)
    × (found c.in-Some.id (list_at (lists c.args.self.now) c.args.b) ≡ Some x)
    × (c.file_for-file.result ≡ (file_for (map_of c.args.tree.now) c.args.pool x, is_above (map_of c.args.tree.now) c.args.pool x.home))
told g c =
    let store = c.args.self.now in
    let id = c.in-Some.id in
    let inside = c.loop-place.invariant.inside id c.in-Some.is in
    let x = found_some id (list_at (lists store) c.args.b) (found_in store id c.args.b inside) in
    (x.0, x.1, c.file_for-file.ensures x.0 (found_bucket store id c.args.b x.0 inside x.1))

pub loop-place-smaller : goal.loop-place-smaller
loop-place-smaller g c =
    let id = c.in-Some.id in
    let b = c.args.b in
    let x = told g (goal.at.loop-place-smaller g c).After-file_for-file in
    fewer_behind id c.loop-place.place c.behind-place.result (list_at (lists c.args.self.now) b) x.0 x.1 c.in-Some.is
    (c.behind-place.ensures.others b (c.loop-place.invariant.inside id c.in-Some.is))

pub loop-place-preserved : goal.loop-place-preserved
loop-place-preserved g c =
    let b = c.args.b in
    let id = c.in-Some.id in
    let ps = map_of c.args.tree.now in
    let pool = c.args.pool in
    let xs : Items = list_at (lists c.args.self.now) b in
    let inside = c.loop-place.invariant.inside id c.in-Some.is in
    let x = told g (goal.at.loop-place-preserved g c).After-file_for-file in
    record {
      all =
          ap (λ (zs : List ℕ). zs ++ filter_map (new_ref ps pool) (named (from_place c.behind-place.result xs)))
          (c.in_ok-push_some.ensures.ok ∙ ap (λ (p : Option ℕ × Bool). c.loop-place.files ++ cons_option p.0 []) x.2)
          ∙ (files_step ps pool id x.0 xs (from_place c.behind-place.result xs) c.loop-place.files x.1 (c.behind-place.ensures.others b inside)
          ∙ (ap (λ place. c.loop-place.files ++ filter_map (new_ref ps pool) (named (from_place place xs))) (sym c.in-Some.is) ∙ c.loop-place.invariant.all));
      inside = told_some (λ j. brigade_of c.args.self.now j ≡ Some b) c.behind-place.result (c.behind-place.ensures.inside b inside);
    }

pub returns-in_err-push_some-clause-sure : goal.returns-in_err-push_some-clause-sure
returns-in_err-push_some-clause-sure g c none =
    let id = c.in-Some.id in
    let ps = map_of c.args.tree.now in
    let pool = c.args.pool in
    let xs : Items = list_at (lists c.args.self.now) c.args.b in
    let x = told g (goal.at.returns-in_err-push_some-clause-sure g c).After-file_for-file in
    let asked : file_for ps pool x.0 ≡ None = none_put c.loop-place.files (file_for ps pool x.0) (filter_map (new_ref ps pool) (named (drop 1 (rest id xs))))
    (files_step ps pool id x.0 xs (drop 1 (rest id xs)) c.loop-place.files x.1 refl
    ∙ (ap (λ place. c.loop-place.files ++ filter_map (new_ref ps pool) (named (from_place place xs))) (sym c.in-Some.is) ∙ (c.loop-place.invariant.all ∙ none))) in
    let sure = c.in_err-push_some.ensures.sure (ap (λ (p : Option ℕ × Bool). p.0) x.2 ∙ asked) in
    absurd (cc sure)
