-- The bucket is set aside in the list that it is in.
use Rattle.std.proofs.Common.{ℕ, Option, Some, sym, ap, subst, ◌∙◌, inl, inr}
use Rattle.std.specs.Option.{option_to_list}
use Rattle.bucket_kinds.specs.Reading.{IsOpenFor}
use Rattle.bucket_ring.specs.Lists.{list_at, with_payload}
use Rattle.run_model.specs.Cursors.{at_cursor}
use Rattle.run_model.specs.declared.bucket.NamedBucket.{NamedBucket}
use Rattle.run_model.specs.Steps.{takes_reference}
use Rattle.bucket_store.specs.Items.{named_item}
use Rattle.interp_state.specs.Seen.{seen_over, calls_in, item_in}
use Rattle.interp_state.proofs.Quiet.{one_referred}
use Rattle.interp_exec.proofs.SetAside.{ref_shown}
use Rattle.run_model.specs.Cutting.{set_aside}
use Rattle.run_model.specs.Effects.{is_above}
use Rattle.pool_tree.specs.Tree.{map_of}
use Rattle.brigade_ops.specs.Store.{lists, brigade_of, pool_of, next_name, references}
use Rattle.bucket_store.proofs.Saves.{found_some}
use Rattle.brigade_ops.proofs.Stores.{kept, found_in, found_bucket}
use Rattle.interp_state.proofs.LeftAlone.{rest_on, rest_same}
use Rattle.interp_state.proofs.OpenFiles.{refs_one, refs_same}
use Rattle.interp_state.proofs.Standing.{bucket_set, bucket_at, bucket_here, bucket_live, content_of_bucket}
use Rattle.interp_state.proofs.Names.{held_kept, no_less, still_same, still_on, by_result}
use Rattle.interp_exec.proofs.Saved.{aside_within, aside_loose}
use Rattle.interp_exec.proofs.Trees.{over_pools, on_both, on_both_err, seen_kept}
use Rattle.interp_exec.proofs.aside_steps.aside.Goals as goal

pub bucket-requires-clause-at : goal.bucket-requires-clause-at
bucket-requires-clause-at g c = bucket_set c.args.store.now c.args.instance.now c.args.call.now c.args.c c.requires.held c.requires.stands

pub aside-requires-clause-there : goal.aside-requires-clause-there
aside-requires-clause-there g c = bucket_live c.args.store.now c.args.instance.now c.args.call.now c.args.c c.requires.held c.requires.stands c.bucket.result c.bucket.ensures

pub returns-clause-ok : goal.returns-clause-ok
returns-clause-ok g c =
    elim (bucket_at c.args.store.now c.args.instance.now c.args.call.now c.args.c c.requires.held c.requires.stands c.bucket.result c.bucket.ensures) [
      | inl p ↦
          let s = c.args.store.now in
          let id = c.bucket.result in
          let inside = p.inside.1 in
          let x = found_some id (list_at (lists s) inside.0) (found_in s id inside.0 inside.1.1) in
          let is = found_bucket s id inside.0 x.0 inside.1.1 x.1 in
          on_both c.aside.result _ _ _ (λ out refs view.
          aside_within (brigade_of s) (lists s) (lists c.aside.new.self) (pool_of s) (next_name s) (next_name c.aside.new.self) (kept s) c.aside.ensures.next id x.0 c.args.pool
          (map_of c.args.tree.now) (map_of c.aside.new.tree) view c.args.instance.now c.args.call.now c.args.c c.requires.held (refs x.0 is)
          p.variable (p.told (next_name s) (over_pools (map_of c.args.tree.now) view)) inside x.1 (λ m. out inside.0 m x.0 inside.1.1 is))
          c.aside.ensures.ok c.aside.ensures.registered
      | inr p ↦
          let s = c.args.store.now in
          let id = c.bucket.result in
          let inside = p.inside in
          let name = c.args.call.now.name in
          let x = found_some id (list_at (lists s) name) (found_in s id name inside) in
          let is = found_bucket s id name x.0 inside x.1 in
          on_both c.aside.result _ _ _ (λ out refs view.
          aside_loose (brigade_of s) (lists s) (lists c.aside.new.self) (pool_of s) (next_name s) (next_name c.aside.new.self) (kept s) c.aside.ensures.next id x.0 c.args.pool
          (map_of c.args.tree.now) (map_of c.aside.new.tree) view c.args.instance.now c.args.call.now c.args.c c.requires.held (refs x.0 is)
          (p.told (next_name s) (over_pools (map_of c.args.tree.now) view)) inside x.1 (λ m. out name m x.0 inside is))
          c.aside.ensures.ok c.aside.ensures.registered
    ]

pub returns-clause-held : goal.returns-clause-held
returns-clause-held g c =
    let s = c.args.store.now in
    let p = bucket_here c.args.store.now c.args.instance.now c.args.call.now c.args.c c.requires.held c.requires.stands c.bucket.result c.bucket.ensures in
    held_kept s c.aside.new.self (no_less (next_name s) (next_name c.aside.new.self) c.aside.ensures.next) c.aside.ensures.names c.aside.ensures.pools
    (by_result c.aside.result _ _
    (λ out. still_on (lists s) (lists c.aside.new.self) p.ring (with_payload c.bucket.result (set_aside c.args.pool (is_above (map_of c.args.tree.now) c.args.pool p.bucket.home) p.bucket))
    (λ m. out p.ring m p.bucket p.inside p.here))
    (λ out. still_same (lists s) (lists c.aside.new.self) out)
    c.aside.ensures.ok c.aside.ensures.err)
    c.args.instance.now c.args.call.now c.requires.held

pub returns-clause-err : goal.returns-clause-err
returns-clause-err g c =
    let s = c.args.store.now in
    on_both_err c.aside.result _ _ _ (λ out kept view.
    seen_kept (lists s) (lists c.aside.new.self) (next_name s) (next_name c.aside.new.self) (map_of c.args.tree.now)
    (map_of c.aside.new.tree) view c.args.instance.now c.args.call.now c.aside.ensures.next kept out)
    c.aside.ensures.err c.aside.ensures.kept

pub returns-clause-left : goal.returns-clause-left
returns-clause-left g c =
    let s = c.args.store.now in
    let p = bucket_here c.args.store.now c.args.instance.now c.args.call.now c.args.c c.requires.held c.requires.stands c.bucket.result c.bucket.ensures in
    let rises = no_less (next_name s) (next_name c.aside.new.self) c.aside.ensures.next in
    by_result c.aside.result _ _
    (λ out. rest_on s c.aside.new.self rises c.aside.ensures.names c.aside.ensures.pools c.aside.ensures.unasked p.ring (with_payload c.bucket.result
    (set_aside c.args.pool (is_above (map_of c.args.tree.now) c.args.pool p.bucket.home) p.bucket)) (λ m. out p.ring m p.bucket p.inside p.here) c.args.instance.now c.args.call.now p.ours)
    (λ out. rest_same s c.aside.new.self rises c.aside.ensures.names (λ n. ap (λ (f : ℕ → Option ℕ). f n) c.aside.ensures.pools) c.aside.ensures.unasked out c.args.instance.now c.args.call.now)
    c.aside.ensures.ok c.aside.ensures.err

pub returns-clause-open : goal.returns-clause-open
returns-clause-open g c =
    λ d view opens.
    let s = c.args.store.now in
    let p = bucket_here c.args.store.now c.args.instance.now c.args.call.now c.args.c c.requires.held c.requires.stands c.bucket.result c.bucket.ensures in
    let r = seen_over (lists s) (next_name s) view c.args.instance.now c.args.call.now in
    let has : IsOpenFor d p.bucket.content =
    subst (IsOpenFor d) (content_of_bucket (at_cursor r c.args.c) (named_item (item_in (calls_in view c.args.call.now) (c.bucket.result, p.bucket))) (p.at view)) opens in
    by_result c.aside.result _ _
    (λ counts. refs_one d (map_of c.args.tree.now) c.args.pool p.bucket (references s) (references c.aside.new.self) (λ f. counts p.bucket f p.here) has)
    (λ same. refs_same d (references s) (references c.aside.new.self) same)
    c.aside.ensures.counted c.aside.ensures.uncounted

pub returns-clause-sure : goal.returns-clause-sure
returns-clause-sure g c view none =
    let p = bucket_here c.args.store.now c.args.instance.now c.args.call.now c.args.c c.requires.held c.requires.stands c.bucket.result c.bucket.ensures in
    let ps = map_of c.args.tree.now in
    let over = over_pools ps view in
    c.aside.ensures.sure p.bucket p.here
    (sym (ref_shown ps c.args.pool (calls_in over c.args.call.now) (c.bucket.result, p.bucket))
    ∙ one_referred _ (sym (ap (λ (o : Option NamedBucket). takes_reference ps (Some c.args.pool) (option_to_list o)) (p.at over)) ∙ none))
