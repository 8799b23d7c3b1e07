-- The pools that instructions name are live, since there is no fault.
use Rattle.std.proofs.Common.{rules, ℕ, Option, refl, sym, ap, ◌∙◌, ◌≡◌, Some}
use Rattle.std.specs.Prelude.{option_to_list}
use Rattle.std.proofs.lemmas.Bool.{false≢true}
use Rattle.std.proofs.lemmas.Result.{on_err_weaker, on_ok_weaker}
use Rattle.module_code.specs.Program.{pool_of_brigade, pool_of_pool, Program}
use Rattle.module_code.specs.declared.instr.PoolRef.{PoolRef}
use Rattle.run_model.specs.BucketSteps.{items_at}
use Rattle.run_model.specs.Cursors.{bucket_at, at_cursor}
use Rattle.run_model.specs.Effects.{made_on}
use Rattle.run_model.specs.Faults.{OnBucket, WHome, WHomes, WPool, fault_want, wants}
use Rattle.run_model.specs.State.{items_of, pool_named}
use Rattle.run_model.specs.Steps.{takes_reference}
use Rattle.pool_tree.specs.Tree.{map_of}
use Rattle.pool_tree.proofs.Trees.{tree_formed}
use Rattle.brigade_ops.specs.Store.{brigade_of, lists, next_name, pool_of, references}
use Rattle.brigade_ops.proofs.Housed.{house_live}
use Rattle.interp_state.specs.Seen.{seen_over}
use Rattle.interp_state.specs.Context.{in_context}
use Rattle.interp_state.specs.Slots.{name_in}
use Rattle.interp_state.proofs.HeldAlike.{held_slots}
use Rattle.interp_state.proofs.LeftAlone.{rest_none, rest_others}
use Rattle.interp_exec.proofs.CarriedOut.{names_kept, names_same}
use Rattle.interp_exec.proofs.Trees.{house_left, over_pools}
use Rattle.interp_state.proofs.OpenFiles.{open_items, open_at_cursor, refs_same}
use Rattle.run_model.specs.EffectOf.{instr_with}
use Rattle.interp_state.proofs.Faultless.{nowhere, want_at}
use Rattle.run_model.specs.declared.effect.CleanupKind.{CleanupKind}
use Rattle.run_model.specs.declared.effect.CleanupKind.TheVariants.{Plain, Pre}
use Rattle.run_model.specs.declared.effect.Effect.TheVariants as effect
use Rattle.interp_state.proofs.Quiet.{grown_none}
use Rattle.interp_exec.specs.Grows.{grows_by}
use Rattle.interp_state.proofs.Needed.{met, stands, usable_live}
use Rattle.interp_exec.proofs.execute_without_files.execute_without_files.Goals as goal

pub aside-requires-clause-stands : goal.aside-requires-clause-stands
aside-requires-clause-stands g c = stands (c.requires.faultless nowhere) c.in-Aside.is 0 c.in-Aside.c OnBucket refl

pub live_pool-parent-requires : goal.live_pool-parent-requires
live_pool-parent-requires g c =
    let r = seen_over (lists c.args.store.now) (next_name c.args.store.now) (in_context c.args.context.now (map_of c.args.tree.now) nowhere) c.args.instance.now c.args.call.now in
    let none = ap (λ (p : PoolRef). fault_want r (WPool p)) c.pool_parent.ensures
    ∙ met (c.requires.faultless nowhere) c.in-MakePool.is 0 (WPool (pool_of_pool c.args.code.now c.in-MakePool.q)) refl in
    record { there = (lists c.args.store.now, (next_name c.args.store.now, (nowhere, (c.args.call.now, none)))) }

-- both kinds of labels want a pool
register_wants : (p : Program) (how : CleanupKind) (q : PoolRef) (t : ℕ) → want_at 0 (wants p (instr_with (effect.Register how q t))) ≡ Some (WPool q)
register_wants p Plain q t = refl
register_wants p Pre q t = refl

pub live_pool-on-requires : goal.live_pool-on-requires
live_pool-on-requires g c =
    let none = met (c.requires.faultless nowhere) c.in-Register.is 0 (WPool c.in-Register.pool) (register_wants c.args.code.now c.in-Register.kind c.in-Register.pool c.in-Register.text) in
    record { there = (lists c.args.store.now, (next_name c.args.store.now, (nowhere, (c.args.call.now, none)))) }

pub live_pool-on-requires-in-Kill : goal.live_pool-on-requires-in-Kill
live_pool-on-requires-in-Kill g c =
    let none = met (c.requires.faultless nowhere) c.in-Kill.is 0 (WPool c.in-Kill.pool) refl in
    record { there = (lists c.args.store.now, (next_name c.args.store.now, (nowhere, (c.args.call.now, none)))) }

pub live_pool-on-requires-in-MakeBrigade : goal.live_pool-on-requires-in-MakeBrigade
live_pool-on-requires-in-MakeBrigade g c =
    let r = seen_over (lists c.args.store.now) (next_name c.args.store.now) (in_context c.args.context.now (map_of c.args.tree.now) nowhere) c.args.instance.now c.args.call.now in
    let none = ap (λ (p : PoolRef). fault_want r (WPool p)) c.brigade_pool.ensures
    ∙ met (c.requires.faultless nowhere) c.in-MakeBrigade.is 0 (WPool (pool_of_brigade c.args.code.now c.in-MakeBrigade.o)) refl in
    record { there = (lists c.args.store.now, (next_name c.args.store.now, (nowhere, (c.args.call.now, none)))) }

pub save-requires-clause-live_into : goal.save-requires-clause-live_into
save-requires-clause-live_into g c = usable_live (c.requires.faultless nowhere) c.in-Save.is 0 c.in-Save.o refl

pub save-requires-clause-live_from : goal.save-requires-clause-live_from
save-requires-clause-live_from g c = usable_live (c.requires.faultless nowhere) c.in-Save.is 1 c.in-Save.b refl

pub save-requires-clause-live : goal.save-requires-clause-live
save-requires-clause-live g c =
    λ n p is on. house_live (lists c.args.store.now) (pool_of c.args.store.now) (references c.args.store.now) (map_of c.args.tree.now) c.requires.house (tree_formed c.args.tree.now) n p on

pub live_pool-to-requires : goal.live_pool-to-requires
live_pool-to-requires g c =
    let none = met (c.requires.faultless nowhere) c.in-Aside.is 1 (WPool c.in-Aside.pool) refl in
    record { there = (lists c.args.store.now, (next_name c.args.store.now, (nowhere, (c.args.call.now, none)))) }

pub returns-in_default : goal.returns-in_default
returns-in_default g c =
    let s = c.args.store.now in
    let new = c.execute_on_store.new.store in
    let i = c.args.instance.now in
    let call = c.args.call.now in
    let e = c.execute_on_store.ensures in
    record {
      ok = e.ok;
      err = on_err_weaker c.execute_on_store.result (λ same view. same (over_pools (map_of c.args.tree.now) view)) e.err;
      sure = e.sure;
      held = e.held;
      name = e.name;
      tree_unasked = refl;
      house = house_left s new i call (map_of c.args.tree.now) e.left c.requires.house;
      «open» = λ d ranges all. refs_same d (references s) (references new) (λ f. ap (λ (h : ℕ → ℕ). h f) e.left.references) all;
      slots = names_kept (next_name s) (next_name new) i c.execute_on_store.new.instance e.slots;
      left = rest_others s new i call e.left;
    }

pub execute_on_store-requires : goal.execute_on_store-requires
execute_on_store-requires g c = search rules

pub returns-in-MakePool : goal.returns-in-MakePool
returns-in-MakePool g c = record {
  ok = rw c.in-MakePool.is (on_ok_weaker c.create_pool.result (λ made view choice.
      made c.args.code.now (lists c.args.store.now) (next_name c.args.store.now) (in_context c.args.context.now (map_of c.args.tree.now) view) c.args.call.now
      (rw c.pool_parent.ensures at (c.live_pool-parent.ensures.named (lists c.args.store.now) (next_name c.args.store.now) view c.args.call.now)))
      c.create_pool.ensures.ok);
  err = on_err_weaker c.create_pool.result (λ same view. same (lists c.args.store.now) (next_name c.args.store.now) view c.args.call.now) c.create_pool.ensures.err;
  sure = λ view none.
      let over = in_context c.args.context.now (map_of c.args.tree.now) view in
      absurd (false≢true (sym none ∙ ap (grows_by (seen_over (lists c.args.store.now) (next_name c.args.store.now) over c.args.instance.now c.args.call.now)) c.in-MakePool.is));
  held = held_slots (brigade_of c.args.store.now) (lists c.args.store.now) (pool_of c.args.store.now) (next_name c.args.store.now) c.args.instance.now c.create_pool.new.instance
      c.args.call.now c.create_pool.ensures.slots c.requires.held;
  slots = names_kept (next_name c.args.store.now) (next_name c.args.store.now) c.args.instance.now c.create_pool.new.instance (λ b. ap name_in (c.create_pool.ensures.slots b));
  left = rest_none c.args.store.now c.args.instance.now c.args.call.now;
  house = c.create_pool.ensures.house _ _ _ c.requires.house;
  «open» = λ d ranges all. all;
  name = refl;
  tree_unasked = c.create_pool.ensures.tree_unasked;
}

pub returns-in-Register : goal.returns-in-Register
returns-in-Register g c = record {
  ok = rw c.in-Register.is (on_ok_weaker c.label.result (λ made view choice.
      rw (c.live_pool-on.ensures.named (lists c.args.store.now) (next_name c.args.store.now) view c.args.call.now)
      (made (lists c.args.store.now) (next_name c.args.store.now) (in_context c.args.context.now (map_of c.args.tree.now) view) c.args.instance.now c.args.call.now))
      c.label.ensures.ok);
  err = on_err_weaker c.label.result (λ same view. same (lists c.args.store.now) (next_name c.args.store.now) view c.args.instance.now c.args.call.now)
      c.label.ensures.err;
  sure = λ view none.
      let over = in_context c.args.context.now (map_of c.args.tree.now) view in
      absurd (false≢true (sym none ∙ ap (grows_by (seen_over (lists c.args.store.now) (next_name c.args.store.now) over c.args.instance.now c.args.call.now)) c.in-Register.is));
  left = rest_none c.args.store.now c.args.instance.now c.args.call.now;
  held = c.requires.held;
  house = c.label.ensures.house _ _ _ c.requires.house;
  «open» = λ d ranges all. all;
  name = refl;
  slots = names_same _ _ c.args.instance.now;
  tree_unasked = c.label.ensures.tree_unasked;
}

pub returns-in-Kill : goal.returns-in-Kill
returns-in-Kill g c = record {
  ok = rw c.in-Kill.is (λ view choice.
      rw (c.live_pool-on-in-Kill.ensures.named (lists c.args.store.now) (next_name c.args.store.now) view c.args.call.now)
      (c.unlabel.ensures.new (lists c.args.store.now) (next_name c.args.store.now) (in_context c.args.context.now (map_of c.args.tree.now) view) c.args.instance.now c.args.call.now));
  left = rest_none c.args.store.now c.args.instance.now c.args.call.now;
  err = tt;
  sure = λ view none. refl;
  held = c.requires.held;
  house = c.unlabel.ensures.house _ _ _ c.requires.house;
  «open» = λ d ranges all. all;
  name = refl;
  slots = names_same _ _ c.args.instance.now;
  tree_unasked = c.unlabel.ensures.tree_unasked;
}

pub returns-in-MakeBrigade : goal.returns-in-MakeBrigade
returns-in-MakeBrigade g c = record {
  ok = rw c.in-MakeBrigade.is (on_ok_weaker c.create.result (λ made view choice.
      made c.args.code.now (in_context c.args.context.now (map_of c.args.tree.now) view) c.args.call.now c.requires.held
      (rw c.brigade_pool.ensures at (c.live_pool-on-in-MakeBrigade.ensures.named (lists c.args.store.now) (next_name c.args.store.now) view c.args.call.now)))
      c.create.ensures.ok);
  err = on_err_weaker c.create.result (λ same view. same view c.args.call.now) c.create.ensures.err;
  sure = λ view none.
      let over = in_context c.args.context.now (map_of c.args.tree.now) view in
      absurd (false≢true (sym none ∙ ap (grows_by (seen_over (lists c.args.store.now) (next_name c.args.store.now) over c.args.instance.now c.args.call.now)) c.in-MakeBrigade.is));
  «open» = λ d ranges all. refs_same d (references c.args.store.now) (references c.create.new.store) (λ f. ap (λ (r : ℕ → ℕ). r f) c.create.ensures.references) all;
  held = c.create.ensures.held c.args.call.now c.requires.held;
  house = c.create.ensures.house c.requires.house;
  name = refl;
  slots = c.create.ensures.slots;
  left = c.create.ensures.left c.args.call.now;
  tree_unasked = c.create.ensures.tree_unasked;
}

pub returns-in-Save : goal.returns-in-Save
unfolding map_of seen_over
returns-in-Save g c = record {
  ok = rw c.in-Save.is (on_ok_weaker c.save.result (λ made view choice. made (in_context c.args.context.now (map_of c.args.tree.now) view) c.args.call.now c.requires.held) c.save.ensures.ok);
  err = on_err_weaker c.save.result (λ same view. same view c.args.call.now) c.save.ensures.err;
  sure = λ view none.
      let over = in_context c.args.context.now (map_of c.args.tree.now) view in
      let r = seen_over (lists c.args.store.now) (next_name c.args.store.now) over c.args.instance.now c.args.call.now in
      c.save.ensures.sure over c.args.call.now
      (grown_none 0 0 (takes_reference (map_of c.args.tree.now) (made_on (r.instance.brigades c.in-Save.o)) (items_at r c.in-Save.b)) (sym (ap (grows_by r) c.in-Save.is) ∙ none)).1;
  «open» = λ d ranges all.
      let over = in_context c.args.context.now (map_of c.args.tree.now) nowhere in
      let r = seen_over (lists c.args.store.now) (next_name c.args.store.now) over c.args.instance.now c.args.call.now in
      let alive = met (c.requires.faultless nowhere) c.in-Save.is 2 (WHomes c.in-Save.b) refl in
      c.save.ensures.open d over c.args.call.now (open_items d (items_of (r.instance.brigades c.in-Save.b)) ((ranges nowhere).brigades c.in-Save.b) alive) all;
  held = c.save.ensures.held c.args.call.now c.requires.held;
  house = c.save.ensures.house c.requires.house;
  name = refl;
  slots = names_same _ _ c.args.instance.now;
  left = c.save.ensures.left c.args.call.now;
  tree_unasked = c.save.ensures.tree_unasked;
}

pub returns-in-Aside : goal.returns-in-Aside
unfolding map_of seen_over
returns-in-Aside g c = record {
  ok = rw c.in-Aside.is (on_ok_weaker c.aside.result (λ made view choice.
      rw (c.live_pool-to.ensures.named (lists c.args.store.now) (next_name c.args.store.now) view c.args.call.now) (made (in_context c.args.context.now (map_of c.args.tree.now) view)))
      c.aside.ensures.ok);
  sure = λ view none.
      let over = in_context c.args.context.now (map_of c.args.tree.now) view in
      let r = seen_over (lists c.args.store.now) (next_name c.args.store.now) over c.args.instance.now c.args.call.now in
      let bs = option_to_list (bucket_at (at_cursor r c.in-Aside.c)) in
      let plain = (grown_none 0 0 (takes_reference (map_of c.args.tree.now) (pool_named r c.in-Aside.pool) bs) (sym (ap (grows_by r) c.in-Aside.is) ∙ none)).1 in
      c.aside.ensures.sure over
      (sym (ap (λ (p : Option ℕ). takes_reference (map_of c.args.tree.now) p bs) (c.live_pool-to.ensures.named (lists c.args.store.now) (next_name c.args.store.now) view c.args.call.now)) ∙ plain);
  «open» = λ d ranges all.
      let over = in_context c.args.context.now (map_of c.args.tree.now) nowhere in
      let r = seen_over (lists c.args.store.now) (next_name c.args.store.now) over c.args.instance.now c.args.call.now in
      let alive = met (c.requires.faultless nowhere) c.in-Aside.is 2 (WHome c.in-Aside.c) refl in
      c.aside.ensures.open d over (open_at_cursor d r c.in-Aside.c (ranges nowhere) alive) all;
  err = c.aside.ensures.err;
  held = c.aside.ensures.held;
  house = c.aside.ensures.house c.requires.house;
  name = refl;
  slots = names_same _ _ c.args.instance.now;
  left = c.aside.ensures.left;
  tree_unasked = c.aside.ensures.tree_unasked;
}
