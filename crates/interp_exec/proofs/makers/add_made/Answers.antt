-- What is made of the call's bytes and of pools, and a copy of the bucket of the cursor, whose home has not ended.
use Rattle.std.proofs.Common.{◌≡◌, ℕ, Option, Some, refl, sym, ap, arith}
use Rattle.std.proofs.lemmas.Grind.{common_steps}
use Rattle.run_model.specs.Faults.{OnBucket, WHome, WPool}
use Rattle.run_model.specs.Steps.{made_of}
use Rattle.run_model.specs.declared.effect.Effect.TheVariants as effect
use Rattle.pool_tree.specs.Tree.{map_of}
use Rattle.bucket_store.specs.Items.{Items}
use Rattle.brigade_ops.specs.Store.{next_name}
use Rattle.interp_state.specs.declared.machine.Instance.{Instance}
use Rattle.interp_state.specs.declared.machine.Call.{Call}
use Rattle.interp_state.specs.ContextViews.{ContextView}
use Rattle.interp_state.specs.Context.{in_context}
use Rattle.interp_state.specs.Seen.{seen, seen_over, calls_in, bucket_in}
use Rattle.interp_state.proofs.Faultless.{nowhere}
use Rattle.interp_state.proofs.Homes.{home_later}
use Rattle.interp_state.proofs.Standing.{bucket_set, bucket_here, bucket_live}
use Rattle.interp_state.proofs.Needed.{met, stands}
use Rattle.interp_exec.proofs.Makes.{alive_at, home_now}
use Rattle.interp_exec.proofs.makers.add_made.Goals as goal

call_seen : (L : ℕ → Option Items) (k : ℕ) (view : ContextView) (i : Instance) (call : Call)
    → ((seen_over L k view i call).call.name ≡ call.name) × ((seen_over L k view i call).call.buffer ≡ call.buffer)
unfolding seen_over
call_seen L k view i call = (refl, refl)

pub live_pool-requires : goal.live_pool-requires
live_pool-requires g c = record { there = (_, (_, (nowhere, (_, met (c.requires.faultless.1 nowhere) (ap (effect.Make c.requires.faultless.0) c.in-PoolBuffer.is) 0 (WPool _) refl)))) }

pub returns-clause-ok : goal.returns-clause-ok
returns-clause-ok g c =
    let made : (view : ContextView) → made_of c.args.code.now (seen c.args.store.now (in_context c.args.context.now
    (map_of c.args.tree.now) view) c.args.instance.now c.args.call.now) c.args.source
    ≡ Some (bucket_in (calls_in (in_context c.args.context.now (map_of c.args.tree.now) view) c.args.call.now) (next_name c.args.store.now) c.match-source.bucket) =
    λ view. grind (arith, home_now, call_seen) in
    grind (arith, common_steps)

pub bucket-requires-clause-at : goal.bucket-requires-clause-at
bucket-requires-clause-at g c = bucket_set _ _ _ _ c.requires.held (stands (c.requires.faultless.1 nowhere) (ap (effect.Make c.requires.faultless.0) c.in-CopyAt.is) 0 _ OnBucket refl)

pub copy-requires-clause-there : goal.copy-requires-clause-there
copy-requires-clause-there g c =
    bucket_live _ _ _ _ c.requires.held (stands (c.requires.faultless.1 nowhere) (ap (effect.Make c.requires.faultless.0) c.in-CopyAt.is) 0 _ OnBucket refl) _ c.bucket.ensures

pub returns-in-CopyAt-clause-ok : goal.returns-in-CopyAt-clause-ok
returns-in-CopyAt-clause-ok g c =
    let is = ap (effect.Make c.requires.faultless.0) c.in-CopyAt.is in
    let s = bucket_here _ _ _ _ c.requires.held (stands (c.requires.faultless.1 nowhere) is 0 c.in-CopyAt.d OnBucket refl) _ c.bucket.ensures in
    let made = λ (view : ContextView).
    let over = in_context c.args.context.now (map_of c.args.tree.now) view in
    let alive = alive_at (s.at over) (met (c.requires.faultless.1 view) is 1 (WHome c.in-CopyAt.d) refl) in
    rw (sym (home_later _ _ (next_name c.args.store.now) s.bucket.home alive (omega (arith, (c.requires.held.given _ _ c.bucket.ensures).young)))) at (s.at over) in
    grind (arith, common_steps, made)
