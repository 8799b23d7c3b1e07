-- A variable that names the pool decides, and none does where the loop ends.
use Rattle.std.proofs.Common.{◌≡◌, ℕ, Bool, true, refl, arith, rules}
use Rattle.std.specs.Prelude.{slice_index_or}
use Rattle.run_model.specs.declared.bucket.PoolVar.TheVariants as poolvar
use Rattle.run_model.specs.State.{name_in, is_named}
use Rattle.pool_tree.proofs.Below.{any_below_some, any_below_none}
use Rattle.interp_checks.proofs.pool_wants.any_names.Goals as goal

pub returns-then-is_named : goal.returns-then-is_named
returns-then-is_named c =
    let names : ℕ → Bool = λ q. is_named (name_in (slice_index_or c.args.instance.now.pools q poolvar.Null)) c.args.name in
    let here : names c.loop-q.q ≡ true = search rules in
    rw (any_below_some 8 c.loop-q.q names (omega arith) here) refl

pub returns : goal.returns
returns c =
    let names : ℕ → Bool = λ q. is_named (name_in (slice_index_or c.args.instance.now.pools q poolvar.Null)) c.args.name in
    rw (any_below_none 8 names (λ k below. c.loop-q.invariant k (omega arith))) refl
