-- No variable so far names the pool.
use Rattle.std.proofs.Common.{◌≡◌, ℕ, ◌<◌, false}
use Rattle.std.specs.Prelude.{slice_index_or}
use Rattle.run_model.specs.declared.bucket.PoolVar.TheVariants as poolvar
use Rattle.run_model.specs.State.{name_in, is_named}
use Rattle.interp_checks.proofs.pool_wants.any_names.Given as goal

abbrev pub invariant-loop-q : goal.invariant-loop-q
invariant-loop-q l = (k : ℕ) → k < l.q → is_named (name_in (slice_index_or l.instance.pools k poolvar.Null)) l.name ≡ false
