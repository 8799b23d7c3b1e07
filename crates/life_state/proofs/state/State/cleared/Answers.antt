-- Cursors and facts, then pools and brigades; beyond the last there is nothing to clear.
use Rattle.std.proofs.Common.{◌≡◌, ◌∙◌, ℕ, Bool, refl, slice_set, ap, sym, length-set, arith}
use Rattle.module_code.specs.declared.instr.PoolRef.{PoolRef}
use Rattle.life_state.specs.declared.parts.PoolState.{PoolState}
use Rattle.life_state.specs.declared.parts.CursorState.TheVariants as cursor
use Rattle.life_state.specs.States.{only_null, BrigadeKnown, CursorKnown, State}
use Rattle.life_state.specs.Facts.{known, facts_of, moved}
use Rattle.life_state.specs.Rules.{cleared_pool, cleared_brigade, cleared_cursors, cleared_under}
use Rattle.life_state.specs.Seen.{seen, seen_pools, seen_pool_states, seen_brigade, seen_brigades, seen_cursor, unmade}
use Rattle.life_state.proofs.Arrays.{one_more, read_as}
use Rattle.life_state.proofs.ClearLaws.{cleared_pool_past, cleared_brigade_past, cleared_cursors_past}
use Rattle.life_state.proofs.state.State.cleared.Goals as goal

pub loop-k-preserved : goal.loop-k-preserved
loop-k-preserved c =
    let s = seen c.args.self in
    let p = c.args.code.now in
    let under = seen_pools c.pools_under-under.result in
    let k = c.loop-k.k in
    record {
      pools = omega (arith, length-set c.loop-k.pools c.from.result c.cleared_pool.result);
      brigades = omega (arith, length-set c.loop-k.brigades c.from-in-loop-k.result c.cleared_brigade.result);
      cursors = omega (arith, length-set c.loop-k.cursors c.from-in-loop-k-2.result c.cleared_cursor.result);
      pool = one_more (λ i v. v ≡ cleared_pool under c.args.top s i) only_null c.loop-k.pools k c.from.result c.cleared_pool.result c.from.ensures (omega arith)
          c.cleared_pool.ensures c.loop-k.invariant.pool;
      brigade = one_more (λ i v. seen_brigade v ≡ cleared_brigade p under s i) unmade c.loop-k.brigades k c.from-in-loop-k.result c.cleared_brigade.result c.from-in-loop-k.ensures (omega arith)
          c.cleared_brigade.ensures c.loop-k.invariant.brigade;
      cursor = one_more (λ i v. seen_cursor v ≡ cleared_cursors p under s i) cursor.Unset c.loop-k.cursors k c.from-in-loop-k-2.result c.cleared_cursor.result c.from-in-loop-k-2.ensures (omega arith)
          c.cleared_cursor.ensures c.loop-k.invariant.cursor;
    }

pub returns : goal.returns
unfolding seen moved cleared_under known
returns c =
    let s = c.args.self in
    let p = c.args.code.now in
    let under = seen_pools c.pools_under-under.result in
    let all_brigades = slice_set c.loop-k.brigades 8 c.cleared_brigade-2.result in
    let all_cursors = slice_set c.loop-k.cursors 8 c.cleared_cursor-2.result in
    let pools = read_as (λ v. v) only_null 8 c.loop-k.pools (cleared_pool under c.args.top (seen s)) c.loop-k.invariant.pools
    (λ i below. c.loop-k.invariant.pool i (omega arith)) (λ i past. sym (cleared_pool_past under c.args.top s i (omega arith))) in
    let brigades = read_as seen_brigade unmade 9 all_brigades (cleared_brigade p under (seen s)) (omega (arith, length-set c.loop-k.brigades 8 c.cleared_brigade-2.result))
    (one_more (λ i v. seen_brigade v ≡ cleared_brigade p under (seen s) i) unmade c.loop-k.brigades 8 8 c.cleared_brigade-2.result refl (omega arith)
    c.cleared_brigade-2.ensures (λ i below. c.loop-k.invariant.brigade i (omega arith)))
    (λ i past. sym (cleared_brigade_past p under s i (omega arith))) in
    let cursors = read_as seen_cursor cursor.Unset 9 all_cursors (cleared_cursors p under (seen s)) (omega (arith, length-set c.loop-k.cursors 8 c.cleared_cursor-2.result))
    (one_more (λ i v. seen_cursor v ≡ cleared_cursors p under (seen s) i) cursor.Unset c.loop-k.cursors 8 8 c.cleared_cursor-2.result refl (omega arith)
    c.cleared_cursor-2.ensures (λ i below. c.loop-k.invariant.cursor i (omega arith)))
    (λ i past. sym (cleared_cursors_past p under s i (omega arith))) in
    let of : (ℕ → CursorKnown) → (ℕ → PoolState) → (ℕ → BrigadeKnown) → State =
    λ x v b. record (seen s) { pools = v; brigades = b; cursors = x; facts = facts_of (known (seen s)) x } in
    (ap (λ (t : State). record t { pools = seen_pool_states c.loop-k.pools; brigades = seen_brigades all_brigades }) c.change_cursors.ensures
    ∙ (ap (λ (x : ℕ → CursorKnown). of x (seen_pool_states c.loop-k.pools) (seen_brigades all_brigades)) cursors
    ∙ (ap (λ (v : ℕ → PoolState). of (cleared_cursors p under (seen s)) v (seen_brigades all_brigades)) pools
    ∙ ap (of (cleared_cursors p under (seen s)) (cleared_pool under c.args.top (seen s))) brigades)))
    ∙ ap (λ (f : PoolRef → Bool). cleared_under p f c.args.top (seen s)) c.pools_under-under.ensures
