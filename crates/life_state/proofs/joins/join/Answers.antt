-- Part by part; beyond the last there is nothing to join.
use Rattle.std.proofs.Common.{◌≡◌, ◌∙◌, ◌&&◌, ◌||◌, ℕ, Bool, slice_set, refl, ap, ap₂, sym, length-set, arith}
use Rattle.life_state.specs.declared.parts.PoolState.{PoolState}
use Rattle.life_state.specs.States.{only_null, BrigadeKnown, CursorKnown, State}
use Rattle.life_state.specs.Facts.{known, facts_of}
use Rattle.life_state.specs.Order.{pool_join, brigade_join, cursor_join, kept_cursor, joined_pools, joined_brigades, joined_cursors, join}
use Rattle.life_state.specs.Seen.{seen, seen_brigade, seen_brigades, seen_cursors, seen_facts, unmade}
use Rattle.life_state.proofs.Arrays.{one_more, read_as}
use Rattle.life_state.proofs.JoinLaws.{joined_pools_past, joined_brigades_past}
use Rattle.life_state.proofs.joins.join.Goals as goal

pub loop-k-preserved : goal.loop-k-preserved
loop-k-preserved c =
    let a = seen c.args.a.now in
    let b = seen c.args.b.now in
    let here : seen_brigade c.join-in-loop-k.result ≡ joined_brigades a b c.loop-k.k = c.join-in-loop-k.ensures ∙ ap₂ brigade_join c.brigade.ensures c.brigade-in-loop-k.ensures in
    record {
      pools = omega (arith, length-set c.loop-k.pools c.from.result c.join.result);
      brigades = omega (arith, length-set c.loop-k.brigades c.from-in-loop-k.result c.join-in-loop-k.result);
      pool = one_more (λ k v. v ≡ joined_pools a b k) only_null c.loop-k.pools c.loop-k.k c.from.result c.join.result c.from.ensures (omega arith)
          (c.join.ensures ∙ ap₂ pool_join c.pool.ensures c.pool-in-loop-k.ensures) c.loop-k.invariant.pool;
      brigade = one_more (λ k v. seen_brigade v ≡ joined_brigades a b k) unmade c.loop-k.brigades c.loop-k.k c.from-in-loop-k.result c.join-in-loop-k.result c.from-in-loop-k.ensures (omega arith)
          here c.loop-k.invariant.brigade;
    }

pub returns : goal.returns
unfolding join seen
returns c =
    let a = c.args.a.now in
    let b = c.args.b.now in
    let pools = read_as (λ v. v) only_null 8 c.loop-k.pools (joined_pools (seen a) (seen b)) c.loop-k.invariant.pools
    (λ i below. c.loop-k.invariant.pool i (omega arith)) (λ i past. sym (joined_pools_past a b i (omega arith) (omega arith))) in
    let last : seen_brigade c.join-2.result ≡ joined_brigades (seen a) (seen b) 8 = c.join-2.ensures ∙ ap₂ brigade_join c.brigade-2.ensures c.brigade-3.ensures in
    let made = slice_set c.loop-k.brigades 8 c.join-2.result in
    let brigades = read_as seen_brigade unmade 9 made (joined_brigades (seen a) (seen b)) (omega (arith, length-set c.loop-k.brigades 8 c.join-2.result))
    (one_more (λ k v. seen_brigade v ≡ joined_brigades (seen a) (seen b) k) unmade c.loop-k.brigades 8 8 c.join-2.result refl (omega arith) last
    (λ i below. c.loop-k.invariant.brigade i (omega arith))) (λ i past. sym (joined_brigades_past a b i (omega arith) (omega arith))) in
    let kept : (ℕ → BrigadeKnown) → ℕ → CursorKnown = λ vs i. kept_cursor vs (cursor_join ((seen a).cursors i) ((seen b).cursors i)) in
    let cursors : seen_cursors c.joined_cursors-cursors.result ≡ joined_cursors (seen a) (seen b) = c.joined_cursors-cursors.ensures ∙ ap kept brigades in
    let facts = c.fact_rows.ensures ∙ ap (facts_of (λ i j. known (seen a) i j && known (seen b) i j)) cursors in
    let of : (ℕ → PoolState) → (ℕ → BrigadeKnown) → (ℕ → CursorKnown) → (ℕ → ℕ → Bool) → State = λ p v x f. record {
      pool_count = a.pool_count;
      brigade_count = a.brigade_count;
      sent = a.sent || b.sent;
      pools = p;
      brigades = v;
      cursors = x;
      facts = f;
    } in
    let seen_last = seen_cursors c.joined_cursors-cursors.result in
    let rows = seen_facts c.fact_rows.result in
    ap (λ (p : ℕ → PoolState). of p (seen_brigades made) seen_last rows) pools
    ∙ (ap (λ (v : ℕ → BrigadeKnown). of (joined_pools (seen a) (seen b)) v seen_last rows) brigades
    ∙ (ap (λ (x : ℕ → CursorKnown). of (joined_pools (seen a) (seen b)) (joined_brigades (seen a) (seen b)) x rows) cursors
    ∙ ap (of (joined_pools (seen a) (seen b)) (joined_brigades (seen a) (seen b)) (joined_cursors (seen a) (seen b))) facts))
