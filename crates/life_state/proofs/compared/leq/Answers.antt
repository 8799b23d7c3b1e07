-- One index that fails decides; where each passes, the counts and what was sent do.
use Rattle.std.proofs.Common.{◌≡◌, ◌&&◌, ◌||◌, ◌==◌, true, below_more, ap, ap₂, sym, ◌∙◌, arith}
use Rattle.life_state.specs.Order.{pool_leq, brigade_leq, cursor_leq}
use Rattle.life_state.specs.Seen.{seen, seen_brigade, seen_cursor, unmade}
use Rattle.life_state.specs.declared.parts.CursorState.TheVariants as cursor
use Rattle.life_state.proofs.Indices.{below_at, read_at, one_fails, each_passes}
use Rattle.life_state.proofs.compared.leq.Goals as goal
use Rattle.life_state.proofs.compared.leq.Goals.{After-leq-cursor}

-- what the tests of an index come to
told : (c : After-leq-cursor) → (((((c.loop-k.k == 8) || c.leq.result) && c.leq-brigade.result) && c.leq-cursor.result) && c.are_known-facts.result)
    ≡ below_at (seen c.args.a.now) (seen c.args.b.now) c.loop-k.k
unfolding seen
told c =
    let a = seen c.args.a.now in
    let b = seen c.args.b.now in
    let pool = c.leq.ensures ∙ ap₂ pool_leq c.pool.ensures c.pool-in-loop-k.ensures in
    let brigade : _ ≡ brigade_leq (a.brigades c.loop-k.k) (b.brigades c.loop-k.k) =
    c.leq-brigade.ensures ∙ ap₂ (λ v w. brigade_leq (seen_brigade v) (seen_brigade w))
    (read_at c.args.a.now.brigades _ c.loop-k.k _ unmade c.from.ensures (omega arith))
    (read_at c.args.b.now.brigades _ c.loop-k.k _ unmade c.from-in-loop-k.ensures (omega arith)) in
    let cursor : _ ≡ cursor_leq (a.cursors c.loop-k.k) (b.cursors c.loop-k.k) =
    c.leq-cursor.ensures ∙ ap₂ (λ v w. cursor_leq (seen_cursor v) (seen_cursor w))
    (read_at c.args.a.now.cursors _ c.loop-k.k _ cursor.Unset c.from-in-loop-k-2.ensures (omega arith))
    (read_at c.args.b.now.cursors _ c.loop-k.k _ cursor.Unset c.from-in-loop-k-3.ensures (omega arith)) in
    ap₂ ◌&&◌ (ap₂ ◌&&◌ (ap₂ ◌&&◌ (ap (λ x. c.loop-k.k == 8 || x) pool) brigade) cursor) c.are_known-facts.ensures

pub loop-k-preserved : goal.loop-k-preserved
loop-k-preserved c =
    below_more (λ i. below_at (seen c.args.a.now) (seen c.args.b.now) i ≡ true) c.loop-k.k c.loop-k.invariant
    (sym (told (goal.at.loop-k-preserved c).After-leq-cursor) ∙ c.if-not-below.false)

pub returns-then-not-below : goal.returns-then-not-below
returns-then-not-below c =
    one_fails (seen c.args.a.now) (seen c.args.b.now) c.loop-k.k (omega arith) (sym (told (goal.at.returns-then-not-below c).After-leq-cursor) ∙ c.if-not-below.true)

pub returns : goal.returns
returns c =
    let a = c.args.a.now in
    let b = c.args.b.now in
    let passes = each_passes (seen a) (seen b) (λ k below. c.loop-k.invariant k (omega arith)) in
    cc
