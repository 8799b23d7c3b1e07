-- Row by row; beyond the last cursor there is no fact.
use Rattle.std.proofs.Common.{◌≡◌, ◌<◌, ℕ, Bool, false, List, [], length, slice_index_or, sym, arith, length-set}
use Rattle.life_state.specs.Facts.{facts_of}
use Rattle.life_state.specs.Seen.{seen, seen_cursors, keep_of}
use Rattle.life_state.proofs.Arrays.{one_more, table_is}
use Rattle.life_state.proofs.FactLaws.{none_of_first, none_of_second}
use Rattle.life_state.proofs.MotionLaws.{cursor_past}
use Rattle.life_state.proofs.state.State.fact_rows.Goals as goal

pub loop-c-preserved : goal.loop-c-preserved
loop-c-preserved c =
    let facts = facts_of (keep_of c.args.keep (seen c.args.self.now)) (seen_cursors c.args.cursors.now) in
    record {
      long = omega (arith, length-set c.loop-c.rows c.from.result c.fact_row.result);
      each = one_more (λ (i : ℕ) (row : List Bool). (length row ≡ 9) × ((j : ℕ) → j < 9 → slice_index_or row j false ≡ facts i j))
          [] c.loop-c.rows c.loop-c.c c.from.result c.fact_row.result c.from.ensures
          (omega arith) (c.fact_row.ensures.long, c.fact_row.ensures.each) c.loop-c.invariant.each;
    }

pub returns : goal.returns
returns c =
    let long : length c.args.cursors.now ≡ 9 = omega arith in
    let keep = keep_of c.args.keep (seen c.args.self.now) in
    let cursors = seen_cursors c.args.cursors.now in
    table_is 9 c.loop-c.rows (facts_of keep cursors) c.loop-c.invariant.long
    (λ i h. (c.loop-c.invariant.each i (omega arith)).0)
    (λ i j h k. (c.loop-c.invariant.each i (omega arith)).1 j k)
    (λ i j h. sym (none_of_first keep cursors i j (cursor_past c.args.cursors.now i (omega arith))))
    (λ i j h. sym (none_of_second keep cursors i j (cursor_past c.args.cursors.now j (omega arith))))
