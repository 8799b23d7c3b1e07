use Rattle.std.proofs.Common.{ap, ◌∙◌, refl, arith, None}
use Rattle.raw_block.specs.Blocks.{at}
use Rattle.raw_nodes.specs.Free.{used}
use Rattle.raw_block.proofs.Maps.{upd_same}
use Rattle.raw_nodes.proofs.Free.{spare_within, listed_more, used_new, past_none}
use Rattle.raw_nodes.proofs.nodes.list_free.Goals as goal

pub overflow_add-count : goal.overflow_add-count
overflow_add-count g c =
    let l = c.loop-k in
    record { fits = omega (arith, spare_within (at l.block) l.first l.count l.k l.invariant.listed, l.invariant.within, l.block.places.1) }

pub loop-k-preserved : goal.loop-k-preserved
loop-k-preserved g c =
    let l = c.loop-k in
    let i = l.invariant in
    let t = c.write.new.self in
    let e = c.write.ensures in
    record {
      listed = listed_more (at l.block) (at t) l.k l.first l.count _ e.at i.listed refl refl;
      used = λ j. used_new (at l.block) (at t) l.k _ e.at j ∙ upd_same (λ i. used (at l.block i)) l.k None (ap used (past_none (at l.block) l.first l.count l.k l.k i.listed (omega arith))) j
          ∙ i.used j;
      len = e.len ∙ i.len;
      within = omega (arith, e.len, c.loop-k-test.true, c.len.ensures.value);
      count = omega (arith, i.count);
      from = omega (arith, i.from);
    }
