use Rattle.std.proofs.Common.{◌≡◌, ◌-◌, length, take, drop, arith}
use Rattle.std.proofs.lemmas.Grind.{common_steps}
use Rattle.byte_text.proofs.WritingLaws.{appends_take}
use Rattle.byte_text.proofs.writer.put_all.Goals as goal

pub loop-at-preserved : goal.loop-at-preserved
loop-at-preserved g c =
    let text = c.args.text.now in
    let at = c.loop-at.at in
    let rest : take (length text - at) (drop at text) ≡ drop at text = grind (arith, common_steps) in
    let wrote = rw rest at c.in-Ok.ensures.bytes in
    record {
      within = grind arith;
      wrote = appends_take _ _ _ text at c.in-Ok.count c.loop-at.invariant.wrote wrote;
      sound = c.loop-at.invariant.sound;
    }
