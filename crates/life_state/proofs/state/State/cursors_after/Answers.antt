-- Each cursor moves; beyond the last there is none.
use Rattle.std.proofs.Common.{◌≡◌, length, sym, arith, length-set}
use Rattle.life_state.specs.declared.parts.CursorState.TheVariants as cursor
use Rattle.life_state.specs.Seen.{seen, seen_cursor, motion_of}
use Rattle.life_state.proofs.Arrays.{read_as, one_more}
use Rattle.life_state.proofs.MotionLaws.{motion_past}
use Rattle.life_state.proofs.state.State.cursors_after.Goals as goal

pub loop-k-preserved : goal.loop-k-preserved
loop-k-preserved c = (
  omega (arith, length-set c.loop-k.cursors c.from.result c.motion.result),
  one_more (λ k v. seen_cursor v ≡ motion_of c.args.motion (seen c.args.self.now) k) cursor.Unset c.loop-k.cursors c.loop-k.k c.from.result c.motion.result c.from.ensures
      (omega arith) c.motion.ensures c.loop-k.invariant.1,
)

pub returns : goal.returns
returns c =
    let long : length c.args.self.now.cursors ≡ 9 = omega arith in
    read_as seen_cursor cursor.Unset 9 c.loop-k.cursors (motion_of c.args.motion (seen c.args.self.now)) c.loop-k.invariant.0
    (λ i below. c.loop-k.invariant.1 i (omega arith))
    (λ i past. sym (motion_past c.args.motion c.args.self.now i (omega arith)))
