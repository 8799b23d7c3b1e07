use Rattle.std.proofs.Common.{◌≡◌, ◌≤◌, ◌+◌, List, subst, arith, length, take, vec_capacity}
use Rattle.std.proofs.lemmas.Result.{IfOk-weaker}
use Rattle.std.specs.List.{flat_map}
use Rattle.std.proofs.lemmas.List.{take_all}
use Rattle.run_model.specs.declared.effect.CleanupKind.TheVariants.{Plain, Pre}
use Rattle.run_model.specs.RunOrder.{Turn, run_order}
use Rattle.pool_tree.specs.Records.{record_of}
use Rattle.pool_tree.specs.Handed.{own_of}
use Rattle.pool_tree.specs.Tree.{map_of}
use Rattle.pool_tree.proofs.Rooms.{own_length, counted_more, run_length}
use Rattle.pool_tree.proofs.tree.PoolTree.room_for.Goals as goal

pub loop-turn-init : goal.loop-turn-init
loop-turn-init g c small = omega (
  arith,
  small,
  c.saturating_add-count.ensures,
  c.payload_count-count.ensures,
  c.payload_count.ensures,
  own_length (record_of c.args.self.now.records) (c.args.pool, Pre),
  own_length (record_of c.args.self.now.records) (c.args.pool, Plain),
)

pub loop-turn-preserved : goal.loop-turn-preserved
loop-turn-preserved g c small =
    let before = c.loop-turn.invariant (omega (arith, small, c.saturating_add-count-in-loop-turn.ensures)) in
    omega (
      arith,
      small,
      before,
      c.saturating_add-count-in-loop-turn.ensures,
      counted_more (record_of c.args.self.now.records) c.args.turns.now c.loop-turn.turn-index _ c.payload_count-in-loop-turn.result c.loop-turn-test.true c.payload_count-in-loop-turn.ensures,
    )

pub returns-clause-room : goal.returns-clause-room
returns-clause-room g c =
    let records = record_of c.args.self.now.records in
    let all : take c.loop-turn.turn-index c.args.turns.now ≡ c.args.turns.now = take_all c.loop-turn.turn-index c.args.turns.now c.loop-turn-test.false in
    let run = run_length c.args.self.now c.args.pool c.args.turns.now c.requires.live c.requires.under in
    IfOk-weaker c.with_capacity.result (λ ran. vec_capacity ran ≡ c.loop-turn.count) (λ ran. length (run_order (map_of c.args.self.now) c.args.pool) ≤ vec_capacity ran)
    (λ ran exact. let counted = c.loop-turn.invariant (omega (arith, exact, ran.small)) in
    omega (arith, exact, run, subst (λ (turns : List Turn). c.loop-turn.count ≡ length (own_of records (c.args.pool, Pre)) + length (own_of records (c.args.pool, Plain)) + length (flat_map (own_of records) turns)) all counted))
    c.with_capacity.ensures.exact
