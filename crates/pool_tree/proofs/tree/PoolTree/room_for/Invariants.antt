use Rattle.std.proofs.Common.{◌≡◌, ◌+◌, ◌^◌, ◌<◌, length, take}
use Rattle.std.specs.List.{flat_map}
use Rattle.run_model.specs.declared.effect.CleanupKind.TheVariants.{Plain, Pre}
use Rattle.pool_tree.specs.Records.{record_of}
use Rattle.pool_tree.specs.Handed.{own_of}
use Rattle.pool_tree.proofs.tree.PoolTree.room_for.Given as goal

-- the payloads of the pool itself and of those so far, unless they are more than a list holds
abbrev pub invariant-loop-turn : goal.invariant-loop-turn
invariant-loop-turn g l =
    l.count < 2 ^ 63
    → l.count ≡ length (own_of (record_of l.self.records) (l.pool, Pre)) + length (own_of (record_of l.self.records) (l.pool, Plain)) + length (flat_map (own_of (record_of l.self.records)) (take l.turn-index l.turns))
