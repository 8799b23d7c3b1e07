-- Memory that was made ready for a clear.
use Rattle.std.specs.Prelude.{◌≡◌, ℕ, ◌≤◌, [], length, reverse, vec_capacity}
use Rattle.run_model.specs.Pools.{Pools}
use Rattle.run_model.specs.RunOrder.{run_order, turns_under}
use Rattle.pool_tree.specs.declared.tree.clear.Room.{Room}

-- The turns of the pools under this one stand in it, and there is room for all that they and it hand on.
pub record IsRoomFor {T : Type 0} (ps : Pools T) (pool : ℕ) (room : Room T) : Type 0 where
  pub under : reverse room.found.items ≡ turns_under ps pool
  pub empty : room.ran.items ≡ []
  pub fits : length (run_order ps pool) ≤ vec_capacity room.ran
