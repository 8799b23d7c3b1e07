-- The words that the clauses of this crate's code share, from where they are defined.
pub use Rattle.run_model.specs.Indexed.{upd}
pub use Rattle.run_model.specs.Pools.{cleared, destroyed, is_in, is_live, held_as, with_one, with_plain}
pub use Rattle.run_model.specs.RunOrder.{IsPoolMap, children, last_that, order_under, run_order, turns_under, without_last}
pub use Rattle.run_model.specs.Effects.{pools_after}
pub use Rattle.pool_tree.specs.Handed.{IsOnce, own_of, seen_of, after_turn, after_turns, before_turn}
pub use Rattle.pool_tree.specs.Left.{IsPlace, text_behind, text_left}
pub use Rattle.pool_tree.specs.Links.{IsCleared, IsRefilled}
pub use Rattle.pool_tree.specs.Payloads.{IsLastAt}
pub use Rattle.pool_tree.specs.Printed.{line, margin, marked, marked_all, printed, spaced, spaced_all}
pub use Rattle.pool_tree.specs.Records.{newest_of, older_of, parent_of, payloads_of, record_of}
pub use Rattle.pool_tree.specs.Room.{IsRoomFor}
pub use Rattle.pool_tree.specs.Tree.{map_of}
