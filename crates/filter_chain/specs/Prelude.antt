-- The words that the clauses of this crate's code share, from where they are defined.
pub use Rattle.run_model.specs.Steps.{is_spent}
pub use Rattle.run_model.specs.Worlds.{Labels, Refused, World}
pub use Rattle.run_model.specs.declared.event.Event.TheVariants.{Open, TakeOutput, TellLabels}
pub use Rattle.pool_tree.specs.Tree.{map_of}
pub use Rattle.brigade_ops.specs.Store.{next_name}
pub use Rattle.module_run.specs.Conns.{labels_handed}
pub use Rattle.module_run.specs.Happened.{refusal_of}
