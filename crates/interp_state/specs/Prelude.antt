-- The words that the clauses of this crate's code share, from where they are defined.
pub use Rattle.module_code.specs.Program.{fits, is_variable}
pub use Rattle.run_model.specs.BrigadeLists.{bucket_across, is_short, split_refusal}
pub use Rattle.run_model.specs.BucketSteps.{byte_of, content_at, got, has_rest, is_of_kind, is_unsplit, items_at, kind_is, names_if}
pub use Rattle.run_model.specs.Cursors.{is_end, read_cursor, at_cursor}
pub use Rattle.run_model.specs.Cutting.{length_of}
pub use Rattle.run_model.specs.EffectOf.{instr_with}
pub use Rattle.run_model.specs.Faults.{Anywhere, InBrigade, OnBucket, fault}
pub use Rattle.run_model.specs.Pools.{Pools, is_empty}
pub use Rattle.run_model.specs.State.{is_named, items_of, name_in, pool_named, set_cursor, set_number}
pub use Rattle.run_model.specs.Steps.{Choice, buffer_limit, do_clearbuf, do_put, holds, is_full, is_null, is_spent, jumps_if, lacks_names}
pub use Rattle.run_model.specs.Steps.{last_value, names_for, number_of, pool_names_for, step, value_of}
pub use Rattle.run_model.specs.declared.bucket.Bucket.{Bucket}
pub use Rattle.run_model.specs.declared.bucket.NamedBucket.{NamedBucket}
pub use Rattle.run_model.specs.declared.effect.NewNumber.TheVariants.{LengthAt}
pub use Rattle.run_model.specs.declared.payload.Payload.{Payload}
pub use Rattle.pool_tree.specs.Tree.{map_of}
pub use Rattle.bucket_ring.specs.Lists.{list_at}
pub use Rattle.bucket_ring.specs.declared.names.BucketId.{BucketId}
pub use Rattle.bucket_store.specs.Items.{Items, named_item}
pub use Rattle.bucket_store.specs.Views.{content_of}
pub use Rattle.brigade_ops.specs.Store.{brigade_of, bucket_at, lists, next_name}
pub use Rattle.interp_state.specs.ContextViews.{ContextView}
pub use Rattle.interp_state.specs.Asked.{is_answered}
pub use Rattle.interp_state.specs.Context.{in_context}
pub use Rattle.interp_state.specs.EffectNeeds.{HasNoFault, IsAskable, asks_store, instr_by, is_told}
pub use Rattle.interp_state.specs.Held.{HeldOver, IsHeld}
pub use Rattle.interp_state.specs.Needs.{StandsAs}
pub use Rattle.interp_state.specs.Seen.{item_in, seen, seen_over, shown, shown_cursor}
pub use Rattle.interp_state.specs.Shown.{shown_at}
pub use Rattle.interp_state.specs.Slots.{cursor_at, live_in, slot_at}
