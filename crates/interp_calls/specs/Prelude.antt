-- The words that the clauses of this crate's code share, from where they are defined.
pub use Rattle.run_model.specs.BrigadeLists.{length_in}
pub use Rattle.run_model.specs.Buckets.{has_eos, is_eos_kind}
pub use Rattle.run_model.specs.Cutting.{EndsInFile, length_of, read_limit}
pub use Rattle.run_model.specs.State.{items_of, set_brigade}
pub use Rattle.run_model.specs.Steps.{do_pass, do_return, has_bytes}
pub use Rattle.run_model.specs.declared.bucket.Bucket.{Bucket}
pub use Rattle.bucket_ring.specs.Kept.{NoneRevived}
pub use Rattle.bucket_ring.specs.Lists.{list_at, upd}
pub use Rattle.bucket_ring.specs.declared.names.BucketId.{BucketId}
pub use Rattle.bucket_kinds.specs.Device.{counts, is_there}
pub use Rattle.bucket_kinds.specs.Reading.{IsOpenFor}
pub use Rattle.bucket_store.specs.Items.{from_place, named}
pub use Rattle.bucket_store.specs.Views.{content_of}
pub use Rattle.brigade_ops.specs.Store.{brigade_of, bucket_at, lists, next_name, pool_of, references}
pub use Rattle.interp_state.specs.ContextViews.{ContextView}
pub use Rattle.interp_state.specs.Contents.{contents}
pub use Rattle.interp_state.specs.Ends.{EndInFiles}
pub use Rattle.interp_state.specs.Given.{RangeIsOpen}
pub use Rattle.interp_state.specs.Held.{IsHeld}
pub use Rattle.interp_state.specs.LeftAlone.{LeavesForeign}
pub use Rattle.interp_state.specs.Seen.{calls_in, seen, shown, shown_slot}
pub use Rattle.interp_state.specs.Slots.{SameButSlots, cursor_at, live_in, marked, name_in, slot_at}
pub use Rattle.interp_state.specs.declared.machine.Call.{Call}
pub use Rattle.interp_calls.specs.Begun.{begun_as}
pub use Rattle.interp_calls.specs.Delivery.{ContentAdded, HasFront, IsFetched, ItemsAdded, SpanAdded, WasDelivered, out_of}
pub use Rattle.interp_calls.specs.Filled.{HasRoomFor, bytes_before_eos, end_after, reads, text}
pub use Rattle.interp_calls.specs.Handed.{lent}
