-- The words that the clauses of this crate's code share, from where they are defined.
pub use Rattle.run_model.specs.BrigadeLists.{length_in}
pub use Rattle.run_model.specs.Buckets.{end_pools, is_data_kind, to_heap}
pub use Rattle.run_model.specs.Cutting.{EndsInFile, form_of, form_of_kind, length_of, read_of, set_aside, split_at, wanted}
pub use Rattle.run_model.specs.Files.{is_referred}
pub use Rattle.run_model.specs.Payloads.{is_brigade, is_file_ref, payload_eq}
pub use Rattle.run_model.specs.Pools.{Pools, is_in, is_live, is_under, registered}
pub use Rattle.run_model.specs.RunOrder.{IsPoolMap, killed, run_order}
pub use Rattle.run_model.specs.Steps.{all_referred, file_of, is_above, new_ref}
pub use Rattle.run_model.specs.declared.bucket.Bucket.{Bucket}
pub use Rattle.run_model.specs.Effects.{pools_after}
pub use Rattle.pool_tree.specs.Tree.{map_of, once_more}
pub use Rattle.run_model.specs.declared.effect.ClearKind.TheVariants.{Destroy}
pub use Rattle.bucket_ring.specs.Kept.{NoneRevived}
pub use Rattle.bucket_ring.specs.Lists.{by_birth, first_of, found, list_at, next_in, numbered, on, put_after, put_before, put_head}
pub use Rattle.bucket_ring.specs.Lists.{put_tail, rest, same, upd, with_payload, without}
pub use Rattle.bucket_ring.specs.declared.names.BucketId.{BucketId}
pub use Rattle.bucket_kinds.specs.Device.{HasFailed, Missing, WasAsked, WentWell, is_there}
pub use Rattle.bucket_kinds.specs.Reading.{EndsWithin, GivesFor, IsOpenFor}
pub use Rattle.bucket_kinds.specs.Stored.{Look, is_whole, shown}
pub use Rattle.bucket_kinds.specs.declared.stored.Kept.{Kept}
pub use Rattle.bucket_store.specs.Dependents.{names_of}
pub use Rattle.bucket_store.specs.Due.{home_reached, is_due, kind_reached}
pub use Rattle.bucket_store.specs.Items.{Items, aside_behind, aside_item, before_place, bytes_in, count_for, file_for, from_place, named}
pub use Rattle.bucket_store.specs.Items.{pools_for, range_in, replaced, rest_item}
pub use Rattle.bucket_store.specs.Morphs.{IsAsItWas, all_morphed, cleared_as, given_by, is_named, kind_given, morphed}
pub use Rattle.bucket_store.specs.Noted.{place_of}
pub use Rattle.bucket_store.specs.Points.{cut_at, is_inside, point_in}
pub use Rattle.bucket_store.specs.Regions.{look}
pub use Rattle.bucket_store.specs.Shown.{is_own, lies_right, own_bucket}
pub use Rattle.bucket_store.specs.Views.{bucket_of, content_of}
pub use Rattle.brigade_ops.specs.Due.{is_reached}
pub use Rattle.brigade_ops.specs.Files.{SameButOpen, count_at, is_let_go, refs_in, times_in}
pub use Rattle.brigade_ops.specs.House.{AreOpen, IsHouse, cleared_items, cleared_ring, pool_left}
pub use Rattle.brigade_ops.specs.Reads.{IsAskedFor, IsBucketRead}
pub use Rattle.brigade_ops.specs.Visits.{AreVisited}
