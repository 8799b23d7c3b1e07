-- The words that the clauses of this crate's code share, from where they are defined.
pub use Rattle.run_model.specs.Pools.{is_in}
pub use Rattle.run_model.specs.declared.bucket.Bucket.{Bucket}
pub use Rattle.apr_region.specs.declared.region.Span.{Span}
pub use Rattle.bucket_ring.specs.Kept.{IsKept, NoneRevived}
pub use Rattle.bucket_ring.specs.Lists.{by_birth, first_of, found, front, list_at, next_in, numbered, on, put_after, put_before, put_head}
pub use Rattle.bucket_ring.specs.Lists.{put_tail, rest, same, upd, with_payload, without}
pub use Rattle.bucket_ring.specs.declared.names.BucketId.{BucketId}
pub use Rattle.bucket_kinds.specs.Stored.{is_whole, shown, shown_content}
pub use Rattle.bucket_kinds.specs.declared.stored.Kept.{Kept}
pub use Rattle.bucket_store.specs.Dependents.{StayNoted, names_of, noted}
pub use Rattle.bucket_store.specs.Items.{Items, StoredItems, from_place}
pub use Rattle.bucket_store.specs.Noted.{AreNoted, NoneDepends, bucket_named, held_under, home_under, is_noted, kind_under, place_of, place_under, still_under}
pub use Rattle.bucket_store.specs.Regions.{look}
pub use Rattle.bucket_store.specs.Shown.{AreHeld, is_held, is_own, lies_right, own_bucket}
