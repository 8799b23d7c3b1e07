-- The words that the clauses of this crate's code share, from where they are defined.
pub use Rattle.run_model.specs.Buckets.{is_data_kind}
pub use Rattle.run_model.specs.Cutting.{heap_of, set_aside, split_at}
pub use Rattle.apr_region.specs.Regions.{bytes_at}
pub use Rattle.apr_region.specs.declared.region.Span.{Span}
pub use Rattle.bucket_kinds.specs.Answers.{IsFilled}
pub use Rattle.bucket_kinds.specs.Device.{HasFailed, Holds}
pub use Rattle.bucket_kinds.specs.DiskDevice.{disk_device, fresh_disk}
pub use Rattle.bucket_kinds.specs.InMemory.{Bytes, at_number, under}
pub use Rattle.bucket_kinds.specs.Stored.{EndsInBytes, Look, aside, has_part, keeps_bytes, kept_front, kept_length, kept_rest, own, part}
pub use Rattle.bucket_kinds.specs.Stored.{parts_at, pool_bucket, shown}
