-- The words that the clauses of this crate's code share, from where they are defined.
pub use Rattle.name_table.specs.NameTable.{room_in}
pub use Rattle.bucket_ring.specs.Kept.{IsKept, NoneRevived}
pub use Rattle.bucket_ring.specs.Links.{AreLinked, IsSpot, lists_of, ring_at}
pub use Rattle.bucket_ring.specs.Lists.{by_birth, first_of, found, front, list_at, numbered, on, rest, same, upd, with_payload, without}
pub use Rattle.bucket_ring.specs.Spots.{placed}
pub use Rattle.bucket_ring.specs.Walks.{id_of}
