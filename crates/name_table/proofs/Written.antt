-- A name that is written as a number is written as its bytes.
use Rattle.std.specs.Prelude.{◌≡◌, ℕ, ◌<◌, ◌^◌}
use Rattle.std.specs.Hash.{le_bytes}
use Rattle.std.proofs.lemmas.Nat.{from_le_bytes-to_le_bytes_8}
use Rattle.name_table.specs.Hashing.{name_written}

pub written_whole : (old name : ℕ) → name < 2 ^ 64 → name_written old (le_bytes 8 name) ≡ name
unfolding le_bytes
written_whole old name below = from_le_bytes-to_le_bytes_8 name below
