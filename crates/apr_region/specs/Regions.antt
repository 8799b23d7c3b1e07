-- Regions as maps from spans to bytes.
use Rattle.std.specs.Prelude.{ℕ, ◌+◌, if◌then◌else◌, nat_lt, List, Option, None, Some, slice_get}
use Rattle.std.specs.Option.{option_and_then}
use Rattle.raw_block.specs.Maps.{read}
use Rattle.raw_block.specs.Blocks.{at}
use Rattle.apr_region.specs.declared.chunk.Chunk.{Chunk}
use Rattle.apr_region.specs.declared.region.Span.{Span}
use Rattle.apr_region.specs.declared.region.Region.{Region}

-- len bytes of a chunk, from start on, where it has so many
unfoldable pub run : ℕ → ℕ → Chunk → Option (List ℕ)
run start len c = if nat_lt c.used (start + len) then None else Some (read (at c.block) start len)

unfoldable pub bytes_in : List Chunk → Span → Option (List ℕ)
bytes_in chunks s = option_and_then (run s.start s.len) (slice_get chunks s.chunk)

-- the bytes that a span names
abbrev pub bytes_at : Region → Span → Option (List ℕ)
bytes_at r s = bytes_in r.chunks.items s
