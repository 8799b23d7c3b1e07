-- What spans name in the regions of pools.
use Rattle.std.specs.Prelude.{ℕ, Option, List, nat_eq}
use Rattle.std.specs.HashMap.{get}
use Rattle.std.specs.Option.{option_and_then}
use Rattle.apr_region.specs.declared.region.Region.{Region}
use Rattle.apr_region.specs.declared.region.Span.{Span}
use Rattle.apr_region.specs.Regions.{bytes_at}
use Rattle.bucket_store.specs.declared.regions.Regions.{Regions}

-- the bytes that a span names in the region of a pool
unfoldable pub look : Regions → ℕ → Span → Option (List ℕ)
look regions pool s = option_and_then (λ (r : Region). bytes_at r s) (get nat_eq regions.by_pool pool)
