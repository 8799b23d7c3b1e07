-- Buckets as a store holds them: bytes of a pool may lie in its region.
use Rattle.std.specs.Prelude.{ℕ, ◌+◌, ◌^◌, Bool, true, false, ◌&&◌, nat_le, nat_lt, List, [], length, take, drop, ◌-◌, ◌<◌, Option, None, Some}
use Rattle.std.specs.Option.{option_map_or}
use Rattle.apr_region.specs.declared.region.Span.{Span}
use Rattle.run_model.specs.declared.bucket.Bucket.{Bucket}
use Rattle.run_model.specs.declared.bucket.Content.{Content}
use Rattle.run_model.specs.declared.bucket.Content.TheVariants as content
use Rattle.run_model.specs.declared.bucket.Home.TheVariants as home
use Rattle.run_model.specs.declared.bucket.Kind.TheVariants as kind
use Rattle.run_model.specs.Cutting.{EndsInFile, length_of, front_of, rest_of, set_aside}
use Rattle.bucket_kinds.specs.declared.stored.RegionBytes.{RegionBytes}
use Rattle.bucket_kinds.specs.declared.stored.Kept.{Kept}
use Rattle.bucket_kinds.specs.declared.stored.Kept.TheVariants as kept
use Rattle.bucket_kinds.specs.declared.stored.Stored.{Stored}

-- what a span names in the region of each pool
abbrev pub Look : Type 0
Look = ℕ → Span → Option (List ℕ)

-- a place in the bytes of its span: the bytes there, and whether there are so many, with an end below 2 ^ 64
abbrev pub part : Option (List ℕ) → RegionBytes → List ℕ
part bytes p = take p.len (drop p.start (option_map_or (λ bs. bs) bytes []))

abbrev pub has_part : Option (List ℕ) → RegionBytes → Bool
has_part None p = false
has_part (Some bytes) p = nat_le (p.start + p.len) (length bytes) && nat_lt (p.start + p.len) (2 ^ 64)

-- whether what is kept is there
abbrev pub is_whole : Look → Kept → Bool
is_whole look (kept.Own c) = true
is_whole look (kept.Placed p) = has_part (look p.pool p.span) p

-- what a stored bucket is
abbrev pub shown_content : Look → Kept → Content
shown_content look (kept.Own c) = c
shown_content look (kept.Placed p) = content.Bytes (part (look p.pool p.span) p)

abbrev pub shown : Look → Stored → Bucket
shown look x = record { kind = x.kind; content = shown_content look x.kept; home = x.home }

-- a bucket that keeps its own
abbrev pub own : Bucket → Stored
own x = record { kind = x.kind; kept = kept.Own x.content; home = x.home }

-- a POOL bucket of all bytes that a span names
abbrev pub pool_bucket : ℕ → Span → ℕ → Stored
pool_bucket pool span len = record { kind = kind.Pool pool; kept = kept.Placed (record { pool = pool; span = span; start = 0; len = len }); home = home.Free }

-- how many bytes it stands for, whether an end is below 2 ^ 64, and its two parts at a point
abbrev pub kept_length : Kept → ℕ
kept_length (kept.Own c) = length_of c
kept_length (kept.Placed p) = p.len

abbrev pub EndsInBytes : Kept → Type 0
EndsInBytes (kept.Own c) = EndsInFile c
EndsInBytes (kept.Placed p) = p.start + p.len < 2 ^ 64

abbrev pub kept_front : ℕ → Kept → Kept
kept_front n (kept.Own c) = kept.Own (front_of n c)
kept_front n (kept.Placed p) = kept.Placed (record p { len = n })

abbrev pub kept_rest : ℕ → Kept → Kept
kept_rest n (kept.Own c) = kept.Own (rest_of n c)
kept_rest n (kept.Placed p) = kept.Placed (record p { start = p.start + n; len = p.len - n })

abbrev pub parts_at : ℕ → Stored → Stored × Stored
parts_at n x = (record x { kept = kept_front n x.kept }, record x { kept = kept_rest n x.kept })

-- Setting aside: the kind and the home are those that the model gives, and what is kept stays.
abbrev pub aside : ℕ → Bool → Stored → Stored
aside target above x = (let b = set_aside target above (shown (λ pool s. None) x) in record x { kind = b.kind; home = b.home })

-- whether it keeps bytes of its own: those alone are copied where a bucket is split or copied
abbrev pub keeps_bytes : Kept → Bool
keeps_bytes (kept.Own (content.Bytes bs)) = true
keeps_bytes k = false
