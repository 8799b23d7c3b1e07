-- What is owned of the places of a block, and what a `&` to them reaches, where values are of the type R.
use Rattle.std.specs.Prelude.{ℕ, zero, suc, ◌+◌, ◌*◌, ◌^◌, List, [], ◌∷◌, length, Option, Some, None}
use Rattle.std.specs.Mem.{type_size}
use base.Fraction.{full_share}
use base.Fml.{Lft, Fml, ftrue, ffalse, fsep, flt, froom}
use mir.Syntax.{Ty, ty_array}
use mir.Raw.{raw}
use denote.RattleType.{RattleType}
use denote.Memory.{lone, part_at, shared_of}
use denote.Sharing.{nothing, said, beside}
use denote.RawPtr.{Ptr, block_ptr, null_ptr}

module _ (R : RattleType) where
  -- the place that begins o bytes into the block b: room for a value, or a value
  abbrev pub place_owned : ℕ → ℕ → Option R.Denot → Fml
  place_owned b o None = froom (raw (lone R.mir)) b o
  place_owned b o (Some x) = part_at R full_share x b o

  -- places side by side
  abbrev pub run_owned : ℕ → ℕ → List (Option R.Denot) → Fml
  run_owned b o [] = ftrue
  run_owned b o (p ∷ ps) = fsep (place_owned b o p) (run_owned b (o + type_size R) ps)

  -- the same without place k
  abbrev pub gap_owned : ℕ → ℕ → List (Option R.Denot) → ℕ → Fml
  gap_owned b o [] k = ftrue
  gap_owned b o (p ∷ ps) zero = run_owned b (o + type_size R) ps
  gap_owned b o (p ∷ ps) (suc k) = fsep (place_owned b o p) (gap_owned b (o + type_size R) ps k)

  abbrev pub place_shared : ℕ → ℕ → Option R.Denot → Lft → Fml
  place_shared b o None = nothing
  place_shared b o (Some x) = shared_of R x b o

  abbrev pub run_shared : ℕ → ℕ → List (Option R.Denot) → Lft → Fml
  run_shared b o [] = nothing
  run_shared b o (p ∷ ps) = beside (place_shared b o p) (run_shared b (o + type_size R) ps)

  -- a block has fewer than 2 ^ 63 bytes
  abbrev pub is_small : List (Option R.Denot) → Fml
  is_small ps = flt (length ps * type_size R) (2 ^ 63)

  abbrev pub row_owned : Ptr → List (Option R.Denot) → Fml
  row_owned null_ptr ps = ffalse
  row_owned (block_ptr b o) ps = fsep (is_small ps) (run_owned b o ps)

  abbrev pub row_shared : Ptr → List (Option R.Denot) → Lft → Fml
  row_shared null_ptr ps = said ffalse
  row_shared (block_ptr b o) ps = beside (said (is_small ps)) (run_shared b o ps)

  -- what the allocator wants back for a block of n places
  abbrev pub right_owned : (Ty → Ptr → Fml) → Ptr → ℕ → Fml
  right_owned token p n = token (raw (ty_array (lone R.mir) n)) p
