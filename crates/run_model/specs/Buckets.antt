-- Buckets: which are data, and what becomes of their homes (apr_buckets.h).
use Rattle.std.specs.Prelude.{ℕ, Bool, true, false, ◌&&◌, ◌||◌, ◌==◌, if◌then◌else◌, List, [], ◌∷◌}
use Rattle.std.specs.List.{list_any}
use Rattle.run_model.specs.declared.bucket.Kind.{Kind}
use Rattle.run_model.specs.declared.bucket.Kind.TheVariants as kind
use Rattle.run_model.specs.declared.bucket.Home.{Home}
use Rattle.run_model.specs.declared.bucket.Home.TheVariants as home
use Rattle.run_model.specs.declared.bucket.NamedBucket.{NamedBucket}

-- Every kind but FLUSH and EOS is data, also where it is empty.
abbrev pub is_data_kind : Kind → Bool
is_data_kind kind.Heap = true
is_data_kind kind.Transient = true
is_data_kind kind.Immortal = true
is_data_kind (kind.Pool p) = true
is_data_kind kind.File = true
is_data_kind kind.Flush = false
is_data_kind kind.Eos = false

abbrev pub is_eos_kind : Kind → Bool
is_eos_kind kind.Heap = false
is_eos_kind kind.Transient = false
is_eos_kind kind.Immortal = false
is_eos_kind (kind.Pool p) = false
is_eos_kind kind.File = false
is_eos_kind kind.Flush = false
is_eos_kind kind.Eos = true

abbrev pub is_data : NamedBucket → Bool
is_data b = is_data_kind b.bucket.kind

abbrev pub is_eos : NamedBucket → Bool
is_eos b = is_eos_kind b.bucket.kind

abbrev pub has_data : List NamedBucket → Bool
has_data = list_any is_data

abbrev pub has_eos : List NamedBucket → Bool
has_eos = list_any is_eos

-- whether data stands behind an EOS of the list
abbrev pub data_after_eos : List NamedBucket → Bool
data_after_eos [] = false
data_after_eos (b ∷ bs) = (is_eos b && has_data bs) || data_after_eos bs

abbrev pub is_ended : Home → Bool
is_ended home.Free = false
is_ended (home.Call n) = false
is_ended (home.Pool n) = false
is_ended home.Ended = true

abbrev pub is_dead : NamedBucket → Bool
is_dead b = is_ended b.bucket.home

-- A return ends the homes that are its call.
abbrev pub end_call : ℕ → Home → Home
end_call call home.Free = home.Free
end_call call (home.Call n) = if n == call then home.Ended else home.Call n
end_call call (home.Pool n) = home.Pool n
end_call call home.Ended = home.Ended

-- A clear ends the homes that are pools of those that it reaches.
abbrev pub end_pools : (ℕ → Bool) → Home → Home
end_pools reached home.Free = home.Free
end_pools reached (home.Call n) = home.Call n
end_pools reached (home.Pool n) = if reached n then home.Ended else home.Pool n
end_pools reached home.Ended = home.Ended

-- The bytes of a POOL bucket go to the heap where their pool is cleared.
abbrev pub to_heap : (ℕ → Bool) → Kind → Kind
to_heap reached kind.Heap = kind.Heap
to_heap reached kind.Transient = kind.Transient
to_heap reached kind.Immortal = kind.Immortal
to_heap reached (kind.Pool p) = if reached p then kind.Heap else kind.Pool p
to_heap reached kind.File = kind.File
to_heap reached kind.Flush = kind.Flush
to_heap reached kind.Eos = kind.Eos

abbrev pub returned_bucket : ℕ → NamedBucket → NamedBucket
returned_bucket call b = record b { bucket = record b.bucket { home = end_call call b.bucket.home } }

abbrev pub cleared_bucket : (ℕ → Bool) → NamedBucket → NamedBucket
cleared_bucket reached b = record b { bucket = record b.bucket { kind = to_heap reached b.bucket.kind; home = end_pools reached b.bucket.home } }
