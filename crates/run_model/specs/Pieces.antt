-- The pieces that are brought: the bucket of each, and those that are refused.
use Rattle.std.specs.Prelude.{ℕ, ◌+◌, Bool, false, ◌&&◌, ◌||◌, not, nat_le, List, [], ◌∷◌, ◌==◌}
use Rattle.std.specs.List.{list_any}
use Rattle.run_model.specs.declared.bucket.Kind.TheVariants as kind
use Rattle.run_model.specs.declared.bucket.Content.TheVariants as content
use Rattle.run_model.specs.declared.bucket.Home.TheVariants as home
use Rattle.run_model.specs.declared.bucket.Bucket.{Bucket}
use Rattle.run_model.specs.declared.bucket.NamedBucket.{NamedBucket}
use Rattle.run_model.specs.declared.event.Piece.{Piece}
use Rattle.run_model.specs.declared.event.Piece.TheVariants as piece
use Rattle.run_model.specs.Buckets.{is_data_kind, is_eos_kind}

-- The bucket of a piece that is brought to a call of this name, in a request of this pool.
abbrev pub bucket_of : ℕ → ℕ → Piece → Bucket
bucket_of call req (piece.Heap bytes) = record { kind = kind.Heap; content = content.Bytes bytes; home = home.Free }
bucket_of call req (piece.Transient bytes) = record { kind = kind.Transient; content = content.Bytes bytes; home = home.Call call }
bucket_of call req (piece.Immortal bytes) = record { kind = kind.Immortal; content = content.Bytes bytes; home = home.Free }
bucket_of call req (piece.Pool bytes) = record { kind = kind.Pool req; content = content.Bytes bytes; home = home.Free }
bucket_of call req (piece.File file start len) = record { kind = kind.File; content = content.Range file start len; home = home.Pool req }
bucket_of call req piece.Flush = record { kind = kind.Flush; content = content.Nothing; home = home.Free }
bucket_of call req piece.Eos = record { kind = kind.Eos; content = content.Nothing; home = home.Free }

-- the buckets of the pieces, with names from n on
abbrev pub named_from : (Piece → Bucket) → ℕ → List Piece → List NamedBucket
named_from make n [] = []
named_from make n (x ∷ xs) = (record { name = n; bucket = make x }) ∷ named_from make (n + 1) xs

abbrev pub is_data_piece : Piece → Bool
is_data_piece x = is_data_kind (bucket_of 0 0 x).kind

abbrev pub is_eos_piece : Piece → Bool
is_eos_piece x = is_eos_kind (bucket_of 0 0 x).kind

-- whether a data piece stands behind an EOS
abbrev pub data_behind_eos : List Piece → Bool
data_behind_eos [] = false
data_behind_eos (x ∷ xs) = (is_eos_piece x && list_any is_data_piece xs) || data_behind_eos xs

-- Whether a file of this number was opened in this request and reaches so far. (Numbers are given once.)
abbrev pub has_range : List (ℕ × ℕ) → ℕ → ℕ → Bool
has_range files file end = list_any (λ f. f.0 == file && nat_le end f.1) files

-- whether a piece is a range that no file of the request has
abbrev pub lacks_file : List (ℕ × ℕ) → Piece → Bool
lacks_file files (piece.File file start len) = not (has_range files file (start + len))
lacks_file files x = false
