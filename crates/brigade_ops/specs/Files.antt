-- References to files (apr_pool_cleanup_register).
use Rattle.std.specs.Prelude.{◌≡◌, ℕ, zero, suc, Bool, false, ◌==◌, if◌then◌else◌, List, [], ◌∷◌}
use Rattle.std.specs.Option.{option_map_or}
use Rattle.name_table.specs.NameTable.{value_in}
use Rattle.name_table.specs.declared.table.NameTable.{NameTable}
use Rattle.run_model.specs.declared.payload.Payload.{Payload}
use Rattle.run_model.specs.Payloads.{is_file_ref}
use Rattle.bucket_kinds.specs.Device.{Device}

-- the count that stands under a number; 0 where none does
unfoldable pub count_at : NameTable ℕ → ℕ → ℕ
count_at counts n = option_map_or (λ count. count) (value_in counts n) 0

-- how many references to a file are among what a clear handed on
unfoldable pub refs_in : ℕ → List (ℕ × Payload) → ℕ
refs_in file [] = 0
refs_in file (x ∷ xs) = if is_file_ref file x.1 then suc (refs_in file xs) else refs_in file xs

-- how many of these files are one
unfoldable pub times_in : ℕ → List ℕ → ℕ
times_in file [] = 0
times_in file (f ∷ fs) = if f == file then suc (times_in file fs) else times_in file fs

-- A file is closed where references to it are handed on, and there were no more.
abbrev pub is_let_go : ℕ → ℕ → Bool
is_let_go count zero = false
is_let_go count (suc handed) = count == suc handed

-- Of a device nothing but its open files changed.
pub record SameButOpen (d e : Device) : Type 0 where
  pub named : e.named ≡ d.named
  pub next : e.next ≡ d.next
  pub failures : e.failures ≡ d.failures
  pub plan : e.plan ≡ d.plan
