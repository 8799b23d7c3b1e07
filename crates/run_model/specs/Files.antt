-- Files: which can be opened, by name, which are open, by number, and what a read gives.
use Rattle.std.specs.Prelude.{ℕ, zero, suc, ◌+◌, ◌-◌, ◌/◌, Bool, true, false, ◌&&◌, not, nat_le, if◌then◌else◌, List, length, take, drop, Option, Some, None}
use Rattle.std.specs.List.{list_any}
use Rattle.std.specs.Str.{bytes_eq}
use Rattle.run_model.specs.declared.payload.Payload.{Payload}
use Rattle.run_model.specs.Indexed.{upd, any_below}
use Rattle.run_model.specs.Pools.{Pools, all_held}
use Rattle.run_model.specs.Payloads.{is_file_ref}
use Rattle.run_model.specs.Cutting.{read_limit}

-- next is the number that is given next. Where fails_in is told, so many reads go on well, and then one fails.
pub record Files : Type 0 where
  pub named : List ℕ → Option (List ℕ)
  pub opened : ℕ → Option (List ℕ)
  pub next : ℕ
  pub fails_in : Option ℕ

abbrev pub no_files : Files
no_files = record { named = λ name. None; opened = λ n. None; next = 1; fails_in = None }

-- one more file, of this name
abbrev pub file_added : List ℕ → List ℕ → Files → Files
file_added name bytes fs = record fs { named = λ q. if bytes_eq q name then Some bytes else fs.named q }

-- the file of this name is open under the next number
abbrev pub file_opened : List ℕ → Files → Files
file_opened name fs = record fs { opened = upd fs.opened fs.next (fs.named name); next = fs.next + 1 }

-- whether a pool holds a reference to the file
abbrev pub is_referred : Pools Payload → ℕ → Bool
is_referred ps file = any_below ps.next (λ p. list_any (is_file_ref file) (all_held (ps.payloads p)))

-- A file closes where its last reference is handed on by a clear, which left these pools.
abbrev pub let_go : List (ℕ × Payload) → Pools Payload → Files → Files
let_go handed left fs =
    record fs { opened = λ file. if list_any (λ x. is_file_ref file x.1) handed && not (is_referred left file) then None else fs.opened file }

abbrev pub fails_now : Option ℕ → Bool
fails_now None = false
fails_now (Some zero) = true
fails_now (Some (suc n)) = false

abbrev pub fails_after_read : Option ℕ → Option ℕ
fails_after_read None = None
fails_after_read (Some zero) = None
fails_after_read (Some (suc n)) = Some n

-- n bytes of a file from a place on, where it is open and reaches so far
abbrev pub part_of : Option (List ℕ) → ℕ → ℕ → Option (List ℕ)
part_of None at n = None
part_of (Some bytes) at n = if nat_le n (length (drop at bytes)) then Some (take n (drop at bytes)) else None

-- what a read of n bytes gives, unless it fails
unfoldable pub read_part : ℕ → ℕ → ℕ → Files → Option (List ℕ)
read_part file at n fs = if fails_now fs.fails_in then None else part_of (fs.opened file) at n

abbrev pub read_done : Files → Files
read_done fs = record fs { fails_in = fails_after_read fs.fails_in }

-- how many reads a range takes: each is of 8000 bytes at most
abbrev pub parts_of : ℕ → ℕ
parts_of len = (len + (read_limit - 1)) / read_limit
