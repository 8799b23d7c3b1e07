-- A connection of a host that was looked up to be changed.
use Rattle.std.proofs.Common.{◌≡◌, ℕ, Option, Some, None, cond, HashMap, BuildHasherDefault, FoldHasher, refl, sym, ◌∙◌, ap, subst}
use Rattle.std.specs.Borrow.{MutBor}
use Rattle.std.specs.Option.{option_copied_mut, IsSome}
use Rattle.std.specs.Prelude.{nat_eq}
use Rattle.bucket_kinds.specs.declared.stored.Stored.{Stored}
use Rattle.bucket_ring.specs.declared.rings.Rings.{Ghosts}
use Rattle.brigade_ops.specs.declared.store.Brigades.{Brigades}
use Rattle.module_run.specs.declared.conn.Conn.{Conn}
use Rattle.module_run.specs.ConnRuns.{ConnView}
use Rattle.run_model.specs.Indexed.{upd}
use Rattle.filter_chain.specs.declared.conns.Conns.{Conns}
use Rattle.filter_chain.specs.declared.host.Host.{Host}
use Rattle.filter_chain.specs.Hosted.{conn_at}
use Rattle.filter_chain.proofs.HostsLeft.{written_at}

-- It is there at the number, and the table is `table x` once it became x.
pub record IsLent (conns : Conns) (number : ℕ) (conn : Conn) (table : Conn → Conns) : Type 0 where
  pub at : conn_at conns number ≡ Some conn
  pub holds : (x : Conn) (k : ℕ) → conn_at (table x) k ≡ upd (conn_at conns) number (Some x) k

abbrev pub Map : Type 0
Map = HashMap ℕ Conn (BuildHasherDefault FoldHasher)

-- So it is by what the look-up in the map promises.

pub found_at : {r : Option (MutBor Conn)} {conn : MutBor Conn} {o : Option Conn} → r ≡ Some conn → option_copied_mut r ≡ o → o ≡ Some conn.now
found_at is value = sym value ∙ ap option_copied_mut is

pub lent_by : {conns : Conns} {number : ℕ} (lender : Conn → Map) {r : Option (MutBor Conn)} {conn : MutBor Conn} → r ≡ Some conn → option_copied_mut r ≡ conn_at conns number
    → ((x : Conn) → IsSome (conn_at conns number) → (k : ℕ) → conn_at (record { by_number = lender x }) k ≡ cond (nat_eq number k) (Some x) (conn_at conns k))
    → IsLent conns number conn.now (λ x. record { by_number = lender x })
lent_by {conns} {number} lender is value writes =
    let at = found_at is value in
    let there = subst IsSome (sym at) refl in
    record { at = at; holds = λ x k. writes x there k ∙ written_at (conn_at conns) number k (Some x) }

pub nothing_at : {r : Option (MutBor Conn)} {o : Option Conn} → r ≡ None → option_copied_mut r ≡ o → o ≡ None
nothing_at is value = sym value ∙ ap option_copied_mut is

-- what a connection of a host works on, with the connection
abbrev view_on : {R : Type 0} {g : Ghosts R Stored} → Brigades R g → Type 0 → Type 0
view_on {R = R} {g = g} store F = ConnView R g F

abbrev pub ViewIn : {F R : Type 0} {g : Ghosts R Stored} → Host F R g → Type 0
ViewIn {F = F} host = view_on host.store F

-- the host once they are so
abbrev pub host_with : {F R : Type 0} {g : Ghosts R Stored} (host : Host F R g) → (Conn → Conns) → ViewIn host → Host F R g
host_with host table a = record host { conns = table a.conn; tree = a.tree; store = a.store; files = a.files }
