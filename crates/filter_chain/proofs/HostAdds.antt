-- A file is added to the files of a host.
use Rattle.std.proofs.Common.{◌≡◌, ℕ, Bool, true, false, cond, List, Option, Some, None, is_some, Result, Ok, Err, refl, sym, ◌∙◌, ap, subst, arith}
use Rattle.std.specs.Str.{bytes_eq}
use Rattle.std.proofs.Math.Path.{fun_ext}
use Rattle.module_code.specs.Program.{Program}
use Rattle.run_model.specs.declared.event.Event.TheVariants as event
use Rattle.run_model.specs.declared.event.Refusal.TheVariants as refusal
use Rattle.run_model.specs.Files.{Files, file_added}
use Rattle.run_model.specs.Worlds.{World, Done, Refused, happens_on}
use Rattle.bucket_kinds.specs.declared.mem_files.MemFiles.{MemFiles}
use Rattle.bucket_kinds.specs.declared.refusal.AddRefusal.{AddRefusal}
use Rattle.bucket_kinds.specs.declared.refusal.AddRefusal.TheVariants as added
use Rattle.bucket_kinds.specs.Device.{Device, Held, Holds, is_there}
use Rattle.bucket_kinds.specs.MemAnswers.{IsAdding}
use Rattle.bucket_kinds.specs.MemDevice.{held_of, device_of}
use Rattle.module_run.specs.Proceeding.{MayHold}
use Rattle.bucket_ring.specs.declared.rings.Rings.{Ghosts}
use Rattle.run_model.specs.declared.payload.Payload.{Payload}
use Rattle.pool_tree.specs.declared.tree.PoolTree.{PoolTree}
use Rattle.bucket_kinds.specs.declared.stored.Stored.{Stored}
use Rattle.brigade_ops.specs.declared.store.Brigades.{Brigades}
use Rattle.module_run.specs.declared.conn.Conn.{Conn}
use Rattle.filter_chain.specs.declared.host.Host.{Host}
use Rattle.filter_chain.specs.Hosting.{HoldsWorld, IsHosting, Happens, Stays, TriesToAdd, chain_of, budget_of}
use Rattle.filter_chain.specs.HostViews.{TellsEvent}
use Rattle.filter_chain.proofs.HostEvents.{happened_on, nothing_told}
use Rattle.filter_chain.proofs.Hosts.{hosted_if}

-- The device, after a file is added.

abbrev with_named : Device → (List ℕ → Held) → Device
with_named d f = record d { named = f }

held_if : (b : Bool) (bytes : List ℕ) (o : Option (List ℕ)) → held_of (cond b (Some bytes) o) ≡ cond b (Holds bytes) (held_of o)
held_if true bytes o = refl
held_if false bytes o = refl

added_device : (fs : Files) (name bytes : List ℕ) (failures : ℕ)
    → device_of (file_added name bytes fs) failures ≡ with_named (device_of fs failures) (λ q. cond (bytes_eq q name) (Holds bytes) (held_of (fs.named q)))
added_device fs name bytes failures = ap (with_named (device_of fs failures)) (fun_ext (λ q. held_if (bytes_eq q name) bytes (fs.named q)))

missing_then : (o : Option (List ℕ)) → o ≡ None → is_there (held_of o) ≡ false
missing_then o none = ap (λ (x : Option (List ℕ)). is_there (held_of x)) none

there_then : (o : Option (List ℕ)) → is_some o ≡ true → is_there (held_of o) ≡ true
there_then None there = absurd (cc)
there_then (Some bytes) there = refl

-- The host stands for the same world where its device gives the same numbers, and has the same files under them.
module _ {R : Type 0} {g : Ghosts R Stored} {budget : ℕ} {chain : List Program} {d : Device} {tree : PoolTree Payload} {store : Brigades R g} {last : ℕ} {conns : ℕ → Option Conn} {w : World}
    (h : HoldsWorld budget chain d tree store last conns w) (e : Device)
    (numbered : e.numbered ≡ d.numbered) (same : e.next ≡ d.next) where
  pub renamed_holds : HoldsWorld budget chain e tree store last conns w
  renamed_holds = record {
    chained = h.chained;
    reached = h.reached;
    last_is = h.last_is;
    pools = h.pools;
    names = h.names;
    files = (let le = h.files in omega (arith, le, same));
    house = h.house;
    open_files = λ file more. ap (λ (f : ℕ → Held). is_there (f file)) numbered ∙ h.open_files file more;
    none = h.none;
    conns = λ k. hosted_if (conns k) (w.conns k) (λ x c at there is. record {
      seen = is.seen;
      opens = λ file bytes kept. subst (λ (held : Held). MayHold held bytes) (sym (ap (λ (f : ℕ → Held). f file) numbered)) (is.opens file bytes kept);
      stacked = is.stacked;
    }) (h.conns k);
    apart = h.apart;
  }

-- Only names of files changed.
module _ {R : Type 0} {g : Ghosts R Stored} (old : Host MemFiles R g) (files : MemFiles) (name bytes : List ℕ) (w : World) (d e : Device) (hosts : IsHosting d old w) where
  abbrev new : Host MemFiles R g
  new = record old { files = files }

  hosts_still : (names : List ℕ → Held) → e ≡ with_named d names → IsHosting e new w
  unfolding IsHosting chain_of budget_of
  hosts_still names is = renamed_holds hosts e (ap (λ (x : Device). x.numbered) is) (ap (λ (x : Device). x.next) is)

  was_added : is_there (d.named name) ≡ false → e ≡ with_named d (λ q. cond (bytes_eq q name) (Holds bytes) (d.named q)) → Happens d e old new 0 (event.AddFile name bytes) Done w
  unfolding happens_on TellsEvent chain_of budget_of IsHosting
  was_added free is = happened_on d e old new 0 w hosts refl refl (event.AddFile name bytes) true nothing_told Done w refl (free, is) tt tt (λ reached. hosts_still _ is)

  not_added : e ≡ d → Happens d e old new 0 (event.AddFile name bytes) (Refused refusal.NoMemory) w
  unfolding happens_on TellsEvent chain_of budget_of IsHosting
  not_added is = happened_on d e old new 0 w hosts refl refl (event.AddFile name bytes) false nothing_told (Refused refusal.NoMemory) w refl is tt tt (λ reached. hosts_still d.named is)

  stays_taken : e ≡ d → Stays d e old new w
  unfolding chain_of budget_of
  stays_taken is = record { same = is; hosts = hosts_still d.named is; chain = refl; budget = refl }

module _ {R : Type 0} {g : Ghosts R Stored} (old : Host MemFiles R g) (files : MemFiles) (name bytes : List ℕ) (w : World) (fs gs : Files) (m n : ℕ) (same : n ≡ m) where
  device_after : (hs : Files) → gs ≡ hs → device_of gs n ≡ device_of hs m
  device_after hs is = ap (device_of gs) same ∙ ap (λ (x : Files). device_of x m) is

  pub tries_to_add : (r : Result (Unit {0}) AddRefusal) → IsHosting (device_of fs m) old w → IsAdding fs name bytes r gs
      → TriesToAdd (device_of fs m) (device_of gs n) old (record old { files = files }) name bytes r w
  tries_to_add (Ok x) hosts (free, is) =
      was_added old files name bytes w (device_of fs m) (device_of gs n) hosts (missing_then (fs.named name) free) (device_after (file_added name bytes fs) is ∙ added_device fs name bytes m)
  tries_to_add (Err added.NoMemory) hosts (free, is) = (missing_then (fs.named name) free, not_added old files name bytes w (device_of fs m) (device_of gs n) hosts (device_after fs is))
  tries_to_add (Err added.Taken) hosts (taken, is) = (there_then (fs.named name) taken, stays_taken old files name bytes w (device_of fs m) (device_of gs n) hosts (device_after fs is))
