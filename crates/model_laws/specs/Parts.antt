-- A connection's part of the one pool map that all connections share: the root, and what stands at its own pool and under it.
use Rattle.run_model.specs.declared.effect.CleanupKind.{CleanupKind}
use Rattle.std.specs.Prelude.{◌≡◌, ◌≢◌, ℕ, ◌+◌, Bool, true, false, ◌||◌, if◌then◌else◌, List, [], ◌∷◌}
use Rattle.run_model.specs.declared.payload.Payload.{Payload}
use Rattle.run_model.specs.Pools.{Pools, is_in, is_live, is_under, planted, created, registered_as, no_cleanups, cleared, destroyed}
use Rattle.run_model.specs.RunOrder.{IsPoolMap, killed, run_order}

-- whether a path is that of the root
abbrev pub is_top : List ℕ → Bool
is_top [] = false
is_top (n ∷ []) = true
is_top (n ∷ parent ∷ above) = false

-- whether it is that of the root, or goes through c
abbrev pub belongs : ℕ → List ℕ → Bool
belongs c path = is_top path || is_in c path

-- The part of the pool c. Next names are shared by all.
unfoldable pub part : {T : Type 0} → ℕ → Pools T → Pools T
part c ps = record {
  path = λ n. if belongs c (ps.path n) then ps.path n else [];
  payloads = λ n. if belongs c (ps.path n) then ps.payloads n else no_cleanups;
  next = ps.next;
}

-- The pools are a tree, in which c stands right under the root.
pub record HasPart {T : Type 0} (ps : Pools T) (c : ℕ) : Type 0 where
  pub formed : IsPoolMap ps
  pub root : ℕ
  pub top : ps.path c ≡ c ∷ root ∷ []

-- What is done to a pool.
pub data Change : Type 0 where
  -- a pool is made under it
  Made : Change
  Registered : CleanupKind → Payload → Change
  -- of its payloads that pass the test the newest goes
  Killed : (Payload → Bool) → Change
  Cleared : Change
  Destroyed : Change

abbrev pub changed : Change → ℕ → Pools Payload → Pools Payload
changed Made p ps = created p ps
changed (Registered how x) p ps = registered_as how p x ps
changed (Killed test) p ps = killed p test ps
changed Cleared p ps = cleared p ps
changed Destroyed p ps = destroyed p ps

-- The laws, as statements.

abbrev pub PartIsPoolMap : Type 0
PartIsPoolMap = (c : ℕ) (ps : Pools Payload) → HasPart ps c → HasPart (part c ps) c

-- What is done to a pool under c is done to it in the part of c.
abbrev pub OwnPartChanges : Type 0
OwnPartChanges = (change : Change) (c p : ℕ) (ps : Pools Payload) → HasPart ps c → is_under ps c p ≡ true → part c (changed change p ps) ≡ changed change p (part c ps)

-- Of another part it changes the next name at most.
abbrev pub OtherPartsStay : Type 0
OtherPartsStay = (change : Change) (c d p : ℕ) (ps : Pools Payload) → HasPart ps c → HasPart ps d → c ≢ d → is_under ps c p ≡ true
    → part d (changed change p ps) ≡ record (part d ps) { next = (changed change p ps).next }

-- The root stays as it is.
pub record RootStays (root : ℕ) (ps new : Pools Payload) : Type 0 where
  pub path : new.path root ≡ ps.path root
  pub payloads : new.payloads root ≡ ps.payloads root

abbrev pub ChangesSpareTheRoot : Type 0
ChangesSpareTheRoot = (change : Change) (c p : ℕ) (ps : Pools Payload) (h : HasPart ps c) → is_under ps c p ≡ true → RootStays h.root ps (changed change p ps)

-- A pool that is made under the root, on which nothing is registered, is a part of its own: that of an only connection.
abbrev pub NewPartIsPlanted : Type 0
NewPartIsPlanted = (root : ℕ) (ps : Pools Payload) → IsPoolMap ps → ps.path root ≡ root ∷ [] → ps.payloads root ≡ no_cleanups
    → part ps.next (created root ps) ≡ created root (record (planted root) { next = ps.next })

-- Of other parts it changes the next name alone.
abbrev pub NewPartSparesOthers : Type 0
NewPartSparesOthers = (d root : ℕ) (ps : Pools Payload) → HasPart ps d → ps.path root ≡ root ∷ [] → part d (created root ps) ≡ record (part d ps) { next = ps.next + 1 }

-- The names of a part read the same in the part and in the whole.
pub record ReadsAlike (c : ℕ) (ps : Pools Payload) : Type 0 where
  pub path : (p : ℕ) → is_under ps c p ≡ true → (part c ps).path p ≡ ps.path p
  pub live : (p : ℕ) → is_under ps c p ≡ true → is_live (part c ps) p ≡ true
  pub under : (p n : ℕ) → is_under ps c p ≡ true → is_under (part c ps) p n ≡ is_under ps p n
  pub above : (p n : ℕ) → is_under ps c p ≡ true → is_under (part c ps) n p ≡ is_under ps n p
  pub order : (p : ℕ) → is_under ps c p ≡ true → run_order (part c ps) p ≡ run_order ps p

abbrev pub PartReadsAlike : Type 0
PartReadsAlike = (c : ℕ) (ps : Pools Payload) → HasPart ps c → ReadsAlike c ps
