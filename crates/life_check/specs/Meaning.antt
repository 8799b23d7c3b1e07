-- What a state means: which instances and calls it describes.
use Rattle.std.specs.Prelude.{◌≡◌, ◌⊎◌, ℕ, Bool, true, false, if◌then◌else◌, List, [], ◌∷◌, Some, None}
use Rattle.module_code.specs.Program.{Program}
use Rattle.module_code.specs.declared.instr.PoolRef.{PoolRef}
use Rattle.run_model.specs.declared.bucket.BrigadeVar.{BrigadeVar}
use Rattle.run_model.specs.declared.bucket.BrigadeVar.TheVariants as var
use Rattle.run_model.specs.declared.bucket.Cursor.{Cursor}
use Rattle.run_model.specs.declared.bucket.Cursor.TheVariants as cursor
use Rattle.run_model.specs.declared.bucket.Home.{Home}
use Rattle.run_model.specs.declared.bucket.Home.TheVariants as home
use Rattle.run_model.specs.declared.bucket.Kind.{Kind}
use Rattle.run_model.specs.declared.bucket.Kind.TheVariants as kind
use Rattle.run_model.specs.declared.bucket.Mark.{Mark}
use Rattle.run_model.specs.declared.bucket.Mark.TheVariants.{Usable, Passed}
use Rattle.run_model.specs.declared.bucket.NamedBucket.{NamedBucket}
use Rattle.run_model.specs.declared.bucket.PoolVar.{PoolVar}
use Rattle.run_model.specs.declared.bucket.PoolVar.TheVariants as poolvar
use Rattle.run_model.specs.declared.payload.Payload.{Payload}
use Rattle.run_model.specs.Buckets.{has_data, has_eos, data_after_eos}
use Rattle.run_model.specs.BrigadeLists.{bucket_named}
use Rattle.run_model.specs.BucketSteps.{items_at}
use Rattle.run_model.specs.Faults.{usable_fault}
use Rattle.run_model.specs.Pools.{Pools, is_live}
use Rattle.run_model.specs.Sound.{brigade_name}
use Rattle.run_model.specs.State.{Configuration, PoolView, pool_view, named_at}
use Rattle.life_state.specs.declared.parts.Contents.{Contents}
use Rattle.life_state.specs.declared.parts.Contents.TheVariants.{Empty, Flushes, NoEos, NoLateData, Any}
use Rattle.life_state.specs.declared.parts.Classes.{Classes}
use Rattle.life_state.specs.declared.parts.PoolState.{PoolState}
use Rattle.life_state.specs.PoolOrder.{is_clearable, is_under}
use Rattle.life_state.specs.States.{Homes, BrigadeKnown, CursorKnown, Unset, Loose, In, End, InOrEnd, State}

-- Homes.

-- Why homes cover a live pool n. ByConnection: it is the connection's. ByMember: it is at k, and k is the member d or is declared
-- above it. ByDead: it is a pool of this instance or the request's, and the homes say dead. ByCall: it lives through the call, and
-- the homes say call.
pub data CoversPool (p : Program) (v : PoolView) (lives : Home → Type 0) (h : Homes) (n : ℕ) : Type 0 where
  ByConnection : n ≡ v.conn → CoversPool p v lives h n
  ByMember : (k d : PoolRef) → is_clearable k ≡ true → is_clearable d ≡ true → named_at v k ≡ Some n → h.at d ≡ true → is_under p k d ≡ true → CoversPool p v lives h n
  ByDead : (k : PoolRef) → is_clearable k ≡ true → named_at v k ≡ Some n → h.dead ≡ true → CoversPool p v lives h n
  ByCall : h.call ≡ true → lives (home.Pool n) → CoversPool p v lives h n

-- Which homes of buckets these homes cover. lives: which calls and pools live through the call; never a pool of this instance.
-- (A pool that is no more is no home: it has ended.)
abbrev pub Covers : Program → PoolView → (Home → Type 0) → Homes → Home → Type 0
Covers p v lives h home.Free = Unit {0}
Covers p v lives h (home.Call n) = (h.call ≡ true) × lives (home.Call n)
Covers p v lives h (home.Pool n) = (is_live v.pools n ≡ true) × CoversPool p v lives h n
Covers p v lives h home.Ended = h.dead ≡ true

-- Between calls nothing lives on.
abbrev pub NoneLives : Home → Type 0
NoneLives h = ⊥

-- Buckets.

-- the classes have that of this kind
abbrev pub class_has : Classes → Kind → Bool
class_has t kind.Heap = t.bytes
class_has t kind.Transient = t.bytes
class_has t kind.Immortal = t.bytes
class_has t (kind.Pool p) = t.bytes
class_has t kind.File = t.bytes
class_has t kind.Flush = t.flush
class_has t kind.Eos = t.eos

-- P holds of each bucket
unfoldable pub HoldsOfEach : (NamedBucket → Type 0) → List NamedBucket → Type 0
HoldsOfEach P [] = Unit {0}
HoldsOfEach P (x ∷ xs) = P x × HoldsOfEach P xs

-- what may stand in a brigade of these contents
abbrev pub HoldsContents : Contents → List NamedBucket → Type 0
HoldsContents Empty xs = xs ≡ []
HoldsContents Flushes xs = (has_data xs ≡ false) × (has_eos xs ≡ false)
HoldsContents NoEos xs = has_eos xs ≡ false
HoldsContents NoLateData xs = data_after_eos xs ≡ false
HoldsContents Any xs = Unit {0}

-- Variables. C h x: the homes h cover the home x.

abbrev pub FitsPool : Pools Payload → PoolState → PoolVar → Type 0
FitsPool ps s poolvar.Null = s.null ≡ true
FitsPool ps s (poolvar.Made n) = (if is_live ps n then s.live else s.gone) ≡ true

abbrev pub FitsMark : (Homes → Home → Type 0) → BrigadeKnown → Mark → List NamedBucket → Type 0
FitsMark C s Usable xs = (s.usable ≡ true) × HoldsContents s.content xs × HoldsOfEach (λ x. C s.homes x.bucket.home) xs
FitsMark C s Passed xs = s.passed ≡ true

abbrev pub FitsBrigade : (Homes → Home → Type 0) → BrigadeKnown → BrigadeVar → Type 0
FitsBrigade C s var.Null = s.null ≡ true
FitsBrigade C s var.Gone = s.gone ≡ true
FitsBrigade C s (var.Live v) = (s.live ≡ true) × FitsMark C s v.mark v.items

-- Cursors.

-- at a loose bucket
pub record IsAtLoose (C : Homes → Home → Type 0) (r : Configuration) (v : Cursor) (t : Classes) (h : Homes) : Type 0 where
  pub bucket : NamedBucket
  pub at : v ≡ cursor.At bucket.name
  pub there : bucket_named bucket.name r.call.loose ≡ Some bucket
  pub classed : class_has t bucket.bucket.kind ≡ true
  pub covered : C h bucket.bucket.home

-- at a bucket of the brigade of b, which may be used
pub record IsAtBucketOf (r : Configuration) (v : Cursor) (b : ℕ) (t : Classes) : Type 0 where
  pub bucket : NamedBucket
  pub at : v ≡ cursor.At bucket.name
  pub there : bucket_named bucket.name (items_at r b) ≡ Some bucket
  pub classed : class_has t bucket.bucket.kind ≡ true
  pub usable : usable_fault (r.instance.brigades b) ≡ None

-- the end of the brigade of b, which may be used
pub record IsEndOf (r : Configuration) (v : Cursor) (b : ℕ) : Type 0 where
  pub called : ℕ
  pub at : v ≡ cursor.End called
  pub there : brigade_name (r.instance.brigades b) ≡ Some called
  pub usable : usable_fault (r.instance.brigades b) ≡ None

abbrev pub FitsCursor : (Homes → Home → Type 0) → Configuration → CursorKnown → Cursor → Type 0
FitsCursor C r Unset v = Unit {0}
FitsCursor C r (Loose t h) v = IsAtLoose C r v t h
FitsCursor C r (In b t) v = IsAtBucketOf r v b t
FitsCursor C r (End b) v = IsEndOf r v b
FitsCursor C r (InOrEnd b t) v = IsAtBucketOf r v b t ⊎ IsEndOf r v b

-- two cursors are not at one bucket
abbrev pub Differ : Cursor → Cursor → Type 0
Differ v w = (n : ℕ) → v ≡ cursor.At n → w ≡ cursor.At n → ⊥

-- A state describes an instance and its call.
pub record Fits (C : Homes → Home → Type 0) (s : State) (r : Configuration) : Type 0 where
  pub sent : r.instance.sent ≡ true → s.sent ≡ true
  pub pools : (q : ℕ) → FitsPool r.shared.pools (s.pools q) (r.instance.pools q)
  pub brigades : (b : ℕ) → FitsBrigade C (s.brigades b) (r.instance.brigades b)
  pub cursors : (c : ℕ) → FitsCursor C r (s.cursors c) (r.call.cursors c)
  pub facts : (c d : ℕ) → s.facts c d ≡ true → Differ (r.call.cursors c) (r.call.cursors d)

-- The homes that are covered between calls.
abbrev pub Between : Program → Configuration → Homes → Home → Type 0
Between p r = Covers p (pool_view r) NoneLives
