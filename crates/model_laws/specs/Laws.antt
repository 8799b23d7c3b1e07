-- The laws of the definitions, as statements.
use Rattle.std.specs.Prelude.{◌≡◌, ◌≢◌, ℕ, ◌+◌, ◌≤◌, Bool, true, false, ◌==◌, ◌||◌, if◌then◌else◌, ◌⊎◌, List, [], ◌∷◌, ◌++◌, map, filter, reverse, take, drop, Option, is_some, Some, None, All}
use Rattle.module_code.specs.declared.instr.Instr.{Instr}
use Rattle.module_code.specs.Program.{Program, IsModule, fits}
use Rattle.run_model.specs.declared.bucket.Brigade.{Brigade}
use Rattle.run_model.specs.declared.bucket.Bucket.{Bucket}
use Rattle.run_model.specs.declared.bucket.Content.{Content}
use Rattle.run_model.specs.declared.bucket.Content.TheVariants as content
use Rattle.run_model.specs.declared.bucket.NamedBucket.{NamedBucket}
use Rattle.run_model.specs.declared.bucket.BrigadeVar.{BrigadeVar}
use Rattle.run_model.specs.declared.bucket.BrigadeVar.TheVariants as var
use Rattle.run_model.specs.declared.event.Piece.{Piece}
use Rattle.run_model.specs.Buckets.{has_eos, data_after_eos, is_dead}
use Rattle.run_model.specs.Files.{is_referred}
use Rattle.run_model.specs.Cutting.{FitsKind, wanted, read_of}
use Rattle.run_model.specs.State.{Configuration, items_of}
use Rattle.run_model.specs.Cursors.{CursorPlace, Nowhere, AtLoose, Within, AtEndOf, at_cursor, read_cursor}
use Rattle.run_model.specs.Faults.{fault, send_fault, or_else}
use Rattle.run_model.specs.declared.effect.Effect.{Effect}
use Rattle.run_model.specs.declared.effect.Effect.TheVariants as effect
use Rattle.run_model.specs.EffectOf.{effect_of}
use Rattle.run_model.specs.Changes.{extent, has_pools, has_all_under}
use Rattle.run_model.specs.Steps.{Choice, step, aside_named, lacks_names, names_for, pool_cleared, pool_destroyed, label_registered, label_killed}
use Rattle.run_model.specs.Pieces.{bucket_of, named_from, data_behind_eos, has_range}
use Rattle.run_model.specs.Sound.{NamesStep, SoundNames, SoundBuckets, SoundPools, Sound, brigade_pool}
use Rattle.run_model.specs.declared.bucket.Kind.TheVariants as kind
use Rattle.run_model.specs.declared.bucket.Home.{Home}
use Rattle.run_model.specs.declared.bucket.Home.TheVariants as home
use Rattle.run_model.specs.declared.payload.Payload.{Payload}
use Rattle.run_model.specs.declared.payload.Payload.TheVariants as payload
use Rattle.run_model.specs.declared.effect.CleanupKind.TheVariants.{Plain}
use Rattle.run_model.specs.Pools.{Pools, no_cleanups, is_live, is_under, created, cleared, destroyed}
use Rattle.run_model.specs.RunOrder.{IsPoolMap, runs_within, run_order}
use Rattle.std.specs.List.{list_any, AllZip}
use Rattle.run_model.specs.Payloads.{is_file_ref, labels_in}
use Rattle.run_model.specs.Clearing.{is_reached}
use Rattle.run_model.specs.Holding.{refers}

-- An instruction of a module may be executed: it has no fault, and the names that it gives out are there.
pub record MayExecute (p : Program) (r : Configuration) (i : Instr) : Type 0 where
  pub proper : IsModule p
  pub fit : fits p i ≡ true
  pub faultless : fault p r i ≡ None
  pub names_last : lacks_names r i ≡ false

-- A step without a fault leaves of each name that was given out no more buckets than there were, and gives each new name
-- once.
abbrev pub StepGivesNames : Type 0
StepGivesNames = (p : Program) (choice : Choice) (i : Instr) (r : Configuration) → MayExecute p r i → NamesStep r (step p choice i r).state

-- Such a change keeps each name one bucket's, and new names new.
abbrev pub NamesStaySingle : Type 0
NamesStaySingle = (r new : Configuration) → NamesStep r new → SoundNames r → SoundNames new

-- So does a step without a fault.
abbrev pub StepKeepsNames : Type 0
StepKeepsNames = (p : Program) (choice : Choice) (i : Instr) (r : Configuration) → MayExecute p r i → SoundNames r → SoundNames (step p choice i r).state

-- It keeps each bucket's home and content as its kind has them.
abbrev pub StepKeepsBuckets : Type 0
StepKeepsBuckets = (p : Program) (choice : Choice) (i : Instr) (r : Configuration) → MayExecute p r i → SoundBuckets r → SoundBuckets (step p choice i r).state

-- It keeps each brigade on a live pool.
abbrev pub StepKeepsPools : Type 0
StepKeepsPools = (p : Program) (choice : Choice) (i : Instr) (r : Configuration) → MayExecute p r i → SoundPools r → SoundPools (step p choice i r).state

-- whether a cursor stands at a bucket of the brigade in this variable
abbrev pub is_within : CursorPlace → ℕ → Bool
is_within Nowhere k = false
is_within (AtLoose x) k = false
is_within (Within b x) k = k == b
is_within (AtEndOf b) k = false

abbrev pub is_loose : CursorPlace → Bool
is_loose Nowhere = false
is_loose (AtLoose x) = true
is_loose (Within b x) = false
is_loose (AtEndOf b) = false

-- the brigade variables that an effect may change
abbrev pub may_change : Configuration → Effect → ℕ → Bool
may_change r (effect.EmptyPool how q) k = true
may_change r (effect.MakeBrigade o) k = k == o
may_change r (effect.Clean b) k = k == b
may_change r (effect.Concat a b) k = k == a || k == b
may_change r (effect.SplitBrigade b c a) k = k == b || k == a
may_change r (effect.PartBrigade b x c) k = k == b
may_change r (effect.Save o b) k = k == o || k == b
may_change r (effect.Pass b) k = k == b
may_change r (effect.Unlink c) k = is_within (at_cursor r c) k
may_change r (effect.Delete c) k = is_within (at_cursor r c) k
may_change r (effect.Insert side b c) k = k == b
may_change r (effect.Before c d) k = is_within (at_cursor r d) k
may_change r (effect.Split c x) k = is_within (at_cursor r c) k
may_change r (effect.Aside c q) k = is_within (at_cursor r c) k
may_change r (effect.Read c) k = is_within (at_cursor r c) k
may_change r effect.Return k = true
may_change r e k = false

-- the pool variables that it may change
abbrev pub may_change_pool : Effect → ℕ → Bool
may_change_pool (effect.MakePool q) k = k == q
may_change_pool e k = false

-- the number variables that it may change
abbrev pub may_change_number : Effect → ℕ → Bool
may_change_number (effect.Number n number) k = k == n
may_change_number e k = false

-- the cursors that it may change
abbrev pub may_change_cursor : Effect → ℕ → Bool
may_change_cursor (effect.PartBrigade b x c) k = k == c
may_change_cursor (effect.First c b) k = k == c
may_change_cursor (effect.Next d c) k = k == d
may_change_cursor (effect.Make c source) k = k == c
may_change_cursor (effect.Read c) k = k == read_cursor
may_change_cursor effect.Return k = true
may_change_cursor e k = false

-- whether it may change which buckets are loose, or one of them
abbrev pub may_change_loose : Configuration → Effect → Bool
may_change_loose r (effect.EmptyPool how q) = true
may_change_loose r (effect.Unlink c) = true
may_change_loose r (effect.Delete c) = is_loose (at_cursor r c)
may_change_loose r (effect.Insert side b c) = true
may_change_loose r (effect.Before c d) = true
may_change_loose r (effect.Make c source) = true
may_change_loose r (effect.Aside c q) = is_loose (at_cursor r c)
may_change_loose r effect.Return = true
may_change_loose r e = false

-- whether it may change the call's buffer
abbrev pub may_change_buffer : Effect → Bool
may_change_buffer (effect.Put x) = true
may_change_buffer effect.ClearBuffer = true
may_change_buffer effect.Return = true
may_change_buffer e = false

-- whether it may change whether an EOS was passed
abbrev pub may_change_sent : Effect → Bool
may_change_sent (effect.Pass b) = true
may_change_sent e = false

-- whether by it the instance leaves its chain
abbrev pub may_change_left : Effect → Bool
may_change_left effect.Leave = true
may_change_left e = false

-- whether it may change the call's name
abbrev pub may_change_call_name : Effect → Bool
may_change_call_name effect.Return = true
may_change_call_name e = false

-- whether labels may be run by it, and files closed
abbrev pub may_change_labels : Effect → Bool
may_change_labels e = has_all_under (extent e)

-- whether it may change the pool map
abbrev pub may_change_tree : Effect → Bool
may_change_tree e = has_pools (extent e)

abbrev pub is_return : Instr → Bool
is_return i = may_change_call_name (effect_of i)

abbrev pub is_clear : Instr → Bool
is_clear i = may_change_labels (effect_of i)

-- whether an instruction may change the pool map
abbrev pub changes_pools : Instr → Bool
changes_pools i = may_change_tree (effect_of i)

-- What an effect does not name, or stand at by a cursor, is as before: other brigades, pool variables, numbers and
-- cursors, the loose buckets and the buffer, but for a pass whether an EOS was passed, and but for `leave` whether the instance has left. Pools change by their own
-- effects, where a brigade is made and where a file gets a reference; labels are run and files closed by clears
-- alone; no more names are given out than it wants. The place in the code is as before (the host sets it), and so is the
-- call's name, but for a return.
pub record ChangesOnly (e : Effect) (r new : Configuration) : Type 0 where
  pub brigades : (k : ℕ) → may_change r e k ≡ false → new.instance.brigades k ≡ r.instance.brigades k
  pub pools : (k : ℕ) → may_change_pool e k ≡ false → new.instance.pools k ≡ r.instance.pools k
  pub numbers : (k : ℕ) → may_change_number e k ≡ false → new.instance.numbers k ≡ r.instance.numbers k
  pub sent : may_change_sent e ≡ false → new.instance.sent ≡ r.instance.sent
  pub left : may_change_left e ≡ false → new.instance.left ≡ r.instance.left
  pub cursors : (k : ℕ) → may_change_cursor e k ≡ false → new.call.cursors k ≡ r.call.cursors k
  pub loose : may_change_loose r e ≡ false → new.call.loose ≡ r.call.loose
  pub buffer : may_change_buffer e ≡ false → new.call.buffer ≡ r.call.buffer
  pub tree : may_change_tree e ≡ false → new.shared.pools ≡ r.shared.pools
  pub conn : new.shared.conn ≡ r.shared.conn
  pub req : new.shared.req ≡ r.shared.req
  pub labels : may_change_labels e ≡ false → new.shared.labels ≡ r.shared.labels
  pub files : may_change_labels e ≡ false → new.shared.files ≡ r.shared.files
  pub names : r.shared.next ≤ new.shared.next
  pub names_last : new.shared.next ≤ r.shared.next + names_for r e
  pub output : new.out ≡ r.out
  pub pc : new.pc ≡ r.pc
  pub call_name : may_change_call_name e ≡ false → new.call.name ≡ r.call.name

abbrev pub StepChangesOnly : Type 0
StepChangesOnly = (p : Program) (choice : Choice) (i : Instr) (r : Configuration) → ChangesOnly (effect_of i) r (step p choice i r).state

-- The buckets of pieces have data behind an EOS exactly where the pieces do.
abbrev pub BucketsAsPieces : Type 0
BucketsAsPieces = (call req n : ℕ) (pieces : List Piece) → data_after_eos (named_from (bucket_of call req) n pieces) ≡ data_behind_eos pieces

-- However a body is cut: brigades that are passed one after the other have the fault of data after an EOS where they would have it in one.
abbrev pub FaultOfCuts : Type 0
FaultOfCuts = (sent : Bool) (xs ys : List NamedBucket) → or_else (send_fault sent xs) (send_fault (sent || has_eos xs) ys) ≡ send_fault sent (xs ++ ys)

-- Where a pool is made under a parent: its name was no pool's, it has nothing to hand on, and the others are as they were.
pub record CreateKeeps {T : Type 0} (parent : ℕ) (ps new : Pools T) : Type 0 where
  pub fresh : is_live ps ps.next ≡ false
  pub child : new.path ps.next ≡ ps.next ∷ ps.path parent
  pub bare : new.payloads ps.next ≡ no_cleanups
  pub path : (m : ℕ) → is_live ps m ≡ true → new.path m ≡ ps.path m
  pub payloads : (m : ℕ) → is_live ps m ≡ true → new.payloads m ≡ ps.payloads m
  pub names : new.next ≡ ps.next + 1

abbrev pub CreatesKeepOthers : Type 0
CreatesKeepOthers = (parent : ℕ) (ps : Pools Payload) → IsPoolMap ps → CreateKeeps parent ps (created parent ps)

-- A label that is registered and then killed leaves all payloads as they were, also where the same label was there before.
abbrev pub KillsTheNewest : Type 0
KillsTheNewest = (n m : ℕ) (text : List ℕ) (r : Configuration) → (label_killed text n (label_registered Plain text n r)).shared.pools.payloads m ≡ r.shared.pools.payloads m

-- What a kill of a label leaves in the pools. newest: of the plain payloads of its pool that are this label, the one that was
-- registered last goes, and no other payload. none: where there is none, all stay. early: pre-payloads stay. others: other pools keep theirs. path,
-- names: no pool comes or goes.
pub record KillKeeps (n : ℕ) (text : List ℕ) (old new : Pools Payload) : Type 0 where
  pub newest : (xs ys : List Payload) → (old.payloads n).plain ≡ xs ++ payload.Label text ∷ ys → All (λ y. y ≢ payload.Label text) ys → (new.payloads n).plain ≡ xs ++ ys
  pub none : All (λ y. y ≢ payload.Label text) (old.payloads n).plain → new.payloads n ≡ old.payloads n
  pub early : (new.payloads n).pre ≡ (old.payloads n).pre
  pub others : (m : ℕ) → m ≢ n → new.payloads m ≡ old.payloads m
  pub path : new.path ≡ old.path
  pub names : new.next ≡ old.next

abbrev pub KillsOneLabel : Type 0
KillsOneLabel = (n : ℕ) (text : List ℕ) (r : Configuration) → KillKeeps n text r.shared.pools (label_killed text n r).shared.pools

-- In the run order of a pool p each payload of p and of the pools under it stands once: of each such pool there are its
-- pre-payloads, the last first, and then its plain ones, the last first, and of no other pool is there any.
abbrev pub EachStandsOnce : Type 0
EachStandsOnce = (n p : ℕ) (ps : Pools Payload) → IsPoolMap ps → is_live ps p ≡ true
    → filter (λ (x : ℕ × Payload). x.0 == n) (run_order ps p) ≡ (if is_under ps p n then map (λ x. (n, x)) (reverse (ps.payloads n).pre) ++ map (λ x. (n, x)) (reverse (ps.payloads n).plain) else [])

-- It is the run order down to any depth that is deep enough.
abbrev pub DepthDoesNotMatter : Type 0
DepthDoesNotMatter = (depth p : ℕ) (ps : Pools Payload) → IsPoolMap ps → is_live ps p ≡ true → ps.next ≤ depth + p → runs_within depth ps p ≡ run_order ps p

-- Where the pool n is cleared: what does not stand under it is as it was, it stays itself and has nothing to hand on, no
-- other pool under it is left, and no name comes back.
pub record ClearKeeps {T : Type 0} (n : ℕ) (ps new : Pools T) : Type 0 where
  pub path : (m : ℕ) → is_under ps n m ≡ false → new.path m ≡ ps.path m
  pub payloads : (m : ℕ) → is_under ps n m ≡ false → new.payloads m ≡ ps.payloads m
  pub itself : new.path n ≡ ps.path n
  pub empty : is_live ps n ≡ true → new.payloads n ≡ no_cleanups
  pub under : (m : ℕ) → is_under ps n m ≡ true → m ≢ n → (new.path m ≡ []) × (new.payloads m ≡ no_cleanups)
  pub names : new.next ≡ ps.next

-- Where it is destroyed, it goes too.
pub record DestroyKeeps {T : Type 0} (n : ℕ) (ps new : Pools T) : Type 0 where
  pub path : (m : ℕ) → is_under ps n m ≡ false → new.path m ≡ ps.path m
  pub payloads : (m : ℕ) → is_under ps n m ≡ false → new.payloads m ≡ ps.payloads m
  pub itself : is_live ps n ≡ true → is_live new n ≡ false
  pub under : (m : ℕ) → is_under ps n m ≡ true → (new.path m ≡ []) × (new.payloads m ≡ no_cleanups)
  pub names : new.next ≡ ps.next

abbrev pub ClearsKeepOthers : Type 0
ClearsKeepOthers = (n : ℕ) (ps : Pools Payload) → IsPoolMap ps → ClearKeeps n ps (cleared n ps) × DestroyKeeps n ps (destroyed n ps)

-- whether a variable holds a brigade on the pool n or on one under it
abbrev pub lies_under : Configuration → ℕ → BrigadeVar → Bool
lies_under r n v = is_reached (is_under r.shared.pools n) (brigade_pool v)

-- A bucket has neither its home nor its bytes in the pool n or in one under it.
abbrev pub StandsApart : Configuration → ℕ → NamedBucket → Type 0
StandsApart r n x = (m : ℕ) → is_under r.shared.pools n m ≡ true → (x.bucket.home ≢ home.Pool m) × (x.bucket.kind ≢ kind.Pool m)

-- What a clear of the pool n makes of one bucket. name, content: it keeps both. same: where it stands apart it is the same
-- bucket. same_kind, same_home: each of kind and home is as it was, unless it is a pool there. heap: a POOL bucket of a pool
-- there is HEAP. ended: a home there has ended.
pub record LeavesBucket (r : Configuration) (n : ℕ) (old new : NamedBucket) : Type 0 where
  pub name : new.name ≡ old.name
  pub content : new.bucket.content ≡ old.bucket.content
  pub same : StandsApart r n old → new ≡ old
  pub same_kind : ((m : ℕ) → is_under r.shared.pools n m ≡ true → old.bucket.kind ≢ kind.Pool m) → new.bucket.kind ≡ old.bucket.kind
  pub same_home : ((m : ℕ) → is_under r.shared.pools n m ≡ true → old.bucket.home ≢ home.Pool m) → new.bucket.home ≡ old.bucket.home
  pub heap : (m : ℕ) → is_under r.shared.pools n m ≡ true → old.bucket.kind ≡ kind.Pool m → new.bucket.kind ≡ kind.Heap
  pub ended : (m : ℕ) → is_under r.shared.pools n m ≡ true → old.bucket.home ≡ home.Pool m → new.bucket.home ≡ home.Ended

-- What it makes of a brigade that does not go: its name, its pool and its mark stay, and so do the places of its buckets.
pub record LeavesBrigade (r : Configuration) (n : ℕ) (old new : Brigade) : Type 0 where
  pub name : new.name ≡ old.name
  pub on : new.on ≡ old.on
  pub mark : new.mark ≡ old.mark
  pub items : AllZip (LeavesBucket r n) old.items new.items

abbrev pub LeavesVar : Configuration → ℕ → BrigadeVar → BrigadeVar → Type 0
LeavesVar r n var.Null new = new ≡ var.Null
LeavesVar r n var.Gone new = new ≡ var.Gone
LeavesVar r n (var.Live v) new = (w : Brigade) × (new ≡ var.Live w) × LeavesBrigade r n v w

-- What goes with the pool n. gone, kept: a brigade goes exactly where it lies there, and else is left as above. apart, loose:
-- no bucket that is left depends on what went, and loose ones are left as above. others: a brigade that did not depend on it
-- is as it was. call: a call keeps all but its loose buckets. labels: they are run in the run order, behind those that were
-- run before.
pub record TakesAlong (n : ℕ) (r new : Configuration) : Type 0 where
  pub gone : (b : ℕ) → lies_under r n (r.instance.brigades b) ≡ true → new.instance.brigades b ≡ var.Gone
  pub kept : (b : ℕ) → lies_under r n (r.instance.brigades b) ≡ false → LeavesVar r n (r.instance.brigades b) (new.instance.brigades b)
  pub apart : (b : ℕ) → All (StandsApart r n) (items_of (new.instance.brigades b))
  pub others : (b : ℕ) → lies_under r n (r.instance.brigades b) ≡ false → All (StandsApart r n) (items_of (r.instance.brigades b)) → new.instance.brigades b ≡ r.instance.brigades b
  pub loose : All (StandsApart r n) new.call.loose × AllZip (LeavesBucket r n) r.call.loose new.call.loose
  pub call : new.call ≡ record r.call { loose = new.call.loose }
  pub labels : new.shared.labels ≡ r.shared.labels ++ labels_in (run_order r.shared.pools n)

abbrev pub ClearsTakeAlong : Type 0
ClearsTakeAlong = (n : ℕ) (r : Configuration) → TakesAlong n r (pool_cleared n r) × TakesAlong n r (pool_destroyed n r)

-- what is said of a home that is a call, and of one that is a pool
abbrev pub MatchHome : Home → (ℕ → Type 0) → (ℕ → Type 0) → Type 0
MatchHome home.Free C P = Unit {0}
MatchHome (home.Call n) C P = C n
MatchHome (home.Pool n) C P = P n
MatchHome home.Ended C P = Unit {0}

-- What setting aside into the pool `target` makes of a bucket. lasts: it depends on no call, and on no pool but the target
-- and those above it. alive: its home has not ended. there: where the target is live, so is the pool that is its home. name,
-- content: it is the same bucket with the same bytes.
pub record KeptAside (ps : Pools Payload) (target : ℕ) (old new : NamedBucket) : Type 0 where
  pub lasts : MatchHome new.bucket.home (λ call. ⊥) (λ p. (p ≡ target) ⊎ (is_under ps p target ≡ true))
  pub alive : is_dead new ≡ false
  pub there : IsPoolMap ps → is_live ps target ≡ true → MatchHome new.bucket.home (λ call. ⊥) (λ p. is_live ps p ≡ true)
  pub name : new.name ≡ old.name
  pub content : new.bucket.content ≡ old.bucket.content

abbrev pub AsideLasts : Type 0
AsideLasts = (ps : Pools Payload) (target : ℕ) (x : NamedBucket) → FitsKind x.bucket → is_dead x ≡ false → KeptAside ps target x (aside_named ps target x)

-- the bytes that a content stands for, where its file has these
abbrev pub bytes_in : List ℕ → Content → List ℕ
bytes_in file (content.Bytes bs) = bs
bytes_in file (content.Range n start len) = take len (drop start file)
bytes_in file content.Nothing = []

abbrev pub bytes_of_rest : List ℕ → Option Bucket → List ℕ
bytes_of_rest file None = []
bytes_of_rest file (Some b) = bytes_in file b.content

-- the bytes that a read takes from the file of a bucket
abbrev pub bytes_read : List ℕ → Bucket → List ℕ
bytes_read file b = take (wanted b.content) (bytes_in file b.content)

abbrev pub is_range : Content → Bool
is_range (content.Bytes bs) = false
is_range (content.Range file start len) = true
is_range content.Nothing = false

-- A read leaves the bucket in memory, and drops no byte: its bytes and those of the rest are what it stood for.
abbrev pub ReadsDropNothing : Type 0
ReadsDropNothing = (file : List ℕ) (b : Bucket)
    → (is_range (read_of (bytes_read file b) b).0.content ≡ false)
    × (bytes_in file (read_of (bytes_read file b) b).0.content ++ bytes_of_rest file (read_of (bytes_read file b) b).1 ≡ bytes_in file b.content)

-- whether a clear of the pool n hands on a reference to the file
abbrev pub hands_on : Configuration → ℕ → ℕ → Bool
hands_on r n file = list_any (λ x. is_file_ref file x.1) (run_order r.shared.pools n)

-- What becomes of the open files where the pool n goes. closes: a file closes where a reference to it goes and none is left.
-- stays, apart: it is as it was where one is left, and where none goes. named, numbers: files by name stay, and no number is given.
pub record FilesGo (n : ℕ) (r new : Configuration) : Type 0 where
  pub closes : (file : ℕ) → hands_on r n file ≡ true → is_referred new.shared.pools file ≡ false → new.shared.files.opened file ≡ None
  pub stays : (file : ℕ) → is_referred new.shared.pools file ≡ true → new.shared.files.opened file ≡ r.shared.files.opened file
  pub apart : (file : ℕ) → hands_on r n file ≡ false → new.shared.files.opened file ≡ r.shared.files.opened file
  pub named : new.shared.files.named ≡ r.shared.files.named
  pub numbers : new.shared.files.next ≡ r.shared.files.next

abbrev pub FilesCloseLast : Type 0
FilesCloseLast = (n : ℕ) (r : Configuration) → FilesGo n r (pool_cleared n r) × FilesGo n r (pool_destroyed n r)

-- The pool that is the home of a range of a file holds a reference to that file.
abbrev pub HasReference : Pools Payload → NamedBucket → Type 0
HasReference ps x = (file start len p : ℕ) → x.bucket.content ≡ content.Range file start len → x.bucket.home ≡ home.Pool p → refers ps p file ≡ true

-- Files, where these were opened in the request. lasts: a file is open as long as a pool holds a reference to it. brigades,
-- loose: a FILE bucket whose home is alive has such a reference in that home. request: so have the request's files in its pool.
pub record SoundFiles (files : List (ℕ × ℕ)) (r : Configuration) : Type 0 where
  pub lasts : (p file : ℕ) → refers r.shared.pools p file ≡ true → is_some (r.shared.files.opened file) ≡ true
  pub brigades : (b : ℕ) → All (HasReference r.shared.pools) (items_of (r.instance.brigades b))
  pub loose : All (HasReference r.shared.pools) r.call.loose
  pub request : (file end req : ℕ) → has_range files file end ≡ true → r.shared.req ≡ Some req → refers r.shared.pools req file ≡ true

-- A step without a fault keeps all that.
abbrev pub StepKeepsFiles : Type 0
StepKeepsFiles = (p : Program) (choice : Choice) (i : Instr) (files : List (ℕ × ℕ)) (r : Configuration) → MayExecute p r i → Sound r → SoundFiles files r → SoundFiles files (step p choice i r).state
