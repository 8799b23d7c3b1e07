-- Open runs of one instance: a module by itself on a connection, beside filters of which nothing is known but that they keep the rules
-- of a caller. What it and its surroundings do in turn, and when its instances are safe.
use Rattle.std.specs.List.{list_any}
use Rattle.std.specs.Prelude.{◌≡◌, ◌⊎◌, ℕ, ◌+◌, ◌^◌, ◌<◌, ◌≤◌, Bool, true, false, ◌||◌, ◌==◌, List, [], ◌∷◌, map, Option, Some, None, is_some, All}
use Rattle.module_code.specs.Program.{Program, IsModule}
use Rattle.module_code.specs.declared.instr.Instr.{Instr}
use Rattle.module_code.specs.declared.instr.Instr.TheVariants as instr
use Rattle.module_code.specs.declared.instr.PoolRef.{PoolRef}
use Rattle.module_code.specs.declared.instr.Status.{Status}
use Rattle.module_code.specs.declared.instr.Status.TheVariants.{Success}
use Rattle.run_model.specs.declared.bucket.BrigadeVar.{BrigadeVar}
use Rattle.run_model.specs.declared.bucket.BrigadeVar.TheVariants as var
use Rattle.run_model.specs.declared.bucket.Home.{Home}
use Rattle.run_model.specs.declared.bucket.Home.TheVariants as home
use Rattle.run_model.specs.declared.bucket.Kind.{Kind}
use Rattle.run_model.specs.declared.bucket.Kind.TheVariants as kind
use Rattle.run_model.specs.declared.bucket.Mark.TheVariants.{Usable}
use Rattle.run_model.specs.declared.bucket.NamedBucket.{NamedBucket}
use Rattle.run_model.specs.declared.bucket.PoolVar.TheVariants as poolvar
use Rattle.run_model.specs.declared.fault.FaultKind.{FaultKind}
use Rattle.run_model.specs.Buckets.{has_data, data_after_eos, is_dead, returned_bucket}
use Rattle.run_model.specs.Chains.{led_to, touched_instance}
use Rattle.run_model.specs.Cutting.{FitsKind}
use Rattle.run_model.specs.Effects.{do_pass, do_return, pool_destroyed}
use Rattle.run_model.specs.Faults.{fault, passed_fault}
use Rattle.run_model.specs.Files.{Files}
use Rattle.run_model.specs.Passing.{set_in, passed_by, given_back, after_pass, handler_at}
use Rattle.run_model.specs.Pools.{is_in, is_live, is_under, created}
use Rattle.run_model.specs.RunOrder.{IsPoolMap}
use Rattle.run_model.specs.Sound.{count_named, count, brigade_name, Sound}
use Rattle.run_model.specs.State.{Configuration, Shared, Out, pool_named, is_named, is_own, items_of, fresh_instance, fresh_call}
use Rattle.run_model.specs.Steps.{step, current, lacks_names, is_spent}
use Rattle.model_laws.specs.AsDeclared.{AsDeclared}
use Rattle.model_laws.specs.Laws.{MatchHome}

-- Where the instance is.
pub data Phase : Type 0 where
  -- its `open`, or in a request its `init`, is still to be called
  Due : Phase
  -- no call of it runs
  Rests : Phase
  -- a call of it runs
  Runs : Phase
  -- a call of it waits at its pass
  Waits : Phase
  -- an instruction of it had a fault, and the connection is broken
  Broken : Phase

-- What lasts while a call runs or waits. calls: it, and the calls that wait for it. pools: pools of other filters that are not cleared
-- meanwhile. Between calls there are none.
pub record Lasting : Type 0 where
  pub calls : List ℕ
  pub pools : List ℕ

abbrev pub none_lasts : Lasting
none_lasts = record { calls = []; pools = [] }

-- now: what the instance sees.
pub record Standing : Type 0 where
  pub phase : Phase
  pub lasting : Lasting
  pub now : Configuration

-- What the instance or its surroundings do.
pub data Move : Type 0 where
  -- its `open` is called, or in a request its `init`
  Start : Move
  -- its call executes an instruction: what the file gives where that reads one, or nothing where the read fails
  Execute : Option (List ℕ) → Move
  -- its pass is answered: with this status, and these buckets left in the brigade
  Answer : Status → List NamedBucket → Move
  -- other filters go on
  Others : Move
  -- other connections go on, files are added, output is taken
  Elsewhere : Move
  -- a request begins
  Begin : Move
  -- its `main` is called with these buckets
  Main : List NamedBucket → Move
  -- the request ends
  End : Move

-- What is told of a move. Most tell nothing.
pub data ToldOfMove : Type 0 where
  Done : ToldOfMove
  -- these buckets go to the next filter
  Passes : List NamedBucket → ToldOfMove
  -- the call ended with this status, and leaves these buckets of those that it was called with
  Returns : Status → List NamedBucket → ToldOfMove
  -- the instruction has this fault
  Faults : FaultKind → ToldOfMove

-- The instance.

-- What an instruction without a fault leaves. Where it passes, the call waits; where it returns, the call has ended.
unfoldable pub executed : Program → Option (List ℕ) → Instr → Standing → ToldOfMove × Standing
executed p given (instr.Pass b l) s = (Passes (items_of (s.now.instance.brigades b)), record s { phase = Waits; now = do_pass b s.now })
executed p given (instr.Ret t) s = (Returns t (map (returned_bucket s.now.call.name) (items_of (s.now.instance.brigades 8))), record { phase = Rests; lasting = none_lasts; now = do_return s.now })
executed p given i s =
    let o = step p (record { answer = Success; given = given }) i s.now in
    (Done, record s { now = record o.state { pc = led_to o.exit i s.now.pc } })

-- A fault breaks the connection. Where names are spent or memory is refused the connection breaks too, and the run stops there.
abbrev pub Attempts : Option FaultKind → Program → Option (List ℕ) → Standing → ToldOfMove → Standing → Type 0
Attempts None p given s told new = (lacks_names s.now (current p s.now.pc) ≡ false) × (executed p given (current p s.now.pc) s ≡ (told, new))
Attempts (Some k) p given s told new = (told ≡ Faults k) × (new ≡ record s { phase = Broken })

-- The next instruction is executed.
abbrev pub ExecutesOne : Program → Option (List ℕ) → Standing → ToldOfMove → Standing → Type 0
ExecutesOne p given s told new = (s.phase ≡ Runs) × Attempts (fault p s.now (current p s.now.pc)) p given s told new

-- Its surroundings.

-- A pool of another filter: it stands neither above nor under one that the instance names (and so is none of them).
pub record IsOthers (r : Configuration) (m : ℕ) : Type 0 where
  pub live : is_live r.shared.pools m ≡ true
  pub above : (k : PoolRef) (n : ℕ) → pool_named r k ≡ Some n → is_under r.shared.pools m n ≡ false
  pub under : (q n : ℕ) → r.instance.pools q ≡ poolvar.Made n → is_under r.shared.pools n m ≡ false

-- the homes that last: all but those of calls that may return meanwhile, and of pools of others that may be cleared
abbrev pub lasts : Lasting → Configuration → Home → Bool
lasts l r home.Free = true
lasts l r (home.Call n) = is_in n l.calls
lasts l r (home.Pool n) = is_own r n || is_in n l.pools
lasts l r home.Ended = true

-- the homes that buckets may have with which `main` is called: what lasts, but no pool of this instance
abbrev pub may_come : Lasting → Configuration → Home → Bool
may_come l r home.Free = true
may_come l r (home.Call n) = is_in n l.calls
may_come l r (home.Pool n) = (n == r.shared.conn) || is_named r.shared.req n || is_in n l.pools
may_come l r home.Ended = false

-- Buckets that come to the instance. kinds: content and home fit the kind. once: no two have one name, and none has the name of a bucket
-- that the instance has. given: their names were given out.
pub record Come (r : Configuration) (next : ℕ) (items : List NamedBucket) : Type 0 where
  pub kinds : All (λ x. FitsKind x.bucket) items
  pub once : (n : ℕ) → count r n + count_named n items ≤ 1
  pub given : (n : ℕ) → next ≤ n → count_named n items ≡ 0

-- a call's name, which no call had; next: the first name that is not given out then
pub record IsNew (r : Configuration) (name next : ℕ) : Type 0 where
  pub new : r.shared.next ≤ name
  pub given : name < next
  pub limit : next < 2 ^ 64

abbrev pub called : ℕ → ℕ → ℕ → Configuration → Configuration
called name next pc r = record r { call = fresh_call name; shared = record r.shared { next = next }; pc = pc }

-- `open` is called, or in a request `init`.
pub record Starts (p : Program) (s new : Standing) : Type 0 where
  pub phase : s.phase ≡ Due
  pub name : ℕ
  pub next : ℕ
  pub named : IsNew s.now name next
  pub is : new ≡ record { phase = Runs; lasting = record { calls = name ∷ []; pools = [] }; now = called name next (handler_at s.now.shared.req p) s.now }

-- A request begins: its pool is new, under the connection's.
abbrev pub request_begun : Configuration → Configuration
request_begun r = record r { shared = record r.shared { pools = created r.shared.conn r.shared.pools; req = Some r.shared.pools.next } }

pub record Begins (s new : Standing) : Type 0 where
  pub phase : s.phase ≡ Rests
  pub none : s.now.shared.req ≡ None
  pub names : is_spent s.now.shared.pools.next 1 ≡ false
  pub is : new ≡ record { phase = Due; lasting = none_lasts; now = request_begun s.now }

-- `main` is called in a request, with any buckets in which no data follows an EOS. waiting: the calls that wait for it. pools: those of
-- other filters that are not cleared meanwhile. brigade: the name of the brigade, which is none of the instance's.
pub record Calls (p : Program) (items : List NamedBucket) (s new : Standing) : Type 0 where
  pub phase : s.phase ≡ Rests
  pub request : is_some s.now.shared.req ≡ true
  pub name : ℕ
  pub next : ℕ
  pub named : IsNew s.now name next
  pub waiting : List ℕ
  pub pools : List ℕ
  pub others : (n : ℕ) → is_in n pools ≡ true → IsOthers s.now n
  pub ordered : data_after_eos items ≡ false
  pub homes : All (λ x. may_come (record { calls = name ∷ waiting; pools = pools }) s.now x.bucket.home ≡ true) items
  pub come : Come s.now next items
  pub brigade : ℕ
  pub given : brigade < next
  pub apart : (b : ℕ) → brigade_name (s.now.instance.brigades b) ≡ Some brigade → ⊥
  pub is : new ≡ record {
    phase = Runs;
    lasting = record { calls = name ∷ waiting; pools = pools };
    now = called name next p.main (record s.now { instance = set_in (var.Live (record { name = brigade; on = None; mark = Usable; items = items })) s.now.instance });
  }

-- The pass is answered, by any status and with any buckets left.
abbrev pub answered : Program → Status → List NamedBucket → Configuration → Configuration
answered p t items r = record r { instance = given_back (passed_by (current p r.pc)) items r.instance; pc = after_pass t (current p r.pc) r.pc }

pub record AnswersCall (p : Program) (t : Status) (items : List NamedBucket) (s new : Standing) : Type 0 where
  pub phase : s.phase ≡ Waits
  pub come : Come s.now s.now.shared.next items
  pub is : new ≡ record s { phase = Runs; now = answered p t items s.now }

-- Other filters go on, between calls of the instance or while one waits at its pass. Of the instance's buckets they change this:

-- the bytes of a POOL bucket go to the heap where a pool of another filter is cleared (apr_bucket_pool_make)
abbrev pub MayTurn : Configuration → Kind → Kind → Type 0
MayTurn r (kind.Pool n) k = (k ≡ kind.Pool n) ⊎ ((is_own r n ≡ false) × (k ≡ kind.Heap))
MayTurn r j k = k ≡ j

-- a home ends that need not last: its call returned, or its pool was cleared
abbrev pub HomeMayEnd : Lasting → Configuration → Home → Home → Type 0
HomeMayEnd l r h k = (k ≡ h) ⊎ ((lasts l r h ≡ false) × (k ≡ home.Ended))

pub record Becomes (l : Lasting) (r : Configuration) (x y : NamedBucket) : Type 0 where
  pub name : y.name ≡ x.name
  pub content : y.bucket.content ≡ x.bucket.content
  pub kind : MayTurn r x.bucket.kind y.bucket.kind
  pub home : HomeMayEnd l r x.bucket.home y.bucket.home

abbrev pub changed_var : (NamedBucket → NamedBucket) → BrigadeVar → BrigadeVar
changed_var change var.Null = var.Null
changed_var change var.Gone = var.Gone
changed_var change (var.Live v) = var.Live (record v { items = map change v.items })

-- each bucket of the instance, in its brigades and loose, becomes another, and all that is shared is what others left
abbrev pub gone_on : (NamedBucket → NamedBucket) → Shared → Out → Configuration → Configuration
gone_on change shared out r =
    record r { instance = touched_instance (changed_var change) r.instance; call = record r.call { loose = map change r.call.loose }; shared = shared; out = out }

-- What they leave of what is shared: pools are made, cleared and destroyed, and names are given out. The connection's pool and the
-- request's, those of this instance, and those that last stay. Labels, references and files may be any: no fault depends on them. (The
-- less is asked of others, the more it says that a module is safe.)
pub record LeaveShared (l : Lasting) (r : Configuration) (shared : Shared) : Type 0 where
  pub conn : shared.conn ≡ r.shared.conn
  pub req : shared.req ≡ r.shared.req
  pub pools : IsPoolMap shared.pools
  pub stay : (n : ℕ) → lasts l r (home.Pool n) ≡ true → shared.pools.path n ≡ r.shared.pools.path n
  pub rises : (r.shared.next ≤ shared.next) × (r.shared.pools.next ≤ shared.pools.next)
  pub limits : (shared.next < 2 ^ 64) × (shared.pools.next < 2 ^ 64)

abbrev pub IsLeftAlone : Phase → Type 0
IsLeftAlone Due = Unit {0}
IsLeftAlone Rests = Unit {0}
IsLeftAlone Runs = ⊥
IsLeftAlone Waits = Unit {0}
IsLeftAlone Broken = ⊥

pub record OthersGoOn (s new : Standing) : Type 0 where
  pub phase : IsLeftAlone s.phase
  pub change : NamedBucket → NamedBucket
  pub becomes : (x : NamedBucket) → Becomes s.lasting s.now x (change x)
  pub shared : Shared
  pub left : LeaveShared s.lasting s.now shared
  pub out : Out
  pub is : new ≡ record s { now = gone_on change shared out s.now }

-- While a call runs, other connections give out names, files are added, and output is taken.
abbrev pub gone_elsewhere : ℕ → ℕ → Files → Out → Configuration → Configuration
gone_elsewhere next pools files out r = record r { shared = record r.shared { pools = record r.shared.pools { next = pools }; files = files; next = next }; out = out }

pub record GoOnElsewhere (s new : Standing) : Type 0 where
  pub phase : s.phase ≡ Runs
  pub next : ℕ
  pub pools : ℕ
  pub files : Files
  pub out : Out
  pub rises : (s.now.shared.next ≤ next) × (s.now.shared.pools.next ≤ pools)
  pub limits : (next < 2 ^ 64) × (pools < 2 ^ 64)
  pub is : new ≡ record s { now = gone_elsewhere next pools files out s.now }

-- The request ends between calls: its pool is destroyed; in the next one no EOS was passed, and the instance is in its chain.
abbrev pub request_ended : ℕ → Configuration → Configuration
request_ended req r =
    let gone = pool_destroyed req r in
    record gone { instance = record gone.instance { sent = false; left = false }; shared = record gone.shared { req = None }; out = record gone.out { ended = false } }

pub record Ends (s new : Standing) : Type 0 where
  pub phase : s.phase ≡ Rests
  pub req : ℕ
  pub opened : s.now.shared.req ≡ Some req
  pub is : new ≡ record { phase = Rests; lasting = none_lasts; now = request_ended req s.now }

-- Runs.

-- this move may tell this, and lead from one to the other
unfoldable pub IsMove : Program → Standing → Move → ToldOfMove → Standing → Type 0
IsMove p s Start told new = (told ≡ Done) × Starts p s new
IsMove p s (Execute given) told new = ExecutesOne p given s told new
IsMove p s (Answer t items) told new = (told ≡ Done) × AnswersCall p t items s new
IsMove p s Others told new = (told ≡ Done) × OthersGoOn s new
IsMove p s Elsewhere told new = (told ≡ Done) × GoOnElsewhere s new
IsMove p s Begin told new = (told ≡ Done) × Begins s new
IsMove p s (Main items) told new = (told ≡ Done) × Calls p items s new
IsMove p s End told new = (told ≡ Done) × Ends s new

-- These moves, one after another. A run stops at any moment.
unfoldable pub IsOpenRun : Program → Standing → List Move → List ToldOfMove → Standing → Type 0
IsOpenRun p s [] [] new = new ≡ s
IsOpenRun p s (m ∷ moves) (t ∷ told) new = (mid : Standing) × IsMove p s m t mid × IsOpenRun p mid moves told new
IsOpenRun p s [] (t ∷ told) new = ⊥
IsOpenRun p s (m ∷ moves) [] new = ⊥

-- A connection was opened, on which others may have been busy; the instance's `open` is still to be called.
pub record IsOpened (r : Configuration) : Type 0 where
  pub instance : r.instance ≡ fresh_instance
  pub call : r.call ≡ fresh_call 0
  pub req : r.shared.req ≡ None
  pub pools : IsPoolMap r.shared.pools
  pub conn : is_live r.shared.pools r.shared.conn ≡ true
  pub limits : (r.shared.next < 2 ^ 64) × (r.shared.pools.next < 2 ^ 64)

abbrev pub IsHarmless : ToldOfMove → Type 0
IsHarmless Done = Unit {0}
IsHarmless (Passes items) = Unit {0}
IsHarmless (Returns t items) = Unit {0}
IsHarmless (Faults k) = ⊥

unfoldable pub AreHarmless : List ToldOfMove → Type 0
AreHarmless [] = Unit {0}
AreHarmless (t ∷ told) = IsHarmless t × AreHarmless told

-- The instances of a module are safe: no open run reaches a fault, whatever filters stand before and behind.
abbrev pub InstancesAreSafe : Program → Type 0
InstancesAreSafe p = (r : Configuration) (moves : List Move) (told : List ToldOfMove) (new : Standing) → IsOpened r
    → IsOpenRun p (record { phase = Due; lasting = none_lasts; now = r }) moves told new → AreHarmless told

-- What is true of each standing that an open run reaches: what the instance sees is sound, its variables stand as declared, and the pools of
-- others that last are apart from its own.
pub record StandsSound (p : Program) (s : Standing) : Type 0 where
  pub sound : Sound s.now
  pub declared : AsDeclared p s.now
  pub others : (n : ℕ) → is_in n s.lasting.pools ≡ true → IsOthers s.now n

abbrev pub OpenRunsStaySound : Type 0
OpenRunsStaySound = (p : Program) (r : Configuration) (moves : List Move) (told : List ToldOfMove) (new : Standing) → IsModule p → IsOpened r
    → IsOpenRun p (record { phase = Due; lasting = none_lasts; now = r }) moves told new → StandsSound p new

-- A home that lasts: none, or one that has ended; a call that runs or waits; a live pool that the instance names, or one of another filter
-- that lasts.
abbrev pub IsHomeKept : Lasting → Configuration → Home → Type 0
IsHomeKept l r h = MatchHome h (λ n. is_in n l.calls ≡ true)
    (λ n. (is_live r.shared.pools n ≡ true) × (((k : PoolRef) × (pool_named r k ≡ Some n)) ⊎ (is_in n l.pools ≡ true)))

-- So is that of each bucket that the instance may use: in a brigade that was not passed, or loose.
pub record HoldsKept (l : Lasting) (r : Configuration) : Type 0 where
  pub brigades : (b : ℕ) → passed_fault (r.instance.brigades b) ≡ None → All (λ x. IsHomeKept l r x.bucket.home) (items_of (r.instance.brigades b))
  pub loose : All (λ x. IsHomeKept l r x.bucket.home) r.call.loose

abbrev pub OpenRunsKeepHomes : Type 0
OpenRunsKeepHomes = (p : Program) (r : Configuration) (moves : List Move) (told : List ToldOfMove) (new : Standing) → IsModule p → IsOpened r
    → IsOpenRun p (record { phase = Due; lasting = none_lasts; now = r }) moves told new → HoldsKept new.lasting new.now

-- What an instance passes may be brought to another: no data stands behind an EOS of its own or of the request, and no home has ended.
abbrev pub PassedMayBeBrought : Type 0
PassedMayBeBrought = (p : Program) (s new : Standing) (given : Option (List ℕ)) (items : List NamedBucket) → IsMove p s (Execute given) (Passes items) new
    → (data_after_eos items ≡ false) × (s.now.instance.sent ≡ true → has_data items ≡ false) × (list_any is_dead items ≡ false)
