-- What is left where a pool goes with all under it, and what a state says then: a clear, a destroy, and the end of a request.
use Rattle.std.proofs.Common.{rules, ◌≡◌, ◌≢◌, ℕ, Bool, true, false, ◌&&◌, ◌||◌, not, cond, List, [], map, Option, Some, None, ◌⊎◌, inl, inr, refl, sym, ◌∙◌, ap, subst, eq-eqb, eqb-true}
use Rattle.std.proofs.lemmas.Bool.{ltb-true, cases_Bool, cases_eq, cases_lt, lt-ltb}
use Rattle.module_code.specs.declared.instr.PoolRef.{PoolRef}
use Rattle.module_code.specs.declared.instr.PoolRef.TheVariants as pool
use Rattle.module_code.specs.declared.instr.Instr.TheVariants as instr
use Rattle.module_code.specs.Program.{Program, IsModule, pool_of_brigade}
use Rattle.model_laws.specs.AsDeclared.{AsDeclared}
use Rattle.run_model.specs.declared.bucket.Brigade.{Brigade}
use Rattle.run_model.specs.declared.bucket.BrigadeVar.{BrigadeVar}
use Rattle.run_model.specs.declared.bucket.BrigadeVar.TheVariants as var
use Rattle.run_model.specs.declared.bucket.Cursor.{Cursor}
use Rattle.run_model.specs.declared.bucket.Home.{Home}
use Rattle.run_model.specs.declared.bucket.Home.TheVariants as home
use Rattle.run_model.specs.declared.bucket.Kind.{Kind}
use Rattle.run_model.specs.declared.bucket.Kind.TheVariants as kind
use Rattle.run_model.specs.declared.bucket.Mark.{Mark}
use Rattle.run_model.specs.declared.bucket.Mark.TheVariants.{Usable, Passed}
use Rattle.run_model.specs.declared.bucket.NamedBucket.{NamedBucket}
use Rattle.run_model.specs.declared.bucket.PoolVar.{PoolVar}
use Rattle.run_model.specs.declared.bucket.PoolVar.TheVariants as poolvar
use Rattle.run_model.specs.BrigadeLists.{bucket_named}
use Rattle.run_model.specs.BucketSteps.{items_at}
use Rattle.run_model.specs.Buckets.{is_data_kind, is_eos_kind, end_pools, to_heap, cleared_bucket}
use Rattle.run_model.specs.Clearing.{is_reached, cleared_var, run_down}
use Rattle.run_model.specs.Faults.{usable_fault, has_pool, has_pool_at, is_live_named}
use Rattle.run_model.specs.declared.payload.Payload.{Payload}
use Rattle.run_model.specs.Pools.{Pools, is_empty, is_live, is_under}
use Rattle.run_model.specs.Pools as pools
use Rattle.run_model.specs.Sound.{Sound, brigade_name}
use Rattle.run_model.specs.Effects.{files_let_go}
use Rattle.run_model.specs.Steps.{on_pool, pool_cleared, pool_destroyed}
use Rattle.life_check.specs.Soundness.{request_ended, LawOf, RequestEndLands}
use Rattle.run_model.specs.Indexed.{upd}
use Rattle.run_model.proofs.Formed.{path_live}
use Rattle.model_laws.proofs.NamedPools.{own_named}
use Rattle.run_model.proofs.RunOrderLaws.{under_itself}
use Rattle.run_model.proofs.Updates.{upd_either}
use Rattle.run_model.proofs.PoolMap.{cleared_path, cleared_apart, cleared_itself, cleared_under as pools_cleared_under, destroyed_path, destroyed_apart, destroyed_under}
use Rattle.model_laws.proofs.StepPools.{wanted_pool, named_lives}
use Rattle.model_laws.proofs.chains.Apart.{some_is}
use Rattle.run_model.specs.State.{Configuration, with_pools, pool_view, named_at, pool_named, name_in, items_of}
use Rattle.life_state.specs.declared.parts.Classes.{Classes}
use Rattle.life_state.specs.declared.parts.PoolState.{PoolState}
use Rattle.life_state.specs.Facts.{known, moved}
use Rattle.life_state.specs.PoolOrder.{is_same_place, is_under as is_declared_under, is_clearable}
use Rattle.life_state.specs.Rules.{lies_under, is_subpool, cleared_pool, cleared_brigade, cleared_cursor, cleared_cursors, cleared_under, cleared, after_pclear, after_pdestroy, at_end_of_request}
use Rattle.life_state.specs.States.{Homes, any_place, dead_where, ended_pool, ended_brigade, with_homes, BrigadeKnown, CursorKnown, Unset, Loose, In, End, InOrEnd, State}
use Rattle.life_state.proofs.Below.{some_below}
use Rattle.life_state.proofs.Tests.{or_left, or_right}
use Rattle.life_state.proofs.UnderLaws.{conn_is_under, brigade_past}
use Rattle.life_check.specs.Meaning.{NoneLives, CoversPool, ByConnection, ByMember, ByDead, ByCall, Covers, class_has, FitsPool, FitsMark, FitsBrigade, IsAtBucketOf, IsEndOf, FitsCursor, Differ, Fits}
use Rattle.life_check.proofs.Lists.{each_map, IsSorted, holds_map, map_found, named_map}
use Rattle.life_check.proofs.Pools.{same_live, same_names}
use Rattle.life_check.proofs.Standing.{moved_facts}
use Rattle.life_check.proofs.Tree.{same_named, under_through, under_declared}

-- The pool n goes with all under it, and may stay itself. named, apart: names of the others stay, and so do they. under,
-- dead: those under it are gone, and none that was comes back. brigades, loose: what lies there goes, and homes there end.
pub record Went (r new : Configuration) (n : ℕ) : Type 0 where
  pub own : new.instance.pools ≡ r.instance.pools
  pub conn : new.shared.conn ≡ r.shared.conn
  pub named : (k : PoolRef) (m : ℕ) → pool_named r k ≡ Some m → is_under r.shared.pools n m ≡ false → pool_named new k ≡ Some m
  pub apart : (m : ℕ) → is_under r.shared.pools n m ≡ false → new.shared.pools.path m ≡ r.shared.pools.path m
  pub under : (m : ℕ) → is_under r.shared.pools n m ≡ true → m ≢ n → is_live new.shared.pools m ≡ false
  pub dead : (m : ℕ) → is_live r.shared.pools m ≡ false → is_live new.shared.pools m ≡ false
  pub brigades : (b : ℕ) → new.instance.brigades b ≡ cleared_var (is_under r.shared.pools n) (r.instance.brigades b)
  pub loose : new.call.loose ≡ map (cleared_bucket (is_under r.shared.pools n)) r.call.loose
  pub cursors : new.call.cursors ≡ r.call.cursors

-- One bucket.

-- a test that answers of a pool bucket as of a heap bucket
heap_same : (test : Kind → Bool) → ((p : ℕ) → test kind.Heap ≡ test (kind.Pool p)) → (reached : ℕ → Bool) (k : Kind) → test (to_heap reached k) ≡ test k
heap_same test same reached (kind.Pool p) = by_test (reached p) where
  by_test : (b : Bool) → test (cond b kind.Heap (kind.Pool p)) ≡ test (kind.Pool p)
  by_test true = same p
  by_test false = refl
heap_same test same reached k = refl

pub heap_class : (reached : ℕ → Bool) (t : Classes) (k : Kind) → class_has t (to_heap reached k) ≡ class_has t k
heap_class reached t = heap_same (class_has t) (λ p. refl) reached

pub cleared_sorted : (reached : ℕ → Bool) → IsSorted (cleared_bucket reached)
cleared_sorted reached = record { bytes = λ x. heap_same is_data_kind (λ p. refl) reached x.bucket.kind; eos = λ x. heap_same is_eos_kind (λ p. refl) reached x.bucket.kind }

-- some place passes the test
some_place : (f : PoolRef → Bool) (d : PoolRef) → is_clearable d ≡ true → f d ≡ true → any_place f ≡ true
some_place f pool.Conn clears h = absurd (cc)
some_place f pool.Req clears h = or_left (f pool.Req) _ h
some_place f (pool.Own i) clears h = or_right (f pool.Req) _ (some_below 8 i (λ k. f (pool.Own k)) (ltb-true i 8 clears) h)

-- n is the pool at the place top.
module _ (p : Program) (r new : Configuration) (lives : Home → Type 0) (top : PoolRef) (n : ℕ) (m : IsModule p) (sound : Sound r) (declared : AsDeclared p r)
    (clears : is_clearable top ≡ true) (is : pool_named r top ≡ Some n) (stays : (k : ℕ) → lives (home.Pool k) → is_under r.shared.pools n k ≡ false) (went : Went r new n) where
  abbrev gone : PoolRef → Bool
  gone = is_declared_under p top

  abbrev reached : ℕ → Bool
  reached = is_under r.shared.pools n

  as_declared : (k : PoolRef) (j : ℕ) → pool_named r k ≡ Some j → is_live r.shared.pools j ≡ true → reached j ≡ gone k
  as_declared k j e live = under_declared p r m sound declared top k n j is e live

  conn_stays : reached r.shared.conn ≡ false
  unfolding named_at
  conn_stays = as_declared pool.Conn r.shared.conn refl sound.pools.conn ∙ conn_is_under p top clears

  still_lives : (k : ℕ) → reached k ≡ false → is_live r.shared.pools k ≡ true → is_live new.shared.pools k ≡ true
  still_lives k off live = same_live r.shared.pools new.shared.pools k (went.apart k off) ∙ live

  -- Homes.

  member_dead : (h : Homes) (d : PoolRef) → is_clearable d ≡ true → h.at d ≡ true → gone d ≡ true → (dead_where gone h).dead ≡ true
  member_dead h d clears at under = or_right h.dead _ (some_place (λ k. gone k && h.at k) d clears (ap (λ b. b && h.at d) under ∙ at))

  dead_stays : (h : Homes) → h.dead ≡ true → (dead_where gone h).dead ≡ true
  dead_stays h dead = or_left h.dead _ dead

  home_ends : (h : Homes) (k : ℕ) → reached k ≡ true → is_live r.shared.pools k ≡ true → CoversPool p (pool_view r) lives h k → (dead_where gone h).dead ≡ true
  home_ends h k under live (ByConnection at) = absurd (let both : true ≡ false = sym under ∙ (ap reached at ∙ conn_stays) in cc)
  home_ends h k under live (ByMember a d ac dc e at below) = member_dead h d dc at (under_through p m top a d dc (sym (as_declared a k e live) ∙ under) below)
  home_ends h k under live (ByDead a ac e dead) = dead_stays h dead
  home_ends h k under live (ByCall call alive) = absurd (let both : true ≡ false = sym under ∙ stays k alive in cc)

  home_stays : (h : Homes) (k : ℕ) → reached k ≡ false → CoversPool p (pool_view r) lives h k → CoversPool p (pool_view new) lives (dead_where gone h) k
  home_stays h k off (ByConnection at) = ByConnection (at ∙ sym went.conn)
  home_stays h k off (ByMember a d ac dc e at below) = elim (cases_Bool (gone d)) [
    | inl under ↦ ByDead a ac (went.named a k e off) (member_dead h d dc at under)
    | inr apart ↦ ByMember a d ac dc (went.named a k e off) (ap (λ b. h.at d && not b) apart ∙ ap (λ b. b && true) at) below
  ]
  home_stays h k off (ByDead a ac e dead) = ByDead a ac (went.named a k e off) (dead_stays h dead)
  home_stays h k off (ByCall call alive) = ByCall call alive

  covers_went : (h : Homes) (x : Home) → Covers p (pool_view r) lives h x → Covers p (pool_view new) lives (dead_where gone h) (end_pools reached x)
  covers_went h home.Free c = tt
  covers_went h (home.Call k) c = c
  covers_went h (home.Pool k) c = by_test (reached k) refl where
    by_test : (b : Bool) → reached k ≡ b → Covers p (pool_view new) lives (dead_where gone h) (cond b home.Ended (home.Pool k))
    by_test true under = home_ends h k under c.0 c.1
    by_test false off = (still_lives k off c.0, home_stays h k off c.1)
  covers_went h home.Ended c = dead_stays h c

  -- Pools.

  null_stays : (b : Bool) (k : PoolState) → k.null ≡ true → (cond b (ended_pool k) k).null ≡ true
  null_stays true k h = h
  null_stays false k h = h

  gone_stays : (b : Bool) (k : PoolState) → k.gone ≡ true → (cond b (ended_pool k) k).gone ≡ true
  gone_stays true k h = or_left k.gone k.live h
  gone_stays false k h = h

  -- the variable q, where n stays if it is q's
  pool_went : (q : ℕ) (k : PoolState) (v : PoolVar) → v ≡ r.instance.pools q → (is_same_place top (pool.Own q) ≡ true → is_live new.shared.pools n ≡ true)
      → FitsPool r.shared.pools k v → FitsPool new.shared.pools (cond (is_subpool gone top q) (ended_pool k) k) v
  unfolding named_at
  pool_went q k poolvar.Null at itself f = null_stays (is_subpool gone top q) k f
  pool_went q k (poolvar.Made j) at itself f = by_live (is_live r.shared.pools j) refl f where
    named : pool_named r (pool.Own q) ≡ Some j
    named = sym (ap name_in at)

    by_place : (b : Bool) → is_same_place top (pool.Own q) ≡ b → reached j ≡ true → k.live ≡ true → FitsPool new.shared.pools (cond (true && not b) (ended_pool k) k) (poolvar.Made j)
    by_place true same under live =
        let is_it : j ≡ n = eqb-true j n (same_named p r sound declared top (pool.Own q) n j is named ∙ same) in
        let lives : is_live new.shared.pools j ≡ true = ap (is_live new.shared.pools) is_it ∙ itself same in
        subst (λ b. cond b k.live k.gone ≡ true) (sym lives) live
    by_place false differ under live =
        let dies : is_live new.shared.pools j ≡ false =
        went.under j under (λ e. absurd (let both : true ≡ false = sym (eq-eqb j n e) ∙ (same_named p r sound declared top (pool.Own q) n j is named ∙ differ) in cc)) in
        subst (λ b. cond b false (k.gone || k.live) ≡ true) (sym dies) (or_right k.gone k.live live)

    by_under : (b : Bool) → gone (pool.Own q) ≡ b → is_live r.shared.pools j ≡ true → k.live ≡ true
        → FitsPool new.shared.pools (cond (b && not (is_same_place top (pool.Own q))) (ended_pool k) k) (poolvar.Made j)
    by_under true under there live = by_place (is_same_place top (pool.Own q)) refl (as_declared (pool.Own q) j named there ∙ under) live
    by_under false off there live = subst (λ b. cond b k.live k.gone ≡ true) (sym (still_lives j (as_declared (pool.Own q) j named there ∙ off) there)) live

    by_live : (b : Bool) → is_live r.shared.pools j ≡ b → cond b k.live k.gone ≡ true → FitsPool new.shared.pools (cond (is_subpool gone top q) (ended_pool k) k) (poolvar.Made j)
    by_live true there f = by_under (gone (pool.Own q)) refl there f
    by_live false none f = subst (λ b. cond b (cond (is_subpool gone top q) (ended_pool k) k).live (cond (is_subpool gone top q) (ended_pool k) k).gone ≡ true) (sym (went.dead j none))
        (gone_stays (is_subpool gone top q) k f)

  -- Brigades.

  -- a live brigade goes where its declared pool does
  goes : (b : ℕ) (v : Brigade) → r.instance.brigades b ≡ var.Live v → is_reached reached v.on ≡ lies_under p gone b
  goes b v at = elim (cases_eq b 8) [
    | inl eight ↦ subst (λ (k : ℕ). is_reached reached v.on ≡ lies_under p gone k) (sym eight) (incoming (declared.incoming v (subst (λ (k : ℕ). r.instance.brigades k ≡ var.Live v) eight at)))
    | inr own ↦ (let lies = declared.brigades b v own at in by_pool v.on lies.0 lies.1)
  ] where
    incoming : v.on ≡ None → is_reached reached v.on ≡ lies_under p gone 8
    incoming none = ap (is_reached reached) none ∙ sym (ap gone (brigade_past p 8 m.brigades) ∙ conn_is_under p top clears)

    by_pool : (o : Option ℕ) → o ≡ pool_named r (pool_of_brigade p b) → is_live_named r.shared.pools o ≡ true → is_reached reached o ≡ lies_under p gone b
    by_pool None e live = absurd (cc)
    by_pool (Some k) e live = as_declared (pool_of_brigade p b) k (sym e) live

  mark_went : (k : BrigadeKnown) (mark : Mark) (xs : List NamedBucket) → FitsMark (Covers p (pool_view r) lives) k mark xs
      → FitsMark (Covers p (pool_view new) lives) (with_homes (dead_where gone) k) mark (map (cleared_bucket reached) xs)
  mark_went k Usable xs f = (
    f.0,
    holds_map k.content (cleared_bucket reached) (cleared_sorted reached) xs f.1,
    each_map (λ x. Covers p (pool_view r) lives k.homes x.bucket.home) (λ x. Covers p (pool_view new) lives (dead_where gone k.homes) x.bucket.home) (cleared_bucket reached)
        (λ x c. covers_went k.homes x.bucket.home c) xs f.2,
  )
  mark_went k Passed xs f = f

  brigade_went : (b : ℕ) (k : BrigadeKnown) (v : BrigadeVar) → r.instance.brigades b ≡ v → FitsBrigade (Covers p (pool_view r) lives) k v
      → FitsBrigade (Covers p (pool_view new) lives) (cond (lies_under p gone b) (ended_brigade k) (with_homes (dead_where gone) k)) (cleared_var reached v)
  brigade_went b k var.Null at f = by_test (lies_under p gone b) where
    by_test : (t : Bool) → (cond t (ended_brigade k) (with_homes (dead_where gone) k)).null ≡ true
    by_test true = f
    by_test false = f
  brigade_went b k var.Gone at f = by_test (lies_under p gone b) where
    by_test : (t : Bool) → (cond t (ended_brigade k) (with_homes (dead_where gone) k)).gone ≡ true
    by_test true = or_left k.gone k.live f
    by_test false = f
  brigade_went b k (var.Live v) at f = subst
      (λ t. FitsBrigade (Covers p (pool_view new) lives) (cond (lies_under p gone b) (ended_brigade k) (with_homes (dead_where gone) k))
      (cond t var.Gone (var.Live (record v { items = map (cleared_bucket reached) v.items }))))
      (sym (goes b v at)) (by_test (lies_under p gone b)) where
        by_test : (t : Bool) → FitsBrigade (Covers p (pool_view new) lives) (cond t (ended_brigade k) (with_homes (dead_where gone) k))
            (cond t var.Gone (var.Live (record v { items = map (cleared_bucket reached) v.items })))
        by_test true = or_right k.gone k.live f.0
        by_test false = (f.0, mark_went k v.mark v.items f.1)

  -- Cursors.

  abbrev LeftSo : BrigadeVar → BrigadeVar → Type 0
  LeftSo v w = (items_of w ≡ map (cleared_bucket reached) (items_of v)) × (brigade_name w ≡ brigade_name v) × (usable_fault w ≡ usable_fault v)

  left_so : (b : ℕ) → lies_under p gone b ≡ false → LeftSo (r.instance.brigades b) (new.instance.brigades b)
  left_so b off = subst (LeftSo (r.instance.brigades b)) (sym (went.brigades b)) (of_var (r.instance.brigades b) refl) where
    of_var : (v : BrigadeVar) → r.instance.brigades b ≡ v → LeftSo v (cleared_var reached v)
    of_var var.Null at = (refl, refl, refl)
    of_var var.Gone at = (refl, refl, refl)
    of_var (var.Live v) at = subst (λ t. LeftSo (var.Live v) (cond t var.Gone (var.Live (record v { items = map (cleared_bucket reached) v.items })))) (sym (goes b v at ∙ off)) (refl, refl, refl)

  found_left : (k : ℕ) (x : NamedBucket) (xs ys : List NamedBucket) → ys ≡ map (cleared_bucket reached) xs → bucket_named k xs ≡ Some x → bucket_named k ys ≡ Some (cleared_bucket reached x)
  found_left k x xs ys are there = ap (bucket_named k) are ∙ (named_map k (cleared_bucket reached) (λ x. refl) xs ∙ ap (map_found (cleared_bucket reached)) there)

  in_went : (v : Cursor) (b : ℕ) (t : Classes) → lies_under p gone b ≡ false → IsAtBucketOf r v b t → IsAtBucketOf new v b t
  in_went v b t off f = (let left = left_so b off in record {
    bucket = cleared_bucket reached f.bucket;
    at = f.at;
    there = found_left f.bucket.name f.bucket (items_at r b) (items_at new b) left.0 f.there;
    classed = heap_class reached t f.bucket.bucket.kind ∙ f.classed;
    usable = left.2 ∙ f.usable;
  })

  end_went : (v : Cursor) (b : ℕ) → lies_under p gone b ≡ false → IsEndOf r v b → IsEndOf new v b
  end_went v b off f = (let left = left_so b off in record { called = f.called; at = f.at; there = left.1 ∙ f.there; usable = left.2 ∙ f.usable })

  cursor_went : (k : CursorKnown) (v : Cursor) → FitsCursor (Covers p (pool_view r) lives) r k v → FitsCursor (Covers p (pool_view new) lives) new (cleared_cursor p gone k) v
  cursor_went Unset v f = tt
  cursor_went (Loose t h) v f = record {
    bucket = cleared_bucket reached f.bucket;
    at = f.at;
    there = found_left f.bucket.name f.bucket r.call.loose new.call.loose went.loose f.there;
    classed = heap_class reached t f.bucket.bucket.kind ∙ f.classed;
    covered = covers_went h f.bucket.bucket.home f.covered;
  }
  cursor_went (In b t) v f = by_test (lies_under p gone b) refl where
    by_test : (c : Bool) → lies_under p gone b ≡ c → FitsCursor (Covers p (pool_view new) lives) new (cond c Unset (In b t)) v
    by_test true under = tt
    by_test false off = in_went v b t off f
  cursor_went (End b) v f = by_test (lies_under p gone b) refl where
    by_test : (c : Bool) → lies_under p gone b ≡ c → FitsCursor (Covers p (pool_view new) lives) new (cond c Unset (End b)) v
    by_test true under = tt
    by_test false off = end_went v b off f
  cursor_went (InOrEnd b t) v f = by_test (lies_under p gone b) refl where
    by_test : (c : Bool) → lies_under p gone b ≡ c → FitsCursor (Covers p (pool_view new) lives) new (cond c Unset (InOrEnd b t)) v
    by_test true under = tt
    by_test false off = elim f [ inl g ↦ inl (in_went v b t off g) | inr g ↦ inr (end_went v b off g) ]

  -- All of it. pools, sent: what is said of the pools and of what was sent.
  pub went_fits : (s : State) (pools : ℕ → PoolState) (sent : Bool) → (new.instance.sent ≡ true → sent ≡ true)
      → ((q : ℕ) → FitsPool new.shared.pools (pools q) (new.instance.pools q)) → Fits (Covers p (pool_view r) lives) s r
      → Fits (Covers p (pool_view new) lives) (record (cleared p top s) { pools = pools; sent = sent }) new
  unfolding cleared_under moved known
  went_fits s pools sent sent_fits pool_fits f = record {
    sent = sent_fits;
    pools = pool_fits;
    brigades = λ b. subst (FitsBrigade (Covers p (pool_view new) lives) (cleared_brigade p gone s b)) (sym (went.brigades b))
        (brigade_went b (s.brigades b) (r.instance.brigades b) refl (f.brigades b));
    cursors = λ c. subst (λ (g : ℕ → Cursor). FitsCursor (Covers p (pool_view new) lives) new (cleared_cursor p gone (s.cursors c)) (g c)) (sym went.cursors)
        (cursor_went (s.cursors c) (r.call.cursors c) (f.cursors c));
    facts = λ c d h. subst (λ (g : ℕ → Cursor). Differ (g c) (g d)) (sym went.cursors) (moved_facts (Covers p (pool_view r) lives) r s sound.names f (cleared_cursors p gone s) c d h);
  }

-- Clears, destroys and ends of requests are such.

path_dead : (ps : Pools Payload) (n : ℕ) → ps.path n ≡ [] → is_live ps n ≡ false
unfolding is_live
path_dead ps n none = ap (λ (path : List ℕ). not (is_empty path)) none

still_dead : (ps new : Pools Payload) (n : ℕ) → (new.path n ≡ []) ⊎ (new.path n ≡ ps.path n) → is_live ps n ≡ false → is_live new n ≡ false
still_dead ps new n path none = elim path [ inl gone ↦ path_dead new n gone | inr same ↦ same_live ps new n same ∙ none ]

-- by the pool map that is left
abbrev with_map : ℕ → Configuration → Pools Payload → Configuration
with_map n r left = files_let_go n r (with_pools left (run_down n r))

map_went : (n : ℕ) (r : Configuration) (left : Pools Payload) → ((m : ℕ) → is_under r.shared.pools n m ≡ false → left.path m ≡ r.shared.pools.path m)
    → ((m : ℕ) → is_under r.shared.pools n m ≡ true → m ≢ n → left.path m ≡ []) → ((m : ℕ) → (left.path m ≡ []) ⊎ (left.path m ≡ r.shared.pools.path m))
    → Went r (with_map n r left) n
unfolding run_down with_pools
map_went n r left apart under path = record {
  own = refl;
  conn = refl;
  named = λ k m e off. same_names (pool_view r) (pool_view (with_map n r left)) refl refl refl k ∙ e;
  apart = apart;
  under = λ m at ne. path_dead left m (under m at ne);
  dead = λ m none. still_dead r.shared.pools left m (path m) none;
  brigades = λ b. refl;
  loose = refl;
  cursors = refl;
}

cleared_went : (n : ℕ) (r : Configuration) → Went r (pool_cleared n r) n
cleared_went n r =
    map_went n r (pools.cleared n r.shared.pools) (λ m off. (cleared_apart n r.shared.pools m off).0) (pools_cleared_under n r.shared.pools) (cleared_path n r.shared.pools)

destroyed_went : (n : ℕ) (r : Configuration) → Went r (pool_destroyed n r) n
destroyed_went n r =
    map_went n r (pools.destroyed n r.shared.pools) (λ m off. (destroyed_apart n r.shared.pools m off).0) (λ m under ne. (destroyed_under n r.shared.pools m under).0)
    (destroyed_path n r.shared.pools)

pub own_clearable : (p : Program) (r : Configuration) → AsDeclared p r → (q n : ℕ) → pool_named r (pool.Own q) ≡ Some n → is_clearable (pool.Own q) ≡ true
own_clearable p r d q n e = elim (cases_lt q 8) [
  | inl lt ↦ lt-ltb q 8 lt
  | inr past ↦ absurd (let none : poolvar.Null ≡ poolvar.Made n = sym (d.slots q past) ∙ own_named q n r e in cc)
]

-- the pool of a variable that has one is live
at_live : (r : Configuration) (q : ℕ) (P : Option ℕ → Type 0) → has_pool r (pool.Own q) ≡ true
    → ((n : ℕ) → pool_named r (pool.Own q) ≡ Some n → is_live r.shared.pools n ≡ true → P (Some n)) → P (pool_named r (pool.Own q))
unfolding has_pool_at
at_live r q P there each = by_name (pool_named r (pool.Own q)) refl where
  by_name : (o : Option ℕ) → pool_named r (pool.Own q) ≡ o → P o
  by_name None is = absurd (let both : false ≡ true = sym (ap (is_live_named r.shared.pools) is) ∙ there in cc)
  by_name (Some n) is = each n is (named_lives r (pool.Own q) n there is)

pub law_pclear : {lives : Home → Type 0} (q : ℕ) → LawOf lives (instr.PClear q)
unfolding cleared_under moved has_pool_at with_pools run_down
law_pclear {lives} q p choice r s ready =
    at_live r q (λ o. Fits (Covers p (pool_view (on_pool pool_cleared o r)) lives) (after_pclear p q s) (on_pool pool_cleared o r)) (wanted_pool r (pool.Own q) None ready.may.faultless) by_pool
  where
    by_pool : (n : ℕ) → pool_named r (pool.Own q) ≡ Some n → is_live r.shared.pools n ≡ true → Fits (Covers p (pool_view (pool_cleared n r)) lives) (after_pclear p q s) (pool_cleared n r)
    by_pool n is live =
        let clears = own_clearable p r ready.declared q n is in
        let stays = λ (k : ℕ) (alive : lives (home.Pool k)). ready.outside.stays q n k (own_named q n r is) live alive in
        let itself : is_live (pools.cleared n r.shared.pools) n ≡ true = same_live r.shared.pools (pools.cleared n r.shared.pools) n (cleared_itself n r.shared.pools) ∙ live in
        went_fits p r (pool_cleared n r) lives (pool.Own q) n ready.may.proper ready.sound ready.declared clears is stays (cleared_went n r) s
        (cleared_pool (is_declared_under p (pool.Own q)) (pool.Own q) s) s.sent ready.fits.sent
        (λ k. pool_went p r (pool_cleared n r) lives (pool.Own q) n ready.may.proper ready.sound ready.declared clears is stays (cleared_went n r) k (s.pools k) (r.instance.pools k) refl
        (λ same. itself) (ready.fits.pools k))
        ready.fits

-- the variable of a pool that goes itself
ended_fits : (r new : Configuration) (k : PoolState) (v : PoolVar) (n : ℕ) → v ≡ poolvar.Made n → is_live r.shared.pools n ≡ true → is_live new.shared.pools n ≡ false
    → FitsPool r.shared.pools k v → FitsPool new.shared.pools (ended_pool k) v
ended_fits r new k v n at live dead f =
    let lives : k.live ≡ true = subst (λ b. cond b k.live k.gone ≡ true) live (subst (FitsPool r.shared.pools k) at f) in
    subst (FitsPool new.shared.pools (ended_pool k)) (sym at) (subst (λ b. cond b false (k.gone || k.live) ≡ true) (sym dead) (or_right k.gone k.live lives))

pub law_pdestroy : {lives : Home → Type 0} (q : ℕ) → LawOf lives (instr.PDestroy q)
unfolding cleared_under moved has_pool_at with_pools run_down
law_pdestroy {lives} q p choice r s ready =
    at_live r q (λ o. Fits (Covers p (pool_view (on_pool pool_destroyed o r)) lives) (after_pdestroy p q s) (on_pool pool_destroyed o r)) (wanted_pool r (pool.Own q) None ready.may.faultless) by_pool
  where
    others : ℕ → PoolState
    others = cleared_pool (is_declared_under p (pool.Own q)) (pool.Own q) s

    by_pool : (n : ℕ) → pool_named r (pool.Own q) ≡ Some n → is_live r.shared.pools n ≡ true → Fits (Covers p (pool_view (pool_destroyed n r)) lives) (after_pdestroy p q s) (pool_destroyed n r)
    by_pool n is live =
        let clears = own_clearable p r ready.declared q n is in
        let stays = λ (k : ℕ) (alive : lives (home.Pool k)). ready.outside.stays q n k (own_named q n r is) live alive in
        let new = pool_destroyed n r in
        let dead : is_live new.shared.pools n ≡ false = path_dead new.shared.pools n (destroyed_under n r.shared.pools n (under_itself r.shared.pools ready.sound.pools.formed n live)).0 in
        went_fits p r new lives (pool.Own q) n ready.may.proper ready.sound ready.declared clears is stays (destroyed_went n r) s
        (upd others q (ended_pool (s.pools q))) s.sent ready.fits.sent
        (λ k. elim (upd_either others q k (ended_pool (s.pools q))) [
          | inl at ↦ subst (λ (x : PoolState). FitsPool new.shared.pools x (r.instance.pools k)) (sym at.1)
              (subst (λ (j : ℕ). FitsPool new.shared.pools (ended_pool (s.pools q)) (r.instance.pools j)) (sym at.0)
              (ended_fits r new (s.pools q) (r.instance.pools q) n (own_named q n r is) live dead (ready.fits.pools q)))
          | inr off ↦ subst (λ (x : PoolState). FitsPool new.shared.pools x (r.instance.pools k)) (sym off.1)
              (pool_went p r new lives (pool.Own q) n ready.may.proper ready.sound ready.declared clears is stays (destroyed_went n r) k (s.pools k) (r.instance.pools k) refl
              (λ same. absurd (off.0 (sym (eqb-true q k same)))) (ready.fits.pools k))
        ])
        ready.fits

-- The end of a request.

ended_went : (req : ℕ) (r : Configuration) → Sound r → r.shared.req ≡ Some req → Went r (request_ended req r) req
unfolding run_down with_pools named_at
ended_went req r sound is = search (rules, named, gone) where
  gone : Went r (pool_destroyed req r) req
  gone = destroyed_went req r

  named : (k : PoolRef) (m : ℕ) → pool_named r k ≡ Some m → is_under r.shared.pools req m ≡ false → pool_named (request_ended req r) k ≡ Some m
  named pool.Conn m e off = e
  named (pool.Own q) m e off = e
  named pool.Req m e off =
      let same : req ≡ m = some_is req m (sym is ∙ e) in
      let live : is_live r.shared.pools req ≡ true = path_live r.shared.pools req req (r.shared.pools.path r.shared.conn) (sound.pools.req req is).0 in
      absurd (let both : true ≡ false = sym (under_itself r.shared.pools sound.pools.formed req live) ∙ (ap (is_under r.shared.pools req) same ∙ off) in cc)

pub request_end_lands : RequestEndLands
unfolding cleared_under moved named_at at_end_of_request with_pools run_down
request_end_lands p req r s m sound declared is f =
    went_fits p r (request_ended req r) NoneLives pool.Req req m sound declared refl is (λ k alive. absurd alive) (ended_went req r sound is) s
    (cleared_pool (is_declared_under p pool.Req) pool.Req s) false (λ h. h)
    (λ k. pool_went p r (request_ended req r) NoneLives pool.Req req m sound declared refl is (λ j alive. absurd alive) (ended_went req r sound is) k (s.pools k) (r.instance.pools k) refl
    (λ same. absurd (cc)) (f.pools k))
    f
