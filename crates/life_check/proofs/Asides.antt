-- Buckets that are set aside (apr_bucket_setaside), and the law of aside.
use Rattle.std.proofs.Common.{◌≡◌, ◌≢◌, ◌⊎◌, ℕ, ◌<◌, arith, Bool, true, false, ◌==◌, ◌&&◌, nat_lt, zero, suc, cond, List, [], ◌∷◌, filter_map, Option, Some, None, inl, inr, refl, sym, ◌∙◌, ap, subst}
use Rattle.std.proofs.Common.{eq-eqb, ne_eqb}
use Rattle.std.specs.Prelude.{get_or}
use Rattle.module_code.specs.Program.{Program, IsModule}
use Rattle.module_code.specs.declared.instr.Instr.TheVariants as instr
use Rattle.module_code.specs.declared.instr.PoolRef.{PoolRef}
use Rattle.module_code.specs.declared.instr.PoolRef.TheVariants as pool
use Rattle.model_laws.specs.AsDeclared.{AsDeclared}
use Rattle.run_model.specs.declared.bucket.Bucket.{Bucket}
use Rattle.run_model.specs.declared.bucket.Home.{Home}
use Rattle.run_model.specs.declared.bucket.Home.TheVariants as home
use Rattle.run_model.specs.declared.bucket.Kind.{Kind}
use Rattle.run_model.specs.declared.bucket.Kind.TheVariants as kind
use Rattle.run_model.specs.declared.bucket.NamedBucket.{NamedBucket}
use Rattle.run_model.specs.declared.payload.Payload.{Payload}
use Rattle.run_model.specs.Buckets.{is_data_kind, is_eos_kind}
use Rattle.run_model.specs.BrigadeLists.{bucket_named}
use Rattle.run_model.specs.BucketSteps.{changed_at, ref_taken, items_at, aside_into, do_aside}
use Rattle.run_model.specs.Cutting.{FitsKind, LivesAs, IsFree, IsOfPool, set_aside, set_aside_as}
use Rattle.run_model.specs.Cursors.{CursorPlace, Within, AtLoose, at_cursor}
use Rattle.run_model.specs.Faults.{WPool, WHome, WCursor, OnBucket, or_else, fault_want, has_pool, has_pool_at, is_live_named, usable_fault}
use Rattle.run_model.specs.declared.fault.FaultKind.TheVariants.{F5}
use Rattle.run_model.specs.declared.bucket.PoolVar.TheVariants as poolvar
use Rattle.model_laws.proofs.Marks.{first_none, second_none}
use Rattle.model_laws.proofs.NamedPools.{own_named}
use Rattle.std.proofs.lemmas.Bool.{cases_lt}
use Rattle.std.proofs.lemmas.Bool.Decides.{nat_tests}
use Rattle.run_model.specs.declared.bucket.Cursor.{Cursor}
use Rattle.run_model.specs.declared.bucket.Cursor.TheVariants as cursor
use Rattle.run_model.specs.Effects.{is_above, aside_named, all_referred, new_ref}
use Rattle.run_model.specs.Pools.{Pools, is_live, is_under}
use Rattle.run_model.specs.Sound.{Sound, SoundNames}
use Rattle.run_model.proofs.EachBucket.{each_changed, of_named}
use Rattle.run_model.proofs.CursorPlaces.{named_is}
use Rattle.model_laws.proofs.StepPools.{referred_path, wanted_pool, named_lives}
use Rattle.run_model.specs.State.{Configuration, pool_view, pool_named, named_at, with_pools, set_brigade, set_loose}
use Rattle.life_state.specs.declared.parts.Classes.{Classes}
use Rattle.life_state.specs.Facts.{move_bucket}
use Rattle.life_state.specs.Rules.{cursor_need, pool_need, homes_need, homes_at, after_aside}
use Rattle.life_check.proofs.Wants.{unless_some}
use Rattle.life_state.specs.PoolOrder.{is_clearable, under_within, is_under as is_declared_under}
use Rattle.life_state.specs.States.{Homes, home_in, homes_join, with_homes, is_home, BrigadeKnown, CursorKnown, Unset, Loose, In, End, InOrEnd, State, set_brigade as set_brigade_known}
use Rattle.life_check.specs.Meaning.{class_has, IsAtBucketOf, IsAtLoose, FitsCursor, CoversPool, ByConnection, ByMember, ByDead, ByCall, Covers, Fits}
use Rattle.life_check.specs.Soundness.{LivesOutside, LawOf}
use Rattle.run_model.proofs.RunOrderLaws.{under_itself}
use Rattle.model_laws.proofs.chains.Apart.{some_is}
use Rattle.life_check.proofs.Filled.{covers_first, covers_second, IsFull, full_of, rearranged_stays, rearranged_brigades, finds_kept, bucket_moved}
use Rattle.life_check.proofs.Standing.{CursorStays, Finds, finds_same, loose_stays, in_stays, end_stays, usable_below, cursor_in, cursor_loose}
use Rattle.life_check.proofs.Lists.{IsSorted, named_map, map_found, holds_map, each_of_all, all_of_each}
use Rattle.life_check.proofs.Pools.{covers_moves, same_names, same_live, pool_kept, brigade_more, fits_beside}
use Rattle.life_check.proofs.Tree.{under_declared}

-- A place below 8 is a home of its own, and lies under itself.
home_itself : (q : PoolRef) → is_clearable q ≡ true → is_home q q ≡ true
home_itself pool.Conn is = absurd (cc)
home_itself pool.Req is = refl
home_itself (pool.Own i) is = ap (λ b. b && nat_lt i 8) (eq-eqb i i refl) ∙ is

-- Nothing but the connection's pool stands above it.
above_conn : (looks : ℕ) (p : Program) (k : PoolRef) → is_clearable k ≡ true → under_within looks p k pool.Conn ≡ false
unfolding under_within
above_conn zero p k is = refl
above_conn (suc looks) p pool.Conn is = absurd (cc)
above_conn (suc looks) p pool.Req is = above_conn looks p pool.Req is
above_conn (suc looks) p (pool.Own i) is = above_conn looks p (pool.Own i) is

-- What setting aside into the pool at q makes of a home: it is covered by that place alone.
module _ {lives : Home → Type 0} (p : Program) (r : Configuration) (q : PoolRef) (target : ℕ) (proper : IsModule p) (sound : Sound r) (declared : AsDeclared p r) (outside : LivesOutside r lives)
    (named : pool_named r q ≡ Some target) (live : is_live r.shared.pools target ≡ true) (place : (is_clearable q ≡ true) ⊎ (q ≡ pool.Conn)) where
  at_member : (k : PoolRef) (n : ℕ) → is_clearable k ≡ true → pool_named r k ≡ Some n → is_under r.shared.pools n target ≡ true → CoversPool p (pool_view r) lives (home_in q) n
  at_member k n kc is above =
      let under : is_declared_under p k q ≡ true = sym (under_declared p r proper sound declared k q n target is named live) ∙ above in
      elim place [
        | inl own ↦ ByMember k q kc own is (home_itself q own) under
        | inr conn ↦ absurd (let none : is_declared_under p k q ≡ false = ap (is_declared_under p k) conn ∙ above_conn 10 p k kc in let both : true ≡ false = sym under ∙ none in cc)
      ]

  above_covered : (h : Homes) (n : ℕ) → h.dead ≡ false → is_under r.shared.pools n target ≡ true → CoversPool p (pool_view r) lives h n → CoversPool p (pool_view r) lives (home_in q) n
  unfolding named_at
  above_covered h n none above (ByConnection is) = ByConnection is
  above_covered h n none above (ByMember k d kc dc is at under) = at_member k n kc is above
  above_covered h n none above (ByDead k kc is dead) = absurd (let both : true ≡ false = sym dead ∙ none in cc)
  above_covered h n none above (ByCall call lives) = elim (outside.over q target n named lives above) [
    | inl req ↦ at_member pool.Req n refl req above
    | inr conn ↦ ByConnection conn
  ]

  target_covered : CoversPool p (pool_view r) lives (home_in q) target
  unfolding named_at
  target_covered = elim place [
    | inl own ↦ at_member q target own named (under_itself r.shared.pools sound.pools.formed target live)
    | inr conn ↦ ByConnection (some_is target r.shared.conn (sym named ∙ ap (pool_named r) conn))
  ]

  file_covered : (h : Homes) (x : Home) (b : Bucket) → h.dead ≡ false → IsOfPool x → b.home ≡ x → Covers p (pool_view r) lives h x
      → Covers p (pool_view r) lives (home_in q) (set_aside_as target (is_above r.shared.pools target x) b kind.File).home
  file_covered h home.Free b none of is c = absurd of
  file_covered h (home.Call n) b none of is c = absurd of
  file_covered h home.Ended b none of is c = absurd (let both : true ≡ false = sym c ∙ none in cc)
  file_covered h (home.Pool n) b none of is c = by_test (is_under r.shared.pools n target) refl where
    by_test : (above : Bool) → is_under r.shared.pools n target ≡ above → Covers p (pool_view r) lives (home_in q) (set_aside_as target above b kind.File).home
    by_test true tells = subst (Covers p (pool_view r) lives (home_in q)) (sym is) (c.0, above_covered h n none tells c.1)
    by_test false tells = (live, target_covered)

  pub aside_covered : (h : Homes) (x : NamedBucket) → h.dead ≡ false → FitsKind x.bucket → Covers p (pool_view r) lives h x.bucket.home
      → Covers p (pool_view r) lives (home_in q) (aside_named r.shared.pools target x).bucket.home
  aside_covered h x none fits c = by_kind x.bucket.kind fits.lives where
    free : (y : Home) → IsFree y → Covers p (pool_view r) lives (home_in q) y
    free home.Free is = tt
    free (home.Call n) is = absurd is
    free (home.Pool n) is = absurd is
    free home.Ended is = absurd is

    by_kind : (k : Kind) → LivesAs k x.bucket.home → Covers p (pool_view r) lives (home_in q) (set_aside_as target (is_above r.shared.pools target x.bucket.home) x.bucket k).home
    by_kind kind.Heap is = free x.bucket.home is
    by_kind kind.Transient is = tt
    by_kind kind.Immortal is = free x.bucket.home is
    by_kind (kind.Pool n) is = free x.bucket.home is
    by_kind kind.File is = file_covered h x.bucket.home x.bucket none is refl c
    by_kind kind.Flush is = free x.bucket.home is
    by_kind kind.Eos is = free x.bucket.home is

-- Other payloads of pools change nothing.
module _ (p : Program) (lives : Home → Type 0) (ps : Pools Payload) (r : Configuration) (path : ps.path ≡ r.shared.pools.path) where
  still_live : (n : ℕ) → is_live ps n ≡ is_live r.shared.pools n
  still_live n = same_live r.shared.pools ps n (ap (λ (g : ℕ → List ℕ). g n) path)

  paths_more : (h : Homes) (x : Home) → Covers p (pool_view r) lives h x → Covers p (pool_view (with_pools ps r)) lives h x
  unfolding with_pools
  paths_more = covers_moves p (pool_view r) (pool_view (with_pools ps r)) lives
      (record { conn = refl; named = λ k n e l. same_names (pool_view r) (pool_view (with_pools ps r)) refl refl refl k ∙ e; lives = λ n l. still_live n ∙ l })

  paths_fit : (s : State) → Fits (Covers p (pool_view r) lives) s r → Fits (Covers p (pool_view (with_pools ps r)) lives) s (with_pools ps r)
  unfolding with_pools
  paths_fit s f =
      fits_beside (Covers p (pool_view r) lives) (Covers p (pool_view (with_pools ps r)) lives) paths_more r (with_pools ps r) refl (λ b u. refl) s s.pools s.brigades refl refl
      (λ k. pool_kept r.shared.pools ps (s.pools k) (r.instance.pools k) (λ n e. still_live n) (f.pools k))
      (λ b. brigade_more (Covers p (pool_view r) lives) (Covers p (pool_view (with_pools ps r)) lives) paths_more (s.brigades b) (r.instance.brigades b) (f.brigades b)) f

-- What is asked of kinds is the same of a bucket that was set aside, where it is the same of HEAP and of TRANSIENT.
aside_same : {X : Type 0} (g : Kind → X) → g kind.Heap ≡ g kind.Transient → (target : ℕ) (above : Bool) (b : Bucket) → g (set_aside target above b).kind ≡ g b.kind
aside_same {X} g heap target above b = by_kind b.kind refl where
  of_file : (c : Bool) → g (cond c b (record b { home = home.Pool target })).kind ≡ g b.kind
  of_file true = refl
  of_file false = refl

  by_kind : (k : Kind) → b.kind ≡ k → g (set_aside_as target above b k).kind ≡ g b.kind
  by_kind kind.Heap is = refl
  by_kind kind.Transient is = heap ∙ sym (ap g is)
  by_kind kind.Immortal is = refl
  by_kind (kind.Pool n) is = refl
  by_kind kind.File is = of_file above
  by_kind kind.Flush is = refl
  by_kind kind.Eos is = refl

-- Buckets of one name are set aside.
module _ (n : ℕ) (ps : Pools Payload) (target : ℕ) where
  abbrev put_aside : NamedBucket → NamedBucket
  put_aside y = cond (y.name == n) (aside_named ps target y) y

  aside_name : (y : NamedBucket) → (put_aside y).name ≡ y.name
  aside_name y = by_test (y.name == n) where
    by_test : (c : Bool) → (cond c (aside_named ps target y) y).name ≡ y.name
    by_test true = refl
    by_test false = refl

  aside_of : {X : Type 0} (g : Kind → X) → g kind.Heap ≡ g kind.Transient → (y : NamedBucket) → g (put_aside y).bucket.kind ≡ g y.bucket.kind
  aside_of {X} g heap y = by_test (y.name == n) where
    by_test : (c : Bool) → g (cond c (aside_named ps target y) y).bucket.kind ≡ g y.bucket.kind
    by_test true = aside_same g heap target (is_above ps target y.bucket.home) y.bucket
    by_test false = refl

  aside_sorted : IsSorted put_aside
  aside_sorted = record { bytes = aside_of is_data_kind refl; eos = aside_of is_eos_kind refl }

  at_name : (y : NamedBucket) → y.name ≡ n → put_aside y ≡ aside_named ps target y
  at_name y is = ap (λ c. cond c (aside_named ps target y) y) (eq-eqb y.name n is)

  off_name : (y : NamedBucket) → y.name ≢ n → put_aside y ≡ y
  off_name y is = ap (λ c. cond c (aside_named ps target y) y) (ne_eqb y.name n is)

  aside_found : (m : ℕ) (x : NamedBucket) (xs : List NamedBucket) → bucket_named m xs ≡ Some x → bucket_named m (changed_at n (aside_named ps target) xs) ≡ Some (put_aside x)
  aside_found m x xs is = named_map m put_aside aside_name xs ∙ ap (map_found put_aside) is

-- A bucket at c is set aside into the pool at q.
module _ {lives : Home → Type 0} (p : Program) (r : Configuration) (s : State) (c : ℕ) (q : PoolRef) (target : ℕ) (x : NamedBucket) (proper : IsModule p) (sound : Sound r)
    (declared : AsDeclared p r) (outside : LivesOutside r lives)
    (named : pool_named r q ≡ Some target) (live : is_live r.shared.pools target ≡ true) (place : (is_clearable q ≡ true) ⊎ (q ≡ pool.Conn)) (fits : Fits (Covers p (pool_view r) lives) s r) where
  abbrev left : Configuration
  left = ref_taken target x r

  path : (all_referred target (filter_map (new_ref r.shared.pools target) (x ∷ [])) r.shared.pools).path ≡ r.shared.pools.path
  path = referred_path target (filter_map (new_ref r.shared.pools target) (x ∷ [])) r.shared.pools

  abbrev D : Homes → Home → Type 0
  D = Covers p (pool_view left) lives

  left_fits : Fits D s left
  left_fits = paths_fit p lives (all_referred target (filter_map (new_ref r.shared.pools target) (x ∷ [])) r.shared.pools) r path s fits

  left_covered : (h : Homes) (y : NamedBucket) → h.dead ≡ false → FitsKind y.bucket → Covers p (pool_view r) lives h y.bucket.home → D (home_in q) (aside_named r.shared.pools target y).bucket.home
  left_covered h y none kind c =
      paths_more p lives _ r path (home_in q) (aside_named r.shared.pools target y).bucket.home (aside_covered p r q target proper sound declared outside named live place h y none kind c)

  left_names : SoundNames left
  unfolding with_pools
  left_names = record { once = sound.names.once; fresh = sound.names.fresh; apart = sound.names.apart; given = sound.names.given; limit = sound.names.limit; slots = sound.names.slots }

  -- In a brigade: it is kept in it, with a home that is covered by that place.
  module _ (b : ℕ) (usable : usable_fault (r.instance.brigades b) ≡ None) (alive : (s.brigades b).homes.dead ≡ false) where
    abbrev items : List NamedBucket
    items = changed_at x.name (aside_named r.shared.pools target) (items_at r b)

    abbrev new : Configuration
    new = aside_into (Within b x) target r

    was_full : IsFull (Covers p (pool_view r) lives) (s.brigades b) (items_at r b)
    was_full = full_of (Covers p (pool_view r) lives) (s.brigades b) (r.instance.brigades b) usable (fits.brigades b)

    abbrev known_now : BrigadeKnown
    known_now = with_homes (homes_join (home_in q)) (s.brigades b)

    kept : (y : NamedBucket) → Covers p (pool_view r) lives (s.brigades b).homes y.bucket.home → D known_now.homes y.bucket.home
    kept y e = covers_second p (pool_view left) lives (home_in q) (s.brigades b).homes y.bucket.home (paths_more p lives _ r path (s.brigades b).homes y.bucket.home e)

    turned : (y : NamedBucket) → FitsKind y.bucket → Covers p (pool_view r) lives (s.brigades b).homes y.bucket.home → D known_now.homes (aside_named r.shared.pools target y).bucket.home
    turned y kind e = covers_first p (pool_view left) lives (home_in q) (s.brigades b).homes (aside_named r.shared.pools target y).bucket.home (left_covered (s.brigades b).homes y alive kind e)

    full : IsFull D known_now items
    full = record {
      live = was_full.live;
      usable = was_full.usable;
      holds = holds_map (s.brigades b).content (put_aside x.name r.shared.pools target) (aside_sorted x.name r.shared.pools target) (items_at r b) was_full.holds;
      homes = each_of_all (λ y. D known_now.homes y.bucket.home) items
          (each_changed (λ y. Covers p (pool_view r) lives (s.brigades b).homes y.bucket.home) (λ y. D known_now.homes y.bucket.home) x.name (aside_named r.shared.pools target) (items_at r b) kept
          (λ k d lt. λ same e. turned (get_or (items_at r b) k d) (sound.buckets.brigades b k d lt) e)
          (all_of_each (λ y. Covers p (pool_view r) lives (s.brigades b).homes y.bucket.home) (items_at r b) was_full.homes));
    }

    stays : (v : Cursor) → CursorStays (λ h y. Unit {0}) (λ h y. Unit {0}) left new v
    unfolding with_pools set_brigade set_loose
    stays v = rearranged_stays (λ h y. Unit {0}) left b items left.call.loose v usable
        (λ n at. λ y is. record {
          bucket = put_aside x.name r.shared.pools target y;
          there = aside_found x.name r.shared.pools target n y (items_at r b) is;
          classed = λ t e. aside_of x.name r.shared.pools target (class_has t) refl y ∙ e;
          covered = λ h e. tt;
        })
        (λ n at. finds_same (λ h y. Unit {0}) (λ h y. Unit {0}) n _ _ (λ h y e. e) refl)

    cursor_kept : (v : Cursor) (k : CursorKnown) → FitsCursor D left k v → FitsCursor D new k v
    unfolding set_brigade
    cursor_kept v Unset f = tt
    cursor_kept v (Loose t h) f = loose_stays D D left new v t h (λ n at. finds_same D D n _ _ (λ g y e. e) refl) f
    cursor_kept v (In a t) f = in_stays (λ h y. Unit {0}) (λ h y. Unit {0}) left new v a a t ((stays v).within a) ((stays v).usable a f.usable) f
    cursor_kept v (End a) f = end_stays D D left new v a ((stays v).names a) ((stays v).usable a f.usable) f
    cursor_kept v (InOrEnd a t) f = elim f [
      | inl i ↦ inl (in_stays (λ h y. Unit {0}) (λ h y. Unit {0}) left new v a a t ((stays v).within a) ((stays v).usable a i.usable) i)
      | inr e ↦ inr (end_stays D D left new v a ((stays v).names a) ((stays v).usable a e.usable) e)
    ]

    within_fits : Fits (Covers p (pool_view new) lives) (set_brigade_known b known_now s) new
    unfolding set_brigade with_pools
    within_fits = record {
      sent = left_fits.sent;
      pools = left_fits.pools;
      brigades = rearranged_brigades D left b items left.call.loose s known_now usable full left_fits.brigades;
      cursors = λ k. cursor_kept (left.call.cursors k) (s.cursors k) (left_fits.cursors k);
      facts = left_fits.facts;
    }

  -- Loose: its home is that place alone, and no other cursor is known to be at it.
  module _ (t : Classes) (h : Homes) (at : r.call.cursors c ≡ cursor.At x.name) (there : bucket_named x.name r.call.loose ≡ Some x) (classed : class_has t x.bucket.kind ≡ true)
      (covered : Covers p (pool_view r) lives h x.bucket.home) (alive : h.dead ≡ false) where
    abbrev loose : List NamedBucket
    loose = changed_at x.name (aside_named r.shared.pools target) r.call.loose

    abbrev left_loose : Configuration
    left_loose = aside_into (AtLoose x) target r

    found : bucket_named x.name (changed_at x.name (aside_named r.shared.pools target) r.call.loose) ≡ Some (aside_named r.shared.pools target x)
    found = aside_found x.name r.shared.pools target x.name x r.call.loose there ∙ ap (λ y. Some y) (at_name x.name r.shared.pools target x refl)

    others : (m : ℕ) → m ≢ x.name → Finds D D m r.call.loose (changed_at x.name (aside_named r.shared.pools target) r.call.loose)
    others m off = finds_kept D m r.call.loose (changed_at x.name (aside_named r.shared.pools target) r.call.loose)
        (λ y is. aside_found x.name r.shared.pools target m y r.call.loose is ∙ ap (λ z. Some z) (off_name x.name r.shared.pools target y (λ same. off (sym (named_is m r.call.loose y is) ∙ same))))

    here : IsAtLoose D left_loose (r.call.cursors c) t (home_in q)
    unfolding set_loose with_pools
    here = record {
      bucket = aside_named r.shared.pools target x;
      at = at;
      there = found;
      classed = aside_same (class_has t) refl target (is_above r.shared.pools target x.bucket.home) x.bucket ∙ classed;
      covered = left_covered h x alive (of_named (λ y. FitsKind y.bucket) x.name x r.call.loose there sound.buckets.loose) covered;
    }

    loose_fits : Fits (Covers p (pool_view left_loose) lives) (move_bucket c (Loose t (home_in q)) s) left_loose
    unfolding set_loose with_pools
    loose_fits =
        bucket_moved D left s c x.name (Loose t (home_in q)) s.brigades left.instance.brigades loose left_names left_fits at left_fits.brigades
        (λ w other. record { loose = λ n is. others n (other n is); within = λ b n is. finds_same D D n _ _ (λ g y e. e) refl; names = λ b. refl; usable = λ b u. u }) here

-- The law.

is_below : (a b : ℕ) → a < b → nat_lt a b ≡ true
is_below a b lt = grind (arith, nat_tests)

-- a pool that is named is the connection's, the request's or in one of the eight variables
clearable : (p : Program) (r : Configuration) (q : PoolRef) (n : ℕ) → AsDeclared p r → pool_named r q ≡ Some n → (is_clearable q ≡ true) ⊎ (q ≡ pool.Conn)
clearable p r pool.Conn n d named = inr refl
clearable p r pool.Req n d named = inl refl
clearable p r (pool.Own i) n d named = elim (cases_lt i 8) [
  | inl lt ↦ inl (is_below i 8 lt)
  | inr past ↦ absurd (let none : poolvar.Null ≡ poolvar.Made n = sym (d.slots i past) ∙ own_named i n r named in cc)
]

pub law_aside : {lives : Home → Type 0} (c : ℕ) (q : PoolRef) → LawOf lives (instr.Aside c q)
unfolding has_pool_at
law_aside {lives} c q p choice r s ready = by_pool (pool_named r q) refl where
  C : Homes → Home → Type 0
  C = Covers p (pool_view r) lives

  pool_met : or_else (fault_want r (WPool q)) (or_else (fault_want r (WHome c)) None) ≡ None
  pool_met = second_none (fault_want r (WCursor c OnBucket)) (or_else (fault_want r (WPool q)) (or_else (fault_want r (WHome c)) None)) ready.may.faultless

  there : has_pool r q ≡ true
  there = wanted_pool r q (or_else (fault_want r (WHome c)) None) pool_met

  home_met : homes_need (homes_at s (s.cursors c)) ≡ None
  home_met = first_none (homes_need (homes_at s (s.cursors c))) None (second_none (pool_need s q) (or_else (homes_need (homes_at s (s.cursors c))) None)
      (second_none (cursor_need OnBucket (s.cursors c)) (or_else (pool_need s q) (or_else (homes_need (homes_at s (s.cursors c))) None)) ready.met))

  none_named : pool_named r q ≡ None → ⊥
  none_named is = let none : is_live_named r.shared.pools None ≡ true = ap (is_live_named r.shared.pools) (sym is) ∙ there in cc

  -- by what is known of the cursor
  by_known : (target : ℕ) → pool_named r q ≡ Some target → (k : CursorKnown) → s.cursors c ≡ k → cursor_need OnBucket k ≡ None → homes_need (homes_at s k) ≡ None
      → Fits (Covers p (pool_view (do_aside (at_cursor r c) (Some target) r)) lives) (after_aside c q k s) (do_aside (at_cursor r c) (Some target) r)
  by_known target named (In b t) is met home =
      let i : IsAtBucketOf r (r.call.cursors c) b t = subst (λ (k : CursorKnown). FitsCursor C r k (r.call.cursors c)) is (ready.fits.cursors c) in
      subst (λ (at : CursorPlace). Fits (Covers p (pool_view (do_aside at (Some target) r)) lives) (after_aside c q (In b t) s) (do_aside at (Some target) r))
      (sym (cursor_in r (r.call.cursors c) b t ready.sound.names i))
      (subst (λ (few : Bool). Fits (Covers p (pool_view (aside_into (Within b i.bucket) target r)) lives) (cond few (set_brigade_known b (with_homes (homes_join (home_in q)) (s.brigades b)) s) s)
      (aside_into (Within b i.bucket) target r))
      (sym (let lt : b < 9 = usable_below r b ready.sound.names i.usable in is_below b 9 lt))
      (within_fits p r s c q target i.bucket ready.may.proper ready.sound ready.declared ready.outside named (named_lives r q target there named)
      (clearable p r q target ready.declared named) ready.fits b i.usable (unless_some (s.brigades b).homes.dead F5 home)))
  by_known target named (Loose t h) is met home =
      let i : IsAtLoose C r (r.call.cursors c) t h = subst (λ (k : CursorKnown). FitsCursor C r k (r.call.cursors c)) is (ready.fits.cursors c) in
      subst (λ (at : CursorPlace). Fits (Covers p (pool_view (do_aside at (Some target) r)) lives) (after_aside c q (Loose t h) s) (do_aside at (Some target) r))
      (sym (cursor_loose C r (r.call.cursors c) t h ready.sound.names i))
      (loose_fits p r s c q target i.bucket ready.may.proper ready.sound ready.declared ready.outside named (named_lives r q target there named)
      (clearable p r q target ready.declared named) ready.fits t h i.at i.there i.classed i.covered (unless_some h.dead F5 home))
  by_known target named k is met home = absurd (cc)

  by_pool : (o : Option ℕ) → pool_named r q ≡ o → Fits (Covers p (pool_view (do_aside (at_cursor r c) o r)) lives) (after_aside c q (s.cursors c) s) (do_aside (at_cursor r c) o r)
  by_pool None is = absurd (none_named is)
  by_pool (Some target) is =
      by_known target is (s.cursors c) refl (first_none (cursor_need OnBucket (s.cursors c)) (or_else (pool_need s q) (or_else (homes_need (homes_at s (s.cursors c))) None)) ready.met) home_met
