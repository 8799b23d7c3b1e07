-- Where the buckets of one brigade, and the loose ones, are others: what the brigade holds then, and which cursors stay.
use Rattle.std.proofs.Common.{◌≡◌, ◌≢◌, ℕ, true, cond, List, Some, None, refl, sym, ◌∙◌, ap, subst}
use Rattle.module_code.specs.Program.{Program}
use Rattle.run_model.specs.declared.bucket.BrigadeVar.{BrigadeVar}
use Rattle.run_model.specs.declared.bucket.BrigadeVar.TheVariants as var
use Rattle.run_model.specs.declared.bucket.Cursor.{Cursor}
use Rattle.run_model.specs.declared.bucket.Cursor.TheVariants as cursor
use Rattle.run_model.specs.declared.bucket.Home.{Home}
use Rattle.run_model.specs.declared.bucket.Home.TheVariants as home
use Rattle.run_model.specs.declared.bucket.Mark.{Mark}
use Rattle.run_model.specs.declared.bucket.Mark.TheVariants.{Usable, Passed}
use Rattle.run_model.specs.declared.bucket.NamedBucket.{NamedBucket}
use Rattle.run_model.specs.declared.fault.FaultKind.TheVariants.{F7}
use Rattle.run_model.specs.Indexed.{upd}
use Rattle.run_model.specs.BrigadeLists.{bucket_named}
use Rattle.run_model.specs.BucketSteps.{items_at, set_items}
use Rattle.run_model.specs.Effects.{with_items}
use Rattle.run_model.specs.Faults.{usable_fault}
use Rattle.run_model.specs.Sound.{SoundNames, brigade_name}
use Rattle.run_model.specs.State.{Configuration, PoolView, items_of, is_passed, set_brigade, set_loose}
use Rattle.run_model.proofs.Updates.{upd_at}
use Rattle.life_state.specs.States.{Homes, homes_join, BrigadeKnown, CursorKnown, State}
use Rattle.life_state.specs.Facts.{known, moved, forgotten, move_bucket}
use Rattle.life_state.proofs.Tests.{or_left, or_right}
use Rattle.life_check.specs.Meaning.{CoversPool, ByConnection, ByMember, ByDead, ByCall, Covers, HoldsOfEach, HoldsContents, FitsMark, FitsBrigade, FitsCursor, Differ, Fits}
use Rattle.life_check.proofs.Standing.{upd_both, upd_first, upd_second, moved_facts, Finds, finds_same, CursorStays, cursor_stays, forgotten_fits}

-- Homes of which there are more.

module _ (p : Program) (v : PoolView) (lives : Home → Type 0) (h g : Homes) where
  first_pool : (n : ℕ) → CoversPool p v lives h n → CoversPool p v lives (homes_join h g) n
  first_pool n (ByConnection e) = ByConnection e
  first_pool n (ByMember k d clear_k clear_d named at under) = ByMember k d clear_k clear_d named (or_left (h.at d) (g.at d) at) under
  first_pool n (ByDead k clear named dead) = ByDead k clear named (or_left h.dead g.dead dead)
  first_pool n (ByCall call there) = ByCall (or_left h.call g.call call) there

  second_pool : (n : ℕ) → CoversPool p v lives g n → CoversPool p v lives (homes_join h g) n
  second_pool n (ByConnection e) = ByConnection e
  second_pool n (ByMember k d clear_k clear_d named at under) = ByMember k d clear_k clear_d named (or_right (h.at d) (g.at d) at) under
  second_pool n (ByDead k clear named dead) = ByDead k clear named (or_right h.dead g.dead dead)
  second_pool n (ByCall call there) = ByCall (or_right h.call g.call call) there

  pub covers_first : (x : Home) → Covers p v lives h x → Covers p v lives (homes_join h g) x
  covers_first home.Free c = tt
  covers_first (home.Call n) c = (or_left h.call g.call (c.0), c.1)
  covers_first (home.Pool n) c = (c.0, first_pool n (c.1))
  covers_first home.Ended c = or_left h.dead g.dead c

  pub covers_second : (x : Home) → Covers p v lives g x → Covers p v lives (homes_join h g) x
  covers_second home.Free c = tt
  covers_second (home.Call n) c = (or_right h.call g.call (c.0), c.1)
  covers_second (home.Pool n) c = (c.0, second_pool n (c.1))
  covers_second home.Ended c = or_right h.dead g.dead c

-- A brigade that may be used.

module _ (C : Homes → Home → Type 0) where
  -- it holds these buckets
  pub record IsFull (k : BrigadeKnown) (xs : List NamedBucket) : Type 0 where
    pub live : k.live ≡ true
    pub usable : k.usable ≡ true
    pub holds : HoldsContents k.content xs
    pub homes : HoldsOfEach (λ x. C k.homes x.bucket.home) xs

  pub full_of : (k : BrigadeKnown) (v : BrigadeVar) → usable_fault v ≡ None → FitsBrigade C k v → IsFull k (items_of v)
  full_of k var.Null usable f = absurd (cc)
  full_of k var.Gone usable f = absurd (cc)
  full_of k (var.Live v) usable f = by_mark v.mark usable (f.1) where
    by_mark : (m : Mark) → cond (is_passed m) (Some F7) None ≡ None → FitsMark C k m v.items → IsFull k v.items
    by_mark Usable usable marked = record { live = f.0; usable = marked.0; holds = marked.1; homes = marked.2 }
    by_mark Passed usable marked = absurd (cc)

  pub full_fits : (k : BrigadeKnown) (v : BrigadeVar) (xs : List NamedBucket) → usable_fault v ≡ None → IsFull k xs → FitsBrigade C k (with_items xs v)
  full_fits k var.Null xs usable f = absurd (cc)
  full_fits k var.Gone xs usable f = absurd (cc)
  full_fits k (var.Live v) xs usable f = (f.live, by_mark v.mark usable) where
    by_mark : (m : Mark) → cond (is_passed m) (Some F7) None ≡ None → FitsMark C k m xs
    by_mark Usable usable = (f.usable, f.holds, f.homes)
    by_mark Passed usable = absurd (cc)

-- Its name, its mark and its buckets.

pub filled_items : (xs : List NamedBucket) (v : BrigadeVar) → usable_fault v ≡ None → items_of (with_items xs v) ≡ xs
filled_items xs var.Null usable = absurd (cc)
filled_items xs var.Gone usable = absurd (cc)
filled_items xs (var.Live v) usable = refl

pub filled_name : (xs : List NamedBucket) (v : BrigadeVar) → brigade_name (with_items xs v) ≡ brigade_name v
filled_name xs var.Null = refl
filled_name xs var.Gone = refl
filled_name xs (var.Live v) = refl

pub filled_usable : (xs : List NamedBucket) (v : BrigadeVar) → usable_fault (with_items xs v) ≡ usable_fault v
filled_usable xs var.Null = refl
filled_usable xs var.Gone = refl
filled_usable xs (var.Live v) = refl

-- The brigade of b has the buckets ys, and these are loose.
abbrev pub rearranged : ℕ → List NamedBucket → List NamedBucket → Configuration → Configuration
rearranged b ys loose r = set_loose loose (set_items b ys r)

module _ (C : Homes → Home → Type 0) (r : Configuration) (b : ℕ) (ys loose : List NamedBucket) where
  pub rearranged_items : usable_fault (r.instance.brigades b) ≡ None → items_at (rearranged b ys loose r) b ≡ ys
  unfolding set_brigade set_loose
  rearranged_items usable = upd_at_items ∙ filled_items ys (r.instance.brigades b) usable where
    upd_at_items : items_of (upd r.instance.brigades b (with_items ys (r.instance.brigades b)) b) ≡ items_of (with_items ys (r.instance.brigades b))
    upd_at_items = ap items_of (upd_at r.instance.brigades b (with_items ys (r.instance.brigades b)))

  pub rearranged_usable : (k : ℕ) → usable_fault ((rearranged b ys loose r).instance.brigades k) ≡ usable_fault (r.instance.brigades k)
  unfolding set_brigade set_loose
  rearranged_usable = upd_second (λ k v. usable_fault v ≡ usable_fault (r.instance.brigades k)) r.instance.brigades b (with_items ys (r.instance.brigades b))
      (filled_usable ys (r.instance.brigades b)) (λ k differ. refl)

  -- a cursor stays where its bucket is still found
  pub rearranged_stays : (v : Cursor) → usable_fault (r.instance.brigades b) ≡ None → ((n : ℕ) → v ≡ cursor.At n → Finds C C n (items_at r b) ys)
      → ((n : ℕ) → v ≡ cursor.At n → Finds C C n r.call.loose loose)
      → CursorStays C C r (rearranged b ys loose r) v
  unfolding set_brigade set_loose
  rearranged_stays v usable within loosely = record {
    loose = loosely;
    within = λ k n at. upd_second (λ j w. Finds C C n (items_at r j) (items_of w)) r.instance.brigades b (with_items ys (r.instance.brigades b))
        (subst (λ (zs : List NamedBucket). Finds C C n (items_at r b) zs) (sym (filled_items ys (r.instance.brigades b) usable)) (within n at))
        (λ j differ. finds_same C C n (items_at r j) (items_at r j) (λ h x c. c) refl) k;
    names = upd_second (λ k w. brigade_name w ≡ brigade_name (r.instance.brigades k)) r.instance.brigades b (with_items ys (r.instance.brigades b)) (filled_name ys (r.instance.brigades b))
        (λ k differ. refl);
    usable = λ k was. rearranged_usable k ∙ was;
  }

  -- of the other brigades the same is known
  pub rearranged_brigades : (s : State) (k : BrigadeKnown) → usable_fault (r.instance.brigades b) ≡ None → IsFull C k ys → ((j : ℕ) → FitsBrigade C (s.brigades j) (r.instance.brigades j))
      → (j : ℕ) → FitsBrigade C (upd s.brigades b k j) (upd r.instance.brigades b (with_items ys (r.instance.brigades b)) j)
  rearranged_brigades s k usable full f =
      upd_both (FitsBrigade C) s.brigades r.instance.brigades b k (with_items ys (r.instance.brigades b)) (full_fits C k (r.instance.brigades b) ys usable full) (λ j differ. f j)

-- One bucket moves.

-- where what is found of a name is still found
pub finds_kept : (C : Homes → Home → Type 0) (n : ℕ) (xs ys : List NamedBucket) → ((x : NamedBucket) → bucket_named n xs ≡ Some x → bucket_named n ys ≡ Some x) → Finds C C n xs ys
finds_kept C n xs ys kept x is = record { bucket = x; there = kept x is; classed = λ t e. e; covered = λ h e. e }

-- r with these brigades and loose buckets
abbrev pub with_buckets : (ℕ → BrigadeVar) → List NamedBucket → Configuration → Configuration
with_buckets brigades loose r = record r { instance = record r.instance { brigades = brigades }; call = record r.call { loose = loose } }

-- the state of move_bucket, where cursors at other buckets stay
pub bucket_moved : (C : Homes → Home → Type 0) (r : Configuration) (s : State) (c n : ℕ) (v : CursorKnown) (known_now : ℕ → BrigadeKnown) (brigades : ℕ → BrigadeVar) (loose : List NamedBucket)
    → SoundNames r → Fits C s r → r.call.cursors c ≡ cursor.At n
    → ((j : ℕ) → FitsBrigade C (known_now j) (brigades j))
    → ((w : Cursor) → ((m : ℕ) → w ≡ cursor.At m → m ≢ n) → CursorStays C C r (with_buckets brigades loose r) w)
    → FitsCursor C (with_buckets brigades loose r) v (r.call.cursors c)
    → Fits C (move_bucket c v (record s { brigades = known_now })) (with_buckets brigades loose r)
unfolding moved known
bucket_moved C r s c n v known_now brigades loose names f at fit stays here = record {
  sent = f.sent;
  pools = f.pools;
  brigades = fit;
  cursors = upd_first (FitsCursor C (with_buckets brigades loose r)) (forgotten s c) r.call.cursors c v here (λ k differ. forgotten_fits C C r (with_buckets brigades loose r) s c k names f differ
      (λ other. cursor_stays C C r (with_buckets brigades loose r) (r.call.cursors k) (stays (r.call.cursors k) (λ m is. elsewhere k other m is)) (s.cursors k) (f.cursors k)));
  facts = moved_facts C r s names f (upd (forgotten s c) c v);
} where
  elsewhere : (k : ℕ) → Differ (r.call.cursors c) (r.call.cursors k) → (m : ℕ) → r.call.cursors k ≡ cursor.At m → m ≢ n
  elsewhere k other m is same = other m (at ∙ ap cursor.At (sym same)) is
