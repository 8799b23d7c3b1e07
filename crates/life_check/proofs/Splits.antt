-- Brigades that are cut: a split at a cursor, and a partition at a point.
use Rattle.std.proofs.Common.{◌≡◌, ◌≢◌, ℕ, Bool, true, false, ◌&&◌, not, nat_lt, ◌==◌, cond, List, [], ◌∷◌, Option, Some, None, ◌⊎◌, inl, inr, refl, sym, ◌∙◌, ap, subst, eq-eqb}
use Rattle.std.proofs.lemmas.Bool.Decides.{eqb_tells}
use Rattle.module_code.specs.Program.{Program, fits, is_brigade}
use Rattle.module_code.specs.declared.instr.Instr.TheVariants as instr
use Rattle.run_model.specs.declared.bucket.BrigadeVar.{BrigadeVar}
use Rattle.run_model.specs.declared.bucket.Cursor.{Cursor}
use Rattle.run_model.specs.declared.bucket.Cursor.TheVariants as cursor
use Rattle.run_model.specs.declared.bucket.Home.{Home}
use Rattle.run_model.specs.declared.bucket.NamedBucket.{NamedBucket}
use Rattle.run_model.specs.declared.fault.FaultKind.TheVariants.{F9}
use Rattle.run_model.specs.Indexed.{upd}
use Rattle.run_model.specs.BrigadeLists.{bucket_named, buckets_from, first_bucket, stays, moves}
use Rattle.run_model.specs.BucketSteps.{items_at, set_items, do_bsplit}
use Rattle.run_model.specs.Cursors.{CursorPlace, at_cursor}
use Rattle.run_model.specs.Effects.{with_items}
use Rattle.run_model.specs.Faults.{InThis, within_fault, end_fault, cursor_fault, usable_fault}
use Rattle.run_model.specs.Sound.{SoundNames, brigade_name}
use Rattle.run_model.specs.State.{Configuration, pool_view, items_of, set_brigade}
use Rattle.model_laws.proofs.Marks.{first_none, second_none}
use Rattle.run_model.proofs.Updates.{upd_at, upd_off}
use Rattle.life_state.specs.declared.parts.Classes.{Classes}
use Rattle.life_state.specs.States.{Homes, no_homes, BrigadeKnown, holds, CursorKnown, Unset, Loose, In, End, InOrEnd, State, set_brigade as set_known}
use Rattle.life_state.specs.Facts.{is_end, known, moved}
use Rattle.life_state.specs.Rules.{cursor_need, usable_need, emptied, carried, split_off, split_part, after_bsplit}
use Rattle.life_state.specs.declared.parts.Contents.TheVariants.{Empty}
use Rattle.life_state.proofs.Tests.{split2, not_true}
use Rattle.life_check.specs.Meaning.{Covers, HoldsOfEach, IsAtBucketOf, IsEndOf, FitsBrigade, FitsCursor, Fits}
use Rattle.life_check.specs.Soundness.{LawOf}
use Rattle.life_check.proofs.Lists.{each_none, each_before, each_from, Thins, thins_none, thins_same, thins_before, thins_from, holds_thinner}
use Rattle.life_check.proofs.Standing.{upd_both, upd_second, moved_facts, cursor_in, cursor_at_end, finds_same, loose_stays, in_stays, end_stays}
use Rattle.life_check.proofs.Filled.{IsFull, full_of, full_fits, filled_items, filled_name, filled_usable, finds_kept}

-- What stays before a place, and what moves.

thins_stays : (place : Option ℕ) (xs : List NamedBucket) → Thins xs (stays place xs)
thins_stays None xs = thins_same xs
thins_stays (Some n) xs = thins_before n xs

thins_moves : (place : Option ℕ) (xs : List NamedBucket) → Thins xs (moves place xs)
thins_moves None xs = thins_none xs
thins_moves (Some n) xs = thins_from n xs

each_stays : (P : NamedBucket → Type 0) (place : Option ℕ) (xs : List NamedBucket) → HoldsOfEach P xs → HoldsOfEach P (stays place xs)
each_stays P None xs h = h
each_stays P (Some n) xs h = each_before P n xs h

each_moves : (P : NamedBucket → Type 0) (place : Option ℕ) (xs : List NamedBucket) → HoldsOfEach P xs → HoldsOfEach P (moves place xs)
each_moves P None xs h = each_none P
each_moves P (Some n) xs h = each_from P n xs h

-- the bucket at the place is the first that moves
from_again : (n : ℕ) (xs : List NamedBucket) → buckets_from n (buckets_from n xs) ≡ buckets_from n xs
unfolding buckets_from
from_again n [] = refl
from_again n (x ∷ xs) = by_name (x.name == n) refl (from_again n xs) where
  by_name : (c : Bool) → (x.name == n) ≡ c → buckets_from n (buckets_from n xs) ≡ buckets_from n xs → buckets_from n (cond c (x ∷ xs) (buckets_from n xs)) ≡ cond c (x ∷ xs) (buckets_from n xs)
  by_name true is again = ap (λ (c : Bool). cond c (x ∷ xs) (buckets_from n xs)) is
  by_name false is again = again

-- Cursors at buckets that are destroyed or moved are unset.

abbrev IsAway : ℕ → CursorKnown → Type 0
IsAway b (In v t) = v ≢ b
IsAway b (InOrEnd v t) = v ≢ b
IsAway b k = Unit {0}

emptied_is : (b : ℕ) (Q : CursorKnown → Type 0) (k : CursorKnown) → Q Unset → (IsAway b k → Q k) → Q (emptied b k)
emptied_is b Q Unset none away = away tt
emptied_is b Q (Loose t h) none away = away tt
emptied_is b Q (End v) none away = away tt
emptied_is b Q (In v t) none away = by_place (eqb_tells v b) where
  by_place : (((v == b) ≡ true) × (v ≡ b)) ⊎ (((v == b) ≡ false) × (v ≢ b)) → Q (cond (v == b) Unset (In v t))
  by_place (inl p) = subst (λ (c : Bool). Q (cond c Unset (In v t))) (sym p.0) none
  by_place (inr p) = subst (λ (c : Bool). Q (cond c Unset (In v t))) (sym p.0) (away p.1)
emptied_is b Q (InOrEnd v t) none away = by_place (eqb_tells v b) where
  by_place : (((v == b) ≡ true) × (v ≡ b)) ⊎ (((v == b) ≡ false) × (v ≢ b)) → Q (cond (v == b) Unset (InOrEnd v t))
  by_place (inl p) = subst (λ (c : Bool). Q (cond c Unset (InOrEnd v t))) (sym p.0) none
  by_place (inr p) = subst (λ (c : Bool). Q (cond c Unset (InOrEnd v t))) (sym p.0) (away p.1)

both_emptied : (a b : ℕ) (Q : CursorKnown → Type 0) (k : CursorKnown) → Q Unset → (IsAway a k → IsAway b k → Q k) → Q (emptied a (emptied b k))
both_emptied a b Q k none away =
    emptied_is a Q (emptied b k) none (emptied_is b (λ x. IsAway a x → Q x) k (λ _. none) (λ from_b from_a. away from_a from_b))

-- A split of the brigade of b at a place, into that of a.

abbrev split_there : ℕ → Option ℕ → ℕ → Configuration → Configuration
split_there b place a r = set_items a (moves place (items_at r b)) (set_items b (stays place (items_at r b)) r)

module _ (C : Homes → Home → Type 0) (r : Configuration) (b a : ℕ) (place : Option ℕ) (differ : a ≢ b) (usable_b : usable_fault (r.instance.brigades b) ≡ None)
    (usable_a : usable_fault (r.instance.brigades a) ≡ None) where
  abbrev front : BrigadeVar
  front = with_items (stays place (items_at r b)) (r.instance.brigades b)

  abbrev between : ℕ → BrigadeVar
  between = upd r.instance.brigades b front

  abbrev back : BrigadeVar
  back = with_items (moves place (items_at r b)) (between a)

  between_usable : usable_fault (between a) ≡ None
  between_usable = ap usable_fault (upd_off r.instance.brigades b a front differ) ∙ usable_a

  -- names and marks stay
  split_names : (k : ℕ) → brigade_name (upd between a back k) ≡ brigade_name (r.instance.brigades k)
  split_names = upd_second (λ k v. brigade_name v ≡ brigade_name (r.instance.brigades k)) between a back (filled_name (moves place (items_at r b)) (between a) ∙ first a) (λ k other. first k) where
    first : (k : ℕ) → brigade_name (between k) ≡ brigade_name (r.instance.brigades k)
    first = upd_second (λ k v. brigade_name v ≡ brigade_name (r.instance.brigades k)) r.instance.brigades b front (filled_name (stays place (items_at r b)) (r.instance.brigades b)) (λ k other. refl)

  split_usable : (k : ℕ) → usable_fault (upd between a back k) ≡ usable_fault (r.instance.brigades k)
  split_usable = upd_second (λ k v. usable_fault v ≡ usable_fault (r.instance.brigades k)) between a back (filled_usable (moves place (items_at r b)) (between a) ∙ first a) (λ k other. first k) where
    first : (k : ℕ) → usable_fault (between k) ≡ usable_fault (r.instance.brigades k)
    first = upd_second (λ k v. usable_fault v ≡ usable_fault (r.instance.brigades k)) r.instance.brigades b front (filled_usable (stays place (items_at r b)) (r.instance.brigades b)) (λ k other. refl)

  split_back : items_of (upd between a back a) ≡ moves place (items_at r b)
  split_back = ap items_of (upd_at between a back) ∙ filled_items (moves place (items_at r b)) (between a) between_usable

  split_others : (k : ℕ) → k ≢ a → k ≢ b → items_of (upd between a back k) ≡ items_at r k
  split_others k not_a not_b = ap items_of (upd_off between a k back not_a ∙ upd_off r.instance.brigades b k front not_b)

  at_other : (j : ℕ) (t : Classes) (v : Cursor) → j ≢ a → j ≢ b → IsAtBucketOf r v j t → IsAtBucketOf (split_there b place a r) v j t
  unfolding set_brigade
  at_other j t v not_a not_b i =
      in_stays C C r (split_there b place a r) v j j t
      (λ n at. finds_same C C n (items_at r j) (items_of (upd between a back j)) (λ g x c. c) (ap (λ (xs : List NamedBucket). bucket_named n xs) (split_others j not_a not_b)))
      (split_usable j ∙ i.usable) i

  -- a cursor that is not at a bucket of either stays
  away_stays : (k : CursorKnown) (v : Cursor) → IsAway a k → IsAway b k → FitsCursor C r k v → FitsCursor C (split_there b place a r) k v
  unfolding set_brigade
  away_stays Unset v from_a from_b f = tt
  away_stays (Loose t h) v from_a from_b f = loose_stays C C r (split_there b place a r) v t h (λ n at. finds_same C C n r.call.loose r.call.loose (λ g x c. c) refl) f
  away_stays (In j t) v from_a from_b f = at_other j t v from_a from_b f
  away_stays (End j) v from_a from_b f = end_stays C C r (split_there b place a r) v j (split_names j) (split_usable j ∙ f.usable) f
  away_stays (InOrEnd j t) v from_a from_b (inl i) = inl (at_other j t v from_a from_b i)
  away_stays (InOrEnd j t) v from_a from_b (inr e) = inr (end_stays C C r (split_there b place a r) v j (split_names j) (split_usable j ∙ e.usable) e)

  -- what is known of the split, where kb is known of the new brigade and c's cursor stands as it is said
  split_fits : (s : State) (c : ℕ) (kb : BrigadeKnown) → SoundNames r → Fits C s r → IsFull C kb (moves place (items_at r b))
      → FitsCursor C (split_there b place a r) (carried a b (s.cursors c)) (r.call.cursors c)
      → Fits C (moved (split_off b c a s) (set_known a kb s)) (split_there b place a r)
  unfolding set_brigade moved known
  split_fits s c kb names f full here = record {
    sent = f.sent;
    pools = f.pools;
    brigades = upd_both (FitsBrigade C) s.brigades between a kb back (full_fits C kb (between a) (moves place (items_at r b)) between_usable full)
        (λ j other. upd_second (λ k v. FitsBrigade C (s.brigades k) v) r.instance.brigades b front
        (full_fits C (s.brigades b) (r.instance.brigades b) (stays place (items_at r b)) usable_b left) (λ k apart. f.brigades k) j);
    cursors = λ k. by_cursor (eqb_tells k c);
    facts = moved_facts C r s names f (split_off b c a s);
  } where
    old : IsFull C (s.brigades b) (items_at r b)
    old = full_of C (s.brigades b) (r.instance.brigades b) usable_b (f.brigades b)

    left : IsFull C (s.brigades b) (stays place (items_at r b))
    left = record {
      live = old.live;
      usable = old.usable;
      holds = holds_thinner (s.brigades b).content (items_at r b) (stays place (items_at r b)) (thins_stays place (items_at r b)) old.holds;
      homes = each_stays (λ x. C (s.brigades b).homes x.bucket.home) place (items_at r b) old.homes;
    }

    by_cursor : {k : ℕ} → (((k == c) ≡ true) × (k ≡ c)) ⊎ (((k == c) ≡ false) × (k ≢ c)) → FitsCursor C (split_there b place a r) (split_off b c a s k) (r.call.cursors k)
    by_cursor {k = k} (inl p) =
        subst (λ (t : Bool). FitsCursor C (split_there b place a r) (cond t (carried a b (s.cursors k)) (emptied a (emptied b (s.cursors k)))) (r.call.cursors k)) (sym p.0)
        (subst (λ (j : ℕ). FitsCursor C (split_there b place a r) (carried a b (s.cursors j)) (r.call.cursors j)) (sym p.1) here)
    by_cursor {k = k} (inr p) =
        subst (λ (t : Bool). FitsCursor C (split_there b place a r) (cond t (carried a b (s.cursors k)) (emptied a (emptied b (s.cursors k)))) (r.call.cursors k)) (sym p.0)
        (both_emptied a b (λ x. FitsCursor C (split_there b place a r) x (r.call.cursors k)) (s.cursors k) tt
        (λ from_a from_b. away_stays (s.cursors k) (r.call.cursors k) from_a from_b (f.cursors k)))

-- what moves, where the buckets of b are known
moved_full : (C : Homes → Home → Type 0) (k : BrigadeKnown) (place : Option ℕ) (xs : List NamedBucket) → IsFull C k xs → IsFull C (holds k.content k.homes) (moves place xs)
moved_full C k place xs full = record {
  live = refl;
  usable = refl;
  holds = holds_thinner k.content xs (moves place xs) (thins_moves place xs) full.holds;
  homes = each_moves (λ x. C k.homes x.bucket.home) place xs full.homes;
}

nothing_moves : (C : Homes → Home → Type 0) → IsFull C (holds Empty no_homes) []
nothing_moves C = record { live = refl; usable = refl; holds = refl; homes = each_none (λ x. C no_homes x.bucket.home) }

-- the two brigades of a split differ
splits_apart : (p : Program) (b c a : ℕ) → fits p (instr.BSplit b c a) ≡ true → a ≢ b
splits_apart p b c a fit same =
    let apart : (b == a) ≡ false = not_true (b == a) (split2 (is_brigade p b && nat_lt c 8 && is_brigade p a) (not (b == a)) fit).1 in
    (let both : true ≡ false = sym (eq-eqb b a (sym same)) ∙ apart in cc)

-- the place of a cursor that is wanted in b is in b
in_this : (v b : ℕ) → within_fault (InThis b) v ≡ None → v ≡ b
in_this v b met = by_place (eqb_tells v b) where
  by_place : (((v == b) ≡ true) × (v ≡ b)) ⊎ (((v == b) ≡ false) × (v ≢ b)) → v ≡ b
  by_place (inl p) = p.1
  by_place (inr p) = absurd (let both : cond (v == b) None (Some F9) ≡ Some F9 = ap (λ (t : Bool). cond t None (Some F9)) p.0 in let clash : None ≡ Some F9 = sym met ∙ both in cc)

-- a cursor at a bucket that moves
moves_along : (C : Homes → Home → Type 0) (r : Configuration) (b a : ℕ) (t : Classes) (v : Cursor) (differ : a ≢ b) (usable_b : usable_fault (r.instance.brigades b) ≡ None)
    (usable_a : usable_fault (r.instance.brigades a) ≡ None)
    → (i : IsAtBucketOf r v b t) → IsAtBucketOf (split_there b (Some i.bucket.name) a r) v a t
unfolding set_brigade
moves_along C r b a t v differ usable_b usable_a i =
    let new = split_there b (Some i.bucket.name) a r in
    let there = split_back C r b a (Some i.bucket.name) differ usable_b usable_a in
    in_stays C C r new v b a t
    (λ n at. finds_kept C n (items_at r b) (items_at new a) (λ y is.
    ap (λ (xs : List NamedBucket). bucket_named n xs) there
    ∙ (subst (λ (m : ℕ). bucket_named n (buckets_from m (items_at r b)) ≡ bucket_named n (items_at r b)) (name_is n i.bucket.name v at i.at) (ap first_bucket (from_again n (items_at r b))) ∙ is)))
    (split_usable C r b a (Some i.bucket.name) differ usable_b usable_a a ∙ usable_a) i where
      name_is : (m n : ℕ) (w : Cursor) → w ≡ cursor.At m → w ≡ cursor.At n → m ≡ n
      name_is m n w is too = (let both = sym is ∙ too in cc)

module _ (p : Program) (lives : Home → Type 0) (r : Configuration) (s : State) (b c a : ℕ) (names : SoundNames r) (f : Fits (Covers p (pool_view r) lives) s r)
    (differ : a ≢ b) (usable_b : usable_fault (r.instance.brigades b) ≡ None) (usable_a : usable_fault (r.instance.brigades a) ≡ None) where
  abbrev C : Homes → Home → Type 0
  C = Covers p (pool_view r) lives

  abbrev IsPlaceSplit : CursorPlace → Type 0
  IsPlaceSplit at = Fits (Covers p (pool_view (do_bsplit b at a r)) lives) (after_bsplit b c a s) (do_bsplit b at a r)

  old_full : IsFull C (s.brigades b) (items_at r b)
  old_full = full_of C (s.brigades b) (r.instance.brigades b) usable_b (f.brigades b)

  -- c is at the bucket of i
  split_within : (t : Classes) → is_end (s.cursors c) ≡ false → (i : IsAtBucketOf r (r.call.cursors c) b t)
      → FitsCursor C (split_there b (Some i.bucket.name) a r) (carried a b (s.cursors c)) (r.call.cursors c) → IsPlaceSplit (at_cursor r c)
  unfolding set_brigade
  split_within t bucket i here =
      subst IsPlaceSplit (sym (cursor_in r (r.call.cursors c) b t names i))
      (split_fits C r b a (Some i.bucket.name) differ usable_b usable_a s c (split_part (s.cursors c) (s.brigades b)) names f
      (subst (λ (e : Bool). IsFull C (cond e (holds Empty no_homes) (holds (s.brigades b).content (s.brigades b).homes)) (moves (Some i.bucket.name) (items_at r b))) (sym bucket)
      (moved_full C (s.brigades b) (Some i.bucket.name) (items_at r b) old_full)) here)

  -- c is at the end, and nothing moves
  split_end : IsEndOf r (r.call.cursors c) b → FitsCursor C (split_there b None a r) (carried a b (s.cursors c)) (r.call.cursors c) → IsPlaceSplit (at_cursor r c)
  unfolding set_brigade
  split_end i here =
      subst IsPlaceSplit (sym (cursor_at_end r (r.call.cursors c) b names i))
      (split_fits C r b a None differ usable_b usable_a s c (split_part (s.cursors c) (s.brigades b)) names f (by_end (is_end (s.cursors c))) here) where
        by_end : (e : Bool) → IsFull C (cond e (holds Empty no_homes) (holds (s.brigades b).content (s.brigades b).homes)) []
        by_end true = nothing_moves C
        by_end false = moved_full C (s.brigades b) None (items_at r b) old_full

  -- by what is known of c
  split_in : (t : Classes) → s.cursors c ≡ In b t → IsPlaceSplit (at_cursor r c)
  unfolding set_brigade
  split_in t is =
      let i : IsAtBucketOf r (r.call.cursors c) b t = subst (λ (k : CursorKnown). FitsCursor C r k (r.call.cursors c)) is (f.cursors c) in
      split_within t (ap is_end is) i
      (subst (λ (k : CursorKnown). FitsCursor C (split_there b (Some i.bucket.name) a r) (carried a b k) (r.call.cursors c)) (sym is)
      (subst (λ (e : Bool). FitsCursor C (split_there b (Some i.bucket.name) a r) (cond e (In a t) (In b t)) (r.call.cursors c)) (sym (eq-eqb b b refl))
      (moves_along C r b a t (r.call.cursors c) differ usable_b usable_a i)))

  split_at_end : s.cursors c ≡ End b → IsPlaceSplit (at_cursor r c)
  unfolding set_brigade
  split_at_end is =
      let i : IsEndOf r (r.call.cursors c) b = subst (λ (k : CursorKnown). FitsCursor C r k (r.call.cursors c)) is (f.cursors c) in
      split_end i
      (subst (λ (k : CursorKnown). FitsCursor C (split_there b None a r) (carried a b k) (r.call.cursors c)) (sym is)
      (end_stays C C r (split_there b None a r) (r.call.cursors c) b (split_names C r b a None differ usable_b usable_a b) (split_usable C r b a None differ usable_b usable_a b ∙ usable_b) i))

  split_either : (t : Classes) → s.cursors c ≡ InOrEnd b t → IsPlaceSplit (at_cursor r c)
  split_either t is = by_place (subst (λ (k : CursorKnown). FitsCursor C r k (r.call.cursors c)) is (f.cursors c)) where
    unset : (place : Option ℕ) → FitsCursor C (split_there b place a r) (carried a b (s.cursors c)) (r.call.cursors c)
    unset place =
        subst (λ (k : CursorKnown). FitsCursor C (split_there b place a r) (carried a b k) (r.call.cursors c)) (sym is)
        (subst (λ (e : Bool). FitsCursor C (split_there b place a r) (cond e Unset (InOrEnd b t)) (r.call.cursors c)) (sym (eq-eqb b b refl)) tt)

    by_place : IsAtBucketOf r (r.call.cursors c) b t ⊎ IsEndOf r (r.call.cursors c) b → IsPlaceSplit (at_cursor r c)
    by_place (inl i) = split_within t (ap is_end is) i (unset (Some i.bucket.name))
    by_place (inr i) = split_end i (unset None)

  split_known : (k : CursorKnown) → s.cursors c ≡ k → cursor_need (InThis b) k ≡ None → IsPlaceSplit (at_cursor r c)
  split_known (In v t) is met = split_in t (is ∙ ap (λ (j : ℕ). In j t) (in_this v b met))
  split_known (End v) is met = split_at_end (is ∙ ap End (in_this v b met))
  split_known (InOrEnd v t) is met = split_either t (is ∙ ap (λ (j : ℕ). InOrEnd j t) (in_this v b (second_none (end_fault (InThis b) v) (within_fault (InThis b) v) met)))
  split_known k is met = cc

-- apr_brigade_split_ex
pub law_bsplit : {lives : Home → Type 0} (b c a : ℕ) → LawOf lives (instr.BSplit b c a)
unfolding set_brigade
law_bsplit {lives = lives} b c a p choice r s ready =
    split_known p lives r s b c a ready.sound.names ready.fits (splits_apart p b c a ready.may.fit)
    (first_none (usable_fault (r.instance.brigades b)) _ ready.may.faultless)
    (first_none (usable_fault (r.instance.brigades a)) None (second_none (cursor_fault r (InThis b) (at_cursor r c)) _ (second_none (usable_fault (r.instance.brigades b)) _ ready.may.faultless)))
    (s.cursors c) refl (first_none (cursor_need (InThis b) (s.cursors c)) _ (second_none (usable_need (s.brigades b)) _ ready.met))
