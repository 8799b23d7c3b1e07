-- Brigades that are made, cleaned and joined.
use Rattle.std.proofs.Common.{◌≡◌, ◌≢◌, ℕ, Bool, true, false, ◌==◌, cond, List, [], ◌++◌, Option, Some, None, ◌⊎◌, inl, inr, refl, sym, ◌∙◌, ap, subst, eq-eqb, eqb-true}
use Rattle.std.proofs.lemmas.Bool.{cases_eq}
use Rattle.module_code.specs.declared.instr.Instr.TheVariants as instr
use Rattle.module_code.specs.Program.{pool_of_brigade}
use Rattle.run_model.specs.declared.bucket.BrigadeVar.{BrigadeVar}
use Rattle.run_model.specs.declared.bucket.BrigadeVar.TheVariants as var
use Rattle.run_model.specs.declared.bucket.Cursor.{Cursor}
use Rattle.run_model.specs.declared.bucket.Home.{Home}
use Rattle.run_model.specs.declared.bucket.Mark.TheVariants.{Usable}
use Rattle.run_model.specs.declared.bucket.NamedBucket.{NamedBucket}
use Rattle.run_model.specs.BrigadeLists.{bucket_named}
use Rattle.run_model.specs.BucketSteps.{items_at}
use Rattle.run_model.specs.Faults.{WPool, fault_want, brigade_fault, usable_fault, new_fault, or_else}
use Rattle.run_model.specs.Indexed.{upd}
use Rattle.run_model.specs.Sound.{SoundNames, brigade_name}
use Rattle.run_model.specs.State.{Call, Configuration, pool_view, pool_named, items_of, set_brigade as set_variable}
use Rattle.run_model.specs.Steps.{do_create, do_clean, do_concat, cleaned, with_items}
use Rattle.model_laws.proofs.MadeBrigades.{brigade_lives}
use Rattle.model_laws.proofs.Marks.{first_none, second_none}
use Rattle.run_model.proofs.Names.{at_each, at_two}
use Rattle.model_laws.proofs.Operands.{two_brigades}
use Rattle.run_model.proofs.Updates.{upd_at, upd_off, upd_either, upd_swap}
use Rattle.life_state.specs.declared.parts.Classes.{Classes}
use Rattle.life_state.specs.declared.parts.Contents.TheVariants.{Empty}
use Rattle.life_state.specs.Facts.{known, moved}
use Rattle.life_state.specs.States.{Homes, no_homes, homes_join, holds, BrigadeKnown, CursorKnown, Unset, Loose, In, End, InOrEnd, State}
use Rattle.life_state.specs.Rules.{concat_content, emptied, carried, after_concat}
use Rattle.life_check.specs.Meaning.{Covers, HoldsOfEach, FitsPool, FitsBrigade, Differ, IsAtBucketOf, IsEndOf, FitsCursor, Fits}
use Rattle.life_check.specs.Soundness.{LawOf}
use Rattle.life_check.proofs.Filled.{covers_first, covers_second, IsFull, full_of, full_fits, filled_items, filled_name, filled_usable}
use Rattle.life_check.proofs.Lists.{each_append, each_more, each_none, holds_concat, named_front, named_behind}
use Rattle.life_check.proofs.Pools.{covers_moves, same_names, pool_kept, brigade_more, fits_beside}
use Rattle.life_check.proofs.Standing.{upd_both, within_at, moved_facts, Finds, finds_same, in_stays, end_stays, loose_stays}

-- A new brigade.

new_unused : (v : BrigadeVar) → new_fault v ≡ None → usable_fault v ≡ None → ⊥
new_unused var.Null none usable = cc
new_unused var.Gone none usable = cc
new_unused (var.Live v) none usable = cc

pub law_bcreate : {lives : Home → Type 0} (o : ℕ) → LawOf lives (instr.BCreate o)
unfolding set_variable HoldsOfEach
law_bcreate {lives} o p choice r s ready =
    fits_beside C D more r (do_create p o r) refl same s s.pools (upd s.brigades o (holds Empty no_homes)) refl refl
    (λ k. pool_kept r.shared.pools (do_create p o r).shared.pools (s.pools k) (r.instance.pools k) (λ n e. brigade_lives on r.shared.next r.shared.pools n) (ready.fits.pools k))
    (upd_both (FitsBrigade D) s.brigades r.instance.brigades o (holds Empty no_homes) made (refl, (refl, refl, tt))
    (λ b off. brigade_more C D more (s.brigades b) (r.instance.brigades b) (ready.fits.brigades b))) ready.fits where
      on : Option ℕ
      on = pool_named r (pool_of_brigade p o)

      C : Homes → Home → Type 0
      C = Covers p (pool_view r) lives

      D : Homes → Home → Type 0
      D = Covers p (pool_view (do_create p o r)) lives

      more : (h : Homes) (x : Home) → C h x → D h x
      more = covers_moves p (pool_view r) (pool_view (do_create p o r)) lives (record {
        conn = refl;
        named = λ k n e live. same_names (pool_view r) (pool_view (do_create p o r)) refl refl refl k ∙ e;
        lives = λ n live. brigade_lives on r.shared.next r.shared.pools n ∙ live;
      })

      made : BrigadeVar
      made = var.Live (record { name = r.shared.next; on = on; mark = Usable; items = [] })

      none : new_fault (r.instance.brigades o) ≡ None
      none = first_none (new_fault (r.instance.brigades o)) None (second_none (fault_want r (WPool (pool_of_brigade p o))) (or_else (new_fault (r.instance.brigades o)) None) ready.may.faultless)

      same : (b : ℕ) → usable_fault (r.instance.brigades b) ≡ None → (do_create p o r).instance.brigades b ≡ r.instance.brigades b
      same b usable = elim (upd_either r.instance.brigades o b made) [
        | inl at ↦ absurd (new_unused (r.instance.brigades o) none (subst (λ (k : ℕ). usable_fault (r.instance.brigades k) ≡ None) at.0 usable))
        | inr off ↦ off.1
      ]

-- What a brigade becomes.

cleaned_name : (v : BrigadeVar) → brigade_name (cleaned v) ≡ brigade_name v
cleaned_name var.Null = refl
cleaned_name var.Gone = refl
cleaned_name (var.Live v) = refl

cleaned_usable : (v : BrigadeVar) → usable_fault v ≡ None → usable_fault (cleaned v) ≡ None
cleaned_usable var.Null usable = usable
cleaned_usable var.Gone usable = usable
cleaned_usable (var.Live v) usable = refl

cleaned_fits : (C : Homes → Home → Type 0) (v : BrigadeVar) → brigade_fault v ≡ None → FitsBrigade C (holds Empty no_homes) (cleaned v)
unfolding HoldsOfEach
cleaned_fits C var.Null live = absurd (cc)
cleaned_fits C var.Gone live = absurd (cc)
cleaned_fits C (var.Live v) live = (refl, (refl, refl, tt))

-- A brigade is cleaned.

-- a cursor at another brigade stays
beside_in : (C : Homes → Home → Type 0) (r new : Configuration) (v : Cursor) (a : ℕ) (t : Classes) → new.instance.brigades a ≡ r.instance.brigades a → IsAtBucketOf r v a t → IsAtBucketOf new v a t
beside_in C r new v a t same f =
    in_stays C C r new v a a t (λ n at. finds_same C C n (items_at r a) (items_at new a) (λ h x c. c) (ap (λ (x : BrigadeVar). bucket_named n (items_of x)) same)) (ap usable_fault same ∙ f.usable) f

pub law_bclean : {lives : Home → Type 0} (b : ℕ) → LawOf lives (instr.BClean b)
unfolding set_variable moved known
law_bclean {lives} b p choice r s ready = record {
  sent = ready.fits.sent;
  pools = ready.fits.pools;
  brigades = upd_both (FitsBrigade C) s.brigades r.instance.brigades b (holds Empty no_homes) (cleaned (r.instance.brigades b))
      (cleaned_fits C (r.instance.brigades b) (first_none (brigade_fault (r.instance.brigades b)) None ready.may.faultless)) (λ k off. ready.fits.brigades k);
  cursors = λ c. cursor_stays (s.cursors c) (r.call.cursors c) (ready.fits.cursors c);
  facts = λ c d h. moved_facts C r s ready.sound.names ready.fits (λ k. emptied b (s.cursors k)) c d h;
} where
  C : Homes → Home → Type 0
  C = Covers p (pool_view r) lives

  new : Configuration
  new = do_clean b r

  within : (a : ℕ) (t : Classes) (v : Cursor) → (tell : Bool) → (a == b) ≡ tell → IsAtBucketOf r v a t → FitsCursor C new (cond tell Unset (In a t)) v
  within a t v true is f = tt
  within a t v false is f = beside_in C r new v a t (upd_off r.instance.brigades b a (cleaned (r.instance.brigades b)) (λ same. absurd (let both : true ≡ false = sym (eq-eqb a b same) ∙ is in cc))) f

  end : (a : ℕ) (v : Cursor) → IsEndOf r v a → IsEndOf new v a
  end a v f = end_stays C C r new v a (at_each (λ x y. brigade_name y ≡ brigade_name x) r.instance.brigades b (cleaned (r.instance.brigades b)) (cleaned_name (r.instance.brigades b)) (λ x. refl) a)
      (at_each (λ x y. usable_fault x ≡ None → usable_fault y ≡ None) r.instance.brigades b (cleaned (r.instance.brigades b)) (cleaned_usable (r.instance.brigades b)) (λ x h. h) a f.usable) f

  cursor_stays : (k : CursorKnown) (v : Cursor) → FitsCursor C r k v → FitsCursor C new (emptied b k) v
  cursor_stays Unset v f = tt
  cursor_stays (Loose t h) v f = record { bucket = f.bucket; at = f.at; there = f.there; classed = f.classed; covered = f.covered }
  cursor_stays (In a t) v f = within a t v (a == b) refl f
  cursor_stays (End a) v f = end a v f
  cursor_stays (InOrEnd a t) v f = by_test (a == b) refl f where
    by_test : (tell : Bool) → (a == b) ≡ tell → IsAtBucketOf r v a t ⊎ IsEndOf r v a → FitsCursor C new (cond tell Unset (InOrEnd a t)) v
    by_test true is f = tt
    by_test false is (inl i) = inl (within a t v false is i)
    by_test false is (inr e) = inr (end a v e)

-- The buckets of one brigade come to the tail of another.

-- where homes are not asked for
abbrev pub AnyHome : Homes → Home → Type 0
AnyHome h x = Unit {0}

-- what joins r and new: b is left empty, and behind a's buckets come these, among which b's are found
pub record Joins (C D : Homes → Home → Type 0) (r new : Configuration) (a b : ℕ) (behind : List NamedBucket) : Type 0 where
  pub more : (h : Homes) (x : Home) → C h x → D h x
  pub brigades : new.instance.brigades ≡ upd (upd r.instance.brigades b (with_items [] (r.instance.brigades b))) a (with_items (items_at r a ++ behind) (r.instance.brigades a))
  pub call : new.call ≡ r.call
  pub sent : new.instance.sent ≡ r.instance.sent
  pub differ : a ≢ b
  pub first : usable_fault (r.instance.brigades a) ≡ None
  pub second : usable_fault (r.instance.brigades b) ≡ None
  pub found : (n : ℕ) → Finds AnyHome AnyHome n (items_at r b) behind

module _ (C D : Homes → Home → Type 0) (r new : Configuration) (a b : ℕ) (behind : List NamedBucket) (j : Joins C D r new a b behind) where
  at_a : new.instance.brigades a ≡ with_items (items_at r a ++ behind) (r.instance.brigades a)
  at_a = ap (λ (g : ℕ → BrigadeVar). g a) j.brigades ∙ upd_at (upd r.instance.brigades b (with_items [] (r.instance.brigades b))) a (with_items (items_at r a ++ behind) (r.instance.brigades a))

  at_other : (k : ℕ) → k ≢ a → k ≢ b → new.instance.brigades k ≡ r.instance.brigades k
  at_other k off away =
      ap (λ (g : ℕ → BrigadeVar). g k) j.brigades
      ∙ (upd_off (upd r.instance.brigades b (with_items [] (r.instance.brigades b))) a k (with_items (items_at r a ++ behind) (r.instance.brigades a)) off
      ∙ upd_off r.instance.brigades b k (with_items [] (r.instance.brigades b)) away)

  each_var : (P : BrigadeVar → BrigadeVar → Type 0) → ((v : BrigadeVar) → P v v) → ((items : List NamedBucket) (v : BrigadeVar) → P v (with_items items v)) → (k : ℕ)
      → P (r.instance.brigades k) (new.instance.brigades k)
  each_var P same filled k =
      subst (λ (g : ℕ → BrigadeVar). P (r.instance.brigades k) (g k)) (sym j.brigades)
      (at_two P r.instance.brigades b a (with_items [] (r.instance.brigades b)) (with_items (items_at r a ++ behind) (r.instance.brigades a)) (filled [] (r.instance.brigades b))
      (filled (items_at r a ++ behind) (r.instance.brigades a)) same k)

  name_kept : (k : ℕ) → brigade_name (new.instance.brigades k) ≡ brigade_name (r.instance.brigades k)
  name_kept = each_var (λ v w. brigade_name w ≡ brigade_name v) (λ v. refl) filled_name

  usable_kept : (k : ℕ) → usable_fault (new.instance.brigades k) ≡ usable_fault (r.instance.brigades k)
  usable_kept = each_var (λ v w. usable_fault w ≡ usable_fault v) (λ v. refl) filled_usable

  items_a : items_at new a ≡ items_at r a ++ behind
  items_a = ap items_of at_a ∙ filled_items (items_at r a ++ behind) (r.instance.brigades a) j.first

  -- a bucket of b is none of a
  not_in_first : SoundNames r → (n : ℕ) (x : NamedBucket) → bucket_named n (items_at r b) ≡ Some x → bucket_named n (items_at r a) ≡ None
  not_in_first names n x is = by_found (bucket_named n (items_at r a)) refl where
    by_found : (o : Option NamedBucket) → bucket_named n (items_at r a) ≡ o → o ≡ None
    by_found None e = refl
    by_found (Some y) e = absurd (let both = sym (within_at r n a y names e) ∙ within_at r n b x names is in let same : a ≡ b = cc in j.differ same)

  come : SoundNames r → (n : ℕ) → Finds AnyHome AnyHome n (items_at r b) (items_at new a)
  come names n x is = (let y = j.found n x is in record {
    bucket = y.bucket;
    there = ap (bucket_named n) items_a ∙ (named_behind n (items_at r a) behind (not_in_first names n x is) ∙ y.there);
    classed = y.classed;
    covered = y.covered;
  })

  stay : (k n : ℕ) → k ≢ b → Finds C D n (items_at r k) (items_at new k)
  stay k n away x is = record { bucket = x; there = by_place (cases_eq k a); classed = λ t e. e; covered = λ h e. j.more h x.bucket.home e } where
    by_place : (k ≡ a) ⊎ (k ≢ a) → bucket_named n (items_at new k) ≡ Some x
    by_place (inl at) = subst (λ (i : ℕ). bucket_named n (items_at new i) ≡ Some x) (sym at)
        (ap (bucket_named n) items_a ∙ named_front n x (items_at r a) behind (subst (λ (i : ℕ). bucket_named n (items_at r i) ≡ Some x) at is))
    by_place (inr off) = ap (λ (v : BrigadeVar). bucket_named n (items_of v)) (at_other k off away) ∙ is

  end_joined : (k : ℕ) (v : Cursor) → IsEndOf r v k → IsEndOf new v k
  end_joined k v f = end_stays C D r new v k (name_kept k) (usable_kept k ∙ f.usable) f

  in_joined : (k : ℕ) (t : Classes) (v : Cursor) → k ≢ b → IsAtBucketOf r v k t → IsAtBucketOf new v k t
  in_joined k t v away f = in_stays C D r new v k k t (λ n at. stay k n away) (usable_kept k ∙ f.usable) f

  apart_from : (k : ℕ) → (k == b) ≡ false → k ≢ b
  apart_from k is same = (let both : true ≡ false = sym (eq-eqb k b same) ∙ is in cc)

  cursor_joined : SoundNames r → (k : CursorKnown) (v : Cursor) → FitsCursor C r k v → FitsCursor D new (carried a b k) v
  cursor_joined names Unset v f = tt
  cursor_joined names (Loose t h) v f = loose_stays C D r new v t h (λ n at. finds_same C D n r.call.loose new.call.loose j.more (ap (λ (c : Call). bucket_named n c.loose) j.call)) f
  cursor_joined names (In k t) v f = by_test (k == b) refl where
    by_test : (c : Bool) → (k == b) ≡ c → FitsCursor D new (cond c (In a t) (In k t)) v
    by_test true is = in_stays AnyHome AnyHome r new v b a t (λ n at. come names n) (usable_kept a ∙ j.first) (subst (λ (i : ℕ). IsAtBucketOf r v i t) (eqb-true k b is) f)
    by_test false is = in_joined k t v (apart_from k is) f
  cursor_joined names (End k) v f = end_joined k v f
  cursor_joined names (InOrEnd k t) v f = by_test (k == b) refl f where
    by_test : (c : Bool) → (k == b) ≡ c → IsAtBucketOf r v k t ⊎ IsEndOf r v k → FitsCursor D new (cond c Unset (InOrEnd k t)) v
    by_test true is f = tt
    by_test false is (inl i) = inl (in_joined k t v (apart_from k is) i)
    by_test false is (inr e) = inr (end_joined k v e)

  -- what is known then
  pub joined_fits : (s : State) (homes : Homes) → SoundNames r → ((q : ℕ) → FitsPool new.shared.pools (s.pools q) (new.instance.pools q))
      → IsFull D (holds (concat_content (s.brigades a).content (s.brigades b).content) homes) (items_at r a ++ behind) → Fits C s r → Fits D (after_concat a b homes s) new
  unfolding moved known
  joined_fits s homes names pool_fits full f = record {
    sent = λ h. f.sent (sym j.sent ∙ h);
    pools = pool_fits;
    brigades = λ k. subst (λ (g : ℕ → BrigadeVar). FitsBrigade D (upd (upd s.brigades a known_a) b (holds Empty no_homes) k) (g k)) (sym (j.brigades ∙ swapped)) (two k);
    cursors = λ c. subst (λ (x : Call). FitsCursor D new (carried a b (s.cursors c)) (x.cursors c)) (sym j.call) (cursor_joined names (s.cursors c) (r.call.cursors c) (f.cursors c));
    facts = λ c d h. subst (λ (x : Call). Differ (x.cursors c) (x.cursors d)) (sym j.call) (moved_facts C r s names f (λ k. carried a b (s.cursors k)) c d h);
  } where
    known_a : BrigadeKnown
    known_a = holds (concat_content (s.brigades a).content (s.brigades b).content) homes

    swapped : upd (upd r.instance.brigades b (with_items [] (r.instance.brigades b))) a (with_items (items_at r a ++ behind) (r.instance.brigades a))
        ≡ upd (upd r.instance.brigades a (with_items (items_at r a ++ behind) (r.instance.brigades a))) b (with_items [] (r.instance.brigades b))
    swapped = upd_swap r.instance.brigades b a (with_items [] (r.instance.brigades b)) (with_items (items_at r a ++ behind) (r.instance.brigades a)) (λ e. j.differ (sym e))

    emptied_full : IsFull D (holds Empty no_homes) []
    emptied_full = record { live = refl; usable = refl; holds = refl; homes = each_none (λ x. D no_homes x.bucket.home) }

    two : (k : ℕ) → FitsBrigade D (upd (upd s.brigades a known_a) b (holds Empty no_homes) k)
        (upd (upd r.instance.brigades a (with_items (items_at r a ++ behind) (r.instance.brigades a))) b (with_items [] (r.instance.brigades b)) k)
    two = upd_both (FitsBrigade D) (upd s.brigades a known_a) (upd r.instance.brigades a (with_items (items_at r a ++ behind) (r.instance.brigades a))) b (holds Empty no_homes)
        (with_items [] (r.instance.brigades b))
        (full_fits D (holds Empty no_homes) (r.instance.brigades b) [] j.second emptied_full)
        (λ k off. upd_both (FitsBrigade D) s.brigades r.instance.brigades a known_a (with_items (items_at r a ++ behind) (r.instance.brigades a))
        (full_fits D known_a (r.instance.brigades a) (items_at r a ++ behind) j.first full) (λ i away. brigade_more C D j.more (s.brigades i) (r.instance.brigades i) (f.brigades i)) k)

pub law_bconcat : {lives : Home → Type 0} (a b : ℕ) → LawOf lives (instr.BConcat a b)
unfolding set_variable
law_bconcat {lives} a b p choice r s ready =
    joined_fits C C r (do_concat a b r) a b (items_at r b) joins s (homes_join (s.brigades a).homes (s.brigades b).homes) ready.sound.names ready.fits.pools full ready.fits where
      C : Homes → Home → Type 0
      C = Covers p (pool_view r) lives

      first : usable_fault (r.instance.brigades a) ≡ None
      first = first_none (usable_fault (r.instance.brigades a)) (or_else (usable_fault (r.instance.brigades b)) None) ready.may.faultless

      second : usable_fault (r.instance.brigades b) ≡ None
      second = first_none (usable_fault (r.instance.brigades b)) None (second_none (usable_fault (r.instance.brigades a)) (or_else (usable_fault (r.instance.brigades b)) None) ready.may.faultless)

      joins : Joins C C r (do_concat a b r) a b (items_at r b)
      joins = record {
        more = λ h x c. c;
        brigades = refl;
        call = refl;
        sent = refl;
        differ = (two_brigades p ready.may.proper a b ready.may.fit).differ;
        first = first;
        second = second;
        found = λ n. finds_same AnyHome AnyHome n (items_at r b) (items_at r b) (λ h x c. c) refl;
      }

      was_a : IsFull C (s.brigades a) (items_at r a)
      was_a = full_of C (s.brigades a) (r.instance.brigades a) first (ready.fits.brigades a)

      was_b : IsFull C (s.brigades b) (items_at r b)
      was_b = full_of C (s.brigades b) (r.instance.brigades b) second (ready.fits.brigades b)

      full : IsFull C (holds (concat_content (s.brigades a).content (s.brigades b).content) (homes_join (s.brigades a).homes (s.brigades b).homes)) (items_at r a ++ items_at r b)
      full = record {
        live = refl;
        usable = refl;
        holds = holds_concat (s.brigades a).content (s.brigades b).content (items_at r a) (items_at r b) was_a.holds was_b.holds;
        homes = each_append (λ x. C (homes_join (s.brigades a).homes (s.brigades b).homes) x.bucket.home) (items_at r a) (items_at r b)
            (each_more (λ x. C (s.brigades a).homes x.bucket.home) (λ x. C (homes_join (s.brigades a).homes (s.brigades b).homes) x.bucket.home)
            (λ x c. covers_first p (pool_view r) lives (s.brigades a).homes (s.brigades b).homes x.bucket.home c) (items_at r a) was_a.homes)
            (each_more (λ x. C (s.brigades b).homes x.bucket.home) (λ x. C (homes_join (s.brigades a).homes (s.brigades b).homes) x.bucket.home)
            (λ x c. covers_second p (pool_view r) lives (s.brigades a).homes (s.brigades b).homes x.bucket.home c) (items_at r b) was_b.homes);
      }
