-- Loose buckets that are put into a brigade: at its tail, at its head, and before another bucket.
use Rattle.std.proofs.Common.{◌≡◌, ◌≢◌, ℕ, ◌<◌, Bool, true, cond, nat_lt, List, None, Some, refl, sym, ◌∙◌, ap, subst, arith}
use Rattle.std.proofs.lemmas.Bool.Decides.{nat_tests}
use Rattle.module_code.specs.Program.{Program}
use Rattle.module_code.specs.declared.instr.Instr.TheVariants as instr
use Rattle.run_model.specs.declared.bucket.Home.{Home}
use Rattle.run_model.specs.declared.bucket.NamedBucket.{NamedBucket}
use Rattle.run_model.specs.Indexed.{upd}
use Rattle.run_model.specs.BrigadeLists.{bucket_named, taken_out, put_head, put_tail, put_before}
use Rattle.run_model.specs.BucketSteps.{items_at, put_into, do_before}
use Rattle.run_model.specs.Cursors.{CursorPlace, AtLoose, at_cursor}
use Rattle.run_model.specs.Effects.{with_items}
use Rattle.run_model.specs.Faults.{InBrigade, OnLoose, usable_fault}
use Rattle.run_model.specs.Sound.{SoundNames, count_named}
use Rattle.run_model.specs.State.{Configuration, pool_view, set_brigade, set_loose}
use Rattle.model_laws.proofs.Marks.{first_none, second_none}
use Rattle.life_state.specs.declared.parts.Classes.{Classes}
use Rattle.life_state.specs.declared.parts.Contents.{Contents}
use Rattle.life_state.specs.States.{Homes, homes_join, holds, BrigadeKnown, CursorKnown, Loose, In, State, set_brigade as with_brigade}
use Rattle.life_state.specs.Facts.{move_bucket}
use Rattle.life_state.specs.Rules.{cursor_need, usable_need, classes_of, homes_at, tail_content, head_content, before_content, put_in, after_before}
use Rattle.life_check.specs.Meaning.{class_has, Covers, HoldsOfEach, HoldsContents, IsAtBucketOf, IsAtLoose, FitsCursor, Fits}
use Rattle.life_check.specs.Soundness.{LawOf}
use Rattle.life_check.proofs.Lists.{each_more, each_cons, each_put_tail, each_put_before, named_first, named_later, named_taken_out, named_put_tail, named_put_before, new_put_tail, new_put_before}
use Rattle.life_check.proofs.Lists.{holds_tail, holds_head, holds_before}
use Rattle.life_check.proofs.Standing.{usable_below, cursor_in, cursor_loose, once_loose}
use Rattle.life_check.proofs.Filled.{covers_first, covers_second, IsFull, full_of, finds_kept, rearranged_items, rearranged_usable, rearranged_stays, rearranged_brigades, bucket_moved}

-- What it is to put a bucket x of the classes t into the list xs, in which none has its name.
record Inserts (P : NamedBucket → Type 0) (content : Contents → Classes → Contents) (insert : NamedBucket → List NamedBucket → List NamedBucket) (t : Classes) (x : NamedBucket)
    (xs : List NamedBucket) : Type 0 where
  holds : (k : Contents) → class_has t x.bucket.kind ≡ true → HoldsContents k xs → HoldsContents (content k t) (insert x xs)
  each : P x → HoldsOfEach P xs → HoldsOfEach P (insert x xs)
  kept : (m : ℕ) (y : NamedBucket) → m ≢ x.name → bucket_named m xs ≡ Some y → bucket_named m (insert x xs) ≡ Some y
  new : count_named x.name xs ≡ 0 → bucket_named x.name (insert x xs) ≡ Some x

tail_inserts : (P : NamedBucket → Type 0) (t : Classes) (x : NamedBucket) (xs : List NamedBucket) → Inserts P tail_content put_tail t x xs
tail_inserts P t x xs = record {
  holds = λ k has h. holds_tail k t x xs has h;
  each = λ here h. each_put_tail P x xs here h;
  kept = λ m y differ is. named_put_tail m x y xs is;
  new = λ none. new_put_tail x xs none;
}

head_inserts : (P : NamedBucket → Type 0) (t : Classes) (x : NamedBucket) (xs : List NamedBucket) → Inserts P head_content put_head t x xs
head_inserts P t x xs = record {
  holds = λ k has h. holds_head k t x xs has h;
  each = λ here h. each_cons P x xs here h;
  kept = λ m y differ is. named_later m x xs (λ same. differ (sym same)) ∙ is;
  new = λ none. named_first x.name x xs refl;
}

before_inserts : (P : NamedBucket → Type 0) (at : ℕ) (t : Classes) (x : NamedBucket) (xs : List NamedBucket) → Inserts P before_content (put_before at) t x xs
before_inserts P at t x xs = record {
  holds = λ k has h. holds_before at x xs k t has h;
  each = λ here h. each_put_before P at xs x here h;
  kept = λ m y differ is. named_put_before m at x xs (λ same. differ (sym same)) ∙ is;
  new = λ none. new_put_before at x xs none;
}

-- put_in where this is known of c
abbrev put_known : (Contents → Classes → Contents) → ℕ → ℕ → CursorKnown → State → State
put_known content b c k s =
    move_bucket c (In b (classes_of k)) (with_brigade b (holds (content (s.brigades b).content (classes_of k)) (homes_join (s.brigades b).homes (homes_at s k))) s)

module _ (p : Program) (lives : Home → Type 0) (r : Configuration) (s : State) (names : SoundNames r) (f : Fits (Covers p (pool_view r) lives) s r) where
  put_fits : (content : Contents → Classes → Contents) (insert : NamedBucket → List NamedBucket → List NamedBucket) (c b : ℕ) (t : Classes) (h : Homes)
      → (i : IsAtLoose (Covers p (pool_view r) lives) r (r.call.cursors c) t h) → usable_fault (r.instance.brigades b) ≡ None
      → Inserts (λ y. Covers p (pool_view r) lives (homes_join (s.brigades b).homes h) y.bucket.home) content insert t i.bucket (items_at r b)
      → Fits (Covers p (pool_view r) lives) (put_known content b c (Loose t h) s) (put_into insert b (AtLoose i.bucket) r)
  unfolding set_brigade set_loose
  put_fits content insert c b t h i usable ins =
      let C : Homes → Home → Type 0 = Covers p (pool_view r) lives in
      let x : NamedBucket = i.bucket in
      let ys : List NamedBucket = insert x (items_at r b) in
      let loose : List NamedBucket = taken_out x.name r.call.loose in
      let had : IsFull C (s.brigades b) (items_at r b) = full_of C (s.brigades b) (r.instance.brigades b) usable (f.brigades b) in
      let new : BrigadeKnown = holds (content (s.brigades b).content t) (homes_join (s.brigades b).homes h) in
      let full : IsFull C new ys = record {
        live = refl;
        usable = refl;
        holds = ins.holds (s.brigades b).content i.classed had.holds;
        homes = ins.each (covers_second p (pool_view r) lives (s.brigades b).homes h x.bucket.home i.covered)
            (each_more (λ y. C (s.brigades b).homes y.bucket.home) (λ y. C (homes_join (s.brigades b).homes h) y.bucket.home)
            (λ y e. covers_first p (pool_view r) lives (s.brigades b).homes h y.bucket.home e) (items_at r b) had.homes);
      } in
      bucket_moved C r s c x.name (In b t) (upd s.brigades b new) (upd r.instance.brigades b (with_items ys (r.instance.brigades b))) loose names f i.at
      (rearranged_brigades C r b ys loose s new usable full f.brigades)
      (λ w away. rearranged_stays C r b ys loose w usable
      (λ m at. finds_kept C m (items_at r b) ys (λ y is. ins.kept m y (away m at) is))
      (λ m at. finds_kept C m r.call.loose loose (λ y is. named_taken_out m x.name r.call.loose (away m at) ∙ is)))
      (record {
        bucket = x;
        at = i.at;
        there = ap (bucket_named x.name) (rearranged_items C r b ys loose usable) ∙ ins.new ((once_loose C r (r.call.cursors c) t h names i).brigades b);
        classed = i.classed;
        usable = rearranged_usable C r b ys loose b ∙ usable;
      })

-- By what is known of the bucket's cursor.

module _ (p : Program) (lives : Home → Type 0) (r : Configuration) (s : State) (names : SoundNames r) (f : Fits (Covers p (pool_view r) lives) s r) where
  -- at an end of the brigade of b
  end_fits : (content : Contents → Classes → Contents) (insert : NamedBucket → List NamedBucket → List NamedBucket) (b c : ℕ) → usable_fault (r.instance.brigades b) ≡ None
      → ((P : NamedBucket → Type 0) (t : Classes) (x : NamedBucket) (xs : List NamedBucket) → Inserts P content insert t x xs)
      → (k : CursorKnown) → s.cursors c ≡ k → cursor_need OnLoose k ≡ None
      → Fits (Covers p (pool_view (put_into insert b (at_cursor r c) r)) lives) (put_known content b c k s) (put_into insert b (at_cursor r c) r)
  unfolding set_brigade set_loose
  end_fits content insert b c usable ins (Loose t h) is met =
      let i : IsAtLoose (Covers p (pool_view r) lives) r (r.call.cursors c) t h = subst (λ (k : CursorKnown). FitsCursor (Covers p (pool_view r) lives) r k (r.call.cursors c)) is (f.cursors c) in
      subst (λ (at : CursorPlace). Fits (Covers p (pool_view (put_into insert b at r)) lives) (put_known content b c (Loose t h) s) (put_into insert b at r))
      (sym (cursor_loose (Covers p (pool_view r) lives) r (r.call.cursors c) t h names i))
      (put_fits p lives r s names f content insert c b t h i usable (ins (λ y. Covers p (pool_view r) lives (homes_join (s.brigades b).homes h) y.bucket.home) t i.bucket (items_at r b)))
  end_fits content insert b c usable ins k is met = absurd (cc)

  -- before a bucket of the brigade of b
  beside_fits : (c d b : ℕ) (t : Classes) → IsAtBucketOf r (r.call.cursors d) b t → (k : CursorKnown) → s.cursors c ≡ k → cursor_need OnLoose k ≡ None
      → Fits (Covers p (pool_view (do_before (at_cursor r c) (at_cursor r d) r)) lives) (put_known before_content b c k s) (do_before (at_cursor r c) (at_cursor r d) r)
  unfolding set_brigade set_loose
  beside_fits c d b t j (Loose u h) is met =
      let i : IsAtLoose (Covers p (pool_view r) lives) r (r.call.cursors c) u h = subst (λ (k : CursorKnown). FitsCursor (Covers p (pool_view r) lives) r k (r.call.cursors c)) is (f.cursors c) in
      subst (λ (at : CursorPlace). Fits (Covers p (pool_view (do_before (at_cursor r c) at r)) lives) (put_known before_content b c (Loose u h) s) (do_before (at_cursor r c) at r))
      (sym (cursor_in r (r.call.cursors d) b t names j))
      (subst (λ (at : CursorPlace). Fits (Covers p (pool_view (put_into (put_before j.bucket.name) b at r)) lives) (put_known before_content b c (Loose u h) s)
      (put_into (put_before j.bucket.name) b at r)) (sym (cursor_loose (Covers p (pool_view r) lives) r (r.call.cursors c) u h names i))
      (put_fits p lives r s names f before_content (put_before j.bucket.name) c b u h i j.usable
      (before_inserts (λ y. Covers p (pool_view r) lives (homes_join (s.brigades b).homes h) y.bucket.home) j.bucket.name u i.bucket (items_at r b))))
  beside_fits c d b t j k is met = absurd (cc)

pub law_tail : {lives : Home → Type 0} (b c : ℕ) → LawOf lives (instr.Tail b c)
law_tail {lives = lives} b c p choice r s ready =
    end_fits p lives r s ready.sound.names ready.fits tail_content put_tail b c (first_none (usable_fault (r.instance.brigades b)) _ ready.may.faultless) tail_inserts (s.cursors c) refl
    (first_none (cursor_need OnLoose (s.cursors c)) None (second_none (usable_need (s.brigades b)) _ ready.met))

pub law_head : {lives : Home → Type 0} (b c : ℕ) → LawOf lives (instr.Head b c)
law_head {lives = lives} b c p choice r s ready =
    end_fits p lives r s ready.sound.names ready.fits head_content put_head b c (first_none (usable_fault (r.instance.brigades b)) _ ready.may.faultless) head_inserts (s.cursors c) refl
    (first_none (cursor_need OnLoose (s.cursors c)) None (second_none (usable_need (s.brigades b)) _ ready.met))

is_below : (a b : ℕ) → a < b → nat_lt a b ≡ true
is_below a b lt = grind (arith, nat_tests)

pub law_before : {lives : Home → Type 0} (c d : ℕ) → LawOf lives (instr.Before c d)
law_before {lives = lives} c d p choice r s ready =
    by_known (s.cursors d) refl (first_none (cursor_need InBrigade (s.cursors d)) None (second_none (cursor_need OnLoose (s.cursors c)) _ ready.met)) where
      by_known : (k : CursorKnown) → s.cursors d ≡ k → cursor_need InBrigade k ≡ None
          → Fits (Covers p (pool_view (do_before (at_cursor r c) (at_cursor r d) r)) lives) (after_before c k s) (do_before (at_cursor r c) (at_cursor r d) r)
      by_known (In b t) is met =
          let j : IsAtBucketOf r (r.call.cursors d) b t = subst (λ (k : CursorKnown). FitsCursor (Covers p (pool_view r) lives) r k (r.call.cursors d)) is (ready.fits.cursors d) in
          subst (λ (below : Bool). Fits (Covers p (pool_view (do_before (at_cursor r c) (at_cursor r d) r)) lives) (cond below (put_in before_content b c s) s)
          (do_before (at_cursor r c) (at_cursor r d) r))
          (sym (is_below b 9 (usable_below r b ready.sound.names j.usable)))
          (beside_fits p lives r s ready.sound.names ready.fits c d b t j (s.cursors c) refl (first_none (cursor_need OnLoose (s.cursors c)) _ ready.met))
      by_known k is met = absurd (cc)
