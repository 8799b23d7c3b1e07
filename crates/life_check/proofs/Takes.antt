-- Buckets that are taken out: unlink and delete.
use Rattle.std.proofs.Common.{◌≡◌, ℕ, None, refl, sym, ◌∙◌, subst}
use Rattle.module_code.specs.declared.instr.Instr.TheVariants as instr
use Rattle.run_model.specs.declared.bucket.Home.{Home}
use Rattle.run_model.specs.Indexed.{upd}
use Rattle.run_model.specs.BrigadeLists.{taken_out, put_tail}
use Rattle.run_model.specs.BucketSteps.{items_at, do_unlink, do_delete}
use Rattle.run_model.specs.Cursors.{CursorPlace, Within, AtLoose, at_cursor}
use Rattle.run_model.specs.Effects.{with_items}
use Rattle.run_model.specs.Faults.{InBrigade, OnBucket, usable_fault}
use Rattle.run_model.specs.Sound.{SoundNames}
use Rattle.run_model.specs.State.{Configuration, pool_view, set_brigade, set_loose}
use Rattle.model_laws.proofs.Marks.{first_none}
use Rattle.life_state.specs.declared.parts.Classes.{Classes}
use Rattle.life_state.specs.States.{Homes, CursorKnown, Unset, Loose, In, State}
use Rattle.life_state.specs.Facts.{move_bucket}
use Rattle.life_state.specs.Rules.{cursor_need, classes_of, homes_at}
use Rattle.life_check.specs.Meaning.{Covers, IsAtBucketOf, IsAtLoose, FitsBrigade, FitsCursor, Fits}
use Rattle.life_check.specs.Soundness.{LawOf}
use Rattle.life_check.proofs.Lists.{each_taken_out, each_named, named_taken_out, named_put_tail, new_put_tail, thins_taken_out, holds_thinner}
use Rattle.life_check.proofs.Standing.{upd_second, once_in, cursor_in, cursor_loose}
use Rattle.life_check.proofs.Filled.{IsFull, full_of, full_fits, finds_kept, rearranged_stays, bucket_moved}

module _ (C : Homes → Home → Type 0) (r : Configuration) (s : State) (names : SoundNames r) (f : Fits C s r) where
  -- what is left of a brigade holds no more
  left_full : (n b : ℕ) → usable_fault (r.instance.brigades b) ≡ None → IsFull C (s.brigades b) (taken_out n (items_at r b))
  left_full n b usable =
      let full = full_of C (s.brigades b) (r.instance.brigades b) usable (f.brigades b) in
      record {
        live = full.live;
        usable = full.usable;
        holds = holds_thinner (s.brigades b).content (items_at r b) (taken_out n (items_at r b)) (thins_taken_out n (items_at r b)) full.holds;
        homes = each_taken_out (λ x. C (s.brigades b).homes x.bucket.home) n (items_at r b) full.homes;
      }

  left_brigades : (n b : ℕ) → usable_fault (r.instance.brigades b) ≡ None → (j : ℕ)
      → FitsBrigade C (s.brigades j) (upd r.instance.brigades b (with_items (taken_out n (items_at r b)) (r.instance.brigades b)) j)
  left_brigades n b usable =
      upd_second (λ j v. FitsBrigade C (s.brigades j) v) r.instance.brigades b (with_items (taken_out n (items_at r b)) (r.instance.brigades b))
      (full_fits C (s.brigades b) (r.instance.brigades b) (taken_out n (items_at r b)) usable (left_full n b usable)) (λ j differ. f.brigades j)

  unlinked : (c b : ℕ) (t : Classes) → (i : IsAtBucketOf r (r.call.cursors c) b t) → Fits C (move_bucket c (Loose t (s.brigades b).homes) s) (do_unlink (Within b i.bucket) r)
  unfolding set_brigade set_loose
  unlinked c b t i =
      let x = i.bucket in
      bucket_moved C r s c x.name (Loose t (s.brigades b).homes) s.brigades (upd r.instance.brigades b (with_items (taken_out x.name (items_at r b)) (r.instance.brigades b)))
      (put_tail x r.call.loose) names f i.at
      (left_brigades x.name b i.usable)
      (λ w away. rearranged_stays C r b (taken_out x.name (items_at r b)) (put_tail x r.call.loose) w i.usable
      (λ m at. finds_kept C m (items_at r b) (taken_out x.name (items_at r b)) (λ y is. named_taken_out m x.name (items_at r b) (away m at) ∙ is))
      (λ m at. finds_kept C m r.call.loose (put_tail x r.call.loose) (λ y is. named_put_tail m x y r.call.loose is)))
      (record {
        bucket = x;
        at = i.at;
        there = new_put_tail x r.call.loose (once_in r (r.call.cursors c) b t names i).loose;
        classed = i.classed;
        covered = each_named (λ y. C (s.brigades b).homes y.bucket.home) x.name (items_at r b) x i.there (full_of C (s.brigades b) (r.instance.brigades b) i.usable (f.brigades b)).homes;
      })

  deleted_in : (c b : ℕ) (t : Classes) → (i : IsAtBucketOf r (r.call.cursors c) b t) → Fits C (move_bucket c Unset s) (do_delete (Within b i.bucket) r)
  unfolding set_brigade set_loose
  deleted_in c b t i =
      let x = i.bucket in
      bucket_moved C r s c x.name Unset s.brigades (upd r.instance.brigades b (with_items (taken_out x.name (items_at r b)) (r.instance.brigades b))) r.call.loose names f i.at
      (left_brigades x.name b i.usable)
      (λ w away. rearranged_stays C r b (taken_out x.name (items_at r b)) r.call.loose w i.usable
      (λ m at. finds_kept C m (items_at r b) (taken_out x.name (items_at r b)) (λ y is. named_taken_out m x.name (items_at r b) (away m at) ∙ is))
      (λ m at. finds_kept C m r.call.loose r.call.loose (λ y is. is)))
      tt

  deleted_loose : (c : ℕ) (t : Classes) (h : Homes) → (i : IsAtLoose C r (r.call.cursors c) t h) → Fits C (move_bucket c Unset s) (do_delete (AtLoose i.bucket) r)
  unfolding set_loose
  deleted_loose c t h i =
      let x = i.bucket in
      bucket_moved C r s c x.name Unset s.brigades r.instance.brigades (taken_out x.name r.call.loose) names f i.at f.brigades
      (λ w away. record {
        loose = λ m at. finds_kept C m r.call.loose (taken_out x.name r.call.loose) (λ y is. named_taken_out m x.name r.call.loose (away m at) ∙ is);
        within = λ b m at. finds_kept C m (items_at r b) (items_at r b) (λ y is. is);
        names = λ b. refl;
        usable = λ b is. is;
      })
      tt

pub law_unlink : {lives : Home → Type 0} (c : ℕ) → LawOf lives (instr.Unlink c)
unfolding set_brigade set_loose
law_unlink {lives = lives} c p choice r s ready = by_known (s.cursors c) refl (first_none (cursor_need InBrigade (s.cursors c)) None ready.met) where
  by_known : (k : CursorKnown) → s.cursors c ≡ k → cursor_need InBrigade k ≡ None
      → Fits (Covers p (pool_view (do_unlink (at_cursor r c) r)) lives) (move_bucket c (Loose (classes_of k) (homes_at s k)) s) (do_unlink (at_cursor r c) r)
  by_known (In b t) is met =
      let i : IsAtBucketOf r (r.call.cursors c) b t = subst (λ (k : CursorKnown). FitsCursor (Covers p (pool_view r) lives) r k (r.call.cursors c)) is (ready.fits.cursors c) in
      subst (λ (at : CursorPlace). Fits (Covers p (pool_view (do_unlink at r)) lives) (move_bucket c (Loose t (s.brigades b).homes) s) (do_unlink at r))
      (sym (cursor_in r (r.call.cursors c) b t ready.sound.names i))
      (unlinked (Covers p (pool_view r) lives) r s ready.sound.names ready.fits c b t i)
  by_known k is met = absurd (cc)

pub law_bdelete : {lives : Home → Type 0} (c : ℕ) → LawOf lives (instr.BDelete c)
unfolding set_brigade set_loose
law_bdelete {lives = lives} c p choice r s ready = by_known (s.cursors c) refl (first_none (cursor_need OnBucket (s.cursors c)) None ready.met) where
  by_known : (k : CursorKnown) → s.cursors c ≡ k → cursor_need OnBucket k ≡ None → Fits (Covers p (pool_view (do_delete (at_cursor r c) r)) lives) (move_bucket c Unset s) (do_delete (at_cursor r c) r)
  by_known (In b t) is met =
      let i : IsAtBucketOf r (r.call.cursors c) b t = subst (λ (k : CursorKnown). FitsCursor (Covers p (pool_view r) lives) r k (r.call.cursors c)) is (ready.fits.cursors c) in
      subst (λ (at : CursorPlace). Fits (Covers p (pool_view (do_delete at r)) lives) (move_bucket c Unset s) (do_delete at r)) (sym (cursor_in r (r.call.cursors c) b t ready.sound.names i))
      (deleted_in (Covers p (pool_view r) lives) r s ready.sound.names ready.fits c b t i)
  by_known (Loose t h) is met =
      let i : IsAtLoose (Covers p (pool_view r) lives) r (r.call.cursors c) t h =
      subst (λ (k : CursorKnown). FitsCursor (Covers p (pool_view r) lives) r k (r.call.cursors c)) is (ready.fits.cursors c) in
      subst (λ (at : CursorPlace). Fits (Covers p (pool_view (do_delete at r)) lives) (move_bucket c Unset s) (do_delete at r))
      (sym (cursor_loose (Covers p (pool_view r) lives) r (r.call.cursors c) t h ready.sound.names i))
      (deleted_loose (Covers p (pool_view r) lives) r s ready.sound.names ready.fits c t h i)
  by_known k is met = absurd (cc)
