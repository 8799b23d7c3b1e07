-- New buckets, and copies.
use Rattle.std.proofs.Common.{◌≡◌, ◌≢◌, ℕ, true, cond, Option, None, Some, refl, sym, ◌∙◌, ap, arith}
use Rattle.module_code.specs.Program.{Program}
use Rattle.run_model.specs.EffectOf.{instr_with}
use Rattle.run_model.specs.Steps.{made_of}
use Rattle.run_model.specs.declared.effect.Effect.TheVariants as effect
use Rattle.run_model.specs.declared.effect.MadeFrom.{MadeFrom}
use Rattle.run_model.specs.declared.effect.MadeFrom.TheVariants.{TransientBuffer, PoolBuffer, CopyAt}
use Rattle.life_check.proofs.Known.{IsKnown, in_known, loose_known}
use Rattle.module_code.specs.declared.instr.PoolRef.{PoolRef}
use Rattle.run_model.specs.declared.bucket.Bucket.{Bucket}
use Rattle.run_model.specs.declared.bucket.Cursor.{Cursor}
use Rattle.run_model.specs.declared.bucket.Cursor.TheVariants as cursor
use Rattle.run_model.specs.declared.bucket.Home.{Home}
use Rattle.run_model.specs.declared.bucket.NamedBucket.{NamedBucket}
use Rattle.run_model.specs.declared.fault.FaultKind.TheVariants.{F1}
use Rattle.run_model.specs.BrigadeLists.{put_tail}
use Rattle.run_model.specs.BucketSteps.{items_at, new_loose, copied_bucket, do_make, pooled_bucket}
use Rattle.run_model.specs.Cursors.{bucket_at, place_of_cursor}
use Rattle.run_model.specs.Faults.{OnBucket, fault, has_pool_at, has_pool, is_live_named, wants}
use Rattle.run_model.specs.Sound.{SoundNames, count}
use Rattle.run_model.specs.State.{Configuration, pool_view, pool_named, set_cursor, set_loose}
use Rattle.model_laws.proofs.Marks.{first_none}
use Rattle.life_state.specs.declared.parts.Classes.{Classes}
use Rattle.life_state.specs.States.{Homes, no_homes, CursorKnown, In, Loose, State}
use Rattle.life_state.specs.Facts.{is_set}
use Rattle.life_state.specs.Rules.{after_make, classes_from, homes_from, first_need, cursor_need, classes_of, homes_at, all_others, only_bytes, made}
use Rattle.life_check.specs.Meaning.{class_has, FitsCursor, Covers, Differ, Fits}
use Rattle.life_check.specs.Soundness.{LivesOutside}
use Rattle.life_check.proofs.Lists.{named_put_tail, new_put_tail}
use Rattle.life_check.proofs.Standing.{set_there}
use Rattle.life_check.proofs.Filled.{finds_kept}
use Rattle.life_check.proofs.Sets.{cursor_set}

-- a new bucket of these classes, whose home is covered
pub made_fits : (C : Homes → Home → Type 0) (r : Configuration) (s : State) → SoundNames r → Fits C s r → (c : ℕ) (t : Classes) (h : Homes) (b : Bucket)
    → class_has t b.kind ≡ true → C h b.home → Fits C (made c t h s) (new_loose c b r)
unfolding set_cursor set_loose
made_fits C r s names f c t h b classed covered =
    cursor_set C r s names f c (Loose t h) (cursor.At r.shared.next) (put_tail new r.call.loose) _ all_others
    (λ k. record {
      loose = λ m at. finds_kept C m r.call.loose (put_tail new r.call.loose) (λ y is. named_put_tail m new y r.call.loose is);
      within = λ j m at. finds_kept C m (items_at r j) (items_at r j) (λ y is. is);
      names = λ j. refl;
      usable = λ j is. is;
    })
    (record { bucket = new; at = refl; there = new_put_tail new r.call.loose (let none : count r r.shared.next ≡ 0 = unused in omega arith); classed = classed; covered = covered })
    away where
      new : NamedBucket
      new = record { name = r.shared.next; bucket = b }

      unused : count r r.shared.next ≡ 0
      unused = names.fresh r.shared.next (omega arith)

      away : (k : ℕ) → k ≢ c → is_set (s.cursors k) ≡ true → all_others k ≡ true → Differ (cursor.At r.shared.next) (r.call.cursors k)
      away k differ set other n at too =
          let same : r.shared.next ≡ n = (let both : cursor.At r.shared.next ≡ cursor.At n = at in cc) in
          let none : count r n ≡ 0 = ap (count r) (sym same) ∙ unused in
          absurd (omega (arith, none, set_there C r names (s.cursors k) (r.call.cursors k) n too set (f.cursors k)))

-- What is made, by its source.

-- an operand that names no pool has a fault
unnamed_fault : (r : Configuration) (q : PoolRef) → pool_named r q ≡ None → cond (has_pool r q) None (Some F1) ≡ None → ⊥
unfolding has_pool_at
unnamed_fault r q none met = (let fault : Some F1 ≡ None = sym (ap (λ (o : Option ℕ). cond (is_live_named r.shared.pools o) None (Some F1)) none) ∙ met in cc)

-- a bucket that is made is of these classes, and these homes cover its own
abbrev IsMadeOf : (Homes → Home → Type 0) → Classes → Homes → Option Bucket → Type 0
IsMadeOf C t h None = ⊥
IsMadeOf C t h (Some b) = (class_has t b.kind ≡ true) × C h b.home

of_known : (C : Homes → Home → Type 0) (t : Classes) (h : Homes) (o : Option NamedBucket) → IsKnown C t h o → IsMadeOf C t h (copied_bucket o)
of_known C t h None is = is
of_known C t h (Some x) is = is

module _ (lives : Home → Type 0) (p : Program) (r : Configuration) (s : State) (names : SoundNames r) (outside : LivesOutside r lives) (f : Fits (Covers p (pool_view r) lives) s r)
    (c : ℕ) where
  abbrev C : Homes → Home → Type 0
  C = Covers p (pool_view r) lives

  pooled : (q : PoolRef) (o : Option ℕ) → pool_named r q ≡ o → cond (has_pool r q) None (Some F1) ≡ None → IsMadeOf C only_bytes no_homes (pooled_bucket r.call.buffer o)
  pooled q None is met = absurd (unnamed_fault r q is met)
  pooled q (Some n) is met = (refl, tt)

  copied : (k : CursorKnown) (v : Cursor) → FitsCursor C r k v → cursor_need OnBucket k ≡ None → IsMadeOf C (classes_of k) (homes_at s k) (copied_bucket (bucket_at (place_of_cursor r v)))
  copied (In b t) v i met = of_known C t (s.brigades b).homes (bucket_at (place_of_cursor r v)) (in_known C r s v names f b t i)
  copied (Loose t h) v i met = of_known C t h (bucket_at (place_of_cursor r v)) (loose_known C r s v names f t h i)
  copied k v i met = absurd (cc)

  source_known : (from : MadeFrom) → fault p r (instr_with (effect.Make c from)) ≡ None → first_need s (wants p (instr_with (effect.Make c from))) ≡ None
      → IsMadeOf C (classes_from from s) (homes_from from s) (made_of p r from)
  source_known TransientBuffer none met = (refl, (refl, outside.this))
  source_known (PoolBuffer q) none met = pooled q (pool_named r q) refl (first_none (cond (has_pool r q) None (Some F1)) None none)
  source_known (CopyAt d) none met = copied (s.cursors d) (r.call.cursors d) (f.cursors d) (first_none (cursor_need OnBucket (s.cursors d)) _ met)
  source_known from none met = (refl, tt)

  made_as : (t : Classes) (h : Homes) (o : Option Bucket) → IsMadeOf C t h o → Fits (Covers p (pool_view (do_make c o r)) lives) (made c t h s) (do_make c o r)
  unfolding set_cursor set_loose
  made_as t h None is = absurd is
  made_as t h (Some b) is = made_fits C r s names f c t h b is.0 is.1

  -- what is made of a source is as the state says
  pub made_described : (from : MadeFrom) → fault p r (instr_with (effect.Make c from)) ≡ None → first_need s (wants p (instr_with (effect.Make c from))) ≡ None
      → Fits (Covers p (pool_view (do_make c (made_of p r from) r)) lives) (after_make c from s) (do_make c (made_of p r from) r)
  made_described from none met = made_as (classes_from from s) (homes_from from s) (made_of p r from) (source_known from none met)
