-- The laws of split, read and bpart.
use Rattle.std.proofs.Common.{◌≡◌, ℕ, Bool, true, false, cond, List, Option, Some, None, is_some, refl, sym, subst}
use Rattle.module_code.specs.declared.instr.Instr.TheVariants as instr
use Rattle.module_code.specs.declared.instr.Value.{Value}
use Rattle.module_code.specs.Program.{Program}
use Rattle.run_model.specs.declared.bucket.Cursor.{Cursor}
use Rattle.run_model.specs.declared.bucket.Cursor.TheVariants as cursor
use Rattle.run_model.specs.declared.bucket.Home.{Home}
use Rattle.run_model.specs.declared.bucket.NamedBucket.{NamedBucket}
use Rattle.run_model.specs.declared.effect.Condition.TheVariants as condition
use Rattle.run_model.specs.declared.fault.FaultKind.{FaultKind}
use Rattle.run_model.specs.BrigadeLists.{SplitRefusal, split_refusal, bucket_split}
use Rattle.run_model.specs.BucketSteps.{items_at, set_items, bucket_read, read_given, read_within, has_rest, names_if, names_given, do_read, is_unread, is_unsplit, split_there}
use Rattle.run_model.specs.Cursors.{CursorPlace, Within, at_cursor}
use Rattle.run_model.specs.Faults.{InBrigade, or_else}
use Rattle.run_model.specs.Sound.{Sound, SoundNames}
use Rattle.run_model.specs.State.{Configuration, set_brigade, set_cursor, pool_view}
use Rattle.run_model.specs.Steps.{value_of, jumps_if}
use Rattle.run_model.specs.Cutting.{FitsKind}
use Rattle.run_model.proofs.EachBucket.{of_named}
use Rattle.model_laws.proofs.StepNames.{step_names}
use Rattle.life_state.specs.Facts.{known}
use Rattle.life_state.specs.declared.parts.Classes.{Classes}
use Rattle.life_state.specs.Rules.{cursor_need, both_with, after_read, on_condition, no_other}
use Rattle.life_state.specs.States.{Homes, CursorKnown, Unset, Loose, In, End, InOrEnd, State}
use Rattle.life_check.specs.Meaning.{Covers, Differ, IsAtBucketOf, FitsCursor, Fits}
use Rattle.life_check.specs.Soundness.{Lands, LawOf}
use Rattle.life_check.proofs.FinerFits.{finer_fits}
use Rattle.life_check.proofs.Standing.{known_differ, cursor_in}
use Rattle.life_check.proofs.SetFits.{set_fits}
use Rattle.life_check.proofs.FinerSteps.{split_finer, read_finer}

-- A list of needs that are met.
pub first_met : (a b : Option FaultKind) → or_else a b ≡ None → (a ≡ None) × (b ≡ None)
first_met None b is = (refl, is)
first_met (Some k) b is = absurd (cc)

-- A cursor that is known to be at a bucket in a brigade.
pub record KnownIn (k : CursorKnown) : Type 0 where
  pub brigade : ℕ
  pub classes : Classes
  pub is : k ≡ In brigade classes

pub in_brigade_known : (k : CursorKnown) → cursor_need InBrigade k ≡ None → KnownIn k
in_brigade_known Unset is = absurd (cc)
in_brigade_known (Loose t h) is = absurd (cc)
in_brigade_known (In b t) is = record { brigade = b; classes = t; is = refl }
in_brigade_known (End b) is = absurd (cc)
in_brigade_known (InOrEnd b t) is = absurd (cc)

unread_none : (given : Option (List ℕ)) (b : ℕ) (x : NamedBucket) → read_given given x.bucket.content ≡ None → is_unread given (Within b x) ≡ true
unread_none given b x is = rw is refl

unread_some : (given : Option (List ℕ)) (b : ℕ) (x : NamedBucket) (bytes : List ℕ) → read_given given x.bucket.content ≡ Some bytes → is_unread given (Within b x) ≡ false
unread_some given b x bytes is = rw is refl

-- names do not depend on cursors
names_before : (c : ℕ) (v : Cursor) (r : Configuration) → SoundNames (set_cursor c v r) → SoundNames r
unfolding set_cursor
names_before c v r s = record { once = s.once; fresh = s.fresh; apart = s.apart; given = s.given; limit = s.limit; slots = s.slots }

abbrev ReadLands : (Home → Type 0) → Program → Configuration → State → ℕ → Bool → Configuration → Type 0
ReadLands lives p r s c unread left = Lands lives p (on_condition (condition.ReadFailed c) s (after_read c s)) s (jumps_if unread) left

-- a bucket that a cursor is at fits its kind
each_kind : {r : Configuration} {v : Cursor} {t : Classes} → Sound r → (b : ℕ) → (at : IsAtBucketOf r v b t) → FitsKind at.bucket.bucket
each_kind {r} sound b at = of_named (λ x. FitsKind x.bucket) at.bucket.name at.bucket (items_at r b) at.there (sound.buckets.brigades b)

abbrev SplitLands : (Home → Type 0) → Program → Configuration → State → ℕ → CursorPlace → Bool → Type 0
SplitLands lives p r s n g refused = Lands lives p (both_with s) s (jumps_if refused) (cond refused r (split_there n g r))

module _ {lives : Home → Type 0} where
  pub law_split : (c l : ℕ) (x : Value) → LawOf lives (instr.Split c x l)
  unfolding set_brigade
  law_split c l x p choice r s ready = by_cursor (cursor_in r (r.call.cursors c) known.brigade known.classes ready.sound.names stands) where
    C : Homes → Home → Type 0
    C = Covers p (pool_view r) lives

    known : KnownIn (s.cursors c)
    known = in_brigade_known (s.cursors c) (first_met _ _ ready.met).0

    stands : IsAtBucketOf r (r.call.cursors c) known.brigade known.classes
    stands = subst (λ k. FitsCursor C r k (r.call.cursors c)) known.is (ready.fits.cursors c)

    -- where it is refused nothing changes
    by_refusal : (o : Option SplitRefusal) → split_refusal (value_of r x) stands.bucket ≡ o → SplitLands lives p r s (value_of r x) (Within known.brigade stands.bucket) (is_some o)
    by_refusal (Some why) is = ready.fits
    by_refusal None is =
        finer_fits C r known.brigade 1 (bucket_split r.shared.next stands.bucket.name (value_of r x) (items_at r known.brigade)) ready.sound.names
        (split_finer C (λ h. tt) r.shared.next stands.bucket.name (value_of r x) stands.bucket (items_at r known.brigade) stands.there is) s ready.fits

    by_cursor : at_cursor r c ≡ Within known.brigade stands.bucket → SplitLands lives p r s (value_of r x) (at_cursor r c) (is_unsplit (value_of r x) (at_cursor r c))
    by_cursor is = subst (λ g. SplitLands lives p r s (value_of r x) g (is_unsplit (value_of r x) g)) (sym is) (by_refusal (split_refusal (value_of r x) stands.bucket) refl)

  -- a read of the bucket at c, which is x in the brigade of b
  read_lands : (p : Program) (r : Configuration) (s : State) (c b : ℕ) (t : Classes) (given : Option (List ℕ)) (o : Option (List ℕ)) (at : IsAtBucketOf r (r.call.cursors c) b t)
      → Sound r → Fits (Covers p (pool_view r) lives) s r → read_given given at.bucket.bucket.content ≡ o
      → SoundNames (read_within b at.bucket o r) → ReadLands lives p r s c (is_unread given (Within b at.bucket)) (read_within b at.bucket o r)
  unfolding set_cursor set_brigade
  read_lands p r s c b t given None at sound fits is names =
      subst (λ unread. ReadLands lives p r s c unread (set_cursor 8 cursor.Unset r)) (sym (unread_none given b at.bucket is))
      (set_fits (Covers p (pool_view r) lives) r s 8 Unset cursor.Unset no_other sound.names fits tt (λ k differ set no. absurd (cc)))
  read_lands p r s c b t given (Some bytes) at sound fits is names =
      subst (λ unread. ReadLands lives p r s c unread (read_within b at.bucket (Some bytes) r)) (sym (unread_some given b at.bucket bytes is))
      (set_fits C left s 8 (s.cursors c) (cursor.At at.bucket.name) (known s c) left_names left_fits
      (subst (λ v. FitsCursor C left (s.cursors c) v) at.at (left_fits.cursors c))
      (λ k differ set is_known. subst (λ v. Differ v (r.call.cursors k)) at.at (known_differ C left s c k left_names left_fits is_known))) where
        C : Homes → Home → Type 0
        C = Covers p (pool_view r) lives

        names_read : ℕ
        names_read = names_if (has_rest at.bucket.bucket.content)

        items : List NamedBucket
        items = bucket_read r.shared.next at.bucket.name bytes (items_at r b)

        left : Configuration
        left = set_items b items (names_given names_read r)

        left_names : SoundNames left
        left_names = names_before 8 (cursor.At at.bucket.name) left names

        left_fits : Fits C s left
        left_fits = finer_fits C r b names_read items sound.names (read_finer C (λ h. tt) r.shared.next at.bucket.name bytes at.bucket (items_at r b) at.there (each_kind sound b at)) s fits

  pub law_read : (c l : ℕ) → LawOf lives (instr.Read c l)
  law_read c l p choice r s ready =
      subst (λ g. ReadLands lives p r s c (is_unread choice.given g) (do_read choice.given g r)) (sym is_there)
      (read_lands p r s c known_in.brigade known_in.classes choice.given (read_given choice.given stands.bucket.bucket.content) stands ready.sound ready.fits refl
      (subst (λ g. SoundNames (do_read choice.given g r)) is_there (step_names p choice (instr.Read c l) r ready.may ready.sound.names))) where
        known_in : KnownIn (s.cursors c)
        known_in = in_brigade_known (s.cursors c) (first_met _ _ ready.met).0

        stands : IsAtBucketOf r (r.call.cursors c) known_in.brigade known_in.classes
        stands = subst (λ k. FitsCursor (Covers p (pool_view r) lives) r k (r.call.cursors c)) known_in.is (ready.fits.cursors c)

        is_there : at_cursor r c ≡ Within known_in.brigade stands.bucket
        is_there = cursor_in r (r.call.cursors c) known_in.brigade known_in.classes ready.sound.names stands
