-- What is known of the bucket at a cursor: its classes, and what covers its home.
use Rattle.std.proofs.Common.{◌≡◌, ℕ, true, Option, None, Some, sym, subst}
use Rattle.run_model.specs.declared.bucket.Cursor.{Cursor}
use Rattle.run_model.specs.declared.bucket.Home.{Home}
use Rattle.run_model.specs.declared.bucket.NamedBucket.{NamedBucket}
use Rattle.run_model.specs.BucketSteps.{items_at}
use Rattle.run_model.specs.Cursors.{CursorPlace, bucket_at, place_of_cursor}
use Rattle.run_model.specs.Sound.{SoundNames}
use Rattle.run_model.specs.State.{Configuration}
use Rattle.life_state.specs.declared.parts.Classes.{Classes}
use Rattle.life_state.specs.States.{Homes, State}
use Rattle.life_check.specs.Meaning.{class_has, IsAtBucketOf, IsAtLoose, Fits}
use Rattle.life_check.proofs.Filled.{full_of}
use Rattle.life_check.proofs.Lists.{each_named}
use Rattle.life_check.proofs.Standing.{cursor_in, cursor_loose}

-- a bucket is there, of these classes, and these homes cover its own
abbrev pub IsKnown : (Homes → Home → Type 0) → Classes → Homes → Option NamedBucket → Type 0
IsKnown C t h None = ⊥
IsKnown C t h (Some x) = (class_has t x.bucket.kind ≡ true) × C h x.bucket.home

module _ (C : Homes → Home → Type 0) (r : Configuration) (s : State) (v : Cursor) (names : SoundNames r) (f : Fits C s r) where
  pub in_known : (b : ℕ) (t : Classes) → IsAtBucketOf r v b t → IsKnown C t (s.brigades b).homes (bucket_at (place_of_cursor r v))
  in_known b t i =
      let homes : Homes = (s.brigades b).homes in
      subst (λ (at : CursorPlace). IsKnown C t homes (bucket_at at)) (sym (cursor_in r v b t names i))
      (i.classed, each_named (λ y. C homes y.bucket.home) i.bucket.name (items_at r b) i.bucket i.there (full_of C (s.brigades b) (r.instance.brigades b) i.usable (f.brigades b)).homes)

  pub loose_known : (t : Classes) (h : Homes) → IsAtLoose C r v t h → IsKnown C t h (bucket_at (place_of_cursor r v))
  loose_known t h i = subst (λ (at : CursorPlace). IsKnown C t h (bucket_at at)) (sym (cursor_loose C r v t h names i)) (i.classed, i.covered)
