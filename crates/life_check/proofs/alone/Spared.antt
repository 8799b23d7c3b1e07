-- What another call does to a call that waits: buckets change in place, and none of their homes that is covered is hit.
use Rattle.std.proofs.Common.{◌≡◌, ℕ, List, map, Some, inl, inr, refl, sym, ◌∙◌, ap, subst}
use Rattle.run_model.specs.declared.bucket.BrigadeVar.{BrigadeVar}
use Rattle.run_model.specs.declared.bucket.BrigadeVar.TheVariants as var
use Rattle.run_model.specs.declared.bucket.Cursor.{Cursor}
use Rattle.run_model.specs.declared.bucket.Cursor.TheVariants as cursor
use Rattle.run_model.specs.declared.bucket.Home.{Home}
use Rattle.run_model.specs.declared.bucket.Mark.{Mark}
use Rattle.run_model.specs.declared.bucket.Mark.TheVariants.{Usable, Passed}
use Rattle.run_model.specs.declared.bucket.NamedBucket.{NamedBucket}
use Rattle.run_model.specs.BrigadeLists.{bucket_named}
use Rattle.run_model.specs.BucketSteps.{items_at}
use Rattle.run_model.specs.Faults.{usable_fault}
use Rattle.run_model.specs.Sound.{brigade_name}
use Rattle.run_model.specs.State.{Configuration, items_of}
use Rattle.life_state.specs.declared.parts.Classes.{Classes}
use Rattle.life_state.specs.declared.parts.PoolState.{PoolState}
use Rattle.life_state.specs.States.{Homes, BrigadeKnown, CursorKnown, Unset, Loose, In, End, InOrEnd, State}
use Rattle.life_check.specs.Meaning.{class_has, FitsPool, FitsMark, FitsBrigade, IsAtBucketOf, IsEndOf, FitsCursor, Differ, Fits}
use Rattle.life_check.proofs.Lists.{each_map, IsSorted, holds_map, map_found, named_map}

-- a brigade's buckets change in place
abbrev pub mapped : (NamedBucket → NamedBucket) → BrigadeVar → BrigadeVar
mapped f var.Null = var.Null
mapped f var.Gone = var.Gone
mapped f (var.Live v) = var.Live (record v { items = map f v.items })

pub record SparesHomes (C D : Homes → Home → Type 0) (f : NamedBucket → NamedBucket) (r new : Configuration) : Type 0 where
  pub names : (x : NamedBucket) → (f x).name ≡ x.name
  pub sorted : IsSorted f
  pub classed : (t : Classes) (x : NamedBucket) → class_has t (f x).bucket.kind ≡ class_has t x.bucket.kind
  pub covers : (h : Homes) (x : NamedBucket) → C h x.bucket.home → D h (f x).bucket.home
  pub pools : (q : ℕ) (k : PoolState) → FitsPool r.shared.pools k (r.instance.pools q) → FitsPool new.shared.pools k (new.instance.pools q)
  pub brigades : (b : ℕ) → new.instance.brigades b ≡ mapped f (r.instance.brigades b)
  pub loose : new.call.loose ≡ map f r.call.loose
  pub cursors : new.call.cursors ≡ r.call.cursors
  pub sent : new.instance.sent ≡ r.instance.sent

module _ (C D : Homes → Home → Type 0) (f : NamedBucket → NamedBucket) (r new : Configuration) (s : SparesHomes C D f r new) where
  mark_spared : (k : BrigadeKnown) (m : Mark) (xs : List NamedBucket) → FitsMark C k m xs → FitsMark D k m (map f xs)
  mark_spared k Usable xs g = (g.0, holds_map k.content f s.sorted xs g.1, each_map (λ x. C k.homes x.bucket.home) (λ x. D k.homes x.bucket.home) f (λ x c. s.covers k.homes x c) xs g.2)
  mark_spared k Passed xs g = g

  brigade_spared : (k : BrigadeKnown) (v : BrigadeVar) → FitsBrigade C k v → FitsBrigade D k (mapped f v)
  brigade_spared k var.Null g = g
  brigade_spared k var.Gone g = g
  brigade_spared k (var.Live v) g = (g.0, mark_spared k v.mark v.items g.1)

  found : (n : ℕ) (x : NamedBucket) (xs ys : List NamedBucket) → ys ≡ map f xs → bucket_named n xs ≡ Some x → bucket_named n ys ≡ Some (f x)
  found n x xs ys are is = ap (bucket_named n) are ∙ (named_map n f s.names xs ∙ ap (map_found f) is)

  items_mapped : (v : BrigadeVar) → items_of (mapped f v) ≡ map f (items_of v)
  items_mapped var.Null = refl
  items_mapped var.Gone = refl
  items_mapped (var.Live v) = refl

  name_mapped : (v : BrigadeVar) → brigade_name (mapped f v) ≡ brigade_name v
  name_mapped var.Null = refl
  name_mapped var.Gone = refl
  name_mapped (var.Live v) = refl

  use_mapped : (v : BrigadeVar) → usable_fault (mapped f v) ≡ usable_fault v
  use_mapped var.Null = refl
  use_mapped var.Gone = refl
  use_mapped (var.Live v) = refl

  in_spared : (v : Cursor) (b : ℕ) (t : Classes) → IsAtBucketOf r v b t → IsAtBucketOf new v b t
  in_spared v b t i = record {
    bucket = f i.bucket;
    at = i.at ∙ ap cursor_at (sym (s.names i.bucket));
    there = subst (λ (n : ℕ). bucket_named n (items_at new b) ≡ Some (f i.bucket)) (sym (s.names i.bucket))
        (found i.bucket.name i.bucket (items_at r b) (items_at new b) (ap items_of (s.brigades b) ∙ items_mapped (r.instance.brigades b)) i.there);
    classed = s.classed t i.bucket ∙ i.classed;
    usable = ap usable_fault (s.brigades b) ∙ (use_mapped (r.instance.brigades b) ∙ i.usable);
  } where
    cursor_at : ℕ → Cursor
    cursor_at n = cursor.At n

  end_spared : (v : Cursor) (b : ℕ) → IsEndOf r v b → IsEndOf new v b
  end_spared v b i = record {
    called = i.called;
    at = i.at;
    there = ap brigade_name (s.brigades b) ∙ (name_mapped (r.instance.brigades b) ∙ i.there);
    usable = ap usable_fault (s.brigades b) ∙ (use_mapped (r.instance.brigades b) ∙ i.usable);
  }

  cursor_spared : (k : CursorKnown) (v : Cursor) → FitsCursor C r k v → FitsCursor D new k v
  cursor_spared Unset v g = tt
  cursor_spared (Loose t h) v g = record {
    bucket = f g.bucket;
    at = g.at ∙ ap cursor_at (sym (s.names g.bucket));
    there = subst (λ (n : ℕ). bucket_named n new.call.loose ≡ Some (f g.bucket)) (sym (s.names g.bucket)) (found g.bucket.name g.bucket r.call.loose new.call.loose s.loose g.there);
    classed = s.classed t g.bucket ∙ g.classed;
    covered = s.covers h g.bucket g.covered;
  } where
    cursor_at : ℕ → Cursor
    cursor_at n = cursor.At n
  cursor_spared (In b t) v g = in_spared v b t g
  cursor_spared (End b) v g = end_spared v b g
  cursor_spared (InOrEnd b t) v (inl g) = inl (in_spared v b t g)
  cursor_spared (InOrEnd b t) v (inr g) = inr (end_spared v b g)

  -- what described it describes it still
  pub spared_fits : (a : State) → Fits C a r → Fits D a new
  spared_fits a g = record {
    sent = λ h. g.sent (sym s.sent ∙ h);
    pools = λ q. s.pools q (a.pools q) (g.pools q);
    brigades = λ b. subst (FitsBrigade D (a.brigades b)) (sym (s.brigades b)) (brigade_spared (a.brigades b) (r.instance.brigades b) (g.brigades b));
    cursors = λ c. subst (λ (k : ℕ → Cursor). FitsCursor D new (a.cursors c) (k c)) (sym s.cursors) (cursor_spared (a.cursors c) (r.call.cursors c) (g.cursors c));
    facts = λ c d h. subst (λ (k : ℕ → Cursor). Differ (k c) (k d)) (sym s.cursors) (g.facts c d h);
  }
