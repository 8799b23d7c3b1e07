-- What is true of each bucket of a brigade, where brigades are written, filled, emptied, cleared and returned.
use Rattle.std.proofs.Common.{ℕ, Bool, true, false, cond, ◌==◌, List, [], ◌++◌, map, get_or, All, inl, inr, sym, subst}
use Rattle.std.proofs.lemmas.List.Elements.{All-nil, All-append, All-map}
use Rattle.run_model.specs.declared.bucket.NamedBucket.{NamedBucket}
use Rattle.run_model.specs.declared.bucket.BrigadeVar.{BrigadeVar}
use Rattle.run_model.specs.declared.bucket.BrigadeVar.TheVariants as var
use Rattle.run_model.specs.Indexed.{upd}
use Rattle.run_model.specs.Buckets.{returned_bucket, cleared_bucket}
use Rattle.run_model.specs.Clearing.{is_reached, cleared_var}
use Rattle.run_model.specs.State.{items_of}
use Rattle.run_model.specs.Effects.{cleaned, handed_over, returned_var, with_items}
use Rattle.run_model.proofs.Updates.{upd_either}

pub written : (P : BrigadeVar → Type 0) (g : ℕ → BrigadeVar) (i : ℕ) (w : BrigadeVar) → P w → ((k : ℕ) → P (g k)) → (k : ℕ) → P (upd g i w k)
written P g i w here there k = elim (upd_either g i k w) [ inl q ↦ subst P (sym q.1) here | inr q ↦ subst P (sym q.1) (there k) ]

-- One property, where nothing changes.
module _ (T : NamedBucket → Type 0) where
  pub none : All T []
  none = All-nil T

  pub cleaned_each : (v : BrigadeVar) → All T (items_of (cleaned v))
  cleaned_each var.Null = none
  cleaned_each var.Gone = none
  cleaned_each (var.Live v) = none

  pub handed_over_each : (v : BrigadeVar) → All T (items_of (handed_over v))
  handed_over_each var.Null = none
  handed_over_each var.Gone = none
  handed_over_each (var.Live v) = none

  pub filled_each : (items : List NamedBucket) (v : BrigadeVar) → All T items → All T (items_of (with_items items v))
  filled_each items var.Null h = none
  filled_each items var.Gone h = none
  filled_each items (var.Live v) h = h

  -- a variable is written
  pub written_each : (g : ℕ → BrigadeVar) (i : ℕ) (v : BrigadeVar) → All T (items_of v) → ((k : ℕ) → All T (items_of (g k))) → (k : ℕ) → All T (items_of (upd g i v k))
  written_each g i v here there = written (λ w. All T (items_of w)) g i v here there

  -- a brigade has these items
  pub items_each : (g : ℕ → BrigadeVar) (b : ℕ) (items : List NamedBucket) → All T items → ((k : ℕ) → All T (items_of (g k))) → (k : ℕ) → All T (items_of (upd g b (with_items items (g b)) k))
  items_each g b items here there = written_each g b (with_items items (g b)) (filled_each items (g b) here) there

  -- these items go to the tail of a, and b is empty
  pub moved_each : (g : ℕ → BrigadeVar) (a b : ℕ) (items : List NamedBucket) → All T items → ((k : ℕ) → All T (items_of (g k)))
      → (k : ℕ) → All T (items_of (upd (upd g b (with_items [] (g b))) a (with_items (items_of (g a) ++ items) (g a)) k))
  moved_each g a b items moved there =
      written_each (upd g b (with_items [] (g b))) a _ (filled_each _ (g a) (All-append T (items_of (g a)) items (there a) moved)) (items_each g b [] none there)

-- One property before, and one after.
module _ (Old New : NamedBucket → Type 0) where
  pub mapped_each : (change : NamedBucket → NamedBucket) → ((x : NamedBucket) → Old x → New (change x)) → (xs : List NamedBucket) → All Old xs → All New (map change xs)
  mapped_each change keeps xs h = All-map New change xs (λ k d lt. keeps (get_or xs k d) (h k d lt))

  pub each_so : ((x : NamedBucket) → Old x → New x) → (xs : List NamedBucket) → All Old xs → All New xs
  each_so keeps xs h = λ k d lt. keeps (get_or xs k d) (h k d lt)

  pub cleared_each : (reached : ℕ → Bool) → ((x : NamedBucket) → Old x → New (cleared_bucket reached x)) → (v : BrigadeVar) → All Old (items_of v) → All New (items_of (cleared_var reached v))
  cleared_each reached keeps var.Null h = none New
  cleared_each reached keeps var.Gone h = none New
  cleared_each reached keeps (var.Live v) h = by_test (is_reached reached v.on) where
    by_test : (b : Bool) → All New (items_of (cond b var.Gone (var.Live (record v { items = map (cleared_bucket reached) v.items }))))
    by_test true = none New
    by_test false = mapped_each (cleared_bucket reached) keeps v.items h

  pub returned_each : (call : ℕ) → ((x : NamedBucket) → Old x → New (returned_bucket call x)) → (v : BrigadeVar) → All Old (items_of v) → All New (items_of (returned_var call v))
  returned_each call keeps var.Null h = none New
  returned_each call keeps var.Gone h = none New
  returned_each call keeps (var.Live v) h = mapped_each (returned_bucket call) keeps v.items h

  -- what a return leaves of all brigades
  pub left_each : (call : ℕ) → ((x : NamedBucket) → Old x → New (returned_bucket call x)) → (g : ℕ → BrigadeVar) → ((k : ℕ) → All Old (items_of (g k)))
      → (b : ℕ) → All New (items_of (cond (b == 8) var.Null (returned_var call (g b))))
  left_each call keeps g h b = by_test (b == 8) where
    by_test : (is_in : Bool) → All New (items_of (cond is_in var.Null (returned_var call (g b))))
    by_test true = none New
    by_test false = returned_each call keeps (g b) (h b)
