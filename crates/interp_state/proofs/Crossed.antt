-- The bucket that a point lies inside, as it reads.
use Rattle.std.proofs.Common.{◌≡◌, ℕ, zero, suc, ◌-◌, ◌≤◌, Bool, true, false, nat_le, [], ◌∷◌, Some, None, refl, sym, ap, ◌∙◌}
use Rattle.std.specs.Prelude.{if◌then◌else◌}
use Rattle.std.specs.Option.{option_map}
use Rattle.bucket_ring.specs.declared.names.BucketId.{BucketId}
use Rattle.bucket_ring.specs.Lists.{found, times}
use Rattle.run_model.specs.declared.bucket.Bucket.{Bucket}
use Rattle.run_model.specs.declared.bucket.NamedBucket.{NamedBucket}
use Rattle.run_model.specs.Cutting.{length_of}
use Rattle.run_model.specs.BrigadeLists.{bucket_across}
use Rattle.bucket_store.specs.Items.{Items, named, named_item}
use Rattle.bucket_store.specs.Points.{point_in, is_inside}
use Rattle.interp_state.specs.Seen.{bucket_in, item_in, shown}
use Rattle.interp_state.proofs.Points.{Inside, Point, across_none, inside_found}

abbrev reads : (ℕ → Bool) → NamedBucket → NamedBucket
reads runs b = record b { bucket = bucket_in runs b.name b.bucket }

pub across_read : (runs : ℕ → Bool) (p : ℕ) (xs : Items) → bucket_across p (shown runs xs) ≡ option_map (reads runs) (bucket_across p (named xs))
unfolding bucket_across
across_read runs zero [] = refl
across_read runs zero (x ∷ xs) = refl
across_read runs (suc p) [] = refl
across_read runs (suc p) (x ∷ xs) = go (nat_le (length_of x.1.content) (suc p)) (across_read runs (suc p - length_of x.1.content) xs) where
  go : (t : Bool) → bucket_across (suc p - length_of x.1.content) (shown runs xs) ≡ option_map (reads runs) (bucket_across (suc p - length_of x.1.content) (named xs))
      → (if t then bucket_across (suc p - length_of x.1.content) (shown runs xs) else Some (named_item (item_in runs x)))
      ≡ option_map (reads runs) (if t then bucket_across (suc p - length_of x.1.content) (named xs) else Some (named_item x))
  go true later = later
  go false later = refl

-- where the point lies inside no bucket
pub none_crossed : (runs : ℕ → Bool) (p : ℕ) (xs : Items) (q : Point) → q ≡ point_in p xs → is_inside q ≡ false → None ≡ bucket_across p (shown runs xs)
none_crossed runs p xs q is off = sym (across_read runs p xs ∙ ap (option_map (reads runs)) (across_none p xs q (sym is) off))

-- where it lies inside one, which is there once
pub one_crossed : (runs : ℕ → Bool) (p n : ℕ) (id : BucketId) (xs : Items) → ((i : BucketId) → times i xs ≤ 1) → Inside id n ≡ point_in p xs → (x : Bucket)
    × ((found id xs ≡ Some x) × (Some (named_item (item_in runs (id, x))) ≡ bucket_across p (shown runs xs)))
one_crossed runs p n id xs once is =
    let f = inside_found p n id xs once (sym is) in
    (f.0, (f.1.0, sym (across_read runs p xs ∙ ap (option_map (reads runs)) f.1.1)))
