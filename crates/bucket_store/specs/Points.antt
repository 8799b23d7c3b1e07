-- Points of a brigade (apr_brigade_partition).
use Rattle.std.specs.Prelude.{ℕ, zero, suc, ◌-◌, Bool, true, false, nat_le, if◌then◌else◌, [], ◌∷◌, None, Some}
use Rattle.run_model.specs.Cutting.{length_of}
use Rattle.bucket_store.specs.declared.parting.Point.{Point}
use Rattle.bucket_store.specs.declared.parting.Point.TheVariants as point
use Rattle.bucket_store.specs.declared.parting.Cut.{Cut}
use Rattle.bucket_store.specs.declared.parting.Cut.TheVariants as cut
use Rattle.bucket_store.specs.Items.{Items}

-- the place behind the shortest front whose lengths add up to a point, or the bucket that the point lies inside
unfoldable pub point_in : ℕ → Items → Point
point_in zero [] = point.At None
point_in zero (x ∷ xs) = point.At (Some x.0)
point_in (suc p) [] = point.Short
point_in (suc p) (x ∷ xs) = if nat_le (length_of x.1.content) (suc p) then point_in (suc p - length_of x.1.content) xs else point.Inside x.0 (suc p)

abbrev pub is_inside : Point → Bool
is_inside point.Short = false
is_inside (point.At place) = false
is_inside (point.Inside id n) = true

-- what is answered where no bucket is split
abbrev pub cut_at : Point → Cut
cut_at point.Short = cut.Incomplete
cut_at (point.At None) = cut.AtEnd
cut_at (point.At (Some id)) = cut.Found id
cut_at (point.Inside id n) = cut.Found id
