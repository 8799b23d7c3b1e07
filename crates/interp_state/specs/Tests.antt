-- Tests on lists of buckets in the order in which a walk makes them.
use Rattle.std.specs.Prelude.{Bool, true, false, ◌&&◌, if◌then◌else◌, List, [], ◌∷◌}
use Rattle.run_model.specs.declared.bucket.NamedBucket.{NamedBucket}
use Rattle.run_model.specs.Buckets.{is_data, is_eos}

-- whether data stands behind an EOS of the list, or anywhere in it where an EOS came before the list
abbrev pub late_data : Bool → List NamedBucket → Bool
late_data late [] = false
late_data late (b ∷ bs) = if is_eos b then late_data true bs else (if late && is_data b then true else late_data late bs)
