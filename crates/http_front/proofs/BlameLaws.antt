-- That a sink or a source failed, over several calls.
use Rattle.std.proofs.Common.{◌≡◌, ℕ, Bool, Result, Ok, Err, refl, ◌∙◌}
use Rattle.http_front.specs.declared.fault.FrontKind.{FrontKind}
use Rattle.http_front.specs.declared.fault.FrontKind.TheVariants as kind
use Rattle.http_front.specs.Serving.{BlamesSink, BlamesSource}

module _ {T : Type 0} where
  -- it had not failed before, or as much
  pub sink_since : (r : Result T FrontKind) (was mid is : Bool) → mid ≡ was → BlamesSink r mid is → BlamesSink r was is
  sink_since (Ok x) was mid is same h = h ∙ same
  sink_since (Err kind.Write) was mid is same h = h
  sink_since (Err e) was mid is same h = h ∙ same

  pub source_since : (r : Result T FrontKind) (was mid is : Bool) (left : ℕ) → mid ≡ was → BlamesSource r mid is left → BlamesSource r was is left
  source_since (Ok x) was mid is left same h = h ∙ same
  source_since (Err kind.Read) was mid is left same h = h
  source_since (Err kind.TooManyReads) was mid is left same h = (h.0, h.1 ∙ same)
  source_since (Err e) was mid is left same h = h ∙ same

-- what is not told of it leaves it as it was
pub sink_apart : (T : Type 0) (e : FrontKind) (was is : Bool) → ¬ (e ≡ kind.Write) → is ≡ was → BlamesSink {T = T} (Err e) was is
sink_apart T kind.Write was is apart same = absurd (apart refl)
sink_apart T e was is apart same = same

pub source_apart : (T : Type 0) (e : FrontKind) (was is : Bool) (left : ℕ) → ¬ (e ≡ kind.Read) → ¬ (e ≡ kind.TooManyReads) → is ≡ was → BlamesSource {T = T} (Err e) was is left
source_apart T kind.Read was is left apart more same = absurd (apart refl)
source_apart T kind.TooManyReads was is left apart more same = absurd (more refl)
source_apart T e was is left apart more same = same

-- how a `?` leaves
module _ (T U : Type 0) where
  pub sink_err : (e : FrontKind) (was is : Bool) → BlamesSink {T = T} (Err e) was is → BlamesSink {T = U} (Err e) was is
  sink_err kind.Write was is h = h
  sink_err e was is h = h

  pub source_err : (e : FrontKind) (was is : Bool) (left : ℕ) → BlamesSource {T = T} (Err e) was is left → BlamesSource {T = U} (Err e) was is left
  source_err kind.Read was is left h = h
  source_err e was is left h = h
