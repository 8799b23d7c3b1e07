-- Steps that succeed together.
use Rattle.std.proofs.Common.{◌≡◌, Bool, true, false, not, Result, Ok, Err, refl}
use Rattle.module_lang.specs.Codes.{◌>>=◌, unless}
use Rattle.module_lang.specs.declared.refusal.Code.{Code}

-- a step of several that succeed together
pub bind_ok : {A B E : Type 0} (r : Result A E) (f : A → Result B E) (b : B) → (r >>= f) ≡ Ok b → (a : A) × (r ≡ Ok a) × (f a ≡ Ok b)
bind_ok (Ok a) f b h = (a, refl, h)
bind_ok (Err e) f b h = absurd (cc h)

pub unless_ok : (b : Bool) (c : Code) (u : Unit {0}) → unless b c ≡ Ok u → b ≡ false
unless_ok true c u h = absurd (cc h)
unless_ok false c u h = refl

pub not_false : (b : Bool) → not b ≡ false → b ≡ true
not_false true h = refl
not_false false h = absurd (cc h)
