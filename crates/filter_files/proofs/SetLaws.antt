-- Settings that are set, and their words.
use Rattle.std.proofs.Common.{◌≡◌, ℕ, zero, suc, List, [], ◌∷◌, All, refl, ap, get_or, map, set}
use Rattle.filter_files.specs.FilterReads.{SetsAll}
use Rattle.filter_files.specs.Settings.{IsUsed}
use Rattle.filter_files.specs.declared.compiling.FilterRead.{FilterRead}
use Rattle.filter_files.specs.declared.compiling.FilterRead.TheVariants as filter
use Rattle.filter_files.specs.declared.settings.ParamSetting.{ParamSetting}

-- where each was set, it was whatever a text is
pub sets_all : (r : FilterRead) (settings : List ParamSetting) → All IsUsed settings → SetsAll r settings
sets_all (filter.Compiled c) settings all = all
sets_all (filter.Faulty f) settings all = tt

-- What is seen of values stays where one is changed of which the same is seen.
pub set_to_same : {X Y : Type 0} (f : X → Y) (xs : List X) (i : ℕ) (y d : X) → f y ≡ f (get_or xs i d) → map f (set xs i y) ≡ map f xs
set_to_same f [] i y d e = refl
set_to_same f (x ∷ xs) zero y d e = ap (λ (z : _). z ∷ map f xs) e
set_to_same f (x ∷ xs) (suc i) y d e = ap (λ (zs : _). f x ∷ zs) (set_to_same f xs i y d e)
