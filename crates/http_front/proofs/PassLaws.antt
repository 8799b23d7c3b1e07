-- What passes between a server and its clock.
use Rattle.std.proofs.Common.{[], ◌∷◌, refl}
use Rattle.http_message.specs.Clocks.{Said}
use Rattle.http_front.specs.Sharing.{Passes, PassesAll}

module _ {K : Type 0} (tells : K → Said → K → Type 0) where
  pub passes_none : (k : K) → Passes tells k k
  unfolding PassesAll
  passes_none k = ([], refl)

  pub passes_one : (a b c : K) (s : Said) → Passes tells a b → tells b s c → Passes tells a c
  unfolding PassesAll
  passes_one a b c s p told = (s ∷ p.0, (b, p.1, told))
