-- What a slice of a request comes to.
use Rattle.std.specs.Prelude.{ℕ}
use Rattle.http_front.specs.declared.handler.RequestOutcome.{RequestOutcome}
use Rattle.http_front.specs.declared.handler.Slice.{Slice}
use Rattle.http_front.specs.declared.handler.Slice.TheVariants.{Done, Works}

-- The outcome is there, and all is done; or what is left, when it is done, is all. rest: what is left, from the state that is now. now: that state
abbrev pub Nears : {H T : Type 0} → (RequestOutcome → H → Type 0) → (T → RequestOutcome → H → Type 0) → H → Slice T → Type 0
Nears all rest now (Done o) = all o now
Nears {H} all rest now (Works task) = (o : RequestOutcome) (new : H) → rest task o new → all o new

-- so many steps of a call are made in a row, at most
abbrev pub slice_steps : ℕ
slice_steps = 4000
