-- What the maker's values stand for.
use Rattle.std.specs.Prelude.{List, map}
use Rattle.life_state.specs.Seen.{seen}
use Rattle.life_check.specs.Seen.{seen_cert}
use Rattle.life_cert.specs.declared.fixpoint.Arrival as code
use Rattle.life_cert.specs.declared.fixpoint.Fixpoint.{Fixpoint}
use Rattle.life_cert.specs.Rounds.{Arrival, FixpointState}

abbrev pub seen_arrival : code.Arrival → Arrival
seen_arrival a = record { place = a.place; state = seen a.state }

unfoldable pub seen_arrivals : List code.Arrival → List Arrival
seen_arrivals = map seen_arrival

abbrev pub seen_growth : Fixpoint → FixpointState
seen_growth g = record { states = seen_cert g.cert; changed = g.changed.items }
