-- What the code's certificates stand for.
use Rattle.std.specs.Prelude.{Option, Some, None, slice_get, length}
use Rattle.life_state.specs.declared.state.State as code
use Rattle.life_state.specs.States.{State}
use Rattle.life_state.specs.Seen.{seen_some}
use Rattle.life_check.specs.declared.cert.Cert.{Cert}
use Rattle.life_check.specs.Certificates.{Certificate}

abbrev pub seen_line : Option (Option code.State) → Option State
seen_line None = None
seen_line (Some line) = seen_some line

abbrev pub seen_cert : Cert → Certificate
seen_cert c = record {
  idle = seen_some c.idle;
  ready = seen_some c.ready;
  at = λ pc. seen_line (slice_get c.at.items pc);
  lines = length c.at.items;
}
