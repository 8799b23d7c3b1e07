-- The buffer and the cursors of each call of a chain stay sound.
use Rattle.std.proofs.Common.{◌≤◌, arith}
use Rattle.std.proofs.lemmas.List.Elements.{All-nil}
use Rattle.model_laws.specs.CallLaws.{SoundCall, CallsSound, WorldCalls}
use Rattle.model_laws.specs.KeptInRuns.{KeptInRuns}
use Rattle.model_laws.proofs.InRange.{step_buffer}
use Rattle.model_laws.proofs.CursorNames.{step_cursors}
use Rattle.model_laws.proofs.chains.EachCall.{MayGo, KeepsCall, each_call_kept}
use Rattle.model_laws.proofs.chains.WorldKept.{turns_in_runs}

calls_keep : KeepsCall MayGo SoundCall
calls_keep = record {
  fresh = λ n name. record { bytes = All-nil (λ b. b ≤ 255); size = omega arith; given = λ c m e. absurd (cc) };
  risen = λ n m call items le h. record { bytes = h.bytes; size = h.size; given = λ c k e. (let lt = h.given c k e in omega arith) };
  stepped = λ p choice i r ready h.
      let buffer = step_buffer p choice i r (record { bytes = h.bytes; size = h.size }) in
      let cursors = step_cursors p choice i r ready.0 ready.1.names (record { given = h.given }) in
      record { bytes = buffer.bytes; size = buffer.size; given = cursors.given };
}

pub calls_in_runs : KeptInRuns WorldCalls
calls_in_runs = turns_in_runs CallsSound (each_call_kept SoundCall calls_keep)
