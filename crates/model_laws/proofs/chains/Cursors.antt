-- A cursor holds a name that was given out, and what it names is in one place, in each world that is sound.
use Rattle.std.proofs.Common.{arith}
use Rattle.run_model.specs.State.{fresh_call}
use Rattle.model_laws.specs.ChainCursors.{HoldsGiven, CursorsGiven, WorldCursors, SoundWorldStandsOnce, WorldRunStandsOnce}
use Rattle.model_laws.specs.KeptInRuns.{KeptInRuns}
use Rattle.run_model.specs.Chains.{configuration}
use Rattle.model_laws.proofs.CursorNames.{step_cursors}
use Rattle.model_laws.proofs.CursorPlaceLaws.{cursors_stand_once}
use Rattle.model_laws.proofs.chains.Views.{sound_of, sound_resting}
use Rattle.model_laws.proofs.chains.EachCall.{MayGo, KeepsCall, each_call_kept}
use Rattle.model_laws.proofs.chains.WorldKept.{run_keeps_world, turns_in_runs}

pub cursors_keep : KeepsCall MayGo HoldsGiven
cursors_keep = record {
  fresh = λ n name. record { given = λ c m e. absurd (cc) };
  risen = λ n m call items le h. record { given = λ c k e. (let lt = h.given c k e in omega arith) };
  stepped = λ p choice i r ready h. (let left = step_cursors p choice i r ready.0 ready.1.names (record { given = h.given }) in record { given = left.given });
}

pub cursors_in_runs : KeptInRuns WorldCursors
cursors_in_runs = turns_in_runs CursorsGiven (each_call_kept HoldsGiven cursors_keep)

pub sound_world_stands_once : SoundWorldStandsOnce
sound_world_stands_once chain w sound k c at = (
  λ above below f v is. cursors_stand_once (configuration w.common c f) v (sound_of chain w.common c above f below is (sound.conns k c at)).names,
  λ j v lt. cursors_stand_once (configuration w.common c (record { of = j; call = fresh_call 0; pc = 0 })) v (sound_resting chain w.common c j lt (sound.conns k c at)).names,
)

pub run_world_stands_once : WorldRunStandsOnce
run_world_stands_once budget chain es answers w chained run = sound_world_stands_once chain w (run_keeps_world budget chain es answers w chained run)
