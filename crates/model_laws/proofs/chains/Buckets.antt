-- The instruction of the call on top keeps home and content of each bucket as its kind has them.
use Rattle.module_code.specs.declared.instr.Instr.{Instr}
use Rattle.run_model.specs.State.{Configuration}
use Rattle.run_model.specs.Steps.{current}
use Rattle.run_model.specs.Chains.{Connection, module_at, configuration}
use Rattle.model_laws.specs.ChainSound.{ChainBuckets}
use Rattle.model_laws.specs.ChainFiles.{OfEachBucket}
use Rattle.model_laws.specs.ChainLaws.{TopKeepsBuckets}
use Rattle.model_laws.proofs.StepBuckets.{IsProper, returned_proper, cleared_proper, held_buckets, buckets_held, step_buckets}
use Rattle.model_laws.proofs.chains.EachBucket.{touched_so, seen_each, proceeds_each}
use Rattle.model_laws.proofs.chains.TopSteps.{may_step}

pub each_proper : (c : Connection) → ChainBuckets c → OfEachBucket IsProper c
each_proper c s = record { brigades = s.brigades; loose = s.loose }

pub chain_buckets : (c : Connection) → OfEachBucket IsProper c → ChainBuckets c
chain_buckets c h = record { brigades = h.brigades; loose = h.loose }

pub top_keeps_buckets : TopKeepsBuckets
top_keeps_buckets chain reads g c f rest may s =
    let i : Instr = current (module_at chain f.of) f.pc in
    let r : Configuration = configuration g c f in
    let old : OfEachBucket IsProper c = each_proper c s.buckets in
    let seen = held_buckets r (seen_each IsProper g c f rest may.on_top old) in
    chain_buckets _ (proceeds_each (λ ps. IsProper) (λ ps. IsProper) chain g c f reads i rest may.on_top (record {
      held = λ choice. buckets_held _ (step_buckets (module_at chain f.of) choice i r (may_step chain g c f rest may s) seen);
      touched = λ choice. touched_so IsProper r i cleared_proper (λ on. returned_proper r.call.name);
    }) old)
