use Rattle.std.proofs.Common.{◌≡◌, None, refl, ap, subst, ◌∙◌}
use Rattle.std.specs.Prelude.{IfOk, map}
use Rattle.run_model.specs.Files.{no_files}
use Rattle.bucket_kinds.specs.MemDevice.{device_of, mem_device, failures_of}
use Rattle.bucket_kinds.specs.declared.mem_files.MemFiles.{MemFiles}
use Rattle.life_check.specs.ChainTheorem.{ChainNeverFaults}
use Rattle.script_text.specs.Heads.{seen_part}
use Rattle.script_text.specs.Parts.{codes_of, refused_in}
use Rattle.script_play.proofs.session.Session.checked.Goals as goal

pub returns-in_ok-host-in-Ok-clause-accepted : goal.returns-in_ok-host-in-Ok-clause-accepted
returns-in_ok-host-in-Ok-clause-accepted g c =
    let parts = map seen_part c.args.parts.items in
    let a = subst (λ r. IfOk r (λ chain. (chain ≡ codes_of parts) × (refused_in parts ≡ None) × ChainNeverFaults chain)) c.in-Ok.is c.in_ok-chain.ensures.accepted in
    let e = c.in_ok-host-in-Ok.ensures in (
      a.1,
      record {
        chain = e.chain ∙ a.0;
        budget = e.budget;
        hosts = e.empty;
        safe = λ t. e.safe;
        device = ap (λ (m : MemFiles). mem_device m) e.files ∙ (ap (λ fs. device_of fs (failures_of c.new.result)) c.new.ensures.files ∙ ap (device_of no_files) c.new.ensures.failures);
        sound = refl;
      },
    )
