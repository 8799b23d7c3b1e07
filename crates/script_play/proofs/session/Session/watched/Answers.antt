use Rattle.std.proofs.Common.{refl, ap, ◌∙◌}
use Rattle.run_model.specs.Files.{no_files}
use Rattle.bucket_kinds.specs.MemDevice.{device_of, mem_device, failures_of}
use Rattle.bucket_kinds.specs.declared.mem_files.MemFiles.{MemFiles}
use Rattle.script_play.proofs.session.Session.watched.Goals as goal

pub returns : goal.returns
returns g c =
    let e = c.in_ok-host.ensures in
    record {
      chain = e.chain ∙ c.in_ok-modules.ensures.value;
      budget = e.budget;
      hosts = e.empty;
      safe = λ t. absurd (cc);
      device = ap (λ (m : MemFiles). mem_device m) e.files ∙ (ap (λ fs. device_of fs (failures_of c.new.result)) c.new.ensures.files ∙ ap (device_of no_files) c.new.ensures.failures);
      sound = refl;
    }
