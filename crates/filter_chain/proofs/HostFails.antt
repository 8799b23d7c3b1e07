-- A host of which a call of its files is set to fail.
use Rattle.std.proofs.Common.{◌≡◌, ℕ, ap}
use Rattle.run_model.specs.Files.{Files}
use Rattle.run_model.specs.Worlds.{World}
use Rattle.bucket_kinds.specs.Device.{Device, Held}
use Rattle.bucket_kinds.specs.MemAnswers.{failing_at}
use Rattle.bucket_kinds.specs.MemDevice.{held_of, device_of}
use Rattle.bucket_kinds.specs.declared.mem_files.MemFiles.{MemFiles}
use Rattle.filter_chain.specs.Hosting.{Ghosts, Host, Stored, IsHosting, chain_of, budget_of}
use Rattle.filter_chain.proofs.HostAdds.{renamed_holds}

module _ {R : Type 0} {g : Ghosts R Stored} (old : Host MemFiles R g) (files : MemFiles) (w : World) where
  still_hosts : (d e : Device) → IsHosting d old w → e.numbered ≡ d.numbered → e.next ≡ d.next → IsHosting e (record old { files = files }) w
  unfolding IsHosting chain_of budget_of
  still_hosts d e hosts numbered same = renamed_holds hosts e numbered same

  -- It stands for the same world.
  pub hosts_failing : (call : ℕ) (fs gs : Files) (m n : ℕ) → gs ≡ failing_at call fs → IsHosting (device_of fs m) old w → IsHosting (device_of gs n) (record old { files = files }) w
  hosts_failing call fs gs m n is hosts =
      still_hosts (device_of fs m) (device_of gs n) hosts (ap {B = ℕ → Held} (λ (x : Files) (k : ℕ). held_of (x.opened k)) is) (ap (λ (x : Files). x.next) is)
