-- What an event of a connection leaves of the files of others.
use Rattle.std.specs.Prelude.{◌≡◌, ℕ, ◌<◌, ◌≤◌, None}
use Rattle.run_model.specs.Chains.{Connection}
use Rattle.bucket_kinds.specs.Device.{Device, SameFolder, Sound}

-- By devices d and e: numbers of files rise, names stay, where no call was to fail none is, and a file that was given out and is not open on the
-- connection is as it was.
pub record Spares (d e : Device) (c : Connection) : Type 0 where
  pub rises : d.next ≤ e.next
  pub folder : SameFolder d e
  pub sound : d.plan ≡ Sound → e.plan ≡ Sound
  pub others : (file : ℕ) → file < d.next → c.opened file ≡ None → e.numbered file ≡ d.numbered file
