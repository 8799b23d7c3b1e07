-- Files that give what they hold.
use Rattle.std.specs.Prelude.{◌≡◌, ◌≢◌, ℕ, List, Some}
use Rattle.bucket_kinds.specs.Device.{Holds, Sound, Untold}
use Rattle.run_model.specs.Chains.{Connection}
use Rattle.filter_chain.specs.HostViews.{HostView}

-- sound: no opening and no read fails, but where a file is shorter than what is read. told: what is found under each name is told. opened: what
-- is read of a file that a connection has open is what was found when it was opened.
pub record IsFaithful (s : HostView) : Type 0 where
  pub sound : s.device.plan ≡ Sound
  pub told : (name : List ℕ) → s.device.named name ≢ Untold
  pub opened : (k file : ℕ) (c : Connection) (bytes : List ℕ) → s.world.conns k ≡ Some c → c.opened file ≡ Some bytes → s.device.numbered file ≡ Holds bytes
