-- Of a store nothing that is seen changed but its lists, and no old name came to life.
use Rattle.std.specs.Prelude.{◌≡◌}
use Rattle.bucket_ring.specs.declared.rings.Rings.{Ghosts}
use Rattle.bucket_ring.specs.Kept.{NoneRevived}
use Rattle.bucket_kinds.specs.declared.stored.Stored.{Stored}
use Rattle.brigade_ops.specs.declared.store.Brigades.{Brigades}
use Rattle.brigade_ops.specs.Store.{brigade_of, pool_of, next_name, references}

pub record OnlyLists {R : Type 0} {g : Ghosts R Stored} (old new : Brigades R g) : Type 0 where
  pub next : next_name new ≡ next_name old
  pub names : NoneRevived (brigade_of old) (brigade_of new) (next_name old)
  pub pools : pool_of new ≡ pool_of old
  pub references : references new ≡ references old
  pub unasked : new.asked ≡ old.asked
