-- How often it was asked what is there changes nothing that is seen.
use Rattle.std.proofs.Common.{◌≡◌, ℕ, refl}
use Rattle.bucket_ring.specs.declared.rings.Rings.{Ghosts}
use Rattle.bucket_kinds.specs.declared.stored.Stored.{Stored}
use Rattle.brigade_ops.specs.declared.store.Brigades.{Brigades}
use Rattle.brigade_ops.specs.Store.{lists, brigade_of, pool_of}

module _ {R : Type 0} {g : Ghosts R Stored} (store : Brigades R g) (n : ℕ) where
  pub lists_asked : lists (record store { asked = n }) ≡ lists store
  unfolding lists
  lists_asked = refl

  pub brigade_of_asked : brigade_of (record store { asked = n }) ≡ brigade_of store
  unfolding brigade_of
  brigade_of_asked = refl

  pub pool_of_asked : pool_of (record store { asked = n }) ≡ pool_of store
  unfolding pool_of
  pool_of_asked = refl
