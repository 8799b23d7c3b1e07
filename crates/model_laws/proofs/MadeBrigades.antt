-- The pools where a brigade is made on one of them.
use Rattle.std.proofs.Common.{◌≡◌, ℕ, true, false, not, List, Option, Some, None, ◌⊎◌, inl, inr, refl, ap}
use Rattle.run_model.specs.declared.payload.Payload.{Payload}
use Rattle.run_model.specs.declared.payload.Payload.TheVariants.{Brigade}
use Rattle.run_model.specs.Pools.{Pools, is_empty, is_live, registered, registered_as}
use Rattle.run_model.specs.RunOrder.{IsPoolMap}
use Rattle.run_model.specs.Faults.{is_live_named}
use Rattle.run_model.specs.Steps.{with_brigade}
use Rattle.run_model.specs.Holding.{refers}
use Rattle.run_model.proofs.Formed.{registered_formed}
use Rattle.run_model.proofs.References.{registered_refers, registered_back}

pub brigade_path : (on : Option ℕ) (name : ℕ) (ps : Pools Payload) → (with_brigade on name ps).path ≡ ps.path
unfolding with_brigade registered_as
brigade_path None name ps = refl
brigade_path (Some n) name ps = refl

pub brigade_next : (on : Option ℕ) (name : ℕ) (ps : Pools Payload) → (with_brigade on name ps).next ≡ ps.next
unfolding with_brigade registered_as
brigade_next None name ps = refl
brigade_next (Some n) name ps = refl

pub brigade_lives : (on : Option ℕ) (name : ℕ) (ps : Pools Payload) (n : ℕ) → is_live (with_brigade on name ps) n ≡ is_live ps n
unfolding is_live
brigade_lives on name ps n = ap (λ (path : ℕ → List ℕ). not (is_empty (path n))) (brigade_path on name ps)

pub brigade_lives_named : (on : Option ℕ) (name : ℕ) (ps : Pools Payload) (other : Option ℕ) → is_live_named (with_brigade on name ps) other ≡ is_live_named ps other
brigade_lives_named on name ps None = refl
brigade_lives_named on name ps (Some n) = brigade_lives on name ps n

pub brigade_formed : (on : Option ℕ) (name : ℕ) (ps : Pools Payload) → is_live_named ps on ≡ true → IsPoolMap ps → IsPoolMap (with_brigade on name ps)
unfolding with_brigade
brigade_formed None name ps lives f = f
brigade_formed (Some n) name ps lives f = registered_formed n (Brigade name) ps lives f

-- no reference comes or goes
pub brigade_refers : (on : Option ℕ) (name : ℕ) (ps : Pools Payload) (p file : ℕ) → refers ps p file ≡ true → refers (with_brigade on name ps) p file ≡ true
unfolding with_brigade
brigade_refers None name ps p file h = h
brigade_refers (Some n) name ps p file h = registered_refers n (Brigade name) ps p file h

pub brigade_back : (on : Option ℕ) (name : ℕ) (ps : Pools Payload) (p file : ℕ) → refers (with_brigade on name ps) p file ≡ true → refers ps p file ≡ true
unfolding with_brigade
brigade_back None name ps p file h = h
brigade_back (Some n) name ps p file h = was (registered_back n (Brigade name) ps p file h) where
  was : (refers ps p file ≡ true) ⊎ (false ≡ true) → refers ps p file ≡ true
  was (inl old) = old
  was (inr e) = absurd (cc)
