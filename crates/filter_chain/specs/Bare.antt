-- Hosts whose steps look for no fault, and what a call of a host asks.
use Rattle.std.specs.Prelude.{◌≡◌, Bool}
use Rattle.filter_chain.specs.Hosting.{Ghosts, Host, Stored}

module _ {F R : Type 0} {g : Ghosts R Stored} where
  -- whether the steps of a host are bare: they look for no fault
  abbrev pub is_bare : Host F R g → Bool
  is_bare host = host.chain.bare

  -- Between these neither the store of brigades nor the tree of pools was asked whether something of a name is there.
  pub record AsksNothing (old new : Host F R g) : Type 0 where
    pub store : new.store.asked ≡ old.store.asked
    pub tree : new.tree.asked ≡ old.tree.asked
