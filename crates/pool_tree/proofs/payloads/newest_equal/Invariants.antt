use Rattle.std.proofs.Common.{◌≡◌, false, drop}
use Rattle.std.specs.List.{list_any}
use Rattle.pool_tree.proofs.payloads.newest_equal.Given as goal

-- none of the items behind equals it
abbrev pub invariant-loop-index : goal.invariant-loop-index
invariant-loop-index g l = list_any (λ other. g.T.PartialEq.eq other l.item) (drop l.index l.items) ≡ false
