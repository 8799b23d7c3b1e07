-- The tree whose pool of one name has other payloads.
use Rattle.std.specs.Prelude.{◌≡◌, ℕ, Option, List}
use Rattle.run_model.specs.Indexed.{upd}
use Rattle.run_model.specs.Pools.{Cleanups}
use Rattle.pool_tree.specs.declared.records.Pool.{Pool}
use Rattle.pool_tree.specs.declared.tree.PoolTree.{PoolTree}
use Rattle.pool_tree.specs.Links.{map_at, RecordsLinked, IsRefilled}
use Rattle.pool_tree.specs.Records.{record_of, payloads_of}
use Rattle.pool_tree.specs.Tree.{map_of}
use Rattle.pool_tree.proofs.Refilled.{refilled_linked, refilled_map}
use Rattle.pool_tree.proofs.Trees.{tree_payloads}
use Rattle.std.proofs.Common.{sym, ◌∙◌, ap}

module _ {T : Type 0} (tree : PoolTree T) (name : ℕ) (change : Cleanups T → Cleanups T) (new : ℕ → Option (Pool T))
    (refilled : IsRefilled name (change (payloads_of (record_of tree.records) name)) (record_of tree.records) new) where
  pub still_linked : RecordsLinked tree.root tree.next new
  still_linked = refilled_linked tree.root tree.next name (change (payloads_of (record_of tree.records) name)) (record_of tree.records) new tree.linked refilled

  pub payloads_changed : map_at tree.next new ≡ record (map_of tree) { payloads = upd (map_of tree).payloads name (change ((map_of tree).payloads name)) }
  unfolding map_of
  payloads_changed =
      refilled_map tree.root tree.next name (change (payloads_of (record_of tree.records) name)) (record_of tree.records) new tree.linked refilled
      ∙ ap (λ items. record (map_of tree) { payloads = upd (map_of tree).payloads name (change items) }) (sym (tree_payloads tree name))
