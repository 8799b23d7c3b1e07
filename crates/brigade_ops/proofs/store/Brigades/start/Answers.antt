use Rattle.std.proofs.Common.{◌≡◌, sym, ◌∙◌, Some, arith}
use Rattle.bucket_ring.specs.Lists.{list_at}
use Rattle.bucket_ring.specs.Laws.{first_found}
use Rattle.bucket_ring.proofs.Short.{short}
use Rattle.brigade_ops.specs.Store.{lists, brigade_of}
use Rattle.bucket_store.proofs.Walks.{start_whole, if_some}
use Rattle.bucket_store.specs.BucketStore.{seen}
use Rattle.bucket_store.proofs.BucketStores.{in_found, kept, limit}
use Rattle.brigade_ops.proofs.store.Brigades.start.Goals as goal

pub returns-clause-whole : goal.returns-clause-whole
unfolding lists
returns-clause-whole g c = start_whole (list_at (seen c.args.self.now.held) c.args.b) c.first.result c.first.ensures

pub returns-clause-inside : goal.returns-clause-inside
unfolding brigade_of
returns-clause-inside g c =
    let s = c.args.self.now.held in
    if_some (λ id. g.R.Rings.ring_at s.rings.rings id ≡ Some c.args.b) c.first.result
    (λ id e. in_found s id c.args.b (first_found id (list_at (seen s) c.args.b) (sym c.first.ensures ∙ e)))

pub returns-clause-few : goal.returns-clause-few
unfolding lists
returns-clause-few g c =
    let s = c.args.self.now.held in
    let fits = short (g.R.Rings.ring_at s.rings.rings) (seen s) (g.R.Rings.next_name s.rings.rings) c.args.b (kept s) in
    omega (arith, fits, limit s)
