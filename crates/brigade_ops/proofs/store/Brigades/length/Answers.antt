-- The lengths are added up, and the total is never too large: the brigade has fewer than 2^64 buckets.
use Rattle.std.proofs.Common.{arith}
use Rattle.bucket_ring.specs.Lists.{list_at}
use Rattle.brigade_ops.specs.Store.{lists, brigade_of, next_name}
use Rattle.brigade_ops.proofs.Visited.{all_added}
use Rattle.bucket_ring.proofs.Short.{short}
use Rattle.brigade_ops.proofs.Stores.{kept, limit}
use Rattle.brigade_ops.proofs.store.Brigades.length.Goals as goal

pub returns : goal.returns
returns g c =
    let xs = list_at (lists c.args.self.now) c.args.b in
    let store = c.args.self.now in
    let few = short (brigade_of store) (lists store) (next_name store) c.args.b (kept store) in
    let sum = all_added _ (λ s. s.total) (λ s id x stop t added. added) (record { total = 0 }) xs c.visit.result c.visit.new.visitor (omega (arith, few, limit store)) c.visit.ensures.all in
    omega (arith, sum)
