use Rattle.std.proofs.Common.{ℕ, Option, ap, ◌∙◌}
use Rattle.std.proofs.Math.Path.{fun_ext}
use Rattle.std.specs.Option.{option_and_then}
use Rattle.bucket_ring.specs.Lists.{list_at, found}
use Rattle.bucket_store.specs.Items.{Items}
use Rattle.brigade_ops.specs.Store.{bucket_at}
use Rattle.bucket_store.specs.BucketStore.{seen}
use Rattle.brigade_ops.proofs.store.Brigades.set_next.Goals as goal

pub returns-clause-buckets : goal.returns-clause-buckets
unfolding bucket_at
returns-clause-buckets g c id =
    ap (λ (rings : ℕ → Option Items). option_and_then (λ b. found id (list_at rings b)) (g.R.Rings.ring_at c.set_next.new.self.rings.rings id)) (fun_ext c.set_next.ensures.lists)
    ∙ ap (option_and_then (λ b. found id (list_at (seen c.args.self.now.held) b))) (c.set_next.ensures.places id)
