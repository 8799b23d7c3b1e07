use Rattle.std.proofs.Common.{sym, ap, ◌∙◌}
use Rattle.bucket_ring.specs.Lists.{list_at, next_in}
use Rattle.bucket_store.specs.Regions.{look}
use Rattle.bucket_store.specs.BucketStore.{seen}
use Rattle.bucket_store.proofs.Shown.{next_shown, list_shown}
use Rattle.bucket_store.proofs.bucket_store.BucketStore.next.Goals as goal

pub returns : goal.returns
unfolding seen
returns g c r at =
    let see = look c.args.self.now.regions in
    let old = g.R.Rings.lists c.args.self.now.rings.rings in
    c.next.ensures r at ∙ (next_shown see r c.args.id (list_at old r) ∙ ap (next_in r c.args.id) (sym (list_shown see old r)))
