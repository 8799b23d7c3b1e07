use Rattle.std.proofs.Common.{sym, ap, ◌∙◌}
use Rattle.bucket_ring.specs.Lists.{list_at, first_of}
use Rattle.bucket_store.specs.Regions.{look}
use Rattle.bucket_store.specs.BucketStore.{seen}
use Rattle.bucket_store.proofs.Shown.{first_shown, list_shown}
use Rattle.bucket_store.proofs.bucket_store.BucketStore.first.Goals as goal

pub returns : goal.returns
unfolding seen
returns g c =
    let see = look c.args.self.now.regions in
    let old = g.R.Rings.lists c.args.self.now.rings.rings in
    c.first.ensures ∙ (sym (first_shown see (list_at old c.args.ring)) ∙ ap first_of (sym (list_shown see old c.args.ring)))
