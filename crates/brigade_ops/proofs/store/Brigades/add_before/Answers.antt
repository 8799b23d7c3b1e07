use Rattle.std.proofs.Common.{◌∙◌}
use Rattle.bucket_ring.specs.Lists.{put_before}
use Rattle.brigade_ops.specs.Store.{lists, brigade_of}
use Rattle.brigade_ops.proofs.Added.{added}
use Rattle.brigade_ops.proofs.store.Brigades.add_before.Goals as goal

pub returns-clause-ok : goal.returns-clause-ok
unfolding lists brigade_of
returns-clause-ok g c b n at =
    c.add_before.ensures.out b n (c.in_ok-stored.ensures.brigades c.args.at ∙ at)
    ∙ added b n (put_before c.args.at) _ _ _ _ _ c.in_ok-stored.ensures.shown c.in_ok-stored.ensures.lists
