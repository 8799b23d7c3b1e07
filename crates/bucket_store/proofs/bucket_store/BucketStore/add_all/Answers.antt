use Rattle.std.proofs.Common.{◌++◌, ap, ◌∙◌}
use Rattle.bucket_ring.specs.Lists.{numbered}
use Rattle.bucket_store.specs.Regions.{look}
use Rattle.bucket_store.specs.BucketStore.{seen}
use Rattle.bucket_store.specs.Shown.{shown_items}
use Rattle.bucket_store.proofs.Tested.{held_in, by_result, joined_in}
use Rattle.bucket_store.proofs.Seen.{joined_seen}
use Rattle.bucket_store.proofs.Shown.{brought_held, brought_shown, ok_then, on_cong}
use Rattle.bucket_store.proofs.bucket_store.BucketStore.add_all.Goals as goal

pub invariant_of-self : goal.invariant_of-self
invariant_of-self g c =
    let s = held_in c.hold_all.new.self in
    record {
      whole = by_result s c.add_all.new.self.rings _ c.add_all.result c.add_all.ensures.ok c.add_all.ensures.err
          (λ ok. joined_in s c.add_all.new.self.rings c.args.ring ok.0 (brought_held _ _ ok.0 c.in_ok-kept.kept.items ok.1 c.in_ok-kept.ensures.held) ok.2);
    }

pub returns-clause-ok : goal.returns-clause-ok
unfolding seen
returns-clause-ok g c =
    let s = c.hold_all.new.self in
    let see = look s.regions in
    ok_then _ _ c.add_all.result c.add_all.ensures.ok
    (λ ok. (
      shown_items see ok.0,
      brought_shown see _ ok.0 c.in_ok-kept.kept.items c.args.given.items
          (ok.1 ∙ ap (λ r. numbered (g.R.Rings.next_name r.rings) c.in_ok-kept.kept.items) c.hold_all.ensures.rings) c.in_ok-kept.ensures.shown,
      λ n. joined_seen s c.add_all.new.self.rings c.args.ring ok.0 ok.2 n ∙ on_cong c.args.ring (λ ys. ys ++ shown_items see ok.0) (seen s) (seen c.args.self.now) c.hold_all.ensures.same n,
    ))
