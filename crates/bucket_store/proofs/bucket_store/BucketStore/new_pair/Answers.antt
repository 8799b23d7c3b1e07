use Rattle.std.proofs.Common.{◌≡◌, ◌+◌, ℕ, Some, [], map, ap, ◌∙◌}
use Rattle.bucket_ring.specs.Lists.{upd, numbered}
use Rattle.bucket_store.specs.Regions.{look}
use Rattle.bucket_store.specs.BucketStore.{seen}
use Rattle.bucket_store.specs.Shown.{own_bucket, shown_items}
use Rattle.bucket_store.proofs.Tested.{held_in, by_result, paired}
use Rattle.bucket_store.proofs.Seen.{paired_seen}
use Rattle.bucket_store.proofs.Shown.{brought_held, brought_shown, ok_then, upd_cong}
use Rattle.bucket_store.proofs.bucket_store.BucketStore.new_pair.Goals as goal

pub invariant_of-self : goal.invariant_of-self
invariant_of-self g c =
    let s = held_in c.place_all.new.self in
    let next = g.R.Rings.next_name s.rings in
    record {
      whole = by_result s c.new_pair.new.self.rings _ c.new_pair.result c.new_pair.ensures.ok c.new_pair.ensures.err
          (λ ok. paired s c.new_pair.new.self.rings next (next + 1) ok.0 (brought_held _ _ ok.0 c.place_all.new.buckets.items ok.1 c.in_ok-place_all.ensures.held) ok.2);
    }

pub returns-clause-ok : goal.returns-clause-ok
unfolding seen
returns-clause-ok g c =
    let s = c.place_all.new.self in
    let was = c.args.self.now in
    let see = look s.regions in
    let next = g.R.Rings.next_name was.rings.rings in
    let now = g.R.Rings.next_name s.rings.rings in
    let same_next : now ≡ next = ap (λ r. g.R.Rings.next_name r.rings) c.in_ok-place_all.ensures.rings in
    ok_then _ _ c.new_pair.result c.new_pair.ensures.ok
    (λ ok. (
      shown_items see ok.0,
      brought_shown see (next + 2) ok.0 c.place_all.new.buckets.items (map own_bucket c.args.given.items)
          (ok.1 ∙ ap (λ (k : ℕ). numbered (k + 2) c.place_all.new.buckets.items) same_next) c.in_ok-place_all.ensures.shown,
      λ n. paired_seen s c.new_pair.new.self.rings now (now + 1) ok.0 ok.2 n
          ∙ (ap (λ (k : ℕ). upd (upd (seen s) k (Some [])) (k + 1) (Some (shown_items see ok.0)) n) same_next
          ∙ upd_cong (next + 1) (Some (shown_items see ok.0)) (upd (seen s) next (Some [])) (upd (seen was) next (Some []))
          (upd_cong next (Some []) (seen s) (seen was) c.in_ok-place_all.ensures.same) n),
    ))
