use Rattle.std.proofs.Common.{◌≡◌, Some, sym, ap, ◌∙◌}
use Rattle.run_model.specs.declared.bucket.Bucket.{Bucket}
use Rattle.run_model.specs.declared.bucket.Content.{Content}
use Rattle.bucket_ring.specs.Lists.{list_at, found, with_payload}
use Rattle.bucket_store.specs.Regions.{look}
use Rattle.bucket_store.specs.BucketStore.{seen}
use Rattle.bucket_store.proofs.Lists.{on_same, set_same, some_of}
use Rattle.bucket_store.proofs.bucket_store.BucketStore.put_copy_at.Goals as goal

pub returns-then-is_copy-clause-same : goal.returns-then-is_copy-clause-same
returns-then-is_copy-clause-same g c n =
    let s = c.args.self.now in
    let see = look s.regions in
    let id = c.args.id in
    let q = some_of (g.R.Rings.ring_at s.rings.rings id) c.requires in
    let stored = c.stored-stored.result.now in
    let as_own : Content → Bucket = λ x. record { kind = stored.kind; content = x; home = stored.home } in
    let here : found id (list_at (seen s) q.0) ≡ Some (as_own c.args.copy) = c.stored-stored.ensures.shown q.0 q.1 ∙ ap (λ (x : Content). Some (as_own x)) (c.is_copy.ensures c.if-is_copy.true) in
    c.put-placed.ensures.out q.0 n q.1
    ∙ sym (on_same q.0 n (with_payload id (as_own c.args.copy)) (seen s) (set_same id (as_own c.args.copy) (list_at (seen s) q.0) here))
