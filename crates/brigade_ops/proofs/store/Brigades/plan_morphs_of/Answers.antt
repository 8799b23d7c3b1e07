use Rattle.std.proofs.Common.{◌≡◌, true, Some, cond, List, take, get_or, sym, ap, ◌∙◌}
use Rattle.std.proofs.lemmas.List.{take_more}
use Rattle.run_model.specs.declared.bucket.Bucket.{Bucket}
use Rattle.run_model.specs.Buckets.{to_heap, end_pools}
use Rattle.bucket_ring.specs.declared.names.BucketId.{BucketId}
use Rattle.bucket_ring.specs.Laws.{same_name}
use Rattle.bucket_ring.specs.Lists.{list_at, same, found}
use Rattle.bucket_store.specs.declared.morph.Morph.{Morph}
use Rattle.brigade_ops.specs.Due.{is_reached}
use Rattle.bucket_store.specs.Morphs.{morphed, cleared_as, is_named}
use Rattle.brigade_ops.specs.Store.{brigade_of, bucket_at}
use Rattle.bucket_store.proofs.Walks.{if_some, told_some}
use Rattle.bucket_store.proofs.Cleared.{morphed_none, at_some, none_there, plan_step}
use Rattle.bucket_store.specs.BucketStore.{seen}
use Rattle.brigade_ops.proofs.store.Brigades.plan_morphs_of.Goals as goal

pub loop-name-init : goal.loop-name-init
loop-name-init g c id x is = ap (λ (ms : List Morph). morphed ms id x) c.new-found.ensures ∙ morphed_none id x

pub loop-name-preserved : goal.loop-name-preserved
unfolding brigade_of bucket_at
loop-name-preserved g c id x is =
    let i = c.loop-name.name-index in
    let names = c.args.names.now in
    let name : BucketId = get_or names i (record { slot = 0; birth = 0 }) in
    let reached = is_reached c.args.reached.now in
    let s = c.args.self.now.held in
    let r = c.morph_of-morph.result in
    let here : same id name ≡ true → bucket_at c.args.self.now name ≡ Some x = λ hit. (sym (ap (λ (j : BucketId). bucket_at c.args.self.now j) (same_name id name hit)) ∙ is) in
    ap (λ (ms : List Morph). morphed ms id x) c.in_ok-push_some.ensures.ok
    ∙ (plan_step reached c.loop-name.found (take i names) name id x (c.loop-name.invariant id x is) r
    (λ hit. none_there r (g.R.Rings.ring_at s.rings.rings name) c.morph_of-morph.ensures.there (at_some (g.R.Rings.ring_at s.rings.rings name) (λ b. found name (list_at (seen s) b)) x (here hit)))
    c.morph_of-morph.ensures.name
    (λ hit. if_some (λ (m : Morph). m.kind ≡ to_heap reached x.kind) r
    (λ m e. told_some (λ (m : Morph). (y : Bucket) → bucket_at c.args.self.now name ≡ Some y → m.kind ≡ to_heap reached y.kind) r c.morph_of-morph.ensures.kind m e x (here hit)))
    (λ hit. if_some (λ (m : Morph). m.home ≡ end_pools reached x.home) r
    (λ m e. told_some (λ (m : Morph). (y : Bucket) → bucket_at c.args.self.now name ≡ Some y → m.home ≡ end_pools reached y.home) r c.morph_of-morph.ensures.home m e x (here hit)))
    ∙ ap (λ (ns : List BucketId). cond (is_named id ns) (cleared_as reached x) x) (sym (take_more names i (record { slot = 0; birth = 0 }) c.loop-name-test.true)))
