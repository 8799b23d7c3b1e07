use Rattle.std.proofs.Common.{◌≡◌, ◌≢◌, ◌+◌, ℕ, true, false, cond, Some, is_some, List, take, get_or, sym, ap, ◌∙◌}
use Rattle.std.proofs.lemmas.List.{take_more, take_all}
use Rattle.run_model.specs.declared.bucket.Bucket.{Bucket}
use Rattle.run_model.specs.Pools.{is_in}
use Rattle.bucket_store.specs.declared.morph.Morph.{Morph}
use Rattle.brigade_ops.specs.Due.{is_reached}
use Rattle.bucket_store.specs.Morphs.{morphed, cleared_as}
use Rattle.brigade_ops.specs.Store.{lists, brigade_of}
use Rattle.bucket_store.proofs.Cleared.{morphed_none}
use Rattle.brigade_ops.proofs.Plans.{as_it_was, ring_step, ring_made, bucket_in}
use Rattle.brigade_ops.proofs.Stores.{counted, in_found, found_bucket, brigade_there}
use Rattle.bucket_store.proofs.Walks.{once_listed}
use Rattle.brigade_ops.proofs.store.Brigades.plan_by_walk.Goals.{then-has_ring+in_ok-plan_ring, else-has_ring}
use Rattle.brigade_ops.proofs.store.Brigades.plan_by_walk.Goals as goal

pub loop-ring-init : goal.loop-ring-init
loop-ring-init g c id b x at is = ap (λ (ms : List Morph). morphed ms id x) c.new-found.ensures ∙ morphed_none id x

pub plan_ring-requires-clause-begun : goal.plan_ring-requires-clause-begun
plan_ring-requires-clause-begun g c id x there =
    let at = bucket_in c.args.self.now id x there in
    as_it_was (is_reached c.args.reached.now) c.loop-ring.found id x (is_in at.0 (take c.loop-ring.ring-index c.args.rings.now)) (c.loop-ring.invariant id at.0 x at.1 there)

pub loop-ring-preserved : goal.loop-ring-preserved
unfolding lists
loop-ring-preserved g c id b x at there =
    let store = c.args.self.now in
    let rings = c.args.rings.now in
    let i = c.loop-ring.ring-index in
    let ring : ℕ = get_or rings i 0 in
    let done : Bucket = cleared_as (is_reached c.args.reached.now) x in
    let old = c.loop-ring.invariant id b x at there in
    let step : (ring ≡ b → morphed c.if-has_ring.found id x ≡ done) → (ring ≢ b → morphed c.if-has_ring.found id x ≡ morphed c.loop-ring.found id x)
    → morphed c.if-has_ring.found id x ≡ cond (is_in b (take (i + 1) rings)) done x
    = λ here other. (ring_step b ring (take i rings) (morphed c.if-has_ring.found id x) (morphed c.loop-ring.found id x) done x old here other
    ∙ ap (λ (names : List ℕ). cond (is_in b names) done x) (sym (take_more rings i 0 c.loop-ring-test.true))) in
    elim c.if-has_ring.branch [
      | then-has_ring+in_ok-plan_ring w ↦
          step
          (λ e. ap (λ (ms : List Morph). morphed ms id x) w.found-is ∙ w.in_ok-plan_ring.ensures.ready id x (at ∙ ap (λ (n : ℕ). Some n) (sym e)) there)
          (λ ne. ap (λ (ms : List Morph). morphed ms id x) w.found-is ∙ w.in_ok-plan_ring.ensures.others id b x at (λ e. ne (sym e)))
      | else-has_ring w ↦
          step
          (λ e. absurd (let both : true ≡ false = sym (ap (λ (n : ℕ). is_some (lists store n)) e ∙ brigade_there store id b at) ∙ (sym c.has_ring.ensures ∙ w.if-has_ring.false) in cc))
          (λ ne. ap (λ (ms : List Morph). morphed ms id x) w.found-is)
    ]

pub returns : goal.returns
returns g c n =
    let store = c.args.self.now in
    let rings = c.args.rings.now in
    let reached = is_reached c.args.reached.now in
    ring_made reached c.loop-ring.found (is_in n rings) (lists store n)
    (λ i. once_listed n (brigade_of store i) _ (counted store i n))
    (λ id x is. let at = in_found store id n (ap is_some is) in
    c.loop-ring.invariant id n x at (found_bucket store id n x at is)
    ∙ ap (λ (names : List ℕ). cond (is_in n names) (cleared_as reached x) x) (take_all c.loop-ring.ring-index rings c.loop-ring-test.false))
