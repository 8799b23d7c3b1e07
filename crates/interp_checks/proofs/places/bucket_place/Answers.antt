-- The brigade of a bucket tells its place.
use Rattle.std.proofs.Common.{◌≡◌, ◌≢◌, ℕ, Option, Some, None, sym, ap, ◌∙◌, rules}
use Rattle.brigade_ops.specs.Store.{lists, brigade_of, pool_of, next_name}
use Rattle.brigade_ops.proofs.Stores.{kept}
use Rattle.bucket_ring.specs.declared.names.BucketId.{BucketId}
use Rattle.interp_checks.proofs.OnlyAsked.{asked_once, places_same}
use Rattle.interp_state.proofs.Standing.{in_slot, placed_gone, placed_loose, placed_within, placed_nowhere}
use Rattle.interp_checks.proofs.places.bucket_place.Goals as goal

pub returns-in_default-clause-at : goal.returns-in_default-clause-at
returns-in_default-clause-at g c =
    let s = c.args.store.now in
    let gone : brigade_of s c.args.id ≡ None = search rules in
    λ next view. placed_gone (brigade_of s) (lists s) (pool_of s) (next_name s) c.args.instance.now c.args.call.now (kept s) c.requires.held c.args.id c.requires.given next view gone

pub returns-then-ring-call-clause-at : goal.returns-then-ring-call-clause-at
returns-then-ring-call-clause-at g c =
    let s = c.args.store.now in
    let same : c.in-Some.ring ≡ c.args.call.now.name = search rules in
    let is : brigade_of s c.args.id ≡ Some c.args.call.now.name = sym c.ring_of.ensures.value ∙ (c.in-Some.is ∙ ap (λ (n : ℕ). Some n) same) in
    λ next view. placed_loose (brigade_of s) (lists s) (pool_of s) (next_name s) c.args.instance.now c.args.call.now (kept s) c.requires.held c.args.id c.requires.given next view is

pub returns-in-Some-slot_of-clause-at : goal.returns-in-Some-slot_of-clause-at
returns-in-Some-slot_of-clause-at g c =
    let s = c.args.store.now in
    let is : brigade_of s c.args.id ≡ Some c.in-Some.ring = sym c.ring_of.ensures.value ∙ c.in-Some.is in
    λ next view.
    placed_within (brigade_of s) (lists s) (pool_of s) (next_name s) c.args.instance.now c.args.call.now
    (kept s) c.requires.held c.args.id c.requires.given next view c.in-Some.ring c.in-Some-slot_of.b is (sym c.slot_of.ensures.found ∙ c.in-Some-slot_of.is)

pub returns-then-ring-call-clause-inside : goal.returns-then-ring-call-clause-inside
returns-then-ring-call-clause-inside g c =
    let same : c.in-Some.ring ≡ c.args.call.now.name = search rules in
    ap (λ (at : BucketId → Option ℕ). at c.args.id) (places_same c.args.store.now c.ring_of.new.self (asked_once c.args.store.now c.ring_of.new.self _ c.ring_of.ensures.counted))
    ∙ (sym c.ring_of.ensures.value ∙ (c.in-Some.is ∙ ap (λ (n : ℕ). Some n) same))

pub returns-in-Some-slot_of-clause-inside : goal.returns-in-Some-slot_of-clause-inside
returns-in-Some-slot_of-clause-inside g c =
    let is : brigade_of c.args.store.now c.args.id ≡ Some c.in-Some.ring = sym c.ring_of.ensures.value ∙ c.in-Some.is in
    let still = ap (λ (at : BucketId → Option ℕ). at c.args.id) (places_same c.args.store.now c.ring_of.new.self (asked_once c.args.store.now c.ring_of.new.self _ c.ring_of.ensures.counted)) in
    in_slot (brigade_of c.ring_of.new.self) c.args.instance.now c.args.call.now c.args.id c.in-Some.ring c.in-Some-slot_of.b (still ∙ is) (sym c.slot_of.ensures.found ∙ c.in-Some-slot_of.is)

pub returns-in-None-clause-at : goal.returns-in-None-clause-at
returns-in-None-clause-at g c =
    let s = c.args.store.now in
    let is : brigade_of s c.args.id ≡ Some c.in-Some.ring = sym c.ring_of.ensures.value ∙ c.in-Some.is in
    let other : c.in-Some.ring ≢ c.args.call.now.name = search rules in
    λ next view.
    placed_nowhere (brigade_of s) (lists s) (pool_of s) (next_name s) c.args.instance.now c.args.call.now (kept s) c.requires.held c.args.id c.requires.given next view c.in-Some.ring is other
    (sym c.slot_of.ensures.found ∙ c.in-None.is)
