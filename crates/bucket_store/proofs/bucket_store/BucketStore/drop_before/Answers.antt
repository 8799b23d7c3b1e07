use Rattle.std.proofs.Common.{◌≡◌, ℕ, ◌<◌, false, is_some, Some, length, sym, ap, ◌∙◌, arith, rules}
use Rattle.bucket_ring.specs.declared.names.BucketId.{BucketId}
use Rattle.bucket_ring.specs.Lists.{list_at, rest, same, without, first_of, payload_of}
use Rattle.bucket_ring.specs.Laws.{first_found, none_revived_twice}
use Rattle.bucket_store.specs.Items.{Items}
use Rattle.bucket_store.specs.BucketStore.{seen}
use Rattle.bucket_store.proofs.Lists.{list_on, on_after, on_same, rest_off, shorter, never_empty, first_rest}
use Rattle.bucket_store.proofs.BucketStores.{found_in, in_found, ring_there}
use Rattle.bucket_store.proofs.bucket_store.BucketStore.drop_before.Goals as goal

pub drop_bucket-requires : goal.drop_bucket-requires
drop_bucket-requires g c =
    let s = c.loop-first.self in
    ap is_some (in_found s c.in-Some.first c.args.ring (first_found c.in-Some.first (list_at (seen s) c.args.ring) (sym c.first.ensures ∙ c.in-Some.is)))

pub loop-first-preserved : goal.loop-first-preserved
loop-first-preserved g c =
    let s = c.loop-first.self in
    let new = c.drop_bucket.new.self in
    let b = c.args.ring in
    let id = c.args.id in
    let first = c.in-Some.first in
    let xs : Items = list_at (seen s) b in
    let at_head : first_of xs ≡ Some first = sym c.first.ensures ∙ c.in-Some.is in
    let at_b = in_found s first b (first_found first xs at_head) in
    let other : same first id ≡ false = search rules in
    let change = λ (k : ℕ). c.drop_bucket.ensures.out b k at_b in
    let kept = rest_off first id xs at_head other in
    let left : list_at (seen new) b ≡ without first xs = list_on b (without first) (seen s) (seen new) change (ring_there s first b at_b) in
    record {
      out = λ n. on_after b n (without first) (rest id) (rest id) (seen s) (seen new) change kept ∙ c.loop-first.invariant.out n;
      inside = in_found new id b (ap (λ ys. is_some (payload_of ys)) (ap (rest id) left ∙ kept) ∙ found_in s id b c.loop-first.invariant.inside);
      next = c.drop_bucket.ensures.next ∙ c.loop-first.invariant.next;
      names = none_revived_twice (g.R.Rings.ring_at c.args.self.now.rings.rings) (g.R.Rings.ring_at s.rings.rings) (g.R.Rings.ring_at new.rings.rings)
          (g.R.Rings.next_name c.args.self.now.rings.rings) (g.R.Rings.next_name s.rings.rings)
          (omega (arith, c.loop-first.invariant.next)) c.loop-first.invariant.names c.drop_bucket.ensures.names;
    }

pub loop-first-smaller : goal.loop-first-smaller
loop-first-smaller g c =
    let s = c.loop-first.self in
    let new = c.drop_bucket.new.self in
    let b = c.args.ring in
    let first = c.in-Some.first in
    let xs : Items = list_at (seen s) b in
    let at_head : first_of xs ≡ Some first = sym c.first.ensures ∙ c.in-Some.is in
    let at_b = in_found s first b (first_found first xs at_head) in
    let left : list_at (seen new) b ≡ without first xs = list_on b (without first) (seen s) (seen new) (λ k. c.drop_bucket.ensures.out b k at_b) (ring_there s first b at_b) in
    let less : length (without first xs) < length xs = shorter first xs at_head in
    omega (arith, ap length left, less)

pub returns-then-eq-clause-out : goal.returns-then-eq-clause-out
returns-then-eq-clause-out g c n =
    let s = c.loop-first.self in
    let xs : Items = list_at (seen s) c.args.ring in
    let is : c.in-Some.first ≡ c.args.id = search rules in
    let at_head : first_of xs ≡ Some c.args.id = sym c.first.ensures ∙ (c.in-Some.is ∙ ap (λ (i : BucketId). Some i) is) in
    on_same c.args.ring n (rest c.args.id) (seen s) (first_rest c.args.id xs at_head) ∙ c.loop-first.invariant.out n

pub returns-clause-out : goal.returns-clause-out
returns-clause-out g c =
    let s = c.loop-first.self in
    let xs : Items = list_at (seen s) c.args.ring in
    absurd (never_empty c.args.id xs (found_in s c.args.id c.args.ring c.loop-first.invariant.inside) (λ x e. c.in_default.not-Some x (c.first.ensures ∙ e)))
