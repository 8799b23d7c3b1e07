use Rattle.std.proofs.Common.{◌≡◌, ℕ, ◌+◌, ◌≤◌, Option, List, [], ◌∷◌, ◌++◌, length, refl, sym, ap, subst, ◌∙◌, arith}
use Rattle.std.specs.Option.{option_to_list}
use Rattle.std.specs.Vec.Iter.{into_iter_items}
use Rattle.bucket_ring.specs.Lists.{list_at, by_birth, numbered}
use Rattle.bucket_ring.specs.Laws.{none_revived_twice}
use Rattle.bucket_ring.specs.Links.{ring_at, lists_of}
use Rattle.bucket_ring.proofs.Changes.{on_some, list_on}
use Rattle.bucket_ring.proofs.Batches.{put_twice, named_more, put_none}
use Rattle.bucket_ring.proofs.linked_rings.LinkedRings.settle_all.Goals as goal

pub loop-payload-init : goal.loop-payload-init
loop-payload-init g c =
    let e = c.into_iter-left.ensures.rest in
    record {
      done = ([], refl, λ n. put_none c.args.ring n (lists_of c.args.self.now.links));
      there = c.requires.there;
      room = omega (arith, c.requires.room, ap length e);
      next = refl;
      rises = omega arith;
      names = λ id there young. there;
    }

pub loop-payload-preserved : goal.loop-payload-preserved
loop-payload-preserved g c =
    let s = c.loop-payload.self in
    let new = c.settle.new.self in
    let ring = c.args.ring in
    let x = c.in-Some.payload in
    let left = c.next.new.self in
    let id = c.settle.result in
    let items : into_iter_items c.loop-payload.left ≡ x ∷ into_iter_items left = c.next.ensures.items ∙ ap (λ (o : Option g.row.T.Denot). option_to_list o ++ into_iter_items left) c.in-Some.is in
    let size : length (into_iter_items c.loop-payload.left) ≡ length (into_iter_items left) + 1 = omega (arith, ap length items) in
    let i = c.loop-payload.invariant in
    let d = i.done in
    let put = c.settle.ensures.out in
    let longer : list_at (lists_of new.links) ring ≡ list_at (lists_of s.links) ring ++ (id, x) ∷ [] = list_on ring (λ xs. xs ++ (id, x) ∷ []) (lists_of s.links) (lists_of new.links) put i.there in
    record {
      done = (
        d.0 ++ (id, x) ∷ [],
        ap (λ (m : ℕ). by_birth (d.0 ++ (id, x) ∷ []) ++ numbered m (into_iter_items left)) c.settle.ensures.next
            ∙ named_more d.0 (into_iter_items left) id x s.next _ c.settle.ensures.name (ap (λ (xs : List g.row.T.Denot). by_birth d.0 ++ numbered s.next xs) (sym items) ∙ d.1),
        λ n. put_twice ring n d.0 ((id, x) ∷ []) (lists_of c.args.self.now.links) (lists_of s.links) (lists_of new.links) d.2 put,
      );
      there = on_some ring (λ xs. xs ++ (id, x) ∷ []) (lists_of s.links) (lists_of new.links) put ring i.there;
      room = c.settle.ensures.room (length (into_iter_items left)) (subst (λ (k : ℕ). k ≤ g.S.Slots.room s.links.nodes) size i.room);
      next = omega (arith, i.next, c.settle.ensures.next, size);
      rises = omega (arith, i.rises, c.settle.ensures.next);
      names = none_revived_twice (ring_at c.args.self.now.links) (ring_at s.links) (ring_at new.links) c.args.self.now.next s.next i.rises i.names c.settle.ensures.names;
    }
