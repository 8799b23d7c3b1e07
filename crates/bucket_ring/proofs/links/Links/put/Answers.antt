-- The ring has a bucket more, and the slot is where it was put.
use Rattle.std.proofs.Common.{◌≡◌, ◌+◌, ℕ, Some, is_some, ap, sym, subst, ◌∙◌, arith}
use Rattle.bucket_ring.specs.Walks.{id_of}
use Rattle.bucket_ring.specs.Links.{behind_of, target, Changed, Refilled}
use Rattle.bucket_ring.proofs.Carried.{target_as}
use Rattle.bucket_ring.proofs.Kept.{lists_there, length_of, changed, forth_kept, back_kept, heads_same, nodes_same, refilled_since}
use Rattle.bucket_ring.proofs.Read.{spot_there}
use Rattle.bucket_ring.proofs.Taken.{put_linked, put_lists, put_places}
use Rattle.bucket_ring.proofs.links.Links.put.Goals as goal
use Rattle.bucket_ring.proofs.links.Links.put.Goals.{After-fill}

pub grow-head-requires-clause-there : goal.grow-head-requires-clause-there
grow-head-requires-clause-there g c = sym (lists_there c.args.self.now c.args.ring) ∙ c.requires.there

pub grow-head-requires-clause-few : goal.grow-head-requires-clause-few
grow-head-requires-clause-few g c = λ h is. omega (arith, c.requires.few, length_of c.args.self.now c.args.ring h c.requires.linked is)

pub fill-requires : goal.fill-requires
fill-requires g c = (nodes_same c.args.self.now c.grow-head.new.self c.grow-head.ensures.nodes).2.there c.args.slot ∙ c.requires.loose.there

filled : (g : _) (c : After-fill g) → Refilled c.args.self.now c.fill.new.self c.args.slot (Some (id_of c.args.slot c.args.bucket.birth, c.args.bucket.payload)) (Some c.args.ring)
filled g c = refilled_since c.args.self.now c.grow-head.new.self c.fill.new.self c.args.slot _ _ c.grow-head.ensures.nodes c.fill.ensures.filled

target_is : (g : _) (c : After-fill g) → c.target-at.result ≡ target (behind_of c.args.self.now) c.grow-head.result c.args.position
target_is g c =
    let s = c.args.self.now in
    c.target-at.ensures ∙ target_as (behind_of s) (behind_of c.grow-head.new.self) c.grow-head.result c.args.position (nodes_same s c.grow-head.new.self c.grow-head.ensures.nodes).0.behind

pub turn-requires-clause-forth : goal.turn-requires-clause-forth
turn-requires-clause-forth g c = forth_kept (filled g (goal.at.turn-requires-clause-forth g c).After-fill).links c.requires.linked.forth

pub turn-requires-clause-back : goal.turn-requires-clause-back
turn-requires-clause-back g c = back_kept (filled g (goal.at.turn-requires-clause-back g c).After-fill).links c.requires.linked.back

pub turn-requires-clause-slot : goal.turn-requires-clause-slot
turn-requires-clause-slot g c = (filled g (goal.at.turn-requires-clause-slot g c).After-fill).room.there c.args.slot ∙ c.requires.loose.there

pub turn-requires-clause-at : goal.turn-requires-clause-at
turn-requires-clause-at g c =
    let s = c.args.self.now in
    let after = (goal.at.turn-requires-clause-at g c).After-fill in
    (filled g after).room.there c.target-at.result ∙ ap (λ (k : ℕ). is_some (g.S.Slots.node s.nodes k)) (target_is g after)
    ∙ spot_there s c.requires.linked c.args.ring c.grow-head.result c.args.position c.grow-head.ensures.was c.requires.position

pub returns : goal.returns
returns g c =
    let s = c.args.self.now in
    let h = c.grow-head.result in
    let t = c.turn.new.self in
    let r = c.args.ring in
    let k = c.args.slot in
    let birth = c.args.bucket.birth in
    let x = c.args.bucket.payload in
    let after = (goal.at.returns g c).After-fill in
    let raw = changed s c.fill.new.self t k c.target-at.result r (Some (id_of k birth, x)) (Some r) (record { sentinel = h.sentinel; count = h.count + 1 }) (filled g after) c.turn.ensures.links
    (λ n. heads_same c.fill.new.self t c.turn.ensures.heads n ∙ heads_same c.grow-head.new.self c.fill.new.self c.fill.ensures.heads n ∙ c.grow-head.ensures.heads n) in
    let change : Changed s t k (target (behind_of s) h c.args.position) r (Some (id_of k birth, x)) (Some r) (record { sentinel = h.sentinel; count = h.count + 1 }) =
    subst (λ (a : ℕ). Changed s t k a r (Some (id_of k birth, x)) (Some r) (record { sentinel = h.sentinel; count = h.count + 1 })) (target_is g after) raw in
    record {
      linked = put_linked s t k r c.args.position birth x h c.requires.linked c.requires.loose c.requires.position c.grow-head.ensures.was c.requires.few change;
      lists = put_lists s t k r c.args.position birth x h c.requires.linked c.requires.loose c.requires.position c.grow-head.ensures.was c.requires.few change;
      places = put_places s t k r c.args.position birth x h c.requires.linked c.requires.loose c.requires.position c.grow-head.ensures.was c.requires.few change;
      room = change.room;
    }
