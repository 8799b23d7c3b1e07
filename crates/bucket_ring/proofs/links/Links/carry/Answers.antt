-- The bucket leaves a circle, and comes into another.
use Rattle.std.proofs.Common.{◌≡◌, ℕ, Some, is_some, sym, ap, subst, ◌∙◌}
use Rattle.bucket_ring.specs.Links.{behind_of, before_of, mark_of, at_of, bucket_of, head_of, target, Refilled}
use Rattle.bucket_ring.proofs.Linked.{head_there, some_count}
use Rattle.bucket_ring.proofs.Kept.{there_at, forth_kept, back_kept, heads_same, nodes_same, upd_as, refilled_since, relinked_until}
use Rattle.bucket_ring.proofs.Read.{place_of}
use Rattle.bucket_ring.proofs.Carried.{IsGone, still_there, still_full, still_forth, still_back, head_left, one_fits, target_as, target_there, carried}
use Rattle.bucket_ring.proofs.links.Links.carry.Goals as goal
use Rattle.bucket_ring.proofs.links.Links.carry.Goals.{After-shrink, After-set_ring}

pub turn-requires-clause-slot : goal.turn-requires-clause-slot
turn-requires-clause-slot g c = there_at c.args.self.now c.args.id.slot c.args.from (place_of c.args.self.now c.requires.linked c.args.id c.args.from c.requires.bucket).3

pub turn-requires-clause-at : goal.turn-requires-clause-at
turn-requires-clause-at g c = there_at c.args.self.now c.args.id.slot c.args.from (place_of c.args.self.now c.requires.linked c.args.id c.args.from c.requires.bucket).3

pub shrink-requires-clause-there : goal.shrink-requires-clause-there
shrink-requires-clause-there g c =
    let s = c.args.self.now in
    ap is_some (heads_same s c.turn.new.self c.turn.ensures.heads c.args.from)
    ∙ head_there (behind_of s) (before_of s) (mark_of s) (at_of s) (head_of s) c.requires.linked c.args.id.slot c.args.from (place_of s c.requires.linked c.args.id c.args.from c.requires.bucket).3

pub shrink-requires-clause-some : goal.shrink-requires-clause-some
shrink-requires-clause-some g c =
    let s = c.args.self.now in
    λ h is. some_count (behind_of s) (before_of s) (mark_of s) (at_of s) (head_of s) c.requires.linked c.args.id.slot c.args.from h
    (sym (heads_same s c.turn.new.self c.turn.ensures.heads c.args.from) ∙ is)
    (place_of s c.requires.linked c.args.id c.args.from c.requires.bucket).3

-- the bucket has left its circle
gone : (g : _) (c : After-shrink g) → IsGone c.args.self.now c.shrink.new.self c.args.from c.args.id c.shrink.result
gone g c =
    let s = c.args.self.now in
    let heads = heads_same s c.turn.new.self c.turn.ensures.heads in
    record {
      linked = c.requires.linked;
      in_from = c.requires.bucket;
      head = sym (heads c.args.from) ∙ c.shrink.ensures.was;
      links = relinked_until s c.turn.new.self c.shrink.new.self _ _ c.shrink.ensures.nodes c.turn.ensures.links;
      heads = λ n. c.shrink.ensures.heads n ∙ upd_as c.args.from _ n (head_of c.turn.new.self) (head_of s) heads;
    }

-- and has another ring
renamed : (g : _) (c : After-set_ring g) → Refilled c.shrink.new.self c.set_ring.new.self c.args.id.slot (bucket_of c.shrink.new.self c.args.id.slot) (Some c.args.ring)
renamed g c =
    let s = c.shrink.new.self in
    let k = c.args.id.slot in
    refilled_since s c.grow-head.new.self c.set_ring.new.self k _ _ c.grow-head.ensures.nodes
    (subst (λ o. Refilled c.grow-head.new.self c.set_ring.new.self k o (Some c.args.ring)) ((nodes_same s c.grow-head.new.self c.grow-head.ensures.nodes).1.bucket k) c.set_ring.ensures.filled)

target_is : (g : _) (c : After-set_ring g) → c.target-at.result ≡ target (behind_of c.shrink.new.self) c.grow-head.result c.args.position
target_is g c =
    let s = c.shrink.new.self in
    c.target-at.ensures ∙ target_as (behind_of s) (behind_of c.grow-head.new.self) c.grow-head.result c.args.position (nodes_same s c.grow-head.new.self c.grow-head.ensures.nodes).0.behind

pub grow-head-requires-clause-there : goal.grow-head-requires-clause-there
grow-head-requires-clause-there g c = head_left _ _ _ _ _ (gone g (goal.at.grow-head-requires-clause-there g c).After-shrink) c.args.ring c.requires.there

pub grow-head-requires-clause-few : goal.grow-head-requires-clause-few
grow-head-requires-clause-few g c h2 is = one_fits _ _ _ _ _
    (gone g (goal.at.grow-head-requires-clause-few g c).After-shrink) c.args.ring c.requires.few.0 c.args.position h2 is c.requires.position
    c.requires.few.1

pub set_ring-requires : goal.set_ring-requires
set_ring-requires g c =
    ap is_some ((nodes_same c.shrink.new.self c.grow-head.new.self c.grow-head.ensures.nodes).1.bucket c.args.id.slot) ∙ still_full _ _ _ _ _ (gone g (goal.at.set_ring-requires g c).After-shrink)

pub turn-requires-2-clause-forth : goal.turn-requires-2-clause-forth
turn-requires-2-clause-forth g c =
    let at = goal.at.turn-requires-2-clause-forth g c in
    forth_kept (renamed g at.After-set_ring).links (still_forth _ _ _ _ _ (gone g at.After-shrink))

pub turn-requires-2-clause-back : goal.turn-requires-2-clause-back
turn-requires-2-clause-back g c =
    let at = goal.at.turn-requires-2-clause-back g c in
    back_kept (renamed g at.After-set_ring).links (still_back _ _ _ _ _ (gone g at.After-shrink))

pub turn-requires-2-clause-slot : goal.turn-requires-2-clause-slot
turn-requires-2-clause-slot g c =
    let at = goal.at.turn-requires-2-clause-slot g c in
    (renamed g at.After-set_ring).room.there c.args.id.slot ∙ still_there _ _ _ _ _ (gone g at.After-shrink)

pub turn-requires-2-clause-at : goal.turn-requires-2-clause-at
turn-requires-2-clause-at g c =
    let at = goal.at.turn-requires-2-clause-at g c in
    (renamed g at.After-set_ring).room.there c.target-at.result
    ∙ target_there _ _ _ _ _ (gone g at.After-shrink) c.args.ring c.requires.few.0 c.args.position c.grow-head.result c.grow-head.ensures.was
    c.requires.position c.requires.few.1 c.target-at.result (target_is g at.After-set_ring)

pub returns : goal.returns
returns g c =
    let at = goal.at.returns g c in
    let t = c.turn-2.new.self in
    let heads = λ (n : ℕ). heads_same c.set_ring.new.self t c.turn-2.ensures.heads n ∙ heads_same c.grow-head.new.self c.set_ring.new.self c.set_ring.ensures.heads n ∙ c.grow-head.ensures.heads n in
    let all = carried _ _ _ _ _ (gone g at.After-shrink) c.args.ring c.requires.few.0 c.args.position c.grow-head.result c.grow-head.ensures.was c.requires.position c.requires.few.1
    c.set_ring.new.self t (renamed g at.After-set_ring) c.target-at.result (target_is g at.After-set_ring) c.turn-2.ensures.links heads in
    record { linked = all.0; lists = all.1; places = all.2 }
