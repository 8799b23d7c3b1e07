use Rattle.std.proofs.Common.{sym, ap, subst, ◌∙◌}
use Rattle.bucket_store.specs.Noted.{NoneDepends}
use Rattle.bucket_store.specs.Regions.{look}
use Rattle.bucket_store.specs.BucketStore.{seen}
use Rattle.bucket_store.specs.Shown.{AreHeld, all_shown}
use Rattle.bucket_store.proofs.Kept.{all_off, freed_seen, freed_whole}
use Rattle.bucket_store.proofs.bucket_store.BucketStore.forget_pool.Goals as goal

pub invariant_of-self : goal.invariant_of-self
invariant_of-self g c =
    let s = c.args.self.now in
    let see = look s.regions in
    let lists = g.R.Rings.lists s.rings.rings in
    let free = look c.free.new.self in
    let still : AreHeld free lists = freed_whole see free c.args.pool c.free.ensures.others lists
    (all_off see free c.args.pool c.free.ensures.others (g.R.Rings.ring_at s.rings.rings) lists (g.R.Rings.next_name s.rings.rings) s.rings.kept (c.forget.ensures.none c.if-forget.true)) s.whole in
    record { whole = subst (λ r. AreHeld free (g.R.Rings.lists r)) (sym c.forget.ensures.rings) still }

pub returns-then-forget-clause-same : goal.returns-then-forget-clause-same
unfolding seen
returns-then-forget-clause-same g c n =
    let s = c.args.self.now in
    let see = look s.regions in
    let lists = g.R.Rings.lists s.rings.rings in
    let free = look c.free.new.self in
    ap (λ r. all_shown free (g.R.Rings.lists r) n) c.forget.ensures.rings
    ∙ freed_seen see free c.args.pool c.free.ensures.others lists
    (all_off see free c.args.pool c.free.ensures.others (g.R.Rings.ring_at s.rings.rings) lists (g.R.Rings.next_name s.rings.rings) s.rings.kept (c.forget.ensures.none c.if-forget.true)) s.whole n

pub returns-then-forget-clause-others : goal.returns-then-forget-clause-others
returns-then-forget-clause-others g c p ne was unused s =
    c.free.ensures.others p s ne ∙ was (subst (λ r. NoneDepends (g.R.Rings.ring_at r) (g.R.Rings.lists r) p) c.forget.ensures.rings unused) s
