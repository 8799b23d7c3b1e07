use Rattle.std.proofs.Common.{◌≡◌, None, is_some, sym, ap, ◌∙◌}
use Rattle.bucket_ring.specs.Lists.{list_at}
use Rattle.bucket_ring.specs.Kept.{once_in}
use Rattle.bucket_store.specs.Items.{Items}
use Rattle.brigade_ops.specs.Store.{lists, brigade_of, bucket_at}
use Rattle.bucket_store.proofs.Lists.{some_of}
use Rattle.bucket_store.proofs.Saves.{found_some, here_at}
use Rattle.bucket_store.proofs.Cleared.{absent_kept, once_kept, not_some_none}
use Rattle.bucket_store.specs.BucketStore.{seen}
use Rattle.bucket_store.proofs.BucketStores.{counted, found_in}
use Rattle.brigade_ops.proofs.store.Brigades.apply_morph.Goals as goal

pub returns-then-is_some-clause-out : goal.returns-then-is_some-clause-out
unfolding lists brigade_of bucket_at
returns-then-is_some-clause-out g c n =
    let s = c.args.self.now.held in
    let m = c.args.morph in
    let at = some_of (g.R.Rings.ring_at s.rings.rings m.id) (ap is_some (sym c.ring_of.ensures) ∙ (sym c.is_some.ensures ∙ c.if-is_some.true)) in
    let xs : Items = list_at (seen s) at.0 in
    let x = found_some m.id xs (found_in s m.id at.0 at.1) in
    c.put_morph.ensures.out at.0 n x.0 at.1 (here_at (g.R.Rings.ring_at s.rings.rings m.id) (seen s) m.id at.0 x.0 at.1 x.1)
    ∙ once_kept m at.0 n x.0 (seen s) (λ r. counted s m.id r ∙ ap (once_in r) at.1) x.1

pub returns-else-is_some-clause-out : goal.returns-else-is_some-clause-out
unfolding lists brigade_of
returns-else-is_some-clause-out g c n =
    let s = c.args.self.now.held in
    let m = c.args.morph in
    let none : g.R.Rings.ring_at s.rings.rings m.id ≡ None = not_some_none (g.R.Rings.ring_at s.rings.rings m.id) (ap is_some (sym c.ring_of.ensures) ∙ (sym c.is_some.ensures ∙ c.if-is_some.false)) in
    absent_kept m (seen s n) (counted s m.id n ∙ ap (once_in n) none)
