use Rattle.std.proofs.Common.{◌≡◌, sym, ap, ◌∙◌}
use Rattle.std.proofs.lemmas.Option.{same_Some}
use Rattle.bucket_ring.specs.Lists.{put_tail}
use Rattle.bucket_kinds.specs.Stored.{shown}
use Rattle.bucket_store.specs.declared.regions.Regions.{Regions}
use Rattle.bucket_store.specs.Regions.{look}
use Rattle.brigade_ops.proofs.Added.{added_to, still_there}
use Rattle.brigade_ops.proofs.store.Brigades.copy.Goals as goal

pub add_tail-requires-clause-there : goal.add_tail-requires-clause-there
add_tail-requires-clause-there g c = still_there _ _ c.room_for.ensures.lists c.args.b c.requires.brigade

pub returns-clause-ok : goal.returns-clause-ok
returns-clause-ok g c m x is =
    let roomy = c.room_for.new.self in
    let see = look c.args.self.now.held.regions in
    let copied = c.in_ok-copy.copy in
    let same : shown (look roomy.held.regions) copied ≡ x =
    ap (λ (r : Regions). shown (look r) copied) c.room_for.ensures.regions
    ∙ (ap (shown see) c.in_ok-copy.ensures.ok ∙ same_Some (shown see c.stored.result.now) x (sym c.stored.ensures.shown ∙ is)) in
    added_to _ _ c.room_for.ensures.lists c.args.b m put_tail _ _ _ _ (c.add_tail.ensures.out m) same
