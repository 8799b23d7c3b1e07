use Rattle.std.proofs.Common.{◌≡◌, ℕ, true, Option, Some, None, is_some, refl, sym, ap, ◌∙◌}
use Rattle.std.specs.Option.{option_map, option_map_or, option_and_then}
use Rattle.raw_nodes.specs.declared.node.SlotBucket.{SlotBucket}
use Rattle.raw_nodes.specs.Loads.{bucket_in}
use Rattle.bucket_ring.specs.Links.{with_name, named_in, bucket_of}
use Rattle.bucket_ring.proofs.Rewritten.{read_there, refilled}
use Rattle.bucket_ring.proofs.links.Links.set_ring.Goals as goal

has_ring : {T : Type 0} (k r : ℕ) (o : Option (SlotBucket T)) → is_some (option_map (with_name k) o) ≡ true → option_map_or (λ _. Some r) o None ≡ Some r
has_ring k r None h = cc
has_ring k r (Some b) h = refl

pub set_ring-requires : goal.set_ring-requires
unfolding bucket_of
set_ring-requires g c = read_there (named_in c.args.slot) (g.S.Slots.node c.args.self.now.nodes c.args.slot) c.requires

pub returns-clause-filled : goal.returns-clause-filled
unfolding bucket_of
returns-clause-filled g c =
    let k = c.args.slot in
    let there = read_there (named_in k) (g.S.Slots.node c.args.self.now.nodes k) c.requires in
    refilled c.args.self.now _ k (λ v. record v { ring = c.args.ring }) there c.set_ring.ensures.at c.set_ring.ensures.room _ _ (λ v. (refl, refl))
    (λ v is. (sym (ap (option_and_then (named_in k)) is), has_ring k c.args.ring (bucket_in v.load) (sym (ap (λ o. is_some (option_and_then (named_in k) o)) is) ∙ c.requires)))
