use Rattle.std.proofs.Common.{is_some, refl, sym, ap, ◌∙◌}
use Rattle.std.specs.Option.{option_map}
use Rattle.raw_nodes.specs.declared.node.Load.TheVariants.{Sentinel}
use Rattle.bucket_ring.specs.Links.{with_name, named_in, bucket_of}
use Rattle.bucket_ring.proofs.Rewritten.{named_load, named_some, read_there, refilled}
use Rattle.bucket_ring.proofs.links.Links.empty.Goals as goal

pub empty-requires : goal.empty-requires
unfolding bucket_of
empty-requires g c = sym (ap is_some (named_load c.args.slot (g.S.Slots.node c.args.self.now.nodes c.args.slot)) ∙ named_some c.args.slot _) ∙ c.requires

pub returns-clause-had : goal.returns-clause-had
unfolding bucket_of
returns-clause-had g c = named_load c.args.slot (g.S.Slots.node c.args.self.now.nodes c.args.slot) ∙ ap (option_map (with_name c.args.slot)) c.empty.ensures.had

pub returns-clause-filled : goal.returns-clause-filled
unfolding bucket_of
returns-clause-filled g c =
    let there = read_there (named_in c.args.slot) (g.S.Slots.node c.args.self.now.nodes c.args.slot) c.requires in
    refilled c.args.self.now _ c.args.slot (λ v. record v { ring = 0; load = Sentinel }) there c.empty.ensures.at c.empty.ensures.room _ _ (λ v. (refl, refl)) (λ v is. (refl, refl))
