use Rattle.std.proofs.Common.{◌∙◌, refl}
use Rattle.std.proofs.lemmas.Bool.{eq-eqb}
use Rattle.bucket_store.proofs.Pruned.{pruned}
use Rattle.bucket_store.proofs.pruning.prune.Goals as goal

pub returns-clause-noted : goal.returns-clause-noted
returns-clause-noted g c are =
    let s = c.args.rings.now in
    pruned (g.R.Rings.ring_at s) (g.R.Rings.lists s) (g.R.Rings.next_name s) (g.met.R.Rings.kept s) c.args.dependents.now c.prune_names.new.dependents c.args.pool
    c.prune_names.ensures.names c.prune_names.ensures.lost are

pub returns-clause-names : goal.returns-clause-names
returns-clause-names g c = c.prune_names.ensures.names c.args.pool ∙ rw (eq-eqb c.args.pool c.args.pool refl) refl
