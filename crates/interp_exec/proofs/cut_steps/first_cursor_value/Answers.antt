-- The first bucket of the brigade, or its end.
use Rattle.std.proofs.Common.{Option, sym, ap, subst, ◌∙◌}
use Rattle.bucket_ring.specs.declared.names.BucketId.{BucketId}
use Rattle.bucket_ring.specs.Lists.{list_at}
use Rattle.bucket_ring.specs.Laws.{first_found}
use Rattle.brigade_ops.specs.Store.{lists, brigade_of, next_name}
use Rattle.brigade_ops.proofs.Stores.{kept, in_found}
use Rattle.interp_state.specs.Held.{IsName}
use Rattle.interp_state.specs.Seen.{shown_cursor}
use Rattle.interp_state.proofs.Slots.{name_there}
use Rattle.interp_state.proofs.Walks.{cursor_value_at, first_stands, same_at}
use Rattle.interp_exec.proofs.cut_steps.first_cursor_value.Goals as goal

pub returns-in-Some-clause-place : goal.returns-in-Some-clause-place
returns-in-Some-clause-place g c =
    λ view call.
    ap (λ (o : Option BucketId). shown_cursor (cursor_value_at c.brigade-name.result o)) (sym c.in-Some.is ∙ c.first.ensures)
    ∙ first_stands (lists c.args.store.now) (next_name c.args.store.now) view c.args.instance.now call c.args.b c.brigade-name.result c.brigade-name.ensures.name
    (c.brigade-name.ensures.there (lists c.args.store.now) c.requires.live)

pub returns-in-Some-clause-given : goal.returns-in-Some-clause-given
returns-in-Some-clause-given g c =
    λ id e.
    let at = in_found c.args.store.now c.in-Some.id c.brigade-name.result (first_found c.in-Some.id (list_at (lists c.args.store.now) c.brigade-name.result) (sym c.first.ensures ∙ c.in-Some.is)) in
    subst (IsName (brigade_of c.args.store.now) (next_name c.args.store.now)) (same_at c.in-Some.id id e)
    (name_there (brigade_of c.args.store.now) (lists c.args.store.now) (next_name c.args.store.now) c.brigade-name.result c.in-Some.id (kept c.args.store.now) at)

pub returns-in-None-clause-place : goal.returns-in-None-clause-place
returns-in-None-clause-place g c =
    λ view call.
    ap (λ (o : Option BucketId). shown_cursor (cursor_value_at c.brigade-name.result o)) (sym c.in-None.is ∙ c.first.ensures)
    ∙ first_stands (lists c.args.store.now) (next_name c.args.store.now) view c.args.instance.now call c.args.b c.brigade-name.result c.brigade-name.ensures.name
    (c.brigade-name.ensures.there (lists c.args.store.now) c.requires.live)
