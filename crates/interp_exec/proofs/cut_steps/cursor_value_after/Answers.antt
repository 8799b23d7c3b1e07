-- The next bucket, or the end of the brigade.
use Rattle.std.proofs.Common.{ℕ, drop, Option, sym, ap, subst, ◌∙◌}
use Rattle.bucket_ring.specs.declared.names.BucketId.{BucketId}
use Rattle.bucket_ring.specs.Lists.{list_at, rest, first_of}
use Rattle.bucket_ring.specs.Laws.{next_found}
use Rattle.run_model.specs.declared.bucket.Cursor.TheVariants as cursor
use Rattle.brigade_ops.specs.Store.{lists, brigade_of, next_name}
use Rattle.brigade_ops.proofs.Stores.{kept, in_found, brigade_there}
use Rattle.interp_state.specs.Held.{IsName}
use Rattle.interp_state.specs.Seen.{shown_cursor}
use Rattle.interp_state.proofs.Slots.{name_there, given_in}
use Rattle.interp_state.proofs.Walks.{cursor_value_at, next_stands, next_ok, next_err, some_of, same_at}
use Rattle.interp_exec.proofs.cut_steps.cursor_value_after.Goals as goal

pub returns-in-Ok-clause-place : goal.returns-in-Ok-clause-place
returns-in-Ok-clause-place g c =
    λ view i call b n named is.
    let first = next_ok n (first_of (drop 1 (rest c.args.id (list_at (lists c.args.store.now) n)))) c.in-Ok.next (sym (c.next.ensures n is) ∙ c.in-Ok.is) in
    ap (λ (o : Option BucketId). shown_cursor (cursor_value_at n o)) (sym first)
    ∙ next_stands (lists c.args.store.now) (next_name c.args.store.now) view i call b n c.args.id
    (given_in (brigade_of c.args.store.now) (lists c.args.store.now) (next_name c.args.store.now) c.args.id (kept c.args.store.now) (name_there (brigade_of c.args.store.now)
    (lists c.args.store.now) (next_name c.args.store.now) n c.args.id (kept c.args.store.now) is) n) named (brigade_there c.args.store.now c.args.id n is)

pub returns-in-Ok-clause-given : goal.returns-in-Ok-clause-given
returns-in-Ok-clause-given g c =
    λ j e.
    let r = some_of (brigade_of c.args.store.now c.args.id) c.requires in
    let at = in_found c.args.store.now c.in-Ok.next r.0 (next_found r.0 c.args.id c.in-Ok.next (list_at (lists c.args.store.now) r.0) (sym (c.next.ensures r.0 r.1) ∙ c.in-Ok.is)) in
    subst (IsName (brigade_of c.args.store.now) (next_name c.args.store.now)) (same_at c.in-Ok.next j e)
    (name_there (brigade_of c.args.store.now) (lists c.args.store.now) (next_name c.args.store.now) r.0 c.in-Ok.next (kept c.args.store.now) at)

pub returns-in-Err-clause-place : goal.returns-in-Err-clause-place
returns-in-Err-clause-place g c =
    λ view i call b n named is.
    let end = next_err n c.in-Err.name (first_of (drop 1 (rest c.args.id (list_at (lists c.args.store.now) n)))) (sym (c.next.ensures n is) ∙ c.in-Err.is) in
    ap (λ (m : ℕ). cursor.End m) end.1 ∙ (ap (λ (o : Option BucketId). shown_cursor (cursor_value_at n o)) (sym end.0)
    ∙ next_stands (lists c.args.store.now) (next_name c.args.store.now) view i call b n c.args.id
    (given_in (brigade_of c.args.store.now) (lists c.args.store.now) (next_name c.args.store.now) c.args.id (kept c.args.store.now) (name_there (brigade_of c.args.store.now)
    (lists c.args.store.now) (next_name c.args.store.now) n c.args.id (kept c.args.store.now) is) n) named (brigade_there c.args.store.now c.args.id n is))
