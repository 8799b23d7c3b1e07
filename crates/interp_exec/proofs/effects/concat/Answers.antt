-- Both brigades are there.
use Rattle.std.proofs.Common.{ℕ, Some, [], ◌++◌, ap, ◌∙◌}
use Rattle.brigade_ops.specs.Store.{lists, brigade_of, pool_of, next_name}
use Rattle.bucket_ring.specs.Lists.{list_at}
use Rattle.interp_exec.proofs.Joins.{joined}
use Rattle.interp_state.proofs.Names.{apart_in, held_kept, no_less, still_both}
use Rattle.interp_state.proofs.LeftAlone.{left_both, ours_slot}
use Rattle.interp_exec.proofs.effects.concat.Goals as goal

pub concat-requires-clause-apart : goal.concat-requires-clause-apart
concat-requires-clause-apart g c = λ e. c.requires.apart (c.requires.held c.args.a c.args.b c.brigade-from.result (c.brigade-to.ensures.name ∙ ap (λ (n : ℕ). Some n) e) c.brigade-from.ensures.name)

pub returns-clause-new : goal.returns-clause-new
returns-clause-new g c =
    λ view call held.
    joined (lists c.args.store.now) (lists c.concat.new.self) (next_name c.args.store.now) (next_name c.concat.new.self) view c.args.instance.now call c.args.a c.args.b c.brigade-to.result
    c.brigade-from.result (apart_in (brigade_of c.args.store.now) (lists c.args.store.now) (pool_of c.args.store.now) (next_name c.args.store.now) c.args.instance.now call held) c.requires.apart
    (c.brigade-to.ensures.live (lists c.args.store.now) c.requires.live_first)
    (c.brigade-from.ensures.live (lists c.args.store.now) c.requires.live_second) c.concat.ensures.next c.concat.ensures.out

pub returns-clause-held : goal.returns-clause-held
returns-clause-held g c =
    λ call held.
    held_kept c.args.store.now c.concat.new.self (no_less (next_name c.args.store.now) (next_name c.concat.new.self) c.concat.ensures.next) c.concat.ensures.names c.concat.ensures.pools
    (still_both (lists c.args.store.now) (lists c.concat.new.self) c.brigade-to.result c.brigade-from.result (λ xs. xs ++ list_at (lists c.args.store.now) c.brigade-from.result) (λ xs. [])
    c.concat.ensures.out)
    c.args.instance.now call held

pub returns-clause-left : goal.returns-clause-left
returns-clause-left g c =
    λ call.
    left_both c.args.store.now c.concat.new.self (no_less (next_name c.args.store.now) (next_name c.concat.new.self) c.concat.ensures.next) c.concat.ensures.names c.concat.ensures.pools
    c.concat.ensures.references c.concat.ensures.unasked c.brigade-to.result c.brigade-from.result (λ xs. xs ++ list_at (lists c.args.store.now) c.brigade-from.result)
    (λ xs. []) c.concat.ensures.out c.args.instance.now call
    (ours_slot c.args.instance.now call c.args.a c.brigade-to.result c.brigade-to.ensures.name)
    (ours_slot c.args.instance.now call c.args.b c.brigade-from.result c.brigade-from.ensures.name)
