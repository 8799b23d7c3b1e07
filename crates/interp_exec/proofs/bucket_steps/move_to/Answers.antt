-- The store's own list, by the side.
use Rattle.std.proofs.Common.{sym, ap, ◌∙◌}
use Rattle.bucket_ring.specs.Lists.{on, without}
use Rattle.run_model.specs.declared.effect.Side.{Side}
use Rattle.brigade_ops.specs.Store.{lists}
use Rattle.interp_exec.specs.Making.{put_item}
use Rattle.interp_exec.proofs.bucket_steps.move_to.Goals as goal

pub returns-in-AtTail-clause-out : goal.returns-in-AtTail-clause-out
returns-in-AtTail-clause-out g c =
    λ q n x is here.
    c.move_tail.ensures.out q n x is here ∙ ap (λ (side : Side). on c.args.b (put_item side (c.args.id, x)) (on q (without c.args.id) (lists c.args.store.now)) n) (sym c.in-AtTail.is)

pub returns-in-AtHead-clause-out : goal.returns-in-AtHead-clause-out
returns-in-AtHead-clause-out g c =
    λ q n x is here.
    c.move_head.ensures.out q n x is here ∙ ap (λ (side : Side). on c.args.b (put_item side (c.args.id, x)) (on q (without c.args.id) (lists c.args.store.now)) n) (sym c.in-AtHead.is)
