use Rattle.std.proofs.Common.{◌+◌, ◌++◌, codes, drop, get_or, subst}
use Rattle.module_code.specs.Args.{two_args}
use Rattle.module_lang.specs.Shown.{shown_line}
use Rattle.module_lang.specs.Texts.{joined, pool_texts}
use Rattle.module_code.specs.declared.arg.Arg.TheVariants as arg
use Rattle.module_code.specs.declared.instr.PoolRef.TheVariants as pool
use Rattle.byte_text.specs.Writes.{writer_state}
use Rattle.module_lang.proofs.ShownLaws.{pools_more}
use Rattle.byte_text.proofs.WritingLaws.{Leaves, leaves_fault, leaves_less}
use Rattle.module_lang.proofs.print.put_pools.Given.{Over}
use Rattle.module_lang.proofs.print.put_pools.Goals as goal
use Rattle.module_lang.proofs.print.put_pools.Goals.{After-put_line}

-- the line that is written, and those behind it
left : (g : Over) (c : After-put_line g) → Leaves (writer_state g.W.Write.contents c.args.out.now) (writer_state g.W.Write.contents c.loop-i.out) (joined (pool_texts 0 c.args.pools.now))
    (shown_line c.args.module.now.texts (codes "pool") (two_args (arg.Pool c.loop-i.i) (arg.Place (get_or c.args.pools.now c.loop-i.i pool.Conn))) ++ joined
    (pool_texts (c.loop-i.i + 1) (drop (c.loop-i.i + 1) c.args.pools.now)))
left g c =
    subst (Leaves (writer_state g.W.Write.contents c.args.out.now) (writer_state g.W.Write.contents c.loop-i.out) (joined (pool_texts 0 c.args.pools.now)))
    (pools_more c.args.module.now.texts c.args.pools.now c.loop-i.i pool.Conn c.loop-i-test.true) c.loop-i.invariant

pub returns-in_err-put_line : goal.returns-in_err-put_line
returns-in_err-put_line g c =
    leaves_fault _ _ _ _ _ _ c.in_err-put_line.field-0.0 _ c.from_residual.ensures.0 (left g (goal.at.returns-in_err-put_line g c).After-put_line)
    (rw c.two-args.ensures at c.in_err-put_line.ensures)

pub loop-i-preserved : goal.loop-i-preserved
loop-i-preserved g c = leaves_less _ (writer_state g.W.Write.contents c.loop-i.out) _ _ _ _ (left g (goal.at.loop-i-preserved g c).After-put_line)
    (rw c.two-args.ensures at c.in_ok-put_line.ensures)
