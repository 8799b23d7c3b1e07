use Rattle.std.proofs.Common.{◌++◌, codes}
use Rattle.module_lang.specs.Shown.{shown_declarations}
use Rattle.module_lang.specs.Texts.{brigade_texts, joined, pool_texts}
use Rattle.byte_text.specs.Writes.{writer_state}
use Rattle.module_lang.proofs.PrintedText.{homes_declared, pools_declared}
use Rattle.byte_text.proofs.WritingLaws.{Leaves, leaves_all, leaves_fault, leaves_last, leaves_less}
use Rattle.module_lang.proofs.print.put_declarations.Given.{Over}
use Rattle.module_lang.proofs.print.put_declarations.Goals as goal
use Rattle.module_lang.proofs.print.put_declarations.Goals.{In_ok-put_all, In_ok-put_pools}

pub put_pools-requires-clause-short : goal.put_pools-requires-clause-short
put_pools-requires-clause-short g c = rw c.pools.ensures (pools_declared c.args.module.now c.requires)

pub put_brigades-requires-clause-short : goal.put_brigades-requires-clause-short
put_brigades-requires-clause-short g c = rw c.brigades.ensures (homes_declared c.args.module.now c.requires)

-- What is left behind the line of the version, and behind the pools.
versioned : (g : Over) (c : In_ok-put_all g) → Leaves (writer_state g.W.Write.contents c.args.out.now) (writer_state g.W.Write.contents c.put_all.new.out)
    (shown_declarations c.args.module.now) (joined (pool_texts 0 c.args.module.now.pools) ++ joined (brigade_texts 0 c.args.module.now.brigades))
unfolding shown_declarations
versioned g c = leaves_less _ (writer_state g.W.Write.contents c.args.out.now) _ _ _
    (joined (pool_texts 0 c.args.module.now.pools) ++ joined (brigade_texts 0 c.args.module.now.brigades))
    (leaves_all (writer_state g.W.Write.contents c.args.out.now) (shown_declarations c.args.module.now)) c.in_ok-put_all.ensures

with_pools : (g : Over) (c : In_ok-put_pools g) → Leaves (writer_state g.W.Write.contents c.args.out.now) (writer_state g.W.Write.contents c.put_all.new.out)
    (shown_declarations c.args.module.now) (joined (pool_texts 0 c.args.module.now.pools) ++ joined (brigade_texts 0 c.args.module.now.brigades))
    → Leaves (writer_state g.W.Write.contents c.args.out.now) (writer_state g.W.Write.contents c.put_pools.new.out) (shown_declarations c.args.module.now)
    (joined (brigade_texts 0 c.args.module.now.brigades))
with_pools g c left = leaves_less _ (writer_state g.W.Write.contents c.put_all.new.out) _ _ _ (joined (brigade_texts 0 c.args.module.now.brigades)) left
    (rw c.pools.ensures at c.in_ok-put_pools.ensures)

pub returns-in_err-put_all : goal.returns-in_err-put_all
unfolding shown_declarations
returns-in_err-put_all g c =
    leaves_fault _ _ _ _ (codes "module 1\n") (joined (pool_texts 0 c.args.module.now.pools) ++ joined
    (brigade_texts 0 c.args.module.now.brigades)) c.in_err-put_all.field-0.0 _ c.from_residual.ensures.0
    (leaves_all (writer_state g.W.Write.contents c.args.out.now) (shown_declarations c.args.module.now)) c.in_err-put_all.ensures

pub returns-in_err-put_pools : goal.returns-in_err-put_pools
returns-in_err-put_pools g c =
    let p = goal.at.returns-in_err-put_pools g c in
    leaves_fault _ _ _ _ _ _ c.in_err-put_pools.field-0.0 _ c.from_residual-in_err-put_pools.ensures.0 (versioned g p.In_ok-put_all)
    (rw c.pools.ensures at c.in_err-put_pools.ensures)

pub returns : goal.returns
returns g c =
    let p = goal.at.returns g c in
    leaves_last _ _ _ _ _ _ (with_pools g p.In_ok-put_pools (versioned g p.In_ok-put_all)) (rw c.brigades.ensures at c.put_brigades.ensures)
