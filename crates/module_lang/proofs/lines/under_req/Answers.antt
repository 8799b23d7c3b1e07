-- A look at a parent is one of those that are left.
use Rattle.std.proofs.Common.{◌≡◌, ℕ, suc, ◌+◌, ◌-◌, Bool, List, slice_index_or, arith}
use Rattle.module_lang.specs.Lines.{under_req}
use Rattle.module_code.specs.declared.instr.PoolRef.{PoolRef}
use Rattle.module_code.specs.declared.instr.PoolRef.TheVariants as pool
use Rattle.module_lang.proofs.lines.under_req.Goals as goal

look : (n m : ℕ) (pools : List PoolRef) (p next : PoolRef) (i : ℕ) (b : Bool) → m ≡ suc n → p ≡ pool.Own i → next ≡ slice_index_or pools i pool.Conn → under_req m pools p ≡ b
    → under_req n pools next ≡ b
look n m pools p next i b e f g h = rw g (rw (e, f) at h)

pub loop-preserved : goal.loop-preserved
loop-preserved c =
    look (9 - (c.loop.counter + 1)) (9 - c.loop.counter) c.args.pools.now c.loop.at c.parent_of-at.result c.in-Own.i _ (omega arith) c.in-Own.is c.parent_of-at.ensures c.loop.invariant
