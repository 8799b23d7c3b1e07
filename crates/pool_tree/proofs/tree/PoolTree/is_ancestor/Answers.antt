use Rattle.std.proofs.Common.{◌∙◌, sym}
use Rattle.pool_tree.proofs.Trees.{above_live, under_step, under_top, under_end}
use Rattle.pool_tree.proofs.tree.PoolTree.is_ancestor.Goals as goal

pub loop-current-preserved : goal.loop-current-preserved
loop-current-preserved g c = record {
  live = above_live c.args.self.now c.loop-current.current c.in-Some.parent (sym c.in-Some.ensures);
  same =
      sym (under_step c.args.self.now c.args.ancestor c.loop-current.current c.in-Some.parent c.loop-current-test.true (sym c.in-Some.ensures))
      ∙ c.loop-current.invariant.same;
}

pub returns-in-None : goal.returns-in-None
returns-in-None g c =
    sym (under_top c.args.self.now c.args.ancestor c.loop-current.current c.loop-current-test.true (sym c.in-None.ensures)) ∙ c.loop-current.invariant.same

pub returns : goal.returns
returns g c =
    sym (under_end c.args.self.now c.args.ancestor c.loop-current.current c.loop-current-test.false c.loop-current.invariant.live)
    ∙ c.loop-current.invariant.same
