-- By the pool above and the next younger one.
use Rattle.std.proofs.Common.{◌≡◌, ◌∙◌, sym, ap, subst, true, Some, ℕ, arith}
use Rattle.run_model.specs.Pools.{is_live}
use Rattle.pool_tree.specs.Tree.{map_of}
use Rattle.pool_tree.specs.Left.{text_behind, text_left}
use Rattle.pool_tree.proofs.Left.{parent_is, no_end, level_above, place_above, place_beside, behind_top, behind_up, behind_beside}
use Rattle.pool_tree.proofs.Printing.{none_by}
use Rattle.pool_tree.proofs.tree.PoolTree.behind.Goals as goal

pub returns-in-Some-clause-place : goal.returns-in-Some-clause-place
returns-in-Some-clause-place g c start first =
    let at = c.loop-name.invariant.place start first in
    let up = parent_is c.args.self.now c.args.top start c.loop-name.name c.loop-name.level at c.loop-name-test.true in
    (place_beside c.args.self.now c.args.top start c.loop-name.name c.loop-name.level up.0 c.in-Some.younger at c.loop-name-test.true up.1 (sym c.younger.ensures ∙ c.in-Some.is)).0

pub returns-in-Some-clause-left : goal.returns-in-Some-clause-left
returns-in-Some-clause-left g c text start first =
    let tree = c.args.self.now in
    let top = c.args.top in
    let at = c.loop-name.invariant.place start first in
    let up = parent_is tree top start c.loop-name.name c.loop-name.level at c.loop-name-test.true in
    let young = sym c.younger.ensures ∙ c.in-Some.is in
    let beside = place_beside tree top start c.loop-name.name c.loop-name.level up.0 c.in-Some.younger at c.loop-name-test.true up.1 young in
    ap (λ (l : ℕ). text_left text tree top start (Some (c.in-Some.younger, l))) at.level_is
    ∙ (behind_beside tree text top start c.loop-name.name up.0 c.in-Some.younger up.1 c.loop-name-test.true beside.1 young ∙ c.loop-name.invariant.same text start first)

pub unreachable-requires : goal.unreachable-requires
unreachable-requires g c =
    let start = c.requires.0 in
    no_end c.args.self.now c.args.top start c.loop-name.name c.loop-name.level (c.loop-name.invariant.place start c.requires.1) c.loop-name-test.true
    (sym c.parent.ensures ∙ none_by c.parent.result c.in_default-parent.not-Some)

pub overflow_sub-level : goal.overflow_sub-level
overflow_sub-level g c =
    let start = c.requires.0 in
    let l = level_above c.args.self.now c.args.top start c.loop-name.name c.loop-name.level c.in-Some-parent.parent (c.loop-name.invariant.place start c.requires.1) c.loop-name-test.true
    (sym c.parent.ensures ∙ c.in-Some-parent.is) in
    omega (arith, l)

pub loop-name-preserved : goal.loop-name-preserved
loop-name-preserved g c =
    let tree = c.args.self.now in
    let top = c.args.top in
    let i = c.loop-name.invariant in
    let up = sym c.parent.ensures ∙ c.in-Some-parent.is in
    record {
      place = λ start first. place_above tree top start c.loop-name.name c.loop-name.level c.in-Some-parent.parent (i.place start first) c.loop-name-test.true up;
      same = λ text start first. behind_up tree text top start c.loop-name.name c.in-Some-parent.parent up c.loop-name-test.true
          (sym c.younger.ensures ∙ none_by c.younger.result c.in_default.not-Some) ∙ i.same text start first;
    }

pub returns-clause-left : goal.returns-clause-left
returns-clause-left g c text start first =
    let tree = c.args.self.now in
    let top = c.args.top in
    let here : c.loop-name.name ≡ top = c.loop-name-test.false in
    let live = subst (λ (n : ℕ). is_live (map_of tree) n ≡ true) here (c.loop-name.invariant.place start first).live in
    sym (behind_top tree text top start live) ∙ (ap (λ (n : ℕ). text_behind text tree top start n) (sym here) ∙ c.loop-name.invariant.same text start first)
