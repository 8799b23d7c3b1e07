-- A line is written, and the walk goes on below or behind.
use Rattle.std.proofs.Common.{◌≡◌, true, Option, Some, ℕ, ◌+◌, List, [], ◌++◌, reverse, length, sym, ap, subst, ◌∙◌, arith}
use Rattle.std.specs.List.{flat_map}
use Rattle.std.proofs.lemmas.List.{append-nil, append_assoc, length-append}
use Rattle.run_model.specs.Pools.{is_live}
use Rattle.run_model.specs.RunOrder.{children}
use Rattle.byte_text.specs.Writes.{writer_state}
use Rattle.byte_text.proofs.WritingLaws.{appends_then, appends_none, appends_same}
use Rattle.pool_tree.specs.declared.tree.PoolTree.{PoolTree}
use Rattle.pool_tree.specs.Left.{IsPlace, text_behind, text_left}
use Rattle.pool_tree.specs.Printed.{line, printed}
use Rattle.pool_tree.specs.Tree.{map_of}
use Rattle.pool_tree.proofs.Left.{behind_top, if_some, line_some, none_of, place_top}
use Rattle.pool_tree.proofs.Printing.{printed_step}
use Rattle.pool_tree.proofs.Trees.{tree_formed}
use Rattle.pool_tree.proofs.tree.PoolTree.put_pool.Goals as goal

-- what is left where a walk comes to a pool is the line of it, and what is left behind that line
line_first : {T : Type 0} (shown : T → List ℕ) (tree : PoolTree T) (top start : ℕ) (place next : Option (ℕ × ℕ)) (name level : ℕ) → place ≡ Some (name, level)
    → is_live (map_of tree) name ≡ true
    → text_left (printed shown (map_of tree)) tree top start next
    ≡ flat_map (printed shown (map_of tree) (level + 1)) (reverse (children (map_of tree) name)) ++ text_behind (printed shown (map_of tree)) tree top start name
    → text_left (printed shown (map_of tree)) tree top start place ≡ line shown (map_of tree) level name ++ text_left (printed shown (map_of tree)) tree top start next
line_first shown tree top start place next name level is live left =
    let text = printed shown (map_of tree) in
    let under = flat_map (text (level + 1)) (reverse (children (map_of tree) name)) in
    let behind = text_behind text tree top start name in
    let first = line shown (map_of tree) level name in
    ap (text_left text tree top start) is
    ∙ ap (λ (xs : List ℕ). xs ++ behind) (printed_step shown (map_of tree) (tree_formed tree) level name live)
    ∙ append_assoc first under behind
    ∙ ap (λ (xs : List ℕ). first ++ xs) (sym left)

pub loop-place-init : goal.loop-place-init
loop-place-init g c =
    let tree = c.args.self.now in
    let pool = c.args.pool in
    let depth = c.args.depth in
    let text = printed g.T.PoolText.shown (map_of tree) in
    record {
      front = ([], (appends_none (writer_state g.W.Write.contents c.args.out.now), ap (λ (xs : List ℕ). text depth pool ++ xs) (behind_top tree text pool depth c.requires.live) ∙ append-nil (text depth pool)));
      place = λ p is. (let e : (pool, depth) ≡ p = cc in subst (λ (q : ℕ × ℕ). IsPlace tree pool depth q.0 q.1) e (place_top tree pool depth c.requires.live c.requires.small));
    }

pub below-place-requires : goal.below-place-requires
below-place-requires g c = (c.args.depth, c.loop-place.invariant.place (c.in-Some.name, c.in-Some.level) c.in-Some.is)

pub loop-place-smaller : goal.loop-place-smaller
loop-place-smaller g c =
    let tree = c.args.self.now in
    let text = printed g.T.PoolText.shown (map_of tree) in
    let name = c.in-Some.name in
    let level = c.in-Some.level in
    let at = c.loop-place.invariant.place (name, level) c.in-Some.is in
    let step = line_first g.T.PoolText.shown tree c.args.pool c.args.depth c.loop-place.place c.below-place.result name level c.in-Some.is at.live (c.below-place.ensures.left text c.args.depth at) in
    let first = line g.T.PoolText.shown (map_of tree) level name in
    omega (arith, ap length step, line_some g.T.PoolText.shown (map_of tree) level name, length-append first (text_left text tree c.args.pool c.args.depth c.below-place.result))

pub loop-place-preserved : goal.loop-place-preserved
loop-place-preserved g c =
    let tree = c.args.self.now in
    let i = c.loop-place.invariant in
    let name = c.in-Some.name in
    let level = c.in-Some.level in
    let at = i.place (name, level) c.in-Some.is in
    let text = printed g.T.PoolText.shown (map_of tree) in
    let left = c.below-place.ensures.left text c.args.depth at in
    let step = line_first g.T.PoolText.shown tree c.args.pool c.args.depth c.loop-place.place c.below-place.result name level c.in-Some.is at.live left in
    let first = line g.T.PoolText.shown (map_of tree) level name in
    let written = i.front.0 in
    record {
      front = (
        written ++ first,
        (
          appends_then (writer_state g.W.Write.contents c.args.out.now) (writer_state g.W.Write.contents c.loop-place.out) (writer_state g.W.Write.contents c.put_line.new.out) written first i.front.1.0 c.in_ok-put_line.ensures,
          append_assoc written first (text_left text tree c.args.pool c.args.depth c.below-place.result) ∙ (ap (λ (xs : List ℕ). written ++ xs) (sym step) ∙ i.front.1.1),
        ),
      );
      place = λ p is. if_some (λ (q : ℕ × ℕ). IsPlace tree c.args.pool c.args.depth q.0 q.1) c.below-place.result (c.below-place.ensures.place c.args.depth at) p is;
    }

pub returns : goal.returns
returns g c =
    let tree = c.args.self.now in
    let text = printed g.T.PoolText.shown (map_of tree) in
    let i = c.loop-place.invariant in
    let none = none_of c.loop-place.place c.in_default.not-Some in
    appends_same (writer_state g.W.Write.contents c.args.out.now) (writer_state g.W.Write.contents c.loop-place.out) i.front.0 (text c.args.depth c.args.pool)
    (sym (append-nil i.front.0) ∙ (ap (λ o. i.front.0 ++ text_left text tree c.args.pool c.args.depth o) (sym none) ∙ i.front.1.1)) i.front.1.0
