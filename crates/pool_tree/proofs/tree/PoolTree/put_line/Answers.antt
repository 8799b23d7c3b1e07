use Rattle.std.proofs.Common.{◌≡◌, ◌∙◌, ◌++◌, ◌∷◌, [], sym, ap, codes, decimal}
use Rattle.byte_text.specs.Writes.{writer_state}
use Rattle.byte_text.proofs.WritingLaws.{appends_then, all_then, wrote_all}
use Rattle.pool_tree.specs.Printed.{margin, marked_all, spaced_all, line}
use Rattle.run_model.specs.Pools.{Cleanups}
use Rattle.pool_tree.specs.Tree.{map_of}
use Rattle.pool_tree.proofs.Trees.{tree_payloads}
use Rattle.pool_tree.proofs.tree.PoolTree.put_line.Goals as goal

pub returns : goal.returns
unfolding line
returns g c =
    let w = writer_state g.W.Write.contents in
    let start = w c.args.out.now in
    let front = margin c.args.depth in
    let digits : c.as_bytes.result.now ≡ decimal c.args.pool = c.as_bytes.ensures.value ∙ c.format.ensures.text in
    let held = (map_of c.args.self.now).payloads c.args.pool in
    let early : c.payloads.result.now ≡ held.pre = c.payloads.ensures ∙ ap (λ (h : Cleanups g.row.T.Denot). h.pre) (sym (tree_payloads c.args.self.now c.args.pool)) in
    let plain : c.payloads-2.result.now ≡ held.plain = c.payloads-2.ensures ∙ ap (λ (h : Cleanups g.row.T.Denot). h.plain) (sym (tree_payloads c.args.self.now c.args.pool)) in
    let first = marked_all g.T.PoolText.shown held.pre in
    let texts = spaced_all g.T.PoolText.shown held.plain in
    let word = appends_then start (w c.put_margin.new.out) (w c.put_all.new.out) front (codes "pool ") c.in_ok-put_margin.ensures c.in_ok-put_all.ensures in
    let number = appends_then start (w c.put_all.new.out) (w c.put_all-2.new.out) (front ++ codes "pool ") (decimal c.args.pool) word (rw digits at c.in_ok-put_all-2.ensures) in
    let some = appends_then start (w c.put_all-2.new.out) (w c.put_pre_payloads.new.out) (front ++ codes "pool " ++ decimal c.args.pool) first number (rw early at c.in_ok-put_pre_payloads.ensures) in
    let all = appends_then start (w c.put_pre_payloads.new.out) (w c.put_payloads.new.out) (front ++ codes "pool " ++ decimal c.args.pool ++ first) texts some (rw plain at c.in_ok-put_payloads.ensures) in
    all_then start (w c.put_payloads.new.out) (w c.put_all-3.new.out) (front ++ codes "pool " ++ decimal c.args.pool ++ first ++ texts) (10 ∷ []) c.put_all-3.result all
    (wrote_all (w c.put_payloads.new.out) (w c.put_all-3.new.out) (10 ∷ []) c.put_all-3.result c.put_all-3.ensures)
