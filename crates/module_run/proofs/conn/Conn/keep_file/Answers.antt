-- Without memory nothing is changed.
use Rattle.std.proofs.Common.{refl}
use Rattle.std.proofs.lemmas.Result.{err_from_is_err_and}
use Rattle.pool_tree.proofs.Trees.{tree_formed}
use Rattle.module_run.proofs.conn.Conn.keep_file.Goals as goal

pub returns-in_err-reserve : goal.returns-in_err-reserve
returns-in_err-reserve g c =
    let p = err_from_is_err_and c.from_residual.result c.from_residual.ensures.1 in
    let s = c.reserve.ensures.items in
    let t = tree_formed c.args.tree.now in
    rw p.1
    (record { files = tt; rest = refl; same = s; map = tt; counted = tt; lists = refl; brigades = refl; pools = refl; next = refl; formed = t; kept = refl; uncounted = λ f. refl; house = λ h. h })

pub returns-in_err-refer : goal.returns-in_err-refer
returns-in_err-refer g c =
    let p = err_from_is_err_and c.from_residual-in_err-refer.result c.from_residual-in_err-refer.ensures.1 in
    let e = c.in_err-refer.ensures in
    rw p.1 (record {
      files = tt;
      rest = refl;
      same = c.reserve.ensures.items;
      map = tt;
      counted = tt;
      lists = e.lists;
      brigades = e.brigades;
      pools = e.pools;
      next = e.next;
      formed = e.formed;
      kept = e.kept;
      uncounted = e.uncounted;
      house = e.house;
    })
