-- The bytes lie behind the output, and it behind the front.
use Rattle.std.proofs.Common.{ℕ, List, ◌++◌, length, ap, take, drop, ◌∙◌, arith}
use Rattle.std.proofs.Math.Seq.{take-length}
use Rattle.std.proofs.lemmas.List.{length-take-le, take-take}
use Rattle.std.proofs.lemmas.Result.{err_from_is_err_and}
use Rattle.interp_calls.proofs.Fronts.{kept, longer}
use Rattle.interp_calls.proofs.output_block.Filled.grow_by.Goals as goal

pub returns-clause-ok : goal.returns-clause-ok
returns-clause-ok c =
    let start = c.in_ok-start.start in
    let before = c.make_headroom.new.block in
    let all = c.extend.new.self in
    let bytes = c.args.bytes.now in
    let place = c.in_ok-start.ensures.place in
    ap (λ k. drop 48 (take k all)) c.len-self.ensures
    ∙ (ap (drop 48) (take-length all ∙ (c.in_ok-extend.ensures.ok ∙ ap (λ xs. xs ++ bytes) c.truncate.ensures))
    ∙ (longer 48 start before bytes place.0 place.1 ∙ ap (λ (xs : List ℕ). xs ++ bytes) c.in_ok-start.ensures.same))

pub returns-in_err-start : goal.returns-in_err-start
returns-in_err-start c =
    rw (err_from_is_err_and c.from_residual.result c.from_residual.ensures.1).1 (record {
      ok = tt;
      err = kept 48 c.args.self.now.end c.args.self.now.block c.make_headroom.new.block c.requires c.make_headroom.ensures.front;
      within = (let long = c.make_headroom.ensures.grown in let fits = c.requires in omega (arith, long, fits));
    })

pub returns-in_err-extend : goal.returns-in_err-extend
returns-in_err-extend c =
    let start = c.in_ok-start.start in
    rw (err_from_is_err_and c.from_residual-in_err-extend.result c.from_residual-in_err-extend.ensures.1).1 (record {
      ok = tt;
      err = ap (λ xs. drop 48 (take start xs)) (c.in_err-extend.ensures.err ∙ c.truncate.ensures)
          ∙ (ap (drop 48) (take-take start start c.make_headroom.new.block (omega arith)) ∙ c.in_ok-start.ensures.same);
      within = (let long = ap length (c.in_err-extend.ensures.err ∙ c.truncate.ensures) in let size = length-take-le start c.make_headroom.new.block c.in_ok-start.ensures.place.1 in omega (arith, long, size));
    })
