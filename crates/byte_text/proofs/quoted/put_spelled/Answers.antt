use Rattle.std.proofs.Common.{◌≡◌, ◌+◌, ◌++◌, ◌∙◌, ap, arith, drop, get_or, subst}
use Rattle.byte_text.specs.Quoted.{spelled, spelled_all}
use Rattle.byte_text.proofs.ListLaws.{drop_here}
use Rattle.byte_text.specs.Writes.{writer_state}
use Rattle.byte_text.proofs.WritingLaws.{Leaves, leaves_fault, leaves_less}
use Rattle.byte_text.proofs.quoted.put_spelled.Goals as goal

pub returns-in_err-put_all : goal.returns-in_err-put_all
returns-in_err-put_all g c =
    let w = writer_state g.W.Write.contents in
    let text = c.args.text.now in
    let i = c.loop-byte.byte-index in
    let whole = spelled_all text in
    let x = spelled (get_or text i 0) in
    let rest = spelled_all (drop (i + 1) text) in
    let here : spelled_all (drop i text) ≡ x ++ rest = ap spelled_all (drop_here text i 0 (omega arith)) in
    let left = subst (Leaves (w c.args.out.now) (w c.loop-byte.out) whole) here c.loop-byte.invariant in
    let same : c.as_slice.result.now ≡ x = c.as_slice.ensures ∙ c.spelled_byte.ensures in
    leaves_fault (w c.args.out.now) (w c.loop-byte.out) (w c.put_all.new.out) whole x rest c.in_err-put_all.field-0.0 c.from_residual.result c.from_residual.ensures.0 left
    (rw same at c.in_err-put_all.ensures)

pub loop-byte-preserved : goal.loop-byte-preserved
loop-byte-preserved g c =
    let w = writer_state g.W.Write.contents in
    let text = c.args.text.now in
    let i = c.loop-byte.byte-index in
    let whole = spelled_all text in
    let x = spelled (get_or text i 0) in
    let rest = spelled_all (drop (i + 1) text) in
    let here : spelled_all (drop i text) ≡ x ++ rest = ap spelled_all (drop_here text i 0 (omega arith)) in
    let left = subst (Leaves (w c.args.out.now) (w c.loop-byte.out) whole) here c.loop-byte.invariant in
    let same : c.as_slice.result.now ≡ x = c.as_slice.ensures ∙ c.spelled_byte.ensures in
    leaves_less (w c.args.out.now) (w c.loop-byte.out) (w c.put_all.new.out) whole x rest left (rw same at c.in_ok-put_all.ensures)
