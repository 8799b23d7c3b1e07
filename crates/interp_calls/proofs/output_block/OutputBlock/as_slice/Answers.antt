-- What lies behind the front is the output.
use Rattle.std.proofs.Common.{ℕ, List, ◌-◌, ap, length, take, drop, sym, ◌∙◌, arith}
use Rattle.std.proofs.lemmas.List.{drop_all, length-drop, take_all}
use Rattle.interp_calls.proofs.output_block.OutputBlock.as_slice.Goals as goal

pub returns-then-all-lt-HEADROOM : goal.returns-then-all-lt-HEADROOM
returns-then-all-lt-HEADROOM c =
    let end = c.self.inside.filled.end in
    let all = take end c.as_slice.result.now in
    let short = c.if-all-lt-HEADROOM.true in
    sym (drop_all 48 all (omega (arith, short))) ∙ (ap (λ (xs : List ℕ). drop 48 (take end xs)) c.as_slice.ensures ∙ c.self.view_is)

pub returns : goal.returns
returns c =
    let end = c.self.inside.filled.end in
    let all = take end c.as_slice.result.now in
    let size = length-drop 48 all in
    take_all (length all - 48) (drop 48 all) (omega (arith, size)) ∙ (ap (λ (xs : List ℕ). drop 48 (take end xs)) c.as_slice.ensures ∙ c.self.view_is)
