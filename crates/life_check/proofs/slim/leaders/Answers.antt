use Rattle.std.proofs.Common.{◌≡◌, ℕ, Bool, false, true, length, slice_index_or, sym, ap, ◌∙◌, arith}
use Rattle.run_model.specs.Indexed.{upd}
use Rattle.life_check.specs.Slim.{is_leader}
use Rattle.life_check.proofs.Targets.{is_marked, none_marked, one_more}
use Rattle.life_check.proofs.slim.leaders.Goals as goal

pub loop-pc-init : goal.loop-pc-init
loop-pc-init c = λ k low. c.firsts-leaders.ensures k low ∙ sym (none_marked c.args.code.now k)

pub loop-pc-preserved : goal.loop-pc-preserved
loop-pc-preserved c = λ k low.
    let old = λ (j : ℕ). slice_index_or c.loop-pc.leaders j false in
    ap (λ (f : ℕ → Bool). f k) c.mark.ensures
    ∙ (ap (λ (m : ℕ). upd old m true k) c.target.ensures ∙ one_more c.args.code.now c.loop-pc.pc k c.at.result old c.at.ensures.value (c.loop-pc.invariant k low))

pub returns : goal.returns
unfolding is_leader
returns c = λ k low.
    let all : c.loop-pc.pc ≡ length c.args.code.now.code = omega (arith, c.len-count.ensures.count) in
    c.loop-pc.invariant k low ∙ ap (λ (n : ℕ). is_marked c.args.code.now n k) all
