-- One that does not decides, and all do where the loop ends.
use Rattle.std.proofs.Common.{◌≡◌, ◌<◌, ℕ, Bool, ◌||◌, not, true, false, is_some, length, sym, ap, ◌∙◌, arith, below_more}
use Rattle.life_state.proofs.Below.{all_below_holds, all_below_fails}
use Rattle.life_check.specs.Seen.{seen_cert}
use Rattle.life_check.specs.Slim.{is_leader}
use Rattle.life_check.proofs.Meant.{ends_with_lines, line_inside}
use Rattle.life_check.proofs.shape.at_leaders.Goals as goal

pub stands_at_leader-stands-requires-clause-few : goal.stands_at_leader-stands-requires-clause-few
stands_at_leader-stands-requires-clause-few c = λ some.
    let d = c.args.cert.now in
    let inside : c.loop-pc.pc < length c.args.code.now.code
    = line_inside c.args.code.now (seen_cert d) (ends_with_lines d) c.requires.shape c.loop-pc.pc (ap is_some (sym c.state.ensures) ∙ some) in
    omega (arith, inside, c.len-count.ensures.count, c.len-count.ensures.small)

pub loop-pc-preserved : goal.loop-pc-preserved
loop-pc-preserved c =
    let holds : ℕ → Bool = λ k. is_leader c.args.code.now k || not (is_some ((seen_cert c.args.cert.now).at k)) in
    let here : holds c.loop-pc.pc ≡ true = ap (λ o. is_leader c.args.code.now c.loop-pc.pc || not (is_some o)) (sym c.state.ensures) ∙ (sym c.stands_at_leader-stands.ensures ∙ c.if-not-stands.false) in
    below_more (λ k. holds k ≡ true) c.loop-pc.pc c.loop-pc.invariant here

pub returns-then-not-stands : goal.returns-then-not-stands
returns-then-not-stands c =
    let holds : ℕ → Bool = λ k. is_leader c.args.code.now k || not (is_some ((seen_cert c.args.cert.now).at k)) in
    let here : holds c.loop-pc.pc ≡ false = ap (λ o. is_leader c.args.code.now c.loop-pc.pc || not (is_some o)) (sym c.state.ensures) ∙ (sym c.stands_at_leader-stands.ensures ∙ c.if-not-stands.true) in
    sym (all_below_fails (length c.args.cert.now.at.items) c.loop-pc.pc holds (omega arith) here)

pub returns : goal.returns
returns c =
    let holds : ℕ → Bool = λ k. is_leader c.args.code.now k || not (is_some ((seen_cert c.args.cert.now).at k)) in
    sym (all_below_holds (length c.args.cert.now.at.items) holds (λ k below. c.loop-pc.invariant k (omega arith)))
