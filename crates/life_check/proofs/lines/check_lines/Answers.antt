-- The first line that refuses decides, and none does where the loop ends.
use Rattle.std.proofs.Common.{◌≡◌, ℕ, Option, Some, None, length, refl, sym, ◌∙◌, arith, rules, below_more}
use Rattle.life_check.specs.declared.refusal.CheckRefusal.{CheckRefusal}
use Rattle.life_check.specs.Slim.{meant}
use Rattle.life_check.specs.Typed.{refusal_at}
use Rattle.life_check.proofs.Firsts.{none_below, some_below}
use Rattle.life_check.proofs.Meant.{meant_head}
use Rattle.life_check.proofs.Targets.{first_head}
use Rattle.life_check.proofs.lines.check_lines.Goals as goal

pub loop-pc-init : goal.loop-pc-init
loop-pc-init c = record {
  none = λ k low. absurd (omega arith);
  here = c.state-here.ensures ∙ sym (meant_head c.args.code.now c.args.cert.now 0 (first_head c.args.code.now 0 refl));
}

pub check_line-requires-clause-here : goal.check_line-requires-clause-here
check_line-requires-clause-here c = c.loop-pc.invariant.here

pub returns-in_err-here-clause-first : goal.returns-in_err-here-clause-first
returns-in_err-here-clause-first c =
    let f : ℕ → Option CheckRefusal = refusal_at c.args.code.now (meant c.args.code.now c.args.cert.now) in
    let here : f c.loop-pc.pc ≡ Some c.in_err-here.field-0.0 = search rules in
    let first = some_below (length c.args.code.now.code) c.loop-pc.pc f c.in_err-here.field-0.0 (omega arith) c.loop-pc.invariant.none here in
    search rules

pub loop-pc-preserved : goal.loop-pc-preserved
loop-pc-preserved c =
    let f : ℕ → Option CheckRefusal = refusal_at c.args.code.now (meant c.args.code.now c.args.cert.now) in
    let here : f c.loop-pc.pc ≡ None = search rules in
    record { none = below_more (λ k. f k ≡ None) c.loop-pc.pc c.loop-pc.invariant.none here; here = c.in_ok-here.ensures.next }

pub returns-clause-first : goal.returns-clause-first
returns-clause-first c =
    let f : ℕ → Option CheckRefusal = refusal_at c.args.code.now (meant c.args.code.now c.args.cert.now) in
    none_below (length c.args.code.now.code) f (λ k below. c.loop-pc.invariant.none k (omega arith))
