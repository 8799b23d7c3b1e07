use Rattle.std.proofs.Common.{◌≡◌, true, false, sym, ◌∙◌, arith}
use Rattle.http_front.specs.Nearing.{slice_steps}
use Rattle.http_front.proofs.FewLaws.{few_steps}
use Rattle.http_front.proofs.SliceSteps.{sliced_ends, sliced_on}
use Rattle.http_front.proofs.slicing.step_slice.Goals as goal

pub returns-then-went-clause-leads : goal.returns-then-went-clause-leads
returns-then-went-clause-leads g c way =
    sliced_on g.F.Files.device c.args.number way c.args.host.now c.step_up_to-answer.new.self _ c.step_up_to-answer.result c.step_up_to-answer.ensures.steps (c.went.ensures.0 c.if-went.true)

pub returns-clause-leads : goal.returns-clause-leads
returns-clause-leads g c way =
    sliced_ends g.F.Files.device c.args.number way c.args.host.now c.step_up_to-answer.new.self _ c.step_up_to-answer.result c.step_up_to-answer.ensures.steps c.how_ended.result
    (λ h. absurd (let clash : true ≡ false = sym (c.went.ensures.1 h) ∙ c.if-went.false in cc)) c.how_ended.ensures

pub returns-then-went-clause-few : goal.returns-then-went-clause-few
returns-then-went-clause-few g c from n so =
    few_steps g.F.Files.device c.args.number from c.args.host.now n so c.step_up_to-answer.new.self _ slice_steps c.step_up_to-answer.result (omega arith) c.step_up_to-answer.ensures.steps

pub returns-clause-few : goal.returns-clause-few
returns-clause-few g c from n so =
    few_steps g.F.Files.device c.args.number from c.args.host.now n so c.step_up_to-answer.new.self _ slice_steps c.step_up_to-answer.result (omega arith) c.step_up_to-answer.ensures.steps
