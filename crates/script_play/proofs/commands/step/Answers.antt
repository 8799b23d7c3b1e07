use Rattle.std.proofs.Common.{◌≡◌, true, false, refl, ap, sym, subst, ◌∙◌, Ok, ◌-◌}
use Rattle.std.specs.Prelude.{Result}
use Rattle.run_model.specs.declared.event.Refusal.{Refusal}
use Rattle.run_model.specs.declared.event.Stepped.{Stepped}
use Rattle.run_model.specs.declared.event.Stepped.TheVariants as stepped
use Rattle.bucket_kinds.specs.MemDevice.{mem_device}
use Rattle.filter_chain.specs.Led.{RefinesFrom}
use Rattle.filter_chain.specs.Running.{StepsOn}
use Rattle.script_text.specs.declared.reply.CommandReply.TheVariants as reply
use Rattle.script_play.specs.Plays.{is_fault}
use Rattle.script_play.proofs.Served.{answer_told, step_well, steps_served}
use Rattle.script_play.proofs.commands.step.Goals as goal

pub returns-then-went-clause-served : goal.returns-then-went-clause-served
returns-then-went-clause-served g c w hosts =
    let went : c.step_up_to-answer.result ≡ Ok stepped.Went = c.went.ensures.0 c.if-went.true in
    let taken = subst (λ (a : Result Stepped Refusal). RefinesFrom mem_device c.args.host.now c.step_up_to-answer.new.self (λ b d s t. StepsOn b d c.args.number (c.args.count - 1) s a t) w) went
    (c.step_up_to-answer.ensures.steps w hosts) in
    steps_served c.args.host.now c.step_up_to-answer.new.self c.args.number c.args.count (Ok stepped.Went) (reply.Went c.args.count) w refl taken

pub returns-clause-served : goal.returns-clause-served
returns-clause-served g c w hosts =
    let told = c.stepped.ensures ∙ answer_told c.args.count c.step_up_to-answer.result (λ h. absurd (let clash : true ≡ false = sym (c.went.ensures.1 h) ∙ c.if-went.false in cc)) in
    steps_served c.args.host.now c.step_up_to-answer.new.self c.args.number c.args.count c.step_up_to-answer.result c.stepped.result w told (c.step_up_to-answer.ensures.steps w hosts)

pub returns-clause-safe : goal.returns-clause-safe
returns-clause-safe g c safe = ap is_fault c.stepped.ensures ∙ step_well c.step_up_to-answer.result (c.step_up_to-answer.ensures.safe safe)
