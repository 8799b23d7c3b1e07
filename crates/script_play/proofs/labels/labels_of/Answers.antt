use Rattle.std.proofs.Common.{ap, ◌∙◌, ◌++◌}
use Rattle.run_model.specs.Payloads.{labels_in}
use Rattle.script_play.proofs.LabelLaws.{handed_more, handed_all}
use Rattle.script_play.proofs.labels.labels_of.Goals as goal

pub loop-handed-preserved : goal.loop-handed-preserved
loop-handed-preserved c =
    let handed = c.handed-item.result in
    let added = c.in_ok-push_labels.ensures ∙ ap (λ xs. c.loop-handed.labels ++ labels_in xs) c.as_slice.ensures.payloads in
    handed_more c.args.runs.now c.loop-handed.handed-index handed c.loop-handed.labels c.push_labels.new.labels _ c.loop-handed-test.true c.handed-item.is added c.loop-handed.invariant

pub returns : goal.returns
returns c = handed_all c.args.runs.now c.loop-handed.handed-index c.loop-handed.labels _ c.loop-handed-test.false c.loop-handed.invariant
