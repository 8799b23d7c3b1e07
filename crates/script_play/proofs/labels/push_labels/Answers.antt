use Rattle.script_play.proofs.LabelLaws.{labels_in_more, labels_in_all, label_at}
use Rattle.script_play.proofs.labels.push_labels.Goals as goal

pub loop-pair-preserved : goal.loop-pair-preserved
loop-pair-preserved c =
    let pair = c.pair-item.result in
    labels_in_more c.args.handed.now c.loop-pair.pair-index pair c.loop-pair.labels c.push_label.new.labels _ c.loop-pair-test.true c.pair-item.is
    (c.in_ok-push_label.ensures pair.0) c.loop-pair.invariant

pub returns : goal.returns
returns c = labels_in_all c.args.handed.now c.loop-pair.pair-index c.loop-pair.labels _ c.loop-pair-test.false c.loop-pair.invariant

pub push_label-requires : goal.push_label-requires
push_label-requires c = label_at c.args.handed.now c.loop-pair.pair-index c.pair-item.result c.loop-pair-test.true c.pair-item.is c.requires
