use Rattle.std.proofs.Common.{rules, subst, sym}
use Rattle.std.proofs.lemmas.Fn.{filter_same}
use Rattle.interp_exec.specs.LabelsKept.{AreLabels}
use Rattle.interp_exec.proofs.LabelsKept.{are_labels}
use Rattle.interp_exec.proofs.labels.keep_labels.Goals as goal

pub returns : goal.returns
returns c =
    let kept = filter_same _ _ _ (λ x b f' k. search rules) _ _ c.retain.ensures.filtered in
    record { kept = kept; labels = subst AreLabels (sym kept) (are_labels c.args.ran.now.items) }
