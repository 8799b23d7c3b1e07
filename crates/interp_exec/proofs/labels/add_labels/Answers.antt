-- By what is kept.
use Rattle.std.proofs.Common.{rules, ◌≡◌, ℕ, ◌++◌, [], ◌∷◌, length, ap, ◌∙◌}
use Rattle.std.specs.Global.{Vec}
use Rattle.run_model.specs.declared.payload.Payload.{Payload}
use Rattle.interp_exec.proofs.LabelsKept.{labels_added, none_added, none_kept}
use Rattle.interp_exec.proofs.labels.add_labels.Goals as goal

pub returns-then-is_empty-clause-told : goal.returns-then-is_empty-clause-told
returns-then-is_empty-clause-told c =
    let empty : length c.keep_labels.new.ran.items ≡ 0 = search rules in
    none_added c.args.handed.now.items c.args.ran.items c.keep_labels.new.ran.items c.keep_labels.ensures.kept empty

pub returns-clause-told : goal.returns-clause-told
returns-clause-told c =
    let pushed : c.push.new.self.items ≡ c.args.handed.now.items ++ c.of-run.result ∷ [] = search rules in
    labels_added c.args.handed.now.items c.push.new.self.items c.args.ran.items c.of-run.result (ap (λ (v : Vec (ℕ × Payload)). v.items) c.of-run.ensures ∙ c.keep_labels.ensures.kept) pushed

pub returns-clause-none : goal.returns-clause-none
returns-clause-none c none =
    let empty : c.keep_labels.new.ran.items ≡ [] = c.keep_labels.ensures.kept ∙ none_kept c.args.ran.items none in
    search (rules, empty)
