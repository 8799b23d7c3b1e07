use Rattle.std.proofs.Common.{ℕ, false, true, slice_index_or, replicate, ap, ◌∙◌}
use Rattle.std.proofs.lemmas.List.{get_or-replicate}
use Rattle.run_model.specs.Indexed.{upd}
use Rattle.life_check.proofs.Targets.{firsts_are}
use Rattle.life_check.proofs.slim.firsts.Goals as goal

pub returns : goal.returns
returns c = λ pc low.
    let none = λ (k : ℕ). slice_index_or (replicate 1025 false) k false in
    let first = λ (k : ℕ). slice_index_or c.mark.new.leaders k false in
    let second = λ (k : ℕ). slice_index_or c.mark-2.new.leaders k false in
    firsts_are c.args.code.now first second (λ k. slice_index_or c.mark-3.new.leaders k false) none pc (get_or-replicate 1025 pc false false low)
    (c.mark.ensures ∙ ap (λ (m : ℕ). upd none m true) c.main.ensures.value) (c.mark-2.ensures ∙ ap (λ (m : ℕ). upd first m true) c.init.ensures.value) c.mark-3.ensures
