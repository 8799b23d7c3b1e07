-- Place by place; of a cursor that is unset there is no fact.
use Rattle.std.proofs.Common.{◌≡◌, false, refl, sym, ◌∙◌, rules}
use Rattle.std.proofs.lemmas.List.{get_or-replicate}
use Rattle.life_state.specs.Facts.{is_set}
use Rattle.life_state.specs.Seen.{seen, seen_cursors, keep_of}
use Rattle.life_state.proofs.FactLaws.{none_of_unset}
use Rattle.life_state.proofs.state.State.fact_row.Goals as goal

pub returns-then-not-is_set : goal.returns-then-not-is_set
returns-then-not-is_set c =
    let keep = keep_of c.args.keep (seen c.args.self.now) in
    let cursors = seen_cursors c.args.cursors.now in
    let off : is_set (cursors c.args.c) ≡ false = search rules in
    record { long = refl; each = λ d below. get_or-replicate 9 d false false below ∙ sym (none_of_unset keep cursors c.args.c d off) }
