-- One row is another, and in it one place.
use Rattle.std.proofs.Common.{◌≡◌, ℕ, Bool, true, false, List, [], length, slice_index_or, ap, ◌∙◌, arith}
use Rattle.run_model.specs.Indexed.{upd}
use Rattle.life_state.specs.Seen.{seen, seen_facts}
use Rattle.life_state.specs.States.{State}
use Rattle.life_state.proofs.Arrays.{read_set_at}
use Rattle.life_state.proofs.state.State.write_fact.Goals as goal

pub returns : goal.returns
unfolding seen
returns c =
    let s = c.args.self.now in
    let rows : length s.facts ≡ 9 = omega arith in
    let of : (ℕ → ℕ → Bool) → State = λ f. record (seen s) { facts = f } in
    let read : List Bool → ℕ → Bool = λ row j. slice_index_or row j false in
    let row : read c.set_true.new.row ≡ upd (read (slice_index_or s.facts c.args.c [])) c.args.d true = rw c.from.ensures at c.set_true.ensures in
    ap of (read_set_at read [] s.facts c.args.c c.from.result c.set_true.new.row c.from.ensures (omega arith) ∙ ap (upd (seen_facts s.facts) c.args.c) row)
