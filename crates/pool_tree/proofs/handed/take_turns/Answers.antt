use Rattle.std.proofs.Common.{◌∙◌, ◌≡◌, List, ◌∷◌, ◌++◌, sym, ap, subst, arith, length, reverse}
use Rattle.std.specs.List.{flat_map}
use Rattle.std.proofs.lemmas.List.{append_assoc, length-append}
use Rattle.run_model.specs.RunOrder.{Turn}
use Rattle.pool_tree.specs.Records.{record_of}
use Rattle.pool_tree.specs.Handed.{own_of, IsOnce, seen_of, after_turns}
use Rattle.pool_tree.proofs.Handing.{once_tail, once_head, own_same, rest_same, last_first}
use Rattle.pool_tree.proofs.handed.take_turns.Goals as goal

pub loop-turn-preserved : goal.loop-turn-preserved
loop-turn-preserved g c =
    let x = c.in-Some.turn in
    let turns = reverse c.pop.new.self.items in
    let turned : reverse c.loop-turn.turns.items ≡ x ∷ turns = last_first c.loop-turn.turns.items c.pop.new.self.items x c.in-Some.ensures.items in
    let once : IsOnce (x ∷ turns) = subst IsOnce turned c.loop-turn.invariant.once in
    let same = own_same (record_of c.loop-turn.records) (record_of c.take_turn.new.records) x c.take_turn.ensures.rest turns (once_head x turns once) in
    let whole : c.take_turn.new.ran.items ++ flat_map (own_of (record_of c.take_turn.new.records)) turns ≡ c.loop-turn.ran.items ++ flat_map (own_of (record_of c.loop-turn.records))
    (reverse c.loop-turn.turns.items)
    = rw (turned, c.take_turn.ensures.items, same) (append_assoc c.loop-turn.ran.items (own_of (record_of c.loop-turn.records) x) (flat_map (own_of (record_of c.loop-turn.records)) turns)) in
    let lengths = simp length-append at (ap length whole) in
    record {
      whole = whole ∙ c.loop-turn.invariant.whole;
      rest = λ n. rest_same (record_of c.loop-turn.records) (record_of c.take_turn.new.records) x c.take_turn.ensures.rest turns n
          ∙ ap (λ (ts : List Turn). after_turns ts n (seen_of (record_of c.loop-turn.records) n)) (sym turned) ∙ c.loop-turn.invariant.rest n;
      once = once_tail x turns once;
      fits = omega (arith, lengths, c.take_turn.new.ran.ok.0, c.loop-turn.ran.ok.0, c.take_turn.ensures.room, c.loop-turn.invariant.fits);
      room = omega (arith, c.take_turn.ensures.room, c.loop-turn.invariant.room);
    }
