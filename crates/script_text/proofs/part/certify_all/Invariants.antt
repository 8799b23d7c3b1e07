-- The parts so far have their certificates, and they and those that are left are all.
use Rattle.std.proofs.Common.{◌≡◌, ◌+◌, ◌++◌, length, map}
use Rattle.std.specs.Vec.Iter.{into_iter_items, into_iter_len}
use Rattle.life_check.specs.Accepted.{modules_of}
use Rattle.script_text.specs.Heads.{seen_part}
use Rattle.script_text.specs.Certified.{refusal_with}
use Rattle.script_text.specs.Parts.{codes_of, first_from, refusal_of, unmade}
use Rattle.script_text.proofs.part.certify_all.Given as goal

abbrev pub invariant-loop-part : goal.invariant-loop-part
invariant-loop-part l = record {
  codes : modules_of l.pairs.items ++ codes_of (map seen_part (into_iter_items l.part-iterator)) ≡ codes_of (map seen_part l.fn.parts.items);
  refusals : map refusal_with l.pairs.items ++ map refusal_of (map seen_part (into_iter_items l.part-iterator)) ≡ map refusal_of (map seen_part l.fn.parts.items);
  unmade : first_from (length l.pairs.items) (map unmade (map seen_part (into_iter_items l.part-iterator))) ≡ first_from 0 (map unmade (map seen_part l.fn.parts.items));
  left : into_iter_len l.part-iterator ≡ length (into_iter_items l.part-iterator);
  count : length l.pairs.items + length (into_iter_items l.part-iterator) ≡ length l.fn.parts.items;
}
