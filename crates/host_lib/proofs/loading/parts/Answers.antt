use Rattle.std.proofs.Common.{map, get_or, arith, ◌∙◌}
use Rattle.std.proofs.lemmas.Grind.{common_steps}
use Rattle.script_text.specs.Heads.{seen_part}
use Rattle.host_lib.specs.declared.loading.TextLengths.{TextLengths}
use Rattle.host_lib.specs.Texts.{texts_from}
use Rattle.host_lib.proofs.Fronts.{front_pushed, next_at, next_fits, next_rest, seen_count}
use Rattle.host_lib.proofs.Refused.{first_refused}
use Rattle.host_lib.proofs.loading.parts.Goals as goal

abbrev none : TextLengths
none = record { text = 0; certificate = 0; kind = 0 }

pub next_part-requires : goal.next_part-requires
next_part-requires c = next_fits c.args.texts.now c.args.lengths.now c.loop-index.index none c.loop-index-test.true c.loop-index.rest.now c.loop-index.invariant.rest c.requires

pub behind-rest-requires : goal.behind-rest-requires
behind-rest-requires c = next_fits c.args.texts.now c.args.lengths.now c.loop-index.index none c.loop-index-test.true c.loop-index.rest.now c.loop-index.invariant.rest c.requires

pub returns-in-Err-clause-refused : goal.returns-in-Err-clause-refused
returns-in-Err-clause-refused c =
    first_refused c.args.texts.now c.args.lengths.now (map seen_part c.loop-index.parts.items) c.loop-index.index (texts_from c.loop-index.rest.now (get_or c.args.lengths.now c.loop-index.index none)) c.in-Err.refusal
    (seen_count c.loop-index.parts.items c.loop-index.index c.loop-index.invariant.count) c.loop-index.invariant.front
    (next_at c.args.texts.now c.args.lengths.now c.loop-index.index none c.loop-index-test.true c.loop-index.rest.now c.loop-index.invariant.rest) c.in-Err.ensures.refused

pub loop-index-preserved : goal.loop-index-preserved
loop-index-preserved c = record {
  words = c.next_part.ensures.words ∙ c.loop-index.invariant.words;
  rest = next_rest c.args.texts.now c.args.lengths.now c.loop-index.index none c.loop-index-test.true c.loop-index.rest.now c.loop-index.invariant.rest c.behind-rest.result.now c.behind-rest.ensures;
  count = grind (arith, common_steps, c.in-Ok-push.ensures.items);
  front =
      front_pushed c.args.texts.now c.args.lengths.now c.loop-index.parts.items c.push.new.self.items c.in-Ok.part c.loop-index.index (texts_from c.loop-index.rest.now (get_or c.args.lengths.now c.loop-index.index none))
      c.in-Ok-push.ensures.items c.loop-index.invariant.count c.loop-index.invariant.front
      (next_at c.args.texts.now c.args.lengths.now c.loop-index.index none c.loop-index-test.true c.loop-index.rest.now c.loop-index.invariant.rest) c.in-Ok.ensures.read;
}
