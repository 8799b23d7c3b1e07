use Rattle.std.proofs.Common.{◌≡◌, ◌∷◌, [], length, ap, subst, ◌∙◌, rules, arith}
use Rattle.std.proofs.lemmas.List.{length-append}
use Rattle.std.specs.Vec.Iter.{into_iter_items}
use Rattle.life_check.specs.Accepted.{CertifiedModule as Pair}
use Rattle.script_text.specs.Certified.{HasCertificate, refusal_with}
use Rattle.script_text.specs.Heads.{ScriptPart, seen_part}
use Rattle.script_text.specs.Parts.{refusal_of}
use Rattle.script_text.proofs.PartLaws.{all_certified, maps_on, nothing_left, unmade_at, unmade_on}
use Rattle.script_text.proofs.part.certify_all.Goals as goal

pub loop-part-preserved : goal.loop-part-preserved
loop-part-preserved c =
    let at = c.loop-part in
    let part = c.in-Some.part in
    let left = into_iter_items at.part-iterator in
    let rest = into_iter_items c.next.new.self in
    let all = c.args.parts.items in
    let steps : left ≡ part ∷ rest = c.in-Some.ensures.steps.0 in
    let pushed = c.in_ok-push-in-With.ensures.items in
    let is = subst (HasCertificate (seen_part part)) c.in-With.is c.in_ok-cert.ensures in
    record {
      codes = maps_on (λ (x : Pair). x.0) (λ (x : ScriptPart). x.code) at.pairs.items c.push.new.self.items left rest all part _ at.invariant.codes steps pushed (search rules);
      refusals = maps_on refusal_with refusal_of at.pairs.items c.push.new.self.items left rest all part _ at.invariant.refusals steps pushed is.1;
      unmade = unmade_on at.pairs.items c.push.new.self.items left rest all part _ at.invariant.unmade steps pushed is.0;
      left = let short = ap length steps in let was = at.invariant.left in omega arith;
      count = let short = ap length steps in let was = at.invariant.count in let more = ap length pushed ∙ length-append at.pairs.items _ in omega arith;
    }

pub returns-in-Refused-clause-refused : goal.returns-in-Refused-clause-refused
returns-in-Refused-clause-refused c =
    let at = c.loop-part in
    let part = c.in-Some.part in
    let index : c.len-index.result ≡ length at.pairs.items = search rules in
    unmade_at at.pairs.items (into_iter_items at.part-iterator)
    (into_iter_items c.next.new.self) c.args.parts.items part c.len-index.result c.in-Refused.refusal at.invariant.unmade c.in-Some.ensures.steps.0
    (subst (HasCertificate (seen_part part)) c.in-Refused.is c.in_ok-cert.ensures) index

pub returns-clause-certified : goal.returns-clause-certified
returns-clause-certified c =
    let at = c.loop-part in
    let none : into_iter_items at.part-iterator ≡ [] = nothing_left _ _ at.invariant.left c.in-None.ensures.steps.0 in
    all_certified at.pairs.items (into_iter_items at.part-iterator) c.args.parts.items none at.invariant.codes at.invariant.refusals at.invariant.unmade
