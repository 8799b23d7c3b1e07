-- Each label that is inserted is one more place.
use Rattle.std.proofs.Common.{[], take, get_or, subst, sym, arith}
use Rattle.std.proofs.lemmas.List.{take_more}
use Rattle.module_lang.proofs.HandlerLaws.{places_none, places_more}
use Rattle.module_lang.specs.Handlers.{IsPlaces}
use Rattle.module_lang.specs.declared.draft.Label.{Label}
use Rattle.module_lang.proofs.handler.places.Goals as goal

pub loop-label-init : goal.loop-label-init
loop-label-init c = places_none c.new-places.result c.new-places.ensures.empty

pub loop-label-preserved : goal.loop-label-preserved
loop-label-preserved c =
    let d : Label = record { line = 0; name = []; place = 0 } in
    let more = take_more c.args.labels.now c.loop-label.label-index d (omega arith) in
    subst (λ ls. IsPlaces c.insert.new.self ls) (sym more) (places_more c.loop-label.places c.insert.new.self (take c.loop-label.label-index c.args.labels.now)
    (get_or c.args.labels.now c.loop-label.label-index d) c.loop-label.invariant c.in_ok-insert.ensures.updates)
