-- One more arrival.
use Rattle.std.proofs.Common.{◌≡◌, ◌++◌, ◌∷◌, [], Option, ap, sym, ◌∙◌, rules}
use Rattle.std.proofs.lemmas.List.{map-append}
use Rattle.life_state.specs.declared.state.State.{State}
use Rattle.life_state.specs.Seen.{seen_some}
use Rattle.life_cert.specs.declared.fixpoint.Arrival as code
use Rattle.life_cert.specs.Rounds.{arriving}
use Rattle.life_cert.specs.SeenGrowth.{seen_arrival, seen_arrivals}
use Rattle.life_cert.proofs.handing.hand.Goals as goal

pub returns-in_ok-push : goal.returns-in_ok-push
unfolding seen_arrivals
returns-in_ok-push c =
    let one : code.Arrival = record { place = c.args.place; state = c.in-Some.state } in
    let pushed : c.push.new.self.items ≡ c.args.arrivals.now.items ++ one ∷ [] = search rules in
    ap seen_arrivals pushed
    ∙ (map-append seen_arrival c.args.arrivals.now.items (one ∷ [])
    ∙ ap (λ (o : Option State). seen_arrivals c.args.arrivals.now.items ++ arriving c.args.place (seen_some o)) (sym c.in-Some.is))
