-- The label that was registered last goes, where there is one.
use Rattle.std.proofs.Common.{◌≡◌, ℕ, List, false, sym, ap, ◌∙◌, subst}
use Rattle.std.specs.List.{list_any}
use Rattle.module_code.specs.Program.{text_at}
use Rattle.run_model.specs.declared.payload.Payload.{Payload}
use Rattle.run_model.specs.Effects.{text_of}
use Rattle.run_model.specs.Pools.{Pools}
use Rattle.run_model.specs.Payloads.{is_label}
use Rattle.run_model.specs.RunOrder.{killed}
use Rattle.run_model.specs.State.{with_pools}
use Rattle.pool_tree.specs.Tree.{map_of}
use Rattle.pool_tree.specs.Payloads.{IsLastAt}
use Rattle.brigade_ops.specs.House.{AreHoused}
use Rattle.brigade_ops.proofs.Housed.{house_unlabelled}
use Rattle.interp_state.specs.Seen.{seen_over}
use Rattle.interp_exec.proofs.Killed.{killed_at, killed_none}
use Rattle.interp_exec.proofs.Trees.{over_pools}
use Rattle.interp_exec.proofs.pool_steps.unlabel.Goals as goal

pub returns-in-Some-clause-new : goal.returns-in-Some-clause-new
unfolding seen_over with_pools text_of text_at
returns-in-Some-clause-new c =
    λ rings next view i call.
    let ps = map_of c.args.tree.now in
    let test = is_label c.text.result.now in
    let at = subst (λ (xs : List Payload). IsLastAt test xs c.in-Some.index) c.payloads.ensures c.in-Some.ensures in
    ap (λ (qs : Pools Payload). with_pools qs (seen_over rings next (over_pools ps view) i call))
    (c.take_out.ensures.rest ∙ (killed_at ps c.args.pool test c.in-Some.index c.take_out.result at c.take_out.ensures.taken ∙ ap (λ (t : List ℕ). killed c.args.pool (is_label t) ps) c.text.ensures))

pub returns-in_default-clause-new : goal.returns-in_default-clause-new
unfolding seen_over with_pools text_of text_at
returns-in_default-clause-new c =
    λ rings next view i call.
    let ps = map_of c.args.tree.now in
    let test = is_label c.text.result.now in
    let none = subst (λ (xs : List Payload). list_any test xs ≡ false) c.payloads.ensures c.in_default.ensures in
    ap (λ (qs : Pools Payload). with_pools qs (seen_over rings next (over_pools ps view) i call))
    (killed_none ps c.args.pool test none ∙ ap (λ (t : List ℕ). killed c.args.pool (is_label t) ps) c.text.ensures)

pub returns-in-Some-clause-house : goal.returns-in-Some-clause-house
returns-in-Some-clause-house c =
    λ rings pools references house.
    let ps = map_of c.args.tree.now in
    let test = is_label c.text.result.now in
    let at = subst (λ (xs : List Payload). IsLastAt test xs c.in-Some.index) c.payloads.ensures c.in-Some.ensures in
    let is = c.take_out.ensures.rest ∙ killed_at ps c.args.pool test c.in-Some.index c.take_out.result at c.take_out.ensures.taken in
    subst (λ (qs : Pools Payload). AreHoused rings pools references qs) (sym is) (house_unlabelled rings pools references ps house c.args.pool c.text.result.now)
