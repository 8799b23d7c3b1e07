-- One place after the other.
use Rattle.std.proofs.Common.{◌≡◌, ◌++◌, [], List, All, get_or, ap, sym, subst, arith, rules}
use Rattle.std.proofs.lemmas.List.Elements.{All-nil}
use Rattle.life_check.specs.Seen.{seen_cert}
use Rattle.life_cert.specs.declared.fixpoint.Arrival as code
use Rattle.life_cert.specs.declared.fixpoint.StatePlace.{StatePlace}
use Rattle.life_cert.specs.declared.fixpoint.StatePlace.TheVariants as place
use Rattle.life_cert.specs.Rounds.{Arrival, state_at, handed_by, handed_on}
use Rattle.life_cert.specs.Fitting.{IsFit}
use Rattle.life_cert.specs.SeenGrowth.{seen_arrivals}
use Rattle.life_cert.proofs.Handed.{handed_more, handed_all, fit_more}
use Rattle.life_cert.proofs.handing.handed_on.Goals as goal

pub loop-place-init : goal.loop-place-init
unfolding seen_arrivals
loop-place-init c =
    let none : c.new-arrivals.result.items ≡ [] = search rules in
    record {
      left = ap (λ (xs : List code.Arrival). seen_arrivals xs ++ handed_on c.args.code.now (seen_cert c.args.fixpoint.now.cert) c.args.fixpoint.now.changed.items) none;
      fit = subst (λ (xs : List code.Arrival). All (IsFit c.args.code.now) (seen_arrivals xs)) (sym none) (All-nil (IsFit c.args.code.now));
    }

pub loop-place-preserved : goal.loop-place-preserved
loop-place-preserved c =
    let p = c.args.code.now in
    let cert = seen_cert c.args.fixpoint.now.cert in
    let xs = c.args.fixpoint.now.changed.items in
    let Says : List StatePlace → Type 0 = λ ws.
    let w = get_or ws c.loop-place.place-index place.Idle in
    seen_arrivals c.hand_from.new.arrivals.items ≡ seen_arrivals c.loop-place.arrivals.items ++ handed_by p w (state_at cert w) in
    let more : Says c.deref-place-items.result.now = c.in_ok-hand_from.ensures.handed in
    record {
      left = handed_more p cert xs c.loop-place.place-index place.Idle _ _ _ (omega arith) c.loop-place.invariant.left (subst Says c.deref-place-items.ensures.value more);
      fit = fit_more p _ _ _ more c.loop-place.invariant.fit c.in_ok-hand_from.ensures.fit;
    }

pub returns-clause-handed : goal.returns-clause-handed
returns-clause-handed c =
    handed_all c.args.code.now (seen_cert c.args.fixpoint.now.cert) c.args.fixpoint.now.changed.items c.loop-place.place-index _ _ (omega arith) c.loop-place.invariant.left

pub returns-clause-fit : goal.returns-clause-fit
returns-clause-fit c =
    let all = handed_all c.args.code.now (seen_cert c.args.fixpoint.now.cert) c.args.fixpoint.now.changed.items c.loop-place.place-index (seen_arrivals c.loop-place.arrivals.items)
    (handed_on c.args.code.now (seen_cert c.args.fixpoint.now.cert) c.args.fixpoint.now.changed.items) (omega arith) c.loop-place.invariant.left in
    subst (λ (hs : List Arrival). All (IsFit c.args.code.now) hs) all c.loop-place.invariant.fit
