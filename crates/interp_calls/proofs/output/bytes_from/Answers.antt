-- One bucket after another.
use Rattle.std.proofs.Common.{◌≡◌, drop, sym, ap, ◌∙◌, Some, arith}
use Rattle.bucket_ring.specs.Lists.{list_at, rest}
use Rattle.bucket_store.specs.Items.{Items, from_place}
use Rattle.bucket_store.specs.Views.{bucket_of}
use Rattle.bucket_store.proofs.Walks.{told_some}
use Rattle.brigade_ops.specs.Store.{lists, brigade_of}
use Rattle.interp_state.proofs.Walked.{WalkAt, head_here, inside_on, shorter}
use Rattle.interp_calls.specs.Filled.{bytes_before_eos}
use Rattle.interp_calls.proofs.Delivering.{place_end}
use Rattle.interp_calls.proofs.RoomLeft.{eos_before, none_before, plain_before}
use Rattle.interp_calls.proofs.output.bytes_from.Goals as goal
use Rattle.interp_calls.proofs.output.bytes_from.Goals.{After-payload-bucket}

at : (g : _) (c : After-payload-bucket g) → WalkAt c.args.store.now c.args.b c.loop-place.place c.in-Some.id (bucket_of c.payload-bucket.result)
at g c = record { at = c.in-Some.is; inside = c.loop-place.invariant.inside c.in-Some.id c.in-Some.is; here = c.payload-bucket.ensures }

pub loop-place-init : goal.loop-place-init
loop-place-init g c = record { sum = omega arith; inside = told_some (λ j. brigade_of c.args.store.now j ≡ Some c.args.b) c.args.from c.requires.inside }

pub returns-then-is_eos : goal.returns-then-is_eos
returns-then-is_eos g c =
    let w = at g (goal.at.returns-then-is_eos g c).After-payload-bucket in
    let xs = list_at (lists c.args.store.now) c.args.b in
    let none = ap bytes_before_eos (head_here w) ∙ eos_before c.in-Some.id (bucket_of c.payload-bucket.result) (drop 1 (rest c.in-Some.id xs)) (sym c.is_eos.ensures ∙ c.if-is_eos.true) in
    let so = c.loop-place.invariant.sum in
    omega (arith, none, so)

pub loop-place-preserved : goal.loop-place-preserved
loop-place-preserved g c =
    let w = at g (goal.at.loop-place-preserved g c).After-payload-bucket in
    let xs = list_at (lists c.args.store.now) c.args.b in
    let id = c.in-Some.id in
    let x = bucket_of c.payload-bucket.result in
    let ys : Items = drop 1 (rest id xs) in
    let on : from_place c.behind-place.result xs ≡ ys = c.behind-place.ensures.others c.args.b w.inside in
    let left = ap bytes_before_eos (head_here w) ∙ plain_before id x ys (sym c.is_eos.ensures ∙ c.if-is_eos.false) in
    let rest_is = ap bytes_before_eos on in
    let len = c.len.ensures in
    let so = c.loop-place.invariant.sum in
    record {
      sum = omega (arith, left, rest_is, so, len);
      inside = inside_on w c.behind-place.result on (c.behind-place.ensures.inside c.args.b w.inside);
    }

pub loop-place-smaller : goal.loop-place-smaller
loop-place-smaller g c =
    let w = at g (goal.at.loop-place-smaller g c).After-payload-bucket in
    shorter w c.behind-place.result (c.behind-place.ensures.others c.args.b w.inside)

pub returns : goal.returns
returns g c =
    let none = ap bytes_before_eos (place_end c.loop-place.place (list_at (lists c.args.store.now) c.args.b) c.in_default.not-Some) ∙ none_before in
    let so = c.loop-place.invariant.sum in
    omega (arith, none, so)
