-- The references go from the last to the first.
use Rattle.std.proofs.Common.{◌≡◌, ℕ, ◌+◌, ◌-◌, ◌<◌, ◌++◌, ◌∷◌, [], List, take, get_or, length, sym, ap, ◌∙◌, arith}
use Rattle.std.proofs.lemmas.List.{take_more}
use Rattle.run_model.specs.declared.payload.Payload.TheVariants.{FileRef}
use Rattle.run_model.specs.RunOrder.{killed}
use Rattle.run_model.specs.Payloads.{payload_eq}
use Rattle.run_model.specs.Steps.{all_referred}
use Rattle.brigade_ops.specs.Files.{times_in}
use Rattle.brigade_ops.specs.Files.{count_at}
use Rattle.brigade_ops.proofs.Referred.{referred_none, unreferred_one, times_none, counted_less, counted_some}
use Rattle.brigade_ops.proofs.references.unrefer_all.Goals as goal

last : (files : List ℕ) (j i : ℕ) → j ≡ i + 1 → i < length files → take j files ≡ take i files ++ get_or files i 0 ∷ []
last files j i next within = ap (λ (k : ℕ). take k files) next ∙ take_more files i 0 within

pub unrefer-requires-clause-counted : goal.unrefer-requires-clause-counted
unrefer-requires-clause-counted c =
    let i = c.loop-index.index - 1 in
    let file = get_or c.args.files.now i 0 in
    let start = count_at c.args.counts.now file in
    let all = times_in file c.args.files.now in
    let before = count_at c.loop-index.counts file in
    counted_some file start before all (take i c.args.files.now)
    (ap (λ (xs : List ℕ). start + times_in file xs) (sym (last c.args.files.now c.loop-index.index i (omega arith) (omega arith))) ∙ c.loop-index.invariant.less file)
    (c.requires.counted file)

pub loop-index-preserved : goal.loop-index-preserved
loop-index-preserved c =
    let i = c.loop-index.index - 1 in
    let file = get_or c.args.files.now i 0 in
    let more : take c.loop-index.index c.args.files.now ≡ take i c.args.files.now ++ file ∷ [] = last c.args.files.now c.loop-index.index i (omega arith) (omega arith) in
    record {
      live = c.unrefer.ensures.live;
      asked = c.unrefer.ensures.tree_unasked ∙ c.loop-index.invariant.asked;
      left = λ ps was.
          c.unrefer.ensures.gone
          ∙ (ap (killed c.args.pool (λ other. payload_eq other (FileRef file))) (c.loop-index.invariant.left ps was ∙ ap (λ (xs : List ℕ). all_referred c.args.pool xs ps) more)
          ∙ unreferred_one c.args.pool file (take i c.args.files.now) ps);
      less = λ f.
          counted_less f file (count_at c.args.counts.now f) (count_at c.unrefer.new.counts f) (count_at c.loop-index.counts f) (times_in f c.args.files.now) (take i c.args.files.now)
          (c.unrefer.ensures.less f)
          (ap (λ (xs : List ℕ). count_at c.args.counts.now f + times_in f xs) (sym more) ∙ c.loop-index.invariant.less f);
    }

pub returns-clause-gone : goal.returns-clause-gone
returns-clause-gone c ps was =
    let none : c.loop-index.index ≡ 0 = omega arith in
    c.loop-index.invariant.left ps was ∙ (ap (λ (k : ℕ). all_referred c.args.pool (take k c.args.files.now) ps) none ∙ referred_none c.args.pool ps)

pub returns-clause-less : goal.returns-clause-less
returns-clause-less c f =
    let none : c.loop-index.index ≡ 0 = omega arith in
    let zero_times : times_in f (take c.loop-index.index c.args.files.now) ≡ 0 = ap (λ (k : ℕ). times_in f (take k c.args.files.now)) none ∙ times_none f in
    omega (arith, c.loop-index.invariant.less f, zero_times)
