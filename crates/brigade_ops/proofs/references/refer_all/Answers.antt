-- The references come from the first to the last.
use Rattle.std.proofs.Common.{◌≡◌, ℕ, ◌+◌, ◌++◌, ◌∷◌, [], List, take, get_or, refl, sym, ap, ◌∙◌, arith}
use Rattle.std.proofs.lemmas.List.{take_more}
use Rattle.run_model.specs.declared.payload.Payload.TheVariants.{FileRef}
use Rattle.run_model.specs.Pools.{registered}
use Rattle.run_model.specs.Steps.{all_referred}
use Rattle.pool_tree.specs.Tree.{map_of}
use Rattle.brigade_ops.specs.Files.{times_in}
use Rattle.brigade_ops.specs.Files.{count_at}
use Rattle.brigade_ops.proofs.Referred.{referred_none, referred_more, times_none, counted_more, ok_of}
use Rattle.brigade_ops.proofs.references.refer_all.Goals as goal

pub loop-index-init : goal.loop-index-init
loop-index-init c = record {
  live = c.requires;
  asked = refl;
  so_far = sym (referred_none c.args.pool (map_of c.args.tree.now));
  counted = λ f. (let none = times_none f in omega (arith, none));
}

pub loop-index-preserved : goal.loop-index-preserved
loop-index-preserved c =
    let i = c.loop-index.index in
    let ps = map_of c.args.tree.now in
    let file = get_or c.args.files.now i 0 in
    let more : take (i + 1) c.args.files.now ≡ take i c.args.files.now ++ file ∷ [] = take_more c.args.files.now i 0 c.loop-index-test.true in
    let went = sym c.is_err.ensures.value ∙ c.if-is_err.false in
    record {
      live = c.refer.ensures.live;
      asked = c.refer.ensures.tree_unasked ∙ c.loop-index.invariant.asked;
      so_far =
          ok_of c.refer.result _ went c.refer.ensures.ok
          ∙ (ap (registered c.args.pool (FileRef file)) c.loop-index.invariant.so_far
          ∙ (sym (referred_more c.args.pool file (take i c.args.files.now) ps)
          ∙ ap (λ (xs : List ℕ). all_referred c.args.pool xs ps) (sym more)));
      counted = λ f.
          counted_more f file (count_at c.args.counts.now f) (count_at c.refer.new.counts f) (count_at c.loop-index.counts f) (take i c.args.files.now)
          (c.loop-index.invariant.counted f) (ok_of c.refer.result _ went c.refer.ensures.counted f)
          ∙ ap (λ (xs : List ℕ). count_at c.args.counts.now f + times_in f xs) (sym more);
    }
