use Rattle.std.proofs.Common.{[], ◌∷◌, ◌+◌, ◌≤◌, ◌<◌, List, drop, length, get_or, refl, sym, ap, subst, ◌∙◌}
use Rattle.std.specs.Option.{option_map}
use Rattle.std.proofs.lemmas.List.{drop_more, drop_all}
use Rattle.run_model.specs.declared.bucket.Home.TheVariants as home
use Rattle.run_model.specs.declared.bucket.Kind.TheVariants as kind
use Rattle.bucket_store.specs.declared.morph.Morph.{Morph}
use Rattle.bucket_store.specs.Morphs.{all_morphed}
use Rattle.brigade_ops.proofs.OnlyLists.{only_none, only_twice}
use Rattle.brigade_ops.specs.Store.{lists}
use Rattle.bucket_store.proofs.Cleared.{morphs_step, morphs_none}
use Rattle.brigade_ops.proofs.store.Brigades.apply_found.Goals as goal

pub loop-morph-init : goal.loop-morph-init
loop-morph-init g c = record { out = λ n. refl; others = only_none c.args.self.now }

pub loop-morph-preserved : goal.loop-morph-preserved
loop-morph-preserved g c =
    let i = c.loop-morph.morph-index in
    let items = c.as_slice-morph-items.result.now in
    let found = c.args.found in
    let none : Morph = record { id = record { slot = 0; birth = 0 }; kind = kind.Heap; home = home.Free } in
    let within : i < length found = subst (λ (xs : List Morph). i < length xs) c.as_slice-morph-items.ensures c.loop-morph-test.true in
    let now = lists c.loop-morph.self in
    record {
      out = λ n.
          ap (option_map (all_morphed (drop (i + 1) found)))
          (c.apply_morph.ensures.out n ∙ ap (λ (xs : List Morph). option_map (all_morphed (get_or xs i none ∷ [])) (now n)) c.as_slice-morph-items.ensures)
          ∙ (morphs_step (get_or found i none) (drop (i + 1) found) (now n)
          ∙ (ap (λ (ms : List Morph). option_map (all_morphed ms) (now n)) (sym (drop_more found i none within)) ∙ c.loop-morph.invariant.out n));
      others = only_twice c.loop-morph.invariant.others c.apply_morph.ensures.others;
    }

pub returns-clause-out : goal.returns-clause-out
returns-clause-out g c n =
    let found = c.args.found in
    let past : length found ≤ c.loop-morph.morph-index = subst (λ (xs : List Morph). length xs ≤ c.loop-morph.morph-index) c.as_slice-morph-items.ensures c.loop-morph-test.false in
    sym (ap (λ (ms : List Morph). option_map (all_morphed ms) (lists c.loop-morph.self n)) (drop_all c.loop-morph.morph-index found past) ∙ morphs_none (lists c.loop-morph.self n))
    ∙ c.loop-morph.invariant.out n
