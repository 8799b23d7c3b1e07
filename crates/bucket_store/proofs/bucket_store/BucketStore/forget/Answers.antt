use Rattle.std.proofs.Common.{ℕ, List, take, get_or, sym, ap, subst, ◌∙◌, inl, inr}
use Rattle.std.proofs.lemmas.Bool.{cases_eq}
use Rattle.std.proofs.lemmas.List.{take_more, take_all}
use Rattle.run_model.specs.Pools.{is_in}
use Rattle.bucket_store.specs.BucketStore.{IsGivenUp}
use Rattle.bucket_store.proofs.Names.{in_more_other}
use Rattle.bucket_store.proofs.bucket_store.BucketStore.forget.Goals as goal

pub loop-pool-preserved : goal.loop-pool-preserved
loop-pool-preserved g c =
    let pools = c.args.pools.now in
    let i = c.loop-pool.pool-index in
    let pool : ℕ = get_or pools i 0 in
    let told = c.forget_pool.ensures in
    let before = c.loop-pool.invariant in
    record {
      given_up = λ p is. elim (cases_eq pool p) [
        | inl e ↦ subst (λ (q : ℕ). IsGivenUp c.forget_pool.new.self q) e told.given_up
        | inr ne ↦ told.others p (λ e. ne (sym e))
            (before.given_up p (sym (in_more_other p pool (take i pools) ne) ∙ (ap (λ (qs : List ℕ). is_in p qs) (sym (take_more pools i 0 c.loop-pool-test.true)) ∙ is)))
      ];
      others = λ p was. elim (cases_eq pool p) [
        | inl e ↦ subst (λ (q : ℕ). IsGivenUp c.forget_pool.new.self q) e told.given_up
        | inr ne ↦ told.others p (λ e. ne (sym e)) (before.others p was)
      ];
      rings = told.rings ∙ before.rings;
      same = λ n. told.same n ∙ before.same n;
    }

pub returns-clause-given_up : goal.returns-clause-given_up
returns-clause-given_up g c p is =
    let pools = c.args.pools.now in
    c.loop-pool.invariant.given_up p (ap (λ (qs : List ℕ). is_in p qs) (take_all c.loop-pool.pool-index pools c.loop-pool-test.false) ∙ is)
