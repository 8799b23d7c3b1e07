use Rattle.std.proofs.Common.{◌∙◌, ℕ, List, subst}
use Rattle.std.specs.List.Sorted.{IsBinarySearchResult}
use Rattle.std.specs.Ordering.{nat_cmp}
use Rattle.brigade_ops.proofs.PoolsReached.{found_in}
use Rattle.brigade_ops.proofs.reached.Reached.has_under.Goals as goal

pub returns : goal.returns
returns c =
    c.is_ok.ensures.value
    ∙ found_in c.args.self.now.under.items c.args.name c.binary_search.result
    (subst (λ (names : List ℕ). IsBinarySearchResult (λ y. nat_cmp y c.args.name) names c.binary_search.result) c.deref.ensures.value c.binary_search.ensures.position)
    c.args.self.now.rising
