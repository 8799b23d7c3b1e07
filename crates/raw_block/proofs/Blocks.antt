-- The places of a block, index by index.
use Rattle.std.proofs.Common.{◌≡◌, ℕ, zero, suc, ◌≤◌, List, [], ◌∷◌, length, Option, None, refl, ap, ◌∙◌, arith, get_or, replicate}
use Rattle.std.proofs.lemmas.List.{get_or_past}
use Rattle.raw_block.specs.declared.block.Block.{Block}
use Rattle.raw_block.specs.Blocks.{at}

pub all_none : {X : Type 0} (ps : List (Option X)) → ((k : ℕ) → get_or ps k None ≡ None) → ps ≡ replicate (length ps) None
all_none [] h = refl
all_none (p ∷ ps) h = ap (λ q. q ∷ ps) (h zero) ∙ ap (λ qs. None ∷ qs) (all_none ps (λ k. h (suc k)))

-- no value lies past the places
pub at_past : {V : Type 0} (b : Block V) (k : ℕ) → b.len ≤ k → at b k ≡ None
unfolding at
at_past b k past = get_or_past b.cells.places k None (omega (arith, past, b.places.0))
