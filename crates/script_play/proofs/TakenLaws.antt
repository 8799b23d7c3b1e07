-- Lines that are taken one after another.
use Rattle.std.proofs.Common.{◌≡◌, ℕ, ◌+◌, List, [], ◌∷◌, ◌++◌, length, refl, ap, sym, subst, ◌∙◌, arith}
use Rattle.std.proofs.lemmas.List.{append_assoc, append-nil}
use Rattle.byte_text.specs.TextLines.{RawLine}
use Rattle.script_play.specs.Written.{Stage, Over, PlaysLine, TakesAll}

-- First these lines, and then those.
pub taken_append : (n : ℕ) (ls ms : List RawLine) (s mid t : Stage) (a b : List ℕ) → TakesAll n ls s a mid → TakesAll (n + length ls) ms mid b t → TakesAll n (ls ++ ms) s (a ++ b) t
unfolding TakesAll
taken_append n [] ms s mid t a b (none, same) rest =
    let Q : Stage → List ℕ → Type 0 = λ x text. TakesAll n ms x text t in
    let e : n + 0 ≡ n = omega arith in
    subst (λ k. TakesAll k ms s (a ++ b) t) e (subst (λ x. TakesAll (n + 0) ms x (a ++ b) t) same (subst (λ l. TakesAll (n + 0) ms mid (l ++ b) t) (sym none) rest))
taken_append n (l ∷ ls) ms s mid t a b (next, told, more, takes, others, is) rest =
    let e : n + length (l ∷ ls) ≡ n + 1 + length ls = omega arith in (
      next,
      told,
      more ++ b,
      takes,
      taken_append (n + 1) ls ms next mid t more b others (subst (λ k. TakesAll k ms mid b t) e rest),
      ap (λ x. x ++ b) is ∙ append_assoc told more b,
    )

pub taken_none : (n : ℕ) (s : Stage) → TakesAll n [] s [] s
unfolding TakesAll
taken_none n s = (refl, refl)

-- one line more
pub taken_one : (n : ℕ) (l : RawLine) (s t : Stage) (told : List ℕ) → PlaysLine n l s told t → TakesAll n (l ∷ []) s told t
unfolding TakesAll
taken_one n l s t told takes = (t, told, [], takes, (refl, refl), sym (append-nil told))

-- Behind a fault each line is taken, and nothing is told.
pub taken_over : (n : ℕ) (ls : List RawLine) → TakesAll n ls Over [] Over
unfolding TakesAll
taken_over n [] = (refl, refl)
taken_over n (l ∷ ls) = (Over, [], [], (refl, refl), taken_over (n + 1) ls, refl)
