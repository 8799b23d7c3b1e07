-- Where no state grew in the last round, none grows in those that follow.
use Rattle.std.proofs.Common.{◌≡◌, ℕ, zero, suc, ◌+◌, ◌-◌, ◌≤◌, List, [], ap, sym, ◌∙◌, add-zero, arith}
use Rattle.module_code.specs.Program.{Program}
use Rattle.life_cert.specs.declared.fixpoint.StatePlace.{StatePlace}
use Rattle.life_cert.specs.Rounds.{FixpointState, handed_on, arrived, round, rounds, begun, enough, made}

pub settled : (p : Program) (g : FixpointState) → g.changed ≡ [] → round p g ≡ g
unfolding handed_on arrived
settled p g none =
    let of : List StatePlace → FixpointState = λ ws. record { states = g.states; changed = ws } in
    ap (λ (ws : List StatePlace). arrived (handed_on p g.states ws) (of [])) none ∙ ap of (sym none)

stays : (p : Program) (g : FixpointState) (n k : ℕ) → (rounds n p g).changed ≡ [] → rounds (n + k) p g ≡ rounds n p g
unfolding rounds
stays p g n zero none = ap (λ (m : ℕ). rounds m p g) (add-zero n)
stays p g n (suc k) none =
    let more : n + suc k ≡ suc (n + k) = omega arith in
    ap (λ (m : ℕ). rounds m p g) more ∙ (ap (round p) (stays p g n k none) ∙ settled p (rounds n p g) none)

pub made_after : (p : Program) (g : FixpointState) (n : ℕ) → g ≡ rounds n p (begun p) → n ≤ enough p → g.changed ≡ [] → g.states ≡ made p
unfolding made
made_after p g n so_far below none =
    let all : n + (enough p - n) ≡ enough p = omega arith in
    let same = ap (λ (h : FixpointState). h.changed) so_far in
    ap (λ (h : FixpointState). h.states) (so_far ∙ (sym (stays p (begun p) n (enough p - n) (sym same ∙ none)) ∙ ap (λ (m : ℕ). rounds m p (begun p)) all))

pub made_at_last : (p : Program) (g : FixpointState) (n : ℕ) → g ≡ rounds n p (begun p) → n ≡ enough p → g.states ≡ made p
unfolding made
made_at_last p g n so_far last = ap (λ (h : FixpointState). h.states) (so_far ∙ ap (λ (m : ℕ). rounds m p (begun p)) last)

pub one_more : (p : Program) (g h : FixpointState) (n : ℕ) → g ≡ rounds n p (begun p) → h ≡ round p g → h ≡ rounds (n + 1) p (begun p)
unfolding rounds
one_more p g h n so_far more =
    let next : suc n ≡ n + 1 = omega arith in
    more ∙ (ap (round p) so_far ∙ ap (λ (m : ℕ). rounds m p (begun p)) next)
