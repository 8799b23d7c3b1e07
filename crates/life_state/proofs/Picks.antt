-- What a test picks, and edges part by part.
use Rattle.std.proofs.Common.{◌≡◌, Bool, true, false, if◌then◌else◌, Option, ap, sym, ◌∙◌}
use Rattle.life_state.specs.declared.successors.Successors.{Successors}
use Rattle.life_state.specs.States.{State}
use Rattle.life_state.specs.Rules.{Edges}
use Rattle.life_state.specs.Seen.{seen_some, seen_edges}

pub pick_first : {A : Type 0} (t : Bool) (x y : A) → t ≡ true → x ≡ (if t then x else y)
pick_first t x y h = sym (ap (λ b. if b then x else y) h)

pub pick_second : {A : Type 0} (t : Bool) (x y : A) → t ≡ false → y ≡ (if t then x else y)
pick_second t x y h = sym (ap (λ b. if b then x else y) h)

pub edges_are : (e : Successors) (next jump : Option State) → seen_some e.next ≡ next → seen_some e.jump ≡ jump → seen_edges e ≡ record { next = next; jump = jump }
edges_are e next jump n j =
    let of : Option State → Option State → Edges = λ x y. record { next = x; jump = y } in
    ap (λ x. of x (seen_some e.jump)) n ∙ ap (of next) j
