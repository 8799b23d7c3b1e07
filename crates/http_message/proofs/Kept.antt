-- What is kept of a list whose front is dropped.
use Rattle.std.proofs.Common.{◌≡◌, ℕ, ◌+◌, ◌-◌, ◌≤◌, List, length, take, drop, ◌∙◌, ap, sym, arith, length-drop}
use Rattle.std.proofs.lemmas.List.{take_all}
use Rattle.std.proofs.lemmas.List.Edits.{take-paste}
use Rattle.std.proofs.Math.Seq.{paste}

-- the rest of a list, copied to its front, and cut off behind it
pub kept_front : (xs : List ℕ) (at n : ℕ) → at ≤ length xs → n ≡ length xs - at → take n (paste xs 0 (drop at xs) n) ≡ drop at xs
kept_front xs at n fits is =
    let long : n ≡ length (drop at xs) = omega (arith, length-drop at xs) in
    let plain : 0 + n ≡ n = omega arith in
    ap (λ k. take k (paste xs 0 (drop at xs) n)) (sym plain) ∙ take-paste xs 0 (drop at xs) n (omega arith) (omega arith) ∙ take_all n (drop at xs) (omega arith)
