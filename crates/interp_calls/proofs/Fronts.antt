-- Lists in a block, behind a front that is never seen.
use Rattle.std.proofs.Common.{◌≡◌, ℕ, ◌≤◌, ◌+◌, ◌-◌, List, [], ◌++◌, length, take, drop, sym, ap, ◌∙◌, arith}
use Rattle.std.proofs.lemmas.List.{drop_all, drop-append-le, drop-take, length-drop, length-take, length-take-le, take-take, take_all}

-- a part that ends within the front is not seen
pub unseen : (n end : ℕ) (xs : List ℕ) → end ≤ n → drop n (take end xs) ≡ []
unseen n end xs order = drop_all n (take end xs) (let size = length-take end xs in omega (arith, order, size))

-- how much is seen
pub seen_len : (n end : ℕ) (xs : List ℕ) → end ≤ length xs → length (drop n (take end xs)) ≡ end - n
seen_len n end xs fits = length-drop n (take end xs) ∙ ap (λ k. k - n) (length-take-le end xs fits)

-- a front of what is seen
pub shorter : (n m end : ℕ) (xs : List ℕ) → n + m ≤ end → drop n (take (n + m) xs) ≡ take m (drop n (take end xs))
shorter n m end xs order = ap (drop n) (sym (take-take (n + m) end xs order)) ∙ drop-take n m (take end xs)

-- a front of what is seen that is no shorter than it
pub as_long : (n m end : ℕ) (xs : List ℕ) → end ≤ length xs → end - n ≤ m → drop n (take end xs) ≡ take m (drop n (take end xs))
as_long n m end xs fits order = sym (take_all m (drop n (take end xs)) (let size = seen_len n end xs fits in omega (arith, order, size)))

-- more behind what is seen
pub longer : (n start : ℕ) (xs more : List ℕ) → n ≤ start → start ≤ length xs → drop n (take start xs ++ more) ≡ drop n (take start xs) ++ more
longer n start xs more past fits = drop-append-le n (take start xs) more (let size = length-take-le start xs fits in omega (arith, past, size))

-- a list that grew is seen as it was
pub kept : (n end : ℕ) (old new : List ℕ) → end ≤ length old → take (length old) new ≡ old → drop n (take end new) ≡ drop n (take end old)
kept n end old new fits front = ap (drop n) (sym (take-take end (length old) new fits) ∙ ap (take end) front)
