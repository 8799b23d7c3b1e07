-- The lines of a script that is read piece by piece.
use Rattle.std.proofs.Common.{◌≡◌, ℕ, ◌+◌, ◌-◌, ◌<◌, ◌≤◌, inl, inr, Bool, true, false, eqb, get_or, List, [], ◌∷◌, ◌++◌, length, take, refl, ap, sym, ◌∙◌, arith}
use Rattle.std.proofs.lemmas.List.{append_assoc, take_more}
use Rattle.byte_text.specs.TextLines.{RawLine, at_front, lines_of}
use Rattle.script_play.specs.Written.{EndsLine, IsWhole}

-- a byte in front of the first line leaves the lines behind it
front_append : (b : ℕ) (l : RawLine) (ls ms : List RawLine) → at_front b ((l ∷ ls) ++ ms) ≡ at_front b (l ∷ ls) ++ ms
front_append b l ls ms = refl

-- where bytes are, a line is
abbrev pub IsSome : List RawLine → Type 0
IsSome [] = ⊥
IsSome (l ∷ ls) = Unit {0}

front_some : (b : ℕ) (ls : List RawLine) → IsSome (at_front b ls)
front_some b [] = tt
front_some b (l ∷ ls) = tt

lf_some : (b : ℕ) (bs : List ℕ) (lf : Bool) → eqb b 10 ≡ lf → IsSome (lines_of (b ∷ bs))
unfolding lines_of
lf_some b bs true h = rw h tt
lf_some b bs false h = rw h (front_some b (lines_of bs))

at_some : (b : ℕ) (ls ms : List RawLine) → IsSome ls → at_front b (ls ++ ms) ≡ at_front b ls ++ ms
at_some b [] ms h = absurd h
at_some b (l ∷ ls) ms h = refl

whole_some : (front : List ℕ) → IsSome (lines_of (front ++ 10 ∷ []))
whole_some [] = lf_some 10 [] (eqb 10 10) refl
whole_some (b ∷ bs) = lf_some b (bs ++ 10 ∷ []) (eqb b 10) refl

-- Behind an LF the lines are those of the rest.
pub lines_behind : (front rest : List ℕ) → lines_of (front ++ 10 ∷ rest) ≡ lines_of (front ++ 10 ∷ []) ++ lines_of rest
unfolding lines_of
lines_behind [] rest = refl
lines_behind (b ∷ bs) rest = by (lines_behind bs rest) (eqb b 10) refl
  where
    by : lines_of (bs ++ 10 ∷ rest) ≡ lines_of (bs ++ 10 ∷ []) ++ lines_of rest → (lf : Bool) → eqb b 10 ≡ lf → lines_of ((b ∷ bs) ++ 10 ∷ rest) ≡ lines_of ((b ∷ bs) ++ 10 ∷ []) ++ lines_of rest
    by same true h = rw h (ap (λ ls. (record { text = []; ended = true }) ∷ ls) same)
    by same false h = rw h (ap (at_front b) same ∙ at_some b (lines_of (bs ++ 10 ∷ [])) (lines_of rest) (whole_some bs))

front_long : (b : ℕ) (ls : List RawLine) → length (at_front b ls) ≤ length ls + 1
front_long b [] = omega arith
front_long b (l ∷ ls) = omega arith

-- There are no more lines than bytes.
pub lines_few : (bs : List ℕ) → length (lines_of bs) ≤ length bs
unfolding lines_of
lines_few [] = omega arith
lines_few (b ∷ bs) = by (lines_few bs) (eqb b 10) refl
  where
    by : length (lines_of bs) ≤ length bs → (lf : Bool) → eqb b 10 ≡ lf → length (lines_of (b ∷ bs)) ≤ length (b ∷ bs)
    by few true h = rw h (omega (arith, few))
    by few false h = let more = front_long b (lines_of bs) in rw h (omega (arith, more, few))

pub lines_append : (a b : List ℕ) → IsWhole a → lines_of (a ++ b) ≡ lines_of a ++ lines_of b
unfolding lines_of
lines_append a b (inl none) = rw none refl
lines_append a b (inr ends) = rw ends.1 (rw append_assoc (lines_behind ends.0 b))

pub whole_append : (a b : List ℕ) → EndsLine b → EndsLine (a ++ b)
whole_append a b ends = (a ++ ends.0, ap (λ l. a ++ l) ends.1 ∙ sym (append_assoc a ends.0 (10 ∷ [])))

-- the front of a text ends with an LF, where its last byte is one
pub ends_at : (bytes : List ℕ) (n : ℕ) → 0 < n → n ≤ length bytes → get_or bytes (n - 1) 0 ≡ 10 → EndsLine (take n bytes)
ends_at bytes n some within lf =
    (take (n - 1) bytes, ap (λ k. take k bytes) (let e : n ≡ n - 1 + 1 = omega arith in e) ∙ take_more bytes (n - 1) 0 (omega arith) ∙ ap (λ b. take (n - 1) bytes ++ b ∷ []) lf)
