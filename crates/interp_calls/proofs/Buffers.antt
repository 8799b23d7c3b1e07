-- Lists of which a part is written.
use Rattle.std.proofs.Common.{append_assoc, ◌≡◌, ℕ, ◌-◌, ◌≤◌, List, ◌++◌, length, take, drop, sym, ap, ◌∙◌, arith}
use Rattle.std.proofs.lemmas.List.{length-append, length-drop, length-take-le, take-append-drop, take-take, take_at}
use borrow.Rule.Slice.PartMut.{put_mid, post_of}

-- how long a part is
pub part_len : (xs : List ℕ) (a b : ℕ) → a ≤ b → b ≤ length xs → length (take (b - a) (drop a xs)) ≡ b - a
part_len xs a b order fits =
    let past = length-drop a xs in
    length-take-le (b - a) (drop a xs) (omega (arith, past, order, fits))

-- a list over the front of another, with its part from `a` to `b` written
abbrev pub written : List ℕ → List ℕ → ℕ → ℕ → List ℕ → List ℕ
written all xs a b ys = take (length all) (put_mid a (b - a) xs ys ++ drop (length (put_mid a (b - a) xs ys)) all)

-- A list grew, and a part of it was written: `old` is the list before, and the first `a` of it are in use.
module _ (old all xs : List ℕ) (a b : ℕ) (ys : List ℕ) (same : xs ≡ all) (front : take (length old) all ≡ old) (there : a ≤ length old) (order : a ≤ b) (fits : b ≤ length all)
    (size : length ys ≡ length (take (b - a) (drop a xs))) where
  pub part_size : length (take (b - a) (drop a xs)) ≡ b - a
  part_size = part_len xs a b order (let whole = ap length same in omega (arith, fits, whole))

  pub part_written : take b (written all xs a b ys) ≡ take a old ++ ys
  part_written =
      let rest = drop (length (put_mid a (b - a) xs ys)) all in
      let before = take a xs in
      let post = post_of a (b - a) xs in
      let whole = ap length same in
      let joined = length-append before ys in
      let until = length-take-le a xs (omega (arith, order, fits, whole)) in
      let part = part_size in
      take-take b (length all) (put_mid a (b - a) xs ys ++ rest) fits
      ∙ (ap (take b) (append_assoc before (ys ++ post) rest ∙ (ap (λ zs. before ++ zs) (append_assoc ys post rest) ∙ sym (append_assoc before ys (post ++ rest))))
      ∙ (take_at (before ++ ys) (post ++ rest) b (omega (arith, joined, until, size, part, order))
      ∙ ap (λ zs. zs ++ ys) (ap (take a) same ∙ (sym (take-take a (length old) all there) ∙ ap (take a) front))))

  pub part_unread : take a (written all xs a b ys) ≡ take a old
  part_unread = sym (take-take a b (written all xs a b ys) order) ∙ (ap (take a) part_written ∙ take_at (take a old) ys a (length-take-le a old there))

-- So many bytes `ys` were read into that part.
pub record PartRead (old all xs : List ℕ) (a b count : ℕ) (ys : List ℕ) : Type 0 where
  pub span : length (take (b - a) (drop a xs)) ≡ count
  pub taken : take b (written all xs a b ys) ≡ take a old ++ ys
  pub left : take a (written all xs a b ys) ≡ take a old

-- a list with another at its front is that one, and what comes behind it
pub both_parts : (old out : List ℕ) → take (length old) out ≡ old → out ≡ old ++ drop (length old) out
both_parts old out front = sym (ap (λ (xs : List ℕ). xs ++ drop (length old) out) (sym front) ∙ take-append-drop (length old) out)

-- more behind it
pub behind : (old out more all : List ℕ) → take (length old) out ≡ old → all ≡ out ++ more → all ≡ old ++ (drop (length old) out ++ more)
behind old out more all front is = is ∙ (ap (λ (xs : List ℕ). xs ++ more) (both_parts old out front) ∙ append_assoc old (drop (length old) out) more)
