-- The bytes that a text in quotes spells.
use Rattle.std.proofs.Common.{◌≡◌, ℕ, zero, suc, ◌+◌, ◌-◌, ◌*◌, ◌/◌, ◌%◌, ◌<◌, ◌≤◌, Bool, true, false, cond, eqb, List, [], ◌∷◌, ◌++◌, length, drop, Option, Some, None}
use Rattle.std.proofs.Common.{refl, sym, ◌∙◌, ap, subst, arith, append_assoc, append-nil, inl, inr, length-drop}
use Rattle.std.specs.Option.{option_and_then, option_map}
use Rattle.std.proofs.lemmas.Bool.{eqb-true}
use Rattle.byte_text.specs.Bytes.{is_printable}
use Rattle.byte_text.specs.Quoted.{hex_digit, spelled, spelled_all}
use Rattle.byte_text.proofs.ListLaws.{all_head, all_tail}
use Rattle.author_text.specs.declared.escape.Spelled.{Spelled}
use Rattle.author_text.specs.declared.escape.Spelled.TheVariants as spells
use Rattle.author_text.specs.Escapes.{hex_value, spelled_in, escape_front, front_spelled, spelled_bytes, with_byte}
use Rattle.author_text.specs.Writable.{AllBytes}
use Rattle.author_text.proofs.EscapeLaws.{front_short, short_byte}
use Rattle.author_text.proofs.QuotedLaws.{hex_again}

spelled_drop : (n : ℕ) (bs : List ℕ) → spelled_bytes n bs ≡ spelled_bytes 0 (drop n bs)
spelled_drop zero bs = refl
spelled_drop (suc n) [] = refl
spelled_drop (suc n) (b ∷ bs) = spelled_drop n bs

-- a byte, and those behind it
pub spelled_byte : (bs : List ℕ) (b n : ℕ) → front_spelled bs ≡ spells.Byte b n → spelled_bytes 0 bs ≡ b ∷ spelled_bytes 0 (drop n bs)
spelled_byte [] b n e = absurd (cc)
spelled_byte (x ∷ xs) b n e = ap (λ s. with_byte s (λ k. spelled_bytes (k - 1) xs)) e ∙ ap (λ ys. b ∷ ys) (less n (short_byte (front_spelled (x ∷ xs)) b n e (front_short (x ∷ xs))).0)
  where
    less : (m : ℕ) → 1 ≤ m → spelled_bytes (m - 1) xs ≡ spelled_bytes 0 (drop m (x ∷ xs))
    less zero h = absurd (omega arith)
    less (suc m) h = let e : suc m - 1 ≡ m = omega arith in ap (λ j. spelled_bytes j xs) e ∙ spelled_drop m xs

-- no byte
pub spelled_none : (bs : List ℕ) (s : Spelled) → front_spelled bs ≡ s → ((b n : ℕ) → s ≡ spells.Byte b n → ⊥) → spelled_bytes 0 bs ≡ []
spelled_none [] s e other = refl
spelled_none (x ∷ xs) (spells.Byte b n) e other = absurd (other b n refl)
spelled_none (x ∷ xs) (spells.NoEscape b) e other = ap (λ s. with_byte s (λ k. spelled_bytes (k - 1) xs)) e
spelled_none (x ∷ xs) spells.Nothing e other = ap (λ s. with_byte s (λ k. spelled_bytes (k - 1) xs)) e

abbrev hex_text : ℕ → List ℕ
hex_text b = 92 ∷ 120 ∷ hex_digit (b / 16) ∷ hex_digit (b % 16) ∷ []

-- one byte as it is printed
printed_byte : (b : ℕ) (rest : List ℕ) → b < 256 → spelled_bytes 0 (spelled b ++ rest) ≡ b ∷ spelled_bytes 0 rest
printed_byte b rest low = by_case (eqb b 34) (eqb b 92) (is_printable b) refl refl refl
  where
    hex_byte_again : spelled_bytes 0 (92 ∷ 120 ∷ hex_digit (b / 16) ∷ hex_digit (b % 16) ∷ rest) ≡ b ∷ spelled_bytes 0 rest
    hex_byte_again =
        let m = hex_again (b / 16) (omega arith) in
        let n = hex_again (b % 16) (omega arith) in
        let sum : 16 * (b / 16) + b % 16 ≡ b = omega arith in
        let tail = 120 ∷ hex_digit (b / 16) ∷ hex_digit (b % 16) ∷ rest in
        ap (λ o. with_byte (spelled_in 120 4 (option_and_then (λ x. option_map (λ y. 16 * x + y) (hex_value (hex_digit (b % 16)))) o)) (λ k. spelled_bytes (k - 1) tail)) m
        ∙ ap (λ o. with_byte (spelled_in 120 4 (option_map (λ y. 16 * (b / 16) + y) o)) (λ k. spelled_bytes (k - 1) tail)) n
        ∙ ap (λ x. x ∷ spelled_bytes 0 rest) sum

    by_case : (x y z : Bool) → eqb b 34 ≡ x → eqb b 92 ≡ y → is_printable b ≡ z → spelled_bytes 0 (spelled b ++ rest) ≡ b ∷ spelled_bytes 0 rest
    by_case true y z p q r = subst (λ c. spelled_bytes 0 (spelled c ++ rest) ≡ c ∷ spelled_bytes 0 rest) (sym (eqb-true b 34 p)) refl
    by_case false true z p q r = subst (λ c. spelled_bytes 0 (spelled c ++ rest) ≡ c ∷ spelled_bytes 0 rest) (sym (eqb-true b 92 q)) refl
    by_case false false true p q r =
        subst (λ xs. spelled_bytes 0 (xs ++ rest) ≡ b ∷ spelled_bytes 0 rest)
        (sym (ap (λ v. cond v (92 ∷ 34 ∷ []) (cond (eqb b 92) (92 ∷ 92 ∷ []) (cond (is_printable b) (b ∷ []) (hex_text b)))) p
        ∙ ap (λ v. cond v (92 ∷ 92 ∷ []) (cond (is_printable b) (b ∷ []) (hex_text b))) q ∙ ap (λ v. cond v (b ∷ []) (hex_text b)) r))
        (ap (λ v. with_byte (cond v (escape_front rest) (spells.Byte b 1)) (λ k. spelled_bytes (k - 1) rest)) q)
    by_case false false false p q r =
        subst (λ xs. spelled_bytes 0 (xs ++ rest) ≡ b ∷ spelled_bytes 0 rest)
        (sym (ap (λ v. cond v (92 ∷ 34 ∷ []) (cond (eqb b 92) (92 ∷ 92 ∷ []) (cond (is_printable b) (b ∷ []) (hex_text b)))) p
        ∙ ap (λ v. cond v (92 ∷ 92 ∷ []) (cond (is_printable b) (b ∷ []) (hex_text b))) q ∙ ap (λ v. cond v (b ∷ []) (hex_text b)) r))
        hex_byte_again

-- what is printed spells the bytes that were printed
pub spelled_again : (bytes : List ℕ) → AllBytes bytes → spelled_bytes 0 (spelled_all bytes) ≡ bytes
spelled_again [] h = refl
spelled_again (b ∷ bs) h =
    printed_byte b (spelled_all bs) (all_head (λ x. x < 256) b bs h) ∙ ap (λ xs. b ∷ xs) (spelled_again bs (all_tail (λ x. x < 256) b bs h))
