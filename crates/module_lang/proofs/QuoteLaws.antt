-- A text that is spelled by the grammar stands behind the first quote of its line.
use Rattle.std.proofs.Common.{◌≡◌, ℕ, ◌+◌, Bool, true, false, not, cond, eqb, List, [], ◌∷◌, ◌++◌, refl, sym, ◌∙◌, ap, arith}
use Rattle.std.specs.List.{list_all}
use Rattle.std.proofs.lemmas.Bool.{and_parts, ne_eqb, not-true}
use Rattle.byte_text.specs.Bytes.{unindented}
use Rattle.module_lang.specs.Entries.{from_quote}
use Rattle.byte_text.specs.QuotedTexts.{Spells}
use Rattle.module_lang.specs.Texts.{place_text}
use Rattle.module_code.specs.declared.instr.PoolRef.{PoolRef}
use Rattle.module_code.specs.declared.instr.PoolRef.TheVariants as pool

-- no quote among these bytes
abbrev pub unquoted : List ℕ → Bool
unquoted bytes = list_all (λ b. not (eqb b 34)) bytes

pub quote_behind : (xs ys : List ℕ) → unquoted xs ≡ true → from_quote (xs ++ ys) ≡ from_quote ys
quote_behind [] ys h = refl
quote_behind (x ∷ xs) ys h =
    let a = and_parts (not (eqb x 34)) (unquoted xs) h in
    rw (not-true (eqb x 34) a.0) (quote_behind xs ys a.1)

pub quote_unindented : (l : List ℕ) → from_quote l ≡ from_quote (unindented l)
quote_unindented [] = refl
quote_unindented (b ∷ bs) = space (eqb b 32) refl (quote_unindented bs)
  where
    space : (x : Bool) → eqb b 32 ≡ x → from_quote bs ≡ from_quote (unindented bs) → from_quote (b ∷ bs) ≡ from_quote (cond x (unindented bs) (b ∷ bs))
    space true q more = let apart : eqb b 34 ≡ false = ne_eqb b 34 (λ e. absurd (cc (sym q ∙ ap (λ y. eqb y 32) e))) in rw apart more
    space false q more = refl

pub place_unquoted : (q : PoolRef) → unquoted (place_text q) ≡ true
place_unquoted pool.Conn = refl
place_unquoted pool.Req = refl
place_unquoted (pool.Own i) = let apart : eqb (48 + i) 34 ≡ false = ne_eqb (48 + i) 34 (λ e. omega arith) in rw apart refl

-- a text behind a word and a pool
pub quote_at : (word : List ℕ) (q : PoolRef) (s bytes : List ℕ) → unquoted word ≡ true → Spells s bytes → from_quote (word ++ 32 ∷ (place_text q ++ 32 ∷ (s ++ []))) ≡ s ++ []
quote_at word q s bytes h t =
    quote_behind word (32 ∷ (place_text q ++ 32 ∷ (s ++ []))) h ∙ quote_behind (place_text q) (32 ∷ (s ++ [])) (place_unquoted q) ∙ (rw t.whole refl)
