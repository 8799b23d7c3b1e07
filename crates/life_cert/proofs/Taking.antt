-- What is taken from the front of a text: where the text was written so, that is what was written.
use Rattle.std.proofs.Common.{◌≡◌, ℕ, ◌+◌, ◌<◌, Bool, true, false, ◌&&◌, cond, List, [], ◌∷◌, ◌++◌, refl, sym, ap, ◌∙◌, eqb, append_assoc, arith, inl, inr}
use Rattle.std.specs.Prelude.{decimal, ◌⊎◌}
use Rattle.std.proofs.lemmas.Bool.{eqb-true, eq-eqb}
use Rattle.std.proofs.lemmas.Fmt.{decimal_digit}
use Rattle.life_state.specs.declared.parts.Classes.{Classes}
use Rattle.life_cert.specs.StateFromText.{behind, past, starts}
use Rattle.life_cert.specs.StateText.{where_holds, set_text, classes_text, cursor_name, brigade_name}

pub starts_self : (w m : List ℕ) → starts w (w ++ m) ≡ true
starts_self [] m = refl
starts_self (x ∷ xs) m = ap (λ (b : Bool). b && starts xs (xs ++ m)) (eq-eqb x x refl) ∙ starts_self xs m

pub behind_self : (w m : List ℕ) → behind w (w ++ m) ≡ m
behind_self [] m = refl
behind_self (x ∷ xs) m = behind_self xs m

-- A word that is written where this holds is found so, and taken, where what follows does not begin with it.
pub word_is : (w : List ℕ) (b : Bool) (m : List ℕ) → starts w m ≡ false → starts w (where_holds b w ++ m) ≡ b
word_is w true m h = starts_self w m
word_is w false m h = h

pub word_past : (w : List ℕ) (b : Bool) (m : List ℕ) → starts w m ≡ false → past w (where_holds b w ++ m) ≡ m
unfolding past
word_past w true m h = ap (λ (x : Bool). cond x (behind w (w ++ m)) (w ++ m)) (starts_self w m) ∙ behind_self w m
word_past w false m h = ap (λ (x : Bool). cond x (behind w m) m) h

-- where it does not stand there, nothing is taken
pub past_none : (w t : List ℕ) → starts w t ≡ false → t ≡ past w t
unfolding past
past_none w t h = sym (ap (λ (b : Bool). cond b (behind w t) t) h)

-- nor does a text begin with it that has another word before, or not
pub skips : (w u : List ℕ) (b : Bool) (m : List ℕ) → starts w (u ++ m) ≡ false → starts w m ≡ false → starts w (where_holds b u ++ m) ≡ false
skips w u true m h k = h
skips w u false m h k = k

-- Three words, each where it holds.
module _ (x y z : List ℕ) (a b e : Bool) (m : List ℕ) where
  abbrev pub three_text : List ℕ
  three_text = where_holds a x ++ (where_holds b y ++ where_holds e z)

  pub regroup : three_text ++ m ≡ where_holds a x ++ (where_holds b y ++ (where_holds e z ++ m))
  regroup = append_assoc (where_holds a x) (where_holds b y ++ where_holds e z) m ∙ ap (λ t. where_holds a x ++ t) (append_assoc (where_holds b y) (where_holds e z) m)

-- a letter that does not begin what follows, nor another letter
abbrev pub one : ℕ → List ℕ
one c = c ∷ []

pub other_letter : (c d : ℕ) (b : Bool) (m : List ℕ) → eqb d c ≡ false → starts (one c) m ≡ false → starts (one c) (where_holds b (one d) ++ m) ≡ false
other_letter c d b m ne h = skips (one c) (one d) b m (ap (λ (x : Bool). x && true) ne) h

pub record ThreeTaken (x y z : ℕ) (a b e : Bool) (m t : List ℕ) : Type 0 where
  pub first : starts (one x) t ≡ a
  pub second : starts (one y) (past (one x) t) ≡ b
  pub third : starts (one z) (past (one y) (past (one x) t)) ≡ e
  pub more : past (one z) (past (one y) (past (one x) t)) ≡ m

pub three_taken : (x y z : ℕ) (a b e : Bool) (m : List ℕ) → eqb y x ≡ false → eqb z x ≡ false → eqb z y ≡ false → starts (one x) m ≡ false → starts (one y) m ≡ false → starts (one z) m ≡ false
    → ThreeTaken x y z a b e m (three_text (one x) (one y) (one z) a b e m ++ m)
three_taken x y z a b e m xy xz yz hx hy hz =
    let again = regroup (one x) (one y) (one z) a b e m in
    let last = where_holds e (one z) ++ m in
    let later = where_holds b (one y) ++ last in
    let no_x : starts (one x) later ≡ false = other_letter x y b last xy (other_letter x z e m xz hx) in
    let no_y : starts (one y) last ≡ false = other_letter y z e m yz hy in
    let one_past = ap (past (one x)) again ∙ word_past (one x) a later no_x in
    let two_past = ap (past (one y)) one_past ∙ word_past (one y) b last no_y in
    record {
      first = ap (starts (one x)) again ∙ word_is (one x) a later no_x;
      second = ap (starts (one y)) one_past ∙ word_is (one y) b last no_y;
      third = ap (starts (one z)) two_past ∙ word_is (one z) e m hz;
      more = ap (past (one z)) two_past ∙ word_past (one z) e m hz;
    }

-- Names of two bytes.
abbrev pub second_of : ℕ → ℕ → ℕ
second_of eight c = cond (eqb c 8) eight (48 + c)

abbrev pub cursor_first : ℕ → ℕ
cursor_first c = cond (eqb c 8) 114 99

abbrev pub brigade_first : ℕ → ℕ
brigade_first b = cond (eqb b 8) 105 98

-- a name of two bytes for 8, else a letter with the digit behind
two_bytes : (first eight letter : ℕ) (c : ℕ) → c < 9
    → cond (eqb c 8) (first ∷ (eight ∷ [])) (letter ∷ decimal c) ≡ cond (eqb c 8) first letter ∷ (second_of eight c ∷ [])
two_bytes first eight letter c below = by (eqb c 8) refl
  where
    by : (x : Bool) → eqb c 8 ≡ x → cond x (first ∷ (eight ∷ [])) (letter ∷ decimal c) ≡ cond x first letter ∷ (cond x eight (48 + c) ∷ [])
    by true e = refl
    by false e = ap (λ t. letter ∷ t) (decimal_digit c (omega arith))

pub cursor_named : (c : ℕ) → c < 9 → cursor_name c ≡ cursor_first c ∷ (second_of 100 c ∷ [])
cursor_named = two_bytes 114 100 99

pub brigade_named : (c : ℕ) → c < 9 → brigade_name c ≡ brigade_first c ∷ (second_of 110 c ∷ [])
brigade_named = two_bytes 105 110 98

-- their second bytes tell them apart
pub second_tells : (eight c d : ℕ) → 56 < eight → c < 9 → d < 9 → second_of eight c ≡ second_of eight d → c ≡ d
second_tells eight c d high first second e = by (eqb c 8) (eqb d 8) refl refl e
  where
    by : (x y : Bool) → eqb c 8 ≡ x → eqb d 8 ≡ y → cond x eight (48 + c) ≡ cond y eight (48 + d) → c ≡ d
    by true true p q h = eqb-true c 8 p ∙ sym (eqb-true d 8 q)
    by true false p q h = absurd (omega (arith, h))
    by false true p q h = absurd (omega (arith, h))
    by false false p q h = omega (arith, h)

-- a text ends, or goes on with a space, a slash or an LF
abbrev pub TextEnded : List ℕ → Type 0
TextEnded [] = Unit {0}
TextEnded (b ∷ m) = (b ≡ 32) ⊎ ((b ≡ 47) ⊎ (b ≡ 10))

pub not_begun : (c : ℕ) (w m : List ℕ) → TextEnded m → eqb 32 c ≡ false → eqb 47 c ≡ false → eqb 10 c ≡ false → starts (c ∷ w) m ≡ false
not_begun c w [] h space slash line = refl
not_begun c w (b ∷ m) (inl e) space slash line = ap (λ (x : ℕ). eqb x c && starts w m) e ∙ ap (λ (x : Bool). x && starts w m) space
not_begun c w (b ∷ m) (inr (inl e)) space slash line = ap (λ (x : ℕ). eqb x c && starts w m) e ∙ ap (λ (x : Bool). x && starts w m) slash
not_begun c w (b ∷ m) (inr (inr e)) space slash line = ap (λ (x : ℕ). eqb x c && starts w m) e ∙ ap (λ (x : Bool). x && starts w m) line

-- `dfe` and `ngl`
pub classes_taken : (s : Classes) (m : List ℕ) → TextEnded m → ThreeTaken 100 102 101 s.bytes s.flush s.eos m (classes_text s ++ m)
classes_taken s m h = three_taken 100 102 101 s.bytes s.flush s.eos m refl refl refl (not_begun 100 [] m h refl refl refl) (not_begun 102 [] m h refl refl refl) (not_begun 101 [] m h refl refl refl)

pub set_taken : (null gone live : Bool) (m : List ℕ) → TextEnded m → ThreeTaken 110 103 108 null gone live m (set_text null gone live ++ m)
set_taken null gone live m h = three_taken 110 103 108 null gone live m refl refl refl (not_begun 110 [] m h refl refl refl) (not_begun 103 [] m h refl refl refl) (not_begun 108 [] m h refl refl refl)
