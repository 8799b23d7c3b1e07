-- Homes, taken from the front of a text.
use Rattle.std.proofs.Common.{◌≡◌, ℕ, ◌+◌, Bool, true, false, ◌&&◌, not, cond, List, [], ◌∷◌, ◌++◌, codes, refl, sym, ap, ◌∙◌, eqb, append_assoc}
use Rattle.std.specs.Prelude.{nat_lt}
use Rattle.std.proofs.lemmas.Bool.{ltb-true}
use Rattle.std.proofs.lemmas.Fmt.{decimal_digit}
use Rattle.life_state.specs.States.{Homes}
use Rattle.life_state.proofs.Tests.{split2}
use Rattle.life_cert.specs.declared.print_state.HomeWord.{HomeWord}
use Rattle.life_cert.specs.declared.print_state.HomeWord.TheVariants as home
use Rattle.life_cert.specs.StateText.{where_holds, homes, home_text, has_home, more_homes, some_homes, homes_text}
use Rattle.life_cert.specs.StateFromText.{behind, homes_from, homes_past, homes_read, more_there, past, past_more, past_some, some_there, starts}
use Rattle.life_cert.proofs.Taking.{TextEnded, not_begun, behind_self, skips, starts_self, word_is, word_past}

-- the two bytes by which a home's name begins, and the others
abbrev first : HomeWord → ℕ
first home.Call = 99
first home.Req = 114
first (home.Own q) = 112
first home.Dead = 100

abbrev second : HomeWord → ℕ
second home.Call = 97
second home.Req = 101
second (home.Own q) = 48 + q
second home.Dead = 101

abbrev others : HomeWord → List ℕ
others home.Call = codes "ll"
others home.Req = codes "q"
others (home.Own q) = []
others home.Dead = codes "ad"

abbrev is_small : HomeWord → Bool
is_small (home.Own q) = nat_lt q 10
is_small _ = true

named : (x : HomeWord) → is_small x ≡ true → home_text x ≡ first x ∷ (second x ∷ others x)
named home.Call h = refl
named home.Req h = refl
named (home.Own q) h = ap (λ t. 112 ∷ t) (decimal_digit q (ltb-true q 10 h))
named home.Dead h = refl

-- the names of homes tell them apart
abbrev pub are_apart : HomeWord → HomeWord → Bool
are_apart x y = not (eqb (first y) (first x) && eqb (second y) (second x))

abbrev pub is_apart_from : HomeWord → List HomeWord → Bool
is_apart_from x [] = true
is_apart_from x (y ∷ ys) = (is_small y && are_apart x y) && is_apart_from x ys

abbrev pub all_apart : List HomeWord → Bool
all_apart [] = true
all_apart (x ∷ xs) = (is_small x && is_apart_from x xs) && all_apart xs

pub homes_apart : all_apart homes ≡ true
homes_apart = refl

apart : (x y : HomeWord) (m : List ℕ) → is_small x ≡ true → is_small y ≡ true → are_apart x y ≡ true → starts (home_text x) (home_text y ++ m) ≡ false
apart x y m p q h =
    ap (λ t. starts t (home_text y ++ m)) (named x p) ∙ ap (λ t. starts (first x ∷ (second x ∷ others x)) (t ++ m)) (named y q)
    ∙ by (eqb (first y) (first x)) (eqb (second y) (second x)) h
  where
    by : (a b : Bool) → not (a && b) ≡ true → (a && (b && starts (others x) (others y ++ m))) ≡ false
    by true true k = cc k
    by true false k = refl
    by false b k = refl

-- which of these are meant
abbrev pub bits : Homes → List HomeWord → List Bool
bits h [] = []
bits h (x ∷ xs) = has_home h x ∷ bits h xs

no_more : (x : HomeWord) (ys : List HomeWord) (h : Homes) (m : List ℕ) → is_small x ≡ true → is_apart_from x ys ≡ true → TextEnded m → starts (44 ∷ home_text x) (more_homes h ys ++ m) ≡ false
no_more x [] h m p a e = not_begun 44 (home_text x) m e refl refl refl
no_more x (y ∷ ys) h m p a e =
    let two = split2 (is_small y && are_apart x y) (is_apart_from x ys) a in
    let one = split2 (is_small y) (are_apart x y) two.0 in
    let rest = more_homes h ys ++ m in
    ap (starts (44 ∷ home_text x)) (append_assoc (where_holds (has_home h y) (44 ∷ home_text y)) (more_homes h ys) m)
    ∙ skips (44 ∷ home_text x) (44 ∷ home_text y) (has_home h y) rest (apart x y rest p one.0 one.1) (no_more x ys h m p two.1 e)

pub record MoreTaken (xs : List HomeWord) (h : Homes) (m t : List ℕ) : Type 0 where
  pub there : more_there xs t ≡ bits h xs
  pub more : past_more xs t ≡ m

pub more_taken : (xs : List HomeWord) (h : Homes) (m : List ℕ) → all_apart xs ≡ true → TextEnded m → MoreTaken xs h m (more_homes h xs ++ m)
more_taken [] h m a e = record { there = refl; more = refl }
more_taken (x ∷ xs) h m a e =
    let two = split2 (is_small x && is_apart_from x xs) (all_apart xs) a in
    let one = split2 (is_small x) (is_apart_from x xs) two.0 in
    let w = 44 ∷ home_text x in
    let rest = more_homes h xs ++ m in
    let none = no_more x xs h m one.0 one.1 e in
    let again = append_assoc (where_holds (has_home h x) w) (more_homes h xs) m in
    let on = more_taken xs h m two.1 e in
    let after = ap (past w) again ∙ word_past w (has_home h x) rest none in
    record {
      there = ap (λ (b : Bool). b ∷ more_there xs (past w (more_homes h (x ∷ xs) ++ m))) (ap (starts w) again ∙ word_is w (has_home h x) rest none) ∙ ap (λ t. has_home h x ∷ more_there xs t) after
          ∙ ap (λ bs. has_home h x ∷ bs) on.there;
      more = ap (past_more xs) after ∙ on.more;
    }

no_dash : (x : HomeWord) (m : List ℕ) → is_small x ≡ true → starts (home_text x) (45 ∷ m) ≡ false
no_dash x m p = ap (λ t. starts t (45 ∷ m)) (named x p) ∙ by x
  where
    by : (x : HomeWord) → (eqb 45 (first x) && starts (second x ∷ others x) m) ≡ false
    by home.Call = refl
    by home.Req = refl
    by (home.Own q) = refl
    by home.Dead = refl

no_some : (x : HomeWord) (ys : List HomeWord) (h : Homes) (m : List ℕ) → is_small x ≡ true → is_apart_from x ys ≡ true → starts (home_text x) (some_homes h ys ++ m) ≡ false
no_some x [] h m p a = no_dash x m p
no_some x (y ∷ ys) h m p a =
    let two = split2 (is_small y && are_apart x y) (is_apart_from x ys) a in
    let one = split2 (is_small y) (are_apart x y) two.0 in
    by (has_home h y) one.0 one.1 (no_some x ys h m p two.1)
  where
    by : (b : Bool) → is_small y ≡ true → are_apart x y ≡ true → starts (home_text x) (some_homes h ys ++ m) ≡ false
        → starts (home_text x) (cond b (home_text y ++ more_homes h ys) (some_homes h ys) ++ m) ≡ false
    by true small far on = ap (starts (home_text x)) (append_assoc (home_text y) (more_homes h ys) m) ∙ apart x y (more_homes h ys ++ m) p small far
    by false small far on = on

pub record HomesTaken (xs : List HomeWord) (h : Homes) (m t : List ℕ) : Type 0 where
  pub there : some_there xs t ≡ bits h xs
  pub more : past_some xs t ≡ m

some_taken : (xs : List HomeWord) (h : Homes) (m : List ℕ) → all_apart xs ≡ true → TextEnded m → HomesTaken xs h m (some_homes h xs ++ m)
some_taken [] h m a e = record { there = refl; more = refl }
some_taken (x ∷ xs) h m a e =
    let two = split2 (is_small x && is_apart_from x xs) (all_apart xs) a in
    let one = split2 (is_small x) (is_apart_from x xs) two.0 in
    by (has_home h x) refl (no_some x xs h m one.0 one.1) (more_taken xs h m two.1 e) (some_taken xs h m two.1 e)
  where
    w : List ℕ
    w = home_text x

    found : (r t : List ℕ) → t ≡ w ++ r → (starts w t ≡ true) × (behind w t ≡ r)
    found r t is = (ap (starts w) is ∙ starts_self w r, ap (behind w) is ∙ behind_self w r)

    by : (b : Bool) → has_home h x ≡ b → starts w (some_homes h xs ++ m) ≡ false → MoreTaken xs h m (more_homes h xs ++ m) → HomesTaken xs h m (some_homes h xs ++ m)
        → HomesTaken (x ∷ xs) h m (some_homes h (x ∷ xs) ++ m)
    by true has none more on =
        let t = some_homes h (x ∷ xs) ++ m in
        let rest = more_homes h xs ++ m in
        let is : t ≡ w ++ rest = ap (λ (b : Bool). cond b (w ++ more_homes h xs) (some_homes h xs) ++ m) has ∙ append_assoc w (more_homes h xs) m in
        let f = found rest t is in
        record {
          there = ap (λ (b : Bool). cond b (true ∷ more_there xs (behind w t)) (false ∷ some_there xs t)) f.0 ∙ ap (λ r. true ∷ more_there xs r) f.1 ∙ ap (λ bs. true ∷ bs) more.there
              ∙ ap (λ (b : Bool). b ∷ bits h xs) (sym has);
          more = ap (λ (b : Bool). cond b (past_more xs (behind w t)) (past_some xs t)) f.0 ∙ ap (past_more xs) f.1 ∙ more.more;
        }
    by false has none more on =
        let t = some_homes h (x ∷ xs) ++ m in
        let is : t ≡ some_homes h xs ++ m = ap (λ (b : Bool). cond b (w ++ more_homes h xs) (some_homes h xs) ++ m) has in
        let no : starts w t ≡ false = ap (starts w) is ∙ none in
        record {
          there = ap (λ (b : Bool). cond b (true ∷ more_there xs (behind w t)) (false ∷ some_there xs t)) no ∙ ap (λ r. false ∷ some_there xs r) is ∙ ap (λ bs. false ∷ bs) on.there
              ∙ ap (λ (b : Bool). b ∷ bits h xs) (sym has);
          more = ap (λ (b : Bool). cond b (past_more xs (behind w t)) (past_some xs t)) no ∙ ap (past_some xs) is ∙ on.more;
        }

-- Of a text of homes, those are taken that are meant, and what follows is left.
pub homes_taken : (h : Homes) (m : List ℕ) → homes_from (bits h homes) ≡ h → TextEnded m → (homes_read (homes_text h ++ m) ≡ h) × (homes_past (homes_text h ++ m) ≡ m)
unfolding homes_text homes_read homes_past
homes_taken h m is e = let taken = some_taken homes h m homes_apart e in (ap homes_from taken.there ∙ is, taken.more)
