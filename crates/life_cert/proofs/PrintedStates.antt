-- The text of a state in form stands on one line: each byte of it is printable.
use Rattle.std.proofs.Common.{◌≡◌, ℕ, zero, suc, ◌+◌, ◌^◌, ◌%◌, ◌<◌, Bool, true, false, ◌==◌, if◌then◌else◌, List, [], ◌∷◌, ◌++◌, codes, decimal, refl, arith}
use Rattle.std.specs.List.{list_all}
use Rattle.std.proofs.lemmas.Fmt.{decimal_by_steps}
use Rattle.byte_text.specs.Bytes.{is_printable}
use Rattle.module_lang.proofs.PrintedLabels.{all_joined}
use Rattle.life_state.specs.declared.parts.Classes.{Classes}
use Rattle.life_state.specs.declared.parts.Contents.{Contents}
use Rattle.life_state.specs.declared.parts.Contents.TheVariants.{Empty, Flushes, NoEos, NoLateData, Any}
use Rattle.life_state.specs.Form.{FormedCursor, IsFormed}
use Rattle.life_state.specs.States.{BrigadeKnown, CursorKnown, End, Homes, In, InOrEnd, Loose, State, Unset}
use Rattle.life_cert.specs.declared.print_state.HomeWord.{HomeWord}
use Rattle.life_cert.specs.declared.print_state.HomeWord.TheVariants as home
use Rattle.life_cert.specs.StateText.{brigade_name, brigade_text, classes_text, content_text, cursor_name, cursor_text, each, fact_text, facts_text, has_home, home_text, homes, homes_text, in_text}
use Rattle.life_cert.specs.StateText.{live_text, more_homes, place_text_of, pool_text, sent_text, set_text, some_homes, state_text, usable_text, where_holds}

-- each of these bytes is printable
pub record IsClean (xs : List ℕ) : Type 0 where
  pub clean : list_all is_printable xs ≡ true

pub both : (xs ys : List ℕ) → IsClean xs → IsClean ys → IsClean (xs ++ ys)
both xs ys h k = record { clean = all_joined is_printable xs ys h.clean k.clean }

pub plain : (xs : List ℕ) → list_all is_printable xs ≡ true → IsClean xs
plain xs h = record { clean = h }

pub where_clean : (b : Bool) (xs : List ℕ) → IsClean xs → IsClean (where_holds b xs)
where_clean true xs h = h
where_clean false xs h = plain [] refl

digit_clean : (d : ℕ) → d < 10 → list_all is_printable ((48 + d) ∷ []) ≡ true
digit_clean d low = grind arith

pub decimal_clean : (n : ℕ) → n < 2 ^ 64 → IsClean (decimal n)
decimal_clean n low =
    plain (decimal n) (decimal_by_steps (λ m ds. list_all is_printable ds ≡ true) digit_clean
    (λ m ds high h. all_joined is_printable ds ((48 + m % 10) ∷ []) h (digit_clean (m % 10) (omega arith))) n low)

each_clean : (f : ℕ → List ℕ) (k n : ℕ) → ((i : ℕ) → i < k + n → IsClean (f i)) → IsClean (each k n f)
unfolding each
each_clean f k zero h = plain [] refl
each_clean f k (suc n) h = both (f k) (each (k + 1) n f) (h k (omega arith)) (each_clean f (k + 1) n (λ i below. h i (omega (arith, below))))

-- Homes.
abbrev AreClean : List HomeWord → Type 0
AreClean [] = Unit {0}
AreClean (x ∷ xs) = IsClean (home_text x) × AreClean xs

own_clean : (q : ℕ) → q < 8 → IsClean (home_text (home.Own q))
own_clean q low = both (codes "p") (decimal q) (plain (codes "p") refl) (decimal_clean q (omega (arith, low)))

homes_clean : AreClean homes
homes_clean = (
  plain (codes "call") refl,
  (
    plain (codes "req") refl,
    (
      own_clean 0 (omega arith),
      (
        own_clean 1 (omega arith),
        (
          own_clean 2 (omega arith),
          (own_clean 3 (omega arith), (own_clean 4 (omega arith), (own_clean 5 (omega arith), (own_clean 6 (omega arith), (own_clean 7 (omega arith), (plain (codes "dead") refl, tt)))))),
        ),
      ),
    ),
  ),
)

more_clean : (h : Homes) (xs : List HomeWord) → AreClean xs → IsClean (more_homes h xs)
more_clean h [] c = plain [] refl
more_clean h (x ∷ xs) c = both (where_holds (has_home h x) (codes "," ++ home_text x)) (more_homes h xs)
    (where_clean (has_home h x) (codes "," ++ home_text x) (both (codes ",") (home_text x) (plain (codes ",") refl) c.0)) (more_clean h xs c.1)

some_clean : (h : Homes) (xs : List HomeWord) → AreClean xs → IsClean (some_homes h xs)
some_clean h [] c = plain (codes "-") refl
some_clean h (x ∷ xs) c = by (has_home h x) (some_clean h xs c.1)
  where
    by : (b : Bool) → IsClean (some_homes h xs) → IsClean (if b then home_text x ++ more_homes h xs else some_homes h xs)
    by true others = both (home_text x) (more_homes h xs) c.0 (more_clean h xs c.1)
    by false others = others

homes_text_clean : (h : Homes) → IsClean (homes_text h)
unfolding homes_text
homes_text_clean h = some_clean h homes homes_clean

-- The parts of a state.
set_clean : (null gone live : Bool) → IsClean (set_text null gone live)
set_clean null gone live =
    both (where_holds null (codes "n")) (where_holds gone (codes "g") ++ where_holds live (codes "l")) (where_clean null (codes "n") (plain (codes "n") refl))
    (both (where_holds gone (codes "g")) (where_holds live (codes "l")) (where_clean gone (codes "g") (plain (codes "g") refl)) (where_clean live (codes "l") (plain (codes "l") refl)))

classes_clean : (s : Classes) → IsClean (classes_text s)
classes_clean s =
    both (where_holds s.bytes (codes "d")) (where_holds s.flush (codes "f") ++ where_holds s.eos (codes "e")) (where_clean s.bytes (codes "d") (plain (codes "d") refl))
    (both (where_holds s.flush (codes "f")) (where_holds s.eos (codes "e")) (where_clean s.flush (codes "f") (plain (codes "f") refl)) (where_clean s.eos (codes "e") (plain (codes "e") refl)))

content_clean : (c : Contents) → IsClean (content_text c)
content_clean Empty = plain (codes "e") refl
content_clean Flushes = plain (codes "f") refl
content_clean NoEos = plain (codes "n") refl
content_clean NoLateData = plain (codes "o") refl
content_clean Any = plain (codes "a") refl

usable_clean : (v : BrigadeKnown) → IsClean (usable_text v)
usable_clean v =
    where_clean v.usable (codes "/" ++ (content_text v.content ++ (codes "/" ++ homes_text v.homes)))
    (both (codes "/") (content_text v.content ++ (codes "/" ++ homes_text v.homes)) (plain (codes "/") refl)
    (both (content_text v.content) (codes "/" ++ homes_text v.homes) (content_clean v.content) (both (codes "/") (homes_text v.homes) (plain (codes "/") refl) (homes_text_clean v.homes))))

live_clean : (sign : List ℕ) (v : BrigadeKnown) → IsClean sign → IsClean (live_text sign v)
live_clean sign v h =
    let u = where_holds v.usable (codes "u") in
    let p = where_holds v.passed (codes "p") in
    where_clean v.live (sign ++ (u ++ (p ++ usable_text v)))
    (both sign (u ++ (p ++ usable_text v)) h
    (both u (p ++ usable_text v) (where_clean v.usable (codes "u") (plain (codes "u") refl))
    (both p (usable_text v) (where_clean v.passed (codes "p") (plain (codes "p") refl)) (usable_clean v))))

name_clean : (letter : List ℕ) (k : ℕ) → IsClean letter → k < 9 → IsClean (letter ++ decimal k)
name_clean letter k h low = both letter (decimal k) h (decimal_clean k (omega (arith, low)))

-- a name of its own for 8, else a letter with the number behind
eight_clean : (name letter : List ℕ) → IsClean name → IsClean letter → (k : ℕ) → k < 9 → IsClean (if k == 8 then name else letter ++ decimal k)
eight_clean name letter own front k low = by (k == 8)
  where
    by : (b : Bool) → IsClean (if b then name else letter ++ decimal k)
    by true = own
    by false = name_clean letter k front low

cursor_name_clean : (c : ℕ) → c < 9 → IsClean (cursor_name c)
cursor_name_clean = eight_clean (codes "rd") (codes "c") (plain (codes "rd") refl) (plain (codes "c") refl)

brigade_name_clean : (b : ℕ) → b < 9 → IsClean (brigade_name b)
brigade_name_clean = eight_clean (codes "in") (codes "b") (plain (codes "in") refl) (plain (codes "b") refl)

place_clean : (s : State) (v : CursorKnown) → FormedCursor s v → IsClean (place_text_of v)
place_clean s Unset h = plain [] refl
place_clean s (Loose t k) h =
    both (codes "loose/") (classes_text t ++ (codes "/" ++ homes_text k)) (plain (codes "loose/") refl)
    (both (classes_text t) (codes "/" ++ homes_text k) (classes_clean t) (both (codes "/") (homes_text k) (plain (codes "/") refl) (homes_text_clean k)))
place_clean s (In b t) h = both (brigade_name b) (codes "/" ++ classes_text t) (brigade_name_clean b h.1.0) (both (codes "/") (classes_text t) (plain (codes "/") refl) (classes_clean t))
place_clean s (End b) h = both (brigade_name b) (codes "$") (brigade_name_clean b h.0) (plain (codes "$") refl)
place_clean s (InOrEnd b t) h = both (brigade_name b) (codes "?/" ++ classes_text t) (brigade_name_clean b h.1.0) (both (codes "?/") (classes_text t) (plain (codes "?/") refl) (classes_clean t))

module _ (s : State) (formed : IsFormed s) where
  sent_clean : (b : Bool) → IsClean (sent_text b)
  sent_clean true = plain (codes "sent=maybe") refl
  sent_clean false = plain (codes "sent=no") refl

  pools_clean : IsClean (each 0 s.pool_count (λ q. pool_text q (s.pools q)))
  pools_clean =
      let few = formed.pool_count in
      each_clean (λ q. pool_text q (s.pools q)) 0 s.pool_count (λ q low. let v = s.pools q in
      both (codes " p" ++ decimal q) (codes "=" ++ set_text v.null v.gone v.live) (name_clean (codes " p") q (plain (codes " p") refl) (omega (arith, low, few)))
      (both (codes "=") (set_text v.null v.gone v.live) (plain (codes "=") refl) (set_clean v.null v.gone v.live)))

  brigades_clean : IsClean (each 0 s.brigade_count (λ b. brigade_text b (s.brigades b)))
  brigades_clean =
      let few = formed.brigade_count in
      each_clean (λ b. brigade_text b (s.brigades b)) 0 s.brigade_count (λ b low. let v = s.brigades b in
      both (codes " b" ++ decimal b) (codes "=" ++ (set_text v.null v.gone v.live ++ live_text (codes "/") v)) (name_clean (codes " b") b (plain (codes " b") refl) (omega (arith, low, few)))
      (both (codes "=") (set_text v.null v.gone v.live ++ live_text (codes "/") v) (plain (codes "=") refl)
      (both (set_text v.null v.gone v.live) (live_text (codes "/") v) (set_clean v.null v.gone v.live) (live_clean (codes "/") v (plain (codes "/") refl)))))

  cursors_clean : IsClean (each 0 9 (λ c. cursor_text c (s.cursors c)))
  cursors_clean = each_clean (λ c. cursor_text c (s.cursors c)) 0 9 (λ c low. let p = place_text_of (s.cursors c) in
      where_clean _ (codes " " ++ (cursor_name c ++ (codes "=" ++ p))) (both (codes " ") (cursor_name c ++ (codes "=" ++ p)) (plain (codes " ") refl)
      (both (cursor_name c) (codes "=" ++ p) (cursor_name_clean c (omega (arith, low))) (both (codes "=") p (plain (codes "=") refl) (place_clean s (s.cursors c) (formed.cursors c))))))

  facts_clean : IsClean (each 0 9 (facts_text s))
  facts_clean = each_clean (facts_text s) 0 9 (λ c low. each_clean (fact_text s c) 0 9 (λ d below.
      where_clean _ (codes " " ++ (cursor_name c ++ (codes "!" ++ cursor_name d))) (both (codes " ") (cursor_name c ++ (codes "!" ++ cursor_name d)) (plain (codes " ") refl)
      (both (cursor_name c) (codes "!" ++ cursor_name d) (cursor_name_clean c (omega (arith, low)))
      (both (codes "!") (cursor_name d) (plain (codes "!") refl) (cursor_name_clean d (omega (arith, below))))))))

  pub state_clean : IsClean (state_text s)
  unfolding state_text
  state_clean =
      let p = each 0 s.pool_count (λ q. pool_text q (s.pools q)) in
      let b = each 0 s.brigade_count (λ k. brigade_text k (s.brigades k)) in
      let i = in_text (s.brigades 8) in
      let c = each 0 9 (λ k. cursor_text k (s.cursors k)) in
      let f = each 0 9 (facts_text s) in
      both (sent_text s.sent) (p ++ (b ++ (i ++ (c ++ f)))) (sent_clean s.sent)
      (both p (b ++ (i ++ (c ++ f))) pools_clean
      (both b (i ++ (c ++ f)) brigades_clean (both i (c ++ f) (live_clean (codes " in=") (s.brigades 8) (plain (codes " in=") refl)) (both c f cursors_clean facts_clean))))
