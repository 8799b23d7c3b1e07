-- How long texts are: that of a state in form has 1,187 bytes at most.
use Rattle.std.proofs.Common.{◌≡◌, ℕ, zero, suc, ◌+◌, ◌<◌, ◌≤◌, Bool, true, false, ◌&&◌, if◌then◌else◌, List, [], ◌∷◌, ◌++◌, length, codes, decimal, Option, Some, None, IfSome, inl, inr, refl, ap}
use Rattle.std.proofs.Common.{sym, subst, ◌∙◌, arith}
use Rattle.std.specs.Prelude.{nat_le, nat_lt}
use Rattle.std.proofs.lemmas.Bool.{cases_eq, eq-eqb, leb-true, ltb-false, ltb-true, ne_eqb}
use Rattle.std.proofs.lemmas.Fmt.{length-decimal-le}
use Rattle.std.proofs.lemmas.List.{length-append}
use Rattle.life_state.specs.declared.parts.Classes.{Classes}
use Rattle.life_state.specs.declared.parts.Contents.{Contents}
use Rattle.life_state.specs.declared.parts.Contents.TheVariants.{Empty, Flushes, NoEos, NoLateData, Any}
use Rattle.life_state.specs.Facts.{is_set}
use Rattle.life_state.specs.Form.{FormedCursor, IsFormed}
use Rattle.life_state.specs.States.{BrigadeKnown, CursorKnown, End, Homes, In, InOrEnd, Loose, State, Unset}
use Rattle.life_check.specs.Certificates.{Certificate}
use Rattle.life_cert.specs.declared.print_state.HomeWord.{HomeWord}
use Rattle.life_cert.specs.declared.print_state.HomeWord.TheVariants as home
use Rattle.life_check.specs.declared.version.CertVersion.{CertVersion}
use Rattle.life_check.specs.declared.version.CertVersion.TheVariants as version
use Rattle.life_check.specs.Versions.{is_in_range}
use Rattle.life_state.proofs.Tests.{split2, split3}
use Rattle.life_cert.proofs.RepeatLaws.{found_at}
use Rattle.life_cert.specs.CertText.{first_line, vars_line, code_line, head_lines, between_line, cert_text, earlier, first_with, is_two, pc_line, said, said_by, said_line, state_or_none}
use Rattle.life_cert.specs.Lengths.{StateTextsAreShort, CertTextsAreShort, head_more}
use Rattle.life_cert.specs.Reading.{IsPrinted, IsWritable}
use Rattle.life_cert.specs.StateText.{brigade_name, brigade_text, classes_text, content_text, cursor_name, cursor_text, each, fact_text, facts_text, has_home, home_text, homes, homes_text, in_text}
use Rattle.life_cert.specs.StateText.{live_text, more_homes, place_text_of, pool_text, sent_text, set_text, some_homes, state_text, usable_text, where_holds}

-- these are so many bytes at most
pub record IsWithin (n : ℕ) (xs : List ℕ) : Type 0 where
  pub within : length xs ≤ n

exact : (xs : List ℕ) → IsWithin (length xs) xs
exact xs = record { within = omega arith }

less : (m n : ℕ) (xs : List ℕ) → IsWithin m xs → m ≤ n → IsWithin n xs
less m n xs h le = let few = h.within in record { within = omega (arith, few, le) }

both : (m n : ℕ) (xs ys : List ℕ) → IsWithin m xs → IsWithin n ys → IsWithin (m + n) (xs ++ ys)
both m n xs ys h k =
    let first = h.within in
    let second = k.within in
    let sum = length-append xs ys in
    record { within = omega (arith, first, second, sum) }

where_within : (n : ℕ) (b : Bool) (xs : List ℕ) → IsWithin n xs → IsWithin n (where_holds b xs)
where_within n true xs h = h
where_within n false xs h = record { within = omega arith }

-- the sum over so many numbers from k on
unfoldable total : ℕ → ℕ → (ℕ → ℕ) → ℕ
total k zero m = 0
total k (suc n) m = m k + total (k + 1) n m

each_within : (f : ℕ → List ℕ) (m : ℕ → ℕ) (n most k : ℕ) → n ≤ most → ((i : ℕ) → k ≤ i → i < k + n → IsWithin (m i) (f i)) → IsWithin (total k most m) (each k n f)
unfolding each total
each_within f m zero most k few h = record { within = omega arith }
each_within f m (suc n) zero k few h = absurd (omega (arith, few))
each_within f m (suc n) (suc most) k few h =
    both (m k) (total (k + 1) most m) (f k) (each (k + 1) n f) (h k (omega arith) (omega arith))
    (each_within f m n most (k + 1) (omega (arith, few)) (λ i low high. h i (omega (arith, low)) (omega (arith, high))))

digit_within : (q : ℕ) → q < 10 → IsWithin 1 (decimal q)
digit_within q low = record { within = length-decimal-le 1 q (omega arith) (omega (arith, low)) (omega (arith, low)) }

numbered_within : (n : ℕ) (letter : List ℕ) (q : ℕ) → IsWithin n letter → q < 10 → IsWithin (n + 1) (letter ++ decimal q)
numbered_within n letter q h low = both n 1 letter (decimal q) h (digit_within q low)

-- Homes.

abbrev width : HomeWord → ℕ
width home.Call = 4
width home.Req = 3
width (home.Own q) = 2
width home.Dead = 4

abbrev AreWithin : List HomeWord → Type 0
AreWithin [] = Unit {0}
AreWithin (x ∷ xs) = IsWithin (width x) (home_text x) × AreWithin xs

-- with a comma before each
abbrev widths : List HomeWord → ℕ
widths [] = 0
widths (x ∷ xs) = 1 + width x + widths xs

own_within : (q : ℕ) → q < 10 → IsWithin 2 (home_text (home.Own q))
own_within q low = numbered_within 1 (codes "p") q (exact (codes "p")) low

homes_within : AreWithin homes
homes_within = (
  exact (codes "call"),
  (
    exact (codes "req"),
    (
      own_within 0 (omega arith),
      (
        own_within 1 (omega arith),
        (
          own_within 2 (omega arith),
          (
            own_within 3 (omega arith),
            (own_within 4 (omega arith), (own_within 5 (omega arith), (own_within 6 (omega arith), (own_within 7 (omega arith), (exact (codes "dead"), tt))))),
          ),
        ),
      ),
    ),
  ),
)

more_within : (h : Homes) (xs : List HomeWord) → AreWithin xs → IsWithin (widths xs) (more_homes h xs)
more_within h [] w = exact []
more_within h (x ∷ xs) w =
    both (1 + width x) (widths xs) (where_holds (has_home h x) (codes "," ++ home_text x)) (more_homes h xs)
    (where_within (1 + width x) (has_home h x) (codes "," ++ home_text x) (both 1 (width x) (codes ",") (home_text x) (exact (codes ",")) (w.0))) (more_within h xs (w.1))

some_within : (n : ℕ) (h : Homes) (xs : List HomeWord) → AreWithin xs → 1 ≤ n → widths xs ≤ n + 1 → IsWithin n (some_homes h xs)
some_within n h [] w one le = less 1 n (codes "-") (exact (codes "-")) one
some_within n h (x ∷ xs) w one le = by (has_home h x) (some_within n h xs (w.1) one (omega (arith, le)))
  where
    by : (b : Bool) → IsWithin n (some_homes h xs) → IsWithin n (if b then home_text x ++ more_homes h xs else some_homes h xs)
    by true others = less (width x + widths xs) n (home_text x ++ more_homes h xs) (both (width x) (widths xs) (home_text x) (more_homes h xs) (w.0) (more_within h xs (w.1))) (omega (arith, le))
    by false others = others

homes_text_within : (h : Homes) → IsWithin 37 (homes_text h)
unfolding homes_text
homes_text_within h = some_within 37 h homes homes_within (omega arith) (let e : widths homes ≡ 38 = refl in omega (arith, e))

-- The parts of a state.

set_within : (null gone live : Bool) → IsWithin 3 (set_text null gone live)
set_within null gone live =
    both 1 2 (where_holds null (codes "n")) (where_holds gone (codes "g") ++ where_holds live (codes "l")) (where_within 1 null (codes "n") (exact (codes "n")))
    (both 1 1 (where_holds gone (codes "g")) (where_holds live (codes "l")) (where_within 1 gone (codes "g") (exact (codes "g"))) (where_within 1 live (codes "l") (exact (codes "l"))))

classes_within : (s : Classes) → IsWithin 3 (classes_text s)
classes_within s =
    both 1 2 (where_holds s.bytes (codes "d")) (where_holds s.flush (codes "f") ++ where_holds s.eos (codes "e")) (where_within 1 s.bytes (codes "d") (exact (codes "d")))
    (both 1 1 (where_holds s.flush (codes "f")) (where_holds s.eos (codes "e")) (where_within 1 s.flush (codes "f") (exact (codes "f"))) (where_within 1 s.eos (codes "e") (exact (codes "e"))))

content_within : (c : Contents) → IsWithin 1 (content_text c)
content_within Empty = exact (codes "e")
content_within Flushes = exact (codes "f")
content_within NoEos = exact (codes "n")
content_within NoLateData = exact (codes "o")
content_within Any = exact (codes "a")

usable_within : (v : BrigadeKnown) → IsWithin 40 (usable_text v)
usable_within v =
    where_within 40 v.usable (codes "/" ++ (content_text v.content ++ (codes "/" ++ homes_text v.homes)))
    (both 1 39 (codes "/") (content_text v.content ++ (codes "/" ++ homes_text v.homes)) (exact (codes "/"))
    (both 1 38 (content_text v.content) (codes "/" ++ homes_text v.homes) (content_within v.content) (both 1 37 (codes "/") (homes_text v.homes) (exact (codes "/")) (homes_text_within v.homes))))

live_within : (n : ℕ) (sign : List ℕ) (v : BrigadeKnown) → IsWithin n sign → IsWithin (n + 42) (live_text sign v)
live_within n sign v h =
    let usable = where_holds v.usable (codes "u") in
    let passed = where_holds v.passed (codes "p") in
    where_within (n + 42) v.live (sign ++ (usable ++ (passed ++ usable_text v)))
    (both n 42 sign (usable ++ (passed ++ usable_text v)) h
    (both 1 41 usable (passed ++ usable_text v) (where_within 1 v.usable (codes "u") (exact (codes "u")))
    (both 1 40 passed (usable_text v) (where_within 1 v.passed (codes "p") (exact (codes "p"))) (usable_within v))))

brigade_within : (b : ℕ) (v : BrigadeKnown) → b < 10 → IsWithin 50 (brigade_text b v)
brigade_within b v low =
    let set = set_text v.null v.gone v.live in
    let live = live_text (codes "/") v in
    both 3 47 (codes " b" ++ decimal b) (codes "=" ++ (set ++ live)) (numbered_within 2 (codes " b") b (exact (codes " b")) low)
    (both 1 46 (codes "=") (set ++ live) (exact (codes "=")) (both 3 43 set live (set_within v.null v.gone v.live) (live_within 1 (codes "/") v (exact (codes "/")))))

brigade_name_within : (b : ℕ) → b < 9 → IsWithin 2 (brigade_name b)
brigade_name_within b low = elim (cases_eq b 8) [
  | inl same ↦ subst (λ (x : Bool). IsWithin 2 (if x then codes "in" else codes "b" ++ decimal b)) (sym (eq-eqb b 8 same)) (exact (codes "in"))
  | inr other ↦ subst (λ (x : Bool). IsWithin 2 (if x then codes "in" else codes "b" ++ decimal b)) (sym (ne_eqb b 8 other)) (numbered_within 1 (codes "b") b (exact (codes "b")) (omega (arith, low)))
]

cursor_name_within : (c : ℕ) → c < 9 → IsWithin 2 (cursor_name c)
cursor_name_within c low = elim (cases_eq c 8) [
  | inl same ↦ subst (λ (x : Bool). IsWithin 2 (if x then codes "rd" else codes "c" ++ decimal c)) (sym (eq-eqb c 8 same)) (exact (codes "rd"))
  | inr other ↦ subst (λ (x : Bool). IsWithin 2 (if x then codes "rd" else codes "c" ++ decimal c)) (sym (ne_eqb c 8 other)) (numbered_within 1 (codes "c") c (exact (codes "c")) (omega (arith, low)))
]

place_within : (s : State) (v : CursorKnown) → FormedCursor s v → IsWithin 47 (place_text_of v)
place_within s Unset f = less 0 47 [] (exact []) (omega arith)
place_within s (Loose t h) f =
    both 6 41 (codes "loose/") (classes_text t ++ (codes "/" ++ homes_text h)) (exact (codes "loose/"))
    (both 3 38 (classes_text t) (codes "/" ++ homes_text h) (classes_within t) (both 1 37 (codes "/") (homes_text h) (exact (codes "/")) (homes_text_within h)))
place_within s (In b t) f =
    less 6 47 (brigade_name b ++ (codes "/" ++ classes_text t))
    (both 2 4 (brigade_name b) (codes "/" ++ classes_text t) (brigade_name_within b (f.1.0)) (both 1 3 (codes "/") (classes_text t) (exact (codes "/")) (classes_within t))) (omega arith)
place_within s (End b) f = less 3 47 (brigade_name b ++ codes "$") (both 2 1 (brigade_name b) (codes "$") (brigade_name_within b (f.0)) (exact (codes "$"))) (omega arith)
place_within s (InOrEnd b t) f =
    less 7 47 (brigade_name b ++ (codes "?/" ++ classes_text t))
    (both 2 5 (brigade_name b) (codes "?/" ++ classes_text t) (brigade_name_within b (f.1.0)) (both 2 3 (codes "?/") (classes_text t) (exact (codes "?/")) (classes_within t))) (omega arith)

cursor_within : (s : State) (c : ℕ) (v : CursorKnown) → c < 9 → FormedCursor s v → IsWithin 51 (cursor_text c v)
cursor_within s c v low f =
    where_within 51 (is_set v) (codes " " ++ (cursor_name c ++ (codes "=" ++ place_text_of v)))
    (both 1 50 (codes " ") (cursor_name c ++ (codes "=" ++ place_text_of v)) (exact (codes " "))
    (both 2 48 (cursor_name c) (codes "=" ++ place_text_of v) (cursor_name_within c low) (both 1 47 (codes "=") (place_text_of v) (exact (codes "=")) (place_within s v f))))

-- a fact is written of a pair that rises alone
abbrev rising : ℕ → ℕ → ℕ
rising c d = if nat_lt c d then 6 else 0

fact_within : (s : State) (c d : ℕ) → c < 9 → d < 9 → IsWithin (rising c d) (fact_text s c d)
fact_within s c d low high = by (nat_lt c d)
  where
    word : List ℕ
    word = codes " " ++ (cursor_name c ++ (codes "!" ++ cursor_name d))

    by : (b : Bool) → IsWithin (if b then 6 else 0) (where_holds (b && s.facts c d) word)
    by true = where_within 6 (s.facts c d) word (both 1 5 (codes " ") (cursor_name c ++ (codes "!" ++ cursor_name d)) (exact (codes " "))
        (both 2 3 (cursor_name c) (codes "!" ++ cursor_name d) (cursor_name_within c low) (both 1 2 (codes "!") (cursor_name d) (exact (codes "!")) (cursor_name_within d high))))
    by false = exact []

sent_within : (b : Bool) → IsWithin 10 (sent_text b)
sent_within true = exact (codes "sent=maybe")
sent_within false = less 7 10 (codes "sent=no") (exact (codes "sent=no")) (omega arith)

state_within : (s : State) → IsFormed s → IsWithin 1187 (state_text s)
unfolding state_text total
state_within s f =
    let few = f.pool_count in
    let few_brigades = f.brigade_count in
    let pools = each 0 s.pool_count (λ q. pool_text q (s.pools q)) in
    let brigades = each 0 s.brigade_count (λ b. brigade_text b (s.brigades b)) in
    let cursors = each 0 9 (λ c. cursor_text c (s.cursors c)) in
    let facts = each 0 9 (facts_text s) in
    both 10 1177 (sent_text s.sent) (pools ++ (brigades ++ (in_text (s.brigades 8) ++ (cursors ++ facts)))) (sent_within s.sent)
    (both 56 1121 pools (brigades ++ (in_text (s.brigades 8) ++ (cursors ++ facts)))
    (each_within (λ q. pool_text q (s.pools q)) (λ q. 7) s.pool_count 8 0 few (λ q low high. pool q (omega (arith, high, few))))
    (both 400 721 brigades (in_text (s.brigades 8) ++ (cursors ++ facts))
    (each_within (λ b. brigade_text b (s.brigades b)) (λ b. 50) s.brigade_count 8 0 few_brigades (λ b low high. brigade_within b (s.brigades b) (omega (arith, high, few_brigades))))
    (both 46 675 (in_text (s.brigades 8)) (cursors ++ facts) (live_within 4 (codes " in=") (s.brigades 8) (exact (codes " in=")))
    (both 459 216 cursors facts (each_within (λ c. cursor_text c (s.cursors c)) (λ c. 51) 9 9 0 (omega arith) (λ c low high. cursor_within s c (s.cursors c) high (f.cursors c)))
    (each_within (facts_text s) (λ c. total 0 9 (rising c)) 9 9 0 (omega arith) (λ c low high. each_within (fact_text s c) (rising c) 9 9 0 (omega arith) (λ d from to. fact_within s c d high to)))))))
  where
    pool : (q : ℕ) → q < 10 → IsWithin 7 (pool_text q (s.pools q))
    pool q low =
        let v = s.pools q in
        both 3 4 (codes " p" ++ decimal q) (codes "=" ++ set_text v.null v.gone v.live) (numbered_within 2 (codes " p") q (exact (codes " p")) low)
        (both 1 3 (codes "=") (set_text v.null v.gone v.live) (exact (codes "=")) (set_within v.null v.gone v.live))

pub state_texts_are_short : StateTextsAreShort
state_texts_are_short s f = (state_within s f).within

-- Lines that are not there are empty.

none_each : (f : ℕ → List ℕ) (n k : ℕ) → ((i : ℕ) → k ≤ i → f i ≡ []) → each k n f ≡ []
unfolding each
none_each f zero k h = refl
none_each f (suc n) k h = ap (λ t. t ++ each (k + 1) n f) (h k (omega arith)) ∙ none_each f n (k + 1) (λ i low. h i (omega (arith, low)))

more_each : (f : ℕ → List ℕ) (n m k : ℕ) → n ≤ m → ((i : ℕ) → k + n ≤ i → f i ≡ []) → each k n f ≡ each k m f
unfolding each
more_each f zero m k few h = sym (none_each f m k (λ i low. h i (omega (arith, low))))
more_each f (suc n) zero k few h = absurd (omega (arith, few))
more_each f (suc n) (suc m) k few h = ap (λ t. f k ++ t) (more_each f n m (k + 1) (omega (arith, few)) (λ i low. h i (omega (arith, low))))

no_line : (two : Bool) (at : ℕ → Option State) (pc : ℕ) → at pc ≡ None → pc_line two at pc ≡ []
no_line two at pc h = ap (λ o. said_line pc (said two at pc o)) h

pub all_lines : (two : Bool) (c : Certificate) → IsWritable c → each 0 c.lines (pc_line two c.at) ≡ each 0 1024 (pc_line two c.at)
all_lines two c h = by (nat_lt c.lines 1024) refl
  where
    by : (x : Bool) → nat_lt c.lines 1024 ≡ x → each 0 c.lines (pc_line two c.at) ≡ each 0 1024 (pc_line two c.at)
    by true e = more_each (pc_line two c.at) c.lines 1024 0 (let low = ltb-true c.lines 1024 e in omega (arith, low)) (λ i low. no_line two c.at i (h.none i (omega (arith, low))))
    by false e = sym (more_each (pc_line two c.at) 1024 c.lines 0 (ltb-false c.lines 1024 e) (λ i low. no_line two c.at i (h.few i (omega (arith, low)))))

-- The lines of a certificate.

-- by how much the first line is longer, and how long the shape is
abbrev head_first : CertVersion → ℕ
head_first version.One = 0
head_first (version.Two p b n) = 5

abbrev head_shape : CertVersion → ℕ
head_shape version.One = 0
head_shape (version.Two p b n) = 19

heads_are : (v : CertVersion) → head_first v + head_shape v ≡ head_more v
heads_are version.One = refl
heads_are (version.Two p b n) = refl

or_none_within : (o : Option State) → IfSome o IsFormed → IsWithin 1187 (state_or_none o)
or_none_within None f = less 4 1187 (codes "none") (exact (codes "none")) (omega arith)
or_none_within (Some s) f = state_within s f

between_within : (n : ℕ) (word : List ℕ) (o : Option State) → IsWithin n word → IfSome o IsFormed → IsWithin (n + 1188) (between_line word o)
between_within n word o h f = both n 1188 word (state_or_none o ++ codes "\n") h (both 1187 1 (state_or_none o) (codes "\n") (or_none_within o f) (exact (codes "\n")))

number_within : (pc : ℕ) → pc < 1024 → IsWithin 4 (decimal pc)
number_within pc low = record { within = length-decimal-le 4 pc (omega arith) (omega (arith, low)) (omega (arith, low)) }

said_within : (at : ℕ → Option State) (pc : ℕ) (m : Option ℕ) (s : State) → pc < 1024 → first_with at pc s ≡ m → IsFormed s → IsWithin 1187 (said_by m s)
said_within at pc None s low e f = state_within s f
said_within at pc (Some m) s low e f =
    let found = found_at at pc s m e in
    let below = found.below in
    less 9 1187 (codes "same " ++ decimal m) (both 5 4 (codes "same ") (decimal m) (exact (codes "same ")) (number_within m (omega (arith, low, below)))) (omega arith)

earlier_within : (two : Bool) (at : ℕ → Option State) (pc : ℕ) (s : State) → pc < 1024 → IsFormed s → IsWithin 1187 (said_by (earlier two at pc s) s)
earlier_within true at pc s low f = said_within at pc (first_with at pc s) s low refl f
earlier_within false at pc s low f = state_within s f

line_within : (two : Bool) (at : ℕ → Option State) (pc : ℕ) (o : Option State) → pc < 1024 → IfSome o IsFormed → IsWithin 1193 (said_line pc (said two at pc o))
line_within two at pc None low f = less 0 1193 [] (exact []) (omega arith)
line_within two at pc (Some s) low f =
    let text = said_by (earlier two at pc s) s in
    both 4 1189 (decimal pc) (codes " " ++ (text ++ codes "\n")) (number_within pc low)
    (both 1 1188 (codes " ") (text ++ codes "\n") (exact (codes " ")) (both 1187 1 text (codes "\n") (earlier_within two at pc s low f) (exact (codes "\n"))))

most_is : total 0 1024 (λ pc. 1193) ≡ 1221632
unfolding total
most_is = refl

first_within : (v : CertVersion) (slim : Bool) → IsWithin (7 + head_first v) (first_line (is_two v) slim)
first_within version.One true = exact (codes "slim 1\n")
first_within version.One false = exact (codes "cert 1\n")
first_within (version.Two p b n) true = exact (codes "cert 2 slim\n")
first_within (version.Two p b n) false = exact (codes "cert 2 full\n")

pub range_there : (p b n : ℕ) → is_in_range (version.Two p b n) ≡ true → (p ≤ 8) × (b ≤ 8) × (1 ≤ n) × (n ≤ 1024)
range_there p b n h =
    let last = split2 (nat_le p 8 && nat_le b 8 && nat_le 1 n) (nat_le n 1024) h in
    let first = split3 (nat_le p 8) (nat_le b 8) (nat_le 1 n) last.0 in
    (leb-true p 8 first.0, leb-true b 8 first.1, leb-true 1 n first.2, leb-true n 1024 last.1)

shape_within : (v : CertVersion) → is_in_range v ≡ true → IsWithin (head_shape v) (vars_line v ++ code_line v)
shape_within version.One h = exact []
shape_within (version.Two p b n) h =
    let low = range_there p b n h in
    let few = low.0 in
    let few_brigades = low.1 in
    let many = low.3 in
    both 9 10 (codes "vars " ++ (decimal p ++ (codes " " ++ (decimal b ++ codes "\n")))) (codes "code " ++ (decimal n ++ codes "\n"))
    (both 5 4 (codes "vars ") (decimal p ++ (codes " " ++ (decimal b ++ codes "\n"))) (exact (codes "vars "))
    (both 1 3 (decimal p) (codes " " ++ (decimal b ++ codes "\n")) (digit_within p (omega (arith, few)))
    (both 1 2 (codes " ") (decimal b ++ codes "\n") (exact (codes " ")) (both 1 1 (decimal b) (codes "\n") (digit_within b (omega (arith, few_brigades))) (exact (codes "\n"))))))
    (both 5 5 (codes "code ") (decimal n ++ codes "\n") (exact (codes "code "))
    (both 4 1 (decimal n) (codes "\n") (record { within = length-decimal-le 4 n (omega arith) (omega (arith, many)) (omega (arith, many)) }) (exact (codes "\n"))))

pub cert_texts_are_short : CertTextsAreShort
unfolding cert_text
cert_texts_are_short v slim c named h =
    let two = is_two v in
    let lines = each 0 1024 (pc_line two c.at) in
    let idle = between_line (codes "idle ") c.idle in
    let ready = between_line (codes "ready ") c.ready in
    let most = total 0 1024 (λ pc. 1193) in
    let leaders = heads_are v in
    let whole : IsWithin (7 + head_first v + head_shape v + (1193 + (1194 + (most + 4)))) (head_lines v slim ++ (idle ++ (ready ++ (lines ++ codes "end\n")))) =
    both (7 + head_first v + head_shape v) (1193 + (1194 + (most + 4))) (head_lines v slim) (idle ++ (ready ++ (lines ++ codes "end\n")))
    (both (7 + head_first v) (head_shape v) (first_line two slim) (vars_line v ++ code_line v) (first_within v slim) (shape_within v named))
    (both 1193 (1194 + (most + 4)) idle (ready ++ (lines ++ codes "end\n")) (between_within 5 (codes "idle ") c.idle (exact (codes "idle ")) h.idle)
    (both 1194 (most + 4) ready (lines ++ codes "end\n") (between_within 6 (codes "ready ") c.ready (exact (codes "ready ")) h.ready)
    (both most 4 lines (codes "end\n") (each_within (pc_line two c.at) (λ pc. 1193) 1024 1024 0 (omega arith) (λ pc from low. line_within two c.at pc (c.at pc) low (h.at pc)))
    (exact (codes "end\n"))))) in
    let few = whole.within in
    let sum = most_is in
    let same = ap (λ (t : List ℕ). length (head_lines v slim ++ (idle ++ (ready ++ (t ++ codes "end\n"))))) (all_lines two c h) in
    omega (arith, few, sum, same, leaders)

few_more : (v : CertVersion) → head_more v ≤ 24
few_more version.One = omega arith
few_more (version.Two p b n) = omega arith

pub printed_is_short : (text : List ℕ) (v : CertVersion) (slim : Bool) (c : Certificate) → IsPrinted text v slim c → length text ≤ 4194304
printed_is_short text v slim c p =
    let few = cert_texts_are_short v slim c p.named p.writable in
    let more = few_more v in
    let same = ap (λ (t : List ℕ). length t) p.whole in
    omega (arith, few, same, more)
