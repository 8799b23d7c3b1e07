-- Cursors and facts in turn, taken from the front of a text.
use Rattle.std.proofs.Common.{◌≡◌, ℕ, zero, suc, ◌+◌, ◌<◌, ◌≤◌, Bool, true, false, ◌&&◌, List, [], ◌∷◌, ◌++◌, codes, refl, sym, ap, subst, ◌∙◌, eqb, append_assoc, arith, inl, ne_eqb, ⊎_elim}
use Rattle.std.specs.Prelude.{nat_lt}
use Rattle.std.proofs.lemmas.Bool.{cases_eq}
use Rattle.life_state.specs.States.{CursorKnown, State}
use Rattle.life_state.specs.Facts.{is_set}
use Rattle.life_cert.specs.StateText.{each, where_holds, cursor_name, place_text_of, cursor_text, fact_text, facts_text}
use Rattle.life_cert.specs.StateFromText.{cursor_past, cursor_read, fact_past, fact_word, key, past_each, row_past, starts}
use Rattle.life_cert.proofs.Taking.{TextEnded, cursor_first, cursor_named, second_of, second_tells, skips, word_is, word_past}
use Rattle.life_cert.proofs.CursorTexts.{CanSay, cursor_taken}

-- a name with another number
two_bytes : (c d : ℕ) (w m : List ℕ) → c < 9 → d < 9 → (c ≡ d → ⊥) → starts (cursor_name c ++ w) (cursor_name d ++ m) ≡ false
two_bytes c d w m first second ne =
    ap (λ t. starts (t ++ w) (cursor_name d ++ m)) (cursor_named c first) ∙ ap (λ t. starts (cursor_first c ∷ (second_of 100 c ∷ w)) (t ++ m)) (cursor_named d second)
    ∙ ap (λ (b : Bool). eqb (cursor_first d) (cursor_first c) && (b && starts w m))
    (ne_eqb (second_of 100 d) (second_of 100 c) (λ e. let high : 56 < 100 = omega arith in ne (second_tells 100 c d high first second (sym e))))
    ∙ never (eqb (cursor_first d) (cursor_first c))
  where
    never : (b : Bool) → (b && false) ≡ false
    never true = refl
    never false = refl

-- the same name, and another sign behind it
same_bytes : (c : ℕ) (w m : List ℕ) → c < 9 → starts w m ≡ false → starts (cursor_name c ++ w) (cursor_name c ++ m) ≡ false
same_bytes c w m below h = front (cursor_name c)
  where
    never : (b : Bool) → (b && false) ≡ false
    never true = refl
    never false = refl

    front : (xs : List ℕ) → starts (xs ++ w) (xs ++ m) ≡ false
    front [] = h
    front (x ∷ xs) = ap (λ (b : Bool). eqb x x && b) (front xs) ∙ never (eqb x x)

-- of two names, with signs behind them that differ
any_bytes : (c d : ℕ) (w m : List ℕ) → c < 9 → d < 9 → starts w m ≡ false → starts (cursor_name c ++ w) (cursor_name d ++ m) ≡ false
any_bytes c d w m first second h =
    ⊎_elim
    (λ (e : c ≡ d). subst (λ (k : ℕ). starts (cursor_name c ++ w) (cursor_name k ++ m) ≡ false) e (same_bytes c w m first h))
    (λ (ne : c ≡ d → ⊥). two_bytes c d w m first second ne)
    (cases_eq c d)

-- No other cursor's word begins like that of this one, and none of a fact does.
pub no_cursor : (c d : ℕ) (v : CursorKnown) (m : List ℕ) → c < 9 → d < 9 → (c ≡ d → ⊥) → starts (key c) m ≡ false → starts (key c) (cursor_text d v ++ m) ≡ false
no_cursor c d v m first second ne h =
    skips (key c) (32 ∷ (cursor_name d ++ (61 ∷ place_text_of v))) (is_set v) m
    (ap (starts (cursor_name c ++ codes "=")) (append_assoc (cursor_name d) (61 ∷ place_text_of v) m) ∙ two_bytes c d (codes "=") (61 ∷ (place_text_of v ++ m)) first second ne) h

pub no_fact_key : (c i j : ℕ) (b : Bool) (m : List ℕ) → c < 9 → i < 9 → starts (key c) m ≡ false → starts (key c) (where_holds b (fact_word i j) ++ m) ≡ false
no_fact_key c i j b m first second h =
    skips (key c) (fact_word i j) b m
    (ap (starts (cursor_name c ++ codes "=")) (append_assoc (cursor_name i) (33 ∷ cursor_name j) m) ∙ any_bytes c i (codes "=") (33 ∷ (cursor_name j ++ m)) first second refl) h

pub no_fact : (c d i j : ℕ) (b : Bool) (m : List ℕ) → c < 9 → d < 9 → i < 9 → j < 9 → (c ≡ i → d ≡ j → ⊥) → starts (fact_word c d) m ≡ false
    → starts (fact_word c d) (where_holds b (fact_word i j) ++ m) ≡ false
no_fact c d i j b m cs ds is js ne h =
    skips (fact_word c d) (fact_word i j) b m
    (ap (starts (cursor_name c ++ (33 ∷ cursor_name d))) (append_assoc (cursor_name i) (33 ∷ cursor_name j) m) ∙ ⊎_elim
    (λ (e : c ≡ i). subst (λ (k : ℕ). starts (cursor_name c ++ (33 ∷ cursor_name d)) (cursor_name k ++ (33 ∷ (cursor_name j ++ m))) ≡ false) e
    (same_bytes c (33 ∷ cursor_name d) (33 ∷ (cursor_name j ++ m)) cs (behind_sign e)))
    (λ (apart : c ≡ i → ⊥). two_bytes c i (33 ∷ cursor_name d) (33 ∷ (cursor_name j ++ m)) cs is apart)
    (cases_eq c i)) h
  where
    ends : (xs : List ℕ) → xs ≡ xs ++ []
    ends [] = refl
    ends (x ∷ xs) = ap (λ t. x ∷ t) (ends xs)

    behind_sign : c ≡ i → starts (cursor_name d) (cursor_name j ++ m) ≡ false
    behind_sign e = ap (λ t. starts t (cursor_name j ++ m)) (ends (cursor_name d)) ∙ two_bytes d j [] m ds js (ne e)

-- Texts in turn, each of which is taken where what follows does not begin like it.
-- numbers below 9, texts, what is left behind one, and what it says of one's text
pub record TakesEach (f : ℕ → List ℕ) (p : ℕ → List ℕ → List ℕ) (Says : ℕ → List ℕ → Type 0) (Free : ℕ → List ℕ → Type 0) : Type 0 where
  pub says : (i : ℕ) (m : List ℕ) → i < 9 → Free i m → Says i (f i ++ m)
  pub more : (i : ℕ) (m : List ℕ) → i < 9 → Free i m → p i (f i ++ m) ≡ m
  pub free : (i j : ℕ) (m : List ℕ) → i < j → j < 9 → Free i m → Free i (f j ++ m)

pub record EachTaken (p : ℕ → List ℕ → List ℕ) (Says : ℕ → List ℕ → Type 0) (k n : ℕ) (m t : List ℕ) : Type 0 where
  pub says : (i : ℕ) → i < n → Says (k + i) (past_each p k i t)
  pub more : past_each p k n t ≡ m

each_free : (f : ℕ → List ℕ) (p : ℕ → List ℕ → List ℕ) (Says Free : ℕ → List ℕ → Type 0) (h : TakesEach f p Says Free) (i k n : ℕ) (m : List ℕ) → i < k → k + n ≤ 9 → Free i m
    → Free i (each k n f ++ m)
unfolding each
each_free f p Says Free h i k zero m low high e = e
each_free f p Says Free h i k (suc n) m low high e =
    subst (Free i) (sym (append_assoc (f k) (each (k + 1) n f) m)) (h.free i k (each (k + 1) n f ++ m) low (omega arith) (each_free f p Says Free h i (k + 1) n m (omega arith) (omega arith) e))

-- the first, and then those behind it
says_next : (p : ℕ → List ℕ → List ℕ) (Says : ℕ → List ℕ → Type 0) (k n : ℕ) (m t r : List ℕ) → p k t ≡ r → Says k t → EachTaken p Says (k + 1) n m r → (i : ℕ) → i < suc n
    → Says (k + i) (past_each p k i t)
unfolding past_each
says_next p Says k n m t r left here on zero inside = let same : k ≡ k + 0 = omega arith in subst (λ (x : ℕ). Says x t) same here
says_next p Says k n m t r left here on (suc i) inside =
    let same : k + 1 + i ≡ k + suc i = omega arith in
    subst (λ (x : ℕ). Says x (past_each p (k + 1) i (p k t))) same
    (subst (λ u. Says (k + 1 + i) (past_each p (k + 1) i u)) (sym left) (on.says i (omega (arith, inside))))

pub each_taken : (f : ℕ → List ℕ) (p : ℕ → List ℕ → List ℕ) (Says Free : ℕ → List ℕ → Type 0) (h : TakesEach f p Says Free) (k n : ℕ) (m : List ℕ) → k + n ≤ 9 → ((i : ℕ) → i < 9 → Free i m)
    → EachTaken p Says k n m (each k n f ++ m)
unfolding each past_each
each_taken f p Says Free h k zero m high e = record { says = λ i below. absurd (omega (arith, below)); more = refl }
each_taken f p Says Free h k (suc n) m high e =
    let rest = each (k + 1) n f ++ m in
    let again = append_assoc (f k) (each (k + 1) n f) m in
    let below : k < 9 = omega arith in
    let none = each_free f p Says Free h k (k + 1) n m (omega arith) (omega arith) (e k below) in
    let left : p k ((f k ++ each (k + 1) n f) ++ m) ≡ rest = ap (p k) again ∙ h.more k rest below none in
    let on = each_taken f p Says Free h (k + 1) n m (omega arith) e in
    record {
      says = says_next p Says k n m ((f k ++ each (k + 1) n f) ++ m) rest left (subst (Says k) (sym again) (h.says k rest below none)) on;
      more = ap (past_each p (k + 1) n) left ∙ on.more;
    }

-- texts of which each is taken where an ended one follows, and ends what stands before it
pub ended_taken : (f : ℕ → List ℕ) (p : List ℕ → List ℕ) (Says : ℕ → List ℕ → Type 0) (n : ℕ) (m : List ℕ) → ((i : ℕ) (r : List ℕ) → i < 9 → TextEnded r → Says i (f i ++ r) × (p (f i ++ r) ≡ r))
    → ((i : ℕ) (r : List ℕ) → TextEnded (f i ++ r)) → n ≤ 9 → TextEnded m → EachTaken (λ i. p) Says 0 n m (each 0 n f ++ m)
ended_taken f p Says n m taken ends few e =
    each_taken f (λ i. p) Says (λ i. TextEnded) (record {
      says = λ i r below g. (taken i r below g).0;
      more = λ i r below g. (taken i r below g).1;
      free = λ i j r low high g. ends j r;
    }) 0 n m (omega arith) (λ i below. e)

-- The cursors, in turn.
abbrev pub FreeOfCursor : ℕ → List ℕ → Type 0
FreeOfCursor c m = TextEnded m × (starts (key c) m ≡ false)

ended_where : (b : Bool) (t m : List ℕ) → TextEnded m → TextEnded (where_holds b (32 ∷ t) ++ m)
ended_where true t m h = inl refl
ended_where false t m h = h

pub cursors_taken : (v : ℕ → CursorKnown) (m : List ℕ) → ((c : ℕ) → CanSay (v c)) → ((c : ℕ) → c < 9 → FreeOfCursor c m)
    → EachTaken cursor_past (λ c t. cursor_read c t ≡ v c) 0 9 m (each 0 9 (λ c. cursor_text c (v c)) ++ m)
cursors_taken v m say free =
    each_taken (λ c. cursor_text c (v c)) cursor_past (λ c t. cursor_read c t ≡ v c) FreeOfCursor
    (record {
      says = λ i r below none. (cursor_taken i (v i) r (say i) none.0 none.1).read;
      more = λ i r below none. (cursor_taken i (v i) r (say i) none.0 none.1).more;
      free = λ i j r low high none.
          (ended_where (is_set (v j)) (cursor_name j ++ (61 ∷ place_text_of (v j))) r none.0, no_cursor i j (v j) r (omega (arith, low, high)) high (λ e. omega (arith, low, e)) none.1);
    }) 0 9 m (omega arith) free

-- The facts, row by row.
abbrev pub is_written : State → ℕ → ℕ → Bool
is_written s c d = nat_lt c d && s.facts c d

abbrev pub FreeOfFact : ℕ → ℕ → List ℕ → Type 0
FreeOfFact c d m = starts (fact_word c d) m ≡ false

pub row_taken : (s : State) (c : ℕ) (m : List ℕ) → c < 9 → ((d : ℕ) → d < 9 → FreeOfFact c d m)
    → EachTaken (fact_past c) (λ d t. starts (fact_word c d) t ≡ is_written s c d) 0 9 m (facts_text s c ++ m)
row_taken s c m below free =
    each_taken (fact_text s c) (fact_past c) (λ d t. starts (fact_word c d) t ≡ is_written s c d) (FreeOfFact c)
    (record {
      says = λ i r inside none. word_is (fact_word c i) (is_written s c i) r none;
      more = λ i r inside none. word_past (fact_word c i) (is_written s c i) r none;
      free = λ i j r low high none. no_fact c i c j (is_written s c j) r below (omega (arith, low, high)) below high (λ e same. omega (arith, low, same)) none;
    }) 0 9 m (omega arith) free

-- no row has a fact of another
row_free : (s : State) (c d i k n : ℕ) (m : List ℕ) → c < 9 → d < 9 → i < 9 → k + n ≤ 9 → (c ≡ i → ⊥) → FreeOfFact c d m → FreeOfFact c d (each k n (fact_text s i) ++ m)
unfolding each
row_free s c d i k zero m cs ds is high ne h = h
row_free s c d i k (suc n) m cs ds is high ne h =
    ap (starts (fact_word c d)) (append_assoc (fact_text s i k) (each (k + 1) n (fact_text s i)) m)
    ∙ no_fact c d i k (is_written s i k) (each (k + 1) n (fact_text s i) ++ m) cs ds is (omega arith) (λ e same. ne e) (row_free s c d i (k + 1) n m cs ds is (omega arith) ne h)

pub facts_taken : (s : State) (m : List ℕ) → ((c : ℕ) → c < 9 → (d : ℕ) → d < 9 → FreeOfFact c d m)
    → EachTaken row_past (λ c t. (d : ℕ) → d < 9 → starts (fact_word c d) (past_each (fact_past c) 0 d t) ≡ is_written s c d) 0 9 m (each 0 9 (facts_text s) ++ m)
facts_taken s m free =
    each_taken (facts_text s) row_past (λ c t. (d : ℕ) → d < 9 → starts (fact_word c d) (past_each (fact_past c) 0 d t) ≡ is_written s c d) (λ c r. (d : ℕ) → d < 9 → FreeOfFact c d r)
    (record {
      says = λ i r inside none d below. let t = past_each (fact_past i) 0 d (facts_text s i ++ r) in let same : 0 + d ≡ d = omega arith in
          subst (λ (x : ℕ). starts (fact_word i x) t ≡ is_written s i x) same ((row_taken s i r inside none).says d below);
      more = λ i r inside none. (row_taken s i r inside none).more;
      free = λ i j r low high none d below. row_free s i d j 0 9 r (omega (arith, low, high)) below high (omega arith) (λ e. omega (arith, low, e)) (none d below);
    }) 0 9 m (omega arith) free
