-- Reading items one by one, into a list.
use Rattle.std.proofs.Common.{◌≡◌, ℕ, ◌+◌, ◌-◌, ◌<◌, ◌≤◌, zero, suc, Bool, true, false, List, [], ◌∷◌, ◌++◌, map, refl, ap, sym, ◌∙◌, arith, codes, append_assoc, append-nil}
use Rattle.std.proofs.lemmas.List.{map-append}
use Rattle.author_text.specs.Escapes.{spelled_bytes}
use Rattle.author_text.specs.ReadTexts.{read_items, read_listed, read_texts, more_quoted}
use Rattle.author_text.specs.declared.token.Kind.{Kind}
use Rattle.author_text.specs.declared.token.Kind.TheVariants as kind
use Rattle.author_text.specs.Tokens.{TokenTree, kind_token, number_token, quoted_token, name_token, word_token, mark_token, end_token}
use Rattle.author_text.specs.UnreadTokens.{UnreadTokens, next_token, passed, is_at, is_quoted_token}

-- what is read of these tokens, so many items at most, comes behind the list that there is
abbrev pub Rest : {A : Type 0} → (ℕ → UnreadTokens → List A × UnreadTokens) → ℕ → List A → UnreadTokens → List A × UnreadTokens → Type 0
Rest f k xs u all = (xs ++ (f k u).0 ≡ all.0) × ((f k u).1 ≡ all.1)

-- all is read
abbrev pub Done : {A : Type 0} → List A → UnreadTokens → List A × UnreadTokens → Type 0
Done xs u all = (xs ≡ all.0) × (u ≡ all.1)

pub rest_all : {A : Type 0} (f : ℕ → UnreadTokens → List A × UnreadTokens) (count : ℕ) (xs : List A) (u : UnreadTokens) → xs ≡ [] → Rest f (count - 0) xs u (f count u)
rest_all f count xs u n =
    let e : count - 0 ≡ count = omega arith in
    (ap (λ k. xs ++ (f k u).0) e ∙ ap (λ ys. ys ++ (f count u).0) n, ap (λ k. (f k u).1) e)

pub done_at : {A : Type 0} (f : ℕ → UnreadTokens → List A × UnreadTokens) (count k : ℕ) (xs : List A) (u v : UnreadTokens) → count ≡ k → Done xs v (f count u) → Done xs v (f k u)
done_at f count k xs u v e q = (q.0 ∙ ap (λ n. (f n u).0) e, q.1 ∙ ap (λ n. (f n u).1) e)

done_by : {A : Type 0} (xs : List A) (u : UnreadTokens) (x all : List A × UnreadTokens) → x ≡ ([], u) → (xs ++ x.0 ≡ all.0) × (x.1 ≡ all.1) → Done xs u all
done_by xs u x all e q = (sym (ap (λ y. xs ++ y.0) e ∙ append-nil xs) ∙ q.0, sym (ap (λ y. y.1) e) ∙ q.1)

more_by : {A : Type 0} (xs : List A) (x : A) (y z all : List A × UnreadTokens) → z ≡ (x ∷ y.0, y.1) → (xs ++ z.0 ≡ all.0) × (z.1 ≡ all.1)
    → ((xs ++ (x ∷ [])) ++ y.0 ≡ all.0) × (y.1 ≡ all.1)
more_by xs x y z all e q = (append_assoc xs (x ∷ []) y.0 ∙ sym (ap (λ w. xs ++ w.0) e) ∙ q.0, sym (ap (λ w. w.1) e) ∙ q.1)

last_by : {A : Type 0} (xs : List A) (x : A) (u : UnreadTokens) (z all : List A × UnreadTokens) → z ≡ (x ∷ [], u) → (xs ++ z.0 ≡ all.0) × (z.1 ≡ all.1) → Done (xs ++ (x ∷ [])) u all
last_by xs x u z all e q = (sym (ap (λ w. xs ++ w.0) e) ∙ q.0, sym (ap (λ w. w.1) e) ∙ q.1)

none_left : (count counter : ℕ) → count ≤ counter → count - counter ≡ 0
none_left count counter h = omega (arith, h)

one_less : (count counter : ℕ) → counter < count → count - counter ≡ suc (count - (counter + 1))
one_less count counter h = omega (arith, h)

stopped : {A : Type 0} (stops : UnreadTokens → Bool) (item : UnreadTokens → A × UnreadTokens) (k : ℕ) (u : UnreadTokens) → stops u ≡ true → read_items stops item k u ≡ ([], u)
stopped stops item zero u e = refl
stopped stops item (suc k) u e = rw e refl

pub items_done : {A : Type 0} (stops : UnreadTokens → Bool) (item : UnreadTokens → A × UnreadTokens) (k : ℕ) (xs : List A) (u : UnreadTokens) (all : List A × UnreadTokens) → stops u ≡ true
    → Rest (read_items stops item) k xs u all → Done xs u all
items_done stops item k xs u all e q = done_by xs u (read_items stops item k u) all (stopped stops item k u e) q

pub items_past : {A : Type 0} (stops : UnreadTokens → Bool) (item : UnreadTokens → A × UnreadTokens) (count counter : ℕ) (xs : List A) (u : UnreadTokens) (all : List A × UnreadTokens) → count ≤ counter
    → Rest (read_items stops item) (count - counter) xs u all → Done xs u all
items_past stops item count counter xs u all h q =
    done_by xs u (read_items stops item (count - counter) u) all (ap (λ k. read_items stops item k u) (none_left count counter h)) q

goes : {A : Type 0} (stops : UnreadTokens → Bool) (item : UnreadTokens → A × UnreadTokens) (k : ℕ) (u : UnreadTokens) → stops u ≡ false
    → read_items stops item (suc k) u ≡ ((item u).0 ∷ (read_items stops item k (item u).1).0, (read_items stops item k (item u).1).1)
goes stops item k u e = rw e refl

-- one item more, which is added to the list
pub items_more : {A B : Type 0} (shown : B → A) (stops : UnreadTokens → Bool) (item : UnreadTokens → A × UnreadTokens) (count counter : ℕ) (ys zs : List B) (y : B) (u v w : UnreadTokens) (all : List A × UnreadTokens)
    → counter < count → stops u ≡ false → (shown y ≡ (item u).0) × (v ≡ (item u).1) → (zs ≡ ys ++ y ∷ []) × (w ≡ v)
    → Rest (read_items stops item) (count - counter) (map shown ys) u all → Rest (read_items stops item) (count - (counter + 1)) (map shown zs) w all
items_more shown stops item count counter ys zs y u v w all h e i a q =
    let k = count - (counter + 1) in
    let r = read_items stops item in
    let m = more_by (map shown ys) (item u).0 (r k (item u).1) (r (count - counter) u) all (ap (λ n. r n u) (one_less count counter h) ∙ goes stops item k u e) q in
    let s : w ≡ (item u).1 = a.1 ∙ i.1 in
    let l : map shown zs ≡ map shown ys ++ ((item u).0 ∷ []) = ap (map shown) a.0 ∙ map-append shown ys (y ∷ []) ∙ ap (λ x. map shown ys ++ (x ∷ [])) i.0 in
    (ap (λ x. map shown zs ++ (r k x).0) s ∙ ap (λ x. x ++ (r k (item u).1).0) l ∙ m.0, ap (λ x. (r k x).1) s ∙ m.1)

closed : {A : Type 0} (item : UnreadTokens → A × UnreadTokens) (k : ℕ) (u : UnreadTokens) → is_at (next_token u) (codes ")") ≡ true → read_listed item k u ≡ ([], u)
closed item zero u e = refl
closed item (suc k) u e = rw e refl

pub listed_done : {A : Type 0} (item : UnreadTokens → A × UnreadTokens) (k : ℕ) (xs : List A) (u : UnreadTokens) (all : List A × UnreadTokens) → is_at (next_token u) (codes ")") ≡ true
    → Rest (read_listed item) k xs u all → Done xs u all
listed_done item k xs u all e q = done_by xs u (read_listed item k u) all (closed item k u e) q

pub listed_past : {A : Type 0} (item : UnreadTokens → A × UnreadTokens) (count counter : ℕ) (xs : List A) (u : UnreadTokens) (all : List A × UnreadTokens) → count ≤ counter
    → Rest (read_listed item) (count - counter) xs u all → Done xs u all
listed_past item count counter xs u all h q =
    done_by xs u (read_listed item (count - counter) u) all (ap (λ k. read_listed item k u) (none_left count counter h)) q

last_listed : {A : Type 0} (item : UnreadTokens → A × UnreadTokens) (k : ℕ) (u : UnreadTokens) → is_at (next_token u) (codes ")") ≡ false → is_at (next_token (item u).1) (codes ",") ≡ false
    → read_listed item (suc k) u ≡ ((item u).0 ∷ [], (item u).1)
last_listed item k u e f = rw e (rw f refl)

goes_listed : {A : Type 0} (item : UnreadTokens → A × UnreadTokens) (k : ℕ) (u : UnreadTokens) → is_at (next_token u) (codes ")") ≡ false → is_at (next_token (item u).1) (codes ",") ≡ true
    → read_listed item (suc k) u ≡ ((item u).0 ∷ (read_listed item k (passed (item u).1)).0, (read_listed item k (passed (item u).1)).1)
goes_listed item k u e f = rw e (rw f refl)

-- the last item, behind which no comma follows
pub listed_last : {A B : Type 0} (shown : B → A) (item : UnreadTokens → A × UnreadTokens) (count counter : ℕ) (ys zs : List B) (y : B) (u v w x : UnreadTokens) (all : List A × UnreadTokens)
    → counter < count → is_at (next_token u) (codes ")") ≡ false → (shown y ≡ (item u).0) × (v ≡ (item u).1) → (zs ≡ ys ++ y ∷ []) × (w ≡ v)
    → (is_at (next_token w) (codes ",") ≡ false) × (x ≡ w) → Rest (read_listed item) (count - counter) (map shown ys) u all → Done (map shown zs) x all
listed_last shown item count counter ys zs y u v w x all h e i a c q =
    let k = count - (counter + 1) in
    let s : w ≡ (item u).1 = a.1 ∙ i.1 in
    let n : is_at (next_token (item u).1) (codes ",") ≡ false = ap (λ z. is_at (next_token z) (codes ",")) (sym s) ∙ c.0 in
    let m = last_by (map shown ys) (item u).0 (item u).1 (read_listed item (count - counter) u) all
    (ap (λ j. read_listed item j u) (one_less count counter h) ∙ last_listed item k u e n) q in
    let l : map shown zs ≡ map shown ys ++ ((item u).0 ∷ []) = ap (map shown) a.0 ∙ map-append shown ys (y ∷ []) ∙ ap (λ z. map shown ys ++ (z ∷ [])) i.0 in
    (l ∙ m.0, c.1 ∙ s ∙ m.1)

-- one item more, and the comma behind it
pub listed_more : {A B : Type 0} (shown : B → A) (item : UnreadTokens → A × UnreadTokens) (count counter : ℕ) (ys zs : List B) (y : B) (u v w x : UnreadTokens) (all : List A × UnreadTokens)
    → counter < count → is_at (next_token u) (codes ")") ≡ false → (shown y ≡ (item u).0) × (v ≡ (item u).1) → (zs ≡ ys ++ y ∷ []) × (w ≡ v)
    → (is_at (next_token w) (codes ",") ≡ true) × (x ≡ passed w) → Rest (read_listed item) (count - counter) (map shown ys) u all
    → Rest (read_listed item) (count - (counter + 1)) (map shown zs) x all
listed_more shown item count counter ys zs y u v w x all h e i a c q =
    let k = count - (counter + 1) in
    let r = read_listed item in
    let s : w ≡ (item u).1 = a.1 ∙ i.1 in
    let p : x ≡ passed (item u).1 = c.1 ∙ ap passed s in
    let n : is_at (next_token (item u).1) (codes ",") ≡ true = ap (λ z. is_at (next_token z) (codes ",")) (sym s) ∙ c.0 in
    let m = more_by (map shown ys) (item u).0 (r k (passed (item u).1)) (r (count - counter) u) all
    (ap (λ j. r j u) (one_less count counter h) ∙ goes_listed item k u e n) q in
    let l : map shown zs ≡ map shown ys ++ ((item u).0 ∷ []) = ap (map shown) a.0 ∙ map-append shown ys (y ∷ []) ∙ ap (λ z. map shown ys ++ (z ∷ [])) i.0 in
    (ap (λ z. map shown zs ++ (r k z).0) p ∙ ap (λ z. z ++ (r k (passed (item u).1)).0) l ∙ m.0, ap (λ z. (r k z).1) p ∙ m.1)

no_more : (t : TokenTree) (f : UnreadTokens → List ℕ × UnreadTokens) (u : UnreadTokens) → is_quoted_token t ≡ false → more_quoted t f u ≡ ([], u)
no_more (number_token n) f u h = refl
no_more (quoted_token x) f u h = absurd (cc)
no_more (name_token n) f u h = refl
no_more (word_token w) f u h = refl
no_more (mark_token m) f u h = refl
no_more end_token f u h = refl

no_texts : (k : ℕ) (u : UnreadTokens) → is_quoted_token (next_token u) ≡ false → read_texts k u ≡ ([], u)
no_texts zero u h = refl
no_texts (suc k) u h = no_more (next_token u) (read_texts k) u h

pub texts_done : (k : ℕ) (xs : List ℕ) (u : UnreadTokens) (all : List ℕ × UnreadTokens) → is_quoted_token (next_token u) ≡ false → Rest read_texts k xs u all → Done xs u all
texts_done k xs u all e q = done_by xs u (read_texts k u) all (no_texts k u e) q

pub texts_past : (count counter : ℕ) (xs : List ℕ) (u : UnreadTokens) (all : List ℕ × UnreadTokens) → count ≤ counter → Rest read_texts (count - counter) xs u all → Done xs u all
texts_past count counter xs u all h q = done_by xs u (read_texts (count - counter) u) all (ap (λ k. read_texts k u) (none_left count counter h)) q

quoted_is : (k : Kind) (text : List ℕ) → is_quoted_token (kind_token k text) ≡ true → kind_token k text ≡ quoted_token text
quoted_is (kind.Number n) text h = absurd (cc)
quoted_is kind.Text text h = refl
quoted_is kind.Name text h = absurd (cc)
quoted_is kind.Word text h = absurd (cc)
quoted_is kind.Mark text h = absurd (cc)
quoted_is kind.End text h = absurd (cc)

-- one text more
pub texts_more : (count counter : ℕ) (xs ys text : List ℕ) (k : Kind) (u v w : UnreadTokens) (all : List ℕ × UnreadTokens) → counter < count → is_quoted_token (next_token u) ≡ true
    → kind_token k text ≡ next_token u → v ≡ passed u → (ys ≡ xs ++ spelled_bytes 0 text) × (w ≡ v) → Rest read_texts (count - counter) xs u all
    → Rest read_texts (count - (counter + 1)) ys w all
texts_more count counter xs ys text k u v w all h e t p a q =
    let n = count - (counter + 1) in
    let s : w ≡ passed u = a.1 ∙ p in
    let is : next_token u ≡ quoted_token text = sym t ∙ quoted_is k text (ap is_quoted_token t ∙ e) in
    let x = read_texts n (passed u) in
    let r : read_texts (count - counter) u ≡ (spelled_bytes 0 text ++ x.0, x.1) =
    ap (λ j. read_texts j u) (one_less count counter h) ∙ ap (λ z. more_quoted z (read_texts n) u) is in (
      ap (λ z. ys ++ (read_texts n z).0) s ∙ ap (λ z. z ++ x.0) a.0 ∙ append_assoc xs (spelled_bytes 0 text) x.0 ∙ sym (ap (λ z. xs ++ z.0) r) ∙ q.0,
      ap (λ z. (read_texts n z).1) s ∙ sym (ap (λ z. z.1) r) ∙ q.1,
    )
