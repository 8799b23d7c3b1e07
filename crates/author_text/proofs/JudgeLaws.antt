-- What the faults say of a text, function after function.
use Rattle.std.proofs.Common.{◌≡◌, ℕ, zero, suc, ◌+◌, ◌-◌, ◌<◌, ◌≤◌, Bool, true, false, not, cond, eqb, List, [], ◌∷◌, ◌++◌, length, map, take, drop, Option, Some, None}
use Rattle.std.proofs.Common.{refl, sym, ◌∙◌, ap, subst, arith, inl, inr, ◌⊎◌, append_assoc, length-drop, append-nil}
use Rattle.std.proofs.lemmas.List.{map-append, take_all}
use Rattle.std.specs.Prelude.{Result, Ok, Err, is_some, MatchOption, MatchResult}
use Rattle.std.specs.Global.{Vec}
use Rattle.std.specs.Option.{option_and_then, option_map}
use Rattle.author_text.specs.declared.faults.Faults.{Faults}
use Rattle.author_text.specs.declared.refusal.Refusal.{Refusal}
use Rattle.author_text.specs.declared.refusal.Refusal.TheVariants as refusal
use Rattle.author_text.specs.declared.scan.Scanner.{Scanner}
use Rattle.author_text.specs.declared.token.Token.{Token}
use Rattle.author_text.specs.Reading.{IsOut, KeepsFault, fault_of}
use Rattle.author_text.specs.Scanning.{Advances, FindsAll, FindsSoFar, JudgesText, TakesPiece, is_at_token}
use Rattle.author_text.specs.TextTokens.{FrontPiece, token_front, tokens_behind, tokens_of}
use Rattle.author_text.specs.Tokens.{TokenTree, end_token, token_of}
use Rattle.author_text.proofs.FrontLaws.{token_some}
use Rattle.author_text.proofs.ScanLaws.{at_token_front, behind_less, kept_some, onward, same_map}

-- what was judged before goes on
pub judged_more : (P Q R : Type 0) (s t : Faults) (a b : List ℕ) → KeepsFault s t → JudgesText s a P → ((fault_of s) ≡ None → P → JudgesText t b Q) → (P → Q → R)
    → (P → tokens_behind 0 b ≡ None → tokens_behind 0 a ≡ None) → JudgesText t a R
judged_more P Q R s t a b k j next both none = by_case (fault_of s) refl j
  where
    found : (o : Option Refusal) → (fault_of t) ≡ o → P → MatchOption o Q (λ r. (r ≡ refusal.NoMemory) ⊎ (tokens_behind 0 b ≡ None)) → MatchOption o R (λ r. (r
        ≡ refusal.NoMemory) ⊎ (tokens_behind 0 a ≡ None))
    found None e p q = both p q
    found (Some r) e p (inl m) = inl m
    found (Some r) e p (inr n) = inr (none p n)

    by_case : (o : Option Refusal) → (fault_of s) ≡ o → MatchOption o P (λ r. (r ≡ refusal.NoMemory) ⊎ (tokens_behind 0 a ≡ None)) → JudgesText t a R
    by_case None e p = found (fault_of t) refl p (next e p)
    by_case (Some r) e f = subst (λ o. MatchOption o R (λ q. (q ≡ refusal.NoMemory) ⊎ (tokens_behind 0 a ≡ None))) (sym (k r e)) f

-- a fault of a text with more than tokens
pub judged_wrong : (P : Type 0) (t : Faults) (a : List ℕ) → is_some (fault_of t) ≡ true → tokens_behind 0 a ≡ None → JudgesText t a P
judged_wrong P t a s n = by_case (fault_of t) s
  where
    by_case : (o : Option Refusal) → is_some o ≡ true → MatchOption o P (λ r. (r ≡ refusal.NoMemory) ⊎ (tokens_behind 0 a ≡ None))
    by_case None s = absurd (cc)
    by_case (Some r) s = inr n

pub judged_out : (P : Type 0) (t : Faults) (a : List ℕ) → IsOut t → JudgesText t a P
judged_out P t a e = subst (λ o. MatchOption o P (λ r. (r ≡ refusal.NoMemory) ⊎ (tokens_behind 0 a ≡ None))) (sym e) (inl refl)

pub judged_clear : (P : Type 0) (t : Faults) (a : List ℕ) → (fault_of t) ≡ None → P → JudgesText t a P
judged_clear P t a e p = subst (λ o. MatchOption o P (λ r. (r ≡ refusal.NoMemory) ⊎ (tokens_behind 0 a ≡ None))) (sym e) p

pub judged_as : (P : Type 0) (t : Faults) (a : List ℕ) → (fault_of t) ≡ None → JudgesText t a P → P
judged_as P t a e j = subst (λ o. MatchOption o P (λ r. (r ≡ refusal.NoMemory) ⊎ (tokens_behind 0 a ≡ None))) e j

pub no_fault : (o : Option Refusal) → is_some o ≡ false → o ≡ None
no_fault None s = refl
no_fault (Some r) s = absurd (cc)

-- a token that is taken, and kept in a list
pub advanced : (s t : Scanner) (u : Faults) (token : Token) (old new : List Token) (a rest : List ℕ) → tokens_behind 0 a ≡ tokens_behind 0 rest → length rest ≤ length a
    → is_at_token rest ≡ true → 0 < length rest → s.rest.now ≡ rest → TakesPiece (token_front rest) s t token → KeepsFault t.faults u
    → ((fault_of t.faults) ≡ None → IsOut u ⊎ (((fault_of u) ≡ None) × (new ≡ old ++ token ∷ []))) → JudgesText u a (Advances true old new a t.rest.now)
advanced s t u token old new a [] same le at some is takes kept added = absurd (omega (arith, some))
advanced s t u token old new a (b ∷ bs) same le at some is takes kept added = by_piece (token_front (b ∷ bs)) refl takes
  where
    whole : (o : Option FrontPiece) → token_front (b ∷ bs) ≡ o → tokens_behind 0 a ≡ onward bs o
    whole o e = same ∙ ap (onward bs) (at_token_front b bs at ∙ e)

    by_added : (p : FrontPiece) → token_front (b ∷ bs) ≡ Some p → p.tokens ≡ token_of token ∷ [] → t.rest.now ≡ drop p.len (b ∷ bs)
        → IsOut u ⊎ (((fault_of u) ≡ None) × (new ≡ old ++ token ∷ [])) → JudgesText u a (Advances true old new a t.rest.now)
    by_added p e one left (inl out) = judged_out (Advances true old new a t.rest.now) u a out
    by_added p e one left (inr more) =
        let n : 1 ≤ p.len = token_some (b ∷ bs) p e in
        let next : tokens_behind (p.len - 1) bs ≡ tokens_behind 0 t.rest.now = behind_less p.len b bs n ∙ ap (tokens_behind 0) (sym left) in
        let less : length t.rest.now < length (b ∷ bs) = omega (arith, ap length left, length-drop p.len (b ∷ bs), n) in
        judged_clear (Advances true old new a t.rest.now) u a more.0 (
          token,
          more.1,
          whole (Some p) e ∙ ap (option_map (λ us. p.tokens ++ us)) next ∙ ap (λ ts. option_map (λ us. ts ++ us) (tokens_behind 0 t.rest.now)) one,
          omega (arith, less, le),
        )

    by_piece : (o : Option FrontPiece) → token_front (b ∷ bs) ≡ o → TakesPiece o s t token → JudgesText u a (Advances true old new a t.rest.now)
    by_piece None e f = judged_wrong (Advances true old new a t.rest.now) u a (kept_some t.faults u kept f) (whole None e)
    by_piece (Some p) e h = by_added p e h.1 (h.2 ∙ ap (drop p.len) is) (added h.0)

-- nothing is left
pub advanced_none : (old : List Token) (a rest : List ℕ) → tokens_behind 0 a ≡ tokens_behind 0 rest → length rest ≡ 0 → Advances false old old a rest
advanced_none old a [] same e = (refl, same)
advanced_none old a (b ∷ bs) same e = absurd (omega (arith, e))

-- the first step
pub finds_first : (old : List Token) (rest : List ℕ) → FindsSoFar old old rest rest 0
finds_first old rest = ([], sym (append-nil old), sym (same_map (tokens_behind 0 rest)), omega arith)

-- one more
pub finds_more : (old mid new : List Token) (rest at next : List ℕ) (count : ℕ) → FindsSoFar old mid rest at count → Advances true mid new at next → FindsSoFar old new rest next (count + 1)
finds_more old mid new rest at next count f a = (
  f.0 ++ a.0 ∷ [],
  a.1 ∙ ap (λ xs. xs ++ a.0 ∷ []) f.1 ∙ append_assoc old f.0 (a.0 ∷ []),
  f.2 ∙ ap (option_map (λ us. map token_of f.0 ++ us)) a.2 ∙ joined (tokens_behind 0 next),
  omega (arith, f.3, a.3),
)
  where
    joined : (o : Option (List TokenTree)) → option_map (λ us. map token_of f.0 ++ us) (option_map (λ us. token_of a.0 ∷ us) o) ≡ option_map (λ us. map token_of (f.0 ++ a.0 ∷ []) ++ us) o
    joined None = refl
    joined (Some us) = ap Some (sym (ap (λ xs. xs ++ us) (map-append token_of f.0 (a.0 ∷ [])) ∙ append_assoc (map token_of f.0) (token_of a.0 ∷ []) us))

-- the end
pub finds_all : (old mid new : List Token) (rest at : List ℕ) (count : ℕ) → FindsSoFar old mid rest at count → (new ≡ mid) × (tokens_behind 0 at ≡ Some []) → FindsAll old new rest
finds_all old mid new rest at count f a =
    (f.0, a.0 ∙ f.1, f.2 ∙ ap (option_map (λ us. map token_of f.0 ++ us)) a.1 ∙ ap Some (append-nil (map token_of f.0)))

pub finds_end : (old mid : List Token) (rest at : List ℕ) (count : ℕ) → FindsSoFar old mid rest at count → length rest ≤ count → FindsAll old mid rest
finds_end old mid rest [] count f le = finds_all old mid mid rest [] count f (refl, refl)
finds_end old mid rest (b ∷ bs) count f le = absurd (omega (arith, le, f.3))

pub none_more : (old mid : List Token) (rest at : List ℕ) (count : ℕ) → FindsSoFar old mid rest at count → tokens_behind 0 at ≡ None → tokens_behind 0 rest ≡ None
none_more old mid rest at count f n = f.2 ∙ ap (option_map (λ us. map token_of f.0 ++ us)) n

-- what is answered at the end, where the text has at most so many bytes
pub read_whole : (most : ℕ) (text : List ℕ) (s t u : Faults) (end : Token) (found : List Token) (new : Vec Token) (r : Result (Vec Token) Refusal)
    → JudgesText s (take most text) (FindsAll [] found (take most text)) → ((most < length text) × (is_some (fault_of t) ≡ true)) ⊎ ((length text ≤ most) × (t ≡ s)) → KeepsFault t u
    → ((fault_of t) ≡ None → IsOut u ⊎ (((fault_of u) ≡ None) × (new.items ≡ found ++ end ∷ []))) → token_of end ≡ end_token
    → MatchResult r (λ v. ((fault_of u) ≡ None) × (v ≡ new)) (λ e. (fault_of u) ≡ Some e)
    → MatchResult r (λ v. Some (map token_of v.items) ≡ option_map (λ ts. ts ++ end_token ∷ []) (tokens_of text)) (λ e. (e ≡ refusal.NoMemory) ⊎ (tokens_of text ≡ None) ⊎ (most < length text))
unfolding tokens_of
read_whole most text s t u end found new (Ok v) j b k a is out = by_case (fault_of t) refl b
  where
    whole : length text ≤ most → take most text ≡ text
    whole le = take_all most text le

    by_added : FindsAll [] found text → IsOut u ⊎ (((fault_of u) ≡ None) × (new.items ≡ found ++ end ∷ [])) → Some (map token_of v.items) ≡ option_map
        (λ ts. ts ++ end_token ∷ []) (tokens_behind 0 text)
    by_added f (inl o) = absurd (cc (o, out.0))
    by_added f (inr m) =
        let items : v.items ≡ f.0 ++ end ∷ [] = ap (λ w. w.items) out.1 ∙ m.1 ∙ ap (λ xs. xs ++ end ∷ []) f.1 in
        ap (λ xs. Some (map token_of xs)) items ∙ ap Some (map-append token_of f.0 (end ∷ [])) ∙ ap (λ x. Some (map token_of f.0 ++ x ∷ [])) is
        ∙ sym (ap (option_map (λ ts. ts ++ end_token ∷ [])) f.2)

    by_case : (o : Option Refusal) → (fault_of t) ≡ o → ((most < length text) × (is_some (fault_of t) ≡ true)) ⊎ ((length text ≤ most) × (t ≡ s))
        → Some (map token_of v.items) ≡ option_map (λ ts. ts ++ end_token ∷ []) (tokens_behind 0 text)
    by_case (Some q) e b = absurd (cc (k q e, out.0))
    by_case None e (inl long) = absurd (cc (long.1, ap is_some e))
    by_case None e (inr fits) =
        let clear : (fault_of s) ≡ None = sym (ap fault_of fits.1) ∙ e in
        by_added (subst (λ xs. FindsAll [] found xs) (whole fits.0) (judged_as (FindsAll [] found (take most text)) s (take most text) clear j)) (a e)
read_whole most text s t u end found new (Err q) j b k a is out = by_case (fault_of t) refl b
  where
    whole : length text ≤ most → take most text ≡ text
    whole le = take_all most text le

    by_added : IsOut u ⊎ (((fault_of u) ≡ None) × (new.items ≡ found ++ end ∷ [])) → q ≡ refusal.NoMemory
    by_added (inl o) = cc (o, out)
    by_added (inr m) = absurd (cc (m.0, out))

    by_fault : (x : Refusal) → q ≡ x → length text ≤ most → (x ≡ refusal.NoMemory) ⊎ (tokens_behind 0 (take most text) ≡ None)
        → (q ≡ refusal.NoMemory) ⊎ (tokens_behind 0 text ≡ None) ⊎ (most < length text)
    by_fault x e le (inl m) = inl (e ∙ m)
    by_fault x e le (inr n) = inr (inl (ap (tokens_behind 0) (sym (whole le)) ∙ n))

    by_case : (o : Option Refusal) → (fault_of t) ≡ o → ((most < length text) × (is_some (fault_of t) ≡ true)) ⊎ ((length text ≤ most) × (t ≡ s))
        → (q ≡ refusal.NoMemory) ⊎ (tokens_behind 0 text ≡ None) ⊎ (most < length text)
    by_case o e (inl long) = inr (inr long.0)
    by_case None e (inr fits) = inl (by_added (a e))
    by_case (Some x) e (inr fits) =
        let same : (fault_of s) ≡ Some x = sym (ap fault_of fits.1) ∙ e in
        let is_x : q ≡ x = cc (k x e, out) in
        by_fault x is_x fits.0 (subst (λ o. MatchOption o (FindsAll [] found (take most text)) (λ r. (r ≡ refusal.NoMemory) ⊎ (tokens_behind 0 (take most text) ≡ None))) same j)
