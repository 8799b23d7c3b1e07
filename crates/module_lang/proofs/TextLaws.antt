-- What a text's lines leave, taken in turn, against the definition that reads a text byte by byte.
use Rattle.std.proofs.Common.{◌≡◌, ℕ, ◌+◌, ◌-◌, Bool, true, false, cond, eqb, List, [], ◌∷◌, ◌++◌, drop, length, length-drop, take, Result, Ok, Err, refl, sym, ◌∙◌, ap, subst, arith}
use Rattle.std.proofs.lemmas.List.{take_all}
use Rattle.module_lang.specs.Assembling.{lines_ended, lines_read}
use Rattle.module_lang.specs.Codes.{Gives, Tells, ◌>>=◌}
use Rattle.module_lang.specs.Lines.{line_taken}
use Rattle.byte_text.specs.LineReading.{AreTaken, IsFirstRefused, LineTakes}
use Rattle.byte_text.specs.TextLines.{lines_from, rest_from}
use Rattle.module_lang.specs.declared.draft.Draft.{Draft}
use Rattle.module_lang.specs.declared.refusal.AsmRefusal.{AsmRefusal}
use Rattle.module_lang.specs.declared.refusal.AsmRefusal.TheVariants.{Fault, NoMemory}

-- what a line does to a draft
abbrev pub draft_takes : LineTakes Draft AsmRefusal
draft_takes d n l r e = Gives {X = Unit {0}} (λ _. e) r (line_taken d n l)

pub text_taken : (bs : List ℕ) (long : Bool) (d e : Draft) (n m : ℕ) (cur : List ℕ) → m ≡ n + length (lines_from cur bs) → AreTaken draft_takes d n (lines_from cur bs) e
    → lines_read long d n cur bs ≡ (lines_ended long e.part m (rest_from cur bs) >>= λ _. Ok e)
text_taken [] long d e n m cur s a = let k : n ≡ m = omega (arith, s) in ap (λ x. lines_ended long d.part x cur >>= λ _. Ok d) k ∙ ap (λ (x : Draft). lines_ended long x.part m cur >>= λ _. Ok x) a
text_taken (b ∷ bs) long d e n m cur s a = byte (eqb b 10) (λ x p q. text_taken bs long x e (n + 1) m [] p q) (λ p q. text_taken bs long d e n m (cur ++ b ∷ []) p q) s a
  where
    byte : (x : Bool) → ((y : Draft) → m ≡ n + 1 + length (lines_from [] bs) → AreTaken draft_takes y (n + 1) (lines_from [] bs) e → lines_read long y
        (n + 1) [] bs ≡ (lines_ended long e.part m (rest_from [] bs) >>= λ _. Ok e)) → (m ≡ n + length (lines_from (cur ++ b ∷ []) bs) → AreTaken draft_takes d n (lines_from (cur ++ b ∷ []) bs) e
        → lines_read long d n (cur ++ b ∷ []) bs ≡ (lines_ended long e.part m (rest_from (cur ++ b ∷ []) bs) >>= λ _. Ok e)) → m ≡ n + length
        (cond x (cur ∷ lines_from [] bs) (lines_from (cur ++ b ∷ []) bs)) → AreTaken draft_takes d n (cond x (cur ∷ lines_from [] bs) (lines_from (cur ++ b ∷ []) bs)) e → cond x (line_taken d n cur
        >>= λ y. lines_read long y (n + 1) [] bs) (lines_read long d n (cur ++ b ∷ []) bs) ≡ (lines_ended long e.part m (cond x (rest_from [] bs) (rest_from (cur ++ b ∷ []) bs)) >>= λ _. Ok e)
    byte true next on s a = rw a.1 (next a.0 (omega (arith, s)) a.2)
    byte false next on s a = on s a

tells_on : {A B : Type 0} (e : AsmRefusal) (r : Result A AsmRefusal) (f : A → Result B AsmRefusal) → Tells e r → Tells e (r >>= f)
tells_on (Fault n c) r f h = rw h refl
tells_on NoMemory r f h = tt

refused_from : (bs : List ℕ) (long : Bool) (d s t : Draft) (n m : ℕ) (cur : List ℕ) (before : List (List ℕ)) (line : List ℕ) (after : List (List ℕ)) (e : AsmRefusal)
    → lines_from cur bs ≡ before ++ line ∷ after → m ≡ n + length before → AreTaken draft_takes d n before s → Tells e (line_taken s m line) → Tells e (lines_read long d n cur bs)
refused_from [] long d s t n m cur [] line after e w k a h = absurd (cc w)
refused_from [] long d s t n m cur (x ∷ before) line after e w k a h = absurd (cc w)
refused_from (b ∷ bs) long d s t n m cur before line after e w k a h =
    byte (eqb b 10) (λ y before w k a. refused_from bs long y s t (n + 1) m [] before line after e w k a h) (λ w. refused_from bs long d s t n m (cur ++ b ∷ []) before line after e w k a h) w
  where
    ended : (before : List (List ℕ)) → ((y : Draft) (before : List (List ℕ)) → lines_from [] bs ≡ before ++ line ∷ after → m ≡ n + 1 + length before → AreTaken draft_takes y (n + 1) before s
        → Tells e (lines_read long y (n + 1) [] bs)) → cur ∷ lines_from [] bs ≡ before ++ line ∷ after → m ≡ n + length before → AreTaken draft_takes d n before s
        → Tells e (line_taken d n cur >>= λ y. lines_read long y (n + 1) [] bs)
    ended [] next w k a =
        let same : line ≡ cur = cc w in
        let here : m ≡ n = omega (arith, k) in
        tells_on e (line_taken d n cur) (λ y. lines_read long y (n + 1) [] bs)
        (subst (λ x. Tells e (line_taken d n x)) same (subst (λ x. Tells e (line_taken d x line)) here (subst (λ x. Tells e (line_taken x m line)) (sym a) h)))
    ended (x ∷ before) next w k a =
        let same : x ≡ cur = cc w in
        let rest : lines_from [] bs ≡ before ++ line ∷ after = cc w in
        let took : line_taken d n cur ≡ Ok a.0 = subst (λ z. line_taken d n z ≡ Ok a.0) same a.1 in
        rw took (next a.0 before rest (omega (arith, k)) a.2)

    byte : (x : Bool) → ((y : Draft) (before : List (List ℕ)) → lines_from [] bs ≡ before ++ line ∷ after → m ≡ n + 1 + length before → AreTaken draft_takes y (n + 1) before s
        → Tells e (lines_read long y (n + 1) [] bs)) → (lines_from (cur ++ b ∷ []) bs ≡ before ++ line ∷ after → Tells e (lines_read long d n (cur ++ b ∷ []) bs)) → cond x (cur ∷ lines_from [] bs)
        (lines_from (cur ++ b ∷ []) bs) ≡ before ++ line ∷ after → Tells e (cond x (line_taken d n cur >>= λ y. lines_read long y (n + 1) [] bs) (lines_read long d n (cur ++ b ∷ []) bs))
    byte true next on w = ended before next w k a
    byte false next on w = on w

-- a text whose first refused line is told is told so
pub text_refused : (text : List ℕ) (long : Bool) (d first t : Draft) (e : AsmRefusal) → first ≡ d → IsFirstRefused draft_takes first (lines_from [] text) e t → Tells e (lines_read long d 1 [] text)
text_refused text long d first t e s x =
    subst (λ y. Tells e (lines_read long y 1 [] text)) s (refused_from text long first x.state t 1 (length x.before + 1) [] x.before x.line x.after e x.whole (omega arith) x.taken x.refused)

-- a text whose lines are taken is judged by what stands behind them
text_ends : (text : List ℕ) (long : Bool) (d first e : Draft) (m start : ℕ) → first ≡ d → m ≡ length (lines_from [] text) + 1 → drop start text ≡ rest_from [] text
    → AreTaken draft_takes first 1 (lines_from [] text) e → lines_read long d 1 [] text ≡ (lines_ended long e.part m (take (length text - start) (drop start text)) >>= λ _. Ok e)
text_ends text long d first e m start s count rest a =
    let size = length-drop start text in
    let whole : take (length text - start) (drop start text) ≡ rest_from [] text = take_all (length text - start) (drop start text) (omega (arith, size)) ∙ rest in
    subst (λ y. lines_read long y 1 [] text ≡ (lines_ended long e.part m (take (length text - start) (drop start text)) >>= λ _. Ok e)) s
    (text_taken text long first e 1 m [] (omega (arith, count)) a ∙ ap (λ x. lines_ended long e.part m x >>= λ _. Ok e) (sym whole))

gives_then : {X : Type 0} (x : X) (r s : Result (Unit {0}) AsmRefusal) → Gives {X = Unit {0}} (λ u. u) r s → Gives {X = Unit {0}} (λ _. x) r (s >>= λ _. Ok x)
gives_then x (Ok u) s h = rw h refl
gives_then x (Err f) s h = tells_on f s (λ _. Ok x) h

pub text_judged : (text : List ℕ) (long : Bool) (d first e : Draft) (m start : ℕ) (r : Result (Unit {0}) AsmRefusal) → first ≡ d → m ≡ length (lines_from [] text) + 1
    → drop start text ≡ rest_from [] text → AreTaken draft_takes first 1 (lines_from [] text) e
    → Gives {X = Unit {0}} (λ u. u) r (lines_ended long e.part m (take (length text - start) (drop start text))) → Gives {X = Unit {0}} (λ _. e) r (lines_read long d 1 [] text)
text_judged text long d first e m start r s count rest a h =
    subst (Gives {X = Unit {0}} (λ _. e) r) (sym (text_ends text long d first e m start s count rest a))
    (gives_then e r (lines_ended long e.part m (take (length text - start) (drop start text))) h)
