-- A state, taken from the front of a text.
use Rattle.std.proofs.Common.{◌≡◌, ℕ, zero, suc, ◌+◌, ◌<◌, ◌≤◌, Bool, true, false, ◌&&◌, ◌||◌, cond, List, [], ◌∷◌, ◌++◌, codes, refl, sym, ap, subst, ◌∙◌, eqb, append_assoc, arith, inl, inr}
use Rattle.std.specs.Prelude.{decimal}
use Rattle.std.proofs.Math.Path.{fun_ext}
use Rattle.module_code.specs.declared.instr.PoolRef.{PoolRef}
use Rattle.module_code.specs.declared.instr.PoolRef.TheVariants as pool
use Rattle.life_state.specs.declared.parts.Contents.{Contents}
use Rattle.life_state.specs.declared.parts.Contents.TheVariants.{Empty}
use Rattle.life_state.specs.Facts.{is_set}
use Rattle.life_state.specs.Form.{FormedBrigade, FormedCursor, NamesDeclared}
use Rattle.life_state.specs.States.{Homes, BrigadeKnown, CursorKnown, Unset, Loose, In, End, InOrEnd, State}
use Rattle.life_cert.specs.StateText.{cursor_name, cursor_text, each, facts_text, fact_text, homes, place_text_of, where_holds}
use Rattle.life_cert.specs.StateFromText.{at_from, count_each, fact_word, homes_from, key, known_dead, own_from, starts}
use Rattle.life_cert.proofs.Taking.{TextEnded, skips}
use Rattle.life_cert.proofs.HomeTexts.{bits}
use Rattle.life_cert.proofs.CursorTexts.{CanSay}
use Rattle.life_cert.proofs.FactTexts.{is_written, no_fact_key}
use Rattle.life_cert.proofs.VariableTexts.{CanSayBrigade}

-- Homes, from what is said of each in turn.
abbrev eight_then : (ℕ → Bool) → Bool → List Bool
eight_then f d = f 0 ∷ (f 1 ∷ (f 2 ∷ (f 3 ∷ (f 4 ∷ (f 5 ∷ (f 6 ∷ (f 7 ∷ (d ∷ []))))))))

own_back : (f : ℕ → Bool) (d : Bool) → ((q : ℕ) → 8 ≤ q → f q ≡ false) → (q : ℕ) → own_from (eight_then f d) q ≡ f q
own_back f d none zero = refl
own_back f d none (suc zero) = refl
own_back f d none (suc (suc zero)) = refl
own_back f d none (suc (suc (suc zero))) = refl
own_back f d none (suc (suc (suc (suc zero)))) = refl
own_back f d none (suc (suc (suc (suc (suc zero))))) = refl
own_back f d none (suc (suc (suc (suc (suc (suc zero)))))) = refl
own_back f d none (suc (suc (suc (suc (suc (suc (suc zero))))))) = refl
own_back f d none (suc (suc (suc (suc (suc (suc (suc (suc q)))))))) = sym (none (suc (suc (suc (suc (suc (suc (suc (suc q)))))))) (omega arith))

pub homes_back : (s : State) (h : Homes) → s.pool_count ≤ 8 → NamesDeclared s h → homes_from (bits h homes) ≡ h
homes_back s h few names = ap (λ (f : PoolRef → Bool). (let k : Homes = record { call = h.call; dead = h.dead; at = f } in k)) (fun_ext same)
  where
    none : (q : ℕ) → 8 ≤ q → h.at (pool.Own q) ≡ false
    none q high = by (h.at (pool.Own q)) refl
      where
        by : (b : Bool) → h.at (pool.Own q) ≡ b → h.at (pool.Own q) ≡ false
        by true e = let low = names.1 q e in absurd (omega (arith, low, few, high))
        by false e = e

    same : (k : PoolRef) → at_from (h.at pool.Req) (eight_then (λ q. h.at (pool.Own q)) h.dead) k ≡ h.at k
    same pool.Conn = sym names.0
    same pool.Req = refl
    same (pool.Own q) = own_back (λ q. h.at (pool.Own q)) h.dead none q

-- a text can say what is in form
pub says_cursor : (s : State) (v : CursorKnown) → s.pool_count ≤ 8 → FormedCursor s v → CanSay v
says_cursor s Unset few h = tt
says_cursor s (Loose t k) few h = homes_back s k few h.1
says_cursor s (In b t) few h = h.1.0
says_cursor s (End b) few h = h.0
says_cursor s (InOrEnd b t) few h = h.1.0

pub says_brigade : (s : State) (v : BrigadeKnown) → s.pool_count ≤ 8 → FormedBrigade v → NamesDeclared s v.homes → CanSayBrigade v
says_brigade s v few form names = record { dead = λ e. dead e (marks v.usable v.passed (sym form.marks ∙ e)); bare = form.bare; homes = homes_back s v.homes few names }
  where
    marks : (a b : Bool) → (a || b) ≡ false → (a ≡ false) × (b ≡ false)
    marks true b h = cc h
    marks false b h = (refl, h)

    dead : v.live ≡ false → (v.usable ≡ false) × (v.passed ≡ false) → v ≡ known_dead v.null v.gone
    dead e free =
        let bare = form.bare free.0 in
        ap (λ (l : Bool). (let k : BrigadeKnown = record v { live = l } in k)) e
        ∙ ap (λ (u : Bool). (let k : BrigadeKnown = record v { live = false; usable = u } in k)) free.0
        ∙ ap (λ (p : Bool). (let k : BrigadeKnown = record v { live = false; usable = false; passed = p } in k)) free.1
        ∙ ap (λ (c : Contents). (let k : BrigadeKnown = record v { live = false; usable = false; passed = false; content = c } in k)) bare.0
        ∙ ap (λ (x : Homes). (let k : BrigadeKnown = record v { live = false; usable = false; passed = false; content = Empty; homes = x } in k)) bare.1

-- What holds of each text that others are written before.
pub each_keeps : (P : List ℕ → Type 0) (f : ℕ → List ℕ) (k n : ℕ) (m : List ℕ) → ((i : ℕ) → i < k + n → (r : List ℕ) → P r → P (f i ++ r)) → P m → P (each k n f ++ m)
unfolding each
each_keeps P f k zero m one h = h
each_keeps P f k (suc n) m one h =
    subst P (sym (append_assoc (f k) (each (k + 1) n f) m)) (one k (omega arith) (each (k + 1) n f ++ m) (each_keeps P f (k + 1) n m (λ i below r q. one i (omega (arith, below)) r q) h))

-- How many texts stand there.
pub counted : (w : List ℕ) (p : List ℕ → List ℕ) (f : ℕ → List ℕ) (P : List ℕ → Type 0) → ((i : ℕ) → i < 9 → (r : List ℕ) → P r → P (f i ++ r))
    → ((i : ℕ) → i < 9 → (r : List ℕ) → P r → (starts w (f i ++ r) ≡ true) × (p (f i ++ r) ≡ r))
    → (k n most : ℕ) (m : List ℕ) → k + n ≤ 9 → n ≤ most → P m → starts w m ≡ false → count_each w p most (each k n f ++ m) ≡ n
unfolding each count_each
counted w p f P keeps one k zero zero m high few h none = refl
counted w p f P keeps one k zero (suc most) m high few h none = ap (λ (b : Bool). cond b (suc (count_each w p most (p m))) 0) none
counted w p f P keeps one k (suc n) zero m high few h none = absurd (omega (arith, few))
counted w p f P keeps one k (suc n) (suc most) m high few h none =
    let r = each (k + 1) n f ++ m in
    let t = (f k ++ each (k + 1) n f) ++ m in
    let is = append_assoc (f k) (each (k + 1) n f) m in
    let rest = each_keeps P f (k + 1) n m (λ i below x q. keeps i (omega (arith, below, high)) x q) h in
    let here = one k (omega arith) r rest in
    ap (λ (b : Bool). cond b (suc (count_each w p most (p t))) 0) (ap (starts w) is ∙ here.0)
    ∙ ap (λ x. suc (count_each w p most x)) (ap p is ∙ here.1)
    ∙ ap (λ (x : ℕ). suc x) (counted w p f P keeps one (k + 1) n most m (omega arith) (omega arith) h none)

-- a text ends here, or with an LF
abbrev pub IsLineEnd : List ℕ → Type 0
IsLineEnd [] = Unit {0}
IsLineEnd (b ∷ m) = b ≡ 10

pub line_ended : (m : List ℕ) → IsLineEnd m → TextEnded m
line_ended [] h = tt
line_ended (b ∷ m) h = inr (inr h)

pub no_space : (w m : List ℕ) → IsLineEnd m → starts (32 ∷ w) m ≡ false
no_space w [] h = refl
no_space w (b ∷ m) h = ap (λ (x : ℕ). eqb x 32 && starts w m) h

-- words that begin with a letter of no cursor's name
no_name : (p c : ℕ) (w m : List ℕ) → eqb 114 p ≡ false → eqb 99 p ≡ false → starts (p ∷ w) (cursor_name c ++ m) ≡ false
no_name p c w m r l = by (eqb c 8)
  where
    by : (x : Bool) → starts (p ∷ w) (cond x (codes "rd") (codes "c" ++ decimal c) ++ m) ≡ false
    by true = ap (λ (b : Bool). b && starts w (100 ∷ m)) r
    by false = ap (λ (b : Bool). b && starts w (decimal c ++ m)) l

pub no_cursor_begins : (p c : ℕ) (w : List ℕ) (v : CursorKnown) (m : List ℕ) → eqb 114 p ≡ false → eqb 99 p ≡ false → starts (32 ∷ (p ∷ w)) m ≡ false
    → starts (32 ∷ (p ∷ w)) (cursor_text c v ++ m) ≡ false
no_cursor_begins p c w v m r l h =
    skips (32 ∷ (p ∷ w)) (32 ∷ (cursor_name c ++ (61 ∷ place_text_of v))) (is_set v) m
    (ap (starts (p ∷ w)) (append_assoc (cursor_name c) (61 ∷ place_text_of v) m) ∙ no_name p c w (61 ∷ (place_text_of v ++ m)) r l) h

pub no_fact_begins : (p c d : ℕ) (w : List ℕ) (b : Bool) (m : List ℕ) → eqb 114 p ≡ false → eqb 99 p ≡ false → starts (32 ∷ (p ∷ w)) m ≡ false
    → starts (32 ∷ (p ∷ w)) (where_holds b (fact_word c d) ++ m) ≡ false
no_fact_begins p c d w b m r l h =
    skips (32 ∷ (p ∷ w)) (fact_word c d) b m
    (ap (starts (p ∷ w)) (append_assoc (cursor_name c) (33 ∷ cursor_name d) m) ∙ no_name p c w (33 ∷ (cursor_name d ++ m)) r l) h

pub ended_at : (b : Bool) (t m : List ℕ) → TextEnded m → TextEnded (where_holds b (32 ∷ t) ++ m)
ended_at true t m h = inl refl
ended_at false t m h = h

-- what keeps through the facts, keeps through all rows
pub rows_keep : (P : List ℕ → Type 0) (s : State) (m : List ℕ) → ((c d : ℕ) → c < 9 → d < 9 → (r : List ℕ) → P r → P (fact_text s c d ++ r)) → P m → P (each 0 9 (facts_text s) ++ m)
rows_keep P s m one h = each_keeps P (facts_text s) 0 9 m (λ c below r q. each_keeps P (fact_text s c) 0 9 r (λ d inside x k. one c d (omega (arith, below)) (omega (arith, inside)) x k) q) h

-- A text that others are written before: it may stand behind a word, and begins with none of these.
pub record MayFollow (p : ℕ) (w m : List ℕ) : Type 0 where
  pub ended : TextEnded m
  pub free : starts (32 ∷ (p ∷ w)) m ≡ false

pub facts_follow : (p : ℕ) (w : List ℕ) (s : State) (m : List ℕ) → eqb 114 p ≡ false → eqb 99 p ≡ false → MayFollow p w m → MayFollow p w (each 0 9 (facts_text s) ++ m)
facts_follow p w s m r l h = rows_keep (MayFollow p w) s m
    (λ c d cs ds x k. record { ended = ended_at (is_written s c d) (cursor_name c ++ (33 ∷ cursor_name d)) x k.ended; free = no_fact_begins p c d w (is_written s c d) x r l k.free }) h

pub cursors_follow : (p : ℕ) (w : List ℕ) (v : ℕ → CursorKnown) (m : List ℕ) → eqb 114 p ≡ false → eqb 99 p ≡ false → MayFollow p w m → MayFollow p w (each 0 9 (λ c. cursor_text c (v c)) ++ m)
cursors_follow p w v m r l h = each_keeps (MayFollow p w) (λ c. cursor_text c (v c)) 0 9 m
    (λ c below x k. record { ended = ended_at (is_set (v c)) (cursor_name c ++ (61 ∷ place_text_of (v c))) x k.ended; free = no_cursor_begins p c w (v c) x r l k.free }) h

-- before the facts and what ends the line, no word of a cursor is begun
pub facts_free : (s : State) (m : List ℕ) → IsLineEnd m → (c : ℕ) → c < 9 → TextEnded (each 0 9 (facts_text s) ++ m) × (starts (key c) (each 0 9 (facts_text s) ++ m) ≡ false)
facts_free s m h c below = (
  rows_keep TextEnded s m (λ i j is js x k. ended_at (is_written s i j) (cursor_name i ++ (33 ∷ cursor_name j)) x k) (line_ended m h),
  rows_keep (λ x. starts (key c) x ≡ false) s m (λ i j is js x k. no_fact_key c i j (is_written s i j) x below is k) (no_space (cursor_name c ++ codes "=") m h),
)
