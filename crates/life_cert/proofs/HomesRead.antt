-- Homes that are read one after another.
use Rattle.std.proofs.Common.{◌≡◌, ℕ, zero, suc, ◌+◌, ◌<◌, Bool, true, false, ◌||◌, cond, List, [], ◌∷◌, ◌++◌, length, take, drop, set, codes, decimal, refl, sym, ap, ◌∙◌, arith, append_assoc}
use Rattle.std.specs.Prelude.{slice_index_or}
use Rattle.std.proofs.Math.Path.{fun_ext}
use Rattle.std.proofs.lemmas.Fmt.{decimal_digit}
use Rattle.module_code.specs.declared.instr.PoolRef.{PoolRef}
use Rattle.module_code.specs.declared.instr.PoolRef.TheVariants as pool
use Rattle.std.proofs.Math.ListN.{length-set}
use Rattle.std.proofs.Math.Seq.{take-suc-set}
use Rattle.std.proofs.lemmas.List.{take_all}
use Rattle.life_state.specs.Seen.{seen_homes, seen_pools}
use Rattle.life_state.specs.States.{Homes}
use Rattle.life_cert.specs.declared.print_state.HomeWord.{HomeWord}
use Rattle.life_cert.specs.declared.print_state.HomeWord.TheVariants as home
use Rattle.life_cert.specs.StateText.{home_text, homes, where_holds}
use Rattle.life_cert.specs.StateFromText.{at_from, behind, dead_from, homes_from, homes_past, homes_read, more_there, own_from, past, past_more, past_some, some_there, starts}
use Rattle.life_cert.proofs.StateWords.{past_found}
use Rattle.life_cert.proofs.Taking.{past_none}

-- which of these are written, and what is left behind them, by whether one stands before them
abbrev pub there : Bool → List HomeWord → List ℕ → List Bool
there true xs t = more_there xs t
there false xs t = some_there xs t

abbrev pub past_these : Bool → List HomeWord → List ℕ → List ℕ
past_these true xs t = past_more xs t
past_these false xs t = past_some xs t

abbrev pub next_word : Bool → HomeWord → List ℕ
next_word any x = where_holds any (codes ",") ++ home_text x

pub there_next : (any : Bool) (x : HomeWord) (xs : List HomeWord) (t : List ℕ)
    → there any (x ∷ xs) t ≡ starts (next_word any x) t ∷ there (any || starts (next_word any x) t) xs (past (next_word any x) t)
there_next true x xs t = refl
there_next false x xs t = by (starts (home_text x) t) refl
  where
    by : (b : Bool) → starts (home_text x) t ≡ b → cond b (true ∷ more_there xs (behind (home_text x) t)) (false ∷ some_there xs t) ≡ b ∷ there b xs (past (home_text x) t)
    by true e = ap (λ r. true ∷ more_there xs r) (sym (past_found (home_text x) t e))
    by false e = ap (λ r. false ∷ some_there xs r) (past_none (home_text x) t e)

pub past_next : (any : Bool) (x : HomeWord) (xs : List HomeWord) (t : List ℕ) → past_these any (x ∷ xs) t ≡ past_these (any || starts (next_word any x) t) xs (past (next_word any x) t)
past_next true x xs t = refl
past_next false x xs t = by (starts (home_text x) t) refl
  where
    by : (b : Bool) → starts (home_text x) t ≡ b → cond b (past_more xs (behind (home_text x) t)) (past_some xs t) ≡ past_these b xs (past (home_text x) t)
    by true e = ap (past_more xs) (sym (past_found (home_text x) t e))
    by false e = ap (past_some xs) (past_none (home_text x) t e)

-- the pools of the variables, and what is dead
abbrev pub owns : List HomeWord
owns = drop 2 homes

own_next : (q : ℕ) → q < 8 → drop q owns ≡ home.Own q ∷ drop (q + 1) owns
own_next zero h = refl
own_next (suc zero) h = refl
own_next (suc (suc zero)) h = refl
own_next (suc (suc (suc zero))) h = refl
own_next (suc (suc (suc (suc zero)))) h = refl
own_next (suc (suc (suc (suc (suc zero))))) h = refl
own_next (suc (suc (suc (suc (suc (suc zero)))))) h = refl
own_next (suc (suc (suc (suc (suc (suc (suc zero))))))) h = refl
own_next (suc (suc (suc (suc (suc (suc (suc (suc q)))))))) h = absurd (omega (arith, h))

-- Before the pool of variable q: what is said of those before it, and what is left.
pub record OwnsRead (t : List ℕ) (call req any : Bool) (own : List Bool) (u : List ℕ) (q : ℕ) : Type 0 where
  pub said : some_there homes t ≡ call ∷ (req ∷ (take q own ++ there any (drop q owns) u))
  pub left : past_some homes t ≡ past_these any (drop q owns) u
  pub eight : length own ≡ 8

there_step : (any : Bool) (x : HomeWord) (xs : List HomeWord) (t : List ℕ) (b : Bool) (u : List ℕ) → b ≡ starts (next_word any x) t → u ≡ past (next_word any x) t
    → there any (x ∷ xs) t ≡ b ∷ there (any || b) xs u
there_step any x xs t b u is on =
    there_next any x xs t ∙ sym (ap (λ (c : Bool). c ∷ there (any || c) xs u) is ∙ ap (λ r. starts (next_word any x) t ∷ there (any || starts (next_word any x) t) xs r) on)

past_step : (any : Bool) (x : HomeWord) (xs : List HomeWord) (t : List ℕ) (b : Bool) (u : List ℕ) → b ≡ starts (next_word any x) t → u ≡ past (next_word any x) t
    → past_these any (x ∷ xs) t ≡ past_these (any || b) xs u
past_step any x xs t b u is on = past_next any x xs t ∙ sym (ap (λ (c : Bool). past_these (any || c) xs u) is ∙ ap (past_these (any || starts (next_word any x) t) xs) on)

pub owns_begin : (t : List ℕ) (call req : Bool) (u v : List ℕ) → call ≡ starts (codes "call") t → u ≡ past (codes "call") t → req ≡ starts (where_holds call (codes ",") ++ codes "req") u
    → v ≡ past (where_holds call (codes ",") ++ codes "req") u → OwnsRead t call req (call || req) (false ∷ (false ∷ (false ∷ (false ∷ (false ∷ (false ∷ (false ∷ (false ∷ [])))))))) v 0
owns_begin t call req u v c is r on = record {
  said = there_step false home.Call (home.Req ∷ owns) t call u c is ∙ ap (λ bs. call ∷ bs) (there_step call home.Req owns u req v r on);
  left = past_step false home.Call (home.Req ∷ owns) t call u c is ∙ past_step call home.Req owns u req v r on;
  eight = refl;
}

pub own_read_on : (t : List ℕ) (call req any : Bool) (own : List Bool) (u : List ℕ) (q : ℕ) (found : Bool) (v : List ℕ) → OwnsRead t call req any own u q → q < 8
    → found ≡ starts (where_holds any (codes ",") ++ (112 ∷ ((48 + q) ∷ []))) u → v ≡ past (where_holds any (codes ",") ++ (112 ∷ ((48 + q) ∷ []))) u
    → OwnsRead t call req (any || found) (set own q found) v (q + 1)
own_read_on t call req any own u q found v h below is on =
    let digit : decimal q ≡ (48 + q) ∷ [] = decimal_digit q (omega arith) in
    let word : where_holds any (codes ",") ++ (112 ∷ ((48 + q) ∷ [])) ≡ next_word any (home.Own q) = ap (λ d. where_holds any (codes ",") ++ (112 ∷ d)) (sym digit) in
    let is_there = is ∙ ap (λ w. starts w u) word in
    let past_it = on ∙ ap (λ w. past w u) word in
    let eight = h.eight in
    let next : q + 1 ≡ suc q = omega arith in
    let more = there (any || found) (drop (q + 1) owns) v in
    let front : take q own ++ (found ∷ more) ≡ take (q + 1) (set own q found) ++ more =
    sym (append_assoc (take q own) (found ∷ []) more) ∙ ap (λ bs. bs ++ more) (sym (take-suc-set own q found (omega (arith, eight)))) ∙ ap (λ (i : ℕ). take i (set own q found) ++ more) (sym next) in
    record {
      said = h.said ∙ ap (λ bs. call ∷ (req ∷ (take q own ++ bs))) (ap (λ xs. there any xs u) (own_next q below) ∙ there_step any (home.Own q) (drop (q + 1) owns) u found v is_there past_it)
          ∙ ap (λ bs. call ∷ (req ∷ bs)) front;
      left = h.left ∙ ap (λ xs. past_these any xs u) (own_next q below) ∙ past_step any (home.Own q) (drop (q + 1) owns) u found v is_there past_it;
      eight = length-set own q found ∙ eight;
    }

-- The homes of what was said.
dead_last : (xs : List Bool) (d : Bool) → dead_from (xs ++ (d ∷ [])) ≡ d
dead_last [] d = refl
dead_last (x ∷ []) d = refl
dead_last (x ∷ (y ∷ ys)) d = dead_last (y ∷ ys) d

own_at : (xs : List Bool) (d : Bool) (q : ℕ) → own_from (xs ++ (d ∷ [])) q ≡ slice_index_or xs q false
own_at [] d q = refl
own_at (x ∷ []) d zero = refl
own_at (x ∷ []) d (suc q) = refl
own_at (x ∷ (y ∷ ys)) d zero = refl
own_at (x ∷ (y ∷ ys)) d (suc q) = own_at (y ∷ ys) d q

module _ (t : List ℕ) (call req any : Bool) (own : List Bool) (u : List ℕ) (q : ℕ) (dead : Bool) (v : List ℕ) (h : OwnsRead t call req any own u q) (all : q ≡ 8)
    (is : dead ≡ starts (where_holds any (codes ",") ++ codes "dead") u) (on : v ≡ past (where_holds any (codes ",") ++ codes "dead") u) where
  said_all : some_there homes t ≡ call ∷ (req ∷ (own ++ (dead ∷ [])))
  said_all =
      let eight = h.eight in
      h.said ∙ ap (λ (i : ℕ). call ∷ (req ∷ (take i own ++ there any (drop i owns) u))) all
      ∙ ap (λ bs. call ∷ (req ∷ (bs ++ there any (home.Dead ∷ []) u))) (take_all 8 own (omega (arith, eight)))
      ∙ ap (λ bs. call ∷ (req ∷ (own ++ bs))) (there_step any home.Dead [] u dead v is on ∙ none (any || dead))
    where
      none : (b : Bool) → dead ∷ there b [] v ≡ dead ∷ []
      none true = refl
      none false = refl

  pub homes_said : seen_homes (record { call = call; dead = dead; pools = record { req = req; own = own } }) ≡ homes_read t
  unfolding homes_read
  homes_said = sym (ap homes_from said_all ∙ ap (λ (d : Bool). (let k : Homes = record { call = call; dead = d; at = at_from req (own ++ (dead ∷ [])) } in k)) (dead_last own dead)
      ∙ ap (λ (f : PoolRef → Bool). (let k : Homes = record { call = call; dead = dead; at = f } in k)) (fun_ext pools))
    where
      pools : (k : PoolRef) → at_from req (own ++ (dead ∷ [])) k ≡ seen_pools (record { req = req; own = own }) k
      pools pool.Conn = refl
      pools pool.Req = refl
      pools (pool.Own i) = own_at own dead i

  past_all : homes_past t ≡ past_these (any || dead) [] v
  unfolding homes_past
  past_all = h.left ∙ ap (λ (i : ℕ). past_these any (drop i owns) u) all ∙ past_step any home.Dead [] u dead v is on

  pub past_some_home : (any || dead) ≡ true → v ≡ homes_past t
  past_some_home e = sym (past_all ∙ ap (λ (b : Bool). past_these b [] v) e)

  pub past_no_home : (any || dead) ≡ false → behind (codes "-") v ≡ homes_past t
  past_no_home e = sym (past_all ∙ ap (λ (b : Bool). past_these b [] v) e)
