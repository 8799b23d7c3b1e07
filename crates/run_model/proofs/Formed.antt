-- What the calls on pools make of a pool map is one.
use Rattle.std.proofs.Common.{◌≡◌, ◌≢◌, ℕ, ◌+◌, ◌<◌, ◌≤◌, Bool, true, false, ◌&&◌, ◌||◌, not, ◌==◌, cond, List, [], ◌∷◌, ◌++◌, ◌⊎◌, inl, inr, refl, sym, ◌∙◌, ap, subst, arith, eqb-true}
use Rattle.run_model.specs.Indexed.{upd}
use Rattle.run_model.specs.Pools.{Pools, Cleanups, no_cleanups, is_empty, is_in, is_live, is_under, with_one, planted, created, registered, registered_as, cleared, destroyed}
use Rattle.run_model.specs.declared.effect.CleanupKind.{CleanupKind}
use Rattle.run_model.specs.declared.effect.CleanupKind.TheVariants.{Plain}
use Rattle.run_model.specs.RunOrder.{IsPoolMap, without_last, killed}
use Rattle.run_model.proofs.RunOrderLaws.{under_above}
use Rattle.run_model.proofs.Updates.{upd_at, upd_off, upd_either}
use Rattle.run_model.proofs.PoolMap.{live_path, created_next, created_kept, cleared_path, cleared_apart, cleared_next, destroyed_path, destroyed_apart, destroyed_next, not_under}

-- What a pool map says of names and paths.

pub path_live : {T : Type 0} (ps : Pools T) (n m : ℕ) (above : List ℕ) → ps.path n ≡ m ∷ above → is_live ps n ≡ true
unfolding is_live
path_live ps n m above is = ap (λ (path : List ℕ). not (is_empty path)) is

pub formed_fresh : {T : Type 0} (ps : Pools T) → IsPoolMap ps → (n : ℕ) → ps.next ≤ n → ps.path n ≡ []
formed_fresh ps f n le = by_path (ps.path n) refl where
  by_path : (path : List ℕ) → ps.path n ≡ path → path ≡ []
  by_path [] is = refl
  by_path (m ∷ above) is = absurd (let lt : n < ps.next = f.named n (path_live ps n m above is) in omega arith)

pub formed_older : {T : Type 0} (ps : Pools T) → IsPoolMap ps → (n m : ℕ) → is_in m (ps.path n) ≡ true → m ≤ n
unfolding is_under
formed_older ps f n m inside = under_above ps f m n inside

second : (a b : Bool) → (a || b) ≡ false → b ≡ false
second true b h = absurd (cc)
second false b h = h

-- what does not stand under a pool has nothing above it that does
above_off : {T : Type 0} (ps : Pools T) → IsPoolMap ps → (q n m p : ℕ) (above : List ℕ) → ps.path n ≡ m ∷ p ∷ above → is_under ps q n ≡ false → is_under ps q p ≡ false
unfolding is_under
above_off ps f q n m p above is off =
    ap (is_in q) (f.closed n m p above is) ∙ second (m == q) (is_in q (p ∷ above)) (sym (ap (is_in q) is) ∙ off)

-- Pools go.

was : {T : Type 0} (ps new : Pools T) → ((k : ℕ) → (new.path k ≡ []) ⊎ (new.path k ≡ ps.path k)) → (n m : ℕ) (above : List ℕ) → new.path n ≡ m ∷ above → ps.path n ≡ m ∷ above
was ps new paths n m above is = elim (paths n) [
  | inl none ↦ absurd (let both : [] ≡ m ∷ above = sym none ∙ is in cc)
  | inr same ↦ sym same ∙ is
]

lived : {T : Type 0} (ps new : Pools T) (n : ℕ) → (new.path n ≡ []) ⊎ (new.path n ≡ ps.path n) → is_live new n ≡ true → is_live ps n ≡ true
unfolding is_live
lived ps new n path live = elim path [
  | inl none ↦ absurd (let dead : not (is_empty (new.path n)) ≡ false = ap (λ (p : List ℕ). not (is_empty p)) none in cc)
  | inr same ↦ sym (ap (λ (p : List ℕ). not (is_empty p)) same) ∙ live
]

-- where each path is as before or gone, and what stands above a pool that stays stays
pub thinned_formed : {T : Type 0} (ps new : Pools T) → new.next ≡ ps.next → ((k : ℕ) → (new.path k ≡ []) ⊎ (new.path k ≡ ps.path k))
    → ((n m p : ℕ) (above : List ℕ) → new.path n ≡ m ∷ p ∷ above → new.path p ≡ ps.path p) → ((n : ℕ) → new.path n ≡ [] → new.payloads n ≡ no_cleanups) → IsPoolMap ps → IsPoolMap new
thinned_formed ps new next paths stays bare f = record {
  first = λ n m above is. f.first n m above (was ps new paths n m above is);
  rises = λ n m p above is. f.rises n m p above (was ps new paths n m (p ∷ above) is);
  closed = λ n m p above is. stays n m p above is ∙ f.closed n m p above (was ps new paths n m (p ∷ above) is);
  alone = λ n m k l is is_too. f.alone n m k l (was ps new paths n k [] is) (was ps new paths m l [] is_too);
  named = λ n live. subst (λ (k : ℕ). n < k) (sym next) (f.named n (lived ps new n (paths n) live));
  bare = bare;
}

destroyed_off : {T : Type 0} (q : ℕ) (ps : Pools T) (n m : ℕ) (above : List ℕ) → (destroyed q ps).path n ≡ m ∷ above → (is_under ps q n ≡ false) × (ps.path n ≡ m ∷ above)
unfolding destroyed
destroyed_off q ps n m above is = by_test (is_under ps q n) is where
  by_test : (b : Bool) → cond b [] (ps.path n) ≡ m ∷ above → (b ≡ false) × (ps.path n ≡ m ∷ above)
  by_test true is = absurd (cc)
  by_test false is = (refl, is)

destroyed_bare : {T : Type 0} (q : ℕ) (ps : Pools T) → IsPoolMap ps → (n : ℕ) → (destroyed q ps).path n ≡ [] → (destroyed q ps).payloads n ≡ no_cleanups
unfolding destroyed
destroyed_bare q ps f n is = by_test (is_under ps q n) is where
  by_test : (b : Bool) → cond b [] (ps.path n) ≡ [] → cond b no_cleanups (ps.payloads n) ≡ no_cleanups
  by_test true is = refl
  by_test false is = f.bare n is

pub destroyed_formed : {T : Type 0} (q : ℕ) (ps : Pools T) → IsPoolMap ps → IsPoolMap (destroyed q ps)
destroyed_formed q ps f =
    thinned_formed ps (destroyed q ps) (destroyed_next q ps) (destroyed_path q ps)
    (λ n m p above is. let off = destroyed_off q ps n m (p ∷ above) is in (destroyed_apart q ps p (above_off ps f q n m p above off.1 off.0)).0)
    (destroyed_bare q ps f) f

cleared_off : {T : Type 0} (q : ℕ) (ps : Pools T) (n m : ℕ) (above : List ℕ) → (cleared q ps).path n ≡ m ∷ above → ((is_under ps q n ≡ false) ⊎ (n ≡ q)) × (ps.path n ≡ m ∷ above)
unfolding cleared
cleared_off q ps n m above is = by_test (is_under ps q n) (n == q) refl is where
  by_test : (b c : Bool) → (n == q) ≡ c → cond (b && not c) [] (ps.path n) ≡ m ∷ above → ((b ≡ false) ⊎ (n ≡ q)) × (ps.path n ≡ m ∷ above)
  by_test true true same is = (inr (eqb-true n q same), is)
  by_test true false same is = absurd (cc)
  by_test false c same is = (inl refl, is)

cleared_bare : {T : Type 0} (q : ℕ) (ps : Pools T) → IsPoolMap ps → (n : ℕ) → (cleared q ps).path n ≡ [] → (cleared q ps).payloads n ≡ no_cleanups
unfolding cleared
cleared_bare q ps f n is = by_test (is_under ps q n) (not (n == q)) is where
  by_test : (b c : Bool) → cond (b && c) [] (ps.path n) ≡ [] → cond b no_cleanups (ps.payloads n) ≡ no_cleanups
  by_test true c is = refl
  by_test false c is = f.bare n is

pub cleared_formed : {T : Type 0} (q : ℕ) (ps : Pools T) → IsPoolMap ps → IsPoolMap (cleared q ps)
cleared_formed q ps f =
    thinned_formed ps (cleared q ps) (cleared_next q ps) (cleared_path q ps) (λ n m p above is. let off = cleared_off q ps n m (p ∷ above) is in stays n m p above off.1 off.0)
    (cleared_bare q ps f) f where
      stays : (n m p : ℕ) (above : List ℕ) → ps.path n ≡ m ∷ p ∷ above → (is_under ps q n ≡ false) ⊎ (n ≡ q) → (cleared q ps).path p ≡ ps.path p
      stays n m p above is (inl off) = (cleared_apart q ps p (above_off ps f q n m p above is off)).0
      stays n m p above is (inr same) =
          let lt : p < n = f.rises n m p above is in
          (cleared_apart q ps p (not_under q ps p (formed_older ps f) (omega (arith, same)))).0

-- A pool is made.

created_cases : {T : Type 0} (parent : ℕ) (ps : Pools T) (n : ℕ)
    → ((n ≡ ps.next) × ((created parent ps).path n ≡ ps.next ∷ ps.path parent)) ⊎ ((n ≢ ps.next) × ((created parent ps).path n ≡ ps.path n) × ((created parent ps).payloads n ≡ ps.payloads n))
unfolding created
created_cases parent ps n = elim (upd_either ps.path ps.next n (ps.next ∷ ps.path parent)) [
  | inl p ↦ inl (p.0, p.1)
  | inr p ↦ inr (p.0, p.1, upd_off ps.payloads ps.next n no_cleanups p.0)
]

-- the heads and the tails of equal lists
heads : (a b : ℕ) (xs ys : List ℕ) → (a ∷ xs) ≡ (b ∷ ys) → a ≡ b
heads a b xs ys e = cc

tails : (a b : ℕ) (xs ys : List ℕ) → (a ∷ xs) ≡ (b ∷ ys) → xs ≡ ys
tails a b xs ys e = cc

pub created_formed : {T : Type 0} (parent : ℕ) (ps : Pools T) → is_live ps parent ≡ true → IsPoolMap ps → IsPoolMap (created parent ps)
created_formed parent ps live f = record {
  first = λ n m above is. elim (created_cases parent ps n) [
    | inl p ↦ sym (heads ps.next m (ps.path parent) above (sym p.1 ∙ is)) ∙ sym p.0
    | inr p ↦ f.first n m above (sym p.1 ∙ is)
  ];
  rises = λ n m k above is. elim (created_cases parent ps n) [
    | inl p ↦ (let top : k ≡ parent = f.first parent k above (tails ps.next m (ps.path parent) (k ∷ above) (sym p.1 ∙ is)) in let lt : parent < ps.next = f.named parent live in
        omega (arith, top, p.0))
    | inr p ↦ f.rises n m k above (sym p.1 ∙ is)
  ];
  closed = λ n m k above is. elim (created_cases parent ps n) [
    | inl p ↦ (let stood : ps.path parent ≡ k ∷ above = tails ps.next m (ps.path parent) (k ∷ above) (sym p.1 ∙ is) in
        let top : k ≡ parent = f.first parent k above stood in
        let lt : parent < ps.next = f.named parent live in
        created_kept parent ps k (omega (arith, top)) ∙ (ap ps.path top ∙ stood))
    | inr p ↦ (let stood : ps.path k ≡ k ∷ above = f.closed n m k above (sym p.1 ∙ is) in created_kept parent ps k (f.named k (path_live ps k k above stood)) ∙ stood)
  ];
  alone = λ n m k l is is_too. elim (created_cases parent ps n) [
    | inl p ↦ absurd (live_path ps parent live (tails ps.next k (ps.path parent) [] (sym p.1 ∙ is)))
    | inr p ↦ (elim (created_cases parent ps m) [
      | inl q ↦ absurd (live_path ps parent live (tails ps.next l (ps.path parent) [] (sym q.1 ∙ is_too)))
      | inr q ↦ f.alone n m k l (sym p.1 ∙ is) (sym q.1 ∙ is_too)
    ])
  ];
  named = λ n lives. elim (created_cases parent ps n) [
    | inl p ↦ omega (arith, p.0, created_next parent ps)
    | inr p ↦ (let lt : n < ps.next = f.named n (lived ps (created parent ps) n (inr p.1) lives) in omega (arith, created_next parent ps))
  ];
  bare = λ n none. elim (created_cases parent ps n) [
    | inl p ↦ absurd (let both : (ps.next ∷ ps.path parent) ≡ [] = sym p.1 ∙ none in cc)
    | inr p ↦ p.2 ∙ f.bare n (sym p.1 ∙ none)
  ];
}

-- the root alone
planted_cases : (T : Type 0) (root n : ℕ) → ((n ≡ root) × ((planted {T = T} root).path n ≡ root ∷ [])) ⊎ ((planted {T = T} root).path n ≡ [])
unfolding planted
planted_cases T root n = elim (upd_either (λ (k : ℕ). []) root n (root ∷ [])) [ inl p ↦ inl (p.0, p.1) | inr p ↦ inr p.1 ]

planted_bare : (T : Type 0) (root n : ℕ) → (planted {T = T} root).payloads n ≡ no_cleanups
unfolding planted
planted_bare T root n = refl

planted_next : (T : Type 0) (root : ℕ) → (planted {T = T} root).next ≡ root + 1
unfolding planted
planted_next T root = refl

pub planted_live : (T : Type 0) (root : ℕ) → is_live (planted {T = T} root) root ≡ true
unfolding is_live planted
planted_live T root = ap (λ (path : List ℕ). not (is_empty path)) (upd_at (λ (k : ℕ). []) root (root ∷ []))

planted_path : (T : Type 0) (root n m : ℕ) (above : List ℕ) → (planted {T = T} root).path n ≡ m ∷ above → (n ≡ root) × (m ≡ root) × (above ≡ [])
planted_path T root n m above is = elim (planted_cases T root n) [
  | inl p ↦ (let both : (root ∷ []) ≡ (m ∷ above) = sym p.1 ∙ is in (p.0, sym (heads root m [] above both), sym (tails root m [] above both)))
  | inr none ↦ absurd (let both : [] ≡ m ∷ above = sym none ∙ is in cc)
]

pub planted_formed : (T : Type 0) (root : ℕ) → IsPoolMap (planted {T = T} root)
planted_formed T root = record {
  first = λ n m above is. let p = planted_path T root n m above is in p.1 ∙ sym p.0;
  rises = λ n m k above is. absurd (let none : (k ∷ above) ≡ [] = (planted_path T root n m (k ∷ above) is).2 in cc);
  closed = λ n m k above is. absurd (let none : (k ∷ above) ≡ [] = (planted_path T root n m (k ∷ above) is).2 in cc);
  alone = λ n m k l is is_too. (planted_path T root n k [] is).0 ∙ sym (planted_path T root m l [] is_too).0;
  named = λ n live. elim (planted_cases T root n) [
    | inl p ↦ omega (arith, p.0, planted_next T root)
    | inr none ↦ absurd (live_path (planted {T = T} root) n live none)
  ];
  bare = λ n none. planted_bare T root n;
}

-- Payloads come and go.

-- the payloads of one pool are others
refilled_formed : {T : Type 0} (n : ℕ) (items : Cleanups T) (ps new : Pools T) → new.next ≡ ps.next → new.path ≡ ps.path → ((k : ℕ) → new.payloads k ≡ upd ps.payloads n items k)
    → (ps.path n ≡ [] → items ≡ no_cleanups) → IsPoolMap ps → IsPoolMap new
refilled_formed n items ps new next path payloads none_bare f =
    thinned_formed ps new next (λ k. inr (same k)) (λ k m p above is. same p) bare f where
      same : (k : ℕ) → new.path k ≡ ps.path k
      same k = ap (λ (g : ℕ → List ℕ). g k) path

      bare : (k : ℕ) → new.path k ≡ [] → new.payloads k ≡ no_cleanups
      bare k none = payloads k ∙ elim (upd_either ps.payloads n k items) [
        | inl p ↦ p.1 ∙ none_bare (ap ps.path (sym p.0) ∙ (sym (same k) ∙ none))
        | inr p ↦ p.1 ∙ f.bare k (sym (same k) ∙ none)
      ]

pub registered_as_formed : {T : Type 0} (k : CleanupKind) (n : ℕ) (x : T) (ps : Pools T) → is_live ps n ≡ true → IsPoolMap ps → IsPoolMap (registered_as k n x ps)
unfolding registered_as
registered_as_formed k n x ps live f = refilled_formed n (with_one k x (ps.payloads n)) ps (registered_as k n x ps) refl refl (λ k. refl) (λ none. absurd (live_path ps n live none)) f

pub registered_formed : {T : Type 0} (n : ℕ) (x : T) (ps : Pools T) → is_live ps n ≡ true → IsPoolMap ps → IsPoolMap (registered n x ps)
registered_formed n x ps live f = registered_as_formed Plain n x ps live f

nothing_less : {T : Type 0} (test : T → Bool) (c : Cleanups T) → c ≡ no_cleanups → record c { plain = without_last test c.plain } ≡ no_cleanups
unfolding without_last
nothing_less {T} test c none = ap (λ (d : Cleanups T). record d { plain = without_last test d.plain }) none

pub killed_formed : {T : Type 0} (n : ℕ) (test : T → Bool) (ps : Pools T) → IsPoolMap ps → IsPoolMap (killed n test ps)
unfolding killed
killed_formed n test ps f = refilled_formed n (record (ps.payloads n) { plain = without_last test (ps.payloads n).plain }) ps (killed n test ps) refl refl (λ k. refl) (λ none. nothing_less test (ps.payloads n) (f.bare n none)) f
