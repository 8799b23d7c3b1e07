-- The run order: each pool under the cleared one stands in it exactly once, and a greater depth changes nothing.
use Rattle.std.specs.Prelude.{◌≡◌, ℕ, zero, suc, ◌+◌, ◌<◌, ◌≤◌, Bool, true, false, nat_lt, ◌==◌, ◌&&◌, not, if◌then◌else◌, List, [], ◌∷◌, ◌++◌, map, reverse, filter, refl}
use Rattle.std.specs.List.{flat_map}
use Rattle.std.proofs.Common.{sym, ◌∙◌, ap, subst, inl, inr, arith}
use Rattle.std.proofs.lemmas.List.{append-nil, append_cancel_right}
use Rattle.std.proofs.lemmas.List.Concat.{flat_map-append}
use Rattle.std.proofs.lemmas.List.Elements.{filter-append}
use Rattle.std.proofs.lemmas.Bool.{cases_Bool, eqb-true, eq-eqb, ne_eqb, or_cases, or_left, or_right, cases_eq, false_from_ne_true, both_ways, lt-ltb, le-ltb, cases_lt}
use Rattle.run_model.specs.Pools.{Pools, is_live, is_under, is_in, is_empty}
use Rattle.run_model.specs.declared.effect.CleanupKind.TheVariants.{Plain, Pre}
use Rattle.run_model.specs.RunOrder.{leads_to, is_child, children_below, children, pre_run, own_run, runs_within, run_order, order_within, order, order_under, Turn, turns_at, both_turns, turn_run, turns_within, turns, turns_under, IsPoolMap}

-- the list of one number, or the empty list
unfoldable pub once_if : Bool → ℕ → List ℕ
once_if true n = n ∷ []
once_if false n = []

flat_map_flat_map : {A B C : Type 0} (f : B → List C) (g : A → List B) (xs : List A) → flat_map f (flat_map g xs) ≡ flat_map (λ x. flat_map f (g x)) xs
flat_map_flat_map f g [] = refl
flat_map_flat_map f g (x ∷ xs) = rw (flat_map-append f (g x) (flat_map g xs)) (ap (λ ys. flat_map f (g x) ++ ys) (flat_map_flat_map f g xs))

flat_map_same : {A B : Type 0} (f g : A → List B) → ((x : A) → f x ≡ g x) → (xs : List A) → flat_map f xs ≡ flat_map g xs
flat_map_same f g same [] = refl
flat_map_same f g same (x ∷ xs) = rw (same x) (ap (λ ys. g x ++ ys) (flat_map_same f g same xs))

-- the run order is that of its turns
pub runs-turns : {T : Type 0} (depth : ℕ) (ps : Pools T) (p : ℕ) → runs_within depth ps p ≡ flat_map (turn_run ps) (turns_within depth ps p)
unfolding runs_within turns_within turn_run pre_run own_run
runs-turns zero ps p = refl
runs-turns (suc depth) ps p =
    let below : flat_map (runs_within depth ps) (children ps p) ≡ flat_map (turn_run ps) (flat_map (turns_within depth ps) (children ps p))
    = flat_map_same (runs_within depth ps) (λ x. flat_map (turn_run ps) (turns_within depth ps x)) (runs-turns depth ps) (children ps p)
    ∙ sym (flat_map_flat_map (turn_run ps) (turns_within depth ps) (children ps p)) in
    rw (flat_map-append (turn_run ps) (flat_map (turns_within depth ps) (children ps p)) ((p, Plain) ∷ []), below, append-nil (own_run ps p))

-- a child's path
pub child_path : {T : Type 0} (ps : Pools T) → IsPoolMap ps → (p n : ℕ) (xs : List ℕ) → ps.path n ≡ xs → leads_to p xs ≡ true → (above : List ℕ) × (ps.path n ≡ n ∷ p ∷ above)
child_path ps formed p n [] is leads = cc
child_path ps formed p n (m ∷ []) is leads = cc
child_path ps formed p n (m ∷ q ∷ above) is leads =
    let e : q ≡ p = eqb-true q p leads in
    let f : m ≡ n = formed.first n m (q ∷ above) is in
    (above, is ∙ ap (λ a. a ∷ q ∷ above) f ∙ ap (λ a. n ∷ a ∷ above) e)

pub child_above : {T : Type 0} (ps : Pools T) → IsPoolMap ps → (p n : ℕ) → is_child ps p n ≡ true → p < n
unfolding is_child
child_above ps formed p n child = let c = child_path ps formed p n (ps.path n) refl child in formed.rises n n p c.0 c.1

-- the names of a path are at most its first
path_below : {T : Type 0} (ps : Pools T) → IsPoolMap ps → (xs : List ℕ) (c n : ℕ) → ps.path n ≡ xs → is_in c xs ≡ true → c ≤ n
path_below ps formed [] c n is inside = cc
path_below ps formed (m ∷ []) c n is inside =
    elim (or_cases (m == c) false inside) [ inl e ↦ omega (arith, eqb-true m c e, formed.first n m [] is) | inr e ↦ cc ]
path_below ps formed (m ∷ q ∷ above) c n is inside =
    elim (or_cases (m == c) (is_in c (q ∷ above)) inside) [
      | inl e ↦ omega (arith, eqb-true m c e, formed.first n m (q ∷ above) is)
      | inr e ↦ omega (arith, formed.rises n m q above is, path_below ps formed (q ∷ above) c q (formed.closed n m q above is) e)
    ]

pub under_above : {T : Type 0} (ps : Pools T) → IsPoolMap ps → (c n : ℕ) → is_under ps c n ≡ true → c ≤ n
unfolding is_under
under_above ps formed c n under = path_below ps formed (ps.path n) c n refl under

-- what is under a child of p is under p
under_child_in : {T : Type 0} (ps : Pools T) → IsPoolMap ps → (p c : ℕ) → is_child ps p c ≡ true → (xs : List ℕ) (n : ℕ) → ps.path n ≡ xs → is_in c xs ≡ true → is_in p xs ≡ true
unfolding is_child
under_child_in ps formed p c child [] n is inside = cc
under_child_in ps formed p c child (m ∷ []) n is inside =
    elim (or_cases (m == c) false inside) [
      | inl e ↦
          let at : n ≡ c = sym (formed.first n m [] is) ∙ eqb-true m c e in
          let q = child_path ps formed p c (ps.path c) refl child in
          let both : (m ∷ []) ≡ (c ∷ p ∷ q.0) = sym is ∙ ap ps.path at ∙ q.1 in
          cc
      | inr e ↦ cc
    ]
under_child_in ps formed p c child (m ∷ k ∷ above) n is inside =
    elim (or_cases (m == c) (is_in c (k ∷ above)) inside) [
      | inl e ↦
          let at : n ≡ c = sym (formed.first n m (k ∷ above) is) ∙ eqb-true m c e in
          let q = child_path ps formed p c (ps.path c) refl child in
          let both : (m ∷ k ∷ above) ≡ (c ∷ p ∷ q.0) = sym is ∙ ap ps.path at ∙ q.1 in
          let second : k ≡ p = cc in
          or_right (m == p) (is_in p (k ∷ above)) (or_left (k == p) (is_in p above) (eq-eqb k p second))
      | inr e ↦ or_right (m == p) (is_in p (k ∷ above)) (under_child_in ps formed p c child (k ∷ above) k (formed.closed n m k above is) e)
    ]

pub under_child : {T : Type 0} (ps : Pools T) → IsPoolMap ps → (p c n : ℕ) → is_child ps p c ≡ true → is_under ps c n ≡ true → (is_under ps p n ≡ true) × (p < n)
unfolding is_under
under_child ps formed p c n child under =
    (under_child_in ps formed p c child (ps.path n) n refl under, omega (arith, child_above ps formed p c child, under_above ps formed c n under))

-- the child of p that n is under, and it alone
pub record IsBranch {T : Type 0} (ps : Pools T) (p n b : ℕ) : Type 0 where
  pub child : is_child ps p b ≡ true
  pub under : is_under ps b n ≡ true
  pub alone : (c : ℕ) → is_child ps p c ≡ true → is_under ps c n ≡ true → c ≡ b

itself_in : {T : Type 0} (ps : Pools T) → IsPoolMap ps → (n : ℕ) (xs : List ℕ) → ps.path n ≡ xs → not (is_empty xs) ≡ true → is_in n xs ≡ true
itself_in ps formed n [] is some = cc
itself_in ps formed n (m ∷ above) is some = or_left (m == n) (is_in n above) (eq-eqb m n (formed.first n m above is))

-- each pool is under itself
pub under_itself : {T : Type 0} (ps : Pools T) → IsPoolMap ps → (n : ℕ) → is_live ps n ≡ true → is_under ps n n ≡ true
unfolding is_under is_live
under_itself ps formed n live = itself_in ps formed n (ps.path n) refl live

branch_in : {T : Type 0} (ps : Pools T) → IsPoolMap ps → (p : ℕ) (xs : List ℕ) (n : ℕ) → ps.path n ≡ xs → is_in p xs ≡ true → p < n → (b : ℕ) × IsBranch ps p n b
unfolding is_child is_under
branch_in ps formed p [] n is inside below = cc
branch_in ps formed p (m ∷ []) n is inside below =
    elim (or_cases (m == p) false inside) [
      | inl e ↦ absurd (omega (arith, eqb-true m p e, formed.first n m [] is))
      | inr e ↦ cc
    ]
branch_in ps formed p (m ∷ k ∷ above) n is inside below =
    let first : m ≡ n = formed.first n m (k ∷ above) is in
    let rest = formed.closed n m k above is in
    let inside_rest : is_in p (k ∷ above) ≡ true =
    elim (or_cases (m == p) (is_in p (k ∷ above)) inside) [ inl e ↦ absurd (omega (arith, eqb-true m p e)) | inr e ↦ e ] in
    elim (cases_eq k p) [
      | inl at ↦ (
        n,
        record {
          child = ap (leads_to p) is ∙ eq-eqb k p at;
          under = ap (is_in n) is ∙ or_left (m == n) (is_in n (k ∷ above)) (eq-eqb m n first);
          alone = λ c child under.
              elim (or_cases (m == c) (is_in c (k ∷ above)) (sym (ap (is_in c) is) ∙ under)) [
                | inl e ↦ sym (eqb-true m c e) ∙ first
                | inr e ↦ absurd (omega (arith, child_above ps formed p c child, path_below ps formed (k ∷ above) c k rest e))
              ];
        },
      )
      | inr apart ↦
          let p≤k = path_below ps formed (k ∷ above) p k rest inside_rest in
          let b = branch_in ps formed p (k ∷ above) k rest inside_rest (omega (arith, p≤k, apart)) in (
            b.0,
            record {
              child = b.1.child;
              under = ap (is_in b.0) is ∙ or_right (m == b.0) (is_in b.0 (k ∷ above)) (sym (ap (is_in b.0) rest) ∙ b.1.under);
              alone = λ c child under.
                  elim (or_cases (m == c) (is_in c (k ∷ above)) (sym (ap (is_in c) is) ∙ under)) [
                    | inl e ↦
                        let at : n ≡ c = sym first ∙ eqb-true m c e in
                        absurd (apart (eqb-true k p (sym (ap (leads_to p) (sym (ap ps.path at) ∙ is)) ∙ child)))
                    | inr e ↦ b.1.alone c child (ap (is_in c) rest ∙ e)
                  ];
            },
          )
    ]

pub branch : {T : Type 0} (ps : Pools T) → IsPoolMap ps → (p n : ℕ) → is_under ps p n ≡ true → p < n → (b : ℕ) × IsBranch ps p n b
unfolding is_under
branch ps formed p n under below = branch_in ps formed p (ps.path n) n refl under below

-- a child is a pool
pub child_live : {T : Type 0} (ps : Pools T) → IsPoolMap ps → (p n : ℕ) → is_child ps p n ≡ true → is_live ps n ≡ true
unfolding is_child is_live
child_live ps formed p n child = let c = child_path ps formed p n (ps.path n) refl child in ap (λ xs. not (is_empty xs)) c.1

lt_suc_apart : (b m : ℕ) → (m ≡ b → ⊥) → nat_lt b (suc m) ≡ nat_lt b m
lt_suc_apart b m apart =
    elim (cases_lt b m) [
      | inl below ↦ lt-ltb b (suc m) (omega arith) ∙ sym (lt-ltb b m below)
      | inr above ↦ le-ltb b (suc m) (omega (arith, apart)) ∙ sym (le-ltb b m above)
    ]

-- these items, or none
unfoldable pub all_if : {X : Type 0} → Bool → List X → List X
all_if true xs = xs
all_if false xs = []

-- what a list of children brings, where f gives that of each: of the pool n, what `ones` lists
module _ {T X : Type 0} (ps : Pools T) (p n : ℕ) (f : ℕ → List X) (test : X → Bool) (ones : List X)
    (each : (c : ℕ) → is_child ps p c ≡ true → filter test (f c) ≡ all_if (is_under ps c n) ones) where
  below_none : ((c : ℕ) → is_child ps p c ≡ true → is_under ps c n ≡ false) → (m : ℕ) → filter test (flat_map f (children_below ps p m)) ≡ []
  unfolding children_below all_if
  below_none none zero = refl
  below_none none (suc m) =
      elim (cases_Bool (is_child ps p m)) [
        | inl child ↦ rw child (rw (filter-append test (f m) (flat_map f (children_below ps p m)), each m child, none m child) (below_none none m))
        | inr other ↦ rw other (below_none none m)
      ]

  below_one : (b : ℕ) → IsBranch ps p n b → (m : ℕ) → filter test (flat_map f (children_below ps p m)) ≡ all_if (nat_lt b m) ones
  unfolding children_below all_if
  below_one b is zero = rw (le-ltb b 0 (omega arith))
  below_one b is (suc m) =
      elim (cases_Bool (is_child ps p m)) [
        | inl child ↦
            elim (cases_eq m b) [
              | inl here ↦
                  let under : is_under ps m n ≡ true = subst (λ c. is_under ps c n ≡ true) (sym here) is.under in
                  rw (
                    child,
                    filter-append test (f m) (flat_map f (children_below ps p m)),
                    each m child,
                    under,
                    below_one b is m,
                    lt-ltb b (suc m) (omega arith),
                    le-ltb b m (omega arith),
                    append-nil ones,
                  )
              | inr apart ↦
                  let aside : is_under ps m n ≡ false = false_from_ne_true (is_under ps m n) (λ under. apart (is.alone m child under)) in
                  rw (child, filter-append test (f m) (flat_map f (children_below ps p m)), each m child, aside, lt_suc_apart b m apart)
                  (below_one b is m)
            ]
        | inr other ↦
            let apart : m ≡ b → ⊥ = λ here. both_ways (is_child ps p m) other (subst (λ c. is_child ps p c ≡ true) (sym here) is.child) in
            rw (other, lt_suc_apart b m apart) (below_one b is m)
      ]

once_all : (b : Bool) (n : ℕ) → once_if b n ≡ all_if b (n ∷ [])
unfolding once_if all_if
once_all true n = refl
once_all false n = refl

-- Each pool under p stands exactly once among the pools of its run order, and no other pool does.
pub order_once : {T : Type 0} (ps : Pools T) → IsPoolMap ps → (n depth p : ℕ) → ps.next ≤ depth + p → is_live ps p ≡ true
    → filter (λ m. m == n) (order_within depth ps p) ≡ once_if (is_under ps p n) n
unfolding order_within once_if all_if
order_once ps formed n zero p deep live = absurd (omega (arith, formed.named p live))
order_once ps formed n (suc depth) p deep live =
    let each = λ (c : ℕ) (child : is_child ps p c ≡ true). order_once ps formed n depth c (omega (arith, child_above ps formed p c child)) (child_live ps formed p c child) ∙ once_all (is_under ps c n) n in
    elim (cases_eq p n) [
      | inl here ↦
          let none = λ (c : ℕ) (child : is_child ps p c ≡ true). false_from_ne_true (is_under ps c n) (λ under. absurd (omega (arith, (under_child ps formed p c n child under).1))) in
          let under : is_under ps p n ≡ true = subst (λ k. is_under ps p k ≡ true) here (under_itself ps formed p live) in
          rw (
            filter-append (λ k. k == n) (flat_map (order_within depth ps) (children ps p)) (p ∷ []),
            below_none ps p n (order_within depth ps) (λ k. k == n) (n ∷ []) each none ps.next,
            eq-eqb p n here,
            under,
            here,
          )
      | inr apart ↦
          rw (
            filter-append (λ k. k == n) (flat_map (order_within depth ps) (children ps p)) (p ∷ []),
            ne_eqb p n apart,
            append-nil (filter (λ k. k == n) (flat_map (order_within depth ps) (children ps p))),
          )
          (elim (cases_Bool (is_under ps p n)) [
            | inl under ↦
                let b = branch ps formed p n under (omega (arith, under_above ps formed p n under, apart)) in
                rw (under, below_one ps p n (order_within depth ps) (λ k. k == n) (n ∷ []) each b.0 b.1 ps.next, lt-ltb b.0 ps.next (formed.named b.0 (child_live ps formed p b.0 b.1.child)))
            | inr aside ↦
                let none = λ (c : ℕ) (child : is_child ps p c ≡ true). false_from_ne_true (is_under ps c n) (λ under. both_ways (is_under ps p n) aside (under_child ps formed p c n child under).0) in
                rw (aside, below_none ps p n (order_within depth ps) (λ k. k == n) (n ∷ []) each none ps.next)
          ])
    ]

-- the children's pools do not hang on the depth where those of each child do not
children_same : {T X : Type 0} (ps : Pools T) (p : ℕ) (f g : ℕ → List X) → ((c : ℕ) → is_child ps p c ≡ true → f c ≡ g c) → (m : ℕ)
    → flat_map f (children_below ps p m) ≡ flat_map g (children_below ps p m)
unfolding children_below
children_same ps p f g same zero = refl
children_same ps p f g same (suc m) =
    elim (cases_Bool (is_child ps p m)) [
      | inl child ↦ rw (child, same m child) (ap (λ xs. g m ++ xs) (children_same ps p f g same m))
      | inr other ↦ rw other (children_same ps p f g same m)
    ]

-- what stands in the list of children is a child
pub children_child : {T : Type 0} (ps : Pools T) (p n m : ℕ) → is_in n (children_below ps p m) ≡ true → is_child ps p n ≡ true
unfolding children_below
children_child ps p n zero inside = cc
children_child ps p n (suc m) inside =
    elim (cases_Bool (is_child ps p m)) [
      | inl child ↦
          (let among = rw child at inside in
          elim (or_cases (m == n) (is_in n (children_below ps p m)) among) [
            | inl here ↦ subst (λ k. is_child ps p k ≡ true) (eqb-true m n here) child
            | inr there ↦ children_child ps p n m there
          ])
      | inr other ↦ (let among = rw other at inside in children_child ps p n m among)
    ]

-- a greater depth changes nothing
pub order_deep : {T : Type 0} (ps : Pools T) → IsPoolMap ps → (d e p : ℕ) → ps.next ≤ d + p → ps.next ≤ e + p → is_live ps p ≡ true
    → order_within d ps p ≡ order_within e ps p
unfolding order_within
order_deep ps formed zero e p deep far live = absurd (omega (arith, formed.named p live))
order_deep ps formed (suc d) zero p deep far live = absurd (omega (arith, formed.named p live))
order_deep ps formed (suc d) (suc e) p deep far live =
    ap (λ xs. xs ++ p ∷ []) (children_same ps p (order_within d ps) (order_within e ps)
    (λ c child. order_deep ps formed d e c (omega (arith, child_above ps formed p c child)) (omega (arith, child_above ps formed p c child)) (child_live ps formed p c child))
    ps.next)

pub order_step : {T : Type 0} (ps : Pools T) → IsPoolMap ps → (p : ℕ) → is_live ps p ≡ true → order ps p ≡ order_under ps p ++ p ∷ []
unfolding order order_under order_within
order_step ps formed p live =
    order_deep ps formed ps.next (suc ps.next) p (omega arith) (omega arith) live

order_is : {T : Type 0} (ps : Pools T) (p : ℕ) → order ps p ≡ order_within ps.next ps p
unfolding order
order_is ps p = refl

-- a greater depth changes nothing
pub turns_deep : {T : Type 0} (ps : Pools T) → IsPoolMap ps → (d e p : ℕ) → ps.next ≤ d + p → ps.next ≤ e + p → is_live ps p ≡ true
    → turns_within d ps p ≡ turns_within e ps p
unfolding turns_within
turns_deep ps formed zero e p deep far live = absurd (omega (arith, formed.named p live))
turns_deep ps formed (suc d) zero p deep far live = absurd (omega (arith, formed.named p live))
turns_deep ps formed (suc d) (suc e) p deep far live =
    ap (λ (xs : List Turn). (p, Pre) ∷ (xs ++ (p, Plain) ∷ [])) (children_same ps p (turns_within d ps) (turns_within e ps)
    (λ c child. turns_deep ps formed d e c (omega (arith, child_above ps formed p c child)) (omega (arith, child_above ps formed p c child)) (child_live ps formed p c child))
    ps.next)

pub turns_step : {T : Type 0} (ps : Pools T) → IsPoolMap ps → (p : ℕ) → is_live ps p ≡ true → turns ps p ≡ (p, Pre) ∷ (turns_under ps p ++ (p, Plain) ∷ [])
unfolding turns turns_under turns_within
turns_step ps formed p live = turns_deep ps formed ps.next (suc ps.next) p (omega arith) (omega arith) live

pub run_order-turns : {T : Type 0} (ps : Pools T) (p : ℕ) → run_order ps p ≡ flat_map (turn_run ps) (turns ps p)
unfolding run_order turns
run_order-turns ps p = runs-turns ps.next ps p

-- the run order of a pool, by its turns
pub run_order_turns : {T : Type 0} (ps : Pools T) → IsPoolMap ps → (p : ℕ) → is_live ps p ≡ true
    → run_order ps p ≡ turn_run ps (p, Pre) ++ (flat_map (turn_run ps) (turns_under ps p) ++ turn_run ps (p, Plain))
run_order_turns ps formed p live =
    rw (run_order-turns ps p, turns_step ps formed p live, flat_map-append (turn_run ps) (turns_under ps p) ((p, Plain) ∷ []), append-nil (turn_run ps (p, Plain))) refl

pub run_order_step : {T : Type 0} (ps : Pools T) → IsPoolMap ps → (p : ℕ) → is_live ps p ≡ true
    → run_order ps p ≡ pre_run ps p ++ (flat_map (turn_run ps) (turns_under ps p) ++ own_run ps p)
unfolding turn_run pre_run own_run
run_order_step ps formed p live =
    run_order_turns ps formed p live

-- A greater depth changes nothing: the run order is that down to any depth that is deep enough.
pub run_deep : {T : Type 0} (ps : Pools T) → IsPoolMap ps → (depth p : ℕ) → ps.next ≤ depth + p → is_live ps p ≡ true → runs_within depth ps p ≡ run_order ps p
unfolding run_order
run_deep ps formed depth p deep live =
    rw (runs-turns depth ps p, runs-turns ps.next ps p, turns_deep ps formed depth ps.next p deep (omega arith) live)

-- each pool under p but p itself stands exactly once
pub order_under_once : {T : Type 0} (ps : Pools T) → IsPoolMap ps → (n p : ℕ) → is_live ps p ≡ true
    → filter (λ m. m == n) (order_under ps p) ≡ once_if (is_under ps p n && not (n == p)) n
unfolding once_if
order_under_once ps formed n p live =
    let whole : filter (λ m. m == n) (order_under ps p) ++ filter (λ m. m == n) (p ∷ []) ≡ once_if (is_under ps p n) n
    = sym (filter-append (λ m. m == n) (order_under ps p) (p ∷ [])) ∙ ap (filter (λ m. m == n)) (sym (order_step ps formed p live))
    ∙ ap (filter (λ m. m == n)) (order_is ps p) ∙ order_once ps formed n ps.next p (omega arith) live in
    elim (cases_eq p n) [
      | inl here ↦
          let under : is_under ps p n ≡ true = subst (λ k. is_under ps p k ≡ true) here (under_itself ps formed p live) in
          let all = rw (under, eq-eqb p n here) at whole in
          rw (under, eq-eqb n p (sym here)) (append_cancel_right (filter (λ m. m == n) (order_under ps p)) [] (p ∷ []) (all ∙ ap (λ k. k ∷ []) (sym here)))
      | inr apart ↦
          let all = rw (ne_eqb p n apart, append-nil (filter (λ m. m == n) (order_under ps p))) at whole in
          rw (ne_eqb n p (λ e. apart (sym e))) (elim (cases_Bool (is_under ps p n)) [ inl e ↦ (let now = rw e at all in rw e now) | inr e ↦ (let now = rw e at all in rw e now) ])
    ]

-- Each pool under p has its two turns once, that before its subpools first, and no other pool has any.
pub turns_once : {T : Type 0} (ps : Pools T) → IsPoolMap ps → (n depth p : ℕ) → ps.next ≤ depth + p → is_live ps p ≡ true
    → filter (turns_at n) (turns_within depth ps p) ≡ all_if (is_under ps p n) (both_turns n)
unfolding turns_within all_if
turns_once ps formed n zero p deep live = absurd (omega (arith, formed.named p live))
turns_once ps formed n (suc depth) p deep live =
    let each = λ (c : ℕ) (child : is_child ps p c ≡ true). turns_once ps formed n depth c (omega (arith, child_above ps formed p c child)) (child_live ps formed p c child) in
    let below : List Turn = flat_map (turns_within depth ps) (children ps p) in
    elim (cases_eq p n) [
      | inl here ↦
          let none = λ (c : ℕ) (child : is_child ps p c ≡ true). false_from_ne_true (is_under ps c n) (λ under. absurd (omega (arith, (under_child ps formed p c n child under).1))) in
          let under : is_under ps p n ≡ true = subst (λ k. is_under ps p k ≡ true) here (under_itself ps formed p live) in
          rw (eq-eqb p n here, filter-append (turns_at n) below ((p, Plain) ∷ []), eq-eqb p n here, below_none ps p n (turns_within depth ps) (turns_at n) (both_turns n) each none ps.next, under)
          (ap both_turns here)
      | inr apart ↦
          rw (ne_eqb p n apart, filter-append (turns_at n) below ((p, Plain) ∷ []), ne_eqb p n apart, append-nil (filter (turns_at n) below))
          (elim (cases_Bool (is_under ps p n)) [
            | inl under ↦
                let b = branch ps formed p n under (omega (arith, under_above ps formed p n under, apart)) in
                rw (under, below_one ps p n (turns_within depth ps) (turns_at n) (both_turns n) each b.0 b.1 ps.next, lt-ltb b.0 ps.next (formed.named b.0 (child_live ps formed p b.0 b.1.child)))
            | inr aside ↦
                let none = λ (c : ℕ) (child : is_child ps p c ≡ true). false_from_ne_true (is_under ps c n) (λ under. both_ways (is_under ps p n) aside (under_child ps formed p c n child under).0) in
                rw (aside, below_none ps p n (turns_within depth ps) (turns_at n) (both_turns n) each none ps.next)
          ])
    ]

-- each pool under p but p itself has its two turns once
pub turns_under_once : {T : Type 0} (ps : Pools T) → IsPoolMap ps → (n p : ℕ) → is_live ps p ≡ true
    → filter (turns_at n) (turns_under ps p) ≡ all_if (is_under ps p n && not (n == p)) (both_turns n)
unfolding turns turns_under all_if
turns_under_once ps formed n p live =
    let each = λ (c : ℕ) (child : is_child ps p c ≡ true). turns_once ps formed n ps.next c (omega arith) (child_live ps formed p c child) in
    elim (cases_eq p n) [
      | inl here ↦
          let none = λ (c : ℕ) (child : is_child ps p c ≡ true). false_from_ne_true (is_under ps c n) (λ under. absurd (omega (arith, (under_child ps formed p c n child under).1))) in
          rw (eq-eqb n p (sym here), below_none ps p n (turns ps) (turns_at n) (both_turns n) each none ps.next)
          (elim (cases_Bool (is_under ps p n)) [ inl e ↦ rw e refl | inr e ↦ rw e refl ])
      | inr apart ↦
          rw (ne_eqb n p (λ e. apart (sym e)))
          (elim (cases_Bool (is_under ps p n)) [
            | inl under ↦
                let b = branch ps formed p n under (omega (arith, under_above ps formed p n under, apart)) in
                rw (under, below_one ps p n (turns ps) (turns_at n) (both_turns n) each b.0 b.1 ps.next, lt-ltb b.0 ps.next (formed.named b.0 (child_live ps formed p b.0 b.1.child)))
            | inr aside ↦
                let none = λ (c : ℕ) (child : is_child ps p c ≡ true). false_from_ne_true (is_under ps c n) (λ under. both_ways (is_under ps p n) aside (under_child ps formed p c n child under).0) in
                rw (aside, below_none ps p n (turns ps) (turns_at n) (both_turns n) each none ps.next)
          ])
    ]

-- whether an entry of a run order is of the pool n
abbrev pub is_of : {T : Type 0} → ℕ → ℕ × T → Bool
is_of n entry = entry.0 == n

own_filter_yes : {T : Type 0} (n p : ℕ) → p ≡ n → (xs : List T) → filter (is_of n) (map (λ x. (p, x)) xs) ≡ map (λ x. (p, x)) xs
own_filter_yes n p here [] = refl
own_filter_yes n p here (x ∷ xs) = rw (eq-eqb p n here) (ap (λ es. (p, x) ∷ es) (own_filter_yes n p here xs))

own_filter_no : {T : Type 0} (n p : ℕ) → (p ≡ n → ⊥) → (xs : List T) → filter (is_of n) (map (λ x. (p, x)) xs) ≡ []
own_filter_no n p apart [] = refl
own_filter_no n p apart (x ∷ xs) = rw (ne_eqb p n apart) (own_filter_no n p apart xs)

-- what a pool hands on, before and behind its children
pub whole_run : {T : Type 0} → Pools T → ℕ → List (ℕ × T)
whole_run ps n = pre_run ps n ++ own_run ps n

own_of_one : {T : Type 0} (n p : ℕ) (pre own : List T) → p ≡ n
    → filter (is_of n) (map (λ x. (p, x)) pre ++ map (λ x. (p, x)) own) ≡ map (λ x. (p, x)) pre ++ map (λ x. (p, x)) own
own_of_one n p pre own here = filter-append (is_of n) (map (λ x. (p, x)) pre) (map (λ x. (p, x)) own) ∙ rw (own_filter_yes n p here pre, own_filter_yes n p here own) refl

-- Each payload under p stands exactly once in the run order of p: of each pool under p there are its pre-payloads, last first, and then
-- its plain ones, last first, and of no other pool is there any.
runs_once : {T : Type 0} (ps : Pools T) → IsPoolMap ps → (n depth p : ℕ) → ps.next ≤ depth + p → is_live ps p ≡ true
    → filter (is_of n) (runs_within depth ps p) ≡ all_if (is_under ps p n) (whole_run ps n)
unfolding runs_within all_if whole_run pre_run own_run
runs_once ps formed n zero p deep live = absurd (omega (arith, formed.named p live))
runs_once {T} ps formed n (suc depth) p deep live =
    let each = λ (c : ℕ) (child : is_child ps p c ≡ true). runs_once ps formed n depth c (omega (arith, child_above ps formed p c child)) (child_live ps formed p c child) in
    let pre : List (ℕ × T) = map (λ (x : T). (p, x)) (reverse (ps.payloads p).pre) in
    let own : List (ℕ × T) = map (λ (x : T). (p, x)) (reverse (ps.payloads p).plain) in
    let below : List (ℕ × T) = flat_map (runs_within depth ps) (children ps p) in
    let parts : filter (is_of n) (pre ++ (below ++ own)) ≡ filter (is_of n) pre ++ (filter (is_of n) below ++ filter (is_of n) own)
    = filter-append (is_of n) pre (below ++ own) ∙ ap (λ xs. filter (is_of n) pre ++ xs) (filter-append (is_of n) below own) in
    parts ∙ elim (cases_eq p n) [
      | inl here ↦
          let none = λ (c : ℕ) (child : is_child ps p c ≡ true). false_from_ne_true (is_under ps c n) (λ under. absurd (omega (arith, (under_child ps formed p c n child under).1))) in
          let under : is_under ps p n ≡ true = subst (λ k. is_under ps p k ≡ true) here (under_itself ps formed p live) in
          rw (own_filter_yes n p here (reverse (ps.payloads p).pre), own_filter_yes n p here (reverse (ps.payloads p).plain), below_none ps p n (runs_within depth ps) (is_of n) (whole_run ps n) each none ps.next, under)
          (ap (λ (k : ℕ). map (λ (x : T). (k, x)) (reverse (ps.payloads k).pre) ++ map (λ (x : T). (k, x)) (reverse (ps.payloads k).plain)) here)
      | inr apart ↦
          rw (own_filter_no n p apart (reverse (ps.payloads p).pre), own_filter_no n p apart (reverse (ps.payloads p).plain), append-nil (filter (is_of n) below))
          (elim (cases_Bool (is_under ps p n)) [
            | inl under ↦
                let b = branch ps formed p n under (omega (arith, under_above ps formed p n under, apart)) in
                rw (under, below_one ps p n (runs_within depth ps) (is_of n) (whole_run ps n) each b.0 b.1 ps.next, lt-ltb b.0 ps.next (formed.named b.0 (child_live ps formed p b.0 b.1.child)))
            | inr aside ↦
                let none = λ (c : ℕ) (child : is_child ps p c ≡ true). false_from_ne_true (is_under ps c n) (λ under. both_ways (is_under ps p n) aside (under_child ps formed p c n child under).0) in
                rw (aside, below_none ps p n (runs_within depth ps) (is_of n) (whole_run ps n) each none ps.next)
          ])
    ]

pub run_order_once : {T : Type 0} (ps : Pools T) → IsPoolMap ps → (n p : ℕ) → is_live ps p ≡ true
    → filter (is_of n) (run_order ps p) ≡ (if is_under ps p n then pre_run ps n ++ own_run ps n else [])
unfolding run_order all_if whole_run
run_order_once ps formed n p live = runs_once ps formed n ps.next p (omega arith) live ∙ elim (cases_Bool (is_under ps p n)) [ inl e ↦ rw e refl | inr e ↦ rw e refl ]
