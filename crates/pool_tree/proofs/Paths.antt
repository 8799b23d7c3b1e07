-- The paths that linked records stand for, and what follows for the pool map.
use Rattle.std.specs.Prelude.{◌≡◌, ℕ, zero, suc, ◌<◌, true, false, ◌==◌, ◌||◌, not, is_some, if◌then◌else◌, Option, None, Some, List, [], ◌∷◌, refl}
use Rattle.std.specs.Option.{option_map, option_map_or, option_and_then}
use Rattle.std.proofs.Common.{sym, ◌∙◌, ap, subst, inl, inr, arith}
use Rattle.std.proofs.lemmas.Bool.{cases_Bool}
use Rattle.run_model.specs.Pools.{Pools, no_cleanups, is_live, is_under, is_in, is_empty}
use Rattle.run_model.specs.RunOrder.{leads_to, is_child, children_below, IsPoolMap}
use Rattle.pool_tree.specs.declared.records.Pool.{Pool}
use Rattle.pool_tree.specs.Records.{names, parent_of, cleanups, payloads_of}
use Rattle.pool_tree.specs.Links.{linked_path, path_within, map_at, newest_below, RecordsLinked}

-- where a pool stands: nowhere, at the root, or under a pool
abbrev pub place_of : {T : Type 0} → (ℕ → Option (Pool T)) → ℕ → Option (Option ℕ)
place_of records n = option_map (λ pool. pool.parent) (records n)

abbrev pub placed_path : (ℕ → List ℕ) → ℕ → Option (Option ℕ) → List ℕ
placed_path above n None = []
placed_path above n (Some None) = n ∷ []
placed_path above n (Some (Some p)) = n ∷ above p

linked_placed : {T : Type 0} (above : ℕ → List ℕ) (n : ℕ) (pool : Option (Pool T)) → linked_path above n pool ≡ placed_path above n (option_map (λ pool. pool.parent) pool)
linked_placed above n None = refl
linked_placed above n (Some pool) = at pool.parent
  where
    at : (parent : Option ℕ) → n ∷ option_map_or above parent [] ≡ placed_path above n (Some parent)
    at None = refl
    at (Some p) = refl

placed_same : (f g : ℕ → List ℕ) (n : ℕ) (place : Option (Option ℕ)) → ((p : ℕ) → place ≡ Some (Some p) → f p ≡ g p) → placed_path f n place ≡ placed_path g n place
placed_same f g n None same = refl
placed_same f g n (Some None) same = refl
placed_same f g n (Some (Some p)) same = ap (λ xs. n ∷ xs) (same p refl)

-- Two records have the same paths at the pools of a set that goes with each pool the one above, if these have the same places.
pub path_same : {T : Type 0} (records records' : ℕ → Option (Pool T)) (Kept : ℕ → Type 0)
    → ((n : ℕ) → Kept n → place_of records n ≡ place_of records' n)
    → ((n p : ℕ) → Kept n → place_of records n ≡ Some (Some p) → Kept p × (p < n))
    → (d e n : ℕ) → Kept n → n < d → n < e → path_within d records n ≡ path_within e records' n
unfolding path_within
path_same records records' Kept same up zero e n kept low low' = absurd (omega arith)
path_same records records' Kept same up (suc d) zero n kept low low' = absurd (omega arith)
path_same records records' Kept same up (suc d) (suc e) n kept low low' =
    linked_placed (path_within d records) n (records n)
    ∙ placed_same (path_within d records) (path_within e records') n (place_of records n)
    (λ p at. let u = up n p kept at in path_same records records' Kept same up d e p u.0 (omega (arith, u.1)) (omega (arith, u.1)))
    ∙ ap (placed_path (path_within e records') n) (same n kept)
    ∙ sym (linked_placed (path_within e records') n (records' n))

place_parent : {T : Type 0} (pool : Option (Pool T)) (p : ℕ) → option_map (λ pool. pool.parent) pool ≡ Some (Some p) → option_and_then (λ pool. pool.parent) pool ≡ Some p
place_parent None p at = cc
place_parent (Some pool) p at = cc

pub parent_at : {T : Type 0} (records : ℕ → Option (Pool T)) (n p : ℕ) → place_of records n ≡ Some (Some p) → parent_of records n ≡ Some p
parent_at records n p at = place_parent (records n) p at

place_from_parent : {T : Type 0} (pool : Option (Pool T)) (p : ℕ) → option_and_then (λ pool. pool.parent) pool ≡ Some p → option_map (λ pool. pool.parent) pool ≡ Some (Some p)
place_from_parent None p at = cc
place_from_parent (Some pool) p at = ap Some at

pub place_at : {T : Type 0} (records : ℕ → Option (Pool T)) (n p : ℕ) → parent_of records n ≡ Some p → place_of records n ≡ Some (Some p)
place_at records n p at = place_from_parent (records n) p at

-- the path of a name by the path of the pool above
pub path_step : {T : Type 0} (records : ℕ → Option (Pool T)) → ((n p : ℕ) → parent_of records n ≡ Some p → p < n) → (next n : ℕ)
    → (map_at next records).path n ≡ placed_path (map_at next records).path n (place_of records n)
unfolding map_at path_within
path_step records rises next n =
    linked_placed (path_within n records) n (records n)
    ∙ placed_same (path_within n records) (λ k. path_within (suc k) records k) n (place_of records n)
    (λ p at. path_same records records (λ _. Unit {0}) (λ _ _. refl) (λ k q _ above. (tt, rises k q (parent_at records k q above))) n (suc p) p tt
    (rises n p (parent_at records n p at)) (omega arith))

record_live : (above : ℕ → List ℕ) (n : ℕ) (place : Option (Option ℕ)) → not (is_empty (placed_path above n place)) ≡ is_some place
record_live above n None = refl
record_live above n (Some None) = refl
record_live above n (Some (Some p)) = refl

is_some_map : {A B : Type 0} (f : A → B) (o : Option A) → is_some (option_map f o) ≡ is_some o
is_some_map f None = refl
is_some_map f (Some x) = refl

module _ {T : Type 0} (root next : ℕ) (records : ℕ → Option (Pool T)) (linked : RecordsLinked root next records) where
  pub step : (n : ℕ) → (map_at next records).path n ≡ placed_path (map_at next records).path n (place_of records n)
  step n = path_step records linked.rises next n

  -- the pools of the map are those with a record
  pub live_is : (n : ℕ) → is_live (map_at next records) n ≡ is_some (records n)
  unfolding is_live
  live_is n = ap (λ xs. not (is_empty xs)) (step n) ∙ record_live (map_at next records).path n (place_of records n) ∙ is_some_map (λ pool. pool.parent) (records n)

first_placed : (above : ℕ → List ℕ) (n m : ℕ) (xs : List ℕ) (place : Option (Option ℕ)) → placed_path above n place ≡ m ∷ xs → m ≡ n
first_placed above n m xs None at = cc
first_placed above n m xs (Some None) at = cc
first_placed above n m xs (Some (Some p)) at = cc

rest_placed : (above : ℕ → List ℕ) (n m p : ℕ) (xs : List ℕ) → ((q k : ℕ) (ys : List ℕ) → above q ≡ k ∷ ys → k ≡ q) → (place : Option (Option ℕ)) → placed_path above n place ≡ m ∷ p ∷ xs
    → (place ≡ Some (Some p)) × (above p ≡ p ∷ xs)
rest_placed above n m p xs first None at = cc
rest_placed above n m p xs first (Some None) at = cc
rest_placed above n m p xs first (Some (Some q)) at =
    let rest : above q ≡ p ∷ xs = cc in
    let e : p ≡ q = first q p xs rest in
    (ap (λ k. Some (Some k)) (sym e), ap above e ∙ rest)

top_placed : {T : Type 0} (above : ℕ → List ℕ) → (n k : ℕ) (pool : Option (Pool T))
    → ((q : ℕ) → option_and_then (λ pool. pool.parent) pool ≡ Some q → not (is_empty (above q)) ≡ true)
    → placed_path above n (option_map (λ pool. pool.parent) pool) ≡ k ∷ [] → (is_some pool ≡ true) × (option_and_then (λ pool. pool.parent) pool ≡ None)
top_placed above n k None closed at = cc
top_placed above n k (Some pool) closed at = under pool.parent closed at
  where
    under : (parent : Option ℕ) → ((q : ℕ) → parent ≡ Some q → not (is_empty (above q)) ≡ true) → placed_path above n (Some parent) ≡ k ∷ [] → (true ≡ true) × (parent ≡ None)
    under None closed at = (refl, refl)
    under (Some q) closed at =
        let rest : above q ≡ [] = cc in
        let bad : true ≡ false = sym (closed q refl) ∙ ap (λ xs. not (is_empty xs)) rest in
        cc

bare_placed : {T : Type 0} (above : ℕ → List ℕ) (n : ℕ) (pool : Option (Pool T)) → placed_path above n (option_map (λ pool. pool.parent) pool) ≡ []
    → option_map_or cleanups pool no_cleanups ≡ no_cleanups
bare_placed above n None at = refl
bare_placed above n (Some pool) at = some pool.parent at
  where
    some : (parent : Option ℕ) → placed_path above n (Some parent) ≡ [] → cleanups pool ≡ no_cleanups
    some None at = cc
    some (Some p) at = cc

leads_placed : (above : ℕ → List ℕ) (n p q : ℕ) → (xs : List ℕ) → above q ≡ xs → not (is_empty xs) ≡ true → ((k : ℕ) (ys : List ℕ) → xs ≡ k ∷ ys → k ≡ q) → leads_to p (n ∷ xs) ≡ (q == p)
leads_placed above n p q [] at some first = cc
leads_placed above n p q (k ∷ ys) at some first = ap (λ m. m == p) (first k ys refl)

module _ {T : Type 0} (root next : ℕ) (records : ℕ → Option (Pool T)) (linked : RecordsLinked root next records) where
  first : (n m : ℕ) (above : List ℕ) → (map_at next records).path n ≡ m ∷ above → m ≡ n
  first n m above at = first_placed (map_at next records).path n m above (place_of records n) (sym (step root next records linked n) ∙ at)

  rest : (n m p : ℕ) (above : List ℕ) → (map_at next records).path n ≡ m ∷ p ∷ above → (place_of records n ≡ Some (Some p)) × ((map_at next records).path p ≡ p ∷ above)
  rest n m p above at = rest_placed (map_at next records).path n m p above first (place_of records n) (sym (step root next records linked n) ∙ at)

  pub map_next : (map_at next records).next ≡ next
  unfolding map_at
  map_next = refl

  pub map_payloads : (n : ℕ) → (map_at next records).payloads n ≡ payloads_of records n
  unfolding map_at
  map_payloads n = refl

  top : (n k : ℕ) → (map_at next records).path n ≡ k ∷ [] → n ≡ root
  unfolding is_live
  top n k at =
      let t = top_placed (map_at next records).path n k (records n)
      (λ q e. live_is root next records linked q ∙ linked.closed n q e)
      (sym (step root next records linked n) ∙ at) in
      linked.rooted n t.0 t.1

  -- The records stand for a pool map.
  pub formed : IsPoolMap (map_at next records)
  formed = record {
    first = first;
    rises = λ n m p above at. linked.rises n p (parent_at records n p (rest n m p above at).0);
    closed = λ n m p above at. (rest n m p above at).1;
    alone = λ n m k l at at'. top n k at ∙ sym (top m l at');
    named = λ n live. subst (λ k. n < k) (sym map_next) (linked.named n (sym (live_is root next records linked n) ∙ live));
    bare = λ n at. map_payloads n ∙ bare_placed (map_at next records).path n (records n) (sym (step root next records linked n) ∙ at);
  }

  -- a child by the map is a child by the link to the pool above
  pub child_is : (p n : ℕ) → is_child (map_at next records) p n ≡ names (parent_of records n) p
  unfolding is_child is_live
  child_is p n = ap (leads_to p) (step root next records linked n) ∙ at (records n) (λ q e. linked.closed n q e)
    where
      at : (pool : Option (Pool T)) → ((q : ℕ) → option_and_then (λ pool. pool.parent) pool ≡ Some q → is_some (records q) ≡ true)
          → leads_to p (placed_path (map_at next records).path n (option_map (λ pool. pool.parent) pool)) ≡ names (option_and_then (λ pool. pool.parent) pool) p
      at None closed = refl
      at (Some pool) closed = under pool.parent closed
        where
          under : (parent : Option ℕ) → ((q : ℕ) → parent ≡ Some q → is_some (records q) ≡ true) → leads_to p (placed_path (map_at next records).path n (Some parent)) ≡ names parent p
          under None closed = refl
          under (Some q) closed =
              leads_placed (map_at next records).path n p q ((map_at next records).path q) refl
              (live_is root next records linked q ∙ closed q refl)
              (λ k ys at. first q k ys at)

  -- the children of a pool, by the newest of them
  pub children_are : (p m : ℕ) → children_below (map_at next records) p m ≡ option_map_or (λ c. c ∷ children_below (map_at next records) p c) (newest_below records p m) []
  unfolding children_below newest_below
  children_are p zero = refl
  children_are p (suc m) =
      elim (cases_Bool (names (parent_of records m) p)) [
        | inl e ↦ rw (child_is p m, e)
        | inr e ↦ rw (child_is p m, e) (children_are p m)
      ]

place_by : {T : Type 0} (pool : Option (Pool T)) → option_map (λ pool. pool.parent) pool ≡ (if is_some pool then Some (option_and_then (λ pool. pool.parent) pool) else None)
place_by None = refl
place_by (Some pool) = refl

-- the place of a pool is told by whether it is there and by its link to the pool above
pub place_same : {T : Type 0} (records records' : ℕ → Option (Pool T)) (n m : ℕ) → is_some (records n) ≡ is_some (records' m) → parent_of records n ≡ parent_of records' m
    → place_of records n ≡ place_of records' m
place_same records records' n m live parent =
    place_by (records n) ∙ ap (λ b. if b then Some (parent_of records n) else None) live ∙ ap (λ o. if is_some (records' m) then Some o else None) parent ∙ sym (place_by (records' m))

pub place_none : {T : Type 0} (records : ℕ → Option (Pool T)) (n : ℕ) → is_some (records n) ≡ false → place_of records n ≡ None
place_none records n dead = place_by (records n) ∙ ap (λ b. if b then Some (parent_of records n) else None) dead

-- two pool maps with the same paths, payloads and next name are equal
pub pools_same : {T : Type 0} (ps qs : Pools T) → ((n : ℕ) → ps.path n ≡ qs.path n) → ((n : ℕ) → ps.payloads n ≡ qs.payloads n) → ps.next ≡ qs.next → ps ≡ qs
pools_same ps qs path payloads next = λ i. record { path = λ n. path n i; payloads = λ n. payloads n i; next = next i }

-- two records have the same path at a name, by the names of a set that is closed upwards
pub map_path_same : {T : Type 0} (next next' : ℕ) (records records' : ℕ → Option (Pool T)) (Kept : ℕ → Type 0)
    → ((n : ℕ) → Kept n → place_of records n ≡ place_of records' n)
    → ((n p : ℕ) → Kept n → place_of records n ≡ Some (Some p) → Kept p × (p < n))
    → (n : ℕ) → Kept n → (map_at next records).path n ≡ (map_at next' records').path n
unfolding map_at
map_path_same next next' records records' Kept same up n kept = path_same records records' Kept same up (suc n) (suc n) n kept (omega arith) (omega arith)

top_placed_path : {T : Type 0} (above : ℕ → List ℕ) (n : ℕ) (pool : Option (Pool T)) → is_some pool ≡ true → option_and_then (λ pool. pool.parent) pool ≡ None
    → placed_path above n (option_map (λ pool. pool.parent) pool) ≡ n ∷ []
top_placed_path above n None live at = cc
top_placed_path above n (Some pool) live at = ap (λ o. placed_path above n (Some o)) at

pub root_path : {T : Type 0} (root next : ℕ) (records : ℕ → Option (Pool T)) → RecordsLinked root next records → (map_at next records).path root ≡ root ∷ []
root_path root next records linked =
    step root next records linked root ∙ top_placed_path (map_at next records).path root (records root) linked.root_live linked.root_above

-- what a child is under
pub under_at : {T : Type 0} (root next : ℕ) (records : ℕ → Option (Pool T)) → RecordsLinked root next records → (p n q : ℕ) → parent_of records n ≡ Some q
    → is_under (map_at next records) p n ≡ ((n == p) || is_under (map_at next records) p q)
unfolding is_under
under_at root next records linked p n q at =
    ap (is_in p) (step root next records linked n ∙ ap (placed_path (map_at next records).path n) (place_at records n q at))
