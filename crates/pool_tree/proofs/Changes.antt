-- What changes of single records do to the links.
use Rattle.std.specs.Prelude.{List, ◌≡◌, ℕ, Bool, true, false, ◌==◌, ◌&&◌, not, is_some, if◌then◌else◌, Option, None, Some, [], refl}
use Rattle.std.specs.Option.{option_map, option_map_or, option_and_then}
use Rattle.std.proofs.Common.{sym, ◌∙◌, ap, inl, inr}
use Rattle.std.proofs.lemmas.Bool.{eq-eqb, ne_eqb, cases_Bool, both_ways, cases_eq, and_parts}
use Rattle.run_model.specs.Indexed.{upd}
use Rattle.run_model.specs.Pools.{Cleanups, no_cleanups}
use Rattle.pool_tree.specs.declared.records.Pool.{Pool}
use Rattle.pool_tree.specs.Records.{names, changed, parent_of, newest_of, older_of, younger_of, cleanups, payloads_of}
use Rattle.pool_tree.specs.Links.{IsChildAdded, HasNeighbours, IsRemoved}
use Rattle.pool_tree.proofs.Newest.{named_is}

keep_link : {T : Type 0} (g : Pool T → Option ℕ) (f : Pool T → Pool T) → ((q : Pool T) → g (f q) ≡ g q) → (b : Bool) (o : Option (Pool T))
    → option_and_then g (if b then option_map f o else o) ≡ option_and_then g o
keep_link g f same false o = refl
keep_link g f same true None = refl
keep_link g f same true (Some q) = same q

set_link : {T : Type 0} (g : Pool T → Option ℕ) (f : Pool T → Pool T) (v : Option ℕ) → ((q : Pool T) → g (f q) ≡ v) → (b : Bool) (o : Option (Pool T))
    → option_and_then g (if b then option_map f o else o) ≡ (if b then (if is_some o then v else None) else option_and_then g o)
set_link g f v is false o = refl
set_link g f v is true None = refl
set_link g f v is true (Some q) = is q

keep_live : {T : Type 0} (f : Pool T → Pool T) (b : Bool) (o : Option (Pool T)) → is_some (if b then option_map f o else o) ≡ is_some o
keep_live f false o = refl
keep_live f true None = refl
keep_live f true (Some q) = refl

-- nothing of either kind
pub bare_cleanups : {T : Type 0} (early late : List T) → early ≡ [] → late ≡ [] → ◌≡◌ {A = Cleanups T} (record { pre = early; plain = late }) no_cleanups
bare_cleanups early late pre plain = λ i. record { pre = pre i; plain = plain i }

keep_payloads : {T : Type 0} (f : Pool T → Pool T) → ((q : Pool T) → cleanups (f q) ≡ cleanups q) → (b : Bool) (o : Option (Pool T))
    → option_map_or cleanups (if b then option_map f o else o) no_cleanups ≡ option_map_or cleanups o no_cleanups
keep_payloads f same false o = refl
keep_payloads f same true None = refl
keep_payloads f same true (Some q) = same q

-- Where the pool that a link names is changed, it stays, and so does each link that the change keeps.
record Step {T : Type 0} (link : Option ℕ) (change : Pool T → Pool T) (was now : ℕ → Option (Pool T)) : Type 0 where
  live : (n : ℕ) → is_some (now n) ≡ is_some (was n)
  keeps : (g : Pool T → Option ℕ) → ((q : Pool T) → g (change q) ≡ g q) → (n : ℕ) → option_and_then g (now n) ≡ option_and_then g (was n)
  sets : (g : Pool T → Option ℕ) (v : Option ℕ) → ((q : Pool T) → g (change q) ≡ v) → (n : ℕ)
      → option_and_then g (now n) ≡ (if names link n then (if is_some (was n) then v else None) else option_and_then g (was n))

step_of : {T : Type 0} (link : Option ℕ) (change : Pool T → Pool T) (was now : ℕ → Option (Pool T)) → ((n : ℕ) → now n ≡ changed link change was n) → Step link change was now
unfolding changed
step_of link change was now is = record {
  live = λ n. ap is_some (is n) ∙ keep_live change (names link n) (was n);
  keeps = λ g same n. ap (option_and_then g) (is n) ∙ keep_link g change same (names link n) (was n);
  sets = λ g v set n. ap (option_and_then g) (is n) ∙ set_link g change v set (names link n) (was n);
}

put_link : {T : Type 0} (g : Pool T → Option ℕ) (pool : Pool T) (b : Bool) (o : Option (Pool T)) → option_and_then g (if b then Some pool else o) ≡ (if b then g pool else option_and_then g o)
put_link g pool true o = refl
put_link g pool false o = refl

put_live : {T : Type 0} (pool : Pool T) (b : Bool) (o : Option (Pool T)) → is_some (if b then Some pool else o) ≡ (if b then true else is_some o)
put_live pool true o = refl
put_live pool false o = refl

put_payloads : {T : Type 0} (pool : Pool T) (b : Bool) (o : Option (Pool T))
    → option_map_or cleanups (if b then Some pool else o) no_cleanups ≡ (if b then cleanups pool else option_map_or cleanups o no_cleanups)
put_payloads pool true o = refl
put_payloads pool false o = refl

module _ {T : Type 0} (old r1 r2 new : ℕ → Option (Pool T)) (name parent : ℕ) (older : Option ℕ) (pool : Pool T)
    (free : old name ≡ None) (live : is_some (old parent) ≡ true) (last : (n : ℕ) → newest_of old parent ≡ Some n → is_some (old n) ≡ true)
    (is_older : older ≡ newest_of old parent)
    (has_parent : pool.parent ≡ Some parent) (has_newest : pool.newest ≡ None) (has_older : pool.older ≡ older) (has_younger : pool.younger ≡ None) (has_payloads : cleanups pool ≡ no_cleanups)
    (puts : (n : ℕ) → r1 n ≡ upd old name (Some pool) n)
    (sets : (n : ℕ) → r2 n ≡ changed (Some parent) (λ q. record q { newest = Some name }) r1 n)
    (links : (n : ℕ) → new n ≡ changed older (λ q. record q { younger = Some name }) r2 n) where
  live_1 : (n : ℕ) → is_some (r1 n) ≡ (if n == name then true else is_some (old n))
  unfolding upd
  live_1 n = ap is_some (puts n) ∙ put_live pool (n == name) (old n)

  link_1 : (g : Pool T → Option ℕ) (n : ℕ) → option_and_then g (r1 n) ≡ (if n == name then g pool else option_and_then g (old n))
  unfolding upd
  link_1 g n = ap (option_and_then g) (puts n) ∙ put_link g pool (n == name) (old n)

  second : Step (Some parent) (λ q. record q { newest = Some name }) r1 r2
  second = step_of (Some parent) (λ q. record q { newest = Some name }) r1 r2 sets

  third : Step older (λ q. record q { younger = Some name }) r2 new
  third = step_of older (λ q. record q { younger = Some name }) r2 new links

  free_live : is_some (old name) ≡ false
  free_live = ap is_some free

  added_newest : (n : ℕ) → newest_of new n ≡ (if n == parent then Some name else if n == name then None else newest_of old n)
  added_newest n =
      third.keeps (λ q. q.newest) (λ _. refl) n ∙ second.sets (λ q. q.newest) (Some name) (λ _. refl) n
      ∙ elim (cases_eq n parent) [
        | inl here ↦
            let apart : n ≡ name → ⊥ = λ e. both_ways (is_some (old n)) (ap (λ k. is_some (old k)) e ∙ free_live) (ap (λ k. is_some (old k)) here ∙ live) in
            rw (eq-eqb n parent here, eq-eqb parent n (sym here), live_1 n, ne_eqb n name apart, ap (λ k. is_some (old k)) here, live)
        | inr there ↦ rw (ne_eqb n parent there, ne_eqb parent n (λ e. there (sym e)), link_1 (λ q. q.newest) n, has_newest)
      ]

  added_younger : (n : ℕ) → younger_of new n ≡ (if names (newest_of old parent) n then Some name else if n == name then None else younger_of old n)
  added_younger n =
      third.sets (λ q. q.younger) (Some name) (λ _. refl) n ∙ rw is_older
      (elim (cases_Bool (names (newest_of old parent) n)) [
        | inl e ↦
            let was = last n (named_is (newest_of old parent) n e) in
            let apart : n ≡ name → ⊥ = λ here. both_ways (is_some (old n)) (ap (λ k. is_some (old k)) here ∙ free_live) was in
            rw (e, second.live n, live_1 n, ne_eqb n name apart, was)
        | inr e ↦ rw (e, second.keeps (λ q. q.younger) (λ _. refl) n, link_1 (λ q. q.younger) n, has_younger)
      ])

  payloads_3 : (n : ℕ) → payloads_of new n ≡ (if n == name then no_cleanups else payloads_of old n)
  unfolding changed upd
  payloads_3 n =
      ap (λ o. option_map_or cleanups o no_cleanups) (links n) ∙ keep_payloads (λ q. record q { younger = Some name }) (λ _. refl) (names older n) (r2 n)
      ∙ ap (λ o. option_map_or cleanups o no_cleanups) (sets n) ∙ keep_payloads (λ q. record q { newest = Some name }) (λ _. refl) (parent == n) (r1 n)
      ∙ ap (λ o. option_map_or cleanups o no_cleanups) (puts n) ∙ put_payloads pool (n == name) (old n)
      ∙ ap (λ xs. if n == name then xs else payloads_of old n) has_payloads

  pub added_by : IsChildAdded name parent old new
  added_by = record {
    live = λ n. third.live n ∙ second.live n ∙ live_1 n;
    parents = λ n. third.keeps (λ q. q.parent) (λ _. refl) n ∙ second.keeps (λ q. q.parent) (λ _. refl) n ∙ link_1 (λ q. q.parent) n ∙ ap (λ o. if n == name then o else parent_of old n) has_parent;
    newest = added_newest;
    older = λ n.
        third.keeps (λ q. q.older) (λ _. refl) n ∙ second.keeps (λ q. q.older) (λ _. refl) n ∙ link_1 (λ q. q.older) n ∙ ap (λ o. if n == name then o else older_of old n) (has_older ∙ is_older);
    younger = added_younger;
    payloads = payloads_3;
  }

gone_link : {T : Type 0} (g : Pool T → Option ℕ) (b : Bool) (o : Option (Pool T)) → option_and_then g (if b then None else o) ≡ (if b then None else option_and_then g o)
gone_link g true o = refl
gone_link g false o = refl

gone_live : {T : Type 0} (b : Bool) (o : Option (Pool T)) → is_some (if b then None else o) ≡ (if b then false else is_some o)
gone_live true o = refl
gone_live false o = refl

gone_payloads : {T : Type 0} (b : Bool) (o : Option (Pool T)) → option_map_or cleanups (if b then None else o) no_cleanups ≡ (if b then no_cleanups else option_map_or cleanups o no_cleanups)
gone_payloads true o = refl
gone_payloads false o = refl

-- a link that is set where the pool is there, and taken from one that went
set_there : (test test' gone : Bool) (live : Bool) (v was : Option ℕ) → (gone ≡ false → test ≡ test') → (gone ≡ false → test ≡ true → live ≡ true)
    → (if test then (if (if gone then false else live) then v else None) else (if gone then None else was)) ≡ (if gone then None else if test' then v else was)
set_there true test' true live v was same there = refl
set_there false test' true live v was same there = refl
set_there true test' false live v was same there = rw (← same refl, there refl refl)
set_there false test' false live v was same there = rw (← same refl)

and_only : (b : Bool) → (b && not false) ≡ b
and_only true = refl
and_only false = refl

and_none : (b : Bool) → (b && not true) ≡ false
and_none true = refl
and_none false = refl

above_is : (younger parent : Option ℕ) (n : ℕ) → names (if is_some younger then None else parent) n ≡ (names parent n && not (is_some younger))
above_is None None n = refl
above_is None (Some m) n = sym (and_only (m == n))
above_is (Some k) None n = refl
above_is (Some k) (Some m) n = sym (and_none (m == n))

module _ {T : Type 0} (old r1 r2 r3 new : ℕ → Option (Pool T)) (p : ℕ) (pool : Pool T) (above : Option ℕ)
    (was : old p ≡ Some pool) (is_above : above ≡ (if is_some pool.younger then None else pool.parent)) (beside : HasNeighbours p old)
    (takes : (n : ℕ) → r1 n ≡ upd old p None n)
    (elder : (n : ℕ) → r2 n ≡ changed pool.older (λ q. record q { younger = pool.younger }) r1 n)
    (younger : (n : ℕ) → r3 n ≡ changed pool.younger (λ q. record q { older = pool.older }) r2 n)
    (newest : (n : ℕ) → new n ≡ changed above (λ q. record q { newest = pool.older }) r3 n) where
  taken_live : (n : ℕ) → is_some (r1 n) ≡ (if n == p then false else is_some (old n))
  unfolding upd
  taken_live n = ap is_some (takes n) ∙ gone_live (n == p) (old n)

  taken_link : (g : Pool T → Option ℕ) (n : ℕ) → option_and_then g (r1 n) ≡ (if n == p then None else option_and_then g (old n))
  unfolding upd
  taken_link g n = ap (option_and_then g) (takes n) ∙ gone_link g (n == p) (old n)

  left : Step pool.older (λ q. record q { younger = pool.younger }) r1 r2
  left = step_of pool.older (λ q. record q { younger = pool.younger }) r1 r2 elder

  right : Step pool.younger (λ q. record q { older = pool.older }) r2 r3
  right = step_of pool.younger (λ q. record q { older = pool.older }) r2 r3 younger

  top : Step above (λ q. record q { newest = pool.older }) r3 new
  top = step_of above (λ q. record q { newest = pool.older }) r3 new newest

  is_older : older_of old p ≡ pool.older
  is_older = ap (option_and_then (λ q. q.older)) was

  is_younger : younger_of old p ≡ pool.younger
  is_younger = ap (option_and_then (λ q. q.younger)) was

  is_parent : parent_of old p ≡ pool.parent
  is_parent = ap (option_and_then (λ q. q.parent)) was

  removed_newest : (n : ℕ) → newest_of new n ≡ (if n == p then None else if names (parent_of old p) n && not (is_some (younger_of old p)) then older_of old p else newest_of old n)
  removed_newest n =
      top.sets (λ q. q.newest) pool.older (λ _. refl) n
      ∙ rw (
        right.live n,
        left.live n,
        taken_live n,
        right.keeps (λ q. q.newest) (λ _. refl) n,
        left.keeps (λ q. q.newest) (λ _. refl) n,
        taken_link (λ q. q.newest) n,
        is_older,
        is_younger,
        is_parent,
        is_above,
      )
      (set_there (names (if is_some pool.younger then None else pool.parent) n) (names pool.parent n && not (is_some pool.younger)) (n == p) (is_some (old n)) pool.older (newest_of old n)
      (λ _. above_is pool.younger pool.parent n)
      (λ _ at. beside.above n (is_parent ∙ named_is pool.parent n (and_parts (names pool.parent n) (not (is_some pool.younger)) (sym (above_is pool.younger pool.parent n) ∙ at)).0)))

  removed_older : (n : ℕ) → older_of new n ≡ (if n == p then None else if names (younger_of old p) n then older_of old p else older_of old n)
  removed_older n =
      top.keeps (λ q. q.older) (λ _. refl) n ∙ right.sets (λ q. q.older) pool.older (λ _. refl) n
      ∙ rw (left.live n, taken_live n, left.keeps (λ q. q.older) (λ _. refl) n, taken_link (λ q. q.older) n, is_older, is_younger)
      (set_there (names pool.younger n) (names pool.younger n) (n == p) (is_some (old n)) pool.older (older_of old n)
      (λ _. refl) (λ _ at. beside.younger n (is_younger ∙ named_is pool.younger n at)))

  removed_younger : (n : ℕ) → younger_of new n ≡ (if n == p then None else if names (older_of old p) n then younger_of old p else younger_of old n)
  removed_younger n =
      top.keeps (λ q. q.younger) (λ _. refl) n ∙ right.keeps (λ q. q.younger) (λ _. refl) n ∙ left.sets (λ q. q.younger) pool.younger (λ _. refl) n
      ∙ rw (taken_live n, taken_link (λ q. q.younger) n, is_older, is_younger)
      (set_there (names pool.older n) (names pool.older n) (n == p) (is_some (old n)) pool.younger (younger_of old n)
      (λ _. refl) (λ _ at. beside.older n (is_older ∙ named_is pool.older n at)))

  removed_payloads : (n : ℕ) → payloads_of new n ≡ (if n == p then no_cleanups else payloads_of old n)
  unfolding changed upd
  removed_payloads n =
      ap (λ o. option_map_or cleanups o no_cleanups) (newest n) ∙ keep_payloads (λ q. record q { newest = pool.older }) (λ _. refl) (names above n) (r3 n)
      ∙ ap (λ o. option_map_or cleanups o no_cleanups) (younger n) ∙ keep_payloads (λ q. record q { older = pool.older }) (λ _. refl) (names pool.younger n) (r2 n)
      ∙ ap (λ o. option_map_or cleanups o no_cleanups) (elder n) ∙ keep_payloads (λ q. record q { younger = pool.younger }) (λ _. refl) (names pool.older n) (r1 n)
      ∙ ap (λ o. option_map_or cleanups o no_cleanups) (takes n) ∙ gone_payloads (n == p) (old n)

  pub removed_by : IsRemoved p old new
  removed_by = record {
    live = λ n. top.live n ∙ right.live n ∙ left.live n ∙ taken_live n;
    parents = λ n. top.keeps (λ q. q.parent) (λ _. refl) n ∙ right.keeps (λ q. q.parent) (λ _. refl) n ∙ left.keeps (λ q. q.parent) (λ _. refl) n ∙ taken_link (λ q. q.parent) n;
    newest = removed_newest;
    older = removed_older;
    younger = removed_younger;
    payloads = removed_payloads;
  }
