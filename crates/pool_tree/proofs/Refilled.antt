-- Other payloads in one pool keep the links, and change the pool map at that pool alone; and which payload is the
-- last that passes a test.
use Rattle.std.specs.Prelude.{◌≡◌, ℕ, suc, ◌<◌, Bool, true, false, ◌==◌, is_some, if◌then◌else◌, Option, None, Some, List, [], ◌∷◌, ◌++◌, refl, take, drop, remove, length, ◌≤◌, ◌-◌}
use Rattle.std.specs.List.{list_any}
use Rattle.std.proofs.Common.{sym, ◌∙◌, ap, inl, inr, arith, get_or, drop-cons}
use Rattle.std.proofs.lemmas.List.{take-append-drop, get_or_default}
use Rattle.pool_tree.specs.Payloads.{IsLastAt}
use Rattle.std.proofs.lemmas.Bool.{eq-eqb, ne_eqb, cases_eq, or_right, or_left, or_parts}
use Rattle.run_model.specs.Indexed.{upd}
use Rattle.run_model.specs.Pools.{Cleanups}
use Rattle.run_model.specs.RunOrder.{last_that, without_last}
use Rattle.pool_tree.specs.declared.records.Pool.{Pool}
use Rattle.pool_tree.specs.Records.{names, parent_of, payloads_of}
use Rattle.pool_tree.specs.Links.{newest_below, map_at, RecordsLinked, IsRefilled}
use Rattle.pool_tree.proofs.Newest.{newest_same}
use Rattle.pool_tree.proofs.Paths.{place_same, parent_at, map_path_same, pools_same, map_next, map_payloads}

module _ {T : Type 0} (root next name : ℕ) (items : Cleanups T) (old new : ℕ → Option (Pool T)) (linked : RecordsLinked root next old) (refilled : IsRefilled name items old new) where
  below : (p m : ℕ) → newest_below new p m ≡ newest_below old p m
  below p m = newest_same new old p m (λ k _. ap (λ o. names o p) (refilled.parents k))

  child : (n p : ℕ) → parent_of new n ≡ Some p → parent_of old n ≡ Some p
  child n p at = sym (refilled.parents n) ∙ at

  was_live : (n : ℕ) → is_some (new n) ≡ true → is_some (old n) ≡ true
  was_live n live = sym (refilled.live n) ∙ live

  pub refilled_linked : RecordsLinked root next new
  refilled_linked = record {
    root_live = refilled.live root ∙ linked.root_live;
    root_above = refilled.parents root ∙ linked.root_above;
    root_alone = refilled.older root ∙ linked.root_alone;
    named = λ n live. linked.named n (was_live n live);
    rooted = λ n live top. linked.rooted n (was_live n live) (sym (refilled.parents n) ∙ top);
    rises = λ n p at. linked.rises n p (child n p at);
    closed = λ n p at. refilled.live p ∙ linked.closed n p (child n p at);
    newest = λ p. refilled.newest p ∙ linked.newest p ∙ sym (below p next);
    older = λ n p at. refilled.older n ∙ linked.older n p (child n p at) ∙ sym (below p n);
    younger = λ n m at. refilled.older m ∙ linked.younger n m (sym (refilled.younger n) ∙ at);
    elder = λ n m at. refilled.younger n ∙ linked.elder n m (sym (refilled.older m) ∙ at);
    youngest = λ n p at none. refilled.newest p ∙ linked.youngest n p (child n p at) (sym (refilled.younger n) ∙ none);
    last = λ p n at. refilled.younger n ∙ linked.last p n (sym (refilled.newest p) ∙ at);
  }

  pub refilled_map : map_at next new ≡ record (map_at next old) { payloads = upd (map_at next old).payloads name items }
  unfolding upd
  refilled_map =
      pools_same (map_at next new) (record (map_at next old) { payloads = upd (map_at next old).payloads name items })
      (λ n. map_path_same next next new old (λ _. Unit {0}) (λ k _. place_same new old k k (refilled.live k) (refilled.parents k))
      (λ k p _ at. (tt, linked.rises k p (child k p (parent_at new k p at)))) n tt)
      (λ n. map_payloads root next new refilled_linked n ∙ refilled.payloads n ∙ ap (λ xs. if n == name then items else xs) (sym (map_payloads root next old linked n)))
      (map_next root next new refilled_linked ∙ sym (map_next root next old linked))

  -- the same payloads
  pub refilled_same : items ≡ payloads_of old name → map_at next new ≡ map_at next old
  unfolding upd
  refilled_same same =
      pools_same (map_at next new) (map_at next old)
      (λ n. ap (λ ps. ps.path n) refilled_map)
      (λ n. map_payloads root next new refilled_linked n ∙ refilled.payloads n ∙
      elim (cases_eq n name) [
        | inl here ↦ rw (eq-eqb n name here, same, here, map_payloads root next old linked name)
        | inr apart ↦ rw (ne_eqb n name apart, map_payloads root next old linked n)
      ])
      (map_next root next new refilled_linked ∙ sym (map_next root next old linked))

-- no item passes
pub last_none : {X : Type 0} (test : X → Bool) (xs : List X) → list_any test xs ≡ false → (last_that test xs ≡ None) × (without_last test xs ≡ xs)
unfolding last_that without_last
last_none test [] none = (refl, refl)
last_none test (x ∷ xs) none =
    let parts = or_parts (test x) (list_any test xs) none in
    (rw (parts.0, parts.1), rw (parts.0, parts.1))

any_after : {X : Type 0} (test : X → Bool) (xs : List X) (y : X) (ys : List X) → test y ≡ true → list_any test (xs ++ y ∷ ys) ≡ true
any_after test [] y ys passes = or_left (test y) (list_any test ys) passes
any_after test (x ∷ xs) y ys passes = or_right (test x) (list_any test (xs ++ y ∷ ys)) (any_after test xs y ys passes)

-- y passes, and no item behind it
pub last_some : {X : Type 0} (test : X → Bool) (xs : List X) (y : X) (ys : List X) → test y ≡ true → list_any test ys ≡ false
    → (last_that test (xs ++ y ∷ ys) ≡ Some y) × (without_last test (xs ++ y ∷ ys) ≡ xs ++ ys)
unfolding last_that without_last
last_some test [] y ys passes none = (rw (none, passes), rw (none, passes))
last_some test (x ∷ xs) y ys passes none =
    let rest = last_some test xs y ys passes none in
    (rw (any_after test xs y ys passes) rest.0, rw (any_after test xs y ys passes) (ap (λ zs. x ∷ zs) rest.1))

split_at : {X : Type 0} (xs : List X) (i : ℕ) (y : X) → i < length xs → take i xs ++ get_or xs i y ∷ drop (suc i) xs ≡ xs
split_at xs i y within = ap (λ ys. take i xs ++ ys) (sym (drop-cons xs i y within)) ∙ take-append-drop i xs

-- the item that is taken out, by its index
pub last_at : {X : Type 0} (test : X → Bool) (xs : List X) (i : ℕ) (y : X) → IsLastAt test xs i → y ≡ get_or xs i y → (last_that test xs ≡ Some y) × (without_last test xs ≡ remove xs i)
last_at test xs i y at is =
    let split : take i xs ++ y ∷ drop (suc i) xs ≡ xs = ap (λ z. take i xs ++ z ∷ drop (suc i) xs) is ∙ split_at xs i y at.within in
    let some = last_some test (take i xs) y (drop (suc i) xs) (ap test is ∙ at.passes y) at.behind in
    (sym (ap (last_that test) split) ∙ some.0, sym (ap (without_last test) split) ∙ some.1)

pub last_found : {X : Type 0} (test : X → Bool) (xs : List X) (i : ℕ) (y : X) → 0 < i → i ≤ length xs → y ≡ get_or xs (i - 1) y → test y ≡ true → list_any test (drop i xs) ≡ false
    → IsLastAt test xs (i - 1)
last_found test xs i y some low is passes behind =
    let within : i - 1 < length xs = omega arith in
    let e : suc (i - 1) ≡ i = omega arith in
    record {
      within = within;
      passes = λ x. ap test (get_or_default xs (i - 1) x y within ∙ sym is) ∙ passes;
      behind = ap (λ k. list_any test (drop k xs)) e ∙ behind;
    }
