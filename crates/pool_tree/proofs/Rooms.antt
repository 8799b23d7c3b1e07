-- How many payloads a clear hands on, and that what is handed on is the run order.
use Rattle.std.specs.Prelude.{◌≡◌, ℕ, ◌+◌, ◌<◌, ◌≤◌, Bool, true, false, ◌==◌, ◌&&◌, not, if◌then◌else◌, Option, None, List, [], ◌∷◌, ◌++◌, map, filter, reverse, length, take, refl}
use Rattle.std.specs.List.{flat_map}
use Rattle.std.proofs.Common.{◌∙◌, ap, inl, inr, arith, get_or}
use Rattle.std.proofs.lemmas.List.{append-nil, reverse-append, length-append, length-map, length-reverse, take_more}
use Rattle.std.proofs.lemmas.List.Concat.{flat_map-append}
use Rattle.std.proofs.lemmas.Bool.{cases_Bool, eq-eqb}
use Rattle.run_model.specs.declared.effect.CleanupKind.TheVariants.{Plain, Pre}
use Rattle.run_model.specs.Pools.{Cleanups, held_as, is_live, is_under, is_in, is_empty}
use Rattle.run_model.specs.RunOrder.{Turn, turns_at, both_turns, turn_run, run_order, order_under, turns_under}
use Rattle.run_model.proofs.RunOrderLaws.{order_under_once, once_if, turns_under_once, all_if, run_order_turns}
use Rattle.pool_tree.specs.declared.records.Pool.{Pool}
use Rattle.pool_tree.specs.declared.tree.PoolTree.{PoolTree}
use Rattle.pool_tree.specs.Records.{record_of, payloads_of}
use Rattle.pool_tree.specs.Handed.{own_of, IsOnce, seen_of, after_turn, after_turns}
use Rattle.pool_tree.proofs.Handing.{after_none, after_both}
use Rattle.pool_tree.specs.Tree.{map_of}
use Rattle.pool_tree.proofs.Trees.{tree_formed, tree_payloads}

pub own_length : {T : Type 0} (records : ℕ → Option (Pool T)) (t : Turn) → length (own_of records t) ≡ length (held_as t.1 (payloads_of records t.0))
unfolding own_of
own_length records t = length-map (reverse (held_as t.1 (payloads_of records t.0))) (λ x. (t.0, x)) ∙ length-reverse (held_as t.1 (payloads_of records t.0))

turned_length : {A B : Type 0} (f : A → List B) (xs : List A) → length (flat_map f (reverse xs)) ≡ length (flat_map f xs)
turned_length f [] = refl
turned_length f (x ∷ xs) =
    rw (
      reverse-append (x ∷ []) xs,
      flat_map-append f (reverse xs) (x ∷ []),
      length-append (flat_map f (reverse xs)) (f x ++ []),
      append-nil (f x),
      length-append (f x) (flat_map f xs),
      turned_length f xs,
    )
    (omega arith)

-- one more turn is counted
pub counted_more : {T : Type 0} (records : ℕ → Option (Pool T)) (turns : List Turn) (i : ℕ) (d : Turn) (count : ℕ) → i < length turns
    → count ≡ length (held_as (get_or turns i d).1 (payloads_of records (get_or turns i d).0))
    → length (flat_map (own_of records) (take (i + 1) turns)) ≡ length (flat_map (own_of records) (take i turns)) + count
counted_more records turns i d count within is =
    let t : Turn = get_or turns i d in
    ap (λ (ts : List Turn). length (flat_map (own_of records) ts)) (take_more turns i d within)
    ∙ rw (
      flat_map-append (own_of records) (take i turns) (t ∷ []),
      length-append (flat_map (own_of records) (take i turns)) (own_of records t ++ []),
      append-nil (own_of records t),
      own_length records t,
      is,
    )

own_same_list : {X Y : Type 0} (f g : X → List Y) → ((n : X) → f n ≡ g n) → (xs : List X) → flat_map f xs ≡ flat_map g xs
own_same_list f g same [] = refl
own_same_list f g same (x ∷ xs) = rw (same x) (ap (λ ys. g x ++ ys) (own_same_list f g same xs))

pub and_none : (b : Bool) → (b && not true) ≡ false
and_none true = refl
and_none false = refl

once_in : (b : Bool) (n : ℕ) → not (is_empty (once_if b n)) ≡ b
unfolding once_if
once_in true n = refl
once_in false n = refl

-- a name is in a list where the filter by it leaves something
in_filter : (n : ℕ) (xs : List ℕ) → is_in n xs ≡ not (is_empty (filter (λ m. m == n) xs))
in_filter n [] = refl
in_filter n (x ∷ xs) = elim (cases_Bool (x == n)) [ inl e ↦ rw e | inr e ↦ rw e (in_filter n xs) ]

module _ {T : Type 0} (tree : PoolTree T) where
  -- the pools found under another are those under it
  pub found_is : (pool : ℕ) (names : List ℕ) → is_live (map_of tree) pool ≡ true → reverse names ≡ order_under (map_of tree) pool
      → (n : ℕ) → is_in n (reverse names) ≡ (is_under (map_of tree) pool n && not (n == pool))
  found_is pool names live under n =
      in_filter n (reverse names) ∙ rw (under, order_under_once (map_of tree) (tree_formed tree) n pool live) (once_in (is_under (map_of tree) pool n && not (n == pool)) n)

  pub own_is : (t : Turn) → turn_run (map_of tree) t ≡ own_of (record_of tree.records) t
  unfolding turn_run own_of
  own_is t = ap (λ (c : Cleanups T). map (λ (x : T). (t.0, x)) (reverse (held_as t.1 c))) (tree_payloads tree t.0)

  -- the run order by the records
  pub run_by_records : (pool : ℕ) (turns : List Turn) → is_live (map_of tree) pool ≡ true → reverse turns ≡ turns_under (map_of tree) pool
      → run_order (map_of tree) pool ≡ own_of (record_of tree.records) (pool, Pre) ++ (flat_map (own_of (record_of tree.records)) (reverse turns) ++ own_of (record_of tree.records) (pool, Plain))
  run_by_records pool turns live under =
      run_order_turns (map_of tree) (tree_formed tree) pool live
      ∙ rw (under, own_is (pool, Pre), own_is (pool, Plain))
      (ap (λ (xs : List (ℕ × T)). own_of (record_of tree.records) (pool, Pre) ++ (xs ++ own_of (record_of tree.records) (pool, Plain)))
      (own_same_list (turn_run (map_of tree)) (own_of (record_of tree.records)) own_is (turns_under (map_of tree) pool)))

  pub run_parts : (pool : ℕ) (turns : List Turn) → is_live (map_of tree) pool ≡ true → reverse turns ≡ turns_under (map_of tree) pool
      → length (run_order (map_of tree) pool) ≡ length (own_of (record_of tree.records) (pool, Pre)) + (length (flat_map (own_of (record_of tree.records)) (reverse turns)) + length (own_of (record_of tree.records) (pool, Plain)))
  run_parts pool turns live under =
      let records = record_of tree.records in
      ap length (run_by_records pool turns live under)
      ∙ length-append (own_of records (pool, Pre)) (flat_map (own_of records) (reverse turns) ++ own_of records (pool, Plain))
      ∙ ap (λ (k : ℕ). length (own_of records (pool, Pre)) + k) (length-append (flat_map (own_of records) (reverse turns)) (own_of records (pool, Plain)))

  pub run_length : (pool : ℕ) (turns : List Turn) → is_live (map_of tree) pool ≡ true → reverse turns ≡ turns_under (map_of tree) pool
      → length (run_order (map_of tree) pool)
      ≡ length (own_of (record_of tree.records) (pool, Pre)) + length (own_of (record_of tree.records) (pool, Plain)) + length (flat_map (own_of (record_of tree.records)) turns)
  run_length pool turns live under =
      run_parts pool turns live under ∙ rw (turned_length (own_of (record_of tree.records)) turns) (omega arith)

  -- the turns of a pool under another, and of one that is not
  found_at : (pool : ℕ) (turns : List Turn) → is_live (map_of tree) pool ≡ true → reverse turns ≡ turns_under (map_of tree) pool
      → (n : ℕ) → filter (turns_at n) (reverse turns) ≡ all_if (is_under (map_of tree) pool n && not (n == pool)) (both_turns n)
  found_at pool turns live under n = ap (filter (turns_at n)) under ∙ turns_under_once (map_of tree) (tree_formed tree) n pool live

  -- each pool under another has its two turns once
  pub found_once : (pool : ℕ) (turns : List Turn) → is_live (map_of tree) pool ≡ true → reverse turns ≡ turns_under (map_of tree) pool → IsOnce (reverse turns)
  unfolding IsOnce all_if
  found_once pool turns live under n = elim (cases_Bool (is_under (map_of tree) pool n && not (n == pool))) [
    | inl e ↦ (0, found_at pool turns live under n ∙ rw e)
    | inr e ↦ (2, found_at pool turns live under n ∙ rw e)
  ]

  -- the pool itself has none among them
  pub not_found : (pool : ℕ) (turns : List Turn) → is_live (map_of tree) pool ≡ true → reverse turns ≡ turns_under (map_of tree) pool → filter (turns_at pool) (reverse turns) ≡ []
  unfolding all_if
  not_found pool turns live under = found_at pool turns live under pool ∙ rw (eq-eqb pool pool refl, and_none (is_under (map_of tree) pool pool))

  -- what is left when the pool has had its first turn, and those under it have had theirs
  pub left_mid : (pool : ℕ) (turns : List Turn) → is_live (map_of tree) pool ≡ true → reverse turns ≡ turns_under (map_of tree) pool
      → (first mid : ℕ → Option (Pool T)) → ((n : ℕ) → seen_of first n ≡ after_turn (pool, Pre) n (seen_of (record_of tree.records) n))
      → ((n : ℕ) → seen_of mid n ≡ after_turns (reverse turns) n (seen_of first n))
      → (n : ℕ) → seen_of mid n ≡ (if is_under (map_of tree) pool n && not (n == pool) then None else after_turn (pool, Pre) n (seen_of (record_of tree.records) n))
  unfolding all_if
  left_mid pool turns live under first mid had gone n = elim (cases_Bool (is_under (map_of tree) pool n && not (n == pool))) [
    | inl e ↦ gone n ∙ after_both n (reverse turns) (seen_of first n) (found_at pool turns live under n ∙ rw e) ∙ rw e
    | inr e ↦ gone n ∙ after_none n (reverse turns) (seen_of first n) (found_at pool turns live under n ∙ rw e) ∙ had n ∙ rw e
  ]
