-- A record alone, with no links, is the tree of one pool.
use Rattle.std.specs.Prelude.{◌≡◌, ℕ, zero, suc, ◌<◌, true, false, is_some, Option, None, Some, [], ◌∷◌, refl, ◌⊎◌}
use Rattle.std.specs.Option.{option_map, option_map_or, option_and_then}
use Rattle.std.proofs.Common.{sym, ◌∙◌, ap, inl, inr, arith}
use Rattle.std.proofs.lemmas.Bool.{eq-eqb, ne_eqb}
use Rattle.run_model.specs.Indexed.{upd}
use Rattle.run_model.specs.Pools.{no_cleanups, planted}
use Rattle.pool_tree.specs.declared.records.Pool.{Pool}
use Rattle.pool_tree.specs.Records.{names, parent_of, cleanups}
use Rattle.pool_tree.specs.Links.{newest_below, map_at, RecordsLinked}
use Rattle.pool_tree.proofs.Newest.{below_there, pick}
use Rattle.pool_tree.proofs.Paths.{placed_path, pools_same, step, map_next, map_payloads}

pub newest_none : {T : Type 0} (records : ℕ → Option (Pool T)) (p m : ℕ) → ((k : ℕ) → k < m → names (parent_of records k) p ≡ false) → newest_below records p m ≡ None
newest_none records p zero none = unfold newest_below in refl
newest_none records p (suc m) none = below_there records p m (none m (omega arith)) ∙ newest_none records p m (λ k below. none k (omega arith))

module _ {T : Type 0} (first : ℕ) (empty records : ℕ → Option (Pool T)) (pool : Pool T)
    (has_parent : pool.parent ≡ None) (has_newest : pool.newest ≡ None) (has_older : pool.older ≡ None) (has_younger : pool.younger ≡ None) (has_payloads : cleanups pool ≡ no_cleanups)
    (bare : (n : ℕ) → empty n ≡ None) (puts : (n : ℕ) → records n ≡ upd empty first (Some pool) n) where
  here_or_none : (n : ℕ) → ((n ≡ first) × (records n ≡ Some pool)) ⊎ ((n ≡ first → ⊥) × (records n ≡ None))
  unfolding upd
  here_or_none n =
      elim (pick n first (Some pool) (empty n) (records n) (puts n)) [ inl here ↦ inl here | inr there ↦ inr (there.0, there.1 ∙ bare n) ]

  no_link : (g : Pool T → Option ℕ) → g pool ≡ None → (n : ℕ) → option_and_then g (records n) ≡ None
  no_link g none n =
      elim (here_or_none n) [ inl here ↦ ap (option_and_then g) here.1 ∙ none | inr there ↦ ap (option_and_then g) there.1 ]

  no_link_to : (g : Pool T → Option ℕ) → g pool ≡ None → (n p : ℕ) → option_and_then g (records n) ≡ Some p → ⊥
  no_link_to g none n p at = (let bad : None ≡ Some p = sym (no_link g none n) ∙ at in cc)

  at_first : records first ≡ Some pool
  at_first = elim (here_or_none first) [ inl here ↦ here.1 | inr there ↦ absurd (there.0 refl) ]

  is_first : (n : ℕ) → is_some (records n) ≡ true → n ≡ first
  is_first n live = elim (here_or_none n) [ inl here ↦ here.0 | inr there ↦ (let bad : false ≡ true = sym (ap is_some there.1) ∙ live in cc) ]

  pub planted_linked : RecordsLinked first (suc first) records
  planted_linked = record {
    root_live = ap is_some at_first;
    root_above = no_link (λ q. q.parent) has_parent first;
    root_alone = no_link (λ q. q.older) has_older first;
    named = λ n live. omega (arith, is_first n live);
    rooted = λ n live top. is_first n live;
    rises = λ n p at. absurd (no_link_to (λ q. q.parent) has_parent n p at);
    closed = λ n p at. absurd (no_link_to (λ q. q.parent) has_parent n p at);
    newest = λ p. no_link (λ q. q.newest) has_newest p ∙ sym (newest_none records p (suc first) (λ k below. ap (λ o. names o p) (no_link (λ q. q.parent) has_parent k)));
    older = λ n p at. absurd (no_link_to (λ q. q.parent) has_parent n p at);
    younger = λ n m at. absurd (no_link_to (λ q. q.younger) has_younger n m at);
    elder = λ n m at. absurd (no_link_to (λ q. q.older) has_older m n at);
    youngest = λ n p at. absurd (no_link_to (λ q. q.parent) has_parent n p at);
    last = λ p n at. absurd (no_link_to (λ q. q.newest) has_newest p n at);
  }

  planted_path : (n : ℕ) → (map_at (suc first) records).path n ≡ (planted {T = T} first).path n
  unfolding planted upd
  planted_path n =
      step first (suc first) records planted_linked n
      ∙ elim (here_or_none n) [
        | inl here ↦ ap (λ o. placed_path (map_at (suc first) records).path n (option_map (λ q. q.parent) o)) here.1 ∙ ap (λ o. placed_path (map_at (suc first) records).path n (Some o)) has_parent
            ∙ rw (eq-eqb n first here.0) (ap (λ k. k ∷ []) here.0)
        | inr there ↦ ap (λ o. placed_path (map_at (suc first) records).path n (option_map (λ q. q.parent) o)) there.1 ∙ rw (ne_eqb n first there.0)
      ]

  planted_payloads : (n : ℕ) → (map_at (suc first) records).payloads n ≡ (planted {T = T} first).payloads n
  unfolding planted
  planted_payloads n =
      map_payloads first (suc first) records planted_linked n
      ∙ elim (here_or_none n) [
        | inl here ↦ ap (λ o. option_map_or cleanups o no_cleanups) here.1 ∙ has_payloads
        | inr there ↦ ap (λ o. option_map_or cleanups o no_cleanups) there.1
      ]

  planted_next : (map_at (suc first) records).next ≡ (planted {T = T} first).next
  unfolding planted
  planted_next = map_next first (suc first) records planted_linked ∙ omega arith

  pub planted_map : map_at (suc first) records ≡ planted first
  planted_map = pools_same (map_at (suc first) records) (planted first) planted_path planted_payloads planted_next
