-- In the tree of a world that is reached each connection has its part, and each pool but the root is one of a connection's.
use Rattle.std.proofs.Common.{◌≡◌, ◌≢◌, ◌⊎◌, ℕ, zero, suc, ◌<◌, ◌≤◌, ◌==◌, true, false, not, nat_lt, List, [], ◌∷◌, Option, Some, None, inl, inr, refl, sym, ◌∙◌, ap, subst, arith, eq-eqb}
use Rattle.std.proofs.lemmas.Option.{none-some}
use Rattle.std.proofs.Math.Path.{fun_ext}
use Rattle.std.proofs.lemmas.Bool.{cases_Bool, or_cases, or_right, both_ways, false_from_ne_true, ltb-true, ltb-false}
use Rattle.run_model.proofs.References.{or_left}
use Rattle.std.proofs.lemmas.Bool.Decides.{eqb_tells}
use Rattle.module_code.specs.Program.{Program}
use Rattle.run_model.specs.declared.payload.Payload.{Payload}
use Rattle.run_model.specs.Pools.{Pools, is_empty, is_in, is_live, is_under, no_cleanups}
use Rattle.run_model.specs.Chains.{Connection}
use Rattle.run_model.specs.Worlds.{World, tree_below, tree_of, with_part}
use Rattle.model_laws.specs.ChainNumbers.{WorldNumbers}
use Rattle.model_laws.specs.ChainPaths.{WorldPaths}
use Rattle.model_laws.specs.ChainSound.{WorldSound}
use Rattle.model_laws.specs.ChainTrees.{is_own, tree_up_to, ReachedTreeIsOfAll, WorldPoolsApart}
use Rattle.model_laws.specs.JoinedParts.{ArePoolsOf, HasItsPart, StandsWith}
use Rattle.model_laws.specs.Parts.{belongs, is_top, part, HasPart}
use Rattle.run_model.proofs.PoolMap.{live_path}
use Rattle.model_laws.proofs.parts.Paths.{apart_under, part_off, part_path, part_payloads, top_path}
use Rattle.model_laws.proofs.chains.PoolsApart.{run_keeps_pools_apart}
use Rattle.model_laws.proofs.chains.Reached.{reached_holds}
use Rattle.model_laws.proofs.chains.Trees.{TreeGrown, StandsBelow, grown, joined_either, joined_there, joins_next, part_formed}

pub same_conn : (a b : Connection) → Some a ≡ Some b → a ≡ b
same_conn a b e = cc

module _ (chain : List Program) (w : World) (sound : WorldSound chain w) (numbers : WorldNumbers w) (paths : WorldPaths w) (h : WorldPoolsApart w) where
  -- Up to its number and on, a connection's pools are there.
  pub record PoolsFrom (k n : ℕ) (c : Connection) : Type 0 where
    pub path : (tree_up_to k w).path n ≡ c.path n
    pub payloads : (tree_up_to k w).payloads n ≡ c.payloads n

  own_there : (n : ℕ) (c : Connection) → is_own c n ≡ true → c.path n ≢ []
  own_there n c own none = (let e : is_in c.conn [] ≡ true = ap (is_in c.conn) (sym none) ∙ own in cc)

  joined_at : (k n : ℕ) (c : Connection) (o : Option Connection) → w.conns (suc k) ≡ o → tree_up_to (suc k) w ≡ with_part o (tree_up_to k w) → is_own c n ≡ true → PoolsFrom k n c
      → PoolsFrom (suc k) n c
  joined_at k n c None at is own old = record { path = ap (λ (ps : Pools Payload). ps.path n) is ∙ old.path; payloads = ap (λ (ps : Pools Payload). ps.payloads n) is ∙ old.payloads }
  joined_at k n c (Some d) at is own old =
      let stays = joined_there w.common.root d (tree_up_to k w) (joins_next chain w sound paths h k d (grown chain w sound paths h k) at) n (λ none. own_there n c own (sym old.path ∙ none)) in
      record { path = ap (λ (ps : Pools Payload). ps.path n) is ∙ stays.0 ∙ old.path; payloads = ap (λ (ps : Pools Payload). ps.payloads n) is ∙ stays.1 ∙ old.payloads }

  comes_at : (k n : ℕ) (c : Connection) → w.conns (suc k) ≡ Some c → is_own c n ≡ true → PoolsFrom (suc k) n c
  unfolding tree_below
  comes_at k n c at own = elim (joined_either w.common.root c (tree_up_to k w) (joins_next chain w sound paths h k c (grown chain w sound paths h k) at) n) [
    | inl here ↦ record {
      path = ap (λ (o : Option Connection). (with_part o (tree_up_to k w)).path n) at ∙ here.1;
      payloads = ap (λ (o : Option Connection). (with_part o (tree_up_to k w)).payloads n) at ∙ here.2;
    }
    | inr off ↦ absurd (both_ways (is_own c n) off.0 own)
  ]

  at_each : (k j n : ℕ) (c : Connection) → w.conns (suc j) ≡ Some c → j < k → is_own c n ≡ true → PoolsFrom k n c
  unfolding tree_below
  at_each zero j n c at lt own = absurd (omega arith)
  at_each (suc k) j n c at lt own = elim (eqb_tells j k) [
    | inl same ↦ subst (λ (m : ℕ). PoolsFrom (suc m) n c) same.1 (comes_at j n c at own)
    | inr other ↦ joined_at k n c (w.conns (suc k)) refl refl own (at_each k j n c at (below j k lt other.1) own)
  ] where
    below : (j k : ℕ) → j < suc k → j ≢ k → j < k
    below j k lt ne = omega (arith, ne)

  -- The tree of all.

  abbrev all : Pools Payload
  all = tree_of w

  pub tree : TreeGrown chain w sound paths h w.last
  tree = grown chain w sound paths h w.last

  -- a number that was given
  pub numbered : (k : ℕ) (c : Connection) → w.conns k ≡ Some c → (j : ℕ) × (k ≡ suc j) × (j < w.last)
  numbered zero c at = absurd (none-some c (sym numbers.first ∙ at))
  numbered (suc j) c at = elim (cases_Bool (nat_lt j w.last)) [
    | inl below ↦ (j, refl, ltb-true j w.last below)
    | inr past ↦ absurd (none-some c (sym (numbers.later (suc j) (let le : w.last ≤ j = ltb-false j w.last past in omega arith)) ∙ at))
  ]

  pub in_all : (k n : ℕ) (c : Connection) → w.conns k ≡ Some c → is_own c n ≡ true → PoolsFrom w.last n c
  in_all k n c at own = (let is = numbered k c at in at_each w.last is.0 n c (ap w.conns (sym is.1) ∙ at) is.2 own)

  pub own_conn : (k : ℕ) (c : Connection) → w.conns k ≡ Some c → is_own c c.conn ≡ true
  own_conn k c at = ap (is_in c.conn) (h.top k c at) ∙ or_left (c.conn == c.conn) (is_in c.conn (w.common.root ∷ [])) (eq-eqb c.conn c.conn refl)

  -- a connection's pool stands right under the root
  pub top_in : (k : ℕ) (c : Connection) → w.conns k ≡ Some c → HasPart all c.conn
  top_in k c at = record { formed = tree.formed; root = w.common.root; top = (in_all k c.conn c at (own_conn k c at)).path ∙ h.top k c at }

  -- two connections have two pools
  pub same_number : (j k : ℕ) (c d : Connection) → w.conns j ≡ Some c → w.conns k ≡ Some d → c.conn ≡ d.conn → j ≡ k
  same_number j k c d at_c at_d same = h.own j k c.conn c d at_c at_d (own_conn j c at_c) (subst (λ (m : ℕ). is_own d m ≡ true) (sym same) (own_conn k d at_d))

  module _ (k : ℕ) (c : Connection) (at : w.conns k ≡ Some c) where
    -- what stands under its pool is its own
    pub through_own : (n : ℕ) → n ≢ w.common.root → is_under all c.conn n ≡ true → is_own c n ≡ true
    unfolding is_under
    through_own n other under = elim (tree.from n (λ none. let e : is_in c.conn [] ≡ true = ap (is_in c.conn) (sym none) ∙ under in cc)) [
      | inl root ↦ absurd (other root)
      | inr s ↦ by_name s (eqb_tells c.conn s.conn.conn)
    ] where
      by_name : (s : StandsBelow chain w sound paths h w.last n) → (((c.conn == s.conn.conn) ≡ true) × (c.conn ≡ s.conn.conn)) ⊎ (((c.conn == s.conn.conn) ≡ false) × (c.conn ≢ s.conn.conn))
          → is_own c n ≡ true
      by_name s (inl same) =
          let number : s.number ≡ k = sym (same_number k s.number c s.conn at s.there same.1) in
          subst (λ (x : Connection). is_own x n ≡ true) (same_conn s.conn c (sym s.there ∙ ap w.conns number ∙ at)) s.own
      by_name s (inr apart) = absurd (both_ways (is_under all s.conn.conn n) (apart_under all c.conn s.conn.conn n (top_in k c at) (top_in s.number s.conn s.there) apart.1 under)
          (ap (is_in s.conn.conn) s.path ∙ s.own))

    root_path : c.path w.common.root ≡ w.common.root ∷ []
    root_path = (part_formed chain w sound paths h k c at).closed c.conn c.conn w.common.root [] (h.top k c at)

    not_own : (n : ℕ) → n ≢ w.common.root → is_own c n ≡ false → (c.path n ≡ []) × (c.payloads n ≡ no_cleanups)
    unfolding is_live is_under
    not_own n other off = by_path (c.path n) refl where
      by_path : (xs : List ℕ) → c.path n ≡ xs → (c.path n ≡ []) × (c.payloads n ≡ no_cleanups)
      by_path [] is = (is, (part_formed chain w sound paths h k c at).bare n is)
      by_path (m ∷ xs) is = elim ((paths k c at).pools n (ap (λ (path : List ℕ). not (is_empty path)) is)) [
        | inl root ↦ absurd (other root)
        | inr under ↦ absurd (both_ways (is_own c n) off under)
      ]

    outside : (n : ℕ) → n ≢ w.common.root → is_own c n ≡ false → belongs c.conn (all.path n) ≡ false
    unfolding is_under
    outside n other off = false_from_ne_true (belongs c.conn (all.path n)) (λ here. elim (or_cases (is_top (all.path n)) (is_in c.conn (all.path n)) here) [
      | inl top ↦ (let alone = top_path (all.path n) top in other (tree.formed.alone n w.common.root alone.0 w.common.root alone.1 tree.root))
      | inr under ↦ both_ways (is_own c n) off (through_own n other under)
    ])

    alike : (n : ℕ) → (c.path n ≡ (part c.conn all).path n) × (c.payloads n ≡ (part c.conn all).payloads n)
    alike n = elim (eqb_tells n w.common.root) [
      | inl root ↦ subst (λ (m : ℕ). (c.path m ≡ (part c.conn all).path m) × (c.payloads m ≡ (part c.conn all).payloads m)) (sym root.1) at_root
      | inr other ↦ (elim (cases_Bool (is_own c n)) [
        | inl own ↦ of_own own
        | inr off ↦ (let none = not_own n other.1 off in let out = part_off all c.conn n (outside n other.1 off) in (none.0 ∙ sym out.0, none.1 ∙ sym out.1))
      ])
    ] where
      at_root : (c.path w.common.root ≡ (part c.conn all).path w.common.root) × (c.payloads w.common.root ≡ (part c.conn all).payloads w.common.root)
      at_root =
          let here : belongs c.conn (all.path w.common.root) ≡ true = ap (belongs c.conn) tree.root in
          (root_path ∙ sym tree.root ∙ sym (part_path all c.conn w.common.root here), h.bare k c at ∙ sym tree.bare ∙ sym (part_payloads all c.conn w.common.root here))

      of_own : is_own c n ≡ true → (c.path n ≡ (part c.conn all).path n) × (c.payloads n ≡ (part c.conn all).payloads n)
      of_own own =
          let there = in_all k n c at own in
          let here : belongs c.conn (all.path n) ≡ true = or_right (is_top (all.path n)) (is_in c.conn (all.path n)) (ap (is_in c.conn) there.path ∙ own) in
          (sym there.path ∙ sym (part_path all c.conn n here), sym there.payloads ∙ sym (part_payloads all c.conn n here))

    pub its_part : HasItsPart all c
    its_part = record { path = fun_ext (λ n. (alike n).0); payloads = fun_ext (λ n. (alike n).1) }

  stands : (n : ℕ) → is_live all n ≡ true → n ≢ w.common.root → StandsWith w all n
  unfolding is_under
  stands n live other = elim (tree.from n (live_path all n live)) [
    | inl root ↦ absurd (other root)
    | inr s ↦ (let is = numbered s.number s.conn s.there in
        record { number = is.0; conn = s.conn; given = is.2; there = ap w.conns (sym is.1) ∙ s.there; under = ap (is_in s.conn.conn) s.path ∙ s.own })
  ]

  pub tree_parts : ArePoolsOf w (tree_of w)
  tree_parts = record { formed = tree.formed; root = tree.root; bare = tree.bare; next = tree.next; parts = its_part; covered = stands }

pub reached_tree : ReachedTreeIsOfAll
reached_tree budget chain w chained r =
    let laws = reached_holds budget chain w chained r in
    tree_parts chain w laws.sound laws.numbers laws.paths (run_keeps_pools_apart budget chain r.events r.answers w chained r.run)
