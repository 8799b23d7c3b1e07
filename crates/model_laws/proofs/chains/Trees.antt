-- The pools of all connections are put together one connection after another.
use Rattle.std.proofs.Common.{◌≡◌, ◌≢◌, ◌⊎◌, ℕ, zero, suc, ◌<◌, ◌≤◌, ◌==◌, Bool, true, false, not, cond, List, [], ◌∷◌, Option, Some, None, inl, inr, refl, sym, ◌∙◌, ap, subst, arith, eqb-true}
use Rattle.std.proofs.lemmas.Bool.{cases_Bool, or_cases}
use Rattle.module_code.specs.Program.{Program}
use Rattle.run_model.specs.declared.payload.Payload.{Payload}
use Rattle.run_model.specs.Pools.{Pools, is_empty, is_in, is_live, planted, no_cleanups}
use Rattle.run_model.specs.RunOrder.{is_child, IsPoolMap}
use Rattle.run_model.specs.Chains.{Connection, pools_of, configuration}
use Rattle.run_model.specs.Worlds.{World, tree_below, with_part}
use Rattle.model_laws.specs.ChainSound.{WorldSound}
use Rattle.model_laws.specs.ChainPaths.{WorldPaths}
use Rattle.model_laws.specs.ChainTrees.{is_own, MayJoin, tree_up_to, WorldPoolsApart, JoinedIsPoolMap, ReachedPartsJoin}
use Rattle.run_model.proofs.Updates.{upd_either}
use Rattle.run_model.proofs.PoolMap.{live_path}
use Rattle.run_model.proofs.RunOrderLaws.{child_path, child_above}
use Rattle.model_laws.proofs.chains.PutBack.{looking}
use Rattle.model_laws.proofs.chains.PoolsApart.{run_keeps_pools_apart}
use Rattle.model_laws.proofs.chains.Reached.{reached_holds}

-- A part is joined.
module _ (root : ℕ) (c : Connection) (ps : Pools Payload) (h : MayJoin root c ps) where
  -- a pool is the part's, or it is as it was
  pub joined_either : (n : ℕ) → ((is_own c n ≡ true) × ((with_part (Some c) ps).path n ≡ c.path n) × ((with_part (Some c) ps).payloads n ≡ c.payloads n))
      ⊎ ((is_own c n ≡ false) × ((with_part (Some c) ps).path n ≡ ps.path n) × ((with_part (Some c) ps).payloads n ≡ ps.payloads n))
  joined_either n = elim (cases_Bool (is_own c n)) [
    | inl own ↦ inl (own, ap (λ (b : Bool). cond b (c.path n) (ps.path n)) own, ap (λ (b : Bool). cond b (c.payloads n) (ps.payloads n)) own)
    | inr off ↦ inr (off, ap (λ (b : Bool). cond b (c.path n) (ps.path n)) off, ap (λ (b : Bool). cond b (c.payloads n) (ps.payloads n)) off)
  ]

  -- what was there is as it was
  pub joined_there : (n : ℕ) → ps.path n ≢ [] → ((with_part (Some c) ps).path n ≡ ps.path n) × ((with_part (Some c) ps).payloads n ≡ ps.payloads n)
  joined_there n there = elim (joined_either n) [ inl own ↦ absurd (there (h.apart n own.0)) | inr off ↦ (off.1, off.2) ]

  pub joined_root : (with_part (Some c) ps).path root ≡ root ∷ []
  joined_root = (joined_there root (λ none. let e : (root ∷ []) ≡ [] = sym h.first ∙ none in cc)).0 ∙ h.first

  pub joined_bare : (with_part (Some c) ps).payloads root ≡ ps.payloads root
  joined_bare = (joined_there root (λ none. let e : (root ∷ []) ≡ [] = sym h.first ∙ none in cc)).1

  -- the pool above an own one is an own one, or that is the connection's
  pub above_own : (n p : ℕ) (above : List ℕ) → c.path n ≡ n ∷ p ∷ above → is_own c n ≡ true → ((n ≡ c.conn) × (p ≡ root) × (above ≡ [])) ⊎ (is_own c p ≡ true)
  above_own n p above is own = elim (or_cases (n == c.conn) (is_in c.conn (p ∷ above)) (ap (is_in c.conn) (sym is) ∙ own)) [
    | inl here ↦ (let at : n ≡ c.conn = eqb-true n c.conn here in let whole : (n ∷ p ∷ above) ≡ (c.conn ∷ root ∷ []) = sym is ∙ ap c.path at ∙ h.top in
        inl (at, the_second n c.conn p root above [] whole, the_rest n c.conn p root above [] whole))
    | inr further ↦ inr (ap (is_in c.conn) (h.own.closed n n p above is) ∙ further)
  ] where
    the_second : (n m p q : ℕ) (xs ys : List ℕ) → (n ∷ p ∷ xs) ≡ (m ∷ q ∷ ys) → p ≡ q
    the_second n m p q xs ys e = cc

    the_rest : (n m p q : ℕ) (xs ys : List ℕ) → (n ∷ p ∷ xs) ≡ (m ∷ q ∷ ys) → xs ≡ ys
    the_rest n m p q xs ys e = cc

  -- an own pool is not at the top
  own_deep : (n k : ℕ) → c.path n ≡ k ∷ [] → is_own c n ≡ true → ⊥
  own_deep n k is own = elim (or_cases (k == c.conn) false (ap (is_in c.conn) (sym is) ∙ own)) [
    | inl here ↦ (let at : n ≡ c.conn = sym (h.own.first n k [] is) ∙ eqb-true k c.conn here in let whole : (k ∷ []) ≡ (c.conn ∷ root ∷ []) = sym is ∙ ap c.path at ∙ h.top in cc)
    | inr never ↦ cc
  ]

  closed_after : (n m p : ℕ) (above : List ℕ) → (with_part (Some c) ps).path n ≡ m ∷ p ∷ above → (with_part (Some c) ps).path p ≡ p ∷ above
  closed_after n m p above is = elim (joined_either n) [
    | inl own ↦
        let at : c.path n ≡ m ∷ p ∷ above = sym own.1 ∙ is in
        let same : m ≡ n = h.own.first n m (p ∷ above) at in
        of_own own.0 (at ∙ ap (λ (k : ℕ). k ∷ p ∷ above) same)
    | inr off ↦
        let up : ps.path p ≡ p ∷ above = h.formed.closed n m p above (sym off.1 ∙ is) in
        (joined_there p (λ none. let e : (p ∷ above) ≡ [] = sym up ∙ none in cc)).0 ∙ up
  ] where
    of_own : is_own c n ≡ true → c.path n ≡ n ∷ p ∷ above → (with_part (Some c) ps).path p ≡ p ∷ above
    of_own own at = elim (above_own n p above at own) [
      | inl first ↦ ap (with_part (Some c) ps).path first.1 ∙ joined_root ∙ ap (λ (k : ℕ). k ∷ []) (sym first.1) ∙ ap (λ (xs : List ℕ). p ∷ xs) (sym first.2)
      | inr further ↦ (elim (joined_either p) [
        | inl too ↦ too.1 ∙ h.own.closed n n p above at
        | inr off ↦ absurd (let both : true ≡ false = sym further ∙ off.0 in cc)
      ])
    ]

  alone_after : (n m k l : ℕ) → (with_part (Some c) ps).path n ≡ k ∷ [] → (with_part (Some c) ps).path m ≡ l ∷ [] → n ≡ m
  alone_after n m k l at_n at_m = elim (joined_either n) [
    | inl own ↦ absurd (own_deep n k (sym own.1 ∙ at_n) own.0)
    | inr off ↦ (elim (joined_either m) [
      | inl own ↦ absurd (own_deep m l (sym own.1 ∙ at_m) own.0)
      | inr too ↦ h.formed.alone n m k l (sym off.1 ∙ at_n) (sym too.1 ∙ at_m)
    ])
  ]

  named_after : (n : ℕ) → is_live (with_part (Some c) ps) n ≡ true → n < ps.next
  unfolding is_live
  named_after n live = elim (joined_either n) [
    | inl own ↦ h.own.named n (ap (λ (xs : List ℕ). not (is_empty xs)) (sym own.1) ∙ live)
    | inr off ↦ h.formed.named n (ap (λ (xs : List ℕ). not (is_empty xs)) (sym off.1) ∙ live)
  ]

  pub joined_formed : IsPoolMap (with_part (Some c) ps)
  joined_formed = record {
    first = λ n m above is. elim (joined_either n) [ inl own ↦ h.own.first n m above (sym own.1 ∙ is) | inr off ↦ h.formed.first n m above (sym off.1 ∙ is) ];
    rises = λ n m p above is. elim (joined_either n) [ inl own ↦ h.own.rises n m p above (sym own.1 ∙ is) | inr off ↦ h.formed.rises n m p above (sym off.1 ∙ is) ];
    closed = closed_after;
    alone = alone_after;
    named = named_after;
    bare = λ n none. elim (joined_either n) [
      | inl own ↦ absurd (let nothing : is_in c.conn [] ≡ true = ap (is_in c.conn) (sym none ∙ own.1) ∙ own.0 in cc)
      | inr off ↦ off.2 ∙ h.formed.bare n (sym off.1 ∙ none)
    ];
  }

pub joined_is_formed : JoinedIsPoolMap
joined_is_formed root c ps h = joined_formed root c ps h

-- What is put together.

module _ (chain : List Program) (w : World) (sound : WorldSound chain w) (paths : WorldPaths w) (h : WorldPoolsApart w) where
  -- a pool of a connection up to this number
  pub record StandsBelow (k n : ℕ) : Type 0 where
    pub number : ℕ
    pub conn : Connection
    pub below : number ≤ k
    pub there : w.conns number ≡ Some conn
    pub own : is_own conn n ≡ true
    pub path : (tree_up_to k w).path n ≡ conn.path n

  -- Each pool but the root is one of a connection, and nothing is registered on the root.
  pub record TreeGrown (k : ℕ) : Type 0 where
    pub formed : IsPoolMap (tree_up_to k w)
    pub root : (tree_up_to k w).path w.common.root ≡ w.common.root ∷ []
    pub bare : (tree_up_to k w).payloads w.common.root ≡ no_cleanups
    pub next : (tree_up_to k w).next ≡ w.common.pools
    pub from : (n : ℕ) → (tree_up_to k w).path n ≢ [] → (n ≡ w.common.root) ⊎ StandsBelow k n

  pub part_formed : (k : ℕ) (c : Connection) → w.conns k ≡ Some c → IsPoolMap (pools_of w.common c)
  unfolding configuration
  part_formed k c at = ((sound.conns k c at).pools.sound (looking 0)).formed

  own_newer : (k n : ℕ) (c : Connection) → w.conns k ≡ Some c → is_own c n ≡ true → n ≢ w.common.root
  own_newer k n c at own one =
      let root : c.path w.common.root ≡ w.common.root ∷ [] = (part_formed k c at).closed c.conn c.conn w.common.root [] (h.top k c at) in
      let newer : w.common.root < c.conn = (paths k c at).newer in
      elim (or_cases (w.common.root == c.conn) false (ap (is_in c.conn) (sym root ∙ ap c.path (sym one)) ∙ own)) [
        | inl e ↦ (let same : w.common.root ≡ c.conn = eqb-true w.common.root c.conn e in absurd (omega (arith, same, newer)))
        | inr never ↦ cc
      ]

  -- an own pool right under the root is the connection's
  own_top : (k n : ℕ) (c : Connection) (above : List ℕ) → w.conns k ≡ Some c → is_own c n ≡ true → c.path n ≡ n ∷ w.common.root ∷ above → n ≡ c.conn
  own_top k n c above at own is = elim (or_cases (n == c.conn) (is_in c.conn (w.common.root ∷ above)) (ap (is_in c.conn) (sym is) ∙ own)) [
    | inl e ↦ eqb-true n c.conn e
    | inr further ↦ absurd (own_newer k w.common.root c at (ap (is_in c.conn) ((part_formed k c at).closed n n w.common.root above is) ∙ further) refl)
  ]

  -- The next connection's part is joined.
  pub joins_next : (k : ℕ) (c : Connection) → TreeGrown k → w.conns (suc k) ≡ Some c → MayJoin w.common.root c (tree_up_to k w)
  unfolding is_child
  joins_next k c g at = record {
    formed = g.formed;
    own = subst (λ (next : ℕ). IsPoolMap (record { path = c.path; payloads = c.payloads; next = next })) (sym g.next) (part_formed (suc k) c at);
    first = g.root;
    top = h.top (suc k) c at;
    newer = (paths (suc k) c at).newer;
    apart = apart;
    later = later;
  } where
    none_other : (n : ℕ) → is_own c n ≡ true → (tree_up_to k w).path n ≢ [] → ⊥
    none_other n own there = elim (g.from n there) [
      | inl one ↦ own_newer (suc k) n c at own one
      | inr s ↦ (let same : s.number ≡ suc k = h.own s.number (suc k) n s.conn c s.there at s.own own in let le = s.below in omega (arith, same))
    ]

    apart : (n : ℕ) → is_own c n ≡ true → (tree_up_to k w).path n ≡ []
    apart n own = by_path ((tree_up_to k w).path n) refl where
      by_path : (xs : List ℕ) → (tree_up_to k w).path n ≡ xs → (tree_up_to k w).path n ≡ []
      by_path [] is = is
      by_path (m ∷ xs) is = absurd (none_other n own (λ none. let e : (m ∷ xs) ≡ [] = sym is ∙ none in cc))

    later : (n : ℕ) → is_child (tree_up_to k w) w.common.root n ≡ true → n < c.conn
    later n child =
        let up = child_path (tree_up_to k w) g.formed w.common.root n ((tree_up_to k w).path n) refl child in
        elim (g.from n (λ none. let e : (n ∷ w.common.root ∷ up.0) ≡ [] = sym up.1 ∙ none in cc)) [
          | inl one ↦ (let lt = child_above (tree_up_to k w) g.formed w.common.root n child in absurd (omega (arith, one, lt)))
          | inr s ↦ (let same : n ≡ s.conn.conn = own_top s.number n s.conn up.0 s.there s.own (sym s.path ∙ up.1) in
              let rises : s.conn.conn < c.conn = h.rising s.number (suc k) s.conn c s.there at (omega (arith, s.below)) in omega (arith, same, rises))
        ]

  start_grown : TreeGrown 0
  unfolding tree_below planted is_live
  start_grown = record { formed = at_first; root = root; bare = refl; next = refl; from = λ n there. elim (either n) [ inl one ↦ inl one.0 | inr none ↦ absurd (there none.1) ] } where
    first : Pools Payload
    first = record (planted w.common.root) { next = w.common.pools }

    either : (n : ℕ) → ((n ≡ w.common.root) × (first.path n ≡ w.common.root ∷ [])) ⊎ ((n ≢ w.common.root) × (first.path n ≡ []))
    either n = upd_either {X = List ℕ} (λ k. []) w.common.root n (w.common.root ∷ [])

    root : first.path w.common.root ≡ w.common.root ∷ []
    root = elim (either w.common.root) [ inl at ↦ at.1 | inr off ↦ absurd (off.0 refl) ]

    -- what is there is the root
    only : (n m : ℕ) (above : List ℕ) → first.path n ≡ m ∷ above → (n ≡ w.common.root) × (m ≡ w.common.root) × (above ≡ [])
    only n m above is = elim (either n) [
      | inl at ↦ (let whole : (w.common.root ∷ []) ≡ (m ∷ above) = sym at.1 ∙ is in (at.0, cc, cc))
      | inr off ↦ absurd (let none : [] ≡ (m ∷ above) = sym off.1 ∙ is in cc)
    ]

    at_first : IsPoolMap first
    at_first = record {
      first = λ n m above is. (only n m above is).1 ∙ sym (only n m above is).0;
      rises = λ n m p above is. absurd (let none : (p ∷ above) ≡ [] = (only n m (p ∷ above) is).2 in cc);
      closed = λ n m p above is. absurd (let none : (p ∷ above) ≡ [] = (only n m (p ∷ above) is).2 in cc);
      alone = λ n m k l at_n at_m. (only n k [] at_n).0 ∙ sym (only m l [] at_m).0;
      named = λ n live. elim (either n) [
        | inl at ↦ (let one : n ≡ w.common.root = at.0 in let more : w.common.root < w.common.pools = sound.names.pools.0 in omega (arith, one, more))
        | inr off ↦ absurd (live_path first n live off.1)
      ];
      bare = λ n none. refl;
    }

  raised : (k n : ℕ) → StandsBelow k n → (tree_up_to (suc k) w).path n ≡ (tree_up_to k w).path n → StandsBelow (suc k) n
  raised k n s same = record { number = s.number; conn = s.conn; below = (let le = s.below in omega arith); there = s.there; own = s.own; path = same ∙ s.path }

  grows : (k : ℕ) (o : Option Connection) → w.conns (suc k) ≡ o → tree_up_to (suc k) w ≡ with_part o (tree_up_to k w) → TreeGrown k → TreeGrown (suc k)
  grows k None at is g = record {
    formed = subst IsPoolMap (sym is) g.formed;
    root = ap (λ (ps : Pools Payload). ps.path w.common.root) is ∙ g.root;
    bare = ap (λ (ps : Pools Payload). ps.payloads w.common.root) is ∙ g.bare;
    next = ap (λ (ps : Pools Payload). ps.next) is ∙ g.next;
    from = λ n there. (let same : (tree_up_to (suc k) w).path n ≡ (tree_up_to k w).path n = ap (λ (ps : Pools Payload). ps.path n) is in
        elim (g.from n (λ none. there (same ∙ none))) [ inl one ↦ inl one | inr s ↦ inr (raised k n s same) ]);
  }
  grows k (Some c) at is g = record {
    formed = subst IsPoolMap (sym is) (joined_formed w.common.root c (tree_up_to k w) (joins_next k c g at));
    root = ap (λ (ps : Pools Payload). ps.path w.common.root) is ∙ joined_root w.common.root c (tree_up_to k w) (joins_next k c g at);
    bare = ap (λ (ps : Pools Payload). ps.payloads w.common.root) is ∙ joined_bare w.common.root c (tree_up_to k w) (joins_next k c g at) ∙ g.bare;
    next = ap (λ (ps : Pools Payload). ps.next) is ∙ g.next;
    from = λ n there. (let same : (tree_up_to (suc k) w).path n ≡ (with_part (Some c) (tree_up_to k w)).path n = ap (λ (ps : Pools Payload). ps.path n) is in
        elim (joined_either w.common.root c (tree_up_to k w) (joins_next k c g at) n) [
          | inl own ↦ inr (record { number = suc k; conn = c; below = omega arith; there = at; own = own.0; path = same ∙ own.1 })
          | inr off ↦ (elim (g.from n (λ none. there (same ∙ off.1 ∙ none))) [ inl one ↦ inl one | inr s ↦ inr (raised k n s (same ∙ off.1)) ])
        ]);
  }

  pub grown : (k : ℕ) → TreeGrown k
  unfolding tree_below
  grown zero = start_grown
  grown (suc k) = grows k (w.conns (suc k)) refl refl (grown k)

  pub joins_each : (k : ℕ) (c : Connection) → w.conns (suc k) ≡ Some c → MayJoin w.common.root c (tree_up_to k w)
  joins_each k c at = joins_next k c (grown k) at

pub reached_parts_join : ReachedPartsJoin
reached_parts_join budget chain w k c chained r at =
    let laws = reached_holds budget chain w chained r in
    joins_each chain w laws.sound laws.paths (run_keeps_pools_apart budget chain r.events r.answers w chained r.run) k c at
