-- No pool is two connections', no variable names one of another connection, and the pool of a later connection is newer.
use Rattle.run_model.specs.declared.effect.CleanupKind.TheVariants.{Plain, Pre}
use Rattle.std.proofs.Common.{◌≡◌, ◌⊎◌, ℕ, ◌+◌, ◌<◌, ◌≤◌, ◌==◌, true, false, not, List, [], ◌∷◌, filter_map, Some, None, inl, inr, refl, sym, ◌∙◌, ap, subst, arith, eqb-true}
use Rattle.std.proofs.lemmas.Option.{same_Some}
use Rattle.std.proofs.lemmas.Bool.{or_cases}
use Rattle.module_code.specs.declared.instr.PoolRef.TheVariants as pool
use Rattle.module_code.specs.declared.instr.Instr.{Instr}
use Rattle.module_code.specs.declared.instr.Instr.TheVariants as instr
use Rattle.module_code.specs.Program.{Program, pool_of_brigade}
use Rattle.run_model.specs.declared.bucket.PoolVar.TheVariants as poolvar
use Rattle.run_model.specs.declared.payload.Payload.{Payload}
use Rattle.run_model.specs.Pools.{Pools, is_empty, is_in, is_live, planted, created, registered, registered_as, no_cleanups}
use Rattle.run_model.specs.RunOrder.{killed}
use Rattle.run_model.specs.Clearing.{run_down}
use Rattle.run_model.specs.State.{Configuration, items_of, pool_named, set_pool, with_pools, set_brigade}
use Rattle.run_model.specs.Cursors.{at_cursor}
use Rattle.run_model.specs.BucketSteps.{aside_into}
use Rattle.run_model.specs.Steps.{Choice, step, current, label_registered, label_killed, text_of, saved_into, made_on, new_ref, pool_cleared, pool_destroyed}
use Rattle.run_model.specs.Sound.{SoundPools}
use Rattle.run_model.specs.Chains.{Frame, Connection, Common, Linked, module_at, configuration, pools_of, IsChain}
use Rattle.run_model.specs.Passing.{Reads}
use Rattle.run_model.specs.Turns.{all_called, fresh_connection, opened, begun}
use Rattle.run_model.specs.Worlds.{World, put_conn}
use Rattle.model_laws.specs.ChainSound.{ChainSound, WorldSound}
use Rattle.model_laws.specs.ChainLaws.{Rises, after_top}
use Rattle.model_laws.specs.ChainNumbers.{WorldNumbers}
use Rattle.model_laws.specs.ChainTrees.{is_own, WorldPoolsApart, EventKeepsPoolsApart}
use Rattle.model_laws.specs.KeptInRuns.{RunKeeps}
use Rattle.run_model.proofs.Updates.{upd_either}
use Rattle.run_model.proofs.PoolMap.{live_path, created_at, cleared_path, destroyed_path}
use Rattle.model_laws.proofs.chains.EventCases.{stays_there, event_cases}
use Rattle.model_laws.proofs.chains.EachConnection.{made_turn}
use Rattle.model_laws.proofs.NamedPools.{on_named, made_under_named}
use Rattle.model_laws.proofs.MadeBrigades.{brigade_path}
use Rattle.model_laws.proofs.StepPools.{aside_path, referred_path}
use Rattle.model_laws.proofs.Unchanged.{step_changes_only}
use Rattle.model_laws.proofs.chains.PutBack.{looking}
use Rattle.model_laws.proofs.chains.EventTurns.{EventTurn, Stood, Went, Begun, Brought, FileTaken, Ended}
use Rattle.model_laws.proofs.chains.TurnsSound.{turn_sound, turn_rises}
use Rattle.model_laws.proofs.chains.Proceeds.{proceeds_conn, proceeds_so}
use Rattle.model_laws.proofs.chains.OwnNames.{turn_names}
use Rattle.model_laws.proofs.chains.BareRoot.{created_bare, turn_bare}
use Rattle.model_laws.proofs.chains.WorldKept.{beside_in_runs, AnyLength}
use Rattle.model_laws.proofs.chains.Numbers.{event_keeps_numbers, new_numbered_world}

-- What an instruction leaves of paths.

-- each pool is gone, or is where it was, or has a name that was not given out
From : Pools Payload → Pools Payload → Type 0
From old new = (n : ℕ) → (new.path n ≡ []) ⊎ ((new.path n ≡ old.path n) ⊎ ((old.next ≤ n) × (n < new.next)))

stays_from : (old new : Pools Payload) → ((n : ℕ) → (new.path n ≡ []) ⊎ (new.path n ≡ old.path n)) → From old new
unfolding From
stays_from old new stays n = elim (stays n) [ inl gone ↦ inl gone | inr same ↦ inr (inl same) ]

same_from : (old new : Pools Payload) → new.path ≡ old.path → From old new
unfolding From
same_from old new same n = inr (inl (ap (λ (path : ℕ → List ℕ). path n) same))

created_from : (parent : ℕ) (ps : Pools Payload) → From ps (created parent ps)
unfolding created From
created_from parent ps n = elim (upd_either ps.path ps.next n (ps.next ∷ ps.path parent)) [
  | inl at ↦ (let here : n ≡ ps.next = at.0 in inr (inr (omega (arith, here), omega (arith, here))))
  | inr off ↦ inr (inl off.1)
]

abbrev PoolsLeft : Configuration → Configuration → Type 0
PoolsLeft r s = From r.shared.pools s.shared.pools

step_from : (p : Program) (choice : Choice) (i : Instr) (r : Configuration) → PoolsLeft r (step p choice i r).state
unfolding with_pools set_pool run_down registered_as killed set_brigade
step_from p choice (instr.PCreate q) r = made_under_named (PoolsLeft r) p q r (same_from r.shared.pools r.shared.pools refl) (λ parent e. created_from parent r.shared.pools)
step_from p choice (instr.PClear q) r =
    on_named (PoolsLeft r) pool_cleared (pool_named r (pool.Own q)) r (same_from r.shared.pools r.shared.pools refl) (λ n e. stays_from r.shared.pools _ (cleared_path n r.shared.pools))
step_from p choice (instr.PDestroy q) r =
    on_named (PoolsLeft r) pool_destroyed (pool_named r (pool.Own q)) r (same_from r.shared.pools r.shared.pools refl) (λ n e. stays_from r.shared.pools _ (destroyed_path n r.shared.pools))
step_from p choice (instr.Label q t) r = on_named (PoolsLeft r) (label_registered Plain (text_of p t)) (pool_named r q) r (same_from r.shared.pools r.shared.pools refl)
    (λ n e. same_from r.shared.pools _ refl)
step_from p choice (instr.PreLabel q t) r = on_named (PoolsLeft r) (label_registered Pre (text_of p t)) (pool_named r q) r (same_from r.shared.pools r.shared.pools refl)
    (λ n e. same_from r.shared.pools _ refl)
step_from p choice (instr.Unlabel q t) r = on_named (PoolsLeft r) (label_killed (text_of p t)) (pool_named r q) r (same_from r.shared.pools r.shared.pools refl)
    (λ n e. same_from r.shared.pools _ refl)
step_from p choice (instr.BCreate o) r = same_from r.shared.pools _ (brigade_path (pool_named r (pool_of_brigade p o)) r.shared.next r.shared.pools)
step_from p choice (instr.BSave o b) r = on_named (PoolsLeft r) (saved_into o b) (made_on (r.instance.brigades o)) r (same_from r.shared.pools r.shared.pools refl) (λ target e.
    same_from r.shared.pools _ (referred_path target (filter_map (new_ref r.shared.pools target) (items_of (r.instance.brigades b))) r.shared.pools))
step_from p choice (instr.Aside c q) r =
    on_named (PoolsLeft r) (aside_into (at_cursor r c)) (pool_named r q) r (same_from r.shared.pools r.shared.pools refl) (λ target e. same_from r.shared.pools _ (aside_path (at_cursor r c) target r))
step_from p choice i r = same_from r.shared.pools _ (ap (λ (ps : Pools Payload). ps.path) ((step_changes_only p choice i r).tree refl))

-- Turns.

-- the connection's pool is the same
record TurnsFrom (g : Common) (c : Connection) (v : Linked) : Type 0 where
  conn : v.1.conn ≡ c.conn
  from : From (pools_of g c) (pools_of v.0 v.1)

unturned : (g : Common) (c : Connection) (v : Linked) → v.1.conn ≡ c.conn → v.1.path ≡ c.path → TurnsFrom g c v
unturned g c v conn path = record { conn = conn; from = same_from (pools_of g c) (pools_of v.0 v.1) path }

went_from : (chain : List Program) (reads : Reads) (f : Frame) (rest : List Frame) (g : Common) (c : Connection) → TurnsFrom g c (after_top chain reads g c f rest)
unfolding configuration
went_from chain reads f rest g c =
    let i : Instr = current (module_at chain f.of) f.pc in
    record {
      conn = proceeds_conn chain reads i f rest g c;
      from = proceeds_so (λ ps files next req. From (pools_of g c) ps) chain reads i f rest g c (λ choice. step_from (module_at chain f.of) choice i (configuration g c f))
          (same_from (pools_of g c) (pools_of g c) refl);
    }

turn_from : (chain : List Program) (g : Common) (c : Connection) (v : Linked) → EventTurn chain AnyLength g c v → TurnsFrom g c v
unfolding begun all_called configuration run_down with_pools registered_as
turn_from chain g c v (Stood out broken still) = unturned g c v refl refl
turn_from chain g c v (Went reads f rest whole may) = (let left = went_from chain reads f rest g c in record { conn = left.conn; from = left.from })
turn_from chain g c v (Begun whole idle none pools next) = record { conn = refl; from = created_from c.conn (pools_of g c) }
turn_from chain g c v (Brought pieces req whole idle is there next late) = unturned g c v refl refl
turn_from chain g c v (FileTaken req file bytes whole idle is short newer last) = unturned g c v refl refl
turn_from chain g c v (Ended req whole idle is) = record { conn = refl; from = stays_from (pools_of g c) _ (destroyed_path req (pools_of g c)) }

-- An own pool is there.

own_live : (g : Common) (c : Connection) (n : ℕ) → is_own c n ≡ true → is_live (pools_of g c) n ≡ true
unfolding is_live
own_live g c n own = by_path (c.path n) own where
  by_path : (xs : List ℕ) → is_in c.conn xs ≡ true → not (is_empty xs) ≡ true
  by_path [] inside = absurd (cc)
  by_path (m ∷ xs) inside = refl

sound_of : (chain : List Program) (g : Common) (c : Connection) → ChainSound chain g c → SoundPools (configuration g c (looking 0))
sound_of chain g c s = s.pools.sound (looking 0)

module _ (chain : List Program) (g : Common) (c : Connection) (s : ChainSound chain g c) where
  own_given : (n : ℕ) → is_own c n ≡ true → n < g.pools
  unfolding configuration
  own_given n own = (sound_of chain g c s).formed.named n (own_live g c n own)

  conn_there : (is_live (pools_of g c) c.conn ≡ true) × (c.conn < g.pools)
  unfolding configuration
  conn_there = (let there = (sound_of chain g c s).conn in (there, (sound_of chain g c s).formed.named c.conn there))

-- Worlds.

-- k's new connection: an own pool has a new name, or was its own before
record PutsNew (k : ℕ) (w : World) (v : Linked) : Type 0 where
  root : v.0.root ≡ w.common.root
  rises : w.common.pools ≤ v.0.pools
  top : v.1.path v.1.conn ≡ v.1.conn ∷ w.common.root ∷ []
  from : (n : ℕ) → is_own v.1 n ≡ true → ((w.common.pools ≤ n) × (n < v.0.pools)) ⊎ ((c : Connection) × (w.conns k ≡ Some c) × (is_own c n ≡ true))
  names : (i q n : ℕ) → (v.1.instances i).pools q ≡ poolvar.Made n → (w.common.pools ≤ n) ⊎ ((c : Connection) × (w.conns k ≡ Some c) × ((c.instances i).pools q ≡ poolvar.Made n))
  bare : v.1.payloads w.common.root ≡ no_cleanups
  earlier : (j : ℕ) (c : Connection) → w.conns j ≡ Some c → j < k → c.conn < v.1.conn
  later : (j : ℕ) (c : Connection) → w.conns j ≡ Some c → k < j → v.1.conn < c.conn

module _ (chain : List Program) (k : ℕ) (w : World) (v : Linked) (sound : WorldSound chain w) (new : PutsNew k w v) (h : WorldPoolsApart w) where
  given : (j n : ℕ) (c : Connection) → w.conns j ≡ Some c → is_own c n ≡ true → n < w.common.pools
  given j n c at own = own_given chain w.common c (sound.conns j c at) n own

  Comes : ℕ → ℕ → Type 0
  Comes j n = ((j ≡ k) × (w.common.pools ≤ n) × (n < v.0.pools)) ⊎ ((c : Connection) × (w.conns j ≡ Some c) × (is_own c n ≡ true))

  comes : (j n : ℕ) (x : Connection) → (put_conn k v w).conns j ≡ Some x → is_own x n ≡ true → Comes j n
  unfolding Comes
  comes j n x e own = elim (upd_either w.conns k j (Some v.1)) [
    | inl at ↦ (let same : v.1 ≡ x = same_Some v.1 x (sym at.1 ∙ e) in elim (new.from n (subst (λ (y : Connection). is_own y n ≡ true) (sym same) own)) [
      | inl fresh ↦ inl (at.0, fresh.0, fresh.1)
      | inr old ↦ inr (old.0, ap w.conns at.0 ∙ old.1, old.2)
    ])
    | inr off ↦ inr (x, sym off.1 ∙ e, own)
  ]

  both : (i j n : ℕ) → Comes i n → Comes j n → i ≡ j
  unfolding Comes
  both i j n (inl a) (inl b) = a.0 ∙ sym b.0
  both i j n (inl a) (inr b) = (let lt = given j n b.0 b.1 b.2 in let le = a.1 in absurd (omega arith))
  both i j n (inr a) (inl b) = (let lt = given i n a.0 a.1 a.2 in let le = b.1 in absurd (omega arith))
  both i j n (inr a) (inr b) = h.own i j n a.0 b.0 a.1 b.1 a.2 b.2

  -- where a name in a variable comes from

  named_given : (j i q n : ℕ) (c : Connection) → w.conns j ≡ Some c → (c.instances i).pools q ≡ poolvar.Made n → n < w.common.pools
  unfolding configuration
  named_given j i q n c at made = (((sound.conns j c at).pools.sound (looking i)).own q n made).1

  Named : ℕ → ℕ → ℕ → ℕ → Type 0
  Named j i q n = ((j ≡ k) × (w.common.pools ≤ n)) ⊎ ((c : Connection) × (w.conns j ≡ Some c) × ((c.instances i).pools q ≡ poolvar.Made n))

  names_come : (j i q n : ℕ) (x : Connection) → (put_conn k v w).conns j ≡ Some x → (x.instances i).pools q ≡ poolvar.Made n → Named j i q n
  unfolding Named
  names_come j i q n x e made = elim (upd_either w.conns k j (Some v.1)) [
    | inl at ↦ (let same : v.1 ≡ x = same_Some v.1 x (sym at.1 ∙ e) in elim (new.names i q n (subst (λ (y : Connection). (y.instances i).pools q ≡ poolvar.Made n) (sym same) made)) [
      | inl fresh ↦ inl (at.0, fresh)
      | inr old ↦ inr (old.0, ap w.conns at.0 ∙ old.1, old.2)
    ])
    | inr off ↦ inr (x, sym off.1 ∙ e, made)
  ]

  same_of : (l j i q n : ℕ) → Named l i q n → Comes j n → l ≡ j
  unfolding Named Comes
  same_of l j i q n (inl a) (inl b) = a.0 ∙ sym b.0
  same_of l j i q n (inl a) (inr b) = (let lt = given j n b.0 b.1 b.2 in let le = a.1 in absurd (omega arith))
  same_of l j i q n (inr a) (inl b) = (let lt = named_given l i q n a.0 a.1 a.2 in let le = b.1 in absurd (omega arith))
  same_of l j i q n (inr a) (inr b) = h.named l j i q n a.0 b.0 a.1 b.1 a.2 b.2

  -- it is the one that is put, or was there
  which : (j : ℕ) (x : Connection) → (put_conn k v w).conns j ≡ Some x → ((j ≡ k) × (v.1 ≡ x)) ⊎ (w.conns j ≡ Some x)
  which j x e = elim (upd_either w.conns k j (Some v.1)) [
    | inl at ↦ inl (at.0, same_Some v.1 x (sym at.1 ∙ e))
    | inr off ↦ inr (sym off.1 ∙ e)
  ]

  rises : (i j : ℕ) (x y : Connection) → ((i ≡ k) × (v.1 ≡ x)) ⊎ (w.conns i ≡ Some x) → ((j ≡ k) × (v.1 ≡ y)) ⊎ (w.conns j ≡ Some y) → i < j → x.conn < y.conn
  rises i j x y (inl a) (inl b) lt = (let at : i ≡ k = a.0 in let too : j ≡ k = b.0 in absurd (omega (arith, at, too)))
  rises i j x y (inl a) (inr b) lt = (let at : i ≡ k = a.0 in subst (λ (z : Connection). z.conn < y.conn) a.1 (new.later j y b (omega (arith, at))))
  rises i j x y (inr a) (inl b) lt = (let at : j ≡ k = b.0 in subst (λ (z : Connection). x.conn < z.conn) b.1 (new.earlier i x a (omega (arith, at))))
  rises i j x y (inr a) (inr b) lt = h.rising i j x y a b lt

  put_apart : WorldPoolsApart (put_conn k v w)
  put_apart = record {
    top = λ j x e. subst (λ (m : ℕ). x.path x.conn ≡ x.conn ∷ m ∷ []) (sym new.root) (elim (which j x e) [
      | inl at ↦ subst (λ (y : Connection). y.path y.conn ≡ y.conn ∷ w.common.root ∷ []) at.1 new.top
      | inr old ↦ h.top j x old
    ]);
    own = λ i j n x y at_i at_j own_x own_y. both i j n (comes i n x at_i own_x) (comes j n y at_j own_y);
    named = λ l j i q n x y at_l at_j made own_y. same_of l j i q n (names_come l i q n x at_l made) (comes j n y at_j own_y);
    bare = λ j x e. subst (λ (m : ℕ). x.payloads m ≡ no_cleanups) (sym new.root)
        (elim (which j x e) [ inl at ↦ subst (λ (y : Connection). y.payloads w.common.root ≡ no_cleanups) at.1 new.bare | inr old ↦ h.bare j x old ]);
    rising = λ i j x y at_i at_j lt. rises i j x y (which i x at_i) (which j y at_j) lt;
  }

module _ (chain : List Program) (chained : IsChain chain) (k : ℕ) (c : Connection) (w : World) (here : w.conns k ≡ Some c) (sound : WorldSound chain w) (h : WorldPoolsApart w) where
  turned_apart : (v : Linked) → EventTurn chain AnyLength w.common c v → WorldPoolsApart (put_conn k v w)
  unfolding From configuration
  turned_apart v t = put_apart chain k w v sound (record {
    root = rises.root;
    rises = rises.pools;
    top = at_top;
    from = from_own;
    names = named_from;
    bare = turn_bare w.common.root chain w.common c v t (sound.conns k c here) below_root (h.bare k c here);
    earlier = before;
    later = after;
  }) h where
    rises : Rises w.common v.0
    rises = turn_rises chain AnyLength w.common c v sound.names t (sound.conns k c here)

    turns : TurnsFrom w.common c v
    turns = turn_from chain w.common c v t

    left : ChainSound chain v.0 v.1
    left = turn_sound chain AnyLength w.common c v chained sound.names t (sound.conns k c here)

    from_own : (n : ℕ) → is_own v.1 n ≡ true → ((w.common.pools ≤ n) × (n < v.0.pools)) ⊎ ((x : Connection) × (w.conns k ≡ Some x) × (is_own x n ≡ true))
    from_own n own = elim (turns.from n) [
      | inl gone ↦ absurd (let none : is_in v.1.conn [] ≡ true = ap (is_in v.1.conn) (sym gone) ∙ own in cc)
      | inr stays ↦ (elim stays [
        | inl same ↦ inr (c, here, ap (λ (m : ℕ). is_in m (c.path n)) (sym turns.conn) ∙ ap (is_in v.1.conn) (sym same) ∙ own)
        | inr fresh ↦ inl fresh
      ])
    ]

    named_from : (i q n : ℕ) → (v.1.instances i).pools q ≡ poolvar.Made n → (w.common.pools ≤ n) ⊎ ((x : Connection) × (w.conns k ≡ Some x) × ((x.instances i).pools q ≡ poolvar.Made n))
    named_from i q n made = elim (turn_names chain w.common c v t i q n made) [ inl old ↦ inr (c, here, old) | inr fresh ↦ inl fresh ]

    below_root : w.common.root < c.conn
    below_root = (sound_of chain w.common c (sound.conns k c here)).formed.rises c.conn c.conn w.common.root [] (h.top k c here)

    at_top : v.1.path v.1.conn ≡ v.1.conn ∷ w.common.root ∷ []
    at_top = elim (turns.from v.1.conn) [
      | inl gone ↦ absurd (live_path (pools_of v.0 v.1) v.1.conn (conn_there chain v.0 v.1 left).0 gone)
      | inr stays ↦ (elim stays [
        | inl same ↦ same ∙ subst (λ (m : ℕ). c.path m ≡ m ∷ w.common.root ∷ []) (sym turns.conn) (h.top k c here)
        | inr fresh ↦ (let is : v.1.conn ≡ c.conn = turns.conn in let lt : c.conn < w.common.pools = (conn_there chain w.common c (sound.conns k c here)).1 in let le : w.common.pools ≤ v.1.conn =
            fresh.0 in absurd (omega (arith, is, lt, le)))
      ])
    ]

    before : (j : ℕ) (x : Connection) → w.conns j ≡ Some x → j < k → x.conn < v.1.conn
    before j x at lt = subst (λ (m : ℕ). x.conn < m) (sym turns.conn) (h.rising j k x c at here lt)

    after : (j : ℕ) (x : Connection) → w.conns j ≡ Some x → k < j → v.1.conn < x.conn
    after j x at lt = subst (λ (m : ℕ). m < x.conn) (sym turns.conn) (h.rising k j c x here at lt)

-- A connection is opened.
module _ (chain : List Program) (w : World) (sound : WorldSound chain w) (numbers : WorldNumbers w) (h : WorldPoolsApart w) where
  opened_path : (opened chain w.common).1.path ≡ (created w.common.root (pools_of w.common (fresh_connection w.common))).path
  unfolding opened all_called
  opened_path = refl

  opened_conn : (opened chain w.common).1.conn ≡ w.common.pools
  unfolding opened all_called
  opened_conn = refl

  opened_next : (opened chain w.common).0.pools ≡ w.common.pools + 1
  unfolding opened all_called created
  opened_next = refl

  root_fresh : (fresh_connection w.common).path w.common.root ≡ w.common.root ∷ []
  unfolding planted
  root_fresh = elim (upd_either {X = List ℕ} (λ k. []) w.common.root w.common.root (w.common.root ∷ [])) [ inl at ↦ at.1 | inr off ↦ absurd (off.0 refl) ]

  opened_top : (opened chain w.common).1.path (opened chain w.common).1.conn ≡ (opened chain w.common).1.conn ∷ w.common.root ∷ []
  opened_top = subst (λ (m : ℕ). (opened chain w.common).1.path m ≡ m ∷ w.common.root ∷ []) (sym opened_conn)
      (ap (λ (path : ℕ → List ℕ). path w.common.pools) opened_path ∙ created_at w.common.root (pools_of w.common (fresh_connection w.common)) ∙ ap (λ (xs : List ℕ). w.common.pools ∷ xs) root_fresh)

  only_one : is_in w.common.pools (w.common.root ∷ []) ≡ true → ⊥
  only_one there = elim (or_cases (w.common.root == w.common.pools) false there) [
    | inl e ↦
        (let same : w.common.root ≡ w.common.pools = eqb-true w.common.root w.common.pools e in let lt : w.common.root < w.common.pools =
        sound.names.pools.0 in omega (arith, same, lt))
    | inr never ↦ cc
  ]

  is_new : (n : ℕ) → is_in w.common.pools ((created w.common.root (pools_of w.common (fresh_connection w.common))).path n) ≡ true → n ≡ w.common.pools
  unfolding created planted
  is_new n inside = elim (upd_either (fresh_connection w.common).path w.common.pools n (w.common.pools ∷ (fresh_connection w.common).path w.common.root)) [
    | inl at ↦ at.0
    | inr off ↦ (elim (upd_either {X = List ℕ} (λ k. []) w.common.root n (w.common.root ∷ [])) [
      | inl one ↦ absurd (only_one (ap (is_in w.common.pools) (sym one.1 ∙ sym off.1) ∙ inside))
      | inr none ↦ absurd (let nothing : is_in w.common.pools [] ≡ true = ap (is_in w.common.pools) (sym none.1 ∙ sym off.1) ∙ inside in cc)
    ])
  ]

  -- its own pool is new
  opened_own : (n : ℕ) → is_own (opened chain w.common).1 n ≡ true → (w.common.pools ≤ n) × (n < (opened chain w.common).0.pools)
  opened_own n own =
      let next : (opened chain w.common).0.pools ≡ w.common.pools + 1 = opened_next in
      let there = subst (λ (m : ℕ). is_in m ((opened chain w.common).1.path n) ≡ true) opened_conn own in
      let at : n ≡ w.common.pools = is_new n (subst (λ (path : ℕ → List ℕ). is_in w.common.pools (path n) ≡ true) opened_path there) in
      (omega (arith, at), omega (arith, at, next))

  opened_names : (i q n : ℕ) → ((opened chain w.common).1.instances i).pools q ≡ poolvar.Made n → ⊥
  unfolding opened all_called
  opened_names i q n made = cc

  opened_root : (opened chain w.common).0.root ≡ w.common.root
  unfolding opened all_called
  opened_root = refl

  opened_bare : (opened chain w.common).1.payloads w.common.root ≡ no_cleanups
  unfolding opened all_called planted
  opened_bare = created_bare w.common.root w.common.root (pools_of w.common (fresh_connection w.common)) sound.names.pools.0 refl

  opens_apart : WorldPoolsApart (put_conn (w.last + 1) (opened chain w.common) (record w { last = w.last + 1 }))
  opens_apart = put_apart chain (w.last + 1) (record w { last = w.last + 1 }) (opened chain w.common) (record { names = sound.names; conns = sound.conns }) (record {
    root = opened_root;
    rises = (let next : (opened chain w.common).0.pools ≡ w.common.pools + 1 = opened_next in omega (arith, next));
    top = opened_top;
    from = λ n own. inl (opened_own n own);
    names = λ i q n made. absurd (opened_names i q n made);
    bare = opened_bare;
    earlier = λ j x at lt. (let is : (opened chain w.common).1.conn ≡ w.common.pools = opened_conn in
        let below : x.conn < w.common.pools = (conn_there chain w.common x (sound.conns j x at)).1 in omega (arith, is, below));
    later = λ j x at lt. absurd (let none : None ≡ Some x = sym (numbers.later j (omega (arith, lt))) ∙ at in cc);
  }) (record { top = h.top; own = h.own; named = h.named; bare = h.bare; rising = h.rising })

pub event_keeps_pools_apart : EventKeepsPoolsApart
event_keeps_pools_apart memory budget chain told k e w chained s numbers h = event_cases WorldPoolsApart memory budget chain told k w h e (record {
  made = λ c v at made. turned_apart chain chained k c w at s h v (made_turn memory budget chain told w.common c e v chained made);
  opening = λ last pools next. opens_apart chain w s numbers h;
  closing = λ c at. record {
    top = λ j x there. h.top j x (stays_there k w j x there);
    own = λ i j n x y at_i at_j own_x own_y. h.own i j n x y (stays_there k w i x at_i) (stays_there k w j y at_j) own_x own_y;
    named = λ l j i q n x y at_l at_j made own_y. h.named l j i q n x y (stays_there k w l x at_l) (stays_there k w j y at_j) made own_y;
    bare = λ j x there. h.bare j x (stays_there k w j x there);
    rising = λ i j x y at_i at_j lt. h.rising i j x y (stays_there k w i x at_i) (stays_there k w j y at_j) lt;
  };
})

pub run_keeps_pools_apart : RunKeeps WorldPoolsApart
run_keeps_pools_apart = beside_in_runs WorldNumbers WorldPoolsApart (λ memory budget chain told k e w chained s numbers. event_keeps_numbers memory budget chain told k e w numbers)
    event_keeps_pools_apart new_numbered_world (λ first. record {
      top = λ k c at. absurd (cc);
      own = λ j k n c d at. absurd (cc);
      named = λ j k i q n c d at. absurd (cc);
      bare = λ k c at. absurd (cc);
      rising = λ j k c d at. absurd (cc);
    })
