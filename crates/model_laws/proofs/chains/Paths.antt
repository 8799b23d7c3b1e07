-- The pools of a connection with a chain lie under its own.
use Rattle.run_model.specs.declared.effect.CleanupKind.TheVariants.{Plain, Pre}
use Rattle.std.proofs.Common.{◌≡◌, ◌⊎◌, ℕ, ◌<◌, ◌≤◌, true, not, ◌==◌, List, [], ◌∷◌, filter_map, Some, inl, inr, refl, sym, ◌∙◌, ap, subst, arith, eq-eqb}
use Rattle.module_code.specs.declared.instr.PoolRef.{PoolRef}
use Rattle.module_code.specs.declared.instr.PoolRef.TheVariants as pool
use Rattle.module_code.specs.declared.instr.Instr.{Instr}
use Rattle.module_code.specs.declared.instr.Instr.TheVariants as instr
use Rattle.module_code.specs.Program.{Program, pool_of_brigade, pool_of_pool}
use Rattle.run_model.specs.declared.payload.Payload.{Payload}
use Rattle.run_model.specs.Pools.{Pools, is_live, is_under, is_in, is_empty, planted, created, registered, registered_as}
use Rattle.run_model.specs.RunOrder.{killed}
use Rattle.run_model.specs.Clearing.{run_down}
use Rattle.run_model.specs.State.{Configuration, items_of, named_at, pool_named, set_pool, with_pools, set_brigade}
use Rattle.run_model.specs.Cursors.{at_cursor}
use Rattle.run_model.specs.BucketSteps.{aside_into}
use Rattle.run_model.specs.Steps.{Choice, step, current, label_registered, label_killed, text_of, saved_into, made_on, new_ref, pool_cleared, pool_destroyed}
use Rattle.run_model.specs.Sound.{SoundPools}
use Rattle.model_laws.specs.Laws.{MayExecute}
use Rattle.run_model.specs.Chains.{Frame, Connection, Common, Linked, module_at, configuration, pools_of}
use Rattle.run_model.specs.Passing.{Reads, proceeds}
use Rattle.run_model.specs.Turns.{all_called, fresh_connection, opened, begun, request_over}
use Rattle.model_laws.specs.ChainSound.{ChainPools, ChainSound}
use Rattle.model_laws.specs.ChainLaws.{MayProceed, Rises, after_top}
use Rattle.model_laws.specs.ChainPaths.{LieUnder, ChainPaths, WorldPaths}
use Rattle.model_laws.specs.KeptInRuns.{KeptInRuns}
use Rattle.run_model.proofs.Updates.{upd_either}
use Rattle.run_model.proofs.RunOrderLaws.{under_itself}
use Rattle.run_model.proofs.PoolMap.{live_path, cleared_path, destroyed_path}
use Rattle.model_laws.proofs.NamedPools.{on_named, made_under_named, own_named}
use Rattle.run_model.proofs.References.{or_left, or_right}
use Rattle.model_laws.proofs.MadeBrigades.{brigade_path}
use Rattle.model_laws.proofs.StepPools.{aside_path, wanted_pool, named_lives, referred_path}
use Rattle.model_laws.proofs.Unchanged.{step_changes_only}
use Rattle.model_laws.proofs.chains.PutBack.{looking}
use Rattle.model_laws.proofs.chains.TopSteps.{may_step}
use Rattle.model_laws.proofs.chains.EventTurns.{EventTurn, Stood, Went, Begun, Brought, FileTaken, Ended}
use Rattle.model_laws.proofs.chains.Proceeds.{proceeds_conn, proceeds_so}
use Rattle.model_laws.proofs.chains.WorldKept.{TurnsKeep, AnyLength, turns_in_runs}
use Rattle.model_laws.proofs.chains.Raised.{top_raises_names}

-- Pool maps.

-- each pool is where it was, or is gone
kept_under : (root conn : ℕ) (ps new : Pools Payload) → ((n : ℕ) → (new.path n ≡ []) ⊎ (new.path n ≡ ps.path n)) → LieUnder root conn ps → LieUnder root conn new
unfolding is_live is_under
kept_under root conn ps new stays h n live = elim (stays n) [
  | inl gone ↦ absurd (live_path new n live gone)
  | inr same ↦ elim (h n (ap (λ path. not (is_empty path)) (sym same) ∙ live)) [ inl one ↦ inl one | inr under ↦ inr (ap (is_in conn) same ∙ under) ]
]

same_under : (root conn : ℕ) (ps new : Pools Payload) → new.path ≡ ps.path → LieUnder root conn ps → LieUnder root conn new
same_under root conn ps new same h = kept_under root conn ps new (λ n. inr (ap (λ (path : ℕ → List ℕ). path n) same)) h

-- a pool is made under one that lies there
created_under : (root conn parent : ℕ) (ps : Pools Payload) → is_under ps conn parent ≡ true → LieUnder root conn ps → LieUnder root conn (created parent ps)
unfolding is_live is_under created
created_under root conn parent ps there h n live = elim (upd_either ps.path ps.next n (ps.next ∷ ps.path parent)) [
  | inl at ↦ inr (ap (is_in conn) at.1 ∙ or_right (ps.next == conn) (is_in conn (ps.path parent)) there)
  | inr off ↦ elim (h n (ap (λ path. not (is_empty path)) (sym off.1) ∙ live)) [ inl one ↦ inl one | inr under ↦ inr (ap (is_in conn) off.1 ∙ under) ]
]

-- Steps.

-- the pools that a call names are not older than its connection's
pub named_newer : (r : Configuration) (d : PoolRef) (m : ℕ) → SoundPools r → pool_named r d ≡ Some m → r.shared.conn ≤ m
unfolding named_at
named_newer r pool.Conn m s e = (let same : r.shared.conn ≡ m = cc in omega (arith, same))
named_newer r pool.Req m s e = (let there = (s.req m e).1 in omega arith)
named_newer r (pool.Own q) m s e = (let there = (s.own q m (own_named q m r e)).0 in omega arith)

-- what the instruction leaves of the pools
abbrev PathsStay : ℕ → Configuration → Configuration → Type 0
PathsStay root r s = LieUnder root r.shared.conn s.shared.pools

pub step_under : (root : ℕ) (p : Program) (choice : Choice) (i : Instr) (r : Configuration) → MayExecute p r i → SoundPools r → root < r.shared.conn → LieUnder root r.shared.conn r.shared.pools
    → PathsStay root r (step p choice i r).state
unfolding with_pools set_pool run_down registered_as killed set_brigade
step_under root p choice (instr.PCreate q) r may s newer h = made_under_named (PathsStay root r) p q r h (λ parent e.
    let older = named_newer r (pool_of_pool p q) parent s e in
    let live = named_lives r (pool_of_pool p q) parent (wanted_pool r (pool_of_pool p q) _ may.faultless) e in
    created_under root r.shared.conn parent r.shared.pools (elim (h parent live) [ inl one ↦ absurd (omega (arith, one)) | inr under ↦ under ]) h)
step_under root p choice (instr.PClear q) r may s newer h =
    on_named (PathsStay root r) pool_cleared (pool_named r (pool.Own q)) r h (λ n e. kept_under root r.shared.conn r.shared.pools _ (cleared_path n r.shared.pools) h)
step_under root p choice (instr.PDestroy q) r may s newer h =
    on_named (PathsStay root r) pool_destroyed (pool_named r (pool.Own q)) r h (λ n e. kept_under root r.shared.conn r.shared.pools _ (destroyed_path n r.shared.pools) h)
step_under root p choice (instr.Label q t) r may s newer h =
    on_named (PathsStay root r) (label_registered Plain (text_of p t)) (pool_named r q) r h (λ n e. same_under root r.shared.conn r.shared.pools _ refl h)
step_under root p choice (instr.PreLabel q t) r may s newer h =
    on_named (PathsStay root r) (label_registered Pre (text_of p t)) (pool_named r q) r h (λ n e. same_under root r.shared.conn r.shared.pools _ refl h)
step_under root p choice (instr.Unlabel q t) r may s newer h = on_named (PathsStay root r) (label_killed (text_of p t)) (pool_named r q) r h
    (λ n e. same_under root r.shared.conn r.shared.pools _ refl h)
step_under root p choice (instr.BCreate o) r may s newer h = same_under root r.shared.conn r.shared.pools _ (brigade_path (pool_named r (pool_of_brigade p o)) r.shared.next r.shared.pools) h
step_under root p choice (instr.BSave o b) r may s newer h = on_named (PathsStay root r) (saved_into o b) (made_on (r.instance.brigades o)) r h (λ target e.
    same_under root r.shared.conn r.shared.pools _ (referred_path target (filter_map (new_ref r.shared.pools target) (items_of (r.instance.brigades b))) r.shared.pools) h)
step_under root p choice (instr.Aside c q) r may s newer h =
    on_named (PathsStay root r) (aside_into (at_cursor r c)) (pool_named r q) r h (λ target e. same_under root r.shared.conn r.shared.pools _ (aside_path (at_cursor r c) target r) h)
step_under root p choice i r may s newer h = same_under root r.shared.conn r.shared.pools _ (ap (λ (ps : Pools Payload). ps.path) ((step_changes_only p choice i r).tree refl)) h

-- Connections.

-- newer, pools: as of the pools of a connection
record Under (g : Common) (c : Connection) : Type 0 where
  newer : g.root < c.conn
  pools : LieUnder g.root c.conn (pools_of g c)

-- a variable names a pool that is newer than the connection's
with_named : (chain : List Program) (g : Common) (c : Connection) → ChainPools chain g c → Under g c → ChainPaths g c
unfolding configuration
with_named chain g c s h = record {
  newer = h.newer;
  pools = h.pools;
  named = λ k q n at live.
      let own = ((s.sound (looking k)).own q n at).0 in
      let newer = h.newer in
      elim (h.pools n live) [ inl one ↦ absurd (omega (arith, one)) | inr under ↦ under ];
}

opened_under : (chain : List Program) (g : Common) → g.root < g.pools → Under (opened chain g).0 (opened chain g).1
unfolding opened all_called is_live is_under planted created
opened_under chain g newer = record { newer = newer; pools = λ n live. at_each n live } where
  at_each : (n : ℕ) → is_live (created g.root (pools_of g (fresh_connection g))) n ≡ true → (n ≡ g.root) ⊎ (is_under (created g.root (pools_of g (fresh_connection g))) g.pools n ≡ true)
  at_each n live = elim (upd_either (fresh_connection g).path g.pools n (g.pools ∷ (fresh_connection g).path g.root)) [
    | inl at ↦ inr (ap (is_in g.pools) at.1 ∙ or_left (g.pools == g.pools) _ (eq-eqb g.pools g.pools refl))
    | inr off ↦ elim (upd_either {X = List ℕ} (λ k. []) g.root n (g.root ∷ [])) [
      | inl one ↦ inl one.0
      | inr none ↦ absurd (live_path (created g.root (pools_of g (fresh_connection g))) n live (off.1 ∙ none.1))
    ]
  ]

begun_under : (chain : List Program) (g : Common) (c : Connection) → ChainPools chain g c → Under g c → Under (begun chain (g, c)).0 (begun chain (g, c)).1
unfolding begun all_called configuration
begun_under chain g c s h =
    let here = s.sound (looking 0) in
    let new = created_under g.root c.conn c.conn (pools_of g c) (under_itself (pools_of g c) here.formed c.conn here.conn) h.pools in
    record { newer = h.newer; pools = new }

over_under : (req : ℕ) (g : Common) (c : Connection) → Under g c → Under (request_over req (g, c)).0 (request_over req (g, c)).1
unfolding configuration run_down with_pools
over_under req g c h = record { newer = h.newer; pools = kept_under g.root c.conn (pools_of g c) _ (destroyed_path req (pools_of g c)) h.pools }

went_under : (chain : List Program) (reads : Reads) (f : Frame) (rest : List Frame) (g : Common) (c : Connection) → MayProceed chain g c f rest → ChainSound chain g c → Under g c
    → Under (after_top chain reads g c f rest).0 (after_top chain reads g c f rest).1
unfolding configuration
went_under chain reads f rest g c may s h =
    let i : Instr = current (module_at chain f.of) f.pc in
    let left : Linked = (proceeds chain reads i f rest (g, c)).1 in
    let conn : left.1.conn ≡ c.conn = proceeds_conn chain reads i f rest g c in
    let pools = proceeds_so (λ ps files next req. LieUnder g.root c.conn ps) chain reads i f rest g c
    (λ choice. step_under g.root (module_at chain f.of) choice i (configuration g c f) (may_step chain g c f rest may s) (s.pools.sound f) h.newer h.pools) h.pools in
    let same : left.0.root ≡ g.root = (top_raises_names chain reads g c f rest may s).root in
    record {
      newer = (let lt = h.newer in omega (arith, same, conn));
      pools = subst (λ (m : ℕ). LieUnder m left.1.conn (pools_of left.0 left.1)) (sym same) (subst (λ (k : ℕ). LieUnder g.root k (pools_of left.0 left.1)) (sym conn) pools);
    }

turn_under : (chain : List Program) (g : Common) (c : Connection) (v : Linked) → EventTurn chain AnyLength g c v → ChainSound chain g c → Under g c → Under v.0 v.1
unfolding is_live is_under registered_as
turn_under chain g c v (Stood out broken still) s h = record { newer = h.newer; pools = h.pools }
turn_under chain g c v (Went reads f rest whole may) s h = (let left = went_under chain reads f rest g c may s h in record { newer = left.newer; pools = left.pools })
turn_under chain g c v (Begun whole idle none pools next) s h = begun_under chain g c s.pools h
turn_under chain g c v (Brought pieces req whole idle is there next late) s h = record { newer = h.newer; pools = h.pools }
turn_under chain g c v (FileTaken req file bytes whole idle is short newer last) s h = record { newer = h.newer; pools = h.pools }
turn_under chain g c v (Ended req whole idle is) s h = over_under req g c h

-- others take names
risen_paths : (g new : Common) (c : Connection) → Rises g new → ChainPaths g c → ChainPaths new c
unfolding is_live is_under
risen_paths g new c rises h = record {
  newer = subst (λ (m : ℕ). m < c.conn) (sym rises.root) h.newer;
  pools = subst (λ (m : ℕ). LieUnder m c.conn (pools_of new c)) (sym rises.root) h.pools;
  named = h.named;
}

paths_kept : (chain : List Program) → TurnsKeep chain AnyLength ChainPaths
paths_kept chain = record {
  rising = λ g new c rises s h. risen_paths g new c rises h;
  opening = λ g has s. with_named chain (opened chain g).0 (opened chain g).1 s.pools (opened_under chain g has.pools.0);
  turns = λ g c v has t s new h. with_named chain v.0 v.1 new.pools (turn_under chain g c v t s (record { newer = h.newer; pools = h.pools }));
}

pub paths_in_runs : KeptInRuns WorldPaths
paths_in_runs = turns_in_runs ChainPaths paths_kept
