-- Nothing is registered on the root.
use Rattle.run_model.specs.declared.effect.CleanupKind.{CleanupKind}
use Rattle.run_model.specs.declared.effect.CleanupKind.TheVariants.{Plain, Pre}
use Rattle.std.proofs.Common.{subst, ◌≡◌, ℕ, ◌<◌, ◌≤◌, Bool, List, [], ◌∷◌, filter_map, Option, Some, None, inl, inr, refl, sym, ◌∙◌, ap, arith}
use Rattle.std.proofs.lemmas.Bool.Decides.{eqb_tells}
use Rattle.module_code.specs.declared.instr.Instr.{Instr}
use Rattle.module_code.specs.declared.instr.Instr.TheVariants as instr
use Rattle.module_code.specs.declared.instr.PoolRef.{PoolRef}
use Rattle.module_code.specs.Program.{Program, pool_of_brigade}
use Rattle.run_model.specs.declared.payload.Payload.{Payload}
use Rattle.run_model.specs.declared.payload.Payload.TheVariants.{FileRef}
use Rattle.run_model.specs.Pools.{Pools, is_under, created, destroyed, registered, registered_as, no_cleanups}
use Rattle.run_model.specs.RunOrder.{killed}
use Rattle.run_model.specs.Clearing.{run_down}
use Rattle.run_model.specs.Cursors.{CursorPlace, at_cursor}
use Rattle.run_model.specs.Effects.{all_referred, label_killed, label_registered, made_on, new_ref, saved_into, text_of, with_brigade}
use Rattle.run_model.specs.BucketSteps.{aside_into}
use Rattle.run_model.specs.Sound.{SoundPools}
use Rattle.run_model.specs.State.{Configuration, items_of, pool_named, set_brigade, set_pool, with_pools}
use Rattle.run_model.specs.Steps.{Choice, current, step}
use Rattle.run_model.specs.Chains.{Frame, Connection, Common, Linked, configuration, module_at, pools_of}
use Rattle.run_model.specs.Passing.{Reads}
use Rattle.run_model.specs.Turns.{all_called, begun}
use Rattle.model_laws.specs.AsDeclared.{AsDeclared}
use Rattle.model_laws.specs.ChainSound.{ChainSound}
use Rattle.model_laws.specs.ChainLaws.{after_top}
use Rattle.run_model.proofs.Updates.{upd_off}
use Rattle.std.proofs.lemmas.Bool.{cases_Bool}
use Rattle.run_model.proofs.References.{Emptied, destroyed_emptied}
use Rattle.model_laws.proofs.StepPools.{aside_pools}
use Rattle.run_model.specs.declared.effect.ClearKind.TheVariants.{Clear, Destroy}
use Rattle.model_laws.proofs.PoolsGone.{on_emptied}
use Rattle.model_laws.proofs.NamedPools.{conn_given, live_pool, made_is, made_under_named, not_both, on_named}
use Rattle.model_laws.proofs.Unchanged.{step_changes_only}
use Rattle.model_laws.proofs.chains.EventTurns.{EventTurn, Stood, Went, Begun, Brought, FileTaken, Ended}
use Rattle.model_laws.proofs.chains.Paths.{named_newer}
use Rattle.model_laws.proofs.chains.Proceeds.{proceeds_so}
use Rattle.model_laws.proofs.chains.PutBack.{looking}
use Rattle.model_laws.proofs.chains.WorldKept.{AnyLength}

-- A brigade lies on no older pool than its connection's.
pub brigade_newer : (p : Program) (r : Configuration) → SoundPools r → AsDeclared p r → (b n : ℕ) → made_on (r.instance.brigades b) ≡ Some n → r.shared.conn ≤ n
brigade_newer p r s d b n is =
    let held = live_pool (r.instance.brigades b) n (sym (made_is (r.instance.brigades b)) ∙ is) in
    elim (eqb_tells b 8) [
      | inl came ↦ absurd (not_both held.0.on n (d.incoming held.0 (ap r.instance.brigades (sym came.1) ∙ held.1)) held.2)
      | inr own ↦ named_newer r (pool_of_brigade p b) n s (sym (d.brigades b held.0 own.1 held.1).0 ∙ held.2)
    ]

-- Pool maps.

module _ (root : ℕ) where
  abbrev pub IsBare : Pools Payload → Type 0
  IsBare ps = ps.payloads root ≡ no_cleanups

  pub created_bare : (parent : ℕ) (ps : Pools Payload) → root < ps.next → IsBare ps → IsBare (created parent ps)
  unfolding created
  created_bare parent ps newer bare = upd_off ps.payloads ps.next root no_cleanups (λ same. absurd (omega (arith, same))) ∙ bare

  registered_bare : (how : CleanupKind) (p : ℕ) (x : Payload) (ps : Pools Payload) → root < p → IsBare ps → IsBare (registered_as how p x ps)
  unfolding registered_as
  registered_bare how p x ps newer bare = upd_off ps.payloads p root _ (λ same. absurd (omega (arith, same))) ∙ bare

  killed_bare : (p : ℕ) (test : Payload → Bool) (ps : Pools Payload) → root < p → IsBare ps → IsBare (killed p test ps)
  unfolding killed
  killed_bare p test ps newer bare = upd_off ps.payloads p root _ (λ same. absurd (omega (arith, same))) ∙ bare

  emptied_bare : (p : ℕ) (ps left : Pools Payload) → Emptied p ps left → IsBare ps → IsBare left
  emptied_bare p ps left e bare = elim (cases_Bool (is_under ps p root)) [ inl under ↦ e.gone root under | inr off ↦ e.kept root off ∙ bare ]

  referred_bare : (target : ℕ) (files : List ℕ) (ps : Pools Payload) → root < target → IsBare ps → IsBare (all_referred target files ps)
  unfolding all_referred
  referred_bare target [] ps newer bare = bare
  referred_bare target (file ∷ files) ps newer bare = referred_bare target files (registered target (FileRef file) ps) newer (registered_bare Plain target (FileRef file) ps newer bare)

  -- Steps.

  abbrev Bares : Configuration → Type 0
  Bares r = IsBare r.shared.pools

  with_brigade_bare : (on : Option ℕ) (name : ℕ) (ps : Pools Payload) → ((n : ℕ) → on ≡ Some n → root < n) → IsBare ps → IsBare (with_brigade on name ps)
  unfolding with_brigade
  with_brigade_bare None name ps newer bare = bare
  with_brigade_bare (Some n) name ps newer bare = registered_bare Plain n _ ps (newer n refl) bare

  aside_bare : (s : CursorPlace) (target : ℕ) (r : Configuration) → root < target → Bares r → Bares (aside_into s target r)
  aside_bare s target r newer bare = (let left = aside_pools s target r in subst IsBare (sym left.1) (referred_bare target left.0 r.shared.pools newer bare))

  module _ (p : Program) (r : Configuration) (s : SoundPools r) (d : AsDeclared p r) (newer : root < r.shared.conn) where
    named_after : (o : PoolRef) (n : ℕ) → pool_named r o ≡ Some n → root < n
    named_after o n is = (let le = named_newer r o n s is in omega arith)

    pub step_bare : (choice : Choice) (i : Instr) → Bares r → Bares (step p choice i r).state
    unfolding with_pools set_pool run_down set_brigade
    step_bare choice (instr.PCreate q) bare = made_under_named Bares p q r bare (λ parent is. created_bare parent r.shared.pools (let lt = conn_given r s in omega arith) bare)
    step_bare choice (instr.PClear q) bare = on_emptied Bares Clear q r bare (λ n left is so. emptied_bare n r.shared.pools left so.payloads bare)
    step_bare choice (instr.PDestroy q) bare = on_emptied Bares Destroy q r bare (λ n left is so. emptied_bare n r.shared.pools left so.payloads bare)
    step_bare choice (instr.Label q t) bare = on_named Bares (label_registered Plain (text_of p t)) (pool_named r q) r bare (λ n is. registered_bare Plain n _ r.shared.pools (named_after q n is) bare)
    step_bare choice (instr.PreLabel q t) bare = on_named Bares (label_registered Pre (text_of p t)) (pool_named r q) r bare (λ n is. registered_bare Pre n _ r.shared.pools (named_after q n is) bare)
    step_bare choice (instr.Unlabel q t) bare = on_named Bares (label_killed (text_of p t)) (pool_named r q) r bare (λ n is. killed_bare n _ r.shared.pools (named_after q n is) bare)
    step_bare choice (instr.BCreate o) bare = with_brigade_bare (pool_named r (pool_of_brigade p o)) r.shared.next r.shared.pools (λ n is. named_after (pool_of_brigade p o) n is) bare
    step_bare choice (instr.BSave o b) bare = on_named Bares (saved_into o b) (made_on (r.instance.brigades o)) r bare (λ n is.
        referred_bare n (filter_map (new_ref r.shared.pools n) (items_of (r.instance.brigades b))) r.shared.pools (let le = brigade_newer p r s d o n is in omega arith) bare)
    step_bare choice (instr.Aside c q) bare = on_named Bares (aside_into (at_cursor r c)) (pool_named r q) r bare (λ n is. aside_bare (at_cursor r c) n r (named_after q n is) bare)
    step_bare choice i bare = ap (λ (ps : Pools Payload). ps.payloads root) ((step_changes_only p choice i r).tree refl) ∙ bare

  -- Events.

  went_bare : (chain : List Program) (reads : Reads) (f : Frame) (rest : List Frame) (g : Common) (c : Connection) → ChainSound chain g c → root < c.conn → IsBare (pools_of g c)
      → IsBare (pools_of (after_top chain reads g c f rest).0 (after_top chain reads g c f rest).1)
  unfolding configuration
  went_bare chain reads f rest g c s newer bare =
      let i : Instr = current (module_at chain f.of) f.pc in
      proceeds_so (λ ps files next req. IsBare ps) chain reads i f rest g c
      (λ choice. step_bare (module_at chain f.of) (configuration g c f) (s.pools.sound f) (s.pools.declared f) newer choice i bare) bare

  pub turn_bare : (chain : List Program) (g : Common) (c : Connection) (v : Linked) → EventTurn chain AnyLength g c v → ChainSound chain g c → root < c.conn → c.payloads root ≡ no_cleanups
      → v.1.payloads root ≡ no_cleanups
  unfolding begun all_called configuration run_down with_pools
  turn_bare chain g c v (Stood out broken still) s newer bare = bare
  turn_bare chain g c v (Went reads f rest whole may) s newer bare = went_bare chain reads f rest g c s newer bare
  turn_bare chain g c v (Begun whole idle none pools next) s newer bare =
      created_bare c.conn (pools_of g c) (let lt = conn_given (configuration g c (looking 0)) (s.pools.sound (looking 0)) in omega arith) bare
  turn_bare chain g c v (Brought pieces req whole idle is there next late) s newer bare = bare
  turn_bare chain g c v (FileTaken req file bytes whole idle is short newest last) s newer bare =
      registered_bare Plain req (FileRef file) (pools_of g c) (let lt = ((s.pools.sound (looking 0)).req req is).1 in omega arith) bare
  turn_bare chain g c v (Ended req whole idle is) s newer bare = emptied_bare req (pools_of g c) (destroyed req (pools_of g c)) (destroyed_emptied req (pools_of g c)) bare
