-- What an instruction does to pools lies under its connection's: the others stay, and what it makes stands there.
use Rattle.run_model.specs.declared.effect.CleanupKind.TheVariants.{Plain, Pre}
use Rattle.std.proofs.Common.{◌≡◌, ◌≢◌, ◌⊎◌, ℕ, ◌<◌, ◌≤◌, ◌==◌, true, false, not, List, [], ◌∷◌, filter_map, Option, Some, None, inl, inr, refl, sym, ◌∙◌, ap, subst, arith}
use Rattle.std.proofs.lemmas.Bool.{both_ways, false_from_ne_true}
use Rattle.module_code.specs.declared.instr.Instr.{Instr}
use Rattle.module_code.specs.declared.instr.Instr.TheVariants as instr
use Rattle.module_code.specs.declared.instr.PoolRef.TheVariants as pool
use Rattle.module_code.specs.Program.{Program, pool_of_brigade, pool_of_pool}
use Rattle.run_model.specs.declared.payload.Payload.{Payload}
use Rattle.run_model.specs.declared.payload.Payload.TheVariants.{Label, FileRef}
use Rattle.run_model.specs.declared.payload.Payload.TheVariants as payload
use Rattle.run_model.specs.Payloads.{is_label}
use Rattle.run_model.specs.Pools.{Pools, is_empty, is_in, is_live, is_under, cleared, created, destroyed, registered, registered_as, Cleanups, no_cleanups}
use Rattle.run_model.specs.RunOrder.{IsPoolMap, killed}
use Rattle.run_model.specs.Clearing.{run_down}
use Rattle.run_model.specs.State.{Configuration, items_of, pool_named, set_brigade, set_loose, set_pool, with_pools}
use Rattle.run_model.specs.Cursors.{CursorPlace, Nowhere, AtLoose, Within, AtEndOf, at_cursor}
use Rattle.run_model.specs.Effects.{all_referred, label_killed, label_registered, made_on, new_ref, pool_cleared, pool_destroyed, saved_into, text_of, with_brigade}
use Rattle.run_model.specs.BucketSteps.{aside_into}
use Rattle.run_model.specs.Steps.{Choice, step}
use Rattle.run_model.specs.Faults.{fault}
use Rattle.model_laws.specs.Parts.{HasPart, Change, Made, Registered, Killed, Cleared, Destroyed, changed}
use Rattle.model_laws.specs.PartSteps.{LiesIn}
use Rattle.run_model.proofs.PoolMap.{cleared_apart, cleared_next, cleared_path, created_kept, destroyed_apart, destroyed_next, destroyed_path, live_path}
use Rattle.run_model.proofs.References.{or_right}
use Rattle.run_model.proofs.Updates.{upd_either, upd_off}
use Rattle.model_laws.proofs.NamedPools.{made_is, made_under_named, on_named}
use Rattle.model_laws.proofs.StepPools.{referred_next, referred_path, wanted_pool}
use Rattle.model_laws.proofs.Unchanged.{step_changes_only}
use Rattle.model_laws.proofs.parts.Paths.{under_trans}
use Rattle.model_laws.proofs.parts.Steps.{second_want, wanted_under}

-- off: a pool that was given out and does not stand under c is as it was. inside: what stood there, or is new, stands there, where it is live.
pub record StaysWithin (c : ℕ) (ps new : Pools Payload) : Type 0 where
  pub rises : ps.next ≤ new.next
  pub off : (n : ℕ) → n < ps.next → is_under ps c n ≡ false → (new.path n ≡ ps.path n) × (new.payloads n ≡ ps.payloads n)
  pub inside : (n : ℕ) → (is_under ps c n ≡ true) ⊎ (ps.next ≤ n) → is_live new n ≡ true → is_under new c n ≡ true

-- where each pool is where it was, or is gone
fewer : (c : ℕ) (ps new : Pools Payload) → IsPoolMap ps → new.next ≡ ps.next → ((n : ℕ) → (new.path n ≡ []) ⊎ (new.path n ≡ ps.path n))
    → ((n : ℕ) → is_under ps c n ≡ false → (new.path n ≡ ps.path n) × (new.payloads n ≡ ps.payloads n)) → StaysWithin c ps new
unfolding is_under is_live
fewer c ps new formed next stays off = record {
  rises = omega (arith, next);
  off = λ n lt apart. off n apart;
  inside = λ n old live. elim (stays n) [
    | inl gone ↦ absurd (live_path new n live gone)
    | inr same ↦ elim old [
      | inl under ↦ ap (is_in c) same ∙ under
      | inr fresh ↦ absurd (let given : n < ps.next = formed.named n (ap (λ (path : List ℕ). not (is_empty path)) (sym same) ∙ live) in omega arith)
    ]
  ];
}

-- where only payloads of a pool under c change
refilled : (c p : ℕ) (ps new : Pools Payload) → IsPoolMap ps → is_under ps c p ≡ true → new.next ≡ ps.next → new.path ≡ ps.path → ((n : ℕ) → n ≢ p → new.payloads n ≡ ps.payloads n)
    → StaysWithin c ps new
refilled c p ps new formed under next paths rest =
    fewer c ps new formed next (λ n. inr (at n)) (λ n apart. (at n, rest n (λ same. both_ways (is_under ps c n) apart (ap (is_under ps c) same ∙ under)))) where
      at : (n : ℕ) → new.path n ≡ ps.path n
      at n = ap (λ (path : ℕ → List ℕ). path n) paths

-- no pool under p, where it is not under c
not_reached : (c p n : ℕ) (ps : Pools Payload) → IsPoolMap ps → is_under ps c p ≡ true → is_under ps c n ≡ false → is_under ps p n ≡ false
not_reached c p n ps formed under apart = false_from_ne_true (is_under ps p n) (λ up. both_ways (is_under ps c n) apart (under_trans ps formed c p n under up))

made_within : (c p : ℕ) (ps : Pools Payload) → IsPoolMap ps → is_under ps c p ≡ true → StaysWithin c ps (created p ps)
unfolding is_under is_live created
made_within c p ps formed under = record {
  rises = omega arith;
  off = λ n lt apart. (created_kept p ps n lt, upd_off ps.payloads ps.next n no_cleanups (λ same. absurd (omega (arith, same))));
  inside = λ n old live. elim (upd_either ps.path ps.next n (ps.next ∷ ps.path p)) [
    | inl at ↦ ap (is_in c) at.1 ∙ or_right (ps.next == c) (is_in c (ps.path p)) under
    | inr off ↦ elim old [
      | inl there ↦ ap (is_in c) off.1 ∙ there
      | inr fresh ↦ absurd (let given : n < ps.next = formed.named n (ap (λ (path : List ℕ). not (is_empty path)) (sym off.1) ∙ live) in omega arith)
    ]
  ];
}

pub changes_within : (change : Change) (c p : ℕ) (ps : Pools Payload) → HasPart ps c → is_under ps c p ≡ true → StaysWithin c ps (changed change p ps)
unfolding registered_as killed
changes_within Made c p ps h under = made_within c p ps h.formed under
changes_within (Registered how x) c p ps h under = refilled c p ps (registered_as how p x ps) h.formed under refl refl (λ n ne. upd_off ps.payloads p n _ ne)
changes_within (Killed test) c p ps h under = refilled c p ps (killed p test ps) h.formed under refl refl (λ n ne. upd_off ps.payloads p n _ ne)
changes_within Cleared c p ps h under = fewer c ps (cleared p ps) h.formed (cleared_next p ps) (cleared_path p ps) (λ n apart. cleared_apart p ps n (not_reached c p n ps h.formed under apart))
changes_within Destroyed c p ps h under =
    fewer c ps (destroyed p ps) h.formed (destroyed_next p ps) (destroyed_path p ps) (λ n apart. destroyed_apart p ps n (not_reached c p n ps h.formed under apart))

pub same_within : (c : ℕ) (ps new : Pools Payload) → HasPart ps c → new.next ≡ ps.next → new.path ≡ ps.path → new.payloads ≡ ps.payloads → StaysWithin c ps new
same_within c ps new h next paths payloads =
    fewer c ps new h.formed next (λ n. inr (ap (λ (path : ℕ → List ℕ). path n) paths)) (λ n apart. (ap (λ (path : ℕ → List ℕ). path n) paths, ap (λ (xs : ℕ → Cleanups Payload). xs n) payloads))

referred_off : (target : ℕ) (files : List ℕ) (ps : Pools Payload) (n : ℕ) → n ≢ target → (all_referred target files ps).payloads n ≡ ps.payloads n
unfolding all_referred registered_as
referred_off target [] ps n ne = refl
referred_off target (file ∷ files) ps n ne = referred_off target files (registered target (FileRef file) ps) n ne ∙ upd_off ps.payloads target n _ ne

-- Steps.

abbrev WithinStays : ℕ → Configuration → Configuration → Type 0
WithinStays c r s = StaysWithin c r.shared.pools s.shared.pools

module _ (c : ℕ) (p : Program) (r : Configuration) (s : LiesIn c r) where
  itself : WithinStays c r r
  itself = same_within c r.shared.pools r.shared.pools s.has refl refl refl

  refers : (target : ℕ) (files : List ℕ) → is_under r.shared.pools c target ≡ true → StaysWithin c r.shared.pools (all_referred target files r.shared.pools)
  refers target files under = refilled c target r.shared.pools (all_referred target files r.shared.pools) s.has.formed under (referred_next target files r.shared.pools)
      (referred_path target files r.shared.pools) (referred_off target files r.shared.pools)

  aside_within : (at : CursorPlace) (target : ℕ) → is_under r.shared.pools c target ≡ true → WithinStays c r (aside_into at target r)
  unfolding set_brigade set_loose with_pools
  aside_within (Within b x) target under = refers target (filter_map (new_ref r.shared.pools target) (x ∷ [])) under
  aside_within (AtLoose x) target under = refers target (filter_map (new_ref r.shared.pools target) (x ∷ [])) under
  aside_within Nowhere target under = itself
  aside_within (AtEndOf b) target under = itself

  with_brigade_within : (on : Option ℕ) (name : ℕ) → ((n : ℕ) → on ≡ Some n → is_under r.shared.pools c n ≡ true) → StaysWithin c r.shared.pools (with_brigade on name r.shared.pools)
  unfolding with_brigade
  with_brigade_within None name under = itself
  with_brigade_within (Some n) name under = changes_within (Registered Plain (payload.Brigade name)) c n r.shared.pools s.has (under n refl)

  pub step_within : (choice : Choice) (i : Instr) → fault p r i ≡ None → WithinStays c r (step p choice i r).state
  unfolding set_brigade set_pool with_pools run_down
  step_within choice (instr.PCreate q) none = made_under_named (WithinStays c r) p q r itself
      (λ parent is. changes_within Made c parent r.shared.pools s.has (wanted_under c p r s (pool_of_pool p q) (wanted_pool r (pool_of_pool p q) _ none) parent is))
  step_within choice (instr.PClear q) none =
      on_named (WithinStays c r) pool_cleared (pool_named r (pool.Own q)) r itself
      (λ n is. changes_within Cleared c n r.shared.pools s.has (wanted_under c p r s (pool.Own q) (wanted_pool r (pool.Own q) None none) n is))
  step_within choice (instr.PDestroy q) none =
      on_named (WithinStays c r) pool_destroyed (pool_named r (pool.Own q)) r itself
      (λ n is. changes_within Destroyed c n r.shared.pools s.has (wanted_under c p r s (pool.Own q) (wanted_pool r (pool.Own q) None none) n is))
  step_within choice (instr.Label q t) none =
      on_named (WithinStays c r) (label_registered Plain (text_of p t)) (pool_named r q) r itself
      (λ n is. changes_within (Registered Plain (Label (text_of p t))) c n r.shared.pools s.has (wanted_under c p r s q (wanted_pool r q None none) n is))
  step_within choice (instr.PreLabel q t) none =
      on_named (WithinStays c r) (label_registered Pre (text_of p t)) (pool_named r q) r itself
      (λ n is. changes_within (Registered Pre (Label (text_of p t))) c n r.shared.pools s.has (wanted_under c p r s q (wanted_pool r q None none) n is))
  step_within choice (instr.Unlabel q t) none =
      on_named (WithinStays c r) (label_killed (text_of p t)) (pool_named r q) r itself
      (λ n is. changes_within (Killed (is_label (text_of p t))) c n r.shared.pools s.has (wanted_under c p r s q (wanted_pool r q None none) n is))
  step_within choice (instr.BCreate o) none =
      with_brigade_within (pool_named r (pool_of_brigade p o)) r.shared.next (λ n is. wanted_under c p r s (pool_of_brigade p o) (wanted_pool r (pool_of_brigade p o) _ none) n is)
  step_within choice (instr.BSave o b) none = on_named (WithinStays c r) (saved_into o b) (made_on (r.instance.brigades o)) r itself (λ n is.
      refers n (filter_map (new_ref r.shared.pools n) (items_of (r.instance.brigades b))) (s.brigades o n (sym (made_is (r.instance.brigades o)) ∙ is)))
  step_within choice (instr.Aside at q) none =
      on_named (WithinStays c r) (aside_into (at_cursor r at)) (pool_named r q) r itself
      (λ n is. aside_within (at_cursor r at) n (wanted_under c p r s q (wanted_pool r q _ (second_want _ _ none)) n is))
  step_within choice i none = subst (λ (new : Pools Payload). StaysWithin c r.shared.pools new) (sym ((step_changes_only p choice i r).tree refl)) itself
