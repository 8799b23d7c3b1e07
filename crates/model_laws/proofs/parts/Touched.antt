-- Brigades of other instances and pools of other connections, after a step that has no fault.
use Rattle.run_model.specs.declared.effect.CleanupKind.{CleanupKind}
use Rattle.run_model.specs.declared.effect.CleanupKind.TheVariants.{Plain, Pre}
use Rattle.std.proofs.Common.{◌≡◌, ℕ, Bool, true, false, cond, List, map, filter_map, Option, Some, None, refl, sym, ◌∙◌, ap, subst}
use Rattle.module_code.specs.declared.instr.Instr.TheVariants as instr
use Rattle.module_code.specs.declared.instr.PoolRef.TheVariants as pool
use Rattle.module_code.specs.Program.{pool_of_brigade}
use Rattle.run_model.specs.declared.bucket.BrigadeVar.{BrigadeVar}
use Rattle.run_model.specs.declared.bucket.BrigadeVar.TheVariants as var
use Rattle.run_model.specs.declared.bucket.PoolVar.TheVariants as poolvar
use Rattle.run_model.specs.declared.payload.Payload.{Payload}
use Rattle.run_model.specs.declared.payload.Payload.TheVariants.{Label}
use Rattle.run_model.specs.Payloads.{is_label}
use Rattle.run_model.specs.Pools.{Pools, is_in, is_under, created, registered, registered_as}
use Rattle.run_model.specs.RunOrder.{killed}
use Rattle.run_model.specs.Buckets.{cleared_bucket}
use Rattle.run_model.specs.Clearing.{is_reached, cleared_var}
use Rattle.run_model.specs.State.{Configuration, items_of, pool_named, set_brigade, set_pool, with_pools}
use Rattle.run_model.specs.Cursors.{CursorPlace, at_cursor}
use Rattle.run_model.specs.Effects.{on_pool, new_ref, with_brigade, saved_into, made_on, returned_var, pool_cleared, pool_destroyed, label_registered, label_killed, text_of}
use Rattle.run_model.specs.BucketSteps.{aside_into}
use Rattle.run_model.specs.Steps.{step}
use Rattle.run_model.specs.Sound.{brigade_pool}
use Rattle.run_model.specs.Chains.{is_under_named}
use Rattle.model_laws.specs.Parts.{part}
use Rattle.model_laws.specs.PartSteps.{LiesIn}
use Rattle.model_laws.specs.PartsLast.{LiesUnder, TouchedLies, OthersLie}
use Rattle.run_model.proofs.PoolMap.{created_kept}
use Rattle.model_laws.proofs.BrigadePools.{pool_kept, returned_on}
use Rattle.model_laws.proofs.PoolsGone.{Emptying, cleared_so, destroyed_so}
use Rattle.model_laws.proofs.MadeBrigades.{brigade_path}
use Rattle.model_laws.proofs.NamedPools.{on_named, made_under_named}
use Rattle.model_laws.proofs.StepPools.{aside_path, referred_path}
use Rattle.model_laws.proofs.parts.Paths.{under_belongs, under_live, part_path}
use Rattle.model_laws.proofs.parts.Lasting.{same_under, killed_path}
use Rattle.model_laws.proofs.parts.Steps.{registered_path}
use Rattle.model_laws.proofs.parts.Joined.{through}
use Rattle.model_laws.proofs.parts.Spared.{steps_spare, quiet_pools}
use Rattle.model_laws.proofs.parts.Quiet.{quiet_alike}

-- Other connections.

under_alike_parts : (d n : ℕ) (ps new : Pools Payload) → (part d new).path n ≡ (part d ps).path n → is_under ps d n ≡ true → is_under new d n ≡ true
unfolding is_under
under_alike_parts d n ps new same under =
    let inside : is_in d ((part d new).path n) ≡ true = ap (is_in d) (same ∙ part_path ps d n (under_belongs ps d n under)) ∙ under in
    ap (is_in d) (sym (part_path new d n (through new d n inside))) ∙ inside

pub others_lie : OthersLie
others_lie c d p choice i r n s other ne none under =
    under_alike_parts d n r.shared.pools (step p choice i r).state.shared.pools (ap (λ (ps : Pools Payload). ps.path n) (steps_spare c d p choice i r s other ne none)) under

-- Other instances.

-- a brigade that stays is on a pool that is not reached
stays_on : (reached : ℕ → Bool) (v : BrigadeVar) (m : ℕ) → brigade_pool (cleared_var reached v) ≡ Some m → (brigade_pool v ≡ Some m) × (reached m ≡ false)
stays_on reached var.Null m is = absurd (cc)
stays_on reached var.Gone m is = absurd (cc)
stays_on reached (var.Live v) m is = by_test (is_reached reached v.on) refl is where
  on_it : (on : Option ℕ) → is_reached reached on ≡ false → on ≡ Some m → reached m ≡ false
  on_it None off at = absurd (cc)
  on_it (Some k) off at = (let same : k ≡ m = cc in ap reached (sym same) ∙ off)

  by_test : (t : Bool) → is_reached reached v.on ≡ t → brigade_pool (cond t var.Gone (var.Live (record v { items = map (cleared_bucket reached) v.items }))) ≡ Some m → (v.on ≡ Some m)
      × (reached m ≡ false)
  by_test true off is = absurd (cc)
  by_test false off is = (is, on_it v.on off is)

module _ (c : ℕ) (r : Configuration) (s : LiesIn c r) (v : BrigadeVar) (lies : LiesUnder c r.shared.pools v) where
  -- over other pools, in which what stood under c keeps its path
  over : (new : Pools Payload) → ((n : ℕ) → is_under r.shared.pools c n ≡ true → new.path n ≡ r.shared.pools.path n) → LiesUnder c new v
  over new same n is = same_under r.shared.pools new c n (same n (lies n is)) ∙ lies n is

  pub gone_lies : (gone : ℕ → Configuration → Configuration) (o : Option ℕ) → ((n : ℕ) → Emptying n r.shared.pools (gone n r).shared.pools)
      → LiesUnder c (on_pool gone o r).shared.pools (cleared_var (is_under_named r.shared.pools o) v)
  gone_lies gone None so m is = lies m (stays_on (is_under_named r.shared.pools None) v m is).0
  gone_lies gone (Some n) so m is =
      let was = stays_on (is_under r.shared.pools n) v m is in
      same_under r.shared.pools (gone n r).shared.pools c m ((so n).apart m was.1) ∙ lies m was.0

  labelled_lies : (how : CleanupKind) (text : List ℕ) (n : ℕ) → LiesUnder c (label_registered how text n r).shared.pools v
  unfolding with_pools registered_as
  labelled_lies how text n = over (registered_as how n (Label text) r.shared.pools) (λ m under. refl)

  unlabelled_lies : (text : List ℕ) (n : ℕ) → LiesUnder c (label_killed text n r).shared.pools v
  unfolding with_pools
  unlabelled_lies text n = over (killed n (is_label text) r.shared.pools) (λ m under. ap (λ (f : ℕ → List ℕ). f m) (killed_path n (is_label text) r.shared.pools))

  made_lies : (q parent : ℕ) → LiesUnder c (set_pool q (poolvar.Made r.shared.pools.next) (with_pools (created parent r.shared.pools) r)).shared.pools v
  unfolding with_pools set_pool
  made_lies q parent = over (created parent r.shared.pools) (λ m under. created_kept parent r.shared.pools m (s.has.formed.named m (under_live r.shared.pools c m under)))

  saved_lies : (o b target : ℕ) → LiesUnder c (saved_into o b target r).shared.pools v
  unfolding with_pools set_brigade
  saved_lies o b target = over (saved_into o b target r).shared.pools
      (λ m under. ap (λ (f : ℕ → List ℕ). f m) (referred_path target (filter_map (new_ref r.shared.pools target) (items_of (r.instance.brigades b))) r.shared.pools))

  aside_lies : (at : CursorPlace) (target : ℕ) → LiesUnder c (aside_into at target r).shared.pools v
  aside_lies at target = over (aside_into at target r).shared.pools (λ m under. ap (λ (f : ℕ → List ℕ). f m) (aside_path at target r))

pub touched_lies : TouchedLies
unfolding set_brigade with_pools
touched_lies c p choice (instr.PCreate q) r v s none lies = made_under_named (λ x. LiesUnder c x.shared.pools v) p q r lies (λ parent is. made_lies c r s v lies q parent)
touched_lies c p choice (instr.PClear q) r v s none lies = gone_lies c r s v lies pool_cleared (pool_named r (pool.Own q)) (λ n. cleared_so n r.shared.pools)
touched_lies c p choice (instr.PDestroy q) r v s none lies = gone_lies c r s v lies pool_destroyed (pool_named r (pool.Own q)) (λ n. destroyed_so n r.shared.pools)
touched_lies c p choice (instr.Label q t) r v s none lies =
    on_named (λ x. LiesUnder c x.shared.pools v) (label_registered Plain (text_of p t)) (pool_named r q) r lies (λ n is. labelled_lies c r s v lies Plain (text_of p t) n)
touched_lies c p choice (instr.PreLabel q t) r v s none lies =
    on_named (λ x. LiesUnder c x.shared.pools v) (label_registered Pre (text_of p t)) (pool_named r q) r lies (λ n is. labelled_lies c r s v lies Pre (text_of p t) n)
touched_lies c p choice (instr.Unlabel q t) r v s none lies =
    on_named (λ x. LiesUnder c x.shared.pools v) (label_killed (text_of p t)) (pool_named r q) r lies (λ n is. unlabelled_lies c r s v lies (text_of p t) n)
touched_lies c p choice (instr.BCreate o) r v s none lies =
    over c r s v lies (with_brigade (pool_named r (pool_of_brigade p o)) r.shared.next r.shared.pools)
    (λ m under. ap (λ (f : ℕ → List ℕ). f m) (brigade_path (pool_named r (pool_of_brigade p o)) r.shared.next r.shared.pools))
touched_lies c p choice (instr.BSave o b) r v s none lies =
    on_named (λ x. LiesUnder c x.shared.pools v) (saved_into o b) (made_on (r.instance.brigades o)) r lies (λ n is. saved_lies c r s v lies o b n)
touched_lies c p choice (instr.Aside at q) r v s none lies =
    on_named (λ x. LiesUnder c x.shared.pools v) (aside_into (at_cursor r at)) (pool_named r q) r lies (λ n is. aside_lies c r s v lies (at_cursor r at) n)
touched_lies c p choice (instr.Ret status) r v s none lies = λ m is. lies m (pool_kept v (returned_var r.call.name v) (returned_on r.call.name v) m is)
touched_lies c p choice i r v s none lies =
    subst (λ (ps : Pools Payload). LiesUnder c ps v) (sym (quiet_pools p choice i r (quiet_alike (λ (old : Pools Payload). r.shared.pools) p choice i r refl))) lies
