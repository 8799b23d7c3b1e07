-- A step that has no fault leaves the parts of other connections, but for the next name.
use Rattle.run_model.specs.declared.effect.CleanupKind.{CleanupKind}
use Rattle.run_model.specs.declared.effect.CleanupKind.TheVariants.{Plain, Pre}
use Rattle.std.proofs.Common.{◌≡◌, ◌≢◌, ℕ, true, false, List, [], ◌∷◌, filter_map, Option, Some, None, refl, sym, ◌∙◌, ap, subst}
use Rattle.module_code.specs.declared.instr.Instr.{Instr}
use Rattle.module_code.specs.declared.instr.Instr.TheVariants as instr
use Rattle.module_code.specs.declared.instr.PoolRef.TheVariants as pool
use Rattle.module_code.specs.Program.{Program, pool_of_brigade, pool_of_pool}
use Rattle.run_model.specs.declared.payload.Payload.{Payload}
use Rattle.run_model.specs.declared.payload.Payload.TheVariants.{Label, FileRef}
use Rattle.run_model.specs.declared.payload.Payload.TheVariants as payload
use Rattle.run_model.specs.Payloads.{is_label}
use Rattle.run_model.specs.Pools.{Pools, is_under, registered}
use Rattle.run_model.specs.State.{Configuration, items_of, pool_named, set_brigade, set_loose, set_pool, with_pools}
use Rattle.run_model.specs.Cursors.{CursorPlace, Nowhere, AtLoose, Within, AtEndOf, at_cursor}
use Rattle.run_model.specs.Effects.{new_ref, all_referred, with_brigade, saved_into, made_on, pool_cleared, pool_destroyed, label_registered, label_killed, text_of, do_pcreate}
use Rattle.run_model.specs.BucketSteps.{aside_into}
use Rattle.run_model.specs.Steps.{Choice, Outcome, step}
use Rattle.run_model.specs.Faults.{has_pool}
use Rattle.model_laws.specs.Parts.{belongs, part, HasPart, Change, Made, Registered, Killed, Cleared, Destroyed, changed}
use Rattle.model_laws.specs.PartSteps.{LiesIn, StepsSpareOthers}
use Rattle.model_laws.proofs.NamedPools.{made_is, on_named, made_under_named}
use Rattle.model_laws.proofs.StepPools.{wanted_pool, referred_next}
use Rattle.model_laws.proofs.parts.Paths.{off_belongs}
use Rattle.model_laws.proofs.parts.Others.{others_stay, same_next, registered_off}
use Rattle.model_laws.proofs.parts.Steps.{registered_path, wanted_under, second_want}
use Rattle.model_laws.proofs.parts.Quiet.{quiet_alike}

-- the part of d is as it was over these pools, but for the next name
abbrev SparesPart : ℕ → Pools Payload → Configuration → Type 0
SparesPart d ps r = part d r.shared.pools ≡ record (part d ps) { next = r.shared.pools.next }

itself : (d : ℕ) (r : Configuration) → SparesPart d r.shared.pools r
itself d r = same_next d r.shared.pools r.shared.pools refl

pub quiet_pools : (p : Program) (choice : Choice) (i : Instr) (r : Configuration)
    → step p choice i r ≡ record (step p choice i r) { state = record (step p choice i r).state { shared = record (step p choice i r).state.shared { pools = r.shared.pools } } }
    → (step p choice i r).state.shared.pools ≡ r.shared.pools
quiet_pools p choice i r same = ap (λ (o : Outcome). o.state.shared.pools) same

stays : (d : ℕ) (p : Program) (choice : Choice) (i : Instr) (r : Configuration) → (step p choice i r).state.shared.pools ≡ r.shared.pools → SparesPart d r.shared.pools (step p choice i r).state
stays d p choice i r same = subst (λ (new : Pools Payload). part d new ≡ record (part d r.shared.pools) { next = new.next }) (sym same) (itself d r)

all_off : (d target : ℕ) (files : List ℕ) (ps : Pools Payload) → belongs d (ps.path target) ≡ false → part d (all_referred target files ps) ≡ part d ps
unfolding all_referred
all_off d target [] ps off = refl
all_off d target (file ∷ files) ps off =
    all_off d target files (registered target (FileRef file) ps) (ap (λ (path : ℕ → List ℕ). belongs d (path target)) (registered_path Plain target (FileRef file) ps) ∙ off)
    ∙ registered_off Plain d target (FileRef file) ps off

module _ (c d : ℕ) (p : Program) (r : Configuration) (s : LiesIn c r) (other : HasPart r.shared.pools d) (ne : c ≢ d) where
  changes : (change : Change) (n : ℕ) → is_under r.shared.pools c n ≡ true → part d (changed change n r.shared.pools) ≡ record (part d r.shared.pools) { next = (changed change n r.shared.pools).next }
  changes change n under = others_stay change c d n r.shared.pools s.has other ne under

  refers : (target : ℕ) (files : List ℕ) → is_under r.shared.pools c target ≡ true
      → part d (all_referred target files r.shared.pools) ≡ record (part d r.shared.pools) { next = (all_referred target files r.shared.pools).next }
  refers target files under =
      all_off d target files r.shared.pools (off_belongs r.shared.pools c d target s.has other ne under)
      ∙ same_next d r.shared.pools (all_referred target files r.shared.pools) (referred_next target files r.shared.pools)

  aside_spares : (at : CursorPlace) (target : ℕ) → is_under r.shared.pools c target ≡ true → SparesPart d r.shared.pools (aside_into at target r)
  unfolding set_brigade set_loose with_pools
  aside_spares (Within b x) target under = refers target (filter_map (new_ref r.shared.pools target) (x ∷ [])) under
  aside_spares (AtLoose x) target under = refers target (filter_map (new_ref r.shared.pools target) (x ∷ [])) under
  aside_spares Nowhere target under = itself d r
  aside_spares (AtEndOf b) target under = itself d r

  saved_spares : (o b target : ℕ) → is_under r.shared.pools c target ≡ true → SparesPart d r.shared.pools (saved_into o b target r)
  unfolding set_brigade with_pools
  saved_spares o b target under = refers target (filter_map (new_ref r.shared.pools target) (items_of (r.instance.brigades b))) under

  labelled_spares : (how : CleanupKind) (text : List ℕ) (n : ℕ) → is_under r.shared.pools c n ≡ true → SparesPart d r.shared.pools (label_registered how text n r)
  unfolding with_pools
  labelled_spares how text n under = changes (Registered how (Label text)) n under

  unlabelled_spares : (text : List ℕ) (n : ℕ) → is_under r.shared.pools c n ≡ true → SparesPart d r.shared.pools (label_killed text n r)
  unfolding with_pools
  unlabelled_spares text n under = changes (Killed (is_label text)) n under

  cleared_spares : (n : ℕ) → is_under r.shared.pools c n ≡ true → SparesPart d r.shared.pools (pool_cleared n r)
  unfolding with_pools
  cleared_spares n under = changes Cleared n under

  destroyed_spares : (n : ℕ) → is_under r.shared.pools c n ≡ true → SparesPart d r.shared.pools (pool_destroyed n r)
  unfolding with_pools
  destroyed_spares n under = changes Destroyed n under

  pcreate_spares : (q : ℕ) → has_pool r (pool_of_pool p q) ≡ true → SparesPart d r.shared.pools (do_pcreate p q r)
  unfolding set_pool with_pools
  pcreate_spares q lives = made_under_named (SparesPart d r.shared.pools) p q r (itself d r) (λ parent is. changes Made parent (wanted_under c p r s (pool_of_pool p q) lives parent is))

  with_brigade_spares : (on : Option ℕ) (name : ℕ) → ((n : ℕ) → on ≡ Some n → is_under r.shared.pools c n ≡ true)
      → part d (with_brigade on name r.shared.pools) ≡ record (part d r.shared.pools) { next = (with_brigade on name r.shared.pools).next }
  unfolding with_brigade
  with_brigade_spares None name under = itself d r
  with_brigade_spares (Some n) name under = changes (Registered Plain (payload.Brigade name)) n (under n refl)

pub steps_spare : StepsSpareOthers
unfolding set_brigade
steps_spare c d p choice (instr.PCreate q) r s other ne none = pcreate_spares c d p r s other ne q (wanted_pool r (pool_of_pool p q) _ none)
steps_spare c d p choice (instr.PClear q) r s other ne none =
    on_named (SparesPart d r.shared.pools) pool_cleared (pool_named r (pool.Own q)) r (itself d r)
    (λ n is. cleared_spares c d p r s other ne n (wanted_under c p r s (pool.Own q) (wanted_pool r (pool.Own q) None none) n is))
steps_spare c d p choice (instr.PDestroy q) r s other ne none =
    on_named (SparesPart d r.shared.pools) pool_destroyed (pool_named r (pool.Own q)) r (itself d r)
    (λ n is. destroyed_spares c d p r s other ne n (wanted_under c p r s (pool.Own q) (wanted_pool r (pool.Own q) None none) n is))
steps_spare c d p choice (instr.Label q t) r s other ne none =
    on_named (SparesPart d r.shared.pools) (label_registered Plain (text_of p t)) (pool_named r q) r (itself d r)
    (λ n is. labelled_spares c d p r s other ne Plain (text_of p t) n (wanted_under c p r s q (wanted_pool r q None none) n is))
steps_spare c d p choice (instr.PreLabel q t) r s other ne none =
    on_named (SparesPart d r.shared.pools) (label_registered Pre (text_of p t)) (pool_named r q) r (itself d r)
    (λ n is. labelled_spares c d p r s other ne Pre (text_of p t) n (wanted_under c p r s q (wanted_pool r q None none) n is))
steps_spare c d p choice (instr.Unlabel q t) r s other ne none =
    on_named (SparesPart d r.shared.pools) (label_killed (text_of p t)) (pool_named r q) r (itself d r)
    (λ n is. unlabelled_spares c d p r s other ne (text_of p t) n (wanted_under c p r s q (wanted_pool r q None none) n is))
steps_spare c d p choice (instr.BCreate o) r s other ne none =
    with_brigade_spares c d p r s other ne (pool_named r (pool_of_brigade p o)) r.shared.next (λ n is. wanted_under c p r s (pool_of_brigade p o) (wanted_pool r (pool_of_brigade p o) _ none) n is)
steps_spare c d p choice (instr.BSave o b) r s other ne none =
    on_named (SparesPart d r.shared.pools) (saved_into o b) (made_on (r.instance.brigades o)) r (itself d r)
    (λ n is. saved_spares c d p r s other ne o b n (s.brigades o n (sym (made_is (r.instance.brigades o)) ∙ is)))
steps_spare c d p choice (instr.Aside at q) r s other ne none =
    on_named (SparesPart d r.shared.pools) (aside_into (at_cursor r at)) (pool_named r q) r (itself d r)
    (λ n is. aside_spares c d p r s other ne (at_cursor r at) n (wanted_under c p r s q (wanted_pool r q _ (second_want _ _ none)) n is))
steps_spare c d p choice i r s other ne none = stays d p choice i r (quiet_pools p choice i r (quiet_alike (λ (old : Pools Payload). r.shared.pools) p choice i r refl))
