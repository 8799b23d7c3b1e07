-- Steps that make, clear and destroy no pool leave the pools where they are.
use Rattle.run_model.specs.declared.effect.CleanupKind.TheVariants.{Plain, Pre}
use Rattle.std.proofs.Common.{◌≡◌, ℕ, Bool, true, false, filter_map, refl, ◌∙◌}
use Rattle.module_code.specs.declared.instr.Instr.{Instr}
use Rattle.module_code.specs.declared.instr.Instr.TheVariants as instr
use Rattle.module_code.specs.Program.{Program, pool_of_brigade}
use Rattle.run_model.specs.declared.bucket.Cursor.{Cursor}
use Rattle.run_model.specs.Pools.{registered, registered_as}
use Rattle.run_model.specs.RunOrder.{killed}
use Rattle.run_model.specs.State.{Configuration, items_of, set_cursor, set_brigade, set_loose, set_number, with_pools, pool_named}
use Rattle.run_model.specs.Steps.{Choice, step, label_registered, label_killed, text_of, made_on, new_ref, saved_into}
use Rattle.model_laws.specs.Laws.{MayExecute}
use Rattle.model_laws.proofs.BucketFrame.{IsFrame, placed_step}
use Rattle.model_laws.proofs.MadeBrigades.{brigade_path, brigade_next}
use Rattle.model_laws.proofs.NamedPools.{on_named}
use Rattle.model_laws.proofs.StepPools.{referred_path, referred_next}

-- pools, their names and what names them are as they were
pub record IsQuiet (r new : Configuration) : Type 0 where
  pub path : new.shared.pools.path ≡ r.shared.pools.path
  pub next : new.shared.pools.next ≡ r.shared.pools.next
  pub own : new.instance.pools ≡ r.instance.pools
  pub conn : new.shared.conn ≡ r.shared.conn
  pub req : new.shared.req ≡ r.shared.req

abbrev pub moves_pools : Instr → Bool
moves_pools (instr.PCreate q) = true
moves_pools (instr.PClear q) = true
moves_pools (instr.PDestroy q) = true
moves_pools i = false

pub as_before : (r new : Configuration) → new.shared.pools.path ≡ r.shared.pools.path → new.shared.pools.next ≡ r.shared.pools.next → new.instance.pools ≡ r.instance.pools
    → new.shared.conn ≡ r.shared.conn → new.shared.req ≡ r.shared.req → IsQuiet r new
as_before r new path next own conn req = record { path = path; next = next; own = own; conn = conn; req = req }

still : (r x new : Configuration) → new.shared.pools.path ≡ x.shared.pools.path → new.shared.pools.next ≡ x.shared.pools.next → new.instance.pools ≡ x.instance.pools
    → new.shared.conn ≡ x.shared.conn → new.shared.req ≡ x.shared.req → IsQuiet r x → IsQuiet r new
still r x new path next own conn req s = record { path = path ∙ s.path; next = next ∙ s.next; own = own ∙ s.own; conn = conn ∙ s.conn; req = req ∙ s.req }

quiet_frame : (r : Configuration) → IsFrame (IsQuiet r)
unfolding set_brigade set_loose set_number with_pools
quiet_frame r = record {
  items = λ b xs x s. still r x _ refl refl refl refl refl s;
  loose = λ xs x s. still r x _ refl refl refl refl refl s;
  numbers = λ n v x s. still r x _ refl refl refl refl refl s;
  buffer = λ bytes x s. still r x _ refl refl refl refl refl s;
  left = λ x s. still r x _ refl refl refl refl refl s;
  names = λ n x s. still r x _ refl refl refl refl refl s;
  refs = λ target files x lives s. still r x _ (referred_path target files x.shared.pools) (referred_next target files x.shared.pools) refl refl refl s;
}

quiet_placed : (r : Configuration) (c : ℕ) (v : Cursor) (x : Configuration) → IsQuiet r x → IsQuiet r (set_cursor c v x)
unfolding set_cursor
quiet_placed r c v x s = still r x _ refl refl refl refl refl s

itself : (r : Configuration) → IsQuiet r r
itself r = as_before r r refl refl refl refl refl

pub quiet_step : (p : Program) (choice : Choice) (i : Instr) (r : Configuration) → moves_pools i ≡ false → MayExecute p r i → IsQuiet r (step p choice i r).state
unfolding set_brigade with_pools registered_as killed
quiet_step p choice (instr.PCreate q) r not_moved may = absurd (cc)
quiet_step p choice (instr.PClear q) r not_moved may = absurd (cc)
quiet_step p choice (instr.PDestroy q) r not_moved may = absurd (cc)
quiet_step p choice (instr.Label q t) r not_moved may = on_named (IsQuiet r) (label_registered Plain (text_of p t)) (pool_named r q) r (itself r) (λ n e. as_before r _ refl refl refl refl refl)
quiet_step p choice (instr.PreLabel q t) r not_moved may = on_named (IsQuiet r) (label_registered Pre (text_of p t)) (pool_named r q) r (itself r) (λ n e. as_before r _ refl refl refl refl refl)
quiet_step p choice (instr.Unlabel q t) r not_moved may = on_named (IsQuiet r) (label_killed (text_of p t)) (pool_named r q) r (itself r) (λ n e. as_before r _ refl refl refl refl refl)
quiet_step p choice (instr.BCreate o) r not_moved may =
    as_before r _ (brigade_path (pool_named r (pool_of_brigade p o)) r.shared.next r.shared.pools) (brigade_next (pool_named r (pool_of_brigade p o)) r.shared.next r.shared.pools) refl refl refl
quiet_step p choice (instr.BClean b) r not_moved may = as_before r _ refl refl refl refl refl
quiet_step p choice (instr.BConcat a b) r not_moved may = as_before r _ refl refl refl refl refl
quiet_step p choice (instr.BSave o b) r not_moved may =
    on_named (IsQuiet r) (saved_into o b) (made_on (r.instance.brigades o)) r (itself r)
    (λ target e. as_before r _ (referred_path target (filter_map (new_ref r.shared.pools target) (items_of (r.instance.brigades b))) r.shared.pools)
    (referred_next target (filter_map (new_ref r.shared.pools target) (items_of (r.instance.brigades b))) r.shared.pools) refl refl refl)
quiet_step p choice (instr.Pass b l) r not_moved may = as_before r _ refl refl refl refl refl
quiet_step p choice (instr.Ret st) r not_moved may = as_before r _ refl refl refl refl refl
quiet_step p choice i r not_moved may = placed_step (IsQuiet r) (quiet_frame r) (quiet_placed r) p choice i r refl may (itself r)
