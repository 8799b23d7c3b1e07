-- Names rise at each instruction of the call on top, and stay below their limit.
use Rattle.run_model.specs.declared.effect.CleanupKind.TheVariants.{Plain, Pre}
use Rattle.std.proofs.Common.{◌≡◌, ℕ, ◌+◌, ◌^◌, ◌<◌, ◌≤◌, Bool, true, false, cond, List, [], ◌∷◌, filter_map, refl, sym, subst, arith}
use Rattle.module_code.specs.declared.instr.Instr.{Instr}
use Rattle.module_code.specs.declared.instr.Instr.TheVariants as instr
use Rattle.module_code.specs.declared.instr.PoolRef.TheVariants as pool
use Rattle.module_code.specs.declared.instr.Status.{Status}
use Rattle.module_code.specs.Program.{Program, pool_of_brigade}
use Rattle.run_model.specs.declared.bucket.Cursor.{Cursor}
use Rattle.run_model.specs.Pools.{created, registered, cleared, destroyed, registered_as}
use Rattle.run_model.specs.RunOrder.{killed}
use Rattle.run_model.specs.Clearing.{run_down}
use Rattle.run_model.specs.State.{Configuration, items_of, pool_named, set_pool, set_brigade, set_loose, set_number, set_cursor, with_pools}
use Rattle.run_model.specs.Effects.{do_return}
use Rattle.run_model.specs.Sound.{SoundPools}
use Rattle.run_model.specs.Steps.{Choice, current, is_spent, step, label_killed, label_registered, made_on, new_ref, pool_cleared, pool_destroyed, saved_into, text_of}
use Rattle.model_laws.specs.Laws.{MayExecute}
use Rattle.run_model.specs.Chains.{Frame, Connection, Common, module_at, is_last, next_place, configuration, put_back, stepped_in}
use Rattle.run_model.specs.Passing.{Reads, delivered_by, passed_to, next_called, returned_from, returned_to, proceeds}
use Rattle.run_model.specs.Turns.{calls_of}
use Rattle.model_laws.specs.ChainLaws.{Rises, TopRaisesNames}
use Rattle.model_laws.proofs.MadeBrigades.{brigade_next}
use Rattle.model_laws.proofs.NamedPools.{on_named, made_under_named}
use Rattle.model_laws.proofs.BucketFrame.{IsFrame, placed_step}
use Rattle.model_laws.proofs.StepNames.{not_spent, step_gives}
use Rattle.model_laws.proofs.StepPools.{referred_next, step_pools}
use Rattle.model_laws.proofs.chains.TopSteps.{may_step}

-- The next name of a pool.

abbrev HasRisen : ℕ → Configuration → Type 0
HasRisen m r = m ≤ r.shared.pools.next

risen_frame : (m : ℕ) → IsFrame (HasRisen m)
unfolding set_brigade set_loose set_number with_pools
risen_frame m = record {
  items = λ b xs r h. h;
  loose = λ xs r h. h;
  numbers = λ n v r h. h;
  buffer = λ bytes r h. h;
  left = λ r h. h;
  names = λ n r h. h;
  refs = λ target files r lives h. (let same = referred_next target files r.shared.pools in omega arith);
}

risen_placed : (m c : ℕ) (v : Cursor) (r : Configuration) → HasRisen m r → HasRisen m (set_cursor c v r)
unfolding set_cursor
risen_placed m c v r h = h

saved_risen : (m o b target : ℕ) (r : Configuration) → HasRisen m r → HasRisen m (saved_into o b target r)
unfolding set_brigade with_pools
saved_risen m o b target r h =
    let same : (saved_into o b target r).shared.pools.next ≡ r.shared.pools.next =
    referred_next target (filter_map (new_ref r.shared.pools target) (items_of (r.instance.brigades b))) r.shared.pools in
    omega arith

pub step_raises : (m : ℕ) (p : Program) (choice : Choice) (i : Instr) (r : Configuration) → MayExecute p r i → HasRisen m r → HasRisen m (step p choice i r).state
unfolding set_pool set_brigade with_pools run_down created cleared destroyed registered_as killed
step_raises m p choice (instr.PCreate q) r may h = made_under_named (HasRisen m) p q r h (λ parent e. omega arith)
step_raises m p choice (instr.PClear q) r may h = on_named (HasRisen m) pool_cleared (pool_named r (pool.Own q)) r h (λ n e. h)
step_raises m p choice (instr.PDestroy q) r may h = on_named (HasRisen m) pool_destroyed (pool_named r (pool.Own q)) r h (λ n e. h)
step_raises m p choice (instr.Label q t) r may h = on_named (HasRisen m) (label_registered Plain (text_of p t)) (pool_named r q) r h (λ n e. h)
step_raises m p choice (instr.PreLabel q t) r may h = on_named (HasRisen m) (label_registered Pre (text_of p t)) (pool_named r q) r h (λ n e. h)
step_raises m p choice (instr.Unlabel q t) r may h = on_named (HasRisen m) (label_killed (text_of p t)) (pool_named r q) r h (λ n e. h)
step_raises m p choice (instr.BCreate o) r may h = subst (λ (n : ℕ). m ≤ n) (sym (brigade_next (pool_named r (pool_of_brigade p o)) r.shared.next r.shared.pools)) h
step_raises m p choice (instr.BClean b) r may h = h
step_raises m p choice (instr.BConcat a b) r may h = h
step_raises m p choice (instr.BSave o b) r may h = on_named (HasRisen m) (saved_into o b) (made_on (r.instance.brigades o)) r h (λ target e. saved_risen m o b target r h)
step_raises m p choice (instr.Pass b l) r may h = h
step_raises m p choice (instr.Ret st) r may h = h
step_raises m p choice i r may h = placed_step (HasRisen m) (risen_frame m) (risen_placed m) p choice i r refl may h

-- What is shared.

same_raises : (g : Common) → g.next < 2 ^ 64 → g.pools < 2 ^ 64 → Rises g g
same_raises g next pools = record { next = omega arith; next_limit = next; pools = omega arith; pools_limit = pools; root = refl }

-- one more name of a call
one_more_raises : (g : Common) → g.next + 1 < 2 ^ 64 → g.pools < 2 ^ 64 → Rises g (record g { next = g.next + 1 })
one_more_raises g next pools = record { next = omega arith; next_limit = next; pools = omega arith; pools_limit = pools; root = refl }

stepped_raises : (chain : List Program) (choice : Choice) (i : Instr) (f : Frame) (rest : List Frame) (g : Common) (c : Connection)
    → MayExecute (module_at chain f.of) (configuration g c f) i → SoundPools (configuration g c f) → Rises g (stepped_in (module_at chain f.of) choice i f rest (g, c)).0
unfolding stepped_in put_back configuration
stepped_raises chain choice i f rest g c may s =
    let given = step_gives (module_at chain f.of) choice i (configuration g c f) may in
    record {
      next = given.rises;
      next_limit = given.limit;
      pools = step_raises g.pools (module_at chain f.of) choice i (configuration g c f) may (omega arith);
      pools_limit = (step_pools (module_at chain f.of) choice i (configuration g c f) may s).limit;
      root = refl;
    }

delivered_raises : (chain : List Program) (reads : Reads) (b : ℕ) (i : Instr) (f : Frame) (rest : List Frame) (g : Common) (c : Connection)
    → MayExecute (module_at chain f.of) (configuration g c f) i → SoundPools (configuration g c f) → Rises g (delivered_by (module_at chain f.of) reads b i f rest (g, c)).0
unfolding delivered_by
delivered_raises chain reads b i f rest g c may s = stepped_raises chain _ i f rest g c may s

returned_from_raises : (chain : List Program) (status : Status) (f : Frame) (g : Common) (c : Connection) → g.next < 2 ^ 64 → g.pools < 2 ^ 64
    → is_spent g.next (calls_of (is_last chain c f.of) (instr.Ret status) [] c.queue) ≡ false → Rises g (returned_from chain status f (g, c)).1.0
unfolding returned_from put_back configuration
returned_from_raises chain status f g c next pools last = by_queue c.queue last where
  by_queue : (queue : List ℕ) → is_spent g.next (calls_of (is_last chain c f.of) (instr.Ret status) [] queue) ≡ false
      → Rises g (next_called chain status queue (put_back (instr.Ret status) f (do_return (configuration g c f)) [] [] (g, c))).1.0
  by_queue [] last = same_raises g next pools
  by_queue (k ∷ ks) last = one_more_raises g (not_spent g.next 1 last) pools

proceeds_raises : (chain : List Program) (reads : Reads) (i : Instr) (f : Frame) (rest : List Frame) (g : Common) (c : Connection)
    → MayExecute (module_at chain f.of) (configuration g c f) i → is_spent g.next (calls_of (is_last chain c f.of) i rest c.queue) ≡ false → g.next < 2 ^ 64 → SoundPools (configuration g c f)
    → Rises g (proceeds chain reads i f rest (g, c)).1.0
unfolding proceeds passed_to returned_to put_back configuration
proceeds_raises chain reads (instr.Pass b l) f rest g c may last next s = by_last (is_last chain c f.of) last where
  by_last : (t : Bool) → is_spent g.next (cond t 0 1) ≡ false
      → Rises g (cond t (delivered_by (module_at chain f.of) reads b (instr.Pass b l) f rest (g, c)) (passed_to (module_at chain (next_place chain c f.of)) (next_place chain c f.of) b f rest (g, c))).0
  by_last true last = delivered_raises chain reads b (instr.Pass b l) f rest g c may s
  by_last false last = one_more_raises g (not_spent g.next 1 last) s.limit
proceeds_raises chain reads (instr.Ret status) f [] g c may last next s = returned_from_raises chain status f g c next s.limit last
proceeds_raises chain reads (instr.Ret status) f (w ∷ rest) g c may last next s = same_raises g next s.limit
proceeds_raises chain reads i f rest g c may last next s = stepped_raises chain _ i f rest g c may s

pub top_raises_names : TopRaisesNames
top_raises_names chain reads g c f rest may s =
    proceeds_raises chain reads (current (module_at chain f.of) f.pc) f rest g c (may_step chain g c f rest may s) may.calls_last s.names.limit (s.pools.sound f)
