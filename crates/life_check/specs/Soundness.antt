-- The laws of single steps: where a state describes a configuration and no need of an instruction fails in it, the step has no
-- fault, and the state on the edge that it takes describes what it leaves.
use Rattle.std.specs.Prelude.{◌≡◌, ◌⊎◌, ℕ, Bool, true, false, List, [], ◌∷◌, Option, Some, None, is_some}
use Rattle.module_code.specs.Program.{Program, IsModule, fits}
use Rattle.module_code.specs.declared.instr.Instr.{Instr}
use Rattle.module_code.specs.declared.instr.PoolRef.{PoolRef}
use Rattle.module_code.specs.declared.instr.PoolRef.TheVariants as pool
use Rattle.model_laws.specs.AsDeclared.{AsDeclared}
use Rattle.run_model.specs.declared.bucket.Home.{Home}
use Rattle.run_model.specs.declared.bucket.Home.TheVariants as home
use Rattle.run_model.specs.declared.bucket.PoolVar.TheVariants as poolvar
use Rattle.run_model.specs.declared.event.Exit.{Exit}
use Rattle.run_model.specs.declared.event.Exit.TheVariants.{GoOn, Jump, Return}
use Rattle.run_model.specs.Faults.{Want, WPool, wants, fault, is_stray}
use Rattle.model_laws.specs.Laws.{MayExecute}
pub use Rattle.model_laws.specs.OpenRuns.{request_ended}
use Rattle.run_model.specs.Pools.{is_live, is_under}
use Rattle.run_model.specs.Sound.{Sound}
use Rattle.run_model.specs.State.{Configuration, pool_view, pool_named}
use Rattle.run_model.specs.Steps.{Choice, step}
use Rattle.life_state.specs.Order.{leq}
use Rattle.life_state.specs.Rules.{Edges, edges, first_need, at_return, at_end_of_request}
use Rattle.life_state.specs.States.{Homes, State}
use Rattle.life_check.specs.Meaning.{Covers, Between, Fits}
use Rattle.life_state.specs.Bounded.{IsBounded}

-- What lives through a call is outside the instance. stays: a pool of the instance has none of it under it. over: what lives and
-- stands above a place of the instance is the request's pool or the connection's. this: the call itself lives.
pub record LivesOutside (r : Configuration) (lives : Home → Type 0) : Type 0 where
  pub stays : (q n m : ℕ) → r.instance.pools q ≡ poolvar.Made n → is_live r.shared.pools n ≡ true → lives (home.Pool m) → is_under r.shared.pools n m ≡ false
  pub over : (k : PoolRef) (target m : ℕ) → pool_named r k ≡ Some target → lives (home.Pool m) → is_under r.shared.pools m target ≡ true → (r.shared.req ≡ Some m) ⊎ (m ≡ r.shared.conn)
  pub this : lives (home.Call r.call.name)

-- what lives by a test
abbrev pub LivesByTest : (Home → Bool) → Home → Type 0
LivesByTest lives x = lives x ≡ true

abbrev pub FitsSome : (Homes → Home → Type 0) → Option State → Configuration → Type 0
FitsSome C None r = ⊥
FitsSome C (Some s) r = Fits C s r

-- The state on the edge that is taken describes what is left; after a return, what is left between calls. (So an edge that is taken
-- is there.)
abbrev pub Lands : (Home → Type 0) → Program → Edges → State → Exit → Configuration → Type 0
Lands lives p e s GoOn r = FitsSome (Covers p (pool_view r) lives) e.next r
Lands lives p e s Jump r = FitsSome (Covers p (pool_view r) lives) e.jump r
Lands lives p e s Return r = Fits (Between p r) (at_return s) r

-- An instruction whose needs are met, in a configuration that the state describes.
pub record MeetsNeeds (lives : Home → Type 0) (p : Program) (i : Instr) (r : Configuration) (s : State) : Type 0 where
  pub outside : LivesOutside r lives
  pub may : MayExecute p r i
  pub sound : Sound r
  pub declared : AsDeclared p r
  pub fits : Fits (Covers p (pool_view r) lives) s r
  pub met : first_need s (wants p i) ≡ None

-- the law of one instruction
abbrev pub LawOf : (Home → Type 0) → Instr → Type 0
LawOf lives i = (p : Program) (choice : Choice) (r : Configuration) (s : State) → MeetsNeeds lives p i r s → Lands lives p (edges p i s) s (step p choice i r).exit (step p choice i r).state

abbrev pub StepLands : (Home → Type 0) → Type 0
StepLands lives = (i : Instr) → LawOf lives i

-- whether the request's pool is wanted
abbrev pub wants_request : List Want → Bool
wants_request [] = false
wants_request (WPool pool.Req ∷ ws) = true
wants_request (w ∷ ws) = wants_request ws

-- Where no need fails there is no fault. C: any reading of homes by which dead alone covers what has ended and call alone what may
-- not outlast the call. The request's pool has to be there where the instruction names it.
abbrev pub MetIsFaultless : (Homes → Home → Type 0) → Type 0
MetIsFaultless C = ((h : Homes) → C h home.Ended → h.dead ≡ true) → (p : Program) (i : Instr) (r : Configuration) (s : State)
    → IsModule p → fits p i ≡ true → Sound r → AsDeclared p r → (wants_request (wants p i) ≡ true → is_some r.shared.req ≡ true)
    → ((h : Homes) (x : Home) → C h x → h.call ≡ false → is_stray r x ≡ false) → Fits C s r → first_need s (wants p i) ≡ None → fault p r i ≡ None

-- What a state describes, each greater state describes.
abbrev pub GreaterFits : (Home → Type 0) → Type 0
GreaterFits lives = (p : Program) (r : Configuration) (s t : State) → Sound r → AsDeclared p r → IsBounded t → leq s t ≡ true
    → Fits (Covers p (pool_view r) lives) s r → Fits (Covers p (pool_view r) lives) t r

-- The end of a request, between calls.
abbrev pub RequestEndLands : Type 0
RequestEndLands = (p : Program) (req : ℕ) (r : Configuration) (s : State) → IsModule p → Sound r → AsDeclared p r → r.shared.req ≡ Some req
    → Fits (Between p r) s r → Fits (Between p (request_ended req r)) (at_end_of_request p s) (request_ended req r)
