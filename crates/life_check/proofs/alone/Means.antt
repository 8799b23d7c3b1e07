-- What is known of an instance in each phase of an open run.
use Rattle.std.proofs.Common.{◌≡◌, ◌⊎◌, ℕ, ◌+◌, ◌<◌, ◌≤◌, true, false, length, Option, Some, None, is_some, inl, inr, refl, sym, ◌∙◌, subst, arith}
use Rattle.std.proofs.lemmas.Bool.{cases_lt}
use Rattle.module_code.specs.Program.{Program, IsModule}
use Rattle.module_code.specs.declared.instr.Instr.{Instr}
use Rattle.module_code.specs.declared.instr.Instr.TheVariants as instr
use Rattle.module_code.specs.declared.instr.PoolRef.{PoolRef}
use Rattle.run_model.specs.declared.bucket.Brigade.{Brigade}
use Rattle.run_model.specs.declared.bucket.BrigadeVar.TheVariants as var
use Rattle.run_model.specs.declared.bucket.Home.{Home}
use Rattle.run_model.specs.declared.bucket.Home.TheVariants as home
use Rattle.run_model.specs.declared.bucket.Mark.TheVariants.{Passed}
use Rattle.run_model.specs.declared.bucket.PoolVar.TheVariants as poolvar
use Rattle.run_model.specs.Faults.{wants, fault}
use Rattle.run_model.specs.Pools.{is_in, is_under}
use Rattle.run_model.specs.State.{Configuration, pool_view, pool_named}
use Rattle.run_model.specs.Steps.{current, lacks_names}
use Rattle.model_laws.specs.OpenRuns.{Phase, Due, Rests, Runs, Waits, Broken, Lasting, Standing, StandsSound}
use Rattle.model_laws.proofs.EventsKeep.{may_execute, current_fits}
use Rattle.model_laws.proofs.Handlers.{current_at}
use Rattle.model_laws.proofs.PoolsKept.{req_apart}
use Rattle.life_state.specs.Rules.{Edges, edges, first_need}
use Rattle.life_state.specs.States.{Homes, State}
use Rattle.life_check.specs.Certificates.{Certificate}
use Rattle.life_check.proofs.alone.Calls.{before}
use Rattle.life_check.specs.Meaning.{Covers, Between, Fits}
use Rattle.life_check.specs.Soundness.{FitsSome, LivesOutside, MeetsNeeds, wants_request}
use Rattle.life_check.specs.Typed.{IsTyped, IsLed, flows, exits, leads_on}
use Rattle.life_check.proofs.Onward.{no_request, met_of}
use Rattle.life_check.proofs.Standards.{resting, covered_own}
use Rattle.life_check.proofs.Wants.{met_is_faultless}

-- what lives through a call
abbrev pub Lives : Lasting → Option ℕ → Home → Type 0
Lives l req home.Free = ⊥
Lives l req (home.Call n) = is_in n l.calls ≡ true
Lives l req (home.Pool n) = (req ≡ Some n) ⊎ (is_in n l.pools ≡ true)
Lives l req home.Ended = ⊥

-- what the homes of a state cover in a call
abbrev pub InCall : Program → Lasting → Configuration → Homes → Home → Type 0
InCall p l r = Covers p (pool_view r) (Lives l r.shared.req)

-- A call is at one of its instructions; no request is open in `open`, and one is in `init` and `main`.
pub record IsCallPlaced (p : Program) (req : Option ℕ) (pc : ℕ) : Type 0 where
  pub at : pc < length p.code
  pub opening : pc < p.init → req ≡ None
  pub serving : p.init ≤ pc → is_some req ≡ true

pub record RunFits (p : Program) (m : Certificate) (l : Lasting) (r : Configuration) : Type 0 where
  pub placed : IsCallPlaced p r.shared.req r.pc
  pub named : is_in r.call.name l.calls ≡ true
  pub fits : FitsSome (InCall p l r) (m.at r.pc) r

-- A call that waits stands at its pass, whose brigade is passed. What is known of it flows to both places where it may go on.
pub record WaitFits (p : Program) (m : Certificate) (l : Lasting) (r : Configuration) : Type 0 where
  pub placed : IsCallPlaced p r.shared.req r.pc
  pub named : is_in r.call.name l.calls ≡ true
  pub passes : ℕ
  pub to : ℕ
  pub at : current p r.pc ≡ instr.Pass passes to
  pub handed : Brigade
  pub passed : (r.instance.brigades passes ≡ var.Live handed) × (handed.mark ≡ Passed)
  pub state : State
  pub fits : Fits (InCall p l r) state r
  pub well : flows (Some state) (m.at (r.pc + 1)) ≡ true
  pub fails : flows (Some state) (m.at to) ≡ true

abbrev pub PhaseFits : Program → Certificate → Phase → Lasting → Configuration → Type 0
PhaseFits p m Due l r = FitsSome (Between p r) (before p m r.shared.req) r
PhaseFits p m Rests l r = FitsSome (Between p r) (resting m r.shared.req) r
PhaseFits p m Runs l r = RunFits p m l r
PhaseFits p m Waits l r = WaitFits p m l r
PhaseFits p m Broken l r = ⊥

abbrev pub StandsAlone : Program → Certificate → Standing → Type 0
StandsAlone p m s = PhaseFits p m s.phase s.lasting s.now

-- what is known in the phase that the instance is in
pub in_phase : (p : Program) (m : Certificate) (s : Standing) (f : Phase) → s.phase ≡ f → StandsAlone p m s → PhaseFits p m f s.lasting s.now
in_phase p m s f is h = subst (λ (x : Phase). PhaseFits p m x s.lasting s.now) is h

-- What lives through a call is outside the instance.
pub outside : (p : Program) (s : Standing) → StandsSound p s → is_in s.now.call.name s.lasting.calls ≡ true → LivesOutside s.now (Lives s.lasting s.now.shared.req)
outside p s k named = record {
  stays = λ q n m at live lives. stays q n m at lives;
  over = λ d target m at lives under. over d target m at under lives;
  this = named;
} where
  stays : (q n m : ℕ) → s.now.instance.pools q ≡ poolvar.Made n → Lives s.lasting s.now.shared.req (home.Pool m) → is_under s.now.shared.pools n m ≡ false
  stays q n m at (inl begun) =
      let own = k.sound.pools.own q n at in
      req_apart n m s.now own.0 (λ same. own.2 (subst (λ (x : ℕ). s.now.shared.req ≡ Some x) same begun)) begun k.sound.pools
  stays q n m at (inr lasts) = (k.others m lasts).under q n at

  over : (d : PoolRef) (target m : ℕ) → pool_named s.now d ≡ Some target → is_under s.now.shared.pools m target ≡ true → Lives s.lasting s.now.shared.req (home.Pool m)
      → (s.now.shared.req ≡ Some m) ⊎ (m ≡ s.now.shared.conn)
  over d target m at under (inl begun) = inl begun
  over d target m at under (inr lasts) = absurd (let both : true ≡ false = sym under ∙ (k.others m lasts).above d target at in cc)

-- The state that describes a call that runs, with what its certificate says of the next instruction.
pub record MetAlone (p : Program) (m : Certificate) (l : Lasting) (r : Configuration) : Type 0 where
  pub state : State
  pub fits : Fits (InCall p l r) state r
  pub outside : LivesOutside r (Lives l r.shared.req)
  pub needs : first_need state (wants p (current p r.pc)) ≡ None
  pub leads : leads_on m r.pc (current p r.pc) (edges p (current p r.pc) state) ≡ true
  pub exits : exits p m r.pc (current p r.pc) state ≡ true
  pub faultless : fault p r (current p r.pc) ≡ None

record Given (p : Program) (m : Certificate) (l : Lasting) (r : Configuration) : Type 0 where
  state : State
  at : m.at r.pc ≡ Some state
  fits : Fits (InCall p l r) state r

given : (p : Program) (m : Certificate) (l : Lasting) (r : Configuration) → FitsSome (InCall p l r) (m.at r.pc) r → Given p m l r
given p m l r h = by_line (m.at r.pc) refl h where
  by_line : (o : Option State) → m.at r.pc ≡ o → FitsSome (InCall p l r) o r → Given p m l r
  by_line None is h = absurd h
  by_line (Some a) is h = record { state = a; at = is; fits = h }

-- its instruction wants the request's pool only where there is one
requested : (p : Program) → IsModule p → (req : Option ℕ) (pc : ℕ) → IsCallPlaced p req pc → wants_request (wants p (current p pc)) ≡ true → is_some req ≡ true
requested p proper req pc placed wanted = elim (cases_lt pc p.init) [
  | inl lt ↦ absurd (no_request p (current p pc) (proper.opening.inside pc (current p pc) (omega arith) lt (current_at p pc placed.at)).allowed wanted)
  | inr le ↦ placed.serving le
]

pub met_in : (p : Program) (m : Certificate) (s : Standing) → IsModule p → IsTyped p m → StandsSound p s → RunFits p m s.lasting s.now → MetAlone p m s.lasting s.now
met_in p m s proper typed k runs =
    let r : Configuration = s.now in
    let i : Instr = current p r.pc in
    let at = given p m s.lasting r runs.fits in
    let led : IsLed p m r.pc i at.state = typed.lines r.pc i at.state (current_at p r.pc runs.placed.at) at.at in
    let met = met_of (first_need at.state (wants p i)) (edges p i at.state) led.edges led.safe in
    record {
      state = at.state;
      fits = at.fits;
      outside = outside p s k runs.named;
      needs = met.0;
      leads = subst (λ (e : Edges). leads_on m r.pc i e ≡ true) (sym met.1) led.leads;
      exits = led.exits;
      faultless = met_is_faultless (InCall p s.lasting r) (λ hs dead. dead) p i r at.state proper (current_fits p proper r.pc) k.sound k.declared (requested p proper r.shared.req r.pc runs.placed)
          (covered_own p (Lives s.lasting r.shared.req) r) at.fits met.0;
    }

-- what the laws of steps ask of it
pub ready_in : (p : Program) (m : Certificate) (s : Standing) → IsModule p → StandsSound p s → lacks_names s.now (current p s.now.pc) ≡ false → (met : MetAlone p m s.lasting s.now)
    → MeetsNeeds (Lives s.lasting s.now.shared.req) p (current p s.now.pc) s.now met.state
ready_in p m s proper k last met = record {
  outside = met.outside;
  may = may_execute p s.now proper met.faultless last;
  sound = k.sound;
  declared = k.declared;
  fits = met.fits;
  met = met.needs;
}
