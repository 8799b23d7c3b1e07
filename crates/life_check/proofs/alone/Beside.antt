-- What is known of an instance while others go on, and where its pass is answered.
use Rattle.std.proofs.Common.{◌≡◌, ℕ, true, false, List, map, Option, Some, None, inl, inr, refl, sym, ◌∙◌, ap, subst}
use Rattle.std.proofs.lemmas.Bool.{or_left, or_right}
use Rattle.module_code.specs.Program.{Program, IsModule}
use Rattle.module_code.specs.declared.instr.Instr.{Instr}
use Rattle.module_code.specs.declared.instr.Instr.TheVariants as instr
use Rattle.module_code.specs.declared.instr.PoolRef.{PoolRef}
use Rattle.module_code.specs.declared.instr.PoolRef.TheVariants as pool
use Rattle.module_code.specs.declared.instr.Status.{Status}
use Rattle.module_code.specs.declared.instr.Status.TheVariants.{Success, Fail}
use Rattle.run_model.specs.declared.bucket.BrigadeVar.{BrigadeVar}
use Rattle.run_model.specs.declared.bucket.BrigadeVar.TheVariants as var
use Rattle.run_model.specs.declared.bucket.Home.{Home}
use Rattle.run_model.specs.declared.bucket.Home.TheVariants as home
use Rattle.run_model.specs.declared.bucket.Kind.{Kind}
use Rattle.run_model.specs.declared.bucket.NamedBucket.{NamedBucket}
use Rattle.run_model.specs.declared.bucket.PoolVar.TheVariants as poolvar
use Rattle.run_model.specs.Buckets.{is_data_kind, is_eos_kind}
use Rattle.run_model.specs.Files.{Files}
use Rattle.run_model.specs.Passing.{passed_by, given_back, after_pass}
use Rattle.run_model.specs.Pools.{is_in, is_live}
use Rattle.run_model.specs.Sound.{Sound}
use Rattle.run_model.specs.State.{Configuration, Shared, Out, pool_view, pool_named, named_at, name_in, is_own}
use Rattle.run_model.specs.Steps.{current}
use Rattle.model_laws.specs.AsDeclared.{AsDeclared}
use Rattle.model_laws.specs.OpenRuns.{Phase, Due, Rests, Runs, Waits, Broken, Lasting, Standing, lasts}
use Rattle.model_laws.specs.OpenRuns.{HomeMayEnd, Becomes, changed_var, gone_on, LeaveShared, gone_elsewhere, answered, IsLeftAlone, OthersGoOn}
use Rattle.model_laws.specs.OpenRuns.{GoOnElsewhere, AnswersCall, StandsSound}
use Rattle.model_laws.proofs.alone.Beside as model
use Rattle.model_laws.proofs.chains.Places.{SameHandler, stays_in_handler, after_leads}
use Rattle.life_state.specs.States.{Homes, State}
use Rattle.life_check.specs.Certificates.{Certificate, AllBounded}
use Rattle.life_check.specs.Meaning.{Covers, CoversPool, ByConnection, ByMember, ByDead, ByCall, NoneLives, Between, class_has, Fits}
use Rattle.life_check.specs.Soundness.{FitsSome}
use Rattle.life_check.specs.Typed.{flows}
use Rattle.life_check.proofs.alone.Means.{Lives, InCall, IsCallPlaced, RunFits, WaitFits, PhaseFits, StandsAlone, in_phase}
use Rattle.life_check.proofs.Lists.{IsSorted}
use Rattle.life_check.proofs.Orders.{greater_fits}
use Rattle.life_check.proofs.Pools.{same_live, pool_kept}
use Rattle.life_check.proofs.Standards.{resting, fits_flow, fits_aside}
use Rattle.life_check.proofs.alone.Calls.{before, covers_more, fits_among}
use Rattle.life_check.proofs.alone.Given.{given_fits}
use Rattle.life_check.proofs.alone.Spared.{mapped, spared_fits}

-- Other filters go on.

mapped_is : (change : NamedBucket → NamedBucket) (v : BrigadeVar) → changed_var change v ≡ mapped change v
mapped_is change var.Null = refl
mapped_is change var.Gone = refl
mapped_is change (var.Live v) = refl

stays_home : (l : Lasting) (r : Configuration) (h x : Home) → lasts l r h ≡ true → HomeMayEnd l r h x → x ≡ h
stays_home l r h x kept (inl same) = same
stays_home l r h x kept (inr ended) = absurd (let both : true ≡ false = sym kept ∙ ended.0 in cc)

module _ (p : Program) (l : Lasting) (r : Configuration) (change : NamedBucket → NamedBucket) (becomes : (x : NamedBucket) → Becomes l r x (change x)) (shared : Shared)
    (left : LeaveShared l r shared) (out : Out) (s : Sound r) (d : AsDeclared p r)
    (lives : Home → Type 0) (kept : (x : Home) → lives x → lasts l r x ≡ true) where
  abbrev gone : Configuration
  gone = gone_on change shared out r

  abbrev C : Homes → Home → Type 0
  C = Covers p (pool_view r) lives

  abbrev D : Homes → Home → Type 0
  D = Covers p (pool_view gone) lives

  named_lasts : (k : PoolRef) (n : ℕ) → pool_named r k ≡ Some n → lasts l r (home.Pool n) ≡ true
  named_lasts k n e = or_left (is_own r n) (is_in n l.pools) (model.named_own p r d k n e)

  pool_lasts : (h : Homes) (n : ℕ) → CoversPool p (pool_view r) lives h n → lasts l r (home.Pool n) ≡ true
  unfolding named_at
  pool_lasts h n (ByConnection is) = named_lasts pool.Conn n (ap (λ (k : ℕ). Some k) (sym is))
  pool_lasts h n (ByMember k e top low at member under) = named_lasts k n at
  pool_lasts h n (ByDead k top at dead) = named_lasts k n at
  pool_lasts h n (ByCall call alive) = kept (home.Pool n) alive

  covered_lasts : (h : Homes) (x : Home) → C h x → lasts l r x ≡ true
  covered_lasts h home.Free c = refl
  covered_lasts h (home.Call n) c = kept (home.Call n) c.1
  covered_lasts h (home.Pool n) c = pool_lasts h n c.1
  covered_lasts h home.Ended c = refl

  named_still : (k : PoolRef) (n : ℕ) → pool_named r k ≡ Some n → pool_named gone k ≡ Some n
  named_still k n e = model.same_named p l r change becomes shared left out s d k ∙ e

  why : (h : Homes) (n : ℕ) → CoversPool p (pool_view r) lives h n → CoversPool p (pool_view gone) lives h n
  why h n (ByConnection is) = ByConnection (is ∙ sym left.conn)
  why h n (ByMember k e top low at member under) = ByMember k e top low (named_still k n at) member under
  why h n (ByDead k top at dead) = ByDead k top (named_still k n at) dead
  why h n (ByCall call alive) = ByCall call alive

  covered_still : (h : Homes) (x : Home) → C h x → D h x
  covered_still h home.Free c = tt
  covered_still h (home.Call n) c = c
  covered_still h (home.Pool n) c = (same_live r.shared.pools shared.pools n (left.stay n (pool_lasts h n c.1)) ∙ c.0, why h n c.1)
  covered_still h home.Ended c = c

  sorted : IsSorted change
  sorted = record {
    bytes = λ x. model.turns_keeps (λ (k : Kind). is_data_kind k ≡ is_data_kind x.bucket.kind) r x.bucket.kind (change x).bucket.kind (λ n h. h) (becomes x).kind refl;
    eos = λ x. model.turns_keeps (λ (k : Kind). is_eos_kind k ≡ is_eos_kind x.bucket.kind) r x.bucket.kind (change x).bucket.kind (λ n h. h) (becomes x).kind refl;
  }

  own_stays : (q n : ℕ) → r.instance.pools q ≡ poolvar.Made n → shared.pools.path n ≡ r.shared.pools.path n
  unfolding named_at
  own_stays q n made = model.stays p l r change becomes shared left out s d (pool.Own q) n (ap name_in made)

  pub gone_on_fits : (a : State) → Fits C a r → Fits D a gone
  gone_on_fits a f =
      spared_fits C D change r gone (record {
        names = λ x. (becomes x).name;
        sorted = sorted;
        classed = λ t x. model.turns_keeps (λ (k : Kind). class_has t k ≡ class_has t x.bucket.kind) r x.bucket.kind (change x).bucket.kind (λ n h. h) (becomes x).kind refl;
        covers = λ h x c. subst (D h) (sym (stays_home l r x.bucket.home (change x).bucket.home (covered_lasts h x.bucket.home c) (becomes x).home)) (covered_still h x.bucket.home c);
        pools = λ q k e. pool_kept r.shared.pools shared.pools k (r.instance.pools q) (λ n made. same_live r.shared.pools shared.pools n (own_stays q n made)) e;
        brigades = λ b. mapped_is change (r.instance.brigades b);
        loose = refl;
        cursors = refl;
        sent = refl;
      }) a f

  pub gone_on_some : (o : Option State) → FitsSome C o r → FitsSome D o gone
  gone_on_some None h = absurd h
  gone_on_some (Some a) h = gone_on_fits a h

none_kept : (l : Lasting) (r : Configuration) (x : Home) → NoneLives x → lasts l r x ≡ true
none_kept l r x e = absurd e

lives_kept : (p : Program) (l : Lasting) (r : Configuration) → AsDeclared p r → (x : Home) → Lives l r.shared.req x → lasts l r x ≡ true
unfolding named_at
lives_kept p l r d home.Free e = refl
lives_kept p l r d (home.Call n) e = e
lives_kept p l r d (home.Pool n) (inl begun) = or_left (is_own r n) (is_in n l.pools) (model.named_own p r d pool.Req n begun)
lives_kept p l r d (home.Pool n) (inr other) = or_right (is_own r n) (is_in n l.pools) other
lives_kept p l r d home.Ended e = refl

module _ (p : Program) (m : Certificate) (proper : IsModule p) (bounded : AllBounded m) where
  waits_on : (s new : Standing) (t : OthersGoOn s new) → StandsSound p s → WaitFits p m s.lasting s.now → WaitFits p m s.lasting (gone_on t.change t.shared t.out s.now)
  waits_on s new t k h = record {
    placed = subst (λ (req : Option ℕ). IsCallPlaced p req s.now.pc) (sym t.left.req) h.placed;
    named = h.named;
    passes = h.passes;
    to = h.to;
    at = h.at;
    handed = record h.handed { items = map t.change h.handed.items };
    passed = (ap (changed_var t.change) h.passed.0, h.passed.1);
    state = h.state;
    fits = subst (λ (req : Option ℕ). Fits (Covers p (pool_view (gone_on t.change t.shared t.out s.now)) (Lives s.lasting req)) h.state (gone_on t.change t.shared t.out s.now)) (sym t.left.req)
        (gone_on_fits p s.lasting s.now t.change t.becomes t.shared t.left t.out k.sound k.declared (Lives s.lasting s.now.shared.req) (lives_kept p s.lasting s.now k.declared) h.state h.fits);
    well = h.well;
    fails = h.fails;
  }

  left_on : (s new : Standing) (t : OthersGoOn s new) → StandsSound p s → (known : Option ℕ → Option State) → FitsSome (Between p s.now) (known s.now.shared.req) s.now
      → (let after = gone_on t.change t.shared t.out s.now in FitsSome (Between p after) (known after.shared.req) after)
  left_on s new t k known h =
      let after : Configuration = gone_on t.change t.shared t.out s.now in
      subst (λ (req : Option ℕ). FitsSome (Between p after) (known req) after) (sym t.left.req)
      (gone_on_some p s.lasting s.now t.change t.becomes t.shared t.left t.out k.sound k.declared NoneLives (none_kept s.lasting s.now) (known s.now.shared.req) h)

  by_phase : (s new : Standing) (t : OthersGoOn s new) → StandsSound p s → (f : Phase) → IsLeftAlone f → PhaseFits p m f s.lasting s.now
      → PhaseFits p m f s.lasting (gone_on t.change t.shared t.out s.now)
  by_phase s new t k Due alone h = left_on s new t k (before p m) h
  by_phase s new t k Rests alone h = left_on s new t k (resting m) h
  by_phase s new t k Runs alone h = absurd alone
  by_phase s new t k Waits alone h = waits_on s new t k h
  by_phase s new t k Broken alone h = absurd alone

  pub goes_on_stand : (s new : Standing) → StandsAlone p m s → OthersGoOn s new → StandsSound p s → StandsAlone p m new
  goes_on_stand s new h t k = subst (StandsAlone p m) (sym t.is) (by_phase s new t k s.phase t.phase h)

  -- Other connections go on.

  elsewhere_some : (l : Lasting) (r : Configuration) (next pools : ℕ) (files : Files) (out : Out) (o : Option State) → FitsSome (InCall p l r) o r
      → FitsSome (InCall p l (gone_elsewhere next pools files out r)) o (gone_elsewhere next pools files out r)
  unfolding is_live named_at
  elsewhere_some l r next pools files out None h = absurd h
  elsewhere_some l r next pools files out (Some a) h =
      let new : Configuration = gone_elsewhere next pools files out r in
      fits_among (InCall p l r) (InCall p l new) a r new.shared r.pc out
      (covers_more p (pool_view r) (pool_view new) (Lives l r.shared.req) (Lives l r.shared.req) refl (λ n live. live) (λ k n e. by_ref k n e) (λ x alive. alive)) (λ q n made. refl) h where
        by_ref : (k : PoolRef) (n : ℕ) → named_at (pool_view r) k ≡ Some n → named_at (pool_view (gone_elsewhere next pools files out r)) k ≡ Some n
        by_ref pool.Conn n e = e
        by_ref pool.Req n e = e
        by_ref (pool.Own q) n e = e

  pub elsewhere_stand : (s new : Standing) → StandsAlone p m s → GoOnElsewhere s new → StandsAlone p m new
  elsewhere_stand s new h t =
      let runs : RunFits p m s.lasting s.now = in_phase p m s Runs t.phase h in
      let after : Configuration = gone_elsewhere t.next t.pools t.files t.out s.now in
      let there : RunFits p m s.lasting after = record { placed = runs.placed; named = runs.named; fits = elsewhere_some s.lasting s.now t.next t.pools t.files t.out (m.at s.now.pc) runs.fits } in
      subst (StandsAlone p m) (sym t.is) (subst (λ (f : Phase). PhaseFits p m f s.lasting after) (sym t.phase) there)

  -- A pass is answered.

  answer_flows : (l : Lasting) (r : Configuration) (h : WaitFits p m l r) (t : Status) → flows (Some h.state) (m.at (after_pass t (instr.Pass h.passes h.to) r.pc)) ≡ true
  answer_flows l r h Success = h.well
  answer_flows l r h Fail = h.fails

  -- where the pass is this one
  abbrev by_pass : Status → List NamedBucket → Configuration → Instr → Configuration
  by_pass t items r i = record r { instance = given_back (passed_by i) items r.instance; pc = after_pass t i r.pc }

  pub answers_stand : (t : Status) (items : List NamedBucket) (s new : Standing) → StandsAlone p m s → AnswersCall p t items s new → StandsSound p new → StandsAlone p m new
  answers_stand t items s new stands a k = subst (StandsAlone p m) (sym a.is) (record { placed = placed; named = h.named; fits = fits }) where
    h : WaitFits p m s.lasting s.now
    h = in_phase p m s Waits a.phase stands

    there : StandsSound p (record s { phase = Runs; now = answered p t items s.now })
    there = subst (StandsSound p) a.is k

    place : SameHandler p s.now.pc (after_pass t (current p s.now.pc) s.now.pc)
    place = stays_in_handler p s.now.pc _ proper h.placed.at (λ P leads. after_leads P t (current p s.now.pc) h.passes h.to s.now.pc h.at leads)

    placed : IsCallPlaced p s.now.shared.req (after_pass t (current p s.now.pc) s.now.pc)
    placed = record { at = place.inside; opening = λ lt. h.placed.opening (place.opening lt); serving = λ le. h.placed.serving (place.serving le) }

    given : FitsSome (InCall p s.lasting (by_pass t items s.now (instr.Pass h.passes h.to))) (Some h.state) (by_pass t items s.now (instr.Pass h.passes h.to))
    given = fits_aside p (Lives s.lasting s.now.shared.req) (after_pass t (instr.Pass h.passes h.to) s.now.pc) s.now.out s.now.shared.files (Some h.state)
        (record s.now { instance = given_back h.passes items s.now.instance })
        (given_fits (InCall p s.lasting s.now) s.now h.passes items h.handed h.passed.0 h.passed.1 h.state h.fits)

    fits : FitsSome (InCall p s.lasting (answered p t items s.now)) (m.at (after_pass t (current p s.now.pc) s.now.pc)) (answered p t items s.now)
    fits = fits_flow p (Lives s.lasting s.now.shared.req) (greater_fits {lives = Lives s.lasting s.now.shared.req}) (answered p t items s.now) (Some h.state)
        (m.at (after_pass t (current p s.now.pc) s.now.pc)) there.sound there.declared
        (bounded.at (after_pass t (current p s.now.pc) s.now.pc))
        (subst (λ (i : Instr). flows (Some h.state) (m.at (after_pass t i s.now.pc)) ≡ true) (sym h.at) (answer_flows s.lasting s.now h t))
        (subst (λ (i : Instr). FitsSome (InCall p s.lasting (by_pass t items s.now i)) (Some h.state) (by_pass t items s.now i)) (sym h.at) given)
