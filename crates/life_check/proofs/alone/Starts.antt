-- What is known where a call of the instance begins, and where a request begins and ends.
use Rattle.std.proofs.lemmas.List.Elements.{All-weaker}
use Rattle.std.proofs.Common.{◌≡◌, ℕ, ◌<◌, Bool, true, false, ◌||◌, not, ◌==◌, List, [], ◌∷◌, Option, Some, None, is_some, All, inl, inr, refl, sym, ◌∙◌, ap, subst, arith, eq-eqb, eqb-true}
use Rattle.module_code.specs.Program.{Program, IsModule}
use Rattle.module_code.specs.declared.instr.PoolRef.{PoolRef}
use Rattle.module_code.specs.declared.instr.PoolRef.TheVariants as pool
use Rattle.run_model.specs.declared.bucket.Brigade.{Brigade}
use Rattle.run_model.specs.declared.bucket.BrigadeVar.TheVariants as var
use Rattle.run_model.specs.declared.bucket.Home.{Home}
use Rattle.run_model.specs.declared.bucket.Home.TheVariants as home
use Rattle.run_model.specs.declared.bucket.Mark.TheVariants.{Usable}
use Rattle.run_model.specs.declared.bucket.NamedBucket.{NamedBucket}
use Rattle.run_model.specs.declared.bucket.PoolVar.TheVariants as poolvar
use Rattle.run_model.specs.Passing.{handler_at, set_in}
use Rattle.run_model.specs.declared.payload.Payload.{Payload}
use Rattle.run_model.specs.Pools.{Pools, is_in, is_empty, is_live, created}
use Rattle.run_model.specs.State.{Configuration, pool_view, named_at, is_named, fresh_call}
use Rattle.run_model.proofs.Formed.{path_live}
use Rattle.run_model.proofs.PoolMap.{created_lives, created_kept}
use Rattle.model_laws.specs.OpenRuns.{Due, Rests, Runs, Lasting, none_lasts, Standing, called, may_come, request_begun, request_ended, IsOpened, Starts, Begins, Calls, Ends, StandsSound}
use Rattle.model_laws.proofs.alone.Kept.{fresh_in, opened_is}
use Rattle.life_state.specs.declared.parts.Contents.TheVariants.{NoLateData}
use Rattle.life_state.specs.States.{only_call, holds, Unset, State}
use Rattle.life_state.proofs.Tests.{split3}
use Rattle.life_check.specs.Certificates.{Certificate, AllBounded, IsBoundedSome}
use Rattle.life_check.specs.Meaning.{ByConnection, ByCall, NoneLives, Between, FitsBrigade}
use Rattle.life_check.specs.Soundness.{FitsSome}
use Rattle.life_check.specs.Typed.{IsTyped, fits_between, fits_lines, main_from, request_end}
use Rattle.life_check.proofs.alone.Means.{Lives, InCall, IsCallPlaced, StandsAlone, in_phase}
use Rattle.life_check.proofs.Lists.{each_of_all}
use Rattle.life_check.proofs.Orders.{greater_fits}
use Rattle.life_check.proofs.Standards.{resting, fits_flow, unset_differ, covers_begun}
use Rattle.life_check.proofs.Starting.{calm_fits, between_unset}
use Rattle.life_check.proofs.alone.Calls.{before, main_begins, covers_more, fits_among, before_unset, before_flows, ended_fits}

none_some : (n : ℕ) → None ≡ Some n → ⊥
none_some n e = cc

named_first : (name : ℕ) (more : List ℕ) → is_in name (name ∷ more) ≡ true
named_first name more = ap (λ (b : Bool). b || is_in name more) (eq-eqb name name refl)

module _ (p : Program) (m : Certificate) (proper : IsModule p) (bounded : AllBounded m) (typed : IsTyped p m) where
  shapes : (fits_between p m.idle ≡ true) × (fits_between p m.ready ≡ true) × (fits_lines p m ≡ true)
  shapes = split3 (fits_between p m.idle) (fits_between p m.ready) (fits_lines p m) typed.shape

  -- The first standing.

  fresh_fits : (r : Configuration) → FitsSome (Between p (fresh_in r)) (before p m None) (fresh_in r)
  fresh_fits r = record { sent = λ e. e; pools = λ q. refl; brigades = λ b. refl; cursors = λ c. tt; facts = λ i j e. unset_differ }

  pub opened_stands : (r : Configuration) → IsOpened r → StandsAlone p m (record { phase = Due; lasting = none_lasts; now = r })
  opened_stands r o =
      subst (λ (req : Option ℕ). FitsSome (Between p r) (before p m req) r) (sym o.req)
      (subst (λ (x : Configuration). FitsSome (Between p x) (before p m None) x) (opened_is r o) (fresh_fits r))

  -- `open` or `init` begins.

  handler_placed : (req : Option ℕ) → IsCallPlaced p req (handler_at req p)
  handler_placed None = record { at = proper.opens; opening = λ h. refl; serving = λ le. absurd (let some : 0 < p.init = proper.opening.some in omega arith) }
  handler_placed (Some n) = record { at = proper.inits; opening = λ h. absurd (omega arith); serving = λ le. refl }

  called_fits : (l : Lasting) (r : Configuration) (name next pc : ℕ) (o : Option State) → ((s : State) → o ≡ Some s → (i : ℕ) → s.cursors i ≡ Unset) → FitsSome (Between p r) o r
      → FitsSome (InCall p l (called name next pc r)) o (called name next pc r)
  called_fits l r name next pc None unset h = absurd h
  called_fits l r name next pc (Some s) unset h =
      let new : Configuration = called name next pc r in
      calm_fits (Between p r) (InCall p l new) s r (fresh_call name) new.shared pc r.out (unset s refl) (λ i j e. unset_differ)
      (covers_begun p (pool_view r) (pool_view new) (Lives l r.shared.req) refl (λ n live. live) (λ k n e. e)) (λ q n made. refl) h

  pub starts_stand : (s new : Standing) → StandsAlone p m s → (t : Starts p s new) → StandsSound p new → StandsAlone p m new
  starts_stand s new h t k = subst (StandsAlone p m) (sym t.is) (record {
    placed = handler_placed s.now.shared.req;
    named = named_first t.name [];
    fits = fits_flow p (Lives l s.now.shared.req) (greater_fits {lives = Lives l s.now.shared.req}) after (before p m s.now.shared.req)
        (m.at (handler_at s.now.shared.req p)) there.sound there.declared (bounded.at (handler_at s.now.shared.req p))
        (before_flows p m s.now.shared.req typed)
        (called_fits l s.now t.name t.next (handler_at s.now.shared.req p) (before p m s.now.shared.req) (λ u is. before_unset p m s.now.shared.req u bounded typed is) (in_phase p m s Due t.phase h));
  }) where
    l : Lasting
    l = record { calls = t.name ∷ []; pools = [] }

    after : Configuration
    after = called t.name t.next (handler_at s.now.shared.req p) s.now

    there : StandsSound p (record { phase = Runs; lasting = record { calls = t.name ∷ []; pools = [] }; now = called t.name t.next (handler_at s.now.shared.req p) s.now })
    there = subst (StandsSound p) t.is k

  -- `main` begins.

  come_covered : (l : Lasting) (r new : Configuration) → new.shared.pools ≡ r.shared.pools → new.shared.conn ≡ r.shared.conn → new.shared.req ≡ r.shared.req
      → is_live r.shared.pools r.shared.conn ≡ true
      → ((n : ℕ) → r.shared.req ≡ Some n → is_live r.shared.pools n ≡ true) → ((n : ℕ) → is_in n l.pools ≡ true → is_live r.shared.pools n ≡ true)
      → (x : Home) → may_come l r x ≡ true → InCall p l new only_call x
  come_covered l r new pools conn req conn_lives req_lives lasts home.Free may = tt
  come_covered l r new pools conn req conn_lives req_lives lasts (home.Call n) may = (refl, may)
  come_covered l r new pools conn req conn_lives req_lives lasts (home.Pool n) may = by_test (n == r.shared.conn) (is_named r.shared.req n) (is_in n l.pools) refl refl refl may where
    there : is_live r.shared.pools n ≡ true → is_live new.shared.pools n ≡ true
    there live = subst (λ (ps : Pools Payload). is_live ps n ≡ true) (sym pools) live

    named_is : (o : Option ℕ) → is_named o n ≡ true → o ≡ Some n
    named_is None e = absurd (let no : false ≡ true = e in cc)
    named_is (Some k) e = ap (λ (j : ℕ). Some j) (sym (eqb-true n k e))

    by_test : (a b c : Bool) → (n == r.shared.conn) ≡ a → is_named r.shared.req n ≡ b → is_in n l.pools ≡ c → (a || b || c) ≡ true → InCall p l new only_call (home.Pool n)
    by_test true b c is_conn is_req is_kept e =
        (let same = eqb-true n r.shared.conn is_conn in (there (subst (λ (k : ℕ). is_live r.shared.pools k ≡ true) (sym same) conn_lives), ByConnection (same ∙ sym conn)))
    by_test false true c is_conn is_req is_kept e = (let named = named_is r.shared.req is_req in (there (req_lives n named), ByCall refl (inl (req ∙ named))))
    by_test false false true is_conn is_req is_kept e = (there (lasts n is_kept), ByCall refl (inr is_kept))
    by_test false false false is_conn is_req is_kept e = absurd (let no : false ≡ true = e in cc)
  come_covered l r new pools conn req conn_lives req_lives lasts home.Ended may = absurd (let no : false ≡ true = may in cc)

  some_ready : (req : Option ℕ) → is_some req ≡ true → resting m req ≡ m.ready
  some_ready None e = absurd (let no : false ≡ true = e in cc)
  some_ready (Some n) e = refl

  main_fits : (l : Lasting) (r : Configuration) (name next : ℕ) (made : Brigade) (o : Option State) → IsBoundedSome o → fits_between p o ≡ true
      → (let new = called name next p.main (record r { instance = set_in (var.Live made) r.instance }) in FitsBrigade (InCall p l new) (holds NoLateData only_call) (var.Live made)
      → FitsSome (Between p r) o r → FitsSome (InCall p l new) (main_from o) new)
  main_fits l r name next made None bound shape handed h = absurd h
  main_fits l r name next made (Some s) bound shape handed h =
      main_begins p (Lives l r.shared.req) (var.Live made) s r name next p.main (between_unset p (Some s) s bound shape refl) handed h

  pub calls_stand : (items : List NamedBucket) (s new : Standing) → StandsAlone p m s → (t : Calls p items s new) → StandsSound p s → StandsSound p new → StandsAlone p m new
  calls_stand items s new h t was k = subst (StandsAlone p m) (sym t.is) (record {
    placed = record { at = proper.mains; opening = λ e. absurd (let low : p.init < p.main = proper.initial.some in omega arith); serving = λ le. t.request };
    named = named_first t.name t.waiting;
    fits = fits_flow p (Lives l s.now.shared.req) (greater_fits {lives = Lives l s.now.shared.req}) after (main_from m.ready) (m.at p.main) there.sound there.declared (bounded.at p.main) typed.serves
        (main_fits l s.now t.name t.next made m.ready bounded.ready shapes.1 (refl, (refl, t.ordered, each_of_all (λ x. InCall p l after only_call x.bucket.home) items covered)) ready);
  }) where
    l : Lasting
    l = record { calls = t.name ∷ t.waiting; pools = t.pools }

    made : Brigade
    made = record { name = t.brigade; on = None; mark = Usable; items = items }

    after : Configuration
    after = called t.name t.next p.main (record s.now { instance = set_in (var.Live (record { name = t.brigade; on = None; mark = Usable; items = items })) s.now.instance })

    there : StandsSound p (record {
      phase = Runs;
      lasting = record { calls = t.name ∷ t.waiting; pools = t.pools };
      now = called t.name t.next p.main (record s.now { instance = set_in (var.Live (record { name = t.brigade; on = None; mark = Usable; items = items })) s.now.instance });
    })
    there = subst (StandsSound p) t.is k

    ready : FitsSome (Between p s.now) m.ready s.now
    ready = subst (λ (o : Option State). FitsSome (Between p s.now) o s.now) (some_ready s.now.shared.req t.request) (in_phase p m s Rests t.phase h)

    covered : All (λ x. InCall p l after only_call x.bucket.home) items
    covered = All-weaker (λ x. may_come l s.now x.bucket.home ≡ true) (λ x. InCall p l after only_call x.bucket.home)
        (λ x may. come_covered l s.now after refl refl refl was.sound.pools.conn (λ n e. path_live s.now.shared.pools n n _ (was.sound.pools.req n e).0)
        (λ n kept. (t.others n kept).live) x.bucket.home may) items t.homes

  -- A request begins.

  begun_named : (r : Configuration) → r.shared.req ≡ None → (k : PoolRef) (n : ℕ) → named_at (pool_view r) k ≡ Some n → named_at (pool_view (request_begun r)) k ≡ Some n
  unfolding named_at
  begun_named r none pool.Conn n e = e
  begun_named r none pool.Req n e = absurd (none_some n (sym none ∙ e))
  begun_named r none (pool.Own q) n e = e

  live_kept : (r : Configuration) (n : ℕ) → n < r.shared.pools.next → is_live (created r.shared.conn r.shared.pools) n ≡ is_live r.shared.pools n
  unfolding is_live
  live_kept r n lt = ap (λ (xs : List ℕ). not (is_empty xs)) (created_kept r.shared.conn r.shared.pools n lt)

  begun_fits : (r : Configuration) → r.shared.req ≡ None → ((q n : ℕ) → r.instance.pools q ≡ poolvar.Made n → n < r.shared.pools.next) → (o : Option State) → FitsSome (Between p r) o r
      → FitsSome (Between p (request_begun r)) o (request_begun r)
  begun_fits r none given None h = absurd h
  begun_fits r none given (Some s) h =
      let new : Configuration = request_begun r in
      fits_among (Between p r) (Between p new) s r new.shared r.pc r.out
      (covers_more p (pool_view r) (pool_view new) NoneLives NoneLives refl (λ n live. created_lives r.shared.conn r.shared.pools n live) (begun_named r none) (λ x l. l))
      (λ q n made. live_kept r n (given q n made)) h

  pub begins_stand : (s new : Standing) → StandsAlone p m s → Begins s new → StandsSound p s → StandsAlone p m new
  begins_stand s new h t k =
      subst (StandsAlone p m) (sym t.is)
      (begun_fits s.now t.none (λ q n made. (k.sound.pools.own q n made).1) m.idle
      (subst (λ (req : Option ℕ). FitsSome (Between p s.now) (resting m req) s.now) t.none (in_phase p m s Rests t.phase h)))

  -- A request ends.
  pub ends_stand : (s new : Standing) → StandsAlone p m s → Ends s new → StandsSound p s → StandsSound p new → StandsAlone p m new
  ends_stand s new h t was k =
      let ready : FitsSome (Between p s.now) m.ready s.now = subst (λ (req : Option ℕ). FitsSome (Between p s.now) (resting m req) s.now) t.opened (in_phase p m s Rests t.phase h) in
      let there : StandsSound p (record { phase = Rests; lasting = none_lasts; now = request_ended t.req s.now }) = subst (StandsSound p) t.is k in
      subst (StandsAlone p m) (sym t.is)
      (fits_flow p NoneLives (greater_fits {lives = NoneLives}) (request_ended t.req s.now) (request_end p m.ready) m.idle there.sound there.declared bounded.idle typed.requests
      (ended_fits p t.req s.now m.ready proper was.sound was.declared t.opened ready))
