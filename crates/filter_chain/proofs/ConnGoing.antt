-- Steps of one connection, one after another, are steps of its host.
use Rattle.std.proofs.Common.{◌≡◌, ℕ, zero, suc, ◌+◌, List, Option, Some, None, Result, Ok, Err, refl, sym, ◌∙◌, ap, subst, inl, inr, arith}
use Rattle.std.proofs.Math.Path.{fun_ext}
use Rattle.module_code.specs.Program.{Program}
use Rattle.run_model.specs.declared.event.Event.TheVariants as event
use Rattle.run_model.specs.declared.event.Refusal.{Refusal}
use Rattle.run_model.specs.declared.event.Refusal.TheVariants as refusal
use Rattle.run_model.specs.declared.event.Stepped.{Stepped}
use Rattle.run_model.specs.declared.event.Stepped.TheVariants as stepped
use Rattle.run_model.specs.Indexed.{upd}
use Rattle.run_model.specs.Worlds.{World, Refused}
use Rattle.run_model.proofs.Updates.{upd_at, upd_either}
use Rattle.bucket_kinds.specs.Device.{Device}
use Rattle.module_run.specs.declared.conn.Conn.{Conn}
use Rattle.module_run.specs.ConnRuns.{CanGoOn, ConnGoesOn, ConnStepsOn, StepAnswers, conn_view}
use Rattle.filter_chain.specs.declared.conns.Conns.{Conns}
use Rattle.filter_chain.specs.Hosted.{conn_at}
use Rattle.filter_chain.specs.Hosting.{Ghosts, Host, Stored, HoldsWorld, IsHosting, budget_of, chain_of, step_answer}
use Rattle.filter_chain.specs.HostViews.{Answers}
use Rattle.filter_chain.specs.Led.{IsAlive, Refines}
use Rattle.filter_chain.specs.Running.{HostGoesOn, StepsOn}
use Rattle.filter_chain.specs.Safe.{GoesWell, IsSafe}
use Rattle.filter_chain.proofs.Driving.{HappenedInAny, by_event, leads_as, leads_on}
use Rattle.filter_chain.proofs.Faultless.{can_step, is_faultless}
use Rattle.filter_chain.proofs.Going.{IsGoing, going_on, safe_still}
use Rattle.filter_chain.proofs.HostEvents.{lent, none_found, served}
use Rattle.filter_chain.proofs.KnownEvents.{steps_serves}
use Rattle.filter_chain.proofs.Lent.{IsLent, ViewIn, host_with}
use Rattle.filter_chain.proofs.Safety.{happens_well}

-- what is written at a number is there, whatever was
over_written : {X : Type 0} (f g h : ℕ → X) (i : ℕ) (x y : X) → ((k : ℕ) → g k ≡ upd f i x k) → ((k : ℕ) → h k ≡ upd f i y k) → (k : ℕ) → h k ≡ upd g i y k
over_written f g h i x y is too k = elim (upd_either f i k y) [
  | inl here ↦ (elim (upd_either g i k y) [ inl p ↦ too k ∙ here.1 ∙ sym p.1 | inr p ↦ absurd (p.0 here.0) ])
  | inr off ↦ (elim (upd_either g i k y) [
    | inl p ↦ absurd (off.0 p.0)
    | inr p ↦ (elim (upd_either f i k x) [ inl q ↦ absurd (off.0 q.0) | inr q ↦ too k ∙ (off.1 ∙ (sym q.1 ∙ (sym (is k) ∙ sym p.1))) ])
  ])
]

written_same : {X : Type 0} (f : ℕ → X) (i : ℕ) (x : X) → f i ≡ x → (k : ℕ) → f k ≡ upd f i x k
written_same f i x is k = elim (upd_either f i k x) [ inl p ↦ ap f p.0 ∙ (is ∙ sym p.1) | inr p ↦ sym p.1 ]

-- One step of a connection that was looked up, by modules that are the chain.
pub one_step : {F R : Type 0} {g : Ghosts R Stored} (device : F → Device) (host : Host F R g) (number : ℕ) {conn0 : Conn} {table : Conn → Conns} → IsLent host.conns number conn0 table
    → {modules : List Program}
    → modules ≡ chain_of host
    → (b : ViewIn host) (answer : Result Stepped Refusal) → StepAnswers device (budget_of host) modules host.chain.bare (conn_view conn0 host.tree host.store host.files) answer b
    → HappenedInAny device host (host_with host table b) number event.Step (step_answer answer)
one_step device host number here {modules} same b answer x w hosts =
    served device host number here w hosts event.Step (step_answer answer) b x.leaves
    (λ c s so given. steps_serves same s given (x.step _ (record { stands = lent same so; faultless = is_faultless (device host.files) host number w hosts modules same c s })))

module _ {F R : Type 0} {g : Ghosts R Stored} (device : F → Device) (host : Host F R g) (number : ℕ) {conn0 : Conn} {table : Conn → Conns} (here : IsLent host.conns number conn0 table) where
  abbrev GoingView : Type 0
  GoingView = ViewIn host

  abbrev pub with_view : GoingView → Host F R g
  with_view = host_with host table

  abbrev pub begun : GoingView
  begun = conn_view conn0 host.tree host.store host.files

  lent_still : (x : Conn) → IsLent (table x) number x table
  lent_still x = record {
    at = here.holds x number ∙ upd_at (conn_at host.conns) number (Some x);
    holds = λ y. over_written (conn_at host.conns) (conn_at (table x)) (conn_at (table y)) number (Some x) (Some y) (here.holds x) (here.holds y);
  }

  abbrev ViewsGoOn : ℕ → GoingView → GoingView → Type 0
  ViewsGoOn = ConnGoesOn device (budget_of host) (chain_of host) host.chain.bare

  next_step : (a b : GoingView) (answer : Result Stepped Refusal) → StepAnswers device (budget_of host) (chain_of host) host.chain.bare a answer b
      → HappenedInAny device (with_view a) (with_view b) number event.Step (step_answer answer)
  unfolding chain_of budget_of
  next_step a b answer = one_step device (with_view a) number (lent_still a.conn) refl b answer

  -- it is there as it was
  begins : IsAlive device host → IsGoing device host (with_view begun) number 0
  unfolding IsHosting HostGoesOn chain_of budget_of
  begins alive = record {
    alive = (alive.0, there alive.0 alive.1);
    chain = refl;
    goes = λ w hosts. record { to = w; did = refl; hosts = there w hosts; chain = refl; budget = refl };
  } where
    there : (w : World) → HoldsWorld (budget_of host) (chain_of host) (device host.files) host.tree host.store host.last (conn_at host.conns) w
        → HoldsWorld (budget_of host) (chain_of host) (device host.files) host.tree host.store host.last (conn_at (table conn0)) w
    there w hosts =
        subst (λ (f : ℕ → Option Conn). HoldsWorld (budget_of host) (chain_of host) (device host.files) host.tree host.store host.last f w)
        (fun_ext (λ k. written_same (conn_at host.conns) number (Some conn0) here.at k ∙ sym (here.holds conn0 k))) hosts

  many_go : (n made : ℕ) (a b : GoingView) → ViewsGoOn n a b → IsGoing device host (with_view a) number made → IsGoing device host (with_view b) number (made + n)
  unfolding ConnGoesOn
  many_go zero made a b same so =
      subst (λ (n : ℕ). IsGoing device host (with_view b) number n) (let e : made ≡ made + 0 = omega arith in e) (subst (λ (z : GoingView). IsGoing device host (with_view z) number made)
      (sym same) so)
  many_go (suc n) made a b (mid, (first, more)) so =
      subst (λ (m : ℕ). IsGoing device host (with_view b) number m) (let e : suc made + n ≡ made + suc n = omega arith in e)
      (many_go n (suc made) mid b more (going_on device number host (with_view a) (with_view mid) made so (Ok stepped.Went) (next_step a mid (Ok stepped.Went) first) refl))

  module _ (alive : IsAlive device host) where
    went_on : (n : ℕ) (b : GoingView) → ViewsGoOn n begun b → IsGoing device host (with_view b) number n
    went_on n b goes = subst (λ (m : ℕ). IsGoing device host (with_view b) number m) (let e : 0 + n ≡ n = omega arith in e) (many_go n 0 begun b goes (begins alive))

    -- By these modules, which are the chain.
    module _ {modules : List Program} (same : modules ≡ chain_of host) where
      pub can_go : CanGoOn device (budget_of host) modules host.chain.bare begun
      unfolding chain_of budget_of
      can_go n b goes =
          let on = went_on n b (subst (λ (m : List Program). ConnGoesOn device (budget_of host) m host.chain.bare n begun b) same goes) in
          let can = can_step (device b.files) (with_view b) number on.alive.0 on.alive.1 modules same b.conn (lent_still b.conn).at in
          (can.0, record { stands = can.1.0; faultless = can.1.1 })

      module _ (more : ℕ) (b : GoingView) (answer : Result Stepped Refusal) (end : ConnStepsOn device (budget_of host) modules host.chain.bare more begun answer b) where
        goes : ViewsGoOn end.count begun end.before
        goes = subst (λ (m : List Program). ConnGoesOn device (budget_of host) m host.chain.bare end.count begun end.before) same end.goes

        last : HappenedInAny device (with_view end.before) (with_view b) number event.Step (step_answer answer)
        last = next_step end.before b answer (subst (λ (m : List Program). StepAnswers device (budget_of host) m host.chain.bare end.before answer b) same end.last)

        pub ends : Refines device host (with_view b) (λ b c s t. StepsOn b c number more s answer t) × (IsSafe host → GoesWell answer)
        ends =
            let on = went_on end.count end.before goes in (
              leads_on device host (with_view end.before) (with_view b) (λ b c s t. HostGoesOn b c number end.count s t) (λ b c s t. Answers b c number event.Step s (step_answer answer) t)
                  (λ b c s t. StepsOn b c number more s answer t)
                  (λ b c s m t g a. record { count = end.count; before = m; few = end.few; goes = g; last = a; stops = end.stops }) on.goes
                  (by_event device (with_view end.before) (with_view b) number event.Step (step_answer answer) last),
              λ safe. happens_well (device end.before.files) (device b.files) (with_view end.before) (with_view b) number event.Step (step_answer answer) on.alive.0 on.alive.1
                  (safe_still host (with_view end.before) on.chain safe) (last on.alive.0 on.alive.1),
            )

-- There is no such connection.
pub none_on : {F R : Type 0} {g : Ghosts R Stored} (device : F → Device) (host : Host F R g) (number more : ℕ) (left : Conns) → left.by_number ≡ host.conns.by_number → conn_at host.conns number ≡ None
    → Refines device host (record host { conns = left }) (λ b c s t. StepsOn b c number more s (Err refusal.NoSuchConn) t)
unfolding HostGoesOn
none_on device host number more left same at =
    leads_as device host (record host { conns = left }) (λ b c s t. Answers b c number event.Step s (step_answer (Err refusal.NoSuchConn)) t)
    (λ b c s t. StepsOn b c number more s (Err refusal.NoSuchConn) t)
    (λ b c s t a. record { count = 0; before = s; few = omega arith; goes = refl; last = a; stops = λ e. absurd (cc) })
    (by_event device host (record host { conns = left }) number event.Step (Refused refusal.NoSuchConn) (none_found device host number left same at event.Step tt))
