-- A connection that is there stays there at its own events, and its close is refused for lack of memory alone.
use Rattle.std.proofs.Common.{◌≡◌, ℕ, ◌+◌, Bool, true, false, List, [], ◌∷◌, Option, Some, None, Result, Ok, Err, sym, subst, ap}
use Rattle.module_code.specs.Program.{Program}
use Rattle.run_model.specs.declared.event.Event.{Event}
use Rattle.run_model.specs.declared.event.Event.TheVariants as event
use Rattle.run_model.specs.declared.event.Refusal.{Refusal}
use Rattle.run_model.specs.declared.event.Refusal.TheVariants as refusal
use Rattle.run_model.specs.declared.event.Stepped.{Stepped}
use Rattle.run_model.specs.Chains.{Connection, Linked}
use Rattle.run_model.specs.Turns.{opened}
use Rattle.run_model.specs.Worlds.{World, Told, Answer, Connected, Refused, answered, closes, file_answered, happens_on, opens, opens_if, put_conn, step_answered}
use Rattle.run_model.proofs.Updates.{upd_at}
use Rattle.filter_chain.specs.HostViews.{HostView, Answers}
use Rattle.http_front.specs.Driven.{GoesBy, IsOfConn}

-- the connection of this number is in a world
abbrev pub ConnIsThere : ℕ → World → Type 0
ConnIsThere k w = (c : Connection) × (w.conns k ≡ Some c)

put_there : (k : ℕ) (v : Linked) (w : World) → ConnIsThere k (put_conn k v w)
put_there k v w = (v.1, upd_at w.conns k (Some v.1))

module _ (k : ℕ) (w : World) (there : ConnIsThere k w) where
  answered_there : (r : Option Refusal × Linked) → ConnIsThere k (answered k w r).1
  answered_there (None, v) = put_there k v w
  answered_there (Some r, v) = there

  file_there : (r : Result (ℕ × ℕ) Refusal × Linked) → ConnIsThere k (file_answered k w r).1
  file_there (Ok f, v) = put_there k v w
  file_there (Err r, v) = there

  step_there : (r : Result Stepped Refusal × Linked) → ConnIsThere k (step_answered k w r).1
  step_there (Ok s, v) = put_there k v w
  step_there (Err r, v) = put_there k v w

  stays_on : (memory : Bool) (budget : ℕ) (chain : List Program) (told : Told) (what : Event) (c : Connection) → IsOfConn what → ConnIsThere k (happens_on memory budget chain told what k (Some c) w).1
  unfolding happens_on
  stays_on memory budget chain told event.Begin c own = answered_there _
  stays_on memory budget chain told (event.OpenFile name) c own = file_there _
  stays_on memory budget chain told (event.Bring pieces) c own = answered_there _
  stays_on memory budget chain told event.Step c own = step_there _
  stays_on memory budget chain told event.End c own = answered_there _
  stays_on memory budget chain told event.TakeOutput c own = put_there k (w.common, record c { out = record c.out { bytes = [] } }) w
  stays_on memory budget chain told what c own = absurd own

module _ (budget : ℕ) (chain : List Program) (number : ℕ) where
  stays : (what : Event) (answer : Answer) (s t : HostView) → IsOfConn what → Answers budget chain number what s answer t → ConnIsThere number s.world → ConnIsThere number t.world
  stays what answer s t own acts there =
      let as_is = stays_on number s.world there acts.memory budget chain acts.told what there.0 own in
      let is : happens_on acts.memory budget chain acts.told what number (Some there.0) s.world ≡ (answer, t.world) = subst
      (λ (o : Option Connection). happens_on acts.memory budget chain acts.told what number o s.world ≡ (answer, t.world)) there.1 acts.is in
      subst (λ (p : Answer × World). ConnIsThere number p.1) is as_is

  pub goes_there : (events : List (Event × Answer)) (s t : HostView) → GoesBy budget chain number events s t → ConnIsThere number s.world → ConnIsThere number t.world
  unfolding GoesBy
  goes_there [] s t same there = subst (λ (v : HostView). ConnIsThere number v.world) (sym same) there
  goes_there (x ∷ xs) s t goes there = stays x.0 x.1 goes.0 t goes.2 goes.3 (goes_there xs s goes.0 goes.1 there)

  refused_by : (memory : Bool) (c : Connection) (w v : World) (why : Refusal) → closes memory number c w ≡ (Refused why, v) → why ≡ refusal.NoMemory
  refused_by true c w v why is = let told = ap (λ (p : Answer × World). p.0) is in cc
  refused_by false c w v why is = let told = ap (λ (p : Answer × World). p.0) is in cc

  pub close_refused : (why : Refusal) (s t : HostView) → Answers budget chain number event.Close s (Refused why) t → ConnIsThere number s.world → why ≡ refusal.NoMemory
  unfolding happens_on
  close_refused why s t acts there =
      refused_by acts.memory there.0 s.world t.world why (subst
      (λ (o : Option Connection). happens_on acts.memory budget chain acts.told event.Close number o s.world ≡ (Refused why, t.world)) there.1 acts.is)

  -- one that is opened is there
  opened_if : (why : Option Refusal) (w v : World) → opens_if why chain w ≡ (Connected number, v) → ConnIsThere number v
  opened_if (Some r) w v is = let told = ap (λ (p : Answer × World). p.0) is in cc
  opened_if None w v is =
      let told : Connected (w.last + 1) ≡ Connected number = ap (λ (p : Answer × World). p.0) is in
      let same : w.last + 1 ≡ number = cc in
      subst (λ (x : World). ConnIsThere number x) (ap (λ (p : Answer × World). p.1) is)
      (subst (λ (n : ℕ). ConnIsThere n (opens_if None chain w).1) same (put_there (w.last + 1) (opened chain w.common) (record w { last = w.last + 1 })))

  pub open_there : (s t : HostView) → Answers budget chain 0 event.Open s (Connected number) t → ConnIsThere number t.world
  unfolding happens_on opens
  open_there s t acts = opened_if _ s.world t.world acts.is
