-- A pass to the next filter leaves what each instance sees reached by an open run.
use Rattle.std.proofs.Common.{◌≡◌, ◌≢◌, ℕ, ◌+◌, ◌^◌, ◌<◌, ◌≤◌, Bool, true, false, ◌==◌, ◌||◌, List, [], ◌∷◌, ◌++◌, Option, Some, None, is_some, All, inl, inr, refl, sym, ◌∙◌, ap, subst, arith, eq-eqb, ne_eqb}
use Rattle.std.specs.List.{list_any}
use Rattle.std.proofs.lemmas.Bool.{cases_lt, or_left, or_right}
use Rattle.std.proofs.lemmas.List.Elements.{All-nil, All-cons, All-head, All-tail}
use Rattle.std.proofs.lemmas.Option.{none-some, same_Some}
use Rattle.module_code.specs.declared.instr.Instr.TheVariants as instr
use Rattle.module_code.specs.declared.instr.PoolRef.{PoolRef}
use Rattle.module_code.specs.declared.instr.PoolRef.TheVariants as pool
use Rattle.module_code.specs.Program.{Program, IsModule}
use Rattle.run_model.specs.declared.bucket.Brigade.{Brigade}
use Rattle.run_model.specs.declared.bucket.BrigadeVar.{BrigadeVar}
use Rattle.run_model.specs.declared.bucket.BrigadeVar.TheVariants as var
use Rattle.run_model.specs.declared.bucket.Home.{Home}
use Rattle.run_model.specs.declared.bucket.Home.TheVariants as home
use Rattle.run_model.specs.declared.bucket.Mark.TheVariants.{Usable}
use Rattle.run_model.specs.declared.bucket.NamedBucket.{NamedBucket}
use Rattle.run_model.specs.declared.bucket.PoolVar.{PoolVar}
use Rattle.run_model.specs.declared.bucket.PoolVar.TheVariants as poolvar
use Rattle.run_model.specs.Buckets.{is_dead, is_ended}
use Rattle.run_model.specs.Chains.{Frame, Connection, Common, Linked, configuration, pools_of, places, module_at, IsChain}
use Rattle.run_model.specs.Effects.{do_pass}
use Rattle.run_model.specs.Faults.{usable_fault, fault}
use Rattle.run_model.specs.Indexed.{upd}
use Rattle.run_model.specs.Passing.{handed_in, set_in, passed_to}
use Rattle.run_model.specs.Pools.{is_in, is_live}
use Rattle.run_model.specs.Sound.{sum_below, count_named, count, brigade_name}
use Rattle.run_model.specs.State.{Configuration, Instance, fresh_call, items_of, named_at, pool_named, is_named, set_brigade}
use Rattle.run_model.specs.Steps.{current, lacks_names}
use Rattle.run_model.proofs.Names.{count_none}
use Rattle.run_model.proofs.Sums.{term_below, two_below}
use Rattle.run_model.proofs.Updates.{upd_at, upd_off, upd_either}
use Rattle.model_laws.specs.ChainOrder.{has_call}
use Rattle.model_laws.specs.ChainSound.{count_at, count_in, ChainSound, IsNested, IsFramePlaced}
use Rattle.model_laws.specs.OpenRuns.{Rests, Runs, Waits, Lasting, none_lasts, Main, Done, IsHomeKept, may_come, IsOthers, Come, LeaveShared, called, IsMove}
use Rattle.model_laws.proofs.Marks.{first_none}
use Rattle.model_laws.proofs.NamedPools.{own_named}
use Rattle.model_laws.proofs.StepFiles.{neither}
use Rattle.model_laws.proofs.alone.Homes.{usable_unpassed}
use Rattle.model_laws.proofs.alone.Passing.{pass_may}
use Rattle.model_laws.proofs.chains.Apart.{own_is, under_no_other}
use Rattle.model_laws.proofs.chains.Modules.{module_at_proper}
use Rattle.model_laws.proofs.chains.Stacks.{StandsOnTop, stands_on_top}
use Rattle.model_laws.proofs.seen.Handed.{live_own, own_live, live_in, in_more, in_behind, in_either}
use Rattle.model_laws.proofs.seen.InPlace.{running, pass_goes, not_there, none_more, stack_of, rest_of}
use Rattle.model_laws.proofs.seen.Left.{naming}
use Rattle.model_laws.proofs.seen.Reach.{ReachedAlone, go, reached_sound, reached_kept}
use Rattle.model_laws.proofs.seen.Seen.{names_in, IsNamedIn, SeenCall, AllWaitSeen, SeenRest, ChainSeen, resting, rest_phase, rest_alone}
use Rattle.model_laws.proofs.seen.Settle.{settle}

record LiveAt (x : BrigadeVar) : Type 0 where
  held : Brigade
  is : x ≡ var.Live held

live_at : (x : BrigadeVar) → usable_fault x ≡ None → LiveAt x
live_at var.Null e = absurd (cc)
live_at var.Gone e = absurd (cc)
live_at (var.Live v) e = record { held = v; is = refl }

-- no call of a later module waits
below_none : (k : ℕ) (u : Frame) (fs : List Frame) → u.of < k → IsNested u fs → has_call fs k ≡ false
unfolding IsNested has_call
below_none k u [] lt nested = refl
below_none k u (w ∷ fs) lt nested =
    ap (λ (x : Bool). x || has_call fs k) (ne_eqb w.of k (λ same. absurd (omega (arith, same, lt, nested.0)))) ∙ below_none k w fs (omega (arith, lt, nested.0)) nested.1

-- one that waits names it
naming_below : (c : Connection) (k n : ℕ) (u : Frame) (fs : List Frame) → u.of < k → IsNested u fs → IsNamedIn c fs n → (v : Frame) × (v.of ≢ k) × ((q : ℕ) × ((c.instances v.of).pools q ≡ poolvar.Made n))
naming_below c k n u fs lt nested e = naming c k n u fs (omega arith) nested e

module _ (chain : List Program) (g : Common) (c : Connection) (f : Frame) (rest : List Frame) (chained : IsChain chain) (sound : ChainSound chain g c) (on_top : c.stack ≡ f ∷ rest)
    (b to k : ℕ) (at_pass : current (module_at chain f.of) f.pc ≡ instr.Pass b to) (faultless : fault (module_at chain f.of) (configuration g c f) (instr.Pass b to) ≡ None)
    (names : lacks_names (configuration g c f) (instr.Pass b to) ≡ false) (later : f.of < k) (inside : k < places chain) (limit : g.next + 1 < 2 ^ 64)
    (new_sound : ChainSound chain (passed_to (module_at chain k) k b f rest (g, c)).0 (passed_to (module_at chain k) k b f rest (g, c)).1) (seen : ChainSeen chain g c) where
  abbrev pub handed : Linked
  handed = passed_to (module_at chain k) k b f rest (g, c)

  abbrev callee : Frame
  callee = record { of = k; call = fresh_call g.next; pc = (module_at chain k).main }

  abbrev r : Configuration
  r = configuration g c f

  proper : (j : ℕ) → IsModule (module_at chain j)
  proper = module_at_proper chain chained

  known : StandsOnTop chain g.next c.req c.queue f rest
  known = stands_on_top chain g c f rest on_top sound.calls

  call : SeenCall Runs chain g c f rest
  call = (stack_of chain g c f rest on_top seen).0

  -- Instances.

  pools_same : (j : ℕ) → (handed.1.instances j).pools ≡ (c.instances j).pools
  unfolding passed_to set_brigade configuration
  pools_same j = elim (upd_either (upd c.instances f.of (do_pass b r).instance) k j (set_in (handed_in (r.instance.brigades b)) (upd c.instances f.of (do_pass b r).instance k))) [
    | inl here ↦ ap (λ (x : Instance). x.pools) here.1 ∙ (in_here k ∙ ap (λ (n : ℕ). (c.instances n).pools) (sym here.0))
    | inr off ↦ ap (λ (x : Instance). x.pools) off.1 ∙ in_here j
  ] where
    in_here : (n : ℕ) → (upd c.instances f.of (do_pass b r).instance n).pools ≡ (c.instances n).pools
    in_here n = elim (upd_either c.instances f.of n (do_pass b r).instance) [
      | inl at ↦ ap (λ (x : Instance). x.pools) at.1 ∙ ap (λ (m : ℕ). (c.instances m).pools) (sym at.0)
      | inr away ↦ ap (λ (x : Instance). x.pools) away.1
    ]

  other_same : (j : ℕ) → j ≢ f.of → j ≢ k → handed.1.instances j ≡ c.instances j
  unfolding passed_to
  other_same j off_f off_k = upd_off (upd c.instances f.of (do_pass b r).instance) k j _ off_k ∙ upd_off c.instances f.of j (do_pass b r).instance off_f

  caller_is : handed.1.instances f.of ≡ (do_pass b r).instance
  unfolding passed_to
  caller_is = upd_off (upd c.instances f.of (do_pass b r).instance) k f.of _ (λ same. absurd (omega (arith, same, later))) ∙ upd_at c.instances f.of (do_pass b r).instance

  named_still : (fs : List Frame) (n : ℕ) → IsNamedIn c fs n → IsNamedIn handed.1 fs n
  unfolding IsNamedIn
  named_still [] n e = e
  named_still (w ∷ fs) n (inl e) = inl (e.0, ap (λ (pools : ℕ → PoolVar). pools e.0) (pools_same w.of) ∙ e.1)
  named_still (w ∷ fs) n (inr e) = inr (named_still fs n e)

  -- Others.

  left_same : (l : Lasting) (w : Frame) → LeaveShared l (configuration g c w) (configuration handed.0 handed.1 w).shared
  unfolding configuration passed_to
  left_same l w = record {
    conn = refl;
    req = refl;
    pools = (sound.pools.sound w).formed;
    stay = λ n lasts. refl;
    rises = (omega arith, omega arith);
    limits = (limit, (sound.pools.sound w).limit);
  }

  other_waits : (u : Frame) (fs : List Frame) → u.of ≤ f.of → IsNested u fs → AllWaitSeen chain g c fs → AllWaitSeen chain handed.0 handed.1 fs
  unfolding IsNested AllWaitSeen configuration passed_to
  other_waits u [] le nested h = tt
  other_waits u (w ∷ fs) le nested h = (
    record {
      pools = h.0.pools;
      below = λ n e. named_still fs n (h.0.below n e);
      reached = settle (module_at chain w.of) Waits _ (configuration g c w) (configuration handed.0 handed.1 w) tt
          (other_same w.of (λ same. absurd (omega (arith, same, le, nested.0))) (λ same. absurd (omega (arith, same, le, nested.0, later)))) refl refl (left_same _ w) h.0.reached;
    },
    other_waits w fs (omega (arith, le, nested.0)) nested.1 h.1,
  )

  caller_waits : SeenCall Waits chain handed.0 handed.1 f rest
  unfolding configuration passed_to set_brigade
  caller_waits = record {
    pools = call.pools;
    below = λ n e. named_still rest n (call.below n e);
    reached = settle (module_at chain f.of) Waits _ (do_pass b r) (configuration handed.0 handed.1 f) tt caller_is refl refl (record {
      conn = refl;
      req = refl;
      pools = (sound.pools.sound f).formed;
      stay = λ n lasts. refl;
      rises = (omega arith, omega arith);
      limits = (limit, (sound.pools.sound f).limit);
    }) (pass_goes (module_at chain f.of) b to _ r at_pass faultless names call.reached);
  }

  pub other_rests : (j : ℕ) → j ≢ f.of → j ≢ k → SeenRest chain g c j → SeenRest chain handed.0 handed.1 j
  unfolding configuration passed_to
  other_rests j off_f off_k h = record {
    pc = h.pc;
    vacant = ap (λ (x : Instance). x.brigades 8) (other_same j off_f off_k) ∙ h.vacant;
    reached = settle (module_at chain j) (rest_phase j c.queue) none_lasts (configuration g c (resting j h.pc)) (configuration handed.0 handed.1 (resting j h.pc)) (rest_alone j c.queue)
        (other_same j off_f off_k) refl refl (left_same none_lasts (resting j h.pc)) h.reached;
  }

  -- The callee.

  there : LiveAt (r.instance.brigades b)
  there = live_at (r.instance.brigades b) (first_none (usable_fault (r.instance.brigades b)) _ faultless)

  abbrev items : List NamedBucket
  items = items_of (r.instance.brigades b)

  items_are : items ≡ there.held.items
  items_are = ap items_of there.is

  rested : SeenRest chain g c k
  rested = rest_of chain g c f rest on_top seen k inside
      (none_more f rest k (λ same. absurd (omega (arith, same, later))) (below_none k f rest later known.nested))

  not_due : c.queue ≡ []
  unfolding passed_to
  not_due = new_sound.calls.alone callee f rest refl

  rests : ReachedAlone (module_at chain k) (record { phase = Rests; lasting = none_lasts; now = configuration g c (resting k rested.pc) })
  rests = subst (λ (q : List ℕ). ReachedAlone (module_at chain k) (record { phase = rest_phase k q; lasting = none_lasts; now = configuration g c (resting k rested.pc) })) not_due rested.reached

  abbrev lasting_pools : List ℕ
  lasting_pools = live_own r 8 ++ call.pools

  abbrev main_lasting : Lasting
  main_lasting = record { calls = g.next ∷ names_in (f ∷ rest); pools = lasting_pools }

  caller_sound : (n : ℕ) → is_in n call.pools ≡ true → IsOthers r n
  caller_sound n e = (reached_sound (module_at chain f.of) _ (proper f.of) call.reached).others n e

  -- a pool that lasts is another instance's
  owner : (n : ℕ) → is_in n lasting_pools ≡ true → (is_live (pools_of g c) n ≡ true) × ((v : Frame) × (v.of ≢ k) × ((q : ℕ) × ((c.instances v.of).pools q ≡ poolvar.Made n)))
  unfolding configuration
  owner n e = elim (in_either n (live_own r 8) call.pools e) [
    | inl own ↦ (let at = own_live r n 8 own in (at.0, (f, λ same. absurd (omega (arith, same, later)), at.1)))
    | inr lasts ↦ (let v = waiting_name n (call.below n lasts) in ((caller_sound n lasts).live, v))
  ] where
    waiting_name : (m : ℕ) → IsNamedIn c rest m → (v : Frame) × (v.of ≢ k) × ((q : ℕ) × ((c.instances v.of).pools q ≡ poolvar.Made m))
    waiting_name m e = naming_below c k m f rest later known.nested e

  others : (n : ℕ) → is_in n lasting_pools ≡ true → IsOthers (configuration g c (resting k rested.pc)) n
  unfolding configuration
  others n e =
      let at = owner n e in
      record {
        live = at.0;
        above = λ j m is. under_no_other chain g c proper sound.pools at.1.0 (resting k rested.pc) at.1.2.0 n at.1.1 at.1.2.1 j m is;
        under = λ q m is. under_no_other chain g c proper sound.pools (resting k rested.pc) at.1.0 q m (λ same. at.1.1 (sym same)) is (pool.Own at.1.2.0) n (own_is g c at.1.0 at.1.2.0 n at.1.2.1);
      }

  own_low : (q n : ℕ) → r.instance.pools q ≡ poolvar.Made n → q < 8
  own_low q n is = elim (cases_lt q 8) [
    | inl lt ↦ lt
    | inr le ↦ absurd (not_null n (sym ((sound.pools.declared f).slots q le) ∙ is))
  ] where
    not_null : (m : ℕ) → poolvar.Null ≡ poolvar.Made m → ⊥
    not_null m e = cc

  come_home : (h : Home) → is_ended h ≡ false → IsHomeKept (record { calls = names_in (f ∷ rest); pools = call.pools }) r h → may_come main_lasting (configuration g c (resting k rested.pc)) h ≡ true
  unfolding configuration named_at
  come_home home.Free alive kept = refl
  come_home (home.Call n) alive kept = or_right (g.next == n) (is_in n (names_in (f ∷ rest))) kept
  come_home (home.Pool n) alive kept = elim kept.1 [
    | inl named ↦ by_ref named.0 named.1
    | inr lasts ↦ or_right ((n == c.conn) || is_named c.req n) (is_in n lasting_pools) (in_behind n (live_own r 8) call.pools lasts)
  ] where
    by_ref : (j : PoolRef) → pool_named r j ≡ Some n → ((n == c.conn) || is_named c.req n || is_in n lasting_pools) ≡ true
    by_ref pool.Conn e = or_left ((n == c.conn) || is_named c.req n) (is_in n lasting_pools) (or_left (n == c.conn) (is_named c.req n) (eq-eqb n c.conn (same_Some n c.conn (sym e))))
    by_ref pool.Req e =
        or_left ((n == c.conn) || is_named c.req n) (is_in n lasting_pools)
        (or_right (n == c.conn) (is_named c.req n) (ap (λ (o : Option ℕ). is_named o n) e ∙ eq-eqb n n refl))
    by_ref (pool.Own q) e =
        or_right ((n == c.conn) || is_named c.req n) (is_in n lasting_pools)
        (in_more n (live_own r 8) call.pools (live_in r n q 8 (own_low q n (own_named q n r e)) (own_named q n r e) kept.0))
  come_home home.Ended alive kept = absurd (cc)

  come_each : (xs : List NamedBucket) → list_any is_dead xs ≡ false → All (λ x. IsHomeKept (record { calls = names_in (f ∷ rest); pools = call.pools }) r x.bucket.home) xs
      → All (λ x. may_come main_lasting (configuration g c (resting k rested.pc)) x.bucket.home ≡ true) xs
  come_each [] alive all = All-nil (λ (x : NamedBucket). may_come main_lasting (configuration g c (resting k rested.pc)) x.bucket.home ≡ true)
  come_each (x ∷ xs) alive all =
      let parts = neither (is_dead x) (list_any is_dead xs) alive in
      All-cons (λ (y : NamedBucket). may_come main_lasting (configuration g c (resting k rested.pc)) y.bucket.home ≡ true) x xs
      (come_home x.bucket.home parts.0 (All-head (λ (y : NamedBucket). IsHomeKept (record { calls = names_in (f ∷ rest); pools = call.pools }) r y.bucket.home) x xs all))
      (come_each xs parts.1 (All-tail (λ (y : NamedBucket). IsHomeKept (record { calls = names_in (f ∷ rest); pools = call.pools }) r y.bucket.home) x xs all))

  homes : All (λ x. may_come main_lasting (configuration g c (resting k rested.pc)) x.bucket.home ≡ true) items
  homes =
      let stands = reached_kept (module_at chain f.of) _ (proper f.of) call.reached in
      let may = pass_may (module_at chain f.of) (running (record { calls = names_in (f ∷ rest); pools = call.pools }) r) b to faultless in
      come_each items may.2 (stands.homes.brigades b (usable_unpassed (r.instance.brigades b) (first_none (usable_fault (r.instance.brigades b)) _ faultless)))

  -- Names.

  low_place : b < 9
  unfolding configuration
  low_place = elim (cases_lt b 9) [
    | inl lt ↦ lt
    | inr le ↦ absurd (not_live there.held (sym (sound.names.slots f.of b le) ∙ there.is))
  ] where
    not_live : (v : Brigade) → var.Null ≡ var.Live v → ⊥
    not_live v e = cc

  counted : (n : ℕ) → count (configuration g c (resting k rested.pc)) n + count_named n items ≤ count_in chain c n
  unfolding configuration count_in
  counted n =
      let both : count_at (c.instances k) n + count_at (c.instances f.of) n ≤ sum_below (places chain) (λ j. count_at (c.instances j) n) =
      two_below (places chain) k f.of (λ j. count_at (c.instances j) n) inside known.top.of (λ same. absurd (omega (arith, same, later))) in
      let held : count_named n items ≤ count_at (c.instances f.of) n = term_below 9 b (λ d. count_named n (items_of ((c.instances f.of).brigades d))) low_place in
      let none : count_named n [] ≡ 0 = count_none n in
      omega arith

  come : Come (configuration g c (resting k rested.pc)) (g.next + 1) items
  unfolding configuration
  come = record {
    kinds = sound.buckets.brigades f.of b;
    once = λ n. (let few = counted n in let one : count_in chain c n ≤ 1 = sound.names.once n in omega arith);
    given = λ n le. (let few = counted n in let none : count_in chain c n ≡ 0 = sound.names.fresh n (omega arith) in omega arith);
  }

  held_name : brigade_name ((c.instances f.of).brigades b) ≡ Some there.held.name
  unfolding configuration
  held_name = ap brigade_name there.is

  apart_name : (d : ℕ) → brigade_name ((c.instances k).brigades d) ≡ Some there.held.name → ⊥
  apart_name d e = elim (cases_lt d 8) [
    | inl own ↦ elim (cases_lt b 8) [
      | inl low ↦ (let same = sound.names.own k f.of d b there.held.name own low e held_name in absurd (omega (arith, same.0, later)))
      | inr high ↦
          (let eight : b ≡ 8 = omega (arith, high, low_place) in
          let before : k < f.of = sound.names.incoming k f.of d there.held.name own (subst (λ (x : ℕ). brigade_name ((c.instances f.of).brigades x) ≡ Some there.held.name) eight held_name) e in
          absurd (omega (arith, before, later)))
    ]
    | inr le ↦ elim (cases_lt 8 d) [
      | inl beyond ↦ none-some there.held.name (sym (ap brigade_name (sound.names.slots k d (omega (arith, beyond)))) ∙ e)
      | inr most ↦
          (let eight : d ≡ 8 = omega (arith, le, most) in
          none-some there.held.name (sym (ap brigade_name rested.vacant) ∙ subst (λ (x : ℕ). brigade_name ((c.instances k).brigades x) ≡ Some there.held.name) eight e))
    ]
  ]

  callee_placed : IsFramePlaced chain c.req callee
  unfolding passed_to
  callee_placed = All-head (IsFramePlaced chain c.req) callee (f ∷ rest) new_sound.calls.placed

  abbrev brought_var : BrigadeVar
  brought_var = var.Live (record { name = there.held.name; on = None; mark = Usable; items = items })

  handed_is : handed_in (r.instance.brigades b) ≡ brought_var
  handed_is = ap handed_in there.is ∙ ap (λ (xs : List NamedBucket). var.Live (record { name = there.held.name; on = None; mark = Usable; items = xs })) (sym items_are)

  callee_is : handed.1.instances k ≡ set_in brought_var (c.instances k)
  unfolding passed_to
  callee_is =
      upd_at (upd c.instances f.of (do_pass b r).instance) k _
      ∙ (ap (λ (v : BrigadeVar). set_in v (upd c.instances f.of (do_pass b r).instance k)) handed_is
      ∙ ap (set_in brought_var) (upd_off c.instances f.of k (do_pass b r).instance (λ same. absurd (omega (arith, same, later)))))

  abbrev main_now : Configuration
  main_now = called g.next (g.next + 1) (module_at chain k).main (record (configuration g c (resting k rested.pc)) { instance = set_in brought_var (c.instances k) })

  main_is : main_now ≡ configuration handed.0 handed.1 callee
  unfolding configuration passed_to
  main_is = ap (λ (x : Instance). record main_now { instance = x }) (sym callee_is)

  serving : is_some c.req ≡ true
  serving = callee_placed.serving (low (module_at chain k) (proper k)) where
    low : (p : Program) → IsModule p → p.init ≤ p.main
    low p m = (let some : p.init < p.main = m.initial.some in omega (arith, some))

  callee_runs : SeenCall Runs chain handed.0 handed.1 callee (f ∷ rest)
  unfolding IsMove configuration IsNamedIn
  callee_runs = record {
    pools = lasting_pools;
    below = λ n e. elim (in_either n (live_own r 8) call.pools e) [
      | inl own ↦ (let at = own_live r n 8 own in inl (at.1.0, ap (λ (pools : ℕ → PoolVar). pools at.1.0) (pools_same f.of) ∙ at.1.1))
      | inr lasts ↦ inr (named_still rest n (call.below n lasts))
    ];
    reached = subst (λ (x : Configuration). ReachedAlone (module_at chain k) (running main_lasting x)) main_is
        (go (module_at chain k) (record { phase = Rests; lasting = none_lasts; now = configuration g c (resting k rested.pc) }) (running main_lasting main_now) (Main items) Done rests (
          refl,
          record {
            phase = refl;
            request = serving;
            name = g.next;
            next = g.next + 1;
            named = record { new = omega arith; given = omega arith; limit = limit };
            waiting = names_in (f ∷ rest);
            pools = lasting_pools;
            others = others;
            ordered = (pass_may (module_at chain f.of) (running (record { calls = names_in (f ∷ rest); pools = call.pools }) r) b to faultless).0;
            homes = homes;
            come = come;
            brigade = there.held.name;
            given = (let lt : there.held.name < g.next = sound.names.given f.of b there.held.name held_name in omega (arith, lt));
            apart = apart_name;
            is = refl;
          },
        ));
  }

  pub handed_seen : ChainSeen chain handed.0 handed.1
  unfolding passed_to AllWaitSeen
  handed_seen = record {
    stack = (callee_runs, (caller_waits, other_waits f rest (omega arith) known.nested (stack_of chain g c f rest on_top seen).1));
    rests = λ j lt off.
        (let first = not_there callee (f ∷ rest) j off in
        let second = not_there f rest j first.1 in
        other_rests j second.0 first.0 (rest_of chain g c f rest on_top seen j lt first.1));
  }
