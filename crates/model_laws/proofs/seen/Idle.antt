-- The module that does nothing, which stands for the output filter, is safe.
use Rattle.std.proofs.Common.{◌≡◌, ◌≢◌, ℕ, zero, suc, ◌+◌, ◌^◌, ◌<◌, ◌≤◌, Bool, true, false, ◌==◌, ◌||◌, cond, List, [], ◌∷◌, Option, Some, None, inl, inr, refl, sym, ◌∙◌, ap, subst, arith}
use Rattle.std.proofs.lemmas.Bool.{cases_eq}
use Rattle.std.proofs.lemmas.Bool.Decides.{nat_tests}
use Rattle.std.proofs.Math.Path.{fun_ext}
use Rattle.module_code.specs.declared.instr.Instr.{Instr}
use Rattle.module_code.specs.declared.instr.Instr.TheVariants as instr
use Rattle.module_code.specs.declared.instr.Status.{Status}
use Rattle.module_code.specs.declared.instr.Status.TheVariants.{Success}
use Rattle.run_model.specs.declared.bucket.BrigadeVar.{BrigadeVar}
use Rattle.run_model.specs.declared.bucket.BrigadeVar.TheVariants as var
use Rattle.run_model.specs.declared.bucket.Mark.TheVariants.{Usable}
use Rattle.run_model.specs.declared.bucket.NamedBucket.{NamedBucket}
use Rattle.run_model.specs.declared.fault.FaultKind.{FaultKind}
use Rattle.run_model.specs.declared.fault.FaultKind.TheVariants.{F6}
use Rattle.run_model.specs.Clearing.{cleared_var, run_down}
use Rattle.run_model.specs.Effects.{returned_var}
use Rattle.run_model.specs.Faults.{keeps_stray, fault, or_else}
use Rattle.run_model.specs.Indexed.{any_below}
use Rattle.run_model.specs.Passing.{handler_at}
use Rattle.run_model.specs.State.{Configuration, Instance, fresh_call, with_pools}
use Rattle.run_model.specs.Steps.{current, lacks_names, is_spent}
use Rattle.run_model.proofs.Updates.{upd_off}
use Rattle.model_laws.specs.OpenRuns.{Due, Rests, Waits, none_lasts, Standing, Move, Start, Execute, Answer, Others, Elsewhere, Begin, Main, End, ToldOfMove, Done, executed, called, Attempts}
use Rattle.model_laws.specs.OpenRuns.{IsMove, IsOpenRun, IsOpened, IsHarmless, AreHarmless, InstancesAreSafe, Starts, Begins, Calls, AnswersCall, OthersGoOn, GoOnElsewhere, Ends, changed_var}
use Rattle.model_laws.proofs.chains.Modules.{idle_module}
use Rattle.model_laws.proofs.seen.InPlace.{running}
use Rattle.model_laws.proofs.seen.Reach.{ReachedAlone, first_standing, go}
use Rattle.model_laws.proofs.seen.Returning.{return_goes}

pub returns_at : (pc : ℕ) → current idle_module pc ≡ instr.Ret Success
unfolding idle_module current
returns_at zero = refl
returns_at (suc zero) = refl
returns_at (suc (suc zero)) = refl
returns_at (suc (suc (suc pc))) = past pc where
  past : (n : ℕ) → current idle_module (suc (suc (suc n))) ≡ instr.Ret Success
  past n = refl

-- It has no brigade of its own, and no call of it waits.
pub record StandsIdle (s : Standing) : Type 0 where
  pub null : (b : ℕ) → b ≢ 8 → s.now.instance.brigades b ≡ var.Null
  pub waits : s.phase ≡ Waits → ⊥

off_eight : (b : ℕ) → b < 8 → b ≢ 8
off_eight b lt same = absurd (omega (arith, lt, same))

no_stray : (n : ℕ) (f : ℕ → Bool) → ((b : ℕ) → b < n → f b ≡ false) → any_below n f ≡ false
unfolding any_below
no_stray zero f none = refl
no_stray (suc n) f none = ap (λ (x : Bool). x || any_below n f) (none n (omega arith)) ∙ no_stray n f (λ b lt. none b (omega (arith, lt)))

null_stray : (r : Configuration) (v : BrigadeVar) → v ≡ var.Null → keeps_stray r v ≡ false
unfolding keeps_stray
null_stray r v is = subst (λ (x : BrigadeVar). keeps_stray r x ≡ false) (sym is) refl

-- its return has no fault
idle_faultless : (s : Standing) → StandsIdle s → fault idle_module s.now (current idle_module s.now.pc) ≡ None
idle_faultless s h = ap (fault idle_module s.now) (returns_at s.now.pc)
    ∙ ap (λ (x : Bool). or_none (cond x (Some F6) None)) (no_stray 8 (λ b. keeps_stray s.now (s.now.instance.brigades b)) (λ b lt. null_stray s.now (s.now.instance.brigades b) (h.null b (off_eight b lt)))) where
      or_none : Option FaultKind → Option FaultKind
      or_none o = or_else o None

cleared_null : (reached : ℕ → Bool) (v : BrigadeVar) → v ≡ var.Null → cleared_var reached v ≡ var.Null
cleared_null reached v is = ap (cleared_var reached) is

-- Moves.

module _ (s new : Standing) (h : StandsIdle s) where
  starts : Starts idle_module s new → StandsIdle new
  starts m = subst StandsIdle (sym m.is) (record { null = h.null; waits = λ e. absurd (cc) })

  begins : Begins s new → StandsIdle new
  begins m = subst StandsIdle (sym m.is) (record { null = h.null; waits = λ e. absurd (cc) })

  calls : (items : List NamedBucket) → Calls idle_module items s new → StandsIdle new
  calls items m = subst StandsIdle (sym m.is) (record {
    null = λ b off. upd_off s.now.instance.brigades 8 b (var.Live (record { name = m.brigade; on = None; mark = Usable; items = items })) off ∙ h.null b off;
    waits = λ e. absurd (cc);
  })

  answers : (t : Status) (items : List NamedBucket) → AnswersCall idle_module t items s new → StandsIdle new
  answers t items m = absurd (h.waits m.phase)

  goes_on : OthersGoOn s new → StandsIdle new
  goes_on m = subst StandsIdle (sym m.is) (record { null = λ b off. ap (changed_var m.change) (h.null b off); waits = h.waits })

  elsewhere : GoOnElsewhere s new → StandsIdle new
  elsewhere m = subst StandsIdle (sym m.is) (record { null = h.null; waits = h.waits })

  ends : Ends s new → StandsIdle new
  unfolding run_down with_pools
  ends m = subst StandsIdle (sym m.is) (record { null = λ b off. ap (cleared_var _) (h.null b off); waits = λ e. absurd (cc) })

  returned_null : (b : ℕ) (t : Bool) (v : BrigadeVar) → v ≡ var.Null → cond t var.Null (returned_var s.now.call.name v) ≡ var.Null
  returned_null b true v is = refl
  returned_null b false v is = ap (returned_var s.now.call.name) is

  executes : (given : Option (List ℕ)) (told : ToldOfMove) → Attempts (fault idle_module s.now (current idle_module s.now.pc)) idle_module given s told new → IsHarmless told × StandsIdle new
  unfolding executed
  executes given told a =
      let now : Attempts None idle_module given s told new = subst (λ (o : Option FaultKind). Attempts o idle_module given s told new) (idle_faultless s h) a in
      let does : executed idle_module given (instr.Ret Success) s ≡ (told, new) = ap (λ (j : Instr). executed idle_module given j s) (sym (returns_at s.now.pc)) ∙ now.1 in (
        subst (λ (x : ToldOfMove × Standing). IsHarmless x.0) does tt,
        subst (λ (x : ToldOfMove × Standing). StandsIdle x.1) does (record {
          null = λ b off. returned_null b (b == 8) (s.now.instance.brigades b) (h.null b off);
          waits = λ e. absurd (cc);
        }),
      )

done : (told : ToldOfMove) → told ≡ Done → IsHarmless told
done told is = subst IsHarmless (sym is) tt

move_idle : (s new : Standing) (m : Move) (told : ToldOfMove) → StandsIdle s → IsMove idle_module s m told new → IsHarmless told × StandsIdle new
unfolding IsMove
move_idle s new Start told h t = (done told t.0, starts s new h t.1)
move_idle s new (Execute given) told h t = executes s new h given told t.1
move_idle s new (Answer u items) told h t = (done told t.0, answers s new h u items t.1)
move_idle s new Others told h t = (done told t.0, goes_on s new h t.1)
move_idle s new Elsewhere told h t = (done told t.0, elsewhere s new h t.1)
move_idle s new Begin told h t = (done told t.0, begins s new h t.1)
move_idle s new (Main items) told h t = (done told t.0, calls s new h items t.1)
move_idle s new End told h t = (done told t.0, ends s new h t.1)

run_idle : (s new : Standing) (moves : List Move) (told : List ToldOfMove) → StandsIdle s → IsOpenRun idle_module s moves told new → AreHarmless told × StandsIdle new
unfolding IsOpenRun AreHarmless
run_idle s new [] [] h run = (tt, subst StandsIdle (sym run) h)
run_idle s new [] (t ∷ told) h run = absurd run
run_idle s new (m ∷ moves) [] h run = absurd run
run_idle s new (m ∷ moves) (t ∷ told) h (mid, is, rest) =
    let now = move_idle s mid m t h is in
    let later = run_idle mid new moves told now.1 rest in
    ((now.0, later.0), later.1)

opened_idle : (r : Configuration) → IsOpened r → StandsIdle (first_standing r)
opened_idle r o = record { null = λ b off. ap (λ (i : Instance). i.brigades b) o.instance; waits = λ e. absurd (cc) }

pub idle_safe : InstancesAreSafe idle_module
idle_safe r moves told new opened run = (run_idle (first_standing r) new moves told (opened_idle r opened) run).0

pub reached_idle : (s : Standing) → ReachedAlone idle_module s → StandsIdle s
reached_idle s h = (run_idle (first_standing h.first) s h.moves h.told (opened_idle h.first h.opened) h.run).1

-- Its call begins and returns at once, and all is as it was, but for names.

unspent : (n : ℕ) → n < 2 ^ 64 → is_spent n 0 ≡ false
unfolding is_spent
unspent n lt = grind (arith, nat_tests)

pub lacks_none : (r : Configuration) → r.shared.next < 2 ^ 64 → r.shared.pools.next < 2 ^ 64 → lacks_names r (instr.Ret Success) ≡ false
unfolding lacks_names
lacks_none r next pools = ap (λ (x : Bool). x || is_spent r.shared.pools.next 0) (unspent r.shared.next next) ∙ unspent r.shared.pools.next pools

same_left : (call : ℕ) (i : Instance) → ((b : ℕ) → i.brigades b ≡ var.Null) → record i { brigades = λ b. cond (b == 8) var.Null (returned_var call (i.brigades b)) } ≡ i
same_left call i null = ap (λ (bs : ℕ → BrigadeVar). record i { brigades = bs }) (fun_ext (λ b. by_test b (b == 8))) where
  by_test : (b : ℕ) (t : Bool) → cond t var.Null (returned_var call (i.brigades b)) ≡ i.brigades b
  by_test b true = sym (null b)
  by_test b false = ap (returned_var call) (null b) ∙ sym (null b)

-- r: what it sees where it is due, with nothing brought. name: the name of its call.
pub started_idle : (r : Configuration) (name : ℕ) → r.shared.next ≤ name → name + 1 < 2 ^ 64 → r.shared.pools.next < 2 ^ 64 → r.instance.brigades 8 ≡ var.Null → r.call ≡ fresh_call 0 → ReachedAlone idle_module (record { phase = Due; lasting = none_lasts; now = r })
    → ReachedAlone idle_module (record { phase = Rests; lasting = none_lasts; now = record (called name (name + 1) (handler_at r.shared.req idle_module) r) { call = fresh_call 0 } })
unfolding IsMove
started_idle r name le limit pools vacant call h =
    let due : Standing = record { phase = Due; lasting = none_lasts; now = r } in
    let now : Configuration = called name (name + 1) (handler_at r.shared.req idle_module) r in
    let runs = go idle_module due (running (record { calls = name ∷ []; pools = [] }) now) Start Done h
    (refl, record { phase = refl; name = name; next = name + 1; named = record { new = le; given = omega arith; limit = limit }; is = refl }) in
    let idle = reached_idle (running (record { calls = name ∷ []; pools = [] }) now) runs in
    let null : (b : ℕ) → now.instance.brigades b ≡ var.Null = λ b. elim (cases_eq b 8) [ inl same ↦ ap r.instance.brigades same ∙ vacant | inr off ↦ idle.null b off ] in
    subst (λ (i : Instance). ReachedAlone idle_module (record { phase = Rests; lasting = none_lasts; now = record now { instance = i; call = fresh_call 0 } })) (same_left name now.instance null)
    (return_goes idle_module Success (record { calls = name ∷ []; pools = [] }) now (returns_at now.pc)
    (subst (λ (j : Instr). fault idle_module now j ≡ None) (returns_at now.pc) (idle_faultless (running (record { calls = name ∷ []; pools = [] }) now) idle)) (lacks_none now limit pools) runs)
