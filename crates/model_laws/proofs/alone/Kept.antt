-- Each move of an open run keeps what is sound.
use Rattle.std.proofs.Common.{◌≡◌, ℕ, ◌+◌, ◌^◌, ◌<◌, true, false, List, [], ◌∷◌, Option, Some, None, refl, sym, ◌∙◌, ap, subst, arith}
use Rattle.std.proofs.lemmas.Option.{none-some}
use Rattle.std.proofs.lemmas.Bool.Decides.{nat_tests}
use Rattle.module_code.specs.declared.instr.Instr.{Instr}
use Rattle.module_code.specs.declared.instr.Instr.TheVariants as instr
use Rattle.module_code.specs.declared.instr.Status.{Status}
use Rattle.module_code.specs.declared.instr.Status.TheVariants.{Success}
use Rattle.module_code.specs.Program.{Program, IsModule}
use Rattle.run_model.specs.declared.bucket.NamedBucket.{NamedBucket}
use Rattle.run_model.specs.declared.fault.FaultKind.{FaultKind}
use Rattle.run_model.specs.Chains.{led_to}
use Rattle.run_model.specs.Faults.{fault}
use Rattle.run_model.specs.Pools.{is_in}
use Rattle.run_model.specs.Sound.{sum_below, count_named, count, Sound}
use Rattle.run_model.specs.State.{Configuration, Instance, Call, fresh_instance, fresh_call, items_of}
use Rattle.run_model.specs.Steps.{Choice, step, current, is_spent}
use Rattle.run_model.proofs.Names.{count_none, fewer_same}
use Rattle.run_model.proofs.Sums.{all_none}
use Rattle.model_laws.specs.AsDeclared.{AsDeclared}
use Rattle.model_laws.specs.Laws.{MayExecute}
use Rattle.model_laws.specs.OpenRuns.{Phase, Due, none_lasts, Standing, Move, Start, Execute, Answer, Others, Elsewhere, Begin, Main, End, ToldOfMove, executed, Attempts, IsOthers, IsMove, IsOpenRun}
use Rattle.model_laws.specs.OpenRuns.{IsOpened, StandsSound, OpenRunsStaySound, Starts, Begins, Calls, AnswersCall, OthersGoOn, GoOnElsewhere, Ends}
use Rattle.model_laws.proofs.AsDeclared.{kept, same_vars, step_declared}
use Rattle.model_laws.proofs.EventsKeep.{may_execute}
use Rattle.model_laws.proofs.NamesStay.{names_stay, keeps_slots}
use Rattle.model_laws.proofs.PoolsKept.{keeps_pools}
use Rattle.model_laws.proofs.StepBuckets.{none_proper, step_buckets, same_buckets}
use Rattle.model_laws.proofs.StepNames.{step_names}
use Rattle.model_laws.proofs.StepPools.{step_pools}
use Rattle.model_laws.proofs.alone.Beside.{gone_on_sound, gone_on_declared, gone_on_others, elsewhere_sound, elsewhere_declared, elsewhere_others}
use Rattle.model_laws.proofs.alone.Spared.{step_others}
use Rattle.model_laws.proofs.alone.Turns.{called_sound, called_declared, main_sound, main_declared, given_sound, given_declared, request_begun_sound, request_begun_declared, request_ended_sound}
use Rattle.model_laws.proofs.alone.Turns.{request_ended_declared}

nothing_in : (n : ℕ) → is_in n [] ≡ true → ⊥
nothing_in n e = cc

pub step_sound : (p : Program) (choice : Choice) (i : Instr) (r : Configuration) → MayExecute p r i → Sound r → Sound (step p choice i r).state
step_sound p choice i r may s = record { names = step_names p choice i r may s.names; buckets = step_buckets p choice i r may s.buckets; pools = step_pools p choice i r may s.pools }

-- Where the next instruction is does not matter.

pub moved_sound : (r : Configuration) (pc : ℕ) → Sound r → Sound (record r { pc = pc })
moved_sound r pc s = record {
  names = names_stay r _ (keeps_slots r (record r { pc = pc }) (λ n. omega arith) (λ b. fewer_same (r.instance.brigades b)) (omega arith) s.names.limit) s.names;
  buckets = same_buckets r _ refl refl s.buckets;
  pools = keeps_pools r _ refl refl refl refl s.pools.brigades s.pools;
}

pub moved_declared : (p : Program) (r : Configuration) (pc : ℕ) → AsDeclared p r → AsDeclared p (record r { pc = pc })
moved_declared p r pc d = kept p r _ refl refl refl refl (same_vars r) d

moved_others : (r : Configuration) (pc n : ℕ) → IsOthers r n → IsOthers (record r { pc = pc }) n
moved_others r pc n o = record { live = o.live; above = o.above; under = o.under }

-- An instruction.

module _ (p : Program) (given : Option (List ℕ)) (s : Standing) (k : StandsSound p s) where
  abbrev chosen : Choice
  chosen = record { answer = Success; given = given }

  -- what it leaves, wherever the call goes on
  stepped_kept : (phase : Phase) (i : Instr) (pc : ℕ) → MayExecute p s.now i → StandsSound p (record s { phase = phase; now = record (step p chosen i s.now).state { pc = pc } })
  stepped_kept phase i pc may = record {
    sound = moved_sound (step p chosen i s.now).state pc (step_sound p chosen i s.now may k.sound);
    declared = moved_declared p (step p chosen i s.now).state pc (step_declared p chosen i s.now may k.sound k.declared);
    others = λ n lasts. moved_others (step p chosen i s.now).state pc n (step_others s.now k.sound n (k.others n lasts) p chosen i may);
  }

  executed_kept : (i : Instr) → MayExecute p s.now i → StandsSound p (executed p given i s).1
  unfolding executed
  executed_kept (instr.Pass b l) may = record {
    sound = step_sound p chosen (instr.Pass b l) s.now may k.sound;
    declared = step_declared p chosen (instr.Pass b l) s.now may k.sound k.declared;
    others = λ n lasts. step_others s.now k.sound n (k.others n lasts) p chosen (instr.Pass b l) may;
  }
  executed_kept (instr.Ret t) may = record {
    sound = step_sound p chosen (instr.Ret t) s.now may k.sound;
    declared = step_declared p chosen (instr.Ret t) s.now may k.sound k.declared;
    others = λ n lasts. absurd (nothing_in n lasts);
  }
  executed_kept i may = stepped_kept s.phase i (led_to (step p chosen i s.now).exit i s.now.pc) may

  attempt_kept : IsModule p → (told : ToldOfMove) (new : Standing) (f : Option FaultKind) → fault p s.now (current p s.now.pc) ≡ f → Attempts f p given s told new → StandsSound p new
  attempt_kept proper told new None none a = subst (λ (x : ToldOfMove × Standing). StandsSound p x.1) a.1 (executed_kept (current p s.now.pc) (may_execute p s.now proper none a.0))
  attempt_kept proper told new (Some kind) is a = subst (StandsSound p) (sym a.1) (record { sound = k.sound; declared = k.declared; others = k.others })

-- Names that last.
names_last : (next : ℕ) → is_spent next 1 ≡ false → next + 1 < 2 ^ 64
unfolding is_spent
names_last next h = grind (arith, nat_tests)

-- Moves.

module _ (p : Program) (s new : Standing) (k : StandsSound p s) where
  starts_kept : Starts p s new → StandsSound p new
  starts_kept m = subst (StandsSound p) (sym m.is) (record {
    sound = called_sound s.now m.name m.next _ (let n = m.named in omega (arith, n.new, n.given)) m.named.limit k.sound;
    declared = called_declared p s.now m.name m.next _ k.declared;
    others = λ n lasts. absurd (nothing_in n lasts);
  })

  begins_kept : Begins s new → StandsSound p new
  begins_kept m = subst (StandsSound p) (sym m.is) (record {
    sound = request_begun_sound s.now (names_last s.now.shared.pools.next m.names) k.sound;
    declared = request_begun_declared p s.now m.none k.sound k.declared;
    others = λ n lasts. absurd (nothing_in n lasts);
  })

  calls_kept : (items : List NamedBucket) → Calls p items s new → StandsSound p new
  calls_kept items m = subst (StandsSound p) (sym m.is) (record {
    sound = main_sound s.now m.name m.next p.main _ m.come (let n = m.named in omega (arith, n.new, n.given)) m.named.limit refl m.given m.apart k.sound;
    declared = main_declared p s.now m.name m.next p.main _ refl k.declared;
    others = λ n lasts. (let o = m.others n lasts in record { live = o.live; above = o.above; under = o.under });
  })

  goes_on_kept : OthersGoOn s new → StandsSound p new
  goes_on_kept m = subst (StandsSound p) (sym m.is) (record {
    sound = gone_on_sound p s.lasting s.now m.change m.becomes m.shared m.left m.out k.sound k.declared;
    declared = gone_on_declared p s.lasting s.now m.change m.becomes m.shared m.left m.out k.sound k.declared;
    others = λ n lasts. gone_on_others p s.lasting s.now m.change m.becomes m.shared m.left m.out k.sound k.declared n lasts (k.others n lasts);
  })

  elsewhere_kept : GoOnElsewhere s new → StandsSound p new
  elsewhere_kept m = subst (StandsSound p) (sym m.is) (record {
    sound = elsewhere_sound s.now m.next m.pools m.files m.out m.rises m.limits k.sound;
    declared = elsewhere_declared s.now m.next m.pools m.files m.out m.rises m.limits p k.declared;
    others = λ n lasts. elsewhere_others s.now m.next m.pools m.files m.out m.rises m.limits n (k.others n lasts);
  })

  ends_kept : Ends s new → StandsSound p new
  ends_kept m = subst (StandsSound p) (sym m.is) (record {
    sound = request_ended_sound s.now m.req m.opened k.sound;
    declared = request_ended_declared s.now m.req m.opened k.sound p k.declared;
    others = λ n lasts. absurd (nothing_in n lasts);
  })

  answers_kept : (t : Status) (items : List NamedBucket) → AnswersCall p t items s new → StandsSound p new
  answers_kept t items m = subst (StandsSound p) (sym m.is) (record {
    sound = given_sound s.now _ _ items m.come k.sound;
    declared = given_declared p s.now _ _ items k.declared;
    others = λ n lasts. (let o = k.others n lasts in record { live = o.live; above = o.above; under = o.under });
  })

  pub move_kept : IsModule p → (m : Move) (told : ToldOfMove) → IsMove p s m told new → StandsSound p new
  unfolding IsMove
  move_kept proper Start told is = starts_kept is.1
  move_kept proper (Execute given) told is = attempt_kept p given s k proper told new (fault p s.now (current p s.now.pc)) refl is.1
  move_kept proper (Answer t items) told is = answers_kept t items is.1
  move_kept proper Others told is = goes_on_kept is.1
  move_kept proper Elsewhere told is = elsewhere_kept is.1
  move_kept proper Begin told is = begins_kept is.1
  move_kept proper (Main items) told is = calls_kept items is.1
  move_kept proper End told is = ends_kept is.1

-- The first standing.

abbrev pub fresh_in : Configuration → Configuration
fresh_in r = record r { instance = fresh_instance; call = fresh_call 0 }

fresh_counted : (r : Configuration) (n : ℕ) → count (fresh_in r) n ≡ 0
fresh_counted r n =
    let none : sum_below 9 (λ b. count_named n (items_of ((fresh_in r).instance.brigades b))) ≡ 0 = all_none 9 (λ b. count_named n []) (λ b lt. count_none n) in
    let loose : count_named n [] ≡ 0 = count_none n in
    omega arith

fresh_sound : (r : Configuration) → IsOpened r → Sound (fresh_in r)
fresh_sound r o = record {
  names = record {
    once = λ n. (let none = fresh_counted r n in omega arith);
    fresh = λ n le. fresh_counted r n;
    apart = λ b c n hb hc. absurd (none-some n hb);
    given = λ b n h. absurd (none-some n h);
    limit = o.limits.0;
    slots = λ b le. refl;
  };
  buckets = record { brigades = λ b. none_proper; loose = none_proper };
  pools = record {
    limit = o.limits.1;
    formed = o.pools;
    conn = o.conn;
    req = λ n e. absurd (none-some n (sym o.req ∙ e));
    own = λ q n e. absurd (cc);
    brigades = λ b n e. absurd (none-some n e);
  };
}

fresh_declared : (p : Program) (r : Configuration) → AsDeclared p (fresh_in r)
fresh_declared p r = record { pools = λ q n e live. absurd (cc); apart = λ q k n e d. absurd (cc); slots = λ q le. refl; brigades = λ b v ne e. absurd (cc); incoming = λ v e. absurd (cc) }

pub opened_is : (r : Configuration) → IsOpened r → fresh_in r ≡ r
opened_is r o = ap (λ (i : Instance). record r { instance = i; call = fresh_call 0 }) (sym o.instance) ∙ ap (λ (c : Call). record r { call = c }) (sym o.call)

pub opened_kept : (p : Program) (r : Configuration) → IsOpened r → StandsSound p (record { phase = Due; lasting = none_lasts; now = r })
opened_kept p r o = record {
  sound = subst Sound (opened_is r o) (fresh_sound r o);
  declared = subst (AsDeclared p) (opened_is r o) (fresh_declared p r);
  others = λ n lasts. absurd (nothing_in n lasts);
}

-- Runs.

run_kept : (p : Program) → IsModule p → (s new : Standing) (moves : List Move) (told : List ToldOfMove) → StandsSound p s → IsOpenRun p s moves told new → StandsSound p new
unfolding IsOpenRun
run_kept p proper s new [] [] k run = subst (StandsSound p) (sym run) k
run_kept p proper s new (m ∷ moves) (t ∷ told) k (mid, is, rest) = run_kept p proper mid new moves told (move_kept p s mid k proper m t is) rest
run_kept p proper s new [] (t ∷ told) k run = absurd run
run_kept p proper s new (m ∷ moves) [] k run = absurd run

pub open_runs_stay_sound : OpenRunsStaySound
open_runs_stay_sound p r moves told new proper opened run = run_kept p proper _ new moves told (opened_kept p r opened) run
