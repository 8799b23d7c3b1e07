-- A chain of safe modules never faults.
use Rattle.std.proofs.Common.{◌≡◌, ℕ, ◌+◌, ◌<◌, Bool, true, false, ◌||◌, not, nat_le, nat_lt, cond, List, [], ◌∷◌, length, Option, Some, None, Result, Ok, Err, All, inl, inr, refl, sym, subst, arith}
use Rattle.std.proofs.lemmas.Bool.{cases_lt}
use Rattle.std.proofs.lemmas.List.{get_or_past}
use Rattle.module_code.specs.declared.instr.Instr.{Instr}
use Rattle.module_code.specs.declared.instr.Instr.TheVariants as instr
use Rattle.module_code.specs.declared.instr.Status.{Status}
use Rattle.module_code.specs.Program.{Program}
use Rattle.run_model.specs.declared.event.Cause.{Cause}
use Rattle.run_model.specs.declared.event.Cause.TheVariants as cause
use Rattle.run_model.specs.declared.event.Event.{Event}
use Rattle.run_model.specs.declared.event.Event.TheVariants as event
use Rattle.run_model.specs.declared.event.Refusal.{Refusal}
use Rattle.run_model.specs.declared.event.Stepped.{Stepped}
use Rattle.run_model.specs.declared.event.Stepped.TheVariants as stepped
use Rattle.run_model.specs.declared.fault.FaultKind.{FaultKind}
use Rattle.run_model.specs.Chains.{Frame, Connection, Common, Linked, configuration, places, is_last, module_at, IsChain}
use Rattle.run_model.specs.Faults.{fault}
use Rattle.run_model.specs.Passing.{Reads, next_called, returned_from, returns, proceeds, put_out_by, answered_so}
use Rattle.run_model.specs.Steps.{current, lacks_names, grows, is_spent}
use Rattle.run_model.specs.Turns.{calls_of, broken_by, counted, executed, unless_fault, watched, step_top, step_unless, steps, puts_out}
use Rattle.run_model.specs.Worlds as worlds
use Rattle.run_model.specs.Worlds.{World, Told, Answer, new_world, happens, happens_on, file_answered, step_answered, opens_if, opens, adds_file, closes, IsRun, IsWholeRun}
use Rattle.model_laws.specs.ChainLaws.{Rises, after_top}
use Rattle.model_laws.specs.ChainSound.{ChainSound, HasNames}
use Rattle.model_laws.specs.OpenRuns.{InstancesAreSafe}
use Rattle.model_laws.specs.SafeChains.{IsNoFault, NoFaults, SafeModulesMakeSafeChains}
use Rattle.model_laws.proofs.chains.EventTurns.{EventTurn, Stood, Went, Begun, Brought, FileTaken, Ended}
use Rattle.model_laws.proofs.chains.Modules.{idle_module}
use Rattle.model_laws.proofs.chains.PutBack.{looking}
use Rattle.model_laws.proofs.chains.Stacks.{stands_on_top}
use Rattle.model_laws.proofs.chains.TurnsSound.{rising_sound, marked_sound}
use Rattle.model_laws.proofs.chains.WorldKept.{TurnsKeep, KeptWorld, AnyLength, event_kept, any_length, new_sound}
use Rattle.model_laws.proofs.seen.Events.{opened_seen, begun_seen, brought_seen, over_seen}
use Rattle.model_laws.proofs.seen.Idle.{idle_safe}
use Rattle.model_laws.proofs.seen.InPlace.{stack_of}
use Rattle.model_laws.proofs.seen.Reach.{reached_faultless}
use Rattle.model_laws.proofs.seen.Seen.{SeenUnbroken, seen_beside, seen_idle}
use Rattle.model_laws.proofs.seen.Went.{MaySee, went_seen}

-- What is seen stays so through each turn of a connection that is not broken.

rising_seen : (chain : List Program) (g new : Common) (c : Connection) → Rises g new → ChainSound chain g c → SeenUnbroken chain g c → SeenUnbroken chain new c
unfolding configuration
rising_seen chain g new c rises sound h whole =
    let left = rising_sound chain g new c rises sound in
    seen_beside chain g new c (record { next = rises.next; pools = rises.pools; limits = (rises.next_limit, rises.pools_limit) }) (left.pools.sound (looking 0)).formed c.opened c.files c.out c.count c.broken
    (h whole)

-- the count is nothing that is seen
counted_seen : (chain : List Program) (v : Linked) (count : ℕ) → MaySee chain v → MaySee chain (v.0, record v.1 { count = count })
unfolding configuration
counted_seen chain v count see sound =
    let plain : ChainSound chain v.0 v.1 = marked_sound chain v.0 (record v.1 { count = count }) v.1 refl refl refl refl refl refl sound in
    let pools = plain.pools.sound (looking 0) in
    seen_beside chain v.0 v.0 v.1 (record { next = omega arith; pools = omega arith; limits = (plain.names.limit, pools.limit) }) pools.formed v.1.opened v.1.files v.1.out count v.1.broken (see plain)

turn_seen : (chain : List Program) → IsChain chain → (g : Common) (c : Connection) (v : Linked) → HasNames g → EventTurn chain AnyLength g c v → ChainSound chain g c → ChainSound chain v.0 v.1
    → SeenUnbroken chain g c → SeenUnbroken chain v.0 v.1
unfolding configuration
turn_seen chain chained g c v has (Stood out broken still) sound new h whole =
    let pools = sound.pools.sound (looking 0) in
    seen_beside chain g g c (record { next = omega arith; pools = omega arith; limits = (sound.names.limit, pools.limit) }) pools.formed c.opened c.files out c.count broken (h (still whole))
turn_seen chain chained g c v has (Went reads f rest sane may) sound new h whole =
    counted_seen chain (after_top chain reads g c f rest) ((after_top chain reads g c f rest).1.count + 1) (went_seen chain reads g c f rest may sound (h sane)) new
turn_seen chain chained g c v has (Begun sane idle none pools next) sound new h whole = begun_seen chain g c idle none pools chained.some sound new (h sane)
turn_seen chain chained g c v has (Brought pieces req sane idle is there next late) sound new h whole = brought_seen chain pieces req g c idle is next late sound new (h sane)
turn_seen chain chained g c v has (FileTaken req file bytes sane idle is told newer last) sound new h whole =
    let pools = new.pools.sound (looking 0) in
    seen_idle chain g (record g { file = file + 1 }) c idle (record { next = omega arith; pools = omega arith; limits = (new.names.limit, pools.limit) }) _ c.labels _ _ c.out c.count c.broken pools.formed (h sane)
turn_seen chain chained g c v has (Ended req sane idle is) sound new h whole = over_seen chain req g c idle is sound new (h sane)

seen_kept : (chain : List Program) → IsChain chain → TurnsKeep chain AnyLength (SeenUnbroken chain)
seen_kept chain chained = record {
  rising = rising_seen chain;
  opening = λ g has sound whole. opened_seen chain g chained.some sound;
  turns = turn_seen chain chained;
}

-- A step answers no fault.

abbrev Unfaulted : Result Stepped Refusal → Type 0
Unfaulted (Ok stepped.Went) = Unit {0}
Unfaulted (Ok (stepped.CallEnded s)) = Unit {0}
Unfaulted (Ok (stepped.Fault k m pc)) = ⊥
Unfaulted (Err r) = Unit {0}

next_answers : (chain : List Program) (s : Status) (queue : List ℕ) (v : Linked) → Unfaulted (Ok (next_called chain s queue v).0)
next_answers chain s [] v = tt
next_answers chain s (k ∷ ks) v = tt

returns_answer : (chain : List Program) (s : Status) (f : Frame) (rest : List Frame) (v : Linked) → Unfaulted (Ok (returns chain s f rest v).0)
unfolding returned_from
returns_answer chain s f [] v = next_answers chain s v.1.queue _
returns_answer chain s f (w ∷ rest) v = tt

so_answered : (well : Bool) (t : Stepped) → Unfaulted (Ok t) → Unfaulted (Ok (answered_so well t))
so_answered true t none = none
so_answered false t none = tt

proceeds_answer : (chain : List Program) (reads : Reads) (i : Instr) (f : Frame) (rest : List Frame) (v : Linked) → Unfaulted (Ok (proceeds chain reads i f rest v).0)
unfolding proceeds
proceeds_answer chain reads (instr.Pass b l) f rest v = tt
proceeds_answer chain reads (instr.Ret s) f rest v = so_answered (put_out_by chain reads f v.1).1 (returns chain s f rest v).0 (returns_answer chain s f rest v)
proceeds_answer chain reads i f rest v = tt

executed_answer : (memory : Bool) (chain : List Program) (reads : Reads) (i : Instr) (f : Frame) (rest : List Frame) (v : Linked) → Unfaulted (executed memory chain reads i f rest v).0
unfolding executed
executed_answer memory chain reads i f rest (g, c) = by_names (lacks_names (configuration g c f) i || is_spent g.next (calls_of (is_last chain c f.of) i rest c.queue)) where
  by_memory : (b : Bool) → Unfaulted (cond b (counted (proceeds chain reads i f rest (g, c))) (broken_by cause.NoMemory (g, c))).0
  by_memory true = proceeds_answer chain reads i f rest (g, c)
  by_memory false = tt

  by_names : (b : Bool) → Unfaulted (cond b (broken_by cause.NamesSpent (g, c))
      (cond (memory || not (grows (configuration g c f) i || nat_lt 0 (calls_of (is_last chain c f.of) i rest c.queue) || puts_out chain f (g, c))) (counted (proceeds chain reads i f rest (g, c))) (broken_by cause.NoMemory (g, c)))).0
  by_names true = tt
  by_names false = by_memory (memory || not (grows (configuration g c f) i || nat_lt 0 (calls_of (is_last chain c f.of) i rest c.queue) || puts_out chain f (g, c)))

module _ (chain : List Program) (chained : IsChain chain) (safe : All InstancesAreSafe chain) where
  -- each place has a safe module
  safe_at : (k : ℕ) → k < places chain → InstancesAreSafe (module_at chain k)
  unfolding module_at idle_module
  safe_at k lt = elim (cases_lt k (length chain)) [
    | inl inside ↦ safe k idle_module inside
    | inr le ↦ subst InstancesAreSafe (sym (get_or_past chain k idle_module le)) idle_safe
  ]

  module _ (memory : Bool) (budget : ℕ) (reads : Reads) (g : Common) (c : Connection) (sound : ChainSound chain g c) (seen : SeenUnbroken chain g c) where
    top_faultless : (f : Frame) (rest : List Frame) → c.broken ≡ None → c.stack ≡ f ∷ rest → fault (module_at chain f.of) (configuration g c f) (current (module_at chain f.of) f.pc) ≡ None
    unfolding configuration
    top_faultless f rest whole on =
        reached_faultless (module_at chain f.of) _ (safe_at f.of (stands_on_top chain g c f rest on sound.calls).top.of) (stack_of chain g c f rest on (seen whole)).0.reached refl

    watched_answer : (f : Frame) (rest : List Frame) → c.broken ≡ None → c.stack ≡ f ∷ rest → Unfaulted (watched memory chain reads f rest (g, c)).0
    watched_answer f rest whole on = by_fault (fault (module_at chain f.of) (configuration g c f) (current (module_at chain f.of) f.pc)) (top_faultless f rest whole on) where
      by_fault : (o : Option FaultKind) → o ≡ None → Unfaulted (unless_fault o f (g, c) (executed memory chain reads (current (module_at chain f.of) f.pc) f rest (g, c))).0
      by_fault None is = executed_answer memory chain reads (current (module_at chain f.of) f.pc) f rest (g, c)
      by_fault (Some k) is = cc

    top_answer : c.broken ≡ None → (stack : List Frame) → c.stack ≡ stack → Unfaulted (step_top memory budget chain reads stack (g, c)).0
    top_answer whole [] is = tt
    top_answer whole (f ∷ rest) is = by_budget (nat_le budget c.count) where
      by_budget : (b : Bool) → Unfaulted (cond b (broken_by cause.OutOfSteps (g, c)) (watched memory chain reads f rest (g, c))).0
      by_budget true = tt
      by_budget false = watched_answer f rest whole is

    steps_answer : Unfaulted (steps memory budget chain reads (g, c)).0
    unfolding steps
    steps_answer = by_broken c.broken refl where
      by_broken : (o : Option Cause) → c.broken ≡ o → Unfaulted (step_unless o memory budget chain reads (g, c)).0
      by_broken (Some k) is = tt
      by_broken None is = top_answer is c.stack refl

  -- Answers of events.

  step_told : (k : ℕ) (w : World) (a : Result Stepped Refusal × Linked) → Unfaulted a.0 → IsNoFault (step_answered k w a).0
  step_told k w (Ok stepped.Went, v) none = tt
  step_told k w (Ok (stepped.CallEnded s), v) none = tt
  step_told k w (Ok (stepped.Fault f m pc), v) none = none
  step_told k w (Err r, v) none = tt

  answered_told : (k : ℕ) (w : World) (a : Option Refusal × Linked) → IsNoFault (worlds.answered k w a).0
  answered_told k w (None, v) = tt
  answered_told k w (Some r, v) = tt

  file_told : (k : ℕ) (w : World) (a : Result (ℕ × ℕ) Refusal × Linked) → IsNoFault (file_answered k w a).0
  file_told k w (Ok f, v) = tt
  file_told k w (Err r, v) = tt

  added_told : (memory : Bool) (w : World) → IsNoFault (adds_file memory w).0
  added_told true w = tt
  added_told false w = tt

  closed_told : (memory : Bool) (k : ℕ) (c : Connection) (w : World) → IsNoFault (closes memory k c w).0
  closed_told true k c w = tt
  closed_told false k c w = tt

  opened_told : (o : Option Refusal) (w : World) → IsNoFault (opens_if o chain w).0
  opened_told None w = tt
  opened_told (Some r) w = tt

  opens_told : (memory : Bool) (w : World) → IsNoFault (opens memory chain w).0
  unfolding opens
  opens_told memory w = opened_told _ w

  module _ (memory : Bool) (budget : ℕ) (told : Told) (k : ℕ) (w : World) (kept : KeptWorld chain (SeenUnbroken chain) w) where
    on_told : (e : Event) (o : Option Connection) → w.conns k ≡ o → IsNoFault (happens_on memory budget chain told e k o w).0
    unfolding happens_on
    on_told event.Open o at = opens_told memory w
    on_told (event.AddFile name bytes) o at = added_told memory w
    on_told event.TellPools o at = tt
    on_told (event.OpenFile name) (Some c) at = file_told k w _
    on_told event.Begin (Some c) at = answered_told k w _
    on_told (event.Bring pieces) (Some c) at = answered_told k w _
    on_told event.Step (Some c) at = step_told k w (steps memory budget chain told.reads (w.common, c)) (steps_answer memory budget told.reads w.common c (kept.sound.conns k c at) (kept.kept k c at))
    on_told event.End (Some c) at = answered_told k w _
    on_told event.TakeOutput (Some c) at = tt
    on_told event.TellLabels (Some c) at = tt
    on_told event.Close (Some c) at = closed_told memory k c w
    on_told e None at = tt

  run_answers : (budget : ℕ) (old new : World) (es : List (ℕ × Event)) (answers : List Answer) → KeptWorld chain (SeenUnbroken chain) old → IsRun budget chain old es answers new → NoFaults answers
  unfolding NoFaults IsRun
  run_answers budget old new [] [] kept run = tt
  run_answers budget old new [] (a ∷ answers) kept run = absurd run
  run_answers budget old new (e ∷ es) [] kept run = absurd run
  run_answers budget old new (e ∷ es) (a ∷ answers) kept (memory, told, mid, is, rest) =
      let now = on_told memory budget told e.0 old kept e.1 (old.conns e.0) refl in
      let next = event_kept chain chained AnyLength (SeenUnbroken chain) (seen_kept chain chained) memory budget told e.0 e.1 old (any_length _) kept in
      (subst (λ (x : Answer × World). IsNoFault x.0) is now, run_answers budget mid new es answers (subst (λ (x : Answer × World). KeptWorld chain (SeenUnbroken chain) x.1) is next) rest)

pub safe_modules_make_safe_chains : SafeModulesMakeSafeChains
safe_modules_make_safe_chains chain chained safe budget es answers w run =
    run_answers chain chained safe budget (new_world run.first) w es answers (record { sound = new_sound chain run.first run.named run.given; kept = λ k c at. absurd (cc) }) run.run
