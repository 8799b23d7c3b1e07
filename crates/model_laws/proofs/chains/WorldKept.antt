-- What each turn of a connection keeps, each event keeps of all connections, and so each run.
use Rattle.std.proofs.Common.{◌≡◌, ℕ, ◌+◌, ◌^◌, ◌<◌, Bool, false, List, [], ◌∷◌, Option, Some, Result, Ok, Err, All, inl, inr, sym, ◌∙◌, ap, subst, arith}
use Rattle.std.proofs.lemmas.Option.{same_Some}
use Rattle.std.proofs.lemmas.List.Elements.{All-nil, All-cons, All-head, All-tail}
use Rattle.module_code.specs.Program.{Program}
use Rattle.run_model.specs.declared.event.Event.{Event}
use Rattle.run_model.specs.declared.event.Event.TheVariants as event
use Rattle.run_model.specs.declared.event.Refusal.{Refusal}
use Rattle.run_model.specs.Steps.{is_spent}
use Rattle.run_model.specs.Chains.{Connection, Common, Linked, IsChain}
use Rattle.run_model.specs.Turns.{opened, opens_file}
use Rattle.run_model.specs.Worlds.{World, Told, Answer, Opened, new_world, put_conn, file_answered, happens_on, happens, IsRun, IsWholeRun}
use Rattle.model_laws.specs.ChainSound.{ChainSound, HasNames, WorldSound}
use Rattle.model_laws.specs.ChainLaws.{Rises, EventKeepsWorld, RunKeepsWorld}
use Rattle.model_laws.specs.KeptInRuns.{OfConnections, RunKeeps, KeptInRuns}
use Rattle.model_laws.specs.ChainFiles.{TellsLengths}
use Rattle.model_laws.proofs.chains.EventCases.{run_each, turn_made, stays_there, event_cases}
use Rattle.run_model.proofs.Updates.{upd_either}
use Rattle.model_laws.proofs.StepNames.{not_spent}
use Rattle.model_laws.proofs.chains.EventBuckets.{opened_raises}
use Rattle.model_laws.proofs.chains.EventTurns.{EventTurn, OpensAs}
use Rattle.model_laws.proofs.chains.TurnsSound.{rising_sound, opened_sound, turn_sound, turn_rises}

-- A property of connections that others' names leave, that an opening makes and each turn keeps, where opened files have these lengths.
pub record TurnsKeep (chain : List Program) (Lengths : ℕ → Type 0) (P : Common → Connection → Type 0) : Type 0 where
  pub rising : (g new : Common) (c : Connection) → Rises g new → ChainSound chain g c → P g c → P new c
  pub opening : (g : Common) → HasNames g → ChainSound chain (opened chain g).0 (opened chain g).1 → P (opened chain g).0 (opened chain g).1
  pub turns : (g : Common) (c : Connection) (v : Linked) → HasNames g → EventTurn chain Lengths g c v → ChainSound chain g c → ChainSound chain v.0 v.1 → P g c → P v.0 v.1

-- it is true of each connection, which is sound
pub record KeptWorld (chain : List Program) (P : Common → Connection → Type 0) (w : World) : Type 0 where
  pub sound : WorldSound chain w
  pub kept : OfConnections P w

still_named : (g new : Common) → Rises g new → HasNames g → HasNames new
still_named g new rises has = (let some : g.root < g.pools = has.pools.0 in let same : new.root ≡ g.root = rises.root in
    record { first = omega (arith, rises.next, has.first); next = rises.next_limit; pools = (omega (arith, rises.pools, same), rises.pools_limit) })

module _ (chain : List Program) (chained : IsChain chain) (Lengths : ℕ → Type 0) (P : Common → Connection → Type 0) (keeps : TurnsKeep chain Lengths P) where
  -- names rise, and the connections are as before, but this one
  put_kept : (k : ℕ) (v : Linked) (w : World) → Rises w.common v.0 → ChainSound chain v.0 v.1 → P v.0 v.1 → KeptWorld chain P w → KeptWorld chain P (put_conn k v w)
  put_kept k v w rises sound kept h = record {
    sound = record {
      names = still_named w.common v.0 rises h.sound.names;
      conns = λ j c e. by_place (λ x. ChainSound chain v.0 x) j c e sound (λ x at. rising_sound chain w.common v.0 x rises (h.sound.conns j x at));
    };
    kept = λ j c e. by_place (λ x. P v.0 x) j c e kept (λ x at. keeps.rising w.common v.0 x rises (h.sound.conns j x at) (h.kept j x at));
  } where
    by_place : (Q : Connection → Type 0) (j : ℕ) (c : Connection) → (put_conn k v w).conns j ≡ Some c → Q v.1 → ((x : Connection) → w.conns j ≡ Some x → Q x) → Q c
    by_place Q j c e here elsewhere = elim (upd_either w.conns k j (Some v.1)) [
      | inl at ↦ subst Q (same_Some v.1 c (sym at.1 ∙ e)) here
      | inr off ↦ elsewhere c (sym off.1 ∙ e)
    ]

  turned : (k : ℕ) (c : Connection) (w : World) (v : Linked) → w.conns k ≡ Some c → EventTurn chain Lengths w.common c v → KeptWorld chain P w → KeptWorld chain P (put_conn k v w)
  turned k c w v at t h =
      let sound = turn_sound chain Lengths w.common c v chained h.sound.names t (h.sound.conns k c at) in
      put_kept k v w (turn_rises chain Lengths w.common c v h.sound.names t (h.sound.conns k c at)) sound (keeps.turns w.common c v h.sound.names t (h.sound.conns k c at) sound (h.kept k c at)) h

  opened_kept : (w : World) → is_spent w.common.pools 1 ≡ false → is_spent w.common.next 1 ≡ false → KeptWorld chain P w
      → KeptWorld chain P (put_conn (w.last + 1) (opened chain w.common) (record w { last = w.last + 1 }))
  opened_kept w pools_there next_there h =
      let pools = not_spent w.common.pools 1 pools_there in
      let next = not_spent w.common.next 1 next_there in
      let sound = opened_sound chain w.common chained h.sound.names next pools in
      put_kept (w.last + 1) (opened chain w.common) (record w { last = w.last + 1 }) (opened_raises chain w.common next pools) sound (keeps.opening w.common h.sound.names sound)
      (record { sound = record { names = h.sound.names; conns = h.sound.conns }; kept = h.kept })

  -- the file that an event opens, as its answer tells
  opens_as : (memory : Bool) (budget : ℕ) (told : Told) (k : ℕ) (name : List ℕ) (c : Connection) (w : World) → w.conns k ≡ Some c
      → TellsLengths Lengths (happens memory budget chain told k (event.OpenFile name) w).0
      → OpensAs Lengths (opens_file memory told.opening (w.common, c)).0
  unfolding happens_on
  opens_as memory budget told k name c w at may = of_answer _ (subst (λ (o : Option Connection). TellsLengths Lengths (happens_on memory budget chain told (event.OpenFile name) k o w).0) at may) where
    of_answer : (a : Result (ℕ × ℕ) Refusal × Linked) → TellsLengths Lengths (file_answered k w a).0 → OpensAs Lengths a.0
    of_answer (Ok f, v) may = may
    of_answer (Err r, v) may = tt

  pub event_kept : (memory : Bool) (budget : ℕ) (told : Told) (k : ℕ) (e : Event) (w : World) → TellsLengths Lengths (happens memory budget chain told k e w).0 → KeptWorld chain P w
      → KeptWorld chain P (happens memory budget chain told k e w).1
  event_kept memory budget told k e w may h = event_cases (KeptWorld chain P) memory budget chain told k w h e (record {
    made = λ c v at made. turned k c w v at (turn_made Lengths memory budget chain told w.common c e v chained
        (λ name is. opens_as memory budget told k name c w at (subst (λ (x : Event). TellsLengths Lengths (happens memory budget chain told k x w).0) is may)) made) h;
    opening = λ last pools next. opened_kept w pools next h;
    closing = λ c at. record {
      sound = record { names = h.sound.names; conns = λ j x there. h.sound.conns j x (stays_there k w j x there) };
      kept = λ j x there. h.kept j x (stays_there k w j x there);
    };
  })

  pub run_kept : (budget : ℕ) (es : List (ℕ × Event)) (answers : List Answer) (old new : World) → IsRun budget chain old es answers new → All (TellsLengths Lengths) answers → KeptWorld chain P old
      → KeptWorld chain P new
  unfolding IsRun
  run_kept budget [] [] old new run may h = subst (KeptWorld chain P) (sym run) h
  run_kept budget [] (a ∷ answers) old new run may h = absurd run
  run_kept budget (e ∷ es) [] old new run may h = absurd run
  run_kept budget (e ∷ es) (a ∷ answers) old new run may h =
      let first : TellsLengths Lengths (happens run.0 budget chain run.1 e.0 e.1 old).0 =
      subst (λ (x : Answer × World). TellsLengths Lengths x.0) (sym run.3) (All-head (TellsLengths Lengths) a answers may) in
      run_kept budget es answers run.2 new run.4 (All-tail (TellsLengths Lengths) a answers may)
      (subst (KeptWorld chain P) (ap (λ (x : Answer × World). x.1) run.3) (event_kept run.0 budget run.1 e.0 e.1 old first h))

-- Where nothing is there, all of it is so.
pub new_sound : (chain : List Program) (first : ℕ) → 0 < first → first + 1 < 2 ^ 64 → WorldSound chain (new_world first)
new_sound chain first named given = record { names = record { first = named; next = omega arith; pools = (omega arith, given) }; conns = λ k c e. absurd (cc) }

pub whole_run_kept : (chain : List Program) → IsChain chain → (Lengths : ℕ → Type 0) (P : Common → Connection → Type 0) → TurnsKeep chain Lengths P
    → (budget : ℕ) (es : List (ℕ × Event)) (answers : List Answer) (w : World) → IsWholeRun budget chain es answers w → All (TellsLengths Lengths) answers → KeptWorld chain P w
whole_run_kept chain chained Lengths P keeps budget es answers w run may =
    run_kept chain chained Lengths P keeps budget es answers (new_world run.first) w run.run may (record { sound = new_sound chain run.first run.named run.given; kept = λ k c e. absurd (cc) })

Anything : Common → Connection → Type 0
Anything g c = Unit {0}

abbrev pub AnyLength : ℕ → Type 0
AnyLength n = Unit {0}

-- any answer will do
pub any_length : (a : Answer) → TellsLengths AnyLength a
any_length (Opened file len) = tt
any_length a = tt

pub any_lengths : (answers : List Answer) → All (TellsLengths AnyLength) answers
any_lengths [] = All-nil (TellsLengths AnyLength)
any_lengths (a ∷ answers) = All-cons (TellsLengths AnyLength) a answers (any_length a) (any_lengths answers)

anything_kept : (chain : List Program) → TurnsKeep chain AnyLength Anything
unfolding Anything
anything_kept chain = record { rising = λ g new c rises s h. tt; opening = λ g has s. tt; turns = λ g c v has t s new h. tt }

pub event_keeps_world : EventKeepsWorld
unfolding Anything
event_keeps_world memory budget chain told k e w chained s =
    (event_kept chain chained AnyLength Anything (anything_kept chain) memory budget told k e w (any_length _) (record { sound = s; kept = λ j c at. tt })).sound

pub run_keeps_world : RunKeepsWorld
run_keeps_world budget chain es answers w chained run = (whole_run_kept chain chained AnyLength Anything (anything_kept chain) budget es answers w run (any_lengths answers)).sound

-- What each turn keeps is kept in runs.
pub turns_in_runs : (P : Common → Connection → Type 0) → ((chain : List Program) → TurnsKeep chain AnyLength P) → KeptInRuns (OfConnections P)
turns_in_runs P keeps = record {
  event = λ memory budget chain told k e w chained s h.
      (event_kept chain chained AnyLength P (keeps chain) memory budget told k e w (any_length _) (record { sound = s; kept = h })).kept;
  run = λ budget chain es answers w chained run. (whole_run_kept chain chained AnyLength P (keeps chain) budget es answers w run (any_lengths answers)).kept;
}

-- So is W, where each event keeps V, and W where V is true.
pub beside_in_runs : (V W : World → Type 0)
    → ((memory : Bool) (budget : ℕ) (chain : List Program) (told : Told) (k : ℕ) (e : Event) (w : World) → IsChain chain → WorldSound chain w → V w → V (happens memory budget chain told k e w).1)
    → ((memory : Bool) (budget : ℕ) (chain : List Program) (told : Told) (k : ℕ) (e : Event) (w : World) → IsChain chain → WorldSound chain w → V w → W w
    → W (happens memory budget chain told k e w).1) → ((first : ℕ) → V (new_world first)) → ((first : ℕ) → W (new_world first)) → RunKeeps W
beside_in_runs V W keeps also new_v new_w budget chain es answers w chained run =
    (run_each (λ x. WorldSound chain x × V x × W x) budget chain (λ memory told k e x h. (
      event_keeps_world memory budget chain told k e x chained h.0,
      keeps memory budget chain told k e x chained h.0 h.1,
      also memory budget chain told k e x chained h.0 h.1 h.2,
    )) es answers (new_world run.first) w run.run (new_sound chain run.first run.named run.given, new_v run.first, new_w run.first)).2
