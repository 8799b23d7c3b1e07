-- An instruction that is executed in place: its call goes on, and all others see what others may do.
use Rattle.std.proofs.Common.{◌≡◌, ◌≢◌, ℕ, ◌^◌, ◌<◌, ◌≤◌, Bool, true, false, ◌==◌, ◌||◌, cond, List, [], ◌∷◌, map, Option, None, refl, sym, ◌∙◌, ap, subst, arith, eq-eqb, ne_eqb}
use Rattle.std.proofs.lemmas.List.Elements.{All-nil}
use Rattle.module_code.specs.declared.instr.Instr.{Instr}
use Rattle.module_code.specs.declared.instr.Instr.TheVariants as instr
use Rattle.module_code.specs.declared.instr.Status.{Status}
use Rattle.module_code.specs.declared.instr.Status.TheVariants.{Success, Fail}
use Rattle.module_code.specs.Program.{Program, IsModule}
use Rattle.run_model.specs.declared.bucket.BrigadeVar.{BrigadeVar}
use Rattle.run_model.specs.declared.bucket.BrigadeVar.TheVariants as var
use Rattle.run_model.specs.declared.bucket.NamedBucket.{NamedBucket}
use Rattle.run_model.specs.declared.fault.FaultKind.{FaultKind}
use Rattle.run_model.specs.Chains.{Frame, Connection, Common, Linked, configuration, files_of, led_to, touched_bucket, touched_var, touched_instance, touched_frame, put_back, module_at, places, IsChain}
use Rattle.run_model.specs.Cutting.{FitsKind}
use Rattle.run_model.specs.Effects.{do_pass, handed_over, with_items}
use Rattle.run_model.specs.Faults.{fault}
use Rattle.run_model.specs.Indexed.{upd}
use Rattle.run_model.specs.Passing.{after_pass, given_back, passed_by}
use Rattle.run_model.specs.Sound.{count}
use Rattle.run_model.specs.State.{Configuration, Instance, items_of, set_brigade}
use Rattle.run_model.specs.Steps.{Choice, Outcome, step, current, lacks_names}
use Rattle.run_model.proofs.Names.{count_none}
use Rattle.run_model.proofs.Updates.{upd_at, upd_same}
use Rattle.model_laws.specs.ChainOrder.{has_call}
use Rattle.model_laws.specs.ChainSound.{ChainSound, IsNested, AreNamed}
use Rattle.model_laws.specs.Laws.{MayExecute, is_return}
use Rattle.model_laws.specs.OpenRuns.{Runs, Waits, Lasting, Standing, Execute, Answer, ToldOfMove, Done, Passes, Attempts, executed, answered, gone_elsewhere, IsMove}
use Rattle.model_laws.proofs.StepFiles.{neither}
use Rattle.model_laws.proofs.StepNames.{step_gives}
use Rattle.model_laws.proofs.Unchanged.{step_changes_only}
use Rattle.model_laws.proofs.chains.Modules.{module_at_proper}
use Rattle.model_laws.proofs.chains.PutBack.{IsTop}
use Rattle.model_laws.proofs.chains.Stacks.{StandsOnTop, stands_on_top}
use Rattle.model_laws.proofs.chains.TopSteps.{top_step}
use Rattle.model_laws.proofs.chains.Views.{sound_top}
use Rattle.model_laws.proofs.seen.Reach.{ReachedAlone, go, reached_sound}
use Rattle.model_laws.proofs.seen.Left.{names_touched, still_named, waits_left, rest_left}
use Rattle.model_laws.proofs.seen.Seen.{names_in, IsNamedIn, SeenCall, AllWaitSeen, StackSeen, SeenRest, ChainSeen}
use Rattle.model_laws.proofs.seen.Settle.{settle_running}

-- The open run's own moves.

abbrev pub running : Lasting → Configuration → Standing
running l r = record { phase = Runs; lasting = l; now = r }

abbrev pub chosen : Option (List ℕ) → Choice
chosen given = record { answer = Success; given = given }

-- neither a pass nor a return
abbrev pub is_plain : Instr → Bool
is_plain (instr.Pass b l) = false
is_plain (instr.Ret s) = false
is_plain i = true

plain_executed : (p : Program) (given : Option (List ℕ)) (s : Standing) (i : Instr) → is_plain i ≡ true
    → executed p given i s ≡ (Done, record s { now = record (step p (chosen given) i s.now).state { pc = led_to (step p (chosen given) i s.now).exit i s.now.pc } })
unfolding executed
plain_executed p given s (instr.Pass b l) plain = absurd (cc)
plain_executed p given s (instr.Ret u) plain = absurd (cc)
plain_executed p given s i plain = refl

pub attempts : (p : Program) (given : Option (List ℕ)) (s new : Standing) (told : ToldOfMove) (i : Instr) → current p s.now.pc ≡ i → fault p s.now i ≡ None → lacks_names s.now i ≡ false
    → executed p given i s ≡ (told, new) → Attempts (fault p s.now (current p s.now.pc)) p given s told new
attempts p given s new told i is none last does = subst (λ (j : Instr). Attempts (fault p s.now j) p given s told new) (sym is)
    (subst (λ (o : Option FaultKind). Attempts o p given s told new) (sym none)
    (ap (lacks_names s.now) is ∙ last, ap (λ (j : Instr). executed p given j s) is ∙ does))

pub plain_goes : (p : Program) (given : Option (List ℕ)) (i : Instr) → is_plain i ≡ true → (l : Lasting) (r : Configuration) → current p r.pc ≡ i → fault p r i ≡ None → lacks_names r i ≡ false
    → ReachedAlone p (running l r) → ReachedAlone p (running l (record (step p (chosen given) i r).state { pc = led_to (step p (chosen given) i r).exit i r.pc }))
unfolding IsMove
plain_goes p given i plain l r is none last h =
    go p (running l r) (running l (record (step p (chosen given) i r).state { pc = led_to (step p (chosen given) i r).exit i r.pc })) (Execute given) Done h
    (refl, attempts p given (running l r) _ Done i is none last (plain_executed p given (running l r) i plain))

-- A pass: its call waits.
pub pass_goes : (p : Program) (b to : ℕ) (l : Lasting) (r : Configuration) → current p r.pc ≡ instr.Pass b to → fault p r (instr.Pass b to) ≡ None → lacks_names r (instr.Pass b to) ≡ false
    → ReachedAlone p (running l r) → ReachedAlone p (record { phase = Waits; lasting = l; now = do_pass b r })
unfolding IsMove executed
pass_goes p b to l r is none last h =
    go p (running l r) (record { phase = Waits; lasting = l; now = do_pass b r }) (Execute None) (Passes (items_of (r.instance.brigades b))) h
    (refl, attempts p None (running l r) _ (Passes (items_of (r.instance.brigades b))) (instr.Pass b to) is none last refl)

-- nothing is given back
none_filled : (v : BrigadeVar) → with_items [] (handed_over v) ≡ handed_over v
none_filled var.Null = refl
none_filled var.Gone = refl
none_filled (var.Live v) = refl

none_back : (b : ℕ) (r : Configuration) → given_back b [] (do_pass b r).instance ≡ (do_pass b r).instance
unfolding set_brigade
none_back b r =
    let at : (do_pass b r).instance.brigades b ≡ handed_over (r.instance.brigades b) = upd_at r.instance.brigades b (handed_over (r.instance.brigades b)) in
    let empty : with_items [] ((do_pass b r).instance.brigades b) ≡ (do_pass b r).instance.brigades b = ap (with_items []) at ∙ (none_filled (r.instance.brigades b) ∙ sym at) in
    ap (λ (v : BrigadeVar). record (do_pass b r).instance { brigades = upd (do_pass b r).instance.brigades b v }) empty
    ∙ ap (λ (bs : ℕ → BrigadeVar). record (do_pass b r).instance { brigades = bs }) (upd_same (do_pass b r).instance.brigades b)

same_after : (t : Status) (p : Program) (b to : ℕ) (r : Configuration)
    → after_pass t (instr.Pass b to) r.pc ≡ led_to (step p (record { answer = t; given = None }) (instr.Pass b to) r).exit (instr.Pass b to) r.pc
same_after Success p b to r = refl
same_after Fail p b to r = refl

-- The last filter's pass is answered at once.
pub last_goes : (p : Program) (b to : ℕ) (t : Status) (l : Lasting) (r : Configuration) → IsModule p → current p r.pc ≡ instr.Pass b to → ReachedAlone p (record { phase = Waits; lasting = l; now = do_pass b r })
    → ReachedAlone p (running l (record (step p (record { answer = t; given = None }) (instr.Pass b to) r).state { pc = led_to (step p (record { answer = t; given = None }) (instr.Pass b to) r).exit (instr.Pass b to) r.pc }))
unfolding IsMove set_brigade
last_goes p b to t l r proper is h =
    let waits : Standing = record { phase = Waits; lasting = l; now = do_pass b r } in
    let sound = (reached_sound p waits proper h).sound in
    go p waits _ (Answer t []) Done h (
      refl,
      record {
        phase = refl;
        come = record {
          kinds = All-nil (λ (x : NamedBucket). FitsKind x.bucket);
          once = λ n. (let one : count (do_pass b r) n ≤ 1 = sound.names.once n in rw (count_none n) (omega (arith, one)));
          given = λ n le. count_none n;
        };
        is = ap (λ (x : Configuration). running l x) (is_now);
      },
    ) where
      is_now : record (step p (record { answer = t; given = None }) (instr.Pass b to) r).state { pc = led_to (step p (record { answer = t; given = None }) (instr.Pass b to) r).exit (instr.Pass b to) r.pc }
          ≡ answered p t [] (do_pass b r)
      is_now = sym (ap (λ (j : Instr). record (do_pass b r) { instance = given_back (passed_by j) [] (do_pass b r).instance; pc = after_pass t j r.pc }) is
          ∙ (ap (λ (x : Instance). record (do_pass b r) { instance = x; pc = after_pass t (instr.Pass b to) r.pc }) (none_back b r)
          ∙ ap (λ (n : ℕ). record (do_pass b r) { pc = n }) (same_after t p b to r)))

-- Which modules have a call.
pub has_touched : (bucket : NamedBucket → NamedBucket) (fs : List Frame) (k : ℕ) → has_call (map (touched_frame bucket) fs) k ≡ has_call fs k
unfolding has_call
has_touched bucket [] k = refl
has_touched bucket (f ∷ fs) k = ap (λ (b : Bool). (f.of == k) || b) (has_touched bucket fs k)

pub not_there : (f : Frame) (fs : List Frame) (k : ℕ) → has_call (f ∷ fs) k ≡ false → (k ≢ f.of) × (has_call fs k ≡ false)
unfolding has_call
not_there f fs k off =
    let parts = neither (f.of == k) (has_call fs k) off in
    (λ same. (let yes : (f.of == k) ≡ true = eq-eqb f.of k (sym same) in let both : true ≡ false = sym yes ∙ parts.0 in cc), parts.1)

pub none_more : (f : Frame) (fs : List Frame) (k : ℕ) → k ≢ f.of → has_call fs k ≡ false → has_call (f ∷ fs) k ≡ false
unfolding has_call
none_more f fs k ne off = ap (λ (b : Bool). b || has_call fs k) (ne_eqb f.of k (λ same. ne (sym same))) ∙ off

pub stack_of : (chain : List Program) (g : Common) (c : Connection) (f : Frame) (rest : List Frame) → c.stack ≡ f ∷ rest → ChainSeen chain g c → SeenCall Runs chain g c f rest × AllWaitSeen chain g c rest
stack_of chain g c f rest is s = subst (StackSeen chain g c) is s.stack

pub rest_of : (chain : List Program) (g : Common) (c : Connection) (f : Frame) (rest : List Frame) → c.stack ≡ f ∷ rest → ChainSeen chain g c → (k : ℕ) → k < places chain → has_call (f ∷ rest) k ≡ false → SeenRest chain g c k
rest_of chain g c f rest is s k lt off = s.rests k lt (ap (λ (fs : List Frame). has_call fs k) is ∙ off)

-- The call f executes i in place.
module _ (chain : List Program) (g : Common) (c : Connection) (f : Frame) (rest : List Frame) (chained : IsChain chain) (sound : ChainSound chain g c) (on_top : c.stack ≡ f ∷ rest)
    (i : Instr) (may : MayExecute (module_at chain f.of) (configuration g c f) i) (stays : is_return i ≡ false) (choice : Choice) (seen : ChainSeen chain g c) where
  abbrev p : Program
  p = module_at chain f.of

  abbrev o : Outcome
  o = step p choice i (configuration g c f)

  abbrev onward : Frame
  onward = record f { call = o.state.call; pc = led_to o.exit i f.pc }

  abbrev pub placed : Linked
  placed = put_back i f o.state (onward ∷ []) rest (g, c)

  known : StandsOnTop chain g.next c.req c.queue f rest
  known = stands_on_top chain g c f rest on_top sound.calls

  top : (reached : ℕ → Bool) × IsTop reached chain g c i f o.state
  top = top_step chain g c (module_at_proper chain chained) sound.pools f choice i may (sound_top chain g c f rest on_top sound)

  names : (g.next ≤ o.state.shared.next) × (o.state.shared.next < 2 ^ 64)
  unfolding configuration
  names = (let given = step_gives p choice i (configuration g c f) may in (given.rises, given.limit))

  waiting : List Frame
  waiting = map (touched_frame (touched_bucket (configuration g c f) i)) rest

  seen_as : Instance → ℕ → Configuration
  seen_as x n = record {
    instance = x;
    call = o.state.call;
    shared = record o.state.shared { conn = n; files = files_of placed.0 placed.1 };
    pc = onward.pc;
    out = o.state.out;
  }

  same_conn : o.state.shared.conn ≡ c.conn
  unfolding configuration
  same_conn = (step_changes_only p choice i (configuration g c f)).conn

  seen_is : configuration placed.0 placed.1 onward ≡ gone_elsewhere placed.0.next placed.0.pools (files_of placed.0 placed.1) placed.1.out (record o.state { pc = onward.pc })
  unfolding configuration put_back seen_as
  seen_is =
      ap (λ (b : Bool). seen_as (cond b o.state.instance (touched_instance (touched_var (configuration g c f) i) (c.instances f.of))) c.conn) (eq-eqb f.of f.of refl)
      ∙ ap (λ (n : ℕ). seen_as o.state.instance n) (sym same_conn)

  same_name : o.state.call.name ≡ f.call.name
  unfolding configuration
  same_name = (step_changes_only p choice i (configuration g c f)).call_name stays

  pools_same : (n : ℕ) (u : Frame) (fs : List Frame) → u.of ≤ f.of → IsNested u fs → IsNamedIn c fs n → IsNamedIn placed.1 (map (touched_frame (touched_bucket (configuration g c f) i)) fs) n
  pools_same n u fs le nested e = still_named chain g c f i o.state chained sound top.0 top.1 (onward ∷ []) rest names.0 names.1 n u fs le nested e

  -- what the open run of f reached then is what it sees
  top_placed : (s : SeenCall Runs chain g c f rest) → ReachedAlone p (running (record { calls = names_in (f ∷ rest); pools = s.pools }) (record o.state { pc = onward.pc }))
      → SeenCall Runs chain placed.0 placed.1 onward waiting
  unfolding waiting configuration put_back
  top_placed s h = record {
    pools = s.pools;
    below = λ n e. pools_same n f rest (omega arith) known.nested (s.below n e);
    reached = subst (λ (ns : List ℕ). ReachedAlone p (running (record { calls = ns; pools = s.pools }) (configuration placed.0 placed.1 onward)))
        (sym (ap (λ (n : ℕ). n ∷ names_in waiting) same_name ∙ ap (λ (ns : List ℕ). f.call.name ∷ ns) (names_touched (touched_bucket (configuration g c f) i) rest)))
        (settle_running p (record { calls = names_in (f ∷ rest); pools = s.pools }) (record o.state { pc = onward.pc }) (configuration placed.0 placed.1 onward) seen_is
        (omega arith, omega arith) (names.1, top.1.sound.limit) h);
  }

  pub placed_seen : ((s : SeenCall Runs chain g c f rest) → ReachedAlone p (running (record { calls = names_in (f ∷ rest); pools = s.pools }) (record o.state { pc = onward.pc }))) → ChainSeen chain placed.0 placed.1
  unfolding waiting put_back AreNamed
  placed_seen h =
      let old = stack_of chain g c f rest on_top seen in
      record {
        stack = (top_placed old.0 (h old.0), waits_left chain g c f i o.state chained sound top.0 top.1 (onward ∷ []) rest names.0 names.1 f rest (omega arith) known.nested known.named.2 old.1);
        rests = λ k lt off.
            (let parts = not_there onward waiting k off in
            rest_left chain g c f i o.state chained sound top.0 top.1 (onward ∷ []) rest names.0 names.1 k parts.0
            (rest_of chain g c f rest on_top seen k lt (none_more f rest k parts.0 (sym (has_touched (touched_bucket (configuration g c f) i) rest k) ∙ parts.1))));
      }
