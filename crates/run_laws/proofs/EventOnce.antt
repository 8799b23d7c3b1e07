-- An event of a host, twice, over one device of which all is told.
use Rattle.std.proofs.Common.{◌≡◌, ◌≢◌, ◌⊎◌, ℕ, ◌+◌, Bool, true, false, ◌||◌, if◌then◌else◌, not, List, [], ◌∷◌, ◌++◌, length, Option, Some, None, is_some, Result, Ok, Err, inl, inr, refl, sym, ap, ap₂, subst, ◌∙◌, arith}
use Rattle.std.specs.List.{list_any}
use Rattle.module_code.specs.Program.{Program}
use Rattle.module_code.specs.declared.instr.Instr.{Instr}
use Rattle.run_model.specs.declared.event.Cause.{Cause}
use Rattle.run_model.specs.declared.event.Cause.TheVariants as cause
use Rattle.run_model.specs.declared.event.Event.{Event}
use Rattle.run_model.specs.declared.event.Event.TheVariants as event
use Rattle.run_model.specs.declared.event.Refusal.{Refusal}
use Rattle.run_model.specs.declared.event.Refusal.TheVariants as refusal
use Rattle.run_model.specs.declared.event.Stepped.{Stepped}
use Rattle.run_model.specs.declared.fault.FaultKind.{FaultKind}
use Rattle.run_model.specs.Faults.{fault}
use Rattle.run_model.specs.Steps.{current, is_spent}
use Rattle.run_model.specs.Refusals.{first_refusal, if_broken, refused_if}
use Rattle.run_model.specs.Pieces.{data_behind_eos, lacks_file}
use Rattle.run_model.specs.Chains.{Connection, Frame, Linked, configuration, module_at, pools_of}
use Rattle.run_model.specs.Passing.{Reads, proceeds}
use Rattle.run_model.specs.Turns.{Opening, Found, Missing, Failing, begins, begun, broken_by, brings, brought, counted, ended, ends, executed, file_answer, is_busy, is_failing, is_missing, number_given}
use Rattle.run_model.specs.Turns.{opens_file, step_top, step_unless, steps, unless_fault, unless_refused, watched}
use Rattle.run_model.specs.Worlds.{World, Told, Answer, Done, Refused, Step, adds_file, answered, closes, file_answered, happens_on, opens, opens_if, put_conn, step_answered}
use Rattle.run_model.proofs.Updates.{upd_at}
use Rattle.bucket_kinds.specs.Device.{Device, Missing as NoFile, Untold, Holds}
use Rattle.bucket_kinds.specs.Device as held
use Rattle.module_run.specs.OpenedFile.{IsAfterOpening, MayTell}
use Rattle.module_run.specs.Proceeding.{MayHold}
use Rattle.bucket_kinds.specs.Answers.{MayMiss}
use Rattle.module_run.specs.Stepping.{ClosesStep, TellsStep}
use Rattle.filter_chain.specs.HostViews.{HostView, Answers, ClosesFiles, HasAdded, StepTellsReads, TellsEvent, refusal_in}
use Rattle.run_laws.specs.KnownFiles.{AreFilesKnown, is_no_memory, is_out_of_memory, answers_no_memory, reports_no_memory}
use Rattle.run_laws.proofs.DeviceReads.{never_fails}
use Rattle.run_laws.proofs.StepOnce.{closed_once, steps_once}

-- What is not out of memory is answered, and left, also where no memory is refused.

no_lack : (b : Bool) → b ≡ true → b ≡ false → ⊥
no_lack b lacks none = (let never : true ≡ false = sym lacks ∙ none in cc)

-- memory: the last test of an event
abbrev lacks_last : Bool → List (Option Refusal) → Option Refusal
lacks_last memory tests = first_refusal (tests ++ refused_if (not memory) refusal.NoMemory ∷ [])

by_tests : (tests : List (Option Refusal)) → (lacks_last false tests ≡ Some refusal.NoMemory) ⊎ (lacks_last false tests ≡ lacks_last true tests)
by_tests [] = inl refl
by_tests (None ∷ tests) = by_tests tests
by_tests (Some r ∷ tests) = inr refl

module _ (f : Option Refusal → Answer × World) (lacking : (f (Some refusal.NoMemory)).0 ≡ Refused refusal.NoMemory) where
  sure_last : (memory : Bool) (tests : List (Option Refusal)) (a : Answer) (new : World) → f (lacks_last memory tests) ≡ (a, new) → answers_no_memory a ≡ false
      → f (lacks_last true tests) ≡ (a, new)
  sure_last true tests a new is none = is
  sure_last false tests a new is none = elim (by_tests tests) [
    | inl last ↦ absurd (no_lack (answers_no_memory a) (ap answers_no_memory (sym (ap (λ (x : Answer × World). x.0) is) ∙ ap (λ (o : Option Refusal). (f o).0) last ∙ lacking)) none)
    | inr same ↦ sym (ap f same) ∙ is
  ]

module _ (budget : ℕ) (chain : List Program) (reads : Reads) (k : ℕ) (w : World) (v : Linked) where
  -- One step, with memory or without: it is the same, or tells the lack.
  abbrev Sure : Result Stepped Refusal × Linked → Result Stepped Refusal × Linked → Type 0
  Sure x y = (x.0 ≡ Err (refusal.Broken cause.NoMemory)) ⊎ (x ≡ y)

  sure_growth : (grown : Bool) (x : Stepped × Linked) → Sure (if false || not grown then counted x else broken_by cause.NoMemory v) (counted x)
  sure_growth true x = inl refl
  sure_growth false x = inr refl

  sure_names : (spent grown : Bool) (x : Stepped × Linked)
      → Sure (if spent then broken_by cause.NamesSpent v else (if false || not grown then counted x else broken_by cause.NoMemory v))
      (if spent then broken_by cause.NamesSpent v else counted x)
  sure_names true grown x = inr refl
  sure_names false grown x = sure_growth grown x

  sure_fault : (o : Option FaultKind) (i : Instr) (f : Frame) (rest : List Frame)
      → Sure (unless_fault o f v (executed false chain reads i f rest v)) (unless_fault o f v (executed true chain reads i f rest v))
  unfolding executed
  sure_fault (Some n) i f rest = inr refl
  sure_fault None i f rest = sure_names _ _ (proceeds chain reads i f rest v)

  sure_budget : (over : Bool) (f : Frame) (rest : List Frame)
      → Sure (if over then broken_by cause.OutOfSteps v else watched false chain reads f rest v) (if over then broken_by cause.OutOfSteps v else watched true chain reads f rest v)
  sure_budget true f rest = inr refl
  sure_budget false f rest = sure_fault (fault (module_at chain f.of) (configuration v.0 v.1 f) (current (module_at chain f.of) f.pc)) (current (module_at chain f.of) f.pc) f rest

  sure_stack : (fs : List Frame) → Sure (step_top false budget chain reads fs v) (step_top true budget chain reads fs v)
  sure_stack [] = inr refl
  sure_stack (f ∷ rest) = sure_budget _ f rest

  sure_cause : (o : Option Cause) → Sure (step_unless o false budget chain reads v) (step_unless o true budget chain reads v)
  sure_cause (Some c) = inr refl
  sure_cause None = sure_stack v.1.stack

  sure_steps : Sure (steps false budget chain reads v) (steps true budget chain reads v)
  unfolding steps
  sure_steps = sure_cause v.1.broken

  lack_told : (x : Result Stepped Refusal × Linked) → x.0 ≡ Err (refusal.Broken cause.NoMemory) → reports_no_memory (step_answered k w x).0 ≡ true
  lack_told (Ok s, z) is = absurd (cc)
  lack_told (Err r, z) is = (let same : r ≡ refusal.Broken cause.NoMemory = cc in ap is_no_memory same)

  sure_step : (memory : Bool) (a : Answer) (new : World) → step_answered k w (steps memory budget chain reads v) ≡ (a, new) → reports_no_memory a ≡ false
      → step_answered k w (steps true budget chain reads v) ≡ (a, new)
  sure_step true a new is none = is
  sure_step false a new is none = elim sure_steps [
    | inl lacks ↦ absurd (no_lack (reports_no_memory a) (sym (ap (λ (x : Answer × World). reports_no_memory x.0) is) ∙ lack_told (steps false budget chain reads v) lacks) none)
    | inr same ↦ sym (ap (λ (x : Result Stepped Refusal × Linked). step_answered k w x) same) ∙ is
  ]

module _ (budget : ℕ) (chain : List Program) (told : Told) (k : ℕ) (w : World) (a : Answer) (new : World) where
  sure_close : answers_no_memory a ≡ false → (memory : Bool) (c : Connection) → closes memory k c w ≡ (a, new) → closes true k c w ≡ (a, new)
  sure_close none true c is = is
  sure_close none false c is = absurd (no_lack (answers_no_memory a) (ap (λ (x : Answer × World). answers_no_memory x.0) (sym is)) none)

  sure_file : answers_no_memory a ≡ false → (memory : Bool) → adds_file memory w ≡ (a, new) → adds_file true w ≡ (a, new)
  sure_file none true is = is
  sure_file none false is = absurd (no_lack (answers_no_memory a) (ap (λ (x : Answer × World). answers_no_memory x.0) (sym is)) none)

  surely_on : (memory : Bool) (what : Event) → is_out_of_memory what a ≡ false → (o : Option Connection) → happens_on memory budget chain told what k o w ≡ (a, new)
      → happens_on true budget chain told what k o w ≡ (a, new)
  unfolding happens_on opens begins brings ends opens_file
  surely_on memory event.Open none o is =
      sure_last (λ r. opens_if r chain w) refl memory (refused_if (is_spent (w.last + 1) 1 || (is_spent w.common.pools 1 || is_spent w.common.next 1)) refusal.NamesSpent ∷ []) a new is none
  surely_on memory (event.AddFile name bytes) none o is = sure_file none memory is
  surely_on memory event.TellPools none o is = is
  surely_on memory event.TakeOutput none None is = is
  surely_on memory event.TakeOutput none (Some c) is = is
  surely_on memory event.TellLabels none None is = is
  surely_on memory event.TellLabels none (Some c) is = is
  surely_on memory (event.OpenFile name) none None is = is
  surely_on memory (event.OpenFile name) none (Some c) is =
      let v : Linked = (w.common, c) in
      sure_last (λ r. file_answered k w (file_answer r c.req told.opening v)) refl memory (if_broken c.broken
      ∷ (refused_if (is_busy c.stack) refusal.Busy
      ∷ (refused_if (not (is_some c.req)) refusal.NotInRequest
      ∷ (refused_if (is_missing told.opening) refusal.NoFile
      ∷ (refused_if (is_failing told.opening) refusal.FileFailed
      ∷ (refused_if (is_spent (number_given w.common told.opening) 1) refusal.NamesSpent ∷ [])))))) a new is none
  surely_on memory event.Begin none None is = is
  surely_on memory event.Begin none (Some c) is =
      let v : Linked = (w.common, c) in
      sure_last (λ r. answered k w (unless_refused r v (begun chain v))) refl memory (if_broken c.broken
      ∷ (refused_if (is_busy c.stack) refusal.Busy
      ∷ (refused_if (is_some c.req) refusal.InRequest
      ∷ (refused_if (is_spent w.common.pools 1 || is_spent w.common.next 1) refusal.NamesSpent ∷ [])))) a new is none
  surely_on memory (event.Bring pieces) none None is = is
  surely_on memory (event.Bring pieces) none (Some c) is =
      let v : Linked = (w.common, c) in
      sure_last (λ r. answered k w (unless_refused r v (brought chain pieces c.req v))) refl memory (if_broken c.broken
      ∷ (refused_if (is_busy c.stack) refusal.Busy
      ∷ (refused_if (not (is_some c.req)) refusal.NotInRequest
      ∷ (refused_if (data_behind_eos pieces) refusal.DataAfterEos
      ∷ (refused_if (list_any (lacks_file c.files) pieces) refusal.NoFile
      ∷ (refused_if (is_spent w.common.next (2 + length pieces)) refusal.NamesSpent ∷ [])))))) a new is none
  surely_on memory event.Step none None is = is
  surely_on memory event.Step none (Some c) is = sure_step budget chain told.reads k w (w.common, c) memory a new is none
  surely_on memory event.End none None is = is
  surely_on memory event.End none (Some c) is =
      let v : Linked = (w.common, c) in
      sure_last (λ r. answered k w (unless_refused r v (ended c.req v))) refl memory (if_broken c.broken
      ∷ (refused_if (is_busy c.stack) refusal.Busy
      ∷ (refused_if (not (is_some c.req)) refusal.NotInRequest ∷ []))) a new is none
  surely_on memory event.Close none None is = is
  surely_on memory event.Close none (Some c) is = sure_close none memory c is

-- What is told of an opening.

abbrev MayHoldAt : held.Held → ℕ → ℕ → List ℕ → ℕ → Type 0
MayHoldAt h next last bytes n = MayHold h bytes × (next + n ≡ last)

found_missing : (h : held.Held) → h ≢ Untold → (bytes : List ℕ) → MayHold h bytes → MayMiss h → ⊥
found_missing NoFile told bytes x y = absurd x
found_missing Untold told bytes x y = absurd (told refl)
found_missing (Holds text) told bytes x y = absurd y

by_held : (h : held.Held) → h ≢ Untold → (next last : ℕ) (a b : List ℕ) (n m : ℕ) → MayHoldAt h next last a n → MayHoldAt h next last b m → ◌≡◌ {A = Opening} (Found n a) (Found m b)
by_held NoFile told next last a b n m x y = absurd x.0
by_held Untold told next last a b n m x y = absurd (told refl)
by_held (Holds bytes) told next last a b n m x y = (let same : n ≡ m = omega (arith, x.1, y.1) in ap₂ Found same (sym x.0 ∙ y.0))

opening_once : (next : ℕ) (d : Device) (name : List ℕ) → AreFilesKnown d → (x y : Opening) → MayTell next d name x → MayTell next d name y → x ≡ y
opening_once next d name told (Found n a) (Found m b) x y = by_held (d.named name) (told.named name) next d.next a b n m x y
opening_once next d name told (Found n a) Missing x y = absurd (found_missing (d.named name) (told.named name) a x.0 y)
opening_once next d name told Missing (Found m b) x y = absurd (found_missing (d.named name) (told.named name) b y.0 x)
opening_once next d name told Missing Missing x y = refl
opening_once next d name told Failing y' x y = absurd (never_fails d told x)
opening_once next d name told x' Failing x y = absurd (never_fails d told y)

abbrev option_lacks : Option Refusal → Bool
option_lacks None = false
option_lacks (Some r) = answers_no_memory (Refused r)

after_once : (name : List ℕ) (o : Option Refusal) (d e f : Device) → AreFilesKnown d → option_lacks o ≡ false → IsAfterOpening name o d e → IsAfterOpening name o d f → e ≡ f
after_once name None d e f told none x y = x.1 ∙ sym y.1
after_once name (Some refusal.NoFile) d e f told none x y = x.1 ∙ sym y.1
after_once name (Some refusal.FileFailed) d e f told none x y = absurd (never_fails d told x.0)
after_once name (Some refusal.NamesSpent) d e f told none x y = x.1 ∙ sym y.1
after_once name (Some refusal.NoMemory) d e f told none x y = absurd (cc)
after_once name (Some r) d e f told none x y = x ∙ sym y

-- The whole event. o: the connection of its number.
module _ (budget : ℕ) (chain : List Program) (number : ℕ) (s : HostView) (full : AreFilesKnown s.device) where
  -- what the event is told, where its connection is o
  abbrev TellsOn : Event → Option Connection → Answer → Told → Device → Type 0
  TellsOn event.Step o answer told e = StepTellsReads chain s o answer told.reads e
  TellsOn what o answer told e = TellsEvent chain number what s answer told e

  tells_on : (what : Event) (answer : Answer) (told : Told) (e : Device) → TellsEvent chain number what s answer told e → TellsOn what (s.world.conns number) answer told e
  unfolding TellsEvent
  tells_on event.Step answer told e x = x
  tells_on what answer told e x = x

  -- What an event answers and leaves of the world, with the device then.
  pub record ActsOn (what : Event) (o : Option Connection) (told : Told) (q : Answer × World) (e : Device) : Type 0 where
    is : happens_on true budget chain told what number o s.world ≡ q
    tells : TellsOn what o q.0 told e
    closed : ClosesFiles s.device e chain what q.0 s.world.common o q.1.common (q.1.conns number)

  pub acts_on : (what : Event) (a : Answer) (t : HostView) (x : Answers budget chain number what s a t) → is_out_of_memory what a ≡ false
      → ActsOn what (s.world.conns number) x.told (a, t.world) t.device
  acts_on what a t x none = record {
    is = surely_on budget chain x.told number s.world a t.world x.memory what none (s.world.conns number) x.is;
    tells = tells_on what a x.told t.device x.tells;
    closed = x.closes;
  }

  abbrev OnceOn : Event → Option Connection → Type 0
  OnceOn what o = (a b : Told) (q p : Answer × World) (e f : Device) → is_out_of_memory what q.0 ≡ false → ActsOn what o a q e → ActsOn what o b p f → (q ≡ p) × (e ≡ f)

  -- An event that asks no device.
  quiet : (what : Event) (o : Option Connection) (a b : Told) (q p : Answer × World) (e f : Device) → e ≡ s.device → f ≡ s.device
      → happens_on true budget chain a what number o s.world ≡ happens_on true budget chain b what number o s.world → ActsOn what o a q e → ActsOn what o b p f → (q ≡ p) × (e ≡ f)
  quiet what o a b q p e f same so alike x y = (sym x.is ∙ alike ∙ y.is, same ∙ sym so)

  -- what is told of an opening
  refused_so : (a : Answer) → option_lacks (refusal_in a) ≡ answers_no_memory a
  refused_so (Refused r) = refl
  refused_so a = refl

  opens_once : (name : List ℕ) (o : Option Connection) (a b : Told) (q p : Answer × World) (e f : Device) → answers_no_memory q.0 ≡ false
      → MayTell s.world.common.file s.device name a.opening × IsAfterOpening name (refusal_in q.0) s.device e
      → MayTell s.world.common.file s.device name b.opening × IsAfterOpening name (refusal_in p.0) s.device f
      → (a.opening ≡ b.opening → q ≡ p) → (q ≡ p) × (e ≡ f)
  opens_once name o a b q p e f none x y go =
      let same = go (opening_once s.world.common.file s.device name full a.opening b.opening x.0 y.0) in (
        same,
        after_once name (refusal_in q.0) s.device e f full (refused_so q.0 ∙ none) x.1
            (subst (λ (z : Answer × World). IsAfterOpening name (refusal_in z.0) s.device f) (sym same) y.1),
      )

  -- what is told of a step
  step_tells : (c : Connection) (x : Result Stepped Refusal × Linked) (reads : Reads) (e : Device) → StepTellsReads chain s (Some c) (step_answered number s.world x).0 reads e
      → TellsStep s.device e chain x.0 (s.world.common, c) reads
  step_tells c (Ok t, z) reads e told = told
  step_tells c (Err r, z) reads e told = told

  step_closed : (c : Connection) (x : Result Stepped Refusal × Linked) (e : Device)
      → ClosesFiles s.device e chain event.Step (step_answered number s.world x).0 s.world.common (Some c) (step_answered number s.world x).1.common
      ((step_answered number s.world x).1.conns number)
      → ClosesStep s.device e chain x.0 (s.world.common, c) x.1
  step_closed c (Ok t, z) e closed =
      subst (λ (o : Option Connection). ClosesFiles s.device e chain event.Step (Step t) s.world.common (Some c) z.0 o) (upd_at s.world.conns number (Some z.1)) closed
  step_closed c (Err r, z) e closed = tt

  steps_on : (c : Connection) → OnceOn event.Step (Some c)
  unfolding happens_on
  steps_on c a b q p e f none x y =
      let both = steps_once s.device e f full budget chain a.reads b.reads v (tells q a e x.tells x.is) (tells p b f y.tells y.is) in
      let over : step_answered number s.world (steps true budget chain a.reads v) ≡ p = ap (λ (z : Result Stepped Refusal × Linked). step_answered number s.world z) both.0 ∙ y.is in
      (sym x.is ∙ over, both.1 _ (shuts q e x.closed x.is) (shuts p f y.closed over)) where
        v : Linked
        v = (s.world.common, c)

        tells : (z : Answer × World) (t : Told) (g : Device) → StepTellsReads chain s (Some c) z.0 t.reads g → step_answered number s.world (steps true budget chain t.reads v) ≡ z
            → TellsStep s.device g chain (steps true budget chain t.reads v).0 v t.reads
        tells z t g told is =
            step_tells c (steps true budget chain t.reads v) t.reads g (subst (λ (u : Answer × World). StepTellsReads chain s (Some c) u.0 t.reads g) (sym is) told)

        shuts : (z : Answer × World) (g : Device) → ClosesFiles s.device g chain event.Step z.0 s.world.common (Some c) z.1.common (z.1.conns number)
            → step_answered number s.world (steps true budget chain a.reads v) ≡ z → ClosesStep s.device g chain (steps true budget chain a.reads v).0 v (steps true budget chain a.reads v).1
        shuts z g closed is =
            step_closed c (steps true budget chain a.reads v) g
            (subst (λ (u : Answer × World). ClosesFiles s.device g chain event.Step u.0 s.world.common (Some c) u.1.common (u.1.conns number)) (sym is) closed)

  -- what the end of a request closes
  end_closed : (c : Connection) (x : Option Refusal × Linked) (e f : Device)
      → ClosesFiles s.device e chain event.End (answered number s.world x).0 s.world.common (Some c) (answered number s.world x).1.common ((answered number s.world x).1.conns number)
      → ClosesFiles s.device f chain event.End (answered number s.world x).0 s.world.common (Some c) (answered number s.world x).1.common ((answered number s.world x).1.conns number) → e ≡ f
  end_closed c (None, z) e f p q = closed_once s.device e f c.req (pools_of s.world.common c) (pools_of z.0 z.1) (there e p) (there f q) where
    there : (g : Device) → ClosesFiles s.device g chain event.End Done s.world.common (Some c) z.0 ((put_conn number z s.world).conns number)
        → ClosesFiles s.device g chain event.End Done s.world.common (Some c) z.0 (Some z.1)
    there g closed = subst (λ (o : Option Connection). ClosesFiles s.device g chain event.End Done s.world.common (Some c) z.0 o) (upd_at s.world.conns number (Some z.1)) closed
  end_closed c (Some r, z) e f p q = p ∙ sym q

  -- An event that is told nothing, but closes files.
  closing : (what : Event) (o : Option Connection) (x : Answer × World) (a b : Told) (q p : Answer × World) (e f : Device)
      → ((g h : Device) → ClosesFiles s.device g chain what x.0 s.world.common o x.1.common (x.1.conns number) → ClosesFiles s.device h chain what x.0 s.world.common o x.1.common
      (x.1.conns number) → g ≡ h)
      → x ≡ q → x ≡ p → ActsOn what o a q e → ActsOn what o b p f → (q ≡ p) × (e ≡ f)
  closing what o x a b q p e f shuts left right y z = (sym left ∙ right, shuts e f (back q e left y.closed) (back p f right z.closed)) where
    back : (u : Answer × World) (g : Device) → x ≡ u → ClosesFiles s.device g chain what u.0 s.world.common o u.1.common (u.1.conns number)
        → ClosesFiles s.device g chain what x.0 s.world.common o x.1.common (x.1.conns number)
    back u g is closed = subst (λ (w : Answer × World). ClosesFiles s.device g chain what w.0 s.world.common o w.1.common (w.1.conns number)) (sym is) closed

  added : (name bytes : List ℕ) (z : Answer × World) (g : Device) → HasAdded name bytes s.device z.0 g → (Done, s.world) ≡ z → HasAdded name bytes s.device Done g
  added name bytes z g told is = subst (λ (u : Answer × World). HasAdded name bytes s.device u.0 g) (sym is) told

  pub once_on : (what : Event) (o : Option Connection) → OnceOn what o
  unfolding happens_on TellsEvent
  once_on event.Open o a b q p e f none x y = quiet event.Open o a b q p e f x.tells y.tells refl x y
  once_on (event.AddFile name bytes) o a b q p e f none x y = (sym x.is ∙ y.is, (added name bytes q e x.tells x.is).1 ∙ sym (added name bytes p f y.tells y.is).1)
  once_on event.TellPools o a b q p e f none x y = quiet event.TellPools o a b q p e f x.tells y.tells refl x y
  once_on (event.OpenFile name) None a b q p e f none x y = opens_once name None a b q p e f none x.tells y.tells (λ same. sym x.is ∙ y.is)
  once_on (event.OpenFile name) (Some c) a b q p e f none x y =
      opens_once name (Some c) a b q p e f none x.tells y.tells
      (λ same. sym x.is ∙ ap (λ (o : Opening). file_answered number s.world (opens_file true o (s.world.common, c))) same ∙ y.is)
  once_on event.Begin None a b q p e f none x y = quiet event.Begin None a b q p e f x.tells y.tells refl x y
  once_on event.Begin (Some c) a b q p e f none x y = quiet event.Begin (Some c) a b q p e f x.tells y.tells refl x y
  once_on (event.Bring pieces) None a b q p e f none x y = quiet (event.Bring pieces) None a b q p e f x.tells y.tells refl x y
  once_on (event.Bring pieces) (Some c) a b q p e f none x y = quiet (event.Bring pieces) (Some c) a b q p e f x.tells y.tells refl x y
  once_on event.Step None a b q p e f none x y = quiet event.Step None a b q p e f x.tells y.tells refl x y
  once_on event.Step (Some c) a b q p e f none x y = steps_on c a b q p e f none x y
  once_on event.End None a b q p e f none x y = closing event.End None (Refused refusal.NoSuchConn, s.world) a b q p e f (λ g h l r. l ∙ sym r) x.is y.is x y
  once_on event.End (Some c) a b q p e f none x y =
      closing event.End (Some c) (answered number s.world (ends true (s.world.common, c))) a b q p e f (λ g h l r. end_closed c (ends true (s.world.common, c)) g h l r) x.is y.is x y
  once_on event.TakeOutput None a b q p e f none x y = quiet event.TakeOutput None a b q p e f x.tells y.tells refl x y
  once_on event.TakeOutput (Some c) a b q p e f none x y = quiet event.TakeOutput (Some c) a b q p e f x.tells y.tells refl x y
  once_on event.TellLabels None a b q p e f none x y = quiet event.TellLabels None a b q p e f x.tells y.tells refl x y
  once_on event.TellLabels (Some c) a b q p e f none x y = quiet event.TellLabels (Some c) a b q p e f x.tells y.tells refl x y
  once_on event.Close None a b q p e f none x y = closing event.Close None (Refused refusal.NoSuchConn, s.world) a b q p e f (λ g h l r. l ∙ sym r) x.is y.is x y
  once_on event.Close (Some c) a b q p e f none x y =
      closing event.Close (Some c) (closes true number c s.world) a b q p e f (λ g h l r. closed_once s.device g h (Some c.conn) _ _ l r) x.is y.is x y
