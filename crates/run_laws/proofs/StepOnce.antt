-- A step of a connection, twice, over one device of which all is told.
use Rattle.std.proofs.Common.{◌≡◌, ℕ, Bool, true, false, ◌||◌, if◌then◌else◌, nat_le, List, [], ◌∷◌, Option, Some, None, Result, Ok, Err, refl, sym, ap, ap₂, subst, ◌∙◌}
use Rattle.std.proofs.Math.Path.{fun_ext}
use Rattle.module_code.specs.Program.{Program}
use Rattle.module_code.specs.declared.instr.Instr.{Instr}
use Rattle.module_code.specs.declared.instr.Instr.TheVariants as instr
use Rattle.module_code.specs.declared.instr.Status.{Status}
use Rattle.run_model.specs.declared.event.Cause.{Cause}
use Rattle.run_model.specs.declared.event.Cause.TheVariants as cause
use Rattle.run_model.specs.declared.event.Exit.{Exit}
use Rattle.run_model.specs.declared.event.Refusal.{Refusal}
use Rattle.run_model.specs.declared.event.Refusal.TheVariants as refusal
use Rattle.run_model.specs.declared.event.Stepped.{Stepped}
use Rattle.run_model.specs.declared.event.Stepped.TheVariants as stepped
use Rattle.run_model.specs.declared.fault.FaultKind.{FaultKind}
use Rattle.run_model.specs.declared.payload.Payload.{Payload}
use Rattle.run_model.specs.Pools.{Pools}
use Rattle.run_model.specs.State.{Configuration, Out, items_of}
use Rattle.run_model.specs.BucketSteps.{content_at, do_read, is_unread, read_given, read_within}
use Rattle.run_model.specs.Cursors.{CursorPlace, Nowhere, AtLoose, Within, AtEndOf, at_cursor}
use Rattle.run_model.specs.Faults.{fault}
use Rattle.run_model.specs.Steps.{answer_to, current, is_spent, jumps_if, lacks_names}
use Rattle.run_model.specs.Chains.{Frame, Linked, configuration, is_last, is_output, led_to, module_at, put_back, stepped_in}
use Rattle.run_model.specs.Passing.{Reads, answered_so, delivered, delivered_by, next_called, proceeds, put_out_by, returned_from, returns, went}
use Rattle.run_model.specs.Turns.{broken_by, calls_of, counted, executed, step_top, step_unless, steps, unless_fault, watched}
use Rattle.bucket_kinds.specs.Device.{Held, Device}
use Rattle.interp_exec.specs.CarriedOut.{ClosedWith, WereLetGo}
use Rattle.interp_calls.specs.Delivery.{IfElse, ReadsGiven}
use Rattle.module_run.specs.Proceeding.{TellsReads, TellsClear}
use Rattle.module_run.specs.Stepping.{ClearsAtTop, ClosesStep, TellsAtTop, TellsStep}
use Rattle.run_laws.specs.KnownFiles.{AreFilesKnown}
use Rattle.run_laws.proofs.DeviceReads.{delivered_once, given_once}

-- Of which files a clear closes.

let_go_once : (d e f : Device) (handed : List (ℕ × Payload)) (left : Pools Payload) → WereLetGo d e handed left → WereLetGo d f handed left → e ≡ f
let_go_once d e f handed left x y =
    ap (λ (n : List ℕ → Held). record e { named = n }) (x.others.named ∙ sym y.others.named)
    ∙ ap (λ (n : ℕ → Held). record e { named = f.named; numbered = n }) (fun_ext (λ file. x.closed file ∙ sym (y.closed file)))
    ∙ ap (λ (n : ℕ). record e { named = f.named; numbered = f.numbered; next = n }) (x.others.next ∙ sym y.others.next)
    ∙ ap (λ (n : ℕ). record e { named = f.named; numbered = f.numbered; next = f.next; failures = n }) (x.others.failures ∙ sym y.others.failures)
    ∙ ap (λ p. record f { plan = p }) (x.others.plan ∙ sym y.others.plan)

pub closed_once : (d e f : Device) (pool : Option ℕ) (old left : Pools Payload) → ClosedWith d e pool old left → ClosedWith d f pool old left → e ≡ f
closed_once d e f None old left x y = x ∙ sym y
closed_once d e f (Some p) old left x y = let_go_once d e f _ left x y

-- Of an instruction that has no fault.

read_so : (s : CursorPlace) (g h : Option (List ℕ)) (r : Configuration) → read_given g (content_at s) ≡ read_given h (content_at s) → do_read g s r ≡ do_read h s r
read_so Nowhere g h r same = refl
read_so (AtLoose x) g h r same = refl
read_so (Within b x) g h r same = ap (λ (o : Option (List ℕ)). read_within b x o r) same
read_so (AtEndOf b) g h r same = refl

module _ (d e h : Device) (told : AreFilesKnown d) (chain : List Program) (reads others : Reads) (f : Frame) (rest : List Frame) (v : Linked) where
  passes_so : (last : Bool) (b : ℕ) (i : Instr) (X : Linked)
      → IfElse last (IfElse v.1.out.ended (e ≡ d) (ReadsGiven d e (items_of ((v.1.instances f.of).brigades b)) reads 0)) (e ≡ d)
      → IfElse last (IfElse v.1.out.ended (h ≡ d) (ReadsGiven d h (items_of ((v.1.instances f.of).brigades b)) others 0)) (h ≡ d)
      → ((if last then delivered_by (module_at chain f.of) reads b i f rest v else X) ≡ (if last then delivered_by (module_at chain f.of) others b i f rest v else X)) × (e ≡ h)
  unfolding delivered_by
  passes_so true b i X x y =
      let both = delivered_once e h reads others d told v.1.out (items_of ((v.1.instances f.of).brigades b)) x y in
      (ap (λ (o : Out × Bool). by_out o) both.0, both.1) where
        by_out : Out × Bool → Linked
        by_out o = (let left = stepped_in (module_at chain f.of) (record { answer = answer_to o.1; given = None }) i f rest v in (left.0, record left.1 { out = o.0 }))
  passes_so false b i X x y = (refl, x ∙ sym y)

  puts_out_so : (last : Bool) → IfElse last (IfElse v.1.out.ended (e ≡ d) (ReadsGiven d e (items_of ((v.1.instances f.of).brigades 8)) reads 0)) (e ≡ d)
      → IfElse last (IfElse v.1.out.ended (h ≡ d) (ReadsGiven d h (items_of ((v.1.instances f.of).brigades 8)) others 0)) (h ≡ d)
      → ((if last then delivered v.1.out (items_of ((v.1.instances f.of).brigades 8)) reads else (v.1.out, true))
      ≡ (if last then delivered v.1.out (items_of ((v.1.instances f.of).brigades 8)) others else (v.1.out, true))) × (e ≡ h)
  puts_out_so true x y = delivered_once e h reads others d told v.1.out (items_of ((v.1.instances f.of).brigades 8)) x y
  puts_out_so false x y = (refl, x ∙ sym y)

  reads_so : (c l : ℕ) → read_given (reads 0) (content_at (at_cursor (configuration v.0 v.1 f) c)) ≡ read_given (others 0) (content_at (at_cursor (configuration v.0 v.1 f) c))
      → proceeds chain reads (instr.Read c l) f rest v ≡ proceeds chain others (instr.Read c l) f rest v
  unfolding proceeds stepped_in
  reads_so c l same =
      let r = configuration v.0 v.1 f in
      ap₂ (λ (exit : Exit) (s : Configuration). went (put_back (instr.Read c l) f s (record f { call = s.call; pc = led_to exit (instr.Read c l) f.pc } ∷ []) rest v))
      (ap (λ (b : Bool). jumps_if b) (is_unread_so (at_cursor r c) same)) (read_so (at_cursor r c) (reads 0) (others 0) r same) where
        is_unread_so : (s : CursorPlace) → read_given (reads 0) (content_at s) ≡ read_given (others 0) (content_at s) → is_unread (reads 0) s ≡ is_unread (others 0) s
        is_unread_so s is = rw (is) refl

  pub proceeds_once : (i : Instr) → TellsReads d e chain i f v reads → TellsReads d h chain i f v others → proceeds chain reads i f rest v ≡ proceeds chain others i f rest v
  unfolding proceeds stepped_in put_out_by
  proceeds_once (instr.Pass b l) x y = ap (λ (w : Linked). went w) (passes_so (is_last chain v.1 f.of) b (instr.Pass b l) _ x y).0
  proceeds_once (instr.Ret s) x y =
      ap (λ (o : Out × Bool). by_out o) (puts_out_so (is_output chain f.of) x y).0 where
        by_out : Out × Bool → Stepped × Linked
        by_out o = (let left = returns chain s f rest v in (answered_so o.1 left.0, (left.1.0, record left.1.1 { out = o.0 })))
  proceeds_once (instr.Read c l) x y = reads_so c l (given_once d told (content_at (at_cursor (configuration v.0 v.1 f) c)) (reads 0) (others 0) e h x y).0
  proceeds_once i x y = refl

  -- the device that is left, where w is left of the connection
  pub left_once : (i : Instr) (w : Linked) → TellsReads d e chain i f v reads → TellsReads d h chain i f v others → TellsClear d e i f v w → TellsClear d h i f v w → e ≡ h
  left_once (instr.Pass b l) w x y p q = (passes_so (is_last chain v.1 f.of) b (instr.Pass b l) v x y).1
  left_once (instr.Ret s) w x y p q = (puts_out_so (is_output chain f.of) x y).1
  left_once (instr.Read c l) w x y p q = (given_once d told (content_at (at_cursor (configuration v.0 v.1 f) c)) (reads 0) (others 0) e h x y).1
  left_once (instr.PClear n) w x y p q = closed_once d e h _ _ _ p q
  left_once (instr.PDestroy n) w x y p q = closed_once d e h _ _ _ p q
  left_once i w x y p q = x ∙ sym y

-- An instruction that has no fault answers none.

abbrev pub IsFaultFree : Stepped → Type 0
IsFaultFree stepped.Went = Unit {0}
IsFaultFree (stepped.CallEnded s) = Unit {0}
IsFaultFree (stepped.Fault k m pc) = ⊥

next_no_fault : (chain : List Program) (s : Status) (queue : List ℕ) (w : Linked) → IsFaultFree (next_called chain s queue w).0
next_no_fault chain s [] w = tt
next_no_fault chain s (k ∷ ks) w = tt

so_no_fault : (b : Bool) (s : Stepped) → IsFaultFree s → IsFaultFree (answered_so b s)
so_no_fault true s goes = goes
so_no_fault false s goes = tt

returns_no_fault : (chain : List Program) (s : Status) (f : Frame) (rest : List Frame) (v : Linked) → IsFaultFree (returns chain s f rest v).0
unfolding returned_from
returns_no_fault chain s f [] v = next_no_fault chain s v.1.queue _
returns_no_fault chain s f (w ∷ rest) v = tt

pub proceeds_no_fault : (chain : List Program) (reads : Reads) (i : Instr) (f : Frame) (rest : List Frame) (v : Linked) → IsFaultFree (proceeds chain reads i f rest v).0
unfolding proceeds
proceeds_no_fault chain reads (instr.Pass b l) f rest v = tt
proceeds_no_fault chain reads (instr.Ret s) f rest v = so_no_fault (put_out_by chain reads f v.1).1 (returns chain s f rest v).0 (returns_no_fault chain s f rest v)
proceeds_no_fault chain reads i f rest v = tt

pub told_at_top : (d e : Device) (chain : List Program) (s : Stepped) (v : Linked) (reads : Reads) → IsFaultFree s → TellsStep d e chain (Ok s) v reads
    → TellsAtTop d e chain v.1.stack v reads
told_at_top d e chain stepped.Went v reads goes x = x
told_at_top d e chain (stepped.CallEnded s) v reads goes x = x
told_at_top d e chain (stepped.Fault k m pc) v reads goes x = absurd goes

-- A step, where no memory is refused.
module _ (d e h : Device) (told : AreFilesKnown d) (budget : ℕ) (chain : List Program) (reads others : Reads) (v : Linked) where
  -- They answer the same, and leave the same of the connection and of the device.
  abbrev SameStep : Result Stepped Refusal × Linked → Result Stepped Refusal × Linked → Type 0
  SameStep x y = TellsStep d e chain x.0 v reads → TellsStep d h chain y.0 v others
      → (x ≡ y) × ((w : Linked) → ClosesStep d e chain x.0 v w → ClosesStep d h chain x.0 v w → e ≡ h)

  at_top : (f : Frame) (rest : List Frame) → v.1.stack ≡ f ∷ rest → (i : Instr) → i ≡ current (module_at chain f.of) f.pc → (g : Device) (given : Reads)
      → TellsStep d g chain (Ok (proceeds chain given i f rest v).0) v given → IsFaultFree (proceeds chain given i f rest v).0 → TellsReads d g chain i f v given
  unfolding TellsAtTop
  at_top f rest top i is g given z goes =
      subst (λ (j : Instr). TellsReads d g chain j f v given) (sym is)
      (subst (λ (fs : List Frame). TellsAtTop d g chain fs v given) top (told_at_top d g chain (proceeds chain given i f rest v).0 v given goes z))

  clears : (f : Frame) (rest : List Frame) → v.1.stack ≡ f ∷ rest → (i : Instr) → i ≡ current (module_at chain f.of) f.pc → (g : Device) (w : Linked)
      → ClearsAtTop d g chain v.1.stack v w → TellsClear d g i f v w
  unfolding ClearsAtTop
  clears f rest top i is g w z =
      subst (λ (j : Instr). TellsClear d g j f v w) (sym is) (subst (λ (fs : List Frame). ClearsAtTop d g chain fs v w) top z)

  -- The device that an instruction leaves.
  devices : (f : Frame) (rest : List Frame) → v.1.stack ≡ f ∷ rest → (i : Instr) → i ≡ current (module_at chain f.of) f.pc → (w : Linked) → TellsReads d e chain i f v reads
      → TellsReads d h chain i f v others → ClosesStep d e chain (Ok (proceeds chain reads i f rest v).0) v w → ClosesStep d h chain (Ok (proceeds chain reads i f rest v).0) v w → e ≡ h
  unfolding proceeds
  devices f rest top (instr.Ret s) is w x y p q = left_once d e h told chain reads others f rest v (instr.Ret s) w x y tt tt
  devices f rest top (instr.PClear n) is w x y p q =
      left_once d e h told chain reads others f rest v (instr.PClear n) w x y (clears f rest top (instr.PClear n) is e w p) (clears f rest top (instr.PClear n) is h w q)
  devices f rest top (instr.PDestroy n) is w x y p q =
      left_once d e h told chain reads others f rest v (instr.PDestroy n) w x y (clears f rest top (instr.PDestroy n) is e w p) (clears f rest top (instr.PDestroy n) is h w q)
  devices f rest top i is w x y p q = left_once d e h told chain reads others f rest v i w x y tt tt

  by_names : (spent : Bool) (f : Frame) (rest : List Frame) → v.1.stack ≡ f ∷ rest → (i : Instr) → i ≡ current (module_at chain f.of) f.pc
      → SameStep (if spent then broken_by cause.NamesSpent v else counted (proceeds chain reads i f rest v)) (if spent then broken_by cause.NamesSpent v else counted
      (proceeds chain others i f rest v))
  by_names true f rest top i is x y = (refl, λ w p q. x ∙ sym y)
  by_names false f rest top i is x y =
      let left = at_top f rest top i is e reads x (proceeds_no_fault chain reads i f rest v) in
      let right = at_top f rest top i is h others y (proceeds_no_fault chain others i f rest v) in
      (ap (λ (w : Stepped × Linked). counted w) (proceeds_once d e h told chain reads others f rest v i left right), λ w p q. devices f rest top i is w left right p q)

  by_fault : (o : Option FaultKind) (f : Frame) (rest : List Frame) → v.1.stack ≡ f ∷ rest
      → SameStep (unless_fault o f v (executed true chain reads (current (module_at chain f.of) f.pc) f rest v)) (unless_fault o f v
      (executed true chain others (current (module_at chain f.of) f.pc) f rest v))
  unfolding executed
  by_fault (Some k) f rest top x y = (refl, λ w p q. x ∙ sym y)
  by_fault None f rest top x y =
      let i = current (module_at chain f.of) f.pc in
      by_names (lacks_names (configuration v.0 v.1 f) i || is_spent v.0.next (calls_of (is_last chain v.1 f.of) i rest v.1.queue)) f rest top i refl x y

  by_budget : (over : Bool) (f : Frame) (rest : List Frame) → v.1.stack ≡ f ∷ rest
      → SameStep (if over then broken_by cause.OutOfSteps v else watched true chain reads f rest v) (if over then broken_by cause.OutOfSteps v else watched true chain others f rest v)
  by_budget true f rest top x y = (refl, λ w p q. x ∙ sym y)
  by_budget false f rest top x y = by_fault (fault (module_at chain f.of) (configuration v.0 v.1 f) (current (module_at chain f.of) f.pc)) f rest top x y

  by_stack : (fs : List Frame) → v.1.stack ≡ fs → SameStep (step_top true budget chain reads fs v) (step_top true budget chain others fs v)
  by_stack [] top x y = (refl, λ w p q. x ∙ sym y)
  by_stack (f ∷ rest) top x y = by_budget (nat_le budget v.1.count) f rest top x y

  -- A broken connection reads nothing.
  still : (k : Cause) → v.1.broken ≡ Some k → (g : Device) (given : Reads) → TellsStep d g chain (Err (refusal.Broken k)) v given → g ≡ d
  still k is g given x = x

  by_cause : (o : Option Cause) → v.1.broken ≡ o → SameStep (step_unless o true budget chain reads v) (step_unless o true budget chain others v)
  by_cause (Some k) is x y = (refl, λ w p q. still k is e reads x ∙ sym (still k is h others y))
  by_cause None is x y = by_stack v.1.stack refl x y

  pub steps_once : SameStep (steps true budget chain reads v) (steps true budget chain others v)
  unfolding steps
  steps_once x y = by_cause v.1.broken refl x y
