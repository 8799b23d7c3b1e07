-- All is told of the files also after an event.
use Rattle.std.proofs.Common.{◌≡◌, ◌≢◌, ℕ, zero, suc, ◌+◌, ◌-◌, Bool, true, false, if◌then◌else◌, nat_le, min, List, [], ◌∷◌, Option, Some, None, Result, Ok, Err, inl, inr, refl, sym, ap, subst, ◌∙◌, bytes_eq}
use Rattle.module_code.specs.Program.{Program}
use Rattle.module_code.specs.declared.instr.Instr.{Instr}
use Rattle.module_code.specs.declared.instr.Instr.TheVariants as instr
use Rattle.run_model.specs.declared.bucket.Content.{Content}
use Rattle.run_model.specs.declared.bucket.Content.TheVariants as content
use Rattle.run_model.specs.declared.bucket.NamedBucket.{NamedBucket}
use Rattle.run_model.specs.declared.event.Cause.{Cause}
use Rattle.run_model.specs.declared.event.Cause.TheVariants as cause
use Rattle.run_model.specs.declared.event.Event.{Event}
use Rattle.run_model.specs.declared.event.Event.TheVariants as event
use Rattle.run_model.specs.declared.event.Refusal.{Refusal}
use Rattle.run_model.specs.declared.event.Refusal.TheVariants as refusal
use Rattle.run_model.specs.declared.event.Stepped.{Stepped}
use Rattle.run_model.specs.declared.fault.FaultKind.{FaultKind}
use Rattle.run_model.specs.declared.payload.Payload.{Payload}
use Rattle.run_model.specs.Pools.{Pools}
use Rattle.run_model.specs.Buckets.{is_eos}
use Rattle.run_model.specs.BucketSteps.{content_at}
use Rattle.run_model.specs.Cursors.{at_cursor}
use Rattle.run_model.specs.Cutting.{read_limit, wanted}
use Rattle.run_model.specs.Faults.{fault}
use Rattle.run_model.specs.Files.{parts_of}
use Rattle.run_model.specs.Steps.{current}
use Rattle.run_model.specs.Chains.{Connection, Frame, Linked, configuration, is_last, is_output, module_at, pools_of}
use Rattle.run_model.specs.Passing.{Reads, proceeds}
use Rattle.run_model.specs.Turns.{broken_by, counted, ends, executed, step_top, step_unless, steps, unless_fault, watched}
use Rattle.run_model.specs.Worlds.{World, Told, Answer, Done, Step, answered, closes, happens_on, step_answered}
use Rattle.run_model.proofs.Updates.{upd_at, upd_either}
use Rattle.bucket_kinds.specs.Device.{Held, Missing, Untold, Holds, Device, HasFailed, WasAsked, WentWell, moved, opened, closed}
use Rattle.interp_state.specs.Given.{MayGive}
use Rattle.interp_calls.specs.Delivery.{IfElse, PartGiven, PartsGiven, ContentGiven, ReadsGiven}
use Rattle.interp_exec.specs.CarriedOut.{ClosedWith, WereLetGo}
use Rattle.module_run.specs.Proceeding.{TellsReads, TellsClear}
use Rattle.module_run.specs.Stepping.{ClearsAtTop, ClosesStep, TellsAtTop, TellsStep}
use Rattle.module_run.specs.OpenedFile.{IsAfterOpening}
use Rattle.filter_chain.specs.HostViews.{HostView, ClosesFiles, HasAdded, StepTellsReads, TellsEvent, refusal_in}
use Rattle.run_laws.specs.KnownFiles.{AreFilesKnown}
use Rattle.run_laws.proofs.DeviceReads.{moved_told, never_fails}
use Rattle.run_laws.proofs.StepOnce.{proceeds_no_fault, told_at_top}

-- The device as it was, or after calls that went well.

same_told : (d e : Device) → AreFilesKnown d → e ≡ d → AreFilesKnown e
same_told d e told is = subst AreFilesKnown (sym is) told

went_told : (d e : Device) → AreFilesKnown d → WentWell d e → AreFilesKnown e
went_told d e told went = same_told (moved d) e (moved_told d told) went.1

failed_told : (d e : Device) → AreFilesKnown d → HasFailed d e → AreFilesKnown e
failed_told d e told failed = absurd (never_fails d told failed.0)

asked_told : (n : ℕ) (d e : Device) → AreFilesKnown d → WasAsked n d e → AreFilesKnown e
asked_told zero d e told is = same_told d e told is
asked_told (suc n) d e told went = went_told d e told went

-- After the reads of an instruction.

given_told : (d e : Device) → AreFilesKnown d → (x : Content) (given : Option (List ℕ)) → MayGive d x given e → AreFilesKnown e
given_told d e told x (Some bytes) gives = asked_told (wanted x) d e told gives.1
given_told d e told x None (some, inl failed) = failed_told d e told failed
given_told d e told x None (some, inr ends) = went_told d e told ends.0

module _ (e : Device) (reads : Reads) where
  part_told : (d : Device) → AreFilesKnown d → (file start n : ℕ) (given : Option (List ℕ)) (rest : Type 0) → (rest → AreFilesKnown e) → PartGiven d e file start n given rest → AreFilesKnown e
  part_told d told file start n (Some bytes) rest go (gives, well, left) = go left
  part_told d told file start n None rest go (inl failed) = failed_told d e told failed
  part_told d told file start n None rest go (inr ends) = went_told d e told ends.0

  module _ (next : Device → ℕ → Type 0) (go : (x : Device) (j : ℕ) → AreFilesKnown x → next x j → AreFilesKnown e) where
    parts_told : (n : ℕ) (d : Device) → AreFilesKnown d → (file start len k : ℕ) → PartsGiven d e n file start len reads next k → AreFilesKnown e
    unfolding PartsGiven
    parts_told zero d told file start len k x = go d k told x
    parts_told (suc n) d told file start len k x =
        part_told d told file start (min len read_limit) (reads k) _ (λ left. parts_told n (moved d) (moved_told d told) file (start + read_limit) (len - read_limit) (k + 1) left) x

    content_told : (c : Content) (d : Device) → AreFilesKnown d → (k : ℕ) → ContentGiven d e c reads next k → AreFilesKnown e
    content_told (content.Bytes bs) d told k x = go d k told x
    content_told (content.Range file start len) d told k x = parts_told (parts_of len) d told file start len k x
    content_told content.Nothing d told k x = go d k told x

  if_told : (b : Bool) (d : Device) (P : Type 0) → AreFilesKnown d → (P → AreFilesKnown e) → IfElse b (e ≡ d) P → AreFilesKnown e
  if_told true d P told go x = same_told d e told x
  if_told false d P told go x = go x

  items_told : (items : List NamedBucket) (d : Device) → AreFilesKnown d → (k : ℕ) → ReadsGiven d e items reads k → AreFilesKnown e
  unfolding ReadsGiven
  items_told [] d told k x = same_told d e told x
  items_told (b ∷ bs) d told k x =
      if_told (is_eos b) d _ told (λ left. content_told (λ g j. ReadsGiven g e bs reads j) (λ g j still more. items_told bs g still j more) b.bucket.content d told k left) x

  -- at the end of the chain
  put_told : (last over : Bool) (items : List NamedBucket) (d : Device) → AreFilesKnown d → IfElse last (IfElse over (e ≡ d) (ReadsGiven d e items reads 0)) (e ≡ d) → AreFilesKnown e
  put_told true over items d told x = if_told over d _ told (λ left. items_told items d told 0 left) x
  put_told false over items d told x = same_told d e told x

-- After what a clear closes.

kept_told : (b : Bool) (h : Held) → h ≢ Untold → (if b then Missing else h) ≢ Untold
kept_told true h told = λ is. cc
kept_told false h told = told

let_go_told : (d e : Device) → AreFilesKnown d → (handed : List (ℕ × Payload)) (left : Pools Payload) → WereLetGo d e handed left → AreFilesKnown e
let_go_told d e told handed left gone = record {
  sound = gone.others.plan ∙ told.sound;
  named = λ name is. told.named name (ap (λ (f : List ℕ → Held). f name) (sym gone.others.named) ∙ is);
  numbered = λ file is. kept_told _ (d.numbered file) (told.numbered file) (sym (gone.closed file) ∙ is);
}

pub closed_told : (d e : Device) → AreFilesKnown d → (pool : Option ℕ) (old left : Pools Payload) → ClosedWith d e pool old left → AreFilesKnown e
closed_told d e told None old left is = same_told d e told is
closed_told d e told (Some p) old left gone = let_go_told d e told _ left gone

-- After an instruction.

instr_told : (d e : Device) → AreFilesKnown d → (chain : List Program) (i : Instr) (f : Frame) (v w : Linked) (reads : Reads) → TellsReads d e chain i f v reads → TellsClear d e i f v w
    → AreFilesKnown e
instr_told d e told chain (instr.Pass b l) f v w reads x p = put_told e reads (is_last chain v.1 f.of) v.1.out.ended _ d told x
instr_told d e told chain (instr.Ret s) f v w reads x p = put_told e reads (is_output chain f.of) v.1.out.ended _ d told x
instr_told d e told chain (instr.Read c l) f v w reads x p = given_told d e told (content_at (at_cursor (configuration v.0 v.1 f) c)) (reads 0) x
instr_told d e told chain (instr.PClear n) f v w reads x p = closed_told d e told _ _ _ p
instr_told d e told chain (instr.PDestroy n) f v w reads x p = closed_told d e told _ _ _ p
instr_told d e told chain i f v w reads x p = same_told d e told x

-- After a step.
module _ (d e : Device) (told : AreFilesKnown d) (budget : ℕ) (chain : List Program) (reads : Reads) (v : Linked) where
  abbrev KeepsTold : Result Stepped Refusal × Linked → Type 0
  KeepsTold x = (w : Linked) → TellsStep d e chain x.0 v reads → ClosesStep d e chain x.0 v w → AreFilesKnown e

  refused_stays : (r : Refusal) (w z : Linked) → TellsStep d e chain (Err r) v reads → AreFilesKnown e
  refused_stays r w z x = same_told d e told x

  at_top : (f : Frame) (rest : List Frame) → v.1.stack ≡ f ∷ rest → (i : Instr) → i ≡ current (module_at chain f.of) f.pc
      → TellsStep d e chain (Ok (proceeds chain reads i f rest v).0) v reads → TellsReads d e chain i f v reads
  unfolding TellsAtTop
  at_top f rest top i is x =
      subst (λ (j : Instr). TellsReads d e chain j f v reads) (sym is)
      (subst (λ (fs : List Frame). TellsAtTop d e chain fs v reads) top (told_at_top d e chain (proceeds chain reads i f rest v).0 v reads (proceeds_no_fault chain reads i f rest v) x))

  clears : (f : Frame) (rest : List Frame) → v.1.stack ≡ f ∷ rest → (i : Instr) → i ≡ current (module_at chain f.of) f.pc → (w : Linked) → ClearsAtTop d e chain v.1.stack v w
      → TellsClear d e i f v w
  unfolding ClearsAtTop
  clears f rest top i is w z = subst (λ (j : Instr). TellsClear d e j f v w) (sym is) (subst (λ (fs : List Frame). ClearsAtTop d e chain fs v w) top z)

  by_instr : (f : Frame) (rest : List Frame) → v.1.stack ≡ f ∷ rest → (i : Instr) → i ≡ current (module_at chain f.of) f.pc → (w : Linked) → TellsReads d e chain i f v reads
      → ClosesStep d e chain (Ok (proceeds chain reads i f rest v).0) v w → AreFilesKnown e
  unfolding proceeds
  by_instr f rest top (instr.Ret s) is w x p = instr_told d e told chain (instr.Ret s) f v w reads x tt
  by_instr f rest top (instr.PClear n) is w x p = instr_told d e told chain (instr.PClear n) f v w reads x (clears f rest top (instr.PClear n) is w p)
  by_instr f rest top (instr.PDestroy n) is w x p = instr_told d e told chain (instr.PDestroy n) f v w reads x (clears f rest top (instr.PDestroy n) is w p)
  by_instr f rest top i is w x p = instr_told d e told chain i f v w reads x tt

  by_memory : (lacks : Bool) (f : Frame) (rest : List Frame) → v.1.stack ≡ f ∷ rest → (i : Instr) → i ≡ current (module_at chain f.of) f.pc
      → KeepsTold (if lacks then counted (proceeds chain reads i f rest v) else broken_by cause.NoMemory v)
  by_memory true f rest top i is w x p = by_instr f rest top i is w (at_top f rest top i is x) p
  by_memory false f rest top i is w x p = refused_stays (refusal.Broken cause.NoMemory) w v x

  by_names : (spent lacks : Bool) (f : Frame) (rest : List Frame) → v.1.stack ≡ f ∷ rest → (i : Instr) → i ≡ current (module_at chain f.of) f.pc
      → KeepsTold (if spent then broken_by cause.NamesSpent v else (if lacks then counted (proceeds chain reads i f rest v) else broken_by cause.NoMemory v))
  by_names true lacks f rest top i is w x p = same_told d e told x
  by_names false lacks f rest top i is w x p = by_memory lacks f rest top i is w x p

  by_fault : (memory : Bool) (o : Option FaultKind) (f : Frame) (rest : List Frame) → v.1.stack ≡ f ∷ rest
      → KeepsTold (unless_fault o f v (executed memory chain reads (current (module_at chain f.of) f.pc) f rest v))
  unfolding executed
  by_fault memory (Some k) f rest top w x p = same_told d e told x
  by_fault memory None f rest top w x p = by_names _ _ f rest top (current (module_at chain f.of) f.pc) refl w x p

  by_budget : (memory over : Bool) (f : Frame) (rest : List Frame) → v.1.stack ≡ f ∷ rest → KeepsTold (if over then broken_by cause.OutOfSteps v else watched memory chain reads f rest v)
  by_budget memory true f rest top w x p = same_told d e told x
  by_budget memory false f rest top w x p = by_fault memory (fault (module_at chain f.of) (configuration v.0 v.1 f) (current (module_at chain f.of) f.pc)) f rest top w x p

  by_stack : (memory : Bool) (fs : List Frame) → v.1.stack ≡ fs → KeepsTold (step_top memory budget chain reads fs v)
  by_stack memory [] top w x p = same_told d e told x
  by_stack memory (f ∷ rest) top w x p = by_budget memory (nat_le budget v.1.count) f rest top w x p

  by_cause : (memory : Bool) (o : Option Cause) → KeepsTold (step_unless o memory budget chain reads v)
  by_cause memory (Some k) w x p = refused_stays (refusal.Broken k) w v x
  by_cause memory None w x p = by_stack memory v.1.stack refl w x p

  pub step_told : (memory : Bool) → KeepsTold (steps memory budget chain reads v)
  unfolding steps
  step_told memory w x p = by_cause memory v.1.broken w x p

-- After an opening.

opened_told : (name : List ℕ) (d : Device) → AreFilesKnown d → AreFilesKnown (opened name d)
opened_told name d told = record {
  sound = told.sound;
  named = told.named;
  numbered = λ file is. elim (upd_either d.numbered d.next file (d.named name)) [ inl here ↦ told.named name (sym here.1 ∙ is) | inr there ↦ told.numbered file (sym there.1 ∙ is) ];
}

shut_told : (file : ℕ) (d : Device) → AreFilesKnown d → AreFilesKnown (closed file d)
shut_told shut d told = record {
  sound = told.sound;
  named = told.named;
  numbered = λ file is. elim (upd_either d.numbered shut file Missing) [
    | inl here ↦ (let never : Missing ≡ Untold = sym here.1 ∙ is in cc)
    | inr there ↦ told.numbered file
        (sym there.1 ∙ is)
  ];
}

opening_told : (name : List ℕ) (o : Option Refusal) (d e : Device) → AreFilesKnown d → IsAfterOpening name o d e → AreFilesKnown e
opening_told name None d e told x = same_told (opened name (moved d)) e (opened_told name (moved d) (moved_told d told)) x.1
opening_told name (Some refusal.NoFile) d e told x = went_told d e told x
opening_told name (Some refusal.FileFailed) d e told x = failed_told d e told x
opening_told name (Some refusal.NamesSpent) d e told x = went_told d e told x
opening_told name (Some refusal.NoMemory) d e told (well, inl is) = same_told (moved d) e (moved_told d told) is
opening_told name (Some refusal.NoMemory) d e told (well, inr is) = same_told _ e (shut_told d.next _ (opened_told name (moved d) (moved_told d told))) is
opening_told name (Some r) d e told x = same_told d e told x

named_told : (b : Bool) (bytes : List ℕ) (h : Held) → h ≢ Untold → (if b then Holds bytes else h) ≢ Untold
named_told true bytes h told = λ is. cc
named_told false bytes h told = told

added_told : (name bytes : List ℕ) (d e : Device) (a : Answer) → AreFilesKnown d → HasAdded name bytes d a e → AreFilesKnown e
added_told name bytes d e Done told x =
    same_told (record d { named = λ q. if bytes_eq q name then Holds bytes else d.named q }) e
    (record { sound = told.sound; named = λ q is. named_told (bytes_eq q name) bytes (d.named q) (told.named q) is; numbered = told.numbered }) x.1
added_told name bytes d e a told x = same_told d e told x

-- After an event. o: the connection of its number.
module _ (budget : ℕ) (chain : List Program) (number : ℕ) (s : HostView) (told : AreFilesKnown s.device) (e : Device) where
  by_steps : (memory : Bool) (c : Connection) (reads : Reads) (x : Result Stepped Refusal × Linked) (is : steps memory budget chain reads (s.world.common, c) ≡ x)
      → StepTellsReads chain s (Some c) (step_answered number s.world x).0 reads e
      → ClosesFiles s.device e chain event.Step (step_answered number s.world x).0 s.world.common (Some c) (step_answered number s.world x).1.common
      ((step_answered number s.world x).1.conns number)
      → AreFilesKnown e
  by_steps memory c reads (Ok t, z) is x p =
      let v : Linked = (s.world.common, c) in
      step_told s.device e told budget chain reads v memory z (subst (λ (r : Result Stepped Refusal × Linked). TellsStep s.device e chain r.0 v reads) (sym is) x)
      (subst (λ (r : Result Stepped Refusal × Linked). ClosesStep s.device e chain r.0 v z) (sym is)
      (subst (λ (o : Option Connection). ClosesFiles s.device e chain event.Step (Step t) s.world.common (Some c) z.0 o) (upd_at s.world.conns number (Some z.1)) p))
  by_steps memory c reads (Err r, z) is x p =
      let v : Linked = (s.world.common, c) in
      step_told s.device e told budget chain reads v memory z (subst (λ (y : Result Stepped Refusal × Linked). TellsStep s.device e chain y.0 v reads) (sym is) x)
      (subst (λ (y : Result Stepped Refusal × Linked). ClosesStep s.device e chain y.0 v z) (sym is) tt)

  by_end : (c : Connection) (x : Option Refusal × Linked)
      → ClosesFiles s.device e chain event.End (answered number s.world x).0 s.world.common (Some c) (answered number s.world x).1.common ((answered number s.world x).1.conns number)
      → AreFilesKnown e
  by_end c (None, z) p =
      closed_told s.device e told c.req (pools_of s.world.common c) (pools_of z.0 z.1)
      (subst (λ (o : Option Connection). ClosesFiles s.device e chain event.End Done s.world.common (Some c) z.0 o) (upd_at s.world.conns number (Some z.1)) p)
  by_end c (Some r, z) p = same_told s.device e told p

  by_close : (memory : Bool) (c : Connection)
      → ClosesFiles s.device e chain event.Close (closes memory number c s.world).0 s.world.common (Some c) (closes memory number c s.world).1.common
      ((closes memory number c s.world).1.conns number)
      → AreFilesKnown e
  by_close true c p = closed_told s.device e told (Some c.conn) _ _ p
  by_close false c p = same_told s.device e told p

  pub event_told : (memory : Bool) (t : Told) (what : Event) (o : Option Connection) (q : Answer × World) → o ≡ s.world.conns number
      → happens_on memory budget chain t what number o s.world ≡ q
      → TellsEvent chain number what s q.0 t e → ClosesFiles s.device e chain what q.0 s.world.common o q.1.common (q.1.conns number) → AreFilesKnown e
  unfolding happens_on TellsEvent
  event_told memory t (event.AddFile name bytes) o q there is x p = added_told name bytes s.device e q.0 told x
  event_told memory t (event.OpenFile name) o q there is x p = opening_told name (refusal_in q.0) s.device e told x.1
  event_told memory t event.Step None q there is x p =
      same_told s.device e told (subst (λ (o : Option Connection). StepTellsReads chain s o q.0 t.reads e) (sym there) x)
  event_told memory t event.Step (Some c) q there is x p =
      by_steps memory c t.reads (steps memory budget chain t.reads (s.world.common, c)) refl
      (subst (λ (z : Answer × World). StepTellsReads chain s (Some c) z.0 t.reads e) (sym is) (subst (λ (o : Option Connection). StepTellsReads chain s o q.0 t.reads e) (sym there) x))
      (subst (λ (z : Answer × World). ClosesFiles s.device e chain event.Step z.0 s.world.common (Some c) z.1.common (z.1.conns number)) (sym is) p)
  event_told memory t event.End None q there is x p =
      same_told s.device e told (subst (λ (z : Answer × World). ClosesFiles s.device e chain event.End z.0 s.world.common None z.1.common (z.1.conns number)) (sym is) p)
  event_told memory t event.End (Some c) q there is x p =
      by_end c (ends memory (s.world.common, c)) (subst (λ (z : Answer × World). ClosesFiles s.device e chain event.End z.0 s.world.common (Some c) z.1.common (z.1.conns number)) (sym is) p)
  event_told memory t event.Close None q there is x p =
      same_told s.device e told (subst (λ (z : Answer × World). ClosesFiles s.device e chain event.Close z.0 s.world.common None z.1.common (z.1.conns number)) (sym is) p)
  event_told memory t event.Close (Some c) q there is x p =
      by_close memory c (subst (λ (z : Answer × World). ClosesFiles s.device e chain event.Close z.0 s.world.common (Some c) z.1.common (z.1.conns number)) (sym is) p)
  event_told memory t event.Open o q there is x p = same_told s.device e told x
  event_told memory t event.Begin o q there is x p = same_told s.device e told x
  event_told memory t (event.Bring pieces) o q there is x p = same_told s.device e told x
  event_told memory t event.TakeOutput o q there is x p = same_told s.device e told x
  event_told memory t event.TellLabels o q there is x p = same_told s.device e told x
  event_told memory t event.TellPools o q there is x p = same_told s.device e told x
