-- Counts stay within the budget, and a module of which no call runs or waits has nothing brought.
use Rattle.std.proofs.Common.{◌≡◌, ◌≢◌, ℕ, ◌+◌, ◌≤◌, Bool, true, false, ◌||◌, ◌==◌, cond, List, [], ◌∷◌, map, Option, None, Some, inl, inr, refl, sym, ◌∙◌, ap, subst, arith, eq-eqb, ne_eqb}
use Rattle.module_code.specs.Program.{Program}
use Rattle.module_code.specs.declared.instr.Instr.{Instr}
use Rattle.module_code.specs.declared.instr.Instr.TheVariants as instr
use Rattle.run_model.specs.declared.bucket.NamedBucket.{NamedBucket}
use Rattle.run_model.specs.declared.bucket.BrigadeVar.{BrigadeVar}
use Rattle.run_model.specs.declared.bucket.BrigadeVar.TheVariants as var
use Rattle.module_code.specs.declared.instr.Status.{Status}
use Rattle.run_model.specs.declared.event.Piece.{Piece}
use Rattle.run_model.specs.Pools.{is_under}
use Rattle.run_model.specs.Clearing.{cleared_var}
use Rattle.run_model.specs.State.{Instance, Configuration, items_of}
use Rattle.run_model.specs.Effects.{do_return, returned_var}
use Rattle.run_model.specs.Steps.{Choice, answer_to, current, step}
use Rattle.run_model.specs.Chains.{Frame, Connection, Common, Linked, module_at, is_last, next_place, configuration, pools_of, touched_var, touched_bucket, cleared_by, led_to, touched_instance, touched_frame, place_from}
use Rattle.run_model.specs.Chains.{put_back, stepped_in, IsChain}
use Rattle.run_model.specs.Passing.{Reads, delivered, delivered_by, passed_to, after_pass, returned_to, next_called, returned_from, proceeds}
use Rattle.run_model.specs.Turns.{Opening, all_called, opened, begun, begins, opens_file, brought, brings, ended, ends, steps}
use Rattle.model_laws.specs.ChainOrder.{has_call, ChainOrder, EventKeepsWorldOrder, RunKeepsWorldOrder}
use Rattle.model_laws.proofs.EventAnswers.{unless_so, answer_so}
use Rattle.model_laws.proofs.chains.EachConnection.{opening_turn}
use Rattle.model_laws.proofs.StepFiles.{neither}
use Rattle.run_model.proofs.Updates.{upd_off}
use Rattle.model_laws.proofs.chains.Names.{left_either}
use Rattle.model_laws.proofs.chains.EventTurns.{EventTurn, Stood, Went, Begun, Brought, FileTaken, Ended, begins_turn, brings_turn, ends_turn, steps_turn}
use Rattle.model_laws.proofs.chains.Proceeds.{proceeds_count}
use Rattle.model_laws.proofs.chains.StepCases.{steps_so}
use Rattle.model_laws.proofs.chains.ConnectionKept.{EventsKeep, event_so, run_so}
use Rattle.model_laws.proofs.chains.WorldKept.{AnyLength}

-- What is brought.

abbrev pub Vacant : Connection → Type 0
Vacant c = (k : ℕ) → has_call c.stack k ≡ false → (c.instances k).brigades 8 ≡ var.Null

-- a call of another module
others_free : (f : Frame) (rest : List Frame) (k : ℕ) → has_call (f ∷ rest) k ≡ false → (k ≢ f.of) × (has_call rest k ≡ false)
unfolding has_call
others_free f rest k h =
    let parts = neither (f.of == k) (has_call rest k) h in
    (λ same. absurd (let is : (f.of == k) ≡ true = eq-eqb f.of k (sym same) in let no : true ≡ false = sym is ∙ parts.0 in cc), parts.1)

touched_free : (bucket : NamedBucket → NamedBucket) (fs : List Frame) (k : ℕ) → has_call (map (touched_frame bucket) fs) k ≡ has_call fs k
unfolding has_call
touched_free bucket [] k = refl
touched_free bucket (f ∷ fs) k = ap (λ (b : Bool). (f.of == k) || b) (touched_free bucket fs k)

touched_null : (r : Configuration) (i : Instr) (v : BrigadeVar) → v ≡ var.Null → touched_var r i v ≡ var.Null
touched_null r (instr.PClear q) v is = ap (cleared_var (cleared_by r q)) is
touched_null r (instr.PDestroy q) v is = ap (cleared_var (cleared_by r q)) is
touched_null r (instr.Ret s) v is = ap (returned_var r.call.name) is
touched_null r i v is = is

module _ (chain : List Program) (g : Common) (c : Connection) (f : Frame) (rest : List Frame) (top : c.stack ≡ f ∷ rest) (h : Vacant c) where
  abbrev r : Configuration
  r = configuration g c f

  -- of a module that is not the one of the call on top
  elsewhere : (k : ℕ) → k ≢ f.of → has_call rest k ≡ false → (c.instances k).brigades 8 ≡ var.Null
  unfolding has_call
  elsewhere k differ off = h k (subst (λ (fs : List Frame). has_call fs k ≡ false) (sym top) (ap (λ (b : Bool). b || has_call rest k) (ne_eqb f.of k (λ same. differ (sym same))) ∙ off))

  -- after put_back, of a module that has no call left
  put_vacant : (i : Instr) (s : Configuration) (above below : List Frame) (k : ℕ) → (k ≡ f.of → s.instance.brigades 8 ≡ var.Null) → has_call rest k ≡ false
      → ((put_back i f s above below (g, c)).1.instances k).brigades 8 ≡ var.Null
  unfolding put_back
  put_vacant i s above below k at off = elim (left_either f.of s.instance (touched_instance (touched_var r i)) c.instances k) [
    | inl p ↦ ap (λ (x : Instance). x.brigades 8) p.1 ∙ at p.0
    | inr p ↦ ap (λ (x : Instance). x.brigades 8) p.1 ∙ touched_null r i ((c.instances k).brigades 8) (elsewhere k p.0 off)
  ]

  stepped_vacant : (choice : Choice) (i : Instr) → Vacant (stepped_in (module_at chain f.of) choice i f rest (g, c)).1
  unfolding stepped_in put_back
  stepped_vacant choice i k free =
      let o = step (module_at chain f.of) choice i (configuration g c f) in
      let new : Frame = record f { call = o.state.call; pc = led_to o.exit i f.pc } in
      let others = others_free new (map (touched_frame (touched_bucket r i)) rest) k free in
      put_vacant i o.state (new ∷ []) rest k (λ is. absurd (others.0 is)) (sym (touched_free (touched_bucket r i) rest k) ∙ others.1)

  passed_vacant : (callee : Program) (to b : ℕ) → Vacant (passed_to callee to b f rest (g, c)).1
  unfolding passed_to
  passed_vacant callee to b k free =
      let parts = others_free _ _ k free in
      let below = others_free f rest k parts.1 in
      ap (λ (x : Instance). x.brigades 8) (upd_off _ to k _ parts.0 ∙ upd_off c.instances f.of k _ below.0) ∙ elsewhere k below.0 below.1

  passes_vacant : (reads : Reads) (b : ℕ) (i : Instr) (last : Bool)
      → Vacant (cond last (delivered_by (module_at chain f.of) reads b i f rest (g, c)) (passed_to (module_at chain (next_place chain c f.of)) (next_place chain c f.of) b f rest (g, c))).1
  unfolding delivered_by
  passes_vacant reads b i true = stepped_vacant (record { answer = answer_to (delivered c.out (items_of ((c.instances f.of).brigades b)) reads).1; given = None }) i
  passes_vacant reads b i false = passed_vacant (module_at chain (next_place chain c f.of)) (next_place chain c f.of) b

returned_vacant : (chain : List Program) (s : Status) (f w : Frame) (rest : List Frame) (g : Common) (c : Connection) → c.stack ≡ f ∷ (w ∷ rest) → Vacant c
    → Vacant (returned_to (module_at chain w.of) s f w rest (g, c)).1
unfolding returned_to put_back has_call
returned_vacant chain s f w rest g c top h k free =
    let bucket : NamedBucket → NamedBucket = touched_bucket (configuration g c f) (instr.Ret s) in
    let new : Frame = record (touched_frame bucket w) { pc = after_pass s (current (module_at chain w.of) w.pc) w.pc } in
    let parts = others_free new (map (touched_frame bucket) rest) k free in
    let off : has_call rest k ≡ false = sym (touched_free bucket rest k) ∙ parts.1 in
    let none : has_call (w ∷ rest) k ≡ false = ap (λ (b : Bool). b || has_call rest k) (ne_eqb w.of k (λ same. parts.0 (sym same))) ∙ off in
    ap (λ (x : Instance). x.brigades 8) (upd_off _ w.of k _ parts.0) ∙ put_vacant chain g c f (w ∷ rest) top h (instr.Ret s) (do_return (configuration g c f)) [] (w ∷ rest) k (λ is. refl) none

ended_vacant : (chain : List Program) (s : Status) (f : Frame) (g : Common) (c : Connection) → c.stack ≡ f ∷ [] → Vacant c → Vacant (returned_from chain s f (g, c)).1.1
unfolding returned_from has_call
ended_vacant chain s f g c top h = by_queue c.queue where
  by_queue : (queue : List ℕ) → Vacant (next_called chain s queue (put_back (instr.Ret s) f (do_return (configuration g c f)) [] [] (g, c))).1.1
  by_queue [] k free = put_vacant chain g c f [] top h (instr.Ret s) (do_return (configuration g c f)) [] [] k (λ is. refl) refl
  by_queue (j ∷ js) k free = put_vacant chain g c f [] top h (instr.Ret s) (do_return (configuration g c f)) [] [] k (λ is. refl) refl

proceeds_vacant : (chain : List Program) (reads : Reads) (i : Instr) (f : Frame) (rest : List Frame) (g : Common) (c : Connection) → c.stack ≡ f ∷ rest → Vacant c
    → Vacant (proceeds chain reads i f rest (g, c)).1.1
unfolding proceeds
proceeds_vacant chain reads (instr.Pass b l) f rest g c top h = passes_vacant chain g c f rest top h reads b (instr.Pass b l) (is_last chain c f.of)
proceeds_vacant chain reads (instr.Ret s) f [] g c top h = ended_vacant chain s f g c top h
proceeds_vacant chain reads (instr.Ret s) f (w ∷ rest) g c top h = returned_vacant chain s f w rest g c top h
proceeds_vacant chain reads i f rest g c top h = stepped_vacant chain g c f rest top h (record { answer = answer_to true; given = reads 0 }) i

-- where no call was there
idle_vacant : (c : Connection) → c.stack ≡ [] → Vacant c → (k : ℕ) → (c.instances k).brigades 8 ≡ var.Null
unfolding has_call
idle_vacant c idle h k = h k (subst (λ (fs : List Frame). has_call fs k ≡ false) (sym idle) refl)

turn_vacant : (chain : List Program) (g : Common) (c : Connection) (v : Linked) → EventTurn chain AnyLength g c v → Vacant c → Vacant v.1
unfolding begun all_called
turn_vacant chain g c v (Stood out broken still) h = h
turn_vacant chain g c v (Went reads f rest whole may) h = proceeds_vacant chain reads (current (module_at chain f.of) f.pc) f rest g c may.on_top h
turn_vacant chain g c v (Begun whole idle none pools next) h = λ k free. idle_vacant c idle h k
turn_vacant chain g c v (Brought pieces req whole idle is there next late) h =
    λ k free. (let parts = others_free _ _ k free in ap (λ (x : Instance). x.brigades 8) (upd_off c.instances (place_from chain c.instances 0) k _ parts.0) ∙ idle_vacant c idle h k)
turn_vacant chain g c v (FileTaken req file bytes whole idle is short newer last) h = h
turn_vacant chain g c v (Ended req whole idle is) h = λ k free. ap (cleared_var (is_under (pools_of g c) req)) (h k free)

-- Counts.

abbrev WithinBudget : ℕ → Linked → Type 0
WithinBudget budget v = v.1.count ≤ budget

module _ (budget : ℕ) (chain : List Program) (chained : IsChain chain) where
  begins_few : (memory : Bool) (g : Common) (c : Connection) → c.count ≤ budget → (begins memory chain (g, c)).1.1.count ≤ budget
  unfolding begins begun all_called
  begins_few memory g c h = unless_so (WithinBudget budget) _ (g, c) (begun chain (g, c)) h (λ none. omega arith)

  brings_few : (memory : Bool) (pieces : List Piece) (g : Common) (c : Connection) → c.count ≤ budget → (brings memory chain pieces (g, c)).1.1.count ≤ budget
  unfolding brings
  brings_few memory pieces g c h = unless_so (WithinBudget budget) _ (g, c) (brought chain pieces c.req (g, c)) h (λ none. by_request c.req) where
    by_request : (req : Option ℕ) → (brought chain pieces req (g, c)).1.count ≤ budget
    by_request None = h
    by_request (Some req) = omega arith

  ends_few : (memory : Bool) (g : Common) (c : Connection) → c.count ≤ budget → (ends memory (g, c)).1.1.count ≤ budget
  unfolding ends
  ends_few memory g c h = unless_so (WithinBudget budget) _ (g, c) (ended c.req (g, c)) h (λ none. by_request c.req) where
    by_request : (req : Option ℕ) → (ended req (g, c)).1.count ≤ budget
    by_request None = h
    by_request (Some req) = h

  opens_file_few : (memory : Bool) (opening : Opening) (g : Common) (c : Connection) → c.count ≤ budget → (opens_file memory opening (g, c)).1.1.count ≤ budget
  unfolding opens_file
  opens_file_few memory opening g c h = answer_so (WithinBudget budget) _ c.req opening (g, c) h (λ n skipped bytes is. h)

  steps_few : (memory : Bool) (reads : Reads) (g : Common) (c : Connection) → c.count ≤ budget → (steps memory budget chain reads (g, c)).1.1.count ≤ budget
  steps_few memory reads g c h =
      steps_so (λ v. v.1.count ≤ budget) memory budget chain reads g c h (λ k. h)
      (λ f rest few ready. (let same = proceeds_count chain reads (current (module_at chain f.of) f.pc) f rest g c in omega (arith, same, few)))

  order_events : EventsKeep budget chain (ChainOrder budget)
  unfolding opened all_called
  order_events = record {
    opening = λ g. opened_order g;
    begin = λ memory g c h. record { nothing_brought = turn_vacant chain g c _ (begins_turn chain AnyLength g c memory) h.nothing_brought; spent = begins_few memory g c h.spent };
    open_file =
        λ memory opening g c h. record { nothing_brought = turn_vacant chain g c _ (opening_turn chain g c memory opening) h.nothing_brought; spent = opens_file_few memory opening g c h.spent };
    bring = λ memory pieces g c h. record { nothing_brought = turn_vacant chain g c _ (brings_turn chain AnyLength g c memory pieces) h.nothing_brought; spent = brings_few memory pieces g c h.spent };
    step = λ memory reads g c h.
        record { nothing_brought = turn_vacant chain g c _ (steps_turn chain AnyLength g c chained memory budget reads) h.nothing_brought; spent = steps_few memory reads g c h.spent };
    end = λ memory g c h. record { nothing_brought = turn_vacant chain g c _ (ends_turn chain AnyLength g c memory) h.nothing_brought; spent = ends_few memory g c h.spent };
    take = λ c h. record { nothing_brought = h.nothing_brought; spent = h.spent };
  } where
    opened_order : (g : Common) → ChainOrder budget (opened chain g).1
    opened_order g = record { nothing_brought = λ k free. refl; spent = omega arith }

pub event_keeps_order : EventKeepsWorldOrder
event_keeps_order memory budget chain told k e w chained h = event_so budget chain (ChainOrder budget) (order_events budget chain chained) memory told k e w h

pub run_keeps_order : RunKeepsWorldOrder
run_keeps_order budget chain es answers w chained run = run_so budget chain (ChainOrder budget) (order_events budget chain chained) es answers w run
