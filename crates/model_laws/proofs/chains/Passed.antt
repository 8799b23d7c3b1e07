-- A brigade that was passed stays passed through the events of chains until its module cleans it or returns, or it goes with its pool.
use Rattle.std.proofs.Common.{◌≡◌, ◌≢◌, ℕ, ◌+◌, ◌<◌, Bool, true, false, ◌&&◌, ◌||◌, ◌==◌, cond, List, [], ◌∷◌, Option, None, Some, Result, Ok, Err, inl, inr, refl, sym, ◌∙◌, ap, subst, arith, eq-eqb}
use Rattle.std.proofs.Common.{ne_eqb}
use Rattle.std.proofs.lemmas.Bool.Decides.{eqb_tells}
use Rattle.module_code.specs.Program.{Program}
use Rattle.module_code.specs.declared.instr.Instr.{Instr}
use Rattle.module_code.specs.declared.instr.Instr.TheVariants as instr
use Rattle.module_code.specs.declared.instr.Status.{Status}
use Rattle.run_model.specs.declared.bucket.NamedBucket.{NamedBucket}
use Rattle.run_model.specs.declared.bucket.BrigadeVar.{BrigadeVar}
use Rattle.run_model.specs.declared.bucket.BrigadeVar.TheVariants as var
use Rattle.run_model.specs.declared.event.Event.{Event}
use Rattle.run_model.specs.declared.event.Event.TheVariants as event
use Rattle.run_model.specs.declared.event.Piece.{Piece}
use Rattle.run_model.specs.declared.event.Refusal.{Refusal}
use Rattle.run_model.specs.declared.event.Refusal.TheVariants as refusal
use Rattle.run_model.specs.declared.event.Stepped.{Stepped}
use Rattle.run_model.specs.Indexed.{upd}
use Rattle.run_model.specs.Pools.{is_under}
use Rattle.run_model.specs.State.{Instance, Configuration, items_of}
use Rattle.run_model.specs.Effects.{do_pass, do_return, with_items}
use Rattle.run_model.specs.Faults.{fault}
use Rattle.run_model.specs.Steps.{Choice, answer_to, current, step}
use Rattle.run_model.specs.Refusals.{if_broken}
use Rattle.run_model.specs.Chains.{Frame, Connection, Common, Linked, module_at, is_last, next_place, configuration, pools_of, touched_var, cleared_by, touched_instance, put_back, stepped_in, IsChain, place_from}
use Rattle.run_model.specs.Passing.{Reads, set_in, handed_in, delivered, delivered_by, passed_to, given_back, passed_by, returned_to, next_called, returned_from, proceeds}
use Rattle.run_model.specs.Turns.{Opening, is_busy, all_called, begun, begins, opens_file, brought, brings, ended, ends, steps}
use Rattle.run_model.specs.Worlds.{World, Told, put_conn, answered, file_answered, step_answered, closes, adds_file, happens_on, happens}
use Rattle.model_laws.specs.ChainSound.{IsNested, IsNestedStack}
use Rattle.model_laws.specs.ChainNumbers.{WorldNumbers}
use Rattle.model_laws.specs.ChainOrder.{has_call, ChainOrder}
use Rattle.model_laws.specs.Marks.{HoldsPassed, StaysPassed, StaysPassedIn, lets_go, top_lets_go, event_lets_go, EventKeepsPassed}
use Rattle.run_model.proofs.Updates.{upd_at, upd_either}
use Rattle.model_laws.proofs.Passed.{still, cleared_stays, returned_stays, step_keeps_passed}
use Rattle.model_laws.proofs.EventAnswers.{unless_so, answer_so, none_first, none_if}
use Rattle.model_laws.proofs.chains.Names.{left_either}
use Rattle.model_laws.proofs.chains.Modules.{next_later}
use Rattle.model_laws.proofs.chains.EventTurns.{not_busy}
use Rattle.model_laws.proofs.chains.StepCases.{steps_so}
use Rattle.model_laws.proofs.chains.Others.{others_stay, opening_stays}

-- The calls below one are of modules before it, so that a module after it has none.
later_free : (f : Frame) (rest : List Frame) (k : ℕ) → IsNested f rest → f.of < k → has_call (f ∷ rest) k ≡ false
unfolding IsNested has_call
later_free f [] k nested lt = ap (λ (b : Bool). b || false) (ne_eqb f.of k (λ is. omega arith))
later_free f (w ∷ rest) k nested lt =
    let below : has_call (w ∷ rest) k ≡ false = later_free w rest k nested.1 (let is : w.of < f.of = nested.0 in omega arith) in
    ap (λ (b : Bool). b || has_call (w ∷ rest) k) (ne_eqb f.of k (λ is. omega arith)) ∙ below

-- What is done to a variable.

as_it_is : (v x : BrigadeVar) → x ≡ v → HoldsPassed v → StaysPassed v x
as_it_is v x is h = subst (StaysPassed v) (sym is) (still v h)

touched_stays : (r : Configuration) (i : Instr) (v : BrigadeVar) → HoldsPassed v → StaysPassed v (touched_var r i v)
touched_stays r (instr.PClear q) v h = cleared_stays (cleared_by r q) v h
touched_stays r (instr.PDestroy q) v h = cleared_stays (cleared_by r q) v h
touched_stays r (instr.Ret s) v h = returned_stays r.call.name false v refl h
touched_stays r i v h = still v h

filled_stays : (left : List NamedBucket) (v x : BrigadeVar) → StaysPassed v x → StaysPassed v (with_items left x)
filled_stays left v var.Null h = h
filled_stays left v var.Gone h = h
filled_stays left v (var.Live x) h = h

-- The instruction on top, for the brigade b of the instance j.

module _ (chain : List Program) (g : Common) (c : Connection) (f : Frame) (rest : List Frame) (j b : ℕ) (h : HoldsPassed ((c.instances j).brigades b)) where
  abbrev r : Configuration
  r = configuration g c f

  abbrev PassedStays : Linked → Type 0
  PassedStays v = StaysPassed ((c.instances j).brigades b) ((v.1.instances j).brigades b)

  -- what a step leaves of it where it is the instance of the call
  stepped_here : (choice : Choice) (i : Instr) → fault (module_at chain f.of) r i ≡ None → ((f.of == j) && lets_go i b) ≡ false → j ≡ f.of
      → StaysPassed ((c.instances j).brigades b) ((step (module_at chain f.of) choice i r).state.instance.brigades b)
  unfolding configuration
  stepped_here choice i none other is =
      let at : ((c.instances f.of).brigades b) ≡ ((c.instances j).brigades b) = ap (λ (k : ℕ). (c.instances k).brigades b) (sym is) in
      let kept : lets_go i b ≡ false = ap (λ (t : Bool). t && lets_go i b) (sym (eq-eqb f.of j (sym is))) ∙ other in
      subst (λ (v : BrigadeVar). StaysPassed v ((step (module_at chain f.of) choice i r).state.instance.brigades b)) at
      (step_keeps_passed (module_at chain f.of) choice i b r none kept (subst HoldsPassed (sym at) h))

  put_stays : (i : Instr) (s : Configuration) (above below : List Frame) → (j ≡ f.of → StaysPassed ((c.instances j).brigades b) (s.instance.brigades b))
      → PassedStays (put_back i f s above below (g, c))
  unfolding put_back
  put_stays i s above below here = elim (left_either f.of s.instance (touched_instance (touched_var r i)) c.instances j) [
    | inl p ↦ subst (λ (x : Instance). StaysPassed ((c.instances j).brigades b) (x.brigades b)) (sym p.1) (here p.0)
    | inr p ↦ subst (λ (x : Instance). StaysPassed ((c.instances j).brigades b) (x.brigades b)) (sym p.1) (touched_stays r i ((c.instances j).brigades b) h)
  ]

  module _ (i : Instr) (none : fault (module_at chain f.of) r i ≡ None) (other : ((f.of == j) && lets_go i b) ≡ false) where
    stepped_stays : (choice : Choice) → PassedStays (stepped_in (module_at chain f.of) choice i f rest (g, c))
    unfolding stepped_in
    stepped_stays choice = put_stays i (step (module_at chain f.of) choice i r).state _ rest (stepped_here choice i none other)

    delivered_stays : (reads : Reads) (a : ℕ) → PassedStays (delivered_by (module_at chain f.of) reads a i f rest (g, c))
    unfolding delivered_by
    delivered_stays reads a = stepped_stays (record { answer = answer_to (delivered c.out (items_of ((c.instances f.of).brigades a)) reads).1; given = None })

    -- what a return leaves, before what is left of `in` is given back
    back_stays : (s : Status) (below : List Frame) → i ≡ instr.Ret s → PassedStays (put_back (instr.Ret s) f (do_return r) [] below (g, c))
    back_stays s below is =
        put_stays (instr.Ret s) (do_return r) [] below
        (λ at. stepped_here (record { answer = answer_to true; given = None }) (instr.Ret s) (subst (λ (x : Instr). fault (module_at chain f.of) r x ≡ None) is none)
        (subst (λ (x : Instr). ((f.of == j) && lets_go x b) ≡ false) is other) at)

  -- a pass to the next filter
  passed_stays : (callee : Program) (to a l : ℕ) → fault (module_at chain f.of) r (instr.Pass a l) ≡ None → (c.instances to).brigades 8 ≡ var.Null → PassedStays (passed_to callee to a f rest (g, c))
  unfolding passed_to
  passed_stays callee to a l none free = elim (upd_either here to j (set_in (handed_in (r.instance.brigades a)) (here to))) [
    | inl p ↦ subst (λ (x : Instance). StaysPassed ((c.instances j).brigades b) (x.brigades b)) (sym p.1) (incoming p.0)
    | inr p ↦ subst (λ (x : Instance). StaysPassed ((c.instances j).brigades b) (x.brigades b)) (sym p.1) in_here
  ] where
    here : ℕ → Instance
    here = upd c.instances f.of (do_pass a r).instance

    in_here : StaysPassed ((c.instances j).brigades b) ((here j).brigades b)
    in_here = elim (upd_either c.instances f.of j (do_pass a r).instance) [
      | inl p ↦ subst (λ (x : Instance). StaysPassed ((c.instances j).brigades b) (x.brigades b)) (sym p.1)
          (stepped_here (record { answer = answer_to true; given = None }) (instr.Pass a l) none (off (f.of == j)) p.0)
      | inr p ↦ as_it_is ((c.instances j).brigades b) ((here j).brigades b) (ap (λ (x : Instance). x.brigades b) p.1) h
    ] where
      off : (t : Bool) → (t && false) ≡ false
      off true = refl
      off false = refl

    incoming : j ≡ to → StaysPassed ((c.instances j).brigades b) (upd (here to).brigades 8 (handed_in (r.instance.brigades a)) b)
    incoming is = elim (upd_either (here to).brigades 8 b (handed_in (r.instance.brigades a))) [
      | inl p ↦ absurd (subst HoldsPassed (ap (λ (k : ℕ). (c.instances k).brigades b) is ∙ ap (λ (d : ℕ). (c.instances to).brigades d) p.0 ∙ free) h)
      | inr p ↦ subst (StaysPassed ((c.instances j).brigades b)) (sym p.1) (subst (λ (k : ℕ). StaysPassed ((c.instances j).brigades b) ((here k).brigades b)) is in_here)
    ]

-- what the callee left is put into a variable of the caller
given_stays : (v : BrigadeVar) (j b at : ℕ) (left : List NamedBucket) (h : ℕ → Instance) (k : ℕ) → StaysPassed v ((h j).brigades b) → StaysPassed v ((upd h k (given_back at left (h k)) j).brigades b)
given_stays v j b at left h k old = elim (upd_either h k j (given_back at left (h k))) [
  | inl p ↦ subst (λ (x : Instance). StaysPassed v (x.brigades b)) (sym p.1) (within p.0)
  | inr p ↦ subst (λ (x : Instance). StaysPassed v (x.brigades b)) (sym p.1) old
] where
  within : j ≡ k → StaysPassed v (upd (h k).brigades at (with_items left ((h k).brigades at)) b)
  within is = (let there : StaysPassed v ((h k).brigades b) = subst (λ (m : ℕ). StaysPassed v ((h m).brigades b)) is old in
      elim (upd_either (h k).brigades at b (with_items left ((h k).brigades at))) [
        | inl q ↦ subst (StaysPassed v) (sym q.1) (filled_stays left v ((h k).brigades at) (subst (λ (d : ℕ). StaysPassed v ((h k).brigades d)) q.0 there))
        | inr q ↦ subst (StaysPassed v) (sym q.1) there
      ])

-- an instruction without a fault, where the next filter has nothing brought if it is passed to
proceeds_stays : (chain : List Program) (reads : Reads) (i : Instr) (f : Frame) (rest : List Frame) (g : Common) (c : Connection) (j b : ℕ) → HoldsPassed ((c.instances j).brigades b)
    → fault (module_at chain f.of) (configuration g c f) i ≡ None → ((f.of == j) && lets_go i b) ≡ false → (c.instances (next_place chain c f.of)).brigades 8 ≡ var.Null
    → StaysPassed ((c.instances j).brigades b) (((proceeds chain reads i f rest (g, c)).1.1.instances j).brigades b)
unfolding proceeds returned_to returned_from
proceeds_stays chain reads (instr.Pass a l) f rest g c j b h none other free = by_last (is_last chain c f.of) where
  by_last : (t : Bool) → StaysPassed ((c.instances j).brigades b)
      (((cond t (delivered_by (module_at chain f.of) reads a (instr.Pass a l) f rest (g, c)) (passed_to (module_at chain (next_place chain c f.of)) (next_place chain c f.of) a f rest (g, c))).1.instances j).brigades b)
  by_last true = delivered_stays chain g c f rest j b h (instr.Pass a l) none other reads a
  by_last false = passed_stays chain g c f rest j b h (module_at chain (next_place chain c f.of)) (next_place chain c f.of) a l none free
proceeds_stays chain reads (instr.Ret s) f [] g c j b h none other free = by_queue c.queue where
  by_queue : (queue : List ℕ)
      → StaysPassed ((c.instances j).brigades b) (((next_called chain s queue (put_back (instr.Ret s) f (do_return (configuration g c f)) [] [] (g, c))).1.1.instances j).brigades b)
  by_queue [] = back_stays chain g c f [] j b h (instr.Ret s) none other s [] refl
  by_queue (k ∷ ks) = back_stays chain g c f [] j b h (instr.Ret s) none other s [] refl
proceeds_stays chain reads (instr.Ret s) f (w ∷ rest) g c j b h none other free =
    given_stays ((c.instances j).brigades b) j b (passed_by (current (module_at chain w.of) w.pc)) _ (put_back (instr.Ret s) f (do_return (configuration g c f)) [] (w ∷ rest) (g, c)).1.instances w.of
    (back_stays chain g c f (w ∷ rest) j b h (instr.Ret s) none other s (w ∷ rest) refl)
proceeds_stays chain reads i f rest g c j b h none other free = stepped_stays chain g c f rest j b h i none other (record { answer = answer_to true; given = reads 0 })

-- One event of the connection c, whose instance j holds a passed brigade in b.

module _ (budget : ℕ) (chain : List Program) (chained : IsChain chain) (g : Common) (c : Connection) (nested : IsNestedStack c.stack) (order : ChainOrder budget c) (j b : ℕ)
    (h : HoldsPassed ((c.instances j).brigades b)) where
  abbrev PassedKept : Linked → Type 0
  PassedKept v = StaysPassed ((c.instances j).brigades b) ((v.1.instances j).brigades b)

  unchanged : StaysPassed ((c.instances j).brigades b) ((c.instances j).brigades b)
  unchanged = still ((c.instances j).brigades b) h

  begins_stays : (memory : Bool) → PassedKept (begins memory chain (g, c)).1
  unfolding begins begun all_called
  begins_stays memory = unless_so PassedKept _ (g, c) (begun chain (g, c)) unchanged (λ none. unchanged)

  brings_stays : (memory : Bool) (pieces : List Piece) → PassedKept (brings memory chain pieces (g, c)).1
  unfolding brings has_call
  brings_stays memory pieces = unless_so PassedKept _ (g, c) (brought chain pieces c.req (g, c)) unchanged (λ none.
      let idle = none_if (is_busy c.stack) refusal.Busy _ (none_first (if_broken c.broken) _ none) in
      by_request c.req (order.nothing_brought first (subst (λ (fs : List Frame). has_call fs first ≡ false) (sym (not_busy c.stack idle.0)) refl))) where
        first : ℕ
        first = place_from chain c.instances 0

        written : (v : BrigadeVar) → (c.instances first).brigades 8 ≡ var.Null → PassedKept (g, record c { instances = upd c.instances first (set_in v (c.instances first)) })
        written v free = elim (upd_either c.instances first j (set_in v (c.instances first))) [
          | inl p ↦ subst (λ (x : Instance). StaysPassed ((c.instances j).brigades b) (x.brigades b)) (sym p.1) (elim (upd_either (c.instances first).brigades 8 b v) [
            | inl q ↦ absurd (subst HoldsPassed (ap (λ (k : ℕ). (c.instances k).brigades b) p.0 ∙ ap (λ (d : ℕ). (c.instances first).brigades d) q.0 ∙ free) h)
            | inr q ↦ as_it_is ((c.instances j).brigades b) (upd (c.instances first).brigades 8 v b) (q.1 ∙ ap (λ (k : ℕ). (c.instances k).brigades b) (sym p.0)) h
          ])
          | inr p ↦ subst (λ (x : Instance). StaysPassed ((c.instances j).brigades b) (x.brigades b)) (sym p.1) unchanged
        ]

        by_request : (req : Option ℕ) → (c.instances first).brigades 8 ≡ var.Null → PassedKept (brought chain pieces req (g, c))
        by_request None free = unchanged
        by_request (Some req) free = written _ free

  opens_file_stays : (memory : Bool) (opening : Opening) → PassedKept (opens_file memory opening (g, c)).1
  unfolding opens_file
  opens_file_stays memory opening = answer_so PassedKept _ c.req opening (g, c) unchanged (λ n skipped bytes is. unchanged)

  ends_stays : (memory : Bool) → PassedKept (ends memory (g, c)).1
  unfolding ends
  ends_stays memory = unless_so PassedKept _ (g, c) (ended c.req (g, c)) unchanged (λ none. by_request c.req) where
    by_request : (req : Option ℕ) → PassedKept (ended req (g, c))
    by_request None = unchanged
    by_request (Some req) = cleared_stays (is_under (pools_of g c) req) ((c.instances j).brigades b) h

  steps_stay : (memory : Bool) (reads : Reads) → top_lets_go chain c.stack j b ≡ false → PassedKept (steps memory budget chain reads (g, c)).1
  unfolding IsNestedStack
  steps_stay memory reads other = steps_so PassedKept memory budget chain reads g c unchanged (λ k. unchanged) (λ f rest few ready.
      proceeds_stays chain reads (current (module_at chain f.of) f.pc) f rest g c j b h ready.faultless (subst (λ (fs : List Frame). top_lets_go chain fs j b ≡ false) ready.on_top other)
      (order.nothing_brought (next_place chain c f.of)
      (subst (λ (fs : List Frame). has_call fs (next_place chain c f.of) ≡ false) (sym ready.on_top) (later_free f rest (next_place chain c f.of) (subst IsNestedStack ready.on_top nested) (next_later chain c f.of)))))

-- In a world.

module _ (k j b : ℕ) (v : BrigadeVar) (w : World) where
  abbrev In : World → Type 0
  In x = StaysPassedIn v j b (x.conns k)

  put_in : (new : Linked) → StaysPassed v ((new.1.instances j).brigades b) → In (put_conn k new w)
  put_in new h = subst (StaysPassedIn v j b) (sym (upd_at w.conns k (Some new.1))) h

  answered_in : (a : Option Refusal × Linked) → In w → StaysPassed v ((a.1.1.instances j).brigades b) → In (answered k w a).1
  answered_in (None, new) old h = put_in new h
  answered_in (Some r, new) old h = old

  file_in : (a : Result (ℕ × ℕ) Refusal × Linked) → In w → StaysPassed v ((a.1.1.instances j).brigades b) → In (file_answered k w a).1
  file_in (Ok f, new) old h = put_in new h
  file_in (Err r, new) old h = old

  step_in : (a : Result Stepped Refusal × Linked) → StaysPassed v ((a.1.1.instances j).brigades b) → In (step_answered k w a).1
  step_in (Ok s, new) h = put_in new h
  step_in (Err r, new) h = put_in new h

  closed_in : (memory : Bool) (c : Connection) → In w → In (closes memory k c w).1
  closed_in false c old = old
  closed_in true c old = subst (StaysPassedIn v j b) (sym (upd_at w.conns k None)) tt

  added_in : (memory : Bool) → In w → In (adds_file memory w).1
  added_in false old = old
  added_in true old = old

-- an event of another connection, or an opening
elsewhere : (memory : Bool) (budget : ℕ) (chain : List Program) (told : Told) (i k : ℕ) (e : Event) (w : World) → k ≢ w.last + 1 → k ≢ i
    → (happens memory budget chain told i e w).1.conns k ≡ w.conns k
elsewhere memory budget chain told i k event.Open w old differ = opening_stays memory budget chain told i k w old
elsewhere memory budget chain told i k e w old differ = others_stay memory budget chain told i k e w (λ is. absurd (cc)) differ

module _ (memory : Bool) (budget : ℕ) (chain : List Program) (told : Told) (chained : IsChain chain) (k j b : ℕ) (w : World) (c : Connection) (later : k ≢ w.last + 1) (nested : IsNestedStack c.stack)
    (order : ChainOrder budget c) (at : w.conns k ≡ Some c) (h : HoldsPassed ((c.instances j).brigades b)) where
  abbrev There : World → Type 0
  There x = StaysPassedIn ((c.instances j).brigades b) j b (x.conns k)

  as_before : There w
  as_before = subst (StaysPassedIn ((c.instances j).brigades b) j b) (sym at) (still ((c.instances j).brigades b) h)

  -- an event of this connection
  happens_here : (e : Event) → event_lets_go chain c e j b ≡ false → There (happens_on memory budget chain told e k (Some c) w).1
  unfolding happens_on
  happens_here event.Open other = subst (StaysPassedIn ((c.instances j).brigades b) j b) (sym (opening_stays memory budget chain told k k w later)) as_before
  happens_here (event.AddFile name bytes) other = added_in k j b ((c.instances j).brigades b) w memory as_before
  happens_here event.TellPools other = as_before
  happens_here (event.OpenFile name) other = file_in k j b ((c.instances j).brigades b) w _ as_before (opens_file_stays budget chain chained w.common c nested order j b h memory told.opening)
  happens_here event.Begin other = answered_in k j b ((c.instances j).brigades b) w _ as_before (begins_stays budget chain chained w.common c nested order j b h memory)
  happens_here (event.Bring pieces) other = answered_in k j b ((c.instances j).brigades b) w _ as_before (brings_stays budget chain chained w.common c nested order j b h memory pieces)
  happens_here event.Step other = step_in k j b ((c.instances j).brigades b) w _ (steps_stay budget chain chained w.common c nested order j b h memory told.reads other)
  happens_here event.End other = answered_in k j b ((c.instances j).brigades b) w _ as_before (ends_stays budget chain chained w.common c nested order j b h memory)
  happens_here event.TakeOutput other = put_in k j b ((c.instances j).brigades b) w (w.common, record c { out = record c.out { bytes = [] } }) (still ((c.instances j).brigades b) h)
  happens_here event.TellLabels other = as_before
  happens_here event.Close other = closed_in k j b ((c.instances j).brigades b) w memory c as_before

  happens_so : (i : ℕ) (e : Event) → (i ≡ k → event_lets_go chain c e j b ≡ false) → There (happens memory budget chain told i e w).1
  happens_so i e other = elim (eqb_tells k i) [
    | inl same ↦
        subst (λ (n : ℕ). There (happens memory budget chain told n e w).1) same.1
        (subst (λ (o : Option Connection). There (happens_on memory budget chain told e k o w).1) (sym at) (happens_here e (other (sym same.1))))
    | inr differ ↦ subst (StaysPassedIn ((c.instances j).brigades b) j b) (sym (elsewhere memory budget chain told i k e w later differ.1)) as_before
  ]

-- a connection that is there has no number that is still to be given
not_later : (k : ℕ) (c : Connection) (w : World) → WorldNumbers w → w.conns k ≡ Some c → k ≢ w.last + 1
not_later k c w numbers at is = absurd (let none : w.conns k ≡ None = numbers.later k (omega (arith, is)) in let no : None ≡ Some c = sym none ∙ at in cc)

pub event_keeps_passed : EventKeepsPassed
event_keeps_passed memory budget chain told i k j b e w c chained sound numbers order at other h =
    happens_so memory budget chain told chained k j b w c (not_later k c w numbers at) (sound.conns k c at).calls.nested (order k c at) at h i e other
