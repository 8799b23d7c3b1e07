-- The instruction of the call on top keeps the calls of a chain sound.
use Rattle.std.proofs.Common.{◌≡◌, ◌≢◌, ℕ, ◌+◌, ◌<◌, ◌≤◌, Bool, true, false, cond, List, [], ◌∷◌, map, length, Option, Some, None, All, refl, sym, ◌∙◌, subst, arith}
use Rattle.std.proofs.lemmas.List.Elements.{All-nil, All-cons, All-head, All-tail}
use Rattle.module_code.specs.declared.instr.Instr.{Instr}
use Rattle.module_code.specs.declared.instr.Instr.TheVariants as instr
use Rattle.module_code.specs.declared.instr.Status.{Status}
use Rattle.module_code.specs.Program.{Program, IsModule}
use Rattle.run_model.specs.declared.bucket.NamedBucket.{NamedBucket}
use Rattle.run_model.specs.State.{Configuration, fresh_call, items_of}
use Rattle.run_model.specs.Effects.{do_return}
use Rattle.run_model.specs.Steps.{Choice, step, answer_to, current}
use Rattle.model_laws.specs.Laws.{is_return}
use Rattle.run_model.specs.Chains.{Frame, Connection, Common, Linked, module_at, is_last, next_place, configuration, put_back, stepped_in, led_to, touched_frame, touched_bucket, places}
use Rattle.run_model.specs.Passing.{Reads, delivered, delivered_by, passed_to, after_pass, returned_to, handler_at, called, next_called, returned_from, passes, returns, proceeds}
use Rattle.model_laws.specs.ChainSound.{IsNested, IsNestedStack, AreNamed, IsFramePlaced, WaitsAtPass, IsRising, ChainCalls}
use Rattle.model_laws.specs.ChainLaws.{TopKeepsCalls}
use Rattle.model_laws.proofs.Unchanged.{step_changes_only}
use Rattle.model_laws.proofs.Handlers.{LeadsWhere}
use Rattle.model_laws.proofs.chains.Modules.{module_at_proper, next_later, next_in_chain}
use Rattle.model_laws.proofs.chains.Places.{led, SameHandler, stays_in_handler, pass_in_main, after_leads}
use Rattle.model_laws.proofs.chains.Stacks.{nested_alike, nested_touched, named_touched, placed_touched, waiting_touched, named_below, none_next, StandsOnTop, busy_calls, idle_calls, stands_on_top}

abbrev pub LinkedCalls : List Program → Linked → Type 0
LinkedCalls chain w = ChainCalls chain w.0 w.1

-- where the calls stay as they are
pub same_calls : (chain : List Program) (g new : Common) (c left : Connection) → new.next ≡ g.next → left.req ≡ c.req → left.stack ≡ c.stack → left.queue ≡ c.queue → ChainCalls chain g c
    → ChainCalls chain new left
same_calls chain g new c left next req stack queue h = record {
  placed = subst (λ (o : Option ℕ). All (IsFramePlaced chain o) left.stack) (sym req) (subst (λ (fs : List Frame). All (IsFramePlaced chain c.req) fs) (sym stack) h.placed);
  nested = subst IsNestedStack (sym stack) h.nested;
  named = subst (λ (n : ℕ). AreNamed n left.stack) (sym next) (subst (AreNamed g.next) (sym stack) h.named);
  waiting = λ f rest e. h.waiting f rest (sym stack ∙ e);
  queue = subst (λ (ks : List ℕ). All (λ k. k < length chain) ks) (sym queue) h.queue;
  later = λ f rest e. subst (IsRising f.of) (sym queue) (h.later f rest (sym stack ∙ e));
  serving = λ f rest e le. queue ∙ h.serving f rest (sym stack ∙ e) le;
  alone = λ f w rest e. queue ∙ h.alone f w rest (sym stack ∙ e);
  idle = λ e. queue ∙ h.idle (sym stack ∙ e);
}

-- a call goes on in its handler
pub goes_placed : (chain : List Program) (req : Option ℕ) (f new : Frame) → new.of ≡ f.of → SameHandler (module_at chain f.of) f.pc new.pc → IsFramePlaced chain req f → IsFramePlaced chain req new
goes_placed chain req f new is same p = record {
  of = subst (λ (k : ℕ). k < places chain) (sym is) p.of;
  at = subst (λ (k : ℕ). new.pc < length (module_at chain k).code) (sym is) same.inside;
  opening = λ lt. p.opening (same.opening (subst (λ (k : ℕ). new.pc < (module_at chain k).init) is lt));
  serving = λ le. p.serving (same.serving (subst (λ (k : ℕ). (module_at chain k).init ≤ new.pc) is le));
}

-- the handler of a module begins: `open`, or `init` where a request is open
pub handler_placed : (chain : List Program) (req : Option ℕ) (k name : ℕ) → IsModule (module_at chain k) → k < length chain
    → IsFramePlaced chain req (record { of = k; call = fresh_call name; pc = handler_at req (module_at chain k) }) × ((module_at chain k).main ≤ handler_at req (module_at chain k) → ⊥)
handler_placed chain None k name m lt = (
  record { of = omega arith; at = m.opens; opening = λ h. refl; serving = λ le. absurd (let some : 0 < (module_at chain k).init = m.opening.some in omega arith) },
  λ le. (let some : 0 < (module_at chain k).init = m.opening.some in let low : (module_at chain k).init < (module_at chain k).main = m.initial.some in absurd (omega arith)),
)
handler_placed chain (Some req) k name m lt = (
  record { of = omega arith; at = m.inits; opening = λ h. absurd (omega arith); serving = λ le. refl },
  λ le. (let low : (module_at chain k).init < (module_at chain k).main = m.initial.some in absurd (omega arith)),
)

pub rising_none : (k : ℕ) (queue : List ℕ) → queue ≡ [] → IsRising k queue
unfolding IsRising
rising_none k queue none = subst (IsRising k) (sym none) tt

-- one call of such a handler, and no other
pub called_calls : (chain : List Program) (k : ℕ) (queue : List ℕ) (w : Linked) → IsModule (module_at chain k) → k < length chain → 0 < w.0.next → All (λ j. j < length chain) queue
    → IsRising k queue → LinkedCalls chain (called chain k queue w)
unfolding IsNested AreNamed
called_calls chain k queue w m lt some due later =
    let placed = handler_placed chain w.1.req k w.0.next m lt in
    busy_calls chain _ _ (record { of = k; call = fresh_call w.0.next; pc = handler_at w.1.req (module_at chain k) }) [] refl (record {
      top = placed.0;
      below = All-nil (IsFramePlaced chain w.1.req);
      nested = tt;
      named = (some, omega arith, All-nil (λ (f : Frame). f.call.name ≢ w.0.next), tt);
      waiting = All-nil (WaitsAtPass chain);
      queue = due;
      later = later;
      serving = λ le. absurd (placed.1 le);
      alone = λ f more e. absurd (cc);
    })

module _ (chain : List Program) (g : Common) (c : Connection) (proper : (k : ℕ) → IsModule (module_at chain k)) (f : Frame) (rest : List Frame)
    (t : StandsOnTop chain g.next c.req c.queue f rest) where
  stepped_place : (choice : Choice) (i : Instr) → i ≡ current (module_at chain f.of) f.pc → is_return i ≡ false
      → SameHandler (module_at chain f.of) f.pc (led_to (step (module_at chain f.of) choice i (configuration g c f)).exit i f.pc)
  stepped_place choice i is on =
      stays_in_handler (module_at chain f.of) f.pc _ (proper f.of) t.top.at
      (λ P leads. led P (module_at chain f.of) choice i (configuration g c f) f.pc on (subst (LeadsWhere P f.pc) (sym is) leads))

  stepped_calls : (choice : Choice) (i : Instr) → i ≡ current (module_at chain f.of) f.pc → is_return i ≡ false → LinkedCalls chain (stepped_in (module_at chain f.of) choice i f rest (g, c))
  unfolding stepped_in put_back configuration AreNamed
  stepped_calls choice i is on =
      let r : Configuration = configuration g c f in
      let s : Configuration = (step (module_at chain f.of) choice i r).state in
      let changes = step_changes_only (module_at chain f.of) choice i r in
      let place = stepped_place choice i is on in
      let new : Frame = record f { call = s.call; pc = led_to (step (module_at chain f.of) choice i r).exit i f.pc } in
      let bucket : NamedBucket → NamedBucket = touched_bucket r i in
      let name : s.call.name ≡ f.call.name = changes.call_name on in
      let req : s.shared.req ≡ c.req = changes.req in
      busy_calls chain _ _ new (map (touched_frame bucket) rest) refl (record {
        top = subst (λ (x : Option ℕ). IsFramePlaced chain x new) (sym req) (goes_placed chain c.req f new refl place t.top);
        below = subst (λ (x : Option ℕ). All (IsFramePlaced chain x) (map (touched_frame bucket) rest)) (sym req) (placed_touched bucket chain c.req rest t.below);
        nested = nested_alike f new (map (touched_frame bucket) rest) refl (nested_touched bucket f rest t.nested);
        named = named_below g.next s.shared.next (new ∷ map (touched_frame bucket) rest) changes.names
            (renamed f new (map (touched_frame bucket) rest) name (named_touched bucket g.next (f ∷ rest) t.named));
        waiting = waiting_touched bucket chain rest t.waiting;
        queue = t.queue;
        later = t.later;
        serving = λ le. t.serving (place.main le);
        alone = λ w more e. t_alone bucket rest w more e t.alone;
      }) where
        renamed : (f new : Frame) (fs : List Frame) → new.call.name ≡ f.call.name → AreNamed g.next (touched_frame (touched_bucket (configuration g c f) i) f ∷ fs) → AreNamed g.next (new ∷ fs)
        renamed f new fs is h = (subst (λ (n : ℕ). 0 < n) (sym is) h.0, subst (λ (n : ℕ). n < g.next) (sym is) h.1, subst (λ (n : ℕ). All (λ w. w.call.name ≢ n) fs) (sym is) h.2, h.3)

        t_alone : (bucket : NamedBucket → NamedBucket) (rest : List Frame) (w : Frame) (more : List Frame) → map (touched_frame bucket) rest ≡ w ∷ more
            → ((w : Frame) (more : List Frame) → rest ≡ w ∷ more → c.queue ≡ []) → c.queue ≡ []
        t_alone bucket [] w more e alone = absurd (cc)
        t_alone bucket (v ∷ rest) w more e alone = alone v rest refl

  delivered_calls : (reads : Reads) (b : ℕ) (i : Instr) → i ≡ current (module_at chain f.of) f.pc → is_return i ≡ false
      → LinkedCalls chain (delivered_by (module_at chain f.of) reads b i f rest (g, c))
  unfolding delivered_by
  delivered_calls reads b i is on =
      same_calls chain _ _ _ _ refl refl refl refl (stepped_calls (record { answer = answer_to (delivered c.out (items_of ((c.instances f.of).brigades b)) reads).1; given = None }) i is on)

  -- to the next filter: the call waits at its pass, in `main`
  passed_calls : (b l : ℕ) → instr.Pass b l ≡ current (module_at chain f.of) f.pc → is_last chain c f.of ≡ false → LinkedCalls chain (passed_to (module_at chain (next_place chain c f.of)) (next_place chain c f.of) b f rest (g, c))
  unfolding passed_to IsNested AreNamed IsRising
  passed_calls b l is more =
      let m : IsModule (module_at chain f.of) = proper f.of in
      let to : ℕ = next_place chain c f.of in
      let callee : IsModule (module_at chain to) = proper to in
      let main : (module_at chain f.of).main ≤ f.pc = pass_in_main (module_at chain f.of) f.pc b l m t.top.at (sym is) in
      let none : c.queue ≡ [] = t.serving main in
      let low : (module_at chain f.of).init < (module_at chain f.of).main = m.initial.some in
      let below_main : (module_at chain to).init < (module_at chain to).main = callee.initial.some in
      let inside : to < length chain = next_in_chain chain c f.of more in
      busy_calls chain _ _ (record { of = to; call = fresh_call g.next; pc = (module_at chain to).main }) (f ∷ rest) refl (record {
        top = record { of = omega arith; at = callee.mains; opening = λ lt. absurd (omega arith); serving = λ le. t.top.serving (omega arith) };
        below = All-cons (IsFramePlaced chain c.req) f rest t.top t.below;
        nested = (next_later chain c f.of, t.nested);
        named = (let first = t.named in (omega (arith, first.0, first.1), omega arith, none_next g.next (f ∷ rest) first, named_below g.next (g.next + 1) (f ∷ rest) (omega arith) first));
        waiting = All-cons (WaitsAtPass chain) f rest (b, l, sym is) t.waiting;
        queue = t.queue;
        later = subst (IsRising to) (sym none) tt;
        serving = λ le. none;
        alone = λ w others e. none;
      })

  passes_calls : (reads : Reads) (b l : ℕ) → instr.Pass b l ≡ current (module_at chain f.of) f.pc → LinkedCalls chain (passes chain reads b (instr.Pass b l) f rest (g, c))
  passes_calls reads b l is = by_test (is_last chain c f.of) refl where
    by_test : (last : Bool) → is_last chain c f.of ≡ last
        → LinkedCalls chain (cond last (delivered_by (module_at chain f.of) reads b (instr.Pass b l) f rest (g, c)) (passed_to (module_at chain (next_place chain c f.of)) (next_place chain c f.of) b f rest (g, c)))
    by_test true e = delivered_calls reads b (instr.Pass b l) is refl
    by_test false e = passed_calls b l is e

  -- the first call returns
  ended_calls : (s : Status) → LinkedCalls chain (returned_from chain s f (g, c)).1
  unfolding returned_from put_back configuration AreNamed IsRising
  ended_calls s = by_queue c.queue refl where
    by_queue : (queue : List ℕ) → c.queue ≡ queue → LinkedCalls chain (next_called chain s queue (put_back (instr.Ret s) f (do_return (configuration g c f)) [] [] (g, c))).1
    by_queue [] is = (let w : Linked = put_back (instr.Ret s) f (do_return (configuration g c f)) [] [] (g, c) in idle_calls chain w.0 w.1 refl is)
    by_queue (k ∷ ks) is =
        let due : All (λ j. j < length chain) (k ∷ ks) = subst (λ (js : List ℕ). All (λ j. j < length chain) js) is t.queue in
        let later : IsRising f.of (k ∷ ks) = subst (IsRising f.of) is t.later in
        let named = t.named in
        called_calls chain k ks (put_back (instr.Ret s) f (do_return (configuration g c f)) [] [] (g, c)) (proper k) (All-head (λ (j : ℕ). j < length chain) k ks due)
        (omega (arith, named.0, named.1)) (All-tail (λ (j : ℕ). j < length chain) k ks due) later.1

-- a return to the call that waits: it goes on behind its pass, or where that leads
returned_calls : (chain : List Program) (g : Common) (c : Connection) (proper : (k : ℕ) → IsModule (module_at chain k)) (s : Status) (f w : Frame) (rest : List Frame)
    → StandsOnTop chain g.next c.req c.queue f (w ∷ rest)
    → LinkedCalls chain (returned_to (module_at chain w.of) s f w rest (g, c))
unfolding returned_to put_back configuration IsNested AreNamed
returned_calls chain g c proper s f w rest t =
    let pass : Instr = current (module_at chain w.of) w.pc in
    let at : WaitsAtPass chain w = All-head (WaitsAtPass chain) w rest t.waiting in
    let placed : IsFramePlaced chain c.req w = All-head (IsFramePlaced chain c.req) w rest t.below in
    let place : SameHandler (module_at chain w.of) w.pc (after_pass s pass w.pc) =
    stays_in_handler (module_at chain w.of) w.pc _ (proper w.of) placed.at (λ P leads. after_leads P s pass at.0 at.1 w.pc at.2 leads) in
    let bucket : NamedBucket → NamedBucket = touched_bucket (configuration g c f) (instr.Ret s) in
    let new : Frame = record (touched_frame bucket w) { pc = after_pass s pass w.pc } in
    let none : c.queue ≡ [] = t.alone w rest refl in
    let named : AreNamed g.next (w ∷ rest) = t.named.3 in
    let touched : AreNamed g.next (touched_frame bucket w ∷ map (touched_frame bucket) rest) = named_touched bucket g.next (w ∷ rest) named in
    busy_calls chain _ _ new (map (touched_frame bucket) rest) refl (record {
      top = goes_placed chain c.req w new refl place placed;
      below = placed_touched bucket chain c.req rest (All-tail (IsFramePlaced chain c.req) w rest t.below);
      nested = nested_alike w new (map (touched_frame bucket) rest) refl (nested_touched bucket w rest t.nested.1);
      named = (touched.0, touched.1, touched.2, touched.3);
      waiting = waiting_touched bucket chain rest (All-tail (WaitsAtPass chain) w rest t.waiting);
      queue = t.queue;
      later = rising_none w.of c.queue none;
      serving = λ le. none;
      alone = λ v more e. none;
    })

returns_calls : (chain : List Program) (g : Common) (c : Connection) (proper : (k : ℕ) → IsModule (module_at chain k)) (s : Status) (f : Frame) (rest : List Frame)
    → StandsOnTop chain g.next c.req c.queue f rest
    → LinkedCalls chain (returns chain s f rest (g, c)).1
returns_calls chain g c proper s f [] t = ended_calls chain g c proper f [] t s
returns_calls chain g c proper s f (w ∷ rest) t = returned_calls chain g c proper s f w rest t

top_calls : (chain : List Program) (reads : Reads) (g : Common) (c : Connection) (proper : (k : ℕ) → IsModule (module_at chain k)) (i : Instr) (f : Frame) (rest : List Frame)
    → i ≡ current (module_at chain f.of) f.pc
    → StandsOnTop chain g.next c.req c.queue f rest → LinkedCalls chain (proceeds chain reads i f rest (g, c)).1
unfolding proceeds
top_calls chain reads g c proper (instr.Pass b l) f rest is t = passes_calls chain g c proper f rest t reads b l is
top_calls chain reads g c proper (instr.Ret s) f rest is t = same_calls chain _ _ _ _ refl refl refl refl (returns_calls chain g c proper s f rest t)
top_calls chain reads g c proper i f rest is t = stepped_calls chain g c proper f rest t (record { answer = answer_to true; given = reads 0 }) i is refl

pub top_keeps_calls : TopKeepsCalls
top_keeps_calls chain reads g c f rest may s =
    top_calls chain reads g c (module_at_proper chain may.chained) (current (module_at chain f.of) f.pc) f rest refl (stands_on_top chain g c f rest may.on_top s.calls)
