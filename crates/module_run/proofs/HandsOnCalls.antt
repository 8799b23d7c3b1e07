-- Calls before and after a pass to the next filter.
use Rattle.std.proofs.Common.{◌≡◌, ◌≢◌, ℕ, suc, ◌<◌, ◌≤◌, ◌||◌, Bool, true, List, [], ◌∷◌, ◌++◌, length, Option, Some, is_some, refl, sym, ◌∙◌, ap, ◌⊎◌, inl, inr, arith}
use Rattle.std.specs.Prelude.{if◌then◌else◌, slice_get}
use Rattle.std.specs.Global.{Vec}
use Rattle.std.proofs.lemmas.Bool.{cases_eq, eq-eqb, ne_eqb, false≢true}
use Rattle.module_code.specs.Program.{Program}
use Rattle.module_code.specs.declared.instr.Instr.TheVariants as instr
use Rattle.run_model.specs.declared.bucket.Mark.TheVariants.{Passed}
use Rattle.run_model.specs.Chains.{module_at}
use Rattle.run_model.specs.Steps.{current}
use Rattle.interp_state.specs.declared.machine.Call.{Call}
use Rattle.interp_state.specs.declared.machine.Slot.{Slot}
use Rattle.interp_state.specs.declared.machine.Slot.TheVariants as slot
use Rattle.module_run.specs.declared.conn.Filter.{Filter}
use Rattle.module_run.specs.declared.conn.Conn.{Conn}
use Rattle.module_run.specs.Conns.{filter_at, call_name, waiting, top_of}
use Rattle.interp_state.specs.Slots.{slot_at, marked}
use Rattle.module_run.specs.Stacked.{AreCalled, called_of, is_called, is_waiting, named_at, names_of}
use Rattle.run_model.specs.Pools.{is_in}
use Rattle.std.proofs.lemmas.Option.{slice_get_within}
use Rattle.std.proofs.lemmas.List.{length-append}
use Rattle.interp_state.proofs.Pushed.{pushed_in}
use Rattle.module_run.proofs.HandsOn.{HandsOn, FilterBefore, before, changed, same_some, no_some, called_there, called_before, named_top, named_in}
use Rattle.module_run.proofs.Callers.{called_low, get_left, get_split, in_get, in_pushed, names_same, names_more, top_at, waits_not}

twice_marked : (s : Slot) → marked Passed s ≡ marked Passed (marked Passed s)
twice_marked slot.Null = refl
twice_marked (slot.Made n pool mark) = refl

module _ (chain : List Program) (c : Conn) (fs : Vec Filter) (cs ws : Vec ℕ) (to : ℕ) (next b m l : ℕ) (x e y z : Filter) (h : HandsOn c fs cs ws to next b m x e y z) where
  -- the filter in a place
  at_top : (j : ℕ) (f : Filter) → filter_at (changed c fs cs ws to) j ≡ Some f → j ≡ top_of c → f ≡ y
  at_top j f is q = same_some f y (sym is ∙ (ap (filter_at (changed c fs cs ws to)) q ∙ h.top_after))

  at_behind : (j : ℕ) (f : Filter) → filter_at (changed c fs cs ws to) j ≡ Some f → j ≡ to → f ≡ z
  at_behind j f is q = same_some f z (sym is ∙ (ap (filter_at (changed c fs cs ws to)) q ∙ h.behind_after))

  waiting_before : (j : ℕ) → j ≢ top_of c → is_waiting (changed c fs cs ws to) j ≡ is_waiting c j
  waiting_before j other = ap (is_in j) h.callers ∙ (in_pushed j (top_of c) c.callers.items ∙ ap (λ (t : Bool). t || is_waiting c j) (ne_eqb j (top_of c) other))

  waiting_top : is_waiting (changed c fs cs ws to) (top_of c) ≡ true
  waiting_top = ap (is_in (top_of c)) h.callers ∙ pushed_in (top_of c) (top_of c) c.callers.items refl

  pub called_after : (inside : to < length chain) → 0 < next → current (module_at chain (top_of c)) x.call.pc ≡ instr.Pass b l → AreCalled chain c → AreCalled chain (changed c fs cs ws to)
  called_after inside pos passing called = record {
    runs = λ j f is runs. elim (cases_eq j (to)) [
      | inl q ↦ (let n = ap (λ (g : Filter). g.call.name) (at_behind j f is q) ∙ h.name in omega (arith, n, pos))
      | inr ne ↦ (let p = old j f is in let n = ap (λ (t : Call). t.name) (p.call ne) in let r = called.runs j p.filter p.is (sym (called_before c fs cs ws to next b m x e y z h j ne) ∙ runs) in
          omega (arith, n, r))
    ];
    idle = λ j f is idle. elim (cases_eq j (to)) [
      | inl q ↦ absurd (false≢true (sym idle ∙ (ap (is_called (changed c fs cs ws to)) q ∙ called_there c fs cs ws to next b m x e y z h)))
      | inr ne ↦ (let p = old j f is in ap (λ (t : Call). t.name) (p.call ne) ∙ called.idle j p.filter p.is (sym (called_before c fs cs ws to next b m x e y z h j ne) ∙ idle))
    ];
    lent = λ j f is. elim (cases_eq j (top_of c)) [
      | inl q ↦ ap (λ (g : Filter). is_some g.lent) (at_top j f is q) ∙ (ap is_some h.lent ∙ (sym waiting_top ∙ ap (is_waiting (changed c fs cs ws to)) (sym q)))
      | inr ne ↦ waits_as j f is ne ∙ sym (waiting_before j ne)
    ];
    passes = λ j n f is lent. elim (lent_by j n f is lent) [
      | inl w ↦ (let v = h.variable in let k = w.1 in (
        omega (arith, v, k),
        (
          l,
          ap (λ (i : ℕ). current (module_at chain i) f.call.pc) w.0
              ∙ (ap (λ (t : Call). current (module_at chain (top_of c)) t.pc) (ap (λ (g : Filter). g.call) (at_top j f is w.0) ∙ h.call)
              ∙ (passing ∙ ap (λ (i : ℕ). instr.Pass i l) (sym w.1))),
        ),
      ))
      | inr w ↦ called.passes j n f w.2 lent
    ];
    passed = λ j n f is lent. elim (lent_by j n f is lent) [
      | inl w ↦ ap (λ (g : Filter). slot_at g.instance n) (at_top j f is w.0) ∙ (ap (slot_at y.instance) w.1
          ∙ (y_marked ∙ (ap (λ (i : ℕ). marked Passed (slot_at y.instance i)) (sym w.1) ∙ ap (λ (g : Filter). marked Passed (slot_at g.instance n)) (sym (at_top j f is w.0)))))
      | inr w ↦ called.passed j n f w.2 lent
    ];
    inward = λ i k j n f g at after is gs lent. elim (lent_by k n f is lent) [
      | inl w ↦ (let last = behind_it i k j at after w.0 in (
        m,
        (
          ap (λ (t : Filter). named_at t n) (at_top k f is w.0) ∙ (ap (named_at y) w.1 ∙ (named_top c fs cs ws to next b m x e y z h b ∙ h.handed)),
          ap (λ (t : Filter). named_at t 8) (at_behind j g gs last) ∙ named_in c fs cs ws to next b m x e y z h,
        ),
      ))
      | inr w ↦
          (let here = placed i k at w.1 in
          let there = next_placed i k j here after w.0 in
          elim (cases_eq j (top_of c)) [
            | inl q ↦ (let was = called.inward i k j n f x here there w.2 (ap (filter_at c) q ∙ h.top) lent in
                (was.0, (was.1.0, ap (λ (t : Filter). named_at t 8) (at_top j g gs q) ∙ (named_top c fs cs ws to next b m x e y z h 8 ∙ was.1.1))))
            | inr ne ↦ called.inward i k j n f g here there w.2 (as_was j g gs ne (λ r. let low = called_low chain c called (suc i) j there in omega (arith, r, low))) lent
          ])
    ];
    incoming = λ j f is idle. elim (cases_eq j (to)) [
      | inl q ↦ absurd (false≢true (sym idle ∙ (ap (is_called (changed c fs cs ws to)) q ∙ called_there c fs cs ws to next b m x e y z h)))
      | inr off ↦ elim (cases_eq j (top_of c)) [
        | inl q ↦ ap (λ (t : Filter). named_at t 8) (at_top j f is q)
            ∙ (named_top c fs cs ws to next b m x e y z h 8 ∙ called.incoming j x (ap (filter_at c) q ∙ h.top) (sym (called_before c fs cs ws to next b m x e y z h j off) ∙ idle))
        | inr ne ↦ called.incoming j f (as_was j f is ne off) (sym (called_before c fs cs ws to next b m x e y z h j off) ∙ idle)
      ]
    ];
    waits = h.waits
        ∙ (ap (λ (ns : List ℕ). ns ++ x.call.name ∷ []) called.waits
        ∙ (ap (λ (o : Option Filter). names_of c c.callers.items ++ call_name o ∷ []) (sym h.top)
        ∙ (sym (names_more c c.callers.items (top_of c))
        ∙ (sym (names_same c (changed c fs cs ws to) (called_of c) (λ j there. let i = in_get (called_of c) j there in names_kept j (called_low chain c called i.0 j i.1)))
        ∙ ap (names_of (changed c fs cs ws to)) (sym h.callers)))));
    rises = λ i j k n lt at later. elim (get_split cs.items (to) j n later) [
      | inl old ↦ called.rises i j k n lt (placed_low i k at (let a = slice_get_within cs.items j n old in omega (arith, a, lt))) (ap (λ (ks : List ℕ). slice_get ks j) (sym h.callers) ∙ old)
      | inr new ↦ (let a = new.0 in let low = called_low chain c called i k (placed_low i k at (omega (arith, a, lt))) in let q = new.1 in omega (arith, low, q))
    ];
    bottom = get_left cs.items ((to) ∷ []) 0 c.first (ap (λ (ks : List ℕ). slice_get ks 0) h.callers ∙ called.bottom);
    outer = λ e. absurd (omega (arith, e, inside));
    quiet = λ q. absurd (false≢true (sym q ∙ h.busy));
  } where
    old : (j : ℕ) (f : Filter) → filter_at (changed c fs cs ws to) j ≡ Some f → FilterBefore c fs cs ws to next b m x e y z h j f
    old = before c fs cs ws to next b m x e y z h

    as_was : (j : ℕ) (f : Filter) → filter_at (changed c fs cs ws to) j ≡ Some f → j ≢ top_of c → j ≢ to → filter_at c j ≡ Some f
    as_was j f is ne off = sym (h.others j ne off) ∙ is

    -- the places of those that were called
    placed_low : (i k : ℕ) → slice_get (called_of (changed c fs cs ws to)) i ≡ Some k → i < length cs.items → slice_get (called_of c) i ≡ Some k
    placed_low i k at low = elim (get_split cs.items (to) i k at) [
      | inl old ↦ ap (λ (ks : List ℕ). slice_get ks i) (sym h.callers) ∙ old
      | inr new ↦ absurd (let a = new.0 in omega (arith, a, low))
    ]

    placed : (i k : ℕ) → slice_get (called_of (changed c fs cs ws to)) i ≡ Some k → k ≢ to → slice_get (called_of c) i ≡ Some k
    placed i k at ne = elim (get_split cs.items (to) i k at) [
      | inl old ↦ ap (λ (ks : List ℕ). slice_get ks i) (sym h.callers) ∙ old
      | inr new ↦ absurd (ne (sym new.1))
    ]

    many_called : length cs.items ≡ suc (waiting c)
    many_called = (let n = ap (λ (ks : List ℕ). length ks) h.callers ∙ length-append c.callers.items (top_of c ∷ []) in omega (arith, n))

    -- behind one that is not the top comes one that was called,
    next_placed : (i k j : ℕ) → slice_get (called_of c) i ≡ Some k → slice_get (called_of (changed c fs cs ws to)) (suc i) ≡ Some j → k ≢ top_of c → slice_get (called_of c) (suc i) ≡ Some j
    next_placed i k j at next ne = elim (get_split cs.items (to) (suc i) j next) [
      | inl old ↦ ap (λ (ks : List ℕ). slice_get ks (suc i)) (sym h.callers) ∙ old
      | inr new ↦ absurd (ne (same_some k (top_of c) (sym at ∙ (ap (slice_get (called_of c)) (let a = new.0 in let n = many_called in let e : i ≡ waiting c = omega (arith, a, n) in e) ∙ top_at chain c called))))
    ]

    -- and behind the top the new one
    behind_it : (i k j : ℕ) → slice_get (called_of (changed c fs cs ws to)) i ≡ Some k → slice_get (called_of (changed c fs cs ws to)) (suc i) ≡ Some j → k ≡ top_of c → j ≡ to
    behind_it i k j at next top = elim (get_split cs.items (to) (suc i) j next) [
      | inr new ↦ sym new.1
      | inl old ↦ absurd (let there = ap (λ (ks : List ℕ). slice_get ks (suc i)) (sym h.callers) ∙ old in
          let low = called_low chain c called (suc i) j there in
          let lt = called.rises i (suc i) k j (omega arith) (placed i k at (λ r. omega (arith, r, top))) there in omega (arith, low, lt, top))
    ]

    y_marked : slot_at y.instance b ≡ marked Passed (slot_at y.instance b)
    y_marked = at_b ∙ (twice_marked (slot_at x.instance b) ∙ ap (marked Passed) (sym at_b)) where
      at_b : slot_at y.instance b ≡ marked Passed (slot_at x.instance b)
      at_b = h.slots b ∙ ap (λ (t : Bool). if t then marked Passed (slot_at x.instance b) else slot_at x.instance b) (eq-eqb b b refl)

    waits_as : (j : ℕ) (f : Filter) → filter_at (changed c fs cs ws to) j ≡ Some f → j ≢ top_of c → is_some f.lent ≡ is_waiting c j
    waits_as j f is ne = elim (cases_eq j (to)) [
      | inl q ↦ ap (λ (g : Filter). is_some g.lent) (at_behind j f is q) ∙ (ap is_some h.alone ∙ sym (waits_not chain c called j (omega (arith, q))))
      | inr off ↦ called.lent j f (as_was j f is ne off)
    ]

    -- a filter that lent a brigade: the one on top, or one that did so before
    lent_by : (j n : ℕ) (f : Filter) → filter_at (changed c fs cs ws to) j ≡ Some f → f.lent ≡ Some n → ((j ≡ top_of c) × (n ≡ b)) ⊎ ((j ≢ top_of c) × (j ≢ to) × (filter_at c j ≡ Some f))
    lent_by j n f is lent = elim (cases_eq j (top_of c)) [
      | inl q ↦ inl (q, same_some n b (sym lent ∙ (ap (λ (g : Filter). g.lent) (at_top j f is q) ∙ h.lent)))
      | inr ne ↦ elim (cases_eq j (to)) [
        | inl q ↦ absurd (no_some n (sym (ap (λ (g : Filter). g.lent) (at_behind j f is q) ∙ h.alone) ∙ lent))
        | inr off ↦ inr (ne, off, as_was j f is ne off)
      ]
    ]

    names_kept : (j : ℕ) → j ≤ top_of c → call_name (filter_at (changed c fs cs ws to) j) ≡ call_name (filter_at c j)
    names_kept j high = elim (cases_eq j (top_of c)) [
      | inl q ↦ ap (λ (i : ℕ). call_name (filter_at (changed c fs cs ws to) i)) q
          ∙ (ap call_name h.top_after ∙ (ap (λ (t : Call). t.name) h.call ∙ (ap call_name (sym h.top) ∙ ap (λ (i : ℕ). call_name (filter_at c i)) (sym q))))
      | inr ne ↦ ap call_name (h.others j ne (omega (arith, high)))
    ]
