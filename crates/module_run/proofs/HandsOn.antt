-- A connection before and after a pass to the next filter: which calls run, and whose brigades are whose.
use Rattle.std.proofs.Common.{◌≡◌, ◌≢◌, ◌==◌, ℕ, ◌<◌, ◌≤◌, ◌&&◌, ◌||◌, nat_le, Bool, true, false, [], ◌∷◌, ◌++◌, length, Some, None, refl, sym, ◌∙◌, ap, ◌⊎◌, inl, inr, arith}
use Rattle.std.specs.Prelude.{if◌then◌else◌}
use Rattle.std.specs.Global.{Vec}
use Rattle.std.proofs.lemmas.Bool.{cases_eq, eq-eqb, ne_eqb, leb-true, leb-false}
use Rattle.run_model.specs.declared.bucket.Mark.TheVariants.{Usable, Passed}
use Rattle.interp_state.specs.declared.machine.Call.{Call}
use Rattle.interp_state.specs.declared.machine.Slot.{Slot}
use Rattle.interp_state.specs.declared.machine.Slot.TheVariants as slot
use Rattle.module_run.specs.declared.conn.Filter.{Filter}
use Rattle.module_run.specs.declared.conn.Conn.{Conn}
use Rattle.module_run.specs.Conns.{filter_at, top_of}
use Rattle.interp_state.specs.Slots.{slot_at, name_in, marked}
use Rattle.module_run.specs.Stacked.{FiltersApart, is_called, named_at}
use Rattle.run_model.specs.Pools.{is_in}
use Rattle.module_run.proofs.Callers.{called_top, in_pushed}

-- a connection with other filters, of which one more waits for a later one, `to`
abbrev pub changed : Conn → Vec Filter → Vec ℕ → Vec ℕ → ℕ → Conn
changed c fs cs ws to = record c { filters = fs; callers = cs; waits = ws; top = to }

-- The filter on top, x, hands the brigade m of its variable b to a later filter e, `to`, whose call has the name `next` then. They are y and z after that.
pub record HandsOn (c : Conn) (fs : Vec Filter) (cs ws : Vec ℕ) (to : ℕ) (next b m : ℕ) (x e y z : Filter) : Type 0 where
  pub later : top_of c < to
  pub top : filter_at c (top_of c) ≡ Some x
  pub behind : filter_at c (to) ≡ Some e
  pub top_after : filter_at (changed c fs cs ws to) (top_of c) ≡ Some y
  pub behind_after : filter_at (changed c fs cs ws to) (to) ≡ Some z
  pub others : (j : ℕ) → j ≢ top_of c → j ≢ to → filter_at (changed c fs cs ws to) j ≡ filter_at c j
  pub many : length fs.items ≡ length c.filters.items
  pub waits : ws.items ≡ c.waits.items ++ x.call.name ∷ []
  pub callers : cs.items ≡ c.callers.items ++ top_of c ∷ []
  pub busy : c.busy ≡ true
  pub variable : b < 9
  pub handed : named_at x b ≡ Some m
  pub slots : (a : ℕ) → slot_at y.instance a ≡ (if a == b then marked Passed (slot_at x.instance b) else slot_at x.instance a)
  pub slots_behind : (a : ℕ) → slot_at z.instance a ≡ (if a == 8 then slot.Made m None Usable else slot_at e.instance a)
  pub call : y.call ≡ x.call
  pub name : z.call.name ≡ next
  pub lent : y.lent ≡ Some b
  pub alone : z.lent ≡ None

-- The names that a filter has are below `next`, and each is in one variable of it, of nine.
pub record HasNamesBelow (c : Conn) (next : ℕ) : Type 0 where
  pub below : (j a n : ℕ) (f : Filter) → filter_at c j ≡ Some f → named_at f a ≡ Some n → n < next
  pub calls : (j : ℕ) (f : Filter) → filter_at c j ≡ Some f → f.call.name < next
  pub apart : (j a b n : ℕ) (f : Filter) → filter_at c j ≡ Some f → named_at f a ≡ Some n → named_at f b ≡ Some n → a ≡ b
  pub nine : (j a n : ℕ) (f : Filter) → filter_at c j ≡ Some f → named_at f a ≡ Some n → a < 9

pub same_some : {X : Type 0} (x y : X) → Some x ≡ Some y → x ≡ y
same_some x y e = cc

pub no_some : {X : Type 0} (x : X) → None ≡ Some x → ⊥
no_some x e = cc

-- a mark changes no name
pub name_marked : (s : Slot) → name_in (marked Passed s) ≡ name_in s
name_marked slot.Null = refl
name_marked (slot.Made n pool mark) = refl

pub cases_le : (j k : ℕ) → (j ≤ k) ⊎ (k < j)
cases_le j k = go (nat_le j k) refl where
  go : (t : Bool) → nat_le j k ≡ t → (j ≤ k) ⊎ (k < j)
  go true e = inl (leb-true j k e)
  go false e = inr (leb-false j k e)

module _ (c : Conn) (fs : Vec Filter) (cs ws : Vec ℕ) (to : ℕ) (next b m : ℕ) (x e y z : Filter) (h : HandsOn c fs cs ws to next b m x e y z) where
  pub top_rises : top_of (changed c fs cs ws to) ≡ to
  top_rises = refl

  -- which calls run and wait
  pub called_there : is_called (changed c fs cs ws to) (to) ≡ true
  called_there = called_top (changed c fs cs ws to) h.busy

  pub called_before : (j : ℕ) → j ≢ to → is_called (changed c fs cs ws to) j ≡ is_called c j
  called_before j other =
      ap (λ (t : Bool). c.busy && (t || is_in j cs.items)) (ne_eqb j (to) other)
      ∙ ap (λ (t : Bool). c.busy && t) (ap (is_in j) h.callers ∙ in_pushed j (top_of c) c.callers.items)

  -- what a variable names after the pass
  pub named_top : (a : ℕ) → named_at y a ≡ named_at x a
  named_top a = ap name_in (h.slots a) ∙ (elim (cases_eq a b) [
    | inl q ↦ ap (λ (t : Bool). name_in (if t then marked Passed (slot_at x.instance b) else slot_at x.instance a)) (eq-eqb a b q) ∙ (name_marked (slot_at x.instance b) ∙ ap (named_at x) (sym q))
    | inr q ↦ ap (λ (t : Bool). name_in (if t then marked Passed (slot_at x.instance b) else slot_at x.instance a)) (ne_eqb a b q)
  ])

  pub named_in : named_at z 8 ≡ Some m
  named_in = ap name_in (h.slots_behind 8)

  pub named_behind : (a : ℕ) → a ≢ 8 → named_at z a ≡ named_at e a
  named_behind a other = ap name_in (h.slots_behind a) ∙ ap (λ (t : Bool). name_in (if t then slot.Made m None Usable else slot_at e.instance a)) (ne_eqb a 8 other)

  -- the filter that was there before, of one that is there after the pass: its own brigades were its own
  pub record FilterBefore (j : ℕ) (f : Filter) : Type 0 where
    pub filter : Filter
    pub is : filter_at c j ≡ Some filter
    pub named : (a n : ℕ) → named_at f a ≡ Some n → (named_at filter a ≡ Some n) ⊎ ((j ≡ to) × (a ≡ 8) × (n ≡ m))
    pub call : j ≢ to → f.call ≡ filter.call
    pub lent : j ≢ top_of c → j ≢ to → f.lent ≡ filter.lent

  pub before : (j : ℕ) (f : Filter) → filter_at (changed c fs cs ws to) j ≡ Some f → FilterBefore j f
  before j f is = elim (cases_eq j (top_of c)) [
    | inl q ↦ (let same : y ≡ f = same_some y f (sym h.top_after ∙ (ap (filter_at (changed c fs cs ws to)) (sym q) ∙ is)) in record {
      filter = x;
      is = ap (filter_at c) q ∙ h.top;
      named = λ a n e. inl (sym (named_top a) ∙ (ap (λ (g : Filter). named_at g a) same ∙ e));
      call = λ _. ap (λ (g : Filter). g.call) (sym same) ∙ h.call;
      lent = λ ne _. absurd (ne q);
    })
    | inr ne ↦ elim (cases_eq j (to)) [
      | inl q ↦ (let same : z ≡ f = same_some z f (sym h.behind_after ∙ (ap (filter_at (changed c fs cs ws to)) (sym q) ∙ is)) in record {
        filter = e;
        is = ap (filter_at c) q ∙ h.behind;
        named = λ a n named. elim (cases_eq a 8) [
          | inl at ↦ inr (q, at, same_some n m (sym named ∙ (ap (λ (g : Filter). named_at g a) (sym same) ∙ (ap (named_at z) at ∙ named_in))))
          | inr off ↦ inl (sym (named_behind a off) ∙ (ap (λ (g : Filter). named_at g a) same ∙ named))
        ];
        call = λ ne. absurd (ne q);
        lent = λ _ ne. absurd (ne q);
      })
      | inr off ↦ record {
        filter = f;
        is = sym (h.others j ne off) ∙ is;
        named = λ a n e. inl e;
        call = λ _. refl;
        lent = λ _ _. refl;
      }
    ]
  ]

  -- x.call.name and the names of others stay below `next`, which is the name of the call that began
  pub apart_after : HasNamesBelow c next → FiltersApart c → ((j : ℕ) → top_of c < j → is_called c j ≡ false) → ((j : ℕ) (f : Filter) → filter_at c j ≡ Some f → is_called c j ≡ false → named_at f 8 ≡ None) → FiltersApart (changed c fs cs ws to)
  apart_after names apart past incoming = record {
    own = λ i j a n k f g a_low n_low fi gj fa gn.
        (let p = before i f fi in let q = before j g gj in
        elim (p.named a k fa) [
          | inr w ↦ absurd (let at = w.1 in omega (arith, at, a_low))
          | inl old ↦ elim (q.named n k gn) [
            | inr w ↦ absurd (let at = w.1 in omega (arith, at, n_low))
            | inl older ↦ apart.own i j a n k p.filter q.filter a_low n_low p.is q.is old older
          ]
        ]);
    later = λ i j n k f g less n_low fi gj f8 gn.
        (let p = before i f fi in let q = before j g gj in
        elim (q.named n k gn) [
          | inr w ↦ (let at = w.1 in omega (arith, at, n_low))
          | inl older ↦ elim (p.named 8 k f8) [
            | inl old ↦ apart.later i j n k p.filter q.filter less n_low p.is q.is old older
            | inr w ↦ (let at = w.0 in handed_not j n q.filter (omega (arith, at, less)) n_low q.is (older ∙ ap (λ (i : ℕ). Some i) w.2))
          ]
        ]);
    handed = λ i j a k f g less fi gj fa g8.
        (let p = before i f fi in let q = before j g gj in
        elim (q.named 8 k g8) [
          | inl older ↦ handed_before i j a k f g less fi p q fa older
          | inr w ↦ elim (p.named a k fa) [
            | inr u ↦ absurd (let one = w.0 in let two = u.0 in omega (arith, one, two, less))
            | inl old ↦ (let one = w.0 in handed_here i a f (omega (arith, one, less)) fi p (old ∙ ap (λ (i : ℕ). Some i) w.2))
          ]
        ]);
    loose = λ i j n f g fi gj fn.
        (let p = before i f fi in
        elim (p.named n g.call.name fn) [
          | inl old ↦ loose_after i j n p.filter g p.is gj old
          | inr w ↦ loose_after (top_of c) j b x g h.top gj (h.handed ∙ ap (λ (i : ℕ). Some i) (sym w.2))
        ]);
    calls = λ i j f g fi gj pos same.
        (let p = before i f fi in let q = before j g gj in
        elim (cases_eq i (to)) [
          | inl u ↦ elim (cases_eq j (to)) [
            | inl w ↦ u ∙ sym w
            | inr ne ↦ absurd (let a = named_next i f fi u in let l = names.calls j q.filter q.is in let d = ap (λ (t : Call). t.name) (q.call ne) in omega (arith, a, l, d, same))
          ]
          | inr off ↦ elim (cases_eq j (to)) [
            | inl w ↦ absurd (let a = named_next j g gj w in let l = names.calls i p.filter p.is in let d = ap (λ (t : Call). t.name) (p.call off) in omega (arith, a, l, d, same))
            | inr ne ↦ (let d = ap (λ (t : Call). t.name) (p.call off) in let k = ap (λ (t : Call). t.name) (q.call ne) in
                apart.calls i j p.filter q.filter p.is q.is (omega (arith, d, pos)) (sym d ∙ (same ∙ k)))
          ]
        ]);
  } where
    named_next : (j : ℕ) (f : Filter) → filter_at (changed c fs cs ws to) j ≡ Some f → j ≡ to → f.call.name ≡ next
    named_next j f is at = ap (λ (g : Filter). g.call.name) (same_some f z (sym is ∙ (ap (filter_at (changed c fs cs ws to)) at ∙ h.behind_after))) ∙ h.name

    -- the brigade that is handed on is no own brigade of a later filter
    handed_not : (j n : ℕ) (g : Filter) → top_of c < j → n < 8 → filter_at c j ≡ Some g → named_at g n ≡ Some m → ⊥
    handed_not j n g less low gj gn = elim (cases_eq b 8) [
      | inl q ↦ apart.later (top_of c) j n m x g less low h.top gj (ap (named_at x) (sym q) ∙ h.handed) gn
      | inr ne ↦ (let v = h.variable in let same = apart.own (top_of c) j b n m x g (omega (arith, v, ne)) low h.top gj h.handed gn in omega (arith, same, less))
    ]

    -- and where an earlier one has it, that one lent it
    handed_here : (i a : ℕ) (f : Filter) → i < to → filter_at (changed c fs cs ws to) i ≡ Some f → (p : FilterBefore i f) → named_at p.filter a ≡ Some m → f.lent ≡ Some a
    handed_here i a f less fi p fa = elim (cases_eq i (top_of c)) [
      | inl q ↦
          (let same : f ≡ y = same_some f y (sym fi ∙ (ap (filter_at (changed c fs cs ws to)) q ∙ h.top_after)) in
          let was : p.filter ≡ x = same_some p.filter x (sym p.is ∙ (ap (filter_at c) q ∙ h.top)) in
          ap (λ (g : Filter). g.lent) same ∙ (h.lent ∙ ap (λ (n : ℕ). Some n) (names.apart (top_of c) b a m x h.top h.handed (ap (λ (g : Filter). named_at g a) (sym was) ∙ fa))))
      | inr ne ↦ elim (cases_le i (top_of c)) [
        | inl low ↦ p.lent ne (λ e. (let l = less in omega (arith, e, l))) ∙ earlier (omega (arith, low, ne))
        | inr high ↦ absurd (elim (cases_eq a 8) [
          | inl at ↦ no_some m (sym (incoming i p.filter p.is (past i high)) ∙ (ap (named_at p.filter) (sym at) ∙ fa))
          | inr off ↦ (let nine = names.nine i a m p.filter p.is fa in handed_not i a p.filter high (omega (arith, nine, off)) p.is fa)
        ])
      ]
    ] where
      earlier : i < top_of c → p.filter.lent ≡ Some a
      earlier low = elim (cases_eq b 8) [
        | inl q ↦ apart.handed i (top_of c) a m p.filter x low p.is h.top fa (ap (named_at x) (sym q) ∙ h.handed)
        | inr off ↦ absurd (own_not off)
      ] where
        own_not : b ≢ 8 → ⊥
        own_not off = elim (cases_eq a 8) [
          | inl at ↦ (let v = h.variable in apart.later i (top_of c) b m p.filter x low (omega (arith, v, off)) p.is h.top (ap (named_at p.filter) (sym at) ∙ fa) h.handed)
          | inr ne ↦ (let v = h.variable in let nine = names.nine i a m p.filter p.is fa in let same =
              apart.own i (top_of c) a b m p.filter x (omega (arith, nine, ne)) (omega (arith, v, off)) p.is h.top fa h.handed in omega (arith, same, low))
        ]

    handed_before : (i j a k : ℕ) (f g : Filter) → i < j → filter_at (changed c fs cs ws to) i ≡ Some f → (p : FilterBefore i f) (q : FilterBefore j g) → named_at f a ≡ Some k → named_at q.filter 8 ≡ Some k
        → f.lent ≡ Some a
    handed_before i j a k f g less fi p q fa older = elim (cases_le j (top_of c)) [
      | inr high ↦ absurd (no_some k (sym (incoming j q.filter q.is (past j high)) ∙ older))
      | inl low ↦ elim (p.named a k fa) [
        | inr w ↦ absurd (let at = w.0 in omega (arith, at, low, less))
        | inl old ↦ p.lent (λ e. omega (arith, e, low, less)) (λ e. omega (arith, e, low, less)) ∙ apart.handed i j a k p.filter q.filter less p.is q.is old older
      ]
    ]

    loose_after : (i j n : ℕ) (f g : Filter) → filter_at c i ≡ Some f → filter_at (changed c fs cs ws to) j ≡ Some g → named_at f n ≡ Some g.call.name → ⊥
    loose_after i j n f g fi gj fn = elim (cases_eq j (to)) [
      | inl q ↦ (let a = named_next j g gj q in let l = names.below i n g.call.name f fi fn in omega (arith, a, l))
      | inr ne ↦ (let r = before j g gj in apart.loose i j n f r.filter fi r.is (fn ∙ ap (λ (t : Call). Some t.name) (r.call ne)))
    ]
