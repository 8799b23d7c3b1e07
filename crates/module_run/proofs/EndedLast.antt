-- The only call of a connection ended: its filters and their brigades.
use Rattle.module_run.proofs.Callers.{alone_called, first_alone, no_callers, none_in_callers}
use Rattle.std.proofs.Common.{◌≡◌, ◌≢◌, ◌==◌, ◌⊎◌, ℕ, ◌<◌, ◌≤◌, ◌&&◌, not, nat_lt, Bool, true, false, List, [], Option, Some, None, refl, sym, ap, ◌∙◌, inl, inr, arith}
use Rattle.std.specs.Prelude.{if◌then◌else◌}
use Rattle.std.proofs.lemmas.Bool.{cases_eq, eq-eqb, ne_eqb, ltb-true, ltb-false, cases_Bool}
use Rattle.bucket_ring.specs.declared.names.BucketId.{BucketId}
use Rattle.module_code.specs.Program.{Program}
use Rattle.run_model.specs.declared.bucket.BrigadeVar.TheVariants as var
use Rattle.run_model.specs.Chains.{touched_instance}
use Rattle.run_model.specs.Effects.{returned_var}
use Rattle.run_model.specs.State as model
use Rattle.bucket_store.specs.Items.{Items}
use Rattle.module_run.specs.declared.conn.Conn.{Conn}
use Rattle.module_run.specs.declared.conn.Filter.{Filter}
use Rattle.interp_state.specs.declared.machine.Instance.{Instance}
use Rattle.interp_state.specs.declared.machine.Slot.TheVariants as slot
use Rattle.module_run.specs.Conns.{call_name, filter_at, lent_by, runs_of, shown_filter, shown_instance, top_of, waiting}
use Rattle.interp_state.specs.Seen.{is_running}
use Rattle.interp_state.specs.Slots.{SameButSlots, name_in, slot_at}
use Rattle.module_run.specs.Stacked.{StackedOver, is_called, named_at, names_of}
use Rattle.module_run.proofs.EndsFirst.{named_still}
use Rattle.module_run.proofs.Known.{no_lent, some_is}
use Rattle.interp_calls.proofs.Returned.{RunsWithout}
use Rattle.module_run.proofs.ReturnedParts.{AreAsWere, ended_instance, returned_filter}
use Rattle.interp_calls.proofs.Returns.{runs_without}

-- what a filter reads as is told by these
abbrev pub parts : Option Filter → Option (Instance × Option ℕ)
parts None = None
parts (Some f) = Some (f.instance, f.lent)

-- The call of the filter `top`, for which none waits, ended, and with it what had come in: the filter is `ended` then. Names below `next` were given out.
pub record EndsLast (L M : ℕ → Option Items) (next : ℕ) (c d : Conn) : Type 0 where
  pub top : Filter
  pub ended : Filter
  pub busy : c.busy ≡ true
  pub none : waiting c ≡ 0
  pub on_top : filter_at c c.first ≡ Some top
  pub top_after : filter_at d c.first ≡ Some ended
  pub others : (k : ℕ) → k ≢ c.first → parts (filter_at d k) ≡ parts (filter_at c k)
  pub rings : (n : ℕ) → n < next → n ≢ top.call.name → named_at top 8 ≢ Some n → M n ≡ L n
  pub slots : (a : ℕ) → slot_at ended.instance a ≡ (if a == 8 then slot.Null else slot_at top.instance a)
  pub rest : SameButSlots top.instance ended.instance
  pub name : ended.call.name ≡ 0
  pub lent : ended.lent ≡ top.lent

-- there are nine brigade variables
abbrev pub HasNine : Conn → Type 0
HasNine c = (k b : ℕ) (f : Filter) → filter_at c k ≡ Some f → 9 ≤ b → slot_at f.instance b ≡ slot.Null

-- Where a filter came from, once no call waits, and nothing came in to any.
pub record CameLone (c : Conn) (k : ℕ) (f e : Filter) : Type 0 where
  pub was : filter_at c k ≡ Some f
  pub names : (b m : ℕ) → named_at e b ≡ Some m → named_at f b ≡ Some m
  pub null : named_at e 8 ≡ None
  pub lent : e.lent ≡ None

shown_parts : (runs : ℕ → Bool) (M : ℕ → Option Items) (o q : Option Filter) → parts o ≡ parts q → shown_filter runs M o ≡ shown_filter runs M q
shown_parts runs M None None e = refl
shown_parts runs M None (Some f) e = absurd (cc)
shown_parts runs M (Some f) None e = absurd (cc)
shown_parts runs M (Some f) (Some h) e =
    let same : (f.instance, f.lent) ≡ (h.instance, h.lent) = some_is (f.instance, f.lent) (h.instance, h.lent) e in
    ap (λ (p : Instance × Option ℕ). lent_by p.1 (shown_instance runs M p.0)) same

same_parts : (e : Filter) (o : Option Filter) → parts (Some e) ≡ parts o → (f : Filter) × (o ≡ Some f) × (e.instance ≡ f.instance) × (e.lent ≡ f.lent)
same_parts e None is = absurd (cc)
same_parts e (Some f) is =
    let same : (e.instance, e.lent) ≡ (f.instance, f.lent) = some_is (e.instance, e.lent) (f.instance, f.lent) is in
    (f, refl, ap (λ (p : Instance × Option ℕ). p.0) same, ap (λ (p : Instance × Option ℕ). p.1) same)

below_or : (a b : ℕ) → (a < b) ⊎ (b ≤ a)
below_or a b = go (nat_lt a b) refl where
  go : (t : Bool) → nat_lt a b ≡ t → (a < b) ⊎ (b ≤ a)
  go true e = inl (ltb-true a b e)
  go false e = inr (ltb-false a b e)

module _ (chain : List Program) (at : BucketId → Option ℕ) (L M : ℕ → Option Items) (pools : ℕ → Option ℕ) (next : ℕ) (c d : Conn)
    (st : StackedOver chain at L pools next c) (nine : HasNine c) (x : EndsLast L M next c d) where
  top_first : top_of c ≡ c.first
  top_first = first_alone chain c st.called x.none

  pub lone : (k : ℕ) → k ≢ c.first → is_called c k ≡ false
  lone k ne = elim (cases_Bool (is_called c k)) [ inr no_ ↦ no_ | inl yes_ ↦ absurd (ne (alone_called c x.none k yes_ ∙ top_first)) ]

  pub none_lent : (k : ℕ) (f : Filter) → filter_at c k ≡ Some f → f.lent ≡ None
  none_lent k f is = no_lent f.lent (st.called.lent k f is ∙ none_in_callers c x.none k)

  pub none_in : (k : ℕ) (f : Filter) → filter_at c k ≡ Some f → k ≢ c.first → named_at f 8 ≡ None
  none_in k f is ne = st.called.incoming k f is (lone k ne)

  pub idle : (k : ℕ) (f : Filter) → filter_at c k ≡ Some f → k ≢ c.first → f.call.name ≡ 0
  idle k f is ne = st.called.idle k f is (lone k ne)

  pub waits_none : c.waits.items ≡ []
  waits_none = st.called.waits ∙ ap (names_of c) (no_callers c.callers.items x.none)

  -- what came in to the filter on top is in no variable of another one
  not_brought : (k b m : ℕ) (f : Filter) → filter_at c k ≡ Some f → k ≢ c.first → named_at x.top 8 ≡ Some m → named_at f b ≢ Some m
  not_brought k b m f is ne came named = elim (below_or k c.first) [
    | inl before ↦ (let n : None ≡ Some b = sym (none_lent k f is) ∙ st.apart.handed k c.first b m f x.top before is x.on_top named came in cc)
    | inr past ↦ behind (omega (arith, past, ne))
  ] where
    behind : c.first < k → ⊥
    behind later = elim (below_or b 8) [
      | inl own ↦ st.apart.later c.first k b m x.top f later own x.on_top is came named
      | inr high ↦ (elim (cases_eq b 8) [
        | inl e ↦ (let n : None ≡ Some m = sym (none_in k f is ne) ∙ (ap (named_at f) (sym e) ∙ named) in cc)
        | inr other ↦ (let n : None ≡ Some m = sym (ap name_in (nine k b f is (omega (arith, high, other)))) ∙ named in cc)
      ])
    ]

  pub stays : (k : ℕ) (f : Filter) → filter_at c k ≡ Some f → k ≢ c.first → AreAsWere L M f.instance
  stays k f is ne b n named =
      x.rings n ((st.held k f is).named b n named) (λ e. st.apart.loose k c.first b f x.top is x.on_top (named ∙ ap (λ (j : ℕ). Some j) e)) (λ came. not_brought k b n f is ne came named)

  pub stays_top : (b n : ℕ) → b ≢ 8 → named_at x.top b ≡ Some n → M n ≡ L n
  stays_top b n own named = x.rings n ((st.held c.first x.top x.on_top).named b n named) (λ e. (st.held c.first x.top x.on_top).loose b (named ∙ ap (λ (j : ℕ). Some j) e))
      (λ came. own ((st.held c.first x.top x.on_top).apart b 8 n named came))

  pub came : (k : ℕ) (e : Filter) → filter_at d k ≡ Some e → (f : Filter) × CameLone c k f e
  came k e is = elim (cases_eq k c.first) [
    | inl q ↦ (let same : x.ended ≡ e = some_is x.ended e (sym x.top_after ∙ (ap (filter_at d) (sym q) ∙ is)) in (
      x.top,
      record {
        was = ap (filter_at c) q ∙ x.on_top;
        names = λ b m named. (named_still x.top.instance x.ended.instance x.slots b m (ap (λ (f : Filter). named_at f b) same ∙ named)).1;
        null = ap (λ (f : Filter). named_at f 8) (sym same) ∙ ap name_in (x.slots 8);
        lent = ap (λ (f : Filter). f.lent) (sym same) ∙ (x.lent ∙ none_lent c.first x.top x.on_top);
      },
    ))
    | inr ne ↦ (let p = same_parts e (filter_at c k) (ap parts (sym is) ∙ x.others k ne) in (
      p.0,
      record {
        was = p.1;
        names = λ b m named. ap (λ (i : Instance). name_in (slot_at i b)) (sym p.2) ∙ named;
        null = ap (λ (i : Instance). name_in (slot_at i 8)) p.2 ∙ none_in k p.0 p.1 ne;
        lent = p.3 ∙ none_lent k p.0 p.1;
      },
    ))
  ]

  pub stays_after : (k : ℕ) (e : Filter) → filter_at d k ≡ Some e → AreAsWere L M e.instance
  stays_after k e is b n named = elim (cases_eq k c.first) [
    | inl q ↦ (let same : x.ended ≡ e = some_is x.ended e (sym x.top_after ∙ (ap (filter_at d) (sym q) ∙ is)) in
        let was = named_still x.top.instance x.ended.instance x.slots b n (ap (λ (f : Filter). named_at f b) same ∙ named) in stays_top b n was.0 was.1)
    | inr ne ↦ (let o = came k e is in stays k o.0 o.1.was ne b n (o.1.names b n named))
  ]

  -- the calls that ran, but for one
  pub without : RunsWithout (runs_of c) (is_running 0 []) x.top.call.name
  without n = runs_without x.top.call.name [] refl n ∙ sym (ap (λ (r : Bool). r && not (n == x.top.call.name)) before) where
    before : runs_of c n ≡ is_running x.top.call.name [] n
    before = ap (λ (k : ℕ). is_running (call_name (filter_at c k)) c.waits.items n) top_first
        ∙ (ap (λ (o : Option Filter). is_running (call_name o) c.waits.items n) x.on_top ∙ ap (λ (ws : List ℕ). is_running x.top.call.name ws n) waits_none)

  abbrev pub ended_as : model.Instance → model.Instance
  ended_as i = record i { brigades = λ b. if b == 8 then var.Null else returned_var x.top.call.name (i.brigades b) }

  abbrev pub left_as : ℕ → model.Instance
  left_as k = if k == c.first then ended_as (shown_filter (runs_of c) L (filter_at c c.first)) else touched_instance (returned_var x.top.call.name) (shown_filter (runs_of c) L (filter_at c k))

  pub top_instance : shown_filter (runs_of c) L (filter_at c c.first) ≡ shown_instance (runs_of c) L x.top.instance
  top_instance = ap (shown_filter (runs_of c) L) x.on_top ∙ ap (λ (o : Option ℕ). lent_by o (shown_instance (runs_of c) L x.top.instance)) (none_lent c.first x.top x.on_top)

  -- what each filter reads as where no call runs
  pub each_left : (k : ℕ) → shown_filter (is_running 0 []) M (filter_at d k) ≡ left_as k
  each_left k = elim (cases_eq k c.first) [
    | inl e ↦ ap (λ (j : ℕ). shown_filter (is_running 0 []) M (filter_at d j)) e
        ∙ (ap (shown_filter (is_running 0 []) M) x.top_after
        ∙ (ap (λ (o : Option ℕ). lent_by o (shown_instance (is_running 0 []) M x.ended.instance)) (x.lent ∙ none_lent c.first x.top x.on_top)
        ∙ (ended_instance (runs_of c) (is_running 0 []) x.top.call.name without L M x.top.instance x.ended.instance x.slots x.rest stays_top
        ∙ (ap ended_as (sym top_instance)
        ∙ sym (ap (λ (b : Bool). if b then ended_as (shown_filter (runs_of c) L (filter_at c c.first))
        else touched_instance (returned_var x.top.call.name) (shown_filter (runs_of c) L (filter_at c k))) (eq-eqb k c.first e))))))
    | inr ne ↦ shown_parts (is_running 0 []) M (filter_at d k) (filter_at c k) (x.others k ne)
        ∙ (returned_filter (runs_of c) (is_running 0 []) x.top.call.name without L M (filter_at c k) (λ f is. stays k f is ne)
        ∙ sym (ap (λ (b : Bool). if b then ended_as (shown_filter (runs_of c) L (filter_at c c.first))
        else touched_instance (returned_var x.top.call.name) (shown_filter (runs_of c) L (filter_at c k))) (ne_eqb k c.first ne)))
  ]
