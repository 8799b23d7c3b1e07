-- A pass to the next filter, a return, and the call of the next handler keep names single.
use Rattle.std.proofs.Common.{◌≡◌, ℕ, ◌+◌, ◌^◌, ◌<◌, ◌≤◌, Bool, true, false, ◌==◌, cond, List, [], ◌∷◌, map, length, Some, ◌⊎◌, inl, inr, refl, sym, ◌∙◌, ap, subst, arith}
use Rattle.std.proofs.lemmas.Bool.{cases_lt}
use Rattle.module_code.specs.declared.instr.Instr.TheVariants as instr
use Rattle.module_code.specs.declared.instr.Status.{Status}
use Rattle.module_code.specs.Program.{Program}
use Rattle.run_model.specs.declared.bucket.NamedBucket.{NamedBucket}
use Rattle.run_model.specs.declared.bucket.BrigadeVar.{BrigadeVar}
use Rattle.run_model.specs.declared.bucket.BrigadeVar.TheVariants as var
use Rattle.run_model.specs.Indexed.{upd}
use Rattle.run_model.specs.Buckets.{returned_bucket}
use Rattle.run_model.specs.State.{Instance, Configuration, items_of, set_brigade}
use Rattle.run_model.specs.Effects.{do_pass, do_return, handed_over, returned_var, with_items}
use Rattle.run_model.specs.Steps.{current}
use Rattle.run_model.specs.Sound.{sum_below, count_named, count, brigade_name}
use Rattle.run_model.specs.Chains.{Frame, Connection, Common, configuration, put_back, places}
use Rattle.run_model.specs.Passing.{handed_in, set_in, passed_to, passed_by, given_back, returned_to, called}
use Rattle.model_laws.specs.ChainSound.{count_at, count_loose, count_in, ChainNames}
use Rattle.run_model.proofs.Updates.{upd_either}
use Rattle.run_model.proofs.Sums.{sum_below_but, sum_below_upd, sum_written}
use Rattle.run_model.proofs.Names.{count_map, count_none, Carried, carried_same, handed_fewer, returned_fewer, filled_carried, filled_items, at_each}
use Rattle.model_laws.proofs.StepNames.{return_names}
use Rattle.model_laws.proofs.chains.Names.{chain_names_stay, carried_names, names_carried, fewer_loose, put_back_counted, put_back_names}

-- A pass.

handed_none : (n : ℕ) (v : BrigadeVar) → count_named n (items_of (handed_over v)) ≡ 0
handed_none n var.Null = count_none n
handed_none n var.Gone = count_none n
handed_none n (var.Live v) = count_none n

handed_items : (n : ℕ) (v : BrigadeVar) → count_named n (items_of (handed_in v)) ≡ count_named n (items_of v)
handed_items n var.Null = refl
handed_items n var.Gone = refl
handed_items n (var.Live v) = refl

handed_name : (n : ℕ) (v : BrigadeVar) → brigade_name (handed_in v) ≡ Some n → brigade_name v ≡ Some n
handed_name n var.Null h = h
handed_name n var.Gone h = h
handed_name n (var.Live v) h = h

module _ (chain : List Program) (callee : Program) (to b : ℕ) (f : Frame) (rest : List Frame) (g : Common) (c : Connection)
    (is : c.stack ≡ f ∷ rest) (later : f.of < to) (placed : to < places chain) (limit : g.next + 1 < 2 ^ 64) (s : ChainNames chain g c) where
  abbrev handed : BrigadeVar
  handed = (c.instances f.of).brigades b

  abbrev passed : Instance
  passed = (do_pass b (configuration g c f)).instance

  abbrev here : ℕ → Instance
  here = upd c.instances f.of passed

  abbrev into : Instance
  into = set_in (handed_in handed) (here to)

  abbrev new : ℕ → Instance
  new = upd here to into

  -- the caller's brigade is empty
  passed_counted : (n : ℕ) → count_at passed n + count_named n (items_of handed) ≤ count_at (c.instances f.of) n
  unfolding configuration set_brigade
  passed_counted n =
      let none : count_named n (items_of (handed_over handed)) ≡ 0 = handed_none n handed in
      elim (cases_lt b 9) [
        | inl lt ↦
            (let all : count_at passed n + count_named n (items_of handed) ≡ count_at (c.instances f.of) n + count_named n (items_of (handed_over handed)) =
            sum_below_upd 9 b (c.instances f.of).brigades (handed_over handed) (λ x. count_named n (items_of x)) lt in
            omega arith)
        | inr le ↦
            (let all : count_at passed n ≤ count_at (c.instances f.of) n + count_named n (items_of (handed_over handed)) =
            sum_written 9 b (c.instances f.of).brigades (handed_over handed) (λ x. count_named n (items_of x)) in
            let empty : count_named n (items_of handed) ≡ 0 = ap (λ v. count_named n (items_of v)) (s.slots f.of b le) ∙ count_none n in
            omega arith)
      ]

  into_counted : (n : ℕ) → count_at into n ≤ count_at (here to) n + count_named n (items_of handed)
  into_counted n =
      let all : count_at into n ≤ count_at (here to) n + count_named n (items_of (handed_in handed)) =
      sum_written 9 8 (here to).brigades (handed_in handed) (λ x. count_named n (items_of x)) in
      let same : count_named n (items_of (handed_in handed)) ≡ count_named n (items_of handed) = handed_items n handed in
      omega arith

  passed_in_counted : (n : ℕ) → count_in chain (passed_to callee to b f rest (g, c)).1 n ≤ count_in chain c n
  unfolding passed_to count_in count_loose configuration
  passed_in_counted n =
      let caller = passed_counted n in
      let next = into_counted n in
      let first : sum_below (places chain) (λ k. count_at (here k) n) + count_at (c.instances f.of) n ≡ sum_below (places chain) (λ k. count_at (c.instances k) n) + count_at passed n =
      sum_below_upd (places chain) f.of c.instances passed (λ x. count_at x n) (omega arith) in
      let second : sum_below (places chain) (λ k. count_at (new k) n) + count_at (here to) n ≡ sum_below (places chain) (λ k. count_at (here k) n) + count_at into n =
      sum_below_upd (places chain) to here into (λ x. count_at x n) placed in
      let stack : count_loose c.stack n ≡ count_named n f.call.loose + count_loose rest n = ap (λ (fs : List Frame). count_loose fs n) is in
      let none : count_named n [] ≡ 0 = count_none n in
      omega arith

  -- A variable holds what it held, or it is the `in` of the next filter and holds what is passed.
  passed_named : (j d n : ℕ) → brigade_name ((new j).brigades d) ≡ Some n → (brigade_name ((c.instances j).brigades d) ≡ Some n) ⊎ ((j ≡ to) × (d ≡ 8) × (brigade_name handed ≡ Some n))
  unfolding configuration set_brigade
  passed_named j d n h = elim (upd_either here to j into) [
    | inl p ↦
        (let at : brigade_name (into.brigades d) ≡ Some n = subst (λ (x : Instance). brigade_name (x.brigades d) ≡ Some n) p.1 h in
        elim (upd_either (here to).brigades 8 d (handed_in handed)) [
          | inl q ↦ inr (p.0, q.0, handed_name n handed (subst (λ v. brigade_name v ≡ Some n) q.1 at))
          | inr q ↦ inl (subst (λ (m : ℕ). brigade_name ((c.instances m).brigades d) ≡ Some n) (sym p.0) (in_here to d n (subst (λ v. brigade_name v ≡ Some n) q.1 at)))
        ])
    | inr p ↦ inl (in_here j d n (subst (λ (x : Instance). brigade_name (x.brigades d) ≡ Some n) p.1 h))
  ] where
    in_here : (j d n : ℕ) → brigade_name ((here j).brigades d) ≡ Some n → brigade_name ((c.instances j).brigades d) ≡ Some n
    in_here j d n h = elim (upd_either c.instances f.of j passed) [
      | inl p ↦
          (let at : brigade_name (upd (c.instances f.of).brigades b (handed_over handed) d) ≡ Some n = subst (λ (x : Instance). brigade_name (x.brigades d) ≡ Some n) p.1 h in
          let was : brigade_name ((c.instances f.of).brigades d) ≡ Some n =
          (at_each Carried (c.instances f.of).brigades b (handed_over handed) (handed_fewer handed).carried carried_same d).name n at in
          subst (λ (m : ℕ). brigade_name ((c.instances m).brigades d) ≡ Some n) (sym p.0) was)
      | inr p ↦ subst (λ (x : Instance). brigade_name (x.brigades d) ≡ Some n) p.1 h
    ]

  passed_own : (j d n : ℕ) → d < 8 → brigade_name ((new j).brigades d) ≡ Some n → brigade_name ((c.instances j).brigades d) ≡ Some n
  passed_own j d n own h = elim (passed_named j d n h) [ inl was ↦ was | inr at ↦ absurd (omega (arith, own, at.1)) ]

  -- what is passed is an own brigade of the caller or of a filter before
  comes_from : (j d n : ℕ) → d < 8 → brigade_name handed ≡ Some n → brigade_name ((c.instances j).brigades d) ≡ Some n → j < to
  comes_from j d n own hb hd = elim (cases_lt b 8) [
    | inl lt ↦ (let same = s.own j f.of d b n own lt hd hb in omega (arith, same.0))
    | inr le ↦ elim (cases_lt 8 b) [
      | inl beyond ↦ absurd (let none = sym (ap brigade_name (s.slots f.of b (omega arith))) ∙ hb in cc)
      | inr most ↦
          (let at : b ≡ 8 = omega arith in
          let before : j < f.of = s.incoming j f.of d n own (subst (λ (m : ℕ). brigade_name ((c.instances f.of).brigades m) ≡ Some n) at hb) hd in
          omega arith)
    ]
  ]

  -- the variables beyond the nine stay null
  stays_null : (k d : ℕ) → 9 ≤ d → (new k).brigades d ≡ var.Null
  unfolding configuration set_brigade
  stays_null k d le = elim (upd_either here to k into) [
    | inl p ↦ ap (λ (x : Instance). x.brigades d) p.1 ∙ elim (upd_either (here to).brigades 8 d (handed_in handed)) [
      | inl q ↦ absurd (omega (arith, q.0, le))
      | inr q ↦ q.1 ∙ null_here to
    ]
    | inr p ↦ ap (λ (x : Instance). x.brigades d) p.1 ∙ null_here k
  ] where
    null_here : (j : ℕ) → (here j).brigades d ≡ var.Null
    null_here j = elim (upd_either c.instances f.of j passed) [
      | inl p ↦ ap (λ (x : Instance). x.brigades d) p.1 ∙ (at_each Carried (c.instances f.of).brigades b (handed_over handed) (handed_fewer handed).carried carried_same d).null (s.slots f.of d le)
      | inr p ↦ ap (λ (x : Instance). x.brigades d) p.1 ∙ s.slots j d le
    ]

  pub passed_to_names : ChainNames chain (passed_to callee to b f rest (g, c)).0 (passed_to callee to b f rest (g, c)).1
  unfolding passed_to configuration
  passed_to_names = record {
    once = λ n. (let few = passed_in_counted n in let once : count_in chain c n ≤ 1 = s.once n in omega arith);
    fresh = λ n le. (let few = passed_in_counted n in let none : count_in chain c n ≡ 0 = s.fresh n (omega arith) in omega arith);
    own = λ j k d e n d_own e_own hd he. s.own j k d e n d_own e_own (passed_own j d n d_own hd) (passed_own k e n e_own he);
    incoming = λ j k d n own came hd. elim (passed_named k 8 n came) [
      | inl was ↦ s.incoming j k d n own was (passed_own j d n own hd)
      | inr at ↦ (let before = comes_from j d n own at.2 (passed_own j d n own hd) in omega (arith, at.0))
    ];
    given = λ k d n h. elim (passed_named k d n h) [
      | inl was ↦ (let lt : n < g.next = s.given k d n was in omega arith)
      | inr at ↦ (let lt : n < g.next = s.given f.of b n at.2 in omega arith)
    ];
    limit = limit;
    slots = λ k d le. stays_null k d le;
  }

-- A return.

returned_slot : (n call : ℕ) (is_in : Bool) (v : BrigadeVar) → count_named n (items_of (cond is_in var.Null (returned_var call v))) ≤ count_named n (items_of v)
returned_slot n call true v = rw (count_none n) (omega arith)
returned_slot n call false v = (returned_fewer call v).items n

-- the call's `in` goes with its buckets
return_counted : (n : ℕ) (r : Configuration) → count (do_return r) n + count_named n (items_of (r.instance.brigades 8)) ≤ count r n
return_counted n r =
    let none : count_named n [] ≡ 0 = count_none n in
    let all : sum_below 9 (λ b. count_named n (items_of ((do_return r).instance.brigades b))) + count_named n (items_of (r.instance.brigades 8)) ≤ sum_below 9
    (λ b. count_named n (items_of (r.instance.brigades b))) + count_named n [] =
    sum_below_but 9 8 (λ b. count_named n (items_of (r.instance.brigades b))) (λ b. count_named n (items_of ((do_return r).instance.brigades b))) (omega arith)
    (λ b ne. returned_slot n r.call.name (b == 8) (r.instance.brigades b)) in
    omega arith

module _ (chain : List Program) (caller : Program) (status : Status) (f w : Frame) (rest : List Frame) (g : Common) (c : Connection)
    (is : c.stack ≡ f ∷ (w ∷ rest)) (f_placed : f.of < places chain) (w_placed : w.of < places chain) (s : ChainNames chain g c) where
  abbrev back : Common × Connection
  back = put_back (instr.Ret status) f (do_return (configuration g c f)) [] (w ∷ rest) (g, c)

  abbrev remaining : List NamedBucket
  remaining = map (returned_bucket f.call.name) (items_of ((c.instances f.of).brigades 8))

  abbrev resting : Instance
  resting = given_back (passed_by (current caller w.pc)) remaining (back.1.instances w.of)

  no_loose : (n : ℕ) → count_loose [] n ≤ count_named n (do_return (configuration g c f)).call.loose
  unfolding count_loose
  no_loose n = omega arith

  back_names : ChainNames chain back.0 back.1
  unfolding configuration
  back_names =
      chain_names_stay chain g c back.0 back.1
      (put_back_names chain (instr.Ret status) f (do_return (configuration g c f)) [] (w ∷ rest) g c is f_placed (return_names (configuration g c f) s.limit) no_loose) s

  resting_counted : (n : ℕ) → count_at resting n ≤ count_at (back.1.instances w.of) n + count_named n remaining
  resting_counted n =
      let b = passed_by (current caller w.pc) in
      let kept = with_items remaining ((back.1.instances w.of).brigades b) in
      let all : count_at resting n ≤ count_at (back.1.instances w.of) n + count_named n (items_of kept) = sum_written 9 b (back.1.instances w.of).brigades kept (λ x. count_named n (items_of x)) in
      let few : count_named n (items_of kept) ≤ count_named n remaining = filled_items n remaining ((back.1.instances w.of).brigades b) in
      omega arith

  returned_counted : (n : ℕ) → count_in chain (returned_to caller status f w rest (g, c)).1 n ≤ count_in chain c n
  unfolding returned_to put_back count_in count_loose configuration
  returned_counted n =
      let there : count_in chain back.1 n + count (configuration g c f) n ≤ count_in chain c n + count (do_return (configuration g c f)) n =
      put_back_counted chain (instr.Ret status) f (do_return (configuration g c f)) [] (w ∷ rest) g c is f_placed (return_names (configuration g c f) s.limit) no_loose n in
      let gone : count (do_return (configuration g c f)) n + count_named n (items_of ((c.instances f.of).brigades 8)) ≤ count (configuration g c f) n = return_counted n (configuration g c f) in
      let same : count_named n remaining ≡ count_named n (items_of ((c.instances f.of).brigades 8)) =
      count_map n (returned_bucket f.call.name) (λ x. refl) (items_of ((c.instances f.of).brigades 8)) in
      let given = resting_counted n in
      let all : sum_below (places chain) (λ k. count_at (upd back.1.instances w.of resting k) n) + count_at (back.1.instances w.of) n ≡ sum_below (places chain)
      (λ k. count_at (back.1.instances k) n) + count_at resting n =
      sum_below_upd (places chain) w.of back.1.instances resting (λ x. count_at x n) w_placed in
      omega arith

  returned_carried : (k b : ℕ) → Carried ((back.1.instances k).brigades b) ((upd back.1.instances w.of resting k).brigades b)
  returned_carried k b = elim (upd_either back.1.instances w.of k resting) [
    | inl p ↦ subst (λ (x : Instance). Carried ((back.1.instances k).brigades b) (x.brigades b)) (sym p.1) (subst (λ (m : ℕ). Carried ((back.1.instances m).brigades b) (resting.brigades b)) (sym p.0)
        (at_each Carried (back.1.instances w.of).brigades at (with_items remaining ((back.1.instances w.of).brigades at))
        (filled_carried remaining ((back.1.instances w.of).brigades at)) carried_same b))
    | inr p ↦ subst (λ (x : Instance). Carried ((back.1.instances k).brigades b) (x.brigades b)) (sym p.1) (carried_same ((back.1.instances k).brigades b))
  ] where
    at : ℕ
    at = passed_by (current caller w.pc)

  pub returned_to_names : ChainNames chain (returned_to caller status f w rest (g, c)).0 (returned_to caller status f w rest (g, c)).1
  unfolding returned_to put_back configuration
  returned_to_names =
      names_carried chain back.0 back.1 (returned_to caller status f w rest (g, c)).1 returned_carried
      (λ n. let few = returned_counted n in let once : count_in chain c n ≤ 1 = s.once n in omega arith)
      (λ n le. let few = returned_counted n in let none : count_in chain c n ≡ 0 = s.fresh n le in omega arith)
      back_names

-- The call of a handler begins, and no other is there.
pub called_names : (chain : List Program) (k : ℕ) (queue : List ℕ) (g : Common) (c : Connection) → g.next + 1 < 2 ^ 64 → ChainNames chain g c
    → ChainNames chain (called chain k queue (g, c)).0 (called chain k queue (g, c)).1
unfolding count_loose
called_names chain k queue g c limit s =
    chain_names_stay chain g c (called chain k queue (g, c)).0 (called chain k queue (g, c)).1
    (carried_names chain g c (called chain k queue (g, c)).0 (called chain k queue (g, c)).1 (λ j b. carried_same ((c.instances j).brigades b)) (λ n. fewer n) (omega arith) limit) s where
      fewer : (n : ℕ) → count_in chain (called chain k queue (g, c)).1 n ≤ count_in chain c n
      fewer n = fewer_loose chain c (called chain k queue (g, c)).1 n refl (let none : count_named n [] ≡ 0 = count_none n in omega arith)
