-- Beyond the chain there are no brigades, and a bucket of the chain is the only one of its name.
use Rattle.std.proofs.Common.{◌≡◌, ◌≢◌, ◌⊎◌, ℕ, ◌+◌, ◌<◌, ◌≤◌, Bool, true, false, ◌==◌, cond, List, [], ◌∷◌, length, Some, None, All, inl, inr, refl, sym, ◌∙◌, ap, subst, arith, eq-eqb}
use Rattle.std.proofs.lemmas.Bool.{cases_eq, cases_lt}
use Rattle.std.proofs.lemmas.List.Elements.{All-nil, All-cons, All-head, All-tail}
use Rattle.module_code.specs.declared.instr.Instr.{Instr}
use Rattle.module_code.specs.declared.instr.Instr.TheVariants as instr
use Rattle.module_code.specs.Program.{Program}
use Rattle.run_model.specs.declared.bucket.BrigadeVar.{BrigadeVar}
use Rattle.run_model.specs.declared.bucket.BrigadeVar.TheVariants as var
use Rattle.run_model.specs.declared.bucket.NamedBucket.{NamedBucket}
use Rattle.run_model.specs.BrigadeLists.{bucket_named}
use Rattle.module_code.specs.declared.instr.Status.{Status}
use Rattle.run_model.specs.Clearing.{cleared_var}
use Rattle.run_model.specs.Pools.{is_under}
use Rattle.run_model.specs.Chains.{Frame, Connection, Common, Linked, module_at, is_last, next_place, configuration, pools_of, touched_var, touched_instance, put_back, stepped_in, places, place_from}
use Rattle.run_model.specs.Effects.{do_pass, do_return}
use Rattle.run_model.specs.Indexed.{upd}
use Rattle.run_model.specs.Passing.{Reads, passed_to, returned_to, delivered, delivered_by, next_called, returned_from, proceeds}
use Rattle.run_model.specs.Sound.{sum_below, count_named}
use Rattle.run_model.specs.State.{Instance, Configuration, items_of}
use Rattle.run_model.specs.Steps.{Choice, answer_to}
use Rattle.run_model.specs.Turns.{begun, all_called}
use Rattle.run_model.proofs.EachBucket.{only_one}
use Rattle.run_model.proofs.Names.{count_none, count_cons}
use Rattle.run_model.proofs.CursorPlaces.{named_is}
use Rattle.run_model.proofs.Sums.{term_below, two_below}
use Rattle.run_model.proofs.Updates.{upd_off}
use Rattle.model_laws.proofs.CursorNames.{found_there}
use Rattle.model_laws.specs.ChainFiles.{OfEachBucket}
use Rattle.model_laws.specs.ChainSound.{count_at, count_loose, count_in, ChainNames, ChainSound, IsFramePlaced}
use Rattle.model_laws.proofs.chains.EachBucket.{LooseOf, no_calls, one_call}
use Rattle.model_laws.proofs.chains.EventTurns.{EventTurn, Stood, Went, Begun, Brought, FileTaken, Ended}
use Rattle.model_laws.proofs.chains.Modules.{next_in_chain, first_in_places}
use Rattle.model_laws.proofs.chains.Names.{left_either}
use Rattle.model_laws.proofs.chains.WorldKept.{AnyLength}

-- instances past the end of the chain have no brigades
abbrev pub NoneBeyond : List Program → Connection → Type 0
NoneBeyond chain c = (k b : ℕ) → places chain ≤ k → (c.instances k).brigades b ≡ var.Null

-- One name.

all_other : (P : NamedBucket → Type 0) (n : ℕ) (xs : List NamedBucket) → count_named n xs ≡ 0 → All (λ y. y.name ≡ n → P y) xs
all_other P n [] none = All-nil (λ y. y.name ≡ n → P y)
all_other P n (x ∷ xs) none =
    let both = count_cons n x xs in
    All-cons (λ y. y.name ≡ n → P y) x xs (λ same. absurd (let one : ◌≡◌ {A = ℕ} (cond (x.name == n) 1 0) 1 = ap (λ (t : Bool). cond t 1 0) (eq-eqb x.name n same) in omega arith))
    (all_other P n xs (omega arith))

module _ (chain : List Program) (g : Common) (c : Connection) (names : ChainNames chain g c) (beyond : NoneBeyond chain c) (j d n : ℕ) (z : NamedBucket) (placed : j < places chain)
    (there : bucket_named n (items_of ((c.instances j).brigades d)) ≡ Some z) where
  here : 1 ≤ count_named n (items_of ((c.instances j).brigades d))
  here = subst (λ (m : ℕ). 1 ≤ count_named m (items_of ((c.instances j).brigades d))) (named_is n (items_of ((c.instances j).brigades d)) z there)
      (found_there n z (items_of ((c.instances j).brigades d)) there)

  low : d < 9
  low = elim (cases_lt d 9) [
    | inl lt ↦ lt
    | inr le ↦ absurd (let none : count_named n (items_of ((c.instances j).brigades d)) ≡ 0 = ap (λ (v : BrigadeVar). count_named n (items_of v)) (names.slots j d le) ∙ count_none n in let some =
        here in omega arith)
  ]

  in_place : count_named n (items_of ((c.instances j).brigades d)) ≤ count_at (c.instances j) n
  in_place = term_below 9 d (λ b. count_named n (items_of ((c.instances j).brigades b))) low

  of_chain : count_at (c.instances j) n ≤ sum_below (places chain) (λ k. count_at (c.instances k) n)
  of_chain = term_below (places chain) j (λ k. count_at (c.instances k) n) placed

  total : sum_below (places chain) (λ k. count_at (c.instances k) n) + count_loose c.stack n ≤ 1
  unfolding count_in
  total = names.once n

  -- in another brigade there is none of this name
  elsewhere : (k b : ℕ) → (k ≢ j) ⊎ (b ≢ d) → count_named n (items_of ((c.instances k).brigades b)) ≡ 0
  elsewhere k b differ = elim (cases_lt k (places chain)) [
    | inr past ↦ ap (λ (v : BrigadeVar). count_named n (items_of v)) (beyond k b past) ∙ count_none n
    | inl inside ↦ elim (cases_lt b 9) [
      | inr past ↦ ap (λ (v : BrigadeVar). count_named n (items_of v)) (names.slots k b past) ∙ count_none n
      | inl slot ↦ (let some = here in let all = total in let first = in_place in let second = of_chain in
          let one : count_named n (items_of ((c.instances k).brigades b)) ≤ count_at (c.instances k) n = term_below 9 b (λ a. count_named n (items_of ((c.instances k).brigades a))) slot in
          elim (cases_eq k j) [
            | inr off ↦ (let both : count_at (c.instances k) n + count_at (c.instances j) n ≤ sum_below (places chain) (λ i. count_at (c.instances i) n) =
                two_below (places chain) k j (λ i. count_at (c.instances i) n) inside placed off in omega arith)
            | inl same ↦ elim differ [
              | inl off ↦ absurd (off same)
              | inr off ↦ (let both : count_named n (items_of ((c.instances k).brigades b)) + count_named n (items_of ((c.instances k).brigades d)) ≤ count_at (c.instances k) n =
                  two_below 9 b d (λ a. count_named n (items_of ((c.instances k).brigades a))) slot low off in
                  let is : count_at (c.instances k) n ≡ count_at (c.instances j) n = ap (λ (i : ℕ). count_at (c.instances i) n) same in
                  let too : count_named n (items_of ((c.instances k).brigades d)) ≡ count_named n (items_of ((c.instances j).brigades d)) =
                  ap (λ (i : ℕ). count_named n (items_of ((c.instances i).brigades d))) same in
                  omega arith)
            ]
          ])
    ]
  ]

  loose_none : (fs : List Frame) → count_loose fs n ≡ 0 → LooseOf (λ y. y.name ≡ n → y ≡ z) fs
  unfolding count_loose
  loose_none [] none = no_calls (λ y. y.name ≡ n → y ≡ z)
  loose_none (f ∷ fs) none = one_call (λ y. y.name ≡ n → y ≡ z) f fs (all_other (λ y. y ≡ z) n f.call.loose (omega arith)) (loose_none fs (omega arith))

  -- it is the only one of its name
  pub only_here : OfEachBucket (λ y. y.name ≡ n → y ≡ z) c
  only_here = record {
    brigades = λ k b. elim (cases_eq k j) [
      | inr off ↦ all_other (λ y. y ≡ z) n (items_of ((c.instances k).brigades b)) (elsewhere k b (inl off))
      | inl same ↦ elim (cases_eq b d) [
        | inr off ↦ all_other (λ y. y ≡ z) n (items_of ((c.instances k).brigades b)) (elsewhere k b (inr off))
        | inl too ↦
            subst (λ (i : ℕ). All (λ y. y.name ≡ n → y ≡ z) (items_of ((c.instances i).brigades b))) (sym same)
            (subst (λ (i : ℕ). All (λ y. y.name ≡ n → y ≡ z) (items_of ((c.instances j).brigades i))) (sym too)
            (λ q e lt. λ named. only_one n z (items_of ((c.instances j).brigades d)) there (let all = total in let first = in_place in let second = of_chain in omega arith) q e lt (eq-eqb _ n named)))
      ]
    ];
    loose = loose_none c.stack (let some = here in let all = total in let first = in_place in let second = of_chain in omega arith);
  }

-- Turns.

null_touched : (r : Configuration) (i : Instr) (v : BrigadeVar) → v ≡ var.Null → touched_var r i v ≡ var.Null
null_touched r i v is = ap (touched_var r i) is ∙ by_instruction i where
  by_instruction : (i : Instr) → touched_var r i var.Null ≡ var.Null
  by_instruction (instr.PClear q) = refl
  by_instruction (instr.PDestroy q) = refl
  by_instruction (instr.Ret s) = refl
  by_instruction i = refl

module _ (chain : List Program) (g : Common) (c : Connection) (f : Frame) (beyond : NoneBeyond chain c) (placed : f.of < places chain) where
  put_beyond : (i : Instr) (s : Configuration) (top rest : List Frame) → NoneBeyond chain (put_back i f s top rest (g, c)).1
  unfolding put_back
  put_beyond i s top rest k b past = elim (left_either f.of s.instance (touched_instance (touched_var (configuration g c f) i)) c.instances k) [
    | inl p ↦ absurd (omega (arith, p.0, past, placed))
    | inr p ↦ ap (λ (x : Instance). x.brigades b) p.1 ∙ null_touched (configuration g c f) i ((c.instances k).brigades b) (beyond k b past)
  ]

  stepped_beyond : (p : Program) (choice : Choice) (i : Instr) (rest : List Frame) → NoneBeyond chain (stepped_in p choice i f rest (g, c)).1
  unfolding stepped_in
  stepped_beyond p choice i rest = put_beyond i _ _ rest

  passed_beyond : (callee : Program) (to b : ℕ) (rest : List Frame) → to < places chain → NoneBeyond chain (passed_to callee to b f rest (g, c)).1
  unfolding passed_to
  passed_beyond callee to b rest next k d past =
      ap (λ (x : Instance). x.brigades d) (upd_off (upd c.instances f.of (do_pass b (configuration g c f)).instance) to k _ (λ e. absurd (omega (arith, e, past, next)))
      ∙ upd_off c.instances f.of k _ (λ e. absurd (omega (arith, e, past, placed)))) ∙ beyond k d past

  returned_beyond : (caller : Program) (s : Status) (w : Frame) (rest : List Frame) → w.of < places chain → NoneBeyond chain (returned_to caller s f w rest (g, c)).1
  unfolding returned_to
  returned_beyond caller s w rest waits k d past =
      ap (λ (x : Instance). x.brigades d) (upd_off _ w.of k _ (λ e. absurd (omega (arith, e, past, waits)))) ∙ put_beyond (instr.Ret s) (do_return (configuration g c f)) [] (w ∷ rest) k d past

  proceeds_beyond : (reads : Reads) (i : Instr) (rest : List Frame) → ((w : Frame) (more : List Frame) → rest ≡ w ∷ more → w.of < places chain)
      → NoneBeyond chain (proceeds chain reads i f rest (g, c)).1.1
  unfolding proceeds delivered_by returned_from
  proceeds_beyond reads (instr.Pass b l) rest waits = by_last (is_last chain c f.of) refl where
    by_last : (t : Bool) → is_last chain c f.of ≡ t
        → NoneBeyond chain (cond t (delivered_by (module_at chain f.of) reads b (instr.Pass b l) f rest (g, c)) (passed_to (module_at chain (next_place chain c f.of)) (next_place chain c f.of) b f rest (g, c))).1
    by_last true is = stepped_beyond (module_at chain f.of) (record { answer = answer_to (delivered c.out (items_of ((c.instances f.of).brigades b)) reads).1; given = None }) (instr.Pass b l) rest
    by_last false is = passed_beyond (module_at chain (next_place chain c f.of)) (next_place chain c f.of) b rest (let lt = next_in_chain chain c f.of is in omega arith)
  proceeds_beyond reads (instr.Ret s) [] waits = by_queue c.queue where
    by_queue : (queue : List ℕ) → NoneBeyond chain (next_called chain s queue (put_back (instr.Ret s) f (do_return (configuration g c f)) [] [] (g, c))).1.1
    by_queue [] = put_beyond (instr.Ret s) (do_return (configuration g c f)) [] []
    by_queue (k ∷ ks) = put_beyond (instr.Ret s) (do_return (configuration g c f)) [] []
  proceeds_beyond reads (instr.Ret s) (w ∷ rest) waits = returned_beyond (module_at chain w.of) s w rest (waits w rest refl)
  proceeds_beyond reads i rest waits = stepped_beyond (module_at chain f.of) (record { answer = answer_to true; given = reads 0 }) i rest

pub turn_beyond : (chain : List Program) (g : Common) (c : Connection) (v : Linked) → EventTurn chain AnyLength g c v → ChainSound chain g c → NoneBeyond chain c
    → NoneBeyond chain v.1
unfolding begun all_called
turn_beyond chain g c v (Stood out broken still) s h = h
turn_beyond chain g c v (Went reads f rest whole may) s h = proceeds_beyond chain g c f h (placed.of) reads _ rest (λ w more e. (waits w more e).of) where
  all : All (IsFramePlaced chain c.req) (f ∷ rest)
  all = subst (λ (fs : List Frame). All (IsFramePlaced chain c.req) fs) may.on_top s.calls.placed

  placed : IsFramePlaced chain c.req f
  placed = All-head (IsFramePlaced chain c.req) f rest all

  waits : (w : Frame) (more : List Frame) → rest ≡ w ∷ more → IsFramePlaced chain c.req w
  waits w more e = All-head (IsFramePlaced chain c.req) w more (subst (λ (fs : List Frame). All (IsFramePlaced chain c.req) fs) e (All-tail (IsFramePlaced chain c.req) f rest all))
turn_beyond chain g c v (Begun whole idle no_request pools next) s h = h
turn_beyond chain g c v (Brought pieces req whole idle is there next late) s h =
    λ k b past. (let inside = first_in_places chain c.instances in ap (λ (x : Instance). x.brigades b) (upd_off c.instances (place_from chain c.instances 0) k _ (λ e. absurd (omega (arith, e, past, inside)))) ∙ h k b past)
turn_beyond chain g c v (FileTaken req file bytes whole idle is short newer last) s h = h
turn_beyond chain g c v (Ended req whole idle is) s h = λ k b past. ap (cleared_var (is_under (pools_of g c) req)) (h k b past)
