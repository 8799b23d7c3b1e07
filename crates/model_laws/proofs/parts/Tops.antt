-- The instruction of the call on top of a chain does the same in the part of its connection and in the whole.
use Rattle.std.proofs.Common.{◌≡◌, ℕ, ◌+◌, Bool, true, false, cond, List, [], ◌∷◌, ◌++◌, map, Option, Some, None, ◌==◌, refl, ◌∙◌, ap}
use Rattle.std.proofs.Math.Path.{fun_ext}
use Rattle.module_code.specs.declared.instr.Instr.{Instr}
use Rattle.module_code.specs.declared.instr.Instr.TheVariants as instr
use Rattle.module_code.specs.declared.instr.PoolRef.TheVariants as pool
use Rattle.module_code.specs.declared.instr.Status.{Status}
use Rattle.module_code.specs.Program.{Program}
use Rattle.run_model.specs.declared.bucket.BrigadeVar.{BrigadeVar}
use Rattle.run_model.specs.declared.bucket.NamedBucket.{NamedBucket}
use Rattle.run_model.specs.declared.event.Stepped.{Stepped}
use Rattle.run_model.specs.Pools.{is_under}
use Rattle.run_model.specs.Buckets.{returned_bucket, cleared_bucket}
use Rattle.run_model.specs.Clearing.{cleared_var}
use Rattle.run_model.specs.State.{Configuration, Out, items_of, named_at, pool_named, set_brigade}
use Rattle.run_model.specs.Effects.{do_return}
use Rattle.run_model.specs.Faults.{fault}
use Rattle.run_model.specs.Steps.{Choice, Outcome, answer_to, step, current}
use Rattle.run_model.specs.Chains.{Frame, Connection, Common, Linked, module_at, is_last, next_place, configuration, common_after, parts_after, is_under_named, cleared_by, touched_var, touched_bucket}
use Rattle.run_model.specs.Chains.{touched_instance, touched_frame, put_back, led_to, stepped_in}
use Rattle.run_model.specs.Passing.{Reads, delivered, delivered_by, passed_to, gone_on, returned_to, next_called, returned_from, went, proceeds, put_out_by, answered_so, returns}
use Rattle.model_laws.specs.Parts.{part}
use Rattle.model_laws.specs.PartSteps.{in_part, LiesIn, linked_in_part, TopStaysInPart}
use Rattle.model_laws.proofs.StepPools.{wanted_pool}
use Rattle.model_laws.proofs.parts.Paths.{under_alike}
use Rattle.model_laws.proofs.parts.Steps.{wanted_under, steps_alike}

-- What a step touches of others.

reached_alike : (d : ℕ) (r : Configuration) → LiesIn d r → (o : Option ℕ) → ((n : ℕ) → o ≡ Some n → is_under r.shared.pools d n ≡ true)
    → is_under_named (part d r.shared.pools) o ≡ is_under_named r.shared.pools o
reached_alike d r s None under = refl
reached_alike d r s (Some n) under = fun_ext (λ m. under_alike r.shared.pools d n m s.has (under n refl))

cleared_alike : (d : ℕ) (p : Program) (r : Configuration) (q : ℕ) → LiesIn d r → fault p r (instr.PClear q) ≡ None → cleared_by (in_part d r) q ≡ cleared_by r q
unfolding named_at
cleared_alike d p r q s none = reached_alike d r s (pool_named r (pool.Own q)) (wanted_under d p r s (pool.Own q) (wanted_pool r (pool.Own q) None none))

vars_alike : (d : ℕ) (p : Program) (i : Instr) (r : Configuration) → LiesIn d r → fault p r i ≡ None → touched_var (in_part d r) i ≡ touched_var r i
vars_alike d p (instr.PClear q) r s none = ap (λ (reached : ℕ → Bool). cleared_var reached) (cleared_alike d p r q s none)
vars_alike d p (instr.PDestroy q) r s none = ap (λ (reached : ℕ → Bool). cleared_var reached) (cleared_alike d p r q s none)
vars_alike d p i r s none = refl

buckets_alike : (d : ℕ) (p : Program) (i : Instr) (r : Configuration) → LiesIn d r → fault p r i ≡ None → touched_bucket (in_part d r) i ≡ touched_bucket r i
buckets_alike d p (instr.PClear q) r s none = ap (λ (reached : ℕ → Bool). cleared_bucket reached) (cleared_alike d p r q s none)
buckets_alike d p (instr.PDestroy q) r s none = ap (λ (reached : ℕ → Bool). cleared_bucket reached) (cleared_alike d p r q s none)
buckets_alike d p i r s none = refl

module _ (d : ℕ) (chain : List Program) (i : Instr) (f : Frame) (g : Common) (c : Connection) (s : LiesIn d (configuration g c f))
    (none : fault (module_at chain f.of) (configuration g c f) i ≡ None) where
  -- What it leaves.
  left_alike : (left : Configuration) (top rest : List Frame) → put_back i f (in_part d left) top rest (linked_in_part d (g, c)) ≡ linked_in_part d (put_back i f left top rest (g, c))
  unfolding put_back configuration part
  left_alike left top rest =
      ap (λ (vars : BrigadeVar → BrigadeVar). put vars (touched_bucket (in_part d (configuration g c f)) i)) (vars_alike d (module_at chain f.of) i (configuration g c f) s none)
      ∙ ap (put (touched_var (configuration g c f) i)) (buckets_alike d (module_at chain f.of) i (configuration g c f) s none) where
        put : (BrigadeVar → BrigadeVar) → (NamedBucket → NamedBucket) → Linked
        put vars bucket = linked_in_part d (
          common_after left.shared g,
          record (parts_after left.shared c) {
            instances = λ k. cond (k == f.of) left.instance (touched_instance vars (c.instances k));
            stack = top ++ map (touched_frame bucket) rest;
            out = left.out;
          },
        )

  seen_alike : configuration (linked_in_part d (g, c)).0 (linked_in_part d (g, c)).1 f ≡ in_part d (configuration g c f)
  unfolding configuration part
  seen_alike = refl

  stepped_alike : (choice : Choice) (rest : List Frame)
      → stepped_in (module_at chain f.of) choice i f rest (linked_in_part d (g, c)) ≡ linked_in_part d (stepped_in (module_at chain f.of) choice i f rest (g, c))
  unfolding stepped_in
  stepped_alike choice rest =
      ap (λ (r : Configuration). put (step (module_at chain f.of) choice i r)) seen_alike
      ∙ (ap put (steps_alike d (module_at chain f.of) choice i (configuration g c f) s none)
      ∙ left_alike o.state (record { of = f.of; call = o.state.call; pc = led_to o.exit i f.pc } ∷ []) rest) where
        o : Outcome
        o = step (module_at chain f.of) choice i (configuration g c f)

        put : Outcome → Linked
        put w = put_back i f w.state (record { of = f.of; call = w.state.call; pc = led_to w.exit i f.pc } ∷ []) rest (linked_in_part d (g, c))

  delivered_alike : (reads : Reads) (b : ℕ) (rest : List Frame)
      → delivered_by (module_at chain f.of) reads b i f rest (linked_in_part d (g, c)) ≡ linked_in_part d (delivered_by (module_at chain f.of) reads b i f rest (g, c))
  unfolding delivered_by
  delivered_alike reads b rest = ap put (stepped_alike (record { answer = answer_to told.1; given = None }) rest) where
    told : Out × Bool
    told = delivered c.out (items_of ((c.instances f.of).brigades b)) reads

    put : Linked → Linked
    put v = (v.0, record v.1 { out = told.0 })

  passed_alike : (callee : Program) (to b : ℕ) (rest : List Frame) → passed_to callee to b f rest (linked_in_part d (g, c)) ≡ linked_in_part d (passed_to callee to b f rest (g, c))
  unfolding passed_to configuration set_brigade
  passed_alike callee to b rest = refl

abbrev InPart : ℕ → Stepped × Linked → Stepped × Linked
InPart d a = (a.0, linked_in_part d a.1)

called_alike : (d : ℕ) (chain : List Program) (s : Status) (queue : List ℕ) (v : Linked) → next_called chain s queue (linked_in_part d v) ≡ InPart d (next_called chain s queue v)
called_alike d chain s [] v = refl
called_alike d chain s (k ∷ ks) v = refl

module _ (d : ℕ) (chain : List Program) (s : Status) (f : Frame) (g : Common) (c : Connection) (lies : LiesIn d (configuration g c f))
    (none : fault (module_at chain f.of) (configuration g c f) (instr.Ret s) ≡ None) where
  ended_alike : returned_from chain s f (linked_in_part d (g, c)) ≡ InPart d (returned_from chain s f (g, c))
  unfolding returned_from
  ended_alike =
      ap (λ (r : Configuration). next_called chain s c.queue (put_back (instr.Ret s) f (do_return r) [] [] (linked_in_part d (g, c)))) (seen_alike d chain (instr.Ret s) f g c lies none)
      ∙ (ap (next_called chain s c.queue) (left_alike d chain (instr.Ret s) f g c lies none (do_return (configuration g c f)) [] [])
      ∙ called_alike d chain s c.queue (put_back (instr.Ret s) f (do_return (configuration g c f)) [] [] (g, c)))

  returned_alike : (w : Frame) (rest : List Frame) → returned_to (module_at chain w.of) s f w rest (linked_in_part d (g, c)) ≡ linked_in_part d (returned_to (module_at chain w.of) s f w rest (g, c))
  unfolding returned_to configuration put_back part
  returned_alike w rest =
      ap (gone_on s (current (module_at chain w.of) w.pc) w (map (returned_bucket f.call.name) (items_of ((c.instances f.of).brigades 8))))
      (left_alike d chain (instr.Ret s) f g c lies none (do_return (configuration g c f)) [] (w ∷ rest))

pub top_alike : TopStaysInPart
unfolding proceeds put_out_by
top_alike d chain reads (instr.Pass b l) f rest g c s none = by_last (is_last chain c f.of) where
  by_last : (t : Bool)
      → went (cond t (delivered_by (module_at chain f.of) reads b (instr.Pass b l) f rest (linked_in_part d (g, c))) (passed_to (module_at chain (next_place chain c f.of)) (next_place chain c f.of) b f rest (linked_in_part d (g, c))))
      ≡ InPart d (went (cond t (delivered_by (module_at chain f.of) reads b (instr.Pass b l) f rest (g, c)) (passed_to (module_at chain (next_place chain c f.of)) (next_place chain c f.of) b f rest (g, c))))
  by_last true = ap went (delivered_alike d chain (instr.Pass b l) f g c s none reads b rest)
  by_last false = ap went (passed_alike d chain (instr.Pass b l) f g c s none (module_at chain (next_place chain c f.of)) (next_place chain c f.of) b rest)
top_alike d chain reads (instr.Ret st) f rest g c s none = ap told (by_rest rest) where
  told : Stepped × Linked → Stepped × Linked
  told a = (answered_so (put_out_by chain reads f c).1 a.0, (a.1.0, record a.1.1 { out = (put_out_by chain reads f c).0 }))

  by_rest : (rest : List Frame) → returns chain st f rest (linked_in_part d (g, c)) ≡ InPart d (returns chain st f rest (g, c))
  by_rest [] = ended_alike d chain st f g c s none
  by_rest (w ∷ rest) = ap went (returned_alike d chain st f g c s none w rest)
top_alike d chain reads i f rest g c s none = ap went (stepped_alike d chain i f g c s none (record { answer = answer_to true; given = reads 0 }) rest)
