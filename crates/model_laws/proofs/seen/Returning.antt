-- A return: its instance rests, and all others see what others may do.
use Rattle.std.proofs.Common.{◌≡◌, ◌≢◌, ℕ, ◌+◌, ◌^◌, ◌<◌, ◌≤◌, Bool, true, false, cond, List, [], ◌∷◌, map, None, All, refl, ◌∙◌, ap, subst, arith, eq-eqb, ne_eqb}
use Rattle.std.proofs.lemmas.List.Elements.{All-head}
use Rattle.module_code.specs.declared.instr.Instr.TheVariants as instr
use Rattle.module_code.specs.declared.instr.Status.{Status}
use Rattle.module_code.specs.Program.{Program}
use Rattle.run_model.specs.declared.bucket.BrigadeVar.TheVariants as var
use Rattle.run_model.specs.declared.bucket.NamedBucket.{NamedBucket}
use Rattle.run_model.specs.Buckets.{returned_bucket}
use Rattle.run_model.specs.Chains.{Frame, Connection, Common, Linked, configuration, places, touched_bucket, touched_var, touched_instance, touched_frame, put_back, module_at, IsChain}
use Rattle.run_model.specs.Effects.{do_return, returned_var}
use Rattle.run_model.specs.Faults.{fault}
use Rattle.run_model.specs.Sound.{sum_below, count_named, count}
use Rattle.run_model.specs.State.{Configuration, Instance, items_of}
use Rattle.run_model.specs.Steps.{Choice, current, lacks_names}
use Rattle.run_model.specs.Steps.{answer_to}
use Rattle.run_model.proofs.Names.{count_map, returned_fewer}
use Rattle.run_model.proofs.Sums.{term_below, two_below}
use Rattle.model_laws.specs.ChainOrder.{has_call}
use Rattle.model_laws.specs.ChainSound.{count_at, count_loose, count_in, ChainSound, IsNested, AreNamed, IsFramePlaced}
use Rattle.model_laws.specs.Laws.{MayExecute}
use Rattle.model_laws.specs.OpenRuns.{Rests, Lasting, none_lasts, Execute, Returns, executed, Come, IsMove}
use Rattle.model_laws.proofs.EachItem.{mapped_each}
use Rattle.model_laws.proofs.StepBuckets.{IsProper, returned_proper}
use Rattle.model_laws.proofs.chains.Modules.{module_at_proper}
use Rattle.model_laws.proofs.chains.Names.{touched_at}
use Rattle.model_laws.proofs.chains.PutBack.{IsTop}
use Rattle.model_laws.proofs.chains.Stacks.{StandsOnTop, stands_on_top}
use Rattle.model_laws.proofs.chains.TopSteps.{top_step}
use Rattle.model_laws.proofs.chains.Views.{sound_top}
use Rattle.model_laws.proofs.seen.InPlace.{running, attempts, none_more, stack_of, rest_of}
use Rattle.model_laws.proofs.seen.Left.{waits_left, rest_left}
use Rattle.model_laws.proofs.seen.Reach.{ReachedAlone, go}
use Rattle.model_laws.proofs.seen.Seen.{AllWaitSeen, SeenRest, ChainSeen, resting}
use Rattle.model_laws.proofs.seen.Settle.{settle}

-- its call has ended
pub return_goes : (p : Program) (s : Status) (l : Lasting) (r : Configuration) → current p r.pc ≡ instr.Ret s → fault p r (instr.Ret s) ≡ None → lacks_names r (instr.Ret s) ≡ false
    → ReachedAlone p (running l r) → ReachedAlone p (record { phase = Rests; lasting = none_lasts; now = do_return r })
unfolding IsMove executed
return_goes p s l r is none last h =
    go p (running l r) (record { phase = Rests; lasting = none_lasts; now = do_return r }) (Execute None)
    (Returns s (map (returned_bucket r.call.name) (items_of (r.instance.brigades 8)))) h
    (refl, attempts p None (running l r) _ (Returns s (map (returned_bucket r.call.name) (items_of (r.instance.brigades 8)))) (instr.Ret s) is none last refl)

module _ (chain : List Program) (g : Common) (c : Connection) (f : Frame) (rest : List Frame) (chained : IsChain chain) (sound : ChainSound chain g c) (on_top : c.stack ≡ f ∷ rest)
    (s : Status) (is : current (module_at chain f.of) f.pc ≡ instr.Ret s) (may : MayExecute (module_at chain f.of) (configuration g c f) (instr.Ret s)) (seen : ChainSeen chain g c) where
  abbrev pub back : Linked
  back = put_back (instr.Ret s) f (do_return (configuration g c f)) [] rest (g, c)

  abbrev r : Configuration
  r = configuration g c f

  choice : Choice
  choice = record { answer = answer_to true; given = None }

  pub known : StandsOnTop chain g.next c.req c.queue f rest
  known = stands_on_top chain g c f rest on_top sound.calls

  top : (reached : ℕ → Bool) × IsTop reached chain g c (instr.Ret s) f (do_return r)
  top = top_step chain g c (module_at_proper chain chained) sound.pools f choice (instr.Ret s) may (sound_top chain g c f rest on_top sound)

  next : g.next ≤ (do_return r).shared.next
  unfolding configuration
  next = omega arith

  limit : (do_return r).shared.next < 2 ^ 64
  unfolding configuration
  limit = sound.names.limit

  waiting : List Frame
  waiting = map (touched_frame (touched_bucket r (instr.Ret s))) rest

  pub waits_back : AllWaitSeen chain back.0 back.1 (map (touched_frame (touched_bucket (configuration g c f) (instr.Ret s))) rest)
  unfolding AreNamed
  waits_back = waits_left chain g c f (instr.Ret s) (do_return r) chained sound top.0 top.1 [] rest next limit f rest (omega arith) known.nested known.named.2 (stack_of chain g c f rest on_top seen).1

  pub rests_back : (k : ℕ) → k < places chain → k ≢ f.of → has_call rest k ≡ false → SeenRest chain back.0 back.1 k
  rests_back k lt ne off = rest_left chain g c f (instr.Ret s) (do_return r) chained sound top.0 top.1 [] rest next limit k ne (rest_of chain g c f rest on_top seen k lt (none_more f rest k ne off))

  instance_back : back.1.instances f.of ≡ (do_return r).instance
  unfolding put_back
  instance_back = ap (λ (b : Bool). cond b (do_return r).instance (touched_instance (touched_var r (instr.Ret s)) (c.instances f.of))) (eq-eqb f.of f.of refl)

  returned : ReachedAlone (module_at chain f.of) (record { phase = Rests; lasting = none_lasts; now = do_return (configuration g c f) })
  unfolding configuration
  returned = return_goes (module_at chain f.of) s _ (configuration g c f) is may.faultless may.names_last (stack_of chain g c f rest on_top seen).0.reached

  -- what f sees then
  pub top_back : ReachedAlone (module_at chain f.of) (record { phase = Rests; lasting = none_lasts; now = configuration back.0 back.1 (resting f.of f.pc) })
  unfolding configuration put_back
  top_back = settle (module_at chain f.of) Rests none_lasts (do_return (configuration g c f)) (configuration back.0 back.1 (resting f.of f.pc)) tt instance_back refl refl (record {
    conn = refl;
    req = refl;
    pools = (sound.pools.sound f).formed;
    stay = λ n lasts. refl;
    rises = (omega arith, omega arith);
    limits = (sound.names.limit, (sound.pools.sound f).limit);
  }) returned

  pub vacant_back : (back.1.instances f.of).brigades 8 ≡ var.Null
  vacant_back = ap (λ (x : Instance). x.brigades 8) instance_back

  -- What the waiting call w is given.

  abbrev pub remaining : List NamedBucket
  remaining = map (returned_bucket f.call.name) (items_of ((configuration g c f).instance.brigades 8))

  counted : (w : Frame) (more : List Frame) → rest ≡ w ∷ more → (n : ℕ)
      → count (configuration back.0 back.1 (touched_frame (touched_bucket (configuration g c f) (instr.Ret s)) w)) n + count_named n remaining ≤ count_in chain c n
  unfolding configuration put_back count_in count_loose IsNested
  counted w more waits n =
      let nested : IsNested f (w ∷ more) = subst (IsNested f) waits known.nested in
      let placed : All (IsFramePlaced chain c.req) (w ∷ more) = subst (All (IsFramePlaced chain c.req)) waits known.below in
      let differ : w.of ≢ f.of = λ same. absurd (omega (arith, same, nested.0)) in
      let both : count_at (c.instances w.of) n + count_at (c.instances f.of) n ≤ sum_below (places chain) (λ j. count_at (c.instances j) n) =
      two_below (places chain) w.of f.of (λ j. count_at (c.instances j) n) (All-head (IsFramePlaced chain c.req) w more placed).of known.top.of differ in
      let held : count_named n (items_of ((c.instances f.of).brigades 8)) ≤ count_at (c.instances f.of) n = term_below 9 8 (λ d. count_named n (items_of ((c.instances f.of).brigades d))) (omega arith) in
      let same : count_named n remaining ≡ count_named n (items_of ((c.instances f.of).brigades 8)) = count_map n (returned_bucket f.call.name) (λ x. refl) (items_of ((c.instances f.of).brigades 8)) in
      let loose : count_named n (map (returned_bucket f.call.name) w.call.loose) ≡ count_named n w.call.loose = count_map n (returned_bucket f.call.name) (λ x. refl) w.call.loose in
      let fewer : count_at (touched_instance (returned_var f.call.name) (c.instances w.of)) n ≤ count_at (c.instances w.of) n = touched_at (returned_var f.call.name) (returned_fewer f.call.name) (c.instances w.of) n in
      let there : back.1.instances w.of ≡ touched_instance (returned_var f.call.name) (c.instances w.of) =
      ap (λ (b : Bool). cond b (do_return r).instance (touched_instance (touched_var r (instr.Ret s)) (c.instances w.of))) (ne_eqb w.of f.of differ) in
      let sum : count_at (back.1.instances w.of) n ≡ count_at (touched_instance (returned_var f.call.name) (c.instances w.of)) n = ap (λ (x : Instance). count_at x n) there in
      let stack : count_loose c.stack n ≡ count_named n f.call.loose + (count_named n w.call.loose + count_loose more n) = ap (λ (fs : List Frame). count_loose fs n) (on_top ∙ ap (λ (fs : List Frame). f ∷ fs) waits) in
      omega arith

  pub come_back : (w : Frame) (more : List Frame) → rest ≡ w ∷ more → Come (configuration back.0 back.1 (touched_frame (touched_bucket (configuration g c f) (instr.Ret s)) w)) g.next remaining
  unfolding configuration put_back
  come_back w more waits = record {
    kinds = mapped_each IsProper IsProper (returned_bucket f.call.name) (returned_proper f.call.name) (items_of ((c.instances f.of).brigades 8)) (sound.buckets.brigades f.of 8);
    once = λ n. (let few = counted w more waits n in let one : count_in chain c n ≤ 1 = sound.names.once n in omega arith);
    given = λ n le. (let few = counted w more waits n in let none : count_in chain c n ≡ 0 = sound.names.fresh n le in omega arith);
  }
