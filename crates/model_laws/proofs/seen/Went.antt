-- The instruction of the call on top leaves what each instance sees reached by an open run.
use Rattle.std.proofs.Common.{◌≡◌, ℕ, ◌<◌, Bool, true, false, cond, List, [], ◌∷◌, length, None, All, refl, ◌∙◌, ap, subst, arith}
use Rattle.std.proofs.lemmas.List.Elements.{All-head}
use Rattle.module_code.specs.declared.instr.Instr.{Instr}
use Rattle.module_code.specs.declared.instr.Instr.TheVariants as instr
use Rattle.module_code.specs.declared.instr.Status.{Status}
use Rattle.module_code.specs.Program.{Program}
use Rattle.run_model.specs.Chains.{Frame, Connection, Common, Linked, configuration, is_last, next_place, put_back, stepped_in, module_at}
use Rattle.run_model.specs.Effects.{do_return}
use Rattle.run_model.specs.Passing.{Reads, delivered, delivered_by, passed_to, next_called, returned_from, returned_to, put_out_by, proceeds}
use Rattle.run_model.specs.State.{Out, items_of}
use Rattle.run_model.specs.Steps.{Choice, answer_to, current, is_spent}
use Rattle.run_model.specs.Turns.{calls_of}
use Rattle.model_laws.specs.ChainLaws.{MayProceed, after_top}
use Rattle.model_laws.specs.ChainSound.{ChainSound}
use Rattle.model_laws.specs.Laws.{MayExecute}
use Rattle.model_laws.proofs.StepNames.{not_spent}
use Rattle.model_laws.proofs.chains.Modules.{module_at_proper, next_later, next_in_chain}
use Rattle.model_laws.proofs.chains.PutBack.{looking}
use Rattle.model_laws.proofs.chains.TopSteps.{may_step}
use Rattle.model_laws.proofs.chains.TurnsSound.{marked_sound}
use Rattle.model_laws.proofs.seen.Handing.{handed_seen}
use Rattle.model_laws.proofs.seen.InPlace.{plain_goes, pass_goes, last_goes, placed_seen}
use Rattle.model_laws.proofs.seen.Resuming.{resumed_seen, ended_seen, next_seen}
use Rattle.model_laws.proofs.seen.Seen.{ChainSeen, seen_beside}

-- what is seen where what is left is sound
abbrev pub MaySee : List Program → Linked → Type 0
MaySee chain v = ChainSound chain v.0 v.1 → ChainSeen chain v.0 v.1

-- other output changes nothing
pub out_seen : (chain : List Program) (v : Linked) (out : Out) → MaySee chain v → MaySee chain (v.0, record v.1 { out = out })
unfolding configuration
out_seen chain v out see sound =
    let plain : ChainSound chain v.0 v.1 = marked_sound chain v.0 (record v.1 { out = out }) v.1 refl refl refl refl refl refl sound in
    let pools = plain.pools.sound (looking 0) in
    seen_beside chain v.0 v.0 v.1 (record { next = omega arith; pools = omega arith; limits = (plain.names.limit, pools.limit) }) pools.formed v.1.opened v.1.files out v.1.count v.1.broken (see plain)

module _ (chain : List Program) (reads : Reads) (g : Common) (c : Connection) (f : Frame) (rest : List Frame) (may : MayProceed chain g c f rest) (sound : ChainSound chain g c) (seen : ChainSeen chain g c) where
  abbrev p : Program
  p = module_at chain f.of

  abbrev MayDo : Instr → Type 0
  MayDo i = MayExecute p (configuration g c f) i

  -- the last filter's pass
  last_turn : (b l : ℕ) → current p f.pc ≡ instr.Pass b l → MayDo (instr.Pass b l) → MaySee chain (delivered_by p reads b (instr.Pass b l) f rest (g, c))
  unfolding delivered_by stepped_in configuration
  last_turn b l is able =
      let d = delivered c.out (items_of ((c.instances f.of).brigades b)) reads in
      let choice : Choice = record { answer = answer_to d.1; given = None } in
      out_seen chain (stepped_in p choice (instr.Pass b l) f rest (g, c)) d.0 (λ new.
      placed_seen chain g c f rest may.chained sound may.on_top (instr.Pass b l) able refl choice seen (λ s.
      last_goes p b l (answer_to d.1) _ (configuration g c f) (module_at_proper chain may.chained f.of) is
      (pass_goes p b l _ (configuration g c f) is able.faultless able.names_last s.reached)))

  pass_turn : (b l : ℕ) → current p f.pc ≡ instr.Pass b l → MayDo (instr.Pass b l) → is_spent g.next (calls_of (is_last chain c f.of) (instr.Pass b l) rest c.queue) ≡ false
      → MaySee chain (proceeds chain reads (instr.Pass b l) f rest (g, c)).1
  unfolding proceeds configuration
  pass_turn b l is able last = by_last (is_last chain c f.of) refl last where
    by_last : (t : Bool) → is_last chain c f.of ≡ t → is_spent g.next (cond t 0 1) ≡ false
        → MaySee chain (cond t (delivered_by p reads b (instr.Pass b l) f rest (g, c)) (passed_to (module_at chain (next_place chain c f.of)) (next_place chain c f.of) b f rest (g, c)))
    by_last true ends last = last_turn b l is able
    by_last false ends last = λ new.
        handed_seen chain g c f rest may.chained sound may.on_top b l (next_place chain c f.of) is able.faultless able.names_last (next_later chain c f.of)
        (let lt : next_place chain c f.of < length chain = next_in_chain chain c f.of ends in omega (arith, lt)) (not_spent g.next 1 last) new seen

  -- a return
  first_turn : (s : Status) → current p f.pc ≡ instr.Ret s → MayDo (instr.Ret s) → c.stack ≡ f ∷ [] → MaySee chain (returned_from chain s f (g, c)).1
  unfolding returned_from
  first_turn s is able on_top = by_queue c.queue refl where
    by_queue : (queue : List ℕ) → c.queue ≡ queue → MaySee chain (next_called chain s queue (put_back (instr.Ret s) f (do_return (configuration g c f)) [] [] (g, c))).1
    by_queue [] empty new = ended_seen chain g c f may.chained sound on_top s is able seen
    by_queue (k ∷ ks) more new =
        next_seen chain g c f may.chained sound on_top s is able seen k ks more
        (let lt : k < length chain = All-head (λ (j : ℕ). j < length chain) k ks (subst (All (λ (j : ℕ). j < length chain)) more sound.calls.queue) in omega (arith, lt)) new

  back_turn : (s : Status) → current p f.pc ≡ instr.Ret s → MayDo (instr.Ret s) → (fs : List Frame) → rest ≡ fs → MaySee chain (proceeds chain reads (instr.Ret s) f fs (g, c)).1
  unfolding proceeds
  back_turn s is able [] e = out_seen chain (returned_from chain s f (g, c)).1 (put_out_by chain reads f c).0 (first_turn s is able (may.on_top ∙ ap (λ (fs : List Frame). f ∷ fs) e))
  back_turn s is able (w ∷ more) e =
      out_seen chain (returned_to (module_at chain w.of) s f w more (g, c)) (put_out_by chain reads f c).0 (λ new.
      resumed_seen chain g c f w more may.chained sound (may.on_top ∙ ap (λ (fs : List Frame). f ∷ fs) e) s is able seen new)

  by_instruction : (i : Instr) → current p f.pc ≡ i → MayDo i → is_spent g.next (calls_of (is_last chain c f.of) i rest c.queue) ≡ false → MaySee chain (proceeds chain reads i f rest (g, c)).1
  unfolding proceeds stepped_in configuration
  by_instruction (instr.Pass b l) is able last = pass_turn b l is able last
  by_instruction (instr.Ret s) is able last = back_turn s is able rest refl
  by_instruction i is able last = λ new.
      placed_seen chain g c f rest may.chained sound may.on_top i able refl (record { answer = answer_to true; given = reads 0 }) seen (λ s.
      plain_goes p (reads 0) i refl _ (configuration g c f) is able.faultless able.names_last s.reached)

  pub went_seen : MaySee chain (after_top chain reads g c f rest)
  went_seen = by_instruction (current p f.pc) refl (may_step chain g c f rest may sound) may.calls_last
