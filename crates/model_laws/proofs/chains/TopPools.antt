-- The instruction of the call on top keeps the pools of a chain sound.
use Rattle.std.proofs.Common.{◌≡◌, ℕ, ◌+◌, Bool, true, false, cond, List, [], ◌∷◌, map, None, inl, inr, refl, sym, ◌∙◌, ap}
use Rattle.module_code.specs.declared.instr.Instr.{Instr}
use Rattle.module_code.specs.declared.instr.Instr.TheVariants as instr
use Rattle.module_code.specs.declared.instr.Status.{Status}
use Rattle.module_code.specs.Program.{Program, IsModule}
use Rattle.run_model.specs.declared.bucket.Brigade.{Brigade}
use Rattle.run_model.specs.declared.bucket.BrigadeVar.{BrigadeVar}
use Rattle.run_model.specs.declared.bucket.BrigadeVar.TheVariants as var
use Rattle.run_model.specs.declared.bucket.NamedBucket.{NamedBucket}
use Rattle.run_model.specs.declared.bucket.Mark.TheVariants.{Usable}
use Rattle.run_model.specs.Indexed.{upd}
use Rattle.run_model.specs.Buckets.{returned_bucket}
use Rattle.run_model.specs.State.{Instance, items_of, set_brigade}
use Rattle.run_model.specs.Effects.{do_pass, do_return, handed_over, with_items}
use Rattle.run_model.specs.Steps.{Choice, answer_to, current}
use Rattle.run_model.specs.Sound.{Sound}
use Rattle.model_laws.specs.Laws.{MayExecute}
use Rattle.run_model.specs.Chains.{Frame, Connection, Common, Linked, module_at, is_last, next_place, configuration, put_back, stepped_in}
use Rattle.run_model.specs.Passing.{Reads, delivered, delivered_by, handed_in, set_in, passed_to, passed_by, given_back, gone_on, returned_to, called, next_called, returned_from, passes, returns}
use Rattle.run_model.specs.Passing.{proceeds}
use Rattle.model_laws.specs.ChainSound.{ChainPools}
use Rattle.model_laws.specs.ChainLaws.{TopKeepsPools}
use Rattle.model_laws.proofs.BrigadePools.{handed_on, filled_on}
use Rattle.model_laws.proofs.chains.Modules.{module_at_proper}
use Rattle.model_laws.proofs.chains.Views.{sound_top}
use Rattle.model_laws.proofs.chains.PutBack.{put_back_pools}
use Rattle.model_laws.proofs.chains.TopSteps.{may_step, top_step}
use Rattle.model_laws.proofs.chains.Instances.{StaysInstance, one_instance, same_instances, one_brigade}

-- what is true of the pools of a connection, with what is shared
abbrev pub LinkedPools : List Program → Linked → Type 0
LinkedPools chain w = ChainPools chain w.0 w.1

no_pool : (v w : BrigadeVar) → w ≡ handed_in v → (x : Brigade) → w ≡ var.Live x → x.on ≡ None
no_pool var.Null w is x e = absurd (let no : var.Null ≡ var.Live x = sym is ∙ e in cc)
no_pool var.Gone w is x e = absurd (let no : var.Null ≡ var.Live x = sym is ∙ e in cc)
no_pool (var.Live v) w is x e =
    (let same : var.Live (record v { on = None; mark = Usable }) ≡ var.Live x = sym is ∙ e in let y : record v { on = None; mark = Usable } ≡ x = cc in ap (λ (z : Brigade). z.on) (sym y))

-- the handler of another module begins
pub called_pools : (chain : List Program) (k : ℕ) (queue : List ℕ) (w : Linked) → LinkedPools chain w → LinkedPools chain (called chain k queue w)
called_pools chain k queue w h = same_instances chain w.0 _ w.1 _ refl refl refl refl h

module _ (chain : List Program) (g : Common) (c : Connection) (proper : (k : ℕ) → IsModule (module_at chain k)) (h : ChainPools chain g c) (f : Frame) (sound : Sound (configuration g c f)) where
  stepped_pools : (choice : Choice) (i : Instr) (rest : List Frame) → MayExecute (module_at chain f.of) (configuration g c f) i
      → LinkedPools chain (stepped_in (module_at chain f.of) choice i f rest (g, c))
  unfolding stepped_in
  stepped_pools choice i rest may = (let t = top_step chain g c proper h f choice i may sound in put_back_pools t.0 chain g c i f _ _ rest t.1 h)

  delivered_pools : (reads : Reads) (b : ℕ) (i : Instr) (rest : List Frame) → MayExecute (module_at chain f.of) (configuration g c f) i
      → LinkedPools chain (delivered_by (module_at chain f.of) reads b i f rest (g, c))
  unfolding delivered_by
  delivered_pools reads b i rest may =
      same_instances chain _ _ _ _ refl refl refl refl (stepped_pools (record { answer = answer_to (delivered c.out (items_of ((c.instances f.of).brigades b)) reads).1; given = None }) i rest may)

  -- the brigade is marked, and it is the `in` of the next filter
  here : ℕ → ℕ → Instance
  here b = upd c.instances f.of (do_pass b (configuration g c f)).instance

  passed_instance : (b : ℕ) → StaysInstance (c.instances f.of) (do_pass b (configuration g c f)).instance
  unfolding set_brigade configuration
  passed_instance b = (let changed = one_brigade (c.instances f.of) b (handed_over ((c.instances f.of).brigades b)) (inl (handed_on ((c.instances f.of).brigades b))) in
      record { own = refl; brigades = changed.brigades })

  passed_pools : (callee : Program) (to b : ℕ) (rest : List Frame) → LinkedPools chain (passed_to callee to b f rest (g, c))
  unfolding passed_to here
  passed_pools callee to b rest =
      one_instance chain g _ (record c { instances = here b }) _ to (set_in (handed_in ((configuration g c f).instance.brigades b)) (here b to)) refl refl refl refl
      (one_brigade (here b to) 8 (handed_in ((configuration g c f).instance.brigades b)) (inr (refl, no_pool ((configuration g c f).instance.brigades b) _ refl)))
      (one_instance chain g g c (record c { instances = here b }) f.of (do_pass b (configuration g c f)).instance refl refl refl refl (passed_instance b) h)

  passes_pools : (reads : Reads) (b l : ℕ) (rest : List Frame) → MayExecute (module_at chain f.of) (configuration g c f) (instr.Pass b l)
      → LinkedPools chain (passes chain reads b (instr.Pass b l) f rest (g, c))
  passes_pools reads b l rest may = by_test (is_last chain c f.of) where
    by_test : (last : Bool) → LinkedPools chain (cond last (delivered_by (module_at chain f.of) reads b (instr.Pass b l) f rest (g, c)) (passed_to (module_at chain (next_place chain c f.of)) (next_place chain c f.of) b f rest (g, c)))
    by_test true = delivered_pools reads b (instr.Pass b l) rest may
    by_test false = passed_pools (module_at chain (next_place chain c f.of)) (next_place chain c f.of) b rest

  -- what a return leaves
  left_pools : (s : Status) (top rest : List Frame) → MayExecute (module_at chain f.of) (configuration g c f) (instr.Ret s)
      → LinkedPools chain (put_back (instr.Ret s) f (do_return (configuration g c f)) top rest (g, c))
  left_pools s top rest may =
      (let t = top_step chain g c proper h f (record { answer = answer_to true; given = None }) (instr.Ret s) may sound in put_back_pools t.0 chain g c (instr.Ret s) f _ top rest t.1 h)

  gone_on_pools : (s : Status) (i : Instr) (w : Frame) (left : List NamedBucket) (v : Linked) → LinkedPools chain v → LinkedPools chain (gone_on s i w left v)
  gone_on_pools s i w left v old =
      one_instance chain v.0 _ v.1 _ w.of (given_back (passed_by i) left (v.1.instances w.of)) refl refl refl refl
      (one_brigade (v.1.instances w.of) (passed_by i) (with_items left ((v.1.instances w.of).brigades (passed_by i))) (inl (filled_on left ((v.1.instances w.of).brigades (passed_by i))))) old

  returns_pools : (s : Status) (rest : List Frame) → MayExecute (module_at chain f.of) (configuration g c f) (instr.Ret s) → LinkedPools chain (returns chain s f rest (g, c)).1
  unfolding returned_from returned_to
  returns_pools s [] may = next_pools c.queue where
    next_pools : (queue : List ℕ) → LinkedPools chain (next_called chain s queue (put_back (instr.Ret s) f (do_return (configuration g c f)) [] [] (g, c))).1
    next_pools [] = left_pools s [] [] may
    next_pools (k ∷ ks) = called_pools chain k ks _ (left_pools s [] [] may)
  returns_pools s (w ∷ rest) may =
      gone_on_pools s (current (module_at chain w.of) w.pc) w (map (returned_bucket f.call.name) (items_of ((configuration g c f).instance.brigades 8))) _ (left_pools s [] (w ∷ rest) may)

  top_pools : (reads : Reads) (i : Instr) (rest : List Frame) → MayExecute (module_at chain f.of) (configuration g c f) i → LinkedPools chain (proceeds chain reads i f rest (g, c)).1
  unfolding proceeds
  top_pools reads (instr.Pass b l) rest may = passes_pools reads b l rest may
  top_pools reads (instr.Ret s) rest may = same_instances chain _ _ _ _ refl refl refl refl (returns_pools s rest may)
  top_pools reads i rest may = stepped_pools (record { answer = answer_to true; given = reads 0 }) i rest may

pub top_keeps_pools : TopKeepsPools
top_keeps_pools chain reads g c f rest may s =
    top_pools chain g c (module_at_proper chain may.chained) s.pools f (sound_top chain g c f rest may.on_top s) reads (current (module_at chain f.of) f.pc) rest (may_step chain g c f rest may s)
