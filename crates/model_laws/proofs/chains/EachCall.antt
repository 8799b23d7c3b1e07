-- What is true of each call of a chain, through every event, where each step keeps it. It may speak of the next name.
use Rattle.std.proofs.Common.{ℕ, ◌+◌, ◌≤◌, Bool, true, false, cond, List, [], ◌∷◌, map, None, All, sym, subst, arith}
use Rattle.std.proofs.lemmas.List.Elements.{All-nil, All-cons, All-head, All-tail}
use Rattle.module_code.specs.Program.{Program}
use Rattle.module_code.specs.declared.instr.Instr.{Instr}
use Rattle.module_code.specs.declared.instr.Instr.TheVariants as instr
use Rattle.run_model.specs.declared.bucket.NamedBucket.{NamedBucket}
use Rattle.run_model.specs.State.{Call, Configuration, fresh_call, items_of}
use Rattle.run_model.specs.Sound.{Sound}
use Rattle.run_model.specs.Effects.{do_return}
use Rattle.run_model.specs.Steps.{Choice, answer_to, current, step}
use Rattle.model_laws.specs.Laws.{MayExecute}
use Rattle.run_model.specs.Chains.{Frame, Connection, Common, Linked, module_at, is_last, next_place, configuration, touched_frame, put_back, stepped_in, place_from}
use Rattle.run_model.specs.Passing.{Reads, delivered, delivered_by, passed_to, returned_to, next_called, returned_from, proceeds}
use Rattle.run_model.specs.Turns.{all_called, opened, begun}
use Rattle.model_laws.specs.ChainSound.{ChainSound}
use Rattle.model_laws.proofs.Unchanged.{step_changes_only}
use Rattle.model_laws.proofs.chains.EventTurns.{EventTurn, Stood, Went, Begun, Brought, FileTaken, Ended}
use Rattle.model_laws.proofs.chains.Views.{sound_top}
use Rattle.model_laws.proofs.chains.WorldKept.{TurnsKeep, AnyLength}
use Rattle.model_laws.proofs.chains.TopSteps.{may_step}

-- T: what is true of a call, where this is the next name. fresh: of one that begins. risen: of one whose loose buckets others touch, while
-- names rise. stepped: of what a step leaves, where this is known of its instruction.
pub record KeepsCall (Ready : Program → Instr → Configuration → Type 0) (T : ℕ → Call → Type 0) : Type 0 where
  pub fresh : (n name : ℕ) → T n (fresh_call name)
  pub risen : (n m : ℕ) (call : Call) (items : List NamedBucket) → n ≤ m → T n call → T m (record call { loose = items })
  pub stepped : (p : Program) (choice : Choice) (i : Instr) (r : Configuration) → Ready p i r → T r.shared.next r.call → (let s = (step p choice i r).state in T s.shared.next s.call)

module _ (Ready : Program → Instr → Configuration → Type 0) (T : ℕ → Call → Type 0) (keeps : KeepsCall Ready T) where
  abbrev On : ℕ → List Frame → Type 0
  On n fs = All (λ f. T n f.call) fs

  no_call : (n : ℕ) → On n []
  no_call n = All-nil (λ (f : Frame). T n f.call)

  and_call : (n : ℕ) (f : Frame) (fs : List Frame) → T n f.call → On n fs → On n (f ∷ fs)
  and_call n f fs h hs = All-cons (λ (w : Frame). T n w.call) f fs h hs

  first_call : (n : ℕ) (f : Frame) (fs : List Frame) → On n (f ∷ fs) → T n f.call
  first_call n f fs h = All-head (λ (w : Frame). T n w.call) f fs h

  other_calls : (n : ℕ) (f : Frame) (fs : List Frame) → On n (f ∷ fs) → On n fs
  other_calls n f fs h = All-tail (λ (w : Frame). T n w.call) f fs h

  pub one_fresh : (n of name pc : ℕ) → On n ((record { of = of; call = fresh_call name; pc = pc }) ∷ [])
  one_fresh n of name pc = and_call n (record { of = of; call = fresh_call name; pc = pc }) [] (keeps.fresh n name) (no_call n)

  touched_on : (n m : ℕ) (change : NamedBucket → NamedBucket) (fs : List Frame) → n ≤ m → On n fs → On m (map (touched_frame change) fs)
  touched_on n m change [] le h = no_call m
  touched_on n m change (f ∷ fs) le h = and_call m (touched_frame change f) (map (touched_frame change) fs) (keeps.risen n m f.call (map change f.call.loose) le (first_call n f fs h))
      (touched_on n m change fs le (other_calls n f fs h))

  risen_on : (n m : ℕ) (fs : List Frame) → n ≤ m → On n fs → On m fs
  risen_on n m [] le h = no_call m
  risen_on n m (f ∷ fs) le h = and_call m f fs (keeps.risen n m f.call f.call.loose le (first_call n f fs h)) (risen_on n m fs le (other_calls n f fs h))

  abbrev Left : Linked → Type 0
  Left v = On v.0.next v.1.stack

  module _ (chain : List Program) (g : Common) (c : Connection) (f : Frame) (rest : List Frame) (h : On g.next (f ∷ rest)) where
    stepped_on : (choice : Choice) (i : Instr) → Ready (module_at chain f.of) i (configuration g c f) → Left (stepped_in (module_at chain f.of) choice i f rest (g, c))
    unfolding stepped_in put_back configuration
    stepped_on choice i may =
        let s = (step (module_at chain f.of) choice i (configuration g c f)).state in
        and_call s.shared.next _ _ (keeps.stepped (module_at chain f.of) choice i (configuration g c f) may (first_call g.next f rest h))
        (touched_on g.next s.shared.next _ rest (step_changes_only (module_at chain f.of) choice i (configuration g c f)).names (other_calls g.next f rest h))

    delivered_on : (reads : Reads) (b : ℕ) (i : Instr) → Ready (module_at chain f.of) i (configuration g c f) → Left (delivered_by (module_at chain f.of) reads b i f rest (g, c))
    unfolding delivered_by
    delivered_on reads b i may = stepped_on (record { answer = answer_to (delivered c.out (items_of ((c.instances f.of).brigades b)) reads).1; given = None }) i may

  pub proceeds_on : (chain : List Program) (reads : Reads) (i : Instr) (f : Frame) (rest : List Frame) (g : Common) (c : Connection)
      → Ready (module_at chain f.of) i (configuration g c f) → On g.next (f ∷ rest)
      → Left (proceeds chain reads i f rest (g, c)).1
  unfolding proceeds returned_from returned_to passed_to put_back configuration
  proceeds_on chain reads (instr.Pass b l) f rest g c may h = by_last (is_last chain c f.of) where
    by_last : (t : Bool) → Left (cond t (delivered_by (module_at chain f.of) reads b (instr.Pass b l) f rest (g, c)) (passed_to (module_at chain (next_place chain c f.of)) (next_place chain c f.of) b f rest (g, c)))
    by_last true = delivered_on chain g c f rest h reads b (instr.Pass b l) may
    by_last false = and_call (g.next + 1) _ (f ∷ rest) (keeps.fresh (g.next + 1) g.next) (risen_on g.next (g.next + 1) (f ∷ rest) (omega arith) h)
  proceeds_on chain reads (instr.Ret s) f [] g c may h = by_queue c.queue where
    by_queue : (queue : List ℕ) → Left (next_called chain s queue (put_back (instr.Ret s) f (do_return (configuration g c f)) [] [] (g, c))).1
    by_queue [] = no_call g.next
    by_queue (k ∷ ks) = one_fresh (g.next + 1) k g.next _
  proceeds_on chain reads (instr.Ret s) f (w ∷ rest) g c may h =
      let others = other_calls g.next f (w ∷ rest) h in
      let old = first_call g.next w rest others in
      and_call g.next _ _ (keeps.risen g.next g.next w.call _ (omega arith) old) (touched_on g.next g.next _ rest (omega arith) (other_calls g.next w rest others))
  proceeds_on chain reads i f rest g c may h = stepped_on chain g c f rest h _ i may

  pub opened_on : (chain : List Program) (g : Common) → Left (opened chain g)
  unfolding opened all_called
  opened_on chain g = one_fresh (g.next + 1) 0 g.next _

  pub begun_on : (chain : List Program) (g : Common) (c : Connection) → Left (begun chain (g, c))
  unfolding begun all_called
  begun_on chain g c = one_fresh (g.next + 1) 0 g.next _

-- What each turn keeps, where a call's instruction has no fault and what it sees is sound.
abbrev pub MayGo : Program → Instr → Configuration → Type 0
MayGo p i r = MayExecute p r i × Sound r

module _ (T : ℕ → Call → Type 0) (keeps : KeepsCall MayGo T) where
  abbrev pub EachCall : Common → Connection → Type 0
  EachCall g c = All (λ f. T g.next f.call) c.stack

  turn_calls : (chain : List Program) (g : Common) (c : Connection) (v : Linked) → EventTurn chain AnyLength g c v → ChainSound chain g c → EachCall g c → EachCall v.0 v.1
  turn_calls chain g c v (Stood out broken still) s h = h
  turn_calls chain g c v (Went reads f rest whole may) s h =
      proceeds_on MayGo T keeps chain reads (current (module_at chain f.of) f.pc) f rest g c
      (may_step chain g c f rest may s, sound_top chain g c f rest may.on_top s) (subst (λ (fs : List Frame). All (λ w. T g.next w.call) fs) may.on_top h)
  turn_calls chain g c v (Begun whole idle none pools next) s h = begun_on MayGo T keeps chain g c
  turn_calls chain g c v (Brought pieces req whole idle is there next late) s h = one_fresh MayGo T keeps _ (place_from chain c.instances 0) g.next _
  turn_calls chain g c v (FileTaken req file bytes whole idle is short newer last) s h = h
  turn_calls chain g c v (Ended req whole idle is) s h = subst (λ (fs : List Frame). All (λ w. T v.0.next w.call) fs) (sym idle) (All-nil (λ (f : Frame). T v.0.next f.call))

  pub each_call_kept : (chain : List Program) → TurnsKeep chain AnyLength EachCall
  each_call_kept chain = record {
    rising = λ g new c rises s h. risen_on MayGo T keeps g.next new.next c.stack rises.next h;
    opening = λ g has s. opened_on MayGo T keeps chain g;
    turns = λ g c v has t s new h. turn_calls chain g c v t s h;
  }
