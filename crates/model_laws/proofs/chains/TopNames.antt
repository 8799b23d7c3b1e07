-- The instruction of the call on top keeps names single.
use Rattle.std.proofs.Common.{◌≡◌, ℕ, ◌+◌, ◌<◌, Bool, true, false, cond, List, [], ◌∷◌, length, None, All, refl, subst, arith}
use Rattle.std.proofs.lemmas.List.Elements.{All-head, All-tail}
use Rattle.module_code.specs.declared.instr.Instr.{Instr}
use Rattle.module_code.specs.declared.instr.Instr.TheVariants as instr
use Rattle.module_code.specs.declared.instr.Status.{Status}
use Rattle.module_code.specs.Program.{Program}
use Rattle.run_model.specs.State.{items_of}
use Rattle.run_model.specs.Effects.{do_return}
use Rattle.run_model.specs.Steps.{Choice, answer_to, current, is_spent, step}
use Rattle.model_laws.specs.Laws.{MayExecute}
use Rattle.run_model.specs.Chains.{Frame, Connection, Common, Linked, module_at, is_last, next_place, configuration, led_to, put_back, stepped_in, places}
use Rattle.run_model.specs.Passing.{Reads, delivered, delivered_by, passed_to, next_called, returned_from, proceeds}
use Rattle.run_model.specs.Turns.{calls_of}
use Rattle.model_laws.specs.ChainSound.{count_loose, ChainNames, ChainSound, IsFramePlaced}
use Rattle.model_laws.specs.ChainLaws.{TopKeepsNames}
use Rattle.model_laws.proofs.StepNames.{not_spent, return_names, step_gives}
use Rattle.model_laws.proofs.chains.Modules.{next_later, next_in_chain}
use Rattle.model_laws.proofs.chains.Names.{chain_names_stay, same_names, put_back_names}
use Rattle.model_laws.proofs.chains.TopSteps.{may_step}
use Rattle.model_laws.proofs.chains.PassNames.{passed_to_names, returned_to_names, called_names}

-- The instruction on top.

-- the call on top is of a module of the chain, and so is the one that waits for it
pub top_placed : (chain : List Program) (g : Common) (c : Connection) (f : Frame) (rest : List Frame) → c.stack ≡ f ∷ rest → ChainSound chain g c → All (IsFramePlaced chain c.req) (f ∷ rest)
top_placed chain g c f rest is s = subst (λ (fs : List Frame). All (IsFramePlaced chain c.req) fs) is s.calls.placed

abbrev pub NamesOf : List Program → Linked → Type 0
NamesOf chain v = ChainNames chain v.0 v.1

-- What it leaves.

pub stepped_names : (chain : List Program) (choice : Choice) (i : Instr) (f : Frame) (rest : List Frame) (g : Common) (c : Connection)
    → MayExecute (module_at chain f.of) (configuration g c f) i → c.stack ≡ f ∷ rest → f.of < places chain → ChainNames chain g c
    → NamesOf chain (stepped_in (module_at chain f.of) choice i f rest (g, c))
unfolding stepped_in count_loose
stepped_names chain choice i f rest g c may is placed s =
    let o = step (module_at chain f.of) choice i (configuration g c f) in
    let top = record f { call = o.state.call; pc = led_to o.exit i f.pc } ∷ [] in
    let v = put_back i f o.state top rest (g, c) in
    chain_names_stay chain g c v.0 v.1 (put_back_names chain i f o.state top rest g c is placed (step_gives (module_at chain f.of) choice i (configuration g c f) may) (λ n. omega arith)) s

pub delivered_names : (chain : List Program) (reads : Reads) (b : ℕ) (i : Instr) (f : Frame) (rest : List Frame) (g : Common) (c : Connection)
    → MayExecute (module_at chain f.of) (configuration g c f) i → c.stack ≡ f ∷ rest → f.of < places chain → ChainNames chain g c
    → NamesOf chain (delivered_by (module_at chain f.of) reads b i f rest (g, c))
unfolding delivered_by
delivered_names chain reads b i f rest g c may is placed s =
    let d = delivered c.out (items_of ((c.instances f.of).brigades b)) reads in
    let choice : Choice = record { answer = answer_to d.1; given = None } in
    let v = stepped_in (module_at chain f.of) choice i f rest (g, c) in
    same_names chain v.0 v.1 (record v.1 { out = d.0 }) refl refl (stepped_names chain choice i f rest g c may is placed s)

-- The first call returns, and the next handler is called, if there is one.
pub returned_from_names : (chain : List Program) (status : Status) (f : Frame) (g : Common) (c : Connection) → c.stack ≡ f ∷ [] → f.of < places chain
    → is_spent g.next (calls_of (is_last chain c f.of) (instr.Ret status) [] c.queue) ≡ false → ChainNames chain g c → NamesOf chain (returned_from chain status f (g, c)).1
unfolding returned_from configuration put_back count_loose
returned_from_names chain status f g c is placed last s = by_queue c.queue last where
  back : Linked
  back = put_back (instr.Ret status) f (do_return (configuration g c f)) [] [] (g, c)

  left : ChainNames chain back.0 back.1
  left = chain_names_stay chain g c back.0 back.1
      (put_back_names chain (instr.Ret status) f (do_return (configuration g c f)) [] [] g c is placed (return_names (configuration g c f) s.limit) (λ n. omega arith)) s

  by_queue : (queue : List ℕ) → is_spent g.next (calls_of (is_last chain c f.of) (instr.Ret status) [] queue) ≡ false → NamesOf chain (next_called chain status queue back).1
  by_queue [] last = left
  by_queue (k ∷ ks) last = called_names chain k ks back.0 back.1 (not_spent g.next 1 last) left

proceeds_names : (chain : List Program) (reads : Reads) (i : Instr) (f : Frame) (rest : List Frame) (g : Common) (c : Connection)
    → MayExecute (module_at chain f.of) (configuration g c f) i → is_spent g.next (calls_of (is_last chain c f.of) i rest c.queue) ≡ false → c.stack ≡ f ∷ rest
    → All (IsFramePlaced chain c.req) (f ∷ rest) → ChainNames chain g c → NamesOf chain (proceeds chain reads i f rest (g, c)).1
unfolding proceeds
proceeds_names chain reads (instr.Pass b l) f rest g c may last is placed s = by_last (is_last chain c f.of) refl last where
  by_last : (t : Bool) → is_last chain c f.of ≡ t → is_spent g.next (cond t 0 1) ≡ false
      → NamesOf chain (cond t (delivered_by (module_at chain f.of) reads b (instr.Pass b l) f rest (g, c)) (passed_to (module_at chain (next_place chain c f.of)) (next_place chain c f.of) b f rest (g, c)))
  by_last true here last = delivered_names chain reads b (instr.Pass b l) f rest g c may is (All-head (IsFramePlaced chain c.req) f rest placed).of s
  by_last false here last = passed_to_names chain (module_at chain (next_place chain c f.of)) (next_place chain c f.of) b f rest g c is (next_later chain c f.of) (let lt = next_in_chain chain c f.of here in omega arith) (not_spent g.next 1 last) s
proceeds_names chain reads (instr.Ret status) f [] g c may last is placed s = same_names chain _ _ _ refl refl (returned_from_names chain status f g c is (All-head (IsFramePlaced chain c.req) f [] placed).of last s)
proceeds_names chain reads (instr.Ret status) f (w ∷ rest) g c may last is placed s =
    same_names chain _ _ _ refl refl (returned_to_names chain (module_at chain w.of) status f w rest g c is (All-head (IsFramePlaced chain c.req) f (w ∷ rest) placed).of
    (All-head (IsFramePlaced chain c.req) w rest (All-tail (IsFramePlaced chain c.req) f (w ∷ rest) placed)).of s)
proceeds_names chain reads i f rest g c may last is placed s = stepped_names chain _ i f rest g c may is (All-head (IsFramePlaced chain c.req) f rest placed).of s

pub top_keeps_names : TopKeepsNames
top_keeps_names chain reads g c f rest may s =
    let placed = top_placed chain g c f rest may.on_top s in
    proceeds_names chain reads (current (module_at chain f.of) f.pc) f rest g c (may_step chain g c f rest may s) may.calls_last may.on_top placed s.names
