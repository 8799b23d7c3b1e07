-- Which pools the variables of a connection name after an event: those that they named before, and new ones.
use Rattle.std.proofs.Common.{◌≡◌, ◌⊎◌, ℕ, ◌+◌, ◌≤◌, ◌==◌, Bool, true, false, cond, List, [], ◌∷◌, None, inl, inr, refl, sym, ◌∙◌, ap, subst, arith, eqb-true}
use Rattle.module_code.specs.declared.instr.Instr.{Instr}
use Rattle.module_code.specs.declared.instr.Instr.TheVariants as instr
use Rattle.module_code.specs.declared.instr.Status.{Status}
use Rattle.module_code.specs.Program.{Program}
use Rattle.run_model.specs.declared.bucket.PoolVar.{PoolVar}
use Rattle.run_model.specs.declared.bucket.PoolVar.TheVariants as poolvar
use Rattle.run_model.specs.Indexed.{upd}
use Rattle.run_model.specs.Pools.{created}
use Rattle.run_model.specs.State.{Configuration, Instance, items_of, set_brigade, set_pool, with_pools}
use Rattle.run_model.specs.Effects.{do_pass, do_return}
use Rattle.run_model.specs.Steps.{Choice, answer_to, current, step}
use Rattle.run_model.specs.Chains.{Frame, Connection, Common, Linked, configuration, is_last, next_place, module_at, put_back, stepped_in, touched_instance, touched_var, place_from}
use Rattle.run_model.specs.Passing.{Reads, delivered, delivered_by, next_called, passed_to, proceeds, returned_from, returned_to}
use Rattle.run_model.specs.Turns.{all_called, begun}
use Rattle.run_model.proofs.Updates.{upd_either}
use Rattle.model_laws.proofs.NamedPools.{made_under_named}
use Rattle.model_laws.proofs.Unchanged.{step_changes_only}
use Rattle.model_laws.proofs.chains.EventTurns.{EventTurn, Stood, Went, Begun, Brought, FileTaken, Ended}
use Rattle.model_laws.proofs.chains.WorldKept.{AnyLength}

-- what an instance names then it named before, or it is new
abbrev OwnsFrom : ℕ → (ℕ → PoolVar) → (ℕ → PoolVar) → Type 0
OwnsFrom next old new = (q n : ℕ) → new q ≡ poolvar.Made n → (old q ≡ poolvar.Made n) ⊎ (next ≤ n)

same_owns : (next : ℕ) (old new : ℕ → PoolVar) → new ≡ old → OwnsFrom next old new
same_owns next old new same q n is = inl (ap (λ (own : ℕ → PoolVar). own q) (sym same) ∙ is)

-- Steps.

abbrev Owns : Configuration → Configuration → Type 0
Owns r s = OwnsFrom r.shared.pools.next r.instance.pools s.instance.pools

made_owns : (r s : Configuration) (q : ℕ) → s.instance.pools ≡ upd r.instance.pools q (poolvar.Made r.shared.pools.next) → Owns r s
made_owns r s q same k n is = elim (upd_either r.instance.pools q k (poolvar.Made r.shared.pools.next)) [
  | inl at ↦ inr (let new : r.shared.pools.next ≡ n = made_same r.shared.pools.next n (sym at.1 ∙ ap (λ (own : ℕ → PoolVar). own k) (sym same) ∙ is) in omega (arith, new))
  | inr off ↦ inl (sym off.1 ∙ ap (λ (own : ℕ → PoolVar). own k) (sym same) ∙ is)
] where
  made_same : (a b : ℕ) → poolvar.Made a ≡ poolvar.Made b → a ≡ b
  made_same a b e = cc

step_owns : (p : Program) (choice : Choice) (i : Instr) (r : Configuration) → Owns r (step p choice i r).state
unfolding set_pool with_pools
step_owns p choice (instr.PCreate q) r = made_under_named (Owns r) p q r (same_owns r.shared.pools.next r.instance.pools r.instance.pools refl)
    (λ parent e. made_owns r (set_pool q (poolvar.Made r.shared.pools.next) (with_pools (created parent r.shared.pools) r)) q refl)
step_owns p choice i r = λ q n is. inl (sym ((step_changes_only p choice i r).pools q refl) ∙ is)

-- Connections.

abbrev pub NamesFrom : Common → Connection → Linked → Type 0
NamesFrom g c v = (k q n : ℕ) → (v.1.instances k).pools q ≡ poolvar.Made n → ((c.instances k).pools q ≡ poolvar.Made n) ⊎ (g.pools ≤ n)

-- the variables of each instance name what they did
same_names : (g : Common) (c : Connection) (v : Linked) → ((k : ℕ) → (v.1.instances k).pools ≡ (c.instances k).pools) → NamesFrom g c v
same_names g c v same k = same_owns g.pools (c.instances k).pools (v.1.instances k).pools (same k)

-- one instance changes, and names what it did
set_names : (old : ℕ → Instance) (at : ℕ) (x : Instance) → x.pools ≡ (old at).pools → (k : ℕ) → (upd old at x k).pools ≡ (old k).pools
set_names old at x same k = elim (upd_either old at k x) [
  | inl here ↦ ap (λ (y : Instance). y.pools) here.1 ∙ same ∙ ap (λ (j : ℕ). (old j).pools) (sym here.0)
  | inr off ↦ ap (λ (y : Instance). y.pools) off.1
]

module _ (chain : List Program) (f : Frame) (rest : List Frame) (g : Common) (c : Connection) where
  put_back_names : (i : Instr) (s : Configuration) (top waiting : List Frame) → OwnsFrom g.pools (c.instances f.of).pools s.instance.pools → NamesFrom g c (put_back i f s top waiting (g, c))
  unfolding put_back
  put_back_names i s top waiting owns k = by_test (k == f.of) refl where
    by_test : (b : Bool) → (k == f.of) ≡ b → OwnsFrom g.pools (c.instances k).pools (cond b s.instance (touched_instance (touched_var (configuration g c f) i) (c.instances k))).pools
    by_test true is = subst (λ (j : ℕ). OwnsFrom g.pools (c.instances j).pools s.instance.pools) (sym (eqb-true k f.of is)) owns
    by_test false off = same_owns g.pools (c.instances k).pools (c.instances k).pools refl

  stepped_names : (p : Program) (choice : Choice) (i : Instr) → NamesFrom g c (stepped_in p choice i f rest (g, c))
  unfolding stepped_in configuration
  stepped_names p choice i = put_back_names i (step p choice i (configuration g c f)).state _ rest (step_owns p choice i (configuration g c f))

  delivered_names : (p : Program) (reads : Reads) (b : ℕ) (i : Instr) → NamesFrom g c (delivered_by p reads b i f rest (g, c))
  unfolding delivered_by
  delivered_names p reads b i = stepped_names p (record { answer = answer_to (delivered c.out (items_of ((c.instances f.of).brigades b)) reads).1; given = None }) i

  passed_names : (callee : Program) (to b : ℕ) → NamesFrom g c (passed_to callee to b f rest (g, c))
  unfolding passed_to set_brigade configuration
  passed_names callee to b = same_names g c (passed_to callee to b f rest (g, c)) (λ k.
      set_names (upd c.instances f.of (do_pass b (configuration g c f)).instance) to _ refl k
      ∙ set_names c.instances f.of (do_pass b (configuration g c f)).instance refl k)

  left_names : (s : Status) (top waiting : List Frame) → NamesFrom g c (put_back (instr.Ret s) f (do_return (configuration g c f)) top waiting (g, c))
  unfolding configuration
  left_names s top waiting = put_back_names (instr.Ret s) (do_return (configuration g c f)) top waiting (same_owns g.pools (c.instances f.of).pools (c.instances f.of).pools refl)

  ended_names : (s : Status) → NamesFrom g c (returned_from chain s f (g, c)).1
  unfolding returned_from
  ended_names s = by_queue c.queue where
    by_queue : (queue : List ℕ) → NamesFrom g c (next_called chain s queue (put_back (instr.Ret s) f (do_return (configuration g c f)) [] [] (g, c))).1
    by_queue [] = left_names s [] []
    by_queue (k ∷ ks) = left_names s [] []

  returned_names : (caller : Program) (s : Status) (w : Frame) → NamesFrom g c (returned_to caller s f w rest (g, c))
  unfolding returned_to
  returned_names caller s w k q n is = left_names s [] (w ∷ rest) k q n (sym (ap (λ (own : ℕ → PoolVar). own q) (set_names _ w.of _ refl k)) ∙ is)

top_names : (chain : List Program) (reads : Reads) (i : Instr) (f : Frame) (rest : List Frame) (g : Common) (c : Connection) → NamesFrom g c (proceeds chain reads i f rest (g, c)).1
unfolding proceeds
top_names chain reads (instr.Pass b l) f rest g c = by_last (is_last chain c f.of) where
  by_last : (t : Bool) → NamesFrom g c (cond t (delivered_by (module_at chain f.of) reads b (instr.Pass b l) f rest (g, c)) (passed_to (module_at chain (next_place chain c f.of)) (next_place chain c f.of) b f rest (g, c)))
  by_last true = delivered_names chain f rest g c (module_at chain f.of) reads b (instr.Pass b l)
  by_last false = passed_names chain f rest g c (module_at chain (next_place chain c f.of)) (next_place chain c f.of) b
top_names chain reads (instr.Ret s) f [] g c = ended_names chain f [] g c s
top_names chain reads (instr.Ret s) f (w ∷ rest) g c = returned_names chain f rest g c (module_at chain w.of) s w
top_names chain reads i f rest g c = stepped_names chain f rest g c (module_at chain f.of) (record { answer = answer_to true; given = reads 0 }) i

-- After an event a variable names what it named, or a new pool.
pub turn_names : (chain : List Program) (g : Common) (c : Connection) (v : Linked) → EventTurn chain AnyLength g c v → NamesFrom g c v
unfolding begun all_called
turn_names chain g c v (Stood out broken still) = same_names g c v (λ k. refl)
turn_names chain g c v (Went reads f rest whole may) = top_names chain reads (current (module_at chain f.of) f.pc) f rest g c
turn_names chain g c v (Begun whole idle none pools next) = same_names g c v (λ k. refl)
turn_names chain g c v (Brought pieces req whole idle is there next late) = same_names g c v (set_names c.instances (place_from chain c.instances 0) _ refl)
turn_names chain g c v (FileTaken req file bytes whole idle is short newer last) = same_names g c v (λ k. refl)
turn_names chain g c v (Ended req whole idle is) = same_names g c v (λ k. refl)
