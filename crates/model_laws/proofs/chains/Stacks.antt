-- Stacks of calls: what stays where loose buckets change, and what makes a stack sound.
use Rattle.std.proofs.Common.{◌≡◌, ◌≢◌, ℕ, ◌<◌, ◌≤◌, List, [], ◌∷◌, map, length, Option, All, refl, sym, ◌∙◌, ap, subst, arith}
use Rattle.std.proofs.lemmas.List.Elements.{All-nil, All-cons, All-head, All-tail, All-map}
use Rattle.module_code.specs.Program.{Program}
use Rattle.run_model.specs.declared.bucket.NamedBucket.{NamedBucket}
use Rattle.run_model.specs.Chains.{Frame, Connection, Common, module_at, touched_frame}
use Rattle.model_laws.specs.ChainSound.{IsNested, IsNestedStack, AreNamed, IsFramePlaced, WaitsAtPass, IsRising, ChainCalls}

-- what is true of each, from one to another
pub all_to : {X : Type 0} (P Q : X → Type 0) (xs : List X) → ((x : X) → P x → Q x) → All P xs → All Q xs
all_to P Q xs to h k d lt = to _ (h k d lt)

-- a call of the same module
pub nested_alike : (f new : Frame) (rest : List Frame) → new.of ≡ f.of → IsNested f rest → IsNested new rest
unfolding IsNested
nested_alike f new [] is h = tt
nested_alike f new (w ∷ rest) is h = (subst (λ (k : ℕ). w.of < k) (sym is) h.0, h.1)

module _ (bucket : NamedBucket → NamedBucket) where
  pub nested_touched : (f : Frame) (rest : List Frame) → IsNested f rest → IsNested f (map (touched_frame bucket) rest)
  unfolding IsNested
  nested_touched f [] h = tt
  nested_touched f (w ∷ rest) h = (h.0, nested_alike w (touched_frame bucket w) (map (touched_frame bucket) rest) refl (nested_touched w rest h.1))

  pub named_touched : (next : ℕ) (fs : List Frame) → AreNamed next fs → AreNamed next (map (touched_frame bucket) fs)
  unfolding AreNamed
  named_touched next [] h = tt
  named_touched next (f ∷ fs) h = (h.0, h.1, All-map (λ (w : Frame). w.call.name ≢ f.call.name) (touched_frame bucket) fs h.2, named_touched next fs h.3)

  pub placed_touched : (chain : List Program) (req : Option ℕ) (fs : List Frame) → All (IsFramePlaced chain req) fs → All (IsFramePlaced chain req) (map (touched_frame bucket) fs)
  placed_touched chain req fs h = All-map (IsFramePlaced chain req) (touched_frame bucket) fs
      (all_to (IsFramePlaced chain req) (λ (f : Frame). IsFramePlaced chain req (touched_frame bucket f)) fs (λ f p. record { of = p.of; at = p.at; opening = p.opening; serving = p.serving }) h)

  pub waiting_touched : (chain : List Program) (fs : List Frame) → All (WaitsAtPass chain) fs → All (WaitsAtPass chain) (map (touched_frame bucket) fs)
  waiting_touched chain fs h = All-map (WaitsAtPass chain) (touched_frame bucket) fs h

pub named_below : (next new : ℕ) (fs : List Frame) → next ≤ new → AreNamed next fs → AreNamed new fs
unfolding AreNamed
named_below next new [] le h = tt
named_below next new (f ∷ fs) le h = (h.0, omega (arith, h.1), h.2, named_below next new fs le h.3)

-- all of them have names below the bound, and so not the bound
pub none_next : (next : ℕ) (fs : List Frame) → AreNamed next fs → All (λ w. w.call.name ≢ next) fs
unfolding AreNamed
none_next next [] h = All-nil (λ (w : Frame). w.call.name ≢ next)
none_next next (f ∷ fs) h = All-cons (λ (w : Frame). w.call.name ≢ next) f fs (λ e. absurd (omega (arith, h.1, e))) (none_next next fs h.3)

-- What makes the calls of a connection sound, whose stack is f and then rest.
pub record StandsOnTop (chain : List Program) (next : ℕ) (req : Option ℕ) (due : List ℕ) (f : Frame) (rest : List Frame) : Type 0 where
  pub top : IsFramePlaced chain req f
  pub below : All (IsFramePlaced chain req) rest
  pub nested : IsNested f rest
  pub named : AreNamed next (f ∷ rest)
  pub waiting : All (WaitsAtPass chain) rest
  pub queue : All (λ k. k < length chain) due
  pub later : IsRising f.of due
  pub serving : (module_at chain f.of).main ≤ f.pc → due ≡ []
  pub alone : (w : Frame) (more : List Frame) → rest ≡ w ∷ more → due ≡ []

first_same : (f d : Frame) (rest more : List Frame) → f ∷ rest ≡ d ∷ more → f ≡ d
first_same f d rest more e = cc

rest_same : (f d : Frame) (rest more : List Frame) → f ∷ rest ≡ d ∷ more → rest ≡ more
rest_same f d rest more e = cc

not_empty : (f : Frame) (rest : List Frame) → f ∷ rest ≡ [] → ⊥
not_empty f rest e = cc

pub busy_calls : (chain : List Program) (g : Common) (c : Connection) (f : Frame) (rest : List Frame) → c.stack ≡ f ∷ rest → StandsOnTop chain g.next c.req c.queue f rest → ChainCalls chain g c
unfolding IsNestedStack
busy_calls chain g c f rest is t = record {
  placed = subst (λ (fs : List Frame). All (IsFramePlaced chain c.req) fs) (sym is) (All-cons (IsFramePlaced chain c.req) f rest t.top t.below);
  nested = subst IsNestedStack (sym is) t.nested;
  named = subst (AreNamed g.next) (sym is) t.named;
  waiting = λ d more e. subst (λ (fs : List Frame). All (WaitsAtPass chain) fs) (rest_same f d rest more (sym is ∙ e)) t.waiting;
  queue = t.queue;
  later = λ d more e. subst (λ (x : Frame). IsRising x.of c.queue) (first_same f d rest more (sym is ∙ e)) t.later;
  serving = λ d more e. subst (λ (x : Frame). (module_at chain x.of).main ≤ x.pc → c.queue ≡ []) (first_same f d rest more (sym is ∙ e)) t.serving;
  alone = λ d w more e. t.alone w more (rest_same f d rest (w ∷ more) (sym is ∙ e));
  idle = λ e. absurd (not_empty f rest (sym is ∙ e));
}

pub idle_calls : (chain : List Program) (g : Common) (c : Connection) → c.stack ≡ [] → c.queue ≡ [] → ChainCalls chain g c
unfolding IsNestedStack AreNamed
idle_calls chain g c is none = record {
  placed = subst (λ (fs : List Frame). All (IsFramePlaced chain c.req) fs) (sym is) (All-nil (IsFramePlaced chain c.req));
  nested = subst IsNestedStack (sym is) tt;
  named = subst (AreNamed g.next) (sym is) tt;
  waiting = λ d more e. absurd (not_empty d more (sym e ∙ is));
  queue = subst (λ (ks : List ℕ). All (λ k. k < length chain) ks) (sym none) (All-nil (λ (k : ℕ). k < length chain));
  later = λ d more e. absurd (not_empty d more (sym e ∙ is));
  serving = λ d more e. absurd (not_empty d more (sym e ∙ is));
  alone = λ d w more e. absurd (not_empty d (w ∷ more) (sym e ∙ is));
  idle = λ e. none;
}

-- and what is known of such a connection
pub stands_on_top : (chain : List Program) (g : Common) (c : Connection) (f : Frame) (rest : List Frame) → c.stack ≡ f ∷ rest → ChainCalls chain g c → StandsOnTop chain g.next c.req c.queue f rest
unfolding IsNestedStack
stands_on_top chain g c f rest is h =
    let placed : All (IsFramePlaced chain c.req) (f ∷ rest) = subst (λ (fs : List Frame). All (IsFramePlaced chain c.req) fs) is h.placed in
    record {
      top = All-head (IsFramePlaced chain c.req) f rest placed;
      below = All-tail (IsFramePlaced chain c.req) f rest placed;
      nested = subst IsNestedStack is h.nested;
      named = subst (AreNamed g.next) is h.named;
      waiting = h.waiting f rest is;
      queue = h.queue;
      later = h.later f rest is;
      serving = h.serving f rest is;
      alone = λ w more e. h.alone f w more (is ∙ ap (λ (fs : List Frame). f ∷ fs) e);
    }
