-- The handlers of all modules are called, where a connection is opened and where a request begins: each instance is due, and sees so.
use Rattle.std.proofs.Common.{◌≡◌, ◌≢◌, ◌⊎◌, ℕ, zero, suc, ◌+◌, ◌^◌, ◌<◌, ◌≤◌, Bool, true, false, ◌==◌, ◌||◌, cond, List, [], ◌∷◌, ◌++◌, length, All, inl, inr, refl, sym, ◌∙◌, ap, subst, arith, eq-eqb, ne_eqb}
use Rattle.std.proofs.lemmas.Bool.{cases_eq, cases_lt, or_left}
use Rattle.std.proofs.lemmas.List.Elements.{All-head, All-tail}
use Rattle.module_code.specs.Program.{Program}
use Rattle.run_model.specs.declared.bucket.BrigadeVar.TheVariants as var
use Rattle.run_model.specs.Chains.{Frame, Connection, Common, Linked, configuration, places, module_at}
use Rattle.run_model.specs.Passing.{handler_at}
use Rattle.run_model.specs.Pools.{is_in}
use Rattle.run_model.specs.State.{Configuration, fresh_call}
use Rattle.run_model.specs.Turns.{numbers_below, tail_of, all_called}
use Rattle.model_laws.specs.ChainSound.{ChainSound}
use Rattle.model_laws.specs.OpenRuns.{Due, Rests, Runs, none_lasts, Start, Done, LeaveShared, IsMove}
use Rattle.model_laws.proofs.chains.Modules.{idle_module, output_module}
use Rattle.model_laws.proofs.chains.PutBack.{looking}
use Rattle.model_laws.proofs.seen.Handed.{in_more, in_behind}
use Rattle.model_laws.proofs.seen.Idle.{started_idle}
use Rattle.model_laws.proofs.seen.InPlace.{running, not_there}
use Rattle.model_laws.proofs.seen.Reach.{ReachedAlone, go}
use Rattle.model_laws.proofs.seen.Seen.{SeenCall, AllWaitSeen, SeenRest, ChainSeen, resting}
use Rattle.model_laws.proofs.seen.Settle.{settle}

-- Which modules are to be called behind the first.

in_numbers : (k n : ℕ) → k < n → is_in k (numbers_below n) ≡ true
unfolding numbers_below
in_numbers k zero lt = absurd (omega arith)
in_numbers k (suc n) lt = elim (cases_eq k n) [
  | inl same ↦ in_behind k (numbers_below n) (n ∷ []) (or_left (n == k) false (eq-eqb n k (sym same)))
  | inr off ↦ in_more k (numbers_below n) (n ∷ []) (in_numbers k n (omega (arith, lt, off)))
]

first_zero : (n : ℕ) → numbers_below (suc n) ≡ 0 ∷ tail_of (numbers_below (suc n))
unfolding numbers_below
first_zero zero = refl
first_zero (suc n) =
    let before : numbers_below (suc n) ++ suc n ∷ [] ≡ 0 ∷ (tail_of (numbers_below (suc n)) ++ suc n ∷ []) = ap (λ (ks : List ℕ). ks ++ suc n ∷ []) (first_zero n) in
    before ∙ ap (λ (ks : List ℕ). 0 ∷ tail_of ks) (sym before)

in_tail : (k n : ℕ) → 0 < k → k < n → is_in k (tail_of (numbers_below n)) ≡ true
in_tail k zero some lt = absurd (omega arith)
in_tail k (suc n) some lt =
    let inside : is_in k (0 ∷ tail_of (numbers_below (suc n))) ≡ true = ap (is_in k) (sym (first_zero n)) ∙ in_numbers k (suc n) lt in
    let not_first : is_in k (0 ∷ tail_of (numbers_below (suc n))) ≡ is_in k (tail_of (numbers_below (suc n))) =
    ap (λ (x : Bool). x || is_in k (tail_of (numbers_below (suc n)))) (ne_eqb 0 k (λ same. absurd (omega (arith, same, some)))) in
    sym not_first ∙ inside

pub not_below : (n : ℕ) (ks : List ℕ) → All (λ k. k < n) ks → is_in n ks ≡ false
not_below n [] h = refl
not_below n (k ∷ ks) h =
    let lt : k < n = All-head (λ (j : ℕ). j < n) k ks h in
    ap (λ (x : Bool). x || is_in n ks) (ne_eqb k n (λ same. absurd (omega (arith, same, lt)))) ∙ not_below n ks (All-tail (λ (j : ℕ). j < n) k ks h)

-- each instance is due
pub record DueAt (chain : List Program) (g : Common) (c : Connection) (k : ℕ) : Type 0 where
  pub pc : ℕ
  pub vacant : (c.instances k).brigades 8 ≡ var.Null
  pub reached : ReachedAlone (module_at chain k) (record { phase = Due; lasting = none_lasts; now = configuration g c (resting k pc) })

module _ (chain : List Program) (g : Common) (c : Connection) (due : (k : ℕ) → k < places chain → DueAt chain g c k) (some : 0 < length chain)
    (new_sound : ChainSound chain (all_called chain (g, c)).0 (all_called chain (g, c)).1) where
  abbrev all : Linked
  all = all_called chain (g, c)

  abbrev first : Frame
  first = record { of = 0; call = fresh_call g.next; pc = handler_at c.req (module_at chain 0) }

  limit : g.next + 1 < 2 ^ 64
  unfolding all_called
  limit = new_sound.names.limit

  left_same : (f : Frame) → LeaveShared none_lasts (configuration g c f) (configuration all.0 all.1 f).shared
  unfolding all_called configuration
  left_same f = record {
    conn = refl;
    req = refl;
    pools = (new_sound.pools.sound f).formed;
    stay = λ n lasts. refl;
    rises = (omega arith, omega arith);
    limits = (new_sound.names.limit, (new_sound.pools.sound f).limit);
  }

  first_runs : SeenCall Runs chain all.0 all.1 first []
  unfolding IsMove all_called configuration
  first_runs =
      let d = due 0 (omega arith) in
      record {
        pools = [];
        below = λ n e. absurd (cc);
        reached = go (module_at chain 0) (record { phase = Due; lasting = none_lasts; now = configuration g c (resting 0 d.pc) })
            (running (record { calls = g.next ∷ []; pools = [] }) (configuration all.0 all.1 first)) Start Done d.reached
            (refl, record { phase = refl; name = g.next; next = g.next + 1; named = record { new = omega arith; given = omega arith; limit = limit }; is = refl });
      }

  -- a later module is due as before
  later_due : (k : ℕ) → 0 < k → k < length chain → SeenRest chain all.0 all.1 k
  unfolding all_called configuration
  later_due k behind lt =
      let d = due k (omega (arith, lt)) in
      record {
        pc = d.pc;
        vacant = d.vacant;
        reached = subst (λ (x : Bool). ReachedAlone (module_at chain k) (record { phase = cond x Due Rests; lasting = none_lasts; now = configuration all.0 all.1 (resting k d.pc) })) (sym (in_tail k (length chain) behind lt))
            (settle (module_at chain k) Due none_lasts (configuration g c (resting k d.pc)) (configuration all.0 all.1 (resting k d.pc)) tt refl refl refl (left_same (resting k d.pc)) d.reached);
      }

  -- the output filter has no handler to be called: what stands for it is called, and returns
  output_rests : SeenRest chain all.0 all.1 (length chain)
  unfolding all_called configuration
  output_rests =
      let k : ℕ = length chain in
      let d = due (length chain) (omega arith) in
      let r : Configuration = configuration g c (resting k d.pc) in
      let idle : ReachedAlone idle_module (record { phase = Due; lasting = none_lasts; now = configuration g c (resting k d.pc) }) =
      subst (λ (p : Program). ReachedAlone p (record { phase = Due; lasting = none_lasts; now = configuration g c (resting k d.pc) })) (output_module chain) d.reached in
      let left = started_idle (configuration g c (resting k d.pc)) g.next (omega arith) limit (new_sound.pools.sound (looking k)).limit d.vacant refl idle in
      record {
        pc = handler_at c.req idle_module;
        vacant = d.vacant;
        reached = subst (λ (x : Bool). ReachedAlone (module_at chain k) (record { phase = cond x Due Rests; lasting = none_lasts; now = configuration all.0 all.1 (resting k (handler_at c.req idle_module)) }))
            (sym (not_below k (tail_of (numbers_below (length chain))) new_sound.calls.queue))
            (subst (λ (p : Program). ReachedAlone p (record { phase = Rests; lasting = none_lasts; now = configuration all.0 all.1 (resting k (handler_at c.req idle_module)) })) (sym (output_module chain)) left);
      }

  pub called_seen : ChainSeen chain all.0 all.1
  unfolding all_called AllWaitSeen
  called_seen = record { stack = (first_runs, tt); rests = λ k lt off. by_place k lt (not_there first [] k off).0 (cases_lt k (length chain)) } where
    by_place : (k : ℕ) → k < places chain → k ≢ 0 → (k < length chain) ⊎ (length chain ≤ k) → SeenRest chain all.0 all.1 k
    by_place k lt off (inl inside) = later_due k (omega (arith, off)) inside
    by_place k lt off (inr le) = subst (SeenRest chain all.0 all.1) (let same : length chain ≡ k = omega (arith, lt, le) in same) output_rests
