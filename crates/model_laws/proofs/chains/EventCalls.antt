-- What happens around a chain's steps keeps its calls sound.
use Rattle.std.proofs.Common.{◌≡◌, ◌≢◌, ℕ, zero, suc, ◌<◌, ◌≤◌, List, [], ◌∷◌, ◌++◌, length, Some, is_some, All, refl, sym, ap, subst, arith}
use Rattle.std.proofs.lemmas.List.Elements.{All-nil, All-cons, All-head, All-tail, All-append}
use Rattle.module_code.specs.Program.{Program, IsModule}
use Rattle.run_model.specs.declared.event.Piece.{Piece}
use Rattle.run_model.specs.State.{fresh_call}
use Rattle.run_model.specs.Chains.{Frame, Connection, Common, Linked, module_at, places, place_from}
use Rattle.run_model.specs.Turns.{numbers_below, tail_of, all_called, opened, begun, file_taken, brought_in, request_over}
use Rattle.model_laws.specs.ChainSound.{IsNested, AreNamed, IsFramePlaced, WaitsAtPass, IsRising, ChainCalls}
use Rattle.model_laws.proofs.chains.Modules.{first_in_places}
use Rattle.model_laws.proofs.chains.Stacks.{all_to, named_below, busy_calls, idle_calls}
use Rattle.model_laws.proofs.chains.TopCalls.{LinkedCalls, same_calls, rising_none, called_calls}

-- others take names
pub rising_calls : (chain : List Program) (g new : Common) (c : Connection) → g.next ≤ new.next → ChainCalls chain g c → ChainCalls chain new c
rising_calls chain g new c le h = record {
  placed = h.placed;
  nested = h.nested;
  named = named_below g.next new.next c.stack le h.named;
  waiting = h.waiting;
  queue = h.queue;
  later = h.later;
  serving = h.serving;
  alone = h.alone;
  idle = h.idle;
}

-- the numbers from 1 on rise
rising_push : (k n : ℕ) (ks : List ℕ) → k < n → All (λ j. j < n) ks → IsRising k ks → IsRising k (ks ++ n ∷ [])
unfolding IsRising
rising_push k n [] lt below h = (lt, tt)
rising_push k n (j ∷ ks) lt below h = (h.0, rising_push j n ks (All-head (λ (m : ℕ). m < n) j ks below) (All-tail (λ (m : ℕ). m < n) j ks below) h.1)

from_zero : (n : ℕ) → (ks : List ℕ) × (numbers_below (suc n) ≡ 0 ∷ ks) × IsRising 0 ks × All (λ j. j < suc n) ks
unfolding numbers_below IsRising
from_zero zero = ([], refl, tt, All-nil (λ (j : ℕ). j < 1))
from_zero (suc n) =
    let less = from_zero n in (
      less.0 ++ suc n ∷ [],
      ap (λ (js : List ℕ). js ++ suc n ∷ []) less.1,
      rising_push 0 (suc n) less.0 (omega arith) less.3 less.2,
      All-append (λ (j : ℕ). j < suc (suc n)) less.0 (suc n ∷ []) (all_to (λ (j : ℕ). j < suc n) (λ (j : ℕ). j < suc (suc n)) less.0 (λ j lt. omega arith) less.3)
          (All-cons (λ (j : ℕ). j < suc (suc n)) (suc n) [] (omega arith) (All-nil (λ (j : ℕ). j < suc (suc n)))),
    )

due_rising : (n : ℕ) → 0 < n → IsRising 0 (tail_of (numbers_below n)) × All (λ j. j < n) (tail_of (numbers_below n))
due_rising zero lt = absurd (omega arith)
due_rising (suc n) lt =
    let all = from_zero n in
    let is : tail_of (numbers_below (suc n)) ≡ all.0 = ap tail_of all.1 in
    (subst (IsRising 0) (sym is) all.2, subst (λ (ks : List ℕ). All (λ j. j < suc n) ks) (sym is) all.3)

-- `open` or `init` of all modules is to run
pub all_called_calls : (chain : List Program) (w : Linked) → IsModule (module_at chain 0) → 0 < length chain → 0 < w.0.next → LinkedCalls chain (all_called chain w)
unfolding all_called
all_called_calls chain w m some first =
    (let due = due_rising (length chain) some in called_calls chain 0 (tail_of (numbers_below (length chain))) (w.0, record w.1 { count = 0 }) m some first due.1 due.0)

pub opened_calls : (chain : List Program) (g : Common) → IsModule (module_at chain 0) → 0 < length chain → 0 < g.next → LinkedCalls chain (opened chain g)
unfolding opened
opened_calls chain g m some first = all_called_calls chain _ m some first

pub begun_calls : (chain : List Program) (g : Common) (c : Connection) → IsModule (module_at chain 0) → 0 < length chain → 0 < g.next → LinkedCalls chain (begun chain (g, c))
unfolding begun
begun_calls chain g c m some first = all_called_calls chain _ m some first

pub file_taken_calls : (chain : List Program) (req file : ℕ) (bytes : List ℕ) (g : Common) (c : Connection) → ChainCalls chain g c → LinkedCalls chain (file_taken req file bytes (g, c))
file_taken_calls chain req file bytes g c h = same_calls chain g _ c _ refl refl refl refl h

-- `main` of the first filter begins
pub brought_in_calls : (chain : List Program) (pieces : List Piece) (req : ℕ) (g : Common) (c : Connection) → ((k : ℕ) → IsModule (module_at chain k)) → 0 < g.next → c.stack ≡ []
    → c.req ≡ Some req → ChainCalls chain g c
    → LinkedCalls chain (brought_in chain pieces req (g, c))
unfolding IsNested AreNamed
brought_in_calls chain pieces req g c proper first idle is h =
    let k : ℕ = place_from chain c.instances 0 in
    let m : IsModule (module_at chain k) = proper k in
    let inside : k < places chain = first_in_places chain c.instances in
    let none : c.queue ≡ [] = h.idle idle in
    let low : (module_at chain k).init < (module_at chain k).main = m.initial.some in
    busy_calls chain _ _ (record { of = k; call = fresh_call g.next; pc = (module_at chain k).main }) [] refl (record {
      top = record { of = inside; at = m.mains; opening = λ lt. absurd (omega arith); serving = λ le. ap is_some is };
      below = All-nil (IsFramePlaced chain c.req);
      nested = tt;
      named = (first, omega arith, All-nil (λ (f : Frame). f.call.name ≢ g.next), tt);
      waiting = All-nil (WaitsAtPass chain);
      queue = h.queue;
      later = rising_none k c.queue none;
      serving = λ le. none;
      alone = λ w more e. absurd (cc);
    })

pub request_over_calls : (chain : List Program) (req : ℕ) (g : Common) (c : Connection) → c.stack ≡ [] → ChainCalls chain g c → LinkedCalls chain (request_over req (g, c))
request_over_calls chain req g c idle h = idle_calls chain _ _ idle (h.idle idle)
