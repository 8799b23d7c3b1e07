-- Each place of a chain has a module: past its end, one that does nothing.
use Rattle.std.proofs.Common.{◌≡◌, ℕ, zero, suc, ◌+◌, ◌-◌, ◌<◌, ◌≤◌, ◌⊎◌, Bool, true, false, cond, List, [], ◌∷◌, length, Some, All, inl, inr, refl, sym, ap, subst, arith, slice_get, nat_le}
use Rattle.std.proofs.lemmas.Bool.Decides.{nat_tests}
use Rattle.std.proofs.lemmas.List.{get_or_past}
use Rattle.std.proofs.lemmas.List.Elements.{All-nil}
use Rattle.std.proofs.lemmas.Option.{get_or_from_slice_get, slice_get_cases}
use Rattle.module_code.specs.declared.part.Part.{Part}
use Rattle.module_code.specs.declared.part.Part.TheVariants as part
use Rattle.module_code.specs.declared.instr.Instr.{Instr}
use Rattle.module_code.specs.declared.instr.Instr.TheVariants as instr
use Rattle.module_code.specs.declared.instr.Status.TheVariants.{Success}
use Rattle.module_code.specs.Tables.{misplaced}
use Rattle.module_code.specs.Args.{op_of}
use Rattle.module_code.specs.Spelling.{operands_of}
use Rattle.module_code.specs.Program.{Program, IsModule, IsHandler, IsPlaced, IsInside, goes_on}
use Rattle.run_model.specs.Chains.{Connection, module_at, is_last, first_staying, place_from, next_place, places, IsChain}
use Rattle.run_model.specs.State.{Instance}
use Rattle.std.proofs.lemmas.Bool.{cases_lt}

only_ends : (pc : ℕ) (i : Instr) → slice_get (instr.Ret Success ∷ instr.Ret Success ∷ instr.Ret Success ∷ []) pc ≡ Some i → instr.Ret Success ≡ i
only_ends zero i e = cc
only_ends (suc zero) i e = cc
only_ends (suc (suc zero)) i e = cc
only_ends (suc (suc (suc pc))) i e = absurd (cc)

unfoldable pub idle_module : Program
idle_module = record { pools = []; brigades = []; texts = []; code = instr.Ret Success ∷ instr.Ret Success ∷ instr.Ret Success ∷ []; init = 1; main = 2 }

-- a handler that returns at once
never_misplaced : (q : Part) → misplaced q [] [] (op_of (instr.Ret Success)) (operands_of (instr.Ret Success) [] 0) ≡ false
never_misplaced part.Open = refl
never_misplaced part.Init = refl
never_misplaced part.Main = refl
never_misplaced q = refl

returns_at_once : (q : Part) (from to : ℕ) → from < to → IsHandler idle_module q from to
unfolding idle_module
returns_at_once q from to some = record {
  some = some;
  ends = λ i e. sym (ap goes_on (only_ends (to - 1) i e));
  inside = λ pc i low high e. subst (IsInside idle_module q from to) (only_ends pc i e) (record { target = tt; allowed = never_misplaced q });
}

idle_proper : IsModule idle_module
unfolding idle_module
idle_proper = record {
  placed = λ pc i e. subst (IsPlaced idle_module pc) (only_ends pc i e) (record { fit = refl; jump = tt; next = λ on. absurd (cc) });
  size = omega arith;
  brigades = omega arith;
  opens = omega arith;
  inits = omega arith;
  mains = omega arith;
  pools = omega arith;
  parents = λ k q e. absurd (cc);
  homes = λ k q e. absurd (cc);
  texts = refl;
  few = omega arith;
  short = All-nil (λ (t : List ℕ). length t ≤ 255);
  bytes = All-nil (λ (t : List ℕ). All (λ b. b < 256) t);
  opening = returns_at_once part.Open 0 1 (omega arith);
  initial = returns_at_once part.Init 1 2 (omega arith);
  serving = returns_at_once part.Main 2 3 (omega arith);
}

pub module_at_proper : (chain : List Program) → IsChain chain → (k : ℕ) → IsModule (module_at chain k)
unfolding module_at idle_module
module_at_proper chain h k = elim (slice_get_cases chain k).1 [
  | inl f ↦ subst IsModule (sym (get_or_from_slice_get chain k f.0 idle_module f.2)) (within f.0 f.1 f.2)
  | inr f ↦ subst IsModule (sym (get_or_past chain k idle_module f.0)) idle_proper
] where
  within : (p : Program) → k < length chain → slice_get chain k ≡ Some p → IsModule p
  within p lt is = subst IsModule (get_or_from_slice_get chain k p idle_module is) (h.modules k idle_module lt)

-- what stands at the place of the output filter
pub output_module : (chain : List Program) → module_at chain (length chain) ≡ idle_module
unfolding module_at idle_module
output_module chain = get_or_past chain (length chain) idle_module (omega arith)

-- Where a brigade goes is looked up from a place on.

low_in : (instances : ℕ → Instance) (n k : ℕ) → k ≤ first_staying instances n k
unfolding first_staying
low_in instances zero k = omega arith
low_in instances (suc n) k = by_test (instances k).left (low_in instances n (k + 1)) where
  by_test : (t : Bool) → k + 1 ≤ first_staying instances n (k + 1) → k ≤ cond t (first_staying instances n (k + 1)) k
  by_test true le = omega arith
  by_test false le = omega arith

high_in : (instances : ℕ → Instance) (n k : ℕ) → first_staying instances n k ≤ k + n
unfolding first_staying
high_in instances zero k = omega arith
high_in instances (suc n) k = by_test (instances k).left (high_in instances n (k + 1)) where
  by_test : (t : Bool) → first_staying instances n (k + 1) ≤ (k + 1) + n → cond t (first_staying instances n (k + 1)) k ≤ k + suc n
  by_test true le = omega arith
  by_test false le = omega arith

-- it is a later place,
pub next_later : (chain : List Program) (c : Connection) (k : ℕ) → k < next_place chain c k
unfolding place_from
next_later chain c k = (let le : k + 1 ≤ first_staying c.instances (length chain - (k + 1)) (k + 1) = low_in c.instances (length chain - (k + 1)) (k + 1) in omega arith)

-- in the chain, where a filter is not the last,
pub next_in_chain : (chain : List Program) (c : Connection) (k : ℕ) → is_last chain c k ≡ false → next_place chain c k < length chain
next_in_chain chain c k h = past (length chain) (next_place chain c k) h where
  past : (n m : ℕ) → nat_le n m ≡ false → m < n
  past n m h = grind (arith, nat_tests)

-- and from the first place on it is that of a filter, or that of the output filter.
pub first_in_places : (chain : List Program) (instances : ℕ → Instance) → place_from chain instances 0 < places chain
unfolding place_from
first_in_places chain instances = (let le : first_staying instances (length chain - 0) 0 ≤ 0 + (length chain - 0) = high_in instances (length chain - 0) 0 in omega arith)

found : (instances : ℕ → Instance) (n k l : ℕ) → l ≤ k + n → first_staying instances n k < l → (instances (first_staying instances n k)).left ≡ false
unfolding first_staying
found instances zero k l le lt = absurd (omega (arith, le, lt))
found instances (suc n) k l le lt = by_test (instances k).left refl (λ less. found instances n (k + 1) l (omega (arith, le)) less) lt where
  by_test : (t : Bool) → (instances k).left ≡ t → (first_staying instances n (k + 1) < l → (instances (first_staying instances n (k + 1))).left ≡ false)
      → cond t (first_staying instances n (k + 1)) k < l → (instances (cond t (first_staying instances n (k + 1)) k)).left ≡ false
  by_test true is later lt = later lt
  by_test false is later lt = is

-- The instance there has not left, where it is one of the chain.
pub staying : (chain : List Program) (instances : ℕ → Instance) (k : ℕ) → place_from chain instances k < length chain → (instances (place_from chain instances k)).left ≡ false
unfolding place_from
staying chain instances k lt = found instances (length chain - k) k (length chain) (by_place (cases_lt k (length chain))) lt where
  by_place : (k < length chain) ⊎ (length chain ≤ k) → length chain ≤ k + (length chain - k)
  by_place (inl lt) = omega arith
  by_place (inr le) = omega arith
