-- The worked certificates compute, and so does a run to a fault.
use Rattle.std.proofs.Common.{◌≡◌, ℕ, zero, suc, ◌+◌, ◌<◌, ◌≤◌, Bool, true, false, List, [], ◌∷◌, Option, Some, None, slice_get, slice_index_or, refl, subst, arith}
use Rattle.module_code.specs.declared.part.Part.{Part}
use Rattle.module_code.specs.declared.part.Part.TheVariants as part
use Rattle.module_code.specs.declared.instr.Instr.{Instr}
use Rattle.module_code.specs.declared.instr.Instr.TheVariants as instr
use Rattle.module_code.specs.declared.instr.Status.TheVariants.{Success, Fail}
use Rattle.module_code.specs.Program.{Program, pool_of_brigade, pool_of_pool, goes_on, IsPlaced, IsInside, IsModule}
use Rattle.run_model.specs.declared.event.Event.{Event}
use Rattle.run_model.specs.Indexed.{upd, any_below}
use Rattle.run_model.proofs.Updates.{upd_off}
use Rattle.life_state.specs.declared.parts.Contents.TheVariants.{Empty}
use Rattle.life_state.specs.Examples.{identity, resting, serving, brought}
use Rattle.life_state.specs.Facts.{known, facts_of, moved}
use Rattle.life_state.specs.InForm.{is_formed}
use Rattle.life_state.specs.Order.{all_below, brigade_leq, leq}
use Rattle.life_state.specs.PoolOrder.{under_within}
use Rattle.life_state.specs.Rules.{cleared_under, at_end_of_request}
use Rattle.life_state.specs.States.{no_homes, BrigadeKnown, holds, passed_on, State}
use Rattle.life_check.specs.Examples.{given, whole, IdentityAnswers, FaultRows}
use Rattle.life_state.specs.Bounded.{IsBounded}
use Rattle.life_check.specs.Certificates.{IsBoundedSome, AllBounded}
use Rattle.life_check.specs.Typed.{first_below, first_refusal}
use Rattle.life_check.proofs.TypedLaws.{typed_of}
use Rattle.model_laws.specs.Examples.{bare, told_by, left_by, answers_from, never_creates}
use Rattle.model_laws.specs.ChainExamples.{cleans_none}
use Rattle.run_model.specs.Worlds.{World, new_world, happens, IsRun}
use Rattle.model_laws.proofs.ChainExamples.{chain_runs}
use Rattle.life_check.specs.ChainTheorem.{NoFaults, ChainNeverFaults}
use Rattle.life_check.proofs.SafeChains.{typed_alone_never_faults}

pub identity_answers : IdentityAnswers
unfolding pool_of_brigade pool_of_pool upd any_below known facts_of moved all_below brigade_leq leq under_within cleared_under at_end_of_request is_formed first_below first_refusal
identity_answers = record { accepted = refl; unreached = refl; out_of_form = refl; no_eos = refl; empty = refl; nowhere = refl }

-- Its states have no more variables than there are.

resting_bounded : (sent : Bool) → IsBounded (resting sent)
resting_bounded sent = record { pools = λ q le. refl; brigades = λ b le. refl; cursors = λ c le. refl; facts_from = λ c d le. refl; facts_to = λ c d le. refl }

serving_bounded : (sent : Bool) (v : BrigadeKnown) → IsBounded (serving sent v)
serving_bounded sent v = record {
  pools = λ q le. refl;
  brigades = λ b le. upd_off (resting sent).brigades 8 b v (λ same. omega arith);
  cursors = λ c le. refl;
  facts_from = λ c d le. refl;
  facts_to = λ c d le. refl;
}

EachBounded : List (Option State) → Type 0
EachBounded [] = Unit {0}
EachBounded (o ∷ os) = IsBoundedSome o × EachBounded os

bounded_at : (os : List (Option State)) → EachBounded os → (pc : ℕ) → IsBoundedSome (slice_index_or os pc None)
unfolding EachBounded
bounded_at [] each pc = tt
bounded_at (o ∷ os) each zero = each.0
bounded_at (o ∷ os) each (suc pc) = bounded_at os each.1 pc

pub whole_bounded : AllBounded (given (resting true) whole)
unfolding EachBounded
whole_bounded = record {
  idle = resting_bounded false;
  ready = resting_bounded true;
  at = bounded_at whole (
    resting_bounded false,
    (
      resting_bounded false,
      (
        serving_bounded true brought,
        (
          serving_bounded false brought,
          (serving_bounded true passed_on, (serving_bounded true brought, (serving_bounded true (holds Empty no_homes), (serving_bounded true passed_on, tt)))),
        ),
      ),
    ),
  );
}

-- It is a module.

EachFrom : (ℕ → Instr → Type 0) → ℕ → List Instr → Type 0
EachFrom P n [] = Unit {0}
EachFrom P n (i ∷ is) = P n i × EachFrom P (suc n) is

some_is : (j i : Instr) → Some j ≡ Some i → j ≡ i
some_is j i e = cc

each_at : (P : ℕ → Instr → Type 0) (n : ℕ) (is : List Instr) → EachFrom P n is → (k : ℕ) (i : Instr) → slice_get is k ≡ Some i → P (k + n) i
unfolding EachFrom
each_at P n [] each k i here = cc
each_at P n (j ∷ is) each zero i here = subst (λ (m : ℕ). P m i) (let e : n ≡ 0 + n = omega arith in e) (subst (P n) (some_is j i here) each.0)
each_at P n (j ∷ is) each (suc k) i here = subst (λ (m : ℕ). P m i) (let e : k + suc n ≡ suc k + n = omega arith in e) (each_at P (suc n) is each.1 k i here)

at_each : (P : ℕ → Instr → Type 0) → EachFrom P 0 identity.code → (pc : ℕ) (i : Instr) → slice_get identity.code pc ≡ Some i → P pc i
at_each P each pc i here = subst (λ (m : ℕ). P m i) (let e : pc + 0 ≡ pc = omega arith in e) (each_at P 0 identity.code each pc i here)

placed : EachFrom (IsPlaced identity) 0 identity.code
unfolding EachFrom
placed = (
  record { fit = refl; jump = tt; next = λ h. cc },
  (
    record { fit = refl; jump = tt; next = λ h. cc },
    (
      record { fit = refl; jump = omega arith; next = λ h. omega arith },
      (
        record { fit = refl; jump = omega arith; next = λ h. omega arith },
        (
          record { fit = refl; jump = tt; next = λ h. cc },
          (record { fit = refl; jump = tt; next = λ h. omega arith }, (record { fit = refl; jump = tt; next = λ h. cc }, (record { fit = refl; jump = tt; next = λ h. cc }, tt))),
        ),
      ),
    ),
  ),
)

abbrev Inside : Part → ℕ → ℕ → ℕ → Instr → Type 0
Inside q from to pc i = from ≤ pc → pc < to → IsInside identity q from to i

opening : EachFrom (Inside part.Open 0 1) 0 identity.code
unfolding EachFrom
opening = (
  λ le lt. record { target = tt; allowed = refl },
  (
    λ le lt. absurd (omega arith),
    (
      λ le lt. absurd (omega arith),
      (
        λ le lt. absurd (omega arith),
        (λ le lt. absurd (omega arith), (λ le lt. absurd (omega arith), (λ le lt. absurd (omega arith), (λ le lt. absurd (omega arith), tt)))),
      ),
    ),
  ),
)

initial : EachFrom (Inside part.Init 1 2) 0 identity.code
unfolding EachFrom
initial = (
  λ le lt. absurd (omega arith),
  (
    λ le lt. record { target = tt; allowed = refl },
    (
      λ le lt. absurd (omega arith),
      (
        λ le lt. absurd (omega arith),
        (λ le lt. absurd (omega arith), (λ le lt. absurd (omega arith), (λ le lt. absurd (omega arith), (λ le lt. absurd (omega arith), tt)))),
      ),
    ),
  ),
)

serving_inside : EachFrom (Inside part.Main 2 8) 0 identity.code
unfolding EachFrom
serving_inside = (
  λ le lt. absurd (omega arith),
  (
    λ le lt. absurd (omega arith),
    (
      λ le lt. record { target = (omega arith, omega arith); allowed = refl },
      (
        λ le lt. record { target = (omega arith, omega arith); allowed = refl },
        (
          λ le lt. record { target = tt; allowed = refl },
          (λ le lt. record { target = tt; allowed = refl }, (λ le lt. record { target = tt; allowed = refl }, (λ le lt. record { target = tt; allowed = refl }, tt))),
        ),
      ),
    ),
  ),
)

pub identity_module : IsModule identity
identity_module = record {
  placed = at_each (IsPlaced identity) placed;
  size = omega arith;
  brigades = omega arith;
  opens = omega arith;
  inits = omega arith;
  mains = omega arith;
  pools = omega arith;
  parents = λ k q here. cc;
  homes = λ k q here. cc;
  texts = refl;
  few = omega arith;
  short = λ k t lt. absurd (omega arith);
  bytes = λ k t lt. absurd (omega arith);
  opening = record {
    some = omega arith;
    ends = λ i here. subst (λ (j : Instr). goes_on j ≡ false) (some_is (instr.Ret Success) i here) refl;
    inside = λ pc i le lt here. at_each (Inside part.Open 0 1) opening pc i here le lt;
  };
  initial = record {
    some = omega arith;
    ends = λ i here. subst (λ (j : Instr). goes_on j ≡ false) (some_is (instr.Ret Success) i here) refl;
    inside = λ pc i le lt here. at_each (Inside part.Init 1 2) initial pc i here le lt;
  };
  serving = record {
    some = omega arith;
    ends = λ i here. subst (λ (j : Instr). goes_on j ≡ false) (some_is (instr.Ret Fail) i here) refl;
    inside = λ pc i le lt here. at_each (Inside part.Main 2 8) serving_inside pc i here le lt;
  };
}

-- A run to a fault.

-- where reads fail, no file is found, and memory is ample
ample_run : (budget : ℕ) (chain : List Program) (w : World) (es : List (ℕ × Event)) → IsRun budget chain w es (answers_from bare budget chain w es) (left_by bare budget chain w es)
unfolding IsRun answers_from left_by
ample_run budget chain w [] = refl
ample_run budget chain w (e ∷ es) =
    (true, told_by bare e.1, (happens true budget chain (told_by bare e.1) e.0 e.1 w).1, refl, ample_run budget chain (happens true budget chain (told_by bare e.1) e.0 e.1 w).1 es)

a_fault : ChainNeverFaults (never_creates ∷ []) → ⊥
unfolding NoFaults
a_fault never =
    (subst NoFaults chain_runs.no_brigade
    (never 100 cleans_none (answers_from bare 100 (never_creates ∷ []) (new_world 1) cleans_none) (left_by bare 100 (never_creates ∷ []) (new_world 1) cleans_none)
    (record { first = 1; named = omega arith; given = omega arith; run = ample_run 100 (never_creates ∷ []) (new_world 1) cleans_none }))).1.1.1.1.1.0

pub fault_rows : FaultRows
fault_rows = record {
  passes_on = typed_alone_never_faults identity (given (resting true) whole) identity_module whole_bounded (typed_of identity (given (resting true) whole) identity_answers.accepted);
  cleans_none = a_fault;
}
