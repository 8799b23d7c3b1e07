-- Faults and names that are wanting are told alike in a part and in the whole.
use Rattle.std.proofs.Common.{◌≡◌, ℕ, Bool, true, false, ◌||◌, ◌+◌, not, cond, nat_lt, is_some, option_to_list, List, [], ◌∷◌, Option, Some, None, refl, sym, ◌∙◌, ap, ap₂, inl, inr}
use Rattle.std.specs.List.{list_any}
use Rattle.std.proofs.lemmas.Bool.{cases_Bool, both_ways, false_from_ne_true}
use Rattle.module_code.specs.declared.instr.Instr.{Instr}
use Rattle.module_code.specs.declared.instr.Instr.TheVariants as instr
use Rattle.module_code.specs.declared.instr.PoolRef.{PoolRef}
use Rattle.module_code.specs.declared.instr.PoolRef.TheVariants as pool
use Rattle.module_code.specs.Program.{Program}
use Rattle.run_model.specs.declared.bucket.NamedBucket.{NamedBucket}
use Rattle.run_model.specs.declared.fault.FaultKind.TheVariants.{F1, F10}
use Rattle.run_model.specs.declared.payload.Payload.{Payload}
use Rattle.run_model.specs.Pools.{Pools, is_empty, is_live, is_under}
use Rattle.run_model.specs.State.{Configuration, named_at, pool_named, is_own_at}
use Rattle.run_model.specs.BucketSteps.{items_at}
use Rattle.run_model.specs.Cursors.{at_cursor, bucket_at, place_of_cursor, holder_of, variable_of}
use Rattle.run_model.specs.Faults.{fault, Want, WPool, WNewPool, is_live_named, has_pool, has_pool_at, cursor_fault, is_stray, keeps_stray, fault_want, first_fault, or_else, wants}
use Rattle.run_model.specs.Steps.{grows, made_on, names_of, pool_names_of, is_spent, lacks_names, takes_reference, takes_room}
use Rattle.model_laws.specs.Parts.{belongs, part}
use Rattle.model_laws.specs.PartSteps.{in_part, LiesIn, FaultsAlike, NamesAlike}
use Rattle.model_laws.proofs.NamedPools.{made_is}
use Rattle.model_laws.proofs.parts.Paths.{under_belongs, part_off, live_alike}
use Rattle.model_laws.proofs.StepPools.{wanted_pool}
use Rattle.model_laws.proofs.parts.Steps.{named_under, ref_part, second_want, wanted_under}

-- Faults.

off_dead : (c n : ℕ) (ps : Pools Payload) → belongs c (ps.path n) ≡ false → is_live (part c ps) n ≡ false
unfolding is_live
off_dead c n ps off = ap (λ (path : List ℕ). not (is_empty path)) (part_off ps c n off).0

lives_alike : (c n : ℕ) (ps : Pools Payload) → (is_live ps n ≡ true → is_under ps c n ≡ true) → is_live (part c ps) n ≡ is_live ps n
lives_alike c n ps under = elim (cases_Bool (belongs c (ps.path n))) [
  | inl here ↦ live_alike ps c n here
  | inr off ↦ off_dead c n ps off ∙ sym (false_from_ne_true (is_live ps n) (λ live. both_ways (belongs c (ps.path n)) off (under_belongs ps c n (under live))))
]

named_alike : (c : ℕ) (ps : Pools Payload) (o : Option ℕ) → ((n : ℕ) → o ≡ Some n → is_live ps n ≡ true → is_under ps c n ≡ true) → is_live_named (part c ps) o ≡ is_live_named ps o
named_alike c ps None under = refl
named_alike c ps (Some n) under = lives_alike c n ps (under n refl)

has_alike : (c : ℕ) (r : Configuration) → LiesIn c r → (o : PoolRef) → has_pool (in_part c r) o ≡ has_pool r o
unfolding has_pool_at named_at
has_alike c r s o = named_alike c r.shared.pools (pool_named r o) (named_under c r s o)

want_alike : (c : ℕ) (r : Configuration) → LiesIn c r → (w : Want) → fault_want (in_part c r) w ≡ fault_want r w
unfolding cursor_fault place_of_cursor holder_of variable_of keeps_stray is_stray is_own_at
want_alike c r s (WPool o) = ap (λ (t : Bool). cond t None (Some F1)) (has_alike c r s o)
want_alike c r s (WNewPool q) = ap (λ (t : Bool). cond t (Some F10) None) (has_alike c r s (pool.Own q))
want_alike c r s w = refl

first_alike : (c : ℕ) (r : Configuration) → LiesIn c r → (ws : List Want) → first_fault (in_part c r) ws ≡ first_fault r ws
first_alike c r s [] = refl
first_alike c r s (w ∷ ws) = ap₂ or_else (want_alike c r s w) (first_alike c r s ws)

pub faults_alike : FaultsAlike
faults_alike c p i r s = first_alike c r s (wants p i)

-- Names.

names_of_alike : (c : ℕ) (i : Instr) (r : Configuration) → names_of (in_part c r) i ≡ names_of r i
unfolding place_of_cursor holder_of variable_of
names_of_alike c (instr.PCreate q) r = refl
names_of_alike c i r = refl

pub names_alike : NamesAlike
unfolding lacks_names part
names_alike c i r = ap (λ (n : ℕ). is_spent r.shared.next n || is_spent r.shared.pools.next (pool_names_of i)) (names_of_alike c i r)

-- What memory may be wanted for.

reference_alike : (c : ℕ) (ps : Pools Payload) (o : Option ℕ) (items : List NamedBucket) → ((n : ℕ) → o ≡ Some n → is_under ps c n ≡ true)
    → takes_reference (part c ps) o items ≡ takes_reference ps o items
reference_alike c ps None items under = refl
reference_alike c ps (Some n) items under = ap (λ (ref : NamedBucket → Option ℕ). list_any (λ x. is_some (ref x)) items) (ref_part c n ps (under n refl))

room_alike : (c : ℕ) (p : Program) (i : Instr) (r : Configuration) → LiesIn c r → fault p r i ≡ None → takes_room (in_part c r) i ≡ takes_room r i
unfolding part place_of_cursor holder_of variable_of named_at
room_alike c p (instr.BSave o b) r s none =
    reference_alike c r.shared.pools (made_on (r.instance.brigades o)) (items_at r b) (λ n is. s.brigades o n (sym (made_is (r.instance.brigades o)) ∙ is))
room_alike c p (instr.Aside at q) r s none =
    reference_alike c r.shared.pools (pool_named r q) (option_to_list (bucket_at (at_cursor r at))) (λ n is. wanted_under c p r s q (wanted_pool r q _ (second_want _ _ none)) n is)
room_alike c p i r s none = refl

pub grows_alike : (c : ℕ) (p : Program) (i : Instr) (r : Configuration) → LiesIn c r → fault p r i ≡ None → grows (in_part c r) i ≡ grows r i
grows_alike c p i r s none = ap₂ (λ (n : ℕ) (t : Bool). nat_lt 0 (n + pool_names_of i) || t) (names_of_alike c i r) (room_alike c p i r s none)
