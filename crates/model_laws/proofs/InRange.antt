-- A step keeps numbers and the buffer in range, and what is held bytes.
use Rattle.std.proofs.Common.{◌≡◌, ℕ, ◌+◌, ◌^◌, ◌<◌, ◌≤◌, Bool, true, false, not, ◌&&◌, cond, nat_lt, nat_le, min, List, [], ◌∷◌, ◌++◌, length, Option, Some, None, inl, inr, refl, sym, subst, arith}
use Rattle.std.specs.List.{list_any}
use Rattle.std.proofs.lemmas.Bool.Decides.{nat_tests}
use Rattle.std.proofs.lemmas.List.Elements.{All-nil, All-cons, All-append}
use Rattle.std.proofs.lemmas.List.{length-append}
use Rattle.module_code.specs.Args.{is_value}
use Rattle.module_code.specs.declared.instr.Value.{Value}
use Rattle.module_code.specs.declared.instr.Value.TheVariants as value
use Rattle.module_code.specs.declared.instr.Instr.{Instr}
use Rattle.module_code.specs.declared.instr.Instr.TheVariants as instr
use Rattle.module_code.specs.Program.{Program, fits}
use Rattle.run_model.specs.Pools.{Pools}
use Rattle.run_model.specs.Clearing.{run_down}
use Rattle.run_model.specs.RunOrder.{run_order}
use Rattle.run_model.specs.Payloads.{is_file_ref}
use Rattle.run_model.specs.declared.payload.Payload.{Payload}
use Rattle.run_model.specs.Files.{Files, is_referred, let_go}
use Rattle.run_model.specs.State.{Configuration, with_pools, set_number}
use Rattle.run_model.specs.Cursors.{at_cursor, read_cursor}
use Rattle.run_model.specs.BucketSteps.{byte_of, content_at, got}
use Rattle.run_model.specs.declared.effect.Effect.{Effect}
use Rattle.run_model.specs.declared.effect.Effect.TheVariants as effect
use Rattle.run_model.specs.declared.effect.NewNumber.TheVariants.{LengthAt, ByteRead, ValueGiven, Plus, Minus}
use Rattle.run_model.specs.EffectOf.{effect_of}
use Rattle.run_model.specs.Steps.{do_effect, Choice, step, do_put, value_of, is_full, last_value}
use Rattle.model_laws.specs.Ranges.{AreBytes, FileBytes, BufferInRange, InRange, StepKeepsInRange, StepKeepsBuffer}
use Rattle.run_model.proofs.Updates.{upd_either}
use Rattle.run_model.specs.declared.effect.ClearKind.TheVariants.{Clear, Destroy}
use Rattle.model_laws.proofs.PoolsGone.{pool_emptied, on_emptied}
use Rattle.model_laws.proofs.NamedPools.{with_buffer}
use Rattle.model_laws.proofs.Unchanged.{effect_changes_only, step_changes_only}
use Rattle.model_laws.proofs.Origins.{Holds}
use Rattle.model_laws.proofs.StepFiles.{neither}
use Rattle.model_laws.proofs.HeldBytes.{OfBytes, step_holds, byte_there}

-- The buffer.

pub bare_buffer : BufferInRange []
bare_buffer = record { bytes = All-nil (λ b. b ≤ 255); size = omega arith }

put_buffer : (x : Value) (r : Configuration) → BufferInRange r.call.buffer → BufferInRange (do_put x r).call.buffer
put_buffer x r s = by_test (is_full r x) refl where
  put : (v : ℕ) → nat_lt 255 v ≡ false → nat_le 8000 (length r.call.buffer) ≡ false → BufferInRange (r.call.buffer ++ v ∷ [])
  put v small room = record {
    bytes = All-append (λ b. b ≤ 255) r.call.buffer (v ∷ []) s.bytes (All-cons (λ b. b ≤ 255) v [] (grind (arith, nat_tests)) (All-nil (λ b. b ≤ 255)));
    size = let lt : length r.call.buffer < 8000 = grind (arith, nat_tests) in omega (arith, length-append r.call.buffer (v ∷ []));
  }

  by_test : (b : Bool) → is_full r x ≡ b → BufferInRange (cond b r (with_buffer (r.call.buffer ++ value_of r x ∷ []) r)).call.buffer
  by_test true is = s
  by_test false is = let parts = neither (nat_lt 255 (value_of r x)) (nat_le 8000 (length r.call.buffer)) is in put (value_of r x) parts.0 parts.1

pub step_buffer : StepKeepsBuffer
step_buffer p choice (instr.Put x l) r s = put_buffer x r s
step_buffer p choice instr.ClearBuf r s = bare_buffer
step_buffer p choice (instr.Ret st) r s = bare_buffer
step_buffer p choice i r s = subst BufferInRange (sym ((step_changes_only p choice i r).buffer refl)) s

-- Numbers.

number_set : (n v : ℕ) (r : Configuration) → v ≤ 4294967295 → ((k : ℕ) → r.instance.numbers k ≤ 4294967295) → (k : ℕ) → (set_number n v r).instance.numbers k ≤ 4294967295
unfolding set_number
number_set n v r le s k = elim (upd_either r.instance.numbers n k v) [
  | inl q ↦ subst (λ (x : ℕ). x ≤ 4294967295) (sym q.1) le
  | inr q ↦ subst (λ (x : ℕ). x ≤ 4294967295) (sym q.1) (s k)
]

value_range : (x : Value) (r : Configuration) → is_value x ≡ true → ((k : ℕ) → r.instance.numbers k ≤ 4294967295) → value_of r x ≤ 4294967295
value_range (value.Number i) r h s = s i
value_range (value.Constant k) r h s = below k h where
  below : (k : ℕ) → nat_lt k (2 ^ 32) ≡ true → k ≤ 4294967295
  below k h = grind (arith, nat_tests)

second : (a b : Bool) → (a && b) ≡ true → b ≡ true
second true b h = h
second false b h = absurd (cc)

-- a sum and a length stop at the last value
least : (m : ℕ) → min last_value m ≤ 4294967295
least m = grind (arith, nat_tests)

got_range : (n : ℕ) (o : Option ℕ) (r : Configuration) → ((v : ℕ) → o ≡ Some v → v ≤ 255) → ((k : ℕ) → r.instance.numbers k ≤ 4294967295) → (k : ℕ) → (got n o r).instance.numbers k ≤ 4294967295
got_range n None r small s = s
got_range n (Some v) r small s = number_set n v r (let le : v ≤ 255 = small v refl in omega arith) s

-- an effect that gives a number this value
abbrev gives_value : Effect → Bool
gives_value (effect.Number n (ValueGiven x)) = true
gives_value e = false

effect_numbers : (p : Program) (choice : Choice) (e : Effect) (r : Configuration) → gives_value e ≡ false → Holds OfBytes r → ((k : ℕ) → r.instance.numbers k ≤ 4294967295) → (k : ℕ)
    → (do_effect p choice e r).instance.numbers k ≤ 4294967295
effect_numbers p choice (effect.Number n (LengthAt c)) r other held s = number_set n _ r (least _) s
effect_numbers p choice (effect.Number n (ByteRead x)) r other held s =
    got_range n (byte_of (value_of r x) (content_at (at_cursor r read_cursor))) r (λ v is. byte_there r read_cursor (value_of r x) v held is) s
effect_numbers p choice (effect.Number n (Plus x)) r other held s = number_set n _ r (least (r.instance.numbers n + value_of r x)) s
effect_numbers p choice (effect.Number n (Minus x)) r other held s = number_set n _ r (let le : r.instance.numbers n ≤ 4294967295 = s n in omega arith) s
effect_numbers p choice (effect.Number n (ValueGiven x)) r other held s = absurd (cc)
effect_numbers p choice e r other held s = λ k. subst (λ (v : ℕ). v ≤ 4294967295) (sym ((effect_changes_only p choice e r).numbers k refl)) (s k)

step_numbers : (p : Program) (choice : Choice) (i : Instr) (r : Configuration) → fits p i ≡ true → Holds OfBytes r → ((k : ℕ) → r.instance.numbers k ≤ 4294967295) → (k : ℕ)
    → (step p choice i r).state.instance.numbers k ≤ 4294967295
step_numbers p choice (instr.Set n x) r fit held s = number_set n (value_of r x) r (value_range x r (second (nat_lt n 8) (is_value x) fit) s) s
step_numbers p choice i r fit held s = effect_numbers p choice (effect_of i) r refl held s

-- Files.

gone_files : (handed : List (ℕ × Payload)) (ps : Pools Payload) (fs : Files) → FileBytes fs → FileBytes (let_go handed ps fs)
gone_files handed ps fs s = record { named = s.named; opened = λ file bytes is. by_test file bytes (list_any (λ x. is_file_ref file x.1) handed && not (is_referred ps file)) is } where
  by_test : (file : ℕ) (bytes : List ℕ) (b : Bool) → cond b None (fs.opened file) ≡ Some bytes → AreBytes bytes
  by_test file bytes true is = absurd (cc)
  by_test file bytes false is = s.opened file bytes is

pub emptied_files : (left : Pools Payload) (n : ℕ) (r : Configuration) → FileBytes r.shared.files → FileBytes (pool_emptied left n r).shared.files
unfolding with_pools run_down
emptied_files left n r s = gone_files (run_order r.shared.pools n) left r.shared.files s

step_files : (p : Program) (choice : Choice) (i : Instr) (r : Configuration) → FileBytes r.shared.files → FileBytes (step p choice i r).state.shared.files
step_files p choice (instr.PClear q) r s = on_emptied (λ x. FileBytes x.shared.files) Clear q r s (λ n left e so. emptied_files left n r s)
step_files p choice (instr.PDestroy q) r s = on_emptied (λ x. FileBytes x.shared.files) Destroy q r s (λ n left e so. emptied_files left n r s)
step_files p choice i r s = subst FileBytes (sym ((step_changes_only p choice i r).files refl)) s

-- Steps.

held : (r : Configuration) → InRange r → Holds OfBytes r
held r s = record { brigades = s.brigades; loose = s.loose }

pub step_in_range : StepKeepsInRange
step_in_range p choice i r m fit gives s =
    let left = step_holds p choice i r m gives s.buffer.bytes (held r s) in record {
      numbers = step_numbers p choice i r fit (held r s) s.numbers;
      buffer = step_buffer p choice i r s.buffer;
      brigades = left.brigades;
      loose = left.loose;
      files = step_files p choice i r s.files;
    }
