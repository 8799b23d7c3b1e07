-- Reads of files in memory.
use Rattle.std.proofs.Common.{◌≡◌, ◌≢◌, ℕ, zero, suc, ◌-◌, ◌≤◌, ◌<◌, Bool, true, false, nat_le, cond, List, ◌++◌, length, take, drop, Option, Some, None, refl, sym, ◌∙◌, ap, arith, min}
use Rattle.std.proofs.lemmas.List.{length-take, drop_all, append-nil}
use Rattle.std.proofs.lemmas.Bool.Decides.{nat_tests}
use Rattle.run_model.specs.Files.{Files, part_of, read_part, read_done, fails_after_read, fails_now}
use Rattle.bucket_kinds.specs.Device.{Holds}
use Rattle.bucket_kinds.specs.Answers.{IsFilled}
use Rattle.bucket_kinds.specs.MemAnswers.{planned}

-- A call that fails later comes nearer.
pub after_well : (n : ℕ) → n ≢ 0 → fails_after_read (Some n) ≡ Some (n - 1)
after_well zero not_zero = absurd (not_zero refl)
after_well (suc n) not_zero = ap (λ k. Some k) (omega arith)

pub well_now : (n : ℕ) → n ≢ 0 → fails_now (Some n) ≡ false
well_now zero not_zero = absurd (not_zero refl)
well_now (suc n) not_zero = refl

pub planned_from : (call : ℕ) → 1 ≤ call → planned call ≡ Some (call - 1)
planned_from zero some = absurd (omega (arith, some))
planned_from (suc n) some = ap (λ k. Some k) (omega arith)

at_least : (a b : ℕ) → a ≤ b → nat_le a b ≡ true
at_least a b le = grind (arith, nat_tests)

below : (a b : ℕ) → b < a → nat_le a b ≡ false
below a b lt = grind (arith, nat_tests)

-- A buffer that was filled to its end is the part that was asked for.
pub filled_whole : (bytes : List ℕ) (at : ℕ) (old : List ℕ) (n : ℕ) (new : List ℕ)
    → IsFilled (Holds bytes) at old n new → length old ≤ n → part_of (Some bytes) at (length old) ≡ Some new
filled_whole bytes at old n new filled whole =
    let rest = drop at bytes in
    let count : n ≡ min (length old) (length rest) = filled.0 ∙ length-take (length old) rest in
    let test : nat_le (length old) (length rest) ≡ true = at_least (length old) (length rest) (omega arith) in
    let same : new ≡ take (length old) rest =
    filled.1 ∙ (ap (λ zs. take (length old) rest ++ zs) (drop_all n old whole) ∙ append-nil (take (length old) rest)) in
    ap (λ b. cond b (Some (take (length old) rest)) None) test ∙ ap (λ zs. Some zs) (sym same)

-- Where a text ends too soon there is no such part.
pub filled_short : (bytes : List ℕ) (at : ℕ) (old : List ℕ) (n : ℕ) (new : List ℕ)
    → IsFilled (Holds bytes) at old n new → n < length old → part_of (Some bytes) at (length old) ≡ None
filled_short bytes at old n new filled short =
    let rest = drop at bytes in
    let count : n ≡ min (length old) (length rest) = filled.0 ∙ length-take (length old) rest in
    let test : nat_le (length old) (length rest) ≡ false = below (length old) (length rest) (omega arith) in
    ap (λ b. cond b (Some (take (length old) rest)) None) test

pub read_failing : (fs : Files) (file at n : ℕ) (fails : Bool) → fails ≡ fails_now fs.fails_in → fails ≡ true → read_part file at n fs ≡ None
unfolding read_part
read_failing fs file at n fails now is =
    ap (λ b. cond b None (part_of (fs.opened file) at n)) (sym now ∙ is)

-- A read that goes on well gives what the open file has; the files are those after the read.
pub read_well : (fs gs : Files) (file at n : ℕ) (fails : Bool) (text given : Option (List ℕ))
    → fails ≡ fails_now fs.fails_in → fails ≡ false → gs ≡ read_done fs → gs.opened file ≡ text → part_of text at n ≡ given
    → read_part file at n fs ≡ given
unfolding read_part
read_well fs gs file at n fails text given now is after open_is part =
    ap (λ b. cond b None (part_of (fs.opened file) at n)) (sym now ∙ is)
    ∙ (ap (λ o. part_of o at n) (sym (ap (λ x. x.opened file) after) ∙ open_is) ∙ part)
