-- Where the read did not fail and gave less than there is room for, the file ends within.
use Rattle.std.proofs.Common.{◌≡◌, ◌≢◌, ℕ, List, length, drop, inl, inr, sym, ap, subst, ◌∙◌, arith}
use Rattle.std.proofs.lemmas.List.{length-take}
use Rattle.bucket_kinds.specs.Device.{Held, Missing, Untold, Holds}
use Rattle.bucket_kinds.specs.Answers.{IsFilled}
use Rattle.bucket_kinds.specs.Reading.{MayEnd}
use Rattle.bucket_kinds.proofs.reading.fetch.Goals as goal
use Rattle.bucket_kinds.proofs.reading.fetch.Goals.{in_default-via-in-Ok+else-filled-count, in_default-via-in_default}

ends_within : (h : Held) (at : ℕ) (old : List ℕ) (n : ℕ) (new : List ℕ) → IsFilled h at old n new → n ≢ length old → MayEnd h at (length old)
ends_within Missing at old n new filled short = filled
ends_within Untold at old n new filled short = omega arith
ends_within (Holds text) at old n new filled short =
    let count = length-take (length old) (drop at text) in
    omega (arith, filled.0, count)

pub returns-in_default-clause-fault : goal.returns-in_default-clause-fault
returns-in_default-clause-fault g c =
    let held = (g.F.Files.device c.args.files.now).numbered c.args.file in
    let old = c.as_mut_slice.result.now in
    let same : old ≡ c.args.room = c.as_mut_slice.ensures.value in
    elim c.in_default.branch [
      | in_default-via-in-Ok+else-filled-count w ↦ (
          let read = w.in-Ok.ensures in
          let short : w.in-Ok.filled ≢ length old = λ e. w.if-filled-count.false (e ∙ (ap (λ (xs : List ℕ). length xs) same ∙ sym c.len-count.ensures)) in
          inr (read.1, subst (λ (xs : List ℕ). MayEnd held c.args.start (length xs)) same (ends_within held c.args.start old w.in-Ok.filled c.read_at.new.buffer read.0 short)))
      | in_default-via-in_default w ↦ inl (w.in_default.ensures.1)
    ]
