-- What is read stands at the front of the buffer, and the slice goes on behind it.
use Rattle.std.proofs.Common.{◌≡◌, ◌-◌, ◌≤◌, ℕ, List, ◌++◌, length, take, drop, arith, refl}
use Rattle.std.proofs.lemmas.Grind.{common_steps}
use Rattle.byte_streams.proofs.source.RefSliceU8Source.read.Goals as goal

goes_on : (all read rest : List ℕ) (n : ℕ) → n ≤ length all → read ≡ take n all → all ≡ take n (read ++ rest) ++ take (length all - n) (drop n all)
goes_on all read rest n fits is = grind (arith, common_steps, fits, is)

pub returns : goal.returns
returns c = (
  omega (arith, c.if-count-eq0.false),
  grind (arith, common_steps, c.min-count.ensures, c.copy_from_slice.ensures.len),
  goes_on c.args.self.now.now c.copy_from_slice.new.self _ c.min-count.result (omega (arith, c.min-count.ensures)) c.copy_from_slice.ensures.after,
  refl,
)
