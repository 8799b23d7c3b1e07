-- The length of the bucket is added.
use Rattle.std.proofs.Common.{ℕ, ◌+◌, ◌-◌, ◌^◌, min, arith, refl, ap, ◌∙◌}
use Rattle.brigade_ops.proofs.walking.LengthsVisitor.stops_at.Goals as goal

pub returns : goal.returns
returns c = (
  refl,
  omega (arith, c.len.ensures, c.len.type_inv),
  c.saturating_add-self.ensures ∙ ap (λ (n : ℕ). min (c.args.self.now.total + n) (2 ^ 128 - 1)) c.len.ensures,
)
