use Rattle.std.proofs.Common.{◌≡◌, ◌+◌, ◌*◌, ◌^◌, min, arith, ◌∙◌}
use Rattle.std.proofs.Math.Nat.{mul-le-mul_left}
use Rattle.std.specs.Char.{is_ascii_hexdigit}
use Rattle.author_text.proofs.NumberReadLaws.{all_at, capped_more}
use Rattle.author_text.proofs.scan.number_of.Goals as goal

pub loop-byte-preserved : goal.loop-byte-preserved
loop-byte-preserved c =
    let value = c.loop-byte.value in
    let bound = mul-le-mul_left value c.requires.high in
    let next : c.min-value.result ≡ min (value * c.args.base + c.digit_of.result) (2 ^ 32) = omega (arith, bound, c.loop-byte.invariant.within, c.digit_of.ensures.small) in
    record {
      read = λ all.
          capped_more c.args.base value c.digit_of.result c.min-value.result (2 ^ 32) c.loop-byte.byte-index c.args.digits.now c.requires.low (omega arith)
          (c.digit_of.ensures.value (all_at is_ascii_hexdigit c.args.digits.now c.loop-byte.byte-index all (omega arith))) next ∙ c.loop-byte.invariant.read all;
      within = omega arith;
    }
