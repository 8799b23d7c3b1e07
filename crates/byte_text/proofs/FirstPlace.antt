-- The first place of a byte is how many bytes stand before it.
use Rattle.std.proofs.Common.{◌≡◌, ℕ, ◌<◌, List, length, Some, None, eqb, arith}
use Rattle.std.specs.List.{position_or_len}
use Rattle.std.proofs.lemmas.Bool.{false_from_ne_true}
use Rattle.std.proofs.lemmas.List.Sums.{position_or_len_is}
use Rattle.memchr.specs.Find.{IsFirstByte, is_byte}

pub none_before : (stop : ℕ) (bytes : List ℕ) → IsFirstByte (is_byte stop) bytes None → position_or_len (λ b. eqb b stop) bytes ≡ length bytes
none_before stop bytes h =
    position_or_len_is (λ b. eqb b stop) bytes (length bytes) 0 (omega arith) (λ k lt. false_from_ne_true _ (h k (omega arith) lt)) (λ lt. absurd (omega arith))

pub some_before : (stop : ℕ) (bytes : List ℕ) (i : ℕ) → IsFirstByte (is_byte stop) bytes (Some i) → position_or_len (λ b. eqb b stop) bytes ≡ i
some_before stop bytes i h =
    let hi : i < length bytes = h.0.high in
    position_or_len_is (λ b. eqb b stop) bytes i 0 (omega arith) (λ k lt. false_from_ne_true _ (h.0.before k (omega arith) lt)) (λ lt. h.1)
