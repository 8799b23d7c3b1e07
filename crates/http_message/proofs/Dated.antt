-- The Date line.
use Rattle.std.proofs.Common.{◌≡◌, ℕ, ◌<◌, List, ◌++◌, ap, ◌∙◌, sym, arith}
use Rattle.std.specs.Prelude.{codes}
use Rattle.httpdate.specs.Date.{unix_secs, date_text}
use Rattle.httpdate.specs.Text.{imf_fixdate}
use Rattle.httpdate.specs.declared.date.HttpDate.{HttpDate}
use Rattle.httpdate.proofs.Theorems.{unix_secs_injective}
use Rattle.http_message.specs.Replying.{IsDateLine}

-- a line that shows one date of a second shows each
pub dated : (moment : ℕ) (date : HttpDate) (line : List ℕ) → unix_secs date ≡ moment → moment < 253402300800
    → line ≡ codes "Date: " ++ date_text date ++ codes "\r\n" → IsDateLine moment line
dated moment date line at early shown = record {
  date = λ d before secs. shown ∙ ap (λ p. codes "Date: " ++ imf_fixdate p ++ codes "\r\n") (unix_secs_injective date d (at ∙ sym secs));
  none = λ late. absurd (omega arith);
}
