-- They compute, but for the decimals.
use Rattle.std.proofs.Common.{refl, arith}
use Rattle.std.proofs.lemmas.Fmt.{decimal_digit}
use Rattle.run_model.specs.Indexed.{upd}
use Rattle.life_state.specs.Order.{all_below, brigade_leq, leq}
use Rattle.life_cert.specs.CertText.{cert_text, first_with}
use Rattle.life_cert.specs.Examples.{WorkedTexts}
use Rattle.life_cert.specs.StateText.{each, homes_text, state_text}
use Rattle.life_cert.proofs.laws.worked_texts.Goals as goal

worked : WorkedTexts
unfolding upd each homes_text state_text cert_text first_with leq all_below brigade_leq
worked = record {
  identity = rw (
    decimal_digit 0 (omega arith),
    decimal_digit 1 (omega arith),
    decimal_digit 2 (omega arith),
    decimal_digit 3 (omega arith),
    decimal_digit 4 (omega arith),
    decimal_digit 5 (omega arith),
    decimal_digit 6 (omega arith),
    decimal_digit 7 (omega arith),
  ) refl;
  second = rw (
    decimal_digit 0 (omega arith),
    decimal_digit 1 (omega arith),
    decimal_digit 2 (omega arith),
    decimal_digit 3 (omega arith),
    decimal_digit 4 (omega arith),
    decimal_digit 5 (omega arith),
    decimal_digit 6 (omega arith),
    decimal_digit 7 (omega arith),
    decimal_digit 8 (omega arith),
  ) refl;
  cursors = rw (decimal_digit 6 (omega arith), decimal_digit 0 (omega arith), decimal_digit 1 (omega arith)) refl;
}

pub returns : goal.returns
returns c = worked
