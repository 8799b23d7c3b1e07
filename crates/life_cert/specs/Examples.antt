-- Worked texts, by hand: the certificate of the module that passes on what it gets, and a line with cursors and a fact.
use Rattle.std.specs.Prelude.{◌≡◌, true, false, ◌==◌, ◌&&◌, ◌||◌, codes, Some}
use Rattle.run_model.specs.Indexed.{upd}
use Rattle.life_state.specs.declared.parts.Classes.{Classes}
use Rattle.life_state.specs.States.{In, State, Unset}
use Rattle.life_state.specs.Examples.{brought, resting, serving}
use Rattle.life_check.specs.Examples.{given, whole}
use Rattle.life_check.specs.declared.version.CertVersion.TheVariants as version
use Rattle.life_cert.specs.CertText.{cert_text, said_line}
use Rattle.life_cert.specs.StateText.{state_text}

abbrev pub any_class : Classes
any_class = record { bytes = true; flush = true; eos = true }

-- c0 and c1 are at two different buckets of `in`
abbrev pub two_cursors : State
two_cursors = record (serving false brought) {
  cursors = upd (upd (λ k. Unset) 0 (In 8 any_class)) 1 (In 8 any_class);
  facts = λ c d. (c == 0 && d == 1) || (c == 1 && d == 0);
}

pub record WorkedTexts : Type 0 where
  pub identity : cert_text version.One false
      (given (resting true) whole) ≡ codes
      "cert 1\nidle sent=no\nready sent=maybe\n0 sent=no\n1 sent=no\n2 sent=maybe in=u/o/call\n3 sent=no in=u/o/call\n4 sent=maybe in=p\n5 sent=maybe in=u/o/call\n6 sent=maybe in=u/e/-\n7 sent=maybe in=p\nend\n"
  pub second : cert_text (version.Two 0 0 8) false
      (given (resting true) whole) ≡ codes
      "cert 2 full\nvars 0 0\ncode 8\nidle sent=no\nready sent=maybe\n0 sent=no\n1 same 0\n2 sent=maybe in=u/o/call\n3 sent=no in=u/o/call\n4 sent=maybe in=p\n5 same 2\n6 sent=maybe in=u/e/-\n7 same 4\nend\n"
  pub cursors : said_line 6 (Some (state_text two_cursors)) ≡ codes "6 sent=no in=u/o/call c0=in/dfe c1=in/dfe c0!c1\n"
