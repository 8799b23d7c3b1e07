-- Part by part.
use Rattle.life_cert.proofs.TextLengths.{state_texts_are_short, cert_texts_are_short}
use Rattle.life_cert.proofs.laws.texts_are_short.Goals as goal

pub returns-clause-states : goal.returns-clause-states
returns-clause-states c = state_texts_are_short

pub returns-clause-certificates : goal.returns-clause-certificates
returns-clause-certificates c = cert_texts_are_short
