-- Each part of the rule is asked.
use Rattle.std.proofs.Common.{rules}
use Rattle.life_check.proofs.shape.fits_line.Goals as goal

pub returns-in-Some-clause-value : goal.returns-in-Some-clause-value
returns-in-Some-clause-value c = search rules
