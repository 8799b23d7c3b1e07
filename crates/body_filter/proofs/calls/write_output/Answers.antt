use Rattle.body_filter.proofs.HostLaws.{lent_written, none_written}
use Rattle.body_filter.proofs.calls.write_output.Goals as goal

pub returns-in-Ok-clause-writes : goal.returns-in-Ok-clause-writes
returns-in-Ok-clause-writes g c w hosts = lent_written _ _ _ _ c.write_text.result (c.in-Ok.ensures.lent w hosts) c.write_text.ensures.text

pub returns-in-Err-clause-writes : goal.returns-in-Err-clause-writes
returns-in-Err-clause-writes g c w hosts = none_written _ _ _ (c.in-Err.ensures.missing w hosts)
