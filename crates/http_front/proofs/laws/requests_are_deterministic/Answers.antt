use Rattle.http_front.proofs.ComesOnce.{requests_are_deterministic, requests_keep_files_known}
use Rattle.http_front.proofs.laws.requests_are_deterministic.Goals as goal

pub returns-clause-deterministic : goal.returns-clause-deterministic
returns-clause-deterministic c = requests_are_deterministic

pub returns-clause-known : goal.returns-clause-known
returns-clause-known c = requests_keep_files_known
