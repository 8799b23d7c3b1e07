-- By the steps, which are not bare.
use Rattle.std.proofs.Common.{◌≡◌, true, false}
use Rattle.filter_chain.proofs.host.Host.watched_at.Goals as goal

pub begun_at-requires-clause-checked : goal.begun_at-requires-clause-checked
begun_at-requires-clause-checked g c bare = absurd (let clash : false ≡ true = bare in cc)
