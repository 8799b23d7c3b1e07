use Rattle.http_front.proofs.StreamOnce.{same_bytes}
use Rattle.http_front.proofs.laws.same_dates_same_bytes.Goals as goal

pub returns : goal.returns
returns c = record { bytes = same_bytes }
