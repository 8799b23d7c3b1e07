-- The parts of a range are copied one by one, so they make the same range.
use Rattle.std.proofs.Common.{sym}
use Rattle.bucket_kinds.proofs.cutting.content_copy.Goals as goal

pub returns-in-Range-clause-ok : goal.returns-in-Range-clause-ok
returns-in-Range-clause-ok c = sym c.in-Range.is
