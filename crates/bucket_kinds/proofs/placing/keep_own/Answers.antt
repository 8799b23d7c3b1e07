-- It has the parts of the bucket.
use Rattle.std.proofs.Common.{refl}
use Rattle.bucket_kinds.proofs.placing.keep_own.Goals as goal

pub returns : goal.returns
returns c = refl
