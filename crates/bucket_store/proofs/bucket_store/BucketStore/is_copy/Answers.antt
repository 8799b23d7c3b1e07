-- The bytes are compared.
use Rattle.std.proofs.Common.{rules}
use Rattle.bucket_store.proofs.bucket_store.BucketStore.is_copy.Goals as goal

pub returns-in-Placed-Bytes : goal.returns-in-Placed-Bytes
returns-in-Placed-Bytes g c = search rules
