-- The birth tells the bucket.
use Rattle.std.proofs.Common.{rules}
use Rattle.bucket_ring.specs.Links.{ring_at, at_of, bucket_of}
use Rattle.bucket_ring.proofs.links.Links.ring_of.Goals as goal

pub returns-in-Bucket : goal.returns-in-Bucket
unfolding ring_at at_of bucket_of
returns-in-Bucket g c = search rules
