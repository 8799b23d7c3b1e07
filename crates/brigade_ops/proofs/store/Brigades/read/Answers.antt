use Rattle.std.proofs.Common.{◌≡◌, sym, subst, ◌∙◌}
use Rattle.std.proofs.lemmas.Option.{same_Some}
use Rattle.run_model.specs.declared.bucket.Bucket.{Bucket}
use Rattle.bucket_ring.specs.Lists.{list_at, found}
use Rattle.brigade_ops.specs.Reads.{IsBucketRead}
use Rattle.brigade_ops.specs.Store.{lists, brigade_of, bucket_at, next_name}
use Rattle.bucket_store.proofs.Lists.{and_then_told}
use Rattle.brigade_ops.proofs.Unread.{unread_is}
use Rattle.bucket_store.specs.BucketStore.{seen}
use Rattle.brigade_ops.proofs.store.Brigades.read.Goals as goal

pub read_range-requires-clause-ends : goal.read_range-requires-clause-ends
read_range-requires-clause-ends g c = c.requires.ends c.in-Some.bucket c.in-Some.ensures.here

pub read_range-requires-clause-open : goal.read_range-requires-clause-open
read_range-requires-clause-open g c = c.requires.open c.in-Some.bucket c.in-Some.ensures.here

pub returns-in-Some-clause-read : goal.returns-in-Some-clause-read
returns-in-Some-clause-read g c x is =
    let same : c.in-Some.bucket ≡ x = same_Some c.in-Some.bucket x (sym c.in-Some.ensures.here ∙ is) in
    let told : IsBucketRead c.args.id c.in-Some.bucket (brigade_of c.args.self.now c.args.id) (g.F.Files.device c.args.files.now) (g.F.Files.device c.read_range.new.files) (lists c.args.self.now)
    (lists c.read_range.new.self) (next_name c.args.self.now) (next_name c.read_range.new.self) c.read_range.result = search c.read_range.ensures in
    subst (λ (y : Bucket). IsBucketRead c.args.id y (brigade_of c.args.self.now c.args.id) (g.F.Files.device c.args.files.now) (g.F.Files.device c.read_range.new.files) (lists c.args.self.now)
    (lists c.read_range.new.self) (next_name c.args.self.now) (next_name c.read_range.new.self) c.read_range.result) same told

pub returns-in-None-clause-read : goal.returns-in-None-clause-read
unfolding lists brigade_of bucket_at next_name
returns-in-None-clause-read g c x is =
    let s = c.args.self.now.held in
    unread_is c.args.id (g.R.Rings.ring_at s.rings.rings c.args.id) (g.F.Files.device c.args.files.now) (seen s) (g.R.Rings.next_name s.rings.rings) x
    (sym (c.range_at.ensures.range x is) ∙ c.in-None.is)
    (λ b at. and_then_told (g.R.Rings.ring_at s.rings.rings c.args.id) (λ q. found c.args.id (list_at (seen s) q)) b x at is)
