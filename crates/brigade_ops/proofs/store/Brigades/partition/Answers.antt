-- A bucket that the point lies inside is data, and longer than what stands before the point.
use Rattle.std.proofs.Common.{◌≡◌, ◌<◌, ◌+◌, ℕ, true, false, cond, Some, Ok, Err, refl, sym, ap, ◌∙◌, arith}
use Rattle.std.proofs.lemmas.Bool.{false≢true}
use Rattle.run_model.specs.Buckets.{is_data_kind}
use Rattle.run_model.specs.Cutting.{length_of}
use Rattle.run_model.specs.declared.bucket.Bucket.{Bucket}
use Rattle.bucket_ring.specs.declared.names.BucketId.{BucketId}
use Rattle.bucket_ring.specs.Lists.{list_at}
use Rattle.bucket_store.specs.declared.refusal.SplitRefusal.{SplitRefusal}
use Rattle.bucket_store.specs.declared.parting.Point.{Point}
use Rattle.bucket_store.specs.declared.parting.Point.TheVariants.{At, Inside}
use Rattle.bucket_store.specs.Points.{cut_at, is_inside}
use Rattle.bucket_store.specs.Items.{Items}
use Rattle.brigade_ops.specs.Store.{lists, brigade_of, bucket_at, next_name}
use Rattle.bucket_store.proofs.Parts.{inside_short, bytes_are_data}
use Rattle.bucket_store.proofs.Saves.{found_some}
use Rattle.brigade_ops.proofs.Stores.{counted, found_in, found_bucket}
use Rattle.bucket_store.proofs.Walks.{once_listed}
use Rattle.brigade_ops.proofs.store.Brigades.partition.Goals as goal
use Rattle.brigade_ops.proofs.store.Brigades.partition.Goals.{In-Inside}

inside : (g : _) (c : In-Inside g)
    → (x : Bucket) × (bucket_at c.args.self.now c.in-Inside.id ≡ Some x) × (is_data_kind x.kind ≡ true) × (c.in-Inside.n < length_of x.content)
inside g c =
    let store = c.args.self.now in
    let id = c.in-Inside.id in
    let n = c.in-Inside.n in
    let b = c.args.b in
    let xs : Items = list_at (lists store) b in
    let at = c.find.ensures.inside id n c.in-Inside.is in
    let x = found_some id xs (found_in store id b at) in
    let is = found_bucket store id b x.0 at x.1 in
    let long = inside_short id c.args.point n x.0 xs (λ i. once_listed b (brigade_of store i) _ (counted store i b)) (sym c.find.ensures.value ∙ c.in-Inside.is) x.1 in
    (x.0, is, bytes_are_data x.0.kind x.0.content n (c.requires.fits id x.0 at is) long, long)

-- a point that is not inside a bucket is inside none
outside : (found point : Point) (id : BucketId) (n : ℕ) → found ≡ point → is_inside found ≡ false → point ≡ Inside id n → false ≡ true
outside found point id n same out is = sym out ∙ ap is_inside (same ∙ is)

pub returns-in-Short-clause-inside : goal.returns-in-Short-clause-inside
returns-in-Short-clause-inside g c id n x h is = absurd (false≢true (outside c.find.result _ id n c.find.ensures.value (ap is_inside c.in-Short.is) h))

pub returns-in-Short-clause-next : goal.returns-in-Short-clause-next
returns-in-Short-clause-next g c = ap (λ (p : Point). cond (is_inside p) (next_name c.args.self.now + 1) (next_name c.args.self.now)) (sym c.in-Short.is ∙ c.find.ensures.value)

pub returns-in-At-None-clause-inside : goal.returns-in-At-None-clause-inside
returns-in-At-None-clause-inside g c id n x h is = absurd (false≢true (outside c.find.result _ id n c.find.ensures.value (ap is_inside c.in-At-None.is) h))

pub returns-in-At-None-clause-next : goal.returns-in-At-None-clause-next
returns-in-At-None-clause-next g c = ap (λ (p : Point). cond (is_inside p) (next_name c.args.self.now + 1) (next_name c.args.self.now)) (sym c.in-At-None.is ∙ c.find.ensures.value)

pub returns-in-At-Some-clause-inside : goal.returns-in-At-Some-clause-inside
returns-in-At-Some-clause-inside g c id n x h is = absurd (false≢true (outside c.find.result _ id n c.find.ensures.value (ap is_inside c.in-At-Some.is) h))

pub returns-in-At-Some-clause-next : goal.returns-in-At-Some-clause-next
returns-in-At-Some-clause-next g c = ap (λ (p : Point). cond (is_inside p) (next_name c.args.self.now + 1) (next_name c.args.self.now)) (sym c.in-At-Some.is ∙ c.find.ensures.value)

pub returns-in-Ok-clause-between : goal.returns-in-Ok-clause-between
returns-in-Ok-clause-between g c none = absurd (false≢true (sym none ∙ (sym (ap is_inside c.find.ensures.value) ∙ ap is_inside c.in-Inside.is)))

pub returns-in-Ok-clause-names : goal.returns-in-Ok-clause-names
returns-in-Ok-clause-names g c = c.split.ensures.names

pub returns-in-Err-NamesSpent-clause-between : goal.returns-in-Err-NamesSpent-clause-between
returns-in-Err-NamesSpent-clause-between g c none = absurd (false≢true (sym none ∙ (sym (ap is_inside c.find.ensures.value) ∙ ap is_inside c.in-Inside.is)))

pub returns-in-Err-NamesSpent-clause-names : goal.returns-in-Err-NamesSpent-clause-names
returns-in-Err-NamesSpent-clause-names g c = c.split.ensures.names

pub returns-in-Err-NoMemory-clause-between : goal.returns-in-Err-NoMemory-clause-between
returns-in-Err-NoMemory-clause-between g c none = absurd (false≢true (sym none ∙ (sym (ap is_inside c.find.ensures.value) ∙ ap is_inside c.in-Inside.is)))

pub returns-in-Err-NoMemory-clause-names : goal.returns-in-Err-NoMemory-clause-names
returns-in-Err-NoMemory-clause-names g c = c.split.ensures.names

pub returns-in-Ok-clause-next : goal.returns-in-Ok-clause-next
returns-in-Ok-clause-next g c = c.in-Ok.ensures.next ∙ ap (λ (p : Point). cond (is_inside p) (next_name c.args.self.now + 1) (next_name c.args.self.now)) (sym c.in-Inside.is ∙ c.find.ensures.value)

pub unreachable-requires : goal.unreachable-requires
unreachable-requires g c =
    let x = inside g (goal.at.unreachable-requires g c).In-Inside in
    let is_data : is_data_kind x.0.kind ≡ true = x.2 in
    let none : is_data_kind x.0.kind ≡ false =
    (c.split.ensures.metadata x.0 x.1).0 (c.in-Err-Metadata.is ∙ ap (λ (e : SplitRefusal). Err e) c.in-Err-Metadata.field-0-is) in
    cc

pub unreachable-requires-in-Err-TooLong : goal.unreachable-requires-in-Err-TooLong
unreachable-requires-in-Err-TooLong g c =
    let x = inside g (goal.at.unreachable-requires-in-Err-TooLong g c).In-Inside in
    let long : c.in-Inside.n < length_of x.0.content = x.3 in
    let over : length_of x.0.content < c.in-Inside.n =
    ((c.split.ensures.too_long x.0 x.1).0 (c.in-Err-TooLong.is ∙ ap (λ (e : SplitRefusal). Err e) c.in-Err-TooLong.field-0-is)).1 in
    omega arith

pub returns-in-Short-clause-between : goal.returns-in-Short-clause-between
returns-in-Short-clause-between g c out = (ap (λ (p : Point). Ok (cut_at p)) (sym c.in-Short.is ∙ c.find.ensures.value), λ m. refl)

pub returns-in-At-None-clause-between : goal.returns-in-At-None-clause-between
returns-in-At-None-clause-between g c out = (ap (λ (p : Point). Ok (cut_at p)) (sym (c.in-At-None.is ∙ ap At c.in-At-None.field-0-is) ∙ c.find.ensures.value), λ m. refl)

pub returns-in-At-Some-clause-between : goal.returns-in-At-Some-clause-between
returns-in-At-Some-clause-between g c out = (ap (λ (p : Point). Ok (cut_at p)) (sym (c.in-At-Some.is ∙ ap At c.in-At-Some.field-0-is) ∙ c.find.ensures.value), λ m. refl)
