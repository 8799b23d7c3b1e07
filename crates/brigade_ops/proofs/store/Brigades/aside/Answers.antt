use Rattle.std.proofs.Common.{◌≡◌, ℕ, Bool, true, Option, is_some, ap, ◌∙◌}
use Rattle.run_model.specs.declared.bucket.Bucket.{Bucket}
use Rattle.run_model.specs.Cutting.{set_aside}
use Rattle.run_model.specs.Steps.{is_above}
use Rattle.pool_tree.specs.Tree.{map_of}
use Rattle.bucket_ring.specs.declared.names.BucketId.{BucketId}
use Rattle.bucket_ring.specs.Lists.{on, list_at, with_payload}
use Rattle.bucket_store.specs.Items.{Items, count_for, pools_for}
use Rattle.brigade_ops.specs.Store.{lists, brigade_of, pool_of, references}
use Rattle.brigade_ops.proofs.Added.{none_since}
use Rattle.brigade_ops.proofs.Housed.{house_stays, on_some}
use Rattle.bucket_store.proofs.Lists.{some_of}
use Rattle.bucket_store.proofs.Saves.{found_some}
use Rattle.brigade_ops.proofs.Stores.{found_in, found_bucket}
use Rattle.brigade_ops.proofs.store.Brigades.aside.Goals as goal

pub returns-clause-ok : goal.returns-clause-ok
returns-clause-ok g c b m x at is =
    let id = c.args.id in
    let pool = c.args.pool in
    let told = c.file_for-file.ensures x is in
    c.put_aside.ensures.out b m x (ap (λ (f : BucketId → Option ℕ). f id) c.in_ok-refer_for.ensures.brigades ∙ at) (ap (λ (f : BucketId → Option Bucket). f id) c.in_ok-refer_for.ensures.buckets ∙ is)
    ∙ (ap (λ (p : Option ℕ × Bool). on b (with_payload id (set_aside pool p.1 x)) (lists c.refer_for.new.self) m) told
    ∙ ap (λ (ls : ℕ → Option Items). on b (with_payload id (set_aside pool (is_above (map_of c.args.tree.now) pool x.home) x)) ls m) c.in_ok-refer_for.ensures.lists)

pub returns-clause-counted : goal.returns-clause-counted
returns-clause-counted g c x f is =
    ap (λ (r : ℕ → ℕ). r f) c.put_aside.ensures.others.references
    ∙ (c.in_ok-refer_for.ensures.counted f
    ∙ ap (λ (p : Option ℕ × Bool). count_for f p.0 (references c.args.self.now f)) (c.file_for-file.ensures x is))

pub returns-clause-registered : goal.returns-clause-registered
returns-clause-registered g c x is =
    c.in_ok-refer_for.ensures.ok ∙ ap (λ (p : Option ℕ × Bool). pools_for c.args.pool p.0 (map_of c.args.tree.now)) (c.file_for-file.ensures x is)

pub returns-clause-next : goal.returns-clause-next
returns-clause-next g c = c.put_aside.ensures.others.next ∙ c.in_ok-refer_for.ensures.next

pub returns-clause-names : goal.returns-clause-names
returns-clause-names g c =
    none_since _ _ _ _ _ (λ id. ap (λ (f : BucketId → Option ℕ). f id) c.in_ok-refer_for.ensures.brigades) c.in_ok-refer_for.ensures.next c.put_aside.ensures.others.names

pub returns-clause-pools : goal.returns-clause-pools
returns-clause-pools g c = c.put_aside.ensures.others.pools ∙ c.in_ok-refer_for.ensures.pools

pub returns-clause-unasked : goal.returns-clause-unasked
returns-clause-unasked g c = c.put_aside.ensures.others.unasked ∙ c.in_ok-refer_for.ensures.unasked

pub returns-in_err-refer_for-clause-names : goal.returns-in_err-refer_for-clause-names
returns-in_err-refer_for-clause-names g c = c.in_err-refer_for.ensures.names

pub returns-in_err-refer_for-clause-house : goal.returns-in_err-refer_for-clause-house
returns-in_err-refer_for-clause-house g c = c.in_err-refer_for.ensures.house

pub returns-clause-house : goal.returns-clause-house
returns-clause-house g c house =
    let id = c.args.id in
    let before = c.refer_for.new.self in
    let after = c.put_aside.new.self in
    let there : is_some (brigade_of before id) ≡ true = ap (λ (f : BucketId → Option ℕ). is_some (f id)) c.in_ok-refer_for.ensures.brigades ∙ c.requires.there in
    let b = some_of (brigade_of before id) there in
    let x = found_some id (list_at (lists before) b.0) (found_in before id b.0 b.1) in
    house_stays (lists before) (pool_of before) (references before) (map_of c.refer_for.new.tree) (c.in_ok-refer_for.ensures.house house) (lists after) (pool_of after) (references after)
    (λ n p at some. ap is_some (c.put_aside.ensures.out b.0 n x.0 b.1 (found_bucket before id b.0 x.0 b.1 x.1)) ∙ (on_some b.0 n _ (lists before) ∙ some))
    (λ n. ap (λ (f : ℕ → Option ℕ). f n) c.put_aside.ensures.others.pools)
    (λ f. ap (λ (h : ℕ → ℕ). h f) c.put_aside.ensures.others.references)
