use Rattle.std.proofs.Common.{◌≡◌, ◌↔◌, ◌++◌, ◌∷◌, ℕ, drop, is_some, Result, Ok, Err, refl, sym, ap, ◌∙◌}
use Rattle.std.proofs.lemmas.Result.{err_from_is_err_and}
use Rattle.bucket_ring.specs.declared.names.RingRefusal.{RingRefusal}
use Rattle.bucket_ring.specs.declared.names.RingRefusal.TheVariants as ring
use Rattle.bucket_kinds.specs.declared.refusal.SplitError.{SplitError}
use Rattle.bucket_kinds.specs.declared.refusal.SplitError.TheVariants as halving
use Rattle.bucket_store.specs.declared.refusal.SplitRefusal.{SplitRefusal}
use Rattle.bucket_store.specs.declared.refusal.SplitRefusal.TheVariants as split
use Rattle.bucket_store.specs.Refusals.{unsplit, unnamed}
use Rattle.run_model.specs.declared.bucket.Bucket.{Bucket}
use Rattle.run_model.specs.Cutting.{split_at}
use Rattle.bucket_ring.specs.Lists.{on, list_at, front, rest, put_after, with_payload}
use Rattle.bucket_kinds.specs.Stored.{is_whole, shown}
use Rattle.bucket_store.specs.declared.regions.Regions.{Regions}
use Rattle.bucket_store.specs.Items.{Item, Items}
use Rattle.bucket_store.specs.Regions.{look}
use Rattle.bucket_store.specs.BucketStore.{seen}
use Rattle.brigade_ops.specs.Store.{lists, brigade_of, references}
use Rattle.bucket_store.proofs.Lists.{still_in, set_behind, on_after}
use Rattle.bucket_store.proofs.BucketStores.{found_in}
use Rattle.brigade_ops.proofs.Added.{added}
use Rattle.brigade_ops.proofs.store.Brigades.split.Goals as goal

-- a refusal is told as what it was, and as nothing else
module _ {A B P : Type 0} where
  unsplit_metadata : (why : SplitError) → (◌≡◌ {A = Result A SplitError} (Err why) (Err halving.Metadata)) ↔ P → (◌≡◌ {A = Result B SplitRefusal} (Err (unsplit why)) (Err split.Metadata)) ↔ P
  unsplit_metadata halving.TooLong h = (λ e. absurd (cc), λ p. absurd (cc (h.1 p)))
  unsplit_metadata halving.Metadata h = (λ e. h.0 refl, λ p. refl)
  unsplit_metadata halving.NoMemory h = (λ e. absurd (cc), λ p. absurd (cc (h.1 p)))

  unsplit_too_long : (why : SplitError) → (◌≡◌ {A = Result A SplitError} (Err why) (Err halving.TooLong)) ↔ P → (◌≡◌ {A = Result B SplitRefusal} (Err (unsplit why)) (Err split.TooLong)) ↔ P
  unsplit_too_long halving.TooLong h = (λ e. h.0 refl, λ p. refl)
  unsplit_too_long halving.Metadata h = (λ e. absurd (cc), λ p. absurd (cc (h.1 p)))
  unsplit_too_long halving.NoMemory h = (λ e. absurd (cc), λ p. absurd (cc (h.1 p)))

unsplit_unspent : {B P : Type 0} (why : SplitError) → ◌≡◌ {A = Result B SplitRefusal} (Err (unsplit why)) (Err split.NamesSpent) → P
unsplit_unspent halving.TooLong e = absurd (cc)
unsplit_unspent halving.Metadata e = absurd (cc)
unsplit_unspent halving.NoMemory e = absurd (cc)

module _ {A B P : Type 0} {x : A} where
  unnamed_metadata : (why : RingRefusal) → (◌≡◌ {A = Result A SplitError} (Ok x) (Err halving.Metadata)) ↔ P → (◌≡◌ {A = Result B SplitRefusal} (Err (unnamed why)) (Err split.Metadata)) ↔ P
  unnamed_metadata ring.NoMemory h = (λ e. absurd (cc), λ p. absurd (cc (h.1 p)))
  unnamed_metadata ring.NamesSpent h = (λ e. absurd (cc), λ p. absurd (cc (h.1 p)))

  unnamed_too_long : (why : RingRefusal) → (◌≡◌ {A = Result A SplitError} (Ok x) (Err halving.TooLong)) ↔ P → (◌≡◌ {A = Result B SplitRefusal} (Err (unnamed why)) (Err split.TooLong)) ↔ P
  unnamed_too_long ring.NoMemory h = (λ e. absurd (cc), λ p. absurd (cc (h.1 p)))
  unnamed_too_long ring.NamesSpent h = (λ e. absurd (cc), λ p. absurd (cc (h.1 p)))

unnamed_spent : {A B : Type 0} (why : RingRefusal) → ◌≡◌ {A = Result B SplitRefusal} (Err (unnamed why)) (Err split.NamesSpent) → ◌≡◌ {A = Result A RingRefusal} (Err why) (Err ring.NamesSpent)
unnamed_spent ring.NoMemory e = absurd (cc)
unnamed_spent ring.NamesSpent e = refl

pub returns-in_err-front : goal.returns-in_err-front
returns-in_err-front g c =
    let why = c.in_err-front.field-0.0 in
    let gone = err_from_is_err_and c.from_residual.result c.from_residual.ensures.1 in
    rw (gone.1, gone.2) (record {
      ok = tt;
      name = tt;
      metadata = λ x at. unsplit_metadata why (c.in_err-front.ensures.metadata x at);
      too_long = λ x at. unsplit_too_long why (c.in_err-front.ensures.too_long x at);
      next = refl;
      names = λ id there young. there;
      pools = refl;
      references = refl;
      spent = λ is. refl;
      unspent = λ is. unsplit_unspent why is;
      err = λ m. refl;
      unasked = refl;
    })

pub returns-in_err-room_for : goal.returns-in_err-room_for
returns-in_err-room_for g c =
    let why = c.in_err-room_for.field-0.0 in
    let gone = err_from_is_err_and c.from_residual-in_err-room_for.result c.from_residual-in_err-room_for.ensures.1 in
    rw (gone.1, gone.2) (record {
      metadata = λ x at. unnamed_metadata why (c.in_ok-front.ensures.metadata x at);
      too_long = λ x at. unnamed_too_long why (c.in_ok-front.ensures.too_long x at);
      ok = tt;
      name = tt;
      next = c.room_for.ensures.next;
      names = λ id there young. ap is_some (sym (c.room_for.ensures.brigades id)) ∙ there;
      pools = c.room_for.ensures.pools;
      references = c.room_for.ensures.references;
      spent = λ is. refl;
      unspent = λ is. c.in_err-room_for.ensures.spent.0 (unnamed_spent why is);
      err = c.room_for.ensures.lists;
      unasked = c.room_for.ensures.unasked;
    })

pub put_behind-new-requires-clause-whole : goal.put_behind-new-requires-clause-whole
put_behind-new-requires-clause-whole g c = ap (λ (r : Regions). is_whole (look r) c.in_ok-front.rest.kept) c.room_for.ensures.regions
    ∙ c.in_ok-front.ensures.rest_whole

pub put-whole-requires-clause-there : goal.put-whole-requires-clause-there
unfolding brigade_of
put-whole-requires-clause-there g c =
    still_in (g.R.Rings.ring_at c.args.self.now.held.rings.rings c.args.id) _ c.requires.there
    (λ b at. c.put_behind-new.ensures.still b (c.room_for.ensures.brigades c.args.id ∙ at))

pub put-whole-requires-clause-whole : goal.put-whole-requires-clause-whole
put-whole-requires-clause-whole g c =
    ap (λ (r : Regions). is_whole (look r) c.in_ok-front.front.kept) (c.put_behind-new.ensures.regions ∙ c.room_for.ensures.regions)
    ∙ c.in_ok-front.ensures.front_whole

pub returns-clause-references : goal.returns-clause-references
unfolding references
returns-clause-references g c = c.put_behind-new.ensures.references ∙ c.room_for.ensures.references

pub returns-clause-ok : goal.returns-clause-ok
unfolding seen lists brigade_of
returns-clause-ok g c b m x at is =
    let s = c.args.self.now.held in
    let roomy = c.room_for.new.self in
    let last = c.put_behind-new.new.self.held in
    let see = look s.regions in
    let id = c.args.id in
    let n = c.args.n in
    let new = c.put_behind-new.result in
    let first = c.in_ok-front.front in
    let second = c.in_ok-front.rest in
    let y : Item = (new, shown see second) in
    let xs : Items = list_at (seen s) b in
    let at_now = c.room_for.ensures.brigades id ∙ at in
    let same : last.regions ≡ s.regions = c.put_behind-new.ensures.regions ∙ c.room_for.ensures.regions in
    let change : ((k : ℕ) → seen last k ≡ on b (put_after id y) (seen s) k) = λ k. (
    c.put_behind-new.ensures.out b k at_now
    ∙ added b k (put_after id) new (shown (look roomy.held.regions) second) (shown see second) (seen s) (lists roomy)
    (ap (λ (r : Regions). shown (look r) second) c.room_for.ensures.regions) c.room_for.ensures.lists) in
    c.put-whole.ensures.out b m (c.put_behind-new.ensures.still b at_now)
    ∙ (ap (λ (r : Regions). on b (with_payload id (shown (look r) first)) (seen last) m) same
    ∙ on_after b m (put_after id y) (with_payload id (shown see first)) (λ zs. front id zs ++ (id, (split_at n x).0) ∷ (new, (split_at n x).1) ∷ drop 1 (rest id zs)) (seen s) (seen last) change
    (set_behind id y (shown see first) xs (found_in s id b at)
    ∙ (ap (λ (z : Bucket). front id xs ++ (id, z) ∷ y ∷ drop 1 (rest id xs)) (c.in_ok-front.ensures.front x is)
    ∙ ap (λ (z : Bucket). front id xs ++ (id, (split_at n x).0) ∷ (new, z) ∷ drop 1 (rest id xs)) (c.in_ok-front.ensures.rest x is))))
