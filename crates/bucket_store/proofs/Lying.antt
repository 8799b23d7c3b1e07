-- Bytes of POOL buckets lie in the regions of their pools, whatever is done to the buckets.
use Rattle.std.proofs.Common.{◌≡◌, ℕ, Bool, true, false, cond, nat_le, List, [], Option, None, Some, refl, sym, ap, ◌∙◌}
use Rattle.run_model.specs.declared.bucket.Bucket.{Bucket}
use Rattle.run_model.specs.declared.bucket.Content.{Content}
use Rattle.run_model.specs.declared.bucket.Content.TheVariants as content
use Rattle.run_model.specs.declared.bucket.Kind.{Kind}
use Rattle.run_model.specs.declared.bucket.Kind.TheVariants as kind
use Rattle.run_model.specs.Cutting.{read_as, read_of, read_limit, rest_of}
use Rattle.bucket_kinds.specs.declared.stored.Kept.{Kept}
use Rattle.bucket_kinds.specs.declared.stored.Kept.TheVariants as kept
use Rattle.bucket_kinds.specs.declared.stored.Stored.{Stored}
use Rattle.bucket_kinds.specs.Stored.{kept_front, kept_rest, aside}
use Rattle.bucket_store.specs.Morphs.{kind_given}
use Rattle.bucket_store.specs.Shown.{lies_in, lies_right}

-- what no POOL bucket has to place may be kept by each kind
pub each_kind : (k : Kind) (x : Kept) → ((p : ℕ) → lies_in p x ≡ true) → lies_right k x ≡ true
each_kind (kind.Pool p) x all = all p
each_kind k x all = refl

-- what is kept in place of something else by the same kind
pub kept_lies : (k : Kind) (x y : Kept) → ((p : ℕ) → lies_in p x ≡ true → lies_in p y ≡ true) → lies_right k x ≡ true → lies_right k y ≡ true
kept_lies (kind.Pool p) x y step lies = step p lies
kept_lies k x y step lies = refl

-- the two parts
parts_lie : (n : ℕ) (x : Kept) (p : ℕ) → lies_in p x ≡ true → (lies_in p (kept_front n x) ≡ true) × (lies_in p (kept_rest n x) ≡ true)
parts_lie n (kept.Own (content.Bytes bs)) p e = absurd (cc)
parts_lie n (kept.Own c) p e = (refl, refl)
parts_lie n (kept.Placed q) p e = (e, e)

pub front_lies : (n : ℕ) (k : Kind) (x : Kept) → lies_right k x ≡ true → lies_right k (kept_front n x) ≡ true
front_lies n k x lies = kept_lies k x (kept_front n x) (λ p e. (parts_lie n x p e).0) lies

pub rest_lies : (n : ℕ) (k : Kind) (x : Kept) → lies_right k x ≡ true → lies_right k (kept_rest n x) ≡ true
rest_lies n k x lies = kept_lies k x (kept_rest n x) (λ p e. (parts_lie n x p e).1) lies

-- what is set aside
pub aside_lies : (target : ℕ) (above : Bool) (x : Stored) → lies_right x.kind x.kept ≡ true → lies_right (aside target above x).kind (aside target above x).kept ≡ true
aside_lies target above x lies = go x.kind above lies where
  go : (k : Kind) (a : Bool) → lies_right k x.kept ≡ true → lies_right (aside target a (record x { kind = k })).kind (aside target a (record x { kind = k })).kept ≡ true
  go (kind.Pool p) a l = l
  go kind.File true l = refl
  go kind.File false l = refl
  go k a l = refl

-- another kind
pub given_lies : (was k : Kind) (x : Kept) → lies_right was x ≡ true → lies_right (kind_given was k) x ≡ true
given_lies was kind.Heap x lies = refl
given_lies was k x lies = lies

-- a range of a file, and no content
pub range_lies : (k : Kind) (file start len : ℕ) → lies_right k (kept.Own (content.Range file start len)) ≡ true
range_lies k file start len = each_kind k (kept.Own (content.Range file start len)) (λ p. refl)

pub nothing_lies : (k : Kind) → lies_right k (kept.Own content.Nothing) ≡ true
nothing_lies k = each_kind k (kept.Own content.Nothing) (λ p. refl)

-- a bucket that was read, and what is left of it
pub read_lies : (bytes : List ℕ) (x : Bucket) → lies_right x.kind (kept.Own x.content) ≡ true → lies_right (read_of bytes x).0.kind (kept.Own (read_of bytes x).0.content) ≡ true
read_lies bytes x lies = go x.content refl where
  go : (c : Content) → x.content ≡ c → lies_right (read_as bytes x c).0.kind (kept.Own (read_as bytes x c).0.content) ≡ true
  go (content.Bytes bs) e = lies
  go (content.Range file start len) e = refl
  go content.Nothing e = lies

pub read_told : (bytes : List ℕ) (x y : Bucket) (rest : Option Bucket) → (y, rest) ≡ read_of bytes x → lies_right x.kind (kept.Own x.content) ≡ true → lies_right y.kind (kept.Own y.content) ≡ true
read_told bytes x y rest told lies = ap (λ (p : Bucket × Option Bucket). lies_right p.0.kind (kept.Own p.0.content)) told ∙ read_lies bytes x lies

pub left_lies : (x y : Bucket) → (read_of [] x).1 ≡ Some y → lies_right y.kind (kept.Own y.content) ≡ true
left_lies x y is = go x.content refl is where
  at : (b : Bool) (file start len : ℕ) → cond b None (Some (let z : Bucket = record x { content = rest_of read_limit (content.Range file start len) } in z)) ≡ Some y
      → lies_right y.kind (kept.Own y.content) ≡ true
  at true file start len e = cc
  at false file start len e =
      let z : Bucket = record x { content = rest_of read_limit (content.Range file start len) } in
      let same : z ≡ y = cc in
      ap (λ (b : Bucket). lies_right b.kind (kept.Own b.content)) (sym same) ∙ each_kind x.kind (kept.Own (rest_of read_limit (content.Range file start len))) (λ p. refl)

  go : (c : Content) → x.content ≡ c → (read_as [] x c).1 ≡ Some y → lies_right y.kind (kept.Own y.content) ≡ true
  go (content.Bytes bs) e told = cc
  go (content.Range file start len) e told =
      at (nat_le len read_limit) file start len (ap (λ (d : Content). cond (nat_le len read_limit) None (Some (let z : Bucket = record x { content = rest_of read_limit d } in z))) (sym e) ∙ told)
  go content.Nothing e told = cc

-- a POOL bucket whose bytes were placed, and a bucket that has none to place
pub pool_lies : (p : ℕ) (x : Kept) → lies_in p x ≡ true → lies_right (kind.Pool p) x ≡ true
pool_lies p x lies = lies

pub unplaced_lies : (k : Kind) (c : Content) → ((p : ℕ) (bs : List ℕ) → k ≡ kind.Pool p → c ≡ content.Bytes bs → ⊥) → lies_right k (kept.Own c) ≡ true
unplaced_lies (kind.Pool p) (content.Bytes bs) never = absurd (never p bs refl refl)
unplaced_lies (kind.Pool p) c never = refl
unplaced_lies k c never = refl
