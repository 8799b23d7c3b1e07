-- Stored buckets are cut and set aside as the buckets that they show.
use Rattle.std.proofs.Common.{◌≡◌, ◌<◌, ◌≤◌, ◌+◌, ◌-◌, ◌^◌, ℕ, suc, zero, Bool, true, false, nat_le, nat_lt, List, [], ◌∷◌, take, drop, length, Option, None, Some, is_some, refl, sym, ap, ◌∙◌, arith}
use Rattle.std.proofs.lemmas.Bool.{leb-true, le-leb, ltb-true, lt-ltb, and_parts, false≢true}
use Rattle.std.proofs.lemmas.List.{drop-drop, drop-take, length-take-le, length-drop}
use Rattle.run_model.specs.declared.bucket.Bucket.{Bucket}
use Rattle.run_model.specs.declared.bucket.Content.TheVariants as content
use Rattle.run_model.specs.declared.bucket.Kind.{Kind}
use Rattle.run_model.specs.declared.bucket.Kind.TheVariants as kind
use Rattle.run_model.specs.Cutting.{EndsInFile, length_of, front_of, rest_of, split_at, set_aside}
use Rattle.bucket_kinds.specs.declared.stored.RegionBytes.{RegionBytes}
use Rattle.bucket_kinds.specs.declared.stored.Kept.{Kept}
use Rattle.bucket_kinds.specs.declared.stored.Kept.TheVariants as kept
use Rattle.bucket_kinds.specs.declared.stored.Stored.{Stored}
use Rattle.bucket_kinds.specs.Stored.{Look, part, has_part, is_whole, shown_content, shown, kept_length, EndsInBytes, kept_front, kept_rest, parts_at, aside}

take_take : (n m : ℕ) (xs : List ℕ) → n ≤ m → take n (take m xs) ≡ take n xs
take_take zero m xs le = refl
take_take (suc n) zero xs le = absurd (omega arith)
take_take (suc n) (suc m) [] le = refl
take_take (suc n) (suc m) (x ∷ xs) le = ap (λ ys. x ∷ ys) (take_take n m xs (omega arith))

pub part_there : (o : Option (List ℕ)) (p : RegionBytes) → has_part o p ≡ true → is_some o ≡ true
part_there None p e = absurd (false≢true e)
part_there (Some bs) p e = refl

pub part_within : (o : Option (List ℕ)) (bs : List ℕ) (p : RegionBytes) → o ≡ Some bs → has_part o p ≡ true → p.start + p.len ≤ length bs
part_within o bs p is e = leb-true (p.start + p.len) (length bs) (and_parts (nat_le (p.start + p.len) (length bs)) (nat_lt (p.start + p.len) (2 ^ 64)) (sym (ap (λ q. has_part q p) is) ∙ e)).0

pub part_ends : (o : Option (List ℕ)) (p : RegionBytes) → has_part o p ≡ true → p.start + p.len < 2 ^ 64
part_ends None p e = absurd (false≢true e)
part_ends (Some bs) p e = ltb-true (p.start + p.len) (2 ^ 64) (and_parts (nat_le (p.start + p.len) (length bs)) (nat_lt (p.start + p.len) (2 ^ 64)) e).1

pub has_part_is : (bs : List ℕ) (p : RegionBytes) → p.start + p.len ≤ length bs → p.start + p.len < 2 ^ 64 → has_part (Some bs) p ≡ true
has_part_is bs p within ends = rw (le-leb (p.start + p.len) (length bs) within, lt-ltb (p.start + p.len) (2 ^ 64) ends) refl

module _ (look : Look) where
  pub ends_kept : (k : Kept) → is_whole look k ≡ true → EndsInFile (shown_content look k) → EndsInBytes k
  ends_kept (kept.Own c) whole ends = ends
  ends_kept (kept.Placed p) whole ends = part_ends (look p.pool p.span) p whole

  length_part : (o : Option (List ℕ)) (p : RegionBytes) → has_part o p ≡ true → length (part o p) ≡ p.len
  length_part None p e = absurd (false≢true e)
  length_part (Some bs) p e =
      let within = part_within (Some bs) bs p refl e in
      length-take-le p.len (drop p.start bs) (let l = length-drop p.start bs in omega (arith, l, within))

  pub length_kept : (k : Kept) → is_whole look k ≡ true → length_of (shown_content look k) ≡ kept_length k
  length_kept (kept.Own c) whole = refl
  length_kept (kept.Placed p) whole = length_part (look p.pool p.span) p whole

  front_part : (n : ℕ) (o : Option (List ℕ)) (p : RegionBytes) → n ≤ p.len → has_part o p ≡ true → has_part o (record p { len = n }) ≡ true
  front_part n None p le e = e
  front_part n (Some bs) p le e =
      let within = part_within (Some bs) bs p refl e in
      let ends = part_ends (Some bs) p e in
      has_part_is bs (record p { len = n }) (omega (arith, within, le)) (omega (arith, ends, le))

  rest_part : (n : ℕ) (o : Option (List ℕ)) (p : RegionBytes) → n ≤ p.len → has_part o p ≡ true → has_part o (record p { start = p.start + n; len = p.len - n }) ≡ true
  rest_part n None p le e = e
  rest_part n (Some bs) p le e =
      let within = part_within (Some bs) bs p refl e in
      let ends = part_ends (Some bs) p e in
      has_part_is bs (record p { start = p.start + n; len = p.len - n }) (omega (arith, within, le)) (omega (arith, ends, le))

  pub front_whole : (n : ℕ) (k : Kept) → n ≤ kept_length k → is_whole look k ≡ true → is_whole look (kept_front n k) ≡ true
  front_whole n (kept.Own c) le whole = refl
  front_whole n (kept.Placed p) le whole = front_part n (look p.pool p.span) p le whole

  pub rest_whole : (n : ℕ) (k : Kept) → n ≤ kept_length k → is_whole look k ≡ true → is_whole look (kept_rest n k) ≡ true
  rest_whole n (kept.Own c) le whole = refl
  rest_whole n (kept.Placed p) le whole = rest_part n (look p.pool p.span) p le whole

  front_shown : (n : ℕ) (k : Kept) → n ≤ kept_length k → shown_content look (kept_front n k) ≡ front_of n (shown_content look k)
  front_shown n (kept.Own c) le = refl
  front_shown n (kept.Placed p) le = ap (λ bs. content.Bytes bs) (sym (take_take n p.len (drop p.start _) le))

  rest_bytes : (start len n : ℕ) (bs : List ℕ) → n ≤ len → take (len - n) (drop (start + n) bs) ≡ drop n (take len (drop start bs))
  rest_bytes start len n bs le =
      let one : n + (len - n) ≡ len = omega (arith, le) in
      ap (take (len - n)) (sym (drop-drop n start bs)) ∙ (sym (drop-take n (len - n) (drop start bs)) ∙ ap (λ m. drop n (take m (drop start bs))) one)

  rest_shown : (n : ℕ) (k : Kept) → n ≤ kept_length k → shown_content look (kept_rest n k) ≡ rest_of n (shown_content look k)
  rest_shown n (kept.Own c) le = refl
  rest_shown n (kept.Placed p) le = ap (λ bs. content.Bytes bs) (rest_bytes p.start p.len n _ le)

  -- the parts of a stored bucket show the parts of what it shows
  pub parts_shown : (n : ℕ) (x : Stored) → n ≤ kept_length x.kept → (shown look (parts_at n x).0 ≡ (split_at n (shown look x)).0) × (shown look (parts_at n x).1 ≡ (split_at n (shown look x)).1)
  parts_shown n x le = (
    ap (λ c. let b : Bucket = record { kind = x.kind; content = c; home = x.home } in b) (front_shown n x.kept le),
    ap (λ c. let b : Bucket = record { kind = x.kind; content = c; home = x.home } in b) (rest_shown n x.kept le),
  )

  pub both_shown : (n : ℕ) (x : Stored) → n ≤ kept_length x.kept → (shown look (parts_at n x).0, shown look (parts_at n x).1) ≡ split_at n (shown look x)
  both_shown n x le = (let s = parts_shown n x le in ap (λ (a : Bucket). let both : Bucket × Bucket = (a, shown look (parts_at n x).1) in both) (s.0)
      ∙ ap (λ (b : Bucket). let both : Bucket × Bucket = ((split_at n (shown look x)).0, b) in both) (s.1))

  -- what is set aside keeps its bytes
  set_aside_is : (target : ℕ) (above : Bool) (x : Stored)
      → (shown look (aside target above x) ≡ set_aside target above (shown look x)) × ((aside target above x).kept ≡ x.kept)
  set_aside_is target above x = go x.kind above where
    go : (k : Kind) (a : Bool) → let y : Stored = record x { kind = k } in (shown look (aside target a y) ≡ set_aside target a (shown look y))
        × ((aside target a y).kept ≡ x.kept)
    go kind.Heap a = (refl, refl)
    go kind.Transient a = (refl, refl)
    go kind.Immortal a = (refl, refl)
    go (kind.Pool p) a = (refl, refl)
    go kind.File true = (refl, refl)
    go kind.File false = (refl, refl)
    go kind.Flush a = (refl, refl)
    go kind.Eos a = (refl, refl)

  pub aside_shown : (target : ℕ) (above : Bool) (x : Stored) → shown look (aside target above x) ≡ set_aside target above (shown look x)
  aside_shown target above x = (set_aside_is target above x).0

  pub aside_whole : (target : ℕ) (above : Bool) (x : Stored) → (aside target above x).kept ≡ x.kept
  aside_whole target above x = (set_aside_is target above x).1
