-- Counts of names in lists, and what changes of a brigade do to them.
use Rattle.std.proofs.Common.{◌≡◌, ℕ, ◌+◌, ◌<◌, ◌≤◌, Bool, true, false, ◌==◌, cond, List, [], ◌∷◌, ◌++◌, map, length, Some, inl, inr, refl, sym, ◌∙◌, ap, subst, arith, ne_eqb}
use Rattle.std.proofs.lemmas.List.Sums.{sum_by-append, sum_by-cons}
use Rattle.std.proofs.lemmas.Bool.Decides.{eqb_tells}
use Rattle.run_model.specs.declared.bucket.Bucket.{Bucket}
use Rattle.run_model.specs.declared.bucket.NamedBucket.{NamedBucket}
use Rattle.run_model.specs.declared.bucket.BrigadeVar.{BrigadeVar}
use Rattle.run_model.specs.declared.bucket.BrigadeVar.TheVariants as var
use Rattle.run_model.specs.declared.event.Piece.{Piece}
use Rattle.run_model.specs.Indexed.{upd}
use Rattle.run_model.specs.Buckets.{returned_bucket, cleared_bucket}
use Rattle.run_model.specs.State.{items_of}
use Rattle.run_model.specs.Steps.{cleaned, with_items, handed_over, returned_var}
use Rattle.run_model.specs.Clearing.{cleared_var, is_reached}
use Rattle.run_model.specs.Pieces.{named_from}
use Rattle.run_model.specs.Sound.{count_named, brigade_name}
use Rattle.run_model.proofs.Updates.{upd_either}

-- Counts in lists.

pub count_none : (n : ℕ) → count_named n [] ≡ 0
unfolding count_named
count_none n = refl

pub count_append : (n : ℕ) (xs ys : List NamedBucket) → count_named n (xs ++ ys) ≡ count_named n xs + count_named n ys
unfolding count_named
count_append n xs ys = sum_by-append (λ b. cond (b.name == n) 1 0) xs ys

pub count_cons : (n : ℕ) (x : NamedBucket) (xs : List NamedBucket) → count_named n (x ∷ xs) ≡ cond (x.name == n) 1 0 + count_named n xs
unfolding count_named
count_cons n x xs = sum_by-cons (λ b. cond (b.name == n) 1 0) x xs

-- a change of buckets that leaves their names
pub count_map : (n : ℕ) (f : NamedBucket → NamedBucket) → ((b : NamedBucket) → (f b).name ≡ b.name) → (xs : List NamedBucket) → count_named n (map f xs) ≡ count_named n xs
count_map n f same [] = refl
count_map n f same (x ∷ xs) =
    count_cons n (f x) (map f xs) ∙ (ap (λ k. cond (k == n) 1 0 + count_named n (map f xs)) (same x) ∙ (ap (λ k. cond (x.name == n) 1 0 + k) (count_map n f same xs) ∙ sym (count_cons n x xs)))

-- the count at the head of named pieces, which is of the name m
head_count : (make : Piece → Bucket) (n m : ℕ) (x : Piece) (xs : List Piece) → count_named n (named_from make m (x ∷ xs)) ≡ cond (m == n) 1 0 + count_named n (named_from make (m + 1) xs)
head_count make n m x xs = count_cons n _ (named_from make (m + 1) xs)

-- names from m on are given to pieces once each
pub count_before : (make : Piece → Bucket) (n m : ℕ) (xs : List Piece) → n < m → count_named n (named_from make m xs) ≡ 0
count_before make n m [] lt = count_none n
count_before make n m (x ∷ xs) lt =
    let head : ◌≡◌ {A = ℕ} (cond (m == n) 1 0) 0 = ap (λ b. cond b 1 0) (ne_eqb m n (λ e. absurd (omega (arith, e)))) in
    let rest : count_named n (named_from make (m + 1) xs) ≡ 0 = count_before make n (m + 1) xs (omega arith) in
    omega (arith, head_count make n m x xs)

pub count_once : (make : Piece → Bucket) (n m : ℕ) (xs : List Piece) → count_named n (named_from make m xs) ≤ 1
count_once make n m [] = rw (count_none n) (omega arith)
count_once make n m (x ∷ xs) = elim (eqb_tells m n) [
  | inl p ↦
      (let head : ◌≡◌ {A = ℕ} (cond (m == n) 1 0) 1 = ap (λ b. cond b 1 0) p.0 in
      let rest : count_named n (named_from make (m + 1) xs) ≡ 0 = count_before make n (m + 1) xs (omega (arith, p.1)) in
      omega (arith, head_count make n m x xs))
  | inr p ↦
      (let head : ◌≡◌ {A = ℕ} (cond (m == n) 1 0) 0 = ap (λ b. cond b 1 0) p.0 in
      let rest : count_named n (named_from make (m + 1) xs) ≤ 1 = count_once make n (m + 1) xs in
      omega (arith, head_count make n m x xs))
]

pub count_behind : (make : Piece → Bucket) (n m : ℕ) (xs : List Piece) → m + length xs ≤ n → count_named n (named_from make m xs) ≡ 0
count_behind make n m [] le = count_none n
count_behind make n m (x ∷ xs) le =
    let head : ◌≡◌ {A = ℕ} (cond (m == n) 1 0) 0 = ap (λ b. cond b 1 0) (ne_eqb m n (λ e. absurd (omega (arith, e)))) in
    let rest : count_named n (named_from make (m + 1) xs) ≡ 0 = count_behind make n (m + 1) xs (omega arith) in
    omega (arith, head_count make n m x xs)

-- How a brigade variable may change: it keeps its name or lets go of it, and what is null stays null.
pub record Carried (v w : BrigadeVar) : Type 0 where
  pub name : (n : ℕ) → brigade_name w ≡ Some n → brigade_name v ≡ Some n
  pub null : v ≡ var.Null → w ≡ var.Null

-- and no bucket comes to it
pub record Fewer (v w : BrigadeVar) : Type 0 where
  pub carried : Carried v w
  pub items : (n : ℕ) → count_named n (items_of w) ≤ count_named n (items_of v)

pub carried_same : (v : BrigadeVar) → Carried v v
carried_same v = record { name = λ n h. h; null = λ h. h }

pub fewer_same : (v : BrigadeVar) → Fewer v v
fewer_same v = record { carried = carried_same v; items = λ n. omega arith }

pub fewer_none : (v w : BrigadeVar) → Carried v w → items_of w ≡ [] → Fewer v w
fewer_none v w carried none = record { carried = carried; items = λ n. rw (none, count_none n) (omega arith) }

pub cleaned_fewer : (v : BrigadeVar) → Fewer v (cleaned v)
cleaned_fewer var.Null = fewer_same var.Null
cleaned_fewer var.Gone = fewer_same var.Gone
cleaned_fewer (var.Live v) = fewer_none _ _ (record { name = λ n h. h; null = λ h. absurd (cc) }) refl

pub handed_fewer : (v : BrigadeVar) → Fewer v (handed_over v)
handed_fewer var.Null = fewer_same var.Null
handed_fewer var.Gone = fewer_same var.Gone
handed_fewer (var.Live v) = fewer_none _ _ (record { name = λ n h. h; null = λ h. absurd (cc) }) refl

pub returned_fewer : (call : ℕ) (v : BrigadeVar) → Fewer v (returned_var call v)
returned_fewer call var.Null = fewer_same var.Null
returned_fewer call var.Gone = fewer_same var.Gone
returned_fewer call (var.Live v) = record {
  carried = record { name = λ n h. h; null = λ h. absurd (cc) };
  items = λ n. rw (count_map n (returned_bucket call) (λ b. refl) v.items) (omega arith);
}

pub cleared_fewer : (reached : ℕ → Bool) (v : BrigadeVar) → Fewer v (cleared_var reached v)
cleared_fewer reached var.Null = fewer_same var.Null
cleared_fewer reached var.Gone = fewer_same var.Gone
cleared_fewer reached (var.Live v) = by_test (is_reached reached v.on) where
  by_test : (b : Bool) → Fewer (var.Live v) (cond b var.Gone (var.Live (record v { items = map (cleared_bucket reached) v.items })))
  by_test true = fewer_none _ _ (record { name = λ n h. absurd (cc); null = λ h. absurd (cc) }) refl
  by_test false = record {
    carried = record { name = λ n h. h; null = λ h. absurd (cc) };
    items = λ n. rw (count_map n (cleared_bucket reached) (λ b. refl) v.items) (omega arith);
  }

pub filled_carried : (items : List NamedBucket) (v : BrigadeVar) → Carried v (with_items items v)
filled_carried items var.Null = carried_same var.Null
filled_carried items var.Gone = carried_same var.Gone
filled_carried items (var.Live v) = record { name = λ n h. h; null = λ h. absurd (cc) }

pub filled_items : (n : ℕ) (items : List NamedBucket) (v : BrigadeVar) → count_named n (items_of (with_items items v)) ≤ count_named n items
filled_items n items var.Null = rw (count_none n) (omega arith)
filled_items n items var.Gone = rw (count_none n) (omega arith)
filled_items n items (var.Live v) = omega arith

-- what holds of a change at the index that is written, and of no change, holds everywhere
pub at_each : (P : BrigadeVar → BrigadeVar → Type 0) (g : ℕ → BrigadeVar) (i : ℕ) (w : BrigadeVar) → P (g i) w → ((v : BrigadeVar) → P v v) → (k : ℕ) → P (g k) (upd g i w k)
at_each P g i w here same k = elim (upd_either g i k w) [
  | inl p ↦ subst (λ x. P (g k) x) (sym p.1) (subst (λ j. P (g j) w) (sym p.0) here)
  | inr p ↦ subst (λ x. P (g k) x) (sym p.1) (same (g k))
]

-- the same of two indexes that are written
pub at_two : (P : BrigadeVar → BrigadeVar → Type 0) (g : ℕ → BrigadeVar) (i j : ℕ) (v w : BrigadeVar) → P (g i) v → P (g j) w → ((u : BrigadeVar) → P u u) → (k : ℕ) → P (g k) (upd (upd g i v) j w k)
at_two P g i j v w here there same k = elim (upd_either (upd g i v) j k w) [
  | inl p ↦ subst (λ x. P (g k) x) (sym p.1) (subst (λ m. P (g m) w) (sym p.0) there)
  | inr p ↦ subst (λ x. P (g k) x) (sym p.1) (at_each P g i v here same k)
]
