-- A read drops no byte of its brigade.
use Rattle.std.proofs.Common.{◌≡◌, ◌≢◌, ℕ, ◌+◌, ◌-◌, ◌<◌, Bool, true, false, ◌==◌, cond, nat_le, min, List, [], ◌∷◌, ◌++◌, append_assoc, append-nil, take, drop, Option, Some, None, inl, inr, refl}
use Rattle.std.proofs.Common.{sym, ◌∙◌, ap, subst, arith, eqb-true, eq-eqb}
use Rattle.std.proofs.lemmas.Bool.{cases_lt}
use Rattle.std.proofs.lemmas.Bool.Decides.{nat_tests}
use Rattle.run_model.specs.declared.bucket.Kind.{Kind}
use Rattle.run_model.specs.declared.bucket.Content.{Content}
use Rattle.run_model.specs.declared.bucket.Content.TheVariants as content
use Rattle.run_model.specs.declared.bucket.Home.{Home}
use Rattle.run_model.specs.declared.bucket.Bucket.{Bucket}
use Rattle.run_model.specs.declared.bucket.NamedBucket.{NamedBucket}
use Rattle.run_model.specs.declared.bucket.BrigadeVar.{BrigadeVar}
use Rattle.run_model.specs.declared.bucket.BrigadeVar.TheVariants as var
use Rattle.run_model.specs.Cutting.{read_limit, read_of, wanted}
use Rattle.run_model.specs.State.{Configuration, items_of, set_brigade, set_cursor}
use Rattle.run_model.specs.BrigadeLists.{buckets_before, buckets_from, first_bucket, bucket_named, bytes_of, all_bytes}
use Rattle.run_model.specs.Cursors.{CursorPlace, Within}
use Rattle.run_model.specs.BucketSteps.{items_at, read_given, rest_named, first_read, bucket_read, is_unread, do_read, read_within}
use Rattle.run_model.specs.Steps.{Outcome, jumps_if, with_items}
use Rattle.model_laws.specs.Laws.{bytes_of_rest}
use Rattle.model_laws.specs.BucketReads.{taken_by, ReadKeepsBytes, ReadsOn, StepReadGivesTheFile}
use Rattle.run_model.proofs.Updates.{upd_at}
use Rattle.model_laws.proofs.BrigadeLists.{before_and_from, bytes_append}
use Rattle.model_laws.proofs.Kept.{reads_drop_nothing}
use Rattle.run_model.proofs.CursorPlaces.{StandsThere, stands}

-- Bytes.

-- the bucket that was read, and the rest of it
of_bucket : (file : ℕ → List ℕ) (new : ℕ) (k : Kind) (c : Content) (h : Home)
    → (let b : Bucket = record { kind = k; content = c; home = h } in
    bytes_of file (read_of (taken_by file c) b).0.content ++ all_bytes file (rest_named new (read_of (taken_by file c) b).1) ≡ bytes_of file c)
unfolding all_bytes
of_bucket file new k (content.Bytes bs) h = append-nil bs
of_bucket file new k (content.Range n start len) h =
    ap (λ (bs : List ℕ). take (min len read_limit) (take len (drop start (file n))) ++ bs) (rest_bytes (nat_le len read_limit))
    ∙ (reads_drop_nothing (file n) (record { kind = k; content = content.Range n start len; home = h })).1 where
      rest : Bucket
      rest = record { kind = k; content = content.Range n (start + read_limit) (len - read_limit); home = h }

      rest_bytes : (t : Bool) → all_bytes file (rest_named new (cond t None (Some rest))) ≡ bytes_of_rest (file n) (cond t None (Some rest))
      rest_bytes true = refl
      rest_bytes false = append-nil (take (len - read_limit) (drop (start + read_limit) (file n)))
of_bucket file new k content.Nothing h = refl

first_bytes_kept : (file : ℕ → List ℕ) (new : ℕ) (x : NamedBucket) (ys : List NamedBucket) → first_bucket ys ≡ Some x
    → all_bytes file (first_read new (taken_by file x.bucket.content) ys) ≡ all_bytes file ys
unfolding all_bytes
first_bytes_kept file new x [] is = absurd (cc)
first_bytes_kept file new x (y ∷ ys) is =
    let here : y ≡ x = cc in
    ap (λ (z : NamedBucket). all_bytes file (first_read new (taken_by file z.bucket.content) (y ∷ ys))) (sym here)
    ∙ (ap (λ (bs : List ℕ). bytes_of file (read_of (taken_by file y.bucket.content) y.bucket).0.content ++ bs)
    (bytes_append file (rest_named new (read_of (taken_by file y.bucket.content) y.bucket).1) ys)
    ∙ (sym (append_assoc (bytes_of file (read_of (taken_by file y.bucket.content) y.bucket).0.content) (all_bytes file (rest_named new (read_of (taken_by file y.bucket.content) y.bucket).1))
    (all_bytes file ys))
    ∙ ap (λ (bs : List ℕ). bs ++ all_bytes file ys) (of_bucket file new y.bucket.kind y.bucket.content y.bucket.home)))

pub read_keeps_bytes : ReadKeepsBytes
read_keeps_bytes new at file x bs is =
    bytes_append file (buckets_before at bs) (first_read new (taken_by file x.bucket.content) (buckets_from at bs))
    ∙ (ap (λ (w : List ℕ). all_bytes file (buckets_before at bs) ++ w) (first_bytes_kept file new x (buckets_from at bs) is)
    ∙ (sym (bytes_append file (buckets_before at bs) (buckets_from at bs)) ∙ ap (all_bytes file) (before_and_from at bs)))

-- A read that is given what it asks for.

content_given : (given : Option (List ℕ)) (file : ℕ → List ℕ) (c : Content) → (0 < wanted c → given ≡ Some (taken_by file c)) → read_given given c ≡ Some (taken_by file c)
content_given given file (content.Bytes bs) told = refl
content_given given file (content.Range n start len) told = by_length (len == 0) refl where
  wanted_some : (k : ℕ) → k ≢ 0 → 0 < min k read_limit
  wanted_some k some = elim (cases_lt 0 k) [ inl lt ↦ grind (arith, nat_tests, lt) | inr le ↦ absurd (some (omega arith)) ]

  by_length : (t : Bool) → (len == 0) ≡ t → cond t (Some []) given ≡ Some (taken_by file (content.Range n start len))
  by_length true none = ap (λ (k : ℕ). Some (take (min k read_limit) (take k (drop start (file n))))) (sym (eqb-true len 0 none))
  by_length false some = told (wanted_some len (λ none. let both : true ≡ false = sym (eq-eqb len 0 none) ∙ some in cc))
content_given given file content.Nothing told = refl

-- a variable in which a bucket is holds a brigade
filled_with : (v : BrigadeVar) (x : NamedBucket) (items : List NamedBucket) → bucket_named x.name (items_of v) ≡ Some x → items_of (with_items items v) ≡ items
unfolding buckets_from
filled_with var.Null x items is = absurd (cc)
filled_with var.Gone x items is = absurd (cc)
filled_with (var.Live v) x items is = refl

-- what the step makes of the place at which its cursor stands
abbrev read_outcome : Option (List ℕ) → CursorPlace → Configuration → Outcome
read_outcome given s r = record { exit = jumps_if (is_unread given s); state = do_read given s r }

read_within_on : (given : Option (List ℕ)) (file : ℕ → List ℕ) (b : ℕ) (x : NamedBucket) (r : Configuration) → StandsThere r (Within b x)
    → read_given given x.bucket.content ≡ Some (taken_by file x.bucket.content) → ReadsOn file b r (read_outcome given (Within b x) r)
unfolding set_brigade set_cursor
read_within_on given file b x r there told =
    let left : List NamedBucket = bucket_read r.shared.next x.name (taken_by file x.bucket.content) (items_at r b) in
    record {
      exit = ap (λ (o : Option (List ℕ)). jumps_if (unread o)) told;
      bytes = ap (λ (o : Option (List ℕ)). all_bytes file (items_at (read_within b x o r) b)) told
          ∙ (ap (λ (v : BrigadeVar). all_bytes file (items_of v)) (upd_at r.instance.brigades b (with_items left (r.instance.brigades b)))
          ∙ (ap (all_bytes file) (filled_with (r.instance.brigades b) x left there.1) ∙ read_keeps_bytes r.shared.next x.name file x (items_at r b) there.1));
    } where
      unread : Option (List ℕ) → Bool
      unread None = true
      unread (Some bytes) = false

pub step_read_gives_the_file : StepReadGivesTheFile
step_read_gives_the_file p choice file c l b x r is told =
    let there : StandsThere r (Within b x) = subst (StandsThere r) is (stands r (r.call.cursors c)) in
    subst (λ (t : CursorPlace). ReadsOn file b r (read_outcome choice.given t r)) (sym is) (read_within_on choice.given file b x r there (content_given choice.given file x.bucket.content told))
