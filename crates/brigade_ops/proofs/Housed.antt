-- What calls of a store and changes of the pool map leave of the brigades on their pools and of the references.
use Rattle.std.proofs.Common.{◌≡◌, ◌≢◌, ◌==◌, ℕ, suc, ◌+◌, ◌<◌, Bool, true, false, not, cond, Option, None, Some, is_some, List, [], ◌∷◌, ◌++◌, map, refl, sym, ◌∙◌, ap, subst, arith, ne_eqb, eq-eqb}
use Rattle.std.proofs.Common.{inl, inr}
use Rattle.std.specs.Prelude.{count_by, Result, Ok, Err, OnOk, OnErr}
use Rattle.std.specs.List.{list_any}
use Rattle.std.specs.Option.{option_map}
use Rattle.std.proofs.lemmas.Bool.{cases_eq}
use Rattle.bucket_ring.specs.Kept.{once_in}
use Rattle.bucket_ring.specs.Lists as ring
use Rattle.run_model.specs.declared.payload.Payload.{Payload}
use Rattle.run_model.specs.declared.payload.Payload.TheVariants.{Label, FileRef, Brigade}
use Rattle.run_model.specs.Payloads.{is_label, is_brigade, is_file_ref}
use Rattle.run_model.specs.declared.effect.CleanupKind.{CleanupKind}
use Rattle.run_model.specs.declared.effect.CleanupKind.TheVariants.{Plain, Pre}
use Rattle.run_model.specs.Pools.{Pools, Cleanups, no_cleanups, all_held, with_one, with_plain, is_empty, is_live, planted, created, registered, registered_as}
use Rattle.run_model.specs.RunOrder.{IsPoolMap, killed, without_last}
use Rattle.run_model.specs.Sound.{sum_below}
use Rattle.run_model.specs.Steps.{all_referred}
use Rattle.run_model.proofs.Formed.{formed_fresh}
use Rattle.run_model.proofs.Sums.{sum_below_same, all_none}
use Rattle.run_model.proofs.Updates.{upd_at, upd_off, upd_either}
use Rattle.bucket_kinds.specs.declared.stored.Stored.{Stored}
use Rattle.brigade_ops.specs.Files.{times_in}
use Rattle.brigade_ops.specs.House.{all_refs, AreHoused, IsHouse, cleared_item}
use Rattle.bucket_store.specs.Items.{Items, named, named_item}
use Rattle.brigade_ops.specs.declared.store.Brigades.{Brigades}
use Rattle.brigade_ops.specs.Store.{lists, pool_of, references}
use Rattle.bucket_ring.specs.declared.rings.Rings.{Ghosts}
use Rattle.run_model.specs.declared.bucket.NamedBucket.{NamedBucket}
use Rattle.run_model.specs.Buckets.{cleared_bucket}
use Rattle.brigade_ops.proofs.Counts.{one_if, held_count, count_append, count_cons, count_last, sum_more, once_at, once_off}

-- The payloads of pools.

abbrev held_by : (Payload → Bool) → Pools Payload → ℕ → ℕ
held_by test ps p = held_count test (ps.payloads p)

registered_next : (how : CleanupKind) (n : ℕ) (x : Payload) (ps : Pools Payload) → (registered_as how n x ps).next ≡ ps.next
unfolding registered_as
registered_next how n x ps = refl

-- one more of a kind
one_counted : (test : Payload → Bool) (how : CleanupKind) (x : Payload) (c : Cleanups Payload) → held_count test (with_one how x c) ≡ held_count test c + one_if test x
one_counted test Plain x c =
    let now = count_append test c.pre (c.plain ++ x ∷ []) in
    let was = count_append test c.pre c.plain in
    let last = count_last test c.plain x in
    omega (arith, now, was, last)
one_counted test Pre x c =
    let now = count_append test (c.pre ++ x ∷ []) c.plain in
    let was = count_append test c.pre c.plain in
    let last = count_last test c.pre x in
    omega (arith, now, was, last)

-- a payload is registered
module _ (test : Payload → Bool) (how : CleanupKind) (n : ℕ) (x : Payload) (ps : Pools Payload) where
  more_there : held_by test (registered_as how n x ps) n ≡ held_by test ps n + one_if test x
  unfolding registered_as
  more_there = ap (held_count test) (upd_at ps.payloads n (with_one how x (ps.payloads n))) ∙ one_counted test how x (ps.payloads n)

  more_off : (p : ℕ) → p ≢ n → held_by test (registered_as how n x ps) p ≡ held_by test ps p
  unfolding registered_as
  more_off p ne = ap (held_count test) (upd_off ps.payloads n p (with_one how x (ps.payloads n)) ne)

  more_beside : test x ≡ false → (p : ℕ) → held_by test (registered_as how n x ps) p ≡ held_by test ps p
  more_beside other p = elim (cases_eq p n) [
    | inl is ↦ subst (λ (k : ℕ). held_by test (registered_as how n x ps) k ≡ held_by test ps k) (sym is)
        (more_there ∙ (ap (λ (k : ℕ). held_by test ps n + k) (ap (λ (b : Bool). cond b 1 0) other) ∙ (let none : held_by test ps n + 0 ≡ held_by test ps n = omega arith in none)))
    | inr ne ↦ more_off p ne
  ]

  more_all : n < ps.next → sum_below (registered_as how n x ps).next (held_by test (registered_as how n x ps)) ≡ sum_below ps.next (held_by test ps) + one_if test x
  more_all lt =
      ap (λ (m : ℕ). sum_below m (held_by test (registered_as how n x ps))) (registered_next how n x ps)
      ∙ sum_more ps.next n (one_if test x) (held_by test ps) (held_by test (registered_as how n x ps)) lt more_there more_off

-- a pool is made
module _ (test : Payload → Bool) (parent : ℕ) (ps : Pools Payload) (formed : IsPoolMap ps) where
  made_same : (p : ℕ) → held_by test (created parent ps) p ≡ held_by test ps p
  unfolding created
  made_same p = elim (upd_either ps.payloads ps.next p no_cleanups) [
    | inl q ↦ (let bare : ps.payloads p ≡ no_cleanups = formed.bare p (formed_fresh ps formed p (omega (arith, q.0))) in ap (held_count test) q.1 ∙ sym (ap (held_count test) bare))
    | inr q ↦ ap (held_count test) q.1
  ]

  made_all : sum_below (created parent ps).next (held_by test (created parent ps)) ≡ sum_below ps.next (held_by test ps)
  unfolding created sum_below
  made_all =
      let now : ℕ → ℕ = held_by test (created parent ps) in
      let bare : ps.payloads ps.next ≡ no_cleanups = formed.bare ps.next (formed_fresh ps formed ps.next (omega arith)) in
      let last : now ps.next ≡ 0 = made_same ps.next ∙ ap (held_count test) bare in
      let more : ps.next + 1 ≡ suc ps.next = omega arith in
      let rest : sum_below ps.next now ≡ sum_below ps.next (held_by test ps) = sum_below_same ps.next now (held_by test ps) (λ p lt. made_same p) in
      ap (λ (m : ℕ). sum_below m now) more ∙ (ap (λ (k : ℕ). k + sum_below ps.next now) last ∙ (let none : 0 + sum_below ps.next now ≡ sum_below ps.next now = omega arith in none ∙ rest))

-- a label is killed
thinned : (test : Payload → Bool) → ((text : List ℕ) → test (Label text) ≡ false) → (text : List ℕ) (xs : List Payload) → count_by test (without_last (is_label text) xs) ≡ count_by test xs
unfolding without_last
thinned test blind text [] = refl
thinned test blind text (x ∷ xs) = by_tests (list_any (is_label text) xs) (is_label text x) refl (thinned test blind text xs) where
  not_counted : (y : Payload) → is_label text y ≡ true → one_if test y ≡ 0
  not_counted (Label other) is = ap (λ (b : Bool). cond b 1 0) (blind other)
  not_counted (FileRef file) is = absurd (cc)
  not_counted (Brigade name) is = absurd (cc)

  by_tests : (later here : Bool) → is_label text x ≡ here → count_by test (without_last (is_label text) xs) ≡ count_by test xs
      → count_by test (cond later (x ∷ without_last (is_label text) xs) (cond here xs (x ∷ xs))) ≡ count_by test (x ∷ xs)
  by_tests true here is rest = count_cons test x (without_last (is_label text) xs) ∙ (ap (λ (k : ℕ). one_if test x + k) rest ∙ sym (count_cons test x xs))
  by_tests false true is rest = let front = count_cons test x xs in let none = not_counted x is in omega (arith, front, none)
  by_tests false false is rest = refl

less_counted : (test : Payload → Bool) → ((text : List ℕ) → test (Label text) ≡ false) → (text : List ℕ) (c : Cleanups Payload) → held_count test (with_plain (without_last (is_label text)) c) ≡ held_count test c
less_counted test blind text c =
    let now = count_append test c.pre (without_last (is_label text) c.plain) in
    let was = count_append test c.pre c.plain in
    let less = thinned test blind text c.plain in
    omega (arith, now, was, less)

less_same : (test : Payload → Bool) → ((text : List ℕ) → test (Label text) ≡ false) → (n : ℕ) (text : List ℕ) (ps : Pools Payload) (p : ℕ)
    → held_by test (killed n (is_label text) ps) p ≡ held_by test ps p
unfolding killed
less_same test blind n text ps p = elim (upd_either ps.payloads n p (with_plain (without_last (is_label text)) (ps.payloads n))) [
  | inl q ↦ ap (held_count test) q.1 ∙ (less_counted test blind text (ps.payloads n) ∙ sym (ap (held_by test ps) q.0))
  | inr q ↦ ap (held_count test) q.1
]

-- references are registered one after another
referred_held : (name n : ℕ) (files : List ℕ) (ps : Pools Payload) (p : ℕ) → held_by (is_brigade name) (all_referred n files ps) p ≡ held_by (is_brigade name) ps p
unfolding all_referred
referred_held name n [] ps p = refl
referred_held name n (file ∷ files) ps p = referred_held name n files (registered n (FileRef file) ps) p ∙ more_beside (is_brigade name) Plain n (FileRef file) ps refl p

referred_all : (f n : ℕ) (files : List ℕ) (ps : Pools Payload) → n < ps.next → all_refs (all_referred n files ps) f ≡ all_refs ps f + times_in f files
unfolding all_referred times_in
referred_all f n [] ps lt = omega arith
referred_all f n (file ∷ files) ps lt =
    let one : all_refs (registered n (FileRef file) ps) f ≡ all_refs ps f + cond (file == f) 1 0 = more_all (is_file_ref f) Plain n (FileRef file) ps lt in
    let rest : all_refs (all_referred n files (registered n (FileRef file) ps)) f ≡ all_refs (registered n (FileRef file) ps) f + times_in f files
    = referred_all f n files (registered n (FileRef file) ps) (subst (λ (m : ℕ). n < m) (sym (registered_next Plain n (FileRef file) ps)) lt) in
    by_test (file == f) (all_refs (registered n (FileRef file) ps) f) one rest where
      by_test : (b : Bool) (now : ℕ) → now ≡ all_refs ps f + cond b 1 0 → all_refs (all_referred n files (registered n (FileRef file) ps)) f ≡ now + times_in f files
          → all_refs (all_referred n files (registered n (FileRef file) ps)) f ≡ all_refs ps f + cond b (suc (times_in f files)) (times_in f files)
      by_test true now one rest = omega arith
      by_test false now one rest = omega arith

-- Houses.

module _ (lists : ℕ → Option Items) (pool_of : ℕ → Option ℕ) (references : ℕ → ℕ) (ps : Pools Payload) (house : AreHoused lists pool_of references ps)
    (lists_now : ℕ → Option Items) (pools_now : ℕ → Option ℕ) (refs_now : ℕ → ℕ) where
  -- No brigade on a pool ended, none came or left a pool, and no reference was counted.
  pub house_stays : ((n p : ℕ) → pool_of n ≡ Some p → is_some (lists n) ≡ true → is_some (lists_now n) ≡ true) → ((n : ℕ) → pools_now n ≡ pool_of n) → ((f : ℕ) → refs_now f ≡ references f)
      → AreHoused lists_now pools_now refs_now ps
  house_stays there off counts = record {
    held = λ n p. house.held n p ∙ sym (ap (once_in p) (off n));
    there = λ n p is. (let was = sym (off n) ∙ is in there n p was (house.there n p was));
    referred = λ f. counts f ∙ house.referred f;
  }

  -- so many references to files more, registered with one pool and counted
  pub house_referred : (pool : ℕ) (files : List ℕ) → IsPoolMap ps → is_live ps pool ≡ true
      → ((n p : ℕ) → pool_of n ≡ Some p → is_some (lists n) ≡ true → is_some (lists_now n) ≡ true) → ((n : ℕ) → pools_now n ≡ pool_of n) → ((f : ℕ) → refs_now f ≡ references f + times_in f files)
      → AreHoused lists_now pools_now refs_now (all_referred pool files ps)
  house_referred pool files formed live there off counts = record {
    held = λ n p. referred_held n pool files ps p ∙ (house.held n p ∙ sym (ap (once_in p) (off n)));
    there = λ n p is. (let was = sym (off n) ∙ is in there n p was (house.there n p was));
    referred = λ f. counts f ∙ (ap (λ (k : ℕ). k + times_in f files) (house.referred f) ∙ sym (referred_all f pool files ps (formed.named pool live)));
  }

  -- a new brigade, registered with its pool
  pub house_made : (pool b : ℕ) → IsPoolMap ps → is_live ps pool ≡ true → (is_some (lists b) ≡ true → ⊥)
      → ((n : ℕ) → lists_now n ≡ ring.upd lists b (Some []) n) → ((n : ℕ) → pools_now n ≡ ring.upd pool_of b (Some pool) n) → ((f : ℕ) → refs_now f ≡ references f)
      → AreHoused lists_now pools_now refs_now (registered pool (Brigade b) ps)
  unfolding ring.upd
  house_made pool b formed live new out on counts = record {
    held = λ n p. elim (cases_eq n b) [
      | inl is ↦ subst (λ (k : ℕ). held_by (is_brigade k) (registered pool (Brigade b) ps) p ≡ once_in p (pools_now n)) (sym is)
          (here p ∙ sym (ap (once_in p) (on n ∙ ap (λ (s : Bool). cond s (Some pool) (pool_of n)) (eq-eqb n b is))))
      | inr ne ↦ more_beside (is_brigade n) Plain pool (Brigade b) ps (ne_eqb b n (λ e. ne (sym e))) p
          ∙ (house.held n p ∙ sym (ap (once_in p) (on n ∙ ap (λ (s : Bool). cond s (Some pool) (pool_of n)) (ne_eqb n b ne))))
    ];
    there = λ n p is. elim (cases_eq n b) [
      | inl at ↦ ap is_some (out n ∙ ap (λ (s : Bool). cond s (Some []) (lists n)) (eq-eqb n b at))
      | inr ne ↦ ap is_some (out n ∙ ap (λ (s : Bool). cond s (Some []) (lists n)) (ne_eqb n b ne))
          ∙ house.there n p (sym (on n ∙ ap (λ (s : Bool). cond s (Some pool) (pool_of n)) (ne_eqb n b ne)) ∙ is)
    ];
    referred = λ f. counts f ∙ (house.referred f ∙ sym (more_all (is_file_ref f) Plain pool (Brigade b) ps (formed.named pool live) ∙ (let none : all_refs ps f + 0 ≡ all_refs ps f = omega arith in none)));
  } where
    nowhere : (p : ℕ) (at : Option ℕ) → pool_of b ≡ at → once_in p at ≡ 0
    nowhere p None is = refl
    nowhere p (Some q) is = absurd (new (house.there b q is))

    none_held : (p : ℕ) → held_by (is_brigade b) ps p ≡ 0
    none_held p = house.held b p ∙ nowhere p (pool_of b) refl

    here : (p : ℕ) → held_by (is_brigade b) (registered pool (Brigade b) ps) p ≡ once_in p (Some pool)
    here p = elim (cases_eq p pool) [
      | inl at ↦ subst (λ (k : ℕ). held_by (is_brigade b) (registered pool (Brigade b) ps) k ≡ once_in k (Some pool)) (sym at)
          (more_there (is_brigade b) Plain pool (Brigade b) ps
          ∙ (ap (λ (k : ℕ). k + one_if (is_brigade b) (Brigade b)) (none_held pool) ∙ (ap (λ (s : Bool). 0 + cond s 1 0) (eq-eqb b b refl) ∙ sym (once_at pool))))
      | inr ne ↦ more_off (is_brigade b) Plain pool (Brigade b) ps p ne ∙ (none_held p ∙ sym (once_off pool p ne))
    ]

module _ (lists : ℕ → Option Items) (pool_of : ℕ → Option ℕ) (references : ℕ → ℕ) (ps : Pools Payload) (house : AreHoused lists pool_of references ps) where
  -- Pools that hold as many of each brigade and each reference.
  over : (new : Pools Payload) → ((name p : ℕ) → held_by (is_brigade name) new p ≡ held_by (is_brigade name) ps p) → ((f : ℕ) → all_refs new f ≡ all_refs ps f) → AreHoused lists pool_of references new
  over new held counts = record {
    held = λ n p. held n p ∙ house.held n p;
    there = house.there;
    referred = λ f. house.referred f ∙ sym (counts f);
  }

  -- a pool is made
  pub house_created : (parent : ℕ) → IsPoolMap ps → AreHoused lists pool_of references (created parent ps)
  house_created parent formed = over (created parent ps) (λ n. made_same (is_brigade n) parent ps formed) (λ f. made_all (is_file_ref f) parent ps formed)

  -- a label is registered
  pub house_labelled : (how : CleanupKind) (pool : ℕ) (text : List ℕ) → IsPoolMap ps → is_live ps pool ≡ true → AreHoused lists pool_of references (registered_as how pool (Label text) ps)
  house_labelled how pool text formed live = over (registered_as how pool (Label text) ps) (λ n. more_beside (is_brigade n) how pool (Label text) ps refl)
      (λ f. more_all (is_file_ref f) how pool (Label text) ps (formed.named pool live) ∙ (let none : all_refs ps f + 0 ≡ all_refs ps f = omega arith in none))

  -- a label is killed
  pub house_unlabelled : (pool : ℕ) (text : List ℕ) → AreHoused lists pool_of references (killed pool (is_label text) ps)
  unfolding killed
  house_unlabelled pool text = over (killed pool (is_label text) ps) (λ n. less_same (is_brigade n) (λ t. refl) pool text ps)
      (λ f. sum_below_same ps.next (held_by (is_file_ref f) (killed pool (is_label text) ps)) (held_by (is_file_ref f) ps) (λ p lt. less_same (is_file_ref f) (λ t. refl) pool text ps p))

-- no brigade, no reference, and one pool
pub house_begins : (lists : ℕ → Option Items) (pool_of : ℕ → Option ℕ) (references : ℕ → ℕ) (first : ℕ) → ((n : ℕ) → pool_of n ≡ None) → ((f : ℕ) → references f ≡ 0)
    → AreHoused lists pool_of references (planted first)
unfolding planted
house_begins lists pool_of references first none unreferred = record {
  held = λ n p. sym (ap (once_in p) (none n));
  there = λ n p is. absurd (let both : ◌≡◌ {A = Option ℕ} None (Some p) = sym (none n) ∙ is in cc);
  referred = λ f. unreferred f ∙ sym (all_none (first + 1) (held_by (is_file_ref f) (planted first)) (λ k lt. refl));
}

-- a brigade whose list is changed is there still
pub on_some : (b n : ℕ) (f : Items → Items) (lists : ℕ → Option Items) → is_some (ring.on b f lists n) ≡ is_some (lists n)
unfolding ring.upd
on_some b n f lists = elim (cases_eq n b) [
  | inl is ↦ ap (λ (s : Bool). is_some (cond s (option_map f (lists b)) (lists n))) (eq-eqb n b is) ∙ (mapped (lists b) ∙ ap (λ (k : ℕ). is_some (lists k)) (sym is))
  | inr ne ↦ ap (λ (s : Bool). is_some (cond s (option_map f (lists b)) (lists n))) (ne_eqb n b ne)
] where
  mapped : (o : Option Items) → is_some (option_map f o) ≡ is_some o
  mapped None = refl
  mapped (Some xs) = refl

-- one reference more, or a refusal
pub house_refer : {X E : Type 0} (result : Result X E) (lists : ℕ → Option Items) (pool_of : ℕ → Option ℕ) (references : ℕ → ℕ) (ps new : Pools Payload) (pool file : ℕ) (refs_now : ℕ → ℕ)
    → IsPoolMap ps → is_live ps pool ≡ true → OnOk result (new ≡ registered pool (FileRef file) ps) → OnOk result ((f : ℕ) → refs_now f ≡ cond (f == file) (references f + 1) (references f))
    → OnErr result (new ≡ ps) → OnErr result ((f : ℕ) → refs_now f ≡ references f) → AreHoused lists pool_of references ps → AreHoused lists pool_of refs_now new
unfolding all_referred times_in
house_refer (Ok x) lists pool_of references ps new pool file refs_now formed live ok counted kept uncounted house =
    subst (AreHoused lists pool_of refs_now) (sym ok)
    (house_referred lists pool_of references ps house lists pool_of refs_now pool (file ∷ []) formed live (λ n p at there. there) (λ n. refl) (λ f. counted f ∙ one f)) where
      one : (f : ℕ) → cond (f == file) (references f + 1) (references f) ≡ references f + cond (file == f) (suc 0) 0
      one f = elim (cases_eq f file) [
        | inl is ↦ rw (eq-eqb f file is, eq-eqb file f (sym is)) refl
        | inr ne ↦ rw (ne_eqb f file ne, ne_eqb file f (λ e. ne (sym e))) (omega arith)
      ]
house_refer (Err e) lists pool_of references ps new pool file refs_now formed live ok counted kept uncounted house =
    subst (AreHoused lists pool_of refs_now) (sym kept) (house_stays lists pool_of references ps house lists pool_of refs_now (λ n p at there. there) (λ n. refl) uncounted)

-- a brigade is on a live pool
pub house_live : (lists : ℕ → Option Items) (pool_of : ℕ → Option ℕ) (references : ℕ → ℕ) (ps : Pools Payload) → AreHoused lists pool_of references ps → IsPoolMap ps → (n p : ℕ)
    → pool_of n ≡ Some p → is_live ps p ≡ true
unfolding is_live
house_live lists pool_of references ps house formed n p at = by_path (ps.path p) refl where
  by_path : (path : List ℕ) → ps.path p ≡ path → not (is_empty path) ≡ true
  by_path [] bare =
      let none : held_by (is_brigade n) ps p ≡ 0 = ap (held_count (is_brigade n)) (formed.bare p bare) in
      let one : held_by (is_brigade n) ps p ≡ 1 = house.held n p ∙ (ap (once_in p) at ∙ once_at p) in
      absurd (omega arith)
  by_path (m ∷ above) is = refl

-- what a clear makes of named buckets is what the model makes of them
pub named_cleared : (reached : ℕ → Bool) (xs : Items) → named (map (cleared_item reached) xs) ≡ map (cleared_bucket reached) (named xs)
named_cleared reached [] = refl
named_cleared reached (x ∷ xs) = ap (λ (ys : List NamedBucket). cleared_bucket reached (named_item x) ∷ ys) (named_cleared reached xs)

-- A call changed no pool of a brigade and no count, and no brigade on a pool ended.
pub house_kept : {R : Type 0} {g : Ghosts R Stored} (old new : Brigades R g) (ps : Pools Payload) → pool_of new ≡ pool_of old → references new ≡ references old
    → ((n p : ℕ) → pool_of old n ≡ Some p → is_some (lists old n) ≡ true → is_some (lists new n) ≡ true) → IsHouse old ps → IsHouse new ps
house_kept old new ps off counts there house =
    house_stays (lists old) (pool_of old) (references old) ps house (lists new) (pool_of new) (references new) there (λ n. ap (λ (f : ℕ → Option ℕ). f n) off) (λ f. ap (λ (h : ℕ → ℕ). h f) counts)
