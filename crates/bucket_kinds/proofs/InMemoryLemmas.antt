-- Files in memory after a file is added.
use Rattle.std.proofs.Common.{◌≡◌, ℕ, Bool, true, false, cond, List, [], ◌∷◌, Option, Some, None, is_some, refl, sym, ◌∙◌, ap}
use Rattle.std.proofs.Math.Path.{fun_ext}
use Rattle.std.specs.Str.{bytes_eq}
use Rattle.std.specs.BTreeMap.{BTreeMap, insert_entry}
use Rattle.std.specs.HashMap.{HashMap, get}
use Rattle.std.specs.Prelude.{nat_eq}
use Rattle.std.specs.Map.{lookup}
use Rattle.std.specs.Ordering.{nat_cmp, is_eq, match_ordering}
use Rattle.std.specs.declared.cmp.Ordering.{Ordering}
use Rattle.std.specs.declared.cmp.Ordering.TheVariants.{Less, Equal, Greater}
use Rattle.std.specs.Cmp.Lexicographic.{slice_cmp}
use Rattle.std.proofs.lemmas.Map.Lookups.{exact_bytes}
use Rattle.std.proofs.lemmas.Map.Text.{is_eq-slice_cmp}
use Rattle.std.proofs.lemmas.Slice.Eq.{bytes_eq-Decides}
use Rattle.run_model.specs.Files.{Files}
use Rattle.bucket_kinds.specs.InMemory.{Bytes, text_of, under, under_one, at_number}

-- A file is put under its name.
choice : {X : Type 0} (b : Bool) (x y l : X) → cond b x l ≡ cond b x (cond b y l)
choice true x y l = refl
choice false x y l = refl

swapped : {X : Type 0} (a b : Bool) (x y l : X) → (a ≡ true → b ≡ true → ⊥) → cond b y (cond a x l) ≡ cond a x (cond b y l)
swapped true true x y l never = absurd (never refl refl)
swapped true false x y l never = refl
swapped false b x y l never = refl

lookup_put : (order : Bytes → Bytes → Ordering) (t : Bytes → Bool) (k v : Bytes)
    → ((x : Bytes) → order k x ≡ Equal → t k ≡ t x)
    → ((x : Bytes) → order k x ≡ Greater → t k ≡ true → t x ≡ true → ⊥)
    → (es : List (Bytes × Bytes)) → lookup t (insert_entry order es k v) ≡ cond (t k) (Some v) (lookup t es)
lookup_put order t k v same apart [] = refl
lookup_put order t k v same apart (e ∷ es) = at (lookup_put order t k v same apart es) (order k e.0) refl where
  at : lookup t (insert_entry order es k v) ≡ cond (t k) (Some v) (lookup t es) → (o : Ordering) → order k e.0 ≡ o
      → lookup t (match_ordering o ((k, v) ∷ e ∷ es) ((e.0, v) ∷ es) (e ∷ insert_entry order es k v))
      ≡ cond (t k) (Some v) (cond (t e.0) (Some e.1) (lookup t es))
  at ih Less is = refl
  at ih Equal is = rw (same e.0 is) (choice (t e.0) (Some v) (Some e.1) (lookup t es))
  at ih Greater is =
      ap (cond (t e.0) (Some e.1)) ih
      ∙ swapped (t k) (t e.0) (Some v) (Some e.1) (lookup t es) (apart e.0 is)

text_choice : (b : Bool) (v : Bytes) (o : Option Bytes) → text_of (cond b (Some v) o) ≡ cond b (Some v.items) (text_of o)
text_choice true v o = refl
text_choice false v o = refl

found : (q : List ℕ) (x : Bytes) → is_eq (slice_cmp nat_cmp q x.items) ≡ true → q ≡ x.items
found q x h = (bytes_eq-Decides q x.items).0 (sym (is_eq-slice_cmp q x.items) ∙ h)

equal_not_greater : (xs ys : List ℕ) → xs ≡ ys → slice_cmp nat_cmp xs ys ≡ Greater → ⊥
equal_not_greater xs ys e h =
    let same : is_eq (slice_cmp nat_cmp xs ys) ≡ true = is_eq-slice_cmp xs ys ∙ (bytes_eq-Decides xs ys).1 e in
    let other : is_eq (slice_cmp nat_cmp xs ys) ≡ false = ap is_eq h in
    cc

pub under_after : (old new : BTreeMap Bytes Bytes) (k v : Bytes)
    → new.entries ≡ insert_entry (λ x y. slice_cmp nat_cmp x.items y.items) old.entries k v
    → (q : List ℕ) → under new q ≡ cond (bytes_eq q k.items) (Some v.items) (under old q)
under_after old new k v put q =
    ap (λ es. text_of (lookup t es)) put
    ∙ (ap text_of (lookup_put (λ x y. slice_cmp nat_cmp x.items y.items) t k v same apart old.entries)
    ∙ (text_choice (t k) v (lookup t old.entries)
    ∙ ap (λ b. cond b (Some v.items) (under old q)) (is_eq-slice_cmp q k.items))) where
      t : Bytes → Bool
      t x = is_eq (slice_cmp nat_cmp q x.items)

      same : (x : Bytes) → slice_cmp nat_cmp k.items x.items ≡ Equal → t k ≡ t x
      same x h = ap (λ zs. is_eq (slice_cmp nat_cmp q zs)) (exact_bytes k.items x.items h)

      apart : (x : Bytes) → slice_cmp nat_cmp k.items x.items ≡ Greater → t k ≡ true → t x ≡ true → ⊥
      apart x greater at_k at_x = equal_not_greater k.items x.items (sym (found q k at_k) ∙ found q x at_x) greater

-- A new name is not that of an open file.
kept_choice : (b : Bool) (x y : Option (List ℕ)) → (b ≡ true → ⊥) → cond b x y ≡ y
kept_choice true x y never = absurd (never refl)
kept_choice false x y never = refl

same_under : (old new : BTreeMap Bytes Bytes) (name bytes : List ℕ) (o : Option Bytes)
    → ((q : List ℕ) → under new q ≡ cond (bytes_eq q name) (Some bytes) (under old q))
    → under old name ≡ None
    → ((b : Bytes) → o ≡ Some b → is_some (under old b.items) ≡ true)
    → under_one new o ≡ under_one old o
same_under old new name bytes None h missing there = refl
same_under old new name bytes (Some b) h missing there =
    h b.items ∙ kept_choice (bytes_eq b.items name) (Some bytes) (under old b.items) apart where
      apart : bytes_eq b.items name ≡ true → ⊥
      apart e =
          let gone : is_some (under old b.items) ≡ false =
          ap (λ q. is_some (under old q)) ((bytes_eq-Decides b.items name).0 e) ∙ ap is_some missing in
          let here : is_some (under old b.items) ≡ true = there b refl in
          cc

-- The numbers stay those of the same files where a file is added.
pub same_numbered : {S : Type 0} (old new : BTreeMap Bytes Bytes) (opened : HashMap ℕ Bytes S) (name bytes : List ℕ)
    → ((q : List ℕ) → under new q ≡ cond (bytes_eq q name) (Some bytes) (under old q))
    → under old name ≡ None
    → ((n : ℕ) (b : Bytes) → get nat_eq opened n ≡ Some b → is_some (under old b.items) ≡ true)
    → at_number new opened ≡ at_number old opened
same_numbered old new opened name bytes h missing there =
    fun_ext (λ n. same_under old new name bytes (get nat_eq opened n) h missing (there n))

pub none_if : (o : Option (List ℕ)) → is_some o ≡ false → o ≡ None
none_if None h = refl
none_if (Some text) h = cc

-- files of the same next number, of which the same reads fail
abbrev pub renamed : Files → (List ℕ → Option (List ℕ)) → (ℕ → Option (List ℕ)) → Files
renamed fs f g = record fs { named = f; opened = g }

pub renamed_after : (fs : Files) {f f' : List ℕ → Option (List ℕ)} {g g' : ℕ → Option (List ℕ)} → f ≡ f' → g ≡ g'
    → renamed fs f g ≡ renamed fs f' g'
renamed_after fs {f' = f'} {g = g} p q = ap (λ h. renamed fs h g) p ∙ ap (renamed fs f') q

-- files of the same names, of which the same reads fail
abbrev pub renumbered_files : Files → ℕ → (ℕ → Option (List ℕ)) → Files
renumbered_files fs next f = record fs { opened = f; next = next }
