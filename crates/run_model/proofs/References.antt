-- References of pools to files, where pools are made, filled, emptied and cleared.
use Rattle.std.proofs.Common.{◌≡◌, ℕ, zero, suc, ◌<◌, Bool, true, false, ◌||◌, ◌==◌, cond, List, [], ◌∷◌, ◌++◌, ◌⊎◌, inl, inr, refl, sym, ◌∙◌, ap, subst, arith, eqb-true}
use Rattle.std.specs.List.{list_any}
use Rattle.std.proofs.lemmas.Bool.{cases_lt}
use Rattle.std.proofs.lemmas.Bool.Decides.{eqb_tells, nat_tests}
use Rattle.std.proofs.lemmas.List.Folds.{list_any-append}
use Rattle.run_model.specs.declared.payload.Payload.{Payload}
use Rattle.run_model.specs.declared.payload.Payload.TheVariants.{Label, FileRef, Brigade}
use Rattle.run_model.specs.Indexed.{upd, any_below}
use Rattle.run_model.specs.Pools.{Pools, Cleanups, no_cleanups, all_held, is_under, with_one, created, registered, registered_as, cleared, destroyed}
use Rattle.run_model.specs.declared.effect.CleanupKind.{CleanupKind}
use Rattle.run_model.specs.declared.effect.CleanupKind.TheVariants.{Plain, Pre}
use Rattle.run_model.specs.RunOrder.{IsPoolMap, without_last, killed}
use Rattle.run_model.specs.Payloads.{is_label, is_file_ref}
use Rattle.run_model.specs.Files.{is_referred}
use Rattle.run_model.specs.Steps.{all_referred}
use Rattle.run_model.specs.Holding.{refers}
use Rattle.run_model.proofs.Updates.{upd_either}
use Rattle.run_model.proofs.Formed.{formed_fresh}
use Rattle.run_model.proofs.PoolMap.{cleared_apart, cleared_payloads, cleared_next, destroyed_apart, destroyed_under, destroyed_next}

pub one_of : (x y : Bool) → (x || y) ≡ true → (x ≡ true) ⊎ (y ≡ true)
one_of true y h = inl refl
one_of false y h = inr h

pub or_left : (x y : Bool) → x ≡ true → (x || y) ≡ true
or_left true y h = refl
or_left false y h = absurd (cc)

pub or_right : (x y : Bool) → y ≡ true → (x || y) ≡ true
or_right true y h = refl
or_right false y h = h

-- whether a reference to the file is held
abbrev pub held_refers : ℕ → Cleanups Payload → Bool
held_refers file c = list_any (is_file_ref file) (all_held c)

-- no payload is no reference
empty_refers : (file : ℕ) (c : Cleanups Payload) → c ≡ no_cleanups → list_any (is_file_ref file) (all_held c) ≡ true → ⊥
empty_refers file c none h = let both : list_any (is_file_ref file) [] ≡ true = sym (ap (λ (d : Cleanups Payload). list_any (is_file_ref file) (all_held d)) none) ∙ h in cc

-- of what is held there are those of both kinds
pub held_parts : (file : ℕ) (pre plain : List Payload) → list_any (is_file_ref file) (pre ++ plain) ≡ (list_any (is_file_ref file) pre || list_any (is_file_ref file) plain)
held_parts file pre plain = list_any-append (is_file_ref file) pre plain

-- a pool that holds a reference has a name that was given out
pub refers_given : (ps : Pools Payload) (p file : ℕ) → IsPoolMap ps → refers ps p file ≡ true → p < ps.next
refers_given ps p file f h = elim (cases_lt p ps.next) [
  | inl lt ↦ lt
  | inr le ↦ absurd (empty_refers file (ps.payloads p) (f.bare p (formed_fresh ps f p le)) h)
]

any_at : (n p : ℕ) (test : ℕ → Bool) → p < n → test p ≡ true → any_below n test ≡ true
unfolding any_below
any_at zero p test lt h = absurd (omega arith)
any_at (suc n) p test lt h = elim (eqb_tells p n) [
  | inl same ↦ or_left (test n) (any_below n test) (sym (ap test same.1) ∙ h)
  | inr differ ↦ or_right (test n) (any_below n test) (any_at n p test (omega (arith, differ.1)) h)
]

pub referred_at : (ps : Pools Payload) (p file : ℕ) → p < ps.next → refers ps p file ≡ true → is_referred ps file ≡ true
referred_at ps p file lt h = any_at ps.next p (λ (q : ℕ). refers ps q file) lt h

-- A pool is made.

pub created_refers : (parent : ℕ) (ps : Pools Payload) (p file : ℕ) → IsPoolMap ps → refers ps p file ≡ true → refers (created parent ps) p file ≡ true
unfolding created
created_refers parent ps p file f h = elim (upd_either ps.payloads ps.next p no_cleanups) [
  | inl q ↦ absurd (let lt : p < ps.next = refers_given ps p file f h in omega (arith, q.0))
  | inr q ↦ ap (held_refers file) q.1 ∙ h
]

pub created_back : (parent : ℕ) (ps : Pools Payload) (p file : ℕ) → refers (created parent ps) p file ≡ true → refers ps p file ≡ true
unfolding created
created_back parent ps p file h = elim (upd_either ps.payloads ps.next p no_cleanups) [
  | inl q ↦ absurd (empty_refers file _ q.1 h)
  | inr q ↦ sym (ap (held_refers file) q.1) ∙ h
]

-- A payload is registered.

plain_held : (file : ℕ) (c : Cleanups Payload) (x : Payload) → held_refers file (record c { plain = c.plain ++ x ∷ [] }) ≡ (held_refers file c || (is_file_ref file x || false))
plain_held file c x =
    held_parts file c.pre (c.plain ++ x ∷ [])
    ∙ (ap (λ (b : Bool). list_any (is_file_ref file) c.pre || b) (held_parts file c.plain (x ∷ []))
    ∙ (in_three (list_any (is_file_ref file) c.pre) (list_any (is_file_ref file) c.plain) (is_file_ref file x || false)
    ∙ sym (ap (λ (b : Bool). b || (is_file_ref file x || false)) (held_parts file c.pre c.plain)))) where
      in_three : (a b d : Bool) → (a || (b || d)) ≡ ((a || b) || d)
      in_three true b d = refl
      in_three false b d = refl

pre_held : (file : ℕ) (c : Cleanups Payload) (x : Payload) → held_refers file (record c { pre = c.pre ++ x ∷ [] }) ≡ (held_refers file c || (is_file_ref file x || false))
pre_held file c x =
    held_parts file (c.pre ++ x ∷ []) c.plain
    ∙ (ap (λ (b : Bool). b || list_any (is_file_ref file) c.plain) (held_parts file c.pre (x ∷ []))
    ∙ (in_three (list_any (is_file_ref file) c.pre) (list_any (is_file_ref file) c.plain) (is_file_ref file x || false)
    ∙ sym (ap (λ (b : Bool). b || (is_file_ref file x || false)) (held_parts file c.pre c.plain)))) where
      in_three : (a b d : Bool) → ((a || d) || b) ≡ ((a || b) || d)
      in_three true b d = refl
      in_three false true true = refl
      in_three false true false = refl
      in_three false false d = or_none d where
        or_none : (d : Bool) → (d || false) ≡ d
        or_none true = refl
        or_none false = refl

-- one more of either kind
pub one_held : (k : CleanupKind) (file : ℕ) (c : Cleanups Payload) (x : Payload) → held_refers file (with_one k x c) ≡ (held_refers file c || (is_file_ref file x || false))
one_held Plain file c x = plain_held file c x
one_held Pre file c x = pre_held file c x

alone : (b : Bool) → (b || false) ≡ true → b ≡ true
alone true h = refl
alone false h = h

pub registered_as_refers : (k : CleanupKind) (n : ℕ) (x : Payload) (ps : Pools Payload) (p file : ℕ) → refers ps p file ≡ true → refers (registered_as k n x ps) p file ≡ true
unfolding registered_as
registered_as_refers k n x ps p file h = elim (upd_either ps.payloads n p (with_one k x (ps.payloads n))) [
  | inl q ↦ ap (held_refers file) q.1 ∙ (one_held k file (ps.payloads n) x ∙ or_left (held_refers file (ps.payloads n)) _ (sym (ap (λ (m : ℕ). refers ps m file) q.0) ∙ h))
  | inr q ↦ ap (held_refers file) q.1 ∙ h
]

pub registered_as_back : (k : CleanupKind) (n : ℕ) (x : Payload) (ps : Pools Payload) (p file : ℕ) → refers (registered_as k n x ps) p file ≡ true
    → (refers ps p file ≡ true) ⊎ (is_file_ref file x ≡ true)
unfolding registered_as
registered_as_back k n x ps p file h = elim (upd_either ps.payloads n p (with_one k x (ps.payloads n))) [
  | inl q ↦ (elim (one_of (held_refers file (ps.payloads n)) (is_file_ref file x || false) (sym (one_held k file (ps.payloads n) x) ∙ (sym (ap (held_refers file) q.1) ∙ h))) [
    | inl old ↦ inl (ap (λ (m : ℕ). refers ps m file) q.0 ∙ old)
    | inr new ↦ inr (alone (is_file_ref file x) new)
  ])
  | inr q ↦ inl (sym (ap (held_refers file) q.1) ∙ h)
]

pub registered_as_itself : (k : CleanupKind) (n : ℕ) (file : ℕ) (ps : Pools Payload) → refers (registered_as k n (FileRef file) ps) n file ≡ true
unfolding registered_as
registered_as_itself k n file ps = elim (upd_either ps.payloads n n (with_one k (FileRef file) (ps.payloads n))) [
  | inl q ↦ ap (held_refers file) q.1
      ∙ (one_held k file (ps.payloads n) (FileRef file) ∙ or_right (held_refers file (ps.payloads n)) _ (or_left (file == file) false (nat_same file)))
  | inr q ↦ absurd (q.0 refl)
] where
  nat_same : (k : ℕ) → (k == k) ≡ true
  nat_same k = grind (arith, nat_tests)

pub registered_refers : (n : ℕ) (x : Payload) (ps : Pools Payload) (p file : ℕ) → refers ps p file ≡ true → refers (registered n x ps) p file ≡ true
registered_refers n x ps p file h = registered_as_refers Plain n x ps p file h

pub registered_back : (n : ℕ) (x : Payload) (ps : Pools Payload) (p file : ℕ) → refers (registered n x ps) p file ≡ true → (refers ps p file ≡ true) ⊎ (is_file_ref file x ≡ true)
registered_back n x ps p file h = registered_as_back Plain n x ps p file h

pub registered_itself : (n : ℕ) (file : ℕ) (ps : Pools Payload) → refers (registered n (FileRef file) ps) n file ≡ true
registered_itself n file ps = registered_as_itself Plain n file ps

-- References are registered one after another.

pub all_grow : (target : ℕ) (files : List ℕ) (ps : Pools Payload) (p file : ℕ) → refers ps p file ≡ true → refers (all_referred target files ps) p file ≡ true
unfolding all_referred
all_grow target [] ps p file h = h
all_grow target (f ∷ fs) ps p file h = all_grow target fs (registered target (FileRef f) ps) p file (registered_refers target (FileRef f) ps p file h)

pub all_there : (target : ℕ) (files : List ℕ) (ps : Pools Payload) (file : ℕ) → list_any (λ g. g == file) files ≡ true → refers (all_referred target files ps) target file ≡ true
unfolding all_referred
all_there target [] ps file h = absurd (cc)
all_there target (f ∷ fs) ps file h = elim (one_of (f == file) (list_any (λ g. g == file) fs) h) [
  | inl here ↦ all_grow target fs (registered target (FileRef f) ps) target file
      (subst (λ (k : ℕ). refers (registered target (FileRef f) ps) target k ≡ true) (eqb-true f file here) (registered_itself target f ps))
  | inr rest ↦ all_there target fs (registered target (FileRef f) ps) file rest
]

pub all_back : (target : ℕ) (files : List ℕ) (ps : Pools Payload) (p file : ℕ) → refers (all_referred target files ps) p file ≡ true
    → (refers ps p file ≡ true) ⊎ (list_any (λ g. g == file) files ≡ true)
unfolding all_referred
all_back target [] ps p file h = inl h
all_back target (f ∷ fs) ps p file h = elim (all_back target fs (registered target (FileRef f) ps) p file h) [
  | inl first ↦ (elim (registered_back target (FileRef f) ps p file first) [
    | inl old ↦ inl old
    | inr new ↦ inr (or_left (f == file) (list_any (λ g. g == file) fs) new)
  ])
  | inr rest ↦ inr (or_right (f == file) (list_any (λ g. g == file) fs) rest)
]

-- A label is killed.

thinned_refers : (text : List ℕ) (file : ℕ) (xs : List Payload) → list_any (is_file_ref file) (without_last (is_label text) xs) ≡ list_any (is_file_ref file) xs
unfolding without_last
thinned_refers text file [] = refl
thinned_refers text file (Label other ∷ xs) = by_tests (list_any (is_label text) xs) (is_label text (Label other)) (thinned_refers text file xs) where
  by_tests : (later here : Bool) → list_any (is_file_ref file) (without_last (is_label text) xs) ≡ list_any (is_file_ref file) xs
      → list_any (is_file_ref file) (cond later (Label other ∷ without_last (is_label text) xs) (cond here xs (Label other ∷ xs))) ≡ list_any (is_file_ref file) (Label other ∷ xs)
  by_tests true here rest = rest
  by_tests false true rest = refl
  by_tests false false rest = refl
thinned_refers text file (FileRef other ∷ xs) = by_tests (list_any (is_label text) xs) (thinned_refers text file xs) where
  by_tests : (later : Bool) → list_any (is_file_ref file) (without_last (is_label text) xs) ≡ list_any (is_file_ref file) xs
      → list_any (is_file_ref file) (cond later (FileRef other ∷ without_last (is_label text) xs) (FileRef other ∷ xs)) ≡ list_any (is_file_ref file) (FileRef other ∷ xs)
  by_tests true rest = ap (λ (b : Bool). (other == file) || b) rest
  by_tests false rest = refl
thinned_refers text file (Brigade name ∷ xs) = by_tests (list_any (is_label text) xs) (thinned_refers text file xs) where
  by_tests : (later : Bool) → list_any (is_file_ref file) (without_last (is_label text) xs) ≡ list_any (is_file_ref file) xs
      → list_any (is_file_ref file) (cond later (Brigade name ∷ without_last (is_label text) xs) (Brigade name ∷ xs)) ≡ list_any (is_file_ref file) (Brigade name ∷ xs)
  by_tests true rest = rest
  by_tests false rest = refl

pub killed_refers : (n : ℕ) (text : List ℕ) (ps : Pools Payload) (p file : ℕ) → refers (killed n (is_label text) ps) p file ≡ refers ps p file
unfolding killed without_last
killed_refers n text ps p file = elim (upd_either ps.payloads n p (record (ps.payloads n) { plain = without_last (is_label text) (ps.payloads n).plain })) [
  | inl q ↦ ap (held_refers file) q.1
      ∙ (held_parts file (ps.payloads n).pre _
      ∙ (ap (λ (b : Bool). list_any (is_file_ref file) (ps.payloads n).pre || b) (thinned_refers text file (ps.payloads n).plain)
      ∙ (sym (held_parts file (ps.payloads n).pre (ps.payloads n).plain) ∙ sym (ap (λ (k : ℕ). refers ps k file) q.0))))
  | inr q ↦ ap (held_refers file) q.1
]

-- Pools go.

-- What is left of the pool map where what stands under n goes, as far as payloads show it.
pub record Emptied (n : ℕ) (ps new : Pools Payload) : Type 0 where
  pub kept : (m : ℕ) → is_under ps n m ≡ false → new.payloads m ≡ ps.payloads m
  pub gone : (m : ℕ) → is_under ps n m ≡ true → new.payloads m ≡ no_cleanups
  pub next : new.next ≡ ps.next

pub emptied_refers : (n : ℕ) (ps new : Pools Payload) → Emptied n ps new → (p file : ℕ) → is_under ps n p ≡ false → refers ps p file ≡ true → refers new p file ≡ true
emptied_refers n ps new e p file off h = ap (held_refers file) (e.kept p off) ∙ h

pub emptied_back : (n : ℕ) (ps new : Pools Payload) → Emptied n ps new → (p file : ℕ) → refers new p file ≡ true → (is_under ps n p ≡ false) × (refers ps p file ≡ true)
emptied_back n ps new e p file h = by_test (is_under ps n p) refl where
  by_test : (b : Bool) → is_under ps n p ≡ b → (b ≡ false) × (refers ps p file ≡ true)
  by_test true is = absurd (empty_refers file (new.payloads p) (e.gone p is) h)
  by_test false is = (refl, sym (ap (held_refers file) (e.kept p is)) ∙ h)

pub cleared_emptied : (n : ℕ) (ps : Pools Payload) → Emptied n ps (cleared n ps)
cleared_emptied n ps = record { kept = λ m off. (cleared_apart n ps m off).1; gone = λ m under. cleared_payloads n ps m under; next = cleared_next n ps }

pub destroyed_emptied : (n : ℕ) (ps : Pools Payload) → Emptied n ps (destroyed n ps)
destroyed_emptied n ps = record { kept = λ m off. (destroyed_apart n ps m off).1; gone = λ m under. (destroyed_under n ps m under).1; next = destroyed_next n ps }
