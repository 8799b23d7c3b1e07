-- Each step keeps brigades registered with their pools, those of its instance and of others.
use Rattle.run_model.specs.declared.effect.CleanupKind.{CleanupKind}
use Rattle.run_model.specs.declared.effect.CleanupKind.TheVariants.{Plain, Pre}
use Rattle.std.proofs.Common.{◌≡◌, ◌≢◌, ◌⊎◌, ℕ, ◌+◌, ◌<◌, Bool, true, false, ◌==◌, cond, List, [], ◌∷◌, ◌++◌, map, filter_map, Option, Some, None, inl, inr, refl, sym, ◌∙◌, ap, subst, arith, ne_eqb}
use Rattle.std.proofs.Common.{eq-eqb}
use Rattle.std.proofs.lemmas.Option.{same_Some}
use Rattle.std.specs.Prelude.{count_by}
use Rattle.std.specs.List.{list_any, sum_by}
use Rattle.std.proofs.lemmas.Bool.{cases_eq, cases_lt}
use Rattle.std.proofs.lemmas.List.Sums.{sum_by-append}
use Rattle.module_code.specs.declared.instr.PoolRef.TheVariants as pool
use Rattle.module_code.specs.declared.instr.Instr.{Instr}
use Rattle.module_code.specs.declared.instr.Instr.TheVariants as instr
use Rattle.module_code.specs.Program.{Program, pool_of_brigade}
use Rattle.run_model.specs.declared.bucket.Mark.TheVariants.{Usable}
use Rattle.run_model.specs.declared.bucket.NamedBucket.{NamedBucket}
use Rattle.run_model.specs.declared.bucket.BrigadeVar.{BrigadeVar}
use Rattle.run_model.specs.declared.bucket.BrigadeVar.TheVariants as var
use Rattle.run_model.specs.declared.bucket.PoolVar.TheVariants as poolvar
use Rattle.run_model.specs.declared.bucket.Cursor.{Cursor}
use Rattle.run_model.specs.declared.payload.Payload.{Payload}
use Rattle.run_model.specs.declared.payload.Payload.TheVariants.{Label, FileRef, Brigade}
use Rattle.run_model.specs.Payloads.{is_label, is_brigade}
use Rattle.run_model.specs.Pools.{Pools, is_under, created, registered, registered_as, Cleanups, no_cleanups, all_held, with_one}
use Rattle.run_model.specs.RunOrder.{IsPoolMap, without_last, killed}
use Rattle.run_model.specs.Buckets.{cleared_bucket}
use Rattle.run_model.specs.BucketSteps.{set_items, names_given}
use Rattle.run_model.specs.Clearing.{is_reached, cleared_var, run_down}
use Rattle.run_model.specs.State.{Instance, Configuration, items_of, set_pool, with_pools, set_brigade, set_loose, set_cursor, set_number, pool_named}
use Rattle.run_model.specs.Faults.{WPool, fault_want, new_fault, or_else}
use Rattle.run_model.specs.Steps.{do_leave, Choice, step, on_pool, with_brigade, all_referred, do_create, do_pass, do_return, do_clean, do_concat, cleaned, handed_over, with_items, returned_var, made_on}
use Rattle.run_model.specs.Steps.{new_ref, saved_into, pool_cleared, pool_destroyed, label_registered, label_killed, text_of}
use Rattle.run_model.specs.Chains.{is_under_named, cleared_by, touched_var, touched_instance}
use Rattle.run_model.specs.Sound.{brigade_name, brigade_pool, SoundNames, Sound}
use Rattle.model_laws.specs.Laws.{MayExecute, is_clear}
use Rattle.model_laws.specs.AsDeclared.{AsDeclared}
use Rattle.model_laws.specs.Registered.{IsMadeIn, AreRegistered, IsMadeInOne, IsMadeWith, StepKeepsRegistered}
use Rattle.run_model.specs.Holding.{times_held}
use Rattle.run_model.proofs.Updates.{upd_at, upd_off, upd_either}
use Rattle.model_laws.proofs.Marks.{first_none, second_none}
use Rattle.run_model.proofs.Names.{at_each, at_two}
use Rattle.run_model.proofs.Formed.{formed_fresh}
use Rattle.model_laws.proofs.NamedPools.{with_buffer, on_named, made_under_named}
use Rattle.model_laws.proofs.BucketFrame.{IsFrame, placed_step}
use Rattle.run_model.proofs.References.{Emptied, cleared_emptied, destroyed_emptied}

-- Payloads that come and go.

abbrev one_if : ℕ → Payload → ℕ
one_if name x = cond (is_brigade name x) 1 0

-- one more payload of either kind counts once
counted_one : (how : CleanupKind) (name : ℕ) (x : Payload) (c : Cleanups Payload) → count_by (is_brigade name) (all_held (with_one how x c)) ≡ count_by (is_brigade name) (all_held c) + one_if name x
counted_one Plain name x c =
    let whole : sum_by (one_if name) (c.pre ++ (c.plain ++ x ∷ [])) ≡ sum_by (one_if name) c.pre + sum_by (one_if name) (c.plain ++ x ∷ []) = sum_by-append (one_if name) c.pre (c.plain ++ x ∷ []) in
    let part : sum_by (one_if name) (c.plain ++ x ∷ []) ≡ sum_by (one_if name) c.plain + sum_by (one_if name) (x ∷ []) = sum_by-append (one_if name) c.plain (x ∷ []) in
    let old : sum_by (one_if name) (c.pre ++ c.plain) ≡ sum_by (one_if name) c.pre + sum_by (one_if name) c.plain = sum_by-append (one_if name) c.pre c.plain in
    let last : sum_by (one_if name) (x ∷ []) ≡ one_if name x = omega arith in
    let goal : sum_by (one_if name) (c.pre ++ (c.plain ++ x ∷ [])) ≡ sum_by (one_if name) (c.pre ++ c.plain) + one_if name x = omega arith in goal
counted_one Pre name x c =
    let whole : sum_by (one_if name) ((c.pre ++ x ∷ []) ++ c.plain) ≡ sum_by (one_if name) (c.pre ++ x ∷ []) + sum_by (one_if name) c.plain = sum_by-append (one_if name) (c.pre ++ x ∷ []) c.plain in
    let part : sum_by (one_if name) (c.pre ++ x ∷ []) ≡ sum_by (one_if name) c.pre + sum_by (one_if name) (x ∷ []) = sum_by-append (one_if name) c.pre (x ∷ []) in
    let old : sum_by (one_if name) (c.pre ++ c.plain) ≡ sum_by (one_if name) c.pre + sum_by (one_if name) c.plain = sum_by-append (one_if name) c.pre c.plain in
    let last : sum_by (one_if name) (x ∷ []) ≡ one_if name x = omega arith in
    let goal : sum_by (one_if name) ((c.pre ++ x ∷ []) ++ c.plain) ≡ sum_by (one_if name) (c.pre ++ c.plain) + one_if name x = omega arith in goal

abbrev held_by : ℕ → Cleanups Payload → ℕ
held_by name c = count_by (is_brigade name) (all_held c)

held_more_as : (how : CleanupKind) (n : ℕ) (x : Payload) (ps : Pools Payload) (name : ℕ) → times_held (registered_as how n x ps) name n ≡ times_held ps name n + one_if name x
unfolding registered_as
held_more_as how n x ps name = ap (held_by name) (upd_at ps.payloads n (with_one how x (ps.payloads n))) ∙ counted_one how name x (ps.payloads n)

held_more : (n : ℕ) (x : Payload) (ps : Pools Payload) (name : ℕ) → times_held (registered n x ps) name n ≡ times_held ps name n + one_if name x
held_more n x ps name = held_more_as Plain n x ps name

held_elsewhere_as : (how : CleanupKind) (n : ℕ) (x : Payload) (ps : Pools Payload) (name p : ℕ) → p ≢ n → times_held (registered_as how n x ps) name p ≡ times_held ps name p
unfolding registered_as
held_elsewhere_as how n x ps name p ne = ap (held_by name) (upd_off ps.payloads n p (with_one how x (ps.payloads n)) ne)

held_elsewhere : (n : ℕ) (x : Payload) (ps : Pools Payload) (name p : ℕ) → p ≢ n → times_held (registered n x ps) name p ≡ times_held ps name p
held_elsewhere n x ps name p ne = held_elsewhere_as Plain n x ps name p ne

-- a payload that is not this brigade
pub held_beside_as : (how : CleanupKind) (n : ℕ) (x : Payload) (ps : Pools Payload) (name p : ℕ) → is_brigade name x ≡ false → times_held (registered_as how n x ps) name p ≡ times_held ps name p
held_beside_as how n x ps name p other = elim (cases_eq p n) [
  | inl is ↦ (let none : one_if name x ≡ 0 = ap (λ (b : Bool). cond b 1 0) other in
      let more : times_held (registered_as how n x ps) name n ≡ times_held ps name n + one_if name x = held_more_as how n x ps name in
      let same : times_held (registered_as how n x ps) name n ≡ times_held ps name n = omega arith in
      subst (λ (k : ℕ). times_held (registered_as how n x ps) name k ≡ times_held ps name k) (sym is) same)
  | inr ne ↦ held_elsewhere_as how n x ps name p ne
]

pub held_beside : (n : ℕ) (x : Payload) (ps : Pools Payload) (name p : ℕ) → is_brigade name x ≡ false → times_held (registered n x ps) name p ≡ times_held ps name p
held_beside n x ps name p other = held_beside_as Plain n x ps name p other

held_referred : (target : ℕ) (files : List ℕ) (ps : Pools Payload) (name p : ℕ) → times_held (all_referred target files ps) name p ≡ times_held ps name p
unfolding all_referred
held_referred target [] ps name p = refl
held_referred target (file ∷ files) ps name p = held_referred target files (registered target (FileRef file) ps) name p ∙ held_beside target (FileRef file) ps name p refl

thinned : (text : List ℕ) (name : ℕ) (xs : List Payload) → count_by (is_brigade name) (without_last (is_label text) xs) ≡ count_by (is_brigade name) xs
unfolding without_last
thinned text name [] = refl
thinned text name (Label other ∷ xs) = by_tests (list_any (is_label text) xs) (is_label text (Label other)) (thinned text name xs) where
  by_tests : (later here : Bool) → count_by (is_brigade name) (without_last (is_label text) xs) ≡ count_by (is_brigade name) xs
      → count_by (is_brigade name) (cond later (Label other ∷ without_last (is_label text) xs) (cond here xs (Label other ∷ xs))) ≡ count_by (is_brigade name) (Label other ∷ xs)
  by_tests true here rest = omega (arith, rest)
  by_tests false true rest = omega arith
  by_tests false false rest = refl
thinned text name (FileRef file ∷ xs) = by_tests (list_any (is_label text) xs) (thinned text name xs) where
  by_tests : (later : Bool) → count_by (is_brigade name) (without_last (is_label text) xs) ≡ count_by (is_brigade name) xs
      → count_by (is_brigade name) (cond later (FileRef file ∷ without_last (is_label text) xs) (FileRef file ∷ xs)) ≡ count_by (is_brigade name) (FileRef file ∷ xs)
  by_tests true rest = omega (arith, rest)
  by_tests false rest = refl
thinned text name (Brigade other ∷ xs) = by_tests (list_any (is_label text) xs) (thinned text name xs) where
  by_tests : (later : Bool) → count_by (is_brigade name) (without_last (is_label text) xs) ≡ count_by (is_brigade name) xs
      → count_by (is_brigade name) (cond later (Brigade other ∷ without_last (is_label text) xs) (Brigade other ∷ xs)) ≡ count_by (is_brigade name) (Brigade other ∷ xs)
  by_tests true rest =
      sum_by-append (one_if name) (Brigade other ∷ []) (without_last (is_label text) xs)
      ∙ (ap (λ (k : ℕ). sum_by (one_if name) (Brigade other ∷ []) + k) rest ∙ sym (sum_by-append (one_if name) (Brigade other ∷ []) xs))
  by_tests false rest = refl

held_killed : (n : ℕ) (text : List ℕ) (ps : Pools Payload) (name p : ℕ) → times_held (killed n (is_label text) ps) name p ≡ times_held ps name p
unfolding killed
held_killed n text ps name p = elim (upd_either ps.payloads n p thin) [
  | inl q ↦ ap (held_by name) q.1 ∙ (thinner ∙ sym (ap (λ (k : ℕ). times_held ps name k) q.0))
  | inr q ↦ ap (held_by name) q.1
] where
  thin : Cleanups Payload
  thin = record (ps.payloads n) { plain = without_last (is_label text) (ps.payloads n).plain }

  thinner : held_by name thin ≡ held_by name (ps.payloads n)
  thinner =
      sum_by-append (one_if name) (ps.payloads n).pre (without_last (is_label text) (ps.payloads n).plain)
      ∙ (ap (λ (k : ℕ). sum_by (one_if name) (ps.payloads n).pre + k) (thinned text name (ps.payloads n).plain)
      ∙ sym (sum_by-append (one_if name) (ps.payloads n).pre (ps.payloads n).plain))

pub held_created : (parent : ℕ) (ps : Pools Payload) → IsPoolMap ps → (name p : ℕ) → times_held (created parent ps) name p ≡ times_held ps name p
unfolding created
held_created parent ps f name p = elim (upd_either ps.payloads ps.next p no_cleanups) [
  | inl q ↦ (let bare : ps.payloads p ≡ no_cleanups = f.bare p (formed_fresh ps f p (omega (arith, q.0))) in ap (held_by name) q.1 ∙ sym (ap (held_by name) bare))
  | inr q ↦ ap (held_by name) q.1
]

-- Variables.

-- a live brigade of this name on this pool
abbrev pub LiesOn : BrigadeVar → ℕ → ℕ → Type 0
LiesOn v name p = (brigade_name v ≡ Some name) × (brigade_pool v ≡ Some p)

-- what lies on a pool is the same
abbrev pub SameBrigade : BrigadeVar → BrigadeVar → Type 0
SameBrigade v w = (name p : ℕ) → (LiesOn v name p → LiesOn w name p) × (LiesOn w name p → LiesOn v name p)

pub same_brigade : (v : BrigadeVar) → SameBrigade v v
same_brigade v name p = (λ h. h, λ h. h)

cleaned_same : (v : BrigadeVar) → SameBrigade v (cleaned v)
cleaned_same var.Null = same_brigade var.Null
cleaned_same var.Gone = same_brigade var.Gone
cleaned_same (var.Live v) = λ name p. (λ h. h, λ h. h)

pub handed_same : (v : BrigadeVar) → SameBrigade v (handed_over v)
handed_same var.Null = same_brigade var.Null
handed_same var.Gone = same_brigade var.Gone
handed_same (var.Live v) = λ name p. (λ h. h, λ h. h)

pub filled_same : (items : List NamedBucket) (v : BrigadeVar) → SameBrigade v (with_items items v)
filled_same items var.Null = same_brigade var.Null
filled_same items var.Gone = same_brigade var.Gone
filled_same items (var.Live v) = λ name p. (λ h. h, λ h. h)

pub returned_same : (call : ℕ) (v : BrigadeVar) → SameBrigade v (returned_var call v)
returned_same call var.Null = same_brigade var.Null
returned_same call var.Gone = same_brigade var.Gone
returned_same call (var.Live v) = λ name p. (λ h. h, λ h. h)

-- What is made is the same, and payloads count alike.
pub kept_as : (M N : ℕ → ℕ → Type 0) (ps new : Pools Payload) → ((name p : ℕ) → times_held new name p ≡ times_held ps name p)
    → ((name p : ℕ) → M name p → N name p) → ((name p : ℕ) → N name p → M name p) → AreRegistered M ps → AreRegistered N new
kept_as M N ps new times to from s = record {
  once = λ name p m. times name p ∙ s.once name p (from name p m);
  only = λ name p h. to name p (s.only name p (subst (λ (k : ℕ). 0 < k) (times name p) h));
}

pub still : (ps : Pools Payload) (name p : ℕ) → times_held ps name p ≡ times_held ps name p
still ps name p = refl

-- What lies under the pool n goes.
pub went_as : (M N : ℕ → ℕ → Type 0) (n : ℕ) (ps new : Pools Payload) → Emptied n ps new
    → ((name p : ℕ) → M name p → is_under ps n p ≡ false → N name p) → ((name p : ℕ) → N name p → M name p × (is_under ps n p ≡ false)) → AreRegistered M ps → AreRegistered N new
went_as M N n ps new e stays left s = record { once = once; only = λ name p h. only name p h (is_under ps n p) refl } where
  once : (name p : ℕ) → N name p → times_held new name p ≡ 1
  once name p m = let old = left name p m in ap (held_by name) (e.kept p old.1) ∙ s.once name p old.0

  only : (name p : ℕ) → 0 < times_held new name p → (b : Bool) → is_under ps n p ≡ b → N name p
  only name p h true under = absurd (let none : times_held new name p ≡ 0 = ap (held_by name) (e.gone p under) in omega arith)
  only name p h false off = stays name p (s.only name p (subst (λ (c : Cleanups Payload). 0 < held_by name c) (e.kept p off) h)) off

-- Instances.

pub made_same : (i new : Instance) → ((b : ℕ) → SameBrigade (i.brigades b) (new.brigades b)) → (name p : ℕ) → (IsMadeIn i name p → IsMadeIn new name p) × (IsMadeIn new name p → IsMadeIn i name p)
made_same i new slots name p = (λ m. (let now = (slots m.0 name p).0 (m.1, m.2) in (m.0, now.0, now.1)), λ m. (let old = (slots m.0 name p).1 (m.1, m.2) in (m.0, old.0, old.1)))

abbrev pub Spared : (ℕ → Bool) → BrigadeVar → BrigadeVar → Type 0
Spared reached v w = (name p : ℕ) → (LiesOn v name p → reached p ≡ false → LiesOn w name p) × (LiesOn w name p → LiesOn v name p × (reached p ≡ false))

pub spared : (reached : ℕ → Bool) (v : BrigadeVar) → Spared reached v (cleared_var reached v)
spared reached var.Null name p = (λ h off. h, λ h. absurd (let no = h.0 in cc))
spared reached var.Gone name p = (λ h off. h, λ h. absurd (let no = h.0 in cc))
spared reached (var.Live v) name p = by_test (is_reached reached v.on) refl where
  by_test : (b : Bool) → is_reached reached v.on ≡ b
      → (LiesOn (var.Live v) name p → reached p ≡ false → LiesOn (cond b var.Gone (var.Live (record v { items = map (cleared_bucket reached) v.items }))) name p)
      × (LiesOn (cond b var.Gone (var.Live (record v { items = map (cleared_bucket reached) v.items }))) name p → LiesOn (var.Live v) name p × (reached p ≡ false))
  by_test true is = (λ h off. absurd (let both : true ≡ false = sym is ∙ ap (is_reached reached) h.1 ∙ off in cc), λ h. absurd (let no = h.0 in cc))
  by_test false is = (λ h off. h, λ h. (h, sym (ap (is_reached reached) h.1) ∙ is))

pub made_spared : (reached : ℕ → Bool) (i new : Instance) → ((b : ℕ) → Spared reached (i.brigades b) (new.brigades b)) → (name p : ℕ)
    → (IsMadeIn i name p → reached p ≡ false → IsMadeIn new name p) × (IsMadeIn new name p → IsMadeIn i name p × (reached p ≡ false))
made_spared reached i new slots name p =
    (λ m off. (let now = (slots m.0 name p).0 (m.1, m.2) off in (m.0, now.0, now.1)), λ m. (let old = (slots m.0 name p).1 (m.1, m.2) in ((m.0, old.0.0, old.0.1), old.1)))

-- What is made in this instance, or where others say so.

abbrev pub IsMadeOr : (ℕ → ℕ → Type 0) → Instance → ℕ → ℕ → Type 0
IsMadeOr Others i name p = IsMadeIn i name p ⊎ Others name p

-- whether what lies on the pool p goes by an instruction
abbrev pub takes_from : Configuration → Instr → ℕ → Bool
takes_from r (instr.PClear q) p = cleared_by r q p
takes_from r (instr.PDestroy q) p = cleared_by r q p
takes_from r i p = false

either : (A B C D : Type 0) → (A → B) → (C → D) → A ⊎ C → B ⊎ D
either A B C D f g (inl a) = inl (f a)
either A B C D f g (inr c) = inr (g c)

-- A brigade is made.

held_made : (on : Option ℕ) (new : ℕ) (ps : Pools Payload) (name p : ℕ) → new ≢ name → times_held (with_brigade on new ps) name p ≡ times_held ps name p
unfolding with_brigade
held_made None new ps name p ne = refl
held_made (Some n) new ps name p ne = held_beside n (Brigade new) ps name p (ne_eqb new name ne)

none_new : (v : BrigadeVar) (name : ℕ) → new_fault v ≡ None → brigade_name v ≡ Some name → ⊥
none_new var.Null name none is = cc
none_new var.Gone name none is = cc
none_new (var.Live v) name none is = cc

-- a brought brigade lies on no pool
pub in_on_none : (p : Program) (r : Configuration) → AsDeclared p r → (name q : ℕ) → LiesOn (r.instance.brigades 8) name q → ⊥
in_on_none p r d name q h = by_var (r.instance.brigades 8) refl h where
  by_var : (v : BrigadeVar) → r.instance.brigades 8 ≡ v → LiesOn v name q → ⊥
  by_var var.Null is h = let no = h.0 in cc
  by_var var.Gone is h = let no = h.0 in cc
  by_var (var.Live v) is h = let no : ◌≡◌ {A = Option ℕ} None (Some q) = sym (d.incoming v is) ∙ h.1 in cc

-- what lies on no pool comes or goes in a variable
pub no_brigade : (v w : BrigadeVar) → ((name p : ℕ) → LiesOn v name p → ⊥) → ((name p : ℕ) → LiesOn w name p → ⊥) → SameBrigade v w
no_brigade v w before after name p = (λ h. absurd (before name p h), λ h. absurd (after name p h))

all_same : (r : Configuration) (b : ℕ) → SameBrigade (r.instance.brigades b) (r.instance.brigades b)
all_same r b = same_brigade (r.instance.brigades b)

-- Steps, where others hold these brigades.

module _ (Others : ℕ → ℕ → Type 0) where
  abbrev WithPools : Configuration → Type 0
  WithPools r = AreRegistered (IsMadeOr Others r.instance) r.shared.pools

  kept : (r new : Configuration) → ((name p : ℕ) → times_held new.shared.pools name p ≡ times_held r.shared.pools name p)
      → ((b : ℕ) → SameBrigade (r.instance.brigades b) (new.instance.brigades b)) → WithPools r → WithPools new
  kept r new times slots s =
      kept_as (IsMadeOr Others r.instance) (IsMadeOr Others new.instance) r.shared.pools new.shared.pools times
      (λ name p. either (IsMadeIn r.instance name p) (IsMadeIn new.instance name p) (Others name p) (Others name p) (made_same r.instance new.instance slots name p).0 (λ o. o))
      (λ name p. either (IsMadeIn new.instance name p) (IsMadeIn r.instance name p) (Others name p) (Others name p) (made_same r.instance new.instance slots name p).1 (λ o. o)) s

  none_next : (r : Configuration) → SoundNames r → ((name q : ℕ) → Others name q → name < r.shared.next) → (p : ℕ) → IsMadeOr Others r.instance r.shared.next p → ⊥
  none_next r names given p (inl m) = let lt : r.shared.next < r.shared.next = names.given m.0 r.shared.next m.1 in omega arith
  none_next r names given p (inr o) = let lt : r.shared.next < r.shared.next = given r.shared.next p o in omega arith

  not_held : (r : Configuration) → SoundNames r → ((name q : ℕ) → Others name q → name < r.shared.next) → WithPools r → (p : ℕ) → times_held r.shared.pools r.shared.next p ≡ 0
  not_held r names given s p = elim (cases_lt 0 (times_held r.shared.pools r.shared.next p)) [
    | inl lt ↦ absurd (none_next r names given p (s.only r.shared.next p lt))
    | inr le ↦ omega arith
  ]

  held_itself : (n : ℕ) (r : Configuration) → ((p : ℕ) → times_held r.shared.pools r.shared.next p ≡ 0) → times_held (with_brigade (Some n) r.shared.next r.shared.pools) r.shared.next n ≡ 1
  unfolding with_brigade
  held_itself n r new =
      let more : times_held (registered n (Brigade r.shared.next) r.shared.pools) r.shared.next n ≡ times_held r.shared.pools r.shared.next n + one_if r.shared.next (Brigade r.shared.next) =
      held_more n (Brigade r.shared.next) r.shared.pools r.shared.next in
      let one : one_if r.shared.next (Brigade r.shared.next) ≡ 1 = ap (λ (b : Bool). cond b 1 0) (eq-eqb r.shared.next r.shared.next refl) in
      let none : times_held r.shared.pools r.shared.next n ≡ 0 = new n in
      omega arith

  held_only_there : (on : Option ℕ) (p : ℕ) (r : Configuration) → ((q : ℕ) → times_held r.shared.pools r.shared.next q ≡ 0)
      → 0 < times_held (with_brigade on r.shared.next r.shared.pools) r.shared.next p → on ≡ Some p
  unfolding with_brigade
  held_only_there None p r new h = absurd (let none : times_held r.shared.pools r.shared.next p ≡ 0 = new p in omega arith)
  held_only_there (Some n) p r new h = elim (cases_eq p n) [
    | inl is ↦ ap (λ (k : ℕ). Some k) (sym is)
    | inr ne ↦ absurd (let none : times_held r.shared.pools r.shared.next p ≡ 0 = new p in
        let same : times_held (registered n (Brigade r.shared.next) r.shared.pools) r.shared.next p ≡ times_held r.shared.pools r.shared.next p =
        held_elsewhere n (Brigade r.shared.next) r.shared.pools r.shared.next p ne in omega arith)
  ]

  made_registered : (p : Program) (o : ℕ) (r : Configuration) → new_fault (r.instance.brigades o) ≡ None → SoundNames r → ((name q : ℕ) → Others name q → name < r.shared.next) → WithPools r
      → WithPools (do_create p o r)
  unfolding set_brigade
  made_registered p o r free names given s = record { once = once; only = only } where
    on : Option ℕ
    on = pool_named r (pool_of_brigade p o)

    made : BrigadeVar
    made = var.Live (record { name = r.shared.next; on = pool_named r (pool_of_brigade p o); mark = Usable; items = [] })

    new : (q : ℕ) → times_held r.shared.pools r.shared.next q ≡ 0
    new q = not_held r names given s q

    -- an older one
    older : (name q : ℕ) → name < r.shared.next → IsMadeOr Others r.instance name q → times_held (with_brigade (pool_named r (pool_of_brigade p o)) r.shared.next r.shared.pools) name q ≡ 1
    older name q lt m = held_made (pool_named r (pool_of_brigade p o)) r.shared.next r.shared.pools name q (λ same. absurd (omega (arith, same))) ∙ s.once name q m

    once : (name q : ℕ) → IsMadeOr Others (do_create p o r).instance name q → times_held (with_brigade (pool_named r (pool_of_brigade p o)) r.shared.next r.shared.pools) name q ≡ 1
    once name q (inr m) = older name q (given name q m) (inr m)
    once name q (inl m) = elim (upd_either r.instance.brigades o m.0 made) [
      | inl at ↦ (let is : r.shared.next ≡ name = same_Some r.shared.next name (sym (ap brigade_name at.1) ∙ m.1) in
          let there : pool_named r (pool_of_brigade p o) ≡ Some q = sym (ap brigade_pool at.1) ∙ m.2 in
          subst (λ (k : ℕ). times_held (with_brigade (pool_named r (pool_of_brigade p o)) r.shared.next r.shared.pools) k q ≡ 1) is
          (subst (λ (k : Option ℕ). times_held (with_brigade k r.shared.next r.shared.pools) r.shared.next q ≡ 1) (sym there) (held_itself q r new)))
      | inr off ↦ (let is : brigade_name (r.instance.brigades m.0) ≡ Some name = sym (ap brigade_name off.1) ∙ m.1 in
          older name q (names.given m.0 name is) (inl (m.0, is, sym (ap brigade_pool off.1) ∙ m.2)))
    ]

    stays : (name q : ℕ) → IsMadeOr Others r.instance name q → IsMadeOr Others (do_create p o r).instance name q
    stays name q (inr m) = inr m
    stays name q (inl m) =
        let off = upd_off r.instance.brigades o m.0 made (λ same. none_new (r.instance.brigades o) name free (ap (λ (k : ℕ). brigade_name (r.instance.brigades k)) (sym same) ∙ m.1)) in
        inl (m.0, ap brigade_name off ∙ m.1, ap brigade_pool off ∙ m.2)

    only : (name q : ℕ) → 0 < times_held (with_brigade (pool_named r (pool_of_brigade p o)) r.shared.next r.shared.pools) name q → IsMadeOr Others (do_create p o r).instance name q
    only name q h = elim (cases_eq r.shared.next name) [
      | inl is ↦ (let there = held_only_there (pool_named r (pool_of_brigade p o)) q r new
          (subst (λ (k : ℕ). 0 < times_held (with_brigade (pool_named r (pool_of_brigade p o)) r.shared.next r.shared.pools) k q) (sym is) h) in
          let at = upd_at r.instance.brigades o made in
          inl (o, ap brigade_name at ∙ ap (λ (k : ℕ). Some k) is, ap brigade_pool at ∙ there))
      | inr ne ↦ stays name q (s.only name q (subst (λ (k : ℕ). 0 < k) (held_made (pool_named r (pool_of_brigade p o)) r.shared.next r.shared.pools name q ne) h))
    ]

  returned_registered : (p : Program) (r : Configuration) → AsDeclared p r → WithPools r → WithPools (do_return r)
  returned_registered p r d s = kept r (do_return r) (still r.shared.pools) (λ b. left b (cases_eq b 8)) s where
    at_in : (b : ℕ) (t : Bool) → (b == 8) ≡ t → (t ≡ true → SameBrigade (r.instance.brigades b) var.Null)
        → SameBrigade (r.instance.brigades b) (cond t var.Null (returned_var r.call.name (r.instance.brigades b)))
    at_in b true is null = null refl
    at_in b false is null = returned_same r.call.name (r.instance.brigades b)

    left : (b : ℕ) → (b ≡ 8) ⊎ (b ≡ 8 → ⊥) → SameBrigade (r.instance.brigades b) (cond (b == 8) var.Null (returned_var r.call.name (r.instance.brigades b)))
    left b (inl is) = at_in b (b == 8) refl (λ t. no_brigade (r.instance.brigades b) var.Null
        (λ name q h. in_on_none p r d name q (subst (λ (k : ℕ). LiesOn (r.instance.brigades k) name q) is h)) (λ name q h. let no = h.0 in cc))
    left b (inr ne) = at_in b (b == 8) refl (λ t. absurd (let both : true ≡ false = sym t ∙ ne_eqb b 8 ne in cc))

  saved_registered : (o b target : ℕ) (r : Configuration) → WithPools r → WithPools (saved_into o b target r)
  unfolding set_brigade with_pools
  saved_registered o b target r s =
      kept r (saved_into o b target r) (held_referred target (filter_map (new_ref r.shared.pools target) (items_of (r.instance.brigades b))) r.shared.pools)
      (at_two SameBrigade r.instance.brigades b o (with_items [] (r.instance.brigades b)) (with_items _ (r.instance.brigades o)) (filled_same [] (r.instance.brigades b))
      (filled_same _ (r.instance.brigades o)) same_brigade) s

  registered_frame : IsFrame WithPools
  unfolding set_brigade set_loose set_number with_pools
  registered_frame = record {
    items = λ b xs r s. kept r (set_items b xs r) (still r.shared.pools)
        (at_each SameBrigade r.instance.brigades b (with_items xs (r.instance.brigades b)) (filled_same xs (r.instance.brigades b)) same_brigade) s;
    loose = λ xs r s. kept r (set_loose xs r) (still r.shared.pools) (all_same r) s;
    numbers = λ n v r s. kept r (set_number n v r) (still r.shared.pools) (all_same r) s;
    buffer = λ bytes r s. kept r (with_buffer bytes r) (still r.shared.pools) (all_same r) s;
    left = λ r s. kept r (do_leave r) (still r.shared.pools) (all_same r) s;
    names = λ n r s. kept r (names_given n r) (still r.shared.pools) (all_same r) s;
    refs = λ target files r lives s. kept r (with_pools (all_referred target files r.shared.pools) r) (held_referred target files r.shared.pools) (all_same r) s;
  }

  registered_placed : (c : ℕ) (v : Cursor) (r : Configuration) → WithPools r → WithPools (set_cursor c v r)
  unfolding set_cursor
  registered_placed c v r s = kept r (set_cursor c v r) (still r.shared.pools) (all_same r) s

  -- all but clears
  stays_registered : (p : Program) (choice : Choice) (i : Instr) (r : Configuration) → is_clear i ≡ false → MayExecute p r i → Sound r → AsDeclared p r
      → ((name q : ℕ) → Others name q → name < r.shared.next) → WithPools r
      → WithPools (step p choice i r).state
  unfolding set_brigade set_pool with_pools
  stays_registered p choice (instr.PCreate q) r on may sound d given s =
      made_under_named WithPools p q r s
      (λ parent e. kept r (set_pool q (poolvar.Made r.shared.pools.next) (with_pools (created parent r.shared.pools) r)) (held_created parent r.shared.pools sound.pools.formed) (all_same r) s)
  stays_registered p choice (instr.PClear q) r on may sound d given s = absurd (cc)
  stays_registered p choice (instr.PDestroy q) r on may sound d given s = absurd (cc)
  stays_registered p choice (instr.Label q t) r on may sound d given s =
      on_named WithPools (label_registered Plain (text_of p t)) (pool_named r q) r s
      (λ n e. kept r (label_registered Plain (text_of p t) n r) (λ name k. held_beside n (Label (text_of p t)) r.shared.pools name k refl) (all_same r) s)
  stays_registered p choice (instr.PreLabel q t) r on may sound d given s =
      on_named WithPools (label_registered Pre (text_of p t)) (pool_named r q) r s
      (λ n e. kept r (label_registered Pre (text_of p t) n r) (λ name k. held_beside_as Pre n (Label (text_of p t)) r.shared.pools name k refl) (all_same r) s)
  stays_registered p choice (instr.Unlabel q t) r on may sound d given s =
      on_named WithPools (label_killed (text_of p t)) (pool_named r q) r s (λ n e. kept r (label_killed (text_of p t) n r) (held_killed n (text_of p t) r.shared.pools) (all_same r) s)
  stays_registered p choice (instr.BCreate o) r on may sound d given s =
      made_registered p o r (first_none (new_fault (r.instance.brigades o)) None
      (second_none (fault_want r (WPool (pool_of_brigade p o))) (or_else (new_fault (r.instance.brigades o)) None) may.faultless)) sound.names given s
  stays_registered p choice (instr.BClean b) r on may sound d given s =
      kept r (do_clean b r) (still r.shared.pools) (at_each SameBrigade r.instance.brigades b (cleaned (r.instance.brigades b)) (cleaned_same (r.instance.brigades b)) same_brigade) s
  stays_registered p choice (instr.BConcat a b) r on may sound d given s =
      kept r (do_concat a b r) (still r.shared.pools)
      (at_two SameBrigade r.instance.brigades b a (with_items [] (r.instance.brigades b)) (with_items (items_of (r.instance.brigades a) ++ items_of (r.instance.brigades b)) (r.instance.brigades a))
      (filled_same [] (r.instance.brigades b))
      (filled_same (items_of (r.instance.brigades a) ++ items_of (r.instance.brigades b)) (r.instance.brigades a)) same_brigade) s
  stays_registered p choice (instr.BSave o b) r on may sound d given s = on_named WithPools (saved_into o b) (made_on (r.instance.brigades o)) r s (λ target e. saved_registered o b target r s)
  stays_registered p choice (instr.Pass b l) r on may sound d given s =
      kept r (do_pass b r) (still r.shared.pools) (at_each SameBrigade r.instance.brigades b (handed_over (r.instance.brigades b)) (handed_same (r.instance.brigades b)) same_brigade) s
  stays_registered p choice (instr.Ret st) r on may sound d given s = returned_registered p r d s
  stays_registered p choice i r on may sound d given s = placed_step WithPools registered_frame registered_placed p choice i r refl may s

  -- what is left of others where a pool goes
  Left : (ℕ → Bool) → Configuration → Type 0
  Left reached new = AreRegistered (IsMadeOr (λ name q. Others name q × (reached q ≡ false)) new.instance) new.shared.pools

  -- nothing of others goes
  all_left : (i : Instance) (ps : Pools Payload) → AreRegistered (IsMadeOr Others i) ps → AreRegistered (IsMadeOr (λ name q. Others name q × (false ≡ false)) i) ps
  all_left i ps s =
      kept_as (IsMadeOr Others i) (IsMadeOr (λ name q. Others name q × (false ≡ false)) i) ps ps (still ps)
      (λ name q. either (IsMadeIn i name q) (IsMadeIn i name q) (Others name q) (Others name q × (false ≡ false)) (λ m. m) (λ o. (o, refl)))
      (λ name q. either (IsMadeIn i name q) (IsMadeIn i name q) (Others name q × (false ≡ false)) (Others name q) (λ m. m) (λ o. o.0)) s

  went : (n : ℕ) (r new : Configuration) → Emptied n r.shared.pools new.shared.pools → ((b : ℕ) → Spared (is_under r.shared.pools n) (r.instance.brigades b) (new.instance.brigades b)) → WithPools r
      → Left (is_under r.shared.pools n) new
  unfolding Left
  went n r new e brigades s =
      went_as (IsMadeOr Others r.instance) (IsMadeOr (λ name q. Others name q × (is_under r.shared.pools n q ≡ false)) new.instance) n r.shared.pools new.shared.pools e stays left s where
        stays : (name q : ℕ) → IsMadeOr Others r.instance name q → (is_under r.shared.pools n q ≡ false)
            → IsMadeOr (λ name q. Others name q × (is_under r.shared.pools n q ≡ false)) new.instance name q
        stays name q (inl m) off = inl ((made_spared (is_under r.shared.pools n) r.instance new.instance brigades name q).0 m off)
        stays name q (inr o) off = inr (o, off)

        left : (name q : ℕ) → IsMadeOr (λ name q. Others name q × (is_under r.shared.pools n q ≡ false)) new.instance name q → IsMadeOr Others r.instance name q × (is_under r.shared.pools n q ≡ false)
        left name q (inl m) = (let old = (made_spared (is_under r.shared.pools n) r.instance new.instance brigades name q).1 m in (inl old.0, old.1))
        left name q (inr o) = (inr o.0, o.1)

  gone_registered : (gone : ℕ → Configuration → Configuration) (o : Option ℕ) (r : Configuration) → ((n : ℕ) → Emptied n r.shared.pools (gone n r).shared.pools)
      → ((n b : ℕ) → Spared (is_under r.shared.pools n) (r.instance.brigades b) ((gone n r).instance.brigades b)) → WithPools r → Left (is_under_named r.shared.pools o) (on_pool gone o r)
  unfolding Left
  gone_registered gone None r e left s = all_left r.instance r.shared.pools s
  gone_registered gone (Some n) r e left s = went n r (gone n r) (e n) (left n) s

-- What a step leaves, where others hold brigades whose names were given out.
pub step_leaves : (Others : ℕ → ℕ → Type 0) (p : Program) (choice : Choice) (i : Instr) (r : Configuration) → MayExecute p r i → Sound r → AsDeclared p r
    → ((name q : ℕ) → Others name q → name < r.shared.next)
    → AreRegistered (IsMadeOr Others r.instance) r.shared.pools
    → (let s = (step p choice i r).state in AreRegistered (IsMadeOr (λ name q. Others name q × (takes_from r i q ≡ false)) s.instance) s.shared.pools)
unfolding Left run_down with_pools
step_leaves Others p choice (instr.PClear q) r may sound d given s =
    gone_registered Others pool_cleared (pool_named r (pool.Own q)) r (λ n. cleared_emptied n r.shared.pools) (λ n b. spared (is_under r.shared.pools n) (r.instance.brigades b)) s
step_leaves Others p choice (instr.PDestroy q) r may sound d given s =
    gone_registered Others pool_destroyed (pool_named r (pool.Own q)) r (λ n. destroyed_emptied n r.shared.pools) (λ n b. spared (is_under r.shared.pools n) (r.instance.brigades b)) s
step_leaves Others p choice i r may sound d given s = (let t = (step p choice i r).state in all_left Others t.instance t.shared.pools (stays_registered Others p choice i r refl may sound d given s))

-- Other instances.

kept_spared : (v w : BrigadeVar) → SameBrigade v w → Spared (λ p. false) v w
kept_spared v w same name p = (λ h off. (same name p).0 h, λ h. ((same name p).1 h, refl))

touched_spared : (r : Configuration) (i : Instr) (v : BrigadeVar) → Spared (takes_from r i) v (touched_var r i v)
touched_spared r (instr.PClear q) v = spared (cleared_by r q) v
touched_spared r (instr.PDestroy q) v = spared (cleared_by r q) v
touched_spared r (instr.Ret s) v = kept_spared v (touched_var r (instr.Ret s) v) (returned_same r.call.name v)
touched_spared r i v = kept_spared v v (same_brigade v)

pub touched_made : (r : Configuration) (i : Instr) (x : Instance) (name q : ℕ) → (IsMadeIn x name q → takes_from r i q ≡ false → IsMadeIn (touched_instance (touched_var r i) x) name q)
    × (IsMadeIn (touched_instance (touched_var r i) x) name q → IsMadeIn x name q × (takes_from r i q ≡ false))
touched_made r i x name q = made_spared (takes_from r i) x (touched_instance (touched_var r i) x) (λ b. touched_spared r i (x.brigades b)) name q

pub step_registered : StepKeepsRegistered
step_registered others p choice i r may sound d given s =
    let t = (step p choice i r).state in
    let new : ℕ → Instance = λ k. touched_instance (touched_var r i) (others k) in
    kept_as (IsMadeOr (λ name q. IsMadeInOne others name q × (takes_from r i q ≡ false)) t.instance) (IsMadeWith new t.instance) t.shared.pools t.shared.pools (still t.shared.pools)
    (λ name q. either (IsMadeIn t.instance name q) (IsMadeIn t.instance name q) (IsMadeInOne others name q × (takes_from r i q ≡ false)) (IsMadeInOne new name q) (λ m. m)
    (λ o. (o.0.0, (touched_made r i (others o.0.0) name q).0 o.0.1 o.1)))
    (λ name q. either (IsMadeIn t.instance name q) (IsMadeIn t.instance name q) (IsMadeInOne new name q) (IsMadeInOne others name q × (takes_from r i q ≡ false)) (λ m. m)
    (λ o. (let old = (touched_made r i (others o.0) name q).1 o.1 in ((o.0, old.0), old.1))))
    (step_leaves (IsMadeInOne others) p choice i r may sound d (λ name q o. given o.0 o.1.0 name o.1.1) s)
