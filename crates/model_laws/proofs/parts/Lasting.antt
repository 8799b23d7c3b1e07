-- What is done to a pool keeps every part.
use Rattle.run_model.specs.declared.effect.CleanupKind.{CleanupKind}
use Rattle.std.proofs.Common.{◌≡◌, ◌≢◌, ℕ, ◌<◌, Bool, true, false, ◌||◌, not, cond, List, [], ◌∷◌, ◌++◌, ◌⊎◌, inl, inr, refl, sym, ◌∙◌, ap, ne_eqb}
use Rattle.std.specs.List.{list_any}
use Rattle.std.proofs.Math.Bool.{or-false}
use Rattle.std.proofs.lemmas.Bool.{cases_eq, both_ways, or_cases, or_left, or_right}
use Rattle.std.proofs.lemmas.List.Folds.{list_any-append}
use Rattle.run_model.specs.declared.payload.Payload.{Payload}
use Rattle.run_model.specs.Pools.{Pools, is_empty, is_in, is_live, is_under, created, registered, cleared, destroyed, registered_as, with_one}
use Rattle.run_model.specs.RunOrder.{without_last, killed}
use Rattle.run_model.specs.Payloads.{is_file_ref}
use Rattle.run_model.specs.Holding.{refers}
use Rattle.model_laws.specs.Parts.{HasPart, Change, Made, Registered, Killed, Cleared, Destroyed, changed}
use Rattle.model_laws.specs.PartSteps.{OwnFiles}
use Rattle.model_laws.specs.PartsLast.{PartsLast, OldPoolsLast, OwnFilesLast}
use Rattle.run_model.proofs.Updates.{upd_either}
use Rattle.run_model.proofs.PoolMap.{live_path, created_kept, cleared_path, cleared_apart, cleared_itself, destroyed_path, destroyed_apart}
use Rattle.run_model.proofs.RunOrderLaws.{under_itself}
use Rattle.run_model.proofs.Formed.{path_live, created_formed, registered_formed, killed_formed, cleared_formed, destroyed_formed, registered_as_formed}
use Rattle.run_model.proofs.References.{emptied_back, refers_given, created_back, held_refers, held_parts, one_held}
use Rattle.model_laws.proofs.parts.Paths.{under_live, apart_under, root_off, root_path}
use Rattle.model_laws.proofs.PoolsGone.{Emptying, cleared_so, destroyed_so}
use Rattle.model_laws.proofs.parts.Steps.{registered_path}

pub killed_path : (p : ℕ) (test : Payload → Bool) (ps : Pools Payload) → (killed p test ps).path ≡ ps.path
unfolding killed
killed_path p test ps = refl

-- another connection's pool stands under no pool of c, nor does its own stand under one further down
top_off : (ps : Pools Payload) (c d p : ℕ) → HasPart ps c → HasPart ps d → is_under ps c p ≡ true → d ≢ p → is_under ps p d ≡ false
unfolding is_under
top_off ps c d p hc hd under ne = ap (is_in p) hd.top ∙ (ap (λ (t : Bool). t || is_in p (hd.root ∷ [])) (ne_eqb d p ne) ∙ (ap (λ (t : Bool). t || false) (ne_eqb hd.root p root_apart))) where
  root_apart : hd.root ≡ p → ⊥
  root_apart same =
      let off : is_under ps p hc.root ≡ false = root_off ps c p hc under in
      let one : hd.root ≡ hc.root = hc.formed.alone hd.root hc.root hd.root hc.root (root_path ps d hd) (root_path ps c hc) in
      let itself : is_under ps p p ≡ true = under_itself ps hc.formed p (under_live ps c p under) in
      let there : is_under ps p hc.root ≡ true = ap (is_under ps p) (sym one ∙ same) ∙ itself in
      both_ways (is_under ps p hc.root) off there

pub parts_last : PartsLast
parts_last Made c d p ps hc hd under ne =
    record { formed = created_formed p ps (under_live ps c p under) hc.formed; root = hd.root; top = created_kept p ps d (hd.formed.named d (path_live ps d d (hd.root ∷ []) hd.top)) ∙ hd.top }
parts_last (Registered how x) c d p ps hc hd under ne =
    record { formed = registered_as_formed how p x ps (under_live ps c p under) hc.formed; root = hd.root; top = ap (λ (f : ℕ → List ℕ). f d) (registered_path how p x ps) ∙ hd.top }
parts_last (Killed test) c d p ps hc hd under ne = record { formed = killed_formed p test ps hc.formed; root = hd.root; top = ap (λ (f : ℕ → List ℕ). f d) (killed_path p test ps) ∙ hd.top }
parts_last Cleared c d p ps hc hd under ne = record { formed = cleared_formed p ps hc.formed; root = hd.root; top = cleared_top ∙ hd.top } where
  cleared_top : (cleared p ps).path d ≡ ps.path d
  cleared_top = elim (cases_eq d p) [
    | inl same ↦ ap (λ (k : ℕ). (cleared p ps).path k) same ∙ (cleared_itself p ps ∙ sym (ap ps.path same))
    | inr apart ↦ (cleared_apart p ps d (top_off ps c d p hc hd under apart)).0
  ]
parts_last Destroyed c d p ps hc hd under ne = record { formed = destroyed_formed p ps hc.formed; root = hd.root; top = (destroyed_apart p ps d (top_off ps c d p hc hd under ne)).0 ∙ hd.top }

-- Names that were given out.

pub old_path : (change : Change) (p n : ℕ) (ps : Pools Payload) → n < ps.next → ((changed change p ps).path n ≡ []) ⊎ ((changed change p ps).path n ≡ ps.path n)
old_path Made p n ps lt = inr (created_kept p ps n lt)
old_path (Registered how x) p n ps lt = inr (ap (λ (f : ℕ → List ℕ). f n) (registered_path how p x ps))
old_path (Killed test) p n ps lt = inr (ap (λ (f : ℕ → List ℕ). f n) (killed_path p test ps))
old_path Cleared p n ps lt = cleared_path p ps n
old_path Destroyed p n ps lt = destroyed_path p ps n

pub same_under : (old new : Pools Payload) (d n : ℕ) → new.path n ≡ old.path n → is_under new d n ≡ is_under old d n
unfolding is_under
same_under old new d n same = ap (is_in d) same

pub same_live : (old new : Pools Payload) (n : ℕ) → new.path n ≡ old.path n → is_live new n ≡ is_live old n
unfolding is_live
same_live old new n same = ap (λ (path : List ℕ). not (is_empty path)) same

pub old_last : OldPoolsLast
old_last change d p n ps lt lies live = elim (old_path change p n ps lt) [
  | inl none ↦ absurd (live_path (changed change p ps) n live none)
  | inr same ↦ same_under ps (changed change p ps) d n same ∙ lies (sym (same_live ps (changed change p ps) n same) ∙ live)
]

-- Files.

-- What refers to a file afterwards did so before, in a pool that kept its path.
record KeptPools (ps new : Pools Payload) (q file : ℕ) : Type 0 where
  path : new.path q ≡ ps.path q
  refers : refers ps q file ≡ true

all_kept : (d : ℕ) (ps new : Pools Payload) → ((q file : ℕ) → refers new q file ≡ true → KeptPools ps new q file) → OwnFiles d ps → OwnFiles d new
all_kept d ps new kept own = record {
  apart = λ p q file under at_p at_q.
      let from_p = kept p file at_p in
      let from_q = kept q file at_q in
      same_under ps new d q from_q.path ∙ own.apart p q file (sym (same_under ps new d p from_p.path) ∙ under) from_p.refers from_q.refers;
}

fewer : (file : ℕ) (test : Payload → Bool) (xs : List Payload) → list_any (is_file_ref file) (without_last test xs) ≡ true → list_any (is_file_ref file) xs ≡ true
unfolding without_last
fewer file test [] h = h
fewer file test (x ∷ xs) h = by_tests (list_any test xs) (test x) (fewer file test xs) h where
  by_tests : (later here : Bool) → (list_any (is_file_ref file) (without_last test xs) ≡ true → list_any (is_file_ref file) xs ≡ true)
      → list_any (is_file_ref file) (cond later (x ∷ without_last test xs) (cond here xs (x ∷ xs))) ≡ true → list_any (is_file_ref file) (x ∷ xs) ≡ true
  by_tests true here rest h = elim (or_cases (is_file_ref file x) (list_any (is_file_ref file) (without_last test xs)) h) [
    | inl first ↦ or_left (is_file_ref file x) (list_any (is_file_ref file) xs) first
    | inr further ↦ or_right (is_file_ref file x) (list_any (is_file_ref file) xs) (rest further)
  ]
  by_tests false true rest h = or_right (is_file_ref file x) (list_any (is_file_ref file) xs) h
  by_tests false false rest h = h

killed_back : (p : ℕ) (test : Payload → Bool) (ps : Pools Payload) (q file : ℕ) → refers (killed p test ps) q file ≡ true → refers ps q file ≡ true
unfolding killed
killed_back p test ps q file h = elim (upd_either ps.payloads p q (record (ps.payloads p) { plain = without_last test (ps.payloads p).plain })) [
  | inl at ↦ ap (λ (k : ℕ). refers ps k file) at.0
      ∙ (held_parts file (ps.payloads p).pre (ps.payloads p).plain
      ∙ (elim (or_cases (list_any (is_file_ref file) (ps.payloads p).pre) (list_any (is_file_ref file) (without_last test (ps.payloads p).plain))
      (sym (held_parts file (ps.payloads p).pre (without_last test (ps.payloads p).plain)) ∙ (sym (ap (held_refers file) at.1) ∙ h))) [
        | inl early ↦ or_left (list_any (is_file_ref file) (ps.payloads p).pre) _ early
        | inr later ↦ or_right (list_any (is_file_ref file) (ps.payloads p).pre) _ (fewer file test (ps.payloads p).plain later)
      ]))
  | inr off ↦ sym (ap (held_refers file) off.1) ∙ h
]

-- a reference after one was registered was there, or is the new one
pub refers_new : (how : CleanupKind) (p : ℕ) (x : Payload) (ps : Pools Payload) (q file : ℕ) → refers (registered_as how p x ps) q file ≡ true → (refers ps q file ≡ true) ⊎ ((q ≡ p) × (is_file_ref file x ≡ true))
unfolding registered_as
refers_new how p x ps q file h = elim (upd_either ps.payloads p q (with_one how x (ps.payloads p))) [
  | inl at ↦ (elim (or_cases (held_refers file (ps.payloads p)) (is_file_ref file x || false)
      (sym (one_held how file (ps.payloads p) x) ∙ (sym (ap (held_refers file) at.1) ∙ h))) [
        | inl old ↦ inl (ap (λ (k : ℕ). refers ps k file) at.0 ∙ old)
        | inr new ↦ inr (at.0, sym (or-false (is_file_ref file x)) ∙ new)
      ])
  | inr off ↦ inl (sym (ap (held_refers file) off.1) ∙ h)
]

module _ (how : CleanupKind) (c d p : ℕ) (x : Payload) (ps : Pools Payload) (hc : HasPart ps c) (hd : HasPart ps d) (under : is_under ps c p ≡ true)
    (only : (file : ℕ) → is_file_ref file x ≡ true → (q : ℕ) → refers ps q file ≡ true → is_under ps c q ≡ true) (own : OwnFiles d ps) where
  -- what stands under both stands with all of c
  with_both : (n q : ℕ) → is_under ps c n ≡ true → is_under ps d n ≡ true → is_under ps c q ≡ true → is_under ps d q ≡ true
  with_both n q in_c in_d here = elim (cases_eq c d) [
    | inl same ↦ sym (ap (λ (k : ℕ). is_under ps k q) same) ∙ here
    | inr ne ↦ absurd (both_ways (is_under ps d n) (apart_under ps c d n hc hd ne in_c) in_d)
  ]

  apart_after : (n q file : ℕ) → is_under ps d n ≡ true → refers (registered_as how p x ps) n file ≡ true → refers (registered_as how p x ps) q file ≡ true → is_under ps d q ≡ true
  apart_after n q file in_d at_n at_q = elim (refers_new how p x ps n file at_n) [
    | inl old ↦ (elim (refers_new how p x ps q file at_q) [
      | inl was ↦ own.apart n q file in_d old was
      | inr new ↦ with_both n q (only file new.1 n old) in_d (ap (is_under ps c) new.0 ∙ under)
    ])
    | inr first ↦
        (let in_c : is_under ps c n ≡ true = ap (is_under ps c) first.0 ∙ under in
        elim (refers_new how p x ps q file at_q) [
          | inl was ↦ with_both n q in_c in_d (only file first.1 q was)
          | inr new ↦ with_both n q in_c in_d (ap (is_under ps c) new.0 ∙ under)
        ])
  ]

  registered_own : OwnFiles d (registered_as how p x ps)
  registered_own = record {
    apart = λ n q file in_d at_n at_q.
        same_under ps (registered_as how p x ps) d q (same q) ∙ apart_after n q file (sym (same_under ps (registered_as how p x ps) d n (same n)) ∙ in_d) at_n at_q;
  } where
    same : (n : ℕ) → (registered_as how p x ps).path n ≡ ps.path n
    same n = ap (λ (f : ℕ → List ℕ). f n) (registered_path how p x ps)

emptied_kept : (p : ℕ) (ps new : Pools Payload) → Emptying p ps new → (q file : ℕ) → refers new q file ≡ true → KeptPools ps new q file
emptied_kept p ps new so q file h = (let was = emptied_back p ps new so.payloads q file h in record { path = so.apart q was.0; refers = was.1 })

made_kept : (p : ℕ) (ps : Pools Payload) (c : ℕ) → HasPart ps c → (q file : ℕ) → refers (created p ps) q file ≡ true → KeptPools ps (created p ps) q file
made_kept p ps c hc q file h = (let was = created_back p ps q file h in record { path = created_kept p ps q (refers_given ps q file hc.formed was); refers = was })

pub own_last : OwnFilesLast
own_last Made c d p ps hc hd under is own = all_kept d ps (created p ps) (made_kept p ps c hc) own
own_last (Registered how x) c d p ps hc hd under is own = registered_own how c d p x ps hc hd under is own
own_last (Killed test) c d p ps hc hd under is own =
    all_kept d ps (killed p test ps) (λ q file h. record { path = ap (λ (f : ℕ → List ℕ). f q) (killed_path p test ps); refers = killed_back p test ps q file h }) own
own_last Cleared c d p ps hc hd under is own = all_kept d ps (cleared p ps) (emptied_kept p ps (cleared p ps) (cleared_so p ps)) own
own_last Destroyed c d p ps hc hd under is own = all_kept d ps (destroyed p ps) (emptied_kept p ps (destroyed p ps) (destroyed_so p ps)) own
