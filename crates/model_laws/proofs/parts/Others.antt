-- What is done to a pool under c leaves the parts of other connections and the root.
use Rattle.run_model.specs.declared.effect.CleanupKind.{CleanupKind}
use Rattle.std.proofs.Common.{◌≡◌, ◌≢◌, ℕ, ◌+◌, ◌<◌, Bool, true, false, ◌&&◌, ◌||◌, not, ◌==◌, cond, List, [], ◌∷◌, ◌++◌, inl, inr, refl, sym, ◌∙◌, ap, arith, eqb-true, ne_eqb}
use Rattle.std.proofs.lemmas.Bool.{cases_Bool}
use Rattle.run_model.specs.declared.payload.Payload.{Payload}
use Rattle.run_model.specs.Indexed.{upd}
use Rattle.run_model.specs.Pools.{Pools, is_empty, is_in, is_live, is_under, created, registered_as, Cleanups, no_cleanups, with_one, cleared, destroyed}
use Rattle.run_model.specs.RunOrder.{without_last, killed}
use Rattle.model_laws.specs.Parts.{is_top, belongs, part, HasPart, Made, Registered, Killed, Cleared, Destroyed, OtherPartsStay, RootStays, ChangesSpareTheRoot, NewPartSparesOthers}
use Rattle.run_model.proofs.Updates.{upd_off}
use Rattle.run_model.proofs.RunOrderLaws.{under_itself}
use Rattle.run_model.proofs.Formed.{formed_fresh, path_live}
use Rattle.run_model.proofs.PoolMap.{created_kept, cleared_apart, destroyed_apart}
use Rattle.model_laws.proofs.parts.Paths.{under_trans, under_live, off_belongs, root_path, root_off, top_apart}
use Rattle.model_laws.proofs.parts.Own.{same_pools, never}

-- where a pool belongs to no part of d, nothing of it is there
module _ {T : Type 0} (d : ℕ) (ps : Pools T) where
  -- The payloads of a pool outside are others.
  refilled_off : (p : ℕ) (items : Cleanups T) → belongs d (ps.path p) ≡ false → part d (record ps { payloads = upd ps.payloads p items }) ≡ part d ps
  unfolding part upd
  refilled_off p items off = same_pools (part d (record ps { payloads = upd ps.payloads p items })) (part d ps) (λ n. refl) (λ n. by_test n (n == p) refl) refl where
    by_test : (n : ℕ) (b : Bool) → (n == p) ≡ b → cond (belongs d (ps.path n)) (cond b items (ps.payloads n)) no_cleanups ≡ cond (belongs d (ps.path n)) (ps.payloads n) no_cleanups
    by_test n true same = (let apart : belongs d (ps.path n) ≡ false = ap (λ (k : ℕ). belongs d (ps.path k)) (eqb-true n p same) ∙ off in
        ap (λ (t : Bool). cond t items no_cleanups) apart ∙ sym (ap (λ (t : Bool). cond t (ps.payloads n) no_cleanups) apart))
    by_test n false same = refl

  -- A pool is made outside.
  made_off : (p : ℕ) → belongs d (ps.next ∷ ps.path p) ≡ false → belongs d (ps.path ps.next) ≡ false → part d (created p ps) ≡ record (part d ps) { next = ps.next + 1 }
  unfolding part created upd
  made_off p off fresh = same_pools (part d (created p ps)) (record (part d ps) { next = ps.next + 1 }) (λ n. path n (n == ps.next) refl) (λ n. payloads n (n == ps.next) refl) refl where
    at : (n : ℕ) → (n == ps.next) ≡ true → belongs d (ps.path n) ≡ false
    at n same = ap (λ (k : ℕ). belongs d (ps.path k)) (eqb-true n ps.next same) ∙ fresh

    path : (n : ℕ) (b : Bool) → (n == ps.next) ≡ b
        → cond (belongs d (cond b (ps.next ∷ ps.path p) (ps.path n))) (cond b (ps.next ∷ ps.path p) (ps.path n)) [] ≡ cond (belongs d (ps.path n)) (ps.path n) []
    path n true same = ap (λ (t : Bool). cond t (ps.next ∷ ps.path p) []) off ∙ sym (ap (λ (t : Bool). cond t (ps.path n) []) (at n same))
    path n false same = refl

    payloads : (n : ℕ) (b : Bool) → (n == ps.next) ≡ b → cond (belongs d (cond b (ps.next ∷ ps.path p) (ps.path n))) (cond b no_cleanups (ps.payloads n)) no_cleanups ≡ cond (belongs d (ps.path n)) (ps.payloads n) no_cleanups
    payloads n true same = never (belongs d (ps.next ∷ ps.path p)) no_cleanups ∙ sym (ap (λ (t : Bool). cond t (ps.payloads n) no_cleanups) (at n same))
    payloads n false same = refl

  -- Pools outside go.
  gone_off : {X : Type 0} (xs : List ℕ) (none items : X) (u v : Bool) → (u ≡ true → belongs d xs ≡ false) → cond (belongs d (cond (u && v) [] xs)) (cond u none items) none ≡ cond (belongs d xs) items none
  gone_off xs none items true true off = sym (ap (λ (t : Bool). cond t items none) (off refl))
  gone_off xs none items true false off = never (belongs d xs) none ∙ sym (ap (λ (t : Bool). cond t items none) (off refl))
  gone_off xs none items false v off = refl

  all_gone : {X : Type 0} (xs : List ℕ) (none items : X) (u : Bool) → (u ≡ true → belongs d xs ≡ false) → cond (belongs d (cond u [] xs)) (cond u none items) none ≡ cond (belongs d xs) items none
  all_gone xs none items true off = sym (ap (λ (t : Bool). cond t items none) (off refl))
  all_gone xs none items false off = refl

  both_true : (u v : Bool) → (u && v) ≡ true → u ≡ true
  both_true true v h = refl
  both_true false v h = h

  destroyed_off : (p : ℕ) → ((n : ℕ) → is_under ps p n ≡ true → belongs d (ps.path n) ≡ false) → part d (destroyed p ps) ≡ part d ps
  unfolding part destroyed
  destroyed_off p off =
      same_pools (part d (destroyed p ps)) (part d ps) (λ n. all_gone (ps.path n) [] (ps.path n) (is_under ps p n) (off n)) (λ n. all_gone (ps.path n) no_cleanups (ps.payloads n) (is_under ps p n) (off n)) refl

  cleared_off : (p : ℕ) → ((n : ℕ) → is_under ps p n ≡ true → belongs d (ps.path n) ≡ false) → part d (cleared p ps) ≡ part d ps
  unfolding part cleared
  cleared_off p off = same_pools (part d (cleared p ps)) (part d ps)
      (λ n. all_gone (ps.path n) [] (ps.path n) (is_under ps p n && not (n == p)) (λ both. off n (both_true (is_under ps p n) (not (n == p)) both)))
      (λ n. gone_off (ps.path n) no_cleanups (ps.payloads n) (is_under ps p n) (not (n == p)) (off n)) refl

  pub part_next : (part d ps).next ≡ ps.next
  unfolding part
  part_next = refl

  pub same_next : (new : Pools T) → new.next ≡ ps.next → part d ps ≡ record (part d ps) { next = new.next }
  same_next new same = ap (λ (k : ℕ). record (part d ps) { next = k }) (part_next ∙ sym same)

-- a new pool under one that is there and outside is outside
short : (m : ℕ) (xs : List ℕ) → not (is_empty xs) ≡ true → is_top (m ∷ xs) ≡ false
short m [] some = absurd (cc)
short m (k ∷ xs) some = refl

new_off : {T : Type 0} (d p : ℕ) (ps : Pools T) → HasPart ps d → is_live ps p ≡ true → is_under ps d p ≡ false → belongs d (ps.next ∷ ps.path p) ≡ false
unfolding is_live is_under
new_off d p ps h live off =
    let older : d < ps.next = h.formed.named d (path_live ps d d (h.root ∷ []) h.top) in
    ap (λ (t : Bool). t || is_in d (ps.next ∷ ps.path p)) (short ps.next (ps.path p) live)
    ∙ (ap (λ (t : Bool). t || is_in d (ps.path p)) (ne_eqb ps.next d (λ same. absurd (omega (arith, same)))) ∙ off)

fresh_off : {T : Type 0} (d : ℕ) (ps : Pools T) → HasPart ps d → belongs d (ps.path ps.next) ≡ false
fresh_off d ps h = ap (belongs d) (formed_fresh ps h.formed ps.next (omega arith))

pub outside : {T : Type 0} (c d p : ℕ) (ps : Pools T) → HasPart ps c → HasPart ps d → c ≢ d → is_under ps c p ≡ true → (n : ℕ) → is_under ps p n ≡ true → belongs d (ps.path n) ≡ false
outside c d p ps hc hd ne under n up = off_belongs ps c d n hc hd ne (under_trans ps hc.formed c p n under up)

second_false : (a b : Bool) → (a || b) ≡ false → b ≡ false
second_false true b h = absurd (cc)
second_false false b h = h

pub next_registered : {T : Type 0} (how : CleanupKind) (p : ℕ) (x : T) (ps : Pools T) → (registered_as how p x ps).next ≡ ps.next
unfolding registered_as
next_registered how p x ps = refl

pub next_killed : {T : Type 0} (p : ℕ) (test : T → Bool) (ps : Pools T) → (killed p test ps).next ≡ ps.next
unfolding killed
next_killed p test ps = refl

pub next_cleared : {T : Type 0} (p : ℕ) (ps : Pools T) → (cleared p ps).next ≡ ps.next
unfolding cleared
next_cleared p ps = refl

pub next_destroyed : {T : Type 0} (p : ℕ) (ps : Pools T) → (destroyed p ps).next ≡ ps.next
unfolding destroyed
next_destroyed p ps = refl

pub off_under : {T : Type 0} (c d p : ℕ) (ps : Pools T) → HasPart ps c → HasPart ps d → c ≢ d → is_under ps c p ≡ true → is_under ps d p ≡ false
unfolding is_under
off_under c d p ps hc hd ne under = second_false (is_top (ps.path p)) (is_in d (ps.path p)) (off_belongs ps c d p hc hd ne under)

made_stays : (c d p : ℕ) (ps : Pools Payload) → HasPart ps c → HasPart ps d → c ≢ d → is_under ps c p ≡ true → part d (created p ps) ≡ record (part d ps) { next = (created p ps).next }
unfolding created
made_stays c d p ps hc hd ne under = made_off d ps p (new_off d p ps hd (under_live ps c p under) (off_under c d p ps hc hd ne under)) (fresh_off d ps hd)

pub registered_off : (how : CleanupKind) (d p : ℕ) (x : Payload) (ps : Pools Payload) → belongs d (ps.path p) ≡ false → part d (registered_as how p x ps) ≡ part d ps
unfolding registered_as
registered_off how d p x ps off = refilled_off d ps p (with_one how x (ps.payloads p)) off

killed_off : (d p : ℕ) (test : Payload → Bool) (ps : Pools Payload) → belongs d (ps.path p) ≡ false → part d (killed p test ps) ≡ part d ps
unfolding killed
killed_off d p test ps off = refilled_off d ps p (record (ps.payloads p) { plain = without_last test (ps.payloads p).plain }) off

pub others_stay : OtherPartsStay
others_stay Made c d p ps hc hd ne under = made_stays c d p ps hc hd ne under
others_stay (Registered how x) c d p ps hc hd ne under = registered_off how d p x ps (off_belongs ps c d p hc hd ne under) ∙ same_next d ps (registered_as how p x ps) (next_registered how p x ps)
others_stay (Killed test) c d p ps hc hd ne under = killed_off d p test ps (off_belongs ps c d p hc hd ne under) ∙ same_next d ps (killed p test ps) (next_killed p test ps)
others_stay Cleared c d p ps hc hd ne under = cleared_off d ps p (outside c d p ps hc hd ne under) ∙ same_next d ps (cleared p ps) (next_cleared p ps)
others_stay Destroyed c d p ps hc hd ne under = destroyed_off d ps p (outside c d p ps hc hd ne under) ∙ same_next d ps (destroyed p ps) (next_destroyed p ps)

-- The root stays, and a new pool right under it is outside of every part.

root_apart : {T : Type 0} (ps : Pools T) (d root : ℕ) → HasPart ps d → ps.path root ≡ root ∷ [] → is_under ps d root ≡ false
unfolding is_under
root_apart ps d root h at = elim (cases_Bool (is_under ps d root)) [
  | inl up ↦ absurd (let no : is_top (ps.path root) ≡ false = top_apart ps d root h up in let yes : is_top (ps.path root) ≡ true = ap is_top at in cc)
  | inr off ↦ off
]

pub new_spares : NewPartSparesOthers
new_spares d root ps h at = made_off d ps root (new_off d root ps h (path_live ps root root [] at) (root_apart ps d root h at)) (fresh_off d ps h)

refilled_root : (ps : Pools Payload) (c p : ℕ) (h : HasPart ps c) (items : Cleanups Payload) → is_under ps c p ≡ true → upd ps.payloads p items h.root ≡ ps.payloads h.root
refilled_root ps c p h items under = upd_off ps.payloads p h.root items (λ same.
    let off : is_under ps p h.root ≡ false = root_off ps c p h under in
    let itself : is_under ps p p ≡ true = under_itself ps h.formed p (under_live ps c p under) in
    let there : is_under ps p h.root ≡ true = ap (is_under ps p) same ∙ itself in
    absurd (cc))

registered_root : (how : CleanupKind) (ps : Pools Payload) (c p : ℕ) (h : HasPart ps c) (x : Payload) → is_under ps c p ≡ true → RootStays h.root ps (registered_as how p x ps)
unfolding registered_as
registered_root how ps c p h x under = record { path = refl; payloads = refilled_root ps c p h (with_one how x (ps.payloads p)) under }

killed_root : (ps : Pools Payload) (c p : ℕ) (h : HasPart ps c) (test : Payload → Bool) → is_under ps c p ≡ true → RootStays h.root ps (killed p test ps)
unfolding killed
killed_root ps c p h test under = record { path = refl; payloads = refilled_root ps c p h (record (ps.payloads p) { plain = without_last test (ps.payloads p).plain }) under }

root_given : {T : Type 0} (ps : Pools T) (c : ℕ) (h : HasPart ps c) → h.root < ps.next
root_given ps c h = h.formed.named h.root (path_live ps h.root h.root [] (root_path ps c h))

made_root : (ps : Pools Payload) (c p : ℕ) (h : HasPart ps c) → RootStays h.root ps (created p ps)
unfolding created
made_root ps c p h = record {
  path = created_kept p ps h.root (root_given ps c h);
  payloads = upd_off ps.payloads ps.next h.root no_cleanups (λ same. let lt : h.root < ps.next = root_given ps c h in absurd (omega (arith, same)));
}

pub spares_root : ChangesSpareTheRoot
spares_root Made c p ps h under = made_root ps c p h
spares_root (Registered how x) c p ps h under = registered_root how ps c p h x under
spares_root (Killed test) c p ps h under = killed_root ps c p h test under
spares_root Cleared c p ps h under = (let off = cleared_apart p ps h.root (root_off ps c p h under) in record { path = off.0; payloads = off.1 })
spares_root Destroyed c p ps h under = (let off = destroyed_apart p ps h.root (root_off ps c p h under) in record { path = off.0; payloads = off.1 })
