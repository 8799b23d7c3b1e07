-- What is done to a pool under c is done to it in the part of c.
use Rattle.run_model.specs.declared.effect.CleanupKind.{CleanupKind}
use Rattle.std.proofs.Common.{◌≡◌, ℕ, Bool, true, false, ◌&&◌, not, ◌==◌, cond, List, [], ◌∷◌, ◌++◌, refl, sym, ◌∙◌, ap, eqb-true}
use Rattle.std.proofs.Math.Path.{fun_ext}
use Rattle.std.proofs.lemmas.Bool.{or_right}
use Rattle.run_model.specs.Indexed.{upd}
use Rattle.run_model.specs.Pools.{Pools, is_in, is_under, Cleanups, no_cleanups, with_one, created, registered_as, cleared, destroyed}
use Rattle.run_model.specs.RunOrder.{without_last, killed}
use Rattle.model_laws.specs.Parts.{is_top, belongs, part, HasPart, Made, Registered, Killed, Cleared, Destroyed, OwnPartChanges}
use Rattle.model_laws.proofs.parts.Paths.{under_belongs, part_payloads, under_alike}

-- two maps with the same entries
pub same_pools : {T : Type 0} (a b : Pools T) → ((n : ℕ) → a.path n ≡ b.path n) → ((n : ℕ) → a.payloads n ≡ b.payloads n) → a.next ≡ b.next → a ≡ b
same_pools {T = T} a b path payloads next =
    ap (λ (f : ℕ → List ℕ). record a { path = f }) (fun_ext path)
    ∙ (ap (λ (f : ℕ → Cleanups T). record a { path = b.path; payloads = f }) (fun_ext payloads)
    ∙ ap (λ (k : ℕ). record b { next = k }) next)

pub never : {X : Type 0} (t : Bool) (xs : X) → cond t xs xs ≡ xs
never true xs = refl
never false xs = refl

-- A pool is made.

pub long_belongs : (c m : ℕ) (xs : List ℕ) → is_in c xs ≡ true → belongs c (m ∷ xs) ≡ true
long_belongs c m xs inside = or_right (is_top (m ∷ xs)) (is_in c (m ∷ xs)) (or_right (m == c) (is_in c xs) inside)

module _ {T : Type 0} (c p : ℕ) (ps : Pools T) (h : HasPart ps c) (under : is_under ps c p ≡ true) where
  made_path : (n : ℕ) → (part c (created p ps)).path n ≡ (created p (part c ps)).path n
  unfolding part created upd is_under
  made_path n = by_test (n == ps.next) where
    by_test : (b : Bool) → cond (belongs c (cond b (ps.next ∷ ps.path p) (ps.path n))) (cond b (ps.next ∷ ps.path p) (ps.path n)) []
        ≡ cond b (ps.next ∷ cond (belongs c (ps.path p)) (ps.path p) []) (cond (belongs c (ps.path n)) (ps.path n) [])
    by_test true =
        ap (λ (t : Bool). cond t (ps.next ∷ ps.path p) []) (long_belongs c ps.next (ps.path p) under)
        ∙ sym (ap (λ (t : Bool). ps.next ∷ cond t (ps.path p) []) (under_belongs ps c p under))
    by_test false = refl

  made_payloads : (n : ℕ) → (part c (created p ps)).payloads n ≡ (created p (part c ps)).payloads n
  unfolding part created upd
  made_payloads n = by_test (n == ps.next) where
    by_test : (b : Bool) → cond (belongs c (cond b (ps.next ∷ ps.path p) (ps.path n))) (cond b no_cleanups (ps.payloads n)) no_cleanups ≡ cond b no_cleanups (cond (belongs c (ps.path n)) (ps.payloads n) no_cleanups)
    by_test true = never (belongs c (ps.next ∷ ps.path p)) no_cleanups
    by_test false = refl

  pub own_made : part c (created p ps) ≡ created p (part c ps)
  unfolding part created
  own_made = same_pools (part c (created p ps)) (created p (part c ps)) made_path made_payloads next where
    next : (part c (created p ps)).next ≡ (created p (part c ps)).next
    next = refl

  -- The payloads of a pool are others.
  refilled : (items : Cleanups T) (n : ℕ) (b : Bool) → (n == p) ≡ b → cond (belongs c (ps.path n)) (cond b items (ps.payloads n)) no_cleanups ≡ cond b items (cond (belongs c (ps.path n)) (ps.payloads n) no_cleanups)
  refilled items n true same = ap (λ (t : Bool). cond t items no_cleanups) (ap (λ (k : ℕ). belongs c (ps.path k)) (eqb-true n p same) ∙ under_belongs ps c p under)
  refilled items n false same = refl

  own_refilled : (items : Cleanups T) → part c (record ps { payloads = upd ps.payloads p items }) ≡ record (part c ps) { payloads = upd (part c ps).payloads p items }
  unfolding part upd
  own_refilled items = same_pools (part c (record ps { payloads = upd ps.payloads p items })) (record (part c ps) { payloads = upd (part c ps).payloads p items }) path payloads next where
    path : (n : ℕ) → (part c (record ps { payloads = upd ps.payloads p items })).path n ≡ (part c ps).path n
    path n = refl

    payloads : (n : ℕ) → (part c (record ps { payloads = upd ps.payloads p items })).payloads n ≡ upd (part c ps).payloads p items n
    payloads n = refilled items n (n == p) refl

    next : (part c (record ps { payloads = upd ps.payloads p items })).next ≡ (part c ps).next
    next = refl

  own_filled : (change : Cleanups T → Cleanups T)
      → part c (record ps { payloads = upd ps.payloads p (change (ps.payloads p)) }) ≡ record (part c ps) { payloads = upd (part c ps).payloads p (change ((part c ps).payloads p)) }
  own_filled change =
      own_refilled (change (ps.payloads p))
      ∙ ap (λ (items : Cleanups T). record (part c ps) { payloads = upd (part c ps).payloads p (change items) }) (sym (part_payloads ps c p (under_belongs ps c p under)))

  pub own_registered : (how : CleanupKind) (x : T) → part c (registered_as how p x ps) ≡ registered_as how p x (part c ps)
  unfolding registered_as
  own_registered how x = own_filled (with_one how x)

  pub own_killed : (test : T → Bool) → part c (killed p test ps) ≡ killed p test (part c ps)
  unfolding killed
  own_killed test = own_filled (λ (items : Cleanups T). record items { plain = without_last test items.plain })

  -- Pools go.
  gone : {X : Type 0} (xs : List ℕ) (none items : X) (u v : Bool) → cond (belongs c (cond u [] xs)) (cond u none items) none ≡ cond u none (cond (belongs c xs) items none)
  gone xs none items true v = refl
  gone xs none items false v = refl

  pub own_destroyed : part c (destroyed p ps) ≡ destroyed p (part c ps)
  unfolding part destroyed
  own_destroyed = same_pools (part c (destroyed p ps)) (destroyed p (part c ps)) path payloads next where
    path : (n : ℕ) → (part c (destroyed p ps)).path n ≡ (destroyed p (part c ps)).path n
    path n = in_whole ∙ sym (ap (λ (t : Bool). cond t [] ((part c ps).path n)) (under_alike ps c p n h under)) where
      in_whole : (part c (destroyed p ps)).path n ≡ cond (is_under ps p n) [] ((part c ps).path n)
      in_whole = gone (ps.path n) [] (ps.path n) (is_under ps p n) true

    payloads : (n : ℕ) → (part c (destroyed p ps)).payloads n ≡ (destroyed p (part c ps)).payloads n
    payloads n = in_whole ∙ sym (ap (λ (t : Bool). cond t no_cleanups ((part c ps).payloads n)) (under_alike ps c p n h under)) where
      in_whole : (part c (destroyed p ps)).payloads n ≡ cond (is_under ps p n) no_cleanups ((part c ps).payloads n)
      in_whole = gone (ps.path n) no_cleanups (ps.payloads n) (is_under ps p n) true

    next : (part c (destroyed p ps)).next ≡ (destroyed p (part c ps)).next
    next = refl

  emptied : {X : Type 0} (xs : List ℕ) (none items : X) (u v : Bool) → cond (belongs c (cond (u && v) [] xs)) (cond u none items) none ≡ cond u none (cond (belongs c xs) items none)
  emptied xs none items true true = refl
  emptied xs none items true false = never (belongs c xs) none
  emptied xs none items false v = refl

  pub own_cleared : part c (cleared p ps) ≡ cleared p (part c ps)
  unfolding part cleared
  own_cleared = same_pools (part c (cleared p ps)) (cleared p (part c ps)) path payloads next where
    path : (n : ℕ) → (part c (cleared p ps)).path n ≡ (cleared p (part c ps)).path n
    path n = in_whole ∙ sym (ap (λ (t : Bool). cond (t && not (n == p)) [] ((part c ps).path n)) (under_alike ps c p n h under)) where
      in_whole : (part c (cleared p ps)).path n ≡ cond (is_under ps p n && not (n == p)) [] ((part c ps).path n)
      in_whole = gone (ps.path n) [] (ps.path n) (is_under ps p n && not (n == p)) true

    payloads : (n : ℕ) → (part c (cleared p ps)).payloads n ≡ (cleared p (part c ps)).payloads n
    payloads n = in_whole ∙ sym (ap (λ (t : Bool). cond t no_cleanups ((part c ps).payloads n)) (under_alike ps c p n h under)) where
      in_whole : (part c (cleared p ps)).payloads n ≡ cond (is_under ps p n) no_cleanups ((part c ps).payloads n)
      in_whole = emptied (ps.path n) no_cleanups (ps.payloads n) (is_under ps p n) (not (n == p))

    next : (part c (cleared p ps)).next ≡ (cleared p (part c ps)).next
    next = refl

pub own_changes : OwnPartChanges
own_changes Made c p ps h under = own_made c p ps h under
own_changes (Registered how x) c p ps h under = own_registered c p ps h under how x
own_changes (Killed test) c p ps h under = own_killed c p ps h under test
own_changes Cleared c p ps h under = own_cleared c p ps h under
own_changes Destroyed c p ps h under = own_destroyed c p ps h under
