-- One more turn of a list is taken.
use Rattle.std.specs.Prelude.{◌≡◌, ℕ, zero, suc, Bool, true, false, ◌==◌, ◌&&◌, not, if◌then◌else◌, Option, None, Some, List, [], ◌∷◌, ◌++◌, map, filter, reverse, drop, refl}
use Rattle.std.specs.List.{list_any, flat_map}
use Rattle.std.specs.Option.{option_map, option_map_or}
use Rattle.std.proofs.Common.{sym, ◌∙◌, ap, inl, inr, arith}
use Rattle.std.proofs.lemmas.List.{reverse-append}
use Rattle.std.proofs.lemmas.Bool.{cases_Bool, eq-eqb, ne_eqb, cases_eq, or_parts}
use Rattle.run_model.specs.declared.effect.CleanupKind.{CleanupKind}
use Rattle.run_model.specs.declared.effect.CleanupKind.TheVariants.{Plain, Pre}
use Rattle.run_model.specs.Indexed.{upd}
use Rattle.run_model.specs.Pools.{Cleanups, no_cleanups, held_as}
use Rattle.run_model.specs.RunOrder.{Turn, turns_at, both_turns}
use Rattle.pool_tree.specs.declared.records.Pool.{Pool}
use Rattle.pool_tree.specs.Records.{cleanups, payloads_of}
use Rattle.pool_tree.specs.Handed.{own_of, IsOnce, Seen, seen, seen_of, left_of_kind, after_turn, after_turns}

-- whether a pool may have the second turn after the first
abbrev then_fits : CleanupKind → CleanupKind → Bool
then_fits Pre Plain = true
then_fits Pre Pre = false
then_fits Plain k = false

-- whether a turn takes what is due in a later one
abbrev pub clash : Turn → Turn → Bool
clash t y = (y.0 == t.0) && not (then_fits t.1 y.1)

-- what a record has to hand on, by what is seen of it
abbrev pub held_of : {T : Type 0} → Option (Seen T) → Cleanups T
held_of o = option_map_or (λ s. s.held) o no_cleanups

held_seen : {T : Type 0} (o : Option (Pool T)) → option_map_or cleanups o no_cleanups ≡ held_of (option_map seen o)
held_seen None = refl
held_seen (Some q) = refl

pub payloads_seen : {T : Type 0} (records : ℕ → Option (Pool T)) (n : ℕ) → payloads_of records n ≡ held_of (seen_of records n)
unfolding seen_of
payloads_seen records n = held_seen (records n)

kept_held : {T : Type 0} (k j : CleanupKind) (o : Option (Seen T)) → then_fits k j ≡ true → held_as j (held_of (left_of_kind k o)) ≡ held_as j (held_of o)
kept_held Pre Plain None fits = refl
kept_held Pre Plain (Some s) fits = refl
kept_held Pre Pre o fits = cc
kept_held Plain j o fits = cc

not_false : (b : Bool) → not b ≡ false → b ≡ true
not_false true e = refl
not_false false e = cc

kept_after : {T : Type 0} (t y : Turn) (o : Option (Seen T)) → clash t y ≡ false → held_as y.1 (held_of (after_turn t y.0 o)) ≡ held_as y.1 (held_of o)
unfolding after_turn
kept_after t y o clear = elim (cases_eq t.0 y.0) [
  | inl here ↦
      let fits : not (then_fits t.1 y.1) ≡ false = rw (eq-eqb y.0 t.0 (sym here)) at clear in
      rw (eq-eqb t.0 y.0 here) (kept_held t.1 y.1 o (not_false (then_fits t.1 y.1) fits))
  | inr apart ↦ rw (ne_eqb t.0 y.0 apart)
]

pub own_one : {T : Type 0} (old new : ℕ → Option (Pool T)) (t : Turn) → ((n : ℕ) → seen_of new n ≡ after_turn t n (seen_of old n)) → (y : Turn) → clash t y ≡ false → own_of new y ≡ own_of old y
unfolding own_of
own_one {T} old new t rest y clear =
    ap (λ (xs : List T). map (λ (x : T). (y.0, x)) (reverse xs))
    (ap (held_as y.1) (payloads_seen new y.0 ∙ ap held_of (rest y.0)) ∙ kept_after t y (seen_of old y.0) clear ∙ ap (held_as y.1) (sym (payloads_seen old y.0)))

pub own_same : {T : Type 0} (old new : ℕ → Option (Pool T)) (t : Turn) → ((n : ℕ) → seen_of new n ≡ after_turn t n (seen_of old n)) → (ys : List Turn) → list_any (clash t) ys ≡ false
    → flat_map (own_of new) ys ≡ flat_map (own_of old) ys
own_same old new t rest [] none = refl
own_same old new t rest (y ∷ ys) none =
    let parts = or_parts (clash t y) (list_any (clash t) ys) none in
    rw (own_one old new t rest y parts.0) (ap (λ es. own_of old y ++ es) (own_same old new t rest ys parts.1))

-- Of turns that stand once.

dropped : (k n : ℕ) (t : Turn) (xs : List Turn) → t ∷ xs ≡ drop k (both_turns n) → xs ≡ drop (suc k) (both_turns n)
dropped zero n t xs e = cc
dropped (suc zero) n t xs e = cc
dropped (suc (suc zero)) n t xs e = cc
dropped (suc (suc (suc k))) n t xs e = cc

pub once_tail : (t : Turn) (ts : List Turn) → IsOnce (t ∷ ts) → IsOnce ts
unfolding IsOnce
once_tail t ts once n =
    let k = (once n).0 in
    elim (cases_Bool (turns_at n t)) [
      | inl here ↦ (let all : t ∷ filter (turns_at n) ts ≡ drop k (both_turns n) = rw here at (once n).1 in (suc k, dropped k n t (filter (turns_at n) ts) all))
      | inr apart ↦ (let all : filter (turns_at n) ts ≡ drop k (both_turns n) = rw apart at (once n).1 in (k, all))
    ]

-- only the turns of the same pool are in the way
clash_filter : (t : Turn) (ys : List Turn) → list_any (clash t) (filter (turns_at t.0) ys) ≡ false → list_any (clash t) ys ≡ false
clash_filter t [] none = refl
clash_filter t (y ∷ ys) none = elim (cases_Bool (y.0 == t.0)) [
  | inl here ↦
      let both = rw here at none in
      let parts = or_parts (not (then_fits t.1 y.1)) (list_any (clash t) (filter (turns_at t.0) ys)) (rw here at both) in
      rw (here, parts.0) (clash_filter t ys parts.1)
  | inr apart ↦ (let less = rw apart at none in rw apart (clash_filter t ys less))
]

and_none : (b : Bool) → (b && not true) ≡ false
and_none true = refl
and_none false = refl

head_clear : (k : ℕ) (t : Turn) (xs : List Turn) → t ∷ xs ≡ drop k (both_turns t.0) → list_any (clash t) xs ≡ false
head_clear zero t xs e =
    let first : t ≡ (t.0, Pre) = cc in
    let rest : xs ≡ (t.0, Plain) ∷ [] = cc in
    let kind : t.1 ≡ Pre = ap (λ (x : Turn). x.1) first in
    rw (rest, kind, eq-eqb t.0 t.0 refl)
head_clear (suc zero) t xs e = (let rest : xs ≡ [] = cc in rw rest)
head_clear (suc (suc zero)) t xs e = cc
head_clear (suc (suc (suc k))) t xs e = cc

pub once_head : (t : Turn) (ts : List Turn) → IsOnce (t ∷ ts) → list_any (clash t) ts ≡ false
unfolding IsOnce
once_head t ts once =
    let k = (once t.0).0 in
    let all : t ∷ filter (turns_at t.0) ts ≡ drop k (both_turns t.0) = rw (eq-eqb t.0 t.0 refl) at (once t.0).1 in
    clash_filter t ts (head_clear k t (filter (turns_at t.0) ts) all)

-- a pool none of whose turns is in the list
pub none_clash : (t : Turn) (ts : List Turn) → filter (turns_at t.0) ts ≡ [] → list_any (clash t) ts ≡ false
none_clash t ts none = clash_filter t ts (ap (list_any (clash t)) none)

pub rest_same : {T : Type 0} (old new : ℕ → Option (Pool T)) (t : Turn) → ((n : ℕ) → seen_of new n ≡ after_turn t n (seen_of old n)) → (ts : List Turn) (n : ℕ)
    → after_turns ts n (seen_of new n) ≡ after_turns (t ∷ ts) n (seen_of old n)
unfolding after_turns
rest_same old new t rest ts n = ap (after_turns ts n) (rest n)

-- the turns of other pools leave a pool as it is
after_filter : {T : Type 0} (n : ℕ) (ts : List Turn) (o : Option (Seen T)) → after_turns ts n o ≡ after_turns (filter (turns_at n) ts) n o
unfolding after_turns after_turn
after_filter n [] o = refl
after_filter n (t ∷ ts) o = elim (cases_Bool (t.0 == n)) [
  | inl here ↦
      let all : filter (turns_at n) (t ∷ ts) ≡ t ∷ filter (turns_at n) ts = rw here in
      after_filter n ts (after_turn t n o) ∙ ap (λ (xs : List Turn). after_turns xs n o) (sym all)
  | inr apart ↦ rw apart (after_filter n ts o)
]

pub after_none : {T : Type 0} (n : ℕ) (ts : List Turn) (o : Option (Seen T)) → filter (turns_at n) ts ≡ [] → after_turns ts n o ≡ o
unfolding after_turns
after_none n ts o none = after_filter n ts o ∙ ap (λ (xs : List Turn). after_turns xs n o) none

pub after_both : {T : Type 0} (n : ℕ) (ts : List Turn) (o : Option (Seen T)) → filter (turns_at n) ts ≡ both_turns n → after_turns ts n o ≡ None
unfolding after_turns after_turn
after_both n ts o both = after_filter n ts o ∙ ap (λ (xs : List Turn). after_turns xs n o) both ∙ rw (eq-eqb n n refl)

-- a pool that was taken out has had its last turn
pub taken_out : {T : Type 0} (old new : ℕ → Option (Pool T)) (x : ℕ) → ((n : ℕ) → new n ≡ upd old x None n) → (n : ℕ) → seen_of new n ≡ after_turn (x, Plain) n (seen_of old n)
unfolding seen_of after_turn upd
taken_out old new x rest n = ap (option_map seen) (rest n) ∙ elim (cases_eq n x) [
  | inl here ↦ rw (eq-eqb n x here, eq-eqb x n (sym here))
  | inr apart ↦ rw (ne_eqb n x apart, ne_eqb x n (λ e. apart (sym e)))
]

pub last_first : {X : Type 0} (xs ys : List X) (x : X) → xs ≡ ys ++ x ∷ [] → reverse xs ≡ x ∷ reverse ys
last_first xs ys x is = ap reverse is ∙ reverse-append ys (x ∷ [])
