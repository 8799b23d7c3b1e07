-- What ends with a pool, one payload after another.
use Rattle.std.proofs.Common.{◌≡◌, ◌≢◌, ◌==◌, ◌&&◌, ◌||◌, ℕ, zero, suc, ◌+◌, ◌<◌, ◌≤◌, Bool, true, false, cond, Option, None, List, ◌∷◌, drop, length, get_or, refl, sym, ap, ◌∙◌, arith, add-one}
use Rattle.std.proofs.Common.{drop-cons, inl, inr}
use Rattle.std.specs.Option.{option_map_or}
use Rattle.std.proofs.lemmas.Bool.{cases_eq, eq-eqb, ne_eqb}
use Rattle.bucket_ring.specs.Lists as rings
use Rattle.run_model.specs.Indexed.{upd}
use Rattle.bucket_kinds.specs.Device.{Held, Missing, is_there}
use Rattle.brigade_ops.specs.Files.{is_let_go}

-- the last reference to a file ends
pub closed_one : (file f : ℕ) (counts left : ℕ → Option ℕ) (numbered : ℕ → Held) → ((n : ℕ) → left n ≡ rings.upd counts file None n)
    → upd numbered file Missing f ≡ cond ((file == f) && (option_map_or (λ n. n) (left f) 0 == 0)) Missing (numbered f)
unfolding upd rings.upd
closed_one file f counts left numbered taken = elim (cases_eq f file) [
  | inl same ↦ (let none : left f ≡ None = taken f ∙ rw (eq-eqb f file same) refl in rw (eq-eqb f file same, eq-eqb file f (sym same), none) refl)
  | inr ne ↦ rw (ne_eqb f file ne, ne_eqb file f (λ e. ne (sym e))) refl
]

-- what is left begins with the payload at hand
pub rest_is : {A : Type 0} (xs : List A) (i : ℕ) (x : A) → i < length xs → x ≡ get_or xs i x → drop i xs ≡ x ∷ drop (i + 1) xs
rest_is xs i x within at = rw add-one (drop-cons xs i x within ∙ ap (λ y. y ∷ drop (suc i) xs) (sym at))

pub out_step : {V : Type 0} (here later : Bool) (new old : Option V) → new ≡ cond here None old → cond later None new ≡ cond (here || later) None old
out_step true true new old e = refl
out_step true false new old e = e
out_step false true new old e = refl
out_step false false new old e = e

pub counted_step : (here : Bool) (now before n : ℕ) → before ≡ cond here (now + 1) now → cond here (suc n) n ≤ before → n ≤ now
counted_step true now before n e h = omega arith
counted_step false now before n e h = omega arith

pub sum_step : (here : Bool) (now before n all start : ℕ) → before ≡ cond here (now + 1) now → before + all ≡ start + cond here (suc n) n → now + all ≡ start + n
sum_step true now before n all start e h = omega arith
sum_step false now before n all start e h = omega arith

closed_last : (now n : ℕ) (new old : Held) → n ≤ now → new ≡ cond (now == 0) Missing old → cond (is_let_go now n) Missing new ≡ cond (now == n) Missing old
closed_last now zero new old le e = e
closed_last now (suc m) new old le e = elim (cases_eq now (suc m)) [
  | inl same ↦ rw (eq-eqb now (suc m) same) refl
  | inr ne ↦ (let some : now ≢ 0 = λ z. absurd (omega arith) in
      let same_held : new ≡ old = e ∙ rw (ne_eqb now 0 some) refl in
      rw (ne_eqb now (suc m) ne) same_held)
]

same_test : (now n : ℕ) → (now + 1 == suc n) ≡ (now == n)
same_test now n = elim (cases_eq now n) [
  | inl same ↦ eq-eqb (now + 1) (suc n) (omega arith) ∙ sym (eq-eqb now n same)
  | inr ne ↦ ne_eqb (now + 1) (suc n) (λ e. ne (omega arith)) ∙ sym (ne_eqb now n ne)
]

pub closed_step : (here : Bool) (now before n : ℕ) (new old : Held) → before ≡ cond here (now + 1) now → n ≤ now → new ≡ cond (here && (now == 0)) Missing old
    → cond (is_let_go now n) Missing new ≡ cond (is_let_go before (cond here (suc n) n)) Missing old
closed_step true now before n new old less le e =
    closed_last now n new old le e ∙ (ap (λ b. cond b Missing old) (sym (same_test now n)) ∙ ap (λ k. cond (k == suc n) Missing old) (sym less))
closed_step false now before n new old less le e =
    ap (λ k. cond (is_let_go k n) Missing new) (sym less) ∙ ap (λ h. cond (is_let_go before n) Missing h) e

pub open_step : (here : Bool) (now before n : ℕ) (new old : Held) → n ≤ now → new ≡ cond (here && (now == 0)) Missing old → (0 < cond here (suc n) n → is_there old ≡ true) → 0 < n
    → is_there new ≡ true
open_step true now before n new old le e opened h =
    let some : now ≢ 0 = λ z. absurd (omega arith) in
    let same : new ≡ old = e ∙ rw (ne_eqb now 0 some) refl in
    ap is_there same ∙ opened (omega arith)
open_step false now before n new old le e opened h = ap is_there e ∙ opened h

pub some_here : (here : Bool) (n : ℕ) → here ≡ true → 0 < cond here (suc n) n
some_here true n h = omega arith
some_here false n h = absurd (cc)

pub enough_here : (here : Bool) (n before : ℕ) → here ≡ true → cond here (suc n) n ≤ before → 0 < before
enough_here true n before h le = omega arith
enough_here false n before h le = absurd (cc)
