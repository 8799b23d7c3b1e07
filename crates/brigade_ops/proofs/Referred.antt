-- References to files, one after another.
use Rattle.std.proofs.Common.{◌≡◌, ◌==◌, ℕ, suc, ◌+◌, ◌<◌, ◌≤◌, Bool, true, false, cond, List, [], ◌∷◌, ◌++◌, refl, sym, ap, ◌∙◌, arith, inl, inr}
use Rattle.std.proofs.Math.Path.{fun_ext}
use Rattle.std.specs.Prelude.{Result, Ok, Err, OnOk, OnErr}
use Rattle.std.specs.Result.{is_err}
use Rattle.std.proofs.lemmas.Bool.{false≢true, cases_eq, eq-eqb, ne_eqb}
use Rattle.run_model.specs.declared.bucket.Home.{Home}
use Rattle.run_model.specs.declared.bucket.Home.TheVariants as home
use Rattle.run_model.specs.declared.payload.Payload.{Payload}
use Rattle.run_model.specs.declared.payload.Payload.TheVariants.{FileRef}
use Rattle.run_model.specs.Payloads.{payload_eq}
use Rattle.run_model.specs.Pools.{Pools, is_under, is_in, registered, registered_as}
use Rattle.run_model.specs.RunOrder.{killed}
use Rattle.run_model.specs.Steps.{is_above, all_referred}
use Rattle.run_model.specs.Cutting.{set_aside}
use Rattle.brigade_ops.specs.Files.{times_in}
use Rattle.bucket_store.specs.Items.{Item, aside_item}
use Rattle.brigade_ops.proofs.Undone.{killed_again}

-- one reference more, behind the others
pub referred_more : (pool file : ℕ) (files : List ℕ) (ps : Pools Payload) → all_referred pool (files ++ file ∷ []) ps ≡ registered pool (FileRef file) (all_referred pool files ps)
unfolding all_referred
referred_more pool file [] ps = refl
referred_more pool file (f ∷ files) ps = referred_more pool file files (registered pool (FileRef f) ps)

pub referred_none : (pool : ℕ) (ps : Pools Payload) → all_referred pool [] ps ≡ ps
unfolding all_referred
referred_none pool ps = refl

pub unreferred_one : (pool file : ℕ) (files : List ℕ) (ps : Pools Payload)
    → killed pool (λ other. payload_eq other (FileRef file)) (all_referred pool (files ++ file ∷ []) ps) ≡ all_referred pool files ps
unreferred_one pool file files ps =
    ap (killed pool (λ other. payload_eq other (FileRef file))) (referred_more pool file files ps)
    ∙ killed_again (all_referred pool files ps) pool (λ other. payload_eq other (FileRef file)) (FileRef file) (eq-eqb file file refl)

pub times_none : (file : ℕ) → times_in file [] ≡ 0
unfolding times_in
times_none file = refl

-- one file more
pub times_more : (file f : ℕ) (files : List ℕ) → times_in file (files ++ f ∷ []) ≡ cond (f == file) (times_in file files + 1) (times_in file files)
unfolding times_in
times_more file f [] = refl
times_more file f (g ∷ files) = at (g == file) (f == file) (times_more file f files) where
  at : (s t : Bool) → times_in file (files ++ f ∷ []) ≡ cond t (times_in file files + 1) (times_in file files)
      → cond s (suc (times_in file (files ++ f ∷ []))) (times_in file (files ++ f ∷ [])) ≡ cond t (cond s (suc (times_in file files)) (times_in file files) + 1)
      (cond s (suc (times_in file files)) (times_in file files))
  at true true e = omega (arith, e)
  at true false e = omega (arith, e)
  at false true e = e
  at false false e = e

-- references change payloads alone
referred_path : (pool : ℕ) (files : List ℕ) (ps : Pools Payload) → (all_referred pool files ps).path ≡ ps.path
unfolding all_referred registered_as
referred_path pool [] ps = refl
referred_path pool (f ∷ files) ps = referred_path pool files (registered pool (FileRef f) ps)

above_same : (ps qs : Pools Payload) (pool : ℕ) (h : Home) → qs.path ≡ ps.path → is_above qs pool h ≡ is_above ps pool h
unfolding is_under
above_same ps qs pool home.Free same = refl
above_same ps qs pool (home.Call n) same = refl
above_same ps qs pool (home.Pool n) same = ap (λ (f : ℕ → List ℕ). is_in n (f pool)) same
above_same ps qs pool home.Ended same = refl

-- setting aside looks at paths alone
pub aside_same : (pool : ℕ) (files : List ℕ) (ps : Pools Payload) → aside_item (all_referred pool files ps) pool ≡ aside_item ps pool
aside_same pool files ps =
    fun_ext (λ (x : Item). ap (λ above. (let y : Item = (x.0, set_aside pool above x.1) in y)) (above_same ps (all_referred pool files ps) pool x.1.home (referred_path pool files ps)))

same_test : (m n : ℕ) → (m == n) ≡ (n == m)
same_test m n = elim (cases_eq m n) [
  | inl same ↦ eq-eqb m n same ∙ sym (eq-eqb n m (sym same))
  | inr ne ↦ ne_eqb m n ne ∙ sym (ne_eqb n m (λ e. ne (sym e)))
]

more_one : (here : Bool) (start t m now before : ℕ) → before ≡ start + t → now ≡ cond here (before + 1) before → m ≡ cond here (t + 1) t → now ≡ start + m
more_one true start t m now before b n e = omega arith
more_one false start t m now before b n e = omega arith

less_one : (here : Bool) (start t m now before all : ℕ) → before ≡ cond here (now + 1) now → m ≡ cond here (t + 1) t → start + m ≡ before + all → start + t ≡ now + all
less_one true start t m now before all b e s = omega arith
less_one false start t m now before all b e s = omega arith

some_one : (here : Bool) (start t m before all : ℕ) → here ≡ true → m ≡ cond here (t + 1) t → start + m ≡ before + all → all ≤ start → 0 < before
some_one true start t m before all is e s le = omega arith
some_one false start t m before all is e s le = cc

-- a count with the references so far, and one more
pub counted_more : (f file start now before : ℕ) (files : List ℕ) → before ≡ start + times_in f files → now ≡ cond (f == file) (before + 1) before → now ≡ start + times_in f (files ++ file ∷ [])
counted_more f file start now before files b n =
    more_one (file == f) start (times_in f files) (times_in f (files ++ file ∷ [])) now before b (n ∙ ap (λ s. cond s (before + 1) before) (same_test f file)) (times_more f file files)

pub counted_less : (f file start now before all : ℕ) (files : List ℕ) → before ≡ cond (file == f) (now + 1) now → start + times_in f (files ++ file ∷ []) ≡ before + all
    → start + times_in f files ≡ now + all
counted_less f file start now before all files b s = less_one (file == f) start (times_in f files) (times_in f (files ++ file ∷ [])) now before all b (times_more f file files) s

pub counted_some : (file start before all : ℕ) (files : List ℕ) → start + times_in file (files ++ file ∷ []) ≡ before + all → all ≤ start → 0 < before
counted_some file start before all files s le =
    some_one (file == file) start (times_in file files) (times_in file (files ++ file ∷ [])) before all (eq-eqb file file refl) (times_more file file files) s le

-- a fact that a call told, where it succeeded or failed
pub ok_of : {X E : Type 0} (x : Result X E) (P : Type 0) → is_err x ≡ false → OnOk x P → P
ok_of (Ok y) P went told = told
ok_of (Err e) P went told = absurd (false≢true (sym went))

pub err_of : {X E : Type 0} (x : Result X E) (P : Type 0) → is_err x ≡ true → OnErr x P → P
err_of (Ok y) P failed told = absurd (false≢true failed)
err_of (Err e) P failed told = told
