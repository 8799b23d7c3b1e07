-- Texts that are written one behind the other.
use Rattle.std.proofs.Common.{◌≡◌, ℕ, suc, ◌+◌, ◌-◌, ◌<◌, ◌≤◌, List, [], ◌++◌, length, take, Option, Bool, true, Ok, Err, ap, subst, arith}
use Rattle.std.specs.Prelude.{Result, is_err}
use Rattle.byte_text.specs.Writes.{AppendsText, FailsIn, WriterState, Wrote}
use Rattle.byte_text.proofs.WritingLaws.{Leaves, leaves_all, leaves_fault, leaves_less, leaves_none, leaves_whole}
use Rattle.life_cert.specs.StateText.{each, where_holds}

-- The writer took a front of a text, and failed.
abbrev pub Front : WriterState → WriterState → List ℕ → Type 0
Front a b x = FailsIn a b x

front : {F : Type 0} (a b : WriterState) (x : List ℕ) (r : Result (Unit {0}) F) → is_err r ≡ true → Front a b x → Wrote r a b x
front a b x (Ok u) fault h = absurd (cc fault)
front a b x (Err e) fault h = h

-- the writer fails in the first of two texts
pub wrote_front : {F : Type 0} (a b : WriterState) (x y : List ℕ) (r : Result (Unit {0}) F) → is_err r ≡ true → Front a b x → Wrote r a b (x ++ y)
wrote_front a b x y r fault h = leaves_fault {E = ℕ} a a b (x ++ y) x y 0 r fault (leaves_all a (x ++ y)) h

-- a text that is written where this holds
pub wrote_where : {F : Type 0} (a b : WriterState) (x : List ℕ) (r : Result (Unit {0}) F) (t : Bool) → t ≡ true → Wrote r a b x → Wrote r a b (where_holds t x)
wrote_where a b x r t holds h = rw holds h

-- Texts of numbers in turn: the first that is left, and the others.
pub each_more : (n k : ℕ) (f : ℕ → List ℕ) → k < n → each k (n - k) f ≡ f k ++ each (k + 1) (n - (k + 1)) f
unfolding each
each_more n k f below =
    let left : n - k ≡ suc (n - (k + 1)) = omega arith in
    ap (λ (m : ℕ). each k m f) left

pub each_none : (n k : ℕ) (f : ℕ → List ℕ) → n ≤ k → each k (n - k) f ≡ []
unfolding each
each_none n k f past =
    let none : n - k ≡ 0 = omega arith in
    ap (λ (m : ℕ). each k m f) none

-- Of a whole text, those from number k on are left.
pub record LeavesEach (a b : WriterState) (n : ℕ) (f : ℕ → List ℕ) (k : ℕ) : Type 0 where
  pub left : Leaves a b (each 0 n f) (each k (n - k) f)

pub each_begins : (a : WriterState) (n : ℕ) (f : ℕ → List ℕ) → LeavesEach a a n f 0
each_begins a n f = record { left = leaves_whole a (each 0 n f) (each 0 (n - 0) f) (ap (λ (m : ℕ). each 0 m f) (omega arith)) }

pub each_written : (a b c : WriterState) (n k : ℕ) (f : ℕ → List ℕ) → LeavesEach a b n f k → k < n → AppendsText b c (f k) → LeavesEach a c n f (k + 1)
each_written a b c n k f l below h = record {
  left = leaves_less a b c (each 0 n f) (f k) (each (k + 1) (n - (k + 1)) f) (subst (Leaves a b (each 0 n f)) (each_more n k f below) l.left) h;
}

pub each_fault : {F : Type 0} (a b c : WriterState) (n k : ℕ) (f : ℕ → List ℕ) (r : Result (Unit {0}) F) → LeavesEach a b n f k → k < n → is_err r ≡ true → Front b c (f k)
    → Wrote r a c (each 0 n f)
each_fault a b c n k f r l below fault h =
    leaves_fault {E = ℕ} a b c (each 0 n f) (f k) (each (k + 1) (n - (k + 1)) f) 0 r fault (subst (Leaves a b (each 0 n f)) (each_more n k f below) l.left) h

pub each_ends : (a b : WriterState) (n k : ℕ) (f : ℕ → List ℕ) → LeavesEach a b n f k → n ≤ k → AppendsText a b (each 0 n f)
each_ends a b n k f l past = leaves_none a b (each 0 n f) (subst (Leaves a b (each 0 n f)) (each_none n k f past) l.left)
