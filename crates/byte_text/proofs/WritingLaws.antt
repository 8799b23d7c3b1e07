-- Texts that are written one after another.
use Rattle.std.proofs.Common.{◌≡◌, ℕ, ◌+◌, ◌<◌, List, [], ◌++◌, length, take, drop, Option, Some, None, true, Ok, Err, refl, sym, ◌∙◌, ap, subst, append_assoc, append-nil, arith, length-append}
use Rattle.std.specs.Prelude.{Result, is_err}
use Rattle.std.proofs.Math.Seq.{take-add, take-append-add}
use Rattle.std.proofs.lemmas.List.{take-append-le}
use Rattle.std.specs.Io.KnownBytes.{Appends}
use Rattle.byte_text.specs.Writes.{AppendsText, FailsIn, Wrote, WroteAll, WriterState}

bytes_none : (a : Option (List ℕ)) → Appends a a []
bytes_none None = tt
bytes_none (Some xs) = sym (append-nil xs)

bytes_then : (a b c : Option (List ℕ)) (x y : List ℕ) → Appends a b x → Appends b c y → Appends a c (x ++ y)
bytes_then None b c x y p q = tt
bytes_then (Some xs) None c x y p q = absurd p
bytes_then (Some xs) (Some ys) None x y p q = absurd q
bytes_then (Some xs) (Some ys) (Some zs) x y p q = let e = append_assoc xs x y in cc

pub appends_none : (a : WriterState) → AppendsText a a []
appends_none a = record { bytes = bytes_none a.bytes; sound = refl }

pub appends_then : (a b c : WriterState) (x y : List ℕ) → AppendsText a b x → AppendsText b c y → AppendsText a c (x ++ y)
appends_then a b c x y p q = record { bytes = bytes_then a.bytes b.bytes c.bytes x y p.bytes q.bytes; sound = q.sound ∙ p.sound }

-- a text of which n bytes were written, and then m bytes of the rest
pub appends_take : (a b c : Option (List ℕ)) (text : List ℕ) (n m : ℕ) → Appends a b (take n text) → Appends b c (take m (drop n text)) → Appends a c (take (n + m) text)
appends_take a b c text n m p q = let all = bytes_then a b c (take n text) (take m (drop n text)) p q in rw take-add all

-- Of a whole text, all but the rest is written.
pub record Leaves (before now : WriterState) (whole rest : List ℕ) : Type 0 where
  pub done : List ℕ
  pub wrote : AppendsText before now done
  pub both : done ++ rest ≡ whole

pub leaves_all : (a : WriterState) (whole : List ℕ) → Leaves a a whole whole
leaves_all a whole = record { done = []; wrote = appends_none a; both = refl }

pub leaves_whole : (a : WriterState) (whole parts : List ℕ) → whole ≡ parts → Leaves a a whole parts
leaves_whole a whole parts same = record { done = []; wrote = appends_none a; both = sym same }

-- the next part is written
pub leaves_less : (a b c : WriterState) (whole x rest : List ℕ) → Leaves a b whole (x ++ rest) → AppendsText b c x → Leaves a c whole rest
leaves_less a b c whole x rest l h = record {
  done = l.done ++ x;
  wrote = appends_then a b c l.done x l.wrote h;
  both = append_assoc l.done x rest ∙ l.both;
}

pub leaves_none : (a b : WriterState) (whole : List ℕ) → Leaves a b whole [] → AppendsText a b whole
leaves_none a b whole l = subst (AppendsText a b) (sym (append-nil l.done) ∙ l.both) l.wrote

-- the writer fails in the next part
front_fault : (a b c : WriterState) (whole x rest : List ℕ) → Leaves a b whole (x ++ rest) → FailsIn b c x → FailsIn a c whole
front_fault a b c whole x rest l h =
    let n = h.taken in
    let low : n < length x = h.part in
    let front : take n (x ++ rest) ≡ take n x = take-append-le n x rest (omega arith) in
    let all : l.done ++ take n x ≡ take (length l.done + n) whole = sym (ap (λ z. take (length l.done + n) z) (sym l.both) ∙ take-append-add l.done (x ++ rest) n ∙ ap (λ z. l.done ++ z) front) in
    let long : length whole ≡ length l.done + length (x ++ rest) = ap length (sym l.both) ∙ length-append l.done (x ++ rest) in
    record {
      taken = length l.done + n;
      part = omega (arith, long, length-append x rest);
      bytes = subst (Appends a.bytes c.bytes) all (bytes_then a.bytes b.bytes c.bytes l.done (take n x) l.wrote.bytes h.bytes);
      failed = h.failed;
    }

pub leaves_fault : {E F : Type 0} (a b c : WriterState) (whole x rest : List ℕ) (e : E) (r : Result (Unit {0}) F) → is_err r ≡ true → Leaves a b whole (x ++ rest) → Wrote (Err e) b c x
    → Wrote r a c whole
leaves_fault a b c whole x rest e (Ok u) fault l h = absurd (cc fault)
leaves_fault a b c whole x rest e (Err f) fault l h = front_fault a b c whole x rest l h

-- the last part
pub leaves_last : {E : Type 0} (a b c : WriterState) (whole x : List ℕ) (r : Result (Unit {0}) E) → Leaves a b whole x → Wrote r b c x → Wrote r a c whole
leaves_last a b c whole x (Ok u) l h = subst (AppendsText a c) l.both (appends_then a b c l.done x l.wrote h)
leaves_last a b c whole x (Err e) l h =
    let same : x ≡ x ++ [] = sym (append-nil x) in
    front_fault a b c whole x [] (subst (Leaves a b whole) same l) h

-- one text and then another
pub wrote_then : {E : Type 0} (a b c : WriterState) (x y : List ℕ) (r : Result (Unit {0}) E) → AppendsText a b x → Wrote r b c y → Wrote r a c (x ++ y)
wrote_then a b c x y r h k = leaves_last a b c (x ++ y) y r (leaves_less a a b (x ++ y) x y (leaves_all a (x ++ y)) h) k

pub wrote_same : {E : Type 0} (a b : WriterState) (x y : List ℕ) (r : Result (Unit {0}) E) → x ≡ y → Wrote r a b x → Wrote r a b y
wrote_same a b x y r same h = subst (Wrote r a b) same h

pub appends_same : (a b : WriterState) (x y : List ℕ) → x ≡ y → AppendsText a b x → AppendsText a b y
appends_same a b x y same h = subst (AppendsText a b) same h

-- where a front that was taken is not told
pub wrote_all : {E : Type 0} (a b : WriterState) (x : List ℕ) (r : Result (Unit {0}) E) → Wrote r a b x → WroteAll r a b x
wrote_all a b x (Ok u) h = h
wrote_all a b x (Err e) h = h.failed

pub all_then : {E : Type 0} (a b c : WriterState) (x y : List ℕ) (r : Result (Unit {0}) E) → AppendsText a b x → WroteAll r b c y → WroteAll r a c (x ++ y)
all_then a b c x y (Ok u) h k = appends_then a b c x y h k
all_then a b c x y (Err e) h k = k

pub all_same : {E : Type 0} (a b : WriterState) (x y : List ℕ) (r : Result (Unit {0}) E) → x ≡ y → WroteAll r a b x → WroteAll r a b y
all_same a b x y r same h = subst (WroteAll r a b) same h

-- the writer failed
pub all_failed : {E : Type 0} (a b : WriterState) (x : List ℕ) (r : Result (Unit {0}) E) → is_err r ≡ true → b.failed ≡ true → WroteAll r a b x
all_failed a b x (Ok u) fault h = absurd (cc fault)
all_failed a b x (Err e) fault h = h
