-- Texts that are put one behind another.
use Rattle.std.proofs.Common.{◌≡◌, ℕ, List, ◌++◌, take, drop, Result, Ok, Err, append_assoc, ap, ap₂, refl, sym, ◌∙◌}
use Rattle.std.specs.Prelude.{OnOk, is_ok, codes, if◌then◌else◌}
use Rattle.http_message.specs.Replying.{status_text}
use Rattle.http_message.specs.declared.status.StatusCode.{StatusCode}
use Rattle.http_message.specs.declared.status.StatusCode.TheVariants.{Success}

module _ (old : List ℕ) {before after : List ℕ} (first put : List ℕ) where
  -- one text more, behind those that were put
  pub onto : before ≡ old ++ first → after ≡ before ++ put → after ≡ old ++ (first ++ put)
  onto had more = more ∙ ap (λ l. l ++ put) had ∙ append_assoc old first put

  -- the same, where the text is told by another name
  pub onto_as : (text : List ℕ) → text ≡ put → before ≡ old ++ first → after ≡ before ++ text → after ≡ old ++ (first ++ put)
  onto_as text is had more = onto had (more ∙ ap (λ l. before ++ l) is)

-- two texts more, which are told by other names
pub onto_both : (old : List ℕ) {before after : List ℕ} (first one two put next : List ℕ) → one ≡ put → two ≡ next
    → before ≡ old ++ first → after ≡ before ++ (one ++ two) → after ≡ old ++ (first ++ put ++ next)
onto_both old first one two put next same also had more =
    onto old first (one ++ two) had more ∙ ap (λ l. old ++ (first ++ l)) (ap₂ (λ x y. x ++ y) same also)
    ∙ ap (λ l. old ++ l) (sym (append_assoc first put next))

-- what a call that puts a text leaves, where it is Ok
pub put_well : {A E : Type 0} (r : Result A E) (after put before : List ℕ) → after ≡ (if is_ok r then put else before) → OnOk r (after ≡ put)
put_well (Ok a) after put before is = is
put_well (Err e) after put before is = tt

-- a status is its code, a space and its phrase
pub status_parts : (s : StatusCode) → (take 3 (status_text s) ++ codes " ") ++ drop 4 (status_text s) ≡ status_text s
status_parts Success = refl
status_parts _ = refl
