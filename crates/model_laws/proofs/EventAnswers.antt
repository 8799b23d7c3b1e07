-- Where no refusal is told, none of its tests holds. What is true of a connection, however its events are answered.
use Rattle.std.proofs.Common.{◌≡◌, ℕ, ◌+◌, Bool, true, false, List, ◌∷◌, Option, Some, None, refl}
use Rattle.run_model.specs.declared.event.Refusal.{Refusal}
use Rattle.run_model.specs.Chains.{Linked}
use Rattle.run_model.specs.Refusals.{first_refusal, refused_if}
use Rattle.run_model.specs.Turns.{Opening, Found, Missing, Failing, unless_refused, file_taken, file_answer}

pub none_first : (t : Option Refusal) (ts : List (Option Refusal)) → first_refusal (t ∷ ts) ≡ None → first_refusal ts ≡ None
none_first None ts h = h
none_first (Some r) ts h = absurd (cc)

pub none_if : (b : Bool) (r : Refusal) (ts : List (Option Refusal)) → first_refusal (refused_if b r ∷ ts) ≡ None → (b ≡ false) × (first_refusal ts ≡ None)
none_if true r ts h = absurd (cc)
none_if false r ts h = (refl, h)

module _ (P : Linked → Type 0) where
  -- as it was, or as it is where nothing refuses
  pub unless_so : (o : Option Refusal) (old new : Linked) → P old → (o ≡ None → P new) → P (unless_refused o old new).1
  unless_so None old new was made = made refl
  unless_so (Some r) old new was made = was

  -- as it was, or as it is where a file was opened
  pub answer_so : (o : Option Refusal) (req : Option ℕ) (opening : Opening) (v : Linked) → P v
      → ((n skipped : ℕ) (bytes : List ℕ) → opening ≡ Found skipped bytes → P (file_taken n (v.0.file + skipped) bytes v)) → P (file_answer o req opening v).1
  answer_so (Some r) req opening v was taken = was
  answer_so None None opening v was taken = was
  answer_so None (Some n) Missing v was taken = was
  answer_so None (Some n) Failing v was taken = was
  answer_so None (Some n) (Found skipped bytes) v was taken = taken n skipped bytes refl
