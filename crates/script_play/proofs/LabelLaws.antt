-- Labels among payloads, one after another.
use Rattle.std.proofs.Common.{◌≡◌, ℕ, suc, ◌+◌, ◌<◌, ◌≤◌, List, [], ◌∷◌, ◌++◌, length, drop, get_or, refl, ap, sym, ◌∙◌, add-one, drop-cons, append_assoc, true, inl, inr}
use Rattle.std.proofs.lemmas.Bool.{cases_Bool, false≢true}
use Rattle.std.proofs.lemmas.List.{drop_all, append-nil}
use Rattle.std.proofs.lemmas.List.Folds.{list_all_at}
use Rattle.run_model.specs.declared.payload.Payload.{Payload}
use Rattle.run_model.specs.declared.payload.Payload.TheVariants.{Label, FileRef, Brigade}
use Rattle.run_model.specs.Payloads.{labels_in}
use Rattle.module_run.specs.Conns.{labels_handed}
use Rattle.interp_exec.specs.declared.labels_run.LabelsRun.{LabelsRun}
use Rattle.interp_exec.specs.LabelsKept.{is_run, AreLabels}

in_turn : (x : ℕ × Payload) (xs : List (ℕ × Payload)) → labels_in (x ∷ xs) ≡ labels_in (x ∷ []) ++ labels_in xs
in_turn (p, Label text) xs = refl
in_turn (p, FileRef file) xs = refl
in_turn (p, Brigade name) xs = refl

rest_is : {A : Type 0} (xs : List A) (i : ℕ) (x : A) → i < length xs → x ≡ get_or xs i x → drop i xs ≡ x ∷ drop (i + 1) xs
rest_is xs i x within at = rw add-one (drop-cons xs i x within ∙ ap (λ y. y ∷ drop (suc i) xs) (sym at))

-- the labels of a payload that is added, and those of the rest
pub labels_in_more : (xs : List (ℕ × Payload)) (i : ℕ) (x : ℕ × Payload) (old new whole : List (List ℕ)) → i < length xs → x ≡ get_or xs i x
    → new ≡ old ++ labels_in (x ∷ []) → old ++ labels_in (drop i xs) ≡ whole → new ++ labels_in (drop (i + 1) xs) ≡ whole
labels_in_more xs i x old new whole within at added before =
    ap (λ l. l ++ labels_in (drop (i + 1) xs)) added ∙ append_assoc old (labels_in (x ∷ [])) (labels_in (drop (i + 1) xs))
    ∙ ap (λ l. old ++ l) (sym (ap labels_in (rest_is xs i x within at) ∙ in_turn x (drop (i + 1) xs))) ∙ before

pub labels_in_all : (xs : List (ℕ × Payload)) (i : ℕ) (new whole : List (List ℕ)) → length xs ≤ i → new ++ labels_in (drop i xs) ≡ whole → new ≡ whole
labels_in_all xs i new whole past before = sym (append-nil new) ∙ ap (λ l. new ++ labels_in l) (sym (drop_all i xs past)) ∙ before

-- each of them is a label
pub label_at : (xs : List (ℕ × Payload)) (i : ℕ) (x : ℕ × Payload) → i < length xs → x ≡ get_or xs i x → AreLabels xs → is_run x.1 ≡ true
label_at xs i x within at all = elim (cases_Bool (is_run x.1)) [
  | inl is ↦ is
  | inr other ↦ absurd (false≢true (sym (list_all_at (λ (y : ℕ × Payload). is_run y.1) xs i x within (ap (λ (y : ℕ × Payload). is_run y.1) (sym at) ∙ other)) ∙ all))
]

-- the labels of one more clear
pub handed_more : (xs : List LabelsRun) (i : ℕ) (x : LabelsRun) (old new whole : List (List ℕ)) → i < length xs → x ≡ get_or xs i x
    → new ≡ old ++ labels_in x.payloads.items → old ++ labels_handed (drop i xs) ≡ whole → new ++ labels_handed (drop (i + 1) xs) ≡ whole
handed_more xs i x old new whole within at added before =
    ap (λ l. l ++ labels_handed (drop (i + 1) xs)) added ∙ append_assoc old (labels_in x.payloads.items) (labels_handed (drop (i + 1) xs))
    ∙ ap (λ l. old ++ l) (sym (ap labels_handed (rest_is xs i x within at))) ∙ before

pub handed_all : (xs : List LabelsRun) (i : ℕ) (new whole : List (List ℕ)) → length xs ≤ i → new ++ labels_handed (drop i xs) ≡ whole → new ≡ whole
handed_all xs i new whole past before = sym (append-nil new) ∙ ap (λ l. new ++ labels_handed l) (sym (drop_all i xs past)) ∙ before
