-- The labels of what a clear handed on are those of what is kept of it.
use Rattle.std.proofs.Common.{◌≡◌, ℕ, ◌++◌, List, [], ◌∷◌, length, refl, sym, ap, ◌∙◌, append_assoc, arith}
use Rattle.std.specs.Prelude.{filter}
use Rattle.std.proofs.lemmas.List.{append-nil}
use Rattle.run_model.specs.declared.payload.Payload.{Payload}
use Rattle.run_model.specs.declared.payload.Payload.TheVariants.{Label, FileRef, Brigade}
use Rattle.run_model.specs.Payloads.{labels_in}
use Rattle.interp_exec.specs.CarriedOut.{labels_handed}
use Rattle.interp_exec.specs.LabelsKept.{is_run, AreLabels}
use Rattle.interp_exec.specs.declared.labels_run.LabelsRun.{LabelsRun}

abbrev pub kept : List (ℕ × Payload) → List (ℕ × Payload)
kept xs = filter (λ x. is_run x.1) xs

pub labels_kept : (xs : List (ℕ × Payload)) → labels_in (kept xs) ≡ labels_in xs
labels_kept [] = refl
labels_kept ((p, Label text) ∷ xs) = ap (λ (ls : List (List ℕ)). text ∷ ls) (labels_kept xs)
labels_kept ((p, FileRef file) ∷ xs) = labels_kept xs
labels_kept ((p, Brigade name) ∷ xs) = labels_kept xs

-- what is kept are labels
pub are_labels : (xs : List (ℕ × Payload)) → AreLabels (kept xs)
are_labels [] = refl
are_labels ((p, Label text) ∷ xs) = are_labels xs
are_labels ((p, FileRef file) ∷ xs) = are_labels xs
are_labels ((p, Brigade name) ∷ xs) = are_labels xs

-- where no label ran, nothing is kept
pub none_kept : (xs : List (ℕ × Payload)) → labels_in xs ≡ [] → kept xs ≡ []
none_kept [] none = refl
none_kept ((p, Label text) ∷ xs) none = absurd (cc)
none_kept ((p, FileRef file) ∷ xs) none = none_kept xs none
none_kept ((p, Brigade name) ∷ xs) none = none_kept xs none

-- the labels of one more list
pub labels_more : (handed : List LabelsRun) (ran : LabelsRun) → labels_handed (handed ++ ran ∷ []) ≡ labels_handed handed ++ labels_in ran.payloads.items
labels_more [] ran = append-nil (labels_in ran.payloads.items)
labels_more (first ∷ handed) ran = ap (λ (xs : List (List ℕ)). labels_in first.payloads.items ++ xs) (labels_more handed ran)
    ∙ sym (append_assoc (labels_in first.payloads.items) (labels_handed handed) (labels_in ran.payloads.items))

-- labels of what is kept of ran, added as one more list
pub labels_added : (handed new : List LabelsRun) (ran : List (ℕ × Payload)) (left : LabelsRun) → left.payloads.items ≡ kept ran → new ≡ handed ++ left ∷ []
    → labels_handed new ≡ labels_handed handed ++ labels_in ran
labels_added handed new ran left is added =
    ap labels_handed added ∙ (labels_more handed left ∙ ap (λ (ls : List (List ℕ)). labels_handed handed ++ ls) (ap labels_in is ∙ labels_kept ran))

-- no labels, where nothing is kept
pub none_added : (handed : List LabelsRun) (ran left : List (ℕ × Payload)) → left ≡ kept ran → length left ≡ 0 → labels_handed handed ≡ labels_handed handed ++ labels_in ran
none_added handed ran left is none =
    sym (append-nil (labels_handed handed)) ∙ ap (λ (ls : List (List ℕ)). labels_handed handed ++ ls) (ap labels_in (sym (is_nothing left none) ∙ is) ∙ labels_kept ran) where
      is_nothing : (xs : List (ℕ × Payload)) → length xs ≡ 0 → xs ≡ []
      is_nothing [] none = refl
      is_nothing (x ∷ xs) none = absurd (omega (arith, none))
