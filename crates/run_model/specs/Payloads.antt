-- What the payloads of pools are: labels, references to files, and brigades.
use Rattle.std.specs.Prelude.{ℕ, Bool, false, ◌==◌, nat_eq, List, [], ◌∷◌}
use Rattle.std.specs.Cmp.Lexicographic.{pointwise}
use Rattle.run_model.specs.declared.payload.Payload.{Payload}
use Rattle.run_model.specs.declared.payload.Payload.TheVariants.{Label, FileRef, Brigade}

-- whether a payload is the label of this text
abbrev pub is_label : List ℕ → Payload → Bool
is_label text (Label other) = pointwise nat_eq other text
is_label text (FileRef file) = false
is_label text (Brigade name) = false

-- whether a payload is a reference to this file
abbrev pub is_file_ref : ℕ → Payload → Bool
is_file_ref file (Label text) = false
is_file_ref file (FileRef other) = other == file
is_file_ref file (Brigade name) = false

-- whether a payload is this brigade
abbrev pub is_brigade : ℕ → Payload → Bool
is_brigade name (Label text) = false
is_brigade name (FileRef file) = false
is_brigade name (Brigade other) = other == name

-- whether the first payload equals the second
abbrev pub payload_eq : Payload → Payload → Bool
payload_eq x (Label text) = is_label text x
payload_eq x (FileRef file) = is_file_ref file x
payload_eq x (Brigade name) = is_brigade name x

-- the labels among payloads that are handed on, each of which stands with its pool
abbrev pub labels_in : List (ℕ × Payload) → List (List ℕ)
labels_in [] = []
labels_in ((p, Label text) ∷ xs) = text ∷ labels_in xs
labels_in ((p, FileRef file) ∷ xs) = labels_in xs
labels_in ((p, Brigade name) ∷ xs) = labels_in xs
