-- The text of a pool map: a line for each pool, and below it, two spaces further in, those of its children, the
-- oldest first.
use Rattle.std.specs.Prelude.{ℕ, zero, suc, ◌+◌, List, [], ◌∷◌, ◌++◌, reverse, codes, decimal}
use Rattle.std.specs.List.{flat_map}
use Rattle.byte_text.specs.Quoted.{spelling}
use Rattle.run_model.specs.declared.payload.Payload.{Payload}
use Rattle.run_model.specs.declared.payload.Payload.TheVariants.{Label, FileRef, Brigade}
use Rattle.run_model.specs.Pools.{Pools}
use Rattle.run_model.specs.RunOrder.{children}

-- two spaces for each pool above
unfoldable pub margin : ℕ → List ℕ
margin zero = []
margin (suc depth) = 32 ∷ 32 ∷ margin depth

-- a space and the text of a payload, where that is not empty
unfoldable pub spaced : List ℕ → List ℕ
spaced [] = []
spaced (c ∷ cs) = 32 ∷ c ∷ cs

-- the texts of payloads, the oldest first
unfoldable pub spaced_all : {T : Type 0} → (T → List ℕ) → List T → List ℕ
spaced_all text xs = flat_map (λ x. spaced (text x)) xs

-- the same with a caret, of the payloads that are handed on before those of the pools below
unfoldable pub marked : List ℕ → List ℕ
marked [] = []
marked (c ∷ cs) = 32 ∷ 94 ∷ c ∷ cs

unfoldable pub marked_all : {T : Type 0} → (T → List ℕ) → List T → List ℕ
marked_all text xs = flat_map (λ x. marked (text x)) xs

-- the line of a pool
unfoldable pub line : {T : Type 0} → (T → List ℕ) → Pools T → ℕ → ℕ → List ℕ
line text ps depth p = margin depth ++ codes "pool " ++ decimal p ++ marked_all text (ps.payloads p).pre ++ spaced_all text (ps.payloads p).plain ++ 10 ∷ []

-- the lines of a pool and those under it, down to so many below it
unfoldable pub printed_within : {T : Type 0} → ℕ → (T → List ℕ) → Pools T → ℕ → ℕ → List ℕ
printed_within zero text ps depth p = []
printed_within (suc below) text ps depth p = line text ps depth p ++ flat_map (printed_within below text ps (depth + 1)) (reverse (children ps p))

-- the lines of a pool and those under it
unfoldable pub printed : {T : Type 0} → (T → List ℕ) → Pools T → ℕ → ℕ → List ℕ
printed text ps depth p = printed_within ps.next text ps depth p

-- a label is shown as its text in quotes; references to files and brigades are not shown
abbrev pub payload_text : Payload → List ℕ
payload_text (Label text) = spelling text
payload_text (FileRef file) = []
payload_text (Brigade name) = []
