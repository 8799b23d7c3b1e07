-- A list of pieces, piece by piece.
use Rattle.std.proofs.Common.{◌≡◌, ℕ, zero, suc, ◌+◌, ◌-◌, ◌<◌, ◌≤◌, List, [], ◌∷◌, ◌++◌, length, take, drop, Some, None, refl, ap, sym, ◌∙◌, arith}
use Rattle.std.proofs.lemmas.Grind.{common_steps}
use Rattle.std.proofs.lemmas.List.{drop-drop, drop_all}
use Rattle.script_text.specs.declared.pieces.ScriptPiece.{ScriptPiece}
use Rattle.script_text.specs.declared.pieces.PieceRead.{PieceRead}
use Rattle.script_text.specs.Pieces.{piece_at, pieces_from}

-- the rest of a text as code reads it
abbrev pub rest_at : List ℕ → ℕ → List ℕ
rest_at text at = take (length text - at) (drop at text)

rest_is : (text : List ℕ) (at : ℕ) → rest_at text at ≡ drop at text
rest_is text at = grind (arith, common_steps)

pub length_rest : (text : List ℕ) (at : ℕ) → length (rest_at text at) ≡ length text - at
length_rest text at = grind (arith, common_steps)

goes : (n : ℕ) (done : List ScriptPiece) (bytes : List ℕ) (r : PieceRead) → 0 < length bytes → piece_at bytes ≡ Some r
    → pieces_from (suc n) done bytes ≡ pieces_from n (done ++ r.piece ∷ []) (drop r.used bytes)
goes n done [] r h e = absurd (omega arith)
goes n done (b ∷ bs) r h e = rw e refl

fails : (n : ℕ) (done : List ScriptPiece) (bytes : List ℕ) → 0 < length bytes → piece_at bytes ≡ None → pieces_from (suc n) done bytes ≡ None
fails n done [] h e = absurd (omega arith)
fails n done (b ∷ bs) h e = rw e refl

ends : (n : ℕ) (done : List ScriptPiece) → pieces_from n done [] ≡ Some done
ends zero done = refl
ends (suc n) done = refl

spent : (done : List ScriptPiece) (bytes : List ℕ) → 0 < length bytes → pieces_from zero done bytes ≡ None
spent done [] h = absurd (omega arith)
spent done (b ∷ bs) h = refl

-- the same at a place of the bytes, with the turns that are left
pub turn_goes : (bytes : List ℕ) (at k : ℕ) (done : List ScriptPiece) (r : PieceRead) → k < length bytes → at < length bytes → piece_at (rest_at bytes at) ≡ Some r
    → pieces_from (length bytes - k) done (drop at bytes) ≡ pieces_from (length bytes - (k + 1)) (done ++ r.piece ∷ []) (drop (at + r.used) bytes)
turn_goes bytes at k done r h i e =
    let left : length bytes - k ≡ suc (length bytes - (k + 1)) = omega arith in
    let some : 0 < length (drop at bytes) = grind (arith, common_steps) in
    let read : piece_at (drop at bytes) ≡ Some r = ap piece_at (sym (rest_is bytes at)) ∙ e in
    rw left (goes (length bytes - (k + 1)) done (drop at bytes) r some read ∙ ap (pieces_from (length bytes - (k + 1)) (done ++ r.piece ∷ [])) (drop-drop r.used at bytes))

pub turn_fails : (bytes : List ℕ) (at k : ℕ) (done : List ScriptPiece) → k < length bytes → at < length bytes → piece_at (rest_at bytes at) ≡ None
    → pieces_from (length bytes - k) done (drop at bytes) ≡ None
turn_fails bytes at k done h i e =
    let left : length bytes - k ≡ suc (length bytes - (k + 1)) = omega arith in
    let some : 0 < length (drop at bytes) = grind (arith, common_steps) in
    let read : piece_at (drop at bytes) ≡ None = ap piece_at (sym (rest_is bytes at)) ∙ e in
    rw left (fails (length bytes - (k + 1)) done (drop at bytes) some read)

pub turn_ends : (bytes : List ℕ) (at k : ℕ) (done : List ScriptPiece) → length bytes ≤ at → pieces_from (length bytes - k) done (drop at bytes) ≡ Some done
turn_ends bytes at k done h = ap (pieces_from (length bytes - k) done) (drop_all at bytes h) ∙ ends (length bytes - k) done

pub turn_spent : (bytes : List ℕ) (at k : ℕ) (done : List ScriptPiece) → length bytes ≤ k → at < length bytes → pieces_from (length bytes - k) done (drop at bytes) ≡ None
turn_spent bytes at k done h i =
    let left : length bytes - k ≡ zero = omega arith in
    let some : 0 < length (drop at bytes) = grind (arith, common_steps) in
    rw left (spent done (drop at bytes) some)
