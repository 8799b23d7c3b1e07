-- The buckets of brought pieces stand as the pieces do, and late data is refused.
use Rattle.std.proofs.Common.{◌≡◌, ℕ, ◌+◌, Bool, true, false, ◌&&◌, ◌||◌, not, List, [], ◌∷◌, Option, Some, None, is_some, refl, sym, ◌∙◌, ap}
use Rattle.std.specs.List.{list_any}
use Rattle.module_code.specs.Program.{Program}
use Rattle.run_model.specs.declared.bucket.BrigadeVar.{BrigadeVar}
use Rattle.run_model.specs.declared.event.Cause.{Cause}
use Rattle.run_model.specs.declared.event.Refusal.{Refusal}
use Rattle.run_model.specs.declared.event.Refusal.TheVariants as refusal
use Rattle.run_model.specs.declared.event.Piece.{Piece}
use Rattle.run_model.specs.declared.event.Piece.TheVariants as piece
use Rattle.run_model.specs.Buckets.{is_data_kind, is_eos_kind, has_data, data_after_eos}
use Rattle.run_model.specs.State.{Instance, items_of}
use Rattle.run_model.specs.Refusals.{first_refusal, refused_if, if_broken}
use Rattle.run_model.specs.Pieces.{bucket_of, named_from, is_data_piece, is_eos_piece, data_behind_eos}
use Rattle.run_model.specs.Chains.{Connection, Common, Linked, place_from}
use Rattle.run_model.specs.Turns.{brought, brings, unless_refused, is_busy}
use Rattle.model_laws.specs.Laws.{BucketsAsPieces}
use Rattle.model_laws.specs.Bringing.{LateDataIsRefused, BroughtEndsOnce}
use Rattle.model_laws.proofs.EventAnswers.{none_first, none_if}
use Rattle.run_model.proofs.Updates.{upd_at}

-- data or an EOS or neither, whatever the call and the request
same_piece : (call req : ℕ) (x : Piece) → (is_data_kind (bucket_of call req x).kind ≡ is_data_piece x) × (is_eos_kind (bucket_of call req x).kind ≡ is_eos_piece x)
same_piece call req (piece.Heap bytes) = (refl, refl)
same_piece call req (piece.Transient bytes) = (refl, refl)
same_piece call req (piece.Immortal bytes) = (refl, refl)
same_piece call req (piece.Pool bytes) = (refl, refl)
same_piece call req (piece.File file start len) = (refl, refl)
same_piece call req piece.Flush = (refl, refl)
same_piece call req piece.Eos = (refl, refl)

same_data : (call req n : ℕ) (xs : List Piece) → has_data (named_from (bucket_of call req) n xs) ≡ list_any is_data_piece xs
same_data call req n [] = refl
same_data call req n (x ∷ xs) =
    ap (λ (b : Bool). b || has_data (named_from (bucket_of call req) (n + 1) xs)) (same_piece call req x).0
    ∙ ap (λ (b : Bool). is_data_piece x || b) (same_data call req (n + 1) xs)

pub buckets_as_pieces : BucketsAsPieces
buckets_as_pieces call req n [] = refl
buckets_as_pieces call req n (x ∷ xs) =
    ap (λ (b : Bool). (b && has_data (named_from (bucket_of call req) (n + 1) xs)) || data_after_eos (named_from (bucket_of call req) (n + 1) xs)) (same_piece call req x).1
    ∙ (ap (λ (b : Bool). (is_eos_piece x && b) || data_after_eos (named_from (bucket_of call req) (n + 1) xs)) (same_data call req (n + 1) xs)
    ∙ ap (λ (b : Bool). (is_eos_piece x && list_any is_data_piece xs) || b) (buckets_as_pieces call req (n + 1) xs))

-- Bringing.

late_first : (b : Option Cause) (busy : Bool) (o : Option ℕ) (late : Bool) (rest : List (Option Refusal)) (req : ℕ) → b ≡ None → busy ≡ false → o ≡ Some req → late ≡ true
    → first_refusal (if_broken b ∷ (refused_if busy refusal.Busy ∷ (refused_if (not (is_some o)) refusal.NotInRequest ∷ (refused_if late refusal.DataAfterEos ∷ rest)))) ≡ Some refusal.DataAfterEos
late_first None false (Some q) true rest req sound idle in_request late = refl
late_first None false (Some q) false rest req sound idle in_request late = absurd (cc)
late_first None false None l rest req sound idle in_request late = absurd (cc)
late_first None true o l rest req sound idle in_request late = absurd (cc)
late_first (Some k) busy o l rest req sound idle in_request late = absurd (cc)

pub late_data_is_refused : LateDataIsRefused
unfolding brings
late_data_is_refused memory chain pieces g c req sound idle is late =
    ap (λ (o : Option Refusal). unless_refused o (g, c) (brought chain pieces c.req (g, c)))
    (late_first c.broken (is_busy c.stack) c.req (data_behind_eos pieces) _ req sound (ap is_busy idle) is late)

-- what happened passed each test
served : (o : Option Refusal) (old done new : Linked) → unless_refused o old done ≡ (None, new) → (o ≡ None) × (new ≡ done)
served None old done new is = (refl, ap (λ (a : Option Refusal × Linked). a.1) (sym is))
served (Some r) old done new is = absurd (let no : Some r ≡ None = ap (λ (a : Option Refusal × Linked). a.0) is in cc)

in_brought : (o : Option ℕ) (chain : List Program) (pieces : List Piece) (g : Common) (c : Connection) → not (is_some o) ≡ false → data_behind_eos pieces ≡ false
    → data_after_eos (items_of (((brought chain pieces o (g, c)).1.instances (place_from chain c.instances 0)).brigades 8)) ≡ false
in_brought None chain pieces g c in_request none = absurd (cc)
in_brought (Some req) chain pieces g c in_request none =
    ap (λ (i : Instance). data_after_eos (items_of (i.brigades 8))) (upd_at c.instances (place_from chain c.instances 0) _)
    ∙ ap (λ (v : BrigadeVar). data_after_eos (items_of v)) (upd_at (c.instances (place_from chain c.instances 0)).brigades 8 _) ∙ (buckets_as_pieces g.next req (g.next + 2) pieces ∙ none)

pub brought_ends_once : BroughtEndsOnce
unfolding brings
brought_ends_once memory chain pieces (g, c) new is =
    let happened = served _ (g, c) (brought chain pieces c.req (g, c)) new is in
    let a = none_first (if_broken c.broken) _ happened.0 in
    let b = none_if (is_busy c.stack) refusal.Busy _ a in
    let d = none_if (not (is_some c.req)) refusal.NotInRequest _ b.1 in
    let e = none_if (data_behind_eos pieces) refusal.DataAfterEos _ d.1 in
    ap (λ (x : Linked). data_after_eos (items_of ((x.1.instances (place_from chain c.instances 0)).brigades 8))) happened.1 ∙ in_brought c.req chain pieces g c d.0 e.0
