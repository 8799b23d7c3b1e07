-- Lines that are written, and states that arrive.
use Rattle.std.proofs.Common.{◌≡◌, ℕ, ◌<◌, List, length, Option, Some, None, unwrap_or, slice_get, slice_set, slice_index_or, refl, ap, sym, ◌∙◌}
use Rattle.std.proofs.Math.Path.{fun_ext}
use Rattle.std.proofs.lemmas.Option.{unwrap_or-slice_get}
use Rattle.run_model.specs.Indexed.{upd}
use Rattle.life_state.specs.declared.state.State as code
use Rattle.life_state.specs.States.{State}
use Rattle.life_state.specs.Seen.{seen, seen_some}
use Rattle.life_state.proofs.Arrays.{read_set}
use Rattle.life_check.specs.Certificates.{Certificate}
use Rattle.life_check.specs.Seen.{seen_line}

line_by : (o : Option (Option code.State)) → seen_line o ≡ seen_some (unwrap_or o None)
line_by None = refl
line_by (Some line) = refl

-- the states of lines, as a certificate has them and as an array is read
abbrev pub lines_of : List (Option code.State) → ℕ → Option State
lines_of xs k = seen_line (slice_get xs k)

abbrev read_lines : List (Option code.State) → ℕ → Option State
read_lines xs k = seen_some (slice_index_or xs k None)

lines_are : (xs : List (Option code.State)) → lines_of xs ≡ read_lines xs
lines_are xs = fun_ext (λ k. line_by (slice_get xs k) ∙ ap seen_some (unwrap_or-slice_get xs k None))

pub lines_set : (xs : List (Option code.State)) (n : ℕ) (s : code.State) → n < length xs → lines_of (slice_set xs n (Some s)) ≡ upd (lines_of xs) n (Some (seen s))
lines_set xs n s inside =
    lines_are (slice_set xs n (Some s))
    ∙ (read_set seen_some None xs n (Some s) inside ∙ ap (λ (f : ℕ → Option State). upd f n (Some (seen s))) (sym (lines_are xs)))

-- a certificate with other lines, as many
pub with_lines : (idle ready : Option State) (f g : ℕ → Option State) (m n : ℕ) → f ≡ g → m ≡ n
    → (let c : Certificate = record { idle = idle; ready = ready; at = f; lines = m } in c) ≡ record { idle = idle; ready = ready; at = g; lines = n }
with_lines idle ready f g m n same long =
    let of : (ℕ → Option State) → ℕ → Certificate = λ h k. record { idle = idle; ready = ready; at = h; lines = k } in
    ap (λ h. of h m) same ∙ ap (of g) long
