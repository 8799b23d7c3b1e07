use Rattle.std.proofs.Common.{◌≡◌, ◌∷◌, ◌-◌, ℕ, List, length, take, drop, sym, subst, ◌∙◌, arith}
use Rattle.std.specs.Str.{IsUtf8}
use Rattle.std.proofs.lemmas.List.{take_all}
use Rattle.http_message.proofs.site_file.site_line.Goals as goal

-- what stands behind the space
rest_is : (rest file : List ℕ) → rest ≡ 32 ∷ file → take (length rest - 1) (drop 1 rest) ≡ file
rest_is rest file at = rw at (take_all (length (32 ∷ file) - 1) file (omega arith))

pub returns-in_default-from_utf8 : goal.returns-in_default-from_utf8
returns-in_default-from_utf8 c =
    λ path file n. c.in_default-from_utf8.ensures.cases.0
    (subst (λ (x : List ℕ). IsUtf8 x) (sym (rest_is c.after_token.result.now file (c.after_token.ensures.value ∙ n.file_is))) n.file_text)

pub returns-in_default-from_utf8-2 : goal.returns-in_default-from_utf8-2
returns-in_default-from_utf8-2 c =
    λ path file n. c.in_default-from_utf8-2.ensures.cases.0 (subst (λ (x : List ℕ). IsUtf8 x) (n.path_is ∙ sym c.token.ensures) n.path_text)
