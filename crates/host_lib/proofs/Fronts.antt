-- Texts that are read one after another.
use Rattle.std.proofs.Common.{◌≡◌, ◌⊎◌, ℕ, zero, suc, ◌+◌, ◌<◌, ◌≤◌, List, [], ◌∷◌, ◌++◌, length, take, drop, Some, inl, inr, refl, sym, ap, ◌∙◌, subst, get_or, length-drop, map, arith}
use Rattle.std.specs.Prelude.{slice_get}
use Rattle.std.specs.List.{sum_by}
use Rattle.std.proofs.Math.Seq.{drop-drop}
use Rattle.std.proofs.lemmas.List.{map-append, length-map}
use Rattle.std.proofs.lemmas.List.Sums.{sum_by_more, sum_by-take-le}
use Rattle.std.proofs.lemmas.Option.{slice_get_within, slice_get-get_or, get_or_from_slice_get}
use Rattle.script_text.specs.Heads.{ScriptPart, seen_part}
use Rattle.script_text.specs.declared.part.ScriptModule.{ScriptModule}
use Rattle.host_lib.specs.declared.loading.TextLengths.{TextLengths}
use Rattle.host_lib.specs.Texts.{AreFront, FitTexts, IsPartOf, IsTextsAt, PartText, both_of, start_of, texts_from}

-- one of these, or the last
pub get_split : {X : Type 0} (xs : List X) (y : X) (i : ℕ) (z : X) → slice_get (xs ++ y ∷ []) i ≡ Some z → (slice_get xs i ≡ Some z) ⊎ ((i ≡ length xs) × (y ≡ z))
get_split [] y zero z e = inr (refl, (cc))
get_split [] y (suc i) z e = absurd (cc)
get_split (x ∷ xs) y zero z e = inl e
get_split (x ∷ xs) y (suc i) z e = elim (get_split xs y i z e) [ inl there ↦ inl there | inr last ↦ inr (ap suc last.0, last.1) ]

-- One more is read.
pub front_more : (texts : List ℕ) (lengths : List TextLengths) (parts : List ScriptPart) (part : ScriptPart) → AreFront texts lengths parts
    → ((t : PartText) × IsTextsAt texts lengths (length parts) t × IsPartOf t part) → AreFront texts lengths (parts ++ part ∷ [])
front_more texts lengths parts part front last = record {
  each = λ k other e. elim (get_split parts part k other e) [
    | inl there ↦ front.each k other there
    | inr same ↦ (
        let P : ℕ → ScriptPart → Type 0 = λ n x. (t : PartText) × IsTextsAt texts lengths n t × IsPartOf t x in
        subst (λ (n : ℕ). P n other) (sym same.0) (subst (P (length parts)) same.1 last))
  ];
}

pub seen_count : (parts : List ScriptModule) (k : ℕ) → length parts ≡ k → length (map seen_part parts) ≡ k
seen_count parts k e = length-map parts seen_part ∙ e

pub front_pushed : (texts : List ℕ) (lengths : List TextLengths) (old new : List ScriptModule) (x : ScriptModule) (k : ℕ) (t : PartText) → new ≡ old ++ x ∷ [] → length old ≡ k
    → AreFront texts lengths (map seen_part old) → IsTextsAt texts lengths k t → IsPartOf t (seen_part x) → AreFront texts lengths (map seen_part new)
front_pushed texts lengths old new x k t is count front at read = (
    let more = front_more texts lengths (map seen_part old) (seen_part x) front (t, subst (λ (n : ℕ). IsTextsAt texts lengths n t) (sym (seen_count old k count)) at, read) in
    let e : map seen_part new ≡ map seen_part old ++ seen_part x ∷ [] = ap (map seen_part) is ∙ map-append seen_part old (x ∷ []) in
    subst (AreFront texts lengths) (sym e) more)

module _ (lengths : List TextLengths) (k : ℕ) (each : TextLengths) (at : slice_get lengths k ≡ Some each) where
  pub start_more : start_of lengths (k + 1) ≡ start_of lengths k + (each.text + each.certificate)
  start_more = (let e = sum_by_more both_of lengths k each (slice_get_within lengths k each at) in let f = get_or_from_slice_get lengths k each each at in
      subst (λ (x : TextLengths). start_of lengths (k + 1) ≡ start_of lengths k + both_of x) f e)

  -- both texts lie within all of them
  pub start_fits : (texts : List ℕ) → FitTexts texts lengths → start_of lengths k + (each.text + each.certificate) ≤ length texts
  start_fits texts fit = (let e = start_more in let most = sum_by-take-le both_of lengths (k + 1) in omega (arith, e, most, fit))

  pub total_more : start_of lengths k + (each.text + each.certificate) ≤ sum_by both_of lengths
  total_more = (let e = start_more in let most = sum_by-take-le both_of lengths (k + 1) in omega (arith, e, most))

module _ (texts : List ℕ) (lengths : List TextLengths) (k : ℕ) (d : TextLengths) (within : k < length lengths) (rest : List ℕ) (is : rest ≡ drop (start_of lengths k) texts) where
  -- both texts of the next module are there
  pub next_fits : FitTexts texts lengths → both_of (get_or lengths k d) ≤ length rest
  next_fits fit = (
      let all = start_fits lengths k (get_or lengths k d) (slice_get-get_or lengths k d within) texts fit in
      let left : length rest ≡ length (drop (start_of lengths k) texts) = ap length is in
      let much = length-drop (start_of lengths k) texts in
      omega (arith, all, left, much))

  pub next_at : IsTextsAt texts lengths k (texts_from rest (get_or lengths k d))
  next_at = (get_or lengths k d, slice_get-get_or lengths k d within, ap (λ (xs : List ℕ). texts_from xs (get_or lengths k d)) is)

  pub next_rest : (behind : List ℕ) → behind ≡ drop (both_of (get_or lengths k d)) rest → behind ≡ drop (start_of lengths (k + 1)) texts
  next_rest behind e = (
      let each = get_or lengths k d in let n = both_of each in
      let more : start_of lengths (k + 1) ≡ start_of lengths k + n = start_more lengths k each (slice_get-get_or lengths k d within) in
      e ∙ (ap (drop n) is ∙ (drop-drop n (start_of lengths k) texts ∙ ap (λ (m : ℕ). drop m texts) (sym more))))
