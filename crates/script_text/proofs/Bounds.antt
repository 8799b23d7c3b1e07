-- How many modules and lines a head has, line by line.
use Rattle.std.proofs.Common.{◌≡◌, ℕ, ◌+◌, ◌^◌, ◌<◌, ◌≤◌, Bool, true, false, if◌then◌else◌, nat_lt, ◌&&◌, List, [], ◌∷◌, length, Option, Some, None, Result, Ok, Err, MatchBool, refl, ap, sym, subst}
use Rattle.std.proofs.Common.{◌∙◌, arith}
use Rattle.std.proofs.lemmas.List.{length_push}
use Rattle.std.proofs.lemmas.Bool.Decides.{nat_tests}
use Rattle.module_code.specs.Program.{Program}
use Rattle.byte_text.specs.TextLines.{RawLine}
use Rattle.module_lang.specs.declared.refusal.AsmRefusal.{AsmRefusal}
use Rattle.module_lang.specs.declared.refusal.AsmRefusal.TheVariants as asm
use Rattle.life_check.specs.declared.cert.Cert.{Cert}
use Rattle.life_cert.specs.declared.refusal.CertRefusal.{CertRefusal}
use Rattle.life_cert.specs.declared.refusal.CertRefusal.TheVariants as cert
use Rattle.script_text.specs.declared.texts.HeadPlace.{HeadPlace}
use Rattle.script_text.specs.declared.texts.HeadPlace.TheVariants as place
use Rattle.script_text.specs.declared.texts.LineTaken.{LineTaken}
use Rattle.script_text.specs.declared.texts.LineTaken.TheVariants as taken
use Rattle.script_text.specs.Lines.{is_end, begins_cert}
use Rattle.script_text.specs.Scripts.{budget_at, is_checked}
use Rattle.script_text.specs.Heads.{ScriptPart, ScriptHead, no_head, with_cert, with_line, at_line, more, over, is_skipped, begins_module, goes_on, EndsModule, IsModuleRead, EndsCert, IsCertRead}
use Rattle.script_text.specs.Heads.{TakesInModule, TakesInCert, TakesChecked, TakesHeading, TakesBehind, TakesBehindModule, TakesBehindSkipped, TakesLineAt, TakesLine}
use Rattle.script_text.specs.Bounds.{IsScriptBounded, has_module}

-- What a line leaves. The commands may begin where a module was read, and nothing is told of that.
abbrev pub HeadKept : ℕ → LineTaken → List ℕ → ScriptHead → Type 0
HeadKept n taken.More told new = IsScriptBounded n new
HeadKept n taken.Over told new = Unit {0}
HeadKept n taken.Checked told new = IsScriptBounded n new × (has_module new.place ≡ true) × (told ≡ [])
HeadKept n taken.Command told new = IsScriptBounded n new × (has_module new.place ≡ true) × (told ≡ [])

pub none_bounded : IsScriptBounded 0 no_head
none_bounded = record { few = omega arith; room = λ _. omega arith; before = omega arith; small = omega arith; some = λ e. absurd (cc e) }

either : (b : Bool) {P Q R : Type 0} → (b ≡ true → P → R) → (b ≡ false → Q → R) → MatchBool b P Q → R
either true f g m = f refl m
either false f g m = g refl m

more_kept : (n : ℕ) (h new : ScriptHead) (t : LineTaken) (out : List ℕ) → IsScriptBounded n h → more h t out new → HeadKept n t out new
more_kept n h new t out b m = subst (λ x. HeadKept n x out new) (sym m.0) (subst (IsScriptBounded n) (sym m.2) b)

over_kept : (n : ℕ) (line : List ℕ) (t : LineTaken) (out : List ℕ) (new : ScriptHead) → over line t out new → HeadKept n t out new
over_kept n line t out new m = subst (λ x. HeadKept n x out new) (sym m.0) tt

-- A module text ends where there is room.
module_kept : (n : ℕ) (h : ScriptHead) (t : LineTaken) (out : List ℕ) (new : ScriptHead) → length h.parts < 16 → (h.before ≤ n) × (h.before < 2 ^ 63) → EndsModule h t out new → HeadKept n t out new
module_kept n h t out new room before e = by e.0 e.2
  where
    by : (m : Result Program AsmRefusal) → IsModuleRead m h t out new → HeadKept n t out new
    by (Ok p) m =
        let long = length_push h.parts (let x : ScriptPart = record { code = p; cert = None } in x) in
        more_kept n _ new t out (record { few = omega (arith, long); room = λ e. absurd (cc e); before = before.0; small = before.1; some = λ _. omega (arith, long) }) m
    by (Err (asm.Fault k c)) m = over_kept n _ t out new m
    by (Err asm.NoMemory) m = absurd m

with_cert_long : (c : Cert) (xs : List ScriptPart) → length (with_cert c xs) ≡ length xs
unfolding with_cert
with_cert_long c [] = refl
with_cert_long c (x ∷ []) = refl
with_cert_long c (x ∷ (y ∷ ys)) = let e = with_cert_long c (y ∷ ys) in omega (arith, e)

cert_kept : (n : ℕ) (h : ScriptHead) (t : LineTaken) (out : List ℕ) (new : ScriptHead) → 0 < length h.parts → length h.parts ≤ 16 → (h.before ≤ n) × (h.before < 2 ^ 63) → EndsCert h t out new
    → HeadKept n t out new
cert_kept n h t out new some few before e = by e.0 e.2
  where
    by : (m : Result Cert CertRefusal) → IsCertRead m h t out new → HeadKept n t out new
    by (Ok c) m =
        let long = with_cert_long c h.parts in
        more_kept n _ new t out (record { few = omega (arith, long); room = λ e. absurd (cc e); before = before.0; small = before.1; some = λ _. omega (arith, long) }) m
    by (Err (cert.Fault k c)) m = over_kept n _ t out new m
    by (Err cert.NoMemory) m = absurd m

in_module_kept : (n : ℕ) (l : RawLine) (h : ScriptHead) (t : LineTaken) (out : List ℕ) (new : ScriptHead) → length h.parts < 16 → (h.before ≤ n) × (h.before < 2 ^ 63) → TakesInModule l h t out new
    → HeadKept n t out new
in_module_kept n l h t out new room before m =
    let read : IsScriptBounded n (with_line l place.InModule h) = record { few = omega (arith, room); room = λ _. room; before = before.0; small = before.1; some = λ e. absurd (cc e) } in
    either (is_end l) (λ _ e. module_kept n (with_line l place.InModule h) t out new room before e) (λ _ e. more_kept n _ new t out read e) m

in_cert_kept : (n : ℕ) (l : RawLine) (h : ScriptHead) (t : LineTaken) (out : List ℕ) (new : ScriptHead) → 0 < length h.parts → length h.parts ≤ 16 → (h.before ≤ n) × (h.before < 2 ^ 63)
    → TakesInCert l h t out new → HeadKept n t out new
in_cert_kept n l h t out new some few before m =
    let read : IsScriptBounded n (with_line l place.InCert h) = record { few = few; room = λ e. absurd (cc e); before = before.0; small = before.1; some = λ _. some } in
    either (is_end l) (λ _ e. cert_kept n (with_line l place.InCert h) t out new some few before e) (λ _ e. more_kept n _ new t out read e) m

checked_kept : (n : ℕ) (l : RawLine) (h : ScriptHead) (t : LineTaken) (out : List ℕ) (new : ScriptHead) → has_module h.place ≡ true → IsScriptBounded n h → TakesChecked l h t out new
    → HeadKept n t out new
checked_kept n l h t out new some b m = subst (λ x. HeadKept n x out new) (sym m.0) (by (is_checked l) (
  subst (IsScriptBounded n) (sym m.2) b,
  ap (λ
      (x : ScriptHead). has_module x.place) m.2 ∙ some,
  m.1,
))
  where
    by : (c : Bool) → IsScriptBounded n new × (has_module new.place ≡ true) × (out ≡ []) → HeadKept n (if c then taken.Checked else taken.Command) out new
    by true k = k
    by false k = k

heading_kept : (n : ℕ) (o : Option ℕ) (l : RawLine) (h : ScriptHead) (t : LineTaken) (out : List ℕ) (new : ScriptHead) → has_module h.place ≡ true → IsScriptBounded n h → TakesHeading o l h t out new
    → HeadKept n t out new
heading_kept n None l h t out new some b m = checked_kept n l h t out new some b m
heading_kept n (Some k) l h t out new some b m =
    more_kept n _ new t out (record { few = b.few; room = λ e. absurd (cc e); before = b.before; small = b.small; some = λ _. b.some some }) m

-- a further module text is begun only where there is room
has_room : (l : RawLine) (h : ScriptHead) → goes_on l h ≡ true → length h.parts < 16
has_room l h e = by (begins_module l) e
  where
    by : (b : Bool) → (nat_lt (length h.parts) 16 && b) ≡ true → length h.parts < 16
    by b e = grind (arith, nat_tests)

skipped_bounded : (n : ℕ) (l : RawLine) (h : ScriptHead) → 0 < length h.parts → IsScriptBounded n h → IsScriptBounded n (with_line l place.BehindSkipped h)
skipped_bounded n l h some b = record { few = b.few; room = λ e. absurd (cc e); before = b.before; small = b.small; some = λ _. some }

behind_kept : (n : ℕ) (l : RawLine) (h : ScriptHead) (t : LineTaken) (out : List ℕ) (new : ScriptHead) → has_module h.place ≡ true → IsScriptBounded n h → TakesBehind l h t out new
    → HeadKept n t out new
behind_kept n l h t out new some b m =
    either (is_skipped l) (λ _ e. more_kept n _ new t out (skipped_bounded n l h (b.some some) b) e)
    (λ _ e. either (goes_on l h) (λ g x. in_module_kept n l h t out new (has_room l h g) (b.before, b.small) x) (λ _ x. heading_kept n (budget_at l) l h t out new some b x) e) m

behind_module_kept : (n : ℕ) (l : RawLine) (h : ScriptHead) (t : LineTaken) (out : List ℕ) (new : ScriptHead) → has_module h.place ≡ true → IsScriptBounded n h → TakesBehindModule l h t out new
    → HeadKept n t out new
behind_module_kept n l h t out new some b m =
    either (begins_cert l) (λ _ e. in_cert_kept n l h t out new (b.some some) b.few (b.before, b.small) e) (λ _ e. behind_kept n l h t out new some b e) m

behind_skipped_kept : (n : ℕ) (l : RawLine) (h : ScriptHead) (t : LineTaken) (out : List ℕ) (new : ScriptHead) → has_module h.place ≡ true → IsScriptBounded n h → TakesBehindSkipped l h t out new
    → HeadKept n t out new
behind_skipped_kept n l h t out new some b m =
    either (is_skipped l) (λ _ e. more_kept n _ new t out (skipped_bounded n l h (b.some some) b) e)
    (λ _ e. either (goes_on l h) (λ g x. in_module_kept n l h t out new (has_room l h g) (b.before, b.small) x) (λ _ x. over_kept n _ t out new x) e) m

at_bounded : (n : ℕ) (h : ScriptHead) → n < 2 ^ 62 → IsScriptBounded n h → IsScriptBounded (n + 1) (at_line (n + 1) h)
at_bounded n h low b = record { few = b.few; room = b.room; before = omega arith; small = omega (arith, low); some = b.some }

up_bounded : (n : ℕ) (h : ScriptHead) → IsScriptBounded n h → IsScriptBounded (n + 1) h
up_bounded n h b = let before = b.before in record { few = b.few; room = b.room; before = omega (arith, before); small = b.small; some = b.some }

-- A line keeps the bounds.
pub line_kept : (n : ℕ) (l : RawLine) (h : ScriptHead) (t : LineTaken) (out : List ℕ) (new : ScriptHead) → n < 2 ^ 62 → IsScriptBounded n h → TakesLine (n + 1) l h t out new
    → HeadKept (n + 1) t out new
unfolding TakesLine
line_kept n l h t out new low b m = by h.place refl m
  where
    up : IsScriptBounded (n + 1) h
    up = up_bounded n h b

    at : IsScriptBounded (n + 1) (at_line (n + 1) h)
    at = at_bounded n h low b

    by : (p : HeadPlace) → h.place ≡ p → TakesLineAt p (n + 1) l h t out new → HeadKept (n + 1) t out new
    by place.InModule e x = in_module_kept (n + 1) l h t out new (b.room (ap has_module e)) (up.before, up.small) x
    by place.InCert e x = in_cert_kept (n + 1) l h t out new (b.some (ap has_module e)) b.few (up.before, up.small) x
    by place.BehindModule e x = behind_module_kept (n + 1) l (at_line (n + 1) h) t out new (ap has_module e) at x
    by place.BehindCert e x = behind_kept (n + 1) l (at_line (n + 1) h) t out new (ap has_module e) at x
    by place.BehindSkipped e x = behind_skipped_kept (n + 1) l h t out new (ap has_module e) up x
    by place.BehindBudget e x = checked_kept (n + 1) l h t out new (ap has_module e) up x
