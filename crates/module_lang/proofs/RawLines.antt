-- The lines of code that were read.
use Rattle.std.proofs.Common.{◌≡◌, ℕ, ◌+◌, ◌<◌, true, cond, List, [], ◌∷◌, ◌++◌, length, length-append, Option, Some, None, refl, sym, ◌∙◌, ap, subst, arith}
use Rattle.std.specs.Prelude.{IfSome, is_some, slice_index_or}
use Rattle.std.proofs.Math.ListN.{get_or-append}
use Rattle.std.proofs.Math.Seq.{get_or-append_seam}
use Rattle.byte_text.specs.QuotedTexts as quotes
use Rattle.module_lang.specs.Drafts.{with_line, with_more}
use Rattle.module_lang.specs.Handlers.{op_instr}
use Rattle.module_code.specs.Names.{is_name}
use Rattle.module_code.specs.Program.{target, text_of_instr}
use Rattle.module_code.specs.Spelling.{operands_of}
use Rattle.module_lang.specs.Texts.{step, code_text}
use Rattle.module_lang.specs.declared.draft.HandlerLines.{HandlerLines}
use Rattle.module_lang.specs.declared.draft.Label.{Label}
use Rattle.module_lang.specs.declared.draft.DraftStep.{DraftStep}
use Rattle.module_lang.proofs.SpellingLaws.{padded}

-- a line of code that was read: a label and its name, or an instruction, the name of its target, and its text as it is
-- spelled
pub data Raw : Type 0 where
  marked : Label → List ℕ → Raw
  did : DraftStep → List ℕ → List ℕ → Raw

abbrev pub raw_text : Raw → List ℕ
raw_text (marked l name) = 58 ∷ name
raw_text (did s name w) = code_text (step (op_instr s.op s.operands s.text 0) name w)

abbrev pub raw_labels : List Raw → List Label
raw_labels [] = []
raw_labels (marked l name ∷ rs) = l ∷ raw_labels rs
raw_labels (did s name w ∷ rs) = raw_labels rs

abbrev pub raw_steps : List Raw → List DraftStep
raw_steps [] = []
raw_steps (marked l name ∷ rs) = raw_steps rs
raw_steps (did s name w ∷ rs) = s ∷ raw_steps rs

-- the operands of an instruction, where its target has this name
abbrev pub HasWrittenOperands : DraftStep → List ℕ → Type 0
HasWrittenOperands s name = (k : ℕ) × (s.operands ≡ operands_of (op_instr s.op s.operands s.text 0) (padded name) k)

-- what is known of each line, where n instructions stand before
abbrev pub AreBuilt : ℕ → List Raw → Type 0
AreBuilt n [] = Unit {0}
AreBuilt n (marked l name ∷ rs) = (is_name name ≡ true) × (l.name ≡ padded name) × (l.place ≡ n) × AreBuilt n rs
AreBuilt n (did s name w ∷ rs) = HasWrittenOperands s name × IfSome (target (op_instr s.op s.operands s.text 0)) (λ _. is_name name ≡ true) × AreBuilt (n + 1) rs

-- a handler has these lines
pub record Built (rs : List Raw) (h : HandlerLines) : Type 0 where
  pub labels : h.labels ≡ raw_labels rs
  pub steps : h.steps ≡ raw_steps rs
  pub lines : AreBuilt 0 rs

labels-marked : (rs : List Raw) (l : Label) (name : List ℕ) → raw_labels (rs ++ marked l name ∷ []) ≡ raw_labels rs ++ l ∷ []
labels-marked [] l name = refl
labels-marked (marked x n ∷ rs) l name = ap (λ ys. x ∷ ys) (labels-marked rs l name)
labels-marked (did s n w ∷ rs) l name = labels-marked rs l name

steps-marked : (rs : List Raw) (l : Label) (name : List ℕ) → raw_steps (rs ++ marked l name ∷ []) ≡ raw_steps rs
steps-marked [] l name = refl
steps-marked (marked x n ∷ rs) l name = steps-marked rs l name
steps-marked (did s n w ∷ rs) l name = ap (λ ys. s ∷ ys) (steps-marked rs l name)

labels-did : (rs : List Raw) (s : DraftStep) (name w : List ℕ) → raw_labels (rs ++ did s name w ∷ []) ≡ raw_labels rs
labels-did [] s name w = refl
labels-did (marked x n ∷ rs) s name w = ap (λ ys. x ∷ ys) (labels-did rs s name w)
labels-did (did t n v ∷ rs) s name w = labels-did rs s name w

steps-did : (rs : List Raw) (s : DraftStep) (name w : List ℕ) → raw_steps (rs ++ did s name w ∷ []) ≡ raw_steps rs ++ s ∷ []
steps-did [] s name w = refl
steps-did (marked x n ∷ rs) s name w = steps-did rs s name w
steps-did (did t n v ∷ rs) s name w = ap (λ ys. t ∷ ys) (steps-did rs s name w)

built-marked : (n : ℕ) (rs : List Raw) (l : Label) (name : List ℕ) → AreBuilt n rs → is_name name ≡ true → l.name ≡ padded name → l.place ≡ n + length (raw_steps rs)
    → AreBuilt n (rs ++ marked l name ∷ [])
built-marked n [] l name h v p q = (v, p, omega (arith, q), tt)
built-marked n (marked x m ∷ rs) l name h v p q = (h.0, h.1, h.2, built-marked n rs l name h.3 v p q)
built-marked n (did s m w ∷ rs) l name h v p q = (h.0, h.1, built-marked (n + 1) rs l name h.2 v p (omega (arith, q)))

built-did : (n : ℕ) (rs : List Raw) (s : DraftStep) (name w : List ℕ) → AreBuilt n rs → HasWrittenOperands s name → IfSome (target (op_instr s.op s.operands s.text 0)) (λ _. is_name name ≡ true)
    → AreBuilt n (rs ++ did s name w ∷ [])
built-did n [] s name w h e v = (e, v, tt)
built-did n (marked x m ∷ rs) s name w h e v = (h.0, h.1, h.2, built-did n rs s name w h.3 e v)
built-did n (did t m u ∷ rs) s name w h e v = (h.0, h.1, built-did (n + 1) rs s name w h.2 e v)

-- the text of an instruction is one of these, and is spelled so
abbrev pub IsTexted : List (List ℕ) → DraftStep → List ℕ → Type 0
IsTexted ts s w = IfSome (text_of_instr (op_instr s.op s.operands s.text 0)) (λ t. (t < length ts) × quotes.Spells w (slice_index_or ts t []))

abbrev pub AreTexted : List (List ℕ) → List Raw → Type 0
AreTexted ts [] = Unit {0}
AreTexted ts (marked l name ∷ rs) = AreTexted ts rs
AreTexted ts (did s name w ∷ rs) = IsTexted ts s w × AreTexted ts rs

pub texted-more : (ts us : List (List ℕ)) (rs : List Raw) → AreTexted ts rs → AreTexted (ts ++ us) rs
texted-more ts us [] h = tt
texted-more ts us (marked l name ∷ rs) h = texted-more ts us rs h
texted-more ts us (did s name w ∷ rs) h = (one (text_of_instr (op_instr s.op s.operands s.text 0)) h.0, texted-more ts us rs h.1)
  where
    one : (o : Option ℕ) → IfSome o (λ t. (t < length ts) × quotes.Spells w (slice_index_or ts t [])) → IfSome o (λ t. (t < length (ts ++ us)) × quotes.Spells w (slice_index_or (ts ++ us) t []))
    one None x = tt
    one (Some t) x =
        let size = length-append ts us in
        (omega (arith, size, x.0), subst (λ y. quotes.Spells w y) (sym (get_or-append ts us [] t x.0)) x.1)

pub texted-marked : (ts : List (List ℕ)) (rs : List Raw) (l : Label) (name : List ℕ) → AreTexted ts rs → AreTexted ts (rs ++ marked l name ∷ [])
texted-marked ts [] l name h = tt
texted-marked ts (marked x n ∷ rs) l name h = texted-marked ts rs l name h
texted-marked ts (did s n w ∷ rs) l name h = (h.0, texted-marked ts rs l name h.1)

pub texted-did : (ts : List (List ℕ)) (rs : List Raw) (s : DraftStep) (name w : List ℕ) → AreTexted ts rs → IsTexted ts s w → AreTexted ts (rs ++ did s name w ∷ [])
texted-did ts [] s name w h x = (x, tt)
texted-did ts (marked l n ∷ rs) s name w h x = texted-did ts rs s name w h x
texted-did ts (did t n v ∷ rs) s name w h x = (h.0, texted-did ts rs s name w h.1 x)

-- the text that a line adds
pub text_last : (o : Option ℕ) (n : ℕ) (ts us : List (List ℕ)) (spelled : List ℕ) → o ≡ cond (is_some o) (Some n) None → n ≡ length ts
    → IfSome o (λ _. (w : List ℕ) × (us ≡ w ∷ []) × quotes.Spells spelled w) → IfSome o (λ t. (t < length (ts ++ us)) × quotes.Spells spelled (slice_index_or (ts ++ us) t []))
text_last None n ts us spelled e q h = tt
text_last (Some t) n ts us spelled e q h =
    let same : t ≡ n = cc e in
    let size : length (ts ++ us) ≡ length ts + 1 = ap (λ y. length (ts ++ y)) h.1 ∙ length-append ts (h.0 ∷ []) in
    let at : slice_index_or (ts ++ us) t [] ≡ h.0 = ap (λ y. slice_index_or (ts ++ y) t []) h.1 ∙ ap (λ k. slice_index_or (ts ++ h.0 ∷ []) k []) (same ∙ q) ∙ get_or-append_seam ts h.0 [] [] in
    (omega (arith, same, q, size), subst (λ y. quotes.Spells spelled y) (sym at) h.2)

pub label_built : (rs : List Raw) (h : HandlerLines) (n : ℕ) (name : List ℕ) → Built rs h → is_name name ≡ true
    → Built (rs ++ marked (record { line = n; name = padded name; place = length h.steps }) name ∷ []) (with_line h n (padded name))
label_built rs h n name b v =
    let l : Label = record { line = n; name = padded name; place = length h.steps } in
    record {
      labels = ap (λ ls. ls ++ l ∷ []) b.labels ∙ sym (labels-marked rs l name);
      steps = b.steps ∙ sym (steps-marked rs l name);
      lines = built-marked 0 rs l name b.lines v refl (let e = ap length b.steps in omega (arith, e));
    }

pub step_built : (rs : List Raw) (h : HandlerLines) (s : DraftStep) (name w : List ℕ) → Built rs h → HasWrittenOperands s name
    → IfSome (target (op_instr s.op s.operands s.text 0)) (λ _. is_name name ≡ true) → Built (rs ++ did s name w ∷ []) (with_more h s)
step_built rs h s name w b e v = record {
  labels = b.labels ∙ sym (labels-did rs s name w);
  steps = ap (λ ss. ss ++ s ∷ []) b.steps ∙ sym (steps-did rs s name w);
  lines = built-did 0 rs s name w b.lines e v;
}
