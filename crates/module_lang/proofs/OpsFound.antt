-- Instructions that were read, as they were spelled.
use Rattle.std.proofs.Common.{◌≡◌, ℕ, true, List, [], ◌∷◌, ◌++◌, length, sym, ◌∙◌, ap, subst}
use Rattle.std.specs.Prelude.{IfSome}
use Rattle.module_code.specs.Args.{args, first_some, names_target, names_text}
use Rattle.module_lang.specs.Entries.{from_quote, step_texts}
use Rattle.module_lang.specs.Handlers.{op_instr}
use Rattle.module_code.specs.Names.{is_name}
use Rattle.module_code.specs.Program.{target, text_of_instr}
use Rattle.module_code.specs.Spelling.{operands_of}
use Rattle.byte_text.specs.QuotedTexts as quotes
use Rattle.module_lang.specs.Texts.{step, args_texts, code_text, operands_text}
use Rattle.module_code.specs.Words.{op_text, word_kinds, word_text}
use Rattle.module_code.specs.declared.arg.Args.{Args}
use Rattle.module_lang.specs.declared.draft.Draft.{Draft}
use Rattle.module_code.specs.declared.operand.Operands.{Operands}
use Rattle.module_code.specs.declared.word.Op.{Op}
use Rattle.module_code.specs.declared.word.Word.TheVariants as word
use Rattle.module_lang.proofs.ArgLaws.{args_of_read, parts_in}
use Rattle.module_lang.proofs.ArgsFound.{ops_found, texted, written_as}
use Rattle.module_lang.proofs.InverseLaws.{WordLine}
use Rattle.module_lang.proofs.SpellingLaws.{padded}

-- an instruction that was read, as it was spelled, where so many texts stand before it
pub record OpSpelled (i : Op) (o : Operands) (x : ℕ) (s : List ℕ) : Type 0 where
  pub name : List ℕ
  pub text : List ℕ
  pub len : ℕ
  pub spelled : s ≡ code_text (step (op_instr i o x 0) name text)
  pub same : o ≡ operands_of (op_instr i o x 0) (padded name) len
  pub named : IfSome (target (op_instr i o x 0)) (λ _. is_name name ≡ true)
  pub texted : (bytes : List ℕ) → from_quote bytes ≡ from_quote s → IfSome (text_of_instr (op_instr i o x 0)) (λ _. (w : List ℕ) × (step_texts o bytes ≡ w ∷ []) × quotes.Spells text w)

pub op_spelled : (d : Draft) (s : List ℕ) (i : Op) (o : Operands) (x : ℕ) → WordLine d s (word.Op i) o → OpSpelled i o x s
unfolding word_text word_kinds
op_spelled d s i o x h =
    let f = ops_found i o x h.rest h.read in
    let a = args_of_read i o x 0 in
    let w = ap (λ (z : Op × Args). z.0) (parts_in i o x 0) in
    record {
      name = f.name;
      text = f.spelled;
      len = length f.text;
      spelled = h.spelled ∙ ap (λ r. op_text i ++ r) f.whole ∙ ap (λ y. op_text i ++ operands_text (args_texts y f.name f.spelled)) (sym a)
          ∙ ap (λ y. op_text y ++ operands_text (args_texts (args (op_instr i o x 0)) f.name f.spelled)) (sym w);
      same = f.same ∙ ap (λ (y : Args). written_as y (padded f.name) (length f.text)) (sym a);
      named = subst (λ (y : Args). IfSome (first_some (names_target y.first) (names_target y.second) (names_target y.third) (names_target y.fourth)) (λ _. is_name f.name ≡ true)) (sym a) f.named;
      texted = λ bytes e. subst (λ (y : Args). IfSome (first_some (names_text y.first) (names_text y.second) (names_text y.third) (names_text y.fourth))
          (λ _. (w : List ℕ) × (step_texts o bytes ≡ w ∷ []) × quotes.Spells f.spelled w)) (sym a) (texted i o x h.rest f bytes (e ∙ ap from_quote h.spelled));
    }
