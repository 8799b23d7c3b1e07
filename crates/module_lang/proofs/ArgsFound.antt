-- Operands that were read, as they were spelled.
use Rattle.std.proofs.Common.{◌≡◌, ℕ, Bool, true, false, ◌||◌, List, [], ◌∷◌, ◌++◌, length, drop, Option, Some, None, Ok, refl, sym, ◌∙◌, ap, append-nil}
use Rattle.std.specs.Prelude.{IfSome}
use Rattle.std.proofs.lemmas.Bool.{ltb-true, or_parts}
use Rattle.std.proofs.lemmas.List.{drop_at}
use Rattle.module_code.specs.Args.{first_some, names_target, names_text, or_else}
use Rattle.byte_text.specs.Bytes.{tail}
use Rattle.module_lang.specs.Entries.{from_quote, step_texts}
use Rattle.module_lang.specs.Handlers.{arg_in, args_in}
use Rattle.module_lang.specs.Lines.{has_text, is_text_operand}
use Rattle.module_code.specs.Names.{is_name}
use Rattle.module_lang.specs.Operands.{after_operand, of_kind, operand_at, operand_kind_is_nothing, operand_kind_is_text, operands_at}
use Rattle.byte_text.specs.Quoted.{quoted, text_of}
use Rattle.module_code.specs.Spelling.{operand_of}
use Rattle.byte_text.specs.QuotedTexts as quotes
use Rattle.module_lang.specs.Texts.{arg_texts, args_texts, operands_text}
use Rattle.module_code.specs.Words.{op_kinds, op_text}
use Rattle.module_code.specs.declared.arg.Args.{Args}
use Rattle.module_code.specs.declared.instr.PoolRef.TheVariants as pool
use Rattle.module_code.specs.declared.instr.Value.TheVariants as value
use Rattle.module_code.specs.declared.operand.Operand.{Operand}
use Rattle.module_code.specs.declared.operand.Operand.TheVariants as operand
use Rattle.module_code.specs.declared.operand.Operands.{Operands}
use Rattle.module_code.specs.declared.word.OperandKind.{OperandKind}
use Rattle.module_code.specs.declared.word.OperandKind.TheVariants as kind
use Rattle.module_code.specs.declared.word.Op.{Op}
use Rattle.module_code.specs.declared.word.Op.TheVariants as op
use Rattle.module_lang.proofs.ArgLaws.{is_label, is_version, op_formed, picked}
use Rattle.module_lang.proofs.InverseLaws.{SpellsOperand, own_is, read_token, text_behind, text_taken, token_spelled, token_unquoted}
use Rattle.module_lang.proofs.OperandLaws.{chain, kinds_read, made, read_kind}
use Rattle.byte_text.proofs.QuoteFound.{quoted_found}
use Rattle.module_lang.proofs.QuoteLaws.{quote_behind, unquoted}
use Rattle.byte_text.proofs.QuoteAgain.{quoted_again}
use Rattle.module_lang.proofs.SpellingLaws.{padded}

-- An operand that was read is spelled in front of what follows: a label by its name, a text by its spelling.
pub record OperandFound (k : OperandKind) (rest : List ℕ) (o : Operand) (x : ℕ) : Type 0 where
  pub name : List ℕ
  pub spelled : List ℕ
  pub text : List ℕ
  pub whole : (n s : List ℕ) (os : List (List ℕ)) → (is_label k ≡ true → n ≡ name) → (operand_kind_is_text k ≡ true → s ≡ spelled) → after_operand k rest ≡ operands_text os
      → rest ≡ operands_text (arg_texts (arg_in k o x 0) n s ++ os)
  pub same : (n : List ℕ) (len : ℕ) → (is_label k ≡ true → n ≡ name) → (operand_kind_is_text k ≡ true → len ≡ length text) → o ≡ operand_of (arg_in k o x 0) (padded n) len
  pub named : is_label k ≡ true → is_name name ≡ true
  pub right : operand_kind_is_text k ≡ true → quotes.Spells spelled text × (o ≡ operand.Text (length text))
  pub at : operand_kind_is_text k ≡ true → from_quote rest ≡ spelled ++ after_operand k rest
  pub bare : operand_kind_is_text k ≡ false → from_quote rest ≡ from_quote (after_operand k rest)

-- a token that was read spells the operand of the instruction
token_found : (k : OperandKind) (t : List ℕ) (o : Operand) (x : ℕ) → is_version k ≡ false → of_kind k o ≡ true → SpellsOperand o t → (n s : List ℕ) (len : ℕ) → (is_label k ≡ true → n ≡ t)
    → (arg_texts (arg_in k o x 0) n s ≡ t ∷ []) × (o ≡ operand_of (arg_in k o x 0) (padded n) len)
token_found kind.One t o x v d h n s len l = absurd (cc v)
token_found kind.Nothing t operand.Nothing x v d h n s len l = absurd h
token_found kind.Text t (operand.Text m) x v d h n s len l = absurd h
token_found kind.Place t (operand.Place p) x v d h n s len l = (ap (λ y. y ∷ []) (sym h), refl)
token_found kind.Pool t (operand.Place (pool.Own i)) x v d h n s len l = (ap (λ y. y ∷ []) (sym h), refl)
token_found kind.Brigade t (operand.Brigade b) x v d h n s len l = (ap (λ y. y ∷ []) (own_is b (ltb-true b 8 d) ∙ sym h), refl)
token_found kind.Source t (operand.Brigade b) x v d h n s len l = (ap (λ y. y ∷ []) (sym h), refl)
token_found kind.Ending t (operand.Ending e) x v d h n s len l = (ap (λ y. y ∷ []) (sym h), refl)
token_found kind.Label t (operand.Label m) x v d h n s len l = (ap (λ y. y ∷ []) (l refl), ap operand.Label (h.1 ∙ ap padded (sym (l refl))))
token_found kind.Variable t (operand.Place (pool.Own i)) x v d h n s len l = (ap (λ y. y ∷ []) (sym h), refl)
token_found kind.Variable t (operand.Brigade b) x v d h n s len l = (ap (λ y. y ∷ []) (own_is b (ltb-true b 8 d) ∙ sym h), refl)
token_found kind.Number t (operand.Value (value.Number i)) x v d h n s len l = (ap (λ y. y ∷ []) (sym h.0), refl)
token_found kind.Value t (operand.Value y) x v d h n s len l = (ap (λ y. y ∷ []) (sym h.0), refl)
token_found kind.Cursor t (operand.Cursor i) x v d h n s len l = (ap (λ y. y ∷ []) (sym h.0), refl)
token_found kind.KindTest t (operand.KindTest k) x v d h n s len l = (ap (λ y. y ∷ []) (sym h), refl)
token_found _ t _ x v d h n s len l = absurd (cc d)

label_named : (k : OperandKind) (t : List ℕ) (o : Operand) → of_kind k o ≡ true → SpellsOperand o t → is_label k ≡ true → is_name t ≡ true
label_named kind.Label t (operand.Label m) d h l = h.0
label_named kind.Label t _ d h l = absurd (cc d)
label_named _ t o d h l = absurd (cc l)

bare_found : (k : OperandKind) (rest : List ℕ) (o : Operand) (x : ℕ) → is_version k ≡ false → operand_kind_is_nothing k ≡ false → operand_kind_is_text k ≡ false → operand_at k rest ≡ Ok o
    → OperandFound k rest o x
bare_found k rest o x v n q h =
    let y = read_token k rest o n q h in
    let d = read_kind k rest o h in
    let z = token_spelled k y.token o y.read in
    record {
      name = y.token;
      spelled = [];
      text = [];
      whole = λ m s os l w e. y.spelled ∙ ap (λ r. 32 ∷ (y.token ++ r)) e ∙ ap (λ r. operands_text (r ++ os)) (sym (token_found k y.token o x v d z m s 0 l).0);
      same = λ m len l w. (token_found k y.token o x v d z m [] len l).1;
      named = label_named k y.token o d z;
      right = λ e. absurd (cc (sym q ∙ e));
      at = λ e. absurd (cc (sym q ∙ e));
      bare = λ e. ap from_quote y.spelled ∙ quote_behind y.token (after_operand k rest) (token_unquoted o y.token z);
    }

text_found : (rest : List ℕ) (o : Operand) (x : ℕ) → operand_at kind.Text rest ≡ Ok o → OperandFound kind.Text rest o x
text_found rest o x h =
    let t = text_taken rest o h in
    let z = quoted_found (tail rest) t.quote t.read in
    let w = z.0.spelled in
    let behind : after_operand kind.Text rest ≡ z.0.rest = text_behind rest t.quote t.read ∙ ap (λ m. drop m (tail rest)) z.1 ∙ ap (drop (length w)) z.0.whole ∙ drop_at w z.0.rest (length w) refl in
    let whole : rest ≡ 32 ∷ (w ++ after_operand kind.Text rest) = t.spaced ∙ ap (λ y. 32 ∷ y) (z.0.whole ∙ ap (λ y. w ++ y) (sym behind)) in
    record {
      name = [];
      spelled = w;
      text = t.quote.text;
      whole = λ m s os l e q. whole ∙ ap (λ y. 32 ∷ (w ++ y)) q ∙ ap (λ y. 32 ∷ (y ++ operands_text os)) (sym (e refl));
      same = λ m len l e. t.len ∙ ap operand.Text (sym (e refl));
      named = λ e. absurd (cc e);
      right = λ e. (z.0.right, t.len);
      at = λ e. ap from_quote whole ∙ rw z.0.right.whole refl;
      bare = λ e. absurd (cc e);
    }

none_found : (rest : List ℕ) (o : Operand) (x : ℕ) → operand_at kind.Nothing rest ≡ Ok o → OperandFound kind.Nothing rest o x
unfolding operand_at after_operand
none_found rest o x h =
    let e : operand.Nothing ≡ o = cc h in
    record {
      name = [];
      spelled = [];
      text = [];
      whole = λ m s os l w q. q;
      same = λ m len l w. sym e;
      named = λ e. absurd (cc e);
      right = λ e. absurd (cc e);
      at = λ e. absurd (cc e);
      bare = λ e. refl;
    }

pub found : (k : OperandKind) (rest : List ℕ) (o : Operand) (x : ℕ) → is_version k ≡ false → operand_at k rest ≡ Ok o → OperandFound k rest o x
found kind.Nothing rest o x v h = none_found rest o x h
found kind.Text rest o x v h = text_found rest o x h
found kind.One rest o x v h = absurd (cc v)
found kind.Place rest o x v h = bare_found kind.Place rest o x v refl refl h
found k rest o x v h = bare_found k rest o x v refl refl h

kind_text : (k : OperandKind) (o : Operand) → of_kind k o ≡ true → is_text_operand o ≡ operand_kind_is_text k
kind_text kind.Text (operand.Text n) h = refl
kind_text kind.Text _ h = absurd (cc h)
kind_text _ (operand.Text n) h = absurd (cc h)
kind_text _ _ h = refl

target_if : (k : OperandKind) (o : Operand) (x t : ℕ) (P : Type 0) → (is_label k ≡ true → P) → IfSome (names_target (arg_in k o x t)) (λ _. P)
target_if kind.Label o x t P h = h refl
target_if _ o x t P h = tt

text_if : (k : OperandKind) (o : Operand) (x t : ℕ) (P : Type 0) → (operand_kind_is_text k ≡ true → P) → IfSome (names_text (arg_in k o x t)) (λ _. P)
text_if kind.Text o x t P h = h refl
text_if _ o x t P h = tt

first_if : (a b c d : Option ℕ) (P : Type 0) → IfSome a (λ _. P) → IfSome b (λ _. P) → IfSome c (λ _. P) → IfSome d (λ _. P) → IfSome (first_some a b c d) (λ _. P)
first_if a b c d P p q r s = both (or_else (or_else a b) c) d (both (or_else a b) c (both a b p q) r) s
  where
    both : (a b : Option ℕ) → IfSome a (λ _. P) → IfSome b (λ _. P) → IfSome (or_else a b) (λ _. P)
    both None b p q = q
    both (Some y) b p q = p

only_second : (a b c d : Bool) → a ≡ false → c ≡ false → d ≡ false → (a || b || c || d) ≡ b
only_second a true c d p q r = rw p refl
only_second a false c d p q r = rw (p, q, r) refl

-- the operands of an instruction as they are written
abbrev pub written_as : Args → List ℕ → ℕ → Operands
written_as a n len = record {
  first = operand_of a.first n len;
  second = operand_of a.second n len;
  third = operand_of a.third n len;
  fourth = operand_of a.fourth n len;
}

-- the operands of an instruction, as they were spelled: one name, and one text behind the first quote
pub record AreFound (i : Op) (o : Operands) (x : ℕ) (rest : List ℕ) : Type 0 where
  pub name : List ℕ
  pub spelled : List ℕ
  pub text : List ℕ
  pub whole : rest ≡ operands_text (args_texts (args_in (op_kinds i) o x 0) name spelled)
  pub same : o ≡ written_as (args_in (op_kinds i) o x 0) (padded name) (length text)
  pub named : IfSome (first_some (names_target (arg_in (op_kinds i).first o.first x 0)) (names_target (arg_in (op_kinds i).second o.second x 0))
      (names_target (arg_in (op_kinds i).third o.third x 0)) (names_target (arg_in (op_kinds i).fourth o.fourth x 0))) (λ _. is_name name ≡ true)
  pub has : has_text o ≡ operand_kind_is_text (op_kinds i).second
  pub right : operand_kind_is_text (op_kinds i).second ≡ true → quotes.Spells spelled text × (o.second ≡ operand.Text (length text))
  pub behind : operand_kind_is_text (op_kinds i).second ≡ true → (word : List ℕ) → unquoted word ≡ true → text_of (quoted (from_quote (word ++ rest))) ≡ Some text

pub ops_found : (i : Op) (o : Operands) (x : ℕ) (rest : List ℕ) → operands_at (op_kinds i) rest ≡ Ok o → AreFound i o x rest
ops_found i o x rest h =
    let k = op_kinds i in
    let c = chain k rest o h in
    let d = kinds_read k rest o h in
    let g = op_formed i in
    let r1 = after_operand k.first rest in
    let r2 = after_operand k.second r1 in
    let r3 = after_operand k.third r2 in
    let v1 = or_parts (is_version k.first || is_version k.second || is_version k.third) (is_version k.fourth) g.versions in
    let v2 = or_parts (is_version k.first || is_version k.second) (is_version k.third) v1.0 in
    let v3 = or_parts (is_version k.first) (is_version k.second) v2.0 in
    let f1 = found k.first rest o.first x v3.0 c.first in
    let f2 = found k.second r1 o.second x v3.1 c.second in
    let f3 = found k.third r2 o.third x v2.1 c.third in
    let f4 = found k.fourth r3 o.fourth x v1.1 c.fourth in
    let n = picked (is_label k.first) (is_label k.second) (is_label k.third) (is_label k.fourth) f1.name f2.name f3.name f4.name g.labels in
    let s = f2.spelled in
    let len = length f2.text in
    let P = is_name n.0 ≡ true in
    let bare : (y z : List ℕ) (b : Bool) → b ≡ false → b ≡ true → y ≡ z = λ y z b p q. absurd (cc (sym p ∙ q)) in
    let size : (y z : ℕ) (b : Bool) → b ≡ false → b ≡ true → y ≡ z = λ y z b p q. absurd (cc (sym p ∙ q)) in
    let a = args_in k o x 0 in
    let t4 = arg_texts a.fourth n.0 s in
    let t3 = arg_texts a.third n.0 s in
    let t2 = arg_texts a.second n.0 s in
    let w4 = f4.whole n.0 s [] n.4 (bare s f4.spelled (operand_kind_is_text k.fourth) g.fourth) c.last ∙ ap operands_text (append-nil t4) in
    let w3 = f3.whole n.0 s t4 n.3 (bare s f3.spelled (operand_kind_is_text k.third) g.third) w4 in
    let w2 = f2.whole n.0 s (t3 ++ t4) n.2 (λ e. refl) w3 in
    let w1 = f1.whole n.0 s (t2 ++ (t3 ++ t4)) n.1 (bare s f1.spelled (operand_kind_is_text k.first) g.first) w2 in
    let p = f1.same n.0 len n.1 (size len (length f1.text) (operand_kind_is_text k.first) g.first) in
    let q = f2.same n.0 len n.2 (λ e. refl) in
    let r = f3.same n.0 len n.3 (size len (length f3.text) (operand_kind_is_text k.third) g.third) in
    let u = f4.same n.0 len n.4 (size len (length f4.text) (operand_kind_is_text k.fourth) g.fourth) in
    record {
      name = n.0;
      spelled = s;
      text = f2.text;
      whole = w1;
      same = λ j. made (p j) (q j) (r j) (u j);
      named = first_if _ _ _ _ P (target_if k.first o.first x 0 P (λ e. ap is_name (n.1 e) ∙ f1.named e)) (target_if k.second o.second x 0 P (λ e. ap is_name (n.2 e) ∙ f2.named e))
          (target_if k.third o.third x 0 P (λ e. ap is_name (n.3 e) ∙ f3.named e)) (target_if k.fourth o.fourth x 0 P (λ e. ap is_name (n.4 e) ∙ f4.named e));
      has = only_second (is_text_operand o.first) (is_text_operand o.second) (is_text_operand o.third) (is_text_operand o.fourth) (kind_text k.first o.first d.first ∙ g.first)
          (kind_text k.third o.third d.third ∙ g.third) (kind_text k.fourth o.fourth d.fourth ∙ g.fourth) ∙ kind_text k.second o.second d.second;
      right = f2.right;
      behind = λ e word free.
          let at : from_quote (word ++ rest) ≡ s ++ r2 = quote_behind word rest free ∙ f1.bare g.first ∙ f2.at e in
          ap (λ y. text_of (quoted y)) at ∙ ap text_of (quoted_again s f2.text r2 (f2.right e).0);
    }

pub word_unquoted : (i : Op) → unquoted (op_text i) ≡ true
word_unquoted op.ClearBuf = refl
word_unquoted _ = refl

-- the text of an instruction is the one in its line
pub texted : (i : Op) (o : Operands) (x : ℕ) (rest : List ℕ) (f : AreFound i o x rest) (bytes : List ℕ) → from_quote bytes ≡ from_quote (op_text i ++ rest)
    → IfSome (first_some (names_text (arg_in (op_kinds i).first o.first x 0)) (names_text (arg_in (op_kinds i).second o.second x 0)) (names_text (arg_in (op_kinds i).third o.third x 0))
    (names_text (arg_in (op_kinds i).fourth o.fourth x 0))) (λ _. (w : List ℕ) × (step_texts o bytes ≡ w ∷ []) × quotes.Spells f.spelled w)
texted i o x rest f bytes e =
    let k = op_kinds i in
    let g = op_formed i in
    let Q : Type 0 = (w : List ℕ) × (step_texts o bytes ≡ w ∷ []) × quotes.Spells f.spelled w in
    let none : (b : Bool) → b ≡ false → b ≡ true → Q = λ b p q. absurd (cc (sym p ∙ q)) in
    let read : operand_kind_is_text k.second ≡ true → text_of (quoted (from_quote bytes)) ≡ Some f.text = λ t. ap (λ y. text_of (quoted y)) e ∙ f.behind t (op_text i) (word_unquoted i) in
    first_if _ _ _ _ Q (text_if k.first o.first x 0 Q (none (operand_kind_is_text k.first) g.first)) (text_if k.second o.second x 0 Q (λ t. (f.text, rw (f.has ∙ t, read t) refl, (f.right t).0)))
    (text_if k.third o.third x 0 Q (none (operand_kind_is_text k.third) g.third)) (text_if k.fourth o.fourth x 0 Q (none (operand_kind_is_text k.fourth) g.fourth))
