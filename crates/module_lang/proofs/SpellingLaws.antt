-- What is spelled is read again: words, operands and lines.
use Rattle.std.proofs.Common.{◌≡◌, ℕ, ◌+◌, ◌-◌, ◌^◌, ◌<◌, ◌≤◌, Bool, true, false, ◌&&◌, ◌||◌, not, cond, eqb, ltb, leb, List, [], ◌∷◌, ◌++◌, length, Option, Some, None, Ok, refl, sym, ◌∙◌, ap}
use Rattle.std.proofs.Common.{append-nil, arith, subst}
use Rattle.std.specs.Prelude.{slice_index, codes, replicate, IfSome}
use Rattle.std.specs.List.{list_all}
use Rattle.std.proofs.lemmas.Bool.{and_parts, not-true, le-leb, eq-eqb, ne_eqb, eqb-true, ltb-true, lt-ltb}
use Rattle.std.proofs.lemmas.List.{take_at, drop_at}
use Rattle.byte_text.specs.Bytes.{token, token_len, after_token, begins}
use Rattle.module_lang.specs.Lines.{item_read, unindented_read, is_due, judged, place_is_declared}
use Rattle.module_code.specs.Program.{Program, fits, target, tests, text_at, text_of_instr}
use Rattle.module_code.specs.Names.{is_letter, is_name, is_name_byte, all_name_bytes, name_of}
use Rattle.module_code.specs.Args.{is_value, args, is_of, names_target, names_text, op_of, or_else}
use Rattle.module_lang.specs.Operands.{numbered, operand_in, operand_at, after_operand, operands_at, operand_kind_is_nothing, operand_kind_is_text}
use Rattle.module_code.specs.Spelling.{number_operand, operand_of, operands_of}
use Rattle.byte_text.specs.QuotedTexts.{Spells}
use Rattle.module_lang.specs.Texts.{arg_texts, place_text, own_text, brigade_text, cursor_text, number_text, status_text, value_text, operands_text, line_text, operand_texts, instr_word, is_skipped}
use Rattle.module_code.specs.Words.{kind_test_text, word_text, word_at, word_kinds, op_kinds, two_operands, one_operand, no_operand}
use Rattle.module_code.specs.declared.arg.Arg.{Arg}
use Rattle.module_code.specs.declared.arg.Arg.TheVariants as arg
use Rattle.module_code.specs.declared.arg.Args.{Args}
use Rattle.module_lang.specs.declared.draft.Draft.{Draft}
use Rattle.module_code.specs.declared.instr.Instr.{Instr}
use Rattle.module_code.specs.declared.instr.Instr.TheVariants as instr
use Rattle.module_code.specs.declared.instr.KindTest.{KindTest}
use Rattle.module_code.specs.declared.instr.KindTest.TheVariants as kind_test
use Rattle.module_code.specs.declared.instr.PoolRef.{PoolRef}
use Rattle.module_code.specs.declared.instr.PoolRef.TheVariants as pool
use Rattle.module_code.specs.declared.instr.Status.{Status}
use Rattle.module_code.specs.declared.instr.Status.TheVariants as status
use Rattle.module_lang.specs.declared.lines.Line.TheVariants as line
use Rattle.module_code.specs.declared.instr.Value.{Value}
use Rattle.module_code.specs.declared.instr.Value.TheVariants as value
use Rattle.module_code.specs.declared.instr.VarRef.TheVariants as variable
use Rattle.module_code.specs.declared.operand.Operand.{Operand}
use Rattle.module_code.specs.declared.operand.Operand.TheVariants as operand
use Rattle.module_code.specs.declared.operand.Operands.{Operands}
use Rattle.module_code.specs.declared.word.OperandKind.{OperandKind}
use Rattle.module_code.specs.declared.word.OperandKind.TheVariants as kind
use Rattle.module_code.specs.declared.word.Op.TheVariants as op
use Rattle.module_code.specs.declared.word.Word.{Word}
use Rattle.module_code.specs.declared.word.Word.TheVariants as word
use Rattle.module_lang.proofs.ArgLaws.{formed}
use Rattle.module_code.proofs.PartsLaws.{split_again}
use Rattle.module_code.proofs.FitLaws.{Every, fits_parts}
use Rattle.byte_text.proofs.NumberLaws.{constant_again, decimal_begins, decimal_without}
use Rattle.byte_text.proofs.QuoteAgain.{quoted_again}

-- no space among these bytes
abbrev pub unspaced : List ℕ → Bool
unspaced bytes = list_all (λ b. not (eqb b 32)) bytes

-- the end, or a space
abbrev pub Stops : List ℕ → Type 0
Stops [] = Unit {0}
Stops (b ∷ bs) = b ≡ 32

len_again : (t rest : List ℕ) → unspaced t ≡ true → Stops rest → token_len (t ++ rest) ≡ length t
len_again [] [] h s = refl
len_again [] (b ∷ bs) h s = rw (eq-eqb b 32 s) refl
len_again (b ∷ bs) rest h s = first (eqb b 32) (len_again bs rest) h
  where
    first : (x : Bool) → (unspaced bs ≡ true → Stops rest → token_len (bs ++ rest) ≡ length bs) → (not x && unspaced bs) ≡ true → cond (not x) (1 + token_len (bs ++ rest)) 0 ≡ length (b ∷ bs)
    first true more h = absurd (cc h)
    first false more h = rw (more h s) (omega arith)

pub token_again : (t rest : List ℕ) → unspaced t ≡ true → Stops rest → token (t ++ rest) ≡ t
unfolding token
token_again t rest h s = rw (len_again t rest h s) (take_at t rest (length t) refl)

pub after_again : (t rest : List ℕ) → unspaced t ≡ true → Stops rest → after_token (t ++ rest) ≡ rest
unfolding after_token
after_again t rest h s = rw (len_again t rest h s) (drop_at t rest (length t) refl)

-- a token that spells an operand of a kind
pub record IsOperand (k : OperandKind) (o : Operand) (t : List ℕ) : Type 0 where
  pub some : operand_kind_is_nothing k ≡ false
  pub bare : operand_kind_is_text k ≡ false
  pub read : operand_in k t ≡ Some o
  pub plain : unspaced t ≡ true

pub operand_again : (k : OperandKind) (o : Operand) (t rest : List ℕ) → IsOperand k o t → Stops rest → operand_at k (32 ∷ (t ++ rest)) ≡ Ok o
unfolding operand_at
operand_again k o t rest h s = rw (h.some, h.bare, token_again t rest h.plain s, h.read) refl

pub behind_again : (k : OperandKind) (o : Operand) (t rest : List ℕ) → IsOperand k o t → Stops rest → after_operand k (32 ∷ (t ++ rest)) ≡ rest
unfolding after_operand
behind_again k o t rest h s = rw (h.some, h.bare) (after_again t rest h.plain s)

none_again : (rest : List ℕ) → operand_at kind.Nothing rest ≡ Ok operand.Nothing
unfolding operand_at
none_again rest = refl

none_behind : (rest : List ℕ) → after_operand kind.Nothing rest ≡ rest
unfolding after_operand
none_behind rest = refl

operands_stop : (os : List (List ℕ)) → Stops (operands_text os)
operands_stop [] = tt
operands_stop (o ∷ os) = refl

abbrev pub operands : Operand → Operand → Operands
operands a b = record { first = a; second = b; third = operand.Nothing; fourth = operand.Nothing }

pub no_operands : operands_at no_operand (operands_text []) ≡ Ok (operands operand.Nothing operand.Nothing)
unfolding operands_at
no_operands = rw (none_again [], none_behind [], none_again [], none_behind [], none_again [], none_behind [], none_again [], none_behind []) refl

pub one_again : (k : OperandKind) (o : Operand) (t : List ℕ) → IsOperand k o t → operands_at (one_operand k) (operands_text (t ∷ [])) ≡ Ok (operands o operand.Nothing)
unfolding operands_at
one_again k o t h = rw (operand_again k o t [] h tt, behind_again k o t [] h tt, none_again [], none_behind [], none_again [], none_behind [], none_again [], none_behind []) refl

pub two_again : (k l : OperandKind) (o q : Operand) (t u : List ℕ) → IsOperand k o t → IsOperand l q u → operands_at (two_operands k l) (operands_text (t ∷ u ∷ [])) ≡ Ok (operands o q)
unfolding operands_at
two_again k l o q t u h j = rw (
  operand_again k o t (operands_text (u ∷ [])) h refl,
  behind_again k o t (operands_text (u ∷ [])) h refl,
  operand_again l q u [] j tt,
  behind_again l q u [] j tt,
  none_again [],
  none_behind [],
  none_again [],
  none_behind [],
) refl

numbered_again : (letter i : ℕ) → i < 8 → numbered letter (letter ∷ (48 + i) ∷ []) ≡ Some i
numbered_again letter i h =
    let low : leb 48 (48 + i) ≡ true = le-leb 48 (48 + i) (omega arith) in
    let high : leb (48 + i) 55 ≡ true = le-leb (48 + i) 55 (omega arith) in
    let same : eqb letter letter ≡ true = eq-eqb letter letter refl in
    let value : 48 + i - 48 ≡ i = omega arith in
    rw (same, low, high, value) refl

digit_plain : (letter i : ℕ) → eqb letter 32 ≡ false → unspaced (letter ∷ (48 + i) ∷ []) ≡ true
digit_plain letter i h = let apart : eqb (48 + i) 32 ≡ false = ne_eqb (48 + i) 32 (λ e. omega arith) in rw (h, apart) refl

pub pool_operand : (i : ℕ) → i < 8 → IsOperand kind.Pool (operand.Place (pool.Own i)) (place_text (pool.Own i))
unfolding operand_in
pool_operand i h = record { some = refl; bare = refl; read = rw (numbered_again 112 i h) refl; plain = digit_plain 112 i refl }

pub place_operand : (q : PoolRef) → place_is_declared 8 q ≡ true → IsOperand kind.Place (operand.Place q) (place_text q)
unfolding operand_in
place_operand pool.Conn h = record { some = refl; bare = refl; read = refl; plain = refl }
place_operand pool.Req h = record { some = refl; bare = refl; read = refl; plain = refl }
place_operand (pool.Own i) h = record { some = refl; bare = refl; read = rw (numbered_again 112 i (ltb-true i 8 h)) refl; plain = digit_plain 112 i refl }

pub own_operand : (b : ℕ) → b < 8 → IsOperand kind.Brigade (operand.Brigade b) (own_text b)
unfolding operand_in
own_operand b h = record { some = refl; bare = refl; read = rw (numbered_again 98 b h) refl; plain = digit_plain 98 b refl }

own_below : (n b : ℕ) → n ≤ 8 → ltb b n ≡ true → b < 8
own_below n b small h = let low = ltb-true b n h in omega arith

pub source_operand : (n b : ℕ) → n ≤ 8 → (ltb b n || eqb b 8) ≡ true → IsOperand kind.Source (operand.Brigade b) (brigade_text b)
unfolding operand_in
source_operand n b small h = either (eqb b 8) refl h
  where
    below : (y : Bool) → ltb b n ≡ y → (y || false) ≡ true → IsOperand kind.Source (operand.Brigade b) (own_text b)
    below true r h = record { some = refl; bare = refl; read = rw (numbered_again 98 b (own_below n b small r)) refl; plain = digit_plain 98 b refl }
    below false r h = absurd (cc h)

    either : (x : Bool) → eqb b 8 ≡ x → (ltb b n || x) ≡ true → IsOperand kind.Source (operand.Brigade b) (cond x (codes "in") (own_text b))
    either true q h = record { some = refl; bare = refl; read = rw (eqb-true b 8 q) refl; plain = refl }
    either false q h = below (ltb b n) refl h

pub ending_operand : (e : Status) → IsOperand kind.Ending (operand.Ending e) (status_text e)
unfolding operand_in
ending_operand status.Success = record { some = refl; bare = refl; read = refl; plain = refl }
ending_operand status.Fail = record { some = refl; bare = refl; read = refl; plain = refl }

-- a name with zeros behind it
abbrev pub padded : List ℕ → List ℕ
padded n = n ++ replicate (16 - length n) 0

-- a byte that no name has
pub name_without : (x : ℕ) → is_name_byte x ≡ false → (n : List ℕ) → list_all is_name_byte n ≡ true → list_all (λ b. not (eqb b x)) n ≡ true
name_without x never [] h = refl
name_without x never (b ∷ bs) h =
    let a = and_parts (is_name_byte b) (list_all is_name_byte bs) h in
    let other : eqb b x ≡ false = ne_eqb b x (λ e. absurd (cc (sym a.0 ∙ ap is_name_byte e ∙ never))) in
    rw (other, name_without x never bs a.1) refl

pub name_plain : (n : List ℕ) → is_name n ≡ true → unspaced n ≡ true
unfolding is_name all_name_bytes
name_plain n h = name_without 32 refl n (and_parts (leb 1 (length n) && leb (length n) 16 && is_letter (slice_index n 0)) (list_all is_name_byte n) h).1

pub name_again : (n : List ℕ) → is_name n ≡ true → name_of n ≡ Some (padded n)
unfolding name_of
name_again n h = rw h refl

pub label_operand : (n : List ℕ) → is_name n ≡ true → IsOperand kind.Label (operand.Label (padded n)) n
unfolding operand_in
label_operand n h = record { some = refl; bare = refl; read = rw (name_again n h) refl; plain = name_plain n h }

-- a text in quotes is read again
pub text_at_again : (s bytes rest : List ℕ) → Spells s bytes → operand_at kind.Text (32 ∷ (s ++ rest)) ≡ Ok (operand.Text (length bytes))
unfolding operand_at
text_at_again s bytes rest h =
    let begun : begins 34 (s ++ rest) ≡ true = rw h.whole refl in
    rw (begun, quoted_again s bytes rest h) refl

pub text_behind : (s bytes rest : List ℕ) → Spells s bytes → after_operand kind.Text (32 ∷ (s ++ rest)) ≡ rest
unfolding after_operand
text_behind s bytes rest h = rw (quoted_again s bytes rest h) (drop_at s rest (length s) refl)

pub own_variable : (i : ℕ) → i < 8 → IsOperand kind.Variable (operand.Place (pool.Own i)) (place_text (pool.Own i))
unfolding operand_in
own_variable i h = record { some = refl; bare = refl; read = rw (numbered_again 112 i h) refl; plain = digit_plain 112 i refl }

pub brigade_variable : (b : ℕ) → b < 8 → IsOperand kind.Variable (operand.Brigade b) (own_text b)
unfolding operand_in
brigade_variable b h = record { some = refl; bare = refl; read = rw (numbered_again 98 b h) refl; plain = digit_plain 98 b refl }

pub number_again : (i : ℕ) → i < 8 → IsOperand kind.Number (number_operand i) (number_text i)
unfolding operand_in
number_again i h = record { some = refl; bare = refl; read = rw (numbered_again 110 i h) refl; plain = digit_plain 110 i refl }

pub value_again : (v : Value) → is_value v ≡ true → IsOperand kind.Value (operand.Value v) (value_text v)
unfolding operand_in
value_again (value.Number i) h = record { some = refl; bare = refl; read = rw (numbered_again 110 i (ltb-true i 8 h)) refl; plain = digit_plain 110 i refl }
value_again (value.Constant k) h =
    let low = ltb-true k (2 ^ 32) h in
    record { some = refl; bare = refl; read = rw (decimal_begins 110 k refl low, constant_again k low) refl; plain = decimal_without 32 k refl low }

pub cursor_again : (i : ℕ) → i < 8 → IsOperand kind.Cursor (operand.Cursor i) (cursor_text i)
unfolding operand_in
cursor_again i h = record { some = refl; bare = refl; read = rw (numbered_again 99 i h) refl; plain = digit_plain 99 i refl }

pub kind_test_again : (k : KindTest) → IsOperand kind.KindTest (operand.KindTest k) (kind_test_text k)
unfolding operand_in
kind_test_again kind_test.Data = record { some = refl; bare = refl; read = refl; plain = refl }
kind_test_again _ = record { some = refl; bare = refl; read = refl; plain = refl }

pub declared_up : (k n : ℕ) (q : PoolRef) → k ≤ n → place_is_declared k q ≡ true → place_is_declared n q ≡ true
declared_up k n pool.Conn le h = refl
declared_up k n pool.Req le h = refl
declared_up k n (pool.Own i) le h = let low = ltb-true i k h in lt-ltb i n (omega arith)

-- the length of the text of a number
abbrev pub text_len : Program → Option ℕ → ℕ
text_len p None = 0
text_len p (Some t) = length (text_at p t)

-- an operand of an instruction, in front of others, is read again
record IsAgain (k : OperandKind) (a : Arg) (n s : List ℕ) (len : ℕ) (os : List (List ℕ)) : Type 0 where
  read : operand_at k (operands_text (arg_texts a n s ++ os)) ≡ Ok (operand_of a (padded n) len)
  behind : after_operand k (operands_text (arg_texts a n s ++ os)) ≡ operands_text os

-- what is known of an operand of an instruction of a program: its tests, the name of a target, and the spelling of a text
pub record IsSaid (p : Program) (a : Arg) (n s : List ℕ) (len : ℕ) : Type 0 where
  pub fit : Every (tests p a)
  pub name : IfSome (names_target a) (λ _. is_name n ≡ true)
  pub text : IfSome (names_text a) (λ t. Spells s (text_at p t) × (len ≡ length (text_at p t)))

arg_again : (p : Program) (k : OperandKind) (a : Arg) (n s : List ℕ) (len : ℕ) (os : List (List ℕ)) → length p.pools ≤ 8 → length p.brigades ≤ 8 → is_of k a ≡ true → IsSaid p a n s len
    → IsAgain k a n s len os
arg_again p k a n s len os few small = by_kind k a
  where
    token : (k : OperandKind) (o : Operand) (t : List ℕ) → IsOperand k o t → (operand_at k (operands_text (t ∷ os)) ≡ Ok o) × (after_operand k (operands_text (t ∷ os)) ≡ operands_text os)
    token k o t h = (operand_again k o t (operands_text os) h (operands_stop os), behind_again k o t (operands_text os) h (operands_stop os))

    by_kind : (k : OperandKind) (a : Arg) → is_of k a ≡ true → IsSaid p a n s len → IsAgain k a n s len os
    by_kind kind.Nothing arg.Nothing h x = record { read = none_again (operands_text os); behind = none_behind (operands_text os) }
    by_kind kind.Place (arg.Place q) h x = let y = token kind.Place _ _ (place_operand q (declared_up (length p.pools) 8 q few x.fit.0)) in record { read = y.0; behind = y.1 }
    by_kind kind.Pool (arg.Pool q) h x = let y = token kind.Pool _ _ (pool_operand q (own_below (length p.pools) q few x.fit.0)) in record { read = y.0; behind = y.1 }
    by_kind kind.Brigade (arg.Brigade b) h x = let y = token kind.Brigade _ _ (own_operand b (own_below (length p.brigades) b small x.fit.0)) in record { read = y.0; behind = y.1 }
    by_kind kind.Source (arg.Source b) h x = let y = token kind.Source _ _ (source_operand (length p.brigades) b small x.fit.0) in record { read = y.0; behind = y.1 }
    by_kind kind.Ending (arg.Ending e) h x = let y = token kind.Ending _ _ (ending_operand e) in record { read = y.0; behind = y.1 }
    by_kind kind.Label (arg.Target t) h x = let y = token kind.Label _ _ (label_operand n x.name) in record { read = y.0; behind = y.1 }
    by_kind kind.Text (arg.Text t) h x = record {
      read = text_at_again s (text_at p t) (operands_text os) x.text.0 ∙ ap (λ m. Ok (operand.Text m)) (sym x.text.1);
      behind = text_behind s (text_at p t) (operands_text os) x.text.0;
    }
    by_kind kind.Variable (arg.Variable (variable.Pool q)) h x = let y = token kind.Variable _ _ (own_variable q (own_below (length p.pools) q few x.fit.0)) in record { read = y.0; behind = y.1 }
    by_kind kind.Variable (arg.Variable (variable.Brigade b)) h x = let y = token kind.Variable _ _ (brigade_variable b (own_below (length p.brigades) b small x.fit.0)) in
        record { read = y.0; behind = y.1 }
    by_kind kind.Number (arg.Number m) h x = let y = token kind.Number _ _ (number_again m (ltb-true m 8 x.fit.0)) in record { read = y.0; behind = y.1 }
    by_kind kind.Value (arg.Value v) h x = let y = token kind.Value _ _ (value_again v x.fit.0) in record { read = y.0; behind = y.1 }
    by_kind kind.Cursor (arg.Cursor c) h x = let y = token kind.Cursor _ _ (cursor_again c (ltb-true c 8 x.fit.0)) in record { read = y.0; behind = y.1 }
    by_kind kind.KindTest (arg.KindTest k) h x = let y = token kind.KindTest _ _ (kind_test_again k) in record { read = y.0; behind = y.1 }
    by_kind _ _ h x = absurd (cc h)

or_parts_some : (a b : Option ℕ) (P : Type 0) → IfSome (or_else a b) (λ _. P) → IfSome a (λ _. P) × IfSome b (λ _. P)
or_parts_some None b P h = (tt, h)
or_parts_some (Some x) None P h = (h, tt)
or_parts_some (Some x) (Some y) P h = (h, h)

none_some : (o : Option ℕ) (P : ℕ → Type 0) → o ≡ None → IfSome o P
none_some o P e = subst (λ x. IfSome x P) (sym e) tt

-- the parts of an instruction of a program
pub record AreSaid (p : Program) (a : Args) (n s : List ℕ) (len : ℕ) : Type 0 where
  pub first : IsSaid p a.first n s len
  pub second : IsSaid p a.second n s len
  pub third : IsSaid p a.third n s len
  pub fourth : IsSaid p a.fourth n s len

pub args_said : (p : Program) (i : Instr) (n s : List ℕ) → fits p i ≡ true → IfSome (target i) (λ _. is_name n ≡ true) → IfSome (text_of_instr i) (λ t. Spells s (text_at p t))
    → AreSaid p (args i) n s (text_len p (text_of_instr i))
args_said p i n s h name text =
    let a = args i in
    let P = is_name n ≡ true in
    let len = text_len p (text_of_instr i) in
    let f = fits_parts p i h in
    let g = formed i in
    let x = or_parts_some (or_else (or_else (names_target a.first) (names_target a.second)) (names_target a.third)) (names_target a.fourth) P name in
    let y = or_parts_some (or_else (names_target a.first) (names_target a.second)) (names_target a.third) P x.0 in
    let z = or_parts_some (names_target a.first) (names_target a.second) P y.0 in
    let Q : ℕ → Type 0 = λ t. Spells s (text_at p t) × (len ≡ length (text_at p t)) in
    record {
      first = record { fit = f.first; name = z.0; text = none_some (names_text a.first) Q g.first };
      second = record { fit = f.second; name = z.1; text = subst (λ o. IfSome o Q) g.second (long (text_of_instr i) text) };
      third = record { fit = f.third; name = y.1; text = none_some (names_text a.third) Q g.third };
      fourth = record { fit = f.fourth; name = x.1; text = none_some (names_text a.fourth) Q g.fourth };
    }
  where
    long : (o : Option ℕ) → IfSome o (λ t. Spells s (text_at p t)) → IfSome o (λ t. Spells s (text_at p t) × (text_len p o ≡ length (text_at p t)))
    long None h = tt
    long (Some t) h = (h, refl)

-- the operands of an instruction are read again
pub instr_again : (p : Program) (i : Instr) (n s : List ℕ) → length p.pools ≤ 8 → length p.brigades ≤ 8 → fits p i ≡ true → IfSome (target i) (λ _. is_name n ≡ true)
    → IfSome (text_of_instr i) (λ t. Spells s (text_at p t)) → operands_at (op_kinds (op_of i)) (operands_text (operand_texts i n s)) ≡ Ok (operands_of i (padded n) (text_len p (text_of_instr i)))
unfolding operands_at
instr_again p i n s few small h name text =
    let a = args i in
    let k = op_kinds (op_of i) in
    let len = text_len p (text_of_instr i) in
    let q = (split_again i).kinds in
    let x = args_said p i n s h name text in
    let d = arg_texts a.fourth n s ++ [] in
    let c = arg_texts a.third n s ++ d in
    let b = arg_texts a.second n s ++ c in
    let w = arg_again p k.first a.first n s len b few small q.first x.first in
    let u = arg_again p k.second a.second n s len c few small q.second x.second in
    let v = arg_again p k.third a.third n s len d few small q.third x.third in
    let z = arg_again p k.fourth a.fourth n s len [] few small q.fourth x.fourth in
    ap (λ y. operands_at k (operands_text (arg_texts a.first n s ++ (arg_texts a.second n s ++ (arg_texts a.third n s ++ y))))) (sym (append-nil (arg_texts a.fourth n s)))
    ∙ rw (w.read, w.behind, u.read, u.behind, v.read, v.behind, z.read, z.behind) refl

pub word_of_instr : (i : Instr) → instr_word i ≡ word_text (word.Op (op_of i))
unfolding word_text
word_of_instr (instr.PCreate q) = refl
word_of_instr _ = refl

-- a word is found again, has no space, and begins neither a label nor a comment
pub record IsWord (w : Word) : Type 0 where
  pub found : word_at (word_text w) ≡ Some w
  pub plain : unspaced (word_text w) ≡ true
  pub starts : (rest : List ℕ) → is_skipped (word_text w ++ rest) ≡ false
  pub worded : (rest : List ℕ) → begins 58 (word_text w ++ rest) ≡ false

-- no space among these bytes, of which there are some, and the first begins neither a label nor a comment
abbrev begins_word : List ℕ → Bool
begins_word [] = false
begins_word (b ∷ bs) = not (eqb b 35) && not (eqb b 58)

begun_word : (t : List ℕ) → begins_word t ≡ true → (rest : List ℕ) → (is_skipped (t ++ rest) ≡ false) × (begins 58 (t ++ rest) ≡ false)
begun_word [] h rest = absurd (cc h)
begun_word (b ∷ bs) h rest =
    let x = and_parts (not (eqb b 35)) (not (eqb b 58)) h in
    (rw (ne_eqb (length (b ∷ (bs ++ rest))) 0 (λ e. omega arith), not-true (eqb b 35) x.0) refl, not-true (eqb b 58) x.1)

as_word : (w : Word) → word_at (word_text w) ≡ Some w → unspaced (word_text w) ≡ true → begins_word (word_text w) ≡ true → IsWord w
as_word w f p h = record { found = f; plain = p; starts = λ r. (begun_word (word_text w) h r).0; worded = λ r. (begun_word (word_text w) h r).1 }

pub word_again : (w : Word) → IsWord w
unfolding word_at word_text
word_again (word.Op op.ClearBuf) = as_word (word.Op op.ClearBuf) refl refl refl
word_again (word.Op o) = as_word (word.Op o) refl refl refl
word_again w = as_word w refl refl refl

-- a line with a word is read again
pub item_again : (d : Draft) (w : Word) (os : List (List ℕ)) (o : Operands) → is_due d.part w ≡ true → operands_at (word_kinds w) (operands_text os) ≡ Ok o → judged d w o ≡ Ok tt
    → unindented_read d (line_text (word_text w) os) ≡ Ok (line.Item w o)
unfolding item_read
item_again d w os o due read sound =
    let here = word_again w in
    let rest = operands_text os in
    let t = token_again (word_text w) rest here.plain (operands_stop os) in
    let a = after_again (word_text w) rest here.plain (operands_stop os) in
    rw (here.starts rest, here.worded rest, t, here.found, due, a, read, sound) refl

pub statement_plain : (w : Word) (os : List (List ℕ)) → is_skipped (line_text (word_text w) os) ≡ false
statement_plain w os = (word_again w).starts (operands_text os)
