-- The words of module texts.
use Rattle.std.specs.Prelude.{Bool, true, false, ℕ, List, [], ◌∷◌, Option, find, codes, nat_eq}
use Rattle.std.specs.Cmp.Lexicographic.{pointwise}
use Rattle.module_code.specs.declared.instr.KindTest.{KindTest}
use Rattle.module_code.specs.declared.instr.KindTest.TheVariants as kind_test
use Rattle.module_code.specs.declared.word.Op.{Op}
use Rattle.module_code.specs.declared.word.Op.TheVariants as op
use Rattle.module_code.specs.declared.word.Word.{Word}
use Rattle.module_code.specs.declared.word.Word.TheVariants as word
use Rattle.module_code.specs.declared.word.OperandKind.{OperandKind}
use Rattle.module_code.specs.declared.word.OperandKind.TheVariants as kind
use Rattle.module_code.specs.declared.word.OperandKinds.{OperandKinds}
use Rattle.module_code.specs.declared.word.Signature.{Signature}

abbrev pub four_operands : OperandKind → OperandKind → OperandKind → OperandKind → OperandKinds
four_operands a b c d = record { first = a; second = b; third = c; fourth = d }

abbrev pub three_operands : OperandKind → OperandKind → OperandKind → OperandKinds
three_operands a b c = four_operands a b c kind.Nothing

abbrev pub two_operands : OperandKind → OperandKind → OperandKinds
two_operands a b = three_operands a b kind.Nothing

abbrev pub one_operand : OperandKind → OperandKinds
one_operand a = two_operands a kind.Nothing

abbrev pub no_operand : OperandKinds
no_operand = one_operand kind.Nothing

-- how the word of an instruction is written
abbrev pub op_text : Op → List ℕ
op_text op.PCreate = codes "pcreate"
op_text op.PClear = codes "pclear"
op_text op.PDestroy = codes "pdestroy"
op_text op.Label = codes "label"
op_text op.Unlabel = codes "unlabel"
op_text op.PreLabel = codes "prelabel"
op_text op.BCreate = codes "bcreate"
op_text op.BClean = codes "bclean"
op_text op.BConcat = codes "bconcat"
op_text op.BSplit = codes "bsplit"
op_text op.BPart = codes "bpart"
op_text op.BSave = codes "bsave"
op_text op.Pass = codes "pass"
op_text op.JEmpty = codes "jempty"
op_text op.First = codes "first"
op_text op.Next = codes "next"
op_text op.JEnd = codes "jend"
op_text op.JKind = codes "jkind"
op_text op.Unlink = codes "unlink"
op_text op.BDelete = codes "bdelete"
op_text op.Tail = codes "tail"
op_text op.Head = codes "head"
op_text op.Before = codes "before"
op_text op.Heap = codes "heap"
op_text op.Immortal = codes "immortal"
op_text op.FromBuf = codes "frombuf"
op_text op.Transient = codes "transient"
op_text op.PoolB = codes "poolb"
op_text op.Flush = codes "flush"
op_text op.Eos = codes "eos"
op_text op.Split = codes "split"
op_text op.Copy = codes "copy"
op_text op.Aside = codes "aside"
op_text op.Read = codes "read"
op_text op.Len = codes "len"
op_text op.Get = codes "get"
op_text op.Put = codes "put"
op_text op.ClearBuf = codes "clearbuf"
op_text op.Set = codes "set"
op_text op.Add = codes "add"
op_text op.Sub = codes "sub"
op_text op.JLt = codes "jlt"
op_text op.JEq = codes "jeq"
op_text op.JNull = codes "jnull"
op_text op.JSent = codes "jsent"
op_text op.Leave = codes "leave"
op_text op.Jump = codes "jump"
op_text op.Ret = codes "ret"

-- how it is written what is asked of a bucket's kind
abbrev pub kind_test_text : KindTest → List ℕ
kind_test_text kind_test.Heap = codes "heap"
kind_test_text kind_test.Transient = codes "transient"
kind_test_text kind_test.Immortal = codes "immortal"
kind_test_text kind_test.Pool = codes "pool"
kind_test_text kind_test.File = codes "file"
kind_test_text kind_test.Flush = codes "flush"
kind_test_text kind_test.Eos = codes "eos"
kind_test_text kind_test.Data = codes "data"

abbrev pub all_kind_tests : List KindTest
all_kind_tests =
    kind_test.Heap ∷ kind_test.Transient ∷ kind_test.Immortal ∷ kind_test.Pool ∷ kind_test.File ∷ kind_test.Flush
    ∷ kind_test.Eos ∷ kind_test.Data ∷ []

-- the next instruction can follow, or not
abbrev pub going_on : OperandKinds → Signature
going_on k = record { kinds = k; goes_on = true }

abbrev pub leaving : OperandKinds → Signature
leaving k = record { kinds = k; goes_on = false }

-- the operands of an instruction, and whether the next one can follow
abbrev pub signature : Op → Signature
signature op.PCreate = going_on (one_operand kind.Pool)
signature op.PClear = going_on (one_operand kind.Pool)
signature op.PDestroy = going_on (one_operand kind.Pool)
signature op.Label = going_on (two_operands kind.Place kind.Text)
signature op.Unlabel = going_on (two_operands kind.Place kind.Text)
signature op.PreLabel = going_on (two_operands kind.Place kind.Text)
signature op.BCreate = going_on (one_operand kind.Brigade)
signature op.BClean = going_on (one_operand kind.Source)
signature op.BConcat = going_on (two_operands kind.Source kind.Source)
signature op.BSplit = going_on (three_operands kind.Source kind.Cursor kind.Source)
signature op.BPart = going_on (four_operands kind.Source kind.Value kind.Cursor kind.Label)
signature op.BSave = going_on (two_operands kind.Brigade kind.Source)
signature op.Pass = going_on (two_operands kind.Source kind.Label)
signature op.JEmpty = going_on (two_operands kind.Source kind.Label)
signature op.First = going_on (two_operands kind.Cursor kind.Source)
signature op.Next = going_on (two_operands kind.Cursor kind.Cursor)
signature op.JEnd = going_on (two_operands kind.Cursor kind.Label)
signature op.JKind = going_on (three_operands kind.Cursor kind.KindTest kind.Label)
signature op.Unlink = going_on (one_operand kind.Cursor)
signature op.BDelete = going_on (one_operand kind.Cursor)
signature op.Tail = going_on (two_operands kind.Source kind.Cursor)
signature op.Head = going_on (two_operands kind.Source kind.Cursor)
signature op.Before = going_on (two_operands kind.Cursor kind.Cursor)
signature op.Heap = going_on (two_operands kind.Cursor kind.Text)
signature op.Immortal = going_on (two_operands kind.Cursor kind.Text)
signature op.FromBuf = going_on (one_operand kind.Cursor)
signature op.Transient = going_on (one_operand kind.Cursor)
signature op.PoolB = going_on (two_operands kind.Cursor kind.Place)
signature op.Flush = going_on (one_operand kind.Cursor)
signature op.Eos = going_on (one_operand kind.Cursor)
signature op.Split = going_on (three_operands kind.Cursor kind.Value kind.Label)
signature op.Copy = going_on (two_operands kind.Cursor kind.Cursor)
signature op.Aside = going_on (two_operands kind.Cursor kind.Place)
signature op.Read = going_on (two_operands kind.Cursor kind.Label)
signature op.Len = going_on (two_operands kind.Number kind.Cursor)
signature op.Get = going_on (three_operands kind.Number kind.Value kind.Label)
signature op.Put = going_on (two_operands kind.Value kind.Label)
signature op.ClearBuf = going_on no_operand
signature op.Set = going_on (two_operands kind.Number kind.Value)
signature op.Add = going_on (two_operands kind.Number kind.Value)
signature op.Sub = going_on (two_operands kind.Number kind.Value)
signature op.JLt = going_on (three_operands kind.Number kind.Value kind.Label)
signature op.JEq = going_on (three_operands kind.Number kind.Value kind.Label)
signature op.JNull = going_on (two_operands kind.Variable kind.Label)
signature op.JSent = going_on (one_operand kind.Label)
signature op.Leave = going_on no_operand
signature op.Jump = leaving (one_operand kind.Label)
signature op.Ret = leaving (one_operand kind.Ending)

abbrev pub op_kinds : Op → OperandKinds
op_kinds o = (signature o).kinds

abbrev pub op_goes_on : Op → Bool
op_goes_on o = (signature o).goes_on

-- how a first word is written
unfoldable pub word_text : Word → List ℕ
word_text word.Module = codes "module"
word_text word.Pool = codes "pool"
word_text word.Brigade = codes "brigade"
word_text word.Open = codes "open"
word_text word.Init = codes "init"
word_text word.Main = codes "main"
word_text word.End = codes "end"
word_text (word.Op o) = op_text o

-- its operands
unfoldable pub word_kinds : Word → OperandKinds
word_kinds word.Module = one_operand kind.One
word_kinds word.Pool = two_operands kind.Pool kind.Place
word_kinds word.Brigade = two_operands kind.Brigade kind.Place
word_kinds word.Open = no_operand
word_kinds word.Init = no_operand
word_kinds word.Main = no_operand
word_kinds word.End = no_operand
word_kinds (word.Op o) = op_kinds o

abbrev pub all_words : List Word
all_words =
    word.Module ∷ word.Pool ∷ word.Brigade ∷ word.Open ∷ word.Init ∷ word.Main ∷ word.End
    ∷ word.Op op.PCreate ∷ word.Op op.PClear ∷ word.Op op.PDestroy ∷ word.Op op.Label ∷ word.Op op.Unlabel ∷ word.Op op.PreLabel
    ∷ word.Op op.BCreate ∷ word.Op op.BClean ∷ word.Op op.BConcat ∷ word.Op op.BSplit ∷ word.Op op.BPart
    ∷ word.Op op.BSave ∷ word.Op op.Pass ∷ word.Op op.JEmpty ∷ word.Op op.First ∷ word.Op op.Next ∷ word.Op op.JEnd
    ∷ word.Op op.JKind ∷ word.Op op.Unlink ∷ word.Op op.BDelete ∷ word.Op op.Tail ∷ word.Op op.Head ∷ word.Op op.Before
    ∷ word.Op op.Heap ∷ word.Op op.Immortal ∷ word.Op op.FromBuf ∷ word.Op op.Transient ∷ word.Op op.PoolB
    ∷ word.Op op.Flush ∷ word.Op op.Eos ∷ word.Op op.Split ∷ word.Op op.Copy ∷ word.Op op.Aside ∷ word.Op op.Read
    ∷ word.Op op.Len ∷ word.Op op.Get ∷ word.Op op.Put ∷ word.Op op.ClearBuf ∷ word.Op op.Set ∷ word.Op op.Add
    ∷ word.Op op.Sub ∷ word.Op op.JLt ∷ word.Op op.JEq ∷ word.Op op.JNull ∷ word.Op op.JSent ∷ word.Op op.Leave
    ∷ word.Op op.Jump ∷ word.Op op.Ret ∷ []

-- the word that is written so
unfoldable pub word_at : List ℕ → Option Word
word_at token = find (λ w. pointwise nat_eq (word_text w) token) all_words
