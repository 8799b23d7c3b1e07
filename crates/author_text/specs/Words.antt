-- The words of the language, and which texts are names.
use Rattle.std.specs.Prelude.{◌≡◌, ℕ, Bool, false, ◌&&◌, ◌||◌, ◌==◌, List, [], ◌∷◌, IsTrue, codes, bytes_eq}
use Rattle.std.specs.Char.{is_ascii_alphabetic, is_ascii_alphanumeric}
use Rattle.std.specs.List.{list_all, list_any}

-- the words of the language, which are no names
abbrev pub words_of_language : List (List ℕ)
words_of_language =
    codes "filter" ∷ codes "var" ∷ codes "conn" ∷ codes "hold" ∷ codes "const" ∷ codes "param" ∷ codes "table" ∷ codes "def"
    ∷ codes "on" ∷ codes "start" ∷ codes "call" ∷ codes "bucket" ∷ codes "byte" ∷ codes "flush" ∷ codes "eos" ∷ codes "return" ∷ codes "match"
    ∷ codes "let" ∷ codes "emit" ∷ codes "keep" ∷ codes "copy" ∷ codes "in" ∷ codes "of" ∷ codes "decimal" ∷ codes "it"
    ∷ codes "drop" ∷ codes "cut" ∷ codes "at" ∷ codes "pass" ∷ codes "end" ∷ codes "fail" ∷ codes "leave" ∷ codes "next"
    ∷ codes "break" ∷ codes "continue" ∷ codes "if" ∷ codes "else" ∷ codes "while" ∷ codes "loop" ∷ codes "for" ∷ codes "log"
    ∷ codes "and" ∷ codes "or" ∷ codes "not" ∷ codes "empty" ∷ codes "has" ∷ codes "size" ∷ []

-- whether a text is one of them
abbrev pub is_word : List ℕ → Bool
is_word text = list_any (λ w. bytes_eq w text) words_of_language

-- a byte of a name or a word: a letter, a digit or `_`
abbrev pub is_name_byte : ℕ → Bool
is_name_byte b = is_ascii_alphanumeric b || b == 95

-- a letter, and letters, digits and `_` behind it
abbrev pub is_name_or_word : List ℕ → Bool
is_name_or_word [] = false
is_name_or_word (b ∷ bs) = is_ascii_alphabetic b && list_all is_name_byte bs

-- a name: no word of the language
abbrev pub IsNameText : List ℕ → Type 0
IsNameText text = IsTrue (is_name_or_word text) × (is_word text ≡ false)
