-- The bytes of a line, its words, and the spaces before it.
use Rattle.std.specs.Prelude.{ℕ, Bool, false, ◌&&◌, nat_le, ◌==◌, if◌then◌else◌, List, [], ◌∷◌, take, drop}
use Rattle.std.specs.List.{list_all, position_or_len}

abbrev pub is_printable : ℕ → Bool
is_printable b = nat_le 32 b && nat_le b 126

unfoldable pub all_printable : List ℕ → Bool
all_printable bytes = list_all is_printable bytes

-- how many bytes stand before the first space
abbrev pub token_len : List ℕ → ℕ
token_len bytes = position_or_len (λ b. b == 32) bytes

-- the bytes before the first space, and those from it on
unfoldable pub token : List ℕ → List ℕ
token bytes = take (token_len bytes) bytes

unfoldable pub after_token : List ℕ → List ℕ
after_token bytes = drop (token_len bytes) bytes

-- a line without the spaces that it begins with
abbrev pub unindented : List ℕ → List ℕ
unindented [] = []
unindented (b ∷ bs) = if b == 32 then unindented bs else b ∷ bs

abbrev pub begins : ℕ → List ℕ → Bool
begins c [] = false
begins c (b ∷ bs) = b == c

abbrev pub tail : List ℕ → List ℕ
tail [] = []
tail (b ∷ bs) = bs
