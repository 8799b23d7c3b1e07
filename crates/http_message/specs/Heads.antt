-- The head that a stream of bytes begins with (RFC 9112, sections 2 to 5), within limits.
use Rattle.std.specs.Prelude.{◌≡◌, ℕ, ◌≤◌, Bool, true, List, [], ◌++◌, length}
use Rattle.httparse.specs.Grammar.{RequestHead, print_request, ReadsRequest}

-- the stream is this head, of at most limit bytes and room fields, and then the rest
pub record BeginsWithin (limit room : ℕ) (stream : List ℕ) (h : RequestHead) (rest : List ℕ) : Type 0 where
  pub reads : ReadsRequest stream h rest
  pub size : length (print_request h) ≤ limit
  pub count : length h.fields ≤ room

-- the stream begins with no head within the limits
abbrev pub IsHeadlessWithin : ℕ → ℕ → List ℕ → Type 0
IsHeadlessWithin limit room stream =
    (h : RequestHead) (rest : List ℕ) → ¬ (BeginsWithin limit room stream h rest)

-- whatever follows, or where nothing follows, the stream begins with no head within the limits
abbrev pub StaysHeadless : ℕ → ℕ → List ℕ → Bool → Type 0
StaysHeadless limit room seen eof =
    (more : List ℕ) → (eof ≡ true → more ≡ []) → IsHeadlessWithin limit room (seen ++ more)
