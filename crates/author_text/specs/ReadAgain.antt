-- What is read of a text, and of a text that was printed.
use Rattle.std.specs.Prelude.{◌≡◌, ◌≤◌, ℕ, List, [], ◌∷◌, ◌++◌, Some, length, Result, MatchResult}
use Rattle.author_text.specs.declared.refusal.Refusal.{Refusal}
use Rattle.author_text.specs.declared.refusal.Refusal.TheVariants as refusal
use Rattle.author_text.specs.declared.source.Source.{Source}
use Rattle.author_text.specs.Fits.{FitsSource}
use Rattle.author_text.specs.PrintedSource.{source_text}
use Rattle.author_text.specs.ReadSource.{read_filter}
use Rattle.author_text.specs.TextTokens.{tokens_of}
use Rattle.author_text.specs.Tokens.{TokenTree, end_token}
use Rattle.author_text.specs.Trees.{SourceTree, source_of}
use Rattle.author_text.specs.UnreadTokens.{tokens_at}
use Rattle.author_text.specs.Writable.{WritableSource}

-- the text has tokens, and these are read as the tree
abbrev pub HasTree : List ℕ → SourceTree → Type 0
HasTree text s = (ts : List TokenTree) × (tokens_of text ≡ Some ts) × ((read_filter (tokens_at (ts ++ end_token ∷ []) 0)).0 ≡ s)

-- where a tree is printed as the text, it is what is read, or there was no memory
abbrev pub ReadsPrinted : List ℕ → Result Source Refusal → Type 0
ReadsPrinted text r =
    (s : SourceTree) → WritableSource s → FitsSource s → source_text s ≡ text → length text ≤ 1048576 → MatchResult r (λ t. source_of t ≡ s) (λ e. e ≡ refusal.NoMemory)
