-- What a printed text is read as.
use Rattle.std.proofs.Common.{◌≡◌, ◌≤◌, ℕ, Bool, true, false, List, [], ◌∷◌, ◌++◌, Option, Some, None, Result, Ok, Err, MatchResult, length, map, drop, inl, inr, refl, ap, sym, ◌∙◌, ◌⊎◌, arith, IsTrue}
use Rattle.std.specs.Prelude.{option_map, ◌<◌}
use Rattle.author_text.specs.declared.faults.Faults.{Faults}
use Rattle.author_text.specs.declared.parser.Parser.{Parser}
use Rattle.author_text.specs.declared.refusal.Refusal.{Refusal}
use Rattle.author_text.specs.declared.refusal.Refusal.TheVariants as refusal
use Rattle.author_text.specs.declared.source.Source.{Source}
use Rattle.author_text.specs.declared.token.Token.{Token}
use Rattle.author_text.specs.Fits.{FitsSource}
use Rattle.author_text.specs.PrintedSource.{source_text}
use Rattle.author_text.specs.PrintedTokens.{printed_tokens}
use Rattle.author_text.specs.ReadAgain.{ReadsPrinted, HasTree}
use Rattle.author_text.specs.ReadSource.{read_filter}
use Rattle.author_text.specs.Reading.{fault_in, fault_of, unread_in, unread_of}
use Rattle.author_text.specs.TextTokens.{tokens_of}
use Rattle.author_text.specs.Tokens.{TokenTree, token_of, end_token}
use Rattle.author_text.specs.Trees.{SourceTree, source_of}
use Rattle.author_text.specs.UnreadTokens.{UnreadTokens, tokens_at, end_alone}
use Rattle.author_text.specs.Writable.{WritableSource}
use Rattle.author_text.proofs.PrintedStmtLaws.{source_reads}
use Rattle.author_text.proofs.ReadSourceLaws.{filter_reads}

none_in : (w : Bool) (o : Option Refusal) (ts us : List TokenTree) (t : TokenTree) → w ≡ true → unread_in o ts ≡ t ∷ us → fault_in w o ≡ None
none_in true None ts us t h e = refl
none_in false None ts us t h e = absurd (cc)
none_in w (Some r) ts us t h e = absurd (cc)

-- where the end is left, nothing was wrong
none_wrong : (p : Parser) → p.faults.is_whole ≡ true → unread_of p ≡ end_alone → fault_of p.faults ≡ None
unfolding fault_of unread_of
none_wrong p h e = none_in p.faults.is_whole p.faults.first (map token_of (drop p.next p.tokens.now)) [] end_token h (ap (λ u. u.tokens) e)

pub again_found : (p : Parser) (t : Source) (s : SourceTree) (r : Result Source Refusal) → p.faults.is_whole ≡ true → source_of t ≡ s → unread_of p ≡ end_alone
    → MatchResult r (λ v. (fault_of p.faults ≡ None) × (v ≡ t)) (λ e. fault_of p.faults ≡ Some e) → MatchResult r (λ v. source_of v ≡ s) (λ e. e ≡ refusal.NoMemory)
again_found p t s (Ok v) h e u m = ap source_of m.1 ∙ e
again_found p t s (Err x) h e u m = let n = none_wrong p h u in absurd (cc (n, m))

some_tokens : (found : List TokenTree) (o : Option (List TokenTree)) (ts us : List TokenTree) → Some found ≡ option_map (λ x. x ++ us) o → o ≡ Some ts → found ≡ ts ++ us
some_tokens found None ts us e h = absurd (cc)
some_tokens found (Some x) ts us e h = let i : x ≡ ts = cc in let j : found ≡ x ++ us = cc in j ∙ ap (λ y. y ++ us) i

-- the tokens that were found of a printed text are read as its tree
pub printed_found : (text : List ℕ) (found : List TokenTree) (s : SourceTree) → WritableSource s → FitsSource s → source_text s ≡ text
    → Some found ≡ option_map (λ ts. ts ++ end_token ∷ []) (tokens_of text) → read_filter (tokens_at found 0) ≡ (s, end_alone)
printed_found text found s w f e h =
    let is : tokens_of text ≡ Some (printed_tokens s) = ap tokens_of (sym e) ∙ source_reads s w in
    let same = some_tokens found (tokens_of text) (printed_tokens s) (end_token ∷ []) h is in
    ap (λ ts. read_filter (tokens_at ts 0)) same ∙ filter_reads s f

-- a printed text has tokens, and only memory may be missing
pub printed_refused : (text : List ℕ) (r : Refusal) (s : SourceTree) → WritableSource s → source_text s ≡ text → length text ≤ 1048576
    → (r ≡ refusal.NoMemory) ⊎ (tokens_of text ≡ None) ⊎ (1048576 < length text) → r ≡ refusal.NoMemory
printed_refused text r s w e n h = elim h [
  | inl m ↦ m
  | inr x ↦ elim x [ inl t ↦ (let is = sym (ap tokens_of (sym e) ∙ source_reads s w) ∙ t in absurd (cc is)) | inr l ↦ absurd (omega (arith, l, n)) ]
]

tree_in : (found : List TokenTree) (o : Option (List TokenTree)) (text : List ℕ) (s : SourceTree) → tokens_of text ≡ o → Some found ≡ option_map (λ ts. ts ++ end_token ∷ []) o
    → (read_filter (tokens_at found 0)).0 ≡ s → HasTree text s
tree_in found None text s t h e = absurd (cc)
tree_in found (Some ts) text s t h e =
    let same : found ≡ ts ++ end_token ∷ [] = cc h in (ts, t, ap (λ x. (read_filter (tokens_at x 0)).0) (sym same) ∙ e)

-- the tokens that were found have the tree that was read
pub tree_found : (text : List ℕ) (found : List TokenTree) (s : SourceTree) → Some found ≡ option_map (λ ts. ts ++ end_token ∷ []) (tokens_of text)
    → (read_filter (tokens_at found 0)).0 ≡ s → HasTree text s
tree_found text found s h e = tree_in found (tokens_of text) text s refl h e
