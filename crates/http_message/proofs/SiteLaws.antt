-- A site file is read line by line.
use Rattle.std.proofs.Common.{◌≡◌, ℕ, Bool, ◌+◌, List, [], ◌∷◌, drop, length, ◌<◌, sym, refl, subst, inl, inr}
use Rattle.byte_text.specs.TextLines.{RawLine, lines_of, first_line, width}
use Rattle.http_message.specs.SiteFiles.{Routes, no_routes, AddsLine, AddsNothing, AddsLines, SiteFailsAt}

-- What is left of the lines decides of all of them.
pub record RoutesSoFar (text rest : List ℕ) (number : ℕ) (now : Routes) : Type 0 where
  pub adds : (new : Routes) → AddsLines (lines_of rest) now new → AddsLines (lines_of text) no_routes new
  pub fails : (k : ℕ) → SiteFailsAt (number + 1) (lines_of rest) now k → SiteFailsAt 1 (lines_of text) no_routes k

-- The lines of the rest are its first line and those behind it.
abbrev pub IsLineSplit : (rest : List ℕ) (l : RawLine) (w : ℕ) → Type 0
IsLineSplit rest l w = lines_of rest ≡ l ∷ lines_of (drop w rest)

adds_one : (ls : List RawLine) (l : RawLine) (behind : List RawLine) (old mid new : Routes) → ls ≡ l ∷ behind → AddsLine l old mid → AddsLines behind mid new → AddsLines ls old new
unfolding AddsLines
adds_one ls l behind old mid new split one more = subst (λ x. AddsLines x old new) (sym split) (mid, one, more)

fails_later : (ls : List RawLine) (l : RawLine) (behind : List RawLine) (n k : ℕ) (old mid : Routes) → ls ≡ l ∷ behind → AddsLine l old mid → SiteFailsAt (n + 1) behind mid k → SiteFailsAt n ls old k
unfolding SiteFailsAt
fails_later ls l behind n k old mid split one more = subst (λ x. SiteFailsAt n x old k) (sym split) (inr (mid, one, more))

fails_here : (ls : List RawLine) (l : RawLine) (behind : List RawLine) (n : ℕ) (old : Routes) → ls ≡ l ∷ behind → AddsNothing l old → SiteFailsAt n ls old n
unfolding SiteFailsAt
fails_here ls l behind n old split none = subst (λ x. SiteFailsAt n x old n) (sym split) (inl (refl, none))

pub so_far_adds : (text rest : List ℕ) (n w : ℕ) (l : RawLine) (old mid : Routes) → RoutesSoFar text rest n old → IsLineSplit rest l w → AddsLine l old mid → RoutesSoFar text (drop w rest) (n + 1) mid
so_far_adds text rest n w l old mid s split one =
    record { adds = λ new more. s.adds new (adds_one _ l _ old mid new split one more); fails = λ k more. s.fails k (fails_later _ l _ (n + 1) k old mid split one more) }

pub so_far_fails : (text rest : List ℕ) (n w : ℕ) (l : RawLine) (old : Routes) → RoutesSoFar text rest n old → IsLineSplit rest l w → AddsNothing l old
    → SiteFailsAt 1 (lines_of text) no_routes (n + 1)
so_far_fails text rest n w l old s split none = s.fails (n + 1) (fails_here _ l _ (n + 1) old split none)

pub so_far_end : (text rest : List ℕ) (n : ℕ) (now : Routes) → RoutesSoFar text rest n now → length rest ≡ 0 → AddsLines (lines_of text) no_routes now
unfolding AddsLines lines_of
so_far_end text [] n now s none = s.adds now (λ q. refl)
so_far_end text (b ∷ bs) n now s none = absurd (cc none)

pub nothing_first : (rest t : List ℕ) (e : Bool) (r : Routes) → t ≡ (first_line rest).text → e ≡ (first_line rest).ended → AddsNothing (record { text = t; ended = e }) r
    → AddsNothing (first_line rest) r
nothing_first rest t e r p q n =
    subst (λ (y : Bool). AddsNothing (record { text = (first_line rest).text; ended = y }) r) q (subst (λ (x : List ℕ). AddsNothing (record { text = x; ended = e }) r) p n)

pub added_first : (rest t : List ℕ) (e : Bool) (old new : Routes) → t ≡ (first_line rest).text → e ≡ (first_line rest).ended → AddsLine (record { text = t; ended = e }) old new
    → AddsLine (first_line rest) old new
added_first rest t e old new p q n =
    subst (λ (y : Bool). AddsLine (record { text = (first_line rest).text; ended = y }) old new) q (subst (λ (x : List ℕ). AddsLine (record { text = x; ended = e }) old new) p n)
