-- The site file: on each line, which ends with LF, a path, a space and the name of a file.
use Rattle.std.specs.Prelude.{◌≡◌, ℕ, ◌+◌, true, List, [], ◌∷◌, Option, Some, None, ◌⊎◌, bytes_eq, if◌then◌else◌, IsUtf8}
use Rattle.byte_text.specs.Bytes.{token, after_token}
use Rattle.byte_text.specs.TextLines.{RawLine}
use Rattle.http_message.specs.Routes.{is_site_path}

-- what file stands at a path
abbrev pub Routes : Type 0
Routes = List ℕ → Option (List ℕ)

abbrev pub no_routes : Routes
no_routes path = None

-- A text names a path and a file: the path stands before its first space, and the file is what follows that space.
pub record NamesFile (text path file : List ℕ) : Type 0 where
  pub path_is : path ≡ token text
  pub file_is : after_token text ≡ 32 ∷ file
  pub named : ¬ (file ≡ [])
  pub path_text : IsUtf8 path
  pub file_text : IsUtf8 file

-- A line says that a file stands at a path.
pub record LineSays (l : RawLine) (path file : List ℕ) : Type 0 where
  pub ended : l.ended ≡ true
  pub names : NamesFile l.text path file
  pub is_path : is_site_path path ≡ true

-- It does so at a path that is free, and afterwards the file stands there.
pub record AddsLine (l : RawLine) (old new : Routes) : Type 0 where
  pub path : List ℕ
  pub file : List ℕ
  pub says : LineSays l path file
  pub free : old path ≡ None
  pub puts : (q : List ℕ) → new q ≡ (if bytes_eq path q then Some file else old q)

-- It says none, or its path is taken.
abbrev pub AddsNothing : RawLine → Routes → Type 0
AddsNothing l old = (path file : List ℕ) → LineSays l path file → ¬ (old path ≡ None)

-- Each of these lines adds its file, one after another.
unfoldable pub AddsLines : List RawLine → Routes → Routes → Type 0
AddsLines [] old new = (q : List ℕ) → new q ≡ old q
AddsLines (l ∷ ls) old new = (mid : Routes) × AddsLine l old mid × AddsLines ls mid new

-- Of these lines, of which the first has this number, that of number k is the first that adds nothing.
unfoldable pub SiteFailsAt : ℕ → List RawLine → Routes → ℕ → Type 0
SiteFailsAt number [] old k = ⊥
SiteFailsAt number (l ∷ ls) old k =
    ((k ≡ number) × AddsNothing l old) ⊎ ((mid : Routes) × AddsLine l old mid × SiteFailsAt (number + 1) ls mid k)
