-- What is answered to the text of a filter.
use Rattle.std.specs.Prelude.{◌≡◌, ℕ, List, ◌++◌, ◌⊎◌, codes, decimal, Option, Some, None, Ok}
use Rattle.author_text.specs.Places.{HasPlace}
use Rattle.author_text.specs.declared.place.Place.{Place}
use Rattle.module_code.specs.Program.{Program}
use Rattle.module_lang.specs.FirstFault.{IsReadAs}
use Rattle.life_check.specs.Slim.{Accepts}
use Rattle.life_check.specs.declared.cert.Cert.{Cert}
use Rattle.module_commands.specs.TextAnswers.{OutputSpec}
use Rattle.module_commands.specs.declared.ended.Ended.{Ended}
use Rattle.module_commands.specs.declared.ended.Ended.TheVariants as ended
use Rattle.script_text.specs.Replies.{line}

-- the line of what is wrong at a line and a column
abbrev pub place_line : ℕ → ℕ → List ℕ → List ℕ
place_line l c what = codes "line " ++ decimal l ++ codes ", column " ++ decimal c ++ codes ": " ++ line what

-- what is wrong with a text, at a place that it has
abbrev pub TellsPlace : List ℕ → Place → List ℕ → Type 0
TellsPlace text p out = HasPlace text p.line p.column × ((what : List ℕ) × (out ≡ place_line p.line p.column what))

-- a setting is refused, by its name
abbrev pub TellsSetting : List ℕ → Type 0
TellsSetting out = (name : List ℕ) × (why : List ℕ) × (out ≡ codes "cannot set " ++ name ++ codes ": " ++ line why)

-- the line of an internal error, of which this line says what it is
abbrev pub internal_line : List ℕ → List ℕ
internal_line what = codes "internal error: " ++ what

-- an internal error
abbrev pub TellsInternal : List ℕ → Type 0
TellsInternal out = (what : List ℕ) × (out ≡ internal_line what)

-- why a text is not compiled: at a place of it, or for what has none
abbrev pub IsFaultOf : List ℕ → Option Place → List ℕ → Type 0
IsFaultOf text (Some p) out = TellsPlace text p out
IsFaultOf text None out = TellsSetting out ⊎ TellsInternal out

-- the text of a module that the check accepts, with a certificate
abbrev pub IsAcceptedText : List ℕ → Type 0
IsAcceptedText out = (p : Program) × (c : Cert) × IsReadAs out (Ok p) × Accepts p c

-- what `compile` answers to a text
abbrev pub IsCompileOutput : List ℕ → OutputSpec
IsCompileOutput text out e =
    (IsAcceptedText out × (e ≡ ended.Done)) ⊎ ((p : Option Place) × IsFaultOf text p out × (e ≡ ended.Refused))
