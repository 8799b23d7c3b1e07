-- What a reader of tokens has left, and what is wrong.
use Rattle.std.specs.Prelude.{◌≡◌, Bool, true, false, List, [], Option, Some, None, map, drop, IsTrue}
use Rattle.author_text.specs.declared.refusal.Refusal.{Refusal}
use Rattle.author_text.specs.declared.refusal.Refusal.TheVariants as refusal
use Rattle.author_text.specs.declared.faults.Faults.{Faults}
use Rattle.author_text.specs.declared.parser.Parser.{Parser}
use Rattle.author_text.specs.Tokens.{TokenTree, token_of}
use Rattle.author_text.specs.UnreadTokens.{UnreadTokens}

abbrev pub fault_in : Bool → Option Refusal → Option Refusal
fault_in is_whole (Some r) = Some r
fault_in true None = None
fault_in false None = Some refusal.NoMemory

-- what was wrong first: where nothing else was, that there was no memory
unfoldable pub fault_of : Faults → Option Refusal
fault_of f = fault_in f.is_whole f.first

-- there was no memory
abbrev pub IsOut : Faults → Type 0
IsOut f = fault_of f ≡ Some refusal.NoMemory

-- the first fault stays
abbrev pub KeepsFault : Faults → Faults → Type 0
KeepsFault old new = (r : Refusal) → fault_of old ≡ Some r → fault_of new ≡ Some r

-- once there is a fault, no token is left
abbrev pub unread_in : Option Refusal → List TokenTree → List TokenTree
unread_in None ts = ts
unread_in (Some r) ts = []

unfoldable pub unread_of : Parser → UnreadTokens
unread_of p = record { tokens = unread_in p.faults.first (map token_of (drop p.next p.tokens.now)); operators = p.operators }

-- there was memory for all that the new reader made, so there was before, and then this holds
pub record ReadsTokens (old new : Parser) (is : Type 0) : Type 0 where
  pub whole : IsTrue new.faults.is_whole → IsTrue old.faults.is_whole
  pub read : IsTrue new.faults.is_whole → is

-- what a reader answers and leaves is this
abbrev pub ReadsAs : {A : Type 0} → Parser → Parser → A → A × UnreadTokens → Type 0
ReadsAs old new answer x = ReadsTokens old new ((answer ≡ x.0) × (unread_of new ≡ x.1))
