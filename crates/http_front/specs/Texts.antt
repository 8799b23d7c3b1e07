-- The text of a response that lies in parts.
use Rattle.std.specs.Prelude.{ℕ, List, ◌++◌}
use Rattle.http_front.specs.declared.response.ResponseText.{ResponseText}

-- the parts, one after another
abbrev pub text_of : ResponseText → List ℕ
text_of t = t.head.items ++ t.body ++ t.tail.items
