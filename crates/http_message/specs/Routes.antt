-- The paths that a site takes (RFC 3986, section 2.3: the unreserved characters, and the slash).
use Rattle.std.specs.Prelude.{ℕ, Bool, true, ◌&&◌, ◌||◌, ◌==◌, List, [], ◌∷◌}
use Rattle.std.specs.Char.{is_ascii_alphanumeric}
use Rattle.std.specs.List.{list_all}
use Rattle.matchit.specs.Rows.{RowsOf}
use Rattle.http_message.specs.Asking.{is_origin}

-- a letter, a digit, or one of `-`, `.`, `_`, `~` and `/`
abbrev pub is_path_byte : ℕ → Bool
is_path_byte b =
    is_ascii_alphanumeric b || b == 45 || b == 46 || b == 95 || b == 126 || b == 47

-- such bytes, and a slash is the first
unfoldable pub is_site_path : List ℕ → Bool
is_site_path path = is_origin path && list_all is_path_byte path

-- each row has such a path as its pattern
unfoldable pub have_site_paths : {K : Type 0} → RowsOf K → Bool
have_site_paths [] = true
have_site_paths ((path, _) ∷ rest) = is_site_path path && have_site_paths rest
