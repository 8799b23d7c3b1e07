-- A path of a site, read as a route, is itself.
use Rattle.std.proofs.Common.{◌≡◌, ℕ, ◌<◌, List, [], ◌∷◌, ◌++◌, Option, Some, None, Result, Ok, Err, Bool, true, false, cond, refl, sym, ap, ◌∙◌, arith, ◌==◌, ◌&&◌, ltb, append_assoc, append-nil}
use Rattle.std.proofs.Common.{zero, suc, lit<}
use Rattle.std.proofs.lemmas.Bool.Decides.{nat_tests}
use Rattle.std.proofs.lemmas.Str.{IsUtf8-from_ascii}
use Rattle.std.specs.Str.{IsAscii, IsUtf8}
use Rattle.std.specs.List.{list_all}
use Rattle.matchit.specs.Rows.{RowsOf, comes_before, param_token, catch_all_token}
use Rattle.matchit.specs.Route.{Scan, scan, parse_route, shape_error, outside}
use Rattle.matchit.specs.Router.{RouteOf, InsertsRead, route_from, map_key}
use Rattle.matchit.specs.Order.{placed, lookup}
use Rattle.matchit.specs.Seek.{same_text, first}
use Rattle.matchit.specs.declared.error.InsertError.{InsertError}
use Rattle.http_message.specs.Routes.{is_path_byte, is_site_path, have_site_paths}
use Rattle.http_message.specs.Asking.{is_origin}
use Rattle.http_message.proofs.Literal.{TokensAreBytes, AreLiteral, same-text, first-lookup, lookup-placed}

pub both : (a b : Bool) → (a && b) ≡ true → (a ≡ true) × (b ≡ true)
both true b e = (refl, e)
both false b e = cc

pub path-byte-low : (b : ℕ) → is_path_byte b ≡ true → b < 128
path-byte-low b h = grind (arith, nat_tests)

pub path-byte-open : (b : ℕ) → is_path_byte b ≡ true → (b == 123) ≡ false
path-byte-open b h = grind (arith, nat_tests)

pub path-byte-close : (b : ℕ) → is_path_byte b ≡ true → (b == 125) ≡ false
path-byte-close b h = grind (arith, nat_tests)

-- what a scan knows after these bytes
abbrev pub seen : List ℕ → Scan
seen w = record { pattern = w; text = w; names = []; name_start = 0; catch_all = false; mode = outside }

pub scan-path : (w p : List ℕ) → list_all is_path_byte p ≡ true → scan (seen w) p ≡ Ok (seen (w ++ p))
unfolding scan
scan-path w [] h = rw append-nil refl
scan-path w (b ∷ p) h =
    let g = both (is_path_byte b) (list_all is_path_byte p) h in
    let o = path-byte-open b g.0 in
    let c = path-byte-close b g.0 in
    rw (o, c) (scan-path (w ++ b ∷ []) p g.1 ∙ ap (λ z. Ok (seen z)) (append_assoc w (b ∷ []) p))

pub path-bytes : (p : List ℕ) → list_all is_path_byte p ≡ true → TokensAreBytes p
path-bytes [] h = tt
path-bytes (b ∷ p) h =
    let g = both (is_path_byte b) (list_all is_path_byte p) h in
    let l : b < 128 = path-byte-low b g.0 in
    (omega arith, path-bytes p g.1)

pub shape-bytes : (p : List ℕ) → TokensAreBytes p → shape_error p ≡ None
shape-bytes [] h = refl
shape-bytes (x ∷ p) h =
    let low : x < 256 = h.0 in
    let a : ltb catch_all_token x ≡ false = grind (arith, nat_tests) in
    let b : (x == param_token) ≡ false = grind (arith, nat_tests) in
    let c : (x == catch_all_token) ≡ false = grind (arith, nat_tests) in
    rw (a, b, c) (shape-bytes p h.1)

pub site-path-bytes : (p : List ℕ) → is_site_path p ≡ true → list_all is_path_byte p ≡ true
unfolding is_site_path
site-path-bytes p h = (both (is_origin p) (list_all is_path_byte p) h).1

-- a path of a site is a route without parameters, written as it is
pub parse-path : (p : List ℕ) → is_site_path p ≡ true → parse_route p ≡ Ok (seen p)
parse-path p h =
    let g = site-path-bytes p h in
    rw (scan-path [] p g, shape-bytes p (path-bytes p g)) refl

pub path-ascii : (p : List ℕ) → list_all is_path_byte p ≡ true → IsAscii p
path-ascii [] h i = lit< tt
path-ascii (b ∷ p) h zero = path-byte-low b (both (is_path_byte b) (list_all is_path_byte p) h).0
path-ascii (b ∷ p) h (suc i) = path-ascii p (both (is_path_byte b) (list_all is_path_byte p) h).1 i

pub path-utf8 : (p : List ℕ) → is_site_path p ≡ true → IsUtf8 p
path-utf8 p h = IsUtf8-from_ascii p (path-ascii p (site-path-bytes p h))

module _ {K : Type 0} where
  pub paths-literal : (rows : RowsOf K) → have_site_paths rows ≡ true → AreLiteral rows
  unfolding have_site_paths
  paths-literal [] h = tt
  paths-literal ((t, k) ∷ rest) h =
      let g = both (is_site_path t) (have_site_paths rest) h in
      (path-bytes t (site-path-bytes t g.0), paths-literal rest g.1)

  pub paths-placed : (p : List ℕ) (k : K) (rows : RowsOf K) → is_site_path p ≡ true → have_site_paths rows ≡ true → have_site_paths (placed (p, k) rows) ≡ true
  unfolding have_site_paths
  paths-placed p k [] g h = rw g refl
  paths-placed p k ((t, j) ∷ rest) g h = by (comes_before p t) h (λ e. paths-placed p k rest g e)
    where
      by : (v : Bool) → (is_site_path t && have_site_paths rest) ≡ true → (have_site_paths rest ≡ true → have_site_paths (placed (p, k) rest) ≡ true)
          → have_site_paths (cond v ((p, k) ∷ (t, j) ∷ rest) ((t, j) ∷ placed (p, k) rest)) ≡ true
      by true e ih = rw (g, e) refl
      by false e ih =
          let w = both (is_site_path t) (have_site_paths rest) e in
          rw (w.0, ih w.1) refl

  -- what is found under a path shows that the path is a site's
  pub lookup-utf8 : (p : List ℕ) (rows : RowsOf K) → have_site_paths rows ≡ true → (IsUtf8 p → ⊥) → lookup p rows ≡ None
  unfolding have_site_paths
  lookup-utf8 p [] h n = refl
  lookup-utf8 p ((t, k) ∷ rest) h n =
      by (same_text t p) refl (lookup-utf8 p rest (both (is_site_path t) (have_site_paths rest) h).1 n)
    where
      by : (v : Bool) → same_text t p ≡ v → lookup p rest ≡ None → cond v (Some k) (lookup p rest) ≡ None
      by true e ih =
          let tp : t ≡ p = same-text t p e in
          absurd (n (rw tp at (path-utf8 t (both (is_site_path t) (have_site_paths rest) h).0)))
      by false e ih = ih

  pub paths-none : (rows : RowsOf K) → rows ≡ [] → have_site_paths rows ≡ true
  unfolding have_site_paths
  paths-none rows e = rw e refl

  -- what the router answers is the row that is written as the path is
  pub found : (rows : RowsOf K) (path text : List ℕ) (r : Option K) → have_site_paths rows ≡ true → text ≡ path → first rows text ≡ r → lookup path rows ≡ r
  found rows path text r h same e =
      let g = first-lookup rows text (paths-literal rows h) in
      rw (← same) (sym g ∙ e)

  pub no-key : (f : K → List ℕ) (o : Option K) → map_key f o ≡ None → o ≡ None
  no-key f None e = refl
  no-key f (Some k) e = cc

  pub placed-map : (f : K → List ℕ) (p : List ℕ) (k : K) (rows : RowsOf K) (q : List ℕ) → lookup p rows ≡ None
      → map_key f (lookup q (placed (p, k) rows)) ≡ cond (same_text p q) (Some (f k)) (map_key f (lookup q rows))
  placed-map f p k rows q e = rw (lookup-placed p k rows q e) (by (same_text p q))
    where
      by : (v : Bool) → map_key f (cond v (Some k) (lookup q rows)) ≡ cond v (Some (f k)) (map_key f (lookup q rows))
      by true = refl
      by false = refl

module _ {V : Type 0} (value : V) (old new : RowsOf (RouteOf V)) (p : List ℕ) (good : is_site_path p ≡ true) where
  pub put-ok : (u : Unit {0}) → InsertsRead (parse_route p) value old new (Ok u) → new ≡ placed (p, route_from (seen p) value) old
  put-ok u h = (rw (parse-path p good) at h).1

  pub put-err : (e : InsertError) → InsertsRead (parse_route p) value old new (Err e) → new ≡ old
  put-err e h = (rw (parse-path p good) at h).0

  pub put-paths : (r : Result (Unit {0}) InsertError) → InsertsRead (parse_route p) value old new r → have_site_paths old ≡ true → have_site_paths new ≡ true
  put-paths (Ok u) h e = rw (put-ok u h) (paths-placed p (route_from (seen p) value) old good e)
  put-paths (Err x) h e = rw (put-err x h) e

  pub put-map : (f : RouteOf V → List ℕ) (file : List ℕ) (u : Unit {0}) → InsertsRead (parse_route p) value old new (Ok u)
      → map_key f (lookup p old) ≡ None → f (route_from (seen p) value) ≡ file → (q : List ℕ)
      → map_key f (lookup q new) ≡ cond (same_text p q) (Some file) (map_key f (lookup q old))
  put-map f file u h free same q =
      rw (put-ok u h, placed-map f p (route_from (seen p) value) old q (no-key f (lookup p old) free), same) refl
