-- The printed text of lists, item by item.
use Rattle.std.proofs.Common.{◌≡◌, ℕ, ◌≤◌, ◌-◌, List, [], ◌∷◌, ◌++◌, length, get_or, take}
use Rattle.std.proofs.Common.{drop, map, refl, ap, ◌∙◌, sym, append_assoc, codes, true, false, cond, arith}
use Rattle.std.specs.List.{flat_map}
use Rattle.std.proofs.lemmas.List.{take_all}
use Rattle.std.proofs.lemmas.List.Folds.{flat_map-map}
use Rattle.author_text.specs.declared.source.Stmt.{Stmt}
use Rattle.author_text.specs.Trees.{stmt_of, body_of, stmts_of}
use Rattle.author_text.specs.PrintedSource.{line, listed, stmt_text, body_text, block_of, other_text, is_choice}

-- a statement's line
abbrev stmt_line : Stmt → List ℕ
stmt_line s = line (stmt_text (stmt_of s))

abbrev block_text : List Stmt → List ℕ
block_text ss = block_of (body_text (stmts_of ss))

pub body_lines : (ss : List Stmt) → flat_map stmt_line ss ≡ body_text (body_of (map stmt_of ss))
body_lines [] = refl
body_lines (s ∷ ss) = ap (λ t. stmt_line s ++ t) (body_lines ss)

-- what `block` writes in four parts
pub block_parts : (before : List ℕ) (ss : List Stmt)
    → before ++ (123 ∷ 10 ∷ []) ++ flat_map stmt_line ss ++ (125 ∷ []) ≡ before ++ block_text ss
block_parts before ss =
    ap (λ t. t ++ (125 ∷ [])) (append_assoc before (123 ∷ 10 ∷ []) (flat_map stmt_line ss))
    ∙ append_assoc before ((123 ∷ 10 ∷ []) ++ flat_map stmt_line ss) (125 ∷ [])
    ∙ ap (λ t. before ++ (((123 ∷ 10 ∷ []) ++ t) ++ (125 ∷ []))) (body_lines ss)

pub mapped : {A B : Type 0} (h : B → List ℕ) (v : A → B) (xs : List A) → flat_map h (map v xs) ≡ flat_map (λ x. h (v x)) xs
mapped h v xs = flat_map-map h v xs

-- all behind the first
rest_of : {A : Type 0} (x : A) (xs : List A) → take (length (x ∷ xs) - 1) xs ≡ xs
rest_of x xs = take_all (length (x ∷ xs) - 1) xs (omega arith)

-- items in brackets, one after the other
pub listed_parts : {A B : Type 0} (shown : B → List ℕ) (v : A → B) (x d : A) (xs : List A) → 1 ≤ length xs
    → x ≡ get_or xs 0 d
    → codes "(" ++ shown (v x) ++ flat_map (λ y. codes ", " ++ shown (v y)) (take (length xs - 1) (drop 1 xs)) ++ codes ")" ≡ listed shown (map v xs)
listed_parts shown v x d [] n is = absurd (omega arith)
listed_parts shown v x d (y ∷ ys) n is =
    ap (λ l. codes "(" ++ shown (v x) ++ flat_map (λ z. codes ", " ++ shown (v z)) l ++ codes ")") (rest_of y ys)
    ∙ ap (λ t. codes "(" ++ (shown (v x) ++ t) ++ codes ")") (sym (mapped (λ z. codes ", " ++ shown z) v ys))
    ∙ ap (λ z. listed shown (map v (z ∷ ys))) is

-- what follows `else`, where it is more than one statement
pub other_block : (ss : List Stmt) → 2 ≤ length ss → codes " else " ++ block_text ss ≡ other_text (stmts_of ss)
other_block [] n = absurd (omega arith)
other_block (s ∷ []) n = absurd (omega arith)
other_block (s ∷ t ∷ ss) n = refl

-- where it is one
pub other_alone : (s : Stmt) (ss : List Stmt) → length ss ≡ 1 → s ≡ get_or ss 0 s → is_choice (stmt_of s) ≡ true
    → codes " else " ++ stmt_text (stmt_of s) ≡ other_text (stmts_of ss)
other_alone s [] n is b = absurd (omega arith)
other_alone s (t ∷ []) n is b =
    ap (λ u. codes " else " ++ stmt_text (stmt_of u)) is
    ∙ ap (λ v. codes " else " ++ cond v (stmt_text (stmt_of t)) (block_text (t ∷ []))) (sym (sym (ap (λ u. is_choice (stmt_of u)) is) ∙ b))
other_alone s (t ∷ u ∷ ss) n is b = absurd (omega arith)

pub other_alone_block : (s : Stmt) (ss : List Stmt) → length ss ≡ 1 → s ≡ get_or ss 0 s → is_choice (stmt_of s) ≡ false
    → codes " else " ++ block_text ss ≡ other_text (stmts_of ss)
other_alone_block s [] n is b = absurd (omega arith)
other_alone_block s (t ∷ []) n is b =
    ap (λ v. codes " else " ++ cond v (stmt_text (stmt_of t)) (block_text (t ∷ []))) (sym (sym (ap (λ u. is_choice (stmt_of u)) is) ∙ b))
other_alone_block s (t ∷ u ∷ ss) n is b = absurd (omega arith)
