-- Reading a statement, one call deeper.
use Rattle.std.proofs.Common.{◌≡◌, ℕ, ◌+◌, ◌-◌, ◌<◌, zero, suc, Bool, true, false, List, [], ◌∷◌, Option, Some, None, length, refl, ap, sym, ◌∙◌, arith, codes, if◌then◌else◌}
use Rattle.std.specs.Prelude.{bytes_eq}
use Rattle.author_text.specs.ReadExprs.{read_expr}
use Rattle.author_text.specs.ReadStmts.{ReadStmt, ReadStmts, no_stmt, ends_block, stmt_at, read_other, read_plain, read_block, read_stmt, read_worded, read_choice, read_walk}
use Rattle.author_text.specs.ReadTexts.{read_items, read_name_behind}
use Rattle.author_text.specs.Trees.{ExprTree, StmtTree, choice, repeat, walk, body_of}
use Rattle.author_text.specs.UnreadTokens.{UnreadTokens, next_token, refused, needed, read_name, read_hold_or_it}

less : (d : ℕ) → suc d - 1 ≡ d
less d = omega arith

pub block_none : (d : ℕ) (u : UnreadTokens) → d ≡ 0 → read_block d u ≡ ([], refused u)
unfolding read_block
block_none zero u e = refl
block_none (suc d) u e = absurd (omega arith)

pub block_step : (d : ℕ) (u : UnreadTokens) → 0 < d → read_block d u ≡ (
    let v = needed (codes "{") u in
    let x = read_items ends_block (read_stmt (d - 1)) (length v.tokens + 1) v in
    (x.0, needed (codes "}") x.1))
unfolding read_block
block_step zero u h = absurd (omega arith)
block_step (suc d) u h = rw (less d) refl

pub stmt_none : (d : ℕ) (u : UnreadTokens) → d ≡ 0 → read_stmt d u ≡ no_stmt u
unfolding read_stmt
stmt_none zero u e = refl
stmt_none (suc d) u e = absurd (omega arith)

pub stmt_step : (d : ℕ) (u : UnreadTokens) → 0 < d → read_stmt d u ≡ stmt_at (next_token u) (read_worded (d - 1)) u
unfolding read_stmt
stmt_step zero u h = absurd (omega arith)
stmt_step (suc d) u h = rw (less d) refl

pub worded_none : (d : ℕ) (text : List ℕ) (u : UnreadTokens) → d ≡ 0 → read_worded d text u ≡ no_stmt u
unfolding read_worded
worded_none zero text u e = refl
worded_none (suc d) text u e = absurd (omega arith)

pub worded_step : (d : ℕ) (text : List ℕ) (u : UnreadTokens) → 0 < d → read_worded d text u ≡ (
    if bytes_eq text (codes "if") then read_choice (d - 1) u
    else if bytes_eq text (codes "for") then read_walk (d - 1) u
    else if bytes_eq text (codes "while") then (let e = read_expr u in let b = read_block (d - 1) e.1 in (repeat (Some e.0) (body_of b.0), b.1))
    else if bytes_eq text (codes "loop") then (let b = read_block (d - 1) u in (repeat None (body_of b.0), b.1))
    else read_plain text u)
unfolding read_worded
worded_step zero text u h = absurd (omega arith)
worded_step (suc d) text u h = rw (less d) refl

pub choice_none : (d : ℕ) (u : UnreadTokens) → d ≡ 0 → read_choice d u ≡ no_stmt u
unfolding read_choice
choice_none zero u e = refl
choice_none (suc d) u e = absurd (omega arith)

pub choice_step : (d : ℕ) (u : UnreadTokens) → 0 < d → read_choice d u ≡ (
    let e = read_expr u in
    let t = read_block (d - 1) e.1 in
    let o = read_other (read_choice (d - 1)) (read_block (d - 1)) t.1 in
    (choice e.0 (body_of t.0) (body_of o.0), o.1))
unfolding read_choice
choice_step zero u h = absurd (omega arith)
choice_step (suc d) u h = rw (less d) refl

pub walk_none : (d : ℕ) (u : UnreadTokens) → d ≡ 0 → read_walk d u ≡ no_stmt u
unfolding read_walk
walk_none zero u e = refl
walk_none (suc d) u e = absurd (omega arith)

pub walk_step : (d : ℕ) (u : UnreadTokens) → 0 < d → read_walk d u ≡ (
    let n = read_name (needed (codes "byte") u) in
    let i = read_name_behind (codes "at") n.1 in
    let o = read_hold_or_it (needed (codes "in") i.1) in
    let b = read_block (d - 1) o.1 in
    (walk n.0 i.0 o.0 (body_of b.0), b.1))
unfolding read_walk
walk_step zero u h = absurd (omega arith)
walk_step (suc d) u h = rw (less d) refl

pub choice_all : (d : ℕ) (u u1 u2 u3 : UnreadTokens) (e : ExprTree) (t o : List StmtTree) → 0 < d → (e ≡ (read_expr u).0) × (u1 ≡ (read_expr u).1)
    → (t ≡ (read_block (d - 1) u1).0) × (u2 ≡ (read_block (d - 1) u1).1)
    → (o ≡ (read_other (read_choice (d - 1)) (read_block (d - 1)) u2).0) × (u3 ≡ (read_other (read_choice (d - 1)) (read_block (d - 1)) u2).1)
    → (choice e (body_of t) (body_of o) ≡ (read_choice d u).0) × (u3 ≡ (read_choice d u).1)
choice_all d u u1 u2 u3 e t o h p q r =
    let s = choice_step d u h in
    let other = read_other (read_choice (d - 1)) (read_block (d - 1)) in
    let block = read_block (d - 1) in
    let b : u2 ≡ (block (read_expr u).1).1 = q.1 ∙ ap (λ z. (block z).1) p.1 in (
      ap (λ z. choice z (body_of t) (body_of o)) p.0 ∙ ap (λ z. choice (read_expr u).0 (body_of z) (body_of o)) (q.0 ∙ ap (λ z. (block z).0) p.1)
          ∙ ap (λ z. choice (read_expr u).0 (body_of (block (read_expr u).1).0) (body_of z)) (r.0 ∙ ap (λ z. (other z).0) b) ∙ ap (λ z. z.0) (sym s),
      r.1 ∙ ap (λ z. (other z).1) b ∙ ap (λ z. z.1) (sym s),
    )

pub walk_all : (d : ℕ) (u u1 u2 u3 u4 u5 u6 : UnreadTokens) (name : List ℕ) (index over : Option (List ℕ)) (b : List StmtTree) → 0 < d → u1 ≡ needed (codes "byte") u
    → (name ≡ (read_name u1).0) × (u2 ≡ (read_name u1).1) → (index ≡ (read_name_behind (codes "at") u2).0) × (u3 ≡ (read_name_behind (codes "at") u2).1)
    → u4 ≡ needed (codes "in") u3 → (over ≡ (read_hold_or_it u4).0) × (u5 ≡ (read_hold_or_it u4).1)
    → (b ≡ (read_block (d - 1) u5).0) × (u6 ≡ (read_block (d - 1) u5).1)
    → (walk name index over (body_of b) ≡ (read_walk d u).0) × (u6 ≡ (read_walk d u).1)
walk_all d u u1 u2 u3 u4 u5 u6 name index over b h p1 p2 p3 p4 p5 p6 =
    let s = walk_step d u h in
    let n = read_name (needed (codes "byte") u) in
    let i = read_name_behind (codes "at") n.1 in
    let o = read_hold_or_it (needed (codes "in") i.1) in
    let e2 : u2 ≡ n.1 = p2.1 ∙ ap (λ z. (read_name z).1) p1 in
    let e4 : u4 ≡ needed (codes "in") i.1 = p4 ∙ ap (needed (codes "in")) (p3.1 ∙ ap (λ z. (read_name_behind (codes "at") z).1) e2) in
    let e5 : u5 ≡ o.1 = p5.1 ∙ ap (λ z. (read_hold_or_it z).1) e4 in (
      ap (λ z. walk z index over (body_of b)) (p2.0 ∙ ap (λ z. (read_name z).0) p1) ∙ ap (λ z. walk n.0 z over (body_of b)) (p3.0 ∙ ap (λ z. (read_name_behind (codes "at") z).0) e2)
          ∙ ap (λ z. walk n.0 i.0 z (body_of b)) (p5.0 ∙ ap (λ z. (read_hold_or_it z).0) e4)
          ∙ ap (λ z. walk n.0 i.0 o.0 (body_of z)) (p6.0 ∙ ap (λ z. (read_block (d - 1) z).0) e5) ∙ ap (λ z. z.0) (sym s),
      p6.1 ∙ ap (λ z. (read_block (d - 1) z).1) e5 ∙ ap (λ z. z.1) (sym s),
    )

pub worded_while : (d : ℕ) (text : List ℕ) (u u1 u2 : UnreadTokens) (e : ExprTree) (b : List StmtTree) → 0 < d → bytes_eq text (codes "if") ≡ false → bytes_eq text (codes "for") ≡ false
    → bytes_eq text (codes "while") ≡ true → (e ≡ (read_expr u).0) × (u1 ≡ (read_expr u).1) → (b ≡ (read_block (d - 1) u1).0) × (u2 ≡ (read_block (d - 1) u1).1)
    → (repeat (Some e) (body_of b) ≡ (read_worded d text u).0) × (u2 ≡ (read_worded d text u).1)
worded_while d text u u1 u2 e b h n m is p q =
    let block = read_block (d - 1) in
    let s : read_worded d text u ≡ (repeat (Some (read_expr u).0) (body_of (block (read_expr u).1).0), (block (read_expr u).1).1) = worded_step d text u h ∙ rw n (rw m (rw is refl)) in (
      ap (λ z. repeat (Some z) (body_of b)) p.0 ∙ ap (λ z. repeat (Some (read_expr u).0) (body_of z)) (q.0 ∙ ap (λ z. (block z).0) p.1) ∙ ap (λ z. z.0) (sym s),
      q.1 ∙ ap (λ z. (block z).1) p.1 ∙ ap (λ z. z.1) (sym s),
    )

pub worded_loop : (d : ℕ) (text : List ℕ) (u u1 : UnreadTokens) (b : List StmtTree) → 0 < d → bytes_eq text (codes "if") ≡ false → bytes_eq text (codes "for") ≡ false
    → bytes_eq text (codes "while") ≡ false → bytes_eq text (codes "loop") ≡ true → (b ≡ (read_block (d - 1) u).0) × (u1 ≡ (read_block (d - 1) u).1)
    → (repeat None (body_of b) ≡ (read_worded d text u).0) × (u1 ≡ (read_worded d text u).1)
worded_loop d text u u1 b h n m l is q =
    let block = read_block (d - 1) in
    let s : read_worded d text u ≡ (repeat None (body_of (block u).0), (block u).1) = worded_step d text u h ∙ rw n (rw m (rw l (rw is refl))) in
    (ap (λ z. repeat None (body_of z)) q.0 ∙ ap (λ z. z.0) (sym s), q.1 ∙ ap (λ z. z.1) (sym s))
