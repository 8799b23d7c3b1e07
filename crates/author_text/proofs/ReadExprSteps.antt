-- Reading an expression, one call deeper.
use Rattle.std.proofs.Common.{◌≡◌, ℕ, ◌+◌, ◌-◌, ◌<◌, zero, suc, Bool, true, false, Option, Some, None, length, refl, ap, sym, ◌∙◌, arith, codes, if◌then◌else◌, List}
use Rattle.std.specs.Prelude.{◌&&◌}
use Rattle.author_text.specs.declared.source.BinaryOp.{BinaryOp}
use Rattle.author_text.specs.declared.token.Kind.{Kind}
use Rattle.author_text.specs.declared.token.Kind.TheVariants as kind
use Rattle.author_text.specs.declared.operators.Level.{Level}
use Rattle.author_text.specs.declared.operators.Level.TheVariants as level
use Rattle.author_text.specs.Printed.{closer}
use Rattle.author_text.specs.Tokens.{TokenTree, kind_token, number_token}
use Rattle.author_text.specs.Trees.{ExprTree, number, variable, size, empty, has, look, negation, binary}
use Rattle.author_text.specs.ReadExprs.{ReadExpr, is_level, no_expr, read_more, read_by, read_size, read_empty, read_has, negated, counted, unchained, operator_in, read_hold_behind}
use Rattle.author_text.specs.ReadExprs.{read_chain, read_operand, read_unit, read_inner, read_named, read_asked}
use Rattle.author_text.specs.UnreadTokens.{UnreadTokens, next_token, passed, is_at, eaten, needed, read_name, read_hold_or_it}
use Rattle.author_text.proofs.ReadExprLaws.{more_none}

less : (d : ℕ) → suc d - 1 ≡ d
less d = omega arith

pub chain_none : (d : ℕ) (l : Level) (u : UnreadTokens) → d ≡ 0 → read_chain d l u ≡ no_expr u
unfolding read_chain
chain_none zero l u e = refl
chain_none (suc d) l u e = absurd (omega arith)

pub chain_step : (d : ℕ) (l : Level) (u : UnreadTokens) → 0 < d → read_chain d l u ≡ (let x = read_operand (d - 1) l u in read_more (read_operand (d - 1) l) l (length x.1.tokens + 1) x.0 x.1)
unfolding read_chain
chain_step zero l u h = absurd (omega arith)
chain_step (suc d) l u h = rw (less d) refl

pub operand_none : (d : ℕ) (l : Level) (u : UnreadTokens) → d ≡ 0 → read_operand d l u ≡ no_expr u
unfolding read_operand
operand_none zero l u e = refl
operand_none (suc d) l u e = absurd (omega arith)

pub operand_step : (d : ℕ) (l : Level) (u : UnreadTokens) → 0 < d → read_operand d l u ≡ (
    if is_level l level.Product then read_unit (d - 1) u
    else if is_level l level.Compare && is_at (next_token u) (codes "not") then negated (read_chain (d - 1) l (passed u))
    else read_chain (d - 1) (closer l) u)
unfolding read_operand
operand_step zero l u h = absurd (omega arith)
operand_step (suc d) l u h = rw (less d) refl

pub unit_none : (d : ℕ) (u : UnreadTokens) → d ≡ 0 → read_unit d u ≡ no_expr u
unfolding read_unit
unit_none zero u e = refl
unit_none (suc d) u e = absurd (omega arith)

pub unit_step : (d : ℕ) (u : UnreadTokens) → 0 < d → read_unit d u ≡ read_by (next_token u) (read_named (d - 1)) (read_asked (d - 1)) (read_inner (d - 1) (codes ")")) u
unfolding read_unit
unit_step zero u h = absurd (omega arith)
unit_step (suc d) u h = rw (less d) refl

pub inner_none : (d : ℕ) (close : List ℕ) (u : UnreadTokens) → d ≡ 0 → read_inner d close u ≡ no_expr u
unfolding read_inner
inner_none zero close u e = refl
inner_none (suc d) close u e = absurd (omega arith)

pub inner_step : (d : ℕ) (close : List ℕ) (u : UnreadTokens) → 0 < d → read_inner d close u ≡ (let x = read_chain (d - 1) level.Or u in (x.0, needed close x.1))
unfolding read_inner
inner_step zero close u h = absurd (omega arith)
inner_step (suc d) close u h = rw (less d) refl

pub named_none : (d : ℕ) (u : UnreadTokens) → d ≡ 0 → read_named d u ≡ no_expr u
unfolding read_named
named_none zero u e = refl
named_none (suc d) u e = absurd (omega arith)

pub named_step : (d : ℕ) (u : UnreadTokens) → 0 < d → read_named d u ≡ (
    let n = read_name u in
    if is_at (next_token n.1) (codes "[") then (let x = read_inner (d - 1) (codes "]") (passed n.1) in (look n.0 x.0, x.1)) else (variable n.0, n.1))
unfolding read_named
named_step zero u h = absurd (omega arith)
named_step (suc d) u h = rw (less d) refl

pub asked_none : (d : ℕ) (u : UnreadTokens) → d ≡ 0 → read_asked d u ≡ no_expr u
unfolding read_asked
asked_none zero u e = refl
asked_none (suc d) u e = absurd (omega arith)

pub asked_step : (d : ℕ) (u : UnreadTokens) → 0 < d → read_asked d u ≡ (
    if is_at (next_token u) (codes "size") then read_size (passed u)
    else if is_at (next_token u) (codes "empty") then read_empty (passed u)
    else if is_at (next_token u) (codes "has") then read_has (read_inner (d - 1) (codes ")")) (passed u)
    else no_expr u)
unfolding read_asked
asked_step zero u h = absurd (omega arith)
asked_step (suc d) u h = rw (less d) refl

pub eaten_is : (text : List ℕ) (u : UnreadTokens) → is_at (next_token u) text ≡ true → eaten text u ≡ passed u
eaten_is text u h = rw h refl

pub eaten_not : (text : List ℕ) (u : UnreadTokens) → is_at (next_token u) text ≡ false → eaten text u ≡ u
eaten_not text u h = rw h refl

-- what a word that is eaten answers and leaves
abbrev pub Eats : List ℕ → UnreadTokens → Bool → UnreadTokens → Type 0
Eats text u b v = (b ≡ is_at (next_token u) text) × (v ≡ eaten text u)

pub ate : (text : List ℕ) (u v : UnreadTokens) (b : Bool) → Eats text u b v → b ≡ true → (is_at (next_token u) text ≡ true) × (v ≡ passed u)
ate text u v b e t = let is = sym e.0 ∙ t in (is, e.1 ∙ eaten_is text u is)

pub left_it : (text : List ℕ) (u v : UnreadTokens) (b : Bool) → Eats text u b v → b ≡ false → (is_at (next_token u) text ≡ false) × (v ≡ u)
left_it text u v b e t = let is = sym e.0 ∙ t in (is, e.1 ∙ eaten_not text u is)

asked_is_size : (d : ℕ) (u : UnreadTokens) → 0 < d → is_at (next_token u) (codes "size") ≡ true → read_asked d u ≡ read_size (passed u)
asked_is_size d u h is = asked_step d u h ∙ rw is refl

asked_is_empty : (d : ℕ) (u : UnreadTokens) → 0 < d → is_at (next_token u) (codes "size") ≡ false → is_at (next_token u) (codes "empty") ≡ true
    → read_asked d u ≡ read_empty (passed u)
asked_is_empty d u h n is = asked_step d u h ∙ rw n (rw is refl)

asked_is_has : (d : ℕ) (u : UnreadTokens) → 0 < d → is_at (next_token u) (codes "size") ≡ false → is_at (next_token u) (codes "empty") ≡ false
    → is_at (next_token u) (codes "has") ≡ true → read_asked d u ≡ read_has (read_inner (d - 1) (codes ")")) (passed u)
asked_is_has d u h n m is = asked_step d u h ∙ rw n (rw m (rw is refl))

pub asked_size : (d : ℕ) (u v w x y : UnreadTokens) (b : Bool) (of : Option (List ℕ)) → 0 < d → Eats (codes "size") u b v → b ≡ true
    → w ≡ needed (codes "(") v → (of ≡ (read_hold_or_it w).0) × (x ≡ (read_hold_or_it w).1) → y ≡ needed (codes ")") x
    → (size of ≡ (read_asked d u).0) × (y ≡ (read_asked d u).1)
asked_size d u v w x y b of h e t pw px py =
    let a = ate (codes "size") u v b e t in
    let q = asked_is_size d u h a.0 in
    let r : w ≡ needed (codes "(") (passed u) = pw ∙ ap (needed (codes "(")) a.1 in (
      ap size (px.0 ∙ ap (λ z. (read_hold_or_it z).0) r) ∙ ap (λ z. z.0) (sym q),
      py ∙ ap (needed (codes ")")) (px.1 ∙ ap (λ z. (read_hold_or_it z).1) r) ∙ ap (λ z. z.1) (sym q),
    )

pub asked_empty : (d : ℕ) (u u1 v x y : UnreadTokens) (b c : Bool) (name : List ℕ) → 0 < d → Eats (codes "size") u b u1 → b ≡ false
    → Eats (codes "empty") u1 c v → c ≡ true → (name ≡ (read_hold_behind v).0) × (x ≡ (read_hold_behind v).1) → y ≡ needed (codes ")") x
    → (empty name ≡ (read_asked d u).0) × (y ≡ (read_asked d u).1)
asked_empty d u u1 v x y b c name h e f e1 t px py =
    let n = left_it (codes "size") u u1 b e f in
    let a = ate (codes "empty") u1 v c e1 t in
    let q = asked_is_empty d u h n.0 (ap (λ z. is_at (next_token z) (codes "empty")) (sym n.1) ∙ a.0) in
    let r : v ≡ passed u = a.1 ∙ ap passed n.1 in (
      ap empty (px.0 ∙ ap (λ z. (read_hold_behind z).0) r) ∙ ap (λ z. z.0) (sym q),
      py ∙ ap (needed (codes ")")) (px.1 ∙ ap (λ z. (read_hold_behind z).1) r) ∙ ap (λ z. z.1) (sym q),
    )

pub asked_has : (d : ℕ) (u u1 u2 v w x y z : UnreadTokens) (b c g : Bool) (name : List ℕ) (e r : ExprTree) → 0 < d → Eats (codes "size") u b u1 → b ≡ false
    → Eats (codes "empty") u1 c u2 → c ≡ false → Eats (codes "has") u2 g v → g ≡ true
    → (name ≡ (read_hold_behind v).0) × (w ≡ (read_hold_behind v).1) → x ≡ needed (codes ",") w
    → (e ≡ (read_inner (d - 1) (codes ")") x).0) × (y ≡ (read_inner (d - 1) (codes ")") x).1) → (r ≡ has name e) × (z ≡ y)
    → (r ≡ (read_asked d u).0) × (z ≡ (read_asked d u).1)
asked_has d u u1 u2 v w x y z b c g name e r h p f p1 f1 p2 t pw px py pz =
    let n = left_it (codes "size") u u1 b p f in
    let n1 = left_it (codes "empty") u1 u2 c p1 f1 in
    let a = ate (codes "has") u2 v g p2 t in
    let s : u2 ≡ u = n1.1 ∙ n.1 in
    let q = asked_is_has d u h n.0 (ap (λ z. is_at (next_token z) (codes "empty")) (sym n.1) ∙ n1.0) (ap (λ z. is_at (next_token z) (codes "has")) (sym s) ∙ a.0) in
    let o : v ≡ passed u = a.1 ∙ ap passed s in
    let k : x ≡ needed (codes ",") (read_hold_behind (passed u)).1 = px ∙ ap (needed (codes ",")) (pw.1 ∙ ap (λ z. (read_hold_behind z).1) o) in (
      pz.0 ∙ ap (λ m. has m e) (pw.0 ∙ ap (λ z. (read_hold_behind z).0) o)
          ∙ ap (has (read_hold_behind (passed u)).0) (py.0 ∙ ap (λ z. (read_inner (d - 1) (codes ")") z).0) k) ∙ ap (λ z. z.0) (sym q),
      pz.1 ∙ py.1 ∙ ap (λ z. (read_inner (d - 1) (codes ")") z).1) k ∙ ap (λ z. z.1) (sym q),
    )

pub named_name : (d : ℕ) (u v w : UnreadTokens) (b : Bool) (name : List ℕ) → 0 < d → (name ≡ (read_name u).0) × (v ≡ (read_name u).1)
    → Eats (codes "[") v b w → b ≡ false → (variable name ≡ (read_named d u).0) × (w ≡ (read_named d u).1)
named_name d u v w b name h pv e f =
    let n = left_it (codes "[") v w b e f in
    let bare : is_at (next_token (read_name u).1) (codes "[") ≡ false = ap (λ z. is_at (next_token z) (codes "[")) (sym pv.1) ∙ n.0 in
    let q : read_named d u ≡ (variable (read_name u).0, (read_name u).1) = named_step d u h ∙ rw bare refl in
    (ap variable pv.0 ∙ ap (λ z. z.0) (sym q), n.1 ∙ pv.1 ∙ ap (λ z. z.1) (sym q))

pub named_look : (d : ℕ) (u v w x y : UnreadTokens) (b : Bool) (name : List ℕ) (e r : ExprTree) → 0 < d → (name ≡ (read_name u).0) × (v ≡ (read_name u).1)
    → Eats (codes "[") v b w → b ≡ true → (e ≡ (read_inner (d - 1) (codes "]") w).0) × (x ≡ (read_inner (d - 1) (codes "]") w).1)
    → (r ≡ look name e) × (y ≡ x) → (r ≡ (read_named d u).0) × (y ≡ (read_named d u).1)
named_look d u v w x y b name e r h pv p t px py =
    let a = ate (codes "[") v w b p t in
    let is : is_at (next_token (read_name u).1) (codes "[") ≡ true = ap (λ z. is_at (next_token z) (codes "[")) (sym pv.1) ∙ a.0 in
    let q : read_named d u ≡ (let x = read_inner (d - 1) (codes "]") (passed (read_name u).1) in (look (read_name u).0 x.0, x.1)) = named_step d u h ∙ rw is refl in
    let k : w ≡ passed (read_name u).1 = a.1 ∙ ap passed pv.1 in (
      py.0 ∙ ap (λ m. look m e) pv.0 ∙ ap (look (read_name u).0) (px.0 ∙ ap (λ z. (read_inner (d - 1) (codes "]") z).0) k) ∙ ap (λ z. z.0) (sym q),
      py.1 ∙ px.1 ∙ ap (λ z. (read_inner (d - 1) (codes "]") z).1) k ∙ ap (λ z. z.1) (sym q),
    )

pub operand_not : (d : ℕ) (l : Level) (u v w x : UnreadTokens) (b : Bool) (e r : ExprTree) → 0 < d → l ≡ level.Compare → b ≡ is_at (next_token u) (codes "not") → b ≡ true
    → v ≡ passed u → (e ≡ (read_chain (d - 1) l v).0) × (w ≡ (read_chain (d - 1) l v).1) → (r ≡ negation e) × (x ≡ w)
    → (r ≡ (read_operand d l u).0) × (x ≡ (read_operand d l u).1)
operand_not d l u v w x b e r h is pb t pv pw px =
    let p : is_level l level.Product ≡ false = ap (λ z. is_level z level.Product) is in
    let c : is_level l level.Compare ≡ true = ap (λ z. is_level z level.Compare) is in
    let n : is_at (next_token u) (codes "not") ≡ true = sym pb ∙ t in
    let q : read_operand d l u ≡ negated (read_chain (d - 1) l (passed u)) = operand_step d l u h ∙ rw p (rw c (rw n refl)) in (
      px.0 ∙ ap negation (pw.0 ∙ ap (λ z. (read_chain (d - 1) l z).0) pv) ∙ ap (λ z. z.0) (sym q),
      px.1 ∙ pw.1 ∙ ap (λ z. (read_chain (d - 1) l z).1) pv ∙ ap (λ z. z.1) (sym q),
    )

pub unit_number : (d : ℕ) (u v : UnreadTokens) (k : Kind) (text : List ℕ) (n : ℕ) → 0 < d → kind_token k text ≡ next_token u → k ≡ kind.Number n → v ≡ passed u
    → (number n ≡ (read_unit d u).0) × (v ≡ (read_unit d u).1)
unit_number d u v k text n h e is pv =
    let t : next_token u ≡ number_token n = sym e ∙ ap (λ z. kind_token z text) is in
    let q : read_unit d u ≡ (number n, passed u) =
    unit_step d u h ∙ ap (λ z. read_by z (read_named (d - 1)) (read_asked (d - 1)) (read_inner (d - 1) (codes ")")) u) t in
    (ap (λ z. z.0) (sym q), pv ∙ ap (λ z. z.1) (sym q))

more_some : (f : UnreadTokens → ReadExpr) (l : Level) (k : ℕ) (e : ExprTree) (u : UnreadTokens) (o : BinaryOp) → operator_in l (next_token u) ≡ Some o
    → read_more f l (suc k) e u ≡ read_more f l k (binary o e (f (passed (counted u))).0) (unchained l (f (passed (counted u))).1)
more_some f l k e u o h = rw (h, read_more) refl

-- one turn of the loop over the operators of a level
pub chain_more : (f : UnreadTokens → ReadExpr) (l : Level) (count counter : ℕ) (e r b : ExprTree) (o : BinaryOp) (u u1 u2 u3 u4 u5 : UnreadTokens) (all : ReadExpr)
    → counter < count → operator_in l (next_token u) ≡ Some o → u1 ≡ counted u → u2 ≡ passed u1 → (r ≡ (f u2).0) × (u3 ≡ (f u2).1)
    → (b ≡ binary o e r) × (u4 ≡ u3) → u5 ≡ unchained l u4 → read_more f l (count - counter) e u ≡ all
    → read_more f l (count - (counter + 1)) b u5 ≡ all
chain_more f l count counter e r b o u u1 u2 u3 u4 u5 all h is p1 p2 p3 p4 p5 p =
    let x : u2 ≡ passed (counted u) = p2 ∙ ap passed p1 in
    let eb : b ≡ binary o e (f (passed (counted u))).0 = p4.0 ∙ ap (binary o e) (p3.0 ∙ ap (λ z. (f z).0) x) in
    let eu : u5 ≡ unchained l (f (passed (counted u))).1 = p5 ∙ ap (unchained l) (p4.1 ∙ p3.1 ∙ ap (λ z. (f z).1) x) in
    let k : suc (count - (counter + 1)) ≡ count - counter = omega (arith, h) in
    ap (λ z. read_more f l (count - (counter + 1)) z u5) eb
    ∙ ap (λ z. read_more f l (count - (counter + 1)) (binary o e (f (passed (counted u))).0) z) eu
    ∙ sym (more_some f l (count - (counter + 1)) e u o is)
    ∙ ap (λ n. read_more f l n e u) k
    ∙ p

pub chain_done : (f : UnreadTokens → ReadExpr) (l : Level) (k : ℕ) (e : ExprTree) (u : UnreadTokens) (all : ReadExpr) → operator_in l (next_token u) ≡ None
    → read_more f l k e u ≡ all → (e ≡ all.0) × (u ≡ all.1)
chain_done f l k e u all s h = let q = sym (more_none f l k e u s) ∙ h in (ap (λ z. z.0) q, ap (λ z. z.1) q)
