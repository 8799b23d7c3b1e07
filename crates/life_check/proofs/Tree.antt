-- Which pools lie under which: what the module declares of two places is so of the live pools there.
use Rattle.std.proofs.Common.{◌≡◌, ℕ, zero, suc, ◌+◌, ◌<◌, Bool, true, false, ◌||◌, ◌==◌, ◌∷◌, Some, inl, inr, refl, sym, ◌∙◌, ap, subst, arith, eq-eqb, ne_eqb, eqb-true}
use Rattle.std.proofs.lemmas.Bool.{ltb-true, cases_lt}
use Rattle.std.proofs.lemmas.Bool.Decides.{eqb_tells}
use Rattle.module_code.specs.declared.instr.PoolRef.{PoolRef}
use Rattle.module_code.specs.declared.instr.PoolRef.TheVariants as pool
use Rattle.module_code.specs.Program.{Program, IsModule, pool_of_pool}
use Rattle.model_laws.specs.AsDeclared.{AsDeclared}
use Rattle.run_model.specs.declared.bucket.PoolVar.TheVariants as poolvar
use Rattle.run_model.specs.Pools.{is_in, is_live, is_under}
use Rattle.run_model.specs.Sound.{Sound}
use Rattle.run_model.specs.State.{Configuration, named_at, pool_named}
use Rattle.run_model.proofs.Formed.{formed_older}
use Rattle.model_laws.proofs.NamedPools.{own_named}
use Rattle.run_model.proofs.PoolMap.{not_under}
use Rattle.model_laws.proofs.chains.Apart.{rank, parent_rank, some_is}
use Rattle.run_model.proofs.RunOrderLaws.{under_itself}
use Rattle.life_state.specs.PoolOrder.{is_same_place, parent_of, under_within, is_under as is_declared_under, is_clearable}
use Rattle.life_state.proofs.Tests.{or_either, or_right}

-- Looks: a place's rank is how far it is from the connection's pool, at most.

pub clearable_rank : (k : PoolRef) → is_clearable k ≡ true → rank k < 10
clearable_rank pool.Conn h = omega arith
clearable_rank pool.Req h = omega arith
clearable_rank (pool.Own q) h = let lt : q < 8 = ltb-true q 8 h in omega arith

pub same_is : (a b : PoolRef) → is_same_place a b ≡ true → a ≡ b
same_is pool.Conn pool.Conn h = refl
same_is pool.Req pool.Req h = refl
same_is (pool.Own i) (pool.Own j) h = ap (λ (k : ℕ). pool.Own k) (eqb-true i j h)
same_is a b h = absurd (cc)

-- under the connection's pool is it alone
conn_only : (n : ℕ) (p : Program) (top : PoolRef) → under_within n p top pool.Conn ≡ true → is_same_place top pool.Conn ≡ true
unfolding under_within
conn_only zero p top h = absurd (cc)
conn_only (suc n) p top h = elim (or_either (is_same_place top pool.Conn) (under_within n p top pool.Conn) h) [
  | inl same ↦ same
  | inr deeper ↦ conn_only n p top deeper
]

-- more looks than the rank change nothing
enough : (a c : ℕ) (p : Program) → IsModule p → (top low : PoolRef) → rank low < c → under_within a p top low ≡ true → under_within c p top low ≡ true
unfolding under_within
enough a zero p m top low lt h = absurd (omega arith)
enough zero (suc c) p m top low lt h = absurd (cc)
enough (suc a) (suc c) p m top low lt h = elim (or_either (is_same_place top low) (under_within a p top (parent_of p low)) h) [
  | inl same ↦ ap (λ b. b || under_within c p top (parent_of p low)) same
  | inr deeper ↦ by_low low lt deeper (λ k below. enough a c p m top k below)
] where
  by_low : (low : PoolRef) → rank low < suc c → under_within a p top (parent_of p low) ≡ true → ((k : PoolRef) → rank k < c → under_within a p top k ≡ true → under_within c p top k ≡ true)
      → (is_same_place top low || under_within c p top (parent_of p low)) ≡ true
  by_low pool.Conn lt deeper next = ap (λ b. b || under_within c p top pool.Conn) (conn_only a p top deeper)
  by_low pool.Req lt deeper next = or_right (is_same_place top pool.Req) _ (next pool.Conn (omega arith) deeper)
  by_low (pool.Own q) lt deeper next = or_right (is_same_place top (pool.Own q)) _ (next (pool_of_pool p q) (omega (arith, parent_rank p m q)) deeper)

-- what lies under a pool lies under those above it
through : (b : ℕ) (p : Program) → IsModule p → (top mid low : PoolRef) → rank low < 10 → is_declared_under p top mid ≡ true → under_within b p mid low ≡ true → is_declared_under p top low ≡ true
unfolding under_within
through zero p m top mid low lt above h = absurd (cc)
through (suc b) p m top mid low lt above h = elim (or_either (is_same_place mid low) (under_within b p mid (parent_of p low)) h) [
  | inl same ↦ subst (λ (k : PoolRef). is_declared_under p top k ≡ true) (same_is mid low same) above
  | inr deeper ↦ by_low low lt deeper (λ k below. through b p m top mid k below above)
] where
  by_low : (low : PoolRef) → rank low < 10 → under_within b p mid (parent_of p low) ≡ true → ((k : PoolRef) → rank k < 10 → under_within b p mid k ≡ true → is_declared_under p top k ≡ true)
      → is_declared_under p top low ≡ true
  by_low pool.Conn lt deeper next = subst (λ (k : PoolRef). is_declared_under p top k ≡ true) (same_is mid pool.Conn (conn_only b p mid deeper)) above
  by_low pool.Req lt deeper next = or_right (is_same_place top pool.Req) (under_within 9 p top pool.Conn) (enough 10 9 p m top pool.Conn (omega arith) (next pool.Conn (omega arith) deeper))
  by_low (pool.Own q) lt deeper next =
      let below : rank (pool_of_pool p q) < 2 + q = parent_rank p m q in
      or_right (is_same_place top (pool.Own q)) (under_within 9 p top (pool_of_pool p q)) (enough 10 9 p m top (pool_of_pool p q) (omega arith) (next (pool_of_pool p q) (omega arith) deeper))

pub under_through : (p : Program) → IsModule p → (top mid low : PoolRef) → is_clearable low ≡ true → is_declared_under p top mid ≡ true → is_declared_under p mid low ≡ true
    → is_declared_under p top low ≡ true
under_through p m top mid low clears above below = through 10 p m top mid low (clearable_rank low clears) above below

-- Places and pools.

-- two places name one pool only where they are one
pub same_named : (p : Program) (r : Configuration) → Sound r → AsDeclared p r → (a b : PoolRef) (n m : ℕ) → pool_named r a ≡ Some n → pool_named r b ≡ Some m → (m == n) ≡ is_same_place a b
unfolding named_at
same_named p r s d pool.Conn pool.Conn n m e f = eq-eqb m n (sym (some_is r.shared.conn m f) ∙ some_is r.shared.conn n e)
same_named p r s d pool.Conn pool.Req n m e f = let lt : r.shared.conn < m = (s.pools.req m f).1 in ne_eqb m n (omega (arith, some_is r.shared.conn n e))
same_named p r s d pool.Conn (pool.Own j) n m e f = let lt : r.shared.conn < m = (s.pools.own j m (own_named j m r f)).0 in ne_eqb m n (omega (arith, some_is r.shared.conn n e))
same_named p r s d pool.Req pool.Conn n m e f = let lt : r.shared.conn < n = (s.pools.req n e).1 in ne_eqb m n (omega (arith, some_is r.shared.conn m f))
same_named p r s d pool.Req pool.Req n m e f = eq-eqb m n (some_is m n (sym f ∙ e))
same_named p r s d pool.Req (pool.Own j) n m e f = ne_eqb m n (λ is. (s.pools.own j m (own_named j m r f)).2 (e ∙ ap (λ (k : ℕ). Some k) (sym is)))
same_named p r s d (pool.Own i) pool.Conn n m e f = let lt : r.shared.conn < n = (s.pools.own i n (own_named i n r e)).0 in ne_eqb m n (omega (arith, some_is r.shared.conn m f))
same_named p r s d (pool.Own i) pool.Req n m e f = ne_eqb m n (λ is. (s.pools.own i n (own_named i n r e)).2 (f ∙ ap (λ (k : ℕ). Some k) is))
same_named p r s d (pool.Own i) (pool.Own j) n m e f = elim (eqb_tells i j) [
  | inl at ↦ eq-eqb m n (some_is m n (sym f ∙ subst (λ (k : ℕ). pool_named r (pool.Own k) ≡ Some n) at.1 e)) ∙ sym at.0
  | inr off ↦ ne_eqb m n (λ is. off.1 (d.apart i j n (own_named i n r e) (own_named j n r (f ∙ ap (λ (k : ℕ). Some k) is)))) ∙ sym off.0
]

either_same : (a b c d : Bool) → a ≡ b → c ≡ d → (a || c) ≡ (b || d)
either_same a b c d e f = ap (λ x. x || c) e ∙ ap (λ x. b || x) f

none_under : (looks : ℕ) (p : Program) (top : PoolRef) → is_same_place top pool.Conn ≡ false → under_within looks p top pool.Conn ≡ false
unfolding under_within
none_under zero p top h = refl
none_under (suc looks) p top h = ap (λ b. b || under_within looks p top pool.Conn) h ∙ none_under looks p top h

module _ (p : Program) (r : Configuration) (s : Sound r) where
  -- the connection's pool is under itself alone
  conn_under : (looks : ℕ) (top : PoolRef) (n : ℕ) → pool_named r top ≡ Some n → is_under r.shared.pools n r.shared.conn ≡ under_within (suc looks) p top pool.Conn
  unfolding named_at under_within
  conn_under looks pool.Conn n e = subst (λ (k : ℕ). is_under r.shared.pools k r.shared.conn ≡ true) (some_is r.shared.conn n e) (under_itself r.shared.pools s.pools.formed r.shared.conn s.pools.conn)
  conn_under looks pool.Req n e = not_under n r.shared.pools r.shared.conn (formed_older r.shared.pools s.pools.formed) (s.pools.req n e).1 ∙ sym (none_under looks p pool.Req refl)
  conn_under looks (pool.Own q) n e =
      not_under n r.shared.pools r.shared.conn (formed_older r.shared.pools s.pools.formed) (s.pools.own q n (own_named q n r e)).0 ∙ sym (none_under looks p (pool.Own q) refl)

  -- of a pool right under another
  step_under : (d : AsDeclared p r) (looks : ℕ) (top low up : PoolRef) (n k j : ℕ) → pool_named r top ≡ Some n → pool_named r low ≡ Some k → r.shared.pools.path k ≡ k ∷ r.shared.pools.path j
      → is_under r.shared.pools n j ≡ under_within looks p top up → is_under r.shared.pools n k ≡ (is_same_place top low || under_within looks p top up)
  unfolding is_under
  step_under d looks top low up n k j e f path above =
      ap (is_in n) path ∙ either_same (k == n) (is_same_place top low) (is_in n (r.shared.pools.path j)) (under_within looks p top up) (same_named p r s d top low n k e f) above

  under_at : IsModule p → AsDeclared p r → (looks : ℕ) (top low : PoolRef) (n k : ℕ) → rank low < looks → pool_named r top ≡ Some n → pool_named r low ≡ Some k → is_live r.shared.pools k ≡ true
      → is_under r.shared.pools n k ≡ under_within looks p top low
  unfolding under_within named_at
  under_at m d zero top low n k lt e f live = absurd (omega arith)
  under_at m d (suc looks) top pool.Conn n k lt e f live =
      subst (λ (j : ℕ). is_under r.shared.pools n j ≡ under_within (suc looks) p top pool.Conn) (some_is r.shared.conn k f) (conn_under looks top n e)
  under_at m d (suc looks) top pool.Req n k lt e f live =
      step_under d looks top pool.Req pool.Conn n k r.shared.conn e f (s.pools.req k f).0 (under_at m d looks top pool.Conn n r.shared.conn (omega arith) e refl s.pools.conn)
  under_at m d (suc looks) top (pool.Own q) n k lt e f live =
      let up = d.pools q k (own_named q k r f) live in
      step_under d looks top (pool.Own q) (pool_of_pool p q) n k up.0 e f up.3 (under_at m d looks top (pool_of_pool p q) n up.0 (omega (arith, parent_rank p m q)) e up.1 up.2)

-- a place of the instance has a number below 8
own_below : (p : Program) (r : Configuration) → AsDeclared p r → (low : PoolRef) (k : ℕ) → pool_named r low ≡ Some k → rank low < 10
unfolding named_at
own_below p r d pool.Conn k e = omega arith
own_below p r d pool.Req k e = omega arith
own_below p r d (pool.Own q) k e = elim (cases_lt q 8) [
  | inl lt ↦ omega arith
  | inr past ↦ absurd (let none : poolvar.Null ≡ poolvar.Made k = sym (d.slots q past) ∙ own_named q k r e in cc)
]

-- of two places whose pools are there, the one lies under the other as is declared
pub under_declared : (p : Program) (r : Configuration) → IsModule p → Sound r → AsDeclared p r → (top low : PoolRef) (n k : ℕ) → pool_named r top ≡ Some n → pool_named r low ≡ Some k
    → is_live r.shared.pools k ≡ true
    → is_under r.shared.pools n k ≡ is_declared_under p top low
under_declared p r m s d top low n k e f live = under_at p r s m d 10 top low n k (own_below p r d low k f) e f live
