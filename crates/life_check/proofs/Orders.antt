-- A state above one that describes a run describes it.
use Rattle.std.proofs.Common.{◌≡◌, ℕ, Bool, true, false, ◌&&◌, ◌==◌, cond, List, inl, inr, refl, sym, subst, eqb-true}
use Rattle.std.proofs.lemmas.Bool.{ltb-true, cases_lt}
use Rattle.module_code.specs.declared.instr.PoolRef.{PoolRef}
use Rattle.module_code.specs.declared.instr.PoolRef.TheVariants as pool
use Rattle.module_code.specs.Program.{Program}
use Rattle.run_model.specs.declared.bucket.BrigadeVar.{BrigadeVar}
use Rattle.run_model.specs.declared.bucket.BrigadeVar.TheVariants as var
use Rattle.run_model.specs.declared.bucket.Cursor.{Cursor}
use Rattle.run_model.specs.declared.bucket.Home.{Home}
use Rattle.run_model.specs.declared.bucket.Home.TheVariants as home
use Rattle.run_model.specs.declared.bucket.Kind.{Kind}
use Rattle.run_model.specs.declared.bucket.Kind.TheVariants as kind
use Rattle.run_model.specs.declared.bucket.Mark.{Mark}
use Rattle.run_model.specs.declared.bucket.Mark.TheVariants.{Usable, Passed}
use Rattle.run_model.specs.declared.bucket.NamedBucket.{NamedBucket}
use Rattle.run_model.specs.declared.bucket.PoolVar.{PoolVar}
use Rattle.run_model.specs.declared.bucket.PoolVar.TheVariants as poolvar
use Rattle.run_model.specs.declared.payload.Payload.{Payload}
use Rattle.run_model.specs.Pools.{Pools, is_live}
use Rattle.run_model.specs.State.{Configuration, PoolView, pool_view}
use Rattle.life_state.specs.declared.parts.Classes.{Classes}
use Rattle.life_state.specs.declared.parts.PoolState.{PoolState}
use Rattle.life_state.specs.Order.{implies, all_below, content_leq, classes_leq, pool_leq, places_leq, homes_leq, variable_leq, marks_leq, brigade_leq, cursor_leq}
use Rattle.life_state.specs.PoolOrder.{is_clearable}
use Rattle.life_state.specs.States.{Homes, BrigadeKnown, only_null, never_made, CursorKnown, Unset, Loose, In, End, InOrEnd}
use Rattle.life_state.specs.Laws.{Below}
use Rattle.life_state.proofs.OrderLaws.{leq_says}
use Rattle.life_state.proofs.Tests.{split2, split3, implies_says, all_at}
use Rattle.life_check.specs.Meaning.{CoversPool, ByConnection, ByMember, ByDead, ByCall, Covers, class_has, FitsPool, FitsMark, FitsBrigade, IsAtBucketOf, IsEndOf, FitsCursor}
use Rattle.life_check.specs.Soundness.{GreaterFits}
use Rattle.life_check.proofs.Standing.{known_differ}
use Rattle.life_check.proofs.Lists.{each_more, holds_more}

-- no test both holds and fails
pub never : {b : Bool} → b ≡ true → b ≡ false → ⊥
never {b = b} t f = cc

-- Homes.

homes_parts : (a b : Homes) → homes_leq a b ≡ true → (implies a.call b.call ≡ true) × (implies a.dead b.dead ≡ true) × (places_leq a.at b.at ≡ true)
homes_parts a b h = split3 (implies a.call b.call) (implies a.dead b.dead) (places_leq a.at b.at) h

member_more : (f g : PoolRef → Bool) (d : PoolRef) → places_leq f g ≡ true → is_clearable d ≡ true → f d ≡ true → g d ≡ true
member_more f g pool.Conn h c e = cc
member_more f g pool.Req h c e = implies_says (f pool.Req) (g pool.Req) (split2 (implies (f pool.Req) (g pool.Req)) (all_below 8 (λ i. implies (f (pool.Own i)) (g (pool.Own i)))) h).0 e
member_more f g (pool.Own q) h c e =
    implies_says (f (pool.Own q)) (g (pool.Own q))
    (all_at 8 q (λ i. implies (f (pool.Own i)) (g (pool.Own i))) (split2 (implies (f pool.Req) (g pool.Req)) (all_below 8 (λ i. implies (f (pool.Own i)) (g (pool.Own i)))) h).1 (ltb-true q 8 c)) e

pool_more : (p : Program) (v : PoolView) (lives : Home → Type 0) (a b : Homes) (n : ℕ) → homes_leq a b ≡ true → CoversPool p v lives a n → CoversPool p v lives b n
pool_more p v lives a b n h (ByConnection e) = ByConnection e
pool_more p v lives a b n h (ByMember k d top low named member under) = ByMember k d top low named (member_more a.at b.at d ((homes_parts a b h).2) low member) under
pool_more p v lives a b n h (ByDead k top named dead) = ByDead k top named (implies_says a.dead b.dead ((homes_parts a b h).1) dead)
pool_more p v lives a b n h (ByCall call alive) = ByCall (implies_says a.call b.call ((homes_parts a b h).0) call) alive

-- greater homes cover more
pub covers_more : (p : Program) (v : PoolView) (lives : Home → Type 0) (a b : Homes) → homes_leq a b ≡ true → (x : Home) → Covers p v lives a x → Covers p v lives b x
covers_more p v lives a b h home.Free c = tt
covers_more p v lives a b h (home.Call n) c = (implies_says a.call b.call ((homes_parts a b h).0) (c.0), c.1)
covers_more p v lives a b h (home.Pool n) c = (c.0, pool_more p v lives a b n h (c.1))
covers_more p v lives a b h home.Ended c = implies_says a.dead b.dead ((homes_parts a b h).1) c

class_more : (s t : Classes) (k : Kind) → classes_leq s t ≡ true → class_has s k ≡ true → class_has t k ≡ true
class_more s t kind.Flush h e = implies_says s.flush t.flush ((split3 (implies s.bytes t.bytes) (implies s.flush t.flush) (implies s.eos t.eos) h).1) e
class_more s t kind.Eos h e = implies_says s.eos t.eos ((split3 (implies s.bytes t.bytes) (implies s.flush t.flush) (implies s.eos t.eos) h).2) e
class_more s t k h e = implies_says s.bytes t.bytes ((split3 (implies s.bytes t.bytes) (implies s.flush t.flush) (implies s.eos t.eos) h).0) e

-- Variables.

pool_var_more : (ps : Pools Payload) (a b : PoolState) (v : PoolVar) → pool_leq a b ≡ true → FitsPool ps a v → FitsPool ps b v
pool_var_more ps a b poolvar.Null h e = implies_says a.null b.null ((split3 (implies a.null b.null) (implies a.gone b.gone) (implies a.live b.live) h).0) e
pool_var_more ps a b (poolvar.Made n) h e = by_life (is_live ps n) e where
  by_life : (l : Bool) → cond l a.live a.gone ≡ true → cond l b.live b.gone ≡ true
  by_life true e = implies_says a.live b.live ((split3 (implies a.null b.null) (implies a.gone b.gone) (implies a.live b.live) h).2) e
  by_life false e = implies_says a.gone b.gone ((split3 (implies a.null b.null) (implies a.gone b.gone) (implies a.live b.live) h).1) e

-- what covers homes also covers them by greater ones
abbrev Grows : (Homes → Home → Type 0) → Type 0
Grows C = (a b : Homes) → homes_leq a b ≡ true → (x : Home) → C a x → C b x

mark_more : (C : Homes → Home → Type 0) (a b : BrigadeKnown) (m : Mark) (xs : List NamedBucket) → Grows C → brigade_leq a b ≡ true → FitsMark C a m xs → FitsMark C b m xs
unfolding brigade_leq
mark_more C a b Usable xs grows h e =
    let two = split2 (variable_leq a b && marks_leq a b && content_leq a.content b.content) (homes_leq a.homes b.homes) h in
    let three = split3 (variable_leq a b) (marks_leq a b) (content_leq a.content b.content) (two.0) in
    let marks = split2 (implies a.usable b.usable) (implies a.passed b.passed) (three.1) in (
      implies_says a.usable b.usable (marks.0) (e.0),
      holds_more a.content b.content xs (three.2) (e.1),
      each_more (λ x. C a.homes x.bucket.home) (λ x. C b.homes x.bucket.home) (λ x. grows a.homes b.homes (two.1) x.bucket.home) xs (e.2),
    )
mark_more C a b Passed xs grows h e =
    let two = split2 (variable_leq a b && marks_leq a b && content_leq a.content b.content) (homes_leq a.homes b.homes) h in
    let three = split3 (variable_leq a b) (marks_leq a b) (content_leq a.content b.content) (two.0) in
    let marks = split2 (implies a.usable b.usable) (implies a.passed b.passed) (three.1) in
    implies_says a.passed b.passed (marks.1) e

variable_parts : (a b : BrigadeKnown) → brigade_leq a b ≡ true → (implies a.null b.null ≡ true) × (implies a.gone b.gone ≡ true) × (implies a.live b.live ≡ true)
unfolding brigade_leq
variable_parts a b h =
    let two = split2 (variable_leq a b && marks_leq a b && content_leq a.content b.content) (homes_leq a.homes b.homes) h in
    split3 (implies a.null b.null) (implies a.gone b.gone) (implies a.live b.live) (split3 (variable_leq a b) (marks_leq a b) (content_leq a.content b.content) (two.0)).0

brigade_more : (C : Homes → Home → Type 0) (a b : BrigadeKnown) (v : BrigadeVar) → Grows C → brigade_leq a b ≡ true → FitsBrigade C a v → FitsBrigade C b v
unfolding brigade_leq
brigade_more C a b var.Null grows h e = implies_says a.null b.null ((variable_parts a b h).0) e
brigade_more C a b var.Gone grows h e = implies_says a.gone b.gone ((variable_parts a b h).1) e
brigade_more C a b (var.Live v) grows h e = (implies_says a.live b.live ((variable_parts a b h).2) (e.0), mark_more C a b v.mark v.items grows h (e.1))

-- Cursors.

same_place : (a b : ℕ) (s t : Classes) → (a == b && classes_leq s t) ≡ true → (a ≡ b) × (classes_leq s t ≡ true)
same_place a b s t h = let two = split2 (a == b) (classes_leq s t) h in (eqb-true a b (two.0), two.1)

in_more : (r : Configuration) (v : Cursor) (a b : ℕ) (s t : Classes) → (a == b && classes_leq s t) ≡ true → IsAtBucketOf r v a s → IsAtBucketOf r v b t
in_more r v a b s t h e =
    let same = same_place a b s t h in
    subst (λ (k : ℕ). IsAtBucketOf r v k t) (same.0) (record { bucket = e.bucket; at = e.at; there = e.there; classed = class_more s t e.bucket.bucket.kind (same.1) e.classed; usable = e.usable })

end_more : (r : Configuration) (v : Cursor) (a b : ℕ) → (a == b) ≡ true → IsEndOf r v a → IsEndOf r v b
end_more r v a b h e = subst (λ (k : ℕ). IsEndOf r v k) (eqb-true a b h) e

pub cursor_more : (C : Homes → Home → Type 0) (r : Configuration) (k l : CursorKnown) (v : Cursor) → Grows C → cursor_leq k l ≡ true → FitsCursor C r k v → FitsCursor C r l v
cursor_more C r k Unset v grows h e = tt
cursor_more C r (Loose s x) (Loose t y) v grows h e =
    let two = split2 (classes_leq s t) (homes_leq x y) h in
    record { bucket = e.bucket; at = e.at; there = e.there; classed = class_more s t e.bucket.bucket.kind (two.0) e.classed; covered = grows x y (two.1) e.bucket.bucket.home e.covered }
cursor_more C r (In a s) (In b t) v grows h e = in_more r v a b s t h e
cursor_more C r (In a s) (InOrEnd b t) v grows h e = inl (in_more r v a b s t h e)
cursor_more C r (End a) (End b) v grows h e = end_more r v a b h e
cursor_more C r (End a) (InOrEnd b t) v grows h e = inr (end_more r v a b h e)
cursor_more C r (InOrEnd a s) (InOrEnd b t) v grows h (inl e) = inl (in_more r v a b s t h e)
cursor_more C r (InOrEnd a s) (InOrEnd b t) v grows h (inr e) = inr (end_more r v a b ((split2 (a == b) (classes_leq s t) h).0) e)
cursor_more C r k l v grows h e = cc

-- States.

pub greater_fits : {lives : Home → Type 0} → GreaterFits lives
greater_fits {lives = lives} p r s t sound declared bounded le f = record {
  sent = λ h. below.sent (f.sent h);
  pools = λ q. elim (cases_lt q 8) [
    | inl lt ↦ pool_var_more r.shared.pools (s.pools q) (t.pools q) (r.instance.pools q) (below.pools q lt) (f.pools q)
    | inr beyond ↦
        subst (λ (v : PoolState). FitsPool r.shared.pools v (r.instance.pools q)) (sym (bounded.pools q beyond))
        (subst (λ (x : PoolVar). FitsPool r.shared.pools only_null x) (sym (declared.slots q beyond)) refl)
  ];
  brigades = λ b. elim (cases_lt b 9) [
    | inl lt ↦ brigade_more C (s.brigades b) (t.brigades b) (r.instance.brigades b) (covers_more p (pool_view r) lives) (below.brigades b lt) (f.brigades b)
    | inr beyond ↦
        subst (λ (v : BrigadeKnown). FitsBrigade C v (r.instance.brigades b)) (sym (bounded.brigades b beyond))
        (subst (λ (x : BrigadeVar). FitsBrigade C never_made x) (sym (sound.names.slots b beyond)) refl)
  ];
  cursors = λ c. elim (cases_lt c 9) [
    | inl lt ↦ cursor_more C r (s.cursors c) (t.cursors c) (r.call.cursors c) (covers_more p (pool_view r) lives) (below.cursors c lt) (f.cursors c)
    | inr beyond ↦ subst (λ (k : CursorKnown). FitsCursor C r k (r.call.cursors c)) (sym (bounded.cursors c beyond)) tt
  ];
  facts = λ c d h. elim (cases_lt c 9) [
    | inl first ↦ elim (cases_lt d 9) [
      | inl second ↦ known_differ C r s c d sound.names f (below.facts c d first second h)
      | inr beyond ↦ absurd (never h (bounded.facts_to c d beyond))
    ]
    | inr beyond ↦ absurd (never h (bounded.facts_from c d beyond))
  ];
} where
  C : Homes → Home → Type 0
  C = Covers p (pool_view r) lives

  below : Below s t
  below = leq_says s t le
