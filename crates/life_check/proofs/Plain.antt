-- Laws of the jumps that test what a state speaks of: one variable, one bucket, whether an EOS was passed.
use Rattle.std.proofs.Common.{◌≡◌, ℕ, Bool, true, false, ◌||◌, not, cond, List, [], ◌∷◌, Some, None, inl, inr, refl, sym, subst}
use Rattle.module_code.specs.declared.instr.Instr.TheVariants as instr
use Rattle.module_code.specs.declared.instr.KindTest.{KindTest}
use Rattle.module_code.specs.declared.instr.KindTest.TheVariants as test
use Rattle.module_code.specs.declared.instr.VarRef.{VarRef}
use Rattle.module_code.specs.declared.instr.VarRef.TheVariants as variable
use Rattle.module_code.specs.Program.{Program}
use Rattle.run_model.specs.declared.bucket.BrigadeVar.{BrigadeVar}
use Rattle.run_model.specs.declared.bucket.BrigadeVar.TheVariants as var
use Rattle.run_model.specs.declared.bucket.Home.{Home}
use Rattle.run_model.specs.declared.bucket.Kind.{Kind}
use Rattle.run_model.specs.declared.bucket.Kind.TheVariants as kind
use Rattle.run_model.specs.declared.bucket.Mark.{Mark}
use Rattle.run_model.specs.declared.bucket.Mark.TheVariants.{Usable, Passed}
use Rattle.run_model.specs.declared.bucket.NamedBucket.{NamedBucket}
use Rattle.run_model.specs.declared.bucket.PoolVar.{PoolVar}
use Rattle.run_model.specs.declared.bucket.PoolVar.TheVariants as poolvar
use Rattle.run_model.specs.declared.fault.FaultKind.TheVariants.{F7}
use Rattle.run_model.specs.Indexed.{upd}
use Rattle.run_model.specs.BucketSteps.{is_of_kind, kind_is}
use Rattle.run_model.specs.Cursors.{at_cursor, is_end, bucket_at}
use Rattle.run_model.specs.Faults.{Anywhere, OnBucket, usable_fault}
use Rattle.run_model.specs.Pools.{is_live, is_empty}
use Rattle.run_model.specs.Sound.{SoundNames, Sound}
use Rattle.run_model.specs.State.{Configuration, pool_view, items_of, is_passed}
use Rattle.run_model.specs.Steps.{jumps_if, is_null_pool, is_null_brigade}
use Rattle.life_state.specs.declared.parts.Classes.{Classes}
use Rattle.life_state.specs.declared.parts.Contents.{Contents}
use Rattle.life_state.specs.declared.parts.Contents.TheVariants.{Empty}
use Rattle.life_state.specs.declared.parts.PoolState.{PoolState}
use Rattle.life_state.specs.Facts.{moved}
use Rattle.life_state.specs.Rules.{Edges, cursor_need, told, of_kind, not_of_kind, some_class, with_classes, classes_of, edges_jend, pool_not_null, brigade_not_null, edges_jsent, edges_jnull}
use Rattle.life_state.specs.Rules.{edges_jempty, goes_on_with, some_if, is_empty as holds_none}
use Rattle.life_state.proofs.Tests.{or_left, or_right}
use Rattle.life_state.specs.States.{Homes, no_homes, only_null, BrigadeKnown, never_made, holds, CursorKnown, Unset, Loose, In, End, InOrEnd, State, set_pool, set_brigade}
use Rattle.life_check.proofs.Orders.{never}
use Rattle.life_check.proofs.Lists.{each_none}
use Rattle.life_check.proofs.Standing.{upd_first, moved_facts, cursor_loose, cursor_in, cursor_at_end}
use Rattle.life_check.proofs.Wants.{both_none, usable_items}
use Rattle.life_check.specs.Meaning.{class_has, Covers, HoldsContents, FitsPool, FitsMark, FitsBrigade, FitsCursor, Fits}
use Rattle.life_check.specs.Soundness.{FitsSome, Lands, LawOf}

-- whether an EOS was passed
pub law_jsent : {lives : Home → Type 0} (l : ℕ) → LawOf lives (instr.JSent l)
law_jsent {lives = lives} l p choice r s ready = by_sent r.instance.sent refl where
  by_sent : (b : Bool) → r.instance.sent ≡ b → Lands lives p (edges_jsent s) s (jumps_if b) r
  by_sent true is = subst (λ (b : Bool). FitsSome (Covers p (pool_view r) lives) (some_if b s) r) (sym (ready.fits.sent is)) ready.fits
  by_sent false is = record {
    sent = λ h. absurd (never h is);
    pools = ready.fits.pools;
    brigades = ready.fits.brigades;
    cursors = ready.fits.cursors;
    facts = ready.fits.facts;
  }

-- Tests of one variable.

-- one variable is told more of
pool_told : (C : Homes → Home → Type 0) (s : State) (r : Configuration) (q : ℕ) (v : PoolState) → Fits C s r → FitsPool r.shared.pools v (r.instance.pools q) → Fits C (set_pool q v s) r
pool_told C s r q v f e = record {
  sent = f.sent;
  pools = upd_first (FitsPool r.shared.pools) s.pools r.instance.pools q v e (λ k ne. f.pools k);
  brigades = f.brigades;
  cursors = f.cursors;
  facts = f.facts;
}

brigade_told : (C : Homes → Home → Type 0) (s : State) (r : Configuration) (b : ℕ) (v : BrigadeKnown) → Fits C s r → FitsBrigade C v (r.instance.brigades b) → Fits C (set_brigade b v s) r
brigade_told C s r b v f e = record {
  sent = f.sent;
  pools = f.pools;
  brigades = upd_first (FitsBrigade C) s.brigades r.instance.brigades b v e (λ k ne. f.brigades k);
  cursors = f.cursors;
  facts = f.facts;
}

-- an edge that is there
lands_if : (C : Homes → Home → Type 0) (b : Bool) (s : State) (r : Configuration) → b ≡ true → Fits C s r → FitsSome C (some_if b s) r
lands_if C b s r h f = subst (λ (x : Bool). FitsSome C (some_if x s) r) (sym h) f

null_pool : (lives : Home → Type 0) (p : Program) (s : State) (r : Configuration) (q : ℕ) (x : PoolVar) → r.instance.pools q ≡ x → FitsPool r.shared.pools (s.pools q) x
    → Fits (Covers p (pool_view r) lives) s r → Lands lives p (edges_jnull (variable.Pool q) s) s (jumps_if (is_null_pool x)) r
null_pool lives p s r q poolvar.Null is e f =
    lands_if (Covers p (pool_view r) lives) (s.pools q).null (set_pool q only_null s) r e
    (pool_told (Covers p (pool_view r) lives) s r q only_null f (subst (λ (x : PoolVar). FitsPool r.shared.pools only_null x) (sym is) refl))
null_pool lives p s r q (poolvar.Made n) is e f =
    lands_if (Covers p (pool_view r) lives) ((s.pools q).gone || (s.pools q).live) (set_pool q (pool_not_null (s.pools q)) s) r (by_life (is_live r.shared.pools n) e)
    (pool_told (Covers p (pool_view r) lives) s r q (pool_not_null (s.pools q)) f (subst (λ (x : PoolVar). FitsPool r.shared.pools (pool_not_null (s.pools q)) x) (sym is) e)) where
      by_life : (l : Bool) → cond l (s.pools q).live (s.pools q).gone ≡ true → ((s.pools q).gone || (s.pools q).live) ≡ true
      by_life true h = or_right (s.pools q).gone (s.pools q).live h
      by_life false h = or_left (s.pools q).gone (s.pools q).live h

-- a mark says nothing of whether the variable may be null
mark_not_null : (C : Homes → Home → Type 0) (v : BrigadeKnown) (m : Mark) (xs : List NamedBucket) → FitsMark C v m xs → FitsMark C (brigade_not_null v) m xs
mark_not_null C v Usable xs e = e
mark_not_null C v Passed xs e = e

null_brigade : (lives : Home → Type 0) (p : Program) (s : State) (r : Configuration) (b : ℕ) (x : BrigadeVar) → r.instance.brigades b ≡ x → FitsBrigade (Covers p (pool_view r) lives) (s.brigades b) x
    → Fits (Covers p (pool_view r) lives) s r → Lands lives p (edges_jnull (variable.Brigade b) s) s (jumps_if (is_null_brigade x)) r
null_brigade lives p s r b var.Null is e f =
    lands_if (Covers p (pool_view r) lives) (s.brigades b).null (set_brigade b never_made s) r e
    (brigade_told (Covers p (pool_view r) lives) s r b never_made f (subst (λ (x : BrigadeVar). FitsBrigade (Covers p (pool_view r) lives) never_made x) (sym is) refl))
null_brigade lives p s r b var.Gone is e f =
    lands_if (Covers p (pool_view r) lives) ((s.brigades b).gone || (s.brigades b).live) (set_brigade b (brigade_not_null (s.brigades b)) s) r (or_left (s.brigades b).gone (s.brigades b).live e)
    (brigade_told (Covers p (pool_view r) lives) s r b (brigade_not_null (s.brigades b)) f
    (subst (λ (x : BrigadeVar). FitsBrigade (Covers p (pool_view r) lives) (brigade_not_null (s.brigades b)) x) (sym is) e))
null_brigade lives p s r b (var.Live v) is e f =
    lands_if (Covers p (pool_view r) lives) ((s.brigades b).gone || (s.brigades b).live) (set_brigade b (brigade_not_null (s.brigades b)) s) r (or_right (s.brigades b).gone (s.brigades b).live (e.0))
    (brigade_told (Covers p (pool_view r) lives) s r b (brigade_not_null (s.brigades b)) f
    (subst (λ (x : BrigadeVar). FitsBrigade (Covers p (pool_view r) lives) (brigade_not_null (s.brigades b)) x) (sym is)
    (e.0, mark_not_null (Covers p (pool_view r) lives) (s.brigades b) v.mark v.items (e.1))))

pub law_jnull : {lives : Home → Type 0} (v : VarRef) (l : ℕ) → LawOf lives (instr.JNull v l)
law_jnull {lives = lives} (variable.Pool q) l p choice r s ready = null_pool lives p s r q (r.instance.pools q) refl (ready.fits.pools q) ready.fits
law_jnull {lives = lives} (variable.Brigade b) l p choice r s ready = null_brigade lives p s r b (r.instance.brigades b) refl (ready.fits.brigades b) ready.fits

-- Whether a brigade is empty.

some_there : (C : Homes → Home → Type 0) (k : Contents) (x : NamedBucket) (xs : List NamedBucket) → HoldsContents k (x ∷ xs) → not (holds_none k) ≡ true
some_there C Empty x xs e = cc
some_there C k x xs e = refl

mark_empty : (C : Homes → Home → Type 0) (m : Mark) → cond (is_passed m) (Some F7) None ≡ None → FitsMark C (holds Empty no_homes) m []
mark_empty C Usable h = (refl, refl, each_none (λ x. C no_homes x.bucket.home))
mark_empty C Passed h = cc

empty_brigade : (lives : Home → Type 0) (p : Program) (s : State) (r : Configuration) (b : ℕ) (x : BrigadeVar) → r.instance.brigades b ≡ x → usable_fault x ≡ None
    → FitsBrigade (Covers p (pool_view r) lives) (s.brigades b) x → Fits (Covers p (pool_view r) lives) s r → Lands lives p (edges_jempty b s) s (jumps_if (is_empty (items_of x))) r
empty_brigade lives p s r b var.Null is h e f = cc
empty_brigade lives p s r b var.Gone is h e f = cc
empty_brigade lives p s r b (var.Live v) is h e f = by_items v.items refl (usable_items (Covers p (pool_view r) lives) (s.brigades b) (var.Live v) e h).0 where
  by_items : (xs : List NamedBucket) → v.items ≡ xs → HoldsContents (s.brigades b).content xs → Lands lives p (edges_jempty b s) s (jumps_if (is_empty xs)) r
  by_items [] none has =
      brigade_told (Covers p (pool_view r) lives) s r b (holds Empty no_homes) f
      (subst (λ (y : BrigadeVar). FitsBrigade (Covers p (pool_view r) lives) (holds Empty no_homes) y) (sym is)
      (refl, subst (λ (ys : List NamedBucket). FitsMark (Covers p (pool_view r) lives) (holds Empty no_homes) v.mark ys) (sym none) (mark_empty (Covers p (pool_view r) lives) v.mark h)))
  by_items (x ∷ xs) some has =
      lands_if (Covers p (pool_view r) lives) (not (holds_none (s.brigades b).content)) s r (some_there (Covers p (pool_view r) lives) (s.brigades b).content x xs has) f

pub law_jempty : {lives : Home → Type 0} (b l : ℕ) → LawOf lives (instr.JEmpty b l)
law_jempty {lives = lives} b l p choice r s ready =
    empty_brigade lives p s r b (r.instance.brigades b) refl ((both_none (usable_fault (r.instance.brigades b)) None ready.may.faultless).0) (ready.fits.brigades b) ready.fits

-- Where a cursor stands.

-- one cursor is told more of
pub told_fits : (C : Homes → Home → Type 0) (r : Configuration) (s : State) (c : ℕ) (k : CursorKnown) → SoundNames r → Fits C s r → FitsCursor C r k (r.call.cursors c) → Fits C (told c k s) r
unfolding moved
told_fits C r s c k names f e = record {
  sent = f.sent;
  pools = f.pools;
  brigades = f.brigades;
  cursors = upd_first (FitsCursor C r) s.cursors r.call.cursors c k e (λ d ne. f.cursors d);
  facts = moved_facts C r s names f (upd s.cursors c k);
}

end_lands : (lives : Home → Type 0) (p : Program) (r : Configuration) (s : State) (c : ℕ) (k : CursorKnown) → Sound r → Fits (Covers p (pool_view r) lives) s r → cursor_need Anywhere k ≡ None
    → FitsCursor (Covers p (pool_view r) lives) r k (r.call.cursors c) → Lands lives p (edges_jend c k s) s (jumps_if (is_end (at_cursor r c))) r
end_lands lives p r s c Unset sound f h e = cc
end_lands lives p r s c (Loose t homes) sound f h e =
    subst (λ at. Lands lives p (goes_on_with s) s (jumps_if (is_end at)) r) (sym (cursor_loose (Covers p (pool_view r) lives) r (r.call.cursors c) t homes sound.names e)) f
end_lands lives p r s c (In b t) sound f h e =
    subst (λ at. Lands lives p (goes_on_with s) s (jumps_if (is_end at)) r) (sym (cursor_in r (r.call.cursors c) b t sound.names e)) f
end_lands lives p r s c (End b) sound f h e =
    subst (λ at. Lands lives p (edges_jend c (End b) s) s (jumps_if (is_end at)) r) (sym (cursor_at_end r (r.call.cursors c) b sound.names e)) f
end_lands lives p r s c (InOrEnd b t) sound f h (inl e) =
    subst (λ at. Lands lives p (edges_jend c (InOrEnd b t) s) s (jumps_if (is_end at)) r) (sym (cursor_in r (r.call.cursors c) b t sound.names e))
    (told_fits (Covers p (pool_view r) lives) r s c (In b t) sound.names f e)
end_lands lives p r s c (InOrEnd b t) sound f h (inr e) =
    subst (λ at. Lands lives p (edges_jend c (InOrEnd b t) s) s (jumps_if (is_end at)) r) (sym (cursor_at_end r (r.call.cursors c) b sound.names e))
    (told_fits (Covers p (pool_view r) lives) r s c (End b) sound.names f e)

pub law_jend : {lives : Home → Type 0} (c l : ℕ) → LawOf lives (instr.JEnd c l)
law_jend {lives = lives} c l p choice r s ready =
    end_lands lives p r s c (s.cursors c) ready.sound ready.fits ((both_none (cursor_need Anywhere (s.cursors c)) None ready.met).0) (ready.fits.cursors c)

-- Kinds of buckets.

class_of_kind : (k : KindTest) (t : Classes) (x : Kind) → is_of_kind k x ≡ true → class_has t x ≡ true → class_has (of_kind k t) x ≡ true
class_of_kind test.Flush t kind.Flush is h = h
class_of_kind test.Eos t kind.Eos is h = h
class_of_kind test.Data t kind.Flush is h = cc
class_of_kind test.Data t kind.Eos is h = cc
class_of_kind test.Data t x is h = h
class_of_kind test.Heap t kind.Heap is h = h
class_of_kind test.Transient t kind.Transient is h = h
class_of_kind test.Immortal t kind.Immortal is h = h
class_of_kind test.Pool t (kind.Pool q) is h = h
class_of_kind test.File t kind.File is h = h
class_of_kind k t x is h = cc

class_not_of_kind : (k : KindTest) (t : Classes) (x : Kind) → is_of_kind k x ≡ false → class_has t x ≡ true → class_has (not_of_kind k t) x ≡ true
class_not_of_kind test.Flush t kind.Flush is h = cc
class_not_of_kind test.Eos t kind.Eos is h = cc
class_not_of_kind test.Data t kind.Flush is h = h
class_not_of_kind test.Data t kind.Eos is h = h
class_not_of_kind test.Data t x is h = cc
class_not_of_kind k t x is h = h

some_classes : (t : Classes) (x : Kind) → class_has t x ≡ true → some_class t ≡ true
some_classes t kind.Flush h = or_left (t.bytes || t.flush) t.eos (or_right t.bytes t.flush h)
some_classes t kind.Eos h = or_right (t.bytes || t.flush) t.eos h
some_classes t x h = or_left (t.bytes || t.flush) t.eos (or_left t.bytes t.flush h)

-- the edges by what is known of the cursor
abbrev kind_edges : ℕ → KindTest → CursorKnown → State → Edges
kind_edges c k known s = record {
  next = some_if (some_class (not_of_kind k (classes_of known))) (told c (with_classes (not_of_kind k (classes_of known)) known) s);
  jump = some_if (some_class (of_kind k (classes_of known))) (told c (with_classes (of_kind k (classes_of known)) known) s);
}

-- c is at a bucket of this kind, and what is known of it fits it with any classes that have the kind
kind_lands : (lives : Home → Type 0) (p : Program) (r : Configuration) (s : State) (c : ℕ) (k : KindTest) (x : Kind) (known : CursorKnown)
    → SoundNames r → Fits (Covers p (pool_view r) lives) s r → class_has (classes_of known) x ≡ true
    → ((t : Classes) → class_has t x ≡ true → FitsCursor (Covers p (pool_view r) lives) r (with_classes t known) (r.call.cursors c))
    → Lands lives p (kind_edges c k known s) s (jumps_if (is_of_kind k x)) r
kind_lands lives p r s c k x known names f h fitting = by_test (is_of_kind k x) refl where
  by_test : (b : Bool) → is_of_kind k x ≡ b → Lands lives p (kind_edges c k known s) s (jumps_if b) r
  by_test true is =
      let has = class_of_kind k (classes_of known) x is h in
      lands_if (Covers p (pool_view r) lives) (some_class (of_kind k (classes_of known))) (told c (with_classes (of_kind k (classes_of known)) known) s) r
      (some_classes (of_kind k (classes_of known)) x has)
      (told_fits (Covers p (pool_view r) lives) r s c (with_classes (of_kind k (classes_of known)) known) names f (fitting (of_kind k (classes_of known)) has))
  by_test false is =
      let has = class_not_of_kind k (classes_of known) x is h in
      lands_if (Covers p (pool_view r) lives) (some_class (not_of_kind k (classes_of known))) (told c (with_classes (not_of_kind k (classes_of known)) known) s) r
      (some_classes (not_of_kind k (classes_of known)) x has)
      (told_fits (Covers p (pool_view r) lives) r s c (with_classes (not_of_kind k (classes_of known)) known) names f (fitting (not_of_kind k (classes_of known)) has))

known_lands : (lives : Home → Type 0) (p : Program) (r : Configuration) (s : State) (c : ℕ) (k : KindTest) (known : CursorKnown)
    → SoundNames r → Fits (Covers p (pool_view r) lives) s r → cursor_need OnBucket known ≡ None → FitsCursor (Covers p (pool_view r) lives) r known (r.call.cursors c)
    → Lands lives p (kind_edges c k known s) s (jumps_if (kind_is k (bucket_at (at_cursor r c)))) r
known_lands lives p r s c k Unset names f h e = cc
known_lands lives p r s c k (Loose t homes) names f h e =
    subst (λ at. Lands lives p (kind_edges c k (Loose t homes) s) s (jumps_if (kind_is k (bucket_at at))) r) (sym (cursor_loose (Covers p (pool_view r) lives) r (r.call.cursors c) t homes names e))
    (kind_lands lives p r s c k e.bucket.bucket.kind (Loose t homes) names f e.classed (λ u has. record { bucket = e.bucket; at = e.at; there = e.there; classed = has; covered = e.covered }))
known_lands lives p r s c k (In b t) names f h e =
    subst (λ at. Lands lives p (kind_edges c k (In b t) s) s (jumps_if (kind_is k (bucket_at at))) r) (sym (cursor_in r (r.call.cursors c) b t names e))
    (kind_lands lives p r s c k e.bucket.bucket.kind (In b t) names f e.classed (λ u has. record { bucket = e.bucket; at = e.at; there = e.there; classed = has; usable = e.usable }))
known_lands lives p r s c k (End b) names f h e = cc
known_lands lives p r s c k (InOrEnd b t) names f h e = cc

pub law_jkind : {lives : Home → Type 0} (c : ℕ) (k : KindTest) (l : ℕ) → LawOf lives (instr.JKind c k l)
law_jkind {lives = lives} c k l p choice r s ready =
    known_lands lives p r s c k (s.cursors c) ready.sound.names ready.fits ((both_none (cursor_need OnBucket (s.cursors c)) None ready.met).0) (ready.fits.cursors c)
