-- Laws of a pass and of a return.
use Rattle.std.proofs.Common.{◌≡◌, ◌≢◌, ℕ, zero, suc, ◌<◌, ◌≤◌, Bool, true, false, ◌&&◌, ◌==◌, cond, List, map, None, inl, inr, ◌⊎◌, ⊎_elim, refl, ap, sym, ◌∙◌, subst, arith, eq-eqb, ne_eqb}
use Rattle.std.proofs.lemmas.Bool.{or_parts, cases_eq, cases_lt}
use Rattle.std.proofs.lemmas.Bool.Decides.{eqb_tells}
use Rattle.module_code.specs.declared.instr.Instr.TheVariants as instr
use Rattle.module_code.specs.declared.instr.Status.{Status}
use Rattle.module_code.specs.Program.{Program}
use Rattle.run_model.specs.declared.bucket.BrigadeVar.{BrigadeVar}
use Rattle.run_model.specs.declared.bucket.BrigadeVar.TheVariants as var
use Rattle.run_model.specs.declared.bucket.Cursor.{Cursor}
use Rattle.run_model.specs.declared.bucket.Home.{Home}
use Rattle.run_model.specs.declared.bucket.Home.TheVariants as home
use Rattle.run_model.specs.declared.bucket.Mark.{Mark}
use Rattle.run_model.specs.declared.bucket.Mark.TheVariants.{Usable, Passed}
use Rattle.run_model.specs.declared.bucket.NamedBucket.{NamedBucket}
use Rattle.run_model.specs.declared.fault.FaultKind.TheVariants.{F6}
use Rattle.run_model.specs.Indexed.{upd, any_below}
use Rattle.run_model.specs.Faults.{WUsable, WHomes, WSend, WReturn, usable_fault, fault_want, or_else}
use Rattle.run_model.specs.BrigadeLists.{bucket_named}
use Rattle.run_model.specs.Buckets.{has_eos, end_call, returned_bucket}
use Rattle.run_model.specs.Sound.{SoundNames, brigade_name}
use Rattle.run_model.specs.State.{Configuration, PoolView, pool_view, items_of}
use Rattle.run_model.specs.State as run
use Rattle.run_model.specs.Steps.{do_pass, handed_over, is_fail, returned_var}
use Rattle.run_model.proofs.Updates.{upd_off, upd_either}
use Rattle.life_state.specs.declared.parts.Classes.{Classes}
use Rattle.life_state.specs.declared.parts.Contents.{Contents}
use Rattle.life_state.specs.declared.parts.Contents.TheVariants.{Empty, Flushes, NoEos}
use Rattle.life_state.specs.Facts.{known, facts_of, moved}
use Rattle.life_state.proofs.Tests.{or_either, or_left, or_right}
use Rattle.life_state.specs.Rules.{left, may_end, after_pass, keeps_call, need}
use Rattle.life_state.specs.States.{Homes, BrigadeKnown, never_made, passed_on, CursorKnown, Unset, Loose, In, End, InOrEnd, State}
use Rattle.life_check.specs.Meaning.{CoversPool, ByConnection, ByMember, ByDead, ByCall, Covers, NoneLives, HoldsContents, FitsMark, FitsBrigade, IsAtBucketOf, IsEndOf, FitsCursor, Fits}
use Rattle.life_check.specs.Soundness.{LawOf}
use Rattle.life_check.proofs.Orders.{never}
use Rattle.life_check.proofs.Lists.{IsSorted, holds_map, each_map}
use Rattle.life_check.proofs.Uniform.{lands_both}
use Rattle.life_check.proofs.Standing.{upd_both, moved_facts}
use Rattle.life_check.proofs.Wants.{both_none, unless_some, usable_items}

-- A pass.

-- what holds an EOS may hold one
may_hold : (k : Contents) (xs : List NamedBucket) → HoldsContents k xs → has_eos xs ≡ true → may_end k ≡ true
may_hold Empty xs h e = absurd (never e (ap has_eos h))
may_hold Flushes xs h e = absurd (never e (h.1))
may_hold NoEos xs h e = absurd (never e h)
may_hold k xs h e = refl

passed_fits : (C : Homes → Home → Type 0) (x : BrigadeVar) → usable_fault x ≡ None → FitsBrigade C passed_on (handed_over x)
passed_fits C var.Null h = cc
passed_fits C var.Gone h = cc
passed_fits C (var.Live v) h = (refl, refl)

module _ (C : Homes → Home → Type 0) (r new : Configuration) (b : ℕ) (loose : new.call.loose ≡ r.call.loose) (others : (k : ℕ) → k ≢ b → new.instance.brigades k ≡ r.instance.brigades k) where
  other_in : (v : Cursor) (a : ℕ) (t : Classes) → a ≢ b → IsAtBucketOf r v a t → IsAtBucketOf new v a t
  other_in v a t ne e = record {
    bucket = e.bucket;
    at = e.at;
    there = ap (λ (x : BrigadeVar). bucket_named e.bucket.name (items_of x)) (others a ne) ∙ e.there;
    classed = e.classed;
    usable = ap usable_fault (others a ne) ∙ e.usable;
  }

  other_end : (v : Cursor) (a : ℕ) → a ≢ b → IsEndOf r v a → IsEndOf new v a
  other_end v a ne e = record { called = e.called; at = e.at; there = ap brigade_name (others a ne) ∙ e.there; usable = ap usable_fault (others a ne) ∙ e.usable }

  -- a cursor that is not at this brigade stays
  left_fits : (k : CursorKnown) (v : Cursor) → FitsCursor C r k v → FitsCursor C new (left b k) v
  left_fits Unset v e = tt
  left_fits (Loose t h) v e = record { bucket = e.bucket; at = e.at; there = ap (bucket_named e.bucket.name) loose ∙ e.there; classed = e.classed; covered = e.covered }
  left_fits (In a t) v e = by_place (eqb_tells a b) where
    by_place : (((a == b) ≡ true) × (a ≡ b)) ⊎ (((a == b) ≡ false) × (a ≢ b)) → FitsCursor C new (cond (a == b) Unset (In a t)) v
    by_place (inl p) = subst (λ (x : Bool). FitsCursor C new (cond x Unset (In a t)) v) (sym (p.0)) tt
    by_place (inr p) = subst (λ (x : Bool). FitsCursor C new (cond x Unset (In a t)) v) (sym (p.0)) (other_in v a t (p.1) e)
  left_fits (End a) v e = by_place (eqb_tells a b) where
    by_place : (((a == b) ≡ true) × (a ≡ b)) ⊎ (((a == b) ≡ false) × (a ≢ b)) → FitsCursor C new (cond (a == b) Unset (End a)) v
    by_place (inl p) = subst (λ (x : Bool). FitsCursor C new (cond x Unset (End a)) v) (sym (p.0)) tt
    by_place (inr p) = subst (λ (x : Bool). FitsCursor C new (cond x Unset (End a)) v) (sym (p.0)) (other_end v a (p.1) e)
  left_fits (InOrEnd a t) v e = by_place (eqb_tells a b) e where
    by_place : (((a == b) ≡ true) × (a ≡ b)) ⊎ (((a == b) ≡ false) × (a ≢ b)) → IsAtBucketOf r v a t ⊎ IsEndOf r v a → FitsCursor C new (cond (a == b) Unset (InOrEnd a t)) v
    by_place (inl p) e = subst (λ (x : Bool). FitsCursor C new (cond x Unset (InOrEnd a t)) v) (sym (p.0)) tt
    by_place (inr p) (inl e) = subst (λ (x : Bool). FitsCursor C new (cond x Unset (InOrEnd a t)) v) (sym (p.0)) (inl (other_in v a t (p.1) e))
    by_place (inr p) (inr e) = subst (λ (x : Bool). FitsCursor C new (cond x Unset (InOrEnd a t)) v) (sym (p.0)) (inr (other_end v a (p.1) e))

pass_fits : (C : Homes → Home → Type 0) (r : Configuration) (s : State) (b : ℕ) → SoundNames r → Fits C s r → usable_fault (r.instance.brigades b) ≡ None → Fits C (after_pass b s) (do_pass b r)
unfolding moved known facts_of run.set_brigade
pass_fits C r s b names f usable = record {
  sent = λ h. ⊎_elim
      (λ (before : r.instance.sent ≡ true). or_left s.sent (may_end (s.brigades b).content) (f.sent before))
      (λ (now : has_eos (items_of (r.instance.brigades b)) ≡ true). or_right s.sent (may_end (s.brigades b).content)
      (may_hold (s.brigades b).content (items_of (r.instance.brigades b)) ((usable_items C (s.brigades b) (r.instance.brigades b) (f.brigades b) usable).0) now))
      (or_either r.instance.sent (has_eos (items_of (r.instance.brigades b))) h);
  pools = f.pools;
  brigades = upd_both (FitsBrigade C) s.brigades r.instance.brigades b passed_on (handed_over (r.instance.brigades b)) (passed_fits C (r.instance.brigades b) usable) (λ k ne. f.brigades k);
  cursors = λ k. left_fits C r (do_pass b r) b refl (λ a ne. upd_off r.instance.brigades b a (handed_over (r.instance.brigades b)) ne) (s.cursors k) (r.call.cursors k) (f.cursors k);
  facts = moved_facts C r s names f (λ k. left b (s.cursors k));
}

pub law_pass : {lives : Home → Type 0} (b l : ℕ) → LawOf lives (instr.Pass b l)
unfolding run.set_brigade
law_pass {lives = lives} b l p choice r s ready =
    lands_both lives p s (after_pass b s) (do_pass b r) (is_fail choice.answer)
    (pass_fits (Covers p (pool_view r) lives) r s b ready.sound.names ready.fits
    ((both_none (fault_want r (WUsable b)) (or_else (fault_want r (WHomes b)) (or_else (fault_want r (WSend b)) None)) ready.may.faultless).0))

-- A return.

-- homes that do not tell of the call cover the same where it has ended
pool_after_call : (p : Program) (v : PoolView) (lives : Home → Type 0) (h : Homes) (n : ℕ) → h.call ≡ false → CoversPool p v lives h n → CoversPool p v NoneLives h n
pool_after_call p v lives h n own (ByConnection e) = ByConnection e
pool_after_call p v lives h n own (ByMember k d top low named member under) = ByMember k d top low named member under
pool_after_call p v lives h n own (ByDead k top named dead) = ByDead k top named dead
pool_after_call p v lives h n own (ByCall call alive) = cc

after_call : (p : Program) (v : PoolView) (lives : Home → Type 0) (h : Homes) (name : ℕ) (x : Home) → h.call ≡ false → Covers p v lives h x → Covers p v NoneLives h (end_call name x)
after_call p v lives h name home.Free own c = tt
after_call p v lives h name (home.Call n) own c = absurd (never (c.0) own)
after_call p v lives h name (home.Pool n) own c = (c.0, pool_after_call p v lives h n own (c.1))
after_call p v lives h name home.Ended own c = c

sorted_returned : (name : ℕ) → IsSorted (returned_bucket name)
sorted_returned name = record { bytes = λ x. refl; eos = λ x. refl }

returned_mark : (p : Program) (v : PoolView) (lives : Home → Type 0) (s : BrigadeKnown) (name : ℕ) (m : Mark) (xs : List NamedBucket) → s.live ≡ true → keeps_call s ≡ false
    → FitsMark (Covers p v lives) s m xs → FitsMark (Covers p v NoneLives) s m (map (returned_bucket name) xs)
returned_mark p v lives s name Usable xs live kept e =
    let own : s.homes.call ≡ false = sym (ap (λ b. b && s.usable && s.homes.call) live ∙ ap (λ b. b && s.homes.call) (e.0)) ∙ kept in (
      e.0,
      holds_map s.content (returned_bucket name) (sorted_returned name) xs (e.1),
      each_map (λ x. Covers p v lives s.homes x.bucket.home) (λ x. Covers p v NoneLives s.homes x.bucket.home) (returned_bucket name)
          (λ x c. after_call p v lives s.homes name x.bucket.home own c) xs (e.2),
    )
returned_mark p v lives s name Passed xs live kept e = e

returned_fits : (p : Program) (v : PoolView) (lives : Home → Type 0) (s : BrigadeKnown) (name : ℕ) (x : BrigadeVar) → keeps_call s ≡ false
    → FitsBrigade (Covers p v lives) s x → FitsBrigade (Covers p v NoneLives) s (returned_var name x)
returned_fits p v lives s name var.Null kept e = e
returned_fits p v lives s name var.Gone kept e = e
returned_fits p v lives s name (var.Live x) kept e = (e.0, returned_mark p v lives s name x.mark x.items (e.0) kept (e.1))

none_at : (n k : ℕ) (p : ℕ → Bool) → any_below n p ≡ false → k < n → p k ≡ false
unfolding any_below
none_at zero k p h lt = absurd (omega arith)
none_at (suc n) k p h lt =
    let parts = or_parts (p n) (any_below n p) h in
    ⊎_elim (λ (same : k ≡ n). ap p same ∙ parts.0) (λ (other : k ≡ n → ⊥). none_at n k p (parts.1) (omega arith)) (cases_eq k n)

-- the brigades that stay: those of the module's own variables keep no bucket that ends with the call
kept_brigade : (p : Program) (lives : Home → Type 0) (r : Configuration) (s : State) (k : ℕ) → SoundNames r → Fits (Covers p (pool_view r) lives) s r
    → any_below 8 (λ b. keeps_call (s.brigades b)) ≡ false → k ≢ 8 → FitsBrigade (Covers p (pool_view r) NoneLives) (s.brigades k) (returned_var r.call.name (r.instance.brigades k))
kept_brigade p lives r s k sound f kept other =
    ⊎_elim
    (λ (own : k < 8). returned_fits p (pool_view r) lives (s.brigades k) r.call.name (r.instance.brigades k) (none_at 8 k (λ b. keeps_call (s.brigades b)) kept own) (f.brigades k))
    (λ (beyond : 8 ≤ k). let none : r.instance.brigades k ≡ var.Null = sound.slots k (omega arith) in
    subst (λ (x : BrigadeVar). FitsBrigade (Covers p (pool_view r) NoneLives) (s.brigades k) (returned_var r.call.name x)) (sym none)
    (subst (λ (x : BrigadeVar). FitsBrigade (Covers p (pool_view r) lives) (s.brigades k) x) none (f.brigades k)))
    (cases_lt k 8)

abbrev left_at : Configuration → ℕ → Bool → BrigadeVar
left_at r k is_in = cond is_in var.Null (returned_var r.call.name (r.instance.brigades k))

brigade_left : (p : Program) (lives : Home → Type 0) (r : Configuration) (s : State) (k : ℕ) → SoundNames r → Fits (Covers p (pool_view r) lives) s r
    → any_below 8 (λ b. keeps_call (s.brigades b)) ≡ false → FitsBrigade (Covers p (pool_view r) NoneLives) (upd s.brigades 8 never_made k) (left_at r k (k == 8))
brigade_left p lives r s k sound f kept = elim (upd_either s.brigades 8 k never_made) [
  | inl e ↦ subst (λ (v : BrigadeKnown). FitsBrigade D v (left_at r k (k == 8))) (sym (e.1)) (subst (λ (b : Bool). FitsBrigade D never_made (left_at r k b)) (sym (eq-eqb k 8 (e.0))) refl)
  | inr e ↦
      subst (λ (v : BrigadeKnown). FitsBrigade D v (left_at r k (k == 8))) (sym (e.1))
      (subst (λ (b : Bool). FitsBrigade D (s.brigades k) (left_at r k b)) (sym (ne_eqb k 8 (e.0))) (kept_brigade p lives r s k sound f kept (e.0)))
] where
  D : Homes → Home → Type 0
  D = Covers p (pool_view r) NoneLives

pub law_ret : {lives : Home → Type 0} (t : Status) → LawOf lives (instr.Ret t)
law_ret {lives = lives} t p choice r s ready = record {
  sent = ready.fits.sent;
  pools = ready.fits.pools;
  brigades = λ k. brigade_left p lives r s k ready.sound.names ready.fits (unless_some (any_below 8 (λ b. keeps_call (s.brigades b))) F6 ((both_none (need s WReturn) None ready.met).0));
  cursors = λ c. tt;
  facts = λ c d h. cc;
}
