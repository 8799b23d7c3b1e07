-- A brigade that was passed stays passed until it is cleaned, or goes with its pool.
use Rattle.std.proofs.Common.{◌≡◌, ℕ, Bool, true, false, ◌||◌, not, ◌==◌, cond, List, [], ◌∷◌, ◌++◌, map, ◌⊎◌, inl, inr, Option, Some, None, refl, sym, ◌∙◌, ap, subst, eqb-true}
use Rattle.std.specs.List.{list_any}
use Rattle.std.proofs.lemmas.Bool.{false_from_ne_true, or_left, or_right}
use Rattle.module_code.specs.declared.instr.PoolRef.TheVariants as pool
use Rattle.module_code.specs.declared.instr.Instr.{Instr}
use Rattle.module_code.specs.declared.instr.Instr.TheVariants as instr
use Rattle.module_code.specs.Program.{Program, pool_of_brigade}
use Rattle.run_model.specs.declared.bucket.Mark.{Mark}
use Rattle.run_model.specs.declared.bucket.BrigadeVar.{BrigadeVar}
use Rattle.run_model.specs.declared.bucket.BrigadeVar.TheVariants as var
use Rattle.run_model.specs.declared.fault.FaultKind.{FaultKind}
use Rattle.run_model.specs.declared.fault.FaultKind.TheVariants.{F7, F9}
use Rattle.run_model.specs.Pools.{is_under}
use Rattle.run_model.specs.Buckets.{cleared_bucket}
use Rattle.run_model.specs.Clearing.{is_reached, cleared_var, run_down}
use Rattle.run_model.specs.State.{Configuration, is_passed, set_brigade, with_pools, pool_named}
use Rattle.run_model.specs.Cursors.{CursorPlace, Nowhere, AtLoose, Within, AtEndOf, at_cursor}
use Rattle.run_model.specs.Faults.{Need, Anywhere, OnBucket, OnLoose, InBrigade, InThis, Want, WPool, WUsable, WCursor, wants, usable_fault, passed_fault, loose_fault, within_fault, end_fault}
use Rattle.run_model.specs.Faults.{cursor_fault, new_fault, fault_want, first_fault, fault, or_else}
use Rattle.run_model.specs.EffectOf.{effect_of}
use Rattle.run_model.specs.Steps.{Choice, step, do_pass, handed_over, returned_var, pool_cleared, pool_destroyed}
use Rattle.run_model.specs.Sound.{brigade_name}
use Rattle.model_laws.specs.Laws.{is_within, may_change}
use Rattle.model_laws.specs.Marks.{is_at, wants_use, uses, may_come_first, HoldsPassed, StaysPassed, PassesMark, PassedIsNotUsed, StepKeepsPassed, ReturnEndsIn}
use Rattle.run_model.proofs.Updates.{upd_at}
use Rattle.model_laws.proofs.NamedPools.{on_named}
use Rattle.model_laws.proofs.Unchanged.{step_changes_only}
use Rattle.model_laws.proofs.Marks.{first_none, second_none, one_of, uses_unmet}

-- A pass.

handed_passed : (v : BrigadeVar) → usable_fault v ≡ None → HoldsPassed (handed_over v) × (brigade_name (handed_over v) ≡ brigade_name v)
handed_passed var.Null e = absurd (cc)
handed_passed var.Gone e = absurd (cc)
handed_passed (var.Live v) e = (refl, refl)

pub passes_mark : PassesMark
unfolding set_brigade
passes_mark p choice b l r none =
    let written : (do_pass b r).instance.brigades b ≡ handed_over (r.instance.brigades b) = upd_at r.instance.brigades b (handed_over (r.instance.brigades b)) in
    let parts = handed_passed (r.instance.brigades b) (first_none (usable_fault (r.instance.brigades b)) _ none) in
    (subst HoldsPassed (sym written) parts.0, ap brigade_name written ∙ parts.1)

-- The fault of a use.

passed_told : (v : BrigadeVar) → HoldsPassed v → usable_fault v ≡ Some F7
passed_told var.Null h = absurd h
passed_told var.Gone h = absurd h
passed_told (var.Live v) h = ap (λ (m : Mark). cond (is_passed m) (Some F7) None) h

passed_there : (v : BrigadeVar) → HoldsPassed v → passed_fault v ≡ Some F7
passed_there var.Null h = absurd h
passed_there var.Gone h = absurd h
passed_there (var.Live v) h = ap (λ (m : Mark). cond (is_passed m) (Some F7) None) h

pub not_usable : (v : BrigadeVar) → HoldsPassed v → usable_fault v ≡ None → ⊥
not_usable v h none = let is : usable_fault v ≡ Some F7 = passed_told v h in cc

cursor_told : (r : Configuration) (f : Need) (k : ℕ) (s : CursorPlace) → HoldsPassed (r.instance.brigades k) → is_at s k ≡ true → cursor_fault r f s ≡ Some F7
unfolding cursor_fault
cursor_told r f k Nowhere h used = absurd (cc)
cursor_told r f k (AtLoose x) h used = absurd (cc)
cursor_told r f k (Within b x) h used =
    ap (λ (o : Option FaultKind). or_else o (within_fault f b)) (ap (λ (j : ℕ). passed_fault (r.instance.brigades j)) (sym (eqb-true k b used)) ∙ passed_there (r.instance.brigades k) h)
cursor_told r f k (AtEndOf b) h used =
    ap (λ (o : Option FaultKind). or_else o (end_fault f b)) (ap (λ (j : ℕ). passed_fault (r.instance.brigades j)) (sym (eqb-true k b used)) ∙ passed_there (r.instance.brigades k) h)

use_told : (r : Configuration) (k : ℕ) (w : Want) → HoldsPassed (r.instance.brigades k) → wants_use r k w ≡ true → fault_want r w ≡ Some F7
use_told r k (WUsable b) h used = ap (λ (j : ℕ). usable_fault (r.instance.brigades j)) (sym (eqb-true k b used)) ∙ passed_told (r.instance.brigades k) h
use_told r k (WCursor c f) h used = cursor_told r f k (at_cursor r c) h used
use_told r k w h used = absurd (cc)

-- The faults of operands that may be told before.

abbrev is_operand : Want → Bool
is_operand (WUsable b) = true
is_operand (WCursor c f) = true
is_operand w = false

used_operand : (r : Configuration) (k : ℕ) (w : Want) → wants_use r k w ≡ true → is_operand w ≡ true
used_operand r k (WUsable b) h = refl
used_operand r k (WCursor c f) h = refl
used_operand r k w h = absurd (cc)

-- F7, or one that may come first
abbrev MayComeFirst : Option FaultKind → Type 0
MayComeFirst None = Unit {0}
MayComeFirst (Some k) = (k ≡ F7) ⊎ (may_come_first k ≡ true)

either_told : (a b : Option FaultKind) → MayComeFirst a → MayComeFirst b → MayComeFirst (or_else a b)
either_told None b first second = second
either_told (Some k) b first second = first

test_told : (b : Bool) → MayComeFirst (cond b (Some F7) None)
test_told true = inl refl
test_told false = tt

same_told : (b : Bool) → MayComeFirst (cond b None (Some F9))
same_told true = tt
same_told false = inr refl

usable_told : (v : BrigadeVar) → MayComeFirst (usable_fault v)
usable_told var.Null = inr refl
usable_told var.Gone = inr refl
usable_told (var.Live v) = test_told (is_passed v.mark)

mark_told : (v : BrigadeVar) → MayComeFirst (passed_fault v)
mark_told var.Null = tt
mark_told var.Gone = tt
mark_told (var.Live v) = test_told (is_passed v.mark)

loose_told : (f : Need) → MayComeFirst (loose_fault f)
loose_told Anywhere = tt
loose_told OnBucket = tt
loose_told OnLoose = tt
loose_told InBrigade = inr refl
loose_told (InThis a) = inr refl

within_told : (f : Need) (b : ℕ) → MayComeFirst (within_fault f b)
within_told Anywhere b = tt
within_told OnBucket b = tt
within_told OnLoose b = inr refl
within_told InBrigade b = tt
within_told (InThis a) b = same_told (b == a)

end_told : (f : Need) (b : ℕ) → MayComeFirst (end_fault f b)
end_told Anywhere b = tt
end_told OnBucket b = inr refl
end_told OnLoose b = inr refl
end_told InBrigade b = inr refl
end_told (InThis a) b = same_told (b == a)

place_told : (r : Configuration) (f : Need) (s : CursorPlace) → MayComeFirst (cursor_fault r f s)
unfolding cursor_fault
place_told r f Nowhere = inr refl
place_told r f (AtLoose x) = loose_told f
place_told r f (Within b x) = either_told _ _ (mark_told (r.instance.brigades b)) (within_told f b)
place_told r f (AtEndOf b) = either_told _ _ (mark_told (r.instance.brigades b)) (end_told f b)

operand_told : (r : Configuration) (w : Want) → is_operand w ≡ true → MayComeFirst (fault_want r w)
operand_told r (WUsable b) h = usable_told (r.instance.brigades b)
operand_told r (WCursor c f) h = place_told r f (at_cursor r c)
operand_told r w h = absurd (cc)

-- Brigades and cursors are asked for before all else that stands with them.

abbrev operands_first : List Want → Bool
operands_first [] = true
operands_first (w ∷ ws) = cond (is_operand w) (operands_first ws) (not (list_any is_operand ws))

wants_ordered : (p : Program) (i : Instr) → operands_first (wants p i) ≡ true
wants_ordered p (instr.Jump l) = refl
wants_ordered p i = refl

used_any : (r : Configuration) (k : ℕ) (ws : List Want) → list_any (wants_use r k) ws ≡ true → list_any is_operand ws ≡ true
used_any r k [] h = absurd (cc)
used_any r k (w ∷ ws) h = elim (one_of (wants_use r k w) (list_any (wants_use r k) ws) h) [
  | inl this ↦ or_left (is_operand w) (list_any is_operand ws) (used_operand r k w this)
  | inr later ↦ or_right (is_operand w) (list_any is_operand ws) (used_any r k ws later)
]

-- a want that stands before a use is an operand
ordered : (w : Want) (ws : List Want) → operands_first (w ∷ ws) ≡ true → list_any is_operand ws ≡ true → (is_operand w ≡ true) × (operands_first ws ≡ true)
ordered w ws h some = by_test (is_operand w) h where
  by_test : (b : Bool) → cond b (operands_first ws) (not (list_any is_operand ws)) ≡ true → (b ≡ true) × (operands_first ws ≡ true)
  by_test true h = (refl, h)
  by_test false h = absurd (let no_operand : not true ≡ true = ap not (sym some) ∙ h in cc)

-- the same of a list of wants as `FaultBefore` of an instruction
record WantsBefore (r : Configuration) (k : ℕ) (ws : List Want) : Type 0 where
  kind : FaultKind
  told : first_fault r ws ≡ Some kind
  one_of : may_come_first kind ≡ true
  earlier : List Want
  want : Want
  later : List Want
  order : ws ≡ earlier ++ want ∷ later
  unmet : fault_want r want ≡ Some kind
  unused : list_any (wants_use r k) (earlier ++ want ∷ []) ≡ false

told_first : (r : Configuration) (k : ℕ) (ws : List Want) → operands_first ws ≡ true → list_any (wants_use r k) ws ≡ true → HoldsPassed (r.instance.brigades k)
    → (first_fault r ws ≡ Some F7) ⊎ WantsBefore r k ws
told_first r k [] fine used h = absurd (cc)
told_first r k (w ∷ ws) fine used h = by_use (λ rest later. told_first r k ws rest later h) (wants_use r k w) refl used where
  one_more : fault_want r w ≡ None → wants_use r k w ≡ false → (first_fault r ws ≡ Some F7) ⊎ WantsBefore r k ws → (first_fault r (w ∷ ws) ≡ Some F7) ⊎ WantsBefore r k (w ∷ ws)
  one_more none unused (inl e) = inl (ap (λ (o : Option FaultKind). or_else o (first_fault r ws)) none ∙ e)
  one_more none unused (inr e) = inr (record {
    kind = e.kind;
    told = ap (λ (o : Option FaultKind). or_else o (first_fault r ws)) none ∙ e.told;
    one_of = e.one_of;
    earlier = w ∷ e.earlier;
    want = e.want;
    later = e.later;
    order = ap (λ (xs : List Want). w ∷ xs) e.order;
    unmet = e.unmet;
    unused = ap (λ (b : Bool). b || list_any (wants_use r k) (e.earlier ++ e.want ∷ [])) unused ∙ e.unused;
  })

  here : (j : FaultKind) → fault_want r w ≡ Some j → wants_use r k w ≡ false → (j ≡ F7) ⊎ (may_come_first j ≡ true) → (first_fault r (w ∷ ws) ≡ Some F7) ⊎ WantsBefore r k (w ∷ ws)
  here j is unused (inl e) = inl (ap (λ (o : Option FaultKind). or_else o (first_fault r ws)) is ∙ ap (λ (x : FaultKind). Some x) e)
  here j is unused (inr e) = inr (record {
    kind = j;
    told = ap (λ (o : Option FaultKind). or_else o (first_fault r ws)) is;
    one_of = e;
    earlier = [];
    want = w;
    later = ws;
    order = refl;
    unmet = is;
    unused = ap (λ (b : Bool). b || false) unused;
  })

  by_fault : (operands_first ws ≡ true → list_any (wants_use r k) ws ≡ true → (first_fault r ws ≡ Some F7) ⊎ WantsBefore r k ws) → (o : Option FaultKind) → fault_want r w ≡ o → MayComeFirst o
      → wants_use r k w ≡ false → list_any (wants_use r k) ws ≡ true → operands_first ws ≡ true → (first_fault r (w ∷ ws) ≡ Some F7) ⊎ WantsBefore r k (w ∷ ws)
  by_fault behind None none as_told unused later rest = one_more none unused (behind rest later)
  by_fault behind (Some j) is as_told unused later rest = here j is unused as_told

  by_use : (operands_first ws ≡ true → list_any (wants_use r k) ws ≡ true → (first_fault r ws ≡ Some F7) ⊎ WantsBefore r k ws) → (b : Bool) → wants_use r k w ≡ b
      → (b || list_any (wants_use r k) ws) ≡ true → (first_fault r (w ∷ ws) ≡ Some F7) ⊎ WantsBefore r k (w ∷ ws)
  by_use behind true is later = inl (ap (λ (o : Option FaultKind). or_else o (first_fault r ws)) (use_told r k w h is))
  by_use behind false is later =
      let parts = ordered w ws fine (used_any r k ws later) in by_fault behind (fault_want r w) refl (operand_told r w parts.0) is later parts.1

pub passed_is_not_used : PassedIsNotUsed
passed_is_not_used p b r i used h = elim (told_first r b (wants p i) (wants_ordered p i) used h) [
  | inl e ↦ inl e
  | inr e ↦ inr (record { kind = e.kind; told = e.told; one_of = e.one_of; earlier = e.earlier; want = e.want; later = e.later; order = e.order; unmet = e.unmet; unused = e.unused })
]

-- Steps.

pub still : (v : BrigadeVar) → HoldsPassed v → StaysPassed v v
still var.Null h = absurd h
still var.Gone h = absurd h
still (var.Live v) h = (refl, h)

still_at : (v w : BrigadeVar) → w ≡ v → HoldsPassed v → StaysPassed v w
still_at v w is h = subst (λ (x : BrigadeVar). StaysPassed v x) (sym is) (still v h)

-- what a step does not change stays
kept_unless : (p : Program) (choice : Choice) (i : Instr) (b : ℕ) (r : Configuration) → (may_change r (effect_of i) b ≡ true → ⊥) → HoldsPassed (r.instance.brigades b)
    → StaysPassed (r.instance.brigades b) ((step p choice i r).state.instance.brigades b)
kept_unless p choice i b r never h =
    still_at (r.instance.brigades b) ((step p choice i r).state.instance.brigades b) ((step_changes_only p choice i r).brigades b (false_from_ne_true (may_change r (effect_of i) b) never)) h

live_not_new : (v : BrigadeVar) → HoldsPassed v → new_fault v ≡ None → ⊥
live_not_new var.Null h none = h
live_not_new var.Gone h none = h
live_not_new (var.Live v) h none = cc

within_at : (s : CursorPlace) (k : ℕ) → is_within s k ≡ true → is_at s k ≡ true
within_at Nowhere k h = h
within_at (AtLoose x) k h = h
within_at (Within b x) k h = h
within_at (AtEndOf b) k h = absurd (cc)

-- whether an instruction may change a brigade that it does not use
abbrev is_remade : Instr → Bool
is_remade (instr.PClear q) = true
is_remade (instr.PDestroy q) = true
is_remade (instr.BCreate o) = true
is_remade (instr.BClean b) = true
is_remade (instr.Ret s) = true
is_remade i = false

-- a first or a later use
first : (a b : Bool) → a ≡ true → (a || b) ≡ true
first a b h = or_left a b h

both : (a b c : Bool) → (a || b) ≡ true → (a || (b || c)) ≡ true
both true b c h = refl
both false true c h = refl
both false false c h = absurd (cc)

-- what an instruction changes, but for those of pools, for a new brigade and a clean, and for a return, it uses
changed_used : (p : Program) (r : Configuration) (i : Instr) (k : ℕ) → is_remade i ≡ false → may_change r (effect_of i) k ≡ true → uses p r i k ≡ true
changed_used p r (instr.BConcat a b) k plain h = both (k == a) (k == b) false h
changed_used p r (instr.BSplit b c a) k plain h = split_used (k == b) (k == a) (is_at (at_cursor r c) k) h where
  split_used : (x y z : Bool) → (x || y) ≡ true → (x || (z || (y || false))) ≡ true
  split_used true y z h = refl
  split_used false true true h = refl
  split_used false true false h = refl
  split_used false false z h = absurd (cc)
changed_used p r (instr.BPart b x c l) k plain h = first (k == b) _ h
changed_used p r (instr.BSave o b) k plain h = both (k == o) (k == b) false h
changed_used p r (instr.Pass b l) k plain h = first (k == b) _ h
changed_used p r (instr.Unlink c) k plain h = first (is_at (at_cursor r c) k) _ (within_at (at_cursor r c) k h)
changed_used p r (instr.BDelete c) k plain h = first (is_at (at_cursor r c) k) _ (within_at (at_cursor r c) k h)
changed_used p r (instr.Tail b c) k plain h = first (k == b) _ h
changed_used p r (instr.Head b c) k plain h = first (k == b) _ h
changed_used p r (instr.Before c d) k plain h = or_right (is_at (at_cursor r c) k) _ (first (is_at (at_cursor r d) k) _ (within_at (at_cursor r d) k h))
changed_used p r (instr.Split c x l) k plain h = first (is_at (at_cursor r c) k) _ (within_at (at_cursor r c) k h)
changed_used p r (instr.Aside c q) k plain h = first (is_at (at_cursor r c) k) _ (within_at (at_cursor r c) k h)
changed_used p r (instr.Read c l) k plain h = first (is_at (at_cursor r c) k) _ (within_at (at_cursor r c) k h)
changed_used p r i k plain h = absurd (cc)

-- so a step without a fault leaves a passed brigade as it is
plain_keeps : (p : Program) (choice : Choice) (i : Instr) (b : ℕ) (r : Configuration) → is_remade i ≡ false → fault p r i ≡ None → HoldsPassed (r.instance.brigades b)
    → StaysPassed (r.instance.brigades b) ((step p choice i r).state.instance.brigades b)
plain_keeps p choice i b r plain none h = kept_unless p choice i b r (λ t. uses_unmet r b (wants p i) (not_usable (r.instance.brigades b) h) (changed_used p r i b plain t) none) h

pub cleared_stays : (reached : ℕ → Bool) (v : BrigadeVar) → HoldsPassed v → StaysPassed v (cleared_var reached v)
cleared_stays reached var.Null h = absurd h
cleared_stays reached var.Gone h = absurd h
cleared_stays reached (var.Live v) h = by_test (is_reached reached v.on) where
  by_test : (t : Bool) → StaysPassed (var.Live v) (cond t var.Gone (var.Live (record v { items = map (cleared_bucket reached) v.items })))
  by_test true = tt
  by_test false = (refl, h)

pub returned_stays : (call : ℕ) (t : Bool) (v : BrigadeVar) → t ≡ false → HoldsPassed v → StaysPassed v (cond t var.Null (returned_var call v))
returned_stays call true v other h = absurd (cc)
returned_stays call false var.Null other h = absurd h
returned_stays call false var.Gone other h = absurd h
returned_stays call false (var.Live v) other h = (refl, h)

pub step_keeps_passed : StepKeepsPassed
unfolding with_pools run_down
step_keeps_passed p choice (instr.PClear q) b r none other h =
    on_named (λ (x : Configuration). StaysPassed (r.instance.brigades b) (x.instance.brigades b)) pool_cleared (pool_named r (pool.Own q)) r (still (r.instance.brigades b) h)
    (λ n e. cleared_stays (is_under r.shared.pools n) (r.instance.brigades b) h)
step_keeps_passed p choice (instr.PDestroy q) b r none other h =
    on_named (λ (x : Configuration). StaysPassed (r.instance.brigades b) (x.instance.brigades b)) pool_destroyed (pool_named r (pool.Own q)) r (still (r.instance.brigades b) h)
    (λ n e. cleared_stays (is_under r.shared.pools n) (r.instance.brigades b) h)
step_keeps_passed p choice (instr.BCreate o) b r none other h =
    kept_unless p choice (instr.BCreate o) b r
    (λ t. live_not_new (r.instance.brigades b) h
    (ap (λ (k : ℕ). new_fault (r.instance.brigades k)) (eqb-true b o t) ∙ first_none (new_fault (r.instance.brigades o)) None (second_none (fault_want r (WPool (pool_of_brigade p o))) _ none)))
    h
step_keeps_passed p choice (instr.BClean c) b r none other h = kept_unless p choice (instr.BClean c) b r (λ t. let no_clean : true ≡ false = sym t ∙ other in cc) h
step_keeps_passed p choice (instr.Ret s) b r none other h = returned_stays r.call.name (b == 8) (r.instance.brigades b) other h
step_keeps_passed p choice i b r none other h = plain_keeps p choice i b r refl none h

pub return_ends_in : ReturnEndsIn
return_ends_in p choice s r = refl
