-- A partition of a brigade at a point: its buckets are finer, and a cursor is set to the place that is found.
use Rattle.std.proofs.Common.{◌≡◌, ℕ, ◌≤◌, List, Some, None, All, refl, sym, ◌∙◌, ap, subst}
use Rattle.module_code.specs.declared.instr.Instr.TheVariants as instr
use Rattle.module_code.specs.declared.instr.Value.{Value}
use Rattle.module_code.specs.Program.{Program}
use Rattle.run_model.specs.declared.bucket.BrigadeVar.{BrigadeVar}
use Rattle.run_model.specs.declared.bucket.BrigadeVar.TheVariants as var
use Rattle.run_model.specs.declared.bucket.Cursor.{Cursor}
use Rattle.run_model.specs.declared.bucket.Home.{Home}
use Rattle.run_model.specs.declared.bucket.NamedBucket.{NamedBucket}
use Rattle.run_model.specs.declared.effect.Condition.TheVariants as condition
use Rattle.run_model.specs.BrigadeLists.{partitioned, Cut, Found, AtEnd, Incomplete, partition_answer, place_of}
use Rattle.run_model.specs.BucketSteps.{items_at, set_items, set_place, cursor_at, names_given, names_to_part, is_incomplete}
use Rattle.run_model.specs.Cutting.{FitsKind}
use Rattle.run_model.specs.Effects.{with_items}
use Rattle.run_model.specs.Faults.{usable_fault}
use Rattle.run_model.specs.Sound.{SoundNames, brigade_name, count_named}
use Rattle.run_model.specs.State.{Configuration, items_of, pool_view, set_brigade, set_cursor}
use Rattle.run_model.specs.Steps.{value_of, jumps_if}
use Rattle.model_laws.proofs.CursorNames.{part_there}
use Rattle.model_laws.proofs.Marks.{first_none}
use Rattle.model_laws.proofs.StepNames.{step_names}
use Rattle.run_model.proofs.Updates.{upd_at}
use Rattle.life_state.specs.States.{Homes, End, State}
use Rattle.life_state.specs.Rules.{no_other, after_first, on_condition}
use Rattle.life_check.specs.Meaning.{Covers, IsEndOf, Fits}
use Rattle.life_check.specs.Soundness.{LawOf, Lands}
use Rattle.life_check.proofs.Filled.{filled_items, filled_usable}
use Rattle.life_check.proofs.FinerFits.{finer_fits}
use Rattle.life_check.proofs.FinerSteps.{partition_finer}
use Rattle.life_check.proofs.Places.{placed_fits}
use Rattle.life_check.proofs.SetFits.{set_fits}

-- the end of a brigade that may be used
end_is : (r : Configuration) (b : ℕ) (v : BrigadeVar) → r.instance.brigades b ≡ v → usable_fault v ≡ None → IsEndOf r (cursor_at v None) b
end_is r b var.Null is usable = absurd (cc)
end_is r b var.Gone is usable = absurd (cc)
end_is r b (var.Live v) is usable = record { called = v.name; at = refl; there = ap brigade_name is; usable = ap usable_fault is ∙ usable }

-- names do not hang on cursors
names_unset : (c : ℕ) (w : Cursor) (r : Configuration) → SoundNames (set_cursor c w r) → SoundNames r
unfolding set_cursor
names_unset c w r s = record { once = s.once; fresh = s.fresh; apart = s.apart; given = s.given; limit = s.limit; slots = s.slots }

module _ (p : Program) (lives : Home → Type 0) (r : Configuration) (s : State) (b point c : ℕ) (names : SoundNames r) (kinds : All (λ x. FitsKind x.bucket) (items_at r b))
    (f : Fits (Covers p (pool_view r) lives) s r)
    (usable : usable_fault (r.instance.brigades b) ≡ None) where
  abbrev C : Homes → Home → Type 0
  C = Covers p (pool_view r) lives

  abbrev parts : List NamedBucket
  parts = partitioned r.shared.next point (items_at r b)

  abbrev now : BrigadeVar
  now = with_items parts (r.instance.brigades b)

  abbrev mid : Configuration
  mid = set_items b parts (names_given (names_to_part point (items_at r b)) r)

  mid_fits : Fits C s mid
  mid_fits = finer_fits C r b (names_to_part point (items_at r b)) parts names (partition_finer C (λ h. tt) r.shared.next point (items_at r b) kinds) s f

  mid_usable : usable_fault (mid.instance.brigades b) ≡ None
  unfolding set_brigade
  mid_usable = ap usable_fault (upd_at r.instance.brigades b now) ∙ (filled_usable parts (r.instance.brigades b) ∙ usable)

  -- the place that is found is there
  part_stands : (n : ℕ) → place_of (partition_answer r.shared.next point (items_at r b)) ≡ Some n → 1 ≤ count_named n (items_at mid b)
  unfolding set_brigade
  part_stands n is =
      subst (λ (xs : List NamedBucket). 1 ≤ count_named n xs) (sym (ap items_of (upd_at r.instance.brigades b now) ∙ filled_items parts (r.instance.brigades b) usable))
      (part_there r.shared.next point n (items_at r b) is)

  part_lands : (x : Value) → SoundNames mid → (answer : Cut) → partition_answer r.shared.next point (items_at r b) ≡ answer
      → Lands lives p (on_condition (condition.TooShort b x c) s (after_first c b s)) s (jumps_if (is_incomplete answer)) (set_place c b (place_of answer) mid)
  unfolding set_brigade set_cursor
  part_lands x named Incomplete is =
      set_fits C mid s c (End b) (cursor_at (mid.instance.brigades b) None) no_other named mid_fits (end_is mid b (mid.instance.brigades b) refl mid_usable) (λ k differ set told. absurd (cc))
  part_lands x named AtEnd is = placed_fits C mid s named mid_fits c b None no_other mid_usable (λ n e. absurd (cc)) (λ k differ set told. absurd (cc))
  part_lands x named (Found m) is = placed_fits C mid s named mid_fits c b (Some m) no_other mid_usable (λ n e. part_stands n (ap place_of is ∙ e)) (λ k differ set told. absurd (cc))

-- apr_brigade_partition
pub law_bpart : {lives : Home → Type 0} (b : ℕ) (x : Value) (c l : ℕ) → LawOf lives (instr.BPart b x c l)
law_bpart {lives = lives} b x c l p choice r s ready =
    part_lands p lives r s b (value_of r x) c ready.sound.names (ready.sound.buckets.brigades b) ready.fits (first_none (usable_fault (r.instance.brigades b)) _ ready.may.faultless) x
    (names_unset c _ (set_items b (partitioned r.shared.next (value_of r x) (items_at r b)) (names_given (names_to_part (value_of r x) (items_at r b)) r))
    (step_names p choice (instr.BPart b x c l) r ready.may ready.sound.names))
    (partition_answer r.shared.next (value_of r x) (items_at r b)) refl
