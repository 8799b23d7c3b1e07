-- What comes back to a passed brigade changes nothing that a state says.
use Rattle.std.proofs.Common.{◌≡◌, ◌≢◌, ℕ, List, None, inl, inr, sym, ◌∙◌, ap, subst}
use Rattle.run_model.specs.declared.bucket.Brigade.{Brigade}
use Rattle.run_model.specs.declared.bucket.BrigadeVar.{BrigadeVar}
use Rattle.run_model.specs.declared.bucket.BrigadeVar.TheVariants as var
use Rattle.run_model.specs.declared.bucket.Cursor.{Cursor}
use Rattle.run_model.specs.declared.bucket.Home.{Home}
use Rattle.run_model.specs.declared.bucket.Mark.{Mark}
use Rattle.run_model.specs.declared.bucket.Mark.TheVariants.{Usable, Passed}
use Rattle.run_model.specs.declared.bucket.NamedBucket.{NamedBucket}
use Rattle.run_model.specs.BrigadeLists.{bucket_named}
use Rattle.run_model.specs.Faults.{usable_fault}
use Rattle.run_model.specs.Sound.{brigade_name}
use Rattle.run_model.specs.State.{Configuration, items_of}
use Rattle.run_model.specs.Steps.{with_items}
use Rattle.run_model.proofs.Updates.{upd_off}
use Rattle.life_state.specs.declared.parts.Classes.{Classes}
use Rattle.life_state.specs.States.{Homes, BrigadeKnown, CursorKnown, Unset, Loose, In, End, InOrEnd, State}
use Rattle.life_check.specs.Meaning.{FitsMark, FitsBrigade, IsAtBucketOf, IsEndOf, FitsCursor, Fits}
use Rattle.life_check.proofs.Standing.{upd_second}
use Rattle.run_model.specs.Passing.{given_back}

module _ (C : Homes → Home → Type 0) (r : Configuration) (b : ℕ) (left : List NamedBucket) (v : Brigade) (at : r.instance.brigades b ≡ var.Live v) (passed : v.mark ≡ Passed) where
  abbrev given : Configuration
  given = record r { instance = given_back b left r.instance }

  passed_fault : (m : Mark) → m ≡ Passed → usable_fault (var.Live (record v { mark = m })) ≡ None → ⊥
  passed_fault Usable e h = absurd (cc)
  passed_fault Passed e h = absurd (cc)

  not_here : (a : ℕ) → usable_fault (r.instance.brigades a) ≡ None → a ≢ b
  not_here a usable same = passed_fault v.mark passed (sym (ap usable_fault at) ∙ subst (λ (k : ℕ). usable_fault (r.instance.brigades k) ≡ None) same usable)

  off : (a : ℕ) → usable_fault (r.instance.brigades a) ≡ None → given.instance.brigades a ≡ r.instance.brigades a
  off a usable = upd_off r.instance.brigades b a (with_items left (r.instance.brigades b)) (not_here a usable)

  in_given : (w : Cursor) (a : ℕ) (t : Classes) → IsAtBucketOf r w a t → IsAtBucketOf given w a t
  in_given w a t i = record {
    bucket = i.bucket;
    at = i.at;
    classed = i.classed;
    there = ap (λ (x : BrigadeVar). bucket_named i.bucket.name (items_of x)) (off a i.usable) ∙ i.there;
    usable = ap usable_fault (off a i.usable) ∙ i.usable;
  }

  end_given : (w : Cursor) (a : ℕ) → IsEndOf r w a → IsEndOf given w a
  end_given w a i = record { called = i.called; at = i.at; there = ap brigade_name (off a i.usable) ∙ i.there; usable = ap usable_fault (off a i.usable) ∙ i.usable }

  cursor_given : (k : CursorKnown) (w : Cursor) → FitsCursor C r k w → FitsCursor C given k w
  cursor_given Unset w g = tt
  cursor_given (Loose t h) w g = record { bucket = g.bucket; at = g.at; there = g.there; classed = g.classed; covered = g.covered }
  cursor_given (In a t) w g = in_given w a t g
  cursor_given (End a) w g = end_given w a g
  cursor_given (InOrEnd a t) w (inl g) = inl (in_given w a t g)
  cursor_given (InOrEnd a t) w (inr g) = inr (end_given w a g)

  mark_given : (k : BrigadeKnown) (m : Mark) → m ≡ Passed → FitsMark C k m v.items → FitsMark C k m left
  mark_given k Usable e g = absurd (cc)
  mark_given k Passed e g = g

  brigade_given : (k : BrigadeKnown) (x : BrigadeVar) → x ≡ var.Live v → FitsBrigade C k x → FitsBrigade C k (with_items left x)
  brigade_given k x is g =
      subst (λ (y : BrigadeVar). FitsBrigade C k (with_items left y)) (sym is) (let h : FitsBrigade C k (var.Live v) = subst (FitsBrigade C k) is g in (h.0, mark_given k v.mark passed h.1))

  pub given_fits : (s : State) → Fits C s r → Fits C s given
  given_fits s f = record {
    sent = f.sent;
    pools = f.pools;
    facts = f.facts;
    brigades = upd_second (λ (k : ℕ) (y : BrigadeVar). FitsBrigade C (s.brigades k) y) r.instance.brigades b (with_items left (r.instance.brigades b))
        (brigade_given (s.brigades b) (r.instance.brigades b) at (f.brigades b)) (λ k ne. f.brigades k);
    cursors = λ c. cursor_given (s.cursors c) (r.call.cursors c) (f.cursors c);
  }
