-- Where the buckets of one brigade are cut or read, the state that described the run describes what is left.
use Rattle.std.proofs.Common.{◌≡◌, ◌≢◌, ℕ, ◌<◌, ◌≤◌, List, Some, inl, inr, refl, sym, ◌∙◌, ap, subst, arith}
use Rattle.run_model.specs.declared.bucket.NamedBucket.{NamedBucket}
use Rattle.run_model.specs.declared.bucket.BrigadeVar.{BrigadeVar}
use Rattle.run_model.specs.declared.bucket.BrigadeVar.TheVariants as var
use Rattle.run_model.specs.declared.bucket.Cursor.{Cursor}
use Rattle.run_model.specs.declared.bucket.Cursor.TheVariants as cursor
use Rattle.run_model.specs.declared.bucket.Home.{Home}
use Rattle.run_model.specs.declared.bucket.Mark.{Mark}
use Rattle.run_model.specs.declared.bucket.Mark.TheVariants.{Usable, Passed}
use Rattle.run_model.specs.BrigadeLists.{bucket_named, buckets_from}
use Rattle.run_model.specs.BucketSteps.{items_at, set_items, names_given}
use Rattle.run_model.specs.Effects.{with_items}
use Rattle.run_model.specs.Faults.{usable_fault}
use Rattle.run_model.specs.Indexed.{upd}
use Rattle.run_model.specs.Sound.{SoundNames, brigade_name, count_named}
use Rattle.run_model.specs.State.{Configuration, items_of, set_brigade}
use Rattle.model_laws.proofs.CursorNames.{given_out, found_there}
use Rattle.run_model.proofs.Updates.{upd_either}
use Rattle.life_state.specs.declared.parts.Classes.{Classes}
use Rattle.life_state.specs.States.{Homes, BrigadeKnown, CursorKnown, Unset, Loose, In, End, InOrEnd, State}
use Rattle.life_check.specs.Meaning.{FitsMark, FitsBrigade, IsAtBucketOf, IsEndOf, FitsCursor, Fits}
use Rattle.life_check.proofs.Finer.{Finer, FoundLike, finer_holds, finer_covered, finer_found}

-- A bucket that is in a brigade has a name that was given out.
pub not_new : (r : Configuration) (b n : ℕ) (x : NamedBucket) → SoundNames r → bucket_named n (items_at r b) ≡ Some x → r.shared.next ≢ x.name
not_new r b n x s there same =
    let once : 1 ≤ count_named x.name (items_at r b) = found_there n x (items_at r b) there in
    let lt : x.name < r.shared.next = given_out b x.name r s once in
    omega (arith, same)

items_found : (v : BrigadeVar) (n : ℕ) (x : NamedBucket) (ys : List NamedBucket) → bucket_named n (items_of v) ≡ Some x → items_of (with_items ys v) ≡ ys
unfolding buckets_from
items_found var.Null n x ys is = absurd (cc)
items_found var.Gone n x ys is = absurd (cc)
items_found (var.Live w) n x ys is = refl

fault_kept : (v : BrigadeVar) (ys : List NamedBucket) → usable_fault (with_items ys v) ≡ usable_fault v
fault_kept var.Null ys = refl
fault_kept var.Gone ys = refl
fault_kept (var.Live w) ys = refl

name_kept : (v : BrigadeVar) (ys : List NamedBucket) → brigade_name (with_items ys v) ≡ brigade_name v
name_kept var.Null ys = refl
name_kept var.Gone ys = refl
name_kept (var.Live w) ys = refl

module _ (C : Homes → Home → Type 0) where
  mark_fits : (new : ℕ) (s : BrigadeKnown) (m : Mark) (ys xs : List NamedBucket) → Finer C new ys xs → FitsMark C s m xs → FitsMark C s m ys
  mark_fits new s Usable ys xs f h = (h.0, finer_holds C new ys xs s.content f h.1, finer_covered C new ys xs s.homes f h.2)
  mark_fits new s Passed ys xs f h = h

  brigade_fits : (new : ℕ) (s : BrigadeKnown) (v : BrigadeVar) (ys : List NamedBucket) → Finer C new ys (items_of v) → FitsBrigade C s v → FitsBrigade C s (with_items ys v)
  brigade_fits new s var.Null ys f h = h
  brigade_fits new s var.Gone ys f h = h
  brigade_fits new s (var.Live w) ys f h = (h.0, mark_fits new s w.mark ys w.items f h.1)

  module _ (r : Configuration) (b k : ℕ) (ys : List NamedBucket) (names : SoundNames r) (finer : Finer C r.shared.next ys (items_at r b)) where
    abbrev pub after : Configuration
    after = set_items b ys (names_given k r)

    in_stays : (v : Cursor) (a : ℕ) (t : Classes) → IsAtBucketOf r v a t → IsAtBucketOf after v a t
    unfolding set_brigade upd
    in_stays v a t w = elim (upd_either r.instance.brigades b a (with_items ys (r.instance.brigades b))) [
      | inl h ↦ here h.0 h.1
      | inr h ↦ record { bucket = w.bucket; at = w.at; there = ap (λ g. bucket_named w.bucket.name (items_of g)) h.1 ∙ w.there; classed = w.classed; usable = ap usable_fault h.1 ∙ w.usable }
    ] where
      here : a ≡ b → upd r.instance.brigades b (with_items ys (r.instance.brigades b)) a ≡ with_items ys (r.instance.brigades b) → IsAtBucketOf after v a t
      here same is =
          let there : bucket_named w.bucket.name (items_at r b) ≡ Some w.bucket = ap (λ m. bucket_named w.bucket.name (items_at r m)) (sym same) ∙ w.there in
          let f : FoundLike C w.bucket.name w.bucket ys = finer_found C r.shared.next w.bucket.name w.bucket ys (items_at r b) finer (not_new r b w.bucket.name w.bucket names there) there in
          record {
            bucket = f.bucket;
            at = w.at ∙ ap cursor.At (sym f.name);
            there = ap (λ g. bucket_named f.bucket.name (items_of g)) is ∙ ap (λ g. bucket_named f.bucket.name g) (items_found (r.instance.brigades b) w.bucket.name w.bucket ys there)
                ∙ ap (λ m. bucket_named m ys) f.name ∙ f.there;
            classed = f.like.classed t w.classed;
            usable = ap usable_fault is ∙ fault_kept (r.instance.brigades b) ys ∙ ap (λ m. usable_fault (r.instance.brigades m)) (sym same) ∙ w.usable;
          }

    end_stays : (v : Cursor) (a : ℕ) → IsEndOf r v a → IsEndOf after v a
    unfolding set_brigade upd
    end_stays v a w = elim (upd_either r.instance.brigades b a (with_items ys (r.instance.brigades b))) [
      | inl h ↦ record {
        called = w.called;
        at = w.at;
        there = ap brigade_name h.1 ∙ name_kept (r.instance.brigades b) ys ∙ ap (λ m. brigade_name (r.instance.brigades m)) (sym h.0) ∙ w.there;
        usable = ap usable_fault h.1 ∙ fault_kept (r.instance.brigades b) ys ∙ ap (λ m. usable_fault (r.instance.brigades m)) (sym h.0) ∙ w.usable;
      }
      | inr h ↦ record { called = w.called; at = w.at; there = ap brigade_name h.1 ∙ w.there; usable = ap usable_fault h.1 ∙ w.usable }
    ]

    cursor_stays : (known : CursorKnown) (v : Cursor) → FitsCursor C r known v → FitsCursor C after known v
    unfolding set_brigade upd
    cursor_stays Unset v h = h
    cursor_stays (Loose t g) v h = record { bucket = h.bucket; at = h.at; there = h.there; classed = h.classed; covered = h.covered }
    cursor_stays (In a t) v h = in_stays v a t h
    cursor_stays (End a) v h = end_stays v a h
    cursor_stays (InOrEnd a t) v h = elim h [ inl g ↦ inl (in_stays v a t g) | inr g ↦ inr (end_stays v a g) ]

    pub finer_fits : (s : State) → Fits C s r → Fits C s after
    unfolding set_brigade upd
    finer_fits s h = record {
      sent = h.sent;
      pools = h.pools;
      brigades = λ m. elim (upd_either r.instance.brigades b m (with_items ys (r.instance.brigades b))) [
        | inl g ↦ subst (λ v. FitsBrigade C (s.brigades m) v) (sym g.1)
            (brigade_fits r.shared.next (s.brigades m) (r.instance.brigades b) ys finer (subst (λ a. FitsBrigade C (s.brigades m) (r.instance.brigades a)) g.0 (h.brigades m)))
        | inr g ↦ subst (λ v. FitsBrigade C (s.brigades m) v) (sym g.1) (h.brigades m)
      ];
      cursors = λ c. cursor_stays (s.cursors c) (r.call.cursors c) (h.cursors c);
      facts = h.facts;
    }
