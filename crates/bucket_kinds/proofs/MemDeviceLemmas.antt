-- Files in memory as a device: what a call does to the model's files it does to the device.
use Rattle.std.proofs.Common.{◌≡◌, ℕ, zero, suc, ◌+◌, Bool, true, false, ◌==◌, cond, List, Option, Some, None, is_some, Result, Ok, Err, refl, sym, subst, ◌∙◌, ap}
use Rattle.std.proofs.Math.Path.{fun_ext}
use Rattle.run_model.specs.Indexed.{upd}
use Rattle.run_model.specs.Files.{Files, file_opened, read_done, fails_after_read, fails_now}
use Rattle.bucket_kinds.specs.Device.{Device, Held, Plan, is_there, opened, closed, moved, failed, one_more, nearer, spent, MayGoWell, MayFail, WentWell, HasFailed}
use Rattle.bucket_kinds.specs.Answers.{MayMiss, MayHave, IsOpening}
use Rattle.bucket_kinds.specs.MemDevice.{held_of, plan_of, device_of}
use Rattle.bucket_kinds.specs.MemAnswers.{OpensMemFile, IsSoundOpening, IsOpeningDue, IsFileOpening, file_closed, counted_if, failures_after}
use Rattle.bucket_kinds.specs.declared.refusal.FileFault.{FileFault}
use Rattle.bucket_kinds.specs.declared.refusal.FileFault.TheVariants as fault
use Rattle.bucket_kinds.proofs.OpenNumbers.{open_after}

held_choice : (b : Bool) (x y : Option (List ℕ)) → held_of (cond b x y) ≡ cond b (held_of x) (held_of y)
held_choice true x y = refl
held_choice false x y = refl

held_upd : (f : ℕ → Option (List ℕ)) (i : ℕ) (v : Option (List ℕ)) → (λ n. held_of (upd f i v n)) ≡ upd (λ n. held_of (f n)) i (held_of v)
unfolding upd
held_upd f i v = fun_ext (λ n. held_choice (n == i) v (f n))

abbrev with_numbered : Device → ℕ → (ℕ → Held) → Device
with_numbered d next f = record d { numbered = f; next = next }

opened_device : (fs : Files) (name : List ℕ) (failures : ℕ) → device_of (file_opened name fs) failures ≡ opened name (device_of fs failures)
opened_device fs name failures = ap (with_numbered (device_of fs failures) (fs.next + 1)) (held_upd fs.opened fs.next (fs.named name))

pub closed_device : (fs : Files) (file failures : ℕ) → device_of (file_closed file fs) failures ≡ closed file (device_of fs failures)
closed_device fs file failures = ap (with_numbered (device_of fs failures) fs.next) (held_upd fs.opened file None)

-- The plan of a device after a call is that of the files after it.
well_planned : (o : Option ℕ) → fails_now o ≡ false → (plan_of (fails_after_read o) ≡ nearer (plan_of o)) × MayGoWell (plan_of o)
well_planned None well = (refl, tt)
well_planned (Some zero) well = (cc, cc)
well_planned (Some (suc n)) well = (refl, tt)

fails_spent : (o : Option ℕ) → fails_now o ≡ true → (plan_of (fails_after_read o) ≡ spent (plan_of o)) × MayFail (plan_of o)
fails_spent None fails = (cc, cc)
fails_spent (Some zero) fails = (refl, tt)
fails_spent (Some (suc n)) fails = (cc, cc)

abbrev with_plan : Device → Plan → Device
with_plan d p = record d { plan = p }

moved_device : (fs : Files) (failures : ℕ) → fails_now fs.fails_in ≡ false → device_of (read_done fs) failures ≡ moved (device_of fs failures)
moved_device fs failures well = ap (with_plan (device_of fs failures)) (well_planned fs.fails_in well).0

spent_device : (fs : Files) (failures : ℕ) → fails_now fs.fails_in ≡ true → device_of (read_done fs) (one_more failures) ≡ failed (device_of fs failures)
spent_device fs failures fails = ap (with_plan (device_of fs (one_more failures))) (fails_spent fs.fails_in fails).0

-- A call that fails is counted, and one that goes on well brings that nearer.
pub failed_device : (fs gs : Files) (old new : ℕ) → gs ≡ read_done fs → new ≡ failures_after fs old → fails_now fs.fails_in ≡ true → HasFailed (device_of fs old) (device_of gs new)
failed_device fs gs old new after counted fails = (
  (fails_spent fs.fails_in fails).1,
  ap (λ x. device_of x new) after ∙ (ap (device_of (read_done fs)) (counted ∙ ap (λ f. counted_if f old) fails) ∙ spent_device fs old fails),
)

pub well_device : (fs gs : Files) (old new : ℕ) → gs ≡ read_done fs → new ≡ failures_after fs old → fails_now fs.fails_in ≡ false → WentWell (device_of fs old) (device_of gs new)
well_device fs gs old new after counted well = (
  (well_planned fs.fails_in well).1,
  ap (λ x. device_of x new) after ∙ (ap (device_of (read_done fs)) (counted ∙ ap (λ f. counted_if f old) well) ∙ moved_device fs old well),
)

there_if : (o : Option (List ℕ)) → is_some o ≡ true → is_there (held_of o) ≡ true
there_if None h = h
there_if (Some text) h = refl

has_length : (fs gs : Files) (name : List ℕ) (number len : ℕ) → OpensMemFile fs name number len gs → MayHave len (held_of (fs.named name))
has_length fs gs name number len h = subst (λ o. MayHave len (held_of o)) (sym h.text_is) h.length_is

-- An opening of which no failure was due went on well, whatever is answered.
sound_opening : (fs gs : Files) (name : List ℕ) (r : Result (ℕ × ℕ) FileFault) (failures : ℕ) → fails_now fs.fails_in ≡ false
    → IsSoundOpening (read_done fs) name r gs → IsOpening (device_of fs failures) name r (device_of gs failures)
sound_opening fs gs name (Ok r) failures well h =
    let d = device_of fs failures in
    let after : device_of gs failures ≡ opened name (moved d) =
    ap (λ x. device_of x failures) h.after ∙ (opened_device (read_done fs) name failures ∙ ap (opened name) (moved_device fs failures well)) in
    record {
      number_is = h.number_is;
      number_fits = rw h.number_is h.number_fits;
      number_is_new = ap (λ n. held_of (fs.opened n)) h.number_is ∙ ap held_of h.number_is_new;
      length_is = has_length (read_done fs) gs name r.0 r.1 h;
      went_well = (well_planned fs.fails_in well).1;
      after = after;
      is_open = ap (λ n. is_there ((device_of gs failures).numbered n)) h.number_is
          ∙ open_after (moved d) (device_of gs failures) name r.1 (has_length (read_done fs) gs name r.0 r.1 h) after;
    }
sound_opening fs gs name (Err fault.NotThere) failures well h =
    (subst (λ o. MayMiss (held_of o)) (sym h.0) tt, ((well_planned fs.fails_in well).1, ap (λ x. device_of x failures) h.1 ∙ moved_device fs failures well))
sound_opening fs gs name (Err fault.Failed) failures well h = absurd h
sound_opening fs gs name (Err fault.NamesSpent) failures well h =
    (there_if (fs.named name) h.0, h.1, ((well_planned fs.fails_in well).1, ap (λ x. device_of x failures) h.2 ∙ moved_device fs failures well))
sound_opening fs gs name (Err fault.NoMemory) failures well h =
    (there_if (fs.named name) h.0, h.1, ((well_planned fs.fails_in well).1, ap (λ x. device_of x failures) h.2 ∙ moved_device fs failures well))

-- An opening, which fails where that is due.
pub opening_device : (fs gs : Files) (name : List ℕ) (r : Result (ℕ × ℕ) FileFault) (old new : ℕ)
    → IsFileOpening fs name r gs → new ≡ failures_after fs old → IsOpening (device_of fs old) name r (device_of gs new)
opening_device fs gs name r old new h counted = by (fails_now fs.fails_in) refl h where
  by : (f : Bool) → fails_now fs.fails_in ≡ f → IsOpeningDue f (read_done fs) name r gs → IsOpening (device_of fs old) name r (device_of gs new)
  by true fails due =
      subst (λ x. IsOpening (device_of fs old) name x (device_of gs new)) (sym due.0) (failed_device fs gs old new due.1 counted fails)
  by false well due =
      subst (λ n. IsOpening (device_of fs old) name r (device_of gs n)) (sym (counted ∙ ap (λ f. counted_if f old) well)) (sound_opening fs gs name r old well due)

-- What an opening is, by whether it is due to fail.
pub due_opening : (fs : Files) (name : List ℕ) (fails : Bool) → fails ≡ true → IsOpeningDue fails fs name (Err fault.Failed) fs
due_opening fs name fails is = subst (λ f. IsOpeningDue f fs name (Err fault.Failed) fs) (sym is) (refl, refl)

pub undue_opening : (fs gs : Files) (name : List ℕ) (r : Result (ℕ × ℕ) FileFault) (fails : Bool) → fails ≡ false → IsSoundOpening fs name r gs → IsOpeningDue fails fs name r gs
undue_opening fs gs name r fails is sound = subst (λ f. IsOpeningDue f fs name r gs) (sym is) sound

pub counted_opening : (fs ms gs : Files) (name : List ℕ) (r : Result (ℕ × ℕ) FileFault) (fails : Bool) → fails ≡ fails_now fs.fails_in → ms ≡ read_done fs
    → IsOpeningDue fails ms name r gs → IsFileOpening fs name r gs
counted_opening fs ms gs name r fails now after due =
    subst (λ f. IsOpeningDue f (read_done fs) name r gs) now (subst (λ x. IsOpeningDue fails x name r gs) after due)
