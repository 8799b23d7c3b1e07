-- A file in memory is shorter than 2 ^ 63 bytes, so no byte is read from beyond.
use Rattle.std.proofs.Common.{◌≡◌, ℕ, ◌-◌, ◌^◌, ◌<◌, ◌≤◌, min, Bool, true, false, cond, nat_le, List, length, take, drop, Option, Some, None, refl, sym, ◌∙◌, ap, ⊎_elim, arith}
use Rattle.std.specs.BTreeMap.{BTreeMap, get_by}
use Rattle.std.specs.HashMap.{get}
use Rattle.std.specs.Prelude.{nat_eq}
use Rattle.std.specs.Ordering.{nat_cmp}
use Rattle.std.specs.Cmp.Lexicographic.{slice_cmp}
use Rattle.std.proofs.lemmas.List.{length-drop}
use Rattle.std.proofs.lemmas.Bool.{cases_lt}
use Rattle.std.proofs.lemmas.Bool.Decides.{nat_tests}
use Rattle.run_model.specs.Files.{part_of, read_part, fails_now}
use Rattle.bucket_kinds.specs.InMemory.{Bytes, text_of, under_one}
use Rattle.bucket_kinds.specs.MemDevice.{files_of}
use Rattle.bucket_kinds.specs.declared.mem_files.MemFiles.{MemFiles}

not_within : (n len : ℕ) → len < n → nat_le n len ≡ false
not_within n len lt = grind (arith, nat_tests)

far_text : (o : Option Bytes) (at n : ℕ) → 2 ^ 63 ≤ at → 0 < n → part_of (text_of o) at n ≡ None
far_text None at n far some = refl
far_text (Some bytes) at n far some =
    let left = length-drop at bytes.items in
    ap (λ b. cond b (Some (take n (drop at bytes.items))) None)
    (not_within n (length (drop at bytes.items)) (omega (arith, left, bytes.ok.0, bytes.ok.1, bytes.small, far, some)))

far_under : (files : BTreeMap Bytes Bytes) (o : Option Bytes) (at n : ℕ) → 2 ^ 63 ≤ at → 0 < n → part_of (under_one files o) at n ≡ None
far_under files None at n far some = refl
far_under files (Some name) at n far some = far_text (get_by (λ k. slice_cmp nat_cmp name.items k.items) files) at n far some

either_way : (b : Bool) (o : Option (List ℕ)) → o ≡ None → cond b None o ≡ None
either_way true o is = refl
either_way false o is = is

pub far_read : (m : MemFiles) (file at n : ℕ) → 2 ^ 63 ≤ at → 0 < n → read_part file at n (files_of m) ≡ None
unfolding read_part files_of
far_read m file at n far some =
    either_way (fails_now m.fails_in) _ (far_under m.files (get nat_eq m.opened file) at n far some)

-- A place that is not a number of 64 bits is read as the last one that is.
pub read_at_last : (m : MemFiles) (file at place n : ℕ) → place ≡ min at (2 ^ 64 - 1) → 0 < n → read_part file at n (files_of m) ≡ read_part file place n (files_of m)
read_at_last m file at place n is some =
    ⊎_elim
    (λ (near : at < 2 ^ 64 - 1). ap (λ k. read_part file k n (files_of m)) (omega (arith, near, is)))
    (λ (far : 2 ^ 64 - 1 ≤ at). far_read m file at n (omega (arith, far)) some ∙ sym (far_read m file place n (omega (arith, far, is)) some))
    (cases_lt at (2 ^ 64 - 1))
