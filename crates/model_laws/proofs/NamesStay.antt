-- Changes that keep each name one bucket's, and new names new.
use Rattle.std.proofs.Common.{◌≡◌, ℕ, ◌+◌, ◌^◌, ◌<◌, ◌≤◌, Bool, map, Some, ◌⊎◌, inl, inr, refl, sym, ◌∙◌, ap, subst, arith}
use Rattle.std.proofs.lemmas.Option.{same_Some}
use Rattle.std.proofs.lemmas.Bool.{cases_lt}
use Rattle.run_model.specs.declared.bucket.Brigade.{Brigade}
use Rattle.run_model.specs.declared.bucket.BrigadeVar.{BrigadeVar}
use Rattle.run_model.specs.declared.bucket.BrigadeVar.TheVariants as var
use Rattle.run_model.specs.Indexed.{upd}
use Rattle.run_model.specs.Buckets.{cleared_bucket}
use Rattle.run_model.specs.State.{Configuration, items_of}
use Rattle.run_model.specs.Clearing.{cleared_var}
use Rattle.model_laws.specs.Laws.{NamesStaySingle}
use Rattle.run_model.specs.Sound.{NamesStep, sum_below, count_named, count, brigade_name}
use Rattle.run_model.proofs.Updates.{upd_off, upd_either}
use Rattle.run_model.proofs.Sums.{sum_below_le, sum_below_upd}
use Rattle.run_model.proofs.Names.{count_map, Carried, Fewer, cleared_fewer}

-- Names stay single.
pub names_stay : NamesStaySingle
names_stay r new t s = record {
  once = λ n. elim (cases_lt n r.shared.next) [
    | inl lt ↦ (let h : count new n ≤ count r n = t.old n lt in let o : count r n ≤ 1 = s.once n in omega arith)
    | inr le ↦ t.born n le (s.fresh n le)
  ];
  fresh = λ n le. t.fresh n le (s.fresh n (let up : r.shared.next ≤ new.shared.next = t.rises in omega arith));
  apart = λ b c n hb hc. elim (t.apart b c n hb hc) [
    | inl was ↦ (let lt : n < r.shared.next = s.given b n was in elim (t.named c n hc) [ inl too ↦ s.apart b c n was too | inr new_one ↦ absurd (omega (arith, new_one.0)) ])
    | inr other ↦ elim other [
      | inl was ↦ (let lt : n < r.shared.next = s.given c n was in elim (t.named b n hb) [ inl too ↦ s.apart b c n too was | inr new_one ↦ absurd (omega (arith, new_one.0)) ])
      | inr one ↦ one
    ]
  ];
  given = λ b n h. elim (t.named b n h) [
    | inl was ↦ (let lt : n < r.shared.next = s.given b n was in let up : r.shared.next ≤ new.shared.next = t.rises in omega arith)
    | inr new_one ↦ new_one.1
  ];
  limit = t.limit;
  slots = λ b le. t.slots b le (s.slots b le);
}

-- Where buckets do not grow in number and brigades keep their names.
pub keeps_names : (r new : Configuration) → ((n : ℕ) → count new n ≤ count r n) → ((b : ℕ) → Carried (r.instance.brigades b) (new.instance.brigades b)) → r.shared.next ≤ new.shared.next
    → new.shared.next < 2 ^ 64 → NamesStep r new
keeps_names r new fewer carried rises limit = record {
  rises = rises;
  limit = limit;
  old = λ n lt. fewer n;
  born = λ n le none. (let h : count new n ≤ count r n = fewer n in omega arith);
  fresh = λ n le none. (let h : count new n ≤ count r n = fewer n in omega arith);
  named = λ b n h. inl ((carried b).name n h);
  apart = λ b c n hb hc. inl ((carried b).name n hb);
  slots = λ b le none. (carried b).null none;
}

-- the same, slot for slot
pub keeps_slots : (r new : Configuration)
    → ((n : ℕ) → count_named n new.call.loose ≤ count_named n r.call.loose)
    → ((b : ℕ) → Fewer (r.instance.brigades b) (new.instance.brigades b))
    → r.shared.next ≤ new.shared.next → new.shared.next < 2 ^ 64 → NamesStep r new
keeps_slots r new loose slots rises limit =
    keeps_names r new (λ n.
    let l : count_named n new.call.loose ≤ count_named n r.call.loose = loose n in
    let b : sum_below 9 (λ k. count_named n (items_of (new.instance.brigades k))) ≤ sum_below 9 (λ k. count_named n (items_of (r.instance.brigades k))) = sum_below_le 9 _ _ (λ k. (slots k).items n) in
    omega arith)
    (λ k. (slots k).carried) rises limit

-- What a clear leaves of the brigades and of the loose buckets.
pub went_names : (reached : ℕ → Bool) (r new : Configuration)
    → ((b : ℕ) → new.instance.brigades b ≡ cleared_var reached (r.instance.brigades b))
    → new.call.loose ≡ map (cleared_bucket reached) r.call.loose → new.shared.next ≡ r.shared.next → r.shared.next < 2 ^ 64 → NamesStep r new
went_names reached r new brigades loose next limit =
    keeps_slots r new
    (λ n. let same : count_named n new.call.loose ≡ count_named n r.call.loose = ap (count_named n) loose ∙ count_map n (cleared_bucket reached) (λ b. refl) r.call.loose in omega arith)
    (λ b. subst (λ v. Fewer (r.instance.brigades b) v) (sym (brigades b)) (cleared_fewer reached (r.instance.brigades b)))
    (omega arith) (subst (λ (k : ℕ). k < 2 ^ 64) (sym next) limit)

-- A new brigade in a variable: its name and its buckets' are among those that were not given out.
pub placed_names : (r new : Configuration) (o : ℕ) (v : Brigade)
    → o < 9
    → new.instance.brigades ≡ upd r.instance.brigades o (var.Live v)
    → ((n : ℕ) → count_named n new.call.loose ≤ count_named n r.call.loose)
    → r.shared.next ≤ v.name → v.name < new.shared.next → new.shared.next < 2 ^ 64
    → ((n : ℕ) → n < r.shared.next → count_named n v.items ≡ 0)
    → ((n : ℕ) → count_named n v.items ≤ 1)
    → ((n : ℕ) → new.shared.next ≤ n → count_named n v.items ≡ 0)
    → NamesStep r new
placed_names r new o v in_range is loose above below limit old_names once behind = record {
  rises = omega arith;
  limit = limit;
  old = λ n lt. (let h : count new n ≤ count r n + count_named n v.items = counted n in let z : count_named n v.items ≡ 0 = old_names n lt in omega arith);
  born = λ n le none. (let h : count new n ≤ count r n + count_named n v.items = counted n in let z : count_named n v.items ≤ 1 = once n in omega arith);
  fresh = λ n le none. (let h : count new n ≤ count r n + count_named n v.items = counted n in let z : count_named n v.items ≡ 0 = behind n le in omega arith);
  named = λ b n h. elim (named b n h) [
    | inl p ↦ inr (omega (arith, p.1), omega (arith, p.1))
    | inr was ↦ inl was
  ];
  apart = λ b c n hb hc. elim (named b n hb) [
    | inl p ↦ elim (named c n hc) [ inl q ↦ inr (inr (p.0 ∙ sym q.0)) | inr was ↦ inr (inl was) ]
    | inr was ↦ inl was
  ];
  slots = λ b le none. ap (λ (g : ℕ → BrigadeVar). g b) is ∙ (upd_off r.instance.brigades o b (var.Live v) (λ e. absurd (omega (arith, e))) ∙ none);
} where
  counted : (n : ℕ) → count new n ≤ count r n + count_named n v.items
  counted n =
      let l : count_named n new.call.loose ≤ count_named n r.call.loose = loose n in
      let e : sum_below 9 (λ k. count_named n (items_of (new.instance.brigades k))) ≡ sum_below 9 (λ k. count_named n (items_of (upd r.instance.brigades o (var.Live v) k))) =
      ap (λ (g : ℕ → BrigadeVar). sum_below 9 (λ k. count_named n (items_of (g k)))) is in
      let u : sum_below 9 (λ k. count_named n (items_of (upd r.instance.brigades o (var.Live v) k))) + count_named n (items_of (r.instance.brigades o)) ≡ sum_below 9
      (λ k. count_named n (items_of (r.instance.brigades k))) + count_named n v.items = sum_below_upd 9 o r.instance.brigades (var.Live v) (λ x. count_named n (items_of x)) in_range in
      omega arith

  named : (b n : ℕ) → brigade_name (new.instance.brigades b) ≡ Some n → ((b ≡ o) × (v.name ≡ n)) ⊎ (brigade_name (r.instance.brigades b) ≡ Some n)
  named b n h =
      let at_b : new.instance.brigades b ≡ upd r.instance.brigades o (var.Live v) b = ap (λ (g : ℕ → BrigadeVar). g b) is in
      elim (upd_either r.instance.brigades o b (var.Live v)) [
        | inl p ↦ inl (p.0, same_Some v.name n (ap brigade_name (sym (at_b ∙ p.1)) ∙ h))
        | inr p ↦ inr (ap brigade_name (sym (at_b ∙ p.1)) ∙ h)
      ]
