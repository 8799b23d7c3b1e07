-- A brigade is handed over, and taken in.
use Rattle.std.proofs.Common.{◌≡◌, ◌≢◌, ◌==◌, ℕ, ◌<◌, Bool, ◌||◌, List, Some, None, Option, refl, sym, ap, ◌∙◌, ◌⊎◌, inl, inr, arith}
use Rattle.std.specs.Prelude.{if◌then◌else◌, slice_index_or}
use Rattle.std.proofs.Math.Path.{fun_ext}
use Rattle.run_model.specs.declared.bucket.PoolVar.{PoolVar}
use Rattle.run_model.specs.declared.bucket.PoolVar.TheVariants as poolvar
use Rattle.std.proofs.lemmas.Bool.{cases_eq, ne_eqb}
use Rattle.bucket_ring.specs.declared.names.BucketId.{BucketId}
use Rattle.run_model.specs.declared.bucket.BrigadeVar.{BrigadeVar}
use Rattle.run_model.specs.declared.bucket.Mark.TheVariants.{Usable, Passed}
use Rattle.run_model.specs.Buckets.{has_eos}
use Rattle.run_model.specs.Effects.{do_pass, handed_over}
use Rattle.run_model.specs.State.{Configuration, set_brigade}
use Rattle.run_model.proofs.Updates.{upd_upd, upd_at}
use Rattle.bucket_store.specs.Items.{Items}
use Rattle.interp_state.specs.declared.machine.Instance.{Instance}
use Rattle.interp_state.specs.declared.machine.Call.{Call}
use Rattle.interp_state.specs.declared.machine.Slot.{Slot}
use Rattle.interp_state.specs.declared.machine.Slot.TheVariants as slot
use Rattle.interp_state.specs.ContextViews.{ContextView}
use Rattle.interp_state.specs.Contents.{contents}
use Rattle.interp_calls.specs.Handed.{lent}
use Rattle.interp_state.specs.Held.{HeldOver}
use Rattle.interp_state.specs.Slots.{slot_at, name_in, live_in, marked, SameButSlots}
use Rattle.interp_state.specs.Seen.{seen_over, calls_in, shown_as, shown_slot}
use Rattle.interp_state.proofs.Contents.{items_told}
use Rattle.interp_state.proofs.Vars.{seen_var}

handed_marked : (runs : ℕ → Bool) (L : ℕ → Option Items) (s : Slot) → handed_over (shown_slot runs L (marked Passed s)) ≡ handed_over (shown_slot runs L s)
handed_marked runs L slot.Null = refl
handed_marked runs L (slot.Made n pool mark) = go (L n) where
  go : (o : Option Items) → handed_over (shown_as runs n pool Passed o) ≡ handed_over (shown_as runs n pool mark o)
  go None = refl
  go (Some xs) = refl

lent_set : (b : ℕ) (v : BrigadeVar) (r : Configuration) → lent b (set_brigade b v r) ≡ set_brigade b (handed_over v) r
unfolding set_brigade
lent_set b v r = ap (λ (w : BrigadeVar). set_brigade b (handed_over w) (set_brigade b v r)) (upd_at r.instance.brigades b v)
    ∙ ap (λ (f : ℕ → BrigadeVar). record r { instance = record r.instance { brigades = f } }) (upd_upd r.instance.brigades b v (handed_over v))

abbrev with_sent : Bool → Configuration → Configuration
with_sent t r = record r { instance = record r.instance { sent = t } }

module _ (L : ℕ → Option Items) (k : ℕ) (view : ContextView) (i noted new : Instance) (call : Call) (b : ℕ)
    (same : (a : ℕ) → slot_at noted a ≡ slot_at i a) (pools : noted.pools ≡ i.pools) (numbers : noted.numbers ≡ i.numbers) (left : noted.left ≡ i.left) where
  seen_noted : seen_over L k view noted call ≡ with_sent noted.sent (seen_over L k view i call)
  unfolding seen_over
  seen_noted =
      let r = seen_over L k view i call in
      ap (λ (f : ℕ → BrigadeVar). record r {
        instance = record {
          pools = λ p. slice_index_or noted.pools p poolvar.Null;
          brigades = f;
          numbers = λ n. slice_index_or noted.numbers n 0;
          sent = noted.sent;
          left = noted.left;
        };
      }) (fun_ext (λ a. ap (shown_slot (calls_in view call) L) (same a)))
      ∙ (ap (λ (ps : List PoolVar). record r { instance = record r.instance { pools = λ p. slice_index_or ps p poolvar.Null; numbers = λ n. slice_index_or noted.numbers n 0; sent = noted.sent; left = noted.left } })
      pools
      ∙ (ap (λ (ns : List ℕ). record r { instance = record r.instance { numbers = λ n. slice_index_or ns n 0; sent = noted.sent; left = noted.left } }) numbers
      ∙ ap (λ (t : Bool). record r { instance = record r.instance { sent = noted.sent; left = t } }) left))

  pub seen_lent : noted.sent ≡ (i.sent || has_eos (contents (calls_in view call) L (live_in L (slot_at i b)))) → SameButSlots noted new
      → ((a : ℕ) → slot_at new a ≡ (if a == b then marked Passed (slot_at noted b) else slot_at noted a))
      → lent b (seen_over L k view new call) ≡ do_pass b (seen_over L k view i call)
  unfolding seen_over
  seen_lent sent rest sets =
      let runs = calls_in view call in
      let r = seen_over L k view i call in
      ap (lent b) (seen_var L k view noted new call b (marked Passed (slot_at noted b)) rest sets)
      ∙ (lent_set b (shown_slot runs L (marked Passed (slot_at noted b))) (seen_over L k view noted call)
      ∙ (ap (λ (w : BrigadeVar). set_brigade b w (seen_over L k view noted call)) (handed_marked runs L (slot_at noted b) ∙ ap (λ s. handed_over (shown_slot runs L s)) (same b))
      ∙ (ap (λ x. set_brigade b (handed_over (r.instance.brigades b)) x) seen_noted
      ∙ ap (λ t. set_brigade b (handed_over (r.instance.brigades b)) (with_sent t r)) (sent ∙ ap (λ items. i.sent || has_eos items) (items_told runs L (slot_at i b))))))

-- `in` takes a brigade that is in no other variable
pub held_taken : (at : BucketId → Option ℕ) (L : ℕ → Option Items) (p : ℕ → Option ℕ) (next : ℕ) (i new : Instance) (call : Call) (name : ℕ)
    → ((a : ℕ) → slot_at new a ≡ (if a == 8 then slot.Made name None Usable else slot_at i a))
    → ((a : ℕ) → name_in (slot_at i a) ≢ Some name) → name ≢ call.name → 0 < name → name < next → HeldOver at L p next i call → HeldOver at L p next new call
held_taken at L p next i new call name sets free other pos given held = record {
  apart = λ a b n e f. elim (which a n e) [
    | inl x ↦ elim (which b n f) [ inl y ↦ x.0 ∙ sym y.0 | inr y ↦ absurd (free b (y.1 ∙ ap (λ (j : ℕ). Some j) (sym x.1))) ]
    | inr x ↦ elim (which b n f) [ inl y ↦ absurd (free a (x.1 ∙ ap (λ (j : ℕ). Some j) (sym y.1))) | inr y ↦ held.apart a b n x.1 y.1 ]
  ];
  loose = λ b e. elim (which b call.name e) [ inl x ↦ other x.1 | inr x ↦ held.loose b x.1 ];
  given = held.given;
  named = λ b n e. elim (which b n e) [ inl x ↦ (let q = x.1 in omega (arith, q, given)) | inr x ↦ held.named b n x.1 ];
  real = λ b n e. elim (which b n e) [ inl x ↦ (let q = x.1 in omega (arith, q, pos)) | inr x ↦ held.real b n x.1 ];
  called = held.called;
  runs = held.runs;
  free = held.free;
  on = λ b n pool mark own is there. held.on b n pool mark own (sym (as_was b own) ∙ is) there;
  incoming = λ n pool mark is. (let x : slot.Made name None Usable ≡ slot.Made n pool mark = sym here ∙ is in cc);
} where
  here : slot_at new 8 ≡ slot.Made name None Usable
  here = sets 8

  as_was : (b : ℕ) → b ≢ 8 → slot_at new b ≡ slot_at i b
  as_was b ne = sets b ∙ ap (λ (t : Bool). if t then slot.Made name None Usable else slot_at i b) (ne_eqb b 8 ne)

  which : (b n : ℕ) → name_in (slot_at new b) ≡ Some n → ((b ≡ 8) × (name ≡ n)) ⊎ ((b ≢ 8) × (name_in (slot_at i b) ≡ Some n))
  which b n e = elim (cases_eq b 8) [
    | inl q ↦ inl (q, (let x : Some name ≡ Some n = sym (ap name_in (ap (slot_at new) q ∙ here)) ∙ e in cc))
    | inr ne ↦ inr (ne, sym (ap name_in (as_was b ne)) ∙ e)
  ]
