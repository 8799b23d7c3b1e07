-- Data behind an EOS, told in one walk over a list.
use Rattle.std.proofs.Common.{◌≡◌, Bool, true, false, ◌&&◌, ◌||◌, cond, List, [], ◌∷◌, refl, sym, ap, ◌∙◌}
use Rattle.std.specs.List.{list_any}
use Rattle.std.proofs.lemmas.Bool.{false≢true}
use Rattle.run_model.specs.declared.bucket.Kind.{Kind}
use Rattle.run_model.specs.declared.bucket.Kind.TheVariants as kind
use Rattle.run_model.specs.declared.bucket.NamedBucket.{NamedBucket}
use Rattle.interp_state.specs.Tests.{late_data}
use Rattle.run_model.specs.Buckets.{is_data, is_eos, is_data_kind, is_eos_kind, has_data, data_after_eos}

pub eos_is_no_data : (k : Kind) → (is_eos_kind k && is_data_kind k) ≡ false
eos_is_no_data kind.Eos = refl
eos_is_no_data k = refl

-- e: the first bucket is an EOS; d: it is data; a: data stands behind an EOS of the rest; h: the rest has data
one_more : (e d late a h : Bool) → (e && d) ≡ false → cond e (a || (true && h)) (cond (late && d) true (a || (late && h))) ≡ (((e && h) || a) || (late && (d || h)))
one_more true true late a h p = absurd (false≢true (sym p))
one_more true false true true true p = refl
one_more true false true true false p = refl
one_more true false true false true p = refl
one_more true false true false false p = refl
one_more true false false true true p = refl
one_more true false false true false p = refl
one_more true false false false true p = refl
one_more true false false false false p = refl
one_more false true true true true p = refl
one_more false true true true false p = refl
one_more false true true false true p = refl
one_more false true true false false p = refl
one_more false true false true true p = refl
one_more false true false true false p = refl
one_more false true false false true p = refl
one_more false true false false false p = refl
one_more false false true true true p = refl
one_more false false true true false p = refl
one_more false false true false true p = refl
one_more false false true false false p = refl
one_more false false false true true p = refl
one_more false false false true false p = refl
one_more false false false false true p = refl
one_more false false false false false p = refl

-- a test of late data that looks at one after another, and another that looks behind each EOS
module _ {X : Type 0} (eos body : X → Bool) (apart : (x : X) → (eos x && body x) ≡ false) (late : Bool → List X → Bool) (after : List X → Bool)
    (late_none : (t : Bool) → late t [] ≡ false) (late_more : (t : Bool) (x : X) (xs : List X) → late t (x ∷ xs) ≡ cond (eos x) (late true xs) (cond (t && body x) true (late t xs)))
    (after_none : after [] ≡ false) (after_more : (x : X) (xs : List X) → after (x ∷ xs) ≡ ((eos x && list_any body xs) || after xs)) where
  pub late_is : (t : Bool) (xs : List X) → late t xs ≡ (after xs || (t && list_any body xs))
  late_is true [] = late_none true ∙ sym (ap (λ (a : Bool). a || false) after_none)
  late_is false [] = late_none false ∙ sym (ap (λ (a : Bool). a || false) after_none)
  late_is t (x ∷ xs) =
      late_more t x xs
      ∙ (ap (λ (a : Bool). cond (eos x) a (cond (t && body x) true (late t xs))) (late_is true xs)
      ∙ (ap (λ (a : Bool). cond (eos x) (after xs || (true && list_any body xs)) (cond (t && body x) true a)) (late_is t xs)
      ∙ (one_more (eos x) (body x) t (after xs) (list_any body xs) (apart x)
      ∙ sym (ap (λ (a : Bool). a || (t && list_any body (x ∷ xs))) (after_more x xs)))))

pub late_data_is : (late : Bool) (items : List NamedBucket) → late_data late items ≡ (data_after_eos items || (late && has_data items))
late_data_is = late_is is_eos is_data (λ b. eos_is_no_data b.bucket.kind) late_data data_after_eos (λ t. refl) (λ t x xs. refl) refl (λ x xs. refl)
