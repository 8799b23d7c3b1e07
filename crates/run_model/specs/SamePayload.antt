-- Equality of payloads is symmetric and transitive: the law of `PartialEq`, whose proof an impl takes from here.
use Rattle.std.proofs.Common.{◌≡◌, true, nat_eq, refl}
use Rattle.std.specs.Cmp.{IsPartialEquivalence, partial_equiv_from_equiv, nat_eq_equiv}
use Rattle.std.specs.Cmp.Lexicographic.{pointwise, lists_per}
use Rattle.run_model.specs.Payloads.{payload_eq}
use Rattle.run_model.specs.declared.payload.Payload.{Payload}
use Rattle.run_model.specs.declared.payload.Payload.TheVariants.{Label, FileRef, Brigade}

nat_per : IsPartialEquivalence nat_eq
nat_per = partial_equiv_from_equiv nat_eq_equiv

text_per : IsPartialEquivalence (pointwise nat_eq)
text_per = lists_per nat_per

pub payload_per : IsPartialEquivalence payload_eq
payload_per = record { symm = symm; trans = trans } where
  symm : (x y : Payload) → payload_eq x y ≡ payload_eq y x
  symm (Label a) (Label b) = text_per.symm a b
  symm (Label a) (FileRef n) = refl
  symm (Label a) (Brigade n) = refl
  symm (FileRef n) (Label a) = refl
  symm (FileRef n) (FileRef m) = nat_per.symm n m
  symm (FileRef n) (Brigade m) = refl
  symm (Brigade n) (Label a) = refl
  symm (Brigade n) (FileRef m) = refl
  symm (Brigade n) (Brigade m) = nat_per.symm n m

  trans : (x y z : Payload) → payload_eq x y ≡ true → payload_eq y z ≡ true → payload_eq x z ≡ true
  trans (Label a) (Label b) (Label c) h k = text_per.trans a b c h k
  trans (Label a) (Label b) (FileRef m) h k = absurd (cc)
  trans (Label a) (Label b) (Brigade m) h k = absurd (cc)
  trans (Label a) (FileRef n) z h k = absurd (cc)
  trans (Label a) (Brigade n) z h k = absurd (cc)
  trans (FileRef n) (Label b) z h k = absurd (cc)
  trans (FileRef n) (FileRef m) (Label c) h k = absurd (cc)
  trans (FileRef n) (FileRef m) (FileRef l) h k = nat_per.trans n m l h k
  trans (FileRef n) (FileRef m) (Brigade l) h k = absurd (cc)
  trans (FileRef n) (Brigade m) z h k = absurd (cc)
  trans (Brigade n) (Label b) z h k = absurd (cc)
  trans (Brigade n) (FileRef m) z h k = absurd (cc)
  trans (Brigade n) (Brigade m) (Label c) h k = absurd (cc)
  trans (Brigade n) (Brigade m) (FileRef l) h k = absurd (cc)
  trans (Brigade n) (Brigade m) (Brigade l) h k = nat_per.trans n m l h k
