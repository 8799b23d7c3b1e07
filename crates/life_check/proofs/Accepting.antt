-- What is known of a chain whose modules were checked one after another.
use Rattle.std.proofs.Common.{◌≡◌, ℕ, zero, suc, ◌+◌, ◌<◌, ◌≤◌, List, [], ◌∷◌, length, take, All, Some, None, slice_get, slice_index_or, sym, ap, subst, arith}
use Rattle.std.proofs.lemmas.List.Elements.{All-head, All-tail, All-map, All-weaker, All-more, All-same}
use Rattle.std.proofs.lemmas.List.{length-map, take_all}
use Rattle.module_code.specs.Program.{IsModule}
use Rattle.run_model.specs.Chains.{module_at}
use Rattle.model_laws.specs.OpenRuns.{InstancesAreSafe}
use Rattle.life_check.specs.Accepted.{CertifiedModule, modules_of, IsAccepted, IsChecked, IsCheckedChain}
use Rattle.life_check.specs.Certificates.{Certificate}
use Rattle.life_check.specs.ChainTheorem.{AllTyped}
use Rattle.life_check.specs.Slim.{meant}
use Rattle.life_check.proofs.alone.Safe.{typed_is_safe}

pub all_accepted : (parts : List CertifiedModule) → All IsChecked parts → All IsAccepted parts
all_accepted parts all = All-weaker IsChecked IsAccepted (λ x h. h.accepts) parts all

-- each module that was checked is safe by itself
pub all_safe : (parts : List CertifiedModule) → All IsChecked parts → All InstancesAreSafe (modules_of parts)
all_safe parts all =
    All-map InstancesAreSafe (λ (x : CertifiedModule). x.0) parts
    (All-weaker IsChecked (λ x. InstancesAreSafe x.0) (λ x h. typed_is_safe x.0 (meant x.0 x.1) h.proper h.bounded h.accepts.typed) parts all)

-- The certificates of a chain, by the places of their modules.

no_cert : Certificate
no_cert = record { idle = None; ready = None; at = λ pc. None; lines = 0 }

abbrev cert_at : List CertifiedModule → ℕ → Certificate
cert_at [] k = no_cert
cert_at (x ∷ xs) zero = meant x.0 x.1
cert_at (x ∷ xs) (suc k) = cert_at xs k

all_typed : (parts : List CertifiedModule) → All IsChecked parts → AllTyped (modules_of parts) (cert_at parts)
unfolding module_at
all_typed [] all k inside = absurd (omega arith)
all_typed (x ∷ xs) all zero inside = (let h : IsChecked x = All-head IsChecked x xs all in (h.bounded, h.accepts.typed))
all_typed (x ∷ xs) all (suc k) inside = all_typed xs (All-tail IsChecked x xs all) k (omega arith)

pub checked_chain : (parts : List CertifiedModule) → 0 < length parts → length parts ≤ 16 → All IsChecked parts → IsCheckedChain (modules_of parts)
checked_chain parts some few all =
    let same : length (modules_of parts) ≡ length parts = length-map parts (λ (x : CertifiedModule). x.0) in
    record {
      chained = record {
        modules = All-map IsModule (λ (x : CertifiedModule). x.0) parts (All-weaker IsChecked (λ x. IsModule x.0) (λ x h. h.proper) parts all);
        some = subst (λ (n : ℕ). 0 < n) (sym same) some;
      };
      few = subst (λ (n : ℕ). n ≤ 16) (sym same) few;
      certs = cert_at parts;
      typed = all_typed parts all;
    }

-- The module at the index.

pub some_at : (parts : List CertifiedModule) (i : ℕ) (x : CertifiedModule) → i < length parts → x ≡ slice_index_or parts i x → slice_get parts i ≡ Some x
some_at [] i x inside is = absurd (omega arith)
some_at (y ∷ ys) zero x inside is = ap (λ (z : CertifiedModule). Some z) (sym is)
some_at (y ∷ ys) (suc i) x inside is = some_at ys i x (omega arith) is

pub one_more : (parts : List CertifiedModule) (i : ℕ) (x : CertifiedModule) → i < length parts → x ≡ slice_index_or parts i x → IsChecked x → All IsChecked (take i parts)
    → All IsChecked (take (i + 1) parts)
one_more parts i x inside is here all = All-more IsChecked parts i x inside all (subst IsChecked is here)

pub all_taken : (parts : List CertifiedModule) (i : ℕ) → length parts ≤ i → All IsChecked (take i parts) → All IsChecked parts
all_taken parts i past all = All-same IsChecked parts (take i parts) (sym (take_all i parts past)) all
