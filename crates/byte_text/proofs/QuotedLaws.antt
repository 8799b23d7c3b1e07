-- Measuring a text is reading it and taking the length.
use Rattle.std.proofs.Common.{◌≡◌, ℕ, ◌+◌, true, false, cond, List, [], ◌∷◌, ◌++◌, length, Option, Some, None, refl, length-append}
use Rattle.std.specs.Prelude.{option_to_list}
use Rattle.byte_text.specs.declared.quoted.Scan.{Scan}
use Rattle.byte_text.specs.declared.quoted.Scan.TheVariants as scan
use Rattle.byte_text.specs.declared.quoted.ByteRead.{ByteRead}
use Rattle.byte_text.specs.Quoted.{measured_from, measure_step, measure_of, text_from, text_step, scanned, is_done}

step : (r : Option ByteRead) (t : List ℕ) (n : ℕ) (bs : List ℕ) → ((s : Scan) (u : List ℕ) → measured_from s (length u) (n + 1) bs ≡ measure_of (text_from s u (n + 1) bs))
    → measure_step r (length t) n (λ s len. measured_from s len (n + 1) bs) ≡ measure_of (text_step r t n (λ s u. text_from s u (n + 1) bs))
step None t n bs h = refl
step (Some r) t n bs h =
    elim (is_done r.scan) as (λ v. cond v (Some (record { len = length t; used = n + 1 })) (measured_from r.scan (length t + length (option_to_list r.byte)) (n + 1) bs) ≡ measure_of
    (cond v (Some (record { text = t; used = n + 1 })) (text_from r.scan (t ++ option_to_list r.byte) (n + 1) bs))) [
      | true ↦ refl
      | false ↦ rw (← length-append) (h r.scan (t ++ option_to_list r.byte))
    ]

measured_is : (s : Scan) (t : List ℕ) (n : ℕ) (bs : List ℕ) → measured_from s (length t) n bs ≡ measure_of (text_from s t n bs)
measured_is s t n [] = refl
measured_is s t n (b ∷ bs) = step (scanned s b) t n bs (λ u more. measured_is u more (n + 1) bs)

pub measured : (bs : List ℕ) → measured_from scan.Plain 0 1 bs ≡ measure_of (text_from scan.Plain [] 1 bs)
measured bs = measured_is scan.Plain [] 1 bs
