-- What is put of a text in parts.
use Rattle.std.proofs.Common.{◌≡◌, ℕ, ◌+◌, ◌<◌, Bool, List, ◌++◌, length, take, Option, Result, Ok, Err, sym, subst, ◌∙◌, arith, length-append}
use Rattle.std.proofs.Math.Seq.{take-append-add}
use Rattle.std.proofs.lemmas.List.{take-append-le}
use Rattle.std.proofs.KnownBytes.{Appends-trans}
use Rattle.std.specs.Io.KnownBytes.{Appends}
use Rattle.byte_streams.specs.declared.sink.SinkFault.{SinkFault}
use Rattle.byte_streams.specs.declared.sink.SinkFault.TheVariants as fault
use Rattle.byte_streams.specs.Texts.{AppendsFront, IsPut}

-- a front of a text is one of a longer text
front_longer : (a b : Option (List ℕ)) (x y : List ℕ) → AppendsFront a b x → AppendsFront a b (x ++ y)
front_longer a b x y (n, below, wrote) =
    let fits : n < length (x ++ y) = omega (arith, length-append x y) in
    let same : take n (x ++ y) ≡ take n x = take-append-le n x y (omega arith) in
    (n, fits, subst (Appends a b) (sym same) wrote)

-- behind all of a text, a front of the next
front_behind : (a b c : Option (List ℕ)) (x y : List ℕ) → Appends a b x → AppendsFront b c y → AppendsFront a c (x ++ y)
front_behind a b c x y all (n, below, wrote) =
    let fits : length x + n < length (x ++ y) = omega (arith, length-append x y) in
    (length x + n, fits, subst (Appends a c) (sym (take-append-add x y n)) (Appends-trans a b c x (take n y) all wrote))

module _ (was is : Bool) where
  -- the sink fails in the first part
  pub put_first : (a b : Option (List ℕ)) (x y : List ℕ) (e : SinkFault) → IsPut a b was is x (Err e) → IsPut a b was is (x ++ y) (Err e)
  put_first a b x y fault.Failed h = (front_longer a b x y h.0, h.1)
  put_first a b x y fault.NoMemory h = (front_longer a b x y h.0, h.1)

  -- the first part is put
  pub put_next : (mid : Bool) (a b c : Option (List ℕ)) (x y : List ℕ) (r : Result (Unit {0}) SinkFault) → Appends a b x × (mid ≡ was) → IsPut b c mid is y r → IsPut a c was is (x ++ y) r
  put_next mid a b c x y (Ok u) first h = (Appends-trans a b c x y first.0 h.0, h.1 ∙ first.1)
  put_next mid a b c x y (Err fault.Failed) first h = (front_behind a b c x y first.0 h.0, h.1)
  put_next mid a b c x y (Err fault.NoMemory) first h = (front_behind a b c x y first.0 h.0, h.1 ∙ first.1)

  -- how a `?` leaves
  pub put_is : (a b : Option (List ℕ)) (x y : List ℕ) (r s : Result (Unit {0}) SinkFault) → r ≡ s → x ≡ y → IsPut a b was is x r → IsPut a b was is y s
  put_is a b x y r s same text h = subst (IsPut a b was is y) same (subst (λ (l : List ℕ). IsPut a b was is l r) text h)
