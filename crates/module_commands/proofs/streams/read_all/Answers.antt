use Rattle.std.proofs.Common.{◌≡◌, ◌∙◌, ℕ, List, [], ◌++◌, take, Bool, Option, Ok, Err, inl, inr, sym, subst, arith}
use Rattle.std.proofs.KnownBytes.{Consumes-trans, Consumes-kept}
use Rattle.std.specs.Io.KnownBytes.{Consumes}
use Rattle.byte_streams.specs.Counted.{IsCounted}
use Rattle.byte_streams.specs.Transfers.{IsRead}
use Rattle.byte_streams.specs.declared.counted.CountedFault.{CountedFault}
use Rattle.byte_streams.specs.declared.counted.CountedFault.TheVariants.{Failed, TooManyReads}
use Rattle.byte_streams.specs.declared.source.ReadAnswer.{ReadAnswer}
use Rattle.byte_streams.specs.declared.source.ReadAnswer.TheVariants.{Bytes, NotNow}
use Rattle.module_commands.specs.StreamFaults.{IsReadOut}
use Rattle.module_commands.proofs.streams.read_all.Goals as goal

reads_on : (x y z : Option (List ℕ)) (start was is : Bool) (n : ℕ) (buffer items all : List ℕ) (a : ReadAnswer) → Consumes x y items × was ≡ start → IsRead y z was is buffer (Ok a) → a ≡ Bytes n
    → all ≡ items ++ take n buffer → Consumes x z all × is ≡ start
reads_on x y z start was is n buffer items all a so_far given e put =
    let read : IsRead y z was is buffer (Ok (Bytes n)) = subst (λ (b : ReadAnswer). IsRead y z was is buffer (Ok b)) e given in
    (subst (Consumes x z) (sym put) (Consumes-trans x y z items (take n buffer) so_far.0 read.2), read.3 ∙ so_far.1)

pub loop-preserved : goal.loop-preserved
loop-preserved g c =
    let so_far = c.loop.invariant in
    let read = c.in-Ok-Bytes in
    let on = reads_on _ _ _ _ _ _ _ _ _ _ _ (so_far.0, so_far.2) read.ensures.1 read.field-0-is c.in_ok-extend_from_slice-in-Ok-Bytes.ensures.items in
    (on.0, omega (arith, so_far.1, read.ensures.0), on.1)

waits : (x y z : Option (List ℕ)) (start was is : Bool) (buffer items : List ℕ) (a : ReadAnswer) → Consumes x y items × was ≡ start → IsRead y z was is buffer (Ok a) → a ≡ NotNow
    → Consumes x z items × is ≡ start
waits x y z start was is buffer items NotNow so_far kept e = (Consumes-kept x y z items so_far.0 kept.0, kept.1 ∙ so_far.1)
waits x y z start was is buffer items a so_far kept e = cc

pub loop-preserved-in-Ok-NotNow : goal.loop-preserved-in-Ok-NotNow
loop-preserved-in-Ok-NotNow g c =
    let so_far = c.loop.invariant in
    let on = waits _ _ _ _ _ _ _ _ _ (so_far.0, so_far.2) c.in-Ok-NotNow.ensures.1 c.in-Ok-NotNow.field-0-is in
    (on.0, omega (arith, so_far.1, c.in-Ok-NotNow.ensures.0), on.1)

read_out : (left rest : ℕ) (before after : Option (List ℕ)) (start was is : Bool) (e : CountedFault) → IsCounted left rest before after was is [] (Err e) → was ≡ start → IsReadOut start is rest
read_out left rest before after start was is Failed read same = inl read.2
read_out left rest before after start was is TooManyReads read same = inr (read.1, read.3 ∙ same)

pub returns-in-Err-clause-failed : goal.returns-in-Err-clause-failed
returns-in-Err-clause-failed g c = read_out _ _ _ _ _ _ _ _ c.in-Err.ensures c.loop.invariant.2

pub returns-clause-failed : goal.returns-clause-failed
returns-clause-failed g c = inr (omega (arith, c.loop.invariant.1), c.loop.invariant.2)
