-- Devices after calls that went well.
use Rattle.std.proofs.Common.{◌≡◌, ℕ, zero, suc, false, refl, sym, ap, subst, ◌∙◌}
use Rattle.std.proofs.lemmas.Bool.{false≢true}
use Rattle.bucket_kinds.specs.Device.{Device, Plan, Sound, At, AnyTime, nearer, counts, moved, WentWell, AllWentWell, SomeWentWell}
use Rattle.bucket_kinds.specs.Reading.{IsOpenFor}
use Rattle.run_model.specs.declared.bucket.Content.{Content}
use Rattle.run_model.specs.declared.bucket.Content.TheVariants as content

pub none_went : (d : Device) → SomeWentWell d d
unfolding AllWentWell
none_went d = (zero, refl)

pub one_went : (d e : Device) → WentWell d e → SomeWentWell d e
unfolding AllWentWell
one_went d e w = (suc zero, (w.0, w.1))

pub more_went : (d now e : Device) → SomeWentWell d now → SomeWentWell now e → SomeWentWell d e
unfolding AllWentWell
more_went d now e some later = go some.0 d some.1 where
  go : (n : ℕ) (x : Device) → AllWentWell n x now → SomeWentWell x e
  go zero x same = subst (λ (y : Device). SomeWentWell y e) same later
  go (suc n) x well = let rest = go n (moved x) well.1 in (suc rest.0, (well.0, rest.1))

-- what they leave
module _ {X : Type 0} (seen : Device → X) (keeps : (d : Device) → seen (moved d) ≡ seen d) where
  pub went_keeps : (d e : Device) → SomeWentWell d e → seen e ≡ seen d
  unfolding AllWentWell
  went_keeps d e some = go some.0 d some.1 where
    go : (n : ℕ) (x : Device) → AllWentWell n x e → seen e ≡ seen x
    go zero x same = ap seen same
    go (suc n) x well = go n (moved x) well.1 ∙ keeps x

pub went_numbered : (d e : Device) → SomeWentWell d e → e.numbered ≡ d.numbered
went_numbered d e some = went_keeps (λ x. x.numbered) (λ x. refl) d e some

-- A device that counts no calls is after one what it was.
pub still_there : (d : Device) → counts d.plan ≡ false → moved d ≡ d
still_there d still = ap (λ (p : Plan). let x : Device = record d { plan = p } in x) (go d.plan still) where
  go : (p : Plan) → counts p ≡ false → nearer p ≡ p
  go Sound e = refl
  go (At n) e = absurd (false≢true (sym e))
  go AnyTime e = refl

pub open_still : (d e : Device) (c : Content) → e.numbered ≡ d.numbered → IsOpenFor d c → IsOpenFor e c
open_still d e (content.Bytes bs) same opens = tt
open_still d e (content.Range file start len) same opens = rw same opens
open_still d e content.Nothing same opens = tt
