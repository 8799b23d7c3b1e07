-- A host is led through the calls of a body, read by read.
use Rattle.std.proofs.Common.{◌≡◌, ℕ, List, true, false, Option, Some, None, is_some, Result, Ok, Err}
use Rattle.std.specs.Io.KnownBytes.{Consumes, Keeps, IsAtEnd}
use Rattle.run_model.specs.declared.event.Event.TheVariants as event
use Rattle.bucket_kinds.specs.Device.{Device}
use Rattle.filter_chain.specs.declared.host.Host.{Host}
use Rattle.filter_chain.specs.Hosting.{Ghosts, Stored}
use Rattle.filter_chain.specs.Led.{IsAlive, Refines}
use Rattle.filter_chain.specs.Safe.{IsSafe}
use Rattle.filter_chain.proofs.Driving.{alive_then, leads_as, leads_on}
use Rattle.http_message.specs.declared.failure.Failure.{Failure}
use Rattle.module_commands.specs.declared.fault.PlayFault.{PlayFault}
use Rattle.module_commands.specs.declared.fault.PlayFault.TheVariants as fault
use Rattle.body_filter.specs.Bodies.{IsReadAtOnce, brings_bytes, brings_eos}
use Rattle.body_filter.specs.Feeding.{FedSoFar, FeedsBody, PutsCall, TriesCall}
use Rattle.body_filter.proofs.SafeCalls.{safe_by}
use Rattle.body_filter.proofs.FeedLaws.{begun_well, begun_badly, begun_unwritten, brought_well, brought_badly, brought_unwritten, ended, kept_so, left_so}

module _ {F R : Type 0} {g : Ghosts R Stored} (device : F → Device) (number : ℕ) where
  -- The first call.
  module _ (old new : Host F R g) (r w v : Option (List ℕ)) where
    abbrev BeginsSo : Result (Option Failure) PlayFault → Type 0
    BeginsSo x = Refines device old new (λ b c s t. PutsCall b c number w v event.Begin x s t)

    pub started : (how : Option Failure) → is_some how ≡ false → BeginsSo (Ok how) → Refines device old new (λ b c s t. FedSoFar b c number w v r r s t)
    started None is h = leads_as device old new (λ b c s t. PutsCall b c number w v event.Begin (Ok None) s t) (λ b c s t. FedSoFar b c number w v r r s t)
        (λ b c s t x. begun_well b c number r w v s t x) h
    started (Some why) is h = absurd (cc)

    pub not_started : (how : Option Failure) → is_some how ≡ true → BeginsSo (Ok how) → Refines device old new (λ b c s t. FeedsBody b c number w v r r (Ok how) s t)
    not_started None is h = absurd (cc)
    not_started (Some why) is h =
        leads_as device old new (λ b c s t. PutsCall b c number w v event.Begin (Ok (Some why)) s t) (λ b c s t. FeedsBody b c number w v r r (Ok (Some why)) s t)
        (λ b c s t x. begun_badly b c number r w v why s t x) h

    pub start_unwritten : (e : PlayFault) → BeginsSo (Err e) → Refines device old new (λ b c s t. FeedsBody b c number w v r r (Err e) s t)
    start_unwritten e h =
        leads_as device old new (λ b c s t. PutsCall b c number w v event.Begin (Err e) s t) (λ b c s t. FeedsBody b c number w v r r (Err e) s t)
        (λ b c s t x. begun_unwritten b c number r w v e s t x) h

  -- What was brought so far.
  module _ (old now : Host F R g) (r p q w mid : Option (List ℕ)) (so : Refines device old now (λ b c s t. FedSoFar b c number w mid r p s t)) where
    pub fed_alive : IsAlive device old → IsAlive device now
    fed_alive alive = alive_then device old now (λ b c s t. FedSoFar b c number w mid r p s t) alive so

    pub fed_safe : IsAlive device old → IsSafe old → IsSafe now
    fed_safe alive = safe_by device old now (λ b c s t. FedSoFar b c number w mid r p s t) alive so

    pub fed_kept : Keeps p q → Refines device old now (λ b c s t. FedSoFar b c number w mid r q s t)
    fed_kept kept =
        leads_as device old now (λ b c s t. FedSoFar b c number w mid r p s t) (λ b c s t. FedSoFar b c number w mid r q s t) (λ b c s t x. kept_so b c number r p q w mid s t kept x) so

    pub fed_left : Keeps p q → Refines device old now (λ b c s t. FeedsBody b c number w mid r q (Err fault.Read) s t)
    fed_left kept =
        leads_as device old now (λ b c s t. FedSoFar b c number w mid r p s t) (λ b c s t. FeedsBody b c number w mid r q (Err fault.Read) s t)
        (λ b c s t x. left_so b c number r q w mid s t (kept_so b c number r p q w mid s t kept x)) so

    -- Bytes are brought, or the EOS behind them.
    module _ (new : Host F R g) (v : Option (List ℕ)) where
      module _ (bytes : List ℕ) (size : IsReadAtOnce bytes) (took : Consumes p q bytes) where
        abbrev BringsSo : Result (Option Failure) PlayFault → Type 0
        BringsSo x = Refines device now new (λ b c s t. TriesCall b c number mid v (brings_bytes bytes) x s t)

        pub fed_on : (how : Option Failure) → is_some how ≡ false → BringsSo (Ok how) → Refines device old new (λ b c s t. FedSoFar b c number w v r q s t)
        fed_on None is h =
            leads_on device old now new (λ b c s t. FedSoFar b c number w mid r p s t) (λ b c s t. TriesCall b c number mid v (brings_bytes bytes) (Ok None) s t)
            (λ b c s t. FedSoFar b c number w v r q s t)
            (λ b c s m t x y. brought_well b c number r p q w mid v s m t x bytes size took y) so h
        fed_on (Some why) is h = absurd (cc)

        pub fed_stopped : (how : Option Failure) → is_some how ≡ true → BringsSo (Ok how) → Refines device old new (λ b c s t. FeedsBody b c number w v r q (Ok how) s t)
        fed_stopped None is h = absurd (cc)
        fed_stopped (Some why) is h =
            leads_on device old now new (λ b c s t. FedSoFar b c number w mid r p s t) (λ b c s t. TriesCall b c number mid v (brings_bytes bytes) (Ok (Some why)) s t)
            (λ b c s t. FeedsBody b c number w v r q (Ok (Some why)) s t) (λ b c s m t x y. brought_badly b c number r p q w mid v s m t x bytes size took why y) so h

        pub fed_unwritten : (e : PlayFault) → BringsSo (Err e) → Refines device old new (λ b c s t. FeedsBody b c number w v r q (Err e) s t)
        fed_unwritten e h =
            leads_on device old now new (λ b c s t. FedSoFar b c number w mid r p s t) (λ b c s t. TriesCall b c number mid v (brings_bytes bytes) (Err e) s t)
            (λ b c s t. FeedsBody b c number w v r q (Err e) s t) (λ b c s m t x y. brought_unwritten b c number r p q w mid v s m t x bytes size took e y) so h

      pub fed_all : (x : Result (Option Failure) PlayFault) → Keeps p q → IsAtEnd q → Refines device now new (λ b c s t. TriesCall b c number mid v brings_eos x s t)
          → Refines device old new (λ b c s t. FeedsBody b c number w v r q x s t)
      fed_all x kept ends h =
          leads_on device old now new (λ b c s t. FedSoFar b c number w mid r p s t) (λ b c s t. TriesCall b c number mid v brings_eos x s t)
          (λ b c s t. FeedsBody b c number w v r q x s t)
          (λ b c s m t y z. ended b c number r p q w mid v s m t y kept ends x z) so h
