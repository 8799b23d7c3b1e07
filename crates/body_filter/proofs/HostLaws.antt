-- What is led through a host by calls, and what comes out.
use Rattle.std.proofs.Common.{◌≡◌, ℕ, List, [], ◌∷◌, inl, inr, Option, Some, Result, Ok, Err, refl, sym, subst}
use Rattle.std.proofs.KnownBytes.{Appends-nil}
use Rattle.std.specs.Io.KnownBytes.{Appends}
use Rattle.std.specs.Result.{result_unwrap_or}
use Rattle.run_model.specs.declared.event.Event.{Event}
use Rattle.run_model.specs.declared.event.Event.TheVariants as event
use Rattle.run_model.specs.declared.event.Piece.{Piece}
use Rattle.run_model.specs.declared.event.Refusal.{Refusal}
use Rattle.bucket_kinds.specs.Device.{Device}
use Rattle.filter_chain.specs.declared.host.Host.{Host}
use Rattle.filter_chain.specs.Hosting.{Ghosts, Stored, done_answer}
use Rattle.filter_chain.specs.HostViews.{Answers}
use Rattle.filter_chain.specs.Led.{IsAlive, Refines}
use Rattle.filter_chain.proofs.Driving.{HappenedInAny, alive_then, by_event, leads_as, leads_on, leads_still}
use Rattle.http_message.specs.declared.failure.Failure.{Failure}
use Rattle.http_message.specs.declared.failure.Failure.TheVariants as failure
use Rattle.module_commands.specs.Streams.{WritesText}
use Rattle.module_commands.specs.declared.fault.PlayFault.{PlayFault}
use Rattle.module_commands.specs.declared.fault.PlayFault.TheVariants as fault
use Rattle.body_filter.specs.BodyCalls.{RunsOut, RunsOutUnless}
use Rattle.body_filter.specs.Feeding.{PutsCall, PutsEnd, PutsOut, TriesCall}
use Rattle.body_filter.specs.Prelude.{refusal_of}

-- The output, as it is written.

pub lent_written : {E : Type 0} (w v : Option (List ℕ)) (told : Result (List ℕ) E) (bytes : List ℕ) (r : Result (Unit {0}) PlayFault) → told ≡ Ok bytes → WritesText w v bytes r
    → WritesText w v (result_unwrap_or told []) r
lent_written w v told bytes r is wrote = subst (λ (x : Result (List ℕ) _). WritesText w v (result_unwrap_or x []) r) (sym is) wrote

pub none_written : {E : Type 0} (w : Option (List ℕ)) (told : Result (List ℕ) E) (why : E) → told ≡ Err why → WritesText {T = Unit {0}} w w (result_unwrap_or told []) (Ok tt)
none_written w told why is = subst (λ (x : Result (List ℕ) _). Appends w w (result_unwrap_or x [])) (sym is) (Appends-nil w)

module _ {F R : Type 0} {g : Ghosts R Stored} (device : F → Device) (number : ℕ) where
  -- A call that an event began, or not.

  pub begun_so : (old new : Host F R g) (begun : Result (Unit {0}) Refusal) (u : Unit {0}) (how : Option Failure) → begun ≡ Ok u
      → Refines device old new (λ b c s t. RunsOut b c number s how t)
      → Refines device old new (λ b c s t. RunsOutUnless b c number (refusal_of begun) s how t)
  begun_so old new begun u how is h =
      subst (λ (x : Result (Unit {0}) Refusal). Refines device old new (λ b c s t. RunsOutUnless b c number (refusal_of x) s how t)) (sym is) h

  pub refused_so : (host : Host F R g) (begun : Result (Unit {0}) Refusal) (why : Refusal) → begun ≡ Err why
      → Refines device host host (λ b c s t. RunsOutUnless b c number (refusal_of begun) s (Some (failure.Refused why)) t)
  refused_so host begun why is =
      subst (λ (x : Result (Unit {0}) Refusal). Refines device host host (λ b c s t. RunsOutUnless b c number (refusal_of x) s (Some (failure.Refused why)) t)) (sym is)
      (leads_still device host (λ b c s t. RunsOutUnless b c number (Some why) s (Some (failure.Refused why)) t) (λ b c s. (refl, refl)))

  pub runs_alive : (old new : Host F R g) (begun : Option Refusal) (how : Option Failure) → IsAlive device old
      → Refines device old new (λ b c s t. RunsOutUnless b c number begun s how t) → IsAlive device new
  runs_alive old new begun how = alive_then device old new (λ b c s t. RunsOutUnless b c number begun s how t)

  module _ (old mid new : Host F R g) (w v : Option (List ℕ)) (begun : Option Refusal) (how : Option Failure) where
    pub ended_unwritten : (e : PlayFault) → Refines device old mid (λ b c s t. RunsOutUnless b c number begun s how t)
        → Refines device mid new (λ b c s t. PutsOut b c number w v (Err e) s t)
        → Refines device old new (λ b c s t. PutsEnd b c number w v begun (Err e) s t)
    ended_unwritten e =
        leads_on device old mid new (λ b c s t. RunsOutUnless b c number begun s how t) (λ b c s t. PutsOut b c number w v (Err e) s t)
        (λ b c s t. PutsEnd b c number w v begun (Err e) s t)
        (λ b c s m t x y. record { how = how; out = y.out; ends = record { mid = m; runs = x; takes = y.takes }; writes = y.writes })

    pub ended_well : (u : Unit {0}) → Refines device old mid (λ b c s t. RunsOutUnless b c number begun s how t) → Refines device mid new (λ b c s t. PutsOut b c number w v (Ok u) s t)
        → Refines device old new (λ b c s t. PutsEnd b c number w v begun (Ok how) s t)
    ended_well u =
        leads_on device old mid new (λ b c s t. RunsOutUnless b c number begun s how t) (λ b c s t. PutsOut b c number w v (Ok u) s t)
        (λ b c s t. PutsEnd b c number w v begun (Ok how) s t)
        (λ b c s m t x y. record { how = how; out = y.out; ends = record { mid = m; runs = x; takes = y.takes }; writes = (refl, y.writes) })

  -- An event, and its call.
  pub event_put : (old mid new : Host F R g) (w v : Option (List ℕ)) (what : Event) (answer : Option Refusal) (r : Result (Option Failure) PlayFault)
      → HappenedInAny device old mid number what (done_answer answer) → Refines device mid new (λ b c s t. PutsEnd b c number w v answer r s t)
      → Refines device old new (λ b c s t. PutsCall b c number w v what r s t)
  event_put old mid new w v what answer r h =
      leads_on device old mid new (λ b c s t. Answers b c number what s (done_answer answer) t) (λ b c s t. PutsEnd b c number w v answer r s t)
      (λ b c s t. PutsCall b c number w v what r s t)
      (λ b c s m t x y. record { how = y.how; out = y.out; makes = record { answer = answer; mid = m; acts = x; ends = y.ends }; writes = y.writes })
      (by_event device old mid number what (done_answer answer) h)

  pub event_alive : (old new : Host F R g) (what : Event) (answer : Option Refusal) → IsAlive device old → HappenedInAny device old new number what (done_answer answer)
      → IsAlive device new
  event_alive old new what answer alive h = (let x = h alive.0 alive.1 in (x.to, x.hosts))

  -- no memory for the pieces of a brigade
  pub untried : (host : Host F R g) (w : Option (List ℕ)) (what : Event) → Refines device host host (λ b c s t. TriesCall b c number w w what (Err fault.NoMemory) s t)
  untried host w what = leads_still device host (λ b c s t. TriesCall b c number w w what (Err fault.NoMemory) s t) (λ b c s. inr (refl, refl, refl))

  pub put_tried : (old mid new : Host F R g) (w v : Option (List ℕ)) (one : Piece) (pieces : List Piece) (answer : Option Refusal) (r : Result (Option Failure) PlayFault)
      → pieces ≡ one ∷ []
      → HappenedInAny device old mid number (event.Bring pieces) (done_answer answer) → Refines device mid new (λ b c s t. PutsEnd b c number w v answer r s t)
      → Refines device old new (λ b c s t. TriesCall b c number w v (event.Bring (one ∷ [])) r s t)
  put_tried old mid new w v one pieces answer r is h k =
      leads_as device old new (λ b c s t. PutsCall b c number w v (event.Bring (one ∷ [])) r s t) (λ b c s t. TriesCall b c number w v (event.Bring (one ∷ [])) r s t)
      (λ b c s t x. inl x)
      (subst (λ (ps : List Piece). Refines device old new (λ b c s t. PutsCall b c number w v (event.Bring ps) r s t)) is (event_put old mid new w v (event.Bring pieces) answer r h k))
