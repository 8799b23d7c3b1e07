-- Serving a connection, read by read.
use Rattle.std.proofs.Common.{◌≡◌, ℕ, List, [], Option, Result, Err, sym, subst, append-nil}
use Rattle.http_message.specs.Clocks.{Said}
use Rattle.http_message.specs.declared.reply.Method.{Method}
use Rattle.http_message.specs.declared.site.Site.{Site}
use Rattle.http_front.specs.declared.fault.FrontKind.{FrontKind}
use Rattle.http_front.specs.declared.fault.FrontKind.TheVariants as kind
use Rattle.http_front.specs.declared.handler.RequestOutcome.{RequestOutcome}
use Rattle.http_front.specs.Serving.{AddsBytes, Loses, ServedSoFar, FailsBy, ServeGoes}
use Rattle.http_front.specs.Turns.{WantsMore}
use Rattle.http_front.proofs.ServingLaws.{far_loses_read, far_read, far_wants}
use Rattle.std.specs.Prelude.{Bool}

module _ {H K : Type 0} (site : Site) (handles : H → Method → List ℕ → RequestOutcome → H → Type 0) (tells : K → Said → K → Type 0) (lacks : H → Method → List ℕ → FrontKind → H → Type 0) where
  -- bytes are added to those at hand
  pub far_adds : (old : H) (before : K) (r q p w v : Option (List ℕ)) (unread all : List ℕ) (limit : ℕ) (eof : Bool) (n m : ℕ) (new : H) (after : K)
      → m ≡ n → ServedSoFar site handles tells old before r q w v unread n new after → AddsBytes q p unread all limit eof → ServedSoFar site handles tells old before r p w v all m new after
  far_adds old before r q p w v unread all limit eof n m new after same so adds =
      subst (λ k. ServedSoFar site handles tells old before r p w v all k new after) (sym same)
      (far_read site handles tells old before r q p w v unread adds.bytes all n new after so adds.took adds.added)

  -- no bytes are added
  pub far_loses : (old : H) (before : K) (r q p w v : Option (List ℕ)) (unread : List ℕ) (n : ℕ) (new : H) (after : K) (e : FrontKind)
      → ServedSoFar site handles tells old before r q w v unread n new after → WantsMore unread → Loses 8192 q p e → FailsBy site handles tells lacks old before r p w v new after e
  far_loses old before r q p w v unread n new after kind.Read so needs_input none =
      far_wants site handles tells old before r p w v unread n new after (far_read site handles tells old before r q p w v unread [] unread n new after so none (sym (append-nil unread))) needs_input
  far_loses old before r q p w v unread n new after kind.TooManyReads so needs_input none =
      far_wants site handles tells old before r p w v unread n new after (far_read site handles tells old before r q p w v unread [] unread n new after so none (sym (append-nil unread))) needs_input
  far_loses old before r q p w v unread n new after kind.NoMemory so needs_input lost = far_loses_read site handles tells old before r q p w v unread lost.0 n new after so needs_input lost.1 lost.2 lost.3
  far_loses old before r q p w v unread n new after kind.Write so needs_input lost = absurd lost
  far_loses old before r q p w v unread n new after kind.NamesSpent so needs_input lost = absurd lost

  -- how a `?` leaves, of what goes on or fails
  pub fails_as : {T : Type 0} (old : H) (before : K) (r q w v : Option (List ℕ)) (over : Bool) (unread : List ℕ) (n : ℕ) (new : H) (after : K) (result : Result T FrontKind) (y e : FrontKind)
      → result ≡ Err y → y ≡ e → FailsBy site handles tells lacks old before r q w v new after e → ServeGoes site handles tells lacks old before r q w v over unread n new after result
  fails_as old before r q w v over unread n new after result y e is same fails =
      subst (λ x. ServeGoes site handles tells lacks old before r q w v over unread n new after x) (sym is) (subst (λ k. FailsBy site handles tells lacks old before r q w v new after k)
      (sym same) fails)
