-- A handle that held none, and what is told where no session is made.
use Rattle.std.proofs.Common.{◌≡◌, ℕ, Bool, true, false, List, Option, Some, None, subst}
use Rattle.host_lib.specs.Awake.{IsReadyAt}
use Rattle.host_lib.specs.Calls.{DoesNew, PutsFront}
use Rattle.host_lib.specs.Codes.{message_of, told_of}
use Rattle.host_lib.specs.Texts.{IsChainRefused}
use Rattle.host_lib.specs.declared.loading.TextLengths.{TextLengths}
use Rattle.host_lib.specs.declared.loading.LoadRefusal.{LoadRefusal}
use Rattle.host_lib.specs.declared.session.HostSession.{HostSession}
use Rattle.host_lib.specs.declared.told.LoadTold.{LoadTold}

pub refused_anew : (texts : List ℕ) (lengths : List TextLengths) (words long : List ℕ) (budget : ℕ) (held : Bool) (h : Option HostSession) (e : LoadRefusal) (told : LoadTold)
    → (message old new : List ℕ) → held ≡ false → IsReadyAt held h → IsChainRefused texts lengths words long e → told ≡ told_of e → message ≡ message_of e
    → PutsFront message old new → DoesNew texts lengths words long budget h h (told, old, new) false
refused_anew texts lengths words long budget false None e told message old new off ready refused tells says puts =
    (e, refused, (tells, subst (λ (m : List ℕ). PutsFront m old new) says puts))
refused_anew texts lengths words long budget false (Some s) e told message old new off ready refused tells says puts = absurd ready
refused_anew texts lengths words long budget true h e told message old new off ready refused tells says puts = (let bad : true ≡ false = off in absurd (cc))
