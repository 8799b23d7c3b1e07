-- What the output tells of a connection.
use Rattle.std.proofs.Common.{◌≡◌, ◌++◌, ◌<◌, ◌≤◌, ℕ, List, length, drop, Bool, Option, Some, None, Result, Ok, Err, refl, sym, ap, ◌∙◌, subst, arith}
use Rattle.std.specs.Prelude.{is_some}
use Rattle.std.specs.Result.{is_ok}
use Rattle.run_model.specs.Chains.{Connection}
use Rattle.run_model.specs.Worlds.{World}
use Rattle.run_model.specs.declared.event.Refusal.{Refusal}
use Rattle.run_model.specs.declared.event.Event.TheVariants.{TakeOutput}
use Rattle.bucket_kinds.specs.MemDevice.{mem_device}
use Rattle.filter_chain.specs.Hosting.{Happens, files_of, output_answer, output_in}
use Rattle.host_lib.specs.Output.{CopiesBytes, TellsOutputIn, bytes_in}
use Rattle.host_lib.specs.declared.session.HostSession.{HostSession}

shown : (o : Option Connection) → is_some o ≡ is_ok (output_in o)
shown None = refl
shown (Some c) = refl

pub is_there : (o : Option Connection) (r : Result (List ℕ) Refusal) → output_in o ≡ r → is_some o ≡ is_ok r
is_there o r e = shown o ∙ ap (λ (x : Result (List ℕ) Refusal). is_ok x) e

module _ (number : ℕ) (old new : List ℕ) (n : ℕ) (s : HostSession) (w : World) (copies : CopiesBytes (bytes_in (output_in (w.conns number))) old new n) where
  -- The buffer has no room, and nothing is changed.
  pub told_kept : length old < n → TellsOutputIn number old new n s s w
  told_kept over = record {
    counted = copies.0;
    copied = copies.1;
    taken = λ few. absurd (omega (arith, few, over));
    left = copies.2;
    kept = λ x. refl;
  }

  pub told_taken : (t : HostSession) → n ≤ length old
      → Happens (mem_device (files_of s.host)) (mem_device (files_of t.host)) s.host t.host number TakeOutput (output_answer (output_in (w.conns number))) w → TellsOutputIn number old new n s t w
  told_taken t few happens = record {
    counted = copies.0;
    copied = copies.1;
    taken = λ x. happens;
    left = copies.2;
    kept = λ over. absurd (omega (arith, few, over));
  }
