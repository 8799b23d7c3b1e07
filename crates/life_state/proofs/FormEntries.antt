-- Where handlers begin and end, and where a request ends.
use Rattle.std.proofs.Common.{Bool, true, false, length, inl, inr, refl}
use Rattle.module_code.specs.declared.instr.PoolRef.TheVariants as pool
use Rattle.module_code.specs.Program.{Program, IsModule}
use Rattle.life_state.specs.declared.parts.Contents.TheVariants.{NoLateData}
use Rattle.life_state.specs.States.{only_call, never_made, holds, State}
use Rattle.life_state.specs.Rules.{cleared, at_open, at_main, at_return, at_end_of_request}
use Rattle.life_state.specs.FormLaws.{IsFormedIn, EntriesAreFormed}
use Rattle.life_state.proofs.FormParts.{no_named, call_named, holds_formed, never_formed}
use Rattle.life_state.proofs.FormMoves.{cursor_kept, based, assembled, in_based}
use Rattle.life_state.proofs.FormSteps.{sent_formed}
use Rattle.life_state.proofs.FormClears.{cleared_formed}

open_formed : (p : Program) → IsModule p → IsFormedIn p false (at_open (length p.pools) (length p.brigades))
open_formed p m =
    let s = at_open (length p.pools) (length p.brigades) in
    assembled p false s
    (record {
      pool_count = m.pools;
      brigade_count = m.brigades;
      pools = λ q. refl;
      no_pools = λ q past. refl;
      brigades = λ b. never_formed;
      homes = λ b. no_named s;
      no_brigades = λ b past other. refl;
      brought = inl refl;
      own_pools = refl;
      own_brigades = refl;
      present = refl;
    })
    (λ c. tt) (λ c past. refl) (λ c d h. cc) (λ c d. refl)

main_formed : (p : Program) (call : Bool) (s : State) → IsFormedIn p call s → IsFormedIn p true (at_main s)
main_formed p call s f =
    let v = holds NoLateData only_call in
    assembled p true (at_main s) (in_based p call true s v (based p call s f) (holds_formed NoLateData only_call) (call_named s) (inr refl) refl)
    (λ c. cursor_kept s 8 v (s.cursors c) (λ e. refl) (f.formed.cursors c)) f.formed.no_cursors f.formed.facts f.formed.symmetric

return_formed : (p : Program) (call : Bool) (s : State) → IsFormedIn p call s → IsFormedIn p false (at_return s)
return_formed p call s f =
    assembled p false (at_return s) (in_based p call false s never_made (based p call s f) never_formed (no_named s) (inl refl) refl)
    (λ c. tt) (λ c past. refl) (λ c d h. cc) (λ c d. refl)

end_formed : (p : Program) (call : Bool) (s : State) → IsModule p → IsFormedIn p call s → IsFormedIn p call (at_end_of_request p s)
unfolding at_end_of_request
end_formed p call s m f = sent_formed p call (cleared p pool.Req s) false (cleared_formed p call pool.Req s m refl f)

pub entries_are_formed : EntriesAreFormed
entries_are_formed = record { opens = open_formed; serves = main_formed; returns = return_formed; ends = end_formed }
