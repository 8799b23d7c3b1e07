-- `take` has the value at the pointer.
use Rattle.std.proofs.Common.{◌≡◌, List, [], ◌∷◌, ◌++◌, refl, sym, ap, ◌∙◌, subst}
use mir.Val.{Val, vptr, vstruct, vcons, vnil}
use mir.Raw.{raw as bare}
use base.Logic.{SProp, ent, emp, never, id⊢, fst∗}
use contract.Monad.{fact, fact_i}
use contract.Running.{tables}
use prog.Wp.{WpFn}
use types.Logic.{sem}
use types.Kit.{‵, raw, ◌⊛◌, ◌$◌, ◌∵◌, !, qed, by, move, keep, use0, split, fsplit, fjoin, suffices, rewrite}
use types.Run.{stop, fld, of_opd, no_more, and_then, returns, enter}
use types.ByLocal.{alloc_all, pass_all, free_all, look_at, get, get_in, sets}
use types.Part.{agg, sub, whole}
use denote.Exit.{yes}
use denote.Memory.{lone}
use denote.RattleType.{RattleType, owns}
use denote.RawPtr.{Ptr, block_ptr, null_ptr, in_a_block}
use denote.Signature.{types_at, plain}
use denote.Steps.{nothing, heard}
use denote.Triple.Entry.{alive}
use denote.Triple.Walked.{Stays, stay_dropped, walk_of, Goes-dropped}
use Rattle.core.proofs.alloc.Calls.{handle_tells}
use Rattle.libc.specs.Heap.{chunk}
use Rattle.std.specs.Prelude.{Option, Some}
use Rattle.std.specs.contracts.alloc.Global as heap
use Rattle.std.proofs.alloc.Global.TheLaws as heap_laws
use Rattle.std.specs.contracts.impls.GlobalAllocator.TheImpl.{ghosts}
use Rattle.std.proofs.raw_atomic.Walks.{proved_at, leaves}
use Rattle.std_alloc.specs.Box.Ownership.{box_owns}
use Rattle.host_lib.specs.Owned.{session_owns}
use Rattle.host_lib.specs.contracts.session.HostSession as held
use Rattle.host_lib.proofs.Values.{both, Loose, loose_good, loose_in, al}
use Rattle.host_lib.specs.Awake.{HoldsSession}
use Rattle.host_lib.proofs.Steps.{held_there}
use Rattle.host_lib.proofs.Slots.{SlotRow, one_val, one_typed, slot_out}
use Rattle.host_lib.specs.contracts.handle.SessionSlot.take.{ended, clauses}
use Rattle.host_lib.specs.contracts.handle.SessionSlot.take.Key.{name as #self}
use Rattle.host_lib.proofs.handle.SessionSlot.take.Statement.{statement}
use Rattle.host_lib.proofs.handle.SessionSlot.take.Code as code

pub take_spec : {M : Type 1} → statement M
take_spec 𝓤 𝓛 𝓜 𝓡 wired =
    let H = 𝓛.H in let 𝓣 = tables 𝓤 H 𝓜 𝓡 𝓡.env in let c = clauses 𝓛 𝓜.mem 𝓡.returns in let fn = code.function in
    let R : RattleType = held.the_row in let Z : RattleType = heap.the_row in let LZ = heap_laws.the_row_laws in let Lr : RattleType = Loose R Z LZ ghosts in
    let hs : Stays ended.signature.params ended.kept = (stay_dropped (plain (λ _. SlotRow)) yes, (stay_dropped (plain (λ _. Z)) yes, tt)) in
    proved_at 𝓛 ended hs c 𝓜 𝓡 (Goes-dropped 𝓛 0 (plain (λ _. SlotRow)) yes (λ κs x f. refl), (Goes-dropped 𝓛 0 (plain (λ _. Z)) yes (λ κs x f. refl), tt)) #self fn (code.unfolded 𝓤 H 𝓜 𝓡 wired) (λ z are.
    let Post : Val → SProp 𝓤 = (walk_of 𝓛 ended hs c).post z in let Run : List Val → SProp 𝓤 = λ us. WpFn 𝓤 H 𝓣.C 𝓣.Λ fn us Post in let d : SlotRow.Denot = z.0.3.0 in let a : Z.Denot = z.0.3.1.0 in
    let Asked : Type 0 = HoldsSession d.value in
    qed 𝓛 ((raw (alive 𝓛 ended.signature z.0.0 z.0.1) ⊛ ‵ (owns (types_at ended.signature.params z.0.0) z.0.3 z.0.4)) ∷ raw (fact 𝓤 Asked) ∷ []) ∵ move ! (1 ∷ []) $ heard ! Asked (λ was. let asked = held_there d.value was in let x : R.Denot = asked.0 in split ! $ move ! (1 ∷ []) $ fsplit ! $
    slot_out ! d z.0.4.0 (λ ws. rewrite ! 0 (λ (s : Option R.Denot). ‵ (session_owns R d.at s)) asked.1 refl $
    in_a_block ! d.at (λ p. box_owns chunk R p x) (fst∗ 𝓤 (never 𝓤) (sem 𝓛 (chunk (bare (lone R.mir)) null_ptr))) (λ b o e. move ! (1 ∷ []) $ fsplit ! $
    handle_tells (al R Z LZ ghosts) ! a z.0.4.1.0 (λ h ea fits. let w : Val = both (vptr b o) h in let u : Val = vstruct (vcons (vptr b o) vnil) in
    let is : z.0.4.0 ≡ u ∷ [] = ws ∙ ap (λ (p : Ptr). one_val p ∷ []) e in let r : Lr.Denot = record { at = block_ptr b o; alloc = a; value = x } in
    suffices ! (Run (u ∷ h ∷ [])) (subst (λ (us : List Val). ent 𝓤 (Run (u ∷ h ∷ [])) (Run us)) (sym (λ i. is i ++ (ea i ++ []))) (id⊢ 𝓤 (Run (u ∷ h ∷ [])))) $
    enter ! 𝓣.C 𝓣.Λ fn (u ∷ h ∷ []) Post $ alloc_all ! (λ l. pass_all ! refl (one_typed (block_ptr b o), (fits, tt)) $
    sets ! (of_opd ! (get_in ! (fld ! refl (stop !)) (sub ! 0 refl (whole !)))) refl (tt, tt) $ sets ! (of_opd ! (get ! refl)) refl (tt, tt) $
    sets ! (agg ! (and_then ! (get ! refl) (and_then ! (get ! refl) (no_more !)))) refl (loose_good R Z LZ ghosts b o h fits) $
    returns ! (look_at ! 0 refl) $ free_all ! refl $ move ! (2 ∷ 0 ∷ []) $ loose_in R Z LZ ghosts ! b o h a x $
    use0 𝓛 (raw (fact 𝓤 (Some r.value ≡ d.value))) (fact_i 𝓤 (Some r.value ≡ d.value) (emp 𝓤) (sym asked.1)) $ nothing ! $ nothing ! $ fjoin ! $ nothing ! $ fjoin ! $ keep ! (4 ∷ 0 ∷ 2 ∷ 1 ∷ []) $
    by ! (leaves 𝓛 ended hs c z w r (tt, (tt, tt)) (tt, (tt, tt)))))))))
