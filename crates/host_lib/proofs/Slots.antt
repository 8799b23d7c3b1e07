-- The machine values of a `SessionSlot`. Assumes `Logic`.
use Rattle.std.proofs.Common.{◌≡◌, List, [], ◌∷◌, ◌++◌, refl, ◌∙◌, lit<}
use seplogic.Ra.Ura.{Ura}
use mir.Syntax.{ty_ptr, ty_struct, tcons, tnil}
use mir.Val.{Val, vstruct, vcons, vnil, of_list}
use types.Logic.{Logic}
use types.Kit.{Item, Goal, Seq, Step, step, ‵, ◌$◌, drop, fsplit, fjoin, fpick, fpack, feq_i, feq_l}
use denote.RattleType.{RattleType, Valss}
use denote.Builtin.{RawPtr}
use denote.RawPtr.{Ptr, block_ptr, null_ptr, ptr_val}
use denote.Steps.{nothing}
use denote.Struct.Struct.{within}
use denote.Struct.Owning.{shape}
use Rattle.core.proofs.cell.Inside.{Good}
use Rattle.std.specs.Prelude.{Option}
use Rattle.host_lib.specs.Owned.{session_owns}
use Rattle.host_lib.specs.declared.session.HostSession.{HostSession}
use Rattle.host_lib.specs.contracts.session.HostSession as held
use Rattle.host_lib.specs.contracts.handle.SessionSlot as slot

abbrev pub one_val : Ptr → Val
one_val p = vstruct (vcons (ptr_val p) vnil)

abbrev pub SlotRow : RattleType
SlotRow = slot.the_row

pub one_typed : (p : Ptr) → Good (ty_struct [] (tcons ty_ptr tnil)) (one_val p)
one_typed (block_ptr b o) = (tt, (tt, tt))
one_typed null_ptr = (tt, (record { fits = lit< tt }, tt))

module _ {M : Type 1} {𝓤 : Ura M} {𝓛 : Logic 𝓤} {K : Type 0} {Γ : List (Item 𝓤)} {G : Goal 𝓤 𝓛.H} where
  pub slot_out : K → (d : SlotRow.Denot) (vs : List Val) → (vs ≡ one_val d.at ∷ [] → Seq K 𝓛 (‵ (session_owns held.the_row d.at d.value) ∷ Γ) G) → Seq K 𝓛 (‵ (SlotRow.own_val d vs) ∷ Γ) G
  slot_out t d vs k =
      fsplit t $ fpick t (λ vss. fsplit t $ feq_l t (λ ev. fsplit t $ feq_l t (λ ep. drop t $ k (ev ∙ (λ i. vstruct (of_list (ep i ++ [])) ∷ [])))))

  pub slot_in : K → (p : Ptr) (x : Option HostSession)
      → Step K 𝓛 (‵ (SlotRow.own_val (record { at = p; value = x }) (one_val p ∷ [])) ∷ Γ) G (‵ (session_owns held.the_row p x) ∷ Γ) G
  slot_in t p x = step (λ s. nothing t $ feq_i t (List Val) (ptr_val p ∷ []) (ptr_val p ∷ []) refl $ fjoin t $ feq_i t (List Val) (one_val p ∷ []) (one_val p ∷ []) refl $ fjoin t $
      fpack t (Valss (RawPtr ∷ [])) (within (shape slot.the_type) (p, tt) (one_val p ∷ [])) (ptr_val p ∷ [], tt) $ fjoin t $ s)
