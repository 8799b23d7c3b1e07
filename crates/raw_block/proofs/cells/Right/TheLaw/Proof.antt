-- A `&` to the right to free gives nothing. Assumes `Logic`.
use denote.RattleType.{RattleType}
use denote.RawPtr.{RawPtr}
use denote.Param.Laws.{Laws}
use denote.Param.Shared.{copy_shared}
use denote.SharingLaws.{nothing_shr_laws}
use denote.Struct.Laws.{field_copy}
use denote.Struct.Lending.{of_Lends, Lends-nothing}
use Rattle.core.specs.declared.alloc.Allocator.{Ghosts}
use Rattle.core.specs.contracts.marker.PhantomData as phantom
use Rattle.raw_block.specs.contracts.cells.Right as right
use Rattle.raw_block.proofs.cells.Right.TheLaw.Statement.{statement}

pub shares : (R S : RattleType) (g : Ghosts S.Denot) (L : Laws R) (K : Laws S) → statement R S g L K
shares R S g L K =
    let codes = right.the_codes R.Denot S.Denot R.coded S.coded (phantom.the_row RawPtr).coded in
    of_Lends (right.struct R S g) codes (right.the_heap R S g) (right.the_lent R S g) (λ r at. nothing_shr_laws)
    (copy_shared (phantom.the_field RawPtr) (field_copy (phantom.the_type RawPtr) tt), tt)
    (λ M 𝓤 𝓛 r at. Lends-nothing 𝓛 (right.the_heap R S g r) (right.the_row R S g).lives)
