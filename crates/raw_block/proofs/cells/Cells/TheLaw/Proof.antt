-- A `&` to the places is made of a borrow of them. Assumes `Logic`.
use mathlib.Core.List.{[], ◌++◌}
use base.Fml.{Incl-trans}
use contract.BorrowLft.{meet_⊑_left}
use denote.RattleType.{RattleType}
use denote.RawPtr.{RawPtr}
use denote.Param.Laws.{Laws}
use denote.Param.Shared.{copy_shared}
use denote.Struct.Laws.{field_copy}
use denote.Struct.Lending.{of_Lends}
use Rattle.core.specs.contracts.marker.PhantomData as phantom
use Rattle.raw_block.specs.contracts.cells.Cells as cells
use Rattle.raw_block.proofs.Sharing.{row_laws, row_lends}
use Rattle.raw_block.proofs.cells.Cells.TheLaw.Statement.{statement}

pub shares : (R : RattleType) (laws : Laws R) → statement R laws
shares R laws =
    let codes = cells.the_codes R.Denot R.coded (phantom.the_row RawPtr).coded in
    of_Lends (cells.struct R) codes (cells.the_heap R) (cells.the_lent R) (λ c at. row_laws R laws.shr_laws c.start c.places)
    (copy_shared (phantom.the_field RawPtr) (field_copy (phantom.the_type RawPtr) tt), tt)
    (λ M 𝓤 𝓛 c at. row_lends 𝓛 (cells.the_row R).lives R laws (Incl-trans (meet_⊑_left (R.lives ++ []) _) (meet_⊑_left R.lives [])) c.start c.places)
