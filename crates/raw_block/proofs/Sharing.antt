-- A borrow of the places gives a `&` to each value. Assumes `Logic`.
use Prim.Native.Nat.{ℕ, ◌+◌}
use Rattle.std.specs.Prelude.{List, [], ◌∷◌, Option, None, Some}
use Rattle.std.specs.Mem.{type_size}
use seplogic.Ra.Ura.{Ura}
use base.Fml.{Lft, Incl, ftrue, ffalse}
use types.Logic.{Logic}
use denote.RattleType.{RattleType, RowLaws}
use denote.Param.Laws.{Laws}
use denote.RawPtr.{Ptr, block_ptr, null_ptr}
use denote.Sharing.{ShrLaws, said}
use denote.SharingLaws.{beside_shr_laws, nothing_shr_laws, said_shr_laws}
use denote.Shares.{Shares-less}
use denote.Struct.Lending.{Lends, Lends-both, Lends-nothing, Lends-said, Lends-false}
use Rattle.raw_block.specs.Ownership.{place_owned, run_owned, place_shared, run_shared, is_small, row_owned, row_shared}

-- a `&` may be copied, and used at a shorter lifetime
module _ (R : RattleType) (laws : RowLaws R) where
  place_laws : (b o : ℕ) (p : Option R.Denot) → ShrLaws (place_shared R b o p)
  place_laws b o None = nothing_shr_laws
  place_laws b o (Some x) = laws x b o

  run_laws : (b o : ℕ) (ps : List (Option R.Denot)) → ShrLaws (run_shared R b o ps)
  run_laws b o [] = nothing_shr_laws
  run_laws b o (p ∷ ps) = beside_shr_laws _ _ (place_laws b o p) (run_laws b (o + type_size R) ps)

  pub row_laws : (at : Ptr) (ps : List (Option R.Denot)) → ShrLaws (row_shared R at ps)
  row_laws null_ptr ps = said_shr_laws ffalse tt
  row_laws (block_ptr b o) ps = beside_shr_laws _ _ (said_shr_laws (is_small R ps) tt) (run_laws b o ps)

-- and it is made of a borrow
module _ {M : Type 1} {𝓤 : Ura M} (𝓛 : Logic 𝓤) (κ : Lft) (R : RattleType) (laws : Laws R) (lives : Incl κ R.lives) where
  place_lends : (b o : ℕ) (p : Option R.Denot) → Lends 𝓛 (place_owned R b o p) (place_shared R b o p) κ
  place_lends b o None = Lends-nothing 𝓛 (place_owned R b o None) κ
  place_lends b o (Some x) = λ κ' qs. Shares-less 𝓛 R R.lives κ lives (laws.shares 𝓛) x κ' qs b o

  run_lends : (b o : ℕ) (ps : List (Option R.Denot)) → Lends 𝓛 (run_owned R b o ps) (run_shared R b o ps) κ
  run_lends b o [] = Lends-nothing 𝓛 ftrue κ
  run_lends b o (p ∷ ps) =
      let on : ℕ = o + type_size R in
      Lends-both 𝓛 (place_owned R b o p) (run_owned R b on ps) (place_shared R b o p) (run_shared R b on ps) κ (place_lends b o p) (run_lends b on ps)

  pub row_lends : (at : Ptr) (ps : List (Option R.Denot)) → Lends 𝓛 (row_owned R at ps) (row_shared R at ps) κ
  row_lends null_ptr ps = Lends-false 𝓛 (said ffalse) κ
  row_lends (block_ptr b o) ps =
      Lends-both 𝓛 (is_small R ps) (run_owned R b o ps) (said (is_small R ps)) (run_shared R b o ps) κ (Lends-said 𝓛 (is_small R ps) tt κ) (run_lends b o ps)
