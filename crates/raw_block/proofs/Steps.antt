-- The names and steps that the walks of this crate share. Assumes `Logic`.
pub use Rattle.std.proofs.Common.{◌≡◌, ℕ, zero, suc, ◌+◌, ◌*◌, ◌<◌, ◌≤◌, ◌^◌, List, [], ◌∷◌, ◌++◌, length, set, get_or, replicate, Option, None, Some, is_some, true, refl, ap, sym, subst, ◌∙◌, arith}
pub use Rattle.std.proofs.Common.{w64, lit<}
pub use Rattle.std.proofs.raw_atomic.Walks.{proved, proved_at}
pub use seplogic.Ra.Ura.{Ura}
pub use base.Fraction.{full_share}
pub use base.Logic.{SProp, ent, sep, id⊢}
pub use base.Fml.{Lft, GName, Fml, Incl-trans, ftrue, fat, flft, froom, fsep}
pub use mir.Syntax.{Fn, named, ty_array, ty_unit}
pub use mir.MapTy.{inst_fn}
pub use mir.Val.{Val, vptr, vint, vunit, vstruct, vcons, vnil, has_ty, WT}
pub use lib.Dec.{T}
pub use prog.Wp.{WpFn}
pub use contract.Monad.{fact}
pub use contract.Running.{tables, tables_of}
pub use contract.BorrowLft.{◌⊑◌}
pub use types.Logic.{Logic, sem}
pub use types.Kit.{Item, ‵, raw, ◌⊛◌, some, given, later, prop, at_ret, ◌$◌, ◌∵◌, !, qed, by, move, keep, drop, use1, use2, use3, split, join, group, learn, pick, await, rewrite, fsplit, fsplit3}
pub use types.Kit.{fjoin, fjoin3, fpack, feq_i, feq_l, flt_l, flt_i, suffices, frame, done}
pub use types.Part.{whole, sub, agg}
pub use types.Run.{stop, fld, lit, unit_lit, load, look, init, of_opd, addr, bin, size_word, align_word, and_then, no_more, assigns_last, first, blocks, exec, returns, enter}
pub use types.ByLocal.{alloc_all, pass_all, free_all, look_at, take_at, give_at, get, get_in, through, sets, sets_last, is, env}
pub use denote.Builtin.{usize, unit, RefOf, RefMutOf, SliceRefOf}
pub use denote.Exit.{yes, no}
pub use denote.Memory.{hidden_shr, cell_at, mem}
pub use denote.Opens.{hide, unhide}
pub use denote.Param.{layout}
pub use denote.Plain.{uint_vals, uint_Tells}
pub use denote.RattleType.{RattleType}
pub use denote.RawPtr.{Ptr, block_ptr, ptr_val, in_a_block}
pub use denote.Ref.{Bor, MutBor, ShrRef, MutRef, shr_vals, shr_Tells, mut_vals, mut_Tells}
pub use denote.Shadow.{pure_i}
pub use denote.Signature.{plain, mut_ref_to}
pub use denote.Steps.{nothing, opens, closes, heard}
pub use denote.Triple.Walked.{says, Stays, stay_dropped, stay_ref, walk_of, ends_at, Goes-dropped, Goes-ref, Goes-spent_ref}
pub use Rattle.std_alloc.proofs.RcSteps.{Good, word, word-Good}
pub use Rattle.std_alloc.proofs.RawLayout.{as_raw, as_written}
pub use Rattle.std_alloc.proofs.VecSteps.Shapes.{after}
pub use Rattle.core.proofs.mem.Param.{El, R, args, el_x, elτ}
pub use Rattle.core.proofs.slots.Leases.{uncapped}
pub use Rattle.core.proofs.ptr.Rows.{times_below}
use denote.Param.Laws.{param_laws}
use denote.Laws.{Is}
use lib.ListN.{length-set}
use denote.Struct.Struct.{Struct}
use denote.Struct.Owning.{shape}
use Rattle.std.specs.Mem.{type_size}
use Rattle.raw_block.specs.contracts.cells.Cells as cells_type
use Rattle.raw_block.specs.contracts.cells.Base as base_type
use Rattle.raw_block.specs.contracts.cells.Right as right_type
use Rattle.raw_block.proofs.cells.Base.TheLaws as base_laws
use Rattle.raw_block.proofs.cells.Cells.TheLaws as cells_laws
use Rattle.raw_block.proofs.cells.Right.TheLaws as right_laws
use Rattle.core.proofs.alloc.Calls.{Al}
use Rattle.core.proofs.slots.Leases.{P}

module _ (E : El) where
  abbrev pub Cr : RattleType
  Cr = cells_type.the_row (R E)

  abbrev pub Br : RattleType
  Br = base_type.the_row (R E)

  -- what a `Cells` owns beside its places: a mark of no bytes
  abbrev pub FullMark : RattleType
  FullMark = Struct (shape (cells_type.the_type (R E)))

  abbrev pub size_of : ℕ
  size_of = type_size (R E)

  -- a `Base` is one word
  abbrev pub base_vals : Br.Denot → List Val
  base_vals p = word p.ptr ∷ []

  pub base_tells : (p : Br.Denot) (vs : List Val) → Is Br p vs → vs ≡ base_vals p
  base_tells p vs h = (base_laws.lowers (R E) (param_laws 0 E.row E.laws)).val_is p vs h

abbrev pub mark : Val
mark = vstruct (vcons (vstruct vnil) vnil)

module _ (E : El) (Z : Al) where
  abbrev pub Rr : RattleType
  Rr = right_type.the_row (R E) (P E Z) Z.g

  -- the right to free and the places take no bytes
  pub right_tells : (r : Rr.Denot) (vs : List Val) → Is Rr r vs → vs ≡ mark ∷ []
  right_tells r vs h = (right_laws.lowers (R E) (P E Z) Z.g (param_laws 0 E.row E.laws) (param_laws 1 Z.row Z.laws)).val_is r vs h

pub cells_tell : (E : El) (c : (Cr E).Denot) (vs : List Val) → Is (Cr E) c vs → vs ≡ mark ∷ []
cells_tell E c vs h = (cells_laws.lowers (R E) (param_laws 0 E.row E.laws)).val_is c vs h

-- a place that is there begins below 2 ^ 64 bytes
pub begins_below : (k n s : ℕ) → k ≤ n → n * s < 2 ^ 63 → k * s < 2 ^ 64
begins_below k n s le small = let below : k * s < 2 ^ 63 = times_below k n s (2 ^ 63) le small in omega (arith, below)

-- a row has as many places as before
pub small_as : {X : Type 0} (ps : List X) (k s : ℕ) (p : X) → length ps * s < 2 ^ 63 → length (set ps k p) * s < 2 ^ 63
small_as ps k s p small = subst (λ n. n * s < 2 ^ 63) (sym (length-set ps k p)) small
