-- The parts of a block may cross threads as its values and its allocator may.
use Rattle.std.specs.Prelude.{ℕ, ◌+◌, List, [], ◌∷◌, Option, Some, None}
use Rattle.std.specs.Mem.{type_size}
use base.Fraction.{full_share}
use base.Shift.{Keyless}
use denote.RattleType.{RattleType}
use denote.RawPtr.{Ptr, block_ptr, null_ptr}
use denote.Struct.Struct.{exits_of}
use denote.Struct.Owning.{shape, fields, to}
use denote.Param.Send.{IsSend, AllSend, part_keyless, owning_send, struct_send, sendable}
use Rattle.core.specs.declared.alloc.Allocator.{Ghosts}
use Rattle.std_alloc.proofs.SendSync.{FreesAnywhere, quiet}
use Rattle.raw_block.specs.Ownership.{run_owned, row_owned}
use Rattle.raw_block.specs.contracts.cells.Cells as Cells
use Rattle.raw_block.specs.contracts.cells.Right as Right

module _ (R : RattleType) where
  run-Keyless : IsSend R → (b o : ℕ) (ps : List (Option R.Denot)) → Keyless (run_owned R b o ps)
  run-Keyless s b o [] = tt
  run-Keyless s b o (Some x ∷ ps) = (part_keyless R s full_share x b o, run-Keyless s b (o + type_size R) ps)
  run-Keyless s b o (None ∷ ps) = (tt, run-Keyless s b (o + type_size R) ps)

  row-Keyless : IsSend R → (p : Ptr) (ps : List (Option R.Denot)) → Keyless (row_owned R p ps)
  row-Keyless s (block_ptr b o) ps = (tt, run-Keyless s b o ps)
  row-Keyless s null_ptr ps = tt

  pub Cells-send : IsSend R → IsSend (Cells.the_row R)
  Cells-send s =
      let O = Cells.the_type R in let all : AllSend (fields O) = (search sendable, tt) in
      owning_send O all (λ d. row-Keyless s d.start d.places) (λ k. quiet (to O) (exits_of k (fields O)) ((struct_send (shape O) all).leaving k))

  module _ (A : RattleType) (g : Ghosts A.Denot) where
    pub Right-send : FreesAnywhere A.Denot g → IsSend (Right.the_row R A g)
    Right-send f =
        let O = Right.the_type R A g in let all : AllSend (fields O) = (search sendable, tt) in
        owning_send O all (λ d. f.frees d.alloc _ d.start) (λ k. quiet (to O) (exits_of k (fields O)) ((struct_send (shape O) all).leaving k))
