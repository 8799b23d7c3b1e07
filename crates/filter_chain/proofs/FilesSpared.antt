-- What a step tells leaves the files of others open.
use Rattle.std.proofs.Common.{◌≡◌, ℕ, suc, zero, Bool, true, false, List, [], ◌∷◌, Option, Some, None, Result, Ok, Err, inl, inr, ap, ◌∙◌, arith, ◌+◌, ◌-◌}
use Rattle.std.specs.Prelude.{min}
use Rattle.module_code.specs.Program.{Program}
use Rattle.module_code.specs.declared.instr.Instr.{Instr}
use Rattle.module_code.specs.declared.instr.Instr.TheVariants as instr
use Rattle.run_model.specs.declared.bucket.Content.{Content}
use Rattle.run_model.specs.declared.bucket.Content.TheVariants as content
use Rattle.run_model.specs.declared.bucket.NamedBucket.{NamedBucket}
use Rattle.run_model.specs.declared.event.Cause.{Cause}
use Rattle.run_model.specs.declared.event.Cause.TheVariants as cause
use Rattle.run_model.specs.declared.event.Refusal.{Refusal}
use Rattle.run_model.specs.declared.event.Refusal.TheVariants as refusal
use Rattle.run_model.specs.declared.event.Stepped.{Stepped}
use Rattle.run_model.specs.declared.event.Stepped.TheVariants as stepped
use Rattle.run_model.specs.BucketSteps.{content_at}
use Rattle.run_model.specs.Buckets.{is_eos}
use Rattle.run_model.specs.Chains.{Frame, Connection, Linked, is_last, is_output, configuration, module_at}
use Rattle.run_model.specs.Cursors.{at_cursor}
use Rattle.run_model.specs.Cutting.{read_limit, wanted}
use Rattle.run_model.specs.Files.{parts_of}
use Rattle.run_model.specs.Passing.{Reads}
use Rattle.run_model.specs.State.{items_of}
use Rattle.run_model.specs.Steps.{current}
use Rattle.bucket_kinds.specs.Device.{Device, AllWentWell, HasFailed, SameFolder, SomeWentWell, Sound, WasAsked, WentWell, moved, nearer, spent}
use Rattle.interp_calls.specs.Delivery.{IfElse, PartGiven, PartsGiven, ContentGiven, ReadsGiven}
use Rattle.interp_state.specs.Given.{MayGive}
use Rattle.module_run.specs.Proceeding.{SameBeside, TellsReads}
use Rattle.filter_chain.specs.Spared.{Spares}
use Rattle.module_run.specs.Stepping.{TellsAtTop, TellsStep}

module _ (e : Device) where
  -- by reads alone, no name and no number changes
  Reads_only : Device → Type 0
  Reads_only d = (e.next ≡ d.next) × (e.numbered ≡ d.numbered) × SameFolder d e × (d.plan ≡ Sound → e.plan ≡ Sound)

  same : (d : Device) → e ≡ d → Reads_only d
  unfolding Reads_only
  same d is = (ap (λ (x : Device). x.next) is, ap (λ (x : Device). x.numbered) is, ap (λ (x : Device). x.named) is, λ sound. ap (λ (x : Device). x.plan) is ∙ sound)

  -- another read was made first
  before : (d : Device) → Reads_only (moved d) → Reads_only d
  unfolding Reads_only
  before d only = (only.0, only.1, only.2, λ sound. only.3 (ap nearer sound))

  went : (d : Device) → WentWell d e → Reads_only d
  went d well = before d (same (moved d) well.1)

  fails : (d : Device) → HasFailed d e → Reads_only d
  unfolding Reads_only
  fails d (may, is) = (ap (λ (x : Device). x.next) is, ap (λ (x : Device). x.numbered) is, ap (λ (x : Device). x.named) is, λ sound. ap (λ (x : Device). x.plan) is ∙ ap spent sound)

  asked : (n : ℕ) (d : Device) → WasAsked n d e → Reads_only d
  asked zero d is = same d is
  asked (suc n) d well = went d well

  some : (n : ℕ) (d : Device) → AllWentWell n d e → Reads_only d
  unfolding AllWentWell
  some zero d is = same d is
  some (suc n) d all = before d (some n (moved d) all.1)

  part : (d : Device) (o : Option (List ℕ)) (file start n : ℕ) (next : Type 0) → (next → Reads_only d) → PartGiven d e file start n o next → Reads_only d
  part d (Some bytes) file start n next then given = then given.2
  part d None file start n next then (inl failed_now) = fails d failed_now
  part d None file start n next then (inr ended) = went d ended.0

  parts : (n : ℕ) (d : Device) (file start len : ℕ) (reads : Reads) (next : Device → ℕ → Type 0) (k : ℕ) → ((m : Device) (j : ℕ) → next m j → Reads_only m)
      → PartsGiven d e n file start len reads next k → Reads_only d
  unfolding PartsGiven
  parts zero d file start len reads next k then given = then d k given
  parts (suc n) d file start len reads next k then given =
      part d (reads k) file start (min len read_limit) (PartsGiven (moved d) e n file (start + read_limit) (len - read_limit) reads next (k + 1))
      (λ rest. before d (parts n (moved d) file (start + read_limit) (len - read_limit) reads next (k + 1) then rest)) given

  by_content : (d : Device) (x : Content) (reads : Reads) (next : Device → ℕ → Type 0) (k : ℕ) → ((m : Device) (j : ℕ) → next m j → Reads_only m) → ContentGiven d e x reads next k → Reads_only d
  by_content d (content.Bytes bs) reads next k then given = then d k given
  by_content d (content.Range file start len) reads next k then given = parts (parts_of len) d file start len reads next k then given
  by_content d content.Nothing reads next k then given = then d k given

  unless : (d : Device) (b : Bool) (P Q : Type 0) → (P → Reads_only d) → (Q → Reads_only d) → IfElse b P Q → Reads_only d
  unless d true P Q p q given = p given
  unless d false P Q p q given = q given

  all_reads : (items : List NamedBucket) (d : Device) (reads : Reads) (k : ℕ) → ReadsGiven d e items reads k → Reads_only d
  unfolding ReadsGiven
  all_reads [] d reads k given = same d given
  all_reads (b ∷ bs) d reads k given =
      unless d (is_eos b) (e ≡ d) (ContentGiven d e b.bucket.content reads (λ m j. ReadsGiven m e bs reads j) k) (same d)
      (by_content d b.bucket.content reads (λ m j. ReadsGiven m e bs reads j) k (λ m j rest. all_reads bs m reads j rest)) given

  gives : (d : Device) (x : Content) (o : Option (List ℕ)) → MayGive d x o e → Reads_only d
  gives d x (Some bytes) given = asked (wanted x) d given.1
  gives d x None (wanted, inl failed_now) = fails d failed_now
  gives d x None (wanted, inr ended) = went d ended.0

module _ (d e : Device) where
  reads_spare : (c : Connection) → Reads_only e d → Spares d e c
  unfolding Reads_only
  reads_spare c only = (let next = only.0 in record { rises = omega (arith, next); folder = only.2; sound = only.3; others = λ file old none. ap (λ (f : ℕ → _). f file) only.1 })

  beside : (v : Linked) → SameBeside d e v.1 → Spares d e v.1
  beside v told = (let next = told.1 in record { rises = omega (arith, next); folder = told.0.0; sound = λ sound. told.0.1 ∙ sound; others = λ file old none. told.3 file none })

  put_out : (last : Bool) (v : Linked) (items : List NamedBucket) (reads : Reads) → IfElse last (IfElse v.1.out.ended (e ≡ d) (ReadsGiven d e items reads 0)) (e ≡ d) → Spares d e v.1
  put_out last v items reads told =
      reads_spare v.1 (unless e d last (IfElse v.1.out.ended (e ≡ d) (ReadsGiven d e items reads 0)) (e ≡ d)
      (unless e d v.1.out.ended (e ≡ d) (ReadsGiven d e items reads 0) (same e d) (all_reads e items d reads 0)) (same e d) told)

  tells_reads : (chain : List Program) (i : Instr) (f : Frame) (v : Linked) (reads : Reads) → TellsReads d e chain i f v reads → Spares d e v.1
  tells_reads chain (instr.Read c l) f v reads told = reads_spare v.1 (gives e d (content_at (at_cursor (configuration v.0 v.1 f) c)) (reads 0) told)
  tells_reads chain (instr.Ret s) f v reads told = put_out (is_output chain f.of) v (items_of ((v.1.instances f.of).brigades 8)) reads told
  tells_reads chain (instr.Pass b l) f v reads told = put_out (is_last chain v.1 f.of) v (items_of ((v.1.instances f.of).brigades b)) reads told
  tells_reads chain (instr.PClear q) f v reads told = beside v told
  tells_reads chain (instr.PDestroy q) f v reads told = beside v told
  tells_reads chain i f v reads told = reads_spare v.1 (same e d told)

  at_top : (chain : List Program) (fs : List Frame) (v : Linked) (reads : Reads) → TellsAtTop d e chain fs v reads → Spares d e v.1
  unfolding TellsAtTop
  at_top chain [] v reads told = reads_spare v.1 (same e d told)
  at_top chain (f ∷ rest) v reads told = tells_reads chain (current (module_at chain f.of) f.pc) f v reads told

  pub step_spares : (chain : List Program) (answer : Result Stepped Refusal) (v : Linked) (reads : Reads) → TellsStep d e chain answer v reads → Spares d e v.1
  step_spares chain (Ok stepped.Went) v reads told = at_top chain v.1.stack v reads told
  step_spares chain (Ok (stepped.CallEnded s)) v reads told = at_top chain v.1.stack v reads told
  step_spares chain (Ok (stepped.Fault kind of pc)) v reads told = reads_spare v.1 (same e d told)
  step_spares chain (Err r) v reads told = reads_spare v.1 (same e d told)
