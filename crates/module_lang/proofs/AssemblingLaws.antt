-- The module of a draft, handler by handler.
use Rattle.std.proofs.Common.{◌≡◌, ℕ, ◌≤◌, false, List, [], ◌++◌, length, Result, Ok, Err, refl, take_all}
use Rattle.std.specs.BTreeSet.{BTreeSet}
use Rattle.std.specs.BTreeSet as set
use Rattle.std.proofs.lemmas.Bool.{le-ltb}
use Rattle.module_lang.specs.Assembling.{program_of, draft_read, lines_read}
use Rattle.module_lang.specs.Codes.{Gives, Tells, ◌>>=◌}
use Rattle.module_lang.specs.Drafts.{empty_draft}
use Rattle.module_lang.specs.Handlers.{IsSeen, handler_resolved}
use Rattle.module_code.specs.Program.{Program, program}
use Rattle.module_lang.specs.declared.draft.Draft.{Draft}
use Rattle.module_code.specs.declared.instr.Instr.{Instr}
use Rattle.module_lang.specs.declared.refusal.AsmRefusal.{AsmRefusal}
use Rattle.module_lang.specs.declared.refusal.AsmRefusal.TheVariants.{Fault, NoMemory}

pub seen_none : (s : BTreeSet (List ℕ)) → set.IsEmpty s → IsSeen s []
unfolding IsSeen
seen_none s e = λ q. rw e refl

tells : {Y W Z : Type 0} (u : Z → W) (e : AsmRefusal) (r : Result Y AsmRefusal) (f : Y → Result W AsmRefusal) → Tells e r → Gives u (Err e) (r >>= f)
tells u (Fault l c) r f h = rw h refl
tells u NoMemory r f h = tt

module _ (d : Draft) (e : AsmRefusal) (start : List Instr) (none : start ≡ []) where
  pub stop1 : Tells e (handler_resolved [] d.open start) → Gives {X = Program} (λ m. m) (Err e) (program_of d)
  unfolding program_of
  stop1 h = tells (λ m. m) e (handler_resolved [] d.open []) _ (rw none at h)

  pub stop2 : (a : List Instr) → handler_resolved [] d.open start ≡ Ok a → Tells e (handler_resolved d.open.labels d.init a) → Gives {X = Program} (λ m. m) (Err e) (program_of d)
  unfolding program_of
  stop2 a p h = rw (rw none at p) (tells (λ m. m) e (handler_resolved d.open.labels d.init a) _ h)

  pub stop3 : (a b : List Instr) → handler_resolved [] d.open start ≡ Ok a → handler_resolved d.open.labels d.init a ≡ Ok b → Tells e (handler_resolved (d.open.labels ++ d.init.labels) d.main b)
      → Gives {X = Program} (λ m. m) (Err e) (program_of d)
  unfolding program_of
  stop3 a b p q h = rw (rw none at p, q) (tells (λ m. m) e (handler_resolved (d.open.labels ++ d.init.labels) d.main b) _ h)

pub done : (d : Draft) (start a b c : List Instr) → start ≡ [] → handler_resolved [] d.open start ≡ Ok a → handler_resolved d.open.labels d.init a ≡ Ok b
    → handler_resolved (d.open.labels ++ d.init.labels) d.main b ≡ Ok c → program_of d ≡ Ok (program d.pools d.brigades d.texts c (length a) (length b))
unfolding program_of
done d start a b c none p q r = rw (rw none at p, q, r) refl

pub read_short : (text : List ℕ) → length text ≤ 1048576 → draft_read text ≡ lines_read false empty_draft 1 [] text
unfolding draft_read
read_short text h = rw (take_all 1048576 text h, le-ltb 1048576 (length text) h) refl
