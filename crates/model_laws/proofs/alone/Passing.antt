-- What an instance passes may be brought to another.
use Rattle.std.proofs.Common.{◌≡◌, ℕ, Bool, true, false, ◌||◌, ◌&&◌, cond, List, Option, Some, None, refl, ap, subst}
use Rattle.std.specs.List.{list_any}
use Rattle.module_code.specs.declared.instr.Instr.{Instr}
use Rattle.module_code.specs.declared.instr.Instr.TheVariants as instr
use Rattle.module_code.specs.Program.{Program}
use Rattle.run_model.specs.declared.bucket.NamedBucket.{NamedBucket}
use Rattle.run_model.specs.declared.fault.FaultKind.{FaultKind}
use Rattle.run_model.specs.declared.fault.FaultKind.TheVariants.{F8}
use Rattle.run_model.specs.Buckets.{has_data, data_after_eos, is_dead}
use Rattle.run_model.specs.Faults.{usable_fault, homes_fault, send_fault, fault}
use Rattle.run_model.specs.State.{items_of}
use Rattle.run_model.specs.Steps.{current}
use Rattle.model_laws.specs.OpenRuns.{Standing, ToldOfMove, Passes, executed, Attempts, IsMove, PassedMayBeBrought}
use Rattle.model_laws.proofs.Marks.{first_none, second_none}
use Rattle.model_laws.proofs.StepFiles.{no_dead}

abbrev pub MayBeBrought : Standing → List NamedBucket → Type 0
MayBeBrought s items = (data_after_eos items ≡ false) × (s.now.instance.sent ≡ true → has_data items ≡ false) × (list_any is_dead items ≡ false)

sent_so : (late sent bytes : Bool) (k : FaultKind) → cond (late || (sent && bytes)) (Some k) None ≡ None → (late ≡ false) × (sent ≡ true → bytes ≡ false)
sent_so true sent bytes k none = absurd (cc)
sent_so false true true k none = absurd (cc)
sent_so false true false k none = (refl, λ e. refl)
sent_so false false bytes k none = (refl, λ e. absurd (cc))

passed_is : (x y : List NamedBucket) → Passes x ≡ Passes y → x ≡ y
passed_is x y e = cc

pub pass_may : (p : Program) (s : Standing) (b l : ℕ) → fault p s.now (instr.Pass b l) ≡ None → MayBeBrought s (items_of (s.now.instance.brigades b))
pass_may p s b l none =
    let items : List NamedBucket = items_of (s.now.instance.brigades b) in
    let after = second_none (usable_fault (s.now.instance.brigades b)) _ none in
    let send = sent_so (data_after_eos items) s.now.instance.sent (has_data items) F8 (first_none (send_fault s.now.instance.sent items) None (second_none (homes_fault items) _ after)) in
    (send.0, send.1, no_dead items (first_none (homes_fault items) _ after))

by_instruction : (p : Program) (given : Option (List ℕ)) (i : Instr) (s new : Standing) (items : List NamedBucket) → fault p s.now i ≡ None → executed p given i s ≡ (Passes items, new)
    → MayBeBrought s items
unfolding executed
by_instruction p given (instr.Pass b l) s new items none is =
    subst (MayBeBrought s) (passed_is (items_of (s.now.instance.brigades b)) items (ap (λ (x : ToldOfMove × Standing). x.0) is)) (pass_may p s b l none)
by_instruction p given i s new items none is = absurd (let told = ap (λ (x : ToldOfMove × Standing). x.0) is in cc)

by_fault : (p : Program) (given : Option (List ℕ)) (s new : Standing) (items : List NamedBucket) (f : Option FaultKind) → fault p s.now (current p s.now.pc) ≡ f
    → Attempts f p given s (Passes items) new → MayBeBrought s items
by_fault p given s new items None none a = by_instruction p given (current p s.now.pc) s new items none a.1
by_fault p given s new items (Some k) is a = absurd (let told = a.0 in cc)

pub passed_may_be_brought : PassedMayBeBrought
unfolding IsMove
passed_may_be_brought p s new given items e = by_fault p given s new items (fault p s.now (current p s.now.pc)) refl e.1
