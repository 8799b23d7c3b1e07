use Rattle.std.proofs.Common.{List, ℕ, ◌++◌, ap, codes, length}
use Rattle.module_code.specs.Program.{Program}
use Rattle.module_lang.specs.Printing.{printed}
use Rattle.module_lang.specs.Shown.{shown_declarations, shown_handler}
use Rattle.byte_text.specs.Writes.{writer_state}
use Rattle.module_lang.proofs.PrintedText.{printed_is_text}
use Rattle.module_lang.proofs.ShownLaws.{printed_parts}
use Rattle.byte_text.proofs.WritingLaws.{Leaves, leaves_fault, leaves_last, leaves_less, leaves_whole}
use Rattle.module_lang.proofs.print.print_module.Given.{Over}
use Rattle.module_lang.proofs.print.print_module.Goals as goal
use Rattle.module_lang.proofs.print.print_module.Goals.{After-main-main, In_ok-put_declarations, In_ok-put_handler, In_ok-put_handler-2, In_ok-put_handler-3}

-- the text from a handler on, of a module whose code ends at `end`
abbrev from_main : Program → ℕ → ℕ → List ℕ
from_main m main end = shown_handler (codes "main") m.texts m.code main end ++ codes "end\n"

abbrev from_init : Program → ℕ → ℕ → ℕ → List ℕ
from_init m init main end = shown_handler (codes "init") m.texts m.code init main ++ from_main m main end

abbrev from_open : Program → ℕ → ℕ → ℕ → List ℕ
from_open m init main end = shown_handler (codes "open") m.texts m.code 0 init ++ from_init m init main end

-- What is left of the text, before it is written and behind each part.
module _ (g : Over) where
  none : (c : After-main-main g) → Leaves (writer_state g.W.Write.contents c.args.out.now) (writer_state g.W.Write.contents c.args.out.now) (printed c.args.module.now)
      (shown_declarations c.args.module.now ++ from_open c.args.module.now c.init-init.result c.main-main.result (length c.code-end.result.now))
  none c =
      leaves_whole (writer_state g.W.Write.contents c.args.out.now) (printed c.args.module.now) _
      (printed_parts c.args.module.now c.init-init.result c.main-main.result
      (length c.code-end.result.now) c.init-init.ensures.value c.main-main.ensures.value (ap length c.code-end.ensures.value))

  declared : (c : In_ok-put_declarations g) → Leaves (writer_state g.W.Write.contents c.args.out.now) (writer_state g.W.Write.contents c.args.out.now) (printed c.args.module.now)
      (shown_declarations c.args.module.now ++ (from_open c.args.module.now c.init-init.result c.main-main.result (length c.code-end.result.now)))
      → Leaves (writer_state g.W.Write.contents c.args.out.now) (writer_state g.W.Write.contents c.put_declarations.new.out) (printed c.args.module.now)
      (from_open c.args.module.now c.init-init.result c.main-main.result (length c.code-end.result.now))
  declared c left = leaves_less _ (writer_state g.W.Write.contents c.args.out.now) _ _ _
      (from_open c.args.module.now c.init-init.result c.main-main.result (length c.code-end.result.now)) left c.in_ok-put_declarations.ensures

  opened : (c : In_ok-put_handler g) → Leaves (writer_state g.W.Write.contents c.args.out.now) (writer_state g.W.Write.contents c.put_declarations.new.out)
      (printed c.args.module.now) (shown_handler (codes "open") c.args.module.now.texts c.args.module.now.code 0 c.init-init.result ++
      (from_init c.args.module.now c.init-init.result c.main-main.result (length c.code-end.result.now)))
      → Leaves (writer_state g.W.Write.contents c.args.out.now) (writer_state g.W.Write.contents c.put_handler.new.out) (printed c.args.module.now)
      (from_init c.args.module.now c.init-init.result c.main-main.result (length c.code-end.result.now))
  opened c left = leaves_less _ (writer_state g.W.Write.contents c.put_declarations.new.out) _ _ _
      (from_init c.args.module.now c.init-init.result c.main-main.result (length c.code-end.result.now)) left c.in_ok-put_handler.ensures

  begun : (c : In_ok-put_handler-2 g) → Leaves (writer_state g.W.Write.contents c.args.out.now) (writer_state g.W.Write.contents c.put_handler.new.out) (printed c.args.module.now)
      (shown_handler (codes "init") c.args.module.now.texts c.args.module.now.code c.init-init.result c.main-main.result ++
      (from_main c.args.module.now c.main-main.result (length c.code-end.result.now)))
      → Leaves (writer_state g.W.Write.contents c.args.out.now) (writer_state g.W.Write.contents c.put_handler-2.new.out) (printed c.args.module.now)
      (from_main c.args.module.now c.main-main.result (length c.code-end.result.now))
  begun c left = leaves_less _ (writer_state g.W.Write.contents c.put_handler.new.out) _ _ _
      (from_main c.args.module.now c.main-main.result (length c.code-end.result.now)) left c.in_ok-put_handler-2.ensures

  served : (c : In_ok-put_handler-3 g) → Leaves (writer_state g.W.Write.contents c.args.out.now) (writer_state g.W.Write.contents c.put_handler-2.new.out) (printed c.args.module.now)
      (shown_handler (codes "main") c.args.module.now.texts c.args.module.now.code c.main-main.result (length c.code-end.result.now) ++ (codes "end\n"))
      → Leaves (writer_state g.W.Write.contents c.args.out.now) (writer_state g.W.Write.contents c.put_handler-3.new.out) (printed c.args.module.now) (codes "end\n")
  served c left = leaves_less _ (writer_state g.W.Write.contents c.put_handler-2.new.out) _ _ _ (codes "end\n") left c.in_ok-put_handler-3.ensures

pub put_declarations-requires : goal.put_declarations-requires
put_declarations-requires g c = c.code-end.ensures.sound

pub returns-in_err-put_declarations-clause-written : goal.returns-in_err-put_declarations-clause-written
returns-in_err-put_declarations-clause-written g c =
    let p = goal.at.returns-in_err-put_declarations-clause-written g c in
    leaves_fault _ _ _ _ _ _ c.in_err-put_declarations.field-0.0 _ c.from_residual.ensures.0 (none g p.After-main-main) c.in_err-put_declarations.ensures

pub returns-in_err-put_handler-clause-written : goal.returns-in_err-put_handler-clause-written
returns-in_err-put_handler-clause-written g c =
    let p = goal.at.returns-in_err-put_handler-clause-written g c in
    let l1 = declared g p.In_ok-put_declarations (none g p.After-main-main) in
    leaves_fault _ _ _ _ _ _ c.in_err-put_handler.field-0.0 _ c.from_residual-in_err-put_handler.ensures.0 l1 c.in_err-put_handler.ensures

pub returns-in_err-put_handler-2-clause-written : goal.returns-in_err-put_handler-2-clause-written
returns-in_err-put_handler-2-clause-written g c =
    let p = goal.at.returns-in_err-put_handler-2-clause-written g c in
    let l2 = opened g p.In_ok-put_handler (declared g p.In_ok-put_declarations (none g p.After-main-main)) in
    leaves_fault _ _ _ _ _ _ c.in_err-put_handler-2.field-0.0 _ c.from_residual-in_err-put_handler-2.ensures.0 l2 c.in_err-put_handler-2.ensures

pub returns-in_err-put_handler-3-clause-written : goal.returns-in_err-put_handler-3-clause-written
returns-in_err-put_handler-3-clause-written g c =
    let p = goal.at.returns-in_err-put_handler-3-clause-written g c in
    let l3 = begun g p.In_ok-put_handler-2 (opened g p.In_ok-put_handler (declared g p.In_ok-put_declarations (none g p.After-main-main))) in
    leaves_fault _ _ _ _ _ _ c.in_err-put_handler-3.field-0.0 _ c.from_residual-in_err-put_handler-3.ensures.0 l3 c.in_err-put_handler-3.ensures

pub returns-clause-written : goal.returns-clause-written
returns-clause-written g c =
    let p = goal.at.returns-clause-written g c in
    let l4 = served g p.In_ok-put_handler-3 (begun g p.In_ok-put_handler-2
    (opened g p.In_ok-put_handler (declared g p.In_ok-put_declarations (none g p.After-main-main)))) in
    leaves_last _ _ _ _ _ _ l4 c.put_all.ensures

pub returns-in_err-put_declarations-clause-round : goal.returns-in_err-put_declarations-clause-round
returns-in_err-put_declarations-clause-round g c = printed_is_text c.args.module.now c.code-end.ensures.sound

pub returns-in_err-put_handler-clause-round : goal.returns-in_err-put_handler-clause-round
returns-in_err-put_handler-clause-round g c = printed_is_text c.args.module.now c.code-end.ensures.sound

pub returns-in_err-put_handler-2-clause-round : goal.returns-in_err-put_handler-2-clause-round
returns-in_err-put_handler-2-clause-round g c = printed_is_text c.args.module.now c.code-end.ensures.sound

pub returns-in_err-put_handler-3-clause-round : goal.returns-in_err-put_handler-3-clause-round
returns-in_err-put_handler-3-clause-round g c = printed_is_text c.args.module.now c.code-end.ensures.sound

pub returns-clause-round : goal.returns-clause-round
returns-clause-round g c = printed_is_text c.args.module.now c.code-end.ensures.sound
