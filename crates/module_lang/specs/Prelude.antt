-- The words that the clauses of this crate's code share, from where they are defined.
pub use Rattle.module_code.specs.Args.{is_value}
pub use Rattle.module_code.specs.Program.{IsModule, Program, fits, program, target}
pub use Rattle.module_code.specs.Words.{kind_test_text}
pub use Rattle.byte_text.specs.Bytes.{begins, tail}
pub use Rattle.byte_text.specs.Quoted.{spelling}
pub use Rattle.byte_text.specs.Writes.{Wrote, writer_state}
pub use Rattle.module_lang.specs.Assembling.{assembling, draft_read, is_end, lines_ended, lines_read, program_of}
pub use Rattle.module_lang.specs.Codes.{Gives, Tells, unless}
pub use Rattle.module_lang.specs.Drafts.{empty_draft}
pub use Rattle.module_lang.specs.Entries.{IsDraft}
pub use Rattle.module_lang.specs.FirstFault.{IsReadAs}
pub use Rattle.module_lang.specs.Handlers.{HasPlacesBelow, IsPlaces, IsSeen, arg_in, args_in, ends_open, handler_fault, handler_resolved}
pub use Rattle.module_lang.specs.Handlers.{instr_of, is_lost, jump_fault, label_fault, label_of, operand_index, operand_kind_test}
pub use Rattle.module_lang.specs.Handlers.{operand_label, operand_status, operand_value, operand_variable, place_of, sooner, step_code}
pub use Rattle.module_lang.specs.Handlers.{target_place}
pub use Rattle.module_lang.specs.Lines.{any_touches_req, are_declared, declaration_judged, has_equal_brigades, has_long_text}
pub use Rattle.module_lang.specs.Lines.{has_main_only, has_room, has_text, instruction_count, is_declared, is_due, is_handler}
pub use Rattle.module_lang.specs.Lines.{is_long_text, is_main, is_main_only, is_misplaced, is_next, is_open, is_text_operand, item_read}
pub use Rattle.module_lang.specs.Lines.{judged, known_word, label_read, line_read, op_judged, place_is_declared, same_brigade, touches_req}
pub use Rattle.module_lang.specs.Lines.{under_req}
pub use Rattle.module_lang.specs.Operands.{after_operand, after_text, brigade_in, constant_in, cursor_in, ending_in, is_one, kind_test_at}
pub use Rattle.module_lang.specs.Operands.{kind_test_in, label_in, number_in, numbered, operand_at, operand_in}
pub use Rattle.module_lang.specs.Operands.{operand_place, operands_at, place_in, pool_in, source_in, text_operand}
pub use Rattle.module_lang.specs.Operands.{value_in, variable_in}
pub use Rattle.module_lang.specs.Printing.{is_number, is_target, label_line, printed, target_name}
pub use Rattle.module_lang.specs.Shown.{AreShort, HasDigit, IsShortArg, shown_arg, shown_args, shown_code, shown_declarations}
pub use Rattle.module_lang.specs.Shown.{shown_handler, shown_line, shown_step}
pub use Rattle.module_lang.specs.Texts.{IsTextOf, brigade_text, brigade_texts, code_text, cursor_text, joined, operands_text, own_text}
pub use Rattle.module_lang.specs.Texts.{place_text, pool_texts, status_text, value_text, variable_text}
