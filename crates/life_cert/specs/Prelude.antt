-- The words that the clauses of this crate's code share, from where they are defined.
pub use Rattle.module_code.specs.Program.{IsModule}
pub use Rattle.byte_text.specs.Bytes.{after_token}
pub use Rattle.byte_text.specs.Writes.{Wrote, writer_state}
pub use Rattle.life_state.specs.Form.{IsFormed}
pub use Rattle.life_state.specs.Seen.{seen, seen_brigade, seen_cursor, seen_edges, seen_homes, seen_some}
pub use Rattle.life_state.specs.States.{Loose}
pub use Rattle.life_check.specs.Certificates.{AreFormed, Certificate}
pub use Rattle.life_check.specs.ChainTheorem.{ChainNeverFaults}
pub use Rattle.life_check.specs.Seen.{seen_cert, seen_line}
pub use Rattle.life_check.specs.Slim.{Accepts, AreLeaders, slim_form}
pub use Rattle.life_check.specs.Typed.{IsTyped}
pub use Rattle.life_check.specs.Versions.{is_in_range, version_two}
pub use Rattle.life_cert.specs.CertText.{between_line, cert_text, code_line, earlier, first_line, first_with, head_lines, is_again, is_two, pc_line}
pub use Rattle.life_cert.specs.CertText.{said_by, said_line, state_or_none, vars_line}
pub use Rattle.life_cert.specs.Drafts.{IsNoState, IsReadState, IsSameNumber, NoStateIsIn, NoStateOrNoneIsIn}
pub use Rattle.life_cert.specs.Fitting.{IsDeclared, IsFit, IsOf, is_inside}
pub use Rattle.life_cert.specs.Least.{IsBelow}
pub use Rattle.life_cert.specs.Made.{IsCertMade, IsRefused, RefusesByFault}
pub use Rattle.life_cert.specs.Reading.{AnswersFault, EndTold, HaveSameStates, IsCertText, IsPrinted, IsState, IsStateOrNone, IsReported, IsToldOf}
pub use Rattle.life_cert.specs.Reading.{IsToldState, more_than}
pub use Rattle.life_cert.specs.Rounds.{merge, arriving, begun, edges_arriving, enough, grow, handed_by, handed_by_line, handed_on}
pub use Rattle.life_cert.specs.Rounds.{left_place, made, returned, round, state_at, with_state}
pub use Rattle.life_cert.specs.SeenGrowth.{seen_arrival, seen_arrivals, seen_growth}
pub use Rattle.life_cert.specs.StateFromText.{at_past, at_pools, at_read, behind_name, brigades_there, classes_past, classes_read}
pub use Rattle.life_cert.specs.StateFromText.{content_read, cursor_past, cursor_read, fact_past, fact_word, homes_past, homes_read}
pub use Rattle.life_cert.specs.StateFromText.{in_past, in_read, key, live_past, live_read, loose_past, loose_read, number_in, own_past}
pub use Rattle.life_cert.specs.StateFromText.{own_read, past_brigades, past_cursors, past_pools, place_past, place_read, pool_past}
pub use Rattle.life_cert.specs.StateFromText.{pool_read, pools_there, row_past, set_past, set_read, starts, three_there, past_three, told_brigades, told_cursors}
pub use Rattle.life_cert.specs.StateFromText.{told_facts, told_pools, told_row}
pub use Rattle.life_cert.specs.StateText.{brigade_name, brigade_text, classes_text, content_text, cursor_name, cursor_text, each}
pub use Rattle.life_cert.specs.StateText.{fact_text, facts_text, has_home, home_text, homes_text, live_text, numbered, place_text_of}
pub use Rattle.life_cert.specs.StateText.{pool_text, sent_text, set_text, state_text, usable_text, where_holds}
