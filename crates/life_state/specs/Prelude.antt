-- The words that the clauses of this crate's code share, from where they are defined.
pub use Rattle.module_code.specs.Program.{fits, pool_of_brigade}
pub use Rattle.run_model.specs.Faults.{wants}
pub use Rattle.run_model.specs.Wants.{need_of, want_of}
pub use Rattle.life_state.specs.Bounded.{IsBounded}
pub use Rattle.life_state.specs.Examples.{IdentityRows, OtherRows}
pub use Rattle.life_state.specs.Facts.{move_bucket}
pub use Rattle.life_state.specs.Form.{AtHand, FormedBrigade, FormedCursor, IsFormed}
pub use Rattle.life_state.specs.FormLaws.{EntriesAreFormed, JoinsAbsorb, JoinsKeepForm, RulesKeepForm}
pub use Rattle.life_state.specs.FormTests.{FormedAt, FormedFact, FormedPlace, NamesBelow}
pub use Rattle.life_state.specs.InForm.{has_at_hand, is_formed, is_formed_at, is_formed_brigade, is_formed_cursor, is_formed_fact}
pub use Rattle.life_state.specs.InForm.{is_formed_place, is_formed_pool, is_free, is_unmade, names_below}
pub use Rattle.life_state.specs.InState.{condition_fits, effect_fits}
pub use Rattle.life_state.specs.Laws.{JoinIsAbove, JoinIsLeast, LeqHolds, LeqIsAntisymmetric, LeqIsReflexive, LeqIsTransitive, LeqSays}
pub use Rattle.life_state.specs.Monotone.{EntriesAreMonotone, RulesAreMonotone}
pub use Rattle.life_state.specs.Order.{all_below, brigade_join, classes_join, cursor_join, pool_join, brigade_leq, classes_leq}
pub use Rattle.life_state.specs.Order.{content_leq, cursor_leq, content_join, pool_leq, rank}
pub use Rattle.life_state.specs.PoolOrder.{is_clearable, is_same_place, is_under, parent_of}
pub use Rattle.life_state.specs.Rules.{after, after_aside, after_bcreate, after_before, after_bsave, after_concat, after_make, after_next}
pub use Rattle.life_state.specs.Rules.{after_pass, after_unlink, classes_of, cleared, cleared_brigade, cleared_cursors, cleared_pool}
pub use Rattle.life_state.specs.Rules.{cursor_need, edges, edges_jempty, edges_jend, edges_jkind, edges_jnull, first_need, homes_at, made}
pub use Rattle.life_state.specs.Rules.{need, on_condition, put_in, rule, side_content, split_part, told_classes}
pub use Rattle.life_state.specs.Seen.{seen, seen_answer, seen_brigade, seen_cursor, seen_edges, seen_homes, seen_pools, seen_some}
pub use Rattle.life_state.specs.States.{In, homes_join, ended_brigade, ended_pool, holds, is_live_alone, is_live_brigade, is_usable_alone}
pub use Rattle.life_state.specs.States.{never_made, no_homes, set_brigade, set_pool}
