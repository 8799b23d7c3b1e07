-- The words that the clauses of this crate's code share, from where they are defined.
pub use Rattle.module_code.specs.Program.{IsModule, Program, target}
pub use Rattle.run_model.specs.State.{PoolView}
pub use Rattle.run_model.specs.declared.bucket.Home.{Home}
pub use Rattle.model_laws.specs.OpenRuns.{InstancesAreSafe}
pub use Rattle.life_state.specs.Form.{IsFormed}
pub use Rattle.life_state.specs.Seen.{seen, seen_edges, seen_some}
pub use Rattle.life_check.specs.Certificates.{AllBounded, AreFormed}
pub use Rattle.life_check.specs.ChainTheorem.{ChainNeverFaults, TypedChainNeverFaults, TypedModulesAreSafe}
pub use Rattle.life_check.specs.Examples.{BesideRows, FaultRows, IdentityAnswers}
pub use Rattle.life_check.specs.Meaning.{Covers}
pub use Rattle.life_check.specs.Seen.{seen_cert}
pub use Rattle.life_check.specs.Slim.{Accepts, AreLeaders, SlimIsTyped, at_leaders, cert_refusal, handed_next, is_leader, meant, states_refusal}
pub use Rattle.life_check.specs.Soundness.{GreaterFits, LivesByTest, MetIsFaultless, RequestEndLands, StepLands}
pub use Rattle.life_check.specs.Typed.{IsAnswer, declares, entry_refusal, exits, first_below, first_refusal, fits_between, fits_line}
pub use Rattle.life_check.specs.Typed.{fits_lines, flows, has_in, has_no_cursor, has_shape, inits, is_below, leads_on, left_by, main_from}
pub use Rattle.life_check.specs.Typed.{opens, refusal_at, request_end, requests, serves, step_refusal, unless}
pub use Rattle.life_check.specs.Versions.{names_shape}
