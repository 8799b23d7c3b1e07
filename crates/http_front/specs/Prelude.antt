-- The words that the clauses of this crate's code share, from where they are defined.
pub use Rattle.httparse.specs.Grammar.{RequestHead}
pub use Rattle.httparse.specs.Spans.{IsRequestAt, IsRequestWithin, IsWithin, span_bytes}
pub use Rattle.module_code.specs.Program.{Program}
pub use Rattle.byte_streams.specs.Counted.{reads_left, source_of}
pub use Rattle.run_model.specs.Worlds.{Connected, Refused}
pub use Rattle.run_model.specs.declared.event.Event.TheVariants.{Open}
pub use Rattle.filter_chain.specs.HostViews.{Answers, HostView}
pub use Rattle.http_message.specs.Asking.{method_of}
pub use Rattle.http_message.specs.Clocks.{IsExchange}
pub use Rattle.http_message.specs.ReadBuffers.{unread}
pub use Rattle.http_message.specs.Looking.{IsHeadFound}
pub use Rattle.http_message.specs.Replying.{IsDateLine, reply_text}
pub use Rattle.http_message.specs.declared.site.Site.{Site}
pub use Rattle.http_front.specs.Among.{CarriesIn, ComesIn, EndsBareIn, FinishesIn, InitsIn, OpensNext, MakesSlice}
pub use Rattle.http_front.specs.Among.{OpensIn, OpensUnlessIn, Rests, RestsBehind, RunsSlice, Way, brigades_left, calls_after, calls_left}
pub use Rattle.http_front.specs.Connecting.{ClosesTurns, IsClosed, IsConnOpened, ServesAll, ServingFails, Visits, kind_of, kind_result}
pub use Rattle.http_front.specs.Connecting.{outcome_of}
pub use Rattle.http_front.specs.Driven.{HasConn, IsAlive, LacksFor, NoEventsOf, OnlyEventsOf, Refines, StepsAtMost}
pub use Rattle.http_front.specs.Nearing.{slice_steps}
pub use Rattle.http_front.specs.OneStream.{IsOnlyStreamFor}
pub use Rattle.http_front.specs.Outcomes.{IsLack, IsReplyTo, IsUnserved, LacksNamesAt}
pub use Rattle.http_front.specs.Requests.{ComesOf, EndsRequest, RunsCall, TakesOutput, ended_of, lack_of, unopened}
pub use Rattle.http_front.specs.Serving.{BlamesSink, BlamesSource, EndsWell, FailsBy, ServeGoes, ServedSoFar}
pub use Rattle.http_front.specs.Sharing.{Passes}
pub use Rattle.http_front.specs.Stepping.{IsReplyWritten, LacksAnswer}
pub use Rattle.http_front.specs.Talking.{pending, to_do}
pub use Rattle.http_front.specs.Texts.{text_of}
pub use Rattle.http_front.specs.Turns.{WantsMore, fields_limit, head_limit}
pub use Rattle.http_front.specs.UnderWays.{BeginsHead, IsAskedBy, IsUnderWay, LacksSlice, Sends, StepMade, StepsFrom, Wants, most_steps}
