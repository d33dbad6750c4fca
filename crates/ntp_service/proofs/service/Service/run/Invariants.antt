use Rattle.std.proofs.Common.{List, take, ◌≤◌, ◌≡◌, length}
use Rattle.std.specs.Prelude.{zip, vec_len, vec_capacity}
use Rattle.ntp_service.specs.{declared.event.Event.Event, Headline.StandsFor, Headline.Tells}
use Rattle.ntp_service.proofs.service.Service.run.Given as goal

abbrev pub invariant-loop-event : goal.invariant-loop-event
invariant-loop-event g l = record {
  count : vec_len l.outcomes ≡ l.event-index;
  room : length l.events ≤ vec_capacity l.outcomes;
  each : length l.outcomes.items ≡ l.event-index;
  tells : (history : List (Event _)) → StandsFor l.fn.self history → Tells history (zip (take l.event-index l.events) l.outcomes.items) l.self;
}
