use Rattle.std.proofs.Common.{◌∙◌}
use Rattle.ntp_client.specs.Query.{query_fields}
use Rattle.labntp_jobs.proofs.Served.{is-timed}
use Rattle.labntp_jobs.proofs.Asked.{request-kind, request-answer, made-waits}
use Rattle.labntp_jobs.proofs.laws.a_request_is_a_signed_query.Goals as goal

pub returns-clause-waits : goal.returns-clause-waits
returns-clause-waits c = made-waits

pub returns-clause-signed : goal.returns-clause-signed
returns-clause-signed c = request-kind

pub returns-clause-served : goal.returns-clause-served
returns-clause-served c = λ client q past o waits shares room.
    request-answer client q past o waits shares
    ∙ is-timed past o client.key client.number (query_fields q) room
