use Rattle.std.proofs.Common.{rules, refl, ap, sym, ◌∙◌, drop}
use Rattle.labntp_jobs.specs.declared.jobs.Job.TheVariants.{Replay, Serve, Loopback}
use Rattle.labntp_jobs.proofs.words.job.Goals as goal

pub returns-in_err-serving-in-serve-clause-none : goal.returns-in_err-serving-in-serve-clause-none
returns-in_err-serving-in-serve-clause-none c none Replay asked = search rules
returns-in_err-serving-in-serve-clause-none c none (Serve serving) asked =
    c.in_err-serving-in-serve.ensures.none refl serving (record {
      port = asked.0;
      turns = asked.1;
      spelled = ap (drop 1) (sym c.in_ok-next.ensures ∙ asked.2);
      port_number = asked.3;
      turn_count = asked.4;
    })
returns-in_err-serving-in-serve-clause-none c none (Loopback turns) asked = search rules

pub returns-in_err-loopback_turns-in-loopback-clause-none :
    goal.returns-in_err-loopback_turns-in-loopback-clause-none
returns-in_err-loopback_turns-in-loopback-clause-none c none Replay asked = search rules
returns-in_err-loopback_turns-in-loopback-clause-none c none (Serve serving) asked = search rules
returns-in_err-loopback_turns-in-loopback-clause-none c none (Loopback count) asked =
    c.in_err-loopback_turns-in-loopback.ensures.none refl count
    (record { turns = asked.0; spelled = ap (drop 1) (sym c.in_ok-next.ensures ∙ asked.1); turn_count = asked.2 })
