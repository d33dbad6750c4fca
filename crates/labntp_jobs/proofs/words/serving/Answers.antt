use Rattle.std.proofs.Common.{refl, ap, sym, ◌∙◌, drop}
use Rattle.labntp_jobs.proofs.words.serving.Goals as goal

pub returns-in_err-register-clause-none : goal.returns-in_err-register-clause-none
returns-in_err-register-clause-none c = λ none serving asked. c.in_err-register.ensures.none refl _ _ asked.spelled

pub returns-in_err-commands-clause-none : goal.returns-in_err-commands-clause-none
returns-in_err-commands-clause-none c = λ none serving asked.
    c.in_err-commands.ensures.none refl _ _ (ap (drop 2) (sym c.in_ok-register.ensures.some ∙ asked.spelled))

pub returns-in_err-port-clause-none : goal.returns-in_err-port-clause-none
returns-in_err-port-clause-none c = λ none serving asked.
    c.in_err-port.ensures.none refl _ _ (ap (drop 2) (sym c.in_ok-commands.ensures.some
    ∙ ap (drop 2) (sym c.in_ok-register.ensures.some ∙ asked.spelled)))

pub returns-in_err-turns-clause-none : goal.returns-in_err-turns-clause-none
returns-in_err-turns-clause-none c = λ none serving asked.
    c.in_err-turns.ensures.none refl _ _ (ap (drop 2) (sym c.in_ok-port.ensures.some ∙ ap (drop 2) (sym c.in_ok-commands.ensures.some
    ∙ ap (drop 2) (sym c.in_ok-register.ensures.some ∙ asked.spelled))))
