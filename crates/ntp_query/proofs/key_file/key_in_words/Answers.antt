use Rattle.std.proofs.Common.{◌≡◌, [], ◌∷◌, Ok, sym, ap, ◌∙◌}
use Rattle.std.specs.Option.{ok_or}
use Rattle.ntp_packet.specs.FirstCase.{◌>>=◌}
use Rattle.ntp_mac.specs.declared.key.Algorithm.TheVariants.{Md5}
use Rattle.ntp_query.specs.declared.key_file.KeyLineFault.TheVariants as line_fault
use Rattle.ntp_query.specs.KeyFile.{words, algorithm_of, key_of, key_of_words}
use Rattle.ntp_query.proofs.KeyForms.{key-or-fault}
use Rattle.ntp_query.proofs.key_file.key_in_words.Goals as goal

-- the two words are all of the line
pub returns-in-Some-Some-None-None : goal.returns-in-Some-Some-None-None
returns-in-Some-Some-None-None c =
    let w = c.in-Some-Some-None-None in
    let all : words c.args.text.now ≡ w.field-0-0.now ∷ w.key.now ∷ [] =
    sym c.new-words.ensures ∙ w.ensures ∙ ap (λ others. w.field-0-0.now ∷ others)
    (w.ensures' ∙ ap (λ others. w.key.now ∷ others) w.ensures''.0) in
    c.ok_or.ensures.value ∙ ap (λ found. ok_or found line_fault.Key) c.key_of.ensures ∙ key-or-fault Md5 w.key.now ∙ sym (ap key_of_words all)

-- and so are the three
pub returns-in_ok-algorithm-in-Some-Some-Some-None : goal.returns-in_ok-algorithm-in-Some-Some-Some-None
returns-in_ok-algorithm-in-Some-Some-Some-None c =
    let w = c.in-Some-Some-Some-None in
    let a = c.in_ok-algorithm-in-Some-Some-Some-None in
    let all : words c.args.text.now ≡ w.field-0-0.now ∷ w.name.now ∷ w.key.now ∷ [] =
    sym c.new-words.ensures ∙ w.ensures ∙ ap (λ others. w.field-0-0.now ∷ others)
    (w.ensures' ∙ ap (λ others. w.name.now ∷ others) (w.ensures'' ∙ ap (λ others. w.key.now ∷ others) w.ensures'''.0)) in
    let named : ok_or (algorithm_of w.name.now) line_fault.Algorithm ≡ Ok a.algorithm =
    sym (c.ok_or-in-Some-Some-Some-None.ensures.value ∙ ap (λ found. ok_or found line_fault.Algorithm) c.algorithm_of.ensures) ∙ a.was in
    c.ok_or-in-Some-Some-Some-None-2.ensures.value ∙ ap (λ found. ok_or found line_fault.Key) c.key_of-in-Some-Some-Some-None.ensures
    ∙ key-or-fault a.algorithm w.key.now
    ∙ sym (ap key_of_words all ∙ ap (λ found. found >>= (λ algorithm. key_of algorithm w.key.now)) named)
