use Rattle.std.proofs.Common.{◌≡◌, List, ℕ, ◌++◌, ◌∙◌, ap, refl, append_assoc, codes}
use Rattle.std.specs.{Prelude.string_bytes, Int.w64, Int.to_be_bytes}
use Rattle.std.proofs.lemmas.Result.{IfOk-weaker}
use Rattle.hex.specs.Hex.{encode_lower}
use Rattle.ntp_packet.specs.declared.stamp.Stamp.{Stamp}
use Rattle.ntp_admin.specs.Answers.{stamp_text}
use Rattle.ntp_admin.proofs.printing.answer_text.Goals as goal

-- the four pieces of the line
pieces : (line saved reply x y : List ℕ) → line ≡ codes "time " ++ (saved ++ (codes " " ++ reply)) → saved ≡ x → reply ≡ y
    → line ≡ codes "time " ++ x ++ codes " " ++ y
pieces line saved reply x y e f g = rw (e, f, g, append_assoc) refl

-- the digits of a stamp
digits : (saved : Stamp) (text octets : List ℕ) → text ≡ encode_lower octets → octets ≡ to_be_bytes w64 saved.0 → text ≡ stamp_text saved
unfolding stamp_text
digits saved text octets e f = e ∙ ap encode_lower f

pub returns-in_ok-reply-in-Time : goal.returns-in_ok-reply-in-Time
returns-in_ok-reply-in-Time g c =
    rw c.in-Time.is (IfOk-weaker c.format.result _ _
    (λ s e. pieces (string_bytes s) _ _ _ _ e (digits c.in-Time.saved _ _ c.in_ok-saved-in-Time.ensures c.to_be_bytes.ensures)
    (c.in_ok-reply-in-Time.ensures ∙ ap encode_lower c.octets.ensures.octets)) c.format.ensures.ok)
