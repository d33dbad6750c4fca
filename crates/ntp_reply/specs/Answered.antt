-- Not to be believed: for proofs. What the private functions give that answer a datagram.
use Rattle.std.specs.Prelude.{◌≡◌, ◌≤◌, ℕ}
use Rattle.ntp_customer.specs.{Customer.CustomerState, Customer.numbers_of, Past.Past, Past.short}
use Rattle.ntp_reply.specs.{declared.occasion.Occasion.Occasion, Kind.Kind, declared.answers.Answer.Answer}
use Rattle.ntp_reply.specs.Verdict.{kind_answer, after_kind, reply_length}

-- for each past that shortens to the stored customer, the answer is the model's to a datagram of this kind, and the new customer is the
-- shortened new past; the key numbers stay, and a reply has at most `most` octets
pub record Answers (o : Occasion) (kind : Kind) (most : ℕ) (old new : CustomerState) (reply : Answer) : Type 0 where
  pub answer : (past : Past) → short past ≡ old → reply ≡ kind_answer past o kind
  pub after : (past : Past) → short past ≡ old → new ≡ short (after_kind past o kind)
  pub numbers : numbers_of new ≡ numbers_of old
  pub no_longer : reply_length reply ≤ most
