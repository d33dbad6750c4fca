use Rattle.std.proofs.Common.{rules}
use Rattle.std.specs.Prelude.{string_bytes}
use Rattle.ntp_clerk.proofs.KeyText.{text-has-key}
use Rattle.ntp_clerk.proofs.grant.customer_text.Goals as goal

pub returns : goal.returns
returns c = text-has-key c.args.grant.now.number c.args.grant.now.key (string_bytes c.in_ok-notes.notes) (string_bytes c.in_ok-text.text) c.in_ok-key.ensures.fits.0 c.in_ok-key.ensures.fits.1 (search rules)
