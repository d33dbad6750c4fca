-- The laws of this crate that the proofs of other crates cite, each passed on from the module that proves it.

-- the parts of a text are those of the first cut and of what stands behind it
pub use Rattle.ntp_admin.proofs.Cuts.{parts-split}
-- the complete lines of a text are the first one and those of what stands behind it
pub use Rattle.ntp_admin.proofs.LinesCut.{complete_lines-split}
-- what `NonZero::new` gives is a number that is not 0
pub use Rattle.ntp_admin.proofs.Numbers.{new-non_zero}
-- what is read one after another stands behind what was read
pub use Rattle.ntp_admin.proofs.FileOrder.{behind, moved}
