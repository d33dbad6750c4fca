use Rattle.std.proofs.Common.{take}
use Rattle.ntp_admin.proofs.Enrolments.{Enrolled}
use Rattle.ntp_admin.proofs.loading.enrolled.Given as goal

abbrev pub invariant-loop-place : goal.invariant-loop-place
invariant-loop-place l = Enrolled (take l.place l.commands) l.service
