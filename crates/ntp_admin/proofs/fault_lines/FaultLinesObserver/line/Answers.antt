use Rattle.std.proofs.Common.{◌≡◌, List, ◌++◌, ◌∷◌, [], append_assoc, rules}
use Rattle.std.specs.{Prelude.ℕ, Prelude.codes, Prelude.Option, Prelude.OnOk, Io.KnownBytes.Appends}
use Rattle.std.proofs.lemmas.Result.{on_ok_weaker}
use Rattle.ntp_admin.specs.CommandsFile.{fault_line, line_text}
use Rattle.ntp_admin.proofs.fault_lines.FaultLinesObserver.line.Goals.{in-Refused, in-Faulty}
use Rattle.ntp_admin.proofs.fault_lines.FaultLinesObserver.line.Goals as goal

-- the pieces of the line, in the order in which they are written
pieces : (old new : Option (List ℕ)) (digits word : List ℕ)
    → Appends old new (codes "commands: line " ++ (digits ++ (codes ": " ++ (word ++ 10 ∷ []))))
    → Appends old new (codes "commands: line " ++ digits ++ codes ": " ++ word ++ 10 ∷ [])
pieces old new digits word e = rw (append_assoc, append_assoc, append_assoc) e

pub returns-else-is_err-clause-written : goal.returns-else-is_err-clause-written
returns-else-is_err-clause-written g c =
    let told : line_text c.args.number c.args.outcome ≡ fault_line c.args.number c.match-outcome.word.now =
    elim c.match-outcome.branch [
      | in-Refused w ↦ search rules
      | in-Faulty w ↦ search rules
    ] in
    let whole : OnOk c.writeln.result (Appends (g.W.Write.contents c.args.self.now.faults) (g.W.Write.contents c.writeln.new.self)
    (fault_line c.args.number c.match-outcome.word.now)) =
    on_ok_weaker c.writeln.result (pieces _ _ _ c.match-outcome.word.now) c.writeln.ensures.bytes in
    rw told (search rules)
