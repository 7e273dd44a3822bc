use Rattle.law_theorem.proofs.Calls.{calls_are_well_written, calls_keep_well_written, idle_lines_keep_well_written, texts_are_well_written}
use Rattle.law_theorem.proofs.well_sorted.calls_are_well_written.Goals as goal

pub returns : goal.returns
returns c = record { texts = texts_are_well_written; calls = calls_are_well_written; kept = calls_keep_well_written; idle = idle_lines_keep_well_written }
