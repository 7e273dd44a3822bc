use Rattle.law_verdicts.proofs.Chunks as chunks
use Rattle.law_verdicts.proofs.Scan as scan
use Rattle.law_verdicts.proofs.laws.chunks_are_commands.Goals as goal

pub returns : goal.returns
returns c = record { commands = chunks.chunks_are_commands; scanned = scan.chunks_are_scanned; cut = scan.scanned_are_chunks }
