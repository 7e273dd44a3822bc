-- Statuses, what is said of a refusal, and which refusal an error becomes.
use Rattle.std.specs.Prelude.{ℕ, List, ◌++◌, codes, decimal}
use Rattle.smt_script.specs.declared.input.InputError.{InputError}
use Rattle.smt_script.specs.declared.input.InputError.TheVariants.{Fault as InputFault, TooLarge as InputLarge, Memory as InputWant}
use Rattle.smt_script.specs.declared.sink.SinkError.{SinkError}
use Rattle.smt_script.specs.declared.sink.SinkError.TheVariants.{Fault as SinkFault, Memory as SinkWant}
use Rattle.smt_dimacs.specs.declared.error.FormulaError.{FormulaError}
use Rattle.smt_dimacs.specs.declared.error.FormulaError.TheVariants.{Refused as FormulaRefused}
use Rattle.smt_dimacs.specs.declared.error.FormulaError.TheVariants.{TooLarge as FormulaLarge, Memory as FormulaWant}
use Rattle.smt_sat_run.specs.Lines.{fault_line}
use Rattle.smt_sat_run.specs.declared.refusal.Refusal.{Refusal}
use Rattle.smt_sat_run.specs.declared.refusal.Refusal.TheVariants.{Usage, Formula, TooLarge, Source, Sink, Memory}
use Rattle.smt_sat_run.specs.declared.verdict.Verdict.{Verdict}
use Rattle.smt_sat_run.specs.declared.verdict.Verdict.TheVariants.{Satisfiable, Unsatisfiable, Unknown, Refused, Told}
use Rattle.smt_sat_run.specs.declared.verdict.ProofRefusal.{ProofRefusal}
use Rattle.smt_sat_run.specs.declared.verdict.ProofRefusal.TheVariants.{Step, Incomplete, BadStep, TooLarge as LargeProof}

-- the status with which a run ends that found this, as SAT solvers have it
abbrev pub verdict_status : Verdict → ℕ
verdict_status Satisfiable = 10
verdict_status Unsatisfiable = 20
verdict_status Unknown = 0
verdict_status (Refused why) = 0
verdict_status Told = 0

-- the status with which a run ends that is refused so
abbrev pub status_of : Refusal → ℕ
status_of Usage = 2
status_of (Formula fault line) = 3
status_of TooLarge = 3
status_of Source = 5
status_of Sink = 6
status_of Memory = 7

-- the line that says a refusal
abbrev pub line_of : Refusal → List ℕ
line_of Usage = codes "usage: smtsat [--conflicts N | --proof FILE] < FORMULA\n"
line_of (Formula fault line) = fault_line fault line
line_of TooLarge = codes "formula refused: TooLarge\n"
line_of Source = codes "source fault\n"
line_of Sink = codes "sink fault\n"
line_of Memory = codes "memory\n"

-- the line that says why a proof was refused; steps are numbered from 1
abbrev pub proof_line : ProofRefusal → List ℕ
proof_line (Step number) = codes "proof refused: step " ++ decimal number ++ codes "\n"
proof_line Incomplete = codes "proof refused: incomplete\n"
proof_line (BadStep line) = codes "proof refused: BadStep at line " ++ decimal line ++ codes "\n"
proof_line LargeProof = codes "proof refused: TooLarge\n"

-- ---- which refusal an error becomes

-- the refusal of a run, where an input was not read
abbrev pub input_refusal : InputError → Refusal
input_refusal InputFault = Source
input_refusal InputLarge = TooLarge
input_refusal InputWant = Memory

-- the refusal of a run, where no formula was read
abbrev pub formula_refusal : FormulaError → Refusal
formula_refusal (FormulaRefused fault line) = Formula fault line
formula_refusal FormulaLarge = TooLarge
formula_refusal FormulaWant = Memory

-- the refusal of a run, where a text was not put
abbrev pub sink_refusal : SinkError → Refusal
sink_refusal SinkFault = Sink
sink_refusal SinkWant = Memory
