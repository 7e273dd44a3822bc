-- Which refusal of a run an error becomes.
use Rattle.smt_runs.specs.declared.refusal.BlastRefusal.TheVariants.{Unsupported, UnsupportedType}
use Rattle.smt_runs.specs.declared.refusal.Refusal.{Refusal}
use Rattle.smt_runs.specs.declared.refusal.Refusal.TheVariants.{Blast, Memory}
use Rattle.smt_blast.specs.declared.error.BlastError.{BlastError}
use Rattle.smt_blast.specs.declared.error.BlastError.TheVariants as unblasted

-- where terms are not blasted
abbrev pub unblasted_refusal : BlastError → Refusal
unblasted_refusal (unblasted.Unsupported op) = Blast Unsupported
unblasted_refusal (unblasted.UnsupportedType ty) = Blast UnsupportedType
unblasted_refusal unblasted.Memory = Memory
