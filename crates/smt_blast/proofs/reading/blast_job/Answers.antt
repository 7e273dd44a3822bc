use Rattle.smt_script.specs.Sink.{Rose}
use Rattle.smt_blast.specs.Causes.{current_terms}
use Rattle.smt_blast.proofs.BlastedJobs.{blasted_of, numbers_stand, read_booleans, unblasted, written}
use Rattle.smt_blast.proofs.reading.blast_job.Goals as goal

pub blast-requires : goal.blast-requires
blast-requires g c =
    let remaining = g.R.Source.remaining c.args.source.now in
    let job = c.in_ok-job.job in
    let read = c.in_ok-job.ensures.job in
    (current_terms (written remaining job read), numbers_stand remaining job read c.as_slice.result.now c.in_ok-ids.ids.items c.as_slice-2.result.now c.as_slice.ensures.value c.as_slice-2.ensures.value (c.in_ok-ids.ensures job.steps.nodes), read_booleans remaining job read)

pub returns-in_err-blast-clause-refused : goal.returns-in_err-blast-clause-refused
returns-in_err-blast-clause-refused g c =
    let remaining = g.R.Source.remaining c.args.source.now in
    let job = c.in_ok-job.job in
    let read = c.in_ok-job.ensures.job in
    let ts = current_terms (written remaining job read) in
    let stand = numbers_stand remaining job read c.as_slice.result.now c.in_ok-ids.ids.items c.as_slice-2.result.now c.as_slice.ensures.value c.as_slice-2.ensures.value (c.in_ok-ids.ensures job.steps.nodes) in
    unblasted remaining job read (Rose (g.R.Source.faults c.args.source.now) (g.R.Source.faults c.read_source.new.source)) c.from_residual-in_err-blast.result c.in_err-blast.field-0.0 c.from_residual-in_err-blast.ensures.1
    (c.in_err-blast.ensures.refused ts stand (read_booleans remaining job read))

pub returns-clause-blasted : goal.returns-clause-blasted
returns-clause-blasted g c =
    let remaining = g.R.Source.remaining c.args.source.now in
    let job = c.in_ok-job.job in
    let read = c.in_ok-job.ensures.job in
    let w = written remaining job read in
    let ts = current_terms w in
    let stand = numbers_stand remaining job read c.as_slice.result.now c.in_ok-ids.ids.items c.as_slice-2.result.now c.as_slice.ensures.value c.as_slice-2.ensures.value (c.in_ok-ids.ensures job.steps.nodes) in
    let booleans = read_booleans remaining job read in
    let blasted = c.in_ok-blast.ensures in
    blasted_of remaining job read c.in_ok-blast.field-0 (blasted.refused ts stand booleans) (blasted.roots ts stand booleans) (blasted.faithful w.enums ts stand booleans)
