use Rattle.std.proofs.Common.{arith, sym, ap, ◌∙◌}
use Rattle.law_terms.specs.Faults.{first_fault}
use Rattle.law_terms.specs.TypeValues.{Enums}
use Rattle.law_lines.specs.Text.{names, text}
use Rattle.smt_script.specs.Count.{count_bytes}
use Rattle.smt_jobs.specs.Numbered.{terms_begun}
use Rattle.smt_jobs.proofs.NumberedLemmas.{stood_by}
use Rattle.smt_encode.specs.Encoded.{enums_in, sink_of}
use Rattle.smt_job_terms.specs.DeclarationView.{declarations}
use Rattle.smt_cli.proofs.Summarizing.{all_counted, as_many_terms, only_memory, summed_up}
use Rattle.smt_cli.proofs.generation.count_script.Goals as goal

pub encode_nodes-requires : goal.encode_nodes-requires
encode_nodes-requires g c = record { stand = (terms_begun c.args.job.terms, stood_by c.args.job.terms.nodes c.with_nodes-encoder.result.writer.names.nodes c.args.job.terms.begun.items c.as_slice.result.now c.args.job.terms.begun_stand c.with_nodes-encoder.ensures.nodes c.as_slice.ensures.value) }

pub returns-in_err-encode_nodes-clause-refused : goal.returns-in_err-encode_nodes-clause-refused
returns-in_err-encode_nodes-clause-refused g c faultless =
    let ts = terms_begun c.args.job.terms in
    let stand = stood_by c.args.job.terms.nodes c.with_nodes-encoder.result.writer.names.nodes c.args.job.terms.begun.items c.as_slice.result.now c.args.job.terms.begun_stand c.with_nodes-encoder.ensures.nodes c.as_slice.ensures.value in
    let complete = c.encode_nodes.ensures.complete ts stand in
    only_memory c.encode_nodes.result c.from_residual.result c.in_err-encode_nodes.field-0.0 c.in_err-encode_nodes.was c.from_residual.ensures.1
    (complete.answered c.with_nodes-encoder.ensures.unspent (ap (λ (e : Enums). first_fault e ts) (c.with_nodes-encoder.ensures.enums ∙ c.new-enums.ensures) ∙ faultless) (λ rose. omega (arith, rose)))

pub returns-clause-summary : goal.returns-clause-summary
returns-clause-summary g c =
    let ts = terms_begun c.args.job.terms in
    let encoder = c.with_nodes-encoder.result in
    let enums = c.with_nodes-encoder.ensures.enums ∙ c.new-enums.ensures in
    let stand = stood_by c.args.job.terms.nodes encoder.writer.names.nodes c.args.job.terms.begun.items c.as_slice.result.now c.args.job.terms.begun_stand c.with_nodes-encoder.ensures.nodes c.as_slice.ensures.value in
    let wrote = c.in_ok-encode_nodes.ensures.stated ts stand c.with_nodes-encoder.ensures.fresh in
    let script = sink_of c.encode_nodes.new.self in
    summed_up (declarations c.args.job.vars) ts c.in_ok-summarized.field-0 (count_bytes script) (names (enums_in encoder) ts) c.len.result (c.in_ok-summarized.ensures (names (enums_in encoder) ts) wrote.names)
    (all_counted (sink_of encoder) script (text (enums_in encoder) ts) (ap count_bytes c.with_nodes-encoder.ensures.sink ∙ c.new.ensures) wrote.text ∙ ap (λ (e : Enums). text e ts) enums)
    (ap (λ (e : Enums). names e ts) enums) (c.len.ensures ∙ sym c.as_slice.ensures.len ∙ as_many_terms encoder.writer.names.nodes c.as_slice.result.now ts stand)
