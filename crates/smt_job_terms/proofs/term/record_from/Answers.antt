use Rattle.std.proofs.Common.{Ok, map, ap, sym, ◌∙◌}
use Rattle.std.specs.Rc.{rc_str_bytes}
use Rattle.law_folding.specs.FoldRecords.{record_of_pairs}
use Rattle.smt_term.specs.View.{plain_field}
use Rattle.smt_job_terms.proofs.TermsRead.{record_made}
use Rattle.smt_job_terms.proofs.term.record_from.Goals as goal

pub returns : goal.returns
returns c written are =
    record_made (map rc_str_bytes c.args.names.now) written c.args.operands.now are
    ∙ ap Ok (sym (c.in_ok-record_of.ensures.folded ∙ ap record_of_pairs (ap (map plain_field) c.as_slice.ensures.value ∙ c.in_ok-pairs.ensures.fields)))
