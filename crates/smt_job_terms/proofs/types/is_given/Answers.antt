use Rattle.std.proofs.Common.{rules, bytes_eq, ◌∙◌}
use Rattle.std.proofs.lemmas.Iterator.{YieldsList-from_slice}
use Rattle.std.proofs.lemmas.Iterator.Search.{any_from_yields_List}
use Rattle.std.specs.Rc.{rc_str_bytes}
use Rattle.smt_job_terms.proofs.TypesRead.{Attribute, any_mapped}
use Rattle.smt_job_terms.proofs.types.is_given.Goals as goal

pub returns : goal.returns
returns c =
    any_from_yields_List (λ (p : Attribute). bytes_eq (rc_str_bytes c.args.name.now) (rc_str_bytes p.0)) _ _ _ c.any.ensures.ran (YieldsList-from_slice c.args.given.now cc) (λ x b q k. search rules)
    ∙ any_mapped (λ (p : Attribute). rc_str_bytes p.0) (bytes_eq (rc_str_bytes c.args.name.now)) c.args.given.now
