use Rattle.std.proofs.Common.{rules, bytes_eq, ◌∙◌}
use Rattle.std.proofs.lemmas.Iterator.{YieldsList-from_slice}
use Rattle.std.proofs.lemmas.Iterator.Search.{any_from_yields_List}
use Rattle.std.specs.Rc.{rc_str_bytes}
use Rattle.std.specs.declared.alloc.Global.{Global}
use Rattle.std.specs.declared.rc.RcStr.{RcStr}
use Rattle.smt_job_terms.proofs.TypesRead.{any_mapped}
use Rattle.smt_job_terms.proofs.form.is_among.Goals as goal

pub returns : goal.returns
returns c =
    any_from_yields_List (λ (x : RcStr Global). bytes_eq (rc_str_bytes c.args.name.now) (rc_str_bytes x)) _ _ _ c.any.ensures.ran (YieldsList-from_slice c.args.names.now cc) (λ x b q k. search rules)
    ∙ any_mapped rc_str_bytes (bytes_eq (rc_str_bytes c.args.name.now)) c.args.names.now
