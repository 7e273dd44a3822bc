use Rattle.std.proofs.Common.{map, ap, sym, ◌∙◌, subst}
use Rattle.std.specs.Rc.{rc_str_bytes}
use Rattle.law_jobs.specs.Enums.{new_enum}
use Rattle.law_texts.specs.Outcomes.{◌>>=◌}
use Rattle.smt_job_terms.specs.EnumView.{HasEnums}
use Rattle.smt_job_terms.specs.DeclarationView.{DeclaresNext}
use Rattle.smt_job_terms.proofs.enums.declare.Goals as goal

pub returns : goal.returns
returns c enums has =
    let stated = ap (λ o. o >>= new_enum enums) c.in_ok-name.ensures ∙ ap (λ members. new_enum enums (rc_str_bytes c.in_ok-name.name.now, map rc_str_bytes members)) (sym c.as_slice.ensures.value) in
    subst (λ o. DeclaresNext (HasEnums c.enter.new.table) enums o c.enter.result) (sym stated) (c.enter.ensures enums has)
