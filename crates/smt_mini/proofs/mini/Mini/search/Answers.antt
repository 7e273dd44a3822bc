use Rattle.std.proofs.Common.{◌≡◌, ap, ◌∙◌, arith, length}
use Rattle.std.proofs.lemmas.List.{length-map}
use Rattle.std.specs.Rc.{rc_str_bytes}
use Rattle.law_verdicts.specs.FirstModel.{first_such}
use Rattle.smt_mini.specs.Search.{all_hold}
use Rattle.smt_mini.specs.Tables.{table_of}
use Rattle.smt_mini.proofs.Checking.{search_is}
use Rattle.smt_mini.proofs.Leveled.{stands_fits}
use Rattle.smt_mini.proofs.mini.Mini.search.Goals as goal

pub returns-clause-found : goal.returns-clause-found
returns-clause-found c s h =
    let t = table_of c.args.self.now.levels.tables in
    let total : c.len.result ≡ length t.constants = omega (arith, c.len.ensures, length-map c.args.self.now.levels.tables.constants.items rc_str_bytes) in
    c.in_ok-first_model.ensures
    ∙ ap (λ n. first_such n (all_hold c.as_slice.result.now c.as_slice-2.result.now)) total
    ∙ ap (λ gs. first_such (length t.constants) (all_hold gs c.as_slice-2.result.now)) c.as_slice.ensures.value
    ∙ ap (λ ps. first_such (length t.constants) (all_hold t.gates ps)) c.as_slice-2.ensures.value
    ∙ search_is t s (stands_fits c.args.self.now.levels s h)
