use Rattle.std.proofs.Common.{◌≡◌, ◌∷◌, [], Some, ap, ◌∙◌}
use Rattle.std.proofs.lemmas.Result.{IfOk-weaker}
use Rattle.std.specs.Rc.{rc_str_bytes}
use Rattle.law_terms.specs.Nodes.{FunctionMeaning, TypeMeaning}
use Rattle.smt_term.specs.View.{plain_type}
use Rattle.smt_nodes.proofs.Interning.{two_found}
use Rattle.smt_nodes.specs.Interned.{nodes_of}
use Rattle.smt_nodes.proofs.interner.Interner.intern_function.Goals as goal

pub returns-clause-meaning : goal.returns-clause-meaning
returns-clause-meaning c =
    let f = c.args.function.now in
    let id_is : rc_str_bytes c.in_ok-clone.field-0 ≡ rc_str_bytes f.id = c.in_ok-clone.ensures.cases in
    IfOk-weaker c.enter.result _ _ (λ id h. h ∙ ap (λ s. Some (FunctionMeaning (record { id = s; argument = plain_type f.arg; output = plain_type f.out }))) id_is)
    (c.enter.ensures.meaning (TypeMeaning (plain_type f.arg) ∷ TypeMeaning (plain_type f.out) ∷ []) (two_found (nodes_of c.intern_type-2.new.self) c.in_ok-arg.arg c.in_ok-out.out _ _ (c.intern_type-2.ensures.kept c.in_ok-arg.arg _ c.in_ok-arg.ensures.meaning) c.in_ok-out.ensures.meaning))
