use Rattle.std.proofs.Common.{◌≡◌, map, ap, ◌∙◌, sym}
use Rattle.std.proofs.lemmas.Result.{IfOk-weaker}
use Rattle.std.specs.List.{filter}
use Rattle.law_folding.specs.FoldSets.{common_set, is_among}
use Rattle.law_folding.specs.Parts.{elements_in}
use Rattle.smt_factory_core.proofs.FoldingSets.{common_set-set}
use Rattle.smt_factory_core.proofs.sets.common_set.Goals as goal
use Rattle.law_terms.specs.Plain.{PlainTerm, SetTerm, terms}
use Rattle.law_terms.specs.TermSets.{set_term}
use Rattle.smt_term.specs.View.{plain_elements, plain_term, plain_term-Set, plain_type}

pub returns-in_ok-share-in-Set : goal.returns-in_ok-share-in-Set
returns-in_ok-share-in-Set c =
    let u : PlainTerm = plain_term c.args.ts2.now in
    let e : plain_term c.args.ts1.now ≡ SetTerm (plain_type c.in-Set.elts_ty) (terms (plain_elements c.in-Set.elts)) = ap plain_term c.in-Set.is ∙ plain_term-Set c.in-Set.elts_ty c.in-Set.elts in
    let ty : plain_type c.in_ok-share-in-Set.field-0 ≡ plain_type c.in-Set.elts_ty = c.in_ok-share-in-Set.ensures in
    let items : map plain_term c.as_slice.result.now ≡ filter (is_among (elements_in u)) (plain_elements c.in-Set.elts) =
    ap (map plain_term) c.as_slice.ensures.value ∙ (c.in_ok-kept-in-Set.ensures ∙ (λ i. filter (is_among (c.elements_in.ensures i)) (c.items.ensures.plain i))) in
    IfOk-weaker c.set_of.result (λ r. plain_term r ≡ set_term (plain_type c.in_ok-share-in-Set.field-0) (map plain_term c.as_slice.result.now)) (λ r. plain_term r ≡ common_set (plain_term c.args.ts1.now) u)
    (λ r h. h ∙ ((λ i. set_term (ty i) (items i)) ∙ sym (ap (λ t. common_set t u) e ∙ common_set-set (plain_type c.in-Set.elts_ty) (plain_elements c.in-Set.elts) u))) c.set_of.ensures.folded
