-- Disjunctions of chosen truth values.
use Rattle.std.proofs.Common.{◌≡◌, Bool, true, false, List, [], ◌∷◌, refl, ap, ◌∙◌, sym, subst}
use Rattle.std.specs.Prelude.{Ok, Result}
use Rattle.std.specs.List.{AllZip, list_any}
use Rattle.smt_factory_core.specs.AnyOf.{IsAnswer, GivesBooleans, IsTrueWhereOneIs}
use Rattle.law_folding.specs.Applications.{false_term, true_term, truth_literal}
use Rattle.smt_factory_core.specs.AnyRows.{AnyRows}
use Rattle.law_folding.specs.FoldRows.{truths}
use Rattle.smt_factory_core.proofs.AnyTruth.{true_where_one_is}
use Rattle.law_terms.specs.Defaults.{default_interpretation}
use Rattle.law_terms.specs.Interpretations.{IsInterpretation}
use Rattle.law_terms.specs.Meaning.{term_value}
use Rattle.law_terms.specs.Operators.{truth}
use Rattle.law_terms.specs.Plain.{BoolType, PlainTerm}
use Rattle.law_terms.specs.Tables.{Interpretation}
use Rattle.law_terms.specs.Typing.{Typed}
use Rattle.law_terms.specs.TypeValues.{Enums}
use Rattle.law_terms.specs.Values.{BoolValue}
use Rattle.smt_term.specs.View.{plain_term, plain_term-Prim}
use Rattle.smt_term.specs.declared.error.TermError.{TermError}
use Rattle.smt_term.specs.declared.term.Term.{Term, Prim}
use Rattle.smt_term.specs.declared.term.TermPrim.TheVariants.{Bool as TruthLiteral}

abbrev GivesBack : Term → Result Term TermError → Type 0
GivesBack t r = r ≡ Ok t

given_back : (t u : PlainTerm) → IsAnswer GivesBack t u → u ≡ t
given_back t u g = let e : g.answer ≡ g.argument = cc in sym g.said ∙ (ap plain_term e ∙ g.asked)

all_back : (ts us : List PlainTerm) → AllZip (IsAnswer GivesBack) ts us → us ≡ ts
all_back [] [] z = refl
all_back [] (u ∷ us) z = elim z [ ]
all_back (t ∷ ts) [] z = elim z [ ]
all_back (t ∷ ts) (u ∷ us) z =
    let p : u ≡ t = given_back t u z.0 in
    let q : us ≡ ts = all_back ts us z.1 in
    λ i. p i ∷ q i

truth_back : (b : Bool) → IsAnswer GivesBack (truth_literal b) (truth_literal b)
truth_back b = record { argument = Prim (TruthLiteral b); answer = Prim (TruthLiteral b); asked = plain_term-Prim (TruthLiteral b); gives = refl; said = plain_term-Prim (TruthLiteral b) }

boolean_back : (b : Bool) → GivesBooleans GivesBack (truth_literal b)
boolean_back b x u e g =
    let same : u ≡ x = cc in
    subst (λ (t : PlainTerm). Typed t BoolType) (sym (ap plain_term same ∙ e)) (record { parts = refl; type = refl })

not_false : IsTrueWhereOneIs GivesBack (truths (false ∷ true ∷ [])) false_term → ⊥
not_false h =
    let P : List PlainTerm → Type 0 = λ us. (enums : Enums) (I : Interpretation) → IsInterpretation enums us I → BoolValue false ≡ BoolValue (list_any (λ u. truth (term_value I u)) us) in
    let v : P (truths (false ∷ true ∷ [])) = subst P (all_back (truths (false ∷ true ∷ [])) h.given h.each) h.value in
    let e : BoolValue false ≡ BoolValue true = v [] (default_interpretation []) (tt, (tt, tt)) in
    cc

pub any_rows : AnyRows
any_rows = record {
  one_is_true = true_where_one_is GivesBack (truths (false ∷ true ∷ [])) true_term
      (record { given = truths (false ∷ true ∷ []); each = (truth_back false, (truth_back true, tt)); folded = refl }) (boolean_back false, (boolean_back true, tt));
  not_false = not_false;
}
