-- Each condition that a job states is typed with the type Bool, and formed.
use Rattle.std.specs.Prelude.{IfOk, IfSome}
use Rattle.std.specs.Bool.{then_some}
use Rattle.std.specs.List.{AllByRecursion}
use Rattle.law_terms.specs.Plain.{BoolType, PlainTerm}
use Rattle.law_terms.specs.Types.{type_eq, type_of}
use Rattle.law_terms.proofs.TypeOrder.{eq_same}
use Rattle.law_texts.specs.Reading.{Expression, Expressions, Nil, Cons}
use Rattle.law_jobs.specs.Outcomes.{TruthFault}
use Rattle.law_jobs.specs.Declarations.{Declared}
use Rattle.law_jobs.specs.Laws.{IsCondition}
use Rattle.law_jobs.specs.Terms.{condition_of, conditions_of, term_of}
use Rattle.law_jobs.proofs.Outcomes.{bound, if_demanded, if_followed, if_some, onward}
use Rattle.law_jobs.proofs.FormedTypes.{AreDeclaredFormed}
use Rattle.law_jobs.proofs.SoundTerms.{IsSound, term_sound}

chosen_condition : (t : PlainTerm) → IsSound t → IfSome (then_some (type_eq (type_of t) BoolType) t) IsCondition
chosen_condition t s = if_some IsCondition (type_eq (type_of t) BoolType) t (λ e. record { boolean = record { parts = s.is_typed; type = eq_same (type_of t) BoolType e }; formed = s.formed })

condition_sound : (ds : Declared) → AreDeclaredFormed ds → (e : Expression) → IfOk (condition_of ds e) IsCondition
condition_sound ds f e =
    bound IsCondition (term_of ds e) _ (onward (term_of ds e) (term_sound ds f e) (λ t s. if_demanded IsCondition TruthFault (then_some (type_eq (type_of t) BoolType) t) (chosen_condition t s)))

pub conditions_sound : (ds : Declared) → AreDeclaredFormed ds → (es : Expressions) → IfOk (conditions_of ds es) (AllByRecursion IsCondition)
conditions_sound ds f Nil = tt
conditions_sound ds f (Cons e es) =
    bound (AllByRecursion IsCondition) (condition_of ds e) _ (onward (condition_of ds e) (condition_sound ds f e) (λ t c.
    if_followed (AllByRecursion IsCondition) t (conditions_of ds es) (onward (conditions_of ds es) (conditions_sound ds f es) (λ ts r. (c, r)))))
