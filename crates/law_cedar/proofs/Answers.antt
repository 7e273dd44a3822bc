-- The program answers a literal that means what the value means, or that there was no memory.
use Rattle.std.proofs.Common.{◌≡◌, Ok, Err, Result, ap, refl, sym, subst, ◌∙◌}
use Rattle.std.specs.Prelude.{IfErr, IfOk}
use Rattle.law_terms.specs.Plain.{PlainType, PlainTerm}
use Rattle.law_terms.specs.Values.{Value}
use Rattle.smt_term.specs.View.{plain_term}
use Rattle.smt_term.specs.declared.term.Term.{Term}
use Rattle.smt_values.specs.TypeView.{plain_cedar}
use Rattle.smt_values.specs.declared.compile_error.CompileError.{CompileError as TypeError}
use Rattle.smt_values.specs.declared.compile_error.CompileError.TheVariants as types
use Rattle.smt_values.specs.declared.cedar_type.CedarType.{CedarType}
use Rattle.smt_values.specs.PlainValues.{PlainValue}
use Rattle.smt_values.specs.declared.ext_error.ExtError.{ExtError as ValueError}
use Rattle.smt_values.specs.declared.ext_error.ExtError.TheVariants as values
use Rattle.smt_values.specs.Outcomes.{Outcome}
use Rattle.smt_values.specs.Refused.{IsNoExtension, IsRefusal, IsUnsupported}
use Rattle.smt_values.specs.TermOfValue.{term_of_value}
use Rattle.smt_values.specs.declared.error.SymbolizeError.{SymbolizeError}
use Rattle.smt_values.specs.declared.error.SymbolizeError.TheVariants.{UnableToSymbolizeValue, CompileError, ExtError, PartialRequest, PartialValue, IllFormedTypeEnv, EntitiesError, Memory}
use Rattle.law_cedar.specs.CedarMeaning.{cedar_value}
use Rattle.law_cedar.specs.ValueLaws.{AnswersMeaning, IsLiteralOf, IsLiteralOrMemory}
use Rattle.law_cedar.proofs.Meanings.{terms_have_meanings}
use Rattle.law_cedar.proofs.ProgramTypes.{program_types_are_in_order}

-- where something is stated, the only refusal is that there was no memory
no_unsupported : (e : TypeError) (u : PlainTerm) → IsUnsupported {A = PlainTerm} e (Ok u) → ⊥
no_unsupported (types.UnsupportedFeature text) u h = cc
no_unsupported types.Memory u h = h

no_missing : (e : ValueError) (u : PlainTerm) → IsNoExtension {A = PlainTerm} e (Ok u) → ⊥
no_missing (values.FromValue given) u h = cc
no_missing e u h = elim h [ ]

only_memory : (e : SymbolizeError) (u : PlainTerm) → IsRefusal {A = PlainTerm} e (Ok u) → e ≡ Memory
only_memory (UnableToSymbolizeValue given) u h = cc
only_memory (CompileError e) u h = absurd (no_unsupported e u h)
only_memory (ExtError e) u h = absurd (no_missing e u h)
only_memory PartialRequest u h = cc
only_memory PartialValue u h = cc
only_memory IllFormedTypeEnv u h = cc
only_memory EntitiesError u h = absurd h
only_memory Memory u h = refl

abbrev outcome_or : {A : Type 0} → A → Outcome A → A
outcome_or a (Ok b) = b
outcome_or a (Err fault) = a

one_given : (a b : PlainTerm) (o : Outcome PlainTerm) → o ≡ Ok a → o ≡ Ok b → a ≡ b
one_given a b o p q = ap (outcome_or a) (sym p ∙ q)

answer_means : (t : PlainType) (w : Value) (o : Outcome PlainTerm) (u : PlainTerm) (answer : Result Term SymbolizeError) → o ≡ Ok u → IsLiteralOf t w u
    → IfOk answer (λ x. o ≡ Ok (plain_term x)) → IfErr answer (λ e. IsRefusal e o) → IsLiteralOrMemory t w answer
answer_means t w o u (Ok x) stated h given refused = subst (λ (r : PlainTerm). IsLiteralOf t w r) (one_given u (plain_term x) o stated given) h
answer_means t w o u (Err e) stated h given refused = only_memory e u (subst (λ (r : Outcome PlainTerm). IsRefusal e r) stated refused)

-- an answer by the contract of `from_value` has the meaning
pub answer_has_meaning : (type : CedarType) (v : PlainValue) (answer : Result Term SymbolizeError) → IfOk answer (λ x. term_of_value (plain_cedar type) v ≡ Ok (plain_term x)) → IfErr answer (λ e. IsRefusal e (term_of_value (plain_cedar type) v))
    → AnswersMeaning (plain_cedar type) v answer
answer_has_meaning type v answer given refused t h e =
    let s = terms_have_meanings (plain_cedar type) v t (program_types_are_in_order type) h e in
    answer_means t (cedar_value (plain_cedar type) v) (term_of_value (plain_cedar type) v) s.0 answer s.1 s.2 given refused
