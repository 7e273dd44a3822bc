-- Whole terms, by their heads, forms and parts.
use Rattle.std.proofs.Common.{◌≡◌, ℕ, ◌-◌, ◌<◌, ◌≤◌, Bool, true, false, List, [], ◌∷◌, Some, Ok, Err, Result, drop, take, length, length-drop, map, refl, sym, ap, ◌∙◌, subst, arith}
use Rattle.std.specs.Bool.{then_some}
use Rattle.std.specs.Prelude.{IfOk}
use Rattle.std.specs.declared.alloc.Global.{Global}
use Rattle.std.specs.declared.rc.RcStr.{RcStr}
use Rattle.std.proofs.lemmas.List.{take_all}
use Rattle.law_terms.specs.Formed.{IsFormed, IsFormedType}
use Rattle.law_terms.specs.Plain.{BoolType, PlainTerm}
use Rattle.law_terms.specs.Types.{type_eq, type_of}
use Rattle.law_terms.specs.Typing.{AreTyped}
use Rattle.law_folding.specs.Built.{built}
use Rattle.law_folding.proofs.BuiltTerms.{built_stands}
use Rattle.law_folding.proofs.Standing.{same_type}
use Rattle.smt_term.specs.View.{plain_term, plain_type, plain_term-Var}
use Rattle.smt_term.specs.declared.function.Uuf.{Uuf}
use Rattle.smt_term.specs.declared.term.Term.{Term, Var}
use Rattle.smt_term.specs.declared.term.TermVar.{TermVar}
use Rattle.smt_term.specs.declared.types.TermType.{TermType}
use Rattle.smt_term.proofs.FormedTerms.{terms_are_formed}
use Rattle.law_texts.specs.Reading.{Expression, Node, Expressions, Nil, Cons}
use Rattle.smt_sexpr.specs.declared.expression.SExpr.{SExpr}
use Rattle.law_jobs.specs.Declarations.{Declared}
use Rattle.law_jobs.specs.Outcomes.{JobFault, Outcome, mapped, FormFault, TruthFault}
use Rattle.law_texts.specs.Outcomes.{◌>>=◌, demanded}
use Rattle.law_texts.specs.Parts.{name_in}
use Rattle.law_jobs.specs.Terms.{TermForm, Whole, Operator, OperatorBehind, Present, Elements, Fields, condition_of, form_of, made, other_terms, second_terms, term_of, terms_of}
use Rattle.law_jobs.proofs.FormedTypes.{AreDeclaredFormed, AreFormed, IsFormedFunction}
use Rattle.law_jobs.proofs.SoundTerms.{AreSound, IsSound, IsSoundForm, form_sound, others_sound, parts_sound, seconds_sound, term_sound, terms_sound}
use Rattle.smt_job_terms.specs.DeclarationView.{HasDeclared, plain_declaration, plain_declared_function}
use Rattle.smt_job_terms.specs.ReadAs.{IsReadAs}
use Rattle.smt_sexpr.specs.View.{plain_list}
use Rattle.smt_job_terms.specs.TermView.{AreBuilt, StaysAsBuilt, parts_of}
use Rattle.smt_job_terms.specs.declared.declaration.Declared.{Declared as ProgramDeclared}
use Rattle.smt_job_terms.specs.declared.error.JobError.{JobError}
use Rattle.smt_job_terms.specs.declared.error.JobError.TheVariants.{BadForm}
use Rattle.std.specs.declared.vec.Vec.{Vec}
use Rattle.smt_job_terms.proofs.Reading.{IsMappedOf, mapped_fault, mapped_of}

-- ---- what is declared is formed

type_formed : RcStr Global → (t : TermType) → IsFormedType (plain_type t)
type_formed id t = (let v : TermVar = record { id = id; ty = t } in (subst (λ (x : PlainTerm). IsFormed x) (plain_term-Var v) (terms_are_formed (Var v))).types.0)

variables_formed : (vs : List TermVar) → AreFormed IsFormedType (map plain_declaration vs)
variables_formed [] = tt
variables_formed (v ∷ vs) = (type_formed v.id v.ty, variables_formed vs)

functions_formed : (fs : List Uuf) → AreFormed IsFormedFunction (map plain_declared_function fs)
functions_formed [] = tt
functions_formed (f ∷ fs) = ((type_formed f.id f.arg, type_formed f.id f.out), functions_formed fs)

pub declared_formed : (d : ProgramDeclared) (ds : Declared) → HasDeclared d ds → AreDeclaredFormed ds
declared_formed d ds has = record {
  variables = subst (AreFormed IsFormedType) has.variables.listed (variables_formed d.variables.vars.items.items);
  functions = subst (AreFormed IsFormedFunction) has.functions.listed (functions_formed d.functions.funs.items.items);
}

-- ---- what holds of what is stated

pub holds_of : {A : Type 0} (P : A → Type 0) (o : Outcome A) (a : A) → IfOk o P → o ≡ Ok a → P a
holds_of P o a h e = subst (λ (p : Outcome _). IfOk p P) e h

pub sound_typed : (ts : List PlainTerm) → AreSound ts → AreTyped ts
sound_typed [] h = tt
sound_typed (t ∷ ts) h = (h.0.is_typed, sound_typed ts h.1)

stays_by : (form : TermForm) → IsSoundForm form → StaysAsBuilt form
stays_by (Whole t) h = h.stays
stays_by (Operator o) h = tt
stays_by (OperatorBehind o) h = tt
stays_by Present h = tt
stays_by (Elements t) h = tt
stays_by (Fields names) h = tt

pub stays : (ds : Declared) → AreDeclaredFormed ds → (n : List ℕ) (es : Expressions) (form : TermForm) → form_of ds n es ≡ Ok form → StaysAsBuilt form
stays ds formed n es form e = stays_by form (holds_of IsSoundForm (form_of ds n es) form (form_sound ds formed n es) e)

pub record ArePartsOf (ds : Declared) (form : TermForm) (es : Expressions) (now : List Term) : Type 0 where
  pub written : List PlainTerm
  pub stated : parts_of ds form es ≡ Ok written
  pub are_built : AreBuilt written now

pub parts_built : (ds : Declared) → AreDeclaredFormed ds → (form : TermForm) (es : Expressions) (now : List Term) → mapped (map built) (parts_of ds form es) ≡ Ok (map plain_term now) → ArePartsOf ds form es now
parts_built ds formed form es now h =
    let o = mapped_of (map built) (parts_of ds form es) (map plain_term now) h in
    let sound = holds_of AreSound (parts_of ds form es) o.stated (parts_sound form (terms_of ds es) (other_terms ds es) (second_terms ds es) (terms_sound ds formed es) (others_sound ds formed es) (seconds_sound ds formed es)) o.is_stated in
    record { written = o.stated; stated = o.is_stated; are_built = record { are_typed = sound_typed o.stated sound; same = o.is_mapped } }

-- ---- the parts of forms

-- the parts behind the first expression, where there is one
pub second_read : (ds : Declared) (xs : List SExpr) (r : Result (Vec Term Global) JobError) → (1 ≤ length xs → IsReadAs (λ (ts : Vec Term Global). map plain_term ts.items) r (mapped (map built) (terms_of ds (plain_list (drop 1 xs))))) → (length xs < 1 → r ≡ Err BadForm)
    → IsReadAs (λ (ts : Vec Term Global). map plain_term ts.items) r (mapped (map built) (other_terms ds (plain_list xs)))
second_read ds (x ∷ xs) r enough few = enough (omega arith)
second_read ds [] r enough few = subst (λ (y : Result (Vec Term Global) JobError). IsReadAs (λ (ts : Vec Term Global). map plain_term ts.items) y (Err FormFault)) (sym (few (omega arith))) refl

-- what stands from a place on, to the end
pub to_the_end : (xs : List SExpr) (first : ℕ) → take (length xs - first) (drop first xs) ≡ drop first xs
to_the_end xs first = let l = length-drop first xs in take_all (length xs - first) (drop first xs) (omega (arith, l))

-- ---- heads

pub no_head : (ds : Declared) (e : Expression) → e ≡ Node Nil → mapped built (term_of ds e) ≡ Err FormFault
no_head ds e shape = ap (λ x. mapped built (term_of ds x)) shape

module _ (ds : Declared) (e first : Expression) (es : Expressions) (n : List ℕ) (shape : e ≡ Node (Cons first es)) (named : name_in first ≡ Some n) where
  by_form : term_of ds e ≡ (form_of ds n es >>= λ form. parts_of ds form es >>= made form)
  by_form = ap (term_of ds) shape ∙ ap (λ o. demanded FormFault o >>= λ m. form_of ds m es >>= λ form. parts_of ds form es >>= made form) named

  pub form_faulty : (f : JobFault) → form_of ds n es ≡ Err f → mapped built (term_of ds e) ≡ Err f
  form_faulty f h = ap (mapped built) (by_form ∙ ap (λ o. o >>= λ form. parts_of ds form es >>= made form) h)

  module _ (form : TermForm) (formed : form_of ds n es ≡ Ok form) where
    by_parts : term_of ds e ≡ (parts_of ds form es >>= made form)
    by_parts = by_form ∙ ap (λ o. o >>= λ form. parts_of ds form es >>= made form) formed

    pub parts_faulty : (f : JobFault) → mapped (map built) (parts_of ds form es) ≡ Err f → mapped built (term_of ds e) ≡ Err f
    parts_faulty f h = ap (mapped built) (by_parts ∙ ap (λ o. o >>= made form) (mapped_fault (map built) (parts_of ds form es) f h))

    pub whole_made : (written : List PlainTerm) → parts_of ds form es ≡ Ok written → mapped built (term_of ds e) ≡ mapped built (made form written)
    whole_made written h = ap (mapped built) (by_parts ∙ ap (λ o. o >>= made form) h)

-- ---- conditions

pub condition_fault : (ds : Declared) (e : Expression) (f : JobFault) → mapped built (term_of ds e) ≡ Err f → mapped built (condition_of ds e) ≡ Err f
condition_fault ds e f h = ap (λ o. mapped built (o >>= λ t. demanded TruthFault (then_some (type_eq (type_of t) BoolType) t))) (mapped_fault built (term_of ds e) f h)

-- the type of what is written is that of what is built
module _ (ds : Declared) (formed : AreDeclaredFormed ds) (e : Expression) (term : PlainTerm) (read : mapped built (term_of ds e) ≡ Ok term) where
  found : IsMappedOf built (term_of ds e) term
  found = mapped_of built (term_of ds e) term read

  same : type_of term ≡ type_of found.stated
  same =
      let sound = holds_of IsSound (term_of ds e) found.stated (term_sound ds formed e) found.is_stated in
      ap type_of found.is_mapped ∙ (same_type (built found.stated) found.stated (built_stands found.stated sound.is_typed) sound.is_typed).1

  chosen : (b : Bool) → type_eq (type_of term) BoolType ≡ b → mapped built (condition_of ds e) ≡ mapped built (demanded TruthFault (then_some b found.stated))
  chosen b h =
      ap (λ o. mapped built (o >>= λ t. demanded TruthFault (then_some (type_eq (type_of t) BoolType) t))) found.is_stated
      ∙ ap (λ c. mapped built (demanded TruthFault (then_some c found.stated))) (ap (λ t. type_eq t BoolType) (sym same) ∙ h)

  pub is_condition : type_eq (type_of term) BoolType ≡ true → mapped built (condition_of ds e) ≡ Ok term
  is_condition h = chosen true h ∙ ap Ok (sym found.is_mapped)

  pub no_condition : type_eq (type_of term) BoolType ≡ false → mapped built (condition_of ds e) ≡ Err TruthFault
  no_condition h = chosen false h
