-- Standing for a term: how it is shown, and that it is an order that applications and `some` keep.
use Rattle.std.proofs.Common.{◌≡◌, Bool, true, false, List, [], ◌∷◌, refl, ap, ◌∙◌, sym, subst}
use Rattle.std.specs.Prelude.{cond, Option, IfSome, Contains}
use Rattle.std.specs.Cmp.{first_so, second_so}
use Rattle.std.specs.Cmp.Derive.{both_true}
use Rattle.std.specs.List.{AllByRecursion, AllZip, filter_map}
use Rattle.law_folding.specs.Applications.{truth_literal}
use Rattle.law_folding.specs.Refinement.{AreAmong, Refines}
use Rattle.law_folding.proofs.Reaching.{AsksNothing, Reaches, IsBrought, brought_itself, among_brought, through, among, interpreted}
use Rattle.law_terms.specs.Formed.{IsFormedHere, IsFormedType, IsFormedNode, IsFormed}
use Rattle.law_terms.specs.Interpretations.{IsGiven}
use Rattle.law_terms.specs.Meaning.{meaning, meanings, term_value}
use Rattle.law_terms.specs.Operators.{apply}
use Rattle.law_terms.specs.Reached.{subterms, subterms_of_all, subterms_of_fields, reached_terms, types_within, reached_variable, reached_function, opened_of, opened_of_op, selector_of}
use Rattle.law_terms.specs.Tables.{Interpretation}
use Rattle.law_terms.specs.Types.{type_of, types_of, result_type, is_type}
use Rattle.law_terms.specs.Typing.{typed, typed_all, Typed}
use Rattle.law_terms.specs.TypeValues.{Enums}
use Rattle.law_terms.proofs.Defaults.{all-join}
use Rattle.law_terms.proofs.Soundness.{all-front, all-back, all-last}
use Rattle.law_terms.specs.Plain.{PlainType, OptionType, BoolType, PlainOp, AndOp, EqOp, NotOp, OrOp, BoolLiteral, PlainTerm, Application, NoneTerm, LiteralTerm, RecordTerm, SetTerm, SomeTerm, VariableTerm, terms}
use Rattle.law_terms.specs.Values.{BoolValue, SomeValue}

-- ---- one term for another

pub valued : (I : Interpretation) (t : PlainTerm) → typed t ≡ true → term_value I t ≡ meaning I t
valued I t h = ap (λ b. cond b (meaning I t) (BoolValue false)) h

abbrev pub Given : Enums → Interpretation → PlainTerm → Type 0
Given enums I t = AllByRecursion (IsGiven enums I) (subterms t)

-- the value, where the original is typed and formed, and all that it reaches is given
abbrev pub SameMeaning : PlainTerm → PlainTerm → Type 0
SameMeaning t u = (enums : Enums) (I : Interpretation) → typed u ≡ true → IsFormed u → Given enums I u → meaning I t ≡ meaning I u

-- the type, where the original is typed
abbrev pub SameType : PlainTerm → PlainTerm → Type 0
SameType t u = typed u ≡ true → (typed t ≡ true) × (type_of t ≡ type_of u)

pub standing : (t u : PlainTerm) → Reaches t u → (IsFormed u → IsFormed t) → SameType t u → SameMeaning t u → Refines t u
standing t u r f y v = record {
  formed = f;
  type = λ ty h. record { parts = (y h.parts).0; type = (y h.parts).1 ∙ h.type };
  variables = among reached_variable (λ w a. a.0) t u r;
  functions = among reached_function (λ w a. a.1) t u r;
  options = among opened_of (λ w a. a.2) t u r;
  selectors = among selector_of (λ w a. a.3) t u r;
  value = λ ty enums I g h i. valued I t (y h.parts).0 ∙ (v enums I h.parts g (all-front (IsGiven enums I) (subterms u) [] i) ∙ sym (valued I u h.parts));
}

-- the term itself, and onward
pub itself : (t : PlainTerm) → Refines t t
itself t = record { formed = λ f. f; type = λ ty h. h; variables = λ x m. m; functions = λ x m. m; options = λ x m. m; selectors = λ x m. m; value = λ ty enums I f h i. refl }

pub onward : (t u w : PlainTerm) → Refines t u → Refines u w → Refines t w
onward t u w a b = record {
  formed = λ f. a.formed (b.formed f);
  type = λ ty h. a.type ty (b.type ty h);
  variables = λ x m. b.variables x (a.variables x m);
  functions = λ x m. b.functions x (a.functions x m);
  options = λ x m. b.options x (a.options x m);
  selectors = λ x m. b.selectors x (a.selectors x m);
  value = λ ty enums I f h i. a.value ty enums I (b.formed f) (b.type ty h) (all-join (IsGiven enums I) (subterms u) [] (interpreted enums I u w b.variables b.functions b.options b.selectors (all-front (IsGiven enums I) (subterms w) [] i)) tt) ∙ b.value ty enums I f h i;
}

-- what a term that stands for another has
pub same_type : (t u : PlainTerm) → Refines t u → SameType t u
same_type t u s h = let y : Typed t (type_of u) = s.type (type_of u) (record { parts = h; type = refl }) in (y.parts, y.type)

pub same_meaning : (t u : PlainTerm) → Refines t u → SameMeaning t u
same_meaning t u s enums I h f g =
    sym (valued I t (same_type t u s h).0) ∙ (s.value (type_of u) enums I f (record { parts = h; type = refl }) (all-join (IsGiven enums I) (subterms u) [] g tt) ∙ valued I u h)

-- ---- a choice between terms

pub one_of : (b : Bool) (x y o : PlainTerm) → (b ≡ true → Refines x o) → Refines y o → Refines (cond b x y) o
one_of true x y o f g = f refl
one_of false x y o f g = g

-- ---- terms made of subterms and of new connectives

-- a node that a folding may put in
abbrev pub IsNew : PlainTerm → Type 0
IsNew (LiteralTerm (BoolLiteral b)) = Unit {0}
IsNew (Application NotOp ts BoolType) = Unit {0}
IsNew (Application AndOp ts BoolType) = Unit {0}
IsNew (Application OrOp ts BoolType) = Unit {0}
IsNew (Application EqOp ts BoolType) = Unit {0}
IsNew w = ⊥

new_asks : (w : PlainTerm) → IsNew w → AsksNothing w
new_asks (LiteralTerm (BoolLiteral b)) h = (refl, refl, refl, refl)
new_asks (Application NotOp ts BoolType) h = (refl, refl, refl, refl)
new_asks (Application AndOp ts BoolType) h = (refl, refl, refl, refl)
new_asks (Application OrOp ts BoolType) h = (refl, refl, refl, refl)
new_asks (Application EqOp ts BoolType) h = (refl, refl, refl, refl)
new_asks w h = elim h [ ]

new_formed : (w : PlainTerm) → IsNew w → IsFormedNode w
new_formed (LiteralTerm (BoolLiteral b)) h = tt
new_formed (Application NotOp ts BoolType) h = tt
new_formed (Application AndOp ts BoolType) h = tt
new_formed (Application OrOp ts BoolType) h = tt
new_formed (Application EqOp ts BoolType) h = tt
new_formed w h = elim h [ ]

new_type : (w : PlainTerm) → IsNew w → IsFormedType (type_of w)
new_type (LiteralTerm (BoolLiteral b)) h = (tt, tt)
new_type (Application NotOp ts BoolType) h = (tt, tt)
new_type (Application AndOp ts BoolType) h = (tt, tt)
new_type (Application OrOp ts BoolType) h = (tt, tt)
new_type (Application EqOp ts BoolType) h = (tt, tt)
new_type w h = elim h [ ]

-- what holds of each new node, and of each subterm of u, holds of each subterm of t
abbrev pub Within : PlainTerm → PlainTerm → Type 1
Within t u = (P : PlainTerm → Type 0) → ((w : PlainTerm) → IsNew w → P w) → AllByRecursion P (subterms u) → AllByRecursion P (subterms t)

pub standing_within : (t u : PlainTerm) → Within t u → SameType t u → SameMeaning t u → Refines t u
standing_within t u w y v =
    standing t u (λ P q h. w P (λ x n. q x (new_asks x n)) h) (λ f. record { literals = w IsFormedNode new_formed f.literals; types = w (λ x. IsFormedType (type_of x)) new_type f.types }) y v

-- a truth value for a term
pub truth_standing : (b : Bool) (u : PlainTerm) → type_of u ≡ BoolType → SameMeaning (truth_literal b) u → Refines (truth_literal b) u
truth_standing b u e v = standing_within (truth_literal b) u (λ P n h. (n (truth_literal b) tt, tt)) (λ h. (refl, sym e)) v

-- ---- applications and `some` of terms that stand for others

pub formed_all : (ts us : List PlainTerm) → AllZip Refines ts us → AllByRecursion IsFormedNode (subterms_of_all (terms us)) → AllByRecursion (λ w. IsFormedType (type_of w)) (subterms_of_all (terms us)) → AllByRecursion IsFormedNode (subterms_of_all (terms ts)) × AllByRecursion (λ w. IsFormedType (type_of w)) (subterms_of_all (terms ts))
formed_all [] [] z h g = (tt, tt)
formed_all [] (u ∷ us) z h g = elim z [ ]
formed_all (t ∷ ts) [] z h g = elim z [ ]
formed_all (t ∷ ts) (u ∷ us) z h g =
    let f : IsFormed t = z.0.formed (record { literals = all-front IsFormedNode (subterms u) (subterms_of_all (terms us)) h; types = all-front (λ w. IsFormedType (type_of w)) (subterms u) (subterms_of_all (terms us)) g }) in
    let r = formed_all ts us z.1 (all-back IsFormedNode (subterms u) (subterms_of_all (terms us)) h) (all-back (λ w. IsFormedType (type_of w)) (subterms u) (subterms_of_all (terms us)) g) in
    (all-join IsFormedNode (subterms t) (subterms_of_all (terms ts)) f.literals r.0, all-join (λ w. IsFormedType (type_of w)) (subterms t) (subterms_of_all (terms ts)) f.types r.1)

pub types_all : (ts us : List PlainTerm) → AllZip Refines ts us → typed_all (terms us) ≡ true → (typed_all (terms ts) ≡ true) × (types_of (terms ts) ≡ types_of (terms us))
types_all [] [] z h = (refl, refl)
types_all [] (u ∷ us) z h = elim z [ ]
types_all (t ∷ ts) [] z h = elim z [ ]
types_all (t ∷ ts) (u ∷ us) z h =
    let a : (typed t ≡ true) × (type_of t ≡ type_of u) = same_type t u z.0 (first_so (typed u) (typed_all (terms us)) h) in
    let r : (typed_all (terms ts) ≡ true) × (types_of (terms ts) ≡ types_of (terms us)) = types_all ts us z.1 (second_so (typed u) (typed_all (terms us)) h) in
    let p : type_of t ≡ type_of u = a.1 in
    let q : types_of (terms ts) ≡ types_of (terms us) = r.1 in
    (both_true a.0 r.0, λ i. p i ∷ q i)

pub meanings_all : (enums : Enums) (I : Interpretation) (ts us : List PlainTerm) → AllZip Refines ts us → typed_all (terms us) ≡ true → AllByRecursion IsFormedNode (subterms_of_all (terms us)) → AllByRecursion (λ w. IsFormedType (type_of w)) (subterms_of_all (terms us)) → AllByRecursion (IsGiven enums I) (subterms_of_all (terms us)) → meanings I (terms ts) ≡ meanings I (terms us)
meanings_all enums I [] [] z h f g i = refl
meanings_all enums I [] (u ∷ us) z h f g i = elim z [ ]
meanings_all enums I (t ∷ ts) [] z h f g i = elim z [ ]
meanings_all enums I (t ∷ ts) (u ∷ us) z h f g i =
    let p : meaning I t ≡ meaning I u = same_meaning t u z.0 enums I (first_so (typed u) (typed_all (terms us)) h) (record { literals = all-front IsFormedNode (subterms u) (subterms_of_all (terms us)) f; types = all-front (λ w. IsFormedType (type_of w)) (subterms u) (subterms_of_all (terms us)) g }) (all-front (IsGiven enums I) (subterms u) (subterms_of_all (terms us)) i) in
    let q : meanings I (terms ts) ≡ meanings I (terms us) = meanings_all enums I ts us z.1 (second_so (typed u) (typed_all (terms us)) h) (all-back IsFormedNode (subterms u) (subterms_of_all (terms us)) f) (all-back (λ w. IsFormedType (type_of w)) (subterms u) (subterms_of_all (terms us)) g) (all-back (IsGiven enums I) (subterms u) (subterms_of_all (terms us)) i) in
    λ j. p j ∷ q j

-- each list of what is reached, for arguments that stand for others
abbrev pub StandAmong : {Y : Type 0} → (PlainTerm → Option Y) → Type 0
StandAmong f = (t u : PlainTerm) → Refines t u → AreAmong (filter_map f (reached_terms (t ∷ []))) (filter_map f (reached_terms (u ∷ [])))

module _ {Y : Type 0} (f : PlainTerm → Option Y) (one : StandAmong f) where
  pub all_through : (Q : Y → Type 0) (ts us : List PlainTerm) → AllZip Refines ts us → AllByRecursion (λ w. IfSome (f w) Q) (subterms_of_all (terms us)) → AllByRecursion (λ w. IfSome (f w) Q) (subterms_of_all (terms ts))
  all_through Q [] [] z h = tt
  all_through Q [] (u ∷ us) z h = elim z [ ]
  all_through Q (t ∷ ts) [] z h = elim z [ ]
  all_through Q (t ∷ ts) (u ∷ us) z h =
      all-join (λ w. IfSome (f w) Q) (subterms t) (subterms_of_all (terms ts)) (through f Q t u (one t u z.0) (all-front (λ w. IfSome (f w) Q) (subterms u) (subterms_of_all (terms us)) h)) (all_through Q ts us z.1 (all-back (λ w. IfSome (f w) Q) (subterms u) (subterms_of_all (terms us)) h))

  application_among : (o : PlainOp) (ts us : List PlainTerm) (a b : PlainType) → AllZip Refines ts us → f (Application o (terms ts) a) ≡ f (Application o (terms us) b) → AreAmong (filter_map f (reached_terms (Application o (terms ts) a ∷ []))) (filter_map f (reached_terms (Application o (terms us) b ∷ [])))
  application_among o ts us a b z e =
      let x : PlainTerm = Application o (terms us) b in
      let y : PlainTerm = Application o (terms ts) a in
      let h : AllByRecursion (IsBrought f x) (subterms x) = brought_itself f x in
      among_brought f y x (all-join (IsBrought f x) (subterms_of_all (terms ts)) (y ∷ [])
      (all_through (Contains (filter_map f (reached_terms (x ∷ [])))) ts us z (all-front (IsBrought f x) (subterms_of_all (terms us)) (x ∷ []) h))
      (subst (λ o. IfSome o (Contains (filter_map f (reached_terms (x ∷ []))))) (sym e) (all-last (IsBrought f x) (subterms_of_all (terms us)) x h), tt))

  some_among : (t u : PlainTerm) → Refines t u → f (SomeTerm t) ≡ f (SomeTerm u) → AreAmong (filter_map f (reached_terms (SomeTerm t ∷ []))) (filter_map f (reached_terms (SomeTerm u ∷ [])))
  some_among t u s e =
      let h : AllByRecursion (IsBrought f (SomeTerm u)) (subterms (SomeTerm u)) = brought_itself f (SomeTerm u) in
      among_brought f (SomeTerm t) (SomeTerm u) (all-join (IsBrought f (SomeTerm u)) (subterms t) (SomeTerm t ∷ [])
      (through f (Contains (filter_map f (reached_terms (SomeTerm u ∷ [])))) t u (one t u s) (all-front (IsBrought f (SomeTerm u)) (subterms u) (SomeTerm u ∷ []) h))
      (subst (λ b. IfSome b (Contains (filter_map f (reached_terms (SomeTerm u ∷ []))))) (sym e) (all-last (IsBrought f (SomeTerm u)) (subterms u) (SomeTerm u) h), tt))

pub application : (o : PlainOp) (ts us : List PlainTerm) (ty : PlainType) → AllZip Refines ts us → Refines (Application o (terms ts) ty) (Application o (terms us) ty)
application o ts us ty z = record {
  formed = λ f. (
      let r = formed_all ts us z (all-front IsFormedNode (subterms_of_all (terms us)) (Application o (terms us) ty ∷ []) f.literals) (all-front (λ w. IsFormedType (type_of w)) (subterms_of_all (terms us)) (Application o (terms us) ty ∷ []) f.types) in
      record { literals = all-join IsFormedNode (subterms_of_all (terms ts)) (Application o (terms ts) ty ∷ []) r.0 (tt, tt); types = all-join (λ w. IsFormedType (type_of w)) (subterms_of_all (terms ts)) (Application o (terms ts) ty ∷ []) r.1 (all-last (λ w. IsFormedType (type_of w)) (subterms_of_all (terms us)) (Application o (terms us) ty) f.types, tt) });
  type = λ y h. (
      let a : typed_all (terms us) ≡ true = first_so (typed_all (terms us)) (is_type (result_type o (types_of (terms us))) ty) h.parts in
      let r = types_all ts us z a in
      record { parts = both_true r.0 (ap (λ l. is_type (result_type o l) ty) r.1 ∙ second_so (typed_all (terms us)) (is_type (result_type o (types_of (terms us))) ty) h.parts); type = h.type });
  variables = application_among reached_variable (λ t u s. s.variables) o ts us ty ty z refl;
  functions = application_among reached_function (λ t u s. s.functions) o ts us ty ty z refl;
  options = application_among opened_of (λ t u s. s.options) o ts us ty ty z refl;
  selectors = application_among selector_of (λ t u s. s.selectors) o ts us ty ty z refl;
  value = λ y enums I f h i. (
      let a : typed_all (terms us) ≡ true = first_so (typed_all (terms us)) (is_type (result_type o (types_of (terms us))) ty) h.parts in
      let r = types_all ts us z a in
      let b : typed (Application o (terms ts) ty) ≡ true = both_true r.0 (ap (λ l. is_type (result_type o l) ty) r.1 ∙ second_so (typed_all (terms us)) (is_type (result_type o (types_of (terms us))) ty) h.parts) in
      let g : Given enums I (Application o (terms us) ty) = all-front (IsGiven enums I) (subterms (Application o (terms us) ty)) [] i in
      valued I (Application o (terms ts) ty) b ∙ (ap (apply I o ty) (meanings_all enums I ts us z a (all-front IsFormedNode (subterms_of_all (terms us)) (Application o (terms us) ty ∷ []) f.literals) (all-front (λ w. IsFormedType (type_of w)) (subterms_of_all (terms us)) (Application o (terms us) ty ∷ []) f.types) (all-front (IsGiven enums I) (subterms_of_all (terms us)) (Application o (terms us) ty ∷ []) g)) ∙ sym (valued I (Application o (terms us) ty) h.parts)));
}

option_type : (t : PlainType) → IsFormedType t → IsFormedType (OptionType t)
option_type t h = all-join IsFormedHere (types_within t) (OptionType t ∷ []) h (tt, tt)

-- a term is the last of its subterms
module _ (P : PlainTerm → Type 0) where
  pub last_of : (t : PlainTerm) → AllByRecursion P (subterms t) → P t
  last_of (Application o ts t) h = all-last P (subterms_of_all ts) (Application o ts t) h
  last_of (NoneTerm t) h = h.0
  last_of (LiteralTerm l) h = h.0
  last_of (RecordTerm fs) h = all-last P (subterms_of_fields fs) (RecordTerm fs) h
  last_of (SetTerm t ts) h = all-last P (subterms_of_all ts) (SetTerm t ts) h
  last_of (SomeTerm t) h = all-last P (subterms t) (SomeTerm t) h
  last_of (VariableTerm id t) h = h.0

pub last_type : (t : PlainTerm) → IsFormed t → IsFormedType (type_of t)
last_type t f = last_of (λ w. IsFormedType (type_of w)) t f.types

pub some : (t u : PlainTerm) → Refines t u → Refines (SomeTerm t) (SomeTerm u)
some t u s = record {
  formed = λ f. (
      let g : IsFormed t = s.formed (record { literals = all-front IsFormedNode (subterms u) (SomeTerm u ∷ []) f.literals; types = all-front (λ w. IsFormedType (type_of w)) (subterms u) (SomeTerm u ∷ []) f.types }) in
      record { literals = all-join IsFormedNode (subterms t) (SomeTerm t ∷ []) g.literals (tt, tt); types = all-join (λ w. IsFormedType (type_of w)) (subterms t) (SomeTerm t ∷ []) g.types (option_type (type_of t) (last_type t g), tt) });
  type = λ y h. (let r = same_type t u s h.parts in record { parts = r.0; type = ap OptionType r.1 ∙ h.type });
  variables = some_among reached_variable (λ t u s. s.variables) t u s refl;
  functions = some_among reached_function (λ t u s. s.functions) t u s refl;
  options = some_among opened_of (λ t u s. s.options) t u s refl;
  selectors = some_among selector_of (λ t u s. s.selectors) t u s refl;
  value = λ y enums I f h i. (
      let r = same_type t u s h.parts in
      valued I (SomeTerm t) r.0 ∙ (ap SomeValue (same_meaning t u s enums I h.parts (record { literals = all-front IsFormedNode (subterms u) (SomeTerm u ∷ []) f.literals; types = all-front (λ w. IsFormedType (type_of w)) (subterms u) (SomeTerm u ∷ []) f.types }) (all-front (IsGiven enums I) (subterms u) (SomeTerm u ∷ []) (all-front (IsGiven enums I) (subterms (SomeTerm u)) [] i))) ∙ sym (valued I (SomeTerm u) h.parts)));
}

-- ---- applications whose type goes by their arguments

-- The types agree where the arguments are typed. Where they are not, the application asks for the same by either type.
module _ (o : PlainOp) (ts us : List PlainTerm) (a b : PlainType) (z : AllZip Refines ts us) (asked : opened_of_op o a ≡ opened_of_op o b) (formed_type : AllByRecursion (λ w. IsFormedType (type_of w)) (subterms_of_all (terms ts)) → IsFormedType a) where
  untyped_application : typed_all (terms us) ≡ false → Refines (Application o (terms ts) a) (Application o (terms us) b)
  untyped_application e = record {
    formed = λ f. (
        let r = formed_all ts us z (all-front IsFormedNode (subterms_of_all (terms us)) (Application o (terms us) b ∷ []) f.literals) (all-front (λ w. IsFormedType (type_of w)) (subterms_of_all (terms us)) (Application o (terms us) b ∷ []) f.types) in
        record { literals = all-join IsFormedNode (subterms_of_all (terms ts)) (Application o (terms ts) a ∷ []) r.0 (tt, tt); types = all-join (λ w. IsFormedType (type_of w)) (subterms_of_all (terms ts)) (Application o (terms ts) a ∷ []) r.1 (formed_type r.1, tt) });
    type = λ y h. absurd (never h.parts);
    variables = application_among reached_variable (λ t u s. s.variables) o ts us a b z refl;
    functions = application_among reached_function (λ t u s. s.functions) o ts us a b z refl;
    options = application_among opened_of (λ t u s. s.options) o ts us a b z asked;
    selectors = application_among selector_of (λ t u s. s.selectors) o ts us a b z refl;
    value = λ y enums I f h i. absurd (never h.parts);
  }
    where
      never : typed (Application o (terms us) b) ≡ true → ⊥
      never h = let k : true ≡ false = sym (first_so (typed_all (terms us)) (is_type (result_type o (types_of (terms us))) b) h) ∙ e in cc

  pub application_by_arguments : (typed_all (terms us) ≡ true → a ≡ b) → Refines (Application o (terms ts) a) (Application o (terms us) b)
  application_by_arguments same = by (typed_all (terms us)) refl
    where
      by : (x : Bool) → typed_all (terms us) ≡ x → Refines (Application o (terms ts) a) (Application o (terms us) b)
      by true e = subst (λ (r : PlainType). Refines (Application o (terms ts) r) (Application o (terms us) b)) (sym (same e)) (application o ts us b z)
      by false e = untyped_application e
