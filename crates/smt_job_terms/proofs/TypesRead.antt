-- Types as they are read.
use Rattle.std.proofs.Common.{◌≡◌, ℕ, ◌+◌, ◌<◌, ◌≤◌, Bool, List, [], ◌∷◌, ◌++◌, Some, None, Ok, Err, drop, get_or, length, map, refl, sym, ap, ◌∙◌, arith, append-nil}
use Rattle.std.specs.List.{list_any}
use Rattle.std.specs.Prelude.{◌||◌}
use Rattle.std.specs.Rc.{rc_str_bytes}
use Rattle.std.specs.declared.alloc.Global.{Global}
use Rattle.std.specs.declared.rc.RcStr.{RcStr}
use Rattle.std.proofs.lemmas.List.{at_drop_more, at_drop_all, map-append}
use Rattle.smt_term.specs.View.{plain_attribute, plain_type}
use Rattle.smt_term.specs.declared.types.TermType.{TermType}
use Rattle.law_texts.specs.Reading.{Expression, Node, Expressions, Nil, Cons}
use Rattle.smt_sexpr.specs.View.{plain, plain_list}
use Rattle.smt_sexpr.specs.declared.expression.SExpr.{SExpr}
use Rattle.law_jobs.specs.Outcomes.{JobFault, followed, TypeFault}
use Rattle.law_texts.specs.Outcomes.{◌>>=◌, demanded}
use Rattle.law_texts.specs.Parts.{name_in}
use Rattle.law_jobs.specs.Types.{attributes_of, headed_type, new_attribute, sole_type, type_of_expression}
use Rattle.smt_job_terms.proofs.Reading.{behind, fault_behind, nothing_behind, one_behind}

abbrev pub Attribute : Type 0
Attribute = RcStr Global × TermType

-- the names of some attributes
abbrev pub names_of : List Attribute → List (List ℕ)
names_of ps = map (λ p. rc_str_bytes p.0) ps

-- ---- heads

pub type_headed : (e first : Expression) (es : Expressions) (n : List ℕ) → e ≡ Node (Cons first es) → name_in first ≡ Some n → type_of_expression e ≡ headed_type n es (sole_type es) (attributes_of [] es)
type_headed e first es n shape named =
    ap type_of_expression shape ∙ ap (λ o. demanded TypeFault o >>= λ m. headed_type m es (sole_type es) (attributes_of [] es)) named

pub type_unheaded : (e first : Expression) (es : Expressions) → e ≡ Node (Cons first es) → name_in first ≡ None → type_of_expression e ≡ Err TypeFault
type_unheaded e first es shape named = ap type_of_expression shape ∙ ap (λ o. demanded TypeFault o >>= λ m. headed_type m es (sole_type es) (attributes_of [] es)) named

pub sole_one : (xs : List SExpr) (x : SExpr) → 1 ≤ length xs → length xs < 2 → x ≡ get_or xs 0 x → sole_type (plain_list xs) ≡ type_of_expression (plain x)
sole_one (y ∷ []) x l m e = ap (λ z. type_of_expression (plain z)) (sym e)
sole_one [] x l m e = absurd (omega (arith, l))
sole_one (y ∷ z ∷ xs) x l m e = absurd (omega (arith, m))

pub sole_few : (xs : List SExpr) → length xs < 1 → sole_type (plain_list xs) ≡ Err TypeFault
sole_few [] l = refl
sole_few (x ∷ xs) l = absurd (omega (arith, l))

pub sole_many : (xs : List SExpr) → 2 ≤ length xs → sole_type (plain_list xs) ≡ Err TypeFault
sole_many (x ∷ y ∷ xs) l = refl
sole_many [] l = absurd (omega (arith, l))
sole_many (x ∷ []) l = absurd (omega (arith, l))

-- ---- attributes

-- what is no pair is no attribute
pub few_parts : (xs : List SExpr) → length xs < 2 → (given : List (List ℕ)) (es : Expressions) → attributes_of given (Cons (Node (plain_list xs)) es) ≡ Err TypeFault
few_parts [] l given es = refl
few_parts (x ∷ []) l given es = refl
few_parts (x ∷ y ∷ xs) l given es = absurd (omega (arith, l))

pub many_parts : (xs : List SExpr) → 3 ≤ length xs → (given : List (List ℕ)) (es : Expressions) → attributes_of given (Cons (Node (plain_list xs)) es) ≡ Err TypeFault
many_parts (x ∷ y ∷ z ∷ xs) l given es = refl
many_parts [] l given es = absurd (omega (arith, l))
many_parts (x ∷ []) l given es = absurd (omega (arith, l))
many_parts (x ∷ y ∷ []) l given es = absurd (omega (arith, l))

-- what is read and what is left are all
pub record ReadingAttributes (done : List Attribute) (remaining all : List SExpr) : Type 0 where
  pub whole : attributes_of [] (plain_list all) ≡ behind (map plain_attribute done) (attributes_of (names_of done) (plain_list remaining))

pub none_read : (all : List SExpr) → ReadingAttributes [] all all
none_read all = record { whole = nothing_behind (attributes_of [] (plain_list all)) }

pub all_attributes : (done : List Attribute) (all : List SExpr) (i : ℕ) → length all ≤ i → ReadingAttributes done (drop i all) all → attributes_of [] (plain_list all) ≡ Ok (map plain_attribute done)
all_attributes done all i l g =
    g.whole ∙ ap (behind (map plain_attribute done)) (at_drop_all (λ xs. attributes_of (names_of done) (plain_list xs)) all i l) ∙ ap Ok (append-nil (map plain_attribute done))

module _ (done : List Attribute) (all : List SExpr) (i : ℕ) (item : SExpr) (g : ReadingAttributes done (drop i all) all) (l : i < length all) (at : item ≡ get_or all i item) where
  this_one : attributes_of [] (plain_list all) ≡ behind (map plain_attribute done) (attributes_of (names_of done) (Cons (plain item) (plain_list (drop (i + 1) all))))
  this_one =
      g.whole
      ∙ ap (behind (map plain_attribute done)) (at_drop_more (λ xs. attributes_of (names_of done) (plain_list xs)) all i item l
      ∙ ap (λ x. attributes_of (names_of done) (Cons (plain x) (plain_list (drop (i + 1) all)))) (sym at))

  pub unformed : (e : Expression) → plain item ≡ e → ((given : List (List ℕ)) (es : Expressions) → attributes_of given (Cons e es) ≡ Err TypeFault) → attributes_of [] (plain_list all) ≡ Err TypeFault
  unformed e shape h =
      this_one ∙ fault_behind (map plain_attribute done) _ TypeFault (ap (λ x. attributes_of (names_of done) (Cons x (plain_list (drop (i + 1) all)))) shape ∙ h (names_of done) (plain_list (drop (i + 1) all)))

  module _ (name type : Expression) (shape : plain item ≡ Node (Cons name (Cons type Nil))) where
    abbrev others : Expressions
    others = plain_list (drop (i + 1) all)

    by_parts : attributes_of [] (plain_list all) ≡ behind (map plain_attribute done) (new_attribute (names_of done) name >>= λ a. type_of_expression type >>= λ t. followed (a, t) (attributes_of (names_of done ++ a ∷ []) others))
    by_parts = this_one ∙ ap (λ x. behind (map plain_attribute done) (attributes_of (names_of done) (Cons x others))) shape

    pub name_fault : (f : JobFault) → new_attribute (names_of done) name ≡ Err f → attributes_of [] (plain_list all) ≡ Err f
    name_fault f h = by_parts ∙ ap (λ o. behind (map plain_attribute done) (o >>= λ a. type_of_expression type >>= λ t. followed (a, t) (attributes_of (names_of done ++ a ∷ []) others))) h

    module _ (a : RcStr Global) (named : new_attribute (names_of done) name ≡ Ok (rc_str_bytes a)) where
      by_type : attributes_of [] (plain_list all) ≡ behind (map plain_attribute done) (type_of_expression type >>= λ t. followed (rc_str_bytes a, t) (attributes_of (names_of done ++ rc_str_bytes a ∷ []) others))
      by_type = by_parts ∙ ap (λ o. behind (map plain_attribute done) (o >>= λ a. type_of_expression type >>= λ t. followed (a, t) (attributes_of (names_of done ++ a ∷ []) others))) named

      pub attribute_fault : (f : JobFault) → type_of_expression type ≡ Err f → attributes_of [] (plain_list all) ≡ Err f
      attribute_fault f h = by_type ∙ ap (λ o. behind (map plain_attribute done) (o >>= λ t. followed (rc_str_bytes a, t) (attributes_of (names_of done ++ rc_str_bytes a ∷ []) others))) h

      pub one_more : (t : TermType) (more : List Attribute) → type_of_expression type ≡ Ok (plain_type t) → more ≡ done ++ (a, t) ∷ [] → ReadingAttributes more (drop (i + 1) all) all
      one_more t more typed is = record {
        whole =
            by_type
            ∙ ap (λ o. behind (map plain_attribute done) (o >>= λ t. followed (rc_str_bytes a, t) (attributes_of (names_of done ++ rc_str_bytes a ∷ []) others))) typed
            ∙ one_behind (map plain_attribute done) (rc_str_bytes a, plain_type t) (attributes_of (names_of done ++ rc_str_bytes a ∷ []) others)
            ∙ (λ k. behind (sym (map-append plain_attribute done ((a, t) ∷ [])) k) (attributes_of (sym (map-append (λ p. rc_str_bytes p.0) done ((a, t) ∷ [])) k) others))
            ∙ ap (λ ps. behind (map plain_attribute ps) (attributes_of (names_of ps) others)) (sym is);
      }

-- ---- whether a name was given

pub any_mapped : {A B : Type 0} (f : A → B) (test : B → Bool) (xs : List A) → list_any (λ x. test (f x)) xs ≡ list_any test (map f xs)
any_mapped f test [] = refl
any_mapped f test (x ∷ xs) = ap (λ b. test (f x) || b) (any_mapped f test xs)
