-- When labels of the program fit what stands at the places of their parts.
use Rattle.std.proofs.Common.{◌≡◌, ℕ, ◌<◌, ◌≤◌, Bool, true, false, List, [], ◌∷◌, get_or, length, arith, refl, sym, ap, ◌∙◌, subst}
use Rattle.std.specs.Bool.{one_answer}
use Rattle.std.specs.Cmp.{unsigned_Decides}
use Rattle.std.specs.List.{list_all}
use Rattle.std.specs.Prelude.{◌&&◌, Decides, IfSome, Option, Some, None, eqb, is_some, option_and_then, option_map, unwrap_or}
use Rattle.law_terms.specs.Plain.{OptionType, PlainLiteral, PlainOp, PlainTerm}
use Rattle.law_terms.specs.TermOrder.{term_cmp}
use Rattle.law_terms.specs.Types.{inner_type, is_set, literal_type, type_eq, type_of}
use Rattle.law_terms.specs.ValueOrder.{ascends}
use Rattle.law_terms.proofs.TermTotal.{types_decided}
use Rattle.law_terms.specs.Fits.{applies_no_function, fits, is_term}
use Rattle.law_terms.specs.Graphs.{IsGraph}
use Rattle.law_terms.specs.Meanings.{all_found, found, meaning_at, meanings, stands_for, terms_in}
use Rattle.law_terms.specs.Nodes.{PlainLabel, OptionLabel, BitVecLabel, BoolLabel, EntityLabel, ExtensionLabel, StringLabel, SetLabel, FunctionLabel, ApplicationLabel, CallLabel, NoneLabel, LiteralLabel, SetOfLabel, SomeLabel, VariableLabel, PlainNode, Meaning, TypeMeaning, FunctionMeaning, TermMeaning}
use Rattle.law_terms.specs.Parts.{parts_in, term_parts}
use Rattle.law_terms.proofs.Distinct.{places_differ}
use Rattle.law_terms.proofs.Fitting.{are_terms, fitting, parts_fit}
use Rattle.law_terms.proofs.Places.{map_back, then_back}
use Rattle.smt_nodes.specs.Kinds.{are_called_at, ascend_at, is_function_at, is_option_at, is_option_of_at, is_set_at, is_term_at, is_type_at, is_type_of_at, terms_at}
use Rattle.smt_nodes.specs.View.{ids_of, place_of, places_of, plain_label, plain_node}
use Rattle.smt_nodes.specs.declared.node.Label.{Label}
use Rattle.smt_nodes.specs.declared.node.Node.{Node}
use Rattle.smt_nodes.specs.declared.id.NodeId.{NodeId}

-- ---- what is found first
pub first_found : (ms : List (Option Meaning)) (xs : List NodeId) (d : NodeId) (m : Meaning) (ps : List Meaning) → all_found ms (places_of xs) ≡ Some (m ∷ ps) → found ms (place_of (get_or xs 0 d)) ≡ Some m
first_found ms [] d m ps h = absurd (cc)
first_found ms (x ∷ xs) d m ps h =
    let (k, e, f) = then_back (λ m. option_map (λ rest. m ∷ rest) (all_found ms (places_of xs))) (found ms (place_of x)) (m ∷ ps) h in
    let (rest, a, b) = map_back (λ rest. k ∷ rest) (all_found ms (places_of xs)) (m ∷ ps) f in
    let same : k ≡ m = cc in
    e ∙ ap Some same

eqb_decides : (i j : ℕ) → Decides (eqb i j) (i ≡ j)
eqb_decides i j = unsigned_Decides i j

-- the inner type of a type of options is a term's type exactly where their numbers are the same
pub option_held : (ns : List PlainNode) → IsGraph ns → (o p : Option Meaning) (xs ys : List NodeId) (d : NodeId) → is_option_at o ≡ true → is_term_at p ≡ true
    → IfSome o (λ m. all_found (meanings ns) (places_of xs) ≡ Some (parts_in m)) → IfSome p (λ m. all_found (meanings ns) (places_of ys) ≡ Some (parts_in m))
    → eqb (place_of (get_or xs 0 d)) (place_of (get_or ys 0 d)) ≡ is_option_of_at o p
option_held ns g (Some (TypeMeaning (OptionType t))) (Some (TermMeaning u)) xs ys d h k e f =
    let i : ℕ = place_of (get_or xs 0 d) in
    let j : ℕ = place_of (get_or ys 0 d) in
    let a : meaning_at ns i ≡ Some (TypeMeaning t) = first_found (meanings ns) xs d (TypeMeaning t) [] e in
    let b : meaning_at ns j ≡ Some (TypeMeaning (type_of u)) = first_found (meanings ns) ys d (TypeMeaning (type_of u)) (term_parts u) f in
    one_answer (eqb i j) (type_eq (OptionType (type_of u)) (OptionType t)) (eqb_decides i j) (
      λ q. (let same : OptionType (type_of u) ≡ OptionType t = (types_decided (OptionType (type_of u)) (OptionType t)).0 q in
          let inner : type_of u ≡ t = cc in
          places_differ ns g i j (TypeMeaning t) a (b ∙ ap (λ v. Some (TypeMeaning v)) inner)),
      λ q. (let same : Some (TypeMeaning t) ≡ Some (TypeMeaning (type_of u)) = sym a ∙ (ap (meaning_at ns) q ∙ b) in
          let inner : type_of u ≡ t = cc in
          (types_decided (OptionType (type_of u)) (OptionType t)).1 (ap OptionType inner)),
    )
option_held ns g o p xs ys d h k e f = absurd (cc)

-- ---- labels at what is found; the tests of a label, where some hold
first_of_five : (k a : Bool) → a ≡ true → k ≡ (k && true && true && true && a)
first_of_five true a h = sym h
first_of_five false a h = refl

second_of_five : (t : Bool) → t ≡ (true && t && true && true && true)
second_of_five true = refl
second_of_five false = refl

fourth_of_five : (t : Bool) → t ≡ (true && true && true && t && true)
fourth_of_five true = refl
fourth_of_five false = refl

some_and : (x : Option Meaning) (y : Option (List Meaning)) (b : Bool) → b ≡ elim y [ None ↦ false | Some ps ↦ list_all is_term ps ] → (is_term_at x && b) ≡ elim (option_and_then (λ m. option_map (λ rest. m ∷ rest) y) x) [ None ↦ false | Some ps ↦ list_all is_term ps ]
some_and None y b h = refl
some_and (Some (TermMeaning t)) None b h = h
some_and (Some (TermMeaning t)) (Some ps) b h = h
some_and (Some m) None b h = refl
some_and (Some m) (Some ps) b h = refl

pub listed : (ms : List (Option Meaning)) (is : List ℕ) → list_all (λ i. is_term_at (found ms i)) is ≡ elim (all_found ms is) [ None ↦ false | Some ps ↦ list_all is_term ps ]
listed ms [] = refl
listed ms (i ∷ is) = some_and (found ms i) (all_found ms is) (list_all (λ i. is_term_at (found ms i)) is) (listed ms is)

app_at : (o : PlainOp) → applies_no_function (ApplicationLabel o) ≡ true → (x : Option Meaning) (y : Option (List Meaning)) (b : Bool) → b ≡ elim y [ None ↦ false | Some ps ↦ list_all is_term ps ]
    → (is_type_at x && b) ≡ is_some (option_and_then (stands_for (ApplicationLabel o)) (option_and_then (λ m. option_map (λ rest. m ∷ rest) y) x))
app_at o n None y b h = refl
app_at o n (Some (TypeMeaning t)) None b h = h
app_at o n (Some (TypeMeaning t)) (Some ps) b h = h ∙ (first_of_five (list_all is_term ps) (applies_no_function (ApplicationLabel o)) n ∙ sym (parts_fit (ApplicationLabel o) (TypeMeaning t ∷ ps)))
app_at o n (Some m) None b h = refl
app_at o n (Some m) (Some ps) b h = sym (parts_fit (ApplicationLabel o) (m ∷ ps))

pub app_fits : (ms : List (Option Meaning)) (o : PlainOp) → applies_no_function (ApplicationLabel o) ≡ true → (i : ℕ) (is : List ℕ)
    → (is_type_at (found ms i) && list_all (λ i. is_term_at (found ms i)) is) ≡ is_some (option_and_then (stands_for (ApplicationLabel o)) (all_found ms (i ∷ is)))
app_fits ms o n i is = app_at o n (found ms i) (all_found ms is) (list_all (λ i. is_term_at (found ms i)) is) (listed ms is)

-- a set, by whether its elements ascend
set_tests : (s k : Bool) (z : Option (List PlainTerm)) → is_some z ≡ k → (s && ascend_at z) ≡ (k && s && true && ascends term_cmp (unwrap_or z []) && true)
set_tests true k None h = subst (λ k. false ≡ (k && true && true && true && true)) h refl
set_tests false k None h = subst (λ k. false ≡ (k && false && true && true && true)) h refl
set_tests true k (Some ts) h = subst (λ k. ascends term_cmp ts ≡ (k && true && true && ascends term_cmp ts && true)) h (fourth_of_five (ascends term_cmp ts))
set_tests false k (Some ts) h = subst (λ k. false ≡ (k && false && true && ascends term_cmp ts && true)) h refl

none_holds : (s : Bool) → (s && false) ≡ false
none_holds true = refl
none_holds false = refl

set_at : (x : Option Meaning) (y : Option (List Meaning)) → (is_set_at x && ascend_at (option_and_then terms_in y)) ≡ is_some (option_and_then (stands_for SetOfLabel) (option_and_then (λ m. option_map (λ rest. m ∷ rest) y) x))
set_at None y = refl
set_at (Some (TypeMeaning t)) None = none_holds (is_set t)
set_at (Some (TypeMeaning t)) (Some ps) = set_tests (is_set t) (list_all is_term ps) (terms_in ps) (are_terms ps) ∙ sym (parts_fit SetOfLabel (TypeMeaning t ∷ ps))
set_at (Some m) None = refl
set_at (Some m) (Some ps) = refl

pub set_fits : (ms : List (Option Meaning)) (i : ℕ) (is : List ℕ) → (is_set_at (found ms i) && ascend_at (terms_at ms is)) ≡ is_some (option_and_then (stands_for SetOfLabel) (all_found ms (i ∷ is)))
set_fits ms i is = set_at (found ms i) (all_found ms is)

-- the terms at some places
some_terms : (y : Option (List Meaning)) → is_some (option_and_then terms_in y) ≡ elim y [ None ↦ false | Some ps ↦ list_all is_term ps ]
some_terms None = refl
some_terms (Some ps) = are_terms ps

terms_listed : (ms : List (Option Meaning)) (is : List ℕ) → is_some (terms_at ms is) ≡ list_all (λ i. is_term_at (found ms i)) is
terms_listed ms is = some_terms (all_found ms is) ∙ sym (listed ms is)

ascend_by : (z : Option (List PlainTerm)) (k c : Bool) → is_some z ≡ k → k ≡ true → IfSome z (λ ts. c ≡ ascends term_cmp ts) → c ≡ ascend_at z
ascend_by None k c h e f = absurd (cc)
ascend_by (Some ts) k c h e f = f

pub elements_then : (ms : List (Option Meaning)) (is : List ℕ) (c : Bool) → list_all (λ i. is_term_at (found ms i)) is ≡ true → IfSome (terms_at ms is) (λ ts. c ≡ ascends term_cmp ts) → c ≡ ascend_at (terms_at ms is)
elements_then ms is c e f = ascend_by (terms_at ms is) (list_all (λ i. is_term_at (found ms i)) is) c (terms_listed ms is) e f

not_there : (z : Option (List PlainTerm)) (k : Bool) → is_some z ≡ k → k ≡ false → false ≡ ascend_at z
not_there None k h e = refl
not_there (Some ts) k h e = absurd (cc)

pub elements_else : (ms : List (Option Meaning)) (is : List ℕ) → list_all (λ i. is_term_at (found ms i)) is ≡ false → false ≡ ascend_at (terms_at ms is)
elements_else ms is e = not_there (terms_at ms is) (list_all (λ i. is_term_at (found ms i)) is) (terms_listed ms is) e

-- ---- labels with a type alone
none_at : (x : Option Meaning) → is_option_at x ≡ is_some (option_and_then (stands_for NoneLabel) (option_and_then (λ m. Some (m ∷ [])) x))
none_at None = refl
none_at (Some (TypeMeaning t)) = second_of_five (is_some (inner_type t)) ∙ sym (parts_fit NoneLabel (TypeMeaning t ∷ []))
none_at (Some m) = refl

pub none_fits : (ms : List (Option Meaning)) (i : ℕ) → is_option_at (found ms i) ≡ is_some (option_and_then (stands_for NoneLabel) (all_found ms (i ∷ [])))
none_fits ms i = none_at (found ms i)

literal_at : (l : PlainLiteral) (x : Option Meaning) → is_type_of_at l x ≡ is_some (option_and_then (stands_for (LiteralLabel l)) (option_and_then (λ m. Some (m ∷ [])) x))
literal_at l None = refl
literal_at l (Some (TypeMeaning t)) = second_of_five (type_eq (literal_type l) t) ∙ sym (parts_fit (LiteralLabel l) (TypeMeaning t ∷ []))
literal_at l (Some m) = refl

pub literal_fits : (ms : List (Option Meaning)) (l : PlainLiteral) (i : ℕ) → is_type_of_at l (found ms i) ≡ is_some (option_and_then (stands_for (LiteralLabel l)) (all_found ms (i ∷ [])))
literal_fits ms l i = literal_at l (found ms i)

variable_at : (id : List ℕ) (x : Option Meaning) → is_type_at x ≡ is_some (option_and_then (stands_for (VariableLabel id)) (option_and_then (λ m. Some (m ∷ [])) x))
variable_at id None = refl
variable_at id (Some (TypeMeaning t)) = sym (parts_fit (VariableLabel id) (TypeMeaning t ∷ []))
variable_at id (Some m) = refl

pub variable_fits : (ms : List (Option Meaning)) (id : List ℕ) (i : ℕ) → is_type_at (found ms i) ≡ is_some (option_and_then (stands_for (VariableLabel id)) (all_found ms (i ∷ [])))
variable_fits ms id i = variable_at id (found ms i)

some_at : (x y : Option Meaning) → is_option_of_at x y ≡ is_some (option_and_then (stands_for SomeLabel) (option_and_then (λ m. option_map (λ rest. m ∷ rest) (option_and_then (λ n. Some (n ∷ [])) y)) x))
some_at None y = refl
some_at (Some (TypeMeaning t)) None = refl
some_at (Some (TypeMeaning t)) (Some (TermMeaning u)) = second_of_five (type_eq (OptionType (type_of u)) t) ∙ sym (parts_fit SomeLabel (TypeMeaning t ∷ TermMeaning u ∷ []))
some_at (Some (TypeMeaning t)) (Some n) = sym (parts_fit SomeLabel (TypeMeaning t ∷ n ∷ []))
some_at (Some m) None = refl
some_at (Some m) (Some n) = sym (parts_fit SomeLabel (m ∷ n ∷ []))

pub some_fits : (ms : List (Option Meaning)) (i j : ℕ) → is_option_of_at (found ms i) (found ms j) ≡ is_some (option_and_then (stands_for SomeLabel) (all_found ms (i ∷ j ∷ [])))
some_fits ms i j = some_at (found ms i) (found ms j)

-- ---- parts too many or too few
abbrev more : (x y : Option Meaning) → Option (List Meaning) → Option (List Meaning)
more x y z = option_and_then (λ m. option_map (λ rest. m ∷ rest) (option_and_then (λ n. option_map (λ rest. n ∷ rest) z) y)) x

-- a label that fits no two parts
abbrev Single : PlainLabel → Type 0
Single l = (m n : Meaning) (ms : List Meaning) → false ≡ is_some (stands_for l (m ∷ n ∷ ms))

single_at : (l : PlainLabel) → Single l → (x y : Option Meaning) (z : Option (List Meaning)) → false ≡ is_some (option_and_then (stands_for l) (more x y z))
single_at l s None y z = refl
single_at l s (Some m) None z = refl
single_at l s (Some m) (Some n) None = refl
single_at l s (Some m) (Some n) (Some ms) = s m n ms

pub single : (l : PlainLabel) → Single l → (ms : List (Option Meaning)) (i j : ℕ) (is : List ℕ) → false ≡ is_some (option_and_then (stands_for l) (all_found ms (i ∷ j ∷ is)))
single l s ms i j is = single_at l s (found ms i) (found ms j) (all_found ms is)

none_single : Single NoneLabel
none_single (TypeMeaning (OptionType t)) n ms = refl
none_single (TypeMeaning t) n ms = refl
none_single m n ms = refl

pub none_many : (ms : List (Option Meaning)) (i j : ℕ) (is : List ℕ) → false ≡ is_some (option_and_then (stands_for NoneLabel) (all_found ms (i ∷ j ∷ is)))
none_many ms i j is = single NoneLabel none_single ms i j is

literal_single : (l : PlainLiteral) → Single (LiteralLabel l)
literal_single l (TypeMeaning t) n ms = refl
literal_single l m n ms = refl

pub literal_many : (ms : List (Option Meaning)) (l : PlainLiteral) (i j : ℕ) (is : List ℕ) → false ≡ is_some (option_and_then (stands_for (LiteralLabel l)) (all_found ms (i ∷ j ∷ is)))
literal_many ms l i j is = single (LiteralLabel l) (literal_single l) ms i j is

variable_single : (id : List ℕ) → Single (VariableLabel id)
variable_single id (TypeMeaning t) n ms = refl
variable_single id m n ms = refl

pub variable_many : (ms : List (Option Meaning)) (id : List ℕ) (i j : ℕ) (is : List ℕ) → false ≡ is_some (option_and_then (stands_for (VariableLabel id)) (all_found ms (i ∷ j ∷ is)))
variable_many ms id i j is = single (VariableLabel id) (variable_single id) ms i j is

some_few_at : (x : Option Meaning) → false ≡ is_some (option_and_then (stands_for SomeLabel) (option_and_then (λ m. Some (m ∷ [])) x))
some_few_at None = refl
some_few_at (Some (TypeMeaning t)) = refl
some_few_at (Some m) = refl

pub some_few : (ms : List (Option Meaning)) (i : ℕ) → false ≡ is_some (option_and_then (stands_for SomeLabel) (all_found ms (i ∷ [])))
some_few ms i = some_few_at (found ms i)

some_many_at : (x y z : Option Meaning) (w : Option (List Meaning)) → false ≡ is_some (option_and_then (stands_for SomeLabel) (option_and_then (λ m. option_map (λ rest. m ∷ rest) (more y z w)) x))
some_many_at None y z w = refl
some_many_at (Some m) None z w = refl
some_many_at (Some m) (Some n) None w = refl
some_many_at (Some m) (Some n) (Some k) None = refl
some_many_at (Some (TypeMeaning t)) (Some (TermMeaning u)) (Some k) (Some ms) = refl
some_many_at (Some (TypeMeaning t)) (Some n) (Some k) (Some ms) = refl
some_many_at (Some m) (Some n) (Some k) (Some ms) = refl

pub some_many : (ms : List (Option Meaning)) (i j k : ℕ) (is : List ℕ) → false ≡ is_some (option_and_then (stands_for SomeLabel) (all_found ms (i ∷ j ∷ k ∷ is)))
some_many ms i j k is = some_many_at (found ms i) (found ms j) (found ms k) (all_found ms is)

-- ---- the same by lists of numbers
abbrev pub Fits : PlainLabel → List (Option Meaning) → List NodeId → Bool
Fits l ms ids = is_some (option_and_then (stands_for l) (all_found ms (places_of ids)))

-- what holds of a list with one number, and of longer ones
one_of : (l : PlainLabel) (ms : List (Option Meaning)) (test : Option Meaning → Bool) → ((i : ℕ) → test (found ms i) ≡ is_some (option_and_then (stands_for l) (all_found ms (i ∷ [])))) → (ids : List NodeId) (d : NodeId) → 1 ≤ length ids → length ids < 2 → test (found ms (place_of (get_or ids 0 d))) ≡ Fits l ms ids
one_of l ms test f [] d h k = absurd (omega arith)
one_of l ms test f (x ∷ []) d h k = f (place_of x)
one_of l ms test f (x ∷ y ∷ ids) d h k = absurd (omega arith)

more_of : (l : PlainLabel) → Single l → (ms : List (Option Meaning)) (ids : List NodeId) → 2 ≤ length ids → false ≡ Fits l ms ids
more_of l s ms [] h = absurd (omega arith)
more_of l s ms (x ∷ []) h = absurd (omega arith)
more_of l s ms (x ∷ y ∷ ids) h = single l s ms (place_of x) (place_of y) (places_of ids)

pub none_of_one : (ms : List (Option Meaning)) (ids : List NodeId) (d : NodeId) → 1 ≤ length ids → length ids < 2 → is_option_at (found ms (place_of (get_or ids 0 d))) ≡ Fits NoneLabel ms ids
none_of_one ms ids d h k = one_of NoneLabel ms is_option_at (none_fits ms) ids d h k

pub none_of_more : (ms : List (Option Meaning)) (ids : List NodeId) → 2 ≤ length ids → false ≡ Fits NoneLabel ms ids
none_of_more ms ids h = more_of NoneLabel none_single ms ids h

pub literal_of_one : (l : PlainLiteral) (ms : List (Option Meaning)) (ids : List NodeId) (d : NodeId) → 1 ≤ length ids → length ids < 2 → is_type_of_at l (found ms (place_of (get_or ids 0 d))) ≡ Fits (LiteralLabel l) ms ids
literal_of_one l ms ids d h k = one_of (LiteralLabel l) ms (is_type_of_at l) (literal_fits ms l) ids d h k

pub literal_of_more : (l : PlainLiteral) (ms : List (Option Meaning)) (ids : List NodeId) → 2 ≤ length ids → false ≡ Fits (LiteralLabel l) ms ids
literal_of_more l ms ids h = more_of (LiteralLabel l) (literal_single l) ms ids h

pub variable_of_one : (id : List ℕ) (ms : List (Option Meaning)) (ids : List NodeId) (d : NodeId) → 1 ≤ length ids → length ids < 2 → is_type_at (found ms (place_of (get_or ids 0 d))) ≡ Fits (VariableLabel id) ms ids
variable_of_one id ms ids d h k = one_of (VariableLabel id) ms is_type_at (variable_fits ms id) ids d h k

pub variable_of_more : (id : List ℕ) (ms : List (Option Meaning)) (ids : List NodeId) → 2 ≤ length ids → false ≡ Fits (VariableLabel id) ms ids
variable_of_more id ms ids h = more_of (VariableLabel id) (variable_single id) ms ids h

-- types around a type
option_at : (x : Option Meaning) → is_type_at x ≡ is_some (option_and_then (stands_for OptionLabel) (option_and_then (λ m. Some (m ∷ [])) x))
option_at None = refl
option_at (Some (TypeMeaning t)) = refl
option_at (Some m) = refl

setting_at : (x : Option Meaning) → is_type_at x ≡ is_some (option_and_then (stands_for SetLabel) (option_and_then (λ m. Some (m ∷ [])) x))
setting_at None = refl
setting_at (Some (TypeMeaning t)) = refl
setting_at (Some m) = refl

option_single : Single OptionLabel
option_single (TypeMeaning t) n ms = refl
option_single m n ms = refl

setting_single : Single SetLabel
setting_single (TypeMeaning t) n ms = refl
setting_single m n ms = refl

pub option_of_one : (ms : List (Option Meaning)) (ids : List NodeId) (d : NodeId) → 1 ≤ length ids → length ids < 2 → is_type_at (found ms (place_of (get_or ids 0 d))) ≡ Fits OptionLabel ms ids
option_of_one ms ids d h k = one_of OptionLabel ms is_type_at (λ i. option_at (found ms i)) ids d h k

pub option_of_more : (ms : List (Option Meaning)) (ids : List NodeId) → 2 ≤ length ids → false ≡ Fits OptionLabel ms ids
option_of_more ms ids h = more_of OptionLabel option_single ms ids h

pub set_of_one : (ms : List (Option Meaning)) (ids : List NodeId) (d : NodeId) → 1 ≤ length ids → length ids < 2 → is_type_at (found ms (place_of (get_or ids 0 d))) ≡ Fits SetLabel ms ids
set_of_one ms ids d h k = one_of SetLabel ms is_type_at (λ i. setting_at (found ms i)) ids d h k

pub set_of_more : (ms : List (Option Meaning)) (ids : List NodeId) → 2 ≤ length ids → false ≡ Fits SetLabel ms ids
set_of_more ms ids h = more_of SetLabel setting_single ms ids h

-- some
pub some_of_one : (ms : List (Option Meaning)) (ids : List NodeId) → 1 ≤ length ids → length ids < 2 → false ≡ Fits SomeLabel ms ids
some_of_one ms [] h k = absurd (omega arith)
some_of_one ms (x ∷ []) h k = some_few ms (place_of x)
some_of_one ms (x ∷ y ∷ ids) h k = absurd (omega arith)

pub some_of_two : (ms : List (Option Meaning)) (ids : List NodeId) (d e : NodeId) → 2 ≤ length ids → length ids < 3 → is_option_of_at (found ms (place_of (get_or ids 0 d))) (found ms (place_of (get_or ids 1 e))) ≡ Fits SomeLabel ms ids
some_of_two ms [] d e h k = absurd (omega arith)
some_of_two ms (x ∷ []) d e h k = absurd (omega arith)
some_of_two ms (x ∷ y ∷ []) d e h k = some_fits ms (place_of x) (place_of y)
some_of_two ms (x ∷ y ∷ z ∷ ids) d e h k = absurd (omega arith)

pub some_of_more : (ms : List (Option Meaning)) (ids : List NodeId) → 3 ≤ length ids → false ≡ Fits SomeLabel ms ids
some_of_more ms [] h = absurd (omega arith)
some_of_more ms (x ∷ []) h = absurd (omega arith)
some_of_more ms (x ∷ y ∷ []) h = absurd (omega arith)
some_of_more ms (x ∷ y ∷ z ∷ ids) h = some_many ms (place_of x) (place_of y) (place_of z) (places_of ids)

-- types without parts
abbrev pub stands_alone : PlainLabel → Bool
stands_alone (BitVecLabel n) = true
stands_alone BoolLabel = true
stands_alone (EntityLabel e) = true
stands_alone (ExtensionLabel k) = true
stands_alone StringLabel = true
stands_alone l = false

alone_none : (l : PlainLabel) → stands_alone l ≡ true → (ms : List (Option Meaning)) → true ≡ is_some (option_and_then (stands_for l) (all_found ms []))
alone_none (BitVecLabel n) h ms = refl
alone_none BoolLabel h ms = refl
alone_none (EntityLabel e) h ms = refl
alone_none (ExtensionLabel k) h ms = refl
alone_none StringLabel h ms = refl
alone_none l h ms = cc

alone_at : (l : PlainLabel) → stands_alone l ≡ true → (x : Option Meaning) (y : Option (List Meaning)) → false ≡ is_some (option_and_then (stands_for l) (option_and_then (λ m. option_map (λ rest. m ∷ rest) y) x))
alone_at l h None y = refl
alone_at l h (Some m) None = refl
alone_at (BitVecLabel n) h (Some (TypeMeaning t)) (Some ms) = refl
alone_at BoolLabel h (Some (TypeMeaning t)) (Some ms) = refl
alone_at (EntityLabel e) h (Some (TypeMeaning t)) (Some ms) = refl
alone_at (ExtensionLabel k) h (Some (TypeMeaning t)) (Some ms) = refl
alone_at StringLabel h (Some (TypeMeaning t)) (Some ms) = refl
alone_at (BitVecLabel n) h (Some m) (Some ms) = refl
alone_at BoolLabel h (Some m) (Some ms) = refl
alone_at (EntityLabel e) h (Some m) (Some ms) = refl
alone_at (ExtensionLabel k) h (Some m) (Some ms) = refl
alone_at StringLabel h (Some m) (Some ms) = refl
alone_at l h (Some m) (Some ms) = cc

pub alone_of_none : (l : PlainLabel) → stands_alone l ≡ true → (ms : List (Option Meaning)) (ids : List NodeId) → length ids < 1 → true ≡ Fits l ms ids
alone_of_none l h ms [] k = alone_none l h ms
alone_of_none l h ms (x ∷ ids) k = absurd (omega arith)

pub alone_of_more : (l : PlainLabel) → stands_alone l ≡ true → (ms : List (Option Meaning)) (ids : List NodeId) → 1 ≤ length ids → false ≡ Fits l ms ids
alone_of_more l h ms [] k = absurd (omega arith)
alone_of_more l h ms (x ∷ ids) k = alone_at l h (found ms (place_of x)) (all_found ms (places_of ids))

-- an application and a set, where the first part is a type
pub app_then : (ms : List (Option Meaning)) (o : PlainOp) → applies_no_function (ApplicationLabel o) ≡ true → (i : ℕ) (is : List ℕ) → is_type_at (found ms i) ≡ true → list_all (λ i. is_term_at (found ms i)) is ≡ is_some (option_and_then (stands_for (ApplicationLabel o)) (all_found ms (i ∷ is)))
app_then ms o n i is h = sym (ap (λ b. b && list_all (λ i. is_term_at (found ms i)) is) h) ∙ app_fits ms o n i is

pub app_else : (ms : List (Option Meaning)) (o : PlainOp) → applies_no_function (ApplicationLabel o) ≡ true → (i : ℕ) (is : List ℕ) → is_type_at (found ms i) ≡ false → false ≡ is_some (option_and_then (stands_for (ApplicationLabel o)) (all_found ms (i ∷ is)))
app_else ms o n i is h = sym (ap (λ b. b && list_all (λ i. is_term_at (found ms i)) is) h) ∙ app_fits ms o n i is

pub set_then : (ms : List (Option Meaning)) (i : ℕ) (is : List ℕ) → is_set_at (found ms i) ≡ true → ascend_at (terms_at ms is) ≡ is_some (option_and_then (stands_for SetOfLabel) (all_found ms (i ∷ is)))
set_then ms i is h = sym (ap (λ b. b && ascend_at (terms_at ms is)) h) ∙ set_fits ms i is

pub set_else : (ms : List (Option Meaning)) (i : ℕ) (is : List ℕ) → is_set_at (found ms i) ≡ false → false ≡ is_some (option_and_then (stands_for SetOfLabel) (all_found ms (i ∷ is)))
set_else ms i is h = sym (ap (λ b. b && ascend_at (terms_at ms is)) h) ∙ set_fits ms i is

-- ---- functions and calls
-- no function has one part, or more than two
function_few_at : (id : List ℕ) (x : Option Meaning) → false ≡ is_some (option_and_then (stands_for (FunctionLabel id)) (option_and_then (λ m. Some (m ∷ [])) x))
function_few_at id None = refl
function_few_at id (Some (TypeMeaning t)) = refl
function_few_at id (Some m) = refl

function_many_at : (id : List ℕ) (x y z : Option Meaning) (w : Option (List Meaning)) → false ≡ is_some (option_and_then (stands_for (FunctionLabel id)) (option_and_then (λ m. option_map (λ rest. m ∷ rest) (more y z w)) x))
function_many_at id None y z w = refl
function_many_at id (Some m) None z w = refl
function_many_at id (Some m) (Some n) None w = refl
function_many_at id (Some m) (Some n) (Some k) None = refl
function_many_at id (Some (TypeMeaning t)) (Some (TypeMeaning u)) (Some k) (Some ms) = refl
function_many_at id (Some (TypeMeaning t)) (Some n) (Some k) (Some ms) = refl
function_many_at id (Some m) (Some n) (Some k) (Some ms) = refl

pub function_of_one : (id : List ℕ) (ms : List (Option Meaning)) (ids : List NodeId) → 1 ≤ length ids → length ids < 2 → false ≡ Fits (FunctionLabel id) ms ids
function_of_one id ms [] h k = absurd (omega arith)
function_of_one id ms (x ∷ []) h k = function_few_at id (found ms (place_of x))
function_of_one id ms (x ∷ y ∷ ids) h k = absurd (omega arith)

pub function_of_more : (id : List ℕ) (ms : List (Option Meaning)) (ids : List NodeId) → 3 ≤ length ids → false ≡ Fits (FunctionLabel id) ms ids
function_of_more id ms [] h = absurd (omega arith)
function_of_more id ms (x ∷ []) h = absurd (omega arith)
function_of_more id ms (x ∷ y ∷ []) h = absurd (omega arith)
function_of_more id ms (x ∷ y ∷ z ∷ ids) h = function_many_at id (found ms (place_of x)) (found ms (place_of y)) (found ms (place_of z)) (all_found ms (places_of ids))

called_at : (x : Option Meaning) (y : Option (List Meaning)) (b : Bool) → b ≡ elim y [ None ↦ false | Some ps ↦ list_all is_term ps ] → (is_function_at x && b) ≡ are_called_at (option_and_then (λ m. option_map (λ rest. m ∷ rest) y) x)
called_at None y b h = refl
called_at (Some (FunctionMeaning f)) None b h = h
called_at (Some (FunctionMeaning f)) (Some ps) b h = h
called_at (Some m) None b h = refl
called_at (Some m) (Some ps) b h = refl

pub called_fits : (ms : List (Option Meaning)) (i : ℕ) (is : List ℕ) → (is_function_at (found ms i) && list_all (λ i. is_term_at (found ms i)) is) ≡ are_called_at (all_found ms (i ∷ is))
called_fits ms i is = called_at (found ms i) (all_found ms is) (list_all (λ i. is_term_at (found ms i)) is) (listed ms is)

call_at : (x : Option Meaning) (y : Option (List Meaning)) → (is_type_at x && are_called_at y) ≡ is_some (option_and_then (stands_for CallLabel) (option_and_then (λ m. option_map (λ rest. m ∷ rest) y) x))
call_at None y = refl
call_at (Some (TypeMeaning t)) None = refl
call_at (Some (TypeMeaning t)) (Some []) = refl
call_at (Some (TypeMeaning t)) (Some (FunctionMeaning f ∷ ps)) = first_of_five (list_all is_term ps) true refl ∙ sym (parts_fit CallLabel (TypeMeaning t ∷ FunctionMeaning f ∷ ps))
call_at (Some (TypeMeaning t)) (Some (m ∷ ps)) = refl
call_at (Some m) None = refl
call_at (Some m) (Some ps) = refl

pub call_fits : (ms : List (Option Meaning)) (i : ℕ) (is : List ℕ) → (is_type_at (found ms i) && are_called_at (all_found ms is)) ≡ is_some (option_and_then (stands_for CallLabel) (all_found ms (i ∷ is)))
call_fits ms i is = call_at (found ms i) (all_found ms is)

-- the rest decides where a first test holds
pub rest_decides : (a b r : Bool) → a ≡ true → (a && b) ≡ r → b ≡ r
rest_decides a b r h e = sym (ap (λ a. a && b) h) ∙ e

-- ---- nodes
pub fits_by : (ns : List PlainNode) (n : Node) (l : Label) (ids : List NodeId) (r : Bool) → n.label ≡ l → ids ≡ ids_of n.parts → r ≡ Fits (plain_label l) (meanings ns) ids → r ≡ fits ns (plain_node n)
fits_by ns n l ids r e d h =
    h ∙ (ap (Fits (plain_label l) (meanings ns)) d ∙ (ap (λ l. Fits (plain_label l) (meanings ns) (ids_of n.parts)) (sym e) ∙ fitting ns (plain_node n)))
