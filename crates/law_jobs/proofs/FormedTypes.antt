-- The types of jobs are formed: widths are from 1 to 128, and attributes ascend.
use Rattle.std.proofs.Common.{◌≡◌, ℕ, Bool, true, false, ◌&&◌, List, [], ◌∷◌, ◌++◌, Option, Some, None, codes, bytes_eq, map, refl, sym, ap, ◌∙◌}
use Rattle.std.specs.Prelude.{IfOk, IfSome, nat_le, cond}
use Rattle.std.specs.Bool.{then_some}
use Rattle.std.specs.List.{AllByRecursion}
use Rattle.std.specs.Map.{lookup}
use Rattle.std.specs.Option.{option_and_then}
use Rattle.std.proofs.lemmas.Bool.{and_parts, leb-true}
use Rattle.std.proofs.lemmas.Cmp.{nat_list_cmp_total, on_total}
use Rattle.law_numbers.specs.Widths.{is_width}
use Rattle.law_terms.specs.Formed.{IsFormedHere, IsFormedType}
use Rattle.law_terms.specs.Parts.{attribute_names}
use Rattle.law_terms.specs.Plain.{PlainFunction, PlainType, OptionType, BitVecType, BoolType, SetType, attribute_types}
use Rattle.law_terms.specs.Reached.{types_within, types_within_attributes}
use Rattle.law_terms.specs.ValueOrder.{ascends, is_below, sorted, text_cmp}
use Rattle.law_terms.proofs.Defaults.{all-join}
use Rattle.law_terms.proofs.Sorted.{all-sorted, ascends-sorted}
use Rattle.law_texts.specs.Reading.{Expression, Leaf, Node, Expressions, Nil, Cons}
use Rattle.law_jobs.specs.Outcomes.{Outcome, FormFault, TypeFault, WidthFault}
use Rattle.law_texts.specs.Outcomes.{demanded}
use Rattle.law_texts.specs.Parts.{name_in, number_in, pair_in, sole, sole_text, triple_in}
use Rattle.law_jobs.specs.Types.{attributes_of, bits_type, entity_type, headed_type, named_types, new_attribute, record_type, sole_type, type_named, type_of_expression, width_in}
use Rattle.law_jobs.specs.Declarations.{Declarations, Declared, declared, declared_by, declared_function, functions_of, new_id, declared_variable, variables_of}
use Rattle.law_jobs.proofs.Outcomes.{bound, either, if_demanded, if_followed, if_some, onward, whichever}

-- one that is found among entries that all have P
pub found_among : {V : Type 0} (P : V → Type 0) (test : List ℕ → Bool) (es : List (List ℕ × V)) → AllByRecursion (λ e. P e.1) es → IfSome (lookup test es) P
found_among P test [] h = tt
found_among P test (e ∷ es) h = go (test e.0) (found_among P test es h.1)
  where
    go : (b : Bool) → IfSome (lookup test es) P → IfSome (cond b (Some e.1) (lookup test es)) P
    go true f = h.0
    go false f = f

pub bool_formed : IsFormedType BoolType
bool_formed = (tt, tt)

pub width_formed : (n : ℕ) → is_width n ≡ true → IsFormedType (BitVecType n)
width_formed n h = (let p = and_parts (nat_le 1 n) (nat_le n 128) h in ((leb-true 1 n p.0, leb-true n 128 p.1), tt))

-- a stated width is one
pub width_stated : (e : Expression) → IfSome (width_in e) (λ n. is_width n ≡ true)
width_stated e = go (number_in e)
  where
    go : (o : Option ℕ) → IfSome (option_and_then (λ n. then_some (is_width n) n) o) (λ n. is_width n ≡ true)
    go (Some n) = if_some (λ m. is_width m ≡ true) (is_width n) n (λ h. h)
    go None = tt

bits_formed : (es : Expressions) → IfOk (bits_type es) IsFormedType
bits_formed es =
    bound IsFormedType (demanded TypeFault (sole es)) _ (whichever _ (demanded TypeFault (sole es)) (λ e.
    bound IsFormedType (demanded WidthFault (width_in e)) _ (onward (demanded WidthFault (width_in e)) (if_demanded (λ n. is_width n ≡ true) WidthFault (width_in e) (width_stated e)) (λ n h. width_formed n h))))

pub option_formed : (t : PlainType) → IsFormedType t → IsFormedType (OptionType t)
option_formed t h = all-join IsFormedHere (types_within t) (OptionType t ∷ []) h (tt, tt)

pub set_formed : (t : PlainType) → IsFormedType t → IsFormedType (SetType t)
set_formed t h = all-join IsFormedHere (types_within t) (SetType t ∷ []) h (tt, tt)

-- ---- records

abbrev Pair : Type 0
Pair = List ℕ × PlainType

names_listed : (ps : List Pair) → attribute_names (attribute_types ps) ≡ map (λ p. p.0) ps
names_listed [] = refl
names_listed (p ∷ ps) = ap (λ ns. p.0 ∷ ns) (names_listed ps)

below_named : (p : Pair) (ps : List Pair) → is_below (λ p q. text_cmp p.0 q.0) p ps ≡ is_below text_cmp p.0 (map (λ q. q.0) ps)
below_named p [] = refl
below_named p (q ∷ ps) = refl

ascend_named : (ps : List Pair) → ascends (λ p q. text_cmp p.0 q.0) ps ≡ ascends text_cmp (map (λ q. q.0) ps)
ascend_named [] = refl
ascend_named (p ∷ ps) = ap (λ b. b && ascends (λ p q. text_cmp p.0 q.0) ps) (below_named p ps) ∙ ap (λ b. is_below text_cmp p.0 (map (λ q. q.0) ps) && b) (ascend_named ps)

abbrev IsFormedPair : Pair → Type 0
IsFormedPair p = IsFormedType p.1

within : (ps : List Pair) → AllByRecursion IsFormedPair ps → AllByRecursion IsFormedHere (types_within_attributes (attribute_types ps))
within [] h = tt
within (p ∷ ps) h = all-join IsFormedHere (types_within p.1) (types_within_attributes (attribute_types ps)) h.0 (within ps h.1)

pub record_formed : (ps : List Pair) → AllByRecursion IsFormedPair ps → IsFormedType (record_type ps)
record_formed ps h =
    let ps' = sorted (λ (p q : Pair). text_cmp p.0 q.0) ps in
    let ascending = ap (ascends text_cmp) (names_listed ps') ∙ sym (ascend_named ps') ∙ ascends-sorted (λ (p q : Pair). text_cmp p.0 q.0) (on_total (λ (p : Pair). p.0) nat_list_cmp_total) ps in
    all-join IsFormedHere (types_within_attributes (attribute_types ps')) (record_type ps ∷ []) (within ps' (all-sorted (λ (p q : Pair). text_cmp p.0 q.0) IsFormedPair ps h)) (ascending, tt)

-- ---- expressions

named_formed : (n : List ℕ) → IfSome (type_named n) IsFormedType
named_formed n = found_among IsFormedType (bytes_eq n) named_types ((tt, tt), ((tt, tt), ((tt, tt), ((tt, tt), ((tt, tt), ((tt, tt), tt))))))

atom_formed : (o : Option (List ℕ)) → IfSome (option_and_then type_named o) IsFormedType
atom_formed (Some n) = named_formed n
atom_formed None = tt

entity_formed : (es : Expressions) → IfOk (entity_type es) IsFormedType
entity_formed es = bound IsFormedType (demanded TypeFault (sole_text es)) _ (whichever _ (demanded TypeFault (sole_text es)) (λ name. (tt, tt)))

headed_formed : (n : List ℕ) (es : Expressions) (inner : Outcome PlainType) (pairs : Outcome (List Pair)) → IfOk inner IsFormedType → IfOk pairs (AllByRecursion IsFormedPair) → IfOk (headed_type n es inner pairs) IsFormedType
headed_formed n es inner pairs h g =
    either IsFormedType (bytes_eq n (codes "BitVec")) _ _ (bits_formed es)
    (either IsFormedType (bytes_eq n (codes "Option")) _ _ (bound IsFormedType inner _ (onward inner h option_formed))
    (either IsFormedType (bytes_eq n (codes "Set")) _ _ (bound IsFormedType inner _ (onward inner h set_formed))
    (either IsFormedType (bytes_eq n (codes "Entity")) _ _ (entity_formed es)
    (either IsFormedType (bytes_eq n (codes "Record")) _ _ (bound IsFormedType pairs _ (onward pairs g record_formed)) tt))))

mutual
  pub type_formed : (e : Expression) → IfOk (type_of_expression e) IsFormedType
  type_formed (Leaf a) = if_demanded IsFormedType TypeFault (option_and_then type_named (name_in (Leaf a))) (atom_formed (name_in (Leaf a)))
  type_formed (Node Nil) = tt
  type_formed (Node (Cons head es)) =
      bound IsFormedType (demanded TypeFault (name_in head)) _ (whichever _ (demanded TypeFault (name_in head)) (λ n. headed_formed n es (sole_type es) (attributes_of [] es) (sole_formed es) (attributes_formed [] es)))

  sole_formed : (es : Expressions) → IfOk (sole_type es) IsFormedType
  sole_formed Nil = tt
  sole_formed (Cons e Nil) = type_formed e
  sole_formed (Cons e (Cons f es)) = tt

  attributes_formed : (given : List (List ℕ)) (es : Expressions) → IfOk (attributes_of given es) (AllByRecursion IsFormedPair)
  attributes_formed given Nil = tt
  attributes_formed given (Cons (Node (Cons name (Cons type Nil))) es) =
      bound (AllByRecursion IsFormedPair) (new_attribute given name) _ (whichever _ (new_attribute given name) (λ a.
      bound (AllByRecursion IsFormedPair) (type_of_expression type) _ (onward (type_of_expression type) (type_formed type) (λ t h.
      if_followed (AllByRecursion IsFormedPair) (a, t) (attributes_of (given ++ a ∷ []) es) (onward (attributes_of (given ++ a ∷ []) es) (attributes_formed (given ++ a ∷ []) es) (λ rest r. (h, r)))))))
  attributes_formed given (Cons e es) = tt

-- ---- declarations

abbrev pub AreFormed : {A : Type 0} → (A → Type 0) → Declarations A → Type 0
AreFormed P ds = AllByRecursion (λ d. P d.1) ds

abbrev pub IsFormedFunction : PlainFunction → Type 0
IsFormedFunction f = IsFormedType f.argument × IsFormedType f.output

one_more : {A : Type 0} (P : A → Type 0) (ds : Declarations A) (d : List ℕ × A) → AreFormed P ds → P d.1 → AreFormed P (ds ++ d ∷ [])
one_more P [] d h p = (p, tt)
one_more P (e ∷ ds) d h p = (h.0, one_more P ds d h.1 p)

variable_formed : (vs : Declarations PlainType) (e : Expression) → IfOk (declared_variable vs e) (λ d. IsFormedType d.1)
variable_formed vs e =
    bound _ (demanded FormFault (pair_in e)) _ (whichever _ (demanded FormFault (pair_in e)) (λ p.
    bound _ (new_id vs p.0) _ (whichever _ (new_id vs p.0) (λ name. bound _ (type_of_expression p.1) _ (onward (type_of_expression p.1) (type_formed p.1) (λ t h. h))))))

function_formed : (fs : Declarations PlainFunction) (e : Expression) → IfOk (declared_function fs e) (λ d. IsFormedFunction d.1)
function_formed fs e =
    bound _ (demanded FormFault (triple_in e)) _ (whichever _ (demanded FormFault (triple_in e)) (λ p.
    bound _ (new_id fs p.0) _ (whichever _ (new_id fs p.0) (λ name.
    bound _ (type_of_expression p.1) _ (onward (type_of_expression p.1) (type_formed p.1) (λ t h.
    bound _ (type_of_expression p.2) _ (onward (type_of_expression p.2) (type_formed p.2) (λ u g. (h, g)))))))))

module _ {A : Type 0} (P : A → Type 0) (of : Declarations A → Expression → Outcome (List ℕ × A)) (each : (ds : Declarations A) (e : Expression) → IfOk (of ds e) (λ d. P d.1)) where
  pub all_formed : (ds : Declarations A) (es : Expressions) → AreFormed P ds → IfOk (declared_by of ds es) (AreFormed P)
  all_formed ds Nil h = h
  all_formed ds (Cons e es) h = bound (AreFormed P) (of ds e) _ (onward (of ds e) (each ds e) (λ d p. all_formed (ds ++ d ∷ []) es (one_more P ds d h p)))

pub record AreDeclaredFormed (ds : Declared) : Type 0 where
  pub variables : AreFormed IsFormedType ds.variables
  pub functions : AreFormed IsFormedFunction ds.functions

pub variables_formed : (es : Expressions) → IfOk (variables_of es) (AreFormed IsFormedType)
variables_formed es = all_formed IsFormedType declared_variable variable_formed [] es tt

pub functions_formed : (es : Expressions) → IfOk (functions_of es) (AreFormed IsFormedFunction)
functions_formed es = all_formed IsFormedFunction declared_function function_formed [] es tt

pub declared_formed : {A : Type 0} (P : A → Type 0) (ds : Declarations A) (id : List ℕ) → AreFormed P ds → IfSome (declared ds id) P
declared_formed P ds id h = found_among P (bytes_eq id) ds h
