-- What applications of operators are worth, where the texts of their arguments have the carried values.
use Rattle.std.proofs.Common.{◌≡◌, ℕ, zero, suc, ◌+◌, ◌-◌, ◌^◌, ◌<◌, ◌≤◌, true, List, [], ◌∷◌, length, refl, sym, ap, ap₂, ◌∙◌, subst, Option, Some, arith}
use Rattle.std.specs.Prelude.{codes, IsSome, is_some, nat_le}
use Rattle.std.specs.List.{AllByRecursion}
use Rattle.std.proofs.lemmas.Bool.{and_parts, leb-true, ltb-true}
use Rattle.std.proofs.Math.Pow.{pow-lt}
use Rattle.law_terms.specs.Plain.{PlainType, OptionType, BitVecType, BoolType, RecordType, AttributeTypes, no_attributes, attribute, PatternPart, PlainOp, BvnegoOp, EqOp, StringLikeOp, UufOp, ZeroExtendOp, PlainFunction, PlainTerm, PlainTerms, no_terms, one_term}
use Rattle.law_terms.specs.Meaning.{meaning, meanings}
use Rattle.law_terms.specs.Operators.{apply, attribute_value, value_inside}
use Rattle.law_terms.specs.Tables.{Interpretation, value_at}
use Rattle.law_terms.specs.Types.{type_of, types_of, type_eq, is_bits, inner_type, attribute_type, attribute_in, result_type}
use Rattle.law_terms.specs.TypeValues.{IsValue, Enums}
use Rattle.law_terms.specs.Values.{Value}
use Rattle.law_terms.proofs.TypeOrder.{eq_same}
use Rattle.law_terms.specs.Parts.{attribute_names}
use Rattle.law_scripts.specs.ScriptValues.{ScriptValue, BitsOf}
use Rattle.law_texts.specs.Reading.{Expression}
use Rattle.law_scripts.specs.ScriptOperators.{script_name}
use Rattle.law_scripts.specs.Script.{State, Selects, Function, name, group, pattern, operator_of}
use Rattle.law_texts.specs.Options.{◌>>=◌}
use Rattle.law_scripts.specs.Sorts as sorts
use Rattle.law_scripts.specs.Sorts.{entries}
use Rattle.law_scripts.specs.DeclarationLines.{DeclaresSelectors}
use Rattle.law_scripts.specs.Value.{ScriptInterpretation, expression_value, operator_value, in_table, selected}
use Rattle.law_scripts.specs.Value as script
use Rattle.law_scripts.specs.Meanings.{argument_values}
use Rattle.law_scripts.proofs.Apply.{operators_apply, functions_apply, selectors_apply, extensions_apply, matches_apply}
use Rattle.law_scripts.specs.WrittenStrings.{pattern_expr}
use Rattle.law_lines.specs.LineForms.{attribute_selectors, application_body, least_body, operator_head}
use Rattle.law_lines.specs.EntryNames.{attribute_name, place_of}
use Rattle.law_lines.specs.Lines.{attribute_place, bits, least_rendering}
use Rattle.law_lines.specs.NameTables.{Tables, name_of_type, name_of_function, text_of_name}
use Rattle.law_lines.specs.Naming.{type_sort, type_name}
use Rattle.law_lines.specs.Entries.{TypeHasEntries, text_or_nothing, texts_of, attribute_sorts, application_lines}
use Rattle.law_lines.specs.TermTexts.{text_of}
use Rattle.law_lines.specs.Encodable.{IsEncodableType}
use Rattle.law_lines.specs.Fit.{EachLine, LineIsDeclared}
use Rattle.law_lines.proofs.Declared.{types_are_declared, functions_are_declared}
use Rattle.law_theorem.specs.Carry.{carry}
use Rattle.law_theorem.specs.CarriedInterpretations.{carry_function, carry_inside}
use Rattle.law_theorem.specs.CarriedOperators.{AreValues, is_script_operator}
use Rattle.law_theorem.proofs.Keys.{function_keyed, sort_shows}
use Rattle.law_theorem.proofs.Negations.{negated}
use Rattle.law_theorem.proofs.Operators.{commutes}
use Rattle.law_theorem.proofs.Selectors.{attribute_selected, option_selected, table_read}
use Rattle.law_theorem.proofs.Agree.{attributes_found}
use Rattle.law_theorem.proofs.Named.{some_there, names_there}
use Rattle.law_theorem.proofs.Types.{type_stands}
use Rattle.law_theorem.proofs.Valued.{AreValued}
use Rattle.law_theorem.proofs.Worth.{Follows, carried, Worth, AreWorth, IsEntered, arguments, bits_worth, bits_fit, from_body, text_sorted}
use Rattle.law_terms.proofs.Soundness.{inside, chosen}

values : (enums : Enums) (I : Interpretation) (ts : PlainTerms) → AreValued enums I ts → AreValues enums (types_of ts) (meanings I ts)
values enums I no_terms h = tt
values enums I (one_term t ts) h = (h.1, values enums I ts h.3)

module _ (enums : Enums) (s : Tables) (state : State) (I : Interpretation) (x : Follows enums s state I) where
  abbrev J : ScriptInterpretation
  J = carried enums s state I

  abbrev Has : Expression → PlainType → Value → Type 0
  Has e ty v = Worth enums s state I e ty v

  pub operator : (f : List ℕ) (op : PlainOp) (ts : PlainTerms) (type : PlainType) → operator_of f ≡ Some op → is_script_operator op ≡ true → result_type op (types_of ts) ≡ Some type → AreValued enums I ts → AreWorth enums s state I ts
      → Has (group (name f ∷ texts_of s ts)) type (apply I op type (meanings I ts))
  operator f op ts type o p r v a =
      (operators_apply J state f op (texts_of s ts) o).0
      ∙ ap (λ (q : Option (List ScriptValue)). q >>= operator_value op) (arguments enums s state I ts a)
      ∙ commutes enums s x.enum_types I op type (types_of ts) (meanings I ts) p (values enums I ts v) r

  -- ---- the forms with an index or a pattern

  pub extended : (k : ℕ) (t : PlainTerm) (type : PlainType) → result_type (ZeroExtendOp k) (type_of t ∷ []) ≡ Some type → IsValue enums (type_of t) (meaning I t) → Has (text_or_nothing (text_of s t)) (type_of t) (meaning I t)
      → Has (application_body (operator_head (ZeroExtendOp k)) (ZeroExtendOp k) (text_or_nothing (text_of s t) ∷ [])) type (apply I (ZeroExtendOp k) type (meaning I t ∷ []))
  extended k t type r v a =
      (extensions_apply J state k (text_or_nothing (text_of s t))).0
      ∙ ap (λ (q : Option ScriptValue). q >>= λ w. operator_value (ZeroExtendOp k) (w ∷ [])) a
      ∙ commutes enums s x.enum_types I (ZeroExtendOp k) type (type_of t ∷ []) (meaning I t ∷ []) refl (v, tt) r

  pub matched : (p : List PatternPart) (t : PlainTerm) (type : PlainType) → pattern (pattern_expr p) ≡ Some p → result_type (StringLikeOp p) (type_of t ∷ []) ≡ Some type → IsValue enums (type_of t) (meaning I t) → Has (text_or_nothing (text_of s t)) (type_of t) (meaning I t)
      → Has (application_body (operator_head (StringLikeOp p)) (StringLikeOp p) (text_or_nothing (text_of s t) ∷ [])) type (apply I (StringLikeOp p) type (meaning I t ∷ []))
  matched p t type h r v a =
      (matches_apply J state (text_or_nothing (text_of s t)) (pattern_expr p) p h).0
      ∙ ap (λ (q : Option ScriptValue). q >>= λ w. operator_value (StringLikeOp p) (w ∷ [])) a
      ∙ commutes enums s x.enum_types I (StringLikeOp p) type (type_of t ∷ []) (meaning I t ∷ []) refl (v, tt) r

  -- ---- functions

  pub function : (f : PlainFunction) (t : PlainTerm) (type : PlainType) → result_type (UufOp f) (type_of t ∷ []) ≡ Some type → AllByRecursion (λ e. IsValue enums f.argument e.0) (I.function f).entries → IsSome (name_of_function s f)
      → IsValue enums (type_of t) (meaning I t) → Has (text_or_nothing (text_of s t)) (type_of t) (meaning I t) → Has (group (name (text_of_name (name_of_function s f)) ∷ text_or_nothing (text_of s t) ∷ [])) type (value_at (I.function f) (meaning I t))
  function f t type r keys there v a =
      let n = text_of_name (name_of_function s f) in
      let e : name_of_function s f ≡ Some n = some_there (name_of_function s f) there in
      let d = (functions_are_declared enums s state f n x.fit e).0.1.0 in
      let c : (type_eq (type_of t) f.argument ≡ true) × (f.output ≡ type) = chosen (type_eq (type_of t) f.argument) f.output type r in
      let q : type_of t ≡ f.argument = eq_same (type_of t) f.argument c.0 in
      let k = ap (carry_function enums s I) (function_keyed s f n x.one_to_one.functions e) in
      functions_apply J state n (type_sort s f.argument) (type_sort s f.output) (text_or_nothing (text_of s t)) (carry enums s (type_of t) (meaning I t)) (x.last.own n (Function (type_sort s f.argument) (type_sort s f.output)) d) d a
      ∙ ap (λ (table : script.Table). Some (in_table table (carry enums s (type_of t) (meaning I t)))) k
      ∙ ap (λ (u : PlainType). Some (in_table (carry_function enums s I (Some f)) (carry enums s u (meaning I t)))) q
      ∙ ap (λ (w : ScriptValue). Some w) (table_read enums s x.enum_types f.argument f.output (I.function f) (meaning I t) keys (subst (λ u. IsValue enums u (meaning I t)) q v))
      ∙ ap (λ (u : PlainType). Some (carry enums s u (value_at (I.function f) (meaning I t)))) c.1

  -- ---- attributes

  selector_there : (n : List ℕ) (from : ℕ) (es : List Expression) (place : ℕ) → place < length es → DeclaresSelectors (entries state) n [] n from (attribute_selectors n from es)
      → (field : Expression) × (entries state (attribute_name n (from + place)) ≡ Some (Selects n [] n (from + place) field))
  selector_there n from [] place lt h = absurd (omega arith)
  selector_there n from (e ∷ es) zero lt h =
      let z : from ≡ from + zero = omega arith in
      (e, subst (λ k. entries state (attribute_name n k) ≡ Some (Selects n [] n k e)) z h.0)
  selector_there n from (e ∷ es) (suc place) lt h =
      let z : suc from + place ≡ from + suc place = omega arith in
      let lt' : place < length es = omega arith in
      let r = selector_there n (suc from) es place lt' h.1 in
      (r.0, subst (λ k. entries state (attribute_name n k) ≡ Some (Selects n [] n k r.0)) z r.1)

  sorts_counted : (fs : AttributeTypes) → length (attribute_sorts s fs) ≡ length (attribute_names fs)
  sorts_counted no_attributes = refl
  sorts_counted (attribute a t fs) = ap suc (sorts_counted fs)

  attribute_worth : (a : List ℕ) (fs : AttributeTypes) (type : PlainType) (e : Expression) (w : Value) → attribute_in a fs ≡ Some type → IsSome (name_of_type s (RecordType fs)) → IsValue enums (RecordType fs) w → Has e (RecordType fs) w
      → Has (group (name (attribute_name (type_name s (RecordType fs)) (place_of a (attribute_names fs))) ∷ e ∷ [])) type (attribute_value a w)
  attribute_worth a fs type e w r there v h =
      let n = type_name s (RecordType fs) in
      let place = place_of a (attribute_names fs) in
      let d = (types_are_declared enums s state (RecordType fs) n x.fit (some_there (name_of_type s (RecordType fs)) there)).0.1.0.1.1 in
      let lt : place < length (attribute_names fs) = ltb-true place (length (attribute_names fs)) (attributes_found a fs ∙ ap is_some r) in
      let lt' : place < length (attribute_sorts s fs) = subst (λ k. place < k) (sym (sorts_counted fs)) lt in
      let q = selector_there n 0 (attribute_sorts s fs) place lt' d in
      let z : 0 + place ≡ place = omega arith in
      let entry = subst (λ k. entries state (attribute_name n k) ≡ Some (Selects n [] n k q.0)) z q.1 in
      selectors_apply J state (attribute_name n place) n [] n place q.0 e (carry enums s (RecordType fs) w) (x.last.own (attribute_name n place) (Selects n [] n place q.0) entry) entry h
      ∙ attribute_selected enums s J (attribute_name n place) a n [] (sorts.expression_sort state e) fs type w v r

  pub attribute_of : (a : List ℕ) (t : PlainTerm) (u type : PlainType) → type_of t ≡ u → attribute_type a u ≡ Some type → IsSome (name_of_type s (type_of t)) → IsValue enums (type_of t) (meaning I t) → Has (text_or_nothing (text_of s t)) (type_of t) (meaning I t)
      → Has (group (name (attribute_name (type_name s (type_of t)) (attribute_place a (type_of t))) ∷ text_or_nothing (text_of s t) ∷ [])) type (attribute_value a (meaning I t))
  attribute_of a t (RecordType fs) type e r there v h =
      subst (λ u. Has (group (name (attribute_name (type_name s u) (attribute_place a u)) ∷ text_or_nothing (text_of s t) ∷ [])) type (attribute_value a (meaning I t))) (sym e)
      (attribute_worth a fs type (text_or_nothing (text_of s t)) (meaning I t) r (subst (λ u. IsSome (name_of_type s u)) e there) (subst (λ u. IsValue enums u (meaning I t)) e v) (subst (λ u. Has (text_or_nothing (text_of s t)) u (meaning I t)) e h))
  attribute_of a t u type e r there v h = cc

  -- ---- options

  inside_worth : (type : PlainType) (e : Expression) (w : Value) → IsEncodableType enums type → TypeHasEntries s type → sorts.expression_sort state e ≡ Some (type_sort s (OptionType type)) → IsValue enums (OptionType type) w → Has e (OptionType type) w
      → Has (group (name (codes "val") ∷ e ∷ [])) type (value_inside (I.inside_none type) w)
  inside_worth type e w fine sort q v h =
      let entry = x.fit.option_is_declared.1.2.1.0 in
      let declared = type_stands enums s state x.fit type fine sort in
      let shows = sort_shows enums s (entries state) x.one_to_one.types (OptionType type) declared (names_there enums s state x.fit type sort) in
      selectors_apply J state (codes "val") (codes "Option") (codes "X" ∷ []) (codes "some") 0 (name (codes "X")) e (carry enums s (OptionType type) w) refl entry h
      ∙ ap (λ (o : Option Expression). selected J (codes "val") (codes "Option") (codes "X" ∷ []) (codes "some") 0 o (carry enums s (OptionType type) w)) q
      ∙ option_selected enums s I J (codes "X") (type_sort s (OptionType type)) type w v (ap (carry_inside enums s I) shows)

  pub inside_of : (t : PlainTerm) (u type : PlainType) → type_of t ≡ u → inner_type u ≡ Some type → IsEncodableType enums type → TypeHasEntries s type → IsSome (text_of s t) → IsValue enums (type_of t) (meaning I t) → Has (text_or_nothing (text_of s t)) (type_of t) (meaning I t)
      → Has (group (name (codes "val") ∷ text_or_nothing (text_of s t) ∷ [])) type (value_inside (I.inside_none type) (meaning I t))
  inside_of t (OptionType u) type e r fine sort there v h =
      let q : OptionType u ≡ OptionType type = ap OptionType (inside u type r) in
      let l : type_of t ≡ OptionType type = e ∙ q in
      inside_worth type (text_or_nothing (text_of s t)) (meaning I t) fine sort
      (text_sorted enums s state I x t (subst IsEntered (sym l) tt) there ∙ ap (λ u. Some (type_sort s u)) l)
      (subst (λ u. IsValue enums u (meaning I t)) l v) (subst (λ u. Has (text_or_nothing (text_of s t)) u (meaning I t)) l h)
  inside_of t u type e r fine sort there v h = cc

  -- ---- the overflow of a negation

  two_values : (e f : Expression) (a b : ScriptValue) → expression_value J state e ≡ Some a → expression_value J state f ≡ Some b → argument_values J state (e ∷ f ∷ []) ≡ Some (a ∷ b ∷ [])
  two_values e f a b h k = ap₂ (λ (o p : Option ScriptValue). sorts.each_there (o ∷ p ∷ [])) h k

  pub negation : (t : PlainTerm) (u : PlainType) (n : List ℕ) → is_bits u ≡ true → IsEncodableType enums u → EachLine (LineIsDeclared state) (application_lines enums s (least_rendering u) BvnegoOp (one_term t no_terms) BoolType n)
      → IsValue enums u (meaning I t) → Has (text_or_nothing (text_of s t)) u (meaning I t) → Has (name n) BoolType (apply I BvnegoOp BoolType (meaning I t ∷ []))
  negation t (BitVecType w) n b fine h v k =
      let one : 1 ≤ w = leb-true 1 w (and_parts (nat_le 1 w) (nat_le w 128) fine).0 in
      let z : w - 1 < w = omega arith in
      let least : Expression = bits w (2 ^ (w - 1)) in
      from_body enums s state I x n (type_sort s BoolType) (least_body w (text_or_nothing (text_of s t) ∷ [])) (Some (carry enums s BoolType (apply I BvnegoOp BoolType (meaning I t ∷ [])))) h.0
      ((operators_apply J state (script_name EqOp) EqOp (text_or_nothing (text_of s t) ∷ least ∷ []) refl).0
      ∙ ap (λ (q : Option (List ScriptValue)). q >>= operator_value EqOp) (two_values (text_or_nothing (text_of s t)) least (carry enums s (BitVecType w) (meaning I t)) (BitsOf w (2 ^ (w - 1))) k (bits_worth enums s state I w (2 ^ (w - 1)) (bits_fit w (2 ^ (w - 1)) fine (pow-lt z))))
      ∙ negated enums s x.enum_types I w (meaning I t) one v)
  negation t u n b fine h v k = cc
