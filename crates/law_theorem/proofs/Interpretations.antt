-- Interpretations carried and back.
use Rattle.std.proofs.Common.{◌≡◌, ℕ, Bool, true, false, ◌&&◌, ◌||◌, List, [], ◌∷◌, map, refl, sym, ap, ◌∙◌, arith}
use Rattle.std.specs.Prelude.{not, codes, IsTrue}
use Rattle.std.specs.List.{AllByRecursion, list_any}
use Rattle.std.specs.Cmp.{first_so, second_so}
use Rattle.std.proofs.lemmas.Bool.{and_from, and_parts}
use Rattle.law_terms.specs.Plain.{PlainType, PlainFunction, ExtensionOp, IpAddrV4Op, IpAddrV6Op, IpPrefixV4Op, IpPrefixV6Op, PlainOp, ExtOp, OptionGetOp, UufOp, PlainTerm, Application, VariableTerm, Ipv4Of, Ipv6Of}
use Rattle.law_terms.specs.Values.{Value, ExtensionValue}
use Rattle.law_scripts.specs.ScriptValues.{ScriptValue}
use Rattle.law_terms.specs.Interpretations.{AreDistinct, IsOfOtherFamily, IsSelectorTable, IsGivenOp, IsGiven, IsInterpretation, GiveSameOp, GiveSame, Agree}
use Rattle.law_terms.specs.Reached.{reached_terms}
use Rattle.law_terms.specs.Tables.{Table, Interpretation}
use Rattle.law_terms.specs.Types.{extension_signature}
use Rattle.law_terms.specs.TypeValues.{IsValue, Enums, AreEnums}
use Rattle.law_terms.specs.ValueOrder.{value_eq}
use Rattle.law_scripts.specs.Script.{name}
use Rattle.law_scripts.specs.Sorts.{Entries, has_sort_in, option_sort}
use Rattle.law_scripts.specs.Value as script
use Rattle.law_scripts.specs.Value.{is_key, are_pairs, is_table, is_other, are_others}
use Rattle.law_lines.specs.NameTables.{Tables}
use Rattle.law_lines.specs.Naming.{IsOneToOne, type_sort}
use Rattle.law_theorem.specs.Carry.{carry, back}
use Rattle.law_lines.specs.EntryNames.{selector_name}
use Rattle.law_theorem.specs.CarriedOperators.{carry_table, carry_selector, selector_constructor}
use Rattle.law_theorem.specs.CarriedSorts.{DeclaresOption, TypeIsDeclared}
use Rattle.law_theorem.specs.CarriedInterpretations.{ip_type, wrapped_type, carry_constant, carry_function, carry_inside, carry_interpretation, back_table, back_interpretation, variable_name, function_name, is_range_selector, IsScriptGivenOp, IsScriptGiven, GivesReachedNames, GiveOpSame, GiveNameSame, AgreeOnNames, IsOpNamed, IsTermNamed, DeclaresReached}
use Rattle.law_theorem.proofs.Keys.{term_keyed, function_keyed, sort_shows}
use Rattle.law_theorem.proofs.Onto.{onto}
use Rattle.law_theorem.proofs.Onto as value
use Rattle.law_theorem.proofs.Ordered.{same_values}
use Rattle.law_theorem.proofs.Sorted.{sorted_value}
use Rattle.law_theorem.proofs.Open.{every}

all_joined : {A : Type 0} (P Q R : A → Type 0) → ((x : A) → P x → Q x → R x) → (xs : List A) → AllByRecursion P xs → AllByRecursion Q xs → AllByRecursion R xs
all_joined P Q R f [] h k = tt
all_joined P Q R f (x ∷ xs) h k = (f x h.0 k.0, all_joined P Q R f xs h.1 k.1)

not_false : (b : Bool) → b ≡ false → not b ≡ true
not_false b h = ap not h

from_not : (b : Bool) → not b ≡ true → b ≡ false
from_not true h = cc
from_not false h = refl

abbrev carry_pair : Enums → Tables → PlainType → PlainType → Value × Value → ScriptValue × ScriptValue
carry_pair enums s a o e = (carry enums s a e.0, carry enums s o e.1)

abbrev back_pair : Enums → PlainType → PlainType → ScriptValue × ScriptValue → Value × Value
back_pair enums a o p = (back enums a p.0, back enums o p.1)

-- families
other_to : (enums : Enums) (s : Tables) (o : ExtensionOp) (v : Value) → IsOfOtherFamily o v → is_other (selector_constructor o) (carry enums s ip_type v) ≡ true
other_to enums s IpAddrV4Op (ExtensionValue (Ipv6Of a p)) h = refl
other_to enums s IpPrefixV4Op (ExtensionValue (Ipv6Of a p)) h = refl
other_to enums s IpAddrV6Op (ExtensionValue (Ipv4Of a p)) h = refl
other_to enums s IpPrefixV6Op (ExtensionValue (Ipv4Of a p)) h = refl
other_to enums s o v h = absurd h

other_from : (enums : Enums) (s : Tables) (o : ExtensionOp) (v : Value) → is_range_selector o ≡ true → IsValue enums ip_type v → is_other (selector_constructor o) (carry enums s ip_type v) ≡ true → IsOfOtherFamily o v
other_from enums s IpAddrV4Op (ExtensionValue (Ipv4Of a p)) r h e = absurd cc
other_from enums s IpAddrV4Op (ExtensionValue (Ipv6Of a p)) r h e = tt
other_from enums s IpPrefixV4Op (ExtensionValue (Ipv4Of a p)) r h e = absurd cc
other_from enums s IpPrefixV4Op (ExtensionValue (Ipv6Of a p)) r h e = tt
other_from enums s IpAddrV6Op (ExtensionValue (Ipv4Of a p)) r h e = tt
other_from enums s IpAddrV6Op (ExtensionValue (Ipv6Of a p)) r h e = absurd cc
other_from enums s IpPrefixV6Op (ExtensionValue (Ipv4Of a p)) r h e = tt
other_from enums s IpPrefixV6Op (ExtensionValue (Ipv6Of a p)) r h e = absurd cc
other_from enums s IpAddrV4Op v r h e = absurd h
other_from enums s IpPrefixV4Op v r h e = absurd h
other_from enums s IpAddrV6Op v r h e = absurd h
other_from enums s IpPrefixV6Op v r h e = absurd h
other_from enums s o v r h e = absurd cc

module _ (enums : Enums) (s : Tables) (here : Entries) (good : AreEnums enums) (always : DeclaresOption here) where
  answer_declared : (o : ExtensionOp) → is_range_selector o ≡ true → TypeIsDeclared enums s here (extension_signature o).1
  answer_declared IpAddrV4Op r = (omega arith, omega arith)
  answer_declared IpAddrV6Op r = (omega arith, omega arith)
  answer_declared IpPrefixV4Op r = (omega arith, omega arith)
  answer_declared IpPrefixV6Op r = (omega arith, omega arith)
  answer_declared o r = absurd cc

  -- ---- tables

  module _ (a o : PlainType) (da : TypeIsDeclared enums s here a) (dz : TypeIsDeclared enums s here o) where
    abbrev Keys : List (Value × Value) → Type 0
    Keys es = AllByRecursion (λ e. IsValue enums a e.0) es

    abbrev Answers : List (Value × Value) → Type 0
    Answers es = AllByRecursion (λ e. IsValue enums o e.1) es

    key_carried : (k : Value) (es : List (Value × Value)) → IsValue enums a k → Keys es → is_key (carry enums s a k) (map (carry_pair enums s a o) es) ≡ list_any (value_eq k) (map (λ e. e.0) es)
    key_carried k [] h g = refl
    key_carried k (e ∷ es) h g = λ i. same_values enums s good a k e.0 h g.0 i || key_carried k es h g.1 i

    pairs_sorted : (es : List (Value × Value)) → Keys es → AreDistinct (map (λ e. e.0) es) → Answers es → are_pairs here (type_sort s a) (type_sort s o) (map (carry_pair enums s a o) es) ≡ true
    pairs_sorted [] h d g = refl
    pairs_sorted (e ∷ es) h d g =
        and_from (has_sort_in here (type_sort s a) (carry enums s a e.0) && has_sort_in here (type_sort s o) (carry enums s o e.1) && not (is_key (carry enums s a e.0) (map (carry_pair enums s a o) es))) (are_pairs here (type_sort s a) (type_sort s o) (map (carry_pair enums s a o) es))
        (and_from (has_sort_in here (type_sort s a) (carry enums s a e.0) && has_sort_in here (type_sort s o) (carry enums s o e.1)) (not (is_key (carry enums s a e.0) (map (carry_pair enums s a o) es)))
        (and_from (has_sort_in here (type_sort s a) (carry enums s a e.0)) (has_sort_in here (type_sort s o) (carry enums s o e.1)) (sorted_value here always enums s good a e.0 da h.0) (sorted_value here always enums s good o e.1 dz g.0))
        (not_false (is_key (carry enums s a e.0) (map (carry_pair enums s a o) es)) (key_carried e.0 es h.0 h.1 ∙ d.0)))
        (pairs_sorted es h.1 d.1 g.1)

    table_sorted : (table : Table) → Keys table.entries → AreDistinct (map (λ e. e.0) table.entries) → Answers table.entries → IsValue enums o table.elsewhere → is_table here (type_sort s a) (type_sort s o) (carry_table enums s a o table) ≡ true
    table_sorted table h d g e = and_from (are_pairs here (type_sort s a) (type_sort s o) (map (carry_pair enums s a o) table.entries)) (has_sort_in here (type_sort s o) (carry enums s o table.elsewhere)) (pairs_sorted table.entries h d g) (sorted_value here always enums s good o table.elsewhere dz e)

    record Back (ps : List (ScriptValue × ScriptValue)) : Type 0 where
      pub keys : Keys (map (back_pair enums a o) ps)
      pub distinct : AreDistinct (map (λ e. e.0) (map (back_pair enums a o) ps))
      pub answers : Answers (map (back_pair enums a o) ps)
      pub again : map (carry_pair enums s a o) (map (back_pair enums a o) ps) ≡ ps

    pairs_back : (ps : List (ScriptValue × ScriptValue)) → are_pairs here (type_sort s a) (type_sort s o) ps ≡ true → Back ps
    pairs_back [] h = record { keys = tt; distinct = tt; answers = tt; again = refl }
    pairs_back (p ∷ ps) h =
        let front : (has_sort_in here (type_sort s a) p.0 && has_sort_in here (type_sort s o) p.1 && not (is_key p.0 ps)) ≡ true = first_so (has_sort_in here (type_sort s a) p.0 && has_sort_in here (type_sort s o) p.1 && not (is_key p.0 ps)) (are_pairs here (type_sort s a) (type_sort s o) ps) h in
        let both : (has_sort_in here (type_sort s a) p.0 && has_sort_in here (type_sort s o) p.1) ≡ true = first_so (has_sort_in here (type_sort s a) p.0 && has_sort_in here (type_sort s o) p.1) (not (is_key p.0 ps)) front in
        let r : Back ps = pairs_back ps (second_so (has_sort_in here (type_sort s a) p.0 && has_sort_in here (type_sort s o) p.1 && not (is_key p.0 ps)) (are_pairs here (type_sort s a) (type_sort s o) ps) h) in
        let k : IsValue enums a (back enums a p.0) × (carry enums s a (back enums a p.0) ≡ p.0) = onto here always enums s good a p.0 da (first_so (has_sort_in here (type_sort s a) p.0) (has_sort_in here (type_sort s o) p.1) both) in
        let v : IsValue enums o (back enums o p.1) × (carry enums s o (back enums o p.1) ≡ p.1) = onto here always enums s good o p.1 dz (second_so (has_sort_in here (type_sort s a) p.0) (has_sort_in here (type_sort s o) p.1) both) in
        let n : is_key p.0 ps ≡ false = from_not (is_key p.0 ps) (second_so (has_sort_in here (type_sort s a) p.0 && has_sort_in here (type_sort s o) p.1) (not (is_key p.0 ps)) front) in
        record {
          keys = (k.0, r.keys);
          distinct = (sym (key_carried (back enums a p.0) (map (back_pair enums a o) ps) k.0 r.keys) ∙ ((λ i. is_key (k.1 i) (r.again i)) ∙ n), r.distinct);
          answers = (v.0, r.answers);
          again = λ i. (k.1 i, v.1 i) ∷ r.again i;
        }

    table_pairs : (table : script.Table) → is_table here (type_sort s a) (type_sort s o) table ≡ true → Back table.pairs
    table_pairs table h = pairs_back table.pairs (first_so (are_pairs here (type_sort s a) (type_sort s o) table.pairs) (has_sort_in here (type_sort s o) table.default) h)

    default_back : (table : script.Table) → is_table here (type_sort s a) (type_sort s o) table ≡ true → IsValue enums o (back enums o table.default) × (carry enums s o (back enums o table.default) ≡ table.default)
    default_back table h = onto here always enums s good o table.default dz (second_so (are_pairs here (type_sort s a) (type_sort s o) table.pairs) (has_sort_in here (type_sort s o) table.default) h)

    table_again : (table : script.Table) → is_table here (type_sort s a) (type_sort s o) table ≡ true → carry_table enums s a o (back_table enums a o table) ≡ table
    table_again table h = λ i. record { pairs = (table_pairs table h).again i; default = (default_back table h).1 i }

  -- ---- carried

  module _ (unique : IsOneToOne s) where
    module _ (I : Interpretation) where
      constant_is : (id : List ℕ) (t : PlainType) → IsTermNamed enums s here (VariableTerm id t) → (carry_interpretation enums s I).constants (variable_name s id t) ≡ carry enums s t (I.variable id t)
      constant_is id t d = ap (carry_constant enums s I) (term_keyed s (VariableTerm id t) (variable_name s id t) unique.terms d.0)

      function_is : (f : PlainFunction) (t : PlainType) → IsOpNamed enums s here (UufOp f) t → (carry_interpretation enums s I).functions (function_name s f) ≡ carry_table enums s f.argument f.output (I.function f)
      function_is f t d = ap (carry_function enums s I) (function_keyed s f (function_name s f) unique.functions d.0)

      option_is : (t : PlainType) → IsOpNamed enums s here OptionGetOp t → (carry_interpretation enums s I).options (option_sort (type_sort s t)) ≡ carry enums s t (I.inside_none t)
      option_is t d = ap (λ o. carry_inside enums s I (wrapped_type (name (codes "Option")) o)) (sort_shows enums s here unique.types t d.0 d.1)

      range_carried : (o : ExtensionOp) → is_range_selector o ≡ true → TypeIsDeclared enums s here ip_type → IsSelectorTable enums I o
          → IsTrue (is_table here (type_sort s ip_type) (type_sort s (extension_signature o).1) (carry_selector enums s I o)) × IsTrue (are_others (selector_constructor o) (carry_selector enums s I o).pairs)
      range_carried o r d g = (
        table_sorted ip_type (extension_signature o).1 d (answer_declared o r) (I.other_family o) (every (λ e. IsOfOtherFamily o e.0 × IsValue enums ip_type e.0) (λ e. IsValue enums ip_type e.0) (λ e p. p.1) (I.other_family o).entries g.keys) g.distinct g.answers g.elsewhere,
        others (I.other_family o).entries g.keys,
      )
        where
          others : (es : List (Value × Value)) → AllByRecursion (λ e. IsOfOtherFamily o e.0 × IsValue enums ip_type e.0) es → are_others (selector_constructor o) (map (carry_pair enums s ip_type (extension_signature o).1) es) ≡ true
          others [] h = refl
          others (e ∷ es) h = and_from (is_other (selector_constructor o) (carry enums s ip_type e.0)) (are_others (selector_constructor o) (map (carry_pair enums s ip_type (extension_signature o).1) es)) (other_to enums s o e.0 h.0.0) (others es h.1)

      op_carried : (op : PlainOp) (t : PlainType) → IsOpNamed enums s here op t → IsGivenOp enums I op t → IsScriptGivenOp s here (carry_interpretation enums s I) op t
      op_carried (UufOp f) t d g =
          ap (is_table here (type_sort s f.argument) (type_sort s f.output)) (function_is f t d)
          ∙ table_sorted f.argument f.output d.1 d.2 (I.function f) g.keys g.distinct g.answers g.elsewhere
      op_carried OptionGetOp t d g = ap (has_sort_in here (type_sort s t)) (option_is t d) ∙ sorted_value here always enums s good t (I.inside_none t) d.0 g
      op_carried (ExtOp IpAddrV4Op) t d g = range_carried IpAddrV4Op refl d g
      op_carried (ExtOp IpAddrV6Op) t d g = range_carried IpAddrV6Op refl d g
      op_carried (ExtOp IpPrefixV4Op) t d g = range_carried IpPrefixV4Op refl d g
      op_carried (ExtOp IpPrefixV6Op) t d g = range_carried IpPrefixV6Op refl d g
      op_carried (ExtOp o) t d g = tt
      op_carried op t d g = tt

      term_carried : (u : PlainTerm) → IsTermNamed enums s here u → IsGiven enums I u → IsScriptGiven s here (carry_interpretation enums s I) u
      term_carried (VariableTerm id t) d g = ap (has_sort_in here (type_sort s t)) (constant_is id t d) ∙ sorted_value here always enums s good t (I.variable id t) d.1 g
      term_carried (Application op ts t) d g = op_carried op t d g
      term_carried u d g = tt

      -- ---- what is carried comes back

      table_returns : (a o : PlainType) → TypeIsDeclared enums s here a → TypeIsDeclared enums s here o → (table : Table) → AllByRecursion (λ e. IsValue enums a e.0) table.entries → AllByRecursion (λ e. IsValue enums o e.1) table.entries → IsValue enums o table.elsewhere
          → back_table enums a o (carry_table enums s a o table) ≡ table
      table_returns a o da dz table h g e = λ i. record { entries = pairs table.entries h g i; elsewhere = value.comes_back here always enums s good o table.elsewhere dz e i }
        where
          pairs : (es : List (Value × Value)) → AllByRecursion (λ x. IsValue enums a x.0) es → AllByRecursion (λ x. IsValue enums o x.1) es → map (back_pair enums a o) (map (carry_pair enums s a o) es) ≡ es
          pairs [] h g = refl
          pairs (x ∷ es) h g = λ i. (value.comes_back here always enums s good a x.0 da h.0 i, value.comes_back here always enums s good o x.1 dz g.0 i) ∷ pairs es h.1 g.1 i

      range_returns : (o : ExtensionOp) → is_range_selector o ≡ true → TypeIsDeclared enums s here ip_type → IsSelectorTable enums I o → I.other_family o ≡ back_table enums ip_type (extension_signature o).1 (carry_selector enums s I o)
      range_returns o r d g =
          sym (table_returns ip_type (extension_signature o).1 d (answer_declared o r) (I.other_family o) (every (λ e. IsOfOtherFamily o e.0 × IsValue enums ip_type e.0) (λ e. IsValue enums ip_type e.0) (λ e p. p.1) (I.other_family o).entries g.keys) g.answers g.elsewhere)

      op_returns : (op : PlainOp) (t : PlainType) → IsOpNamed enums s here op t → IsGivenOp enums I op t → GiveSameOp I (back_interpretation enums s (carry_interpretation enums s I)) op t
      op_returns (UufOp f) t d g = sym (ap (back_table enums f.argument f.output) (function_is f t d) ∙ table_returns f.argument f.output d.1 d.2 (I.function f) g.keys g.answers g.elsewhere)
      op_returns OptionGetOp t d g = sym (ap (back enums t) (option_is t d) ∙ value.comes_back here always enums s good t (I.inside_none t) d.0 g)
      op_returns (ExtOp IpAddrV4Op) t d g = range_returns IpAddrV4Op refl d g
      op_returns (ExtOp IpAddrV6Op) t d g = range_returns IpAddrV6Op refl d g
      op_returns (ExtOp IpPrefixV4Op) t d g = range_returns IpPrefixV4Op refl d g
      op_returns (ExtOp IpPrefixV6Op) t d g = range_returns IpPrefixV6Op refl d g
      op_returns (ExtOp o) t d g = tt
      op_returns op t d g = tt

      term_returns : (u : PlainTerm) → IsTermNamed enums s here u → IsGiven enums I u → GiveSame I (back_interpretation enums s (carry_interpretation enums s I)) u
      term_returns (VariableTerm id t) d g = sym (ap (back enums t) (constant_is id t d) ∙ value.comes_back here always enums s good t (I.variable id t) d.1 g)
      term_returns (Application op ts t) d g = op_returns op t d g
      term_returns u d g = tt

    -- ---- back

    module _ (J : script.ScriptInterpretation) where
      range_back : (o : ExtensionOp) → is_range_selector o ≡ true → TypeIsDeclared enums s here ip_type
          → IsTrue (is_table here (type_sort s ip_type) (type_sort s (extension_signature o).1) (J.selectors (selector_name o))) × IsTrue (are_others (selector_constructor o) (J.selectors (selector_name o)).pairs)
          → IsSelectorTable enums (back_interpretation enums s J) o
      range_back o r d g =
          let b : Back ip_type (extension_signature o).1 d (answer_declared o r) (J.selectors (selector_name o)).pairs = table_pairs ip_type (extension_signature o).1 d (answer_declared o r) (J.selectors (selector_name o)) g.0 in
          record {
            keys = others (J.selectors (selector_name o)).pairs b.keys b.again g.1;
            distinct = b.distinct;
            answers = b.answers;
            elsewhere = (default_back ip_type (extension_signature o).1 d (answer_declared o r) (J.selectors (selector_name o)) g.0).0;
          }
        where
          first_key : (x y : ScriptValue × ScriptValue) (xs ys : List (ScriptValue × ScriptValue)) → ◌≡◌ {A = List (ScriptValue × ScriptValue)} (x ∷ xs) (y ∷ ys) → x.0 ≡ y.0
          first_key x y xs ys e = let p : x ≡ y = cc in ap (λ (q : ScriptValue × ScriptValue). q.0) p

          rest_keys : (x y : ScriptValue × ScriptValue) (xs ys : List (ScriptValue × ScriptValue)) → ◌≡◌ {A = List (ScriptValue × ScriptValue)} (x ∷ xs) (y ∷ ys) → xs ≡ ys
          rest_keys x y xs ys e = cc

          others : (ps : List (ScriptValue × ScriptValue)) → AllByRecursion (λ e. IsValue enums ip_type e.0) (map (back_pair enums ip_type (extension_signature o).1) ps)
              → map (carry_pair enums s ip_type (extension_signature o).1) (map (back_pair enums ip_type (extension_signature o).1) ps) ≡ ps → are_others (selector_constructor o) ps ≡ true
              → AllByRecursion (λ e. IsOfOtherFamily o e.0 × IsValue enums ip_type e.0) (map (back_pair enums ip_type (extension_signature o).1) ps)
          others [] h e a = tt
          others (p ∷ ps) h e a =
              let x : ScriptValue × ScriptValue = carry_pair enums s ip_type (extension_signature o).1 (back_pair enums ip_type (extension_signature o).1 p) in
              let xs : List (ScriptValue × ScriptValue) = map (carry_pair enums s ip_type (extension_signature o).1) (map (back_pair enums ip_type (extension_signature o).1) ps) in
              let q = and_parts (is_other (selector_constructor o) p.0) (are_others (selector_constructor o) ps) a in
              ((other_from enums s o (back enums ip_type p.0) r h.0 (ap (is_other (selector_constructor o)) (first_key x p xs ps e) ∙ q.0), h.0), others ps h.1 (rest_keys x p xs ps e) q.1)

      op_back : (op : PlainOp) (t : PlainType) → IsOpNamed enums s here op t → IsScriptGivenOp s here J op t → IsGivenOp enums (back_interpretation enums s J) op t
      op_back (UufOp f) t d g =
          let b : Back f.argument f.output d.1 d.2 (J.functions (function_name s f)).pairs = table_pairs f.argument f.output d.1 d.2 (J.functions (function_name s f)) g in
          record { keys = b.keys; distinct = b.distinct; answers = b.answers; elsewhere = (default_back f.argument f.output d.1 d.2 (J.functions (function_name s f)) g).0 }
      op_back OptionGetOp t d g = (onto here always enums s good t (J.options (option_sort (type_sort s t))) d.0 g).0
      op_back (ExtOp IpAddrV4Op) t d g = range_back IpAddrV4Op refl d g
      op_back (ExtOp IpAddrV6Op) t d g = range_back IpAddrV6Op refl d g
      op_back (ExtOp IpPrefixV4Op) t d g = range_back IpPrefixV4Op refl d g
      op_back (ExtOp IpPrefixV6Op) t d g = range_back IpPrefixV6Op refl d g
      op_back (ExtOp o) t d g = tt
      op_back op t d g = tt

      term_back : (u : PlainTerm) → IsTermNamed enums s here u → IsScriptGiven s here J u → IsGiven enums (back_interpretation enums s J) u
      term_back (VariableTerm id t) d g = (onto here always enums s good t (J.constants (variable_name s id t)) d.1 g).0
      term_back (Application op ts t) d g = op_back op t d g
      term_back u d g = tt

      -- ---- and carried again

      op_again : (op : PlainOp) (t : PlainType) → IsOpNamed enums s here op t → IsScriptGivenOp s here J op t → GiveOpSame s (carry_interpretation enums s (back_interpretation enums s J)) J op t
      op_again (UufOp f) t d g = function_is (back_interpretation enums s J) f t d ∙ table_again f.argument f.output d.1 d.2 (J.functions (function_name s f)) g
      op_again OptionGetOp t d g = option_is (back_interpretation enums s J) t d ∙ (onto here always enums s good t (J.options (option_sort (type_sort s t))) d.0 g).1
      op_again (ExtOp IpAddrV4Op) t d g = table_again ip_type (extension_signature IpAddrV4Op).1 d (answer_declared IpAddrV4Op refl) (J.selectors (selector_name IpAddrV4Op)) g.0
      op_again (ExtOp IpAddrV6Op) t d g = table_again ip_type (extension_signature IpAddrV6Op).1 d (answer_declared IpAddrV6Op refl) (J.selectors (selector_name IpAddrV6Op)) g.0
      op_again (ExtOp IpPrefixV4Op) t d g = table_again ip_type (extension_signature IpPrefixV4Op).1 d (answer_declared IpPrefixV4Op refl) (J.selectors (selector_name IpPrefixV4Op)) g.0
      op_again (ExtOp IpPrefixV6Op) t d g = table_again ip_type (extension_signature IpPrefixV6Op).1 d (answer_declared IpPrefixV6Op refl) (J.selectors (selector_name IpPrefixV6Op)) g.0
      op_again (ExtOp o) t d g = tt
      op_again op t d g = tt

      term_again : (u : PlainTerm) → IsTermNamed enums s here u → IsScriptGiven s here J u → GiveNameSame s (carry_interpretation enums s (back_interpretation enums s J)) J u
      term_again (VariableTerm id t) d g = constant_is (back_interpretation enums s J) id t d ∙ (onto here always enums s good t (J.constants (variable_name s id t)) d.1 g).1
      term_again (Application op ts t) d g = op_again op t d g
      term_again u d g = tt

module _ (enums : Enums) (s : Tables) (here : Entries) (ts : List PlainTerm) (x : DeclaresReached enums s here ts) where
  pub carried : (I : Interpretation) → IsInterpretation enums ts I → GivesReachedNames s here ts (carry_interpretation enums s I)
  carried I h = all_joined (IsTermNamed enums s here) (IsGiven enums I) (IsScriptGiven s here (carry_interpretation enums s I)) (term_carried enums s here x.enum_types x.always x.one_to_one I) (reached_terms ts) x.named h

  pub comes_back : (J : script.ScriptInterpretation) → GivesReachedNames s here ts J → IsInterpretation enums ts (back_interpretation enums s J)
  comes_back J h = all_joined (IsTermNamed enums s here) (IsScriptGiven s here J) (IsGiven enums (back_interpretation enums s J)) (term_back enums s here x.enum_types x.always x.one_to_one J) (reached_terms ts) x.named h

  pub agrees : (J : script.ScriptInterpretation) → GivesReachedNames s here ts J → AgreeOnNames s ts (carry_interpretation enums s (back_interpretation enums s J)) J
  agrees J h = all_joined (IsTermNamed enums s here) (IsScriptGiven s here J) (GiveNameSame s (carry_interpretation enums s (back_interpretation enums s J)) J) (term_again enums s here x.enum_types x.always x.one_to_one J) (reached_terms ts) x.named h

  pub returned : (I : Interpretation) → IsInterpretation enums ts I → Agree ts I (back_interpretation enums s (carry_interpretation enums s I))
  returned I h = all_joined (IsTermNamed enums s here) (IsGiven enums I) (GiveSame I (back_interpretation enums s (carry_interpretation enums s I))) (term_returns enums s here x.enum_types x.always x.one_to_one I) (reached_terms ts) x.named h
