-- What an interpretation of the text of conditions gives to what they reach.
use Rattle.std.proofs.Common.{◌≡◌, ℕ, Bool, true, false, ◌&&◌, cond, List, [], ◌∷◌, refl, ap, subst, Some}
use Rattle.std.specs.Prelude.{bytes_eq, IsTrue, unwrap_or}
use Rattle.std.specs.List.{AllByRecursion}
use Rattle.std.proofs.lemmas.Bool.{and_parts, false≢true}
use Rattle.std.proofs.lemmas.List.Elements.{recursion_from_All}
use Rattle.law_terms.specs.Plain.{PlainType, ExtensionOp, IpAddrV4Op, IpAddrV6Op, IpPrefixV4Op, IpPrefixV6Op, PlainOp, ExtOp, OptionGetOp, UufOp, PlainTerm, Application, VariableTerm, PlainTerms}
use Rattle.law_terms.specs.Reached.{reached_terms}
use Rattle.law_terms.specs.Types.{extension_signature}
use Rattle.law_terms.proofs.Soundness.{all-front, all-back}
use Rattle.law_terms.specs.TypeValues.{Enums}
use Rattle.law_texts.specs.Reading.{Expression}
use Rattle.law_scripts.specs.Script.{Defined, State, Script, look_up, assertions_of, names_of}
use Rattle.law_scripts.specs.Sorts.{entries}
use Rattle.law_scripts.specs.Value.{ScriptInterpretation, IsScriptInterpretation, Selection, selections, selections_in, body_of, body_selections, applied_selectors, is_selector_given, is_table, are_others}
use Rattle.law_lines.specs.Naming.{type_sort}
use Rattle.law_lines.specs.NameTables.{name_of_term}
use Rattle.law_lines.proofs.Declared.{terms_are_declared}
use Rattle.law_theorem.specs.CarriedInterpretations.{ip_type, is_range_selector, IsGivenRange, IsScriptGivenOp, IsScriptGiven}
use Rattle.law_lines.specs.EntryNames.{selector_name}
use Rattle.law_theorem.specs.CarriedOperators.{selector_constructor}
use Rattle.law_theorem.specs.Fits.{HasDefinition, Stage, FitsAt}
use Rattle.law_theorem.specs.Selections.{InterpretationsGiveReached}
use Rattle.law_theorem.specs.FittingStates.{IsOpGiven, IsNameGiven}
use Rattle.law_theorem.proofs.Free.{reached_are_open}
use Rattle.law_theorem.proofs.Given.{interpretations_give_names}
use Rattle.law_theorem.proofs.Models.{stands}
use Rattle.law_theorem.proofs.OrderedEntries.{Names, IsRightly, AreOrdered, Within, among, older_within}
use Rattle.law_theorem.proofs.SelectionsHeads.{range_selections, own_selections}
use Rattle.law_theorem.proofs.SelectionsParts.{IsSound, named_if}
use Rattle.law_theorem.proofs.SelectionsText.{ordered, parts_sound, definition_selects}

module _ (enums : Enums) (text : List ℕ) (x : Stage) (state : State) (f : FitsAt enums x state) (script : Script text state) (J : ScriptInterpretation) where
  abbrev AreGiven : List Selection → Type 0
  AreGiven xs = AllByRecursion (λ p. IsTrue (is_selector_given J (entries state) p.selector p.sort p.entry)) xs

  -- what the body of a term's definition applies is given
  own_given : (t : PlainTerm) → IsSound x.tables t → HasDefinition enums t → (n : List ℕ) → name_of_term x.tables t ≡ Some n → (sort body : Expression) → entries state n ≡ Some (Defined sort body)
      → (ns : Names) → AreOrdered ns → Within (among ns) (entries state) → AreGiven (body_selections ns) → look_up n ns ≡ Some (Defined sort body) → AreGiven (own_selections x.tables t)
  own_given t g defined n named sort body is [] h w k e = absurd cc
  own_given t g defined n named sort body is (d ∷ older) h w k e =
      let v : Within (among older) (entries state) = λ m y q. w m y (older_within d older h m y q) in
      let P : Selection → Type 0 = λ p. IsTrue (is_selector_given J (entries state) p.selector p.sort p.entry) in
      let xs = selections (among older) (body_of d.1) in
      by (bytes_eq n d.0) v e (all-front P xs (body_selections older) k) (λ q. own_given t g defined n named sort body is older h.3 v (all-back P xs (body_selections older) k) q)
    where
      by : (b : Bool) → Within (among older) (entries state) → cond b (Some d.1) (look_up n older) ≡ Some (Defined sort body) → AreGiven (selections (among older) (body_of d.1)) → (look_up n older ≡ Some (Defined sort body) → AreGiven (own_selections x.tables t))
          → AreGiven (own_selections x.tables t)
      by true v q a again =
          let same : d.1 ≡ Defined sort body = ap (λ o. unwrap_or o (Defined sort body)) q in
          let r = subst (λ y. IsRightly older y) same h.2 in
          subst AreGiven (definition_selects enums text x state f script older v t g defined n named sort body is r) (subst (λ y. AreGiven (selections (among older) (body_of y))) same a)
      by false v q a again = again q

  module _ (h : IsScriptInterpretation J state) where
    all_given : AreGiven (body_selections (names_of state))
    all_given =
        let P : Selection → Type 0 = λ p. IsTrue (is_selector_given J (entries state) p.selector p.sort p.entry) in
        all-front P (body_selections (names_of state)) (selections_in (entries state) (assertions_of state)) (recursion_from_All P (applied_selectors state) h.selected)

    -- what a term that is defined leaves to the interpretation is given
    defined_given : (t : PlainTerm) → IsSound x.tables t → HasDefinition enums t → (n : List ℕ) → name_of_term x.tables t ≡ Some n → (sort body : Expression) → entries state n ≡ Some (Defined sort body) → AreGiven (own_selections x.tables t)
    defined_given t g defined n named sort body is = own_given t g defined n named sort body is (names_of state) (ordered enums text x state f script) (λ m y q. q) all_given is

    option_given : (us : PlainTerms) (type : PlainType) → IsSound x.tables (Application OptionGetOp us type) → AreGiven (own_selections x.tables (Application OptionGetOp us type))
    option_given us type g =
        let p = named_if (name_of_term x.tables (Application OptionGetOp us type)) g.1 in
        let d = terms_are_declared enums x.tables state (Application OptionGetOp us type) p.0 f.declared p.1 in
        defined_given (Application OptionGetOp us type) g (λ e. cc) p.0 p.1 _ _ d.0.0

    extension_given : (o : ExtensionOp) (us : PlainTerms) (type : PlainType) → IsSound x.tables (Application (ExtOp o) us type) → AreGiven (own_selections x.tables (Application (ExtOp o) us type))
    extension_given o us type g =
        let p = named_if (name_of_term x.tables (Application (ExtOp o) us type)) g.1 in
        let d = terms_are_declared enums x.tables state (Application (ExtOp o) us type) p.0 f.declared p.1 in
        defined_given (Application (ExtOp o) us type) g (λ e. cc) p.0 p.1 _ _ d.0.0

    -- a table of its sorts, with keys of the other constructor
    parts : (o : ExtensionOp) → IsTrue (is_table (entries state) (type_sort x.tables ip_type) (type_sort x.tables (extension_signature o).1) (J.selectors (selector_name o)) && are_others (selector_constructor o) (J.selectors (selector_name o)).pairs)
        → IsGivenRange x.tables (entries state) J o true
    parts o k = and_parts (is_table (entries state) (type_sort x.tables ip_type) (type_sort x.tables (extension_signature o).1) (J.selectors (selector_name o))) (are_others (selector_constructor o) (J.selectors (selector_name o)).pairs) k

    range_given : (o : ExtensionOp) (b : Bool) → is_range_selector o ≡ b → AreGiven (range_selections x.tables o b) → IsGivenRange x.tables (entries state) J o b
    range_given IpAddrV4Op true e k = parts IpAddrV4Op k.0
    range_given IpAddrV6Op true e k = parts IpAddrV6Op k.0
    range_given IpPrefixV4Op true e k = parts IpPrefixV4Op k.0
    range_given IpPrefixV6Op true e k = parts IpPrefixV6Op k.0
    range_given o true e k = absurd (false≢true e)
    range_given o false e k = tt

    op_given : (op : PlainOp) (us : PlainTerms) (type : PlainType) → IsSound x.tables (Application op us type) → IsOpGiven x.tables (entries state) J op → IsScriptGivenOp x.tables (entries state) J op type
    op_given (UufOp f) us type g k = k
    op_given OptionGetOp us type g k = (option_given us type g).0
    op_given (ExtOp o) us type g k = range_given o (is_range_selector o) refl (extension_given o us type g)
    op_given op us type g k = tt

    term_given : (t : PlainTerm) → IsSound x.tables t → IsNameGiven x.tables (entries state) J t → IsScriptGiven x.tables (entries state) J t
    term_given (VariableTerm id type) g k = k
    term_given (Application op us type) g k = op_given op us type g k
    term_given t g k = tt

    each_given : (us : List PlainTerm) → AllByRecursion (IsSound x.tables) us → AllByRecursion (IsNameGiven x.tables (entries state) J) us → AllByRecursion (IsScriptGiven x.tables (entries state) J) us
    each_given [] g k = tt
    each_given (t ∷ us) g k = (term_given t g.0 k.0, each_given us g.1 k.1)

pub interpretations_give_reached : InterpretationsGiveReached
interpretations_give_reached enums text x state es f script J h =
    let parts = stands enums text x state es f script in
    let named = interpretations_give_names x.tables state x.terms J (reached_are_open enums x.tables state x.terms f.declared parts) h in
    each_given enums text x state f script J h (reached_terms x.terms) (parts_sound enums text x state f script) named
