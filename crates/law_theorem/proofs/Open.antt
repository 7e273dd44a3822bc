-- Interpretations of a script by the names of what the terms reach.
use Rattle.std.proofs.Common.{◌≡◌, ℕ, Bool, true, false, ◌&&◌, List, [], ◌∷◌, Option, Some, None, refl, sym, ◌∙◌, subst}
use Rattle.std.specs.Prelude.{IsTrue}
use Rattle.std.specs.List.{AllByRecursion}
use Rattle.std.proofs.lemmas.Bool.{and_from}
use mathlib.Core.Logic.{⊎_elim}
use Rattle.law_terms.specs.Plain.{PlainTerm, Application, VariableTerm, ExtensionOp, ExtOp, OptionGetOp, UufOp}
use Rattle.law_terms.specs.Reached.{reached_terms}
use Rattle.law_terms.specs.Types.{extension_signature}
use Rattle.law_texts.specs.Reading.{Expression}
use Rattle.law_scripts.specs.Script.{Entry, Constant, Function, Selects, State, names_of}
use Rattle.law_scripts.specs.Sorts.{Entries, entries, has_sort_in}
use Rattle.law_scripts.specs.Value as script
use Rattle.law_scripts.specs.Value.{OpenSelector, ValueOfSort, TableOfSelector, open_selector, AgreeAt, AgreeOn, AgreeOnOpen, applied_selectors, is_table, are_others, is_entry_given, is_open_given, is_selector_given}
use Rattle.law_lines.specs.Naming.{type_sort}
use Rattle.law_lines.specs.NameTables.{Tables}
use Rattle.law_lines.specs.EntryNames.{selector_name}
use Rattle.law_theorem.specs.CarriedOperators.{selector_constructor}
use Rattle.law_theorem.specs.CarriedInterpretations.{ip_type, is_range_selector, IsGivenRange, GiveRangeSame, IsScriptGiven, GivesReachedNames, GiveNameSame, AgreeOnNames}
use Rattle.law_theorem.specs.Open.{IsOpenEntry, IsOpenHere, IsOpenSelection, GivenNamesInterpret, NamesAgree, IsAmong}
use Rattle.std.proofs.lemmas.List.Elements.{All-from_recursion}

-- what holds of each holds of one that occurs
pub at_term : (P : PlainTerm → Type 0) (us : List PlainTerm) (t : PlainTerm) → AllByRecursion P us → IsAmong t us → P t
at_term P [] t h o = absurd o
at_term P (u ∷ us) t h o = ⊎_elim (λ e. subst P e h.0) (λ q. at_term P us t h.1 q) o

pub every : {A : Type 0} (P Q : A → Type 0) → ((x : A) → P x → Q x) → (xs : List A) → AllByRecursion P xs → AllByRecursion Q xs
every P Q f [] h = tt
every P Q f (x ∷ xs) h = (f x h.0, every P Q f xs h.1)

range_given : (s : Tables) (here : Entries) (J : script.ScriptInterpretation) (o : ExtensionOp) (b : Bool) → is_range_selector o ≡ b → b ≡ true → IsGivenRange s here J o b → IsGivenRange s here J o true
range_given s here J o true e f h = h
range_given s here J o false e f h = absurd cc

range_same : (J K : script.ScriptInterpretation) (o : ExtensionOp) (b : Bool) → b ≡ true → GiveRangeSame J K o b → GiveRangeSame J K o true
range_same J K o true f h = h
range_same J K o false f h = absurd cc

module _ (s : Tables) (ts : List PlainTerm) (state : State) where
  module _ (J : script.ScriptInterpretation) (h : GivesReachedNames s (entries state) ts J) where
    given : (t : PlainTerm) → IsAmong t (reached_terms ts) → IsScriptGiven s (entries state) J t
    given t o = at_term (IsScriptGiven s (entries state) J) (reached_terms ts) t h o

    entry_given : (n : List ℕ) (x : Entry) → IsOpenEntry s (reached_terms ts) n x → IsTrue (is_entry_given J (entries state) n x)
    entry_given n (Constant sort) v =
        (λ i. has_sort_in (entries state) (v.sorted i) (J.constants (v.named i))) ∙ given (VariableTerm v.id v.type) v.reached
    entry_given n (Function argument sort) v =
        (λ i. is_table (entries state) (v.argument_sorted i) (v.sorted i) (J.functions (v.named i))) ∙ given (Application (UufOp v.function) v.arguments v.type) v.reached
    entry_given n x v = refl

    open_given : (n : List ℕ) (sort : Expression) (d : List ℕ) (ps : List (List ℕ)) (c : List ℕ) (place : ℕ) (field : Expression) (o : Option OpenSelector) → IsOpenHere s (reached_terms ts) n sort d ps c field o
        → IsTrue (is_open_given J (entries state) n sort (Selects d ps c place field) o)
    open_given n sort d ps c place field (Some TableOfSelector) v =
        let g : IsGivenRange s (entries state) J v.selector true = range_given s (entries state) J v.selector (is_range_selector v.selector) refl v.ranges (given (Application (ExtOp v.selector) v.arguments v.type) v.reached) in
        (λ i. is_table (entries state) (v.argument_sorted i) (v.sorted i) (J.selectors (v.named i)) && are_others (v.constructs i) (J.selectors (v.named i)).pairs)
        ∙ and_from (is_table (entries state) (type_sort s ip_type) (type_sort s (extension_signature v.selector).1) (J.selectors (selector_name v.selector))) (are_others (selector_constructor v.selector) (J.selectors (selector_name v.selector)).pairs)
        g.0 g.1
    open_given n sort d ps c place field (Some ValueOfSort) v =
        (λ i. is_open_given J (entries state) n (v.argument_sorted i) (Selects (v.datatype i) (v.parameters i) c place (v.sorted i)) (Some ValueOfSort)) ∙ given (Application OptionGetOp v.arguments v.type) v.reached
    open_given n sort d ps c place field None v = refl

    selector_given : (n : List ℕ) (sort : Expression) (x : Entry) → IsOpenSelection s (reached_terms ts) n sort x → IsTrue (is_selector_given J (entries state) n sort x)
    selector_given n sort (Selects d ps c place field) v = open_given n sort d ps c place field (open_selector n d ps) v
    selector_given n sort x v = refl

  module _ (J K : script.ScriptInterpretation) (h : AgreeOnNames s ts J K) where
    agreed : (t : PlainTerm) → IsAmong t (reached_terms ts) → GiveNameSame s J K t
    agreed t o = at_term (GiveNameSame s J K) (reached_terms ts) t h o

    entry_agrees : (n : List ℕ) (x : Entry) → IsOpenEntry s (reached_terms ts) n x → AgreeAt J K n x
    entry_agrees n (Constant sort) v = subst (λ m. J.constants m ≡ K.constants m) (sym v.named) (agreed (VariableTerm v.id v.type) v.reached)
    entry_agrees n (Function argument sort) v = subst (λ m. J.functions m ≡ K.functions m) (sym v.named) (agreed (Application (UufOp v.function) v.arguments v.type) v.reached)
    entry_agrees n x v = tt

    open_agrees : (n : List ℕ) (sort : Expression) (d : List ℕ) (ps : List (List ℕ)) (c : List ℕ) (field : Expression) (o : Option OpenSelector) → IsOpenHere s (reached_terms ts) n sort d ps c field o → AgreeOnOpen J K n sort o
    open_agrees n sort d ps c field (Some TableOfSelector) v =
        subst (λ m. J.selectors m ≡ K.selectors m) (sym v.named) (range_same J K v.selector (is_range_selector v.selector) v.ranges (agreed (Application (ExtOp v.selector) v.arguments v.type) v.reached))
    open_agrees n sort d ps c field (Some ValueOfSort) v = subst (λ m. J.options m ≡ K.options m) (sym v.argument_sorted) (agreed (Application OptionGetOp v.arguments v.type) v.reached)
    open_agrees n sort d ps c field None v = tt

    selector_agrees : (n : List ℕ) (sort : Expression) (x : Entry) → IsOpenSelection s (reached_terms ts) n sort x → AgreeOn J K n sort x
    selector_agrees n sort (Selects d ps c place field) v = open_agrees n sort d ps c field (open_selector n d ps) v
    selector_agrees n sort x v = tt

pub names_interpret : GivenNamesInterpret
names_interpret s ts state J x h = record {
  declared = All-from_recursion (λ p. IsTrue (is_entry_given J (entries state) p.0 p.1)) (names_of state)
      (every (λ p. IsOpenEntry s (reached_terms ts) p.0 p.1) (λ p. IsTrue (is_entry_given J (entries state) p.0 p.1)) (λ p v. entry_given s ts state J h p.0 p.1 v) (names_of state) x.names);
  selected = All-from_recursion (λ p. IsTrue (is_selector_given J (entries state) p.selector p.sort p.entry)) (applied_selectors state)
      (every (λ p. IsOpenSelection s (reached_terms ts) p.selector p.sort p.entry) (λ p. IsTrue (is_selector_given J (entries state) p.selector p.sort p.entry)) (λ p v. selector_given s ts state J h p.selector p.sort p.entry v) (applied_selectors state) x.selectors);
}

pub names_agree : NamesAgree
names_agree s ts state J K x h = record {
  declared = All-from_recursion (λ p. AgreeAt J K p.0 p.1) (names_of state)
      (every (λ p. IsOpenEntry s (reached_terms ts) p.0 p.1) (λ p. AgreeAt J K p.0 p.1) (λ p v. entry_agrees s ts state J K h p.0 p.1 v) (names_of state) x.names);
  selected = All-from_recursion (λ p. AgreeOn J K p.selector p.sort p.entry) (applied_selectors state)
      (every (λ p. IsOpenSelection s (reached_terms ts) p.selector p.sort p.entry) (λ p. AgreeOn J K p.selector p.sort p.entry) (λ p v. selector_agrees s ts state J K h p.selector p.sort p.entry v) (applied_selectors state) x.selectors);
}
