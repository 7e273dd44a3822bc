-- The selectors that the text of conditions leaves open are those of what is reached.
use Rattle.std.proofs.Common.{◌≡◌, ℕ, Bool, true, false, List, [], ◌∷◌, ◌++◌, refl, sym, subst, Some}
use Rattle.std.specs.List.{AllByRecursion}
use Rattle.std.proofs.lemmas.Bool.{false≢true}
use Rattle.law_terms.specs.Plain.{PlainType, ExtensionOp, IpAddrV4Op, IpAddrV6Op, IpPrefixV4Op, IpPrefixV6Op, PlainOp, ExtOp, OptionGetOp, PlainTerm, Application, PlainTerms}
use Rattle.law_terms.specs.Reached.{reached_terms}
use Rattle.law_terms.specs.TypeValues.{Enums}
use Rattle.law_scripts.specs.Script.{Entry, Defined, State, Script, names_of}
use Rattle.law_scripts.specs.Sorts.{entries}
use Rattle.law_scripts.specs.Value.{Selection, selections, body_of, body_selections}
use Rattle.law_lines.specs.NameTables.{Tables}
use Rattle.law_theorem.specs.CarriedInterpretations.{is_range_selector}
use Rattle.law_theorem.specs.Open.{IsOpenSelection, IsAmong}
use Rattle.law_theorem.specs.Fits.{BelongsToAnEntry, Stage, FitsAt}
use Rattle.law_theorem.specs.Selections.{SelectorsAreOpen}
use Rattle.law_theorem.proofs.OrderedEntries.{Names, IsRightly, AreOrdered, Within, among, itself, older_within}
use Rattle.law_theorem.proofs.OpenEntries.{names_are_open}
use Rattle.law_theorem.proofs.Selected.{assertions_select_nothing}
use Rattle.law_theorem.proofs.SelectionsHeads.{range_selections, op_selections, own_selections}
use Rattle.law_theorem.proofs.SelectionsParts.{IsSound}
use Rattle.law_terms.proofs.Defaults.{all-join}
use Rattle.law_theorem.proofs.SelectionsText.{ordered, parts_sound, definition_selects}
use Rattle.law_theorem.proofs.Open.{at_term}

module _ (s : Tables) (us : List PlainTerm) where
  abbrev AreOpen : List Selection → Type 0
  AreOpen xs = AllByRecursion (λ p. IsOpenSelection s us p.selector p.sort p.entry) xs

  range_open : (o : ExtensionOp) (ts : PlainTerms) (type : PlainType) → IsAmong (Application (ExtOp o) ts type) us → (b : Bool) → is_range_selector o ≡ b → AreOpen (range_selections s o b)
  range_open IpAddrV4Op ts type r true e = (record { selector = IpAddrV4Op; arguments = ts; type = type; reached = r; ranges = e; named = refl; constructs = refl; argument_sorted = refl; sorted = refl }, tt)
  range_open IpAddrV6Op ts type r true e = (record { selector = IpAddrV6Op; arguments = ts; type = type; reached = r; ranges = e; named = refl; constructs = refl; argument_sorted = refl; sorted = refl }, tt)
  range_open IpPrefixV4Op ts type r true e = (record { selector = IpPrefixV4Op; arguments = ts; type = type; reached = r; ranges = e; named = refl; constructs = refl; argument_sorted = refl; sorted = refl }, tt)
  range_open IpPrefixV6Op ts type r true e = (record { selector = IpPrefixV6Op; arguments = ts; type = type; reached = r; ranges = e; named = refl; constructs = refl; argument_sorted = refl; sorted = refl }, tt)
  range_open o ts type r true e = absurd (false≢true e)
  range_open o ts type r false e = tt

  op_open : (op : PlainOp) (ts : PlainTerms) (type : PlainType) → IsAmong (Application op ts type) us → AreOpen (op_selections s op type)
  op_open OptionGetOp ts type r = (record { arguments = ts; type = type; reached = r; argument_sorted = refl; datatype = refl; parameters = refl; sorted = refl }, tt)
  op_open (ExtOp o) ts type r = range_open o ts type r (is_range_selector o) refl
  op_open op ts type r = tt

  term_open : (t : PlainTerm) → IsAmong t us → AreOpen (own_selections s t)
  term_open (Application op ts type) r = op_open op ts type r
  term_open t r = tt

module _ (enums : Enums) (text : List ℕ) (x : Stage) (state : State) (f : FitsAt enums x state) (script : Script text state) where
  abbrev us : List PlainTerm
  us = reached_terms x.terms

  abbrev AllOpen : List Selection → Type 0
  AllOpen xs = AreOpen x.tables us xs

  entry_open : (older : Names) → Within (among older) (entries state) → (n : List ℕ) (y : Entry) → IsRightly older y → BelongsToAnEntry enums us x.tables n y → entries state n ≡ Some y → AllOpen (selections (among older) (body_of y))
  entry_open older within n (Defined sort body) r o e =
      let g = at_term (IsSound x.tables) us o.term (parts_sound enums text x state f script) o.reached in
      subst AllOpen (sym (definition_selects enums text x state f script older within o.term g o.defined n o.named sort body e r)) (term_open x.tables us o.term o.reached)
  entry_open older within n y r o e = tt

  bodies_open : (ns : Names) → AreOrdered ns → AllByRecursion (λ p. BelongsToAnEntry enums us x.tables p.0 p.1) ns → Within (among ns) (entries state) → AllOpen (body_selections ns)
  bodies_open [] h o w = tt
  bodies_open (d ∷ older) h o w =
      let v : Within (among older) (entries state) = λ n y e. w n y (older_within d older h n y e) in
      all-join (λ p. IsOpenSelection x.tables us p.selector p.sort p.entry) (selections (among older) (body_of d.1)) (body_selections older)
      (entry_open older v d.0 d.1 h.2 o.0 (w d.0 d.1 (itself d older))) (bodies_open older h.3 o.1 v)

pub selectors_are_open : SelectorsAreOpen
selectors_are_open enums text x state f script =
    let us = reached_terms x.terms in
    let bodies = bodies_open enums text x state f script (names_of state) (ordered enums text x state f script) f.only (λ n y e. e) in
    record {
      names = names_are_open enums x state f;
      selectors = subst (λ zs. AreOpen x.tables us (body_selections (names_of state) ++ zs)) (sym (assertions_select_nothing enums x state f))
          (all-join (λ p. IsOpenSelection x.tables us p.selector p.sort p.entry) (body_selections (names_of state)) [] bodies tt);
    }
