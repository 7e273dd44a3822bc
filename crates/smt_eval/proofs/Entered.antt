-- What an entry states: by its name, by whether it was given before, and by what stands behind it.
use Rattle.std.proofs.Common.{◌≡◌, ℕ, Bool, true, false, List, Option, Some, None, Ok, Err, option_map, sym, ap, ◌∙◌}
use Rattle.std.specs.Prelude.{is_some}
use Rattle.law_assignments.specs.Assignments.{PlainAssignment}
use Rattle.law_assignments.specs.Outcomes.{InputFault, InputOutcome, DuplicateEntry, unless_given}
use Rattle.law_terms.specs.Functions.{PlainDefinition}
use Rattle.law_terms.specs.Plain.{ExtensionOp, PlainTerm}
use Rattle.law_texts.specs.Outcomes.{◌>>=◌, demanded}
use Rattle.smt_eval.proofs.ReadValues.{unless_none, unless_some}

module _ {X A V R : Type 0} (missing : InputFault) (o : Option X) (given : X → Option A) (name : List ℕ) (value : X → List ℕ → InputOutcome V) (entry : X → List ℕ → V → R) where
  abbrev behind_value : X → List ℕ → InputOutcome V → InputOutcome R
  behind_value x n p = p >>= λ v. Ok (entry x n v)

  abbrev behind_test : X → InputOutcome (List ℕ) → InputOutcome R
  behind_test x p = p >>= λ n. behind_value x n (value x n)

  abbrev behind_name : InputOutcome X → InputOutcome R
  behind_name p = p >>= λ x. behind_test x (unless_given (given x) name)

  -- what the entry states
  abbrev pub entry_stated : InputOutcome R
  entry_stated = behind_name (demanded missing o)

  pub unknown_entry : None ≡ o → entry_stated ≡ Err missing
  unknown_entry h = ap (λ p. behind_name (demanded missing p)) (sym h)

  module _ (x : X) (found : Some x ≡ o) where
    by_name : entry_stated ≡ behind_test x (unless_given (given x) name)
    by_name = ap (λ p. behind_name (demanded missing p)) (sym found)

    pub given_twice : is_some (given x) ≡ true → entry_stated ≡ Err (DuplicateEntry name)
    given_twice h = by_name ∙ ap (behind_test x) (unless_some (given x) name h)

    module _ (once : is_some (given x) ≡ false) where
      by_test : entry_stated ≡ behind_value x name (value x name)
      by_test = by_name ∙ ap (behind_test x) (unless_none (given x) name once)

      pub value_fault : (f : InputFault) → value x name ≡ Err f → entry_stated ≡ Err f
      value_fault f h = by_test ∙ ap (behind_value x name) h

      pub stated_so : (v : V) → value x name ≡ Ok v → entry_stated ≡ Ok (entry x name v)
      stated_so v h = by_test ∙ ap (behind_value x name) h

-- what is found is found as it is seen
pub found_so : {A B : Type 0} (view : A → B) (o : Option A) (p : Option B) (b : Bool) → option_map view o ≡ p → b ≡ is_some o → is_some p ≡ b
found_so view (Some a) p b h is = sym (ap is_some h) ∙ sym is
found_so view None p b h is = sym (ap is_some h) ∙ sym is

-- an entry whose name is that of its section
module _ {A V R : Type 0} (given : Option A) (name : List ℕ) (value : List ℕ → InputOutcome V) (entry : V → R) where
  abbrev behind_got : List ℕ → InputOutcome V → InputOutcome R
  behind_got n p = p >>= λ v. Ok (entry v)

  abbrev behind_once : InputOutcome (List ℕ) → InputOutcome R
  behind_once p = p >>= λ n. behind_got n (value n)

  -- what the entry states
  abbrev pub got_stated : InputOutcome R
  got_stated = behind_once (unless_given given name)

  pub got_twice : is_some given ≡ true → got_stated ≡ Err (DuplicateEntry name)
  got_twice h = ap behind_once (unless_some given name h)

  module _ (once : is_some given ≡ false) where
    pub got_fault : (f : InputFault) → value name ≡ Err f → got_stated ≡ Err f
    got_fault f h = ap behind_once (unless_none given name once) ∙ ap (behind_got name) h

    pub got_so : (v : V) → value name ≡ Ok v → got_stated ≡ Ok (entry v)
    got_so v h = ap behind_once (unless_none given name once) ∙ ap (behind_got name) h

-- ---- one entry more leaves the other sections as they were

module _ (first old new : PlainAssignment) where
  pub more_variables : (vs : List (List ℕ × PlainTerm)) → old ≡ record first { variables = old.variables } → new ≡ record old { variables = vs } → new ≡ record first { variables = new.variables }
  more_variables vs same is =
      is ∙ (λ j. record { variables = ap (λ (a : PlainAssignment). a.variables) (sym is) j; functions = ap (λ (a : PlainAssignment). a.functions) same j; gets = ap (λ (a : PlainAssignment). a.gets) same j; selectors = ap (λ (a : PlainAssignment). a.selectors) same j })

  pub more_functions : (fs : List (List ℕ × PlainDefinition)) → old ≡ record first { functions = old.functions } → new ≡ record old { functions = fs } → new ≡ record first { functions = new.functions }
  more_functions fs same is =
      is ∙ (λ j. record { variables = ap (λ (a : PlainAssignment). a.variables) same j; functions = ap (λ (a : PlainAssignment). a.functions) (sym is) j; gets = ap (λ (a : PlainAssignment). a.gets) same j; selectors = ap (λ (a : PlainAssignment). a.selectors) same j })

  pub more_selectors : (ss : List (ExtensionOp × PlainDefinition)) → old ≡ record first { selectors = old.selectors } → new ≡ record old { selectors = ss } → new ≡ record first { selectors = new.selectors }
  more_selectors ss same is =
      is ∙ (λ j. record { variables = ap (λ (a : PlainAssignment). a.variables) same j; functions = ap (λ (a : PlainAssignment). a.functions) same j; gets = ap (λ (a : PlainAssignment). a.gets) same j; selectors = ap (λ (a : PlainAssignment). a.selectors) (sym is) j })
