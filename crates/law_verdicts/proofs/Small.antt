-- What every script of the fragment declares and asserts.
use Rattle.std.proofs.Common.{◌≡◌, ℕ, Bool, true, false, ◌&&◌, List, [], ◌∷◌, ◌++◌, refl, sym, ap, ◌∙◌, subst}
use Rattle.std.specs.Prelude.{codes, bytes_eq}
use Rattle.std.specs.List.{list_all}
use Rattle.std.proofs.lemmas.Bool.{and_parts, and_from, false≢true}
use Rattle.std.proofs.lemmas.List.{append-nil}
use Rattle.std.proofs.lemmas.List.Folds.{list_all-append}
use Rattle.law_scripts.specs.Script.{Command, DeclareDatatype, DeclareConst, DefineFun, Assert, DeclareFun, SetLogic, SetOption, CheckSat, GetModel, Reset, Exit, Push, Pop, Constructor, Entry, Constant, Function, Defined, Builds, Selects, State, assertions_below, assertions_of, names_of, start, stated}
use Rattle.law_scripts.specs.Sorts.{bool_sort, same_sort}
use Rattle.law_scripts.specs.Written.{is_name, option_command}
use Rattle.law_scripts.proofs.CommandInduction.{Change, AddsName, AddsSort, AddsAssertion, AddsLevel, Ends, changed, Adds, IsAllowed, Deep, stepped_deep}
use Rattle.law_verdicts.specs.Fragment.{IsSmall, Lead, is_formula, is_truth_name, is_within}
use Rattle.law_verdicts.proofs.Commands.{is_option, same_expression}
use Rattle.law_verdicts.proofs.Formulas.{formula_over}
use Rattle.law_verdicts.proofs.Known.{is_there, known_formula}

-- any name
abbrev pub any : List ℕ → Bool
any n = true

-- what a script of the fragment declares: constants of sort Bool, formulas, and the datatype Option
abbrev pub is_small_entry : List ℕ × Entry → Bool
is_small_entry (n, Constant sort) = is_name n && same_sort sort bool_sort
is_small_entry (n, Defined sort body) = is_formula any body
is_small_entry (n, Function argument sort) = false
is_small_entry (n, Builds d ps place fields) = bytes_eq d (codes "Option")
is_small_entry (n, Selects d ps c place field) = true

-- the body of each definition is a formula over what was there before it
abbrev pub are_over : List (List ℕ × Entry) → Bool
are_over [] = true
are_over ((n, Constant sort) ∷ older) = are_over older
are_over ((n, Defined sort body) ∷ older) = is_formula (is_there older) body && are_over older
are_over ((n, Function argument sort) ∷ older) = are_over older
are_over ((n, Builds d ps place fields) ∷ older) = are_over older
are_over ((n, Selects d ps c place field) ∷ older) = are_over older

-- All that is declared is so, and formulas are asserted.
pub record HasTruths (s : State) : Type 0 where
  pub names : list_all is_small_entry (names_of s) ≡ true
  pub bodies : are_over (names_of s) ≡ true
  pub assertions : list_all (is_formula any) (assertions_of s) ≡ true

-- the changes that a command of the fragment makes
abbrev SmallChange : State → Change → Type 0
SmallChange s (AddsName n (Constant sort)) = is_small_entry (n, Constant sort) ≡ true
SmallChange s (AddsName n (Defined sort body)) = is_formula (is_truth_name s) body ≡ true
SmallChange s (AddsName n (Function argument sort)) = ⊥
SmallChange s (AddsName n (Builds d ps place fields)) = bytes_eq d (codes "Option") ≡ true
SmallChange s (AddsName n (Selects d ps c place field)) = Unit {0}
SmallChange s (AddsAssertion e) = is_formula any e ≡ true
SmallChange s x = Unit {0}

at_start : HasTruths start
at_start = record { names = refl; bodies = refl; assertions = refl }

kept : (x : Change) (s : State) → SmallChange s x → IsAllowed s x → HasTruths s → HasTruths (changed x s)
kept (AddsName n (Constant sort)) s a allowed h = record { names = and_from (is_small_entry (n, Constant sort)) (list_all is_small_entry (names_of s)) a h.names; bodies = h.bodies; assertions = h.assertions }
kept (AddsName n (Defined sort body)) s a allowed h = record {
  names = and_from (is_formula any body) (list_all is_small_entry (names_of s)) (formula_over (is_truth_name s) any (λ m k. refl) body a) h.names;
  bodies = and_from (is_formula (is_there (names_of s)) body) (are_over (names_of s)) (known_formula s body a allowed.1.1) h.bodies;
  assertions = h.assertions;
}
kept (AddsName n (Function argument sort)) s a allowed h = absurd a
kept (AddsName n (Builds d ps place fields)) s a allowed h = record { names = and_from (bytes_eq d (codes "Option")) (list_all is_small_entry (names_of s)) a h.names; bodies = h.bodies; assertions = h.assertions }
kept (AddsName n (Selects d ps c place field)) s a allowed h = record { names = h.names; bodies = h.bodies; assertions = h.assertions }
kept (AddsSort d parameters) s a allowed h = record { names = h.names; bodies = h.bodies; assertions = h.assertions }
kept (AddsAssertion e) s a allowed h =
    let before = assertions_below s.below in
    let last = s.last.assertions in
    let parts = and_parts (list_all (is_formula any) before) (list_all (is_formula any) last) (sym (list_all-append (is_formula any) before last) ∙ h.assertions) in
    let more = list_all-append (is_formula any) last (e ∷ []) ∙ and_from (list_all (is_formula any) last) (list_all (is_formula any) (e ∷ [])) parts.1 (and_from (is_formula any e) true a refl) in
    record { names = h.names; bodies = h.bodies; assertions = list_all-append (is_formula any) before (last ++ e ∷ []) ∙ and_from (list_all (is_formula any) before) (list_all (is_formula any) (last ++ e ∷ [])) parts.0 more }
kept AddsLevel s a allowed h = record { names = h.names; bodies = h.bodies; assertions = ap (list_all (is_formula any)) (append-nil (assertions_below s.below ++ s.last.assertions)) ∙ h.assertions }
kept Ends s a allowed h = record { names = h.names; bodies = h.bodies; assertions = h.assertions }

abbrev Deeply : State → Type 0
Deeply s = Deep SmallChange HasTruths at_start kept s

-- the datatype Option alone is declared
option_adds : (d : List ℕ) (ps : List (List ℕ)) (cs : List Constructor) (s : State) → DeclareDatatype d ps cs ≡ option_command → Adds SmallChange s (DeclareDatatype d ps cs)
option_adds d ps cs s e = subst (Adds SmallChange s) (sym e) (λ u n place fields. refl, λ u n c place field. tt, λ u. tt)

adds : (s : State) (c : Command) → is_within s c ≡ true → (c ≡ Reset → ⊥) → (c ≡ Pop → ⊥) → Adds SmallChange s c
adds s (DeclareDatatype d ps cs) w r p = option_adds d ps cs s (is_option d ps cs (same_expression (stated (DeclareDatatype d ps cs)) (stated option_command) w))
adds s (DeclareConst n sort) w r p = w
adds s (DefineFun n sort body) w r p =
    let rest = (and_parts (is_name n) (same_sort sort bool_sort && is_formula (is_truth_name s) body) w).1 in
    (and_parts (same_sort sort bool_sort) (is_formula (is_truth_name s) body) rest).1
adds s (Assert e) w r p = formula_over (is_truth_name s) any (λ m k. refl) e w
adds s (DeclareFun f argument sort) w r p = absurd (false≢true w)
adds s (SetLogic l) w r p = tt
adds s (SetOption o v) w r p = tt
adds s CheckSat w r p = tt
adds s GetModel w r p = tt
adds s Reset w r p = absurd (r refl)
adds s Exit w r p = tt
adds s Push w r p = tt
adds s Pop w r p = absurd (p refl)

lead_keeps : (cs : List Command) (s t : State) → Lead cs s t → Deeply s → Deeply t
lead_keeps [] s t h d = subst Deeply h d
lead_keeps (c ∷ cs) s t h d = lead_keeps cs h.1 t h.3 (stepped_deep SmallChange HasTruths at_start kept c s h.1 (adds s c h.0) h.2 d)

pub small_has_truths : (s : State) → IsSmall s → HasTruths s
small_has_truths s small = (lead_keeps small.0 start s small.1 (at_start, tt)).0
