-- Assignments whose literals are values of the types for which they stand.
use Rattle.std.specs.Prelude.{◌≡◌, List, [], ◌∷◌, map, None, IsTrue, IsFalse, ⊤}
use Rattle.std.specs.List.{AllByRecursion, list_any}
use Rattle.law_assignments.specs.Assignments.{PlainAssignment, is_of_other_family}
use Rattle.law_terms.specs.Faults.{literal_fault}
use Rattle.law_terms.specs.Formed.{IsFormed}
use Rattle.law_terms.specs.Functions.{PlainDefinition}
use Rattle.law_terms.specs.Literals.{is_literal}
use Rattle.law_terms.specs.Plain.{IpAddrKind, PlainType, ExtensionType, ExtensionOp, PlainTerm, LiteralTerm}
use Rattle.law_terms.specs.Reached.{subterms}
use Rattle.law_terms.specs.TermOrder.{term_eq}
use Rattle.law_terms.specs.Types.{extension_signature, type_of}
use Rattle.law_terms.specs.TypeValues.{Enums}
use Rattle.law_terms.specs.Typing.{Typed}

-- one term by itself: an entity of an enum type is a member, and texts have no character that strings cannot have
abbrev pub IsFaultlessLeaf : Enums → PlainTerm → Type 0
IsFaultlessLeaf enums (LiteralTerm l) = literal_fault enums l ≡ None
IsFaultlessLeaf enums t = ⊤

-- a literal that is a value of the type: typed, formed, and faultless in each of its parts
pub record IsValueTerm (enums : Enums) (ty : PlainType) (t : PlainTerm) : Type 0 where
  pub literal : IsTrue (is_literal t)
  pub type : Typed t ty
  pub formed : IsFormed t
  pub faultless : AllByRecursion (IsFaultlessLeaf enums) (subterms t)

-- no term of the list stands in it twice
abbrev pub AreDistinctTerms : List PlainTerm → Type 0
AreDistinctTerms [] = ⊤
AreDistinctTerms (t ∷ ts) = IsFalse (list_any (term_eq t) ts) × AreDistinctTerms ts

-- a table of values of its types, no key twice
pub record IsSoundTable (enums : Enums) (d : PlainDefinition) : Type 0 where
  pub keys : AllByRecursion (λ e. IsValueTerm enums d.argument e.0) d.entries
  pub distinct : AreDistinctTerms (map (λ e. e.0) d.entries)
  pub answers : AllByRecursion (λ e. IsValueTerm enums d.output e.1) d.entries
  pub elsewhere : IsValueTerm enums d.output d.elsewhere

-- a table of a selector, from IP ranges of the other family to what the selector gives
pub record IsSoundSelector (enums : Enums) (o : ExtensionOp) (d : PlainDefinition) : Type 0 where
  pub table : IsSoundTable enums d
  pub argument : d.argument ≡ ExtensionType IpAddrKind
  pub output : d.output ≡ (extension_signature o).1
  pub families : AllByRecursion (λ e. IsTrue (is_of_other_family o e.0)) d.entries

-- an assignment of values of the types for which they stand: that of a variable is of its own type, which the terms need not have
pub record IsSound (enums : Enums) (a : PlainAssignment) : Type 0 where
  pub variables : AllByRecursion (λ e. IsValueTerm enums (type_of e.1) e.1) a.variables
  pub functions : AllByRecursion (λ e. IsSoundTable enums e.1) a.functions
  pub gets : AllByRecursion (λ e. IsValueTerm enums e.0 e.1) a.gets
  pub selectors : AllByRecursion (λ e. IsSoundSelector enums e.0 e.1) a.selectors
