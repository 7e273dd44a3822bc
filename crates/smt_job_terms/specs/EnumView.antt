-- What tables of enum types have of what a job states.
use Rattle.std.specs.Prelude.{◌≡◌, ℕ, List}
use Rattle.smt_term.specs.Enums.{enums_of}
use Rattle.smt_term.specs.declared.enums.EnumTable.{EnumTable}
use Rattle.law_terms.specs.TypeValues.{members_of}
use Rattle.law_terms.specs.ValueOrder.{sorted, text_cmp}
use Rattle.law_jobs.specs.Declarations.{Declarations, declared}

-- The table has these enum types, in the order of their names, and finds each by its name.
pub record HasEnums (table : EnumTable) (enums : Declarations (List (List ℕ))) : Type 0 where
  pub listed : enums_of table ≡ sorted (λ p q. text_cmp p.0 q.0) enums
  pub found : (name : List ℕ) → members_of (enums_of table) name ≡ declared enums name
