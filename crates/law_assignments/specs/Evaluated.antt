-- The literal to which an assignment evaluates a term: applications are folded at the literals of their arguments, and where a
-- folding leaves an application at literals, the assignment or arithmetic answers. What the assignment does not give stays.
use Rattle.std.specs.Prelude.{List, [], ◌∷◌, cond}
use Rattle.std.specs.Option.{option_map_or, unwrap_or}
use Rattle.law_numbers.specs.BitOperators.{BitsOperator}
use Rattle.law_assignments.specs.Assignments.{PlainAssignment, function_in, get_in, is_of_other_family, selector_in, variable_in}
use Rattle.law_folding.specs.Applications.{bits_literal, extension_of, option_get_of}
use Rattle.law_folding.specs.Built.{folded}
use Rattle.law_folding.specs.FoldBits.{folded_bits, takes_right}
use Rattle.law_folding.specs.FoldExtensions.{folded_extension}
use Rattle.law_folding.specs.FoldFunctions.{entry_at, uuf_of}
use Rattle.law_folding.specs.FoldOptions.{folded_option_get}
use Rattle.law_terms.specs.Plain.{PlainType, ExtensionOp, PlainOp, BitsOp, ExtOp, OptionGetOp, UufOp, BitVecLiteral, PlainTerm, Application}
use Rattle.law_terms.specs.Plain.{NoneTerm, LiteralTerm, RecordTerm, SetTerm, SomeTerm, VariableTerm, PlainTerms, no_terms, one_term}
use Rattle.law_terms.specs.Plain.{PlainFields, no_fields, one_field}
use Rattle.law_terms.specs.TermSets.{set_term}

-- an operator from bits to bits: as it folds, and a shift by more places than the folding takes leaves no bit
abbrev pub evaluated_bits : BitsOperator → PlainTerm → PlainTerm → PlainTerm
evaluated_bits o (LiteralTerm (BitVecLiteral n x)) (LiteralTerm (BitVecLiteral m y)) =
    cond (takes_right o y) (folded_bits o (bits_literal n x) (bits_literal m y)) (bits_literal n 0)
evaluated_bits o t u = folded_bits o t u

module _ (a : PlainAssignment) where
  -- `option.get`: at a none what the assignment gives for its type, and else as it folds
  abbrev pub evaluated_get : PlainTerm → PlainTerm
  evaluated_get (NoneTerm t) = unwrap_or (get_in a t) (option_get_of (NoneTerm t))
  evaluated_get t = folded_option_get t

  -- an operator of the extension types: a selector at a range of the other family by the assignment, and else as it folds
  abbrev pub evaluated_extension : ExtensionOp → PlainTerm → PlainTerm
  evaluated_extension o t =
      cond (is_of_other_family o t) (option_map_or (λ d. entry_at d t) (selector_in a o) (extension_of o t)) (folded_extension o t)

  -- An operator at arguments that are evaluated, with the type that was claimed: a function by the assignment's table, and all else as
  -- above or as it folds.
  abbrev pub evaluated_application : PlainOp → List PlainTerm → PlainType → PlainTerm
  evaluated_application (UufOp f) (t ∷ []) ty = option_map_or (λ d. entry_at d t) (function_in a f) (uuf_of f t)
  evaluated_application (BitsOp o) (t ∷ u ∷ []) ty = evaluated_bits o t u
  evaluated_application OptionGetOp (t ∷ []) ty = evaluated_get t
  evaluated_application (ExtOp o) (t ∷ []) ty = evaluated_extension o t
  evaluated_application o ts ty = folded o ts ty

  abbrev mutual
    -- What an assignment evaluates a term to: variables are replaced, and applications are taken from the inside out. It is a literal
    -- where a sound assignment gives all that a typed term reaches.
    pub evaluated : PlainTerm → PlainTerm
    evaluated (Application o ts ty) = evaluated_application o (all_evaluated ts) ty
    evaluated (NoneTerm ty) = NoneTerm ty
    evaluated (LiteralTerm l) = LiteralTerm l
    evaluated (RecordTerm fs) = RecordTerm (evaluated_fields fs)
    evaluated (SetTerm ty ts) = set_term ty (all_evaluated ts)
    evaluated (SomeTerm t) = SomeTerm (evaluated t)
    evaluated (VariableTerm id ty) = unwrap_or (variable_in a id) (VariableTerm id ty)

    -- what each term of a list evaluates to
    pub all_evaluated : PlainTerms → List PlainTerm
    all_evaluated no_terms = []
    all_evaluated (one_term t ts) = evaluated t ∷ all_evaluated ts

    -- the fields of a record, each with what its term evaluates to
    pub evaluated_fields : PlainFields → PlainFields
    evaluated_fields no_fields = no_fields
    evaluated_fields (one_field x t fs) = one_field x (evaluated t) (evaluated_fields fs)
