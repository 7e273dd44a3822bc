-- What variables with their numbers say.
use Rattle.std.specs.Prelude.{ℕ, suc, List, [], ◌∷◌, map}
use Rattle.std.specs.Rc.{rc_str_bytes}
use Rattle.law_terms.specs.Plain.{PlainType}
use Rattle.law_blasting.specs.Blasted.{Variables}
use Rattle.smt_term.specs.View.{plain_type}
use Rattle.smt_blast.specs.declared.variable.BitVar.{BitVar}
use Rattle.smt_blast.specs.declared.variable.BitVarList.{BitVarList}

-- a variable, by its id and type, with its number
pub record NumberedVariable : Type 0 where
  pub variable : List ℕ × PlainType
  pub number : ℕ

-- what a variable with its number says
abbrev pub plain_bit_var : BitVar → NumberedVariable
plain_bit_var v = record { variable = (rc_str_bytes v.id, plain_type v.ty); number = v.number }

-- what the variables of a list say, in order
abbrev pub plain_bit_vars : BitVarList → List NumberedVariable
plain_bit_vars list = map plain_bit_var list.items.items

-- variables with their numbers, from k on
abbrev pub numbered_from : ℕ → Variables → List NumberedVariable
numbered_from k [] = []
numbered_from k (v ∷ vs) = record { variable = v; number = k } ∷ numbered_from (suc k) vs
