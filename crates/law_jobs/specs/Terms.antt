-- The terms that jobs state: `true`, `false`, a string, a literal in base 2 or 16, `(var "id")`, `(bv W N)`, `(long "-5")`,
-- `(entity "T" "id")`, `(decimal "1.5")`, `(ip "10.0.0.0/8")`, `(datetime "2024-10-15")`, `(duration "1d2h")`, `(none TYPE)`,
-- `(some t)`, `(set TYPE t ..)`, `(record ("a" t) ..)`, `(zero_extend N t)`, `(record.get "a" t)`, `(string.like (P ..) t)`, each P a
-- string or `*`, `(uuf "f" t)`, and `(name t ..)` of another operator.
use Rattle.std.specs.Prelude.{ℕ, ◌==◌, Bool, true, false, not, ◌&&◌, nat_le, ℤ, bytes_eq, codes, decimal, if◌then◌else◌, map, List, [], ◌∷◌}
use Rattle.std.specs.Prelude.{◌++◌, Option, Some, None, Ok, Err, option_map}
use Rattle.std.specs.Bool.{then_some}
use Rattle.std.specs.List.{list_all, zip}
use Rattle.std.specs.Map.{lookup}
use Rattle.std.specs.Option.{option_and_then, option_or}
use Rattle.std.proofs.Math.Utf8.{scalars}
use Rattle.law_numbers.specs.BitOperators.{bits_operators, test_operators, overflow_operators}
use Rattle.law_numbers.specs.BitVectors.{bits_of, overflows}
use Rattle.law_numbers.specs.Widths.{are_bits}
use Rattle.law_texts.specs.Digits.{is_numeral, decimal_number, signed_number}
use Rattle.smt_ext.specs.IpOrder.{plain_range}
use Rattle.law_extensions.specs.DatetimeTexts.{datetime_in}
use Rattle.law_extensions.specs.DecimalTexts.{decimal_in}
use Rattle.law_extensions.specs.DurationTexts.{duration_in}
use Rattle.law_extensions.specs.RangeTexts.{range_in}
use Rattle.law_folding.specs.FoldRecords.{record_of_pairs}
use Rattle.law_terms.specs.Names.{extension_op_name, op_name}
use Rattle.law_terms.specs.Plain.{PlainType, BoolType, ExtensionOp, DatetimeOfBitVecOp, DatetimeValOp, DecimalValOp, DurationOfBitVecOp}
use Rattle.law_terms.specs.Plain.{DurationValOp, IpAddrV4Op, IpAddrV6Op, IpIsV4Op, IpPrefixV4Op, IpPrefixV6Op, PatternPart, Character}
use Rattle.law_terms.specs.Plain.{Wildcard, PlainOp, AndOp, BvnegOp, BvnegoOp, EqOp, ExtOp, IteOp, NotOp, OptionGetOp, OrOp, RecordGetOp}
use Rattle.law_terms.specs.Plain.{SetInterOp, SetMemberOp, SetSubsetOp, StringLikeOp, UufOp, ZeroExtendOp, DatetimeOf, DecimalOf}
use Rattle.law_terms.specs.Plain.{DurationOf, PlainLiteral, BitVecLiteral, BoolLiteral, EntityLiteral, ExtensionLiteral, StringLiteral}
use Rattle.law_terms.specs.Plain.{PlainTerm, Application, LiteralTerm, NoneTerm, SomeTerm, VariableTerm, terms, BitsOp, TestOp, OverflowOp}
use Rattle.law_terms.specs.TermSets.{set_term}
use Rattle.law_terms.specs.Types.{result_type, type_eq, type_of}
use Rattle.law_texts.specs.Lexicon.{Atom, Bits, Name, Number, Text}
use Rattle.law_texts.specs.Reading.{Expression, Leaf, Node, Expressions, Nil, Cons}
use Rattle.law_jobs.specs.Outcomes.{Outcome, followed, FormFault, LiteralFault, TruthFault, TypingFault, UnknownFault, WidthFault}
use Rattle.law_texts.specs.Outcomes.{◌>>=◌, demanded}
use Rattle.law_texts.specs.Parts.{both, first_in, inside_of, name_in, number_in, pair_in, sole, sole_text, text_in}
use Rattle.law_jobs.specs.Types.{new_name, type_of_expression, width_in}
use Rattle.law_jobs.specs.Declarations.{Declared, declared}

-- ---- literals

-- the literals `true` and `false`
abbrev pub truth_named : List ℕ → Option PlainTerm
truth_named n =
    if bytes_eq n (codes "true") then Some (LiteralTerm (BoolLiteral true))
    else then_some (bytes_eq n (codes "false")) (LiteralTerm (BoolLiteral false))

-- a bitvector literal by its width and number: the width is from 1 to 128, and the number below 2 to the width
abbrev pub bits_literal : (width number : ℕ) → Option PlainTerm
bits_literal w n = then_some (are_bits w n) (LiteralTerm (BitVecLiteral w n))

-- An atom as a term: `true`, `false`, a string, or a literal in base 2 or 16, which has the width that its digits give it. A
-- numeral, and any other symbol, is none.
abbrev pub atom_term : Atom → Outcome PlainTerm
atom_term (Name n) = demanded FormFault (truth_named n)
atom_term (Text points) = demanded FormFault (option_map (λ s. LiteralTerm (StringLiteral s)) (text_in (Leaf (Text points))))
atom_term (Bits w n) = demanded FormFault (bits_literal w n)
atom_term (Number n) = Err FormFault

-- a whole number of 64 bits with sign, by whether a minus stands in front and by the digits
abbrev pub long_of : (negative : Bool) → (digits : List ℕ) → Option ℤ
long_of negative digits =
    then_some (is_numeral digits && not (overflows 64 (signed_number negative (decimal_number digits))))
    (signed_number negative (decimal_number digits))

-- the whole number that a text is: a minus where it is negative, digits, and no plus; from -2 to the 63 to 2 to the 63 less 1
abbrev pub long_in : List ℕ → Option ℤ
long_in [] = None
long_in (b ∷ bs) = if b == 45 then long_of true bs else long_of false (b ∷ bs)

-- such a number as a literal of 64 bits, in two's complement: `(long "-5")`
abbrev pub long_literal : List ℕ → Option PlainLiteral
long_literal text = option_map (λ z. BitVecLiteral 64 (bits_of 64 z)) (long_in text)

-- the decimal that a text is, as a literal: `(decimal "1.5")`
abbrev pub decimal_literal : List ℕ → Option PlainLiteral
decimal_literal text = option_map (λ z. ExtensionLiteral (DecimalOf z)) (decimal_in text)

-- the IP range that a text is, as a literal: `(ip "10.0.0.0/8")`
abbrev pub range_literal : List ℕ → Option PlainLiteral
range_literal text = option_map (λ r. ExtensionLiteral (plain_range r)) (range_in text)

-- the datetime that a text is, as a literal: `(datetime "2024-10-15")`
abbrev pub datetime_literal : List ℕ → Option PlainLiteral
datetime_literal text = option_map (λ z. ExtensionLiteral (DatetimeOf z)) (datetime_in text)

-- the duration that a text is, as a literal: `(duration "1d2h")`
abbrev pub duration_literal : List ℕ → Option PlainLiteral
duration_literal text = option_map (λ z. ExtensionLiteral (DurationOf z)) (duration_in text)

-- ---- patterns

-- the wildcard, for which the symbol `*` stands in a pattern
abbrev pub wildcard_named : List ℕ → Option (List PatternPart)
wildcard_named n = then_some (bytes_eq n (codes "*")) (Wildcard ∷ [])

-- a part of a pattern: the characters of a string, each by itself, or the wildcard. A star in a string is a character.
abbrev pub pattern_part : Expression → Option (List PatternPart)
pattern_part (Leaf (Text points)) = then_some (scalars points) (map Character points)
pattern_part (Leaf (Name n)) = wildcard_named n
pattern_part e = None

-- the parts of a pattern in order, if each expression is such a part
abbrev pub pattern_parts : Expressions → Option (List PatternPart)
pattern_parts Nil = Some []
pattern_parts (Cons e es) = option_and_then (λ part. option_map (λ parts. part ++ parts) (pattern_parts es)) (pattern_part e)

-- the pattern that stands in brackets: `("a" * "z")`
abbrev pub pattern_in : Expression → Option (List PatternPart)
pattern_in e = option_and_then pattern_parts (inside_of e)

-- ---- operators

-- the ten operators on values of extension types that jobs call
abbrev pub extension_operators : List ExtensionOp
extension_operators =
    DatetimeOfBitVecOp ∷ DatetimeValOp ∷ DecimalValOp ∷ DurationOfBitVecOp ∷ DurationValOp ∷ IpAddrV4Op ∷ IpAddrV6Op ∷ IpIsV4Op
    ∷ IpPrefixV4Op ∷ IpPrefixV6Op ∷ []

-- the operator on extension values that a name calls, if it calls one
abbrev pub extension_named : List ℕ → Option PlainOp
extension_named n = lookup (bytes_eq n) (map (λ o. (extension_op_name o, ExtOp o)) extension_operators)

-- the operators that jobs call by their names alone: those to which nothing else belongs
abbrev pub named_operators : List (List ℕ × PlainOp)
named_operators =
    map (λ o. (op_name o, o))
    (NotOp ∷ AndOp ∷ OrOp ∷ EqOp ∷ IteOp ∷ BvnegOp ∷ BvnegoOp ∷ OptionGetOp ∷ SetMemberOp ∷ SetSubsetOp ∷ SetInterOp
    ∷ map BitsOp bits_operators ++ (map TestOp test_operators ++ map OverflowOp overflow_operators))

-- the operator that a name calls which is none on extension values, if it calls one
abbrev pub other_named : List ℕ → Option PlainOp
other_named n = lookup (bytes_eq n) named_operators

-- The operator that a name calls: those of the theory Core and of FixedSizeBitVectors by their names there, but `eq` for equality;
-- those on sets by cvc5's names; those on options and extension values by names of our own.
abbrev pub operator_named : List ℕ → Option PlainOp
operator_named n = option_or (other_named n) (extension_named n)

-- zero extension by so many bits, at most 127, since no width is above 128
abbrev pub extension_by : ℕ → Option PlainOp
extension_by k = then_some (nat_le k 127) (ZeroExtendOp k)

-- an operator at arguments of types that it takes, with the type that it gives; nothing of types that it does not take
abbrev pub applied : PlainOp → List PlainTerm → Option PlainTerm
applied o ts = option_map (Application o (terms ts)) (result_type o (map type_of ts))

-- ---- forms

-- What a term is made of besides its parts, and which of the expressions behind its head are its parts: so reading a head comes
-- before reading the parts, and its faults come first.
pub data TermForm : Type 0 where
  -- a term without parts
  Whole : PlainTerm → TermForm
  -- an operator at all of them
  Operator : PlainOp → TermForm
  -- an operator at the second of two, the first of which belongs to the operator
  OperatorBehind : PlainOp → TermForm
  -- what is there of an option
  Present : TermForm
  -- the elements of a set, behind their type
  Elements : PlainType → TermForm
  -- the values of these attributes, each the second of a pair
  Fields : (names : List (List ℕ)) → TermForm

-- a literal as a term without parts
abbrev pub whole_literal : PlainLiteral → TermForm
whole_literal l = Whole (LiteralTerm l)

-- a literal by the one text that stands behind its head
abbrev pub literal_form : (List ℕ → Option PlainLiteral) → Expressions → Outcome TermForm
literal_form read es = demanded FormFault (sole_text es) >>= λ text. demanded (LiteralFault text) (option_map whole_literal (read text))

-- a variable of the job: `(var "id")`, of the type that the job declares
abbrev pub variable_form : Declared → Expressions → Outcome TermForm
variable_form ds es =
    demanded FormFault (sole_text es) >>=
    λ id. demanded (UnknownFault id) (declared ds.variables id) >>= λ t. Ok (Whole (VariableTerm id t))

-- a bitvector literal by its width and its number: `(bv W N)`
abbrev pub bits_form : Expressions → Outcome TermForm
bits_form es =
    demanded FormFault (both es) >>=
    λ p.
    demanded FormFault (number_in p.1) >>=
    λ n. demanded WidthFault (width_in p.0) >>= λ w. demanded (LiteralFault (decimal n)) (option_map Whole (bits_literal w n))

-- the entity of a type and of an id: `(entity "T" "id")`
abbrev pub entity_form : Expressions → Outcome TermForm
entity_form es =
    demanded FormFault (both es) >>=
    λ p. demanded FormFault (text_in p.0) >>= λ type. demanded FormFault (text_in p.1) >>= λ id. Ok (whole_literal (EntityLiteral type id))

-- the none of an inner type: `(none TYPE)`
abbrev pub none_form : Expressions → Outcome TermForm
none_form es = demanded FormFault (sole es) >>= type_of_expression >>= λ t. Ok (Whole (NoneTerm t))

-- some of a term: `(some t)`
abbrev pub some_form : Expressions → Outcome TermForm
some_form es = demanded FormFault (sole es) >>= λ e. Ok Present

-- a set by its element type and its elements, of which there may be none: `(set TYPE t ..)`
abbrev pub set_form : Expressions → Outcome TermForm
set_form es = demanded FormFault (first_in es) >>= type_of_expression >>= λ t. Ok (Elements t)

-- the attribute that a pair `("a" t)` names
abbrev pub field_name : Expression → Option (List ℕ)
field_name e = option_and_then (λ p. text_in p.0) (pair_in e)

-- the attributes that pairs name, in the order of the job
abbrev pub field_names : Expressions → Outcome (List (List ℕ))
field_names Nil = Ok []
field_names (Cons e es) = demanded FormFault (field_name e) >>= λ a. followed a (field_names es)

-- names of which none stands twice, nor was given before; else the fault of the first that does
abbrev pub new_names : (given names : List (List ℕ)) → Outcome (List (List ℕ))
new_names given [] = Ok []
new_names given (a ∷ names) = new_name given a >>= λ b. followed b (new_names (given ++ a ∷ []) names)

-- a record by its attributes and their terms, no attribute twice: `(record ("a" t) ..)`
abbrev pub record_form : Expressions → Outcome TermForm
record_form es = field_names es >>= new_names [] >>= λ names. Ok (Fields names)

-- zero extension by so many bits: `(zero_extend N t)`
abbrev pub extension_form : Expressions → Outcome TermForm
extension_form es =
    demanded FormFault (both es) >>= λ p. demanded WidthFault (option_and_then extension_by (number_in p.0)) >>= λ o. Ok (OperatorBehind o)

-- the value of a record's attribute: `(record.get "a" t)`
abbrev pub selection_form : Expressions → Outcome TermForm
selection_form es = demanded FormFault (both es) >>= λ p. demanded FormFault (text_in p.0) >>= λ a. Ok (OperatorBehind (RecordGetOp a))

-- whether a string matches a pattern: `(string.like (P ..) t)`
abbrev pub like_form : Expressions → Outcome TermForm
like_form es =
    demanded FormFault (both es) >>= λ p. demanded FormFault (pattern_in p.0) >>= λ parts. Ok (OperatorBehind (StringLikeOp parts))

-- an uninterpreted function of the job at a term: `(uuf "f" t)`
abbrev pub function_form : Declared → Expressions → Outcome TermForm
function_form ds es =
    demanded FormFault (both es) >>=
    λ p.
    demanded FormFault (text_in p.0) >>=
    λ id. demanded (UnknownFault id) (declared ds.functions id) >>= λ f. Ok (OperatorBehind (UufOp f))

-- an operator that has nothing but its arguments: `(name t ..)`
abbrev pub operator_form : List ℕ → Outcome TermForm
operator_form n = demanded (UnknownFault n) (operator_named n) >>= λ o. Ok (Operator o)

-- The form of a head and of what stands behind it. A head that is none of the special ones is an operator's name, and one that is
-- no operator's name either has the fault of an unknown name.
abbrev pub form_of : Declared → (head : List ℕ) → Expressions → Outcome TermForm
form_of ds head es =
    if bytes_eq head (codes "var") then variable_form ds es
    else (if bytes_eq head (codes "bv") then bits_form es
    else (if bytes_eq head (codes "long") then literal_form long_literal es
    else (if bytes_eq head (codes "entity") then entity_form es
    else (if bytes_eq head (codes "decimal") then literal_form decimal_literal es
    else (if bytes_eq head (codes "ip") then literal_form range_literal es
    else (if bytes_eq head (codes "datetime") then literal_form datetime_literal es
    else (if bytes_eq head (codes "duration") then literal_form duration_literal es
    else (if bytes_eq head (codes "none") then none_form es
    else (if bytes_eq head (codes "some") then some_form es
    else (if bytes_eq head (codes "set") then set_form es
    else (if bytes_eq head (codes "record") then record_form es
    else (if bytes_eq head (codes "zero_extend") then extension_form es
    else (if bytes_eq head (codes "record.get") then selection_form es
    else (if bytes_eq head (codes "string.like") then like_form es
    else (if bytes_eq head (codes "uuf") then function_form ds es
    else operator_form head)))))))))))))))

-- ---- terms

-- the parts of a form: all that stand behind the head, all but the first, or the second of each
abbrev pub parts_of : TermForm → (all others seconds : Outcome (List PlainTerm)) → Outcome (List PlainTerm)
parts_of (Whole t) all others seconds = Ok []
parts_of (Operator o) all others seconds = all
parts_of (OperatorBehind o) all others seconds = others
parts_of Present all others seconds = all
parts_of (Elements t) all others seconds = others
parts_of (Fields names) all others seconds = seconds

-- each of the terms has this type
abbrev pub are_of_type : PlainType → List PlainTerm → Bool
are_of_type t us = list_all (λ u. type_eq (type_of u) t) us

-- What a form is of its parts: an operator at terms of types that it takes, a set of terms of its element type, the record of
-- attributes and terms, or some of a term. Types that do not fit are a fault, so that each term of a job is typed.
abbrev pub made : TermForm → List PlainTerm → Outcome PlainTerm
made (Whole t) us = Ok t
made (Operator o) us = demanded TypingFault (applied o us)
made (OperatorBehind o) us = demanded TypingFault (applied o us)
made Present (u ∷ us) = Ok (SomeTerm u)
made Present [] = Err FormFault
made (Elements t) us = demanded TypingFault (then_some (are_of_type t us) (set_term t us))
made (Fields names) us = Ok (record_of_pairs (zip names us))

module _ (ds : Declared) where
  abbrev mutual
    -- The term that an expression states, over what the job declares: its form by its head, then the parts that the form has, and
    -- then what the form is of these. The fault of what stands first in this order is the one that is told.
    pub term_of : Expression → Outcome PlainTerm
    term_of (Leaf a) = atom_term a
    term_of (Node Nil) = Err FormFault
    term_of (Node (Cons head es)) =
        demanded FormFault (name_in head) >>=
        λ n. form_of ds n es >>= λ form. parts_of form (terms_of es) (other_terms es) (second_terms es) >>= made form

    -- the terms that expressions state, in order
    pub terms_of : Expressions → Outcome (List PlainTerm)
    terms_of Nil = Ok []
    terms_of (Cons e es) = term_of e >>= λ t. followed t (terms_of es)

    -- the terms of all expressions but the first, which belongs to the form
    pub other_terms : Expressions → Outcome (List PlainTerm)
    other_terms Nil = Err FormFault
    other_terms (Cons e es) = terms_of es

    -- the terms of the second of each pair, as a record has them
    pub second_terms : Expressions → Outcome (List PlainTerm)
    second_terms Nil = Ok []
    second_terms (Cons (Node (Cons name (Cons e Nil))) es) = term_of e >>= λ t. followed t (second_terms es)
    second_terms (Cons e es) = Err FormFault

  -- a whole term of a job, which has to be of the type Bool
  abbrev pub condition_of : Expression → Outcome PlainTerm
  condition_of e = term_of e >>= λ t. demanded TruthFault (then_some (type_eq (type_of t) BoolType) t)

  -- the terms of a job in order, each of which has to be of the type Bool
  abbrev pub conditions_of : Expressions → Outcome (List PlainTerm)
  conditions_of Nil = Ok []
  conditions_of (Cons e es) = condition_of e >>= λ t. followed t (conditions_of es)
