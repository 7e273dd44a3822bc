-- The plain form of the program's values: what they say, without where they lie in memory.
use Rattle.std.specs.Prelude.{ℕ, List, [], ◌∷◌, map, Option, Some, None, ◌≡◌, refl}
use Rattle.std.specs.List.{zip}
use Rattle.std.proofs.Common.{ap, ◌∙◌}
use Rattle.std.specs.Rc.{rc_str_bytes}
use Rattle.std.specs.declared.alloc.Global.{Global}
use Rattle.std.specs.declared.rc.RcStr.{RcStr}
use Rattle.smt_term.specs.Entities.{bytes_of_id, bytes_of_type}
use Rattle.smt_term.specs.Pairs.{attributes_in}
use Rattle.smt_values.specs.AttributeMaps.{pairs_of, attributes_of}
use Rattle.smt_term.specs.NamedVecs.{attributes-over}
use Rattle.smt_values.specs.declared.literal.Literal.{Literal}
use Rattle.smt_values.specs.declared.literal.Literal.TheVariants.{Bool as TruthLiteral, Long as LongLiteral, String as TextLiteral}
use Rattle.smt_values.specs.declared.literal.Literal.TheVariants.{EntityUID as EntityLiteral}
use Rattle.smt_values.specs.declared.expression.ExprList.{ExprList}
use Rattle.smt_values.specs.declared.expression.RestrictedExpr.{RestrictedExpr, Lit as LitExpression, Call, Call', Other}
use Rattle.smt_values.specs.declared.expression.RestrictedExpr.{Row_of-RestrictedExpr, end_of-RestrictedExpr, more_of-RestrictedExpr}
use Rattle.smt_values.specs.declared.expression.RestrictedExpr.{items-the_row-RestrictedExpr, items_hidden-the_row-RestrictedExpr-0}
use Rattle.smt_values.specs.declared.expression.RestrictedExpr.TheBlock.{hidden-the_row-RestrictedExpr-0}
use Rattle.smt_values.specs.declared.value.Value.{Value, Lit, Set, Set', Record, Record', ExtensionValue as ExtensionOf, Row_of-Value}
use Rattle.smt_values.specs.declared.value.Value.{end_of-Value, more_of-Value, items-the_row-Value, items_hidden-the_row-Value-0}
use Rattle.smt_values.specs.declared.value.Value.{items_hidden-the_row-Value-1}
use Rattle.smt_values.specs.declared.value.Value.TheBlock.{hidden-the_row-Value-0, hidden-the_row-Value-1, shape-the_row-Value-1}
use Rattle.smt_values.specs.declared.value.ValueList.{ValueList}
use Rattle.smt_values.specs.declared.value.ValueMap.{ValueMap}
use Rattle.smt_values.specs.declared.value.PartialMap.{PartialMap}
use Rattle.smt_values.specs.declared.value.PartialValue.{PartialValue}
use Rattle.smt_values.specs.declared.value.PartialValue.TheVariants.{Value as Known, Residual}
use Rattle.smt_values.specs.PlainValues.{CedarLiteral, TruthOf, LongOf, TextOf, EntityOf, PlainExpression, LiteralExpression, CallOf}
use Rattle.smt_values.specs.PlainValues.{OtherExpression, PlainArguments, no_arguments, argument, arguments, PlainValue, LiteralValue}
use Rattle.smt_values.specs.PlainValues.{SetValue, RecordValue, ExtensionValue, PlainValues, no_values, one_value, values, PlainFields}
use Rattle.smt_values.specs.PlainValues.{no_fields, one_field, value_fields}

-- the plain form of a literal
abbrev pub plain_literal : Literal → CedarLiteral
plain_literal (TruthLiteral b) = TruthOf b
plain_literal (LongLiteral n) = LongOf n
plain_literal (TextLiteral text) = TextOf (rc_str_bytes text)
plain_literal (EntityLiteral e) = EntityOf (bytes_of_type e.ety) (bytes_of_id e.id)

-- ---- expressions

unfoldable mutual
  -- the plain form of an expression
  pub plain_expression : RestrictedExpr → PlainExpression
  plain_expression (LitExpression literal) = LiteralExpression (plain_literal literal)
  plain_expression (Call' name shape row) = CallOf (rc_str_bytes name) (plain_arguments row)
  plain_expression Other = OtherExpression

  -- the plain form of the arguments of a call, from first to last
  pub plain_arguments : {m : _} → Row_of-RestrictedExpr m → PlainArguments
  plain_arguments end_of-RestrictedExpr = no_arguments
  plain_arguments (more_of-RestrictedExpr e rest) = argument (plain_expression e) (plain_arguments rest)

-- the expressions of a list, in order
abbrev pub expressions_held : ExprList → List RestrictedExpr
expressions_held es = es.items.items

-- the plain forms of the expressions of a list, in order
abbrev pub plain_expressions : ExprList → List PlainExpression
plain_expressions es = map plain_expression (expressions_held es)

-- the plain forms of expressions as the arguments of a call, in order
abbrev pub arguments_of : List RestrictedExpr → PlainArguments
arguments_of es = arguments (map plain_expression es)

-- ---- values

unfoldable mutual
  -- the plain form of a Cedar value
  pub plain_value_of : Value → PlainValue
  plain_value_of (Lit literal) = LiteralValue (plain_literal literal)
  plain_value_of (Set' shape row) = SetValue (plain_values row)
  plain_value_of (Record' shape row) = RecordValue (plain_fields (attributes_of shape) row)
  plain_value_of (ExtensionOf e) = ExtensionValue (plain_expression e)

  -- the plain form of the elements of a set, in the order in which they were given
  pub plain_values : {m : _} → Row_of-Value m → PlainValues
  plain_values end_of-Value = no_values
  plain_values (more_of-Value v rest) = one_value (plain_value_of v) (plain_values rest)

  -- the plain form of a record by the list of its attributes and the row of their values, one with the other in order
  pub plain_fields : {m : _} → List (List ℕ) → Row_of-Value m → PlainFields
  plain_fields [] row = no_fields
  plain_fields (name ∷ others) end_of-Value = no_fields
  plain_fields (name ∷ others) (more_of-Value v rest) = one_field name (plain_value_of v) (plain_fields others rest)

-- the values of a list, in order
abbrev pub values_held : ValueList → List Value
values_held vs = vs.items.items

-- the plain forms of the values of a list, in order
abbrev pub plain_values_in : ValueList → List PlainValue
plain_values_in vs = map plain_value_of (values_held vs)

-- the attributes of a map with their values, in order
abbrev pub fields_held : ValueMap → List (RcStr Global × Value)
fields_held m = pairs_of m.pairs

-- an attribute as bytes, with the plain form of its value
abbrev pub named_field : RcStr Global × Value → List ℕ × PlainValue
named_field p = (rc_str_bytes p.0, plain_value_of p.1)

-- the attributes of a map as bytes, each with the plain form of its value, in order
abbrev pub named_fields : ValueMap → List (List ℕ × PlainValue)
named_fields m = map named_field (fields_held m)

-- ---- what is known of values

-- the plain form of a value, where the value is known
abbrev pub plain_known : PartialValue → Option PlainValue
plain_known (Known v) = Some (plain_value_of v)
plain_known Residual = None

-- the attributes of a map with what is known of their values, in order
abbrev pub parts_held : PartialMap → List (RcStr Global × PartialValue)
parts_held m = pairs_of m.pairs

-- an attribute as bytes, with the plain form of its value where that is known
abbrev pub known_field : RcStr Global × PartialValue → List ℕ × Option PlainValue
known_field p = (rc_str_bytes p.0, plain_known p.1)

-- the attributes of a map as bytes, each with the plain form of its value where that is known, in order
abbrev pub known_fields : PartialMap → List (List ℕ × Option PlainValue)
known_fields m = map known_field (parts_held m)

-- ---- the equations of the views, by which a proof reads them

-- a literal as an expression is seen by the plain form of the literal
pub plain_expression-Lit : (literal : Literal) → plain_expression (LitExpression literal) ≡ LiteralExpression (plain_literal literal)
unfolding plain_expression
plain_expression-Lit literal = refl

arguments-items : {m : _} (row : Row_of-RestrictedExpr m) →
    plain_arguments row ≡ arguments (map plain_expression (items-the_row-RestrictedExpr m row))
unfolding plain_expression plain_arguments
arguments-items end_of-RestrictedExpr = refl
arguments-items (more_of-RestrictedExpr e rest) = ap (argument (plain_expression e)) (arguments-items rest)

-- a call is seen by the bytes of the function's name and the plain forms of its arguments in order
pub plain_expression-Call : (name : RcStr Global) (args : ExprList) →
    plain_expression (Call name args) ≡ CallOf (rc_str_bytes name) (arguments_of (expressions_held args))
unfolding plain_expression plain_arguments
plain_expression-Call name args =
    ap (CallOf (rc_str_bytes name)) (arguments-items (hidden-the_row-RestrictedExpr-0 args.items)
    ∙ ap (λ l. arguments (map plain_expression l)) (items_hidden-the_row-RestrictedExpr-0 args.items))

-- any other expression is seen as such, and nothing else is said of it
pub plain_expression-Other : plain_expression Other ≡ OtherExpression
unfolding plain_expression
plain_expression-Other = refl

-- a literal as a value is seen by the plain form of the literal
pub plain_value-Lit : (literal : Literal) → plain_value_of (Lit literal) ≡ LiteralValue (plain_literal literal)
unfolding plain_value_of
plain_value-Lit literal = refl

values-items : {m : _} (row : Row_of-Value m) → plain_values row ≡ values (map plain_value_of (items-the_row-Value m row))
unfolding plain_value_of plain_values
values-items end_of-Value = refl
values-items (more_of-Value v rest) = ap (one_value (plain_value_of v)) (values-items rest)

-- a set is seen by the plain forms of its elements in the order in which they were given
pub plain_value-Set : (vs : ValueList) → plain_value_of (Set vs) ≡ SetValue (values (map plain_value_of (values_held vs)))
unfolding plain_value_of plain_values
plain_value-Set vs =
    ap SetValue
    (values-items (hidden-the_row-Value-0 vs.items) ∙ ap (λ l. values (map plain_value_of l)) (items_hidden-the_row-Value-0 vs.items))

fields_named : {m : _} (ns : List (List ℕ)) (row : Row_of-Value m) →
    plain_fields ns row ≡ value_fields (zip ns (map plain_value_of (items-the_row-Value m row)))
unfolding plain_fields
fields_named [] row = refl
fields_named (n ∷ ns) end_of-Value = refl
fields_named (n ∷ ns) (more_of-Value v rest) = ap (one_field n (plain_value_of v)) (fields_named ns rest)

zipped : (ps : List (RcStr Global × Value)) → zip (attributes_in ps) (map plain_value_of (map (λ p. p.1) ps)) ≡ map named_field ps
zipped [] = refl
zipped (p ∷ ps) = ap (λ l. named_field p ∷ l) (zipped ps)

-- a record is seen by its attributes as bytes, each with the plain form of its value, in order
pub plain_value-Record : (m : ValueMap) → plain_value_of (Record m) ≡ RecordValue (value_fields (named_fields m))
unfolding plain_value_of shape-the_row-Value-1
plain_value-Record m =
    ap RecordValue (fields_named (attributes_of (shape-the_row-Value-1 m.pairs)) (hidden-the_row-Value-1 m.pairs)
    ∙ ap (λ vs. value_fields (zip (attributes_of (shape-the_row-Value-1 m.pairs)) (map plain_value_of vs)))
    (items_hidden-the_row-Value-1 m.pairs)
    ∙ ap (λ ns. value_fields (zip ns (map plain_value_of (map (λ p. p.1) m.pairs.items.items))))
    (attributes-over (λ _. tt) m.pairs.items.items)
    ∙ ap value_fields (zipped m.pairs.items.items))

-- a value of an extension type is seen by the plain form of its expression
pub plain_value-Extension : (e : RestrictedExpr) → plain_value_of (ExtensionOf e) ≡ ExtensionValue (plain_expression e)
unfolding plain_value_of
plain_value-Extension e = refl

-- the equations of the views of expressions and values together, as proofs use them
pub ruleset value_views = (
  plain_expression-Lit,
  plain_expression-Call,
  plain_expression-Other,
  plain_value-Lit,
  plain_value-Set,
  plain_value-Record,
  plain_value-Extension,
)
