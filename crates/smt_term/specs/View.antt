-- The plain form of the program's operators and terms: what they say, without where they lie in memory. That of types is
-- in `TypeView`.
use Rattle.std.specs.Prelude.{ℕ, List, [], ◌∷◌, map, ◌≡◌, refl, IfOk, Result}
use Rattle.std.specs.List.{zip}
use Rattle.smt_bits.specs.BitVec.{number_of, width_of}
use Rattle.std.proofs.Common.{ap, ◌∙◌}
use Rattle.std.specs.Rc.{rc_str_bytes}
use Rattle.std.specs.declared.alloc.Global.{Global}
use Rattle.std.specs.declared.rc.Rc.{Rc}
use Rattle.std.specs.declared.rc.RcStr.{RcStr}
use Rattle.smt_term.specs.Entities.{bytes_of_id, bytes_of_type}
use Rattle.smt_ext.specs.ExtOrder.{plain_value}
use Rattle.smt_term.specs.ExtensionView.{plain_extension_op}
use Rattle.smt_term.specs.PatternView.{plain_ord_pattern}
use Rattle.law_numbers.specs.BitOperators.{BvaddOp, BvlshrOp, BvmulOp, BvsdivOp, BvshlOp, BvsmodOp, BvsremOp, BvsubOp, BvudivOp, BvuremOp}
use Rattle.law_numbers.specs.BitOperators.{BvsleOp, BvsltOp, BvuleOp, BvultOp, BvsaddoOp, BvsmuloOp, BvssuboOp}
use Rattle.law_terms.specs.Plain.{PlainFunction, PlainOp, AndOp, BvnegOp, BvnegoOp, EqOp, ExtOp, IteOp, NotOp, OptionGetOp, OrOp}
use Rattle.law_terms.specs.Plain.{RecordGetOp, SetInterOp, SetMemberOp, SetSubsetOp, StringLikeOp, UufOp, ZeroExtendOp, PlainLiteral}
use Rattle.law_terms.specs.Plain.{BitVecLiteral, BoolLiteral, EntityLiteral, ExtensionLiteral, StringLiteral, PlainTerm, Application}
use Rattle.law_terms.specs.Plain.{NoneTerm, LiteralTerm, RecordTerm, SetTerm, SomeTerm, VariableTerm, PlainFields, no_fields, one_field}
use Rattle.law_terms.specs.Plain.{PlainTerms, no_terms, one_term, terms, BitsOp, TestOp, OverflowOp, record_fields}
use Rattle.smt_term.specs.Pairs.{attributes_in, pairs_of}
use Rattle.smt_term.specs.NamedVecs.{attributes-over}
use Rattle.smt_term.specs.declared.maps.TermMap.{TermMap}
-- what types say
unfoldable pub use Rattle.smt_term.specs.TypeView.{plain_type, plain_types}
pub use Rattle.smt_term.specs.TypeView.{attributes_held, attributes_of, plain_attribute, plain_attributes, plain_type-Option}
pub use Rattle.smt_term.specs.TypeView.{plain_type-Bitvec, plain_type-Bool, plain_type-Entity, plain_type-Ext, plain_type-String}
pub use Rattle.smt_term.specs.TypeView.{plain_type-Record, plain_type-Set}
use Rattle.smt_term.specs.declared.types.TermType.{TermType}
use Rattle.smt_term.specs.declared.function.Uuf.{Uuf as Function}
use Rattle.smt_term.specs.declared.op.Op.{Op}
use Rattle.smt_term.specs.declared.op.Op.TheVariants.{And, Bvadd, Bvlshr, Bvmul, Bvneg, Bvnego, Bvsaddo, Bvsdiv, Bvshl, Bvsle, Bvslt}
use Rattle.smt_term.specs.declared.op.Op.TheVariants.{Bvsmod, Bvsmulo, Bvsrem, Bvssubo, Bvsub, Bvudiv, Bvule, Bvult, Bvurem, Eq}
use Rattle.smt_term.specs.declared.op.Op.TheVariants.{Ext as ExtensionOf, Ite, Not, OptionGet, Or, RecordGet, SetInter, SetMember}
use Rattle.smt_term.specs.declared.op.Op.TheVariants.{SetSubset, StringLike, Uuf, ZeroExtend}
use Rattle.smt_term.specs.declared.term.TermVar.{TermVar}
use Rattle.smt_term.specs.declared.term.TermPrim.{TermPrim}
use Rattle.smt_term.specs.declared.term.TermPrim.TheVariants.{Bitvec as BitsLiteral, Bool as TruthLiteral, Entity as EntityOf}
use Rattle.smt_term.specs.declared.term.TermPrim.TheVariants.{Ext as ValueOf, String as TextLiteral}
use Rattle.smt_term.specs.declared.term.Term.{Term, App, App', None, Prim, Record, Record', Set, Set', Some, Some', Var, Row_of-Term}
use Rattle.smt_term.specs.declared.term.Term.{end_of-Term, more_of-Term, items-the_row-Term, items_hidden-the_row-Term-0}
use Rattle.smt_term.specs.declared.term.Term.{items_hidden-the_row-Term-1}
use Rattle.smt_term.specs.declared.term.TermList.{TermList}
use Rattle.smt_term.specs.declared.term.TermSet.{TermSet}
use Rattle.smt_term.specs.declared.term.Term.TheBlock.{hidden-the_row-Term-0, hidden-the_row-Term-1, shape-the_row-Term-1}

-- what an uninterpreted function says: its id, and the types of its argument and of what it gives
abbrev pub plain_function : Function → PlainFunction
plain_function f = record { id = rc_str_bytes f.id; argument = plain_type f.arg; output = plain_type f.out }

-- what an operator says
abbrev pub plain_op : Op → PlainOp
plain_op And = AndOp
plain_op Bvadd = BitsOp BvaddOp
plain_op Bvlshr = BitsOp BvlshrOp
plain_op Bvmul = BitsOp BvmulOp
plain_op Bvneg = BvnegOp
plain_op Bvnego = BvnegoOp
plain_op Bvsaddo = OverflowOp BvsaddoOp
plain_op Bvsdiv = BitsOp BvsdivOp
plain_op Bvshl = BitsOp BvshlOp
plain_op Bvsle = TestOp BvsleOp
plain_op Bvslt = TestOp BvsltOp
plain_op Bvsmod = BitsOp BvsmodOp
plain_op Bvsmulo = OverflowOp BvsmuloOp
plain_op Bvsrem = BitsOp BvsremOp
plain_op Bvssubo = OverflowOp BvssuboOp
plain_op Bvsub = BitsOp BvsubOp
plain_op Bvudiv = BitsOp BvudivOp
plain_op Bvule = TestOp BvuleOp
plain_op Bvult = TestOp BvultOp
plain_op Bvurem = BitsOp BvuremOp
plain_op Eq = EqOp
plain_op (ExtensionOf o) = ExtOp (plain_extension_op o)
plain_op Ite = IteOp
plain_op Not = NotOp
plain_op OptionGet = OptionGetOp
plain_op Or = OrOp
plain_op (RecordGet a) = RecordGetOp (rc_str_bytes a)
plain_op SetInter = SetInterOp
plain_op SetMember = SetMemberOp
plain_op SetSubset = SetSubsetOp
plain_op (StringLike p) = StringLikeOp (plain_ord_pattern p)
plain_op (Uuf f) = UufOp (plain_function f.value)
plain_op (ZeroExtend k) = ZeroExtendOp k

-- what a literal says: bits by width and number, a truth value, an entity by type and id, a value of an extension type, or a string
-- by its UTF-8 bytes
abbrev pub plain_literal : TermPrim → PlainLiteral
plain_literal (BitsLiteral b) = BitVecLiteral (width_of b) (number_of b)
plain_literal (TruthLiteral b) = BoolLiteral b
plain_literal (EntityOf e) = EntityLiteral (bytes_of_type e.ety) (bytes_of_id e.id)
plain_literal (ValueOf x) = ExtensionLiteral (plain_value x)
plain_literal (TextLiteral s) = StringLiteral (rc_str_bytes s)

-- what a variable says, as a term: its id and its type
abbrev pub plain_variable : TermVar → PlainTerm
plain_variable v = VariableTerm (rc_str_bytes v.id) (plain_type v.ty)

unfoldable mutual
  -- what a term says
  pub plain_term : Term → PlainTerm
  plain_term (App' op p shape row type) = Application (plain_op op) (plain_row row) (plain_type type)
  plain_term (None type) = NoneTerm (plain_type type)
  plain_term (Prim literal) = LiteralTerm (plain_literal literal)
  plain_term (Record' shape row) = RecordTerm (plain_named (attributes_of shape) row)
  plain_term (Set' element p shape row) = SetTerm (plain_type element) (plain_row row)
  plain_term (Some' p t) = SomeTerm (plain_term t)
  plain_term (Var v) = plain_variable v

  -- what the terms of a row say, in order
  pub plain_row : {m : _} → Row_of-Term m → PlainTerms
  plain_row end_of-Term = no_terms
  plain_row (more_of-Term t rest) = one_term (plain_term t) (plain_row rest)

  -- the fields of a record, by these attributes and by the terms of a row in the same order
  pub plain_named : {m : _} → List (List ℕ) → Row_of-Term m → PlainFields
  plain_named [] row = no_fields
  plain_named (name ∷ others) end_of-Term = no_fields
  plain_named (name ∷ others) (more_of-Term t rest) = one_field name (plain_term t) (plain_named others rest)

-- the attributes of a map and their terms
abbrev pub fields_of : TermMap → List (RcStr Global × Term)
fields_of m = pairs_of m.pairs

-- what an attribute and its term say
abbrev pub plain_field : RcStr Global × Term → List ℕ × PlainTerm
plain_field p = (rc_str_bytes p.0, plain_term p.1)

-- what the pairs of a map say, in order
abbrev pub plain_fields : TermMap → List (List ℕ × PlainTerm)
plain_fields m = map plain_field (fields_of m)

-- the terms of a list
abbrev pub items_of : TermList → List Term
items_of ts = ts.items.value.items

-- what the terms of a list say
abbrev pub plain_items : TermList → List PlainTerm
plain_items ts = map plain_term (items_of ts)

-- the elements of a set
abbrev pub elements_of : TermSet → List Term
elements_of ts = ts.items.value.items

-- what the elements of a set say
abbrev pub plain_elements : TermSet → List PlainTerm
plain_elements ts = map plain_term (elements_of ts)

-- ---- the equations of the view, by which proofs read it

-- a row says what its items say, in order
pub plain_row-items : {m : _} (row : Row_of-Term m) → plain_row row ≡ terms (map plain_term (items-the_row-Term m row))
unfolding plain_term plain_row
plain_row-items end_of-Term = refl
plain_row-items (more_of-Term t rest) = ap (one_term (plain_term t)) (plain_row-items rest)

-- an application says its operator, its arguments in order, and the type that is claimed for it
pub plain_term-App : (op : Op) (args : TermList) (type : TermType) →
    plain_term (App op args type) ≡ Application (plain_op op) (terms (plain_items args)) (plain_type type)
unfolding plain_term plain_row
plain_term-App op args type =
    ap (λ ts. Application (plain_op op) ts (plain_type type)) (plain_row-items (hidden-the_row-Term-0 args.items.value)
    ∙ ap (λ l. terms (map plain_term l)) (items_hidden-the_row-Term-0 args.items.value))

-- none says the type that the option would have inside
pub plain_term-None : (type : TermType) → plain_term (None type) ≡ NoneTerm (plain_type type)
unfolding plain_term
plain_term-None type = refl

-- a literal says itself, as a term
pub plain_term-Prim : (literal : TermPrim) → plain_term (Prim literal) ≡ LiteralTerm (plain_literal literal)
unfolding plain_term
plain_term-Prim literal = refl

terms_named : {m : _} (ns : List (List ℕ)) (row : Row_of-Term m) →
    plain_named ns row ≡ record_fields (zip ns (map plain_term (items-the_row-Term m row)))
unfolding plain_named
terms_named [] row = refl
terms_named (n ∷ ns) end_of-Term = refl
terms_named (n ∷ ns) (more_of-Term t rest) = ap (one_field n (plain_term t)) (terms_named ns rest)

fields-zipped : (ps : List (RcStr Global × Term)) → zip (attributes_in ps) (map plain_term (map (λ p. p.1) ps)) ≡ map plain_field ps
fields-zipped [] = refl
fields-zipped (p ∷ ps) = ap (λ l. plain_field p ∷ l) (fields-zipped ps)

-- a record says its fields in order, each with what its term says
pub plain_term-Record : (m : TermMap) → plain_term (Record m) ≡ RecordTerm (record_fields (plain_fields m))
unfolding plain_term shape-the_row-Term-1
plain_term-Record m =
    ap RecordTerm (terms_named (attributes_of (shape-the_row-Term-1 m.pairs)) (hidden-the_row-Term-1 m.pairs)
    ∙ ap (λ ts. record_fields (zip (attributes_of (shape-the_row-Term-1 m.pairs)) (map plain_term ts)))
    (items_hidden-the_row-Term-1 m.pairs)
    ∙ ap (λ ns. record_fields (zip ns (map plain_term (map (λ p. p.1) m.pairs.items.value.items))))
    (attributes-over (λ _. tt) m.pairs.items.value.items)
    ∙ ap record_fields (fields-zipped m.pairs.items.value.items))

-- a set says the type of its elements, and its elements in order
pub plain_term-Set : (element : TermType) (ts : TermSet) →
    plain_term (Set element ts) ≡ SetTerm (plain_type element) (terms (plain_elements ts))
unfolding plain_term plain_row
plain_term-Set element ts =
    ap (SetTerm (plain_type element)) (plain_row-items (hidden-the_row-Term-0 ts.items.value)
    ∙ ap (λ l. terms (map plain_term l)) (items_hidden-the_row-Term-0 ts.items.value))

-- some says what its term says, as an option
pub plain_term-Some : (t : Rc Term Global) → plain_term (Some t) ≡ SomeTerm (plain_term t.value)
unfolding plain_term
plain_term-Some t = refl

-- a variable says its id and its type
pub plain_term-Var : (v : TermVar) → plain_term (Var v) ≡ plain_variable v
unfolding plain_term
plain_term-Var v = refl

-- the equations of types and of terms together, for proofs that rewrite with them
pub ruleset views = (
  plain_type-Option,
  plain_type-Bitvec,
  plain_type-Bool,
  plain_type-Entity,
  plain_type-Ext,
  plain_type-String,
  plain_type-Record,
  plain_type-Set,
  plain_term-App,
  plain_term-None,
  plain_term-Prim,
  plain_term-Record,
  plain_term-Set,
  plain_term-Some,
  plain_term-Var,
)

-- what terms of the program say, in order
abbrev pub plain_terms : List Term → List PlainTerm
plain_terms ts = map plain_term ts

-- On Ok a term was built that says this.
abbrev pub BuildsTerm : {E : Type 0} → Result Term E → PlainTerm → Type 0
BuildsTerm result u = IfOk result (λ t. plain_term t ≡ u)
