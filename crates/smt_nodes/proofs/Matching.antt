-- When the label of a node is that of a term, of a function or of a type.
use Rattle.std.proofs.Common.{◌≡◌, ℕ, Bool, true, false, List, refl, sym, ap, ◌∙◌}
use Rattle.std.proofs.lemmas.Bool.{false≢true}
use Rattle.std.proofs.lemmas.Slice.Eq.{bytes_eq-Decides}
use Rattle.std.specs.Cmp.{Equal-is}
use Rattle.std.specs.Ordering.{is_eq}
use Rattle.std.specs.Rc.{rc_str_bytes}
use Rattle.std.specs.declared.alloc.Global.{Global}
use Rattle.std.specs.declared.rc.RcStr.{RcStr}
use Rattle.std.specs.Prelude.{◌↔◌, bytes_eq}
use Rattle.law_terms.specs.Plain.{PlainType, PlainLiteral, PlainOp, PlainTerm, Application, PlainTerms}
use Rattle.law_terms.specs.Nodes.{PlainLabel, EntityLabel, RecordLabel, ApplicationLabel, LiteralLabel, RecordOfLabel, VariableLabel}
use Rattle.law_terms.specs.Parts.{term_label, type_label}
use Rattle.smt_term.specs.Entities.{bytes_of_type}
use Rattle.smt_term.specs.contracts.entity.EntityTypePartialEq.TheImpl as entity_type_equality
use Rattle.smt_term.specs.declared.entity.EntityType.{EntityType}
use Rattle.smt_term.proofs.DerivedEquality.{equal_literals, equal_operators}
use Rattle.smt_term.specs.View.{plain_literal, plain_op}
use Rattle.smt_term.specs.contracts.op.OpPartialEq.TheImpl as op_equality
use Rattle.smt_term.specs.contracts.term.TermPrimPartialEq.TheImpl as literal_equality
use Rattle.std.specs.declared.rc.Rc.{Rc}
use Rattle.smt_term.specs.declared.function.Uuf.{Uuf as Function}
use Rattle.smt_term.specs.declared.op.Op.{Op}
use Rattle.smt_term.specs.declared.op.Op.TheVariants.{And, Uuf}
use Rattle.smt_term.specs.declared.term.TermPrim.{TermPrim}
use Rattle.smt_nodes.proofs.Levels.{label_cmp-is, label_itself, label_same}
use Rattle.smt_nodes.specs.LabelOrder.{label_cmp}
use Rattle.smt_nodes.specs.View.{plain_label}
use Rattle.smt_nodes.specs.contracts.node.LabelPartialEq.TheImpl as label_equality
use Rattle.smt_nodes.specs.contracts.node.LabelOrd.TheImpl.Laws as label_laws
use Rattle.law_texts.specs.SharedTexts.{texts}
use Rattle.smt_nodes.specs.Attributes.{attributes_of}
use Rattle.smt_nodes.specs.declared.attributes.AttrList.{AttrList}
use Rattle.smt_nodes.specs.declared.node.Label.{Label}
use Rattle.smt_nodes.specs.declared.node.Label.TheVariants.{TEntity, TRecord, App, Prim, RecordOf, Var}

-- equal labels of the program say the same
label_equal : (l m : Label) → (label_equality.ghosts.eq l m ≡ true) ↔ (plain_label l ≡ plain_label m)
label_equal l m =
    let same : label_equality.ghosts.eq l m ≡ is_eq (label_cmp (plain_label l) (plain_label m)) = label_laws.matches_eq-law l m ∙ ap is_eq (label_cmp-is l m) in (
      λ h. label_same l m ((Equal-is (label_cmp (plain_label l) (plain_label m))).0 (sym same ∙ h)),
      λ h. same ∙ ap is_eq (sym (ap (label_cmp (plain_label l)) h) ∙ label_itself l),
    )

pub label_is : (r : Bool) (l k : Label) (p : PlainLabel) → r ≡ label_equality.ghosts.eq l k → plain_label k ≡ p → (r ≡ true) ↔ (plain_label l ≡ p)
label_is r l k p e h = (λ t. (label_equal l k).0 (sym e ∙ t) ∙ h, λ q. e ∙ (label_equal l k).1 (q ∙ sym h))

-- an operator that is no function
abbrev pub IsNoFunction : Op → Type 0
IsNoFunction o = (f : Rc Function Global) → ¬ (o ≡ Uuf f)

app_label : (o : Op) → IsNoFunction o → (ts : PlainTerms) (t : PlainType) → term_label (Application (plain_op o) ts t) ≡ ApplicationLabel (plain_op o)
app_label (Uuf f) n ts t = absurd (n f refl)
app_label And n ts t = refl
app_label o n ts t = refl

pub op_is : (r : Bool) (l : Label) (own op : Op) → IsNoFunction op → (ts : PlainTerms) (t : PlainType) → r ≡ op_equality.ghosts.eq own op → l ≡ App own → (r ≡ true) ↔ (plain_label l ≡ term_label (Application (plain_op op) ts t))
op_is r l own op n ts t e s = (
  λ h. ap plain_label s ∙ (ap ApplicationLabel ((equal_operators own op).0 (sym e ∙ h)) ∙ sym (app_label op n ts t)),
  λ h.
      let both : ApplicationLabel (plain_op own) ≡ ApplicationLabel (plain_op op) = sym (ap plain_label s) ∙ (h ∙ app_label op n ts t) in
      let same : plain_op own ≡ plain_op op = cc in
      e ∙ (equal_operators own op).1 same,
)

pub literal_is : (r : Bool) (l : Label) (own literal : TermPrim) → r ≡ literal_equality.ghosts.eq own literal → l ≡ Prim own → (r ≡ true) ↔ (plain_label l ≡ LiteralLabel (plain_literal literal))
literal_is r l own literal e s = (
  λ h. ap plain_label s ∙ ap LiteralLabel ((equal_literals own literal).0 (sym e ∙ h)),
  λ h.
      let both : LiteralLabel (plain_literal own) ≡ LiteralLabel (plain_literal literal) = sym (ap plain_label s) ∙ h in
      let same : plain_literal own ≡ plain_literal literal = cc in
      e ∙ (equal_literals own literal).1 same,
)

pub text_is : (r : Bool) (l : Label) (own : RcStr Global) (id : List ℕ) → r ≡ bytes_eq (rc_str_bytes own) id → l ≡ Var own → (r ≡ true) ↔ (plain_label l ≡ VariableLabel id)
text_is r l own id e s = (
  λ h. ap plain_label s ∙ ap VariableLabel ((bytes_eq-Decides (rc_str_bytes own) id).0 (sym e ∙ h)),
  λ h.
      let both : VariableLabel (rc_str_bytes own) ≡ VariableLabel id = sym (ap plain_label s) ∙ h in
      let same : rc_str_bytes own ≡ id = cc in
      e ∙ (bytes_eq-Decides (rc_str_bytes own) id).1 same,
)

pub entity_type_is : (r : Bool) (l : Label) (own ety : EntityType) → r ≡ entity_type_equality.ghosts.eq own ety → l ≡ TEntity own → (r ≡ true) ↔ (plain_label l ≡ EntityLabel (bytes_of_type ety))
entity_type_is r l own ety e s = (
  λ h. ap plain_label s ∙ ap EntityLabel ((bytes_eq-Decides (bytes_of_type own) (bytes_of_type ety)).0 (sym e ∙ h)),
  λ h.
      let both : EntityLabel (bytes_of_type own) ≡ EntityLabel (bytes_of_type ety) = sym (ap plain_label s) ∙ h in
      let same : bytes_of_type own ≡ bytes_of_type ety = cc in
      e ∙ (bytes_eq-Decides (bytes_of_type own) (bytes_of_type ety)).1 same,
)

-- a label of some attributes: given says what these are
pub record_of_is : (r : Bool) (l : Label) (own : AttrList) (given names fields : List (List ℕ)) → l ≡ RecordOf own → given ≡ texts (attributes_of own) → (r ≡ true) ↔ (given ≡ names) → names ≡ fields → (r ≡ true) ↔ (plain_label l ≡ RecordOfLabel fields)
record_of_is r l own given names fields s k d e = (
  λ h. ap plain_label s ∙ ap RecordOfLabel (sym k ∙ (d.0 h ∙ e)),
  λ h.
      let both : RecordOfLabel (texts (attributes_of own)) ≡ RecordOfLabel fields = sym (ap plain_label s) ∙ h in
      let same : texts (attributes_of own) ≡ fields = cc in
      d.1 (k ∙ (same ∙ sym e)),
)

pub record_type_is : (r : Bool) (l : Label) (own : AttrList) (given names fields : List (List ℕ)) → l ≡ TRecord own → given ≡ texts (attributes_of own) → (r ≡ true) ↔ (given ≡ names) → names ≡ fields → (r ≡ true) ↔ (plain_label l ≡ RecordLabel fields)
record_type_is r l own given names fields s k d e = (
  λ h. ap plain_label s ∙ ap RecordLabel (sym k ∙ (d.0 h ∙ e)),
  λ h.
      let both : RecordLabel (texts (attributes_of own)) ≡ RecordLabel fields = sym (ap plain_label s) ∙ h in
      let same : texts (attributes_of own) ≡ fields = cc in
      d.1 (k ∙ (same ∙ sym e)),
)

-- the same label, said otherwise
pub at_label : (r : Bool) (l : Label) (u v : PlainTerm) → u ≡ v → (r ≡ true) ↔ (plain_label l ≡ term_label v) → (r ≡ true) ↔ (plain_label l ≡ term_label u)
at_label r l u v e h = (λ t. h.0 t ∙ sym (ap term_label e), λ q. h.1 (q ∙ ap term_label e))

pub at_type_label : (r : Bool) (l : Label) (t u : PlainType) → t ≡ u → (r ≡ true) ↔ (plain_label l ≡ type_label u) → (r ≡ true) ↔ (plain_label l ≡ type_label t)
at_type_label r l t u e h = (λ k. h.0 k ∙ sym (ap type_label e), λ q. h.1 (q ∙ ap type_label e))

-- labels of other kinds
an_entity_type : (l : Label) (name : List ℕ) → plain_label l ≡ EntityLabel name → (ety : EntityType) × (l ≡ TEntity ety)
an_entity_type (TEntity ety) name h = (ety, refl)
an_entity_type l name h = absurd (cc)

an_application : (l : Label) (o : PlainOp) → plain_label l ≡ ApplicationLabel o → (p : Op) × (l ≡ App p)
an_application (App p) o h = (p, refl)
an_application l o h = absurd (cc)

a_record_type : (l : Label) (names : List (List ℕ)) → plain_label l ≡ RecordLabel names → (own : AttrList) × (l ≡ TRecord own)
a_record_type (TRecord own) names h = (own, refl)
a_record_type l names h = absurd (cc)

a_record : (l : Label) (names : List (List ℕ)) → plain_label l ≡ RecordOfLabel names → (own : AttrList) × (l ≡ RecordOf own)
a_record (RecordOf own) names h = (own, refl)
a_record l names h = absurd (cc)

a_literal : (l : Label) (p : PlainLiteral) → plain_label l ≡ LiteralLabel p → (q : TermPrim) × (l ≡ Prim q)
a_literal (Prim q) p h = (q, refl)
a_literal l p h = absurd (cc)

a_variable : (l : Label) (id : List ℕ) → plain_label l ≡ VariableLabel id → (q : RcStr Global) × (l ≡ Var q)
a_variable (Var q) id h = (q, refl)
a_variable l id h = absurd (cc)

pub no_entity_type : (l : Label) (name : List ℕ) → ((ety : EntityType) → l ≡ TEntity ety → ⊥) → (false ≡ true) ↔ (plain_label l ≡ EntityLabel name)
no_entity_type l name n = (λ h. absurd (false≢true h), λ h. (let (ety, e) = an_entity_type l name h in absurd (n ety e)))

pub no_application : (l : Label) (op : Op) → IsNoFunction op → (ts : PlainTerms) (t : PlainType) → ((p : Op) → l ≡ App p → ⊥) → (false ≡ true) ↔ (plain_label l ≡ term_label (Application (plain_op op) ts t))
no_application l op d ts t n = (λ h. absurd (false≢true h), λ h. (let (p, e) = an_application l (plain_op op) (h ∙ app_label op d ts t) in absurd (n p e)))

pub no_record_label : (l : Label) (names : List (List ℕ)) → ((own : AttrList) → l ≡ TRecord own → ⊥) → (false ≡ true) ↔ (plain_label l ≡ RecordLabel names)
no_record_label l names n = (λ h. absurd (false≢true h), λ h. (let (own, e) = a_record_type l names h in absurd (n own e)))

pub no_record : (l : Label) (names : List (List ℕ)) → ((own : AttrList) → l ≡ RecordOf own → ⊥) → (false ≡ true) ↔ (plain_label l ≡ RecordOfLabel names)
no_record l names n = (λ h. absurd (false≢true h), λ h. (let (own, e) = a_record l names h in absurd (n own e)))

pub no_literal : (l : Label) (p : PlainLiteral) → ((q : TermPrim) → l ≡ Prim q → ⊥) → (false ≡ true) ↔ (plain_label l ≡ LiteralLabel p)
no_literal l p n = (λ h. absurd (false≢true h), λ h. (let (q, e) = a_literal l p h in absurd (n q e)))

pub no_variable : (l : Label) (id : List ℕ) → ((q : RcStr Global) → l ≡ Var q → ⊥) → (false ≡ true) ↔ (plain_label l ≡ VariableLabel id)
no_variable l id n = (λ h. absurd (false≢true h), λ h. (let (q, e) = a_variable l id h in absurd (n q e)))
