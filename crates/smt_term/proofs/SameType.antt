-- Derived `==` of types holds exactly where they say the same.
use Rattle.std.proofs.Common.{◌≡◌, true, refl, ap, ◌∙◌, sym}
use Rattle.std.specs.Cmp.{Equal-is}
use Rattle.std.specs.Ordering.{is_eq, ordering_reverse}
use Rattle.std.specs.declared.cmp.Ordering.{Ordering}
use Rattle.std.specs.declared.cmp.Ordering.TheVariants.{Less, Equal, Greater}
use Rattle.law_terms.specs.Plain.{PlainType, EntityType}
use Rattle.law_terms.specs.Types.{type_cmp, type_eq}
use Rattle.smt_term.specs.Entities.{bytes_of_type}
use Rattle.smt_term.specs.declared.entity.EntityType.{EntityType as EntityName}
use Rattle.smt_term.specs.contracts.entity.EntityTypePartialEq.TheImpl as entity_equality
use Rattle.smt_term.specs.contracts.entity.EntityTypeOrd.TheImpl.Laws as entity_laws
use Rattle.smt_term.specs.TypeView.{plain_type}
use Rattle.smt_term.specs.declared.types.TermType.{TermType}
use Rattle.smt_term.specs.contracts.types.TermTypePartialEq.TheImpl as type_equality
use Rattle.smt_term.specs.contracts.types.TermTypeOrd.TheImpl.Laws as type_laws
use Rattle.smt_term.proofs.DerivedTypeOrder.{type_cmp-is}
use Rattle.law_terms.proofs.TermTotal.{types_total}
use Rattle.law_terms.proofs.TypeOrder.{type_same, type_itself}

-- the derived test is the test on what they say
pub type_eq-is : (a b : TermType) → type_equality.ghosts.eq a b ≡ type_eq (plain_type a) (plain_type b)
type_eq-is a b = type_laws.matches_eq-law a b ∙ ap is_eq (type_cmp-is a b)

-- the same of entity types
pub entity_eq-is : (a b : EntityName) → entity_equality.ghosts.eq a b ≡ type_eq (EntityType (bytes_of_type a)) (EntityType (bytes_of_type b))
entity_eq-is a b = entity_laws.matches_eq-law a b

equal-reversed : (o : Ordering) → is_eq (ordering_reverse o) ≡ is_eq o
equal-reversed Less = refl
equal-reversed Equal = refl
equal-reversed Greater = refl

-- the test is the same from both sides
pub type_eq-turned : (t u : PlainType) → type_eq t u ≡ type_eq u t
type_eq-turned t u = ap is_eq (types_total.antisymm t u) ∙ equal-reversed (type_cmp u t)

pub same_type_from_eq : (a b : TermType) → type_equality.ghosts.eq a b ≡ true → plain_type a ≡ plain_type b
same_type_from_eq a b h =
    type_same (plain_type a) (plain_type b) ((Equal-is (type_cmp (plain_type a) (plain_type b))).0 (sym (type_eq-is a b) ∙ h))

pub eq_from_same_type : (a b : TermType) → plain_type a ≡ plain_type b → type_equality.ghosts.eq a b ≡ true
eq_from_same_type a b h = type_eq-is a b ∙ ap (λ t. type_eq (plain_type a) t) (sym h) ∙ ap is_eq (type_itself (plain_type a))
