-- Two builders, the first of which builds terms that stand for what the second builds.
use Rattle.std.specs.Prelude.{◌≡◌, ℕ, List}
use Rattle.law_numbers.specs.BitOperators.{BitsOperator, TestOperator, OverflowOperator}
use Rattle.law_folding.specs.Builder.{Builder, applied, folding}
use Rattle.law_folding.specs.Composites.{is_none, set_is_empty}
use Rattle.law_folding.specs.Refinement.{Refines}
use Rattle.law_terms.specs.Plain.{ExtensionOp, PatternPart, PlainTerm}
use Rattle.law_terms.specs.Types.{type_of}

-- the first stands for the second, and has its type also where that is not typed
pub record RefinesWithType (folded original : PlainTerm) : Type 0 where
  pub refines : Refines folded original
  pub type : type_of folded ≡ type_of original

-- Each construction of the builders, at terms that stand for others: the first builder's stands for the second's. What
-- `option_get` reaches, and whether the types of `zero_extend` and `record_get` are formed, goes by the type of their argument,
-- also where that is not typed: so there the types are the same, and are afterwards. The type of `extension` is its operator's,
-- so it is the same whatever the argument's.
pub record Related (b c : Builder) : Type 0 where
  pub not : {t u : PlainTerm} → Refines t u → Refines (b.not t) (c.not u)
  pub and : {t u v w : PlainTerm} → Refines t u → Refines v w → Refines (b.and t v) (c.and u w)
  pub or : {t u v w : PlainTerm} → Refines t u → Refines v w → Refines (b.or t v) (c.or u w)
  pub eq : {t u v w : PlainTerm} → Refines t u → Refines v w → Refines (b.eq t v) (c.eq u w)
  pub ite : {g h t u v w : PlainTerm} → Refines g h → Refines t u → Refines v w → Refines (b.ite g t v) (c.ite h u w)
  pub never : {t u : PlainTerm} → Refines t u → Refines (b.never t) (c.never u)
  pub bvneg : {t u : PlainTerm} → Refines t u → Refines (b.bvneg t) (c.bvneg u)
  pub bvnego : {t u : PlainTerm} → Refines t u → Refines (b.bvnego t) (c.bvnego u)
  pub bits : (o : BitsOperator) → {t u v w : PlainTerm} → Refines t u → Refines v w → Refines (b.bits o t v) (c.bits o u w)
  pub test : (o : TestOperator) → {t u v w : PlainTerm} → Refines t u → Refines v w → Refines (b.test o t v) (c.test o u w)
  pub overflow : (o : OverflowOperator) → {t u v w : PlainTerm} → Refines t u → Refines v w → Refines (b.overflow o t v) (c.overflow o u w)
  pub zero_extend : {t u : PlainTerm} → (k : ℕ) → RefinesWithType t u → RefinesWithType (b.zero_extend k t) (c.zero_extend k u)
  pub string_like : {t u : PlainTerm} → (p : List PatternPart) → Refines t u → Refines (b.string_like t p) (c.string_like u p)
  pub set_member : {t u v w : PlainTerm} → Refines t u → Refines v w → Refines (b.set_member t v) (c.set_member u w)
  pub set_subset : {t u v w : PlainTerm} → Refines t u → Refines v w → Refines (b.set_subset t v) (c.set_subset u w)
  pub set_inter : {t u v w : PlainTerm} → Refines t u → Refines v w → Refines (b.set_inter t v) (c.set_inter u w)
  pub set_is_empty : {t u : PlainTerm} → Refines t u → Refines (set_is_empty b t) (set_is_empty c u)
  pub option_get : {t u : PlainTerm} → RefinesWithType t u → RefinesWithType (b.option_get t) (c.option_get u)
  pub record_get : {t u : PlainTerm} → (attribute : List ℕ) → RefinesWithType t u →
      RefinesWithType (b.record_get t attribute) (c.record_get u attribute)
  pub extension : (o : ExtensionOp) → {t u : PlainTerm} → Refines t u → RefinesWithType (b.extension o t) (c.extension o u)
  pub is_none : {t u : PlainTerm} → Refines t u → Refines (is_none b t) (is_none c u)

-- What the foldings give stands for the applications, at terms that stand for others: so a composite of folded parts stands
-- for the composite that is asked for.
abbrev pub Congruence : Type 0
Congruence = Related folding applied
