-- The calls that are made of other calls, by two builders of which the first builds what stands for what the second builds.
-- Each follows its definition.
use Rattle.std.proofs.Common.{◌≡◌, List, [], ◌∷◌, map, refl, subst}
use Rattle.std.specs.Prelude.{Option, Some, None}
use Rattle.std.specs.List.{AllZip}
use Rattle.law_folding.specs.Applications.{false_term}
use Rattle.law_folding.specs.Builder.{Builder}
use Rattle.law_folding.specs.Composites.{any_none, any_of, any_of_from, if_all_some, if_false, if_some, if_true, implies, is_none, is_some, set_intersects, unless}
use Rattle.law_folding.specs.Congruence.{Related, RefinesWithType}
use Rattle.law_folding.specs.Refinement.{Refines}
use Rattle.law_folding.proofs.Standing.{itself, some}
use Rattle.law_terms.specs.Plain.{PlainType, PlainTerm, NoneTerm, SomeTerm}
use Rattle.law_terms.specs.Types.{inner_type, type_of}

-- a term that both builders are given
pub same : (t : PlainTerm) → RefinesWithType t t
same t = record { refines = itself t; type = refl }

pub each_itself : (ts : List PlainTerm) → AllZip Refines ts ts
each_itself [] = tt
each_itself (t ∷ ts) = (itself t, each_itself ts)

-- what looks at a type: at each type, so at two that are equal
at_type : (f g : PlainType → PlainTerm) (x y : PlainType) → x ≡ y → ((ty : PlainType) → Refines (f ty) (g ty)) → Refines (f x) (g y)
at_type f g x y e s = subst (λ ty. Refines (f x) (g ty)) e (s x)

module _ (b c : Builder) (r : Related b c) where
  pub keeps_implies : {t u v w : PlainTerm} → Refines t u → Refines v w → Refines (implies b t v) (implies c u w)
  keeps_implies s z = r.or (r.not s) z

  keeps_any_from : (x y : PlainTerm) (ts us : List PlainTerm) → Refines x y → AllZip Refines ts us → Refines (any_of_from b x ts) (any_of_from c y us)
  keeps_any_from x y [] [] s z = s
  keeps_any_from x y [] (u ∷ us) s z = elim z [ ]
  keeps_any_from x y (t ∷ ts) [] s z = elim z [ ]
  keeps_any_from x y (t ∷ ts) (u ∷ us) s z = keeps_any_from (b.or t x) (c.or u y) ts us (r.or z.0 s) z.1

  pub keeps_any : (ts us : List PlainTerm) → AllZip Refines ts us → Refines (any_of b ts) (any_of c us)
  keeps_any ts us z = keeps_any_from false_term false_term ts us (itself false_term) z

  pub keeps_set_intersects : {t u v w : PlainTerm} → Refines t u → Refines v w → Refines (set_intersects b t v) (set_intersects c u w)
  keeps_set_intersects s z = r.not (r.set_is_empty (r.set_inter s z))

  pub keeps_is_some : {t u : PlainTerm} → Refines t u → Refines (is_some b t) (is_some c u)
  keeps_is_some s = r.not (r.is_none s)

  pub keeps_if_false : {g h t u : PlainTerm} → Refines g h → RefinesWithType t u → Refines (if_false b g t) (if_false c h u)
  keeps_if_false {g = g} {h = h} {t = t} {u = u} s z =
      at_type (λ ty. b.ite g (NoneTerm ty) (SomeTerm t)) (λ ty. c.ite h (NoneTerm ty) (SomeTerm u)) (type_of t) (type_of u) z.type (λ ty. r.ite s (itself (NoneTerm ty)) (some t u z.refines))

  pub keeps_if_true : {g h t u : PlainTerm} → Refines g h → RefinesWithType t u → Refines (if_true b g t) (if_true c h u)
  keeps_if_true {g = g} {h = h} {t = t} {u = u} s z =
      at_type (λ ty. b.ite g (SomeTerm t) (NoneTerm ty)) (λ ty. c.ite h (SomeTerm u) (NoneTerm ty)) (type_of t) (type_of u) z.type (λ ty. r.ite s (some t u z.refines) (itself (NoneTerm ty)))

  pub keeps_unless : {g h t u : PlainTerm} → Refines g h → RefinesWithType t u → Refines (unless b g t) (unless c h u)
  keeps_unless {g = g} {h = h} {t = t} {u = u} s z = at_type first second (type_of t) (type_of u) z.type (λ ty. by (inner_type ty))
    where
      first : PlainType → PlainTerm
      first ty = elim (inner_type ty) [ Some x ↦ b.ite g (NoneTerm x) t | None ↦ if_false b g t ]

      second : PlainType → PlainTerm
      second ty = elim (inner_type ty) [ Some x ↦ c.ite h (NoneTerm x) u | None ↦ if_false c h u ]

      by : (o : Option PlainType) → Refines (elim o [ Some x ↦ b.ite g (NoneTerm x) t | None ↦ if_false b g t ]) (elim o [ Some x ↦ c.ite h (NoneTerm x) u | None ↦ if_false c h u ])
      by (Some x) = r.ite s (itself (NoneTerm x)) z.refines
      by None = keeps_if_false s z

  pub keeps_if_some : {g h t u : PlainTerm} → Refines g h → RefinesWithType t u → Refines (if_some b g t) (if_some c h u)
  keeps_if_some s z = keeps_unless (r.is_none s) z

  each_none : (gs hs : List PlainTerm) → AllZip Refines gs hs → AllZip Refines (map (is_none b) gs) (map (is_none c) hs)
  each_none [] [] z = tt
  each_none [] (h ∷ hs) z = elim z [ ]
  each_none (g ∷ gs) [] z = elim z [ ]
  each_none (g ∷ gs) (h ∷ hs) z = (r.is_none z.0, each_none gs hs z.1)

  pub keeps_any_none : (gs hs : List PlainTerm) → AllZip Refines gs hs → Refines (any_none b gs) (any_none c hs)
  keeps_any_none gs hs z = keeps_any (map (is_none b) gs) (map (is_none c) hs) (each_none gs hs z)

  pub keeps_if_all_some : (gs hs : List PlainTerm) {t u : PlainTerm} → AllZip Refines gs hs → RefinesWithType t u → Refines (if_all_some b gs t) (if_all_some c hs u)
  keeps_if_all_some gs hs s z = keeps_unless (keeps_any_none gs hs s) z
