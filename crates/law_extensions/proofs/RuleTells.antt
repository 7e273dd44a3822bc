-- What is known by a rule on IP ranges, and that the tests of both families with their bounds are rules.
use Rattle.std.proofs.Common.{◌≡◌, ℕ, ◌≤◌, true, false, List, [], ◌∷◌, Option, refl, ap, ◌∙◌, sym, subst, inl, inr, arith}
use Rattle.std.specs.Prelude.{◌⊎◌, ◌↔◌}
use Rattle.std.specs.Bool.{then_some}
use Rattle.std.specs.Cmp.Derive.{both_true}
use Rattle.std.specs.List.{AllByRecursion, AllZip}
use Rattle.std.proofs.lemmas.Bool.{and_from, and_parts, false≢true, le-leb, leb-true, or_cases, or_left, or_right}
use Rattle.law_numbers.specs.BitOperators.{BvuleOp}
use Rattle.smt_ext.specs.IpRanges.{Family, Range, Version4, Version6}
use Rattle.law_extensions.specs.Bounds.{highest, lowest, range_literal}
use Rattle.law_extensions.specs.ExtensionFunctions.{in_one_from, in_range, in_range_v, is_ipv4, is_ipv6, range_v4, range_v6}
use Rattle.law_extensions.specs.Rules.{AreFormedAt, BlockLiesIn, HoldsIn, IsRangeRule, LiesInOneOfFamily, RuleTells, RulesAreKept, number_in}
use Rattle.law_extensions.specs.Values.{HasRange}
use Rattle.law_extensions.proofs.Alike.{Alike, formed_of, typed_at}
use Rattle.law_extensions.proofs.Bounds.{ranges_are_bounded}
use Rattle.law_extensions.proofs.FunctionsAlike.{range_v4_alike, range_v6_alike, v4_alike, v6_alike}
use Rattle.law_extensions.proofs.FunctionsStand.{functions_stand}
use Rattle.law_extensions.proofs.OfValues.{answered, at_range}
use Rattle.law_folding.specs.Applications.{and_of, false_term, or_of, test_of_two}
use Rattle.law_folding.specs.Builder.{applied, folding}
use Rattle.law_folding.specs.Refinement.{Refines}
use Rattle.law_folding.proofs.Standing.{Given, valued}
use Rattle.law_terms.specs.Formed.{IsFormed, IsFormedNode, IsFormedType}
use Rattle.law_terms.specs.Interpretations.{IsGiven, IsInterpretation}
use Rattle.law_terms.specs.Meaning.{meaning, term_value}
use Rattle.law_terms.specs.Operators.{number, truth}
use Rattle.law_terms.specs.Plain.{AndOp, Application, BitVecType, BoolType, OrOp, PlainOp, PlainTerm, PlainType, TestOp, terms}
use Rattle.law_terms.specs.Reached.{reached_terms, subterms, subterms_of_all}
use Rattle.law_terms.specs.Tables.{Interpretation}
use Rattle.law_terms.specs.Types.{type_eq, type_of, types_of}
use Rattle.law_terms.specs.Typing.{Typed, typed, typed_all}
use Rattle.law_terms.specs.TypeValues.{Enums}
use Rattle.law_terms.specs.Values.{BitVecValue, BoolValue, Value}
use Rattle.law_terms.proofs.Defaults.{all-join}
use Rattle.law_terms.proofs.Soundness.{all-back, all-front}
use Rattle.law_terms.proofs.TermTotal.{types_decided}

true_value : (v : Value) → truth v ≡ true → v ≡ BoolValue true
true_value (BoolValue b) e = ap BoolValue e
true_value v e = cc

same : (ty : PlainType) → type_eq ty ty ≡ true
same ty = (types_decided ty ty).1 refl

-- a Boolean application of two formed terms
pub two_formed : (o : PlainOp) (t u : PlainTerm) → IsFormed t → IsFormed u → IsFormed (Application o (terms (t ∷ u ∷ [])) BoolType)
two_formed o t u f g =
    formed_of o (t ∷ u ∷ []) BoolType (tt, tt) (all-join IsFormedNode (subterms t) (subterms_of_all (terms (u ∷ []))) f.literals (all-join IsFormedNode (subterms u) [] g.literals tt))
    (all-join (λ v. IsFormedType (type_of v)) (subterms t) (subterms_of_all (terms (u ∷ []))) f.types (all-join (λ v. IsFormedType (type_of v)) (subterms u) [] g.types tt))

-- one range in another, by bounds that are formed
compared_formed : (test : PlainTerm → PlainTerm) (bounds : PlainTerm → (PlainTerm × PlainTerm)) (t x : PlainTerm) → AreFormedAt test bounds t → AreFormedAt test bounds x → IsFormed (in_range applied bounds t x)
compared_formed test bounds t x h k =
    two_formed AndOp (test_of_two (TestOp BvuleOp) (bounds t).1 (bounds x).1) (test_of_two (TestOp BvuleOp) (bounds x).0 (bounds t).0)
    (two_formed (TestOp BvuleOp) (bounds t).1 (bounds x).1 h.highest k.highest)
    (two_formed (TestOp BvuleOp) (bounds x).0 (bounds t).0 k.lowest h.lowest)

one_formed : (test : PlainTerm → PlainTerm) (bounds : PlainTerm → (PlainTerm × PlainTerm)) (t : PlainTerm) → AreFormedAt test bounds t → (xs : List PlainTerm) (v : PlainTerm) → IsFormed v → AllByRecursion (AreFormedAt test bounds) xs → IsFormed (in_one_from applied test bounds t v xs)
one_formed test bounds t h [] v f k = f
one_formed test bounds t h (x ∷ xs) v f k =
    let here : IsFormed (and_of (test x) (in_range applied bounds t x)) = two_formed AndOp (test x) (in_range applied bounds t x) k.0.tested (compared_formed test bounds t x h k.0) in
    one_formed test bounds t h xs (or_of v (and_of (test x) (in_range applied bounds t x))) (two_formed OrOp v (and_of (test x) (in_range applied bounds t x)) f here) k.1

rule_formed : (test : PlainTerm → PlainTerm) (bounds : PlainTerm → (PlainTerm × PlainTerm)) (t : PlainTerm) (ts : List PlainTerm) → AllByRecursion (AreFormedAt test bounds) (t ∷ ts) → IsFormed (in_range_v applied test bounds t ts)
rule_formed test bounds t ts k =
    two_formed AndOp (test t) (in_one_from applied test bounds t false_term ts) k.0.tested (one_formed test bounds t k.0 ts false_term (record { literals = (tt, tt); types = ((tt, tt), tt) }) k.1)

module _ (enums : Enums) (I : Interpretation) where
  -- a Boolean term that is true exactly where the statement holds
  record Says (t : PlainTerm) (P : Type 0) : Type 0 where
    parts : typed t ≡ true
    type : type_of t ≡ BoolType
    says : (truth (meaning I t) ≡ true) ↔ P

  said_of : {t : PlainTerm} {P Q : Type 0} → (P → Q) → (Q → P) → Says t P → Says t Q
  said_of to from s = record { parts = s.parts; type = s.type; says = (λ h. to (s.says.0 h), λ q. s.says.1 (from q)) }

  both_typed : (t u : PlainTerm) → typed t ≡ true → typed u ≡ true → typed_all (terms (t ∷ u ∷ [])) ≡ true
  both_typed t u h k = both_true h (both_true k refl)

  both_types : (t u : PlainTerm) (ty : PlainType) → type_of t ≡ ty → type_of u ≡ ty → types_of (terms (t ∷ u ∷ [])) ≡ ty ∷ ty ∷ []
  both_types t u ty e d = λ i. e i ∷ d i ∷ []

  said_and : {t u : PlainTerm} {P Q : Type 0} → Says t P → Says u Q → Says (and_of t u) (P × Q)
  said_and {t} {u} s z = record {
    parts = typed_at enums I AndOp (BoolType ∷ BoolType ∷ []) (t ∷ u ∷ []) BoolType (both_typed t u s.parts z.parts) (both_types t u BoolType s.type z.type) refl;
    type = refl;
    says = (λ h. let p = and_parts (truth (meaning I t)) (truth (meaning I u)) h in (s.says.0 p.0, z.says.0 p.1), λ q. and_from (truth (meaning I t)) (truth (meaning I u)) (s.says.1 q.0) (z.says.1 q.1));
  }

  said_or : {t u : PlainTerm} {P Q : Type 0} → Says t P → Says u Q → Says (or_of t u) (P ⊎ Q)
  said_or {t} {u} s z = record {
    parts = typed_at enums I OrOp (BoolType ∷ BoolType ∷ []) (t ∷ u ∷ []) BoolType (both_typed t u s.parts z.parts) (both_types t u BoolType s.type z.type) refl;
    type = refl;
    says = (
      λ h. elim (or_cases (truth (meaning I t)) (truth (meaning I u)) h) [ inl x ↦ inl (s.says.0 x) | inr y ↦ inr (z.says.0 y) ],
      λ q. elim q [ inl x ↦ or_left (truth (meaning I t)) (truth (meaning I u)) (s.says.1 x) | inr y ↦ or_right (truth (meaning I t)) (truth (meaning I u)) (z.says.1 y) ],
    );
  }

  -- a Boolean term says that it holds
  said_itself : (t : PlainTerm) → Typed t BoolType → Says t (HoldsIn I t)
  said_itself t h = record {
    parts = h.parts;
    type = h.type;
    says = (λ e. valued I t h.parts ∙ true_value (meaning I t) e, λ e. ap truth (sym (valued I t h.parts) ∙ e));
  }

  -- two terms of bits are compared by their numbers
  said_at_most : (n : ℕ) (t u : PlainTerm) → Typed t (BitVecType n) → Typed u (BitVecType n) → Says (test_of_two (TestOp BvuleOp) t u) (number_in I t ≤ number_in I u)
  said_at_most n t u h k =
      let p : number_in I t ≡ number (meaning I t) = ap number (valued I t h.parts) in
      let q : number_in I u ≡ number (meaning I u) = ap number (valued I u k.parts) in
      record {
        parts = typed_at enums I (TestOp BvuleOp) (BitVecType n ∷ BitVecType n ∷ []) (t ∷ u ∷ []) BoolType (both_typed t u h.parts k.parts) (both_types t u (BitVecType n) h.type k.type) (ap (λ x. then_some x BoolType) (same (BitVecType n)));
        type = refl;
        says = (
          λ e. subst (λ (x : ℕ). x ≤ number_in I u) (sym p) (subst (λ (y : ℕ). number (meaning I t) ≤ y) (sym q) (leb-true (number (meaning I t)) (number (meaning I u)) e)),
          λ l. le-leb (number (meaning I t)) (number (meaning I u)) (subst (λ (x : ℕ). x ≤ number (meaning I u)) p (subst (λ (y : ℕ). number_in I t ≤ y) q l)),
        );
      }

  -- ---- what an interpretation of an application of two gives of each

  first_given : (o : PlainOp) (ty : PlainType) (t u : PlainTerm) → Given enums I (Application o (terms (t ∷ u ∷ [])) ty) → Given enums I t
  first_given o ty t u g = all-front (IsGiven enums I) (subterms t) (subterms_of_all (terms (u ∷ []))) (all-front (IsGiven enums I) (subterms_of_all (terms (t ∷ u ∷ []))) (Application o (terms (t ∷ u ∷ [])) ty ∷ []) g)

  second_given : (o : PlainOp) (ty : PlainType) (t u : PlainTerm) → Given enums I (Application o (terms (t ∷ u ∷ [])) ty) → Given enums I u
  second_given o ty t u g =
      all-front (IsGiven enums I) (subterms u) [] (all-back (IsGiven enums I) (subterms t) (subterms_of_all (terms (u ∷ []))) (all-front (IsGiven enums I) (subterms_of_all (terms (t ∷ u ∷ []))) (Application o (terms (t ∷ u ∷ [])) ty ∷ []) g))

  module _ (test : PlainTerm → PlainTerm) (bounds : PlainTerm → (PlainTerm × PlainTerm)) (rule : IsRangeRule test bounds) (t : PlainTerm) (r : Range) (h : HasRange I t r) where
    -- one block in another, by their bounds
    abbrev IsCompared : PlainTerm → Type 0
    IsCompared x = (number_in I (bounds t).1 ≤ number_in I (bounds x).1) × (number_in I (bounds x).0 ≤ number_in I (bounds t).0)

    abbrev OneIsCompared : List PlainTerm → Type 0
    OneIsCompared [] = ⊥
    OneIsCompared (x ∷ xs) = (HoldsIn I (test x) × IsCompared x) ⊎ OneIsCompared xs

    said_compared : (x : PlainTerm) (s : Range) → HasRange I x s → Says (in_range applied bounds t x) (IsCompared x)
    said_compared x s k =
        let p = rule.bounded I t r h in
        let q = rule.bounded I x s k in
        said_and (said_at_most rule.width (bounds t).1 (bounds x).1 p.1 q.1) (said_at_most rule.width (bounds x).0 (bounds t).0 q.0 p.0)

    said_in_one : (xs : List PlainTerm) (ss : List Range) (v : PlainTerm) (P : Type 0) → AllZip (HasRange I) xs ss → Says v P → Says (in_one_from applied test bounds t v xs) (P ⊎ OneIsCompared xs)
    said_in_one [] [] v P z s = said_of inl (λ q. elim q [ inl p ↦ p | inr empty ↦ absurd empty ]) s
    said_in_one (x ∷ xs) (y ∷ ys) v P z s =
        said_of (λ q. elim q [ inl o ↦ elim o [ inl p ↦ inl p | inr here ↦ inr (inl here) ] | inr there ↦ inr (inr there) ]) (λ q. elim q [ inl p ↦ inl (inl p) | inr o ↦ elim o [ inl here ↦ inl (inr here) | inr there ↦ inr there ] ])
        (said_in_one xs ys (or_of v (and_of (test x) (in_range applied bounds t x))) (P ⊎ (HoldsIn I (test x) × IsCompared x)) z.1 (said_or s (said_and (said_itself (test x) (rule.tested I x y z.0)) (said_compared x y z.0))))
    said_in_one [] (y ∷ ys) v P z s = elim z [ ]
    said_in_one (x ∷ xs) [] v P z s = elim z [ ]

    -- bounds that are compared so are those of blocks
    module _ (l : number_in I (bounds t).0 ≤ number_in I (bounds t).1) where
      lies_by : (x : PlainTerm) → IsCompared x → BlockLiesIn I (bounds t) (bounds x)
      lies_by x c a b = (let d = c.1 in let e = b.0 in omega (arith, d, e), let d = c.0 in let e = b.1 in omega (arith, d, e))

      compared_by : (x : PlainTerm) → BlockLiesIn I (bounds t) (bounds x) → IsCompared x
      compared_by x lies = ((lies (number_in I (bounds t).1) (l, omega arith)).1, (lies (number_in I (bounds t).0) (omega arith, l)).0)

      one_lies : (xs : List PlainTerm) → OneIsCompared xs → LiesInOneOfFamily I test bounds t xs
      one_lies [] o = o
      one_lies (x ∷ xs) o = elim o [ inl here ↦ inl (here.0, lies_by x here.1) | inr there ↦ inr (one_lies xs there) ]

      one_compared : (xs : List PlainTerm) → LiesInOneOfFamily I test bounds t xs → OneIsCompared xs
      one_compared [] o = o
      one_compared (x ∷ xs) o = elim o [ inl here ↦ inl (here.0, compared_by x here.1) | inr there ↦ inr (one_compared xs there) ]

    said_false : Says false_term ⊥
    said_false = record { parts = refl; type = refl; says = (λ e. absurd (false≢true e), λ empty. absurd empty) }

    -- what came so far is given where what is built of it and a list is
    so_far_given : (xs : List PlainTerm) (v : PlainTerm) → Given enums I (in_one_from applied test bounds t v xs) → Given enums I v
    so_far_given [] v g = g
    so_far_given (x ∷ xs) v g = first_given OrOp BoolType v (and_of (test x) (in_range applied bounds t x)) (so_far_given xs (or_of v (and_of (test x) (in_range applied bounds t x))) g)

    -- the test and the bounds are given where what is built of a list that is not empty is
    bounds_given : (x : PlainTerm) (xs : List PlainTerm) → Given enums I (in_range_v applied test bounds t (x ∷ xs)) → IsInterpretation enums (test t ∷ (bounds t).0 ∷ (bounds t).1 ∷ []) I
    bounds_given x xs g =
        let P = IsGiven enums I in
        let one : PlainTerm = and_of (test x) (in_range applied bounds t x) in
        let highest : PlainTerm = test_of_two (TestOp BvuleOp) (bounds t).1 (bounds x).1 in
        let lowest : PlainTerm = test_of_two (TestOp BvuleOp) (bounds x).0 (bounds t).0 in
        let in_one = so_far_given xs (or_of false_term one) (second_given AndOp BoolType (test t) (in_one_from applied test bounds t false_term (x ∷ xs)) g) in
        let in_x = second_given AndOp BoolType (test x) (in_range applied bounds t x) (second_given OrOp BoolType false_term one in_one) in
        let low = second_given (TestOp BvuleOp) BoolType (bounds x).0 (bounds t).0 (second_given AndOp BoolType highest lowest in_x) in
        let high = first_given (TestOp BvuleOp) BoolType (bounds t).1 (bounds x).1 (first_given AndOp BoolType highest lowest in_x) in
        all-join P (subterms (test t)) (reached_terms ((bounds t).0 ∷ (bounds t).1 ∷ [])) (first_given AndOp BoolType (test t) (in_one_from applied test bounds t false_term (x ∷ xs)) g)
        (all-join P (subterms (bounds t).0) (reached_terms ((bounds t).1 ∷ [])) low (all-join P (subterms (bounds t).1) [] high tt))

    -- one of the list is compared so exactly where the first's block lies in one of theirs
    compared_is_in_one : (xs : List PlainTerm) → Given enums I (in_range_v applied test bounds t xs) → HoldsIn I (test t) → OneIsCompared xs ↔ LiesInOneOfFamily I test bounds t xs
    compared_is_in_one [] g e = (λ o. o, λ o. o)
    compared_is_in_one (x ∷ xs) g e = let l = rule.block enums I t r h (bounds_given x xs g) e in (one_lies l (x ∷ xs), one_compared l (x ∷ xs))

    said_rule : (xs : List PlainTerm) (ss : List Range) → AllZip (HasRange I) xs ss → Given enums I (in_range_v applied test bounds t xs) → Says (in_range_v applied test bounds t xs) (HoldsIn I (test t) × LiesInOneOfFamily I test bounds t xs)
    said_rule xs ss z g =
        said_of (λ q. (q.0, elim q.1 [ inl empty ↦ absurd empty | inr o ↦ (compared_is_in_one xs g q.0).0 o ])) (λ q. (q.0, inr ((compared_is_in_one xs g q.0).1 q.1)))
        (said_and (said_itself (test t) (rule.tested I t r h)) (said_in_one xs ss false_term ⊥ z said_false))

rule_tells : (test : PlainTerm → PlainTerm) (bounds : PlainTerm → (PlainTerm × PlainTerm)) (t : PlainTerm) (ts : List PlainTerm) (u : PlainTerm) → IsRangeRule test bounds → Refines u (in_range_v applied test bounds t ts) → RuleTells test bounds t ts u
rule_tells test bounds t ts u rule stands enums I r rs h z i f =
    let o : PlainTerm = in_range_v applied test bounds t ts in
    let s : Says enums I o (HoldsIn I (test t) × LiesInOneOfFamily I test bounds t ts) = said_rule enums I test bounds rule t r h ts rs z (all-front (IsGiven enums I) (subterms o) [] i) in
    record { truth = truth (meaning I o); value = stands.value BoolType enums I f (record { parts = s.parts; type = s.type }) i ∙ valued I o s.parts; says = s.says }

-- ---- the rules of both families

-- the numbers of the two addresses of a range, by the literals of these
ordered : (n : ℕ) (I : Interpretation) (p : PlainTerm × PlainTerm) (r : Range) → term_value I p.0 ≡ BitVecValue n (lowest r) → term_value I p.1 ≡ BitVecValue n (highest r) → number_in I p.0 ≤ number_in I p.1
ordered n I p r low high =
    let d : number_in I p.0 ≡ lowest r = ap number low in
    let e : number_in I p.1 ≡ highest r = ap number high in
    omega (arith, d, e)

-- what an interpretation of the test and the bounds is one of
module _ (enums : Enums) (I : Interpretation) (t u v : PlainTerm) (i : IsInterpretation enums (t ∷ u ∷ v ∷ []) I) where
  after : IsInterpretation enums (u ∷ v ∷ []) I
  after = all-back (IsGiven enums I) (subterms t) _ i

  of_first : IsInterpretation enums (t ∷ []) I
  of_first = all-join (IsGiven enums I) (subterms t) [] (all-front (IsGiven enums I) (subterms t) _ i) tt

  of_second : IsInterpretation enums (u ∷ []) I
  of_second = all-join (IsGiven enums I) (subterms u) [] (all-front (IsGiven enums I) (subterms u) _ after) tt

  of_third : IsInterpretation enums (v ∷ []) I
  of_third = all-back (IsGiven enums I) (subterms u) _ after

family_of : (f : Family) → (f ≡ Version4) ⊎ (f ≡ Version6)
family_of Version4 = inl refl
family_of Version6 = inr refl

-- a literal of the other family has false for its test
not_v6 : (f : Family) (a : ℕ) (p : Option ℕ) (I : Interpretation) → f ≡ Version6 → term_value I (is_ipv4 folding (range_literal (record { family = f; address = a; prefix = p }))) ≡ BoolValue false
not_v6 Version4 a p I e = cc
not_v6 Version6 a p I e = refl

not_v4 : (f : Family) (a : ℕ) (p : Option ℕ) (I : Interpretation) → f ≡ Version4 → term_value I (is_ipv6 folding (range_literal (record { family = f; address = a; prefix = p }))) ≡ BoolValue false
not_v4 Version4 a p I e = refl
not_v4 Version6 a p I e = cc

both_apart : {v : Value} → v ≡ BoolValue true → v ≡ BoolValue false → ⊥
both_apart e d = false≢true (ap truth (sym d ∙ e))

-- a term beside a literal is of their type
typed_beside : (I : Interpretation) {ty : PlainType} {u t : PlainTerm} → Alike [] I ty u t → Typed t ty
typed_beside I a = record { parts = a.typed_second; type = a.type_second }

rule_v4 : IsRangeRule (is_ipv4 applied) (range_v4 applied)
rule_v4 = record {
  width = 32;
  tested = λ I t r h. typed_beside I (v4_alike [] I (at_range [] I r t h));
  bounded = λ I t r h. (let a = range_v4_alike [] I (at_range [] I r t h) in (typed_beside I a.0, typed_beside I a.1));
  block = λ enums I t r h i e. (
      let literal = at_range enums I r t h in
      let a = range_v4_alike enums I literal in
      let tested : term_value I (is_ipv4 applied t) ≡ term_value I (is_ipv4 folding (range_literal r)) = answered enums I (v4_alike enums I literal) (functions_stand.is_ipv4 (range_literal r)) (of_first enums I (is_ipv4 applied t) (range_v4 applied t).0 (range_v4 applied t).1 i) in
      let family : r.family ≡ Version4 = elim (family_of r.family) [ inl f ↦ f | inr f ↦ absurd (both_apart e (tested ∙ not_v6 r.family r.address r.prefix I f)) ] in
      let bounds = ranges_are_bounded.v4 r h.fits family in
      let s = functions_stand.range_v4 (range_literal r) in
      ordered 32 I (range_v4 applied t) r (answered enums I a.0 s.0 (of_second enums I (is_ipv4 applied t) (range_v4 applied t).0 (range_v4 applied t).1 i) ∙ ap (λ p. term_value I p.0) bounds) (answered enums I a.1 s.1 (of_third enums I (is_ipv4 applied t) (range_v4 applied t).0 (range_v4 applied t).1 i) ∙ ap (λ p. term_value I p.1) bounds));
}

rule_v6 : IsRangeRule (is_ipv6 applied) (range_v6 applied)
rule_v6 = record {
  width = 128;
  tested = λ I t r h. typed_beside I (v6_alike [] I (at_range [] I r t h));
  bounded = λ I t r h. (let a = range_v6_alike [] I (at_range [] I r t h) in (typed_beside I a.0, typed_beside I a.1));
  block = λ enums I t r h i e. (
      let literal = at_range enums I r t h in
      let a = range_v6_alike enums I literal in
      let tested : term_value I (is_ipv6 applied t) ≡ term_value I (is_ipv6 folding (range_literal r)) = answered enums I (v6_alike enums I literal) (functions_stand.is_ipv6 (range_literal r)) (of_first enums I (is_ipv6 applied t) (range_v6 applied t).0 (range_v6 applied t).1 i) in
      let family : r.family ≡ Version6 = elim (family_of r.family) [ inr f ↦ f | inl f ↦ absurd (both_apart e (tested ∙ not_v4 r.family r.address r.prefix I f)) ] in
      let bounds = ranges_are_bounded.v6 r h.fits family in
      let s = functions_stand.range_v6 (range_literal r) in
      ordered 128 I (range_v6 applied t) r (answered enums I a.0 s.0 (of_second enums I (is_ipv6 applied t) (range_v6 applied t).0 (range_v6 applied t).1 i) ∙ ap (λ p. term_value I p.0) bounds) (answered enums I a.1 s.1 (of_third enums I (is_ipv6 applied t) (range_v6 applied t).0 (range_v6 applied t).1 i) ∙ ap (λ p. term_value I p.1) bounds));
}

pub rules_are_kept : RulesAreKept
rules_are_kept = record {
  v4 = rule_v4;
  v6 = rule_v6;
  formed_v4 = λ I t r h. (let a = range_v4_alike [] I (at_range [] I r t h) in record { tested = (v4_alike [] I (at_range [] I r t h)).formed_second; lowest = a.0.formed_second; highest = a.1.formed_second });
  formed_v6 = λ I t r h. (let a = range_v6_alike [] I (at_range [] I r t h) in record { tested = (v6_alike [] I (at_range [] I r t h)).formed_second; lowest = a.0.formed_second; highest = a.1.formed_second });
  in_range_v = rule_tells;
  formed = rule_formed;
}
