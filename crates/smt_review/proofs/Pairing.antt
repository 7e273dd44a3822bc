-- The two terms of a job, as they are written and as they are built.
use Rattle.std.proofs.Common.{◌≡◌, ℕ, true, List, [], ◌∷◌, Option, Some, None, refl, sym, ap, ◌∙◌, subst}
use Rattle.std.specs.Prelude.{option_map}
use Rattle.std.specs.List.{AllByRecursion}
use Rattle.law_terms.proofs.Defaults.{all-join}
use Rattle.law_terms.proofs.Soundness.{all-front, all-back}
use Rattle.law_terms.specs.Interpretations.{IsGiven, IsInterpretation}
use Rattle.law_terms.specs.Meaning.{term_value}
use Rattle.law_terms.specs.Operators.{truth}
use Rattle.law_terms.specs.Plain.{BoolType, PlainTerm}
use Rattle.law_terms.specs.Reached.{subterms}
use Rattle.law_terms.specs.Tables.{Interpretation}
use Rattle.law_terms.specs.Typing.{AreBoolean, Typed}
use Rattle.law_terms.specs.TypeValues.{Enums}
use Rattle.law_folding.specs.Built.{built}
use Rattle.law_folding.proofs.BuiltTerms.{built_stands}
use Rattle.law_folding.proofs.Records.{interpretations}
use Rattle.law_jobs.proofs.BuiltConditions.{built_booleans}
use Rattle.law_jobs.proofs.Jobs.{job_conditions}
use Rattle.law_jobs.proofs.Steps.{asserted_built}
use Rattle.law_jobs.specs.Jobs.{IsBuiltFrom, IsJob, PlainJob}
use Rattle.law_jobs.specs.Laws.{IsCondition}
use Rattle.law_jobs.specs.Steps.{PlainStep, AssertStep, CheckStep, PopStep, PushStep, Section, asserted, built_steps}
use Rattle.smt_review.specs.Differences.{AreRelated, related}
use Rattle.smt_review.specs.Pairs.{IsPair, IsNoPair, pair_of}
use Rattle.smt_review.specs.declared.relation.Relation.{Relation}

-- the terms of a pair as they are built
abbrev pub built_pair : PlainTerm × PlainTerm → PlainTerm × PlainTerm
built_pair p = (built p.0, built p.1)

-- what is built of steps is a pair exactly where they are one, of what is built of the terms
pub pair_built : (steps : List PlainStep) → pair_of (built_steps steps) ≡ option_map built_pair (pair_of steps)
pair_built [] = refl
pair_built (AssertStep [] ∷ steps) = refl
pair_built (AssertStep (t ∷ []) ∷ steps) = refl
pair_built (AssertStep (t ∷ u ∷ []) ∷ []) = refl
pair_built (AssertStep (t ∷ u ∷ []) ∷ (s ∷ steps)) = refl
pair_built (AssertStep (t ∷ u ∷ (w ∷ ws)) ∷ steps) = refl
pair_built (PushStep ∷ steps) = refl
pair_built (PopStep ∷ steps) = refl
pair_built (CheckStep ∷ steps) = refl

-- nothing is no member
pub none_some : {A : Type 0} (x : A) → ◌≡◌ {A = Option A} None (Some x) → ⊥
none_some x e = cc

-- what stands behind `Some` is one
one_member : {A : Type 0} (d : A) (x y : A) → Some x ≡ Some y → x ≡ y
one_member d x y e = ap (from_some d) e
  where
    from_some : {A : Type 0} → A → Option A → A
    from_some d None = d
    from_some d (Some x) = x

pub same_pair : (a b t u : PlainTerm) → ◌≡◌ {A = Option (PlainTerm × PlainTerm)} (Some (a, b)) (Some (t, u)) → ◌≡◌ {A = PlainTerm × PlainTerm} (a, b) (t, u)
same_pair a b t u e = one_member (a, b) (a, b) (t, u) e

-- a pair asserts its two terms
pub pair_asserted : (steps : List PlainStep) (t u : PlainTerm) → pair_of steps ≡ Some (t, u) → asserted steps ≡ t ∷ u ∷ []
pair_asserted [] t u e = cc
pair_asserted (AssertStep [] ∷ steps) t u e = cc
pair_asserted (AssertStep (a ∷ []) ∷ steps) t u e = cc
pair_asserted (AssertStep (a ∷ b ∷ []) ∷ []) t u e =
    let both = same_pair a b t u e in
    ap (λ (p : PlainTerm × PlainTerm). p.0 ∷ p.1 ∷ []) both
pair_asserted (AssertStep (a ∷ b ∷ []) ∷ (s ∷ steps)) t u e = cc
pair_asserted (AssertStep (a ∷ b ∷ (w ∷ ws)) ∷ steps) t u e = cc
pair_asserted (PushStep ∷ steps) t u e = cc
pair_asserted (PopStep ∷ steps) t u e = cc
pair_asserted (CheckStep ∷ steps) t u e = cc

-- the terms of a pair of Boolean terms are Boolean
pub pair_boolean : (steps : List PlainStep) (t u : PlainTerm) → pair_of steps ≡ Some (t, u) → AreBoolean (asserted steps) → Typed t BoolType × Typed u BoolType
pair_boolean steps t u e h = let b = subst AreBoolean (pair_asserted steps t u e) h in (b.0, b.1.0)

-- what is built of a job asserts Boolean terms
pub job_boolean : (bytes : List ℕ) (section : Section) (job : PlainJob) → IsBuiltFrom bytes section job → AreBoolean (asserted job.steps)
job_boolean bytes section job is =
    subst (λ (j : PlainJob). AreBoolean (asserted j.steps)) (sym is.is_built)
    (subst AreBoolean (sym (asserted_built is.written.steps)) (built_booleans (asserted is.written.steps) (job_conditions bytes is.written is.is_job)))

-- ---- a pair that was read

-- A pair as it is written, where its built terms are these.
pub record WrittenPair (bytes : List ℕ) (job : PlainJob) (t u : PlainTerm) : Type 0 where
  pub pair : IsPair bytes
  pub enums : job.enums ≡ pair.job.enums
  pub first : t ≡ built pair.first
  pub second : u ≡ built pair.second

written_by : (bytes : List ℕ) (job written : PlainJob) (t u : PlainTerm) → IsJob bytes written → job.enums ≡ written.enums → (o : Option (PlainTerm × PlainTerm)) → pair_of written.steps ≡ o → option_map built_pair o ≡ Some (t, u) → WrittenPair bytes job t u
written_by bytes job written t u is same None e h = absurd (none_some (t, u) h)
written_by bytes job written t u is same (Some p) e h = record {
  pair = record { job = written; is_job = is; first = p.0; second = p.1; two = e };
  enums = same;
  first = sym (ap (λ (q : PlainTerm × PlainTerm). q.0) (one_member (t, u) (built_pair p) (t, u) h));
  second = sym (ap (λ (q : PlainTerm × PlainTerm). q.1) (one_member (t, u) (built_pair p) (t, u) h));
}

pub written_pair : (bytes : List ℕ) (section : Section) (job : PlainJob) (t u : PlainTerm) → IsBuiltFrom bytes section job → pair_of job.steps ≡ Some (t, u) → WrittenPair bytes job t u
written_pair bytes section job t u is e =
    written_by bytes job is.written t u is.is_job (ap (λ (j : PlainJob). j.enums) is.is_built) (pair_of is.written.steps) refl
    (sym (pair_built is.written.steps) ∙ sym (ap (λ (j : PlainJob). pair_of j.steps) is.is_built) ∙ e)

none_by : (o : Option (PlainTerm × PlainTerm)) → option_map built_pair o ≡ None → o ≡ None
none_by None h = refl
none_by (Some p) h = absurd (none_some (built_pair p) (sym h))

-- what was read is no pair
pub no_pair : (bytes : List ℕ) (section : Section) (job : PlainJob) → IsBuiltFrom bytes section job → pair_of job.steps ≡ None → IsNoPair bytes
no_pair bytes section job is e =
    (is.written, is.is_job, none_by (pair_of is.written.steps) (sym (pair_built is.written.steps) ∙ sym (ap (λ (j : PlainJob). pair_of j.steps) is.is_built) ∙ e))

-- ---- as written

pub pair_conditions : (bytes : List ℕ) (p : IsPair bytes) → IsCondition p.first × IsCondition p.second
pair_conditions bytes p =
    let c = subst (λ (ts : List PlainTerm). AllByRecursion IsCondition ts) (pair_asserted p.job.steps p.first p.second p.two) (job_conditions bytes p.job p.is_job) in
    (c.0, c.1.0)

-- Where a relation holds of what is built of two terms, it holds of the terms.
pub related_as_written : (enums : Enums) (r : Relation) (t u : PlainTerm) → IsCondition t → IsCondition u → AreRelated enums r (built t) (built u) → AreRelated enums r t u
related_as_written enums r t u ht hu h I given =
    let st = built_stands t ht.boolean.parts in
    let su = built_stands u hu.boolean.parts in
    let built_given : IsInterpretation enums (built t ∷ built u ∷ []) I = interpretations enums I (built t ∷ built u ∷ []) (t ∷ u ∷ []) (st, (su, tt)) given in
    let gt : IsInterpretation enums (t ∷ []) I = first_given enums I t u given in
    let gu : IsInterpretation enums (u ∷ []) I = second_given enums I t u given in
    let vt = st.value BoolType enums I ht.formed ht.boolean gt in
    let vu = su.value BoolType enums I hu.formed hu.boolean gu in
    subst (λ (b : _). related r (truth b) (truth (term_value I u)) ≡ true) vt (subst (λ (b : _). related r (truth (term_value I (built t))) (truth b) ≡ true) vu (h I built_given))
  where
    first_given : (enums : Enums) (I : Interpretation) (t u : PlainTerm) → IsInterpretation enums (t ∷ u ∷ []) I → IsInterpretation enums (t ∷ []) I
    first_given enums I t u g = all-join (IsGiven enums I) (subterms t) [] (all-front (IsGiven enums I) (subterms t) _ g) tt

    second_given : (enums : Enums) (I : Interpretation) (t u : PlainTerm) → IsInterpretation enums (t ∷ u ∷ []) I → IsInterpretation enums (u ∷ []) I
    second_given enums I t u g = all-back (IsGiven enums I) (subterms t) _ g
