-- The terms of a job are typed and formed, and they are Booleans; its steps are balanced; its enum types are in order; and bytes that are a job have no fault.
use Rattle.std.proofs.Common.{◌≡◌, ℕ, List, [], ◌∷◌, Ok, Err, codes, ap, ◌∙◌, subst, arith}
use Rattle.std.specs.Prelude.{IfOk}
use Rattle.std.specs.List.{AllByRecursion}
use Rattle.law_texts.specs.Reading.{Expression, Expressions, Nil, Cons}
use Rattle.law_texts.specs.Tokens.{IsReadWithin}
use Rattle.law_texts.proofs.Trees.{one_reading}
use Rattle.law_jobs.specs.Outcomes.{JobFault, Outcome}
use Rattle.law_texts.specs.Outcomes.{◌>>=◌}
use Rattle.law_jobs.specs.Declarations.{Declared, functions_of, variables_of}
use Rattle.law_jobs.specs.Enums.{enums_in}
use Rattle.law_jobs.specs.Jobs.{HasFault, IsJob, IsTooLong, PlainJob, declared_first, job_of, job_of_sections, section_first, section_of, steps_last}
use Rattle.law_jobs.specs.Laws.{AreInOrder, IsCondition, JobsHaveConditions}
use Rattle.law_jobs.specs.Steps.{AreBalanced, PlainStep, Section, asserted, headed, nothing_more, section_named}
use Rattle.law_jobs.proofs.Outcomes.{bound, onward, whichever}
use Rattle.law_jobs.proofs.EnumsInOrder.{enums_in_order}
use Rattle.law_jobs.proofs.FormedTypes.{AreDeclaredFormed, functions_formed, variables_formed}
use Rattle.law_jobs.proofs.Steps.{AreSound, current_before, section_sound}

-- what holds of all that a section may state holds of what the first expression states as this section
first_section : {A : Type 0} (P : A → Type 0) (head : List ℕ) (reads : Expressions → Outcome A) → ((es : Expressions) → IfOk (reads es) P) → (es : Expressions) → IfOk (section_first head reads es) (λ p. P p.0)
first_section P head reads all Nil = tt
first_section P head reads all (Cons e es) =
    bound (λ p. P p.0) (section_of head e >>= reads) _ (onward (section_of head e >>= reads) (bound P (section_of head e) reads (whichever _ (section_of head e) all)) (λ a h. h))

pub declared_sound : (es : Expressions) → IfOk (declared_first es) (λ p. AreDeclaredFormed p.0)
declared_sound es =
    bound _ (section_first (codes "enums") enums_in es) _ (whichever _ (section_first (codes "enums") enums_in es) (λ types.
    bound _ (section_first (codes "vars") variables_of types.1) _ (onward (section_first (codes "vars") variables_of types.1) (first_section _ (codes "vars") variables_of variables_formed types.1) (λ vs f.
    bound _ (section_first (codes "funs") functions_of vs.1) _ (onward (section_first (codes "funs") functions_of vs.1) (first_section _ (codes "funs") functions_of functions_formed vs.1) (λ fs g.
    record { variables = f; functions = g }))))))

last_sound : (ds : Declared) → AreDeclaredFormed ds → (es : Expressions) → IfOk (steps_last ds es) (λ x. AreSound 0 x.1)
last_sound ds f Nil = tt
last_sound ds f (Cons last others) =
    bound (λ x. AreSound 0 x.1) (headed last) _ (whichever _ (headed last) (λ p.
    bound (λ x. AreSound 0 x.1) (section_named ds p.0 p.1) _ (onward (section_named ds p.0 p.1) (section_sound ds f p.0 p.1) (λ x h.
    bound (λ x. AreSound 0 x.1) (nothing_more others) _ (whichever _ (nothing_more others) (λ u. h))))))

pub sections_sound : (es : Expressions) → IfOk (job_of_sections es) (λ x. AreSound 0 x.1.steps)
sections_sound es =
    bound (λ x. AreSound 0 x.1.steps) (declared_first es) _ (onward (declared_first es) (declared_sound es) (λ p f.
    bound (λ x. AreSound 0 x.1.steps) (steps_last p.0 p.1) _ (onward (steps_last p.0 p.1) (last_sound p.0 f p.1) (λ x h. h))))

-- what holds of what the sections of a job state holds of the job
of_stated : (P : PlainJob → Type 0) → ((es : Expressions) → IfOk (job_of_sections es) (λ x. P x.1)) → (e : Expression) (x : Section × PlainJob) → job_of e ≡ Ok x → P x.1
of_stated P all e x is = subst (λ (o : Outcome (Section × PlainJob)). IfOk o (λ x. P x.1)) is (bound (λ x. P x.1) (section_of (codes "job") e) job_of_sections (whichever _ (section_of (codes "job") e) all))

-- the steps of a job that an expression states
pub stated_steps_sound : (e : Expression) (x : Section × PlainJob) → job_of e ≡ Ok x → AreSound 0 x.1.steps
stated_steps_sound e x is = of_stated (λ j. AreSound 0 j.steps) sections_sound e x is

sound_steps : (bytes : List ℕ) (job : PlainJob) → IsJob bytes job → AreSound 0 job.steps
sound_steps bytes job is = stated_steps_sound is.expression (is.section, job) is.stated

pub job_conditions : (bytes : List ℕ) (job : PlainJob) → IsJob bytes job → AllByRecursion IsCondition (asserted job.steps)
job_conditions bytes job is = (sound_steps bytes job is).0

pub job_is_balanced : (bytes : List ℕ) (job : PlainJob) → IsJob bytes job → AreBalanced 0 job.steps
job_is_balanced bytes job is = (sound_steps bytes job is).1

pub jobs_have_conditions : JobsHaveConditions
jobs_have_conditions = record {
  asserted = job_conditions;
  current = λ bytes job before behind is cut. current_before IsCondition before behind (subst (λ (steps : List PlainStep). AllByRecursion IsCondition (asserted steps)) cut (job_conditions bytes job is));
}

-- ---- the enum types are in order

declared_in_order : (es : Expressions) → IfOk (declared_first es) (λ p. AreInOrder p.0.enums)
declared_in_order es =
    bound _ (section_first (codes "enums") enums_in es) _ (onward (section_first (codes "enums") enums_in es) (first_section AreInOrder (codes "enums") enums_in enums_in_order es) (λ types o.
    bound _ (section_first (codes "vars") variables_of types.1) _ (whichever _ (section_first (codes "vars") variables_of types.1) (λ vs.
    bound _ (section_first (codes "funs") functions_of vs.1) _ (whichever _ (section_first (codes "funs") functions_of vs.1) (λ fs. o))))))

sections_in_order : (es : Expressions) → IfOk (job_of_sections es) (λ x. AreInOrder x.1.enums)
sections_in_order es =
    bound _ (declared_first es) _ (onward (declared_first es) (declared_in_order es) (λ p o.
    bound _ (steps_last p.0 p.1) _ (whichever _ (steps_last p.0 p.1) (λ x. o))))

-- the enum types of a job that an expression states
pub stated_enums_in_order : (e : Expression) (x : Section × PlainJob) → job_of e ≡ Ok x → AreInOrder x.1.enums
stated_enums_in_order e x is = of_stated (λ j. AreInOrder j.enums) sections_in_order e x is

pub job_enums_in_order : (bytes : List ℕ) (job : PlainJob) → IsJob bytes job → AreInOrder job.enums
job_enums_in_order bytes job is = stated_enums_in_order is.expression (is.section, job) is.stated

-- ---- bytes are one job at most, and a job has no fault

-- a text is one expression at most
pub one_expression : (bytes : List ℕ) (most : ℕ) (e f : Expression) → IsReadWithin bytes most e → IsReadWithin bytes most f → f ≡ e
one_expression bytes most e f r s = one_of e f (one_reading bytes (f ∷ []) (e ∷ []) s.reads r.reads)
  where
    one_of : (x y : Expression) → y ∷ [] ≡ x ∷ [] → y ≡ x
    one_of x y h = cc

same_outcome : (o : Outcome (Section × PlainJob)) (x y : Section × PlainJob) → o ≡ Ok x → o ≡ Ok y → x ≡ y
same_outcome o x y h i = cc

-- the same bytes are the same job, by the same section
pub one_stated : (bytes : List ℕ) (j k : PlainJob) (is : IsJob bytes j) (too : IsJob bytes k) → ◌≡◌ {A = Section × PlainJob} (is.section, j) (too.section, k)
one_stated bytes j k is too = same_outcome (job_of is.expression) (is.section, j) (too.section, k) is.stated (ap job_of (one_expression bytes 512 too.expression is.expression too.read is.read) ∙ too.stated)

pub one_job : (bytes : List ℕ) (j k : PlainJob) → IsJob bytes j → IsJob bytes k → j ≡ k
one_job bytes j k is too = ap (λ (x : Section × PlainJob). x.1) (one_stated bytes j k is too)

both : (o : Outcome (Section × PlainJob)) (x : Section × PlainJob) (fault : JobFault) → o ≡ Ok x → o ≡ Err fault → ⊥
both o x fault h k = cc

pub job_has_no_fault : (bytes : List ℕ) (job : PlainJob) (fault : JobFault) → IsJob bytes job → HasFault bytes fault → ⊥
job_has_no_fault bytes job fault is faulty =
    both (job_of is.expression) (is.section, job) fault is.stated (ap job_of (one_expression bytes 512 faulty.1.expression is.expression faulty.1.read is.read) ∙ faulty.1.stated)

pub job_is_short : (bytes : List ℕ) (job : PlainJob) → IsJob bytes job → IsTooLong bytes → ⊥
job_is_short bytes job is long = (let short = is.short in omega (arith, short, long))
