-- The walk over the bytes of a job: what each part gives, and what they give together.
use Rattle.std.proofs.Common.{◌≡◌, ℕ, ◌-◌, ◌≤◌, List, [], ◌∷◌, ◌++◌, Some, None, Ok, Err, Result, true, zero, suc, ◌<◌, bytes_eq, codes, length, map, refl, sym, ap, ◌∙◌, subst, inl, inr, append_assoc, append-nil, arith}
use Rattle.std.specs.Prelude.{IsErrAnd}
use Rattle.std.specs.List.{flat_map}
use Rattle.std.proofs.lemmas.Slice.Eq.{bytes_eq-Decides}
use Rattle.std.proofs.lemmas.List.{map-append}
use Rattle.std.proofs.lemmas.List.Concat.{flat_map-append}
use Rattle.law_folding.specs.Built.{built}
use Rattle.law_terms.specs.Plain.{PlainFunction, PlainTerm, PlainType}
use Rattle.law_terms.specs.TypeValues.{Enums}
use Rattle.law_texts.specs.Lexicon.{Atom, Name, Number, Text, Bits, Token, Begin, End, Word}
use Rattle.law_texts.specs.Reading.{Expression, Leaf, Node, Expressions, Nil, Cons, brackets, deepest, expressions, inside, nesting}
use Rattle.law_texts.specs.Tokens.{HasTokens, IsReadWithin, Spans}
use Rattle.law_texts.proofs.Spans.{goes_on, has_tokens, joined, no_span, none_before_end, one_first, one_token, read_from}
use Rattle.law_texts.proofs.Trees.{end_begins}
use Rattle.smt_sexpr.specs.Refusals.{IsRefused}
use Rattle.smt_sexpr.specs.declared.error.SExprParseError.{SExprParseError}
use Rattle.smt_sexpr.specs.declared.error.SExprParseError.TheVariants.{UnexpectedEnd, Utf8Error, StringParseError, ParseIntError, UnclosedSExpr, TrailingTokens, IntegerOverflow, ZeroWidthBitVec, TooDeep as TextTooDeep, Memory as NoMemory}
use Rattle.smt_sexpr.proofs.TokenLists.{deepest_push, inside_is}
use Rattle.law_jobs.specs.Outcomes.{JobFault, Outcome, FormFault, followed, mapped}
use Rattle.law_texts.specs.Outcomes.{◌>>=◌}
use Rattle.law_texts.specs.Parts.{name_in}
use Rattle.law_jobs.specs.Declarations.{Declarations, Declared as Stated, functions_of, variables_of}
use Rattle.law_jobs.specs.Enums.{enums_in}
use Rattle.law_jobs.specs.Jobs.{IsBuiltFrom, IsTooLong, PlainJob, declared_first, greatest_length, job_of, section_first, section_of, steps_last}
use Rattle.law_jobs.specs.Steps.{PlainStep, AssertStep, Section, TermsSection, StepsSection, built_step, built_steps, headed, levels_behind, nothing_more, section_named, step_named, step_of, steps_of}
use Rattle.law_jobs.specs.Terms.{condition_of, conditions_of}
use Rattle.smt_job_terms.specs.DeclarationView.{stated_in}
use Rattle.smt_job_terms.specs.ReadAs.{IsFault, IsFaultIn}
use Rattle.smt_jobs.specs.Refused.{IsFirstFault, IsRefusal, IsTextFault, IsUnreadable}
use Rattle.smt_jobs.specs.StepView.{plain_bare_step, plain_section}
use Rattle.smt_jobs.specs.Walk.{Begins, BeginsInside, Gives, ReadsInside, ReadsOne, ReadsSome, Takes, TakesJob, alone, first_and_others, first_by, named_in, section_in, step_in, with_levels}
use Rattle.smt_jobs.specs.declared.steps.BareStep.{BareStep}
use Rattle.smt_jobs.specs.declared.steps.BareStep.TheVariants as bare
use Rattle.smt_jobs.specs.declared.steps.Section.{Section as Which}
use Rattle.smt_job_terms.specs.declared.declaration.Declared.{Declared}
use Rattle.smt_job_terms.specs.declared.error.JobError.{JobError}
use Rattle.smt_job_terms.specs.declared.error.JobError.TheVariants.{TooLarge, Parse, TooDeep, BadForm, UnknownName, DuplicateName, BadType, BadWidth, BadLiteral, IllTyped, NotBool, Unbalanced, Memory}
use Rattle.law_texts.proofs.SameTexts.{other_text}
use Rattle.smt_job_terms.proofs.Reading.{behind, fault_passes, mapped_of, nothing_behind, one_behind}

abbrev no_form : Outcome ℕ
no_form = Err FormFault

-- ---- errors that are passed on

-- an error of a part is one of the whole, where the fault of the part is that of the whole
pub gives_passes : {A B B' : Type 0} (P : A → B → Type 0) (r : Result A JobError) (e : JobError) (whole : Outcome B) (part : Outcome B') → IsErrAnd r (λ y. y ≡ e) → IsFaultIn e part → ((f : JobFault) → part ≡ Err f → whole ≡ Err f) → Gives P r whole
gives_passes P (Ok x) e whole part h g f = absurd h
gives_passes P (Err y) e whole part h g f = subst (λ (x : JobError). Gives P (Err x) whole) (sym h) (fault_passes e whole part g f)

-- ---- the first of the expressions inside brackets

pub record IsFirst (depth : ℕ) (es : Expressions) (e : Expression) (rest : List ℕ) (end : List Token) : Type 0 where
  pub others : Expressions
  pub whole : es ≡ Cons e others
  pub begins : BeginsInside depth others rest end

pub first_read : (depth : ℕ) (es : Expressions) (e : Expression) (src rest : List ℕ) (end : List Token) → BeginsInside depth es src end → Spans src (brackets e) rest → IsFirst depth es e rest end
first_read depth Nil e src rest end i s = absurd (none_before_end src rest e end i.has s)
first_read depth (Cons f fs) e src rest end i s =
    let o = one_first src rest f e (inside fs ++ (End ∷ end)) (subst (HasTokens src) (append_assoc (brackets f) (inside fs) (End ∷ end)) i.has) s in
    let within = i.shallow in
    record {
      others = fs;
      whole = ap (λ (x : Expression). Cons x fs) (sym o.0);
      begins = record { has = o.1; shallow = omega arith };
    }

-- where none is read, none stands there, unless memory ran out
pub first_unread : (depth : ℕ) (es : Expressions) (src : List ℕ) (end : List Token) (cause : SExprParseError) (error : JobError) → BeginsInside depth es src end
    → ((e : Expression) (ts : List Token) → HasTokens src (brackets e ++ ts) → nesting e ≤ depth → cause ≡ NoMemory) → (cause ≡ NoMemory → error ≡ Memory) → IsFault error FormFault → IsFaultIn error (first_and_others es)
first_unread depth Nil src end cause error i complete want form = fault_passes error (first_and_others Nil) no_form form (λ f same. (let e : FormFault ≡ f = cc in ap Err e))
first_unread depth (Cons f fs) src end cause error i complete want form =
    let within = i.shallow in
    let shallow : nesting f ≤ depth = omega arith in
    subst (λ (x : JobError). IsFaultIn x (first_and_others (Cons f fs))) (sym (want (complete f (inside fs ++ (End ∷ end)) (subst (HasTokens src) (append_assoc (brackets f) (inside fs) (End ∷ end)) i.has) shallow))) tt

pub cons_from : (es : Expressions) (p : Expression × Expressions) → first_and_others es ≡ Ok p → es ≡ Cons p.0 p.1
cons_from Nil p h = absurd (cc)
cons_from (Cons e es) p h = (let f : (e, es) ≡ p = cc in ap (λ (x : Expression × Expressions). Cons x.0 x.1) f)

pub nil_from : (es : Expressions) (f : JobFault) → first_and_others es ≡ Err f → (es ≡ Nil) × (FormFault ≡ f)
nil_from Nil f h = (refl, (let e : FormFault ≡ f = cc in e))
nil_from (Cons e es) f h = absurd (cc)

first_fails : {A : Type 0} (o : Outcome A) (es : Expressions) (f : JobFault) → ◌>>=◌ {B = A × Expressions} o (λ a. Ok (a, es)) ≡ Err f → o ≡ Err f
first_fails (Ok a) es f h = absurd (cc)
first_fails (Err e) es f h = (let d : e ≡ f = cc in ap Err d)

first_so : {A : Type 0} (o : Outcome A) (es : Expressions) (p : A × Expressions) → ◌>>=◌ {B = A × Expressions} o (λ a. Ok (a, es)) ≡ Ok p → (o ≡ Ok p.0) × (es ≡ p.1)
first_so (Ok a) es p h = (let d : (a, es) ≡ p = cc in (ap (λ (x : _ × Expressions). Ok x.0) d, ap (λ (x : _ × Expressions). x.1) d))
first_so (Err e) es p h = absurd (cc)

-- what is found by the first of some expressions
pub first_found : {A : Type 0} (reads : Expression → Outcome A) (es : Expressions) (p : A × Expressions) → first_by reads es ≡ Ok p → (e : Expression) × (es ≡ Cons e p.1) × (reads e ≡ Ok p.0)
first_found reads Nil p h = absurd (cc)
first_found reads (Cons e es) p h = (let d = first_so (reads e) es p h in (e, ap (Cons e) d.1, d.0))

pub found_first : {A : Type 0} (reads : Expression → Outcome A) (es others : Expressions) (e : Expression) (a : A) → es ≡ Cons e others → reads e ≡ Ok a → first_by reads es ≡ Ok (a, others)
found_first reads es others e a whole h = ap (first_by reads) whole ∙ ap (λ o. o >>= λ a. Ok (a, others)) h

pub fault_first : {A : Type 0} (reads : Expression → Outcome A) (es others : Expressions) (e : Expression) (f : JobFault) → es ≡ Cons e others → reads e ≡ Err f → first_by reads es ≡ Err f
fault_first reads es others e f whole h = ap (first_by reads) whole ∙ ap (λ o. o >>= λ a. Ok (a, others)) h

pub none_first : {A : Type 0} (reads : Expression → Outcome A) (es : Expressions) (f : JobFault) → first_and_others es ≡ Err f → first_by reads es ≡ Err f
none_first reads es f h = (let n = nil_from es f h in ap (first_by reads) n.0 ∙ ap Err n.1)

-- ---- brackets and their heads

pub record IsOpened (depth : ℕ) (e : Expression) (inner : List ℕ) (end : List Token) : Type 0 where
  pub es : Expressions
  pub whole : e ≡ Node es
  pub begins : BeginsInside (depth - 1) es inner end

no_word : (a : Atom) (u : Token) → u ≡ Begin → u ≡ Word a → ⊥
no_word a u h k = (let e : Begin ≡ Word a = sym h ∙ k in cc)

pub opened : (depth : ℕ) (e : Expression) (src inner : List ℕ) (end : List Token) → Begins depth e src end → Spans src (Begin ∷ []) inner → IsOpened depth e inner end
opened depth (Leaf a) src inner end b o = absurd (no_word a Begin refl (one_token src inner (Word a) Begin end b.has o).0)
opened depth (Node es) src inner end b o =
    let t = one_token src inner Begin Begin ((inside es ++ End ∷ []) ++ end) b.has o in
    let within = b.shallow in
    record {
      es = es;
      whole = refl;
      begins = record { has = subst (HasTokens inner) (append_assoc (inside es) (End ∷ []) end) t.1; shallow = omega arith };
    }

-- what does not open has no head
pub unopened : (depth : ℕ) (e : Expression) (src : List ℕ) (end : List Token) → Begins depth e src end → ((ts : List Token) → HasTokens src (Begin ∷ ts) → ⊥) → headed e ≡ Err FormFault
unopened depth (Leaf a) src end b o = refl
unopened depth (Node es) src end b o = absurd (o ((inside es ++ End ∷ []) ++ end) b.has)

pub no_head : (e : Expression) (es : Expressions) (f : JobFault) → e ≡ Node es → first_and_others es ≡ Err f → headed e ≡ Err f
no_head e es f w h = (let n = nil_from es f h in ap headed (w ∙ ap Node n.0) ∙ ap Err n.1)

headed_by_name : (first : Expression) (es : Expressions) (n : List ℕ) → name_in first ≡ Some n → headed (Node (Cons first es)) ≡ Ok (n, es)
headed_by_name (Leaf (Name m)) es n h = (let e : m ≡ n = cc in ap (λ (x : List ℕ). Ok (x, es)) e)
headed_by_name (Leaf (Number m)) es n h = absurd (cc)
headed_by_name (Leaf (Text t)) es n h = absurd (cc)
headed_by_name (Leaf (Bits m w)) es n h = absurd (cc)
headed_by_name (Node fs) es n h = absurd (cc)

no_name_there : (first : Expression) (es : Expressions) → name_in first ≡ None → headed (Node (Cons first es)) ≡ Err FormFault
no_name_there (Leaf (Name m)) es h = absurd (cc)
no_name_there (Leaf (Number m)) es h = refl
no_name_there (Leaf (Text t)) es h = refl
no_name_there (Leaf (Bits m w)) es h = refl
no_name_there (Node fs) es h = refl

module _ (e : Expression) (es : Expressions) (p : Expression × Expressions) (first : Expression) (w : e ≡ Node es) (h : first_and_others es ≡ Ok p) (f : p.0 ≡ first) where
  at_first : headed e ≡ headed (Node (Cons first p.1))
  at_first = ap headed (w ∙ ap Node (cons_from es p h ∙ ap (λ (x : Expression). Cons x p.1) f))

  pub head_is : (n : List ℕ) → name_in first ≡ Some n → headed e ≡ Ok (n, p.1)
  head_is n named = at_first ∙ headed_by_name first p.1 n named

  pub no_name : name_in first ≡ None → headed e ≡ Err FormFault
  no_name none = at_first ∙ no_name_there first p.1 none

-- the token of a head
pub head_token : (e : Expression) (n : List ℕ) → name_in e ≡ Some n → brackets e ≡ Word (Name n) ∷ []
head_token (Leaf (Name m)) n h = (let e : m ≡ n = cc in ap (λ (v : List ℕ). Word (Name v) ∷ []) e)
head_token e n h = absurd (cc)

-- ---- the terms

-- these were taken of the terms of an assertion, and those are left
pub record Taking (depth : ℕ) (ds : Stated) (es : Expressions) (end : List Token) (rest : List ℕ) (old now : List PlainTerm) : Type 0 where
  pub left : Expressions
  pub begins : BeginsInside depth left rest end
  pub done : List PlainTerm
  pub whole : conditions_of ds es ≡ behind done (conditions_of ds left)
  pub takes : now ≡ old ++ map built done

pub taking_none : (depth : ℕ) (ds : Stated) (es : Expressions) (src : List ℕ) (end : List Token) (old : List PlainTerm) → BeginsInside depth es src end → Taking depth ds es end src old old
taking_none depth ds es src end old i = record {
  left = es;
  begins = i;
  done = [];
  whole = nothing_behind (conditions_of ds es);
  takes = sym (append-nil old);
}

-- no expression begins with the bracket that closes
pub nothing_before_end : (depth : ℕ) (es : Expressions) (src rest : List ℕ) (end : List Token) → BeginsInside depth es src end → Spans src (End ∷ []) rest → (es ≡ Nil) × HasTokens rest end
nothing_before_end depth Nil src rest end i s = (refl, (one_token src rest End End end i.has s).1)
nothing_before_end depth (Cons f fs) src rest end i s =
    let g = goes_on src rest (inside (Cons f fs) ++ (End ∷ end)) (End ∷ []) i.has s in
    absurd (end_begins f g.others (inside fs ++ (End ∷ end)) (sym g.whole ∙ append_assoc (brackets f) (inside fs) (End ∷ end)))

module _ (depth : ℕ) (ds : Stated) (es : Expressions) (end : List Token) (rest : List ℕ) (old now : List PlainTerm) (t : Taking depth ds es end rest old now) where
  -- at the closing bracket
  pub all_taken : (after : List ℕ) → Spans rest (End ∷ []) after → (written : List PlainTerm) × (conditions_of ds es ≡ Ok written) × HasTokens after end × (now ≡ old ++ map built written)
  all_taken after s =
      let nothing = nothing_before_end depth t.left rest after end t.begins s in (
        t.done,
        t.whole ∙ ap (λ x. behind t.done (conditions_of ds x)) nothing.0 ∙ ap Ok (append-nil t.done),
        nothing.1,
        t.takes,
      )

  module _ (p : Expression × Expressions) (first : first_and_others t.left ≡ Ok p) where
    abbrev with_first : Outcome PlainTerm → Outcome (List PlainTerm)
    with_first o = behind t.done (o >>= λ a. followed a (conditions_of ds p.1))

    whole_of : conditions_of ds es ≡ with_first (condition_of ds p.0)
    whole_of = t.whole ∙ ap (λ x. behind t.done (conditions_of ds x)) (cons_from t.left p first)

    pub not_taken : (f : JobFault) → condition_of ds p.0 ≡ Err f → conditions_of ds es ≡ Err f
    not_taken f none = whole_of ∙ ap with_first none

    pub taken_more : (more : List ℕ) (term : PlainTerm) (new : List PlainTerm) → BeginsInside depth p.1 more end → mapped built (condition_of ds p.0) ≡ Ok term → new ≡ now ++ term ∷ [] → Taking depth ds es end more old new
    taken_more more term new i b n =
        let o = mapped_of built (condition_of ds p.0) term b in
        record {
          left = p.1;
          begins = i;
          done = t.done ++ o.stated ∷ [];
          whole = whole_of ∙ ap with_first o.is_stated ∙ one_behind t.done o.stated (conditions_of ds p.1);
          takes =
              n
              ∙ (λ k. t.takes k ++ o.is_mapped k ∷ [])
              ∙ append_assoc old (map built t.done) (built o.stated ∷ [])
              ∙ ap (λ l. old ++ l) (sym (map-append built t.done (o.stated ∷ [])));
        }

  pub nothing_more_there : (f : JobFault) → first_and_others t.left ≡ Err f → ((ts : List Token) → HasTokens rest (End ∷ ts) → ⊥) → ⊥
  nothing_more_there f none unclosed = unclosed end (subst (λ x. HasTokens rest (inside x ++ (End ∷ end))) (nil_from t.left f none).0 t.begins.has)

  -- a fault at the front is that of all, where the bracket does not close there
  pub not_taken_there : (f : JobFault) → first_by (condition_of ds) t.left ≡ Err f → ((ts : List Token) → HasTokens rest (End ∷ ts) → ⊥) → conditions_of ds es ≡ Err f
  not_taken_there f none unclosed = go t.left refl none
    where
      go : (left : Expressions) → t.left ≡ left → first_by (condition_of ds) left ≡ Err f → conditions_of ds es ≡ Err f
      go Nil e h = absurd (nothing_more_there FormFault (ap first_and_others e) unclosed)
      go (Cons x xs) e h = not_taken (x, xs) (ap first_and_others e) f (first_fails (condition_of ds x) xs f h)

  pub one_more_taken : (p : PlainTerm × Expressions) (more : List ℕ) (new : List PlainTerm) → first_by (condition_of ds) t.left ≡ Ok p → BeginsInside depth p.1 more end → new ≡ now ++ built p.0 ∷ [] → Taking depth ds es end more old new
  one_more_taken p more new found i n =
      let (e, whole, reads) = first_found (condition_of ds) t.left p found in
      taken_more (e, p.1) (ap first_and_others whole) more (built p.0) new i (ap (mapped built) reads) n

-- ---- expressions that are read so far

pub read_none : (src : List ℕ) (depth : ℕ) → ReadsSome src depth src
read_none src depth = record { read = []; span = no_span src; shallow = omega arith }

pub read_more : (src between rest : List ℕ) (depth : ℕ) (e : Expression) → ReadsSome src depth between → Spans between (brackets e) rest → nesting e ≤ depth → ReadsSome src depth rest
read_more src between rest depth e r s n =
    let before = r.shallow in
    let deeper = deepest_push r.read e in
    record {
      read = r.read ++ e ∷ [];
      span =
          subst (λ ts. Spans src ts rest) (sym (flat_map-append brackets r.read (e ∷ []) ∙ ap (λ ts. flat_map brackets r.read ++ ts) (append-nil (brackets e))))
          (joined src between rest (flat_map brackets r.read) (brackets e) r.span s);
      shallow = omega arith;
    }

pub read_more_is : (src between rest : List ℕ) (depth : ℕ) (e : Expression) (r : ReadsSome src depth between) (s : Spans between (brackets e) rest) (n : nesting e ≤ depth) → (read_more src between rest depth e r s n).read ≡ r.read ++ e ∷ []
unfolding read_more
read_more_is src between rest depth e r s n = refl

-- one expression more, which was read behind those
pub read_one_more : (src between rest : List ℕ) (depth : ℕ) → ReadsSome src depth between → ReadsOne between depth rest → ReadsSome src depth rest
read_one_more src between rest depth r one = read_more src between rest depth one.0 r one.1 one.2

-- ---- what a section at the front states

module _ {B : Type 0} (head : List ℕ) (reads : Expressions → Outcome B) (es : Expressions) where
  pub no_section : (f : JobFault) → first_and_others es ≡ Err f → section_first head reads es ≡ Err f
  no_section f h = (let n = nil_from es f h in ap (section_first head reads) n.0 ∙ ap Err n.1)

  module _ (p : Expression × Expressions) (first : first_and_others es ≡ Ok p) (e : Expression) (a : p.0 ≡ e) where
    abbrev read_by : Outcome Expressions → Outcome (B × Expressions)
    read_by o = o >>= reads >>= λ b. Ok (b, p.1)

    section_at : section_first head reads es ≡ read_by (section_of head e)
    section_at = ap (section_first head reads) (cons_from es p first ∙ ap (λ (x : Expression). Cons x p.1) a)

    -- it has not this head
    pub not_headed : (f : JobFault) → section_of head e ≡ Err f → section_first head reads es ≡ Err f
    not_headed f h = section_at ∙ ap read_by h

    module _ (inner : Expressions) (headed_so : section_of head e ≡ Ok inner) where
      section_inside : section_first head reads es ≡ (reads inner >>= λ b. Ok (b, p.1))
      section_inside = section_at ∙ ap read_by headed_so

      pub not_stated : (f : JobFault) → reads inner ≡ Err f → section_first head reads es ≡ Err f
      not_stated f h = section_inside ∙ ap (λ o. o >>= λ b. Ok (b, p.1)) h

      pub stated_there : (b : B) → reads inner ≡ Ok b → section_first head reads es ≡ Ok (b, p.1)
      stated_there b h = section_inside ∙ ap (λ o. o >>= λ b. Ok (b, p.1)) h

-- ---- what the first three sections declare

-- of three outcomes one behind the other
abbrev declared_by : Outcome (Enums × Expressions) → (Expressions → Outcome (Declarations PlainType × Expressions)) → (Expressions → Outcome (Declarations PlainFunction × Expressions)) → Outcome (Stated × Expressions)
declared_by enums variables functions = enums >>= λ types. variables types.1 >>= λ vs. functions vs.1 >>= λ fs. Ok (record { enums = types.0; variables = vs.0; functions = fs.0 }, fs.1)

module _ (es : Expressions) where
  abbrev enums_first : Outcome (Enums × Expressions)
  enums_first = section_first (codes "enums") enums_in es

  abbrev variables_first : Expressions → Outcome (Declarations PlainType × Expressions)
  variables_first = section_first (codes "vars") variables_of

  abbrev functions_first : Expressions → Outcome (Declarations PlainFunction × Expressions)
  functions_first = section_first (codes "funs") functions_of

  pub enums_refused : (f : JobFault) → enums_first ≡ Err f → declared_first es ≡ Err f
  enums_refused f h = ap (λ o. declared_by o variables_first functions_first) h

  module _ (types : Enums × Expressions) (listed : enums_first ≡ Ok types) where
    by_types : declared_first es ≡ declared_by (Ok types) variables_first functions_first
    by_types = ap (λ o. declared_by o variables_first functions_first) listed

    pub variables_refused : (f : JobFault) → variables_first types.1 ≡ Err f → declared_first es ≡ Err f
    variables_refused f h = by_types ∙ ap (λ o. declared_by (Ok types) (λ x. o) functions_first) h

    module _ (vs : Declarations PlainType × Expressions) (declared : variables_first types.1 ≡ Ok vs) where
      by_variables : declared_first es ≡ declared_by (Ok types) (λ x. Ok vs) functions_first
      by_variables = by_types ∙ ap (λ o. declared_by (Ok types) (λ x. o) functions_first) declared

      pub functions_refused : (f : JobFault) → functions_first vs.1 ≡ Err f → declared_first es ≡ Err f
      functions_refused f h = by_variables ∙ ap (λ o. declared_by (Ok types) (λ x. Ok vs) (λ x. o)) h

      pub all_declared : (fs : Declarations PlainFunction × Expressions) → functions_first vs.1 ≡ Ok fs → declared_first es ≡ Ok (record { enums = types.0; variables = vs.0; functions = fs.0 }, fs.1)
      all_declared fs h = by_variables ∙ ap (λ o. declared_by (Ok types) (λ x. Ok vs) (λ x. o)) h

-- ---- what stands first inside brackets

-- the first of some expressions begins what is inside
pub record IsThere (depth : ℕ) (es : Expressions) (src : List ℕ) (end : List Token) : Type 0 where
  pub first : Expression
  pub more : Expressions
  pub whole : es ≡ Cons first more
  pub begins : Begins depth first src (inside more ++ (End ∷ end))
  pub shallow : deepest more ≤ depth

cons_there : (depth : ℕ) (e : Expression) (es : Expressions) (src : List ℕ) (end : List Token) → BeginsInside depth (Cons e es) src end → IsThere depth (Cons e es) src end
cons_there depth e es src end i =
    let within = i.shallow in
    record {
      first = e;
      more = es;
      whole = refl;
      begins = record { has = subst (HasTokens src) (append_assoc (brackets e) (inside es) (End ∷ end)) i.has; shallow = omega arith };
      shallow = omega arith;
    }

bracket_no_end : (ts us : List Token) → End ∷ ts ≡ Begin ∷ us → ⊥
bracket_no_end ts us h = cc

-- where a bracket opens an expression is there
pub is_there : (depth : ℕ) (es : Expressions) (src rest : List ℕ) (end ts : List Token) → BeginsInside depth es src end → Spans src (Begin ∷ ts) rest → IsThere depth es src end
is_there depth Nil src rest end ts i s = (let g = goes_on src rest (End ∷ end) (Begin ∷ ts) i.has s in absurd (bracket_no_end end (ts ++ g.others) g.whole))
is_there depth (Cons e es) src rest end ts i s = cons_there depth e es src end i

pub others_behind : (depth : ℕ) (es : Expressions) (src rest : List ℕ) (end : List Token) (t : IsThere depth es src end) → HasTokens rest (inside t.more ++ (End ∷ end)) → BeginsInside depth t.more rest end
others_behind depth es src rest end t h = record { has = h; shallow = t.shallow }

module _ {A : Type 0} (reads : Expression → Outcome A) where
  -- without a head the first is a fault of the form, as none is
  pub not_there : (depth : ℕ) (es : Expressions) (src : List ℕ) (end : List Token) (error : JobError) → BeginsInside depth es src end → IsFault error FormFault
      → ((e : Expression) (after : List Token) → Begins depth e src after → IsFaultIn error (headed e)) → ((e : Expression) (f : JobFault) → headed e ≡ Err f → reads e ≡ Err f) → IsFaultIn error (first_by reads es)
  unfolding cons_there
  not_there depth Nil src end error i form stated by = fault_passes error (first_by reads Nil) no_form form (λ f same. (let e : FormFault ≡ f = cc in ap Err e))
  not_there depth (Cons e es) src end error i form stated by =
      fault_passes error (first_by reads (Cons e es)) (headed e) (stated e (inside es ++ (End ∷ end)) (cons_there depth e es src end i).begins) (λ f none. ap (λ o. o >>= λ a. Ok (a, es)) (by e f none))

  module _ (depth : ℕ) (es : Expressions) (src : List ℕ) (end : List Token) (t : IsThere depth es src end) where
    at_there : first_by reads es ≡ (reads t.first >>= λ a. Ok (a, t.more))
    at_there = ap (first_by reads) t.whole

    pub first_faulty : (f : JobFault) → reads t.first ≡ Err f → first_by reads es ≡ Err f
    first_faulty f h = at_there ∙ ap (λ o. o >>= λ a. Ok (a, t.more)) h

    pub first_stated : (a : A) → reads t.first ≡ Ok a → first_by reads es ≡ Ok (a, t.more)
    first_stated a h = at_there ∙ ap (λ o. o >>= λ a. Ok (a, t.more)) h

-- ---- one step

abbrev leveled : PlainStep → Outcome ℕ → Outcome (PlainStep × ℕ)
leveled s l = l >>= λ m. Ok (s, m)

module _ (ds : Stated) (k : ℕ) where
  pub step_unheaded : (e : Expression) (f : JobFault) → headed e ≡ Err f → step_in ds k e ≡ Err f
  step_unheaded e f h = ap (λ o. (o >>= λ p. step_named ds p.0 p.1) >>= with_levels k) h

  -- a step by its name
  pub step_by_name : (e : Expression) (p : List ℕ × Expressions) (n : List ℕ) → headed e ≡ Ok p → n ≡ p.0 → step_in ds k e ≡ named_in ds k n p.1
  step_by_name e p n h same = ap (λ o. (o >>= λ p. step_named ds p.0 p.1) >>= with_levels k) h ∙ ap (λ m. named_in ds k m p.1) (sym same)

  assert_level : (m : ℕ) (ts : List PlainTerm) → levels_behind m (AssertStep ts) ≡ Ok m
  assert_level zero ts = refl
  assert_level (suc m) ts = refl

  module _ (n : List ℕ) (es : Expressions) (same : bytes_eq n (codes "assert") ≡ true) where
    asserting : named_in ds k n es ≡ ((conditions_of ds es >>= λ ts. Ok (AssertStep ts)) >>= with_levels k)
    asserting = ap (λ (x : List ℕ). named_in ds k x es) ((bytes_eq-Decides n (codes "assert")).0 same)

    pub no_assertion : (f : JobFault) → conditions_of ds es ≡ Err f → named_in ds k n es ≡ Err f
    no_assertion f h = asserting ∙ ap (λ o. (o >>= λ ts. Ok (AssertStep ts)) >>= with_levels k) h

    pub assertion : (ts : List PlainTerm) → conditions_of ds es ≡ Ok ts → named_in ds k n es ≡ Ok (AssertStep ts, k)
    assertion ts h = asserting ∙ ap (λ o. (o >>= λ ts. Ok (AssertStep ts)) >>= with_levels k) h ∙ ap (λ o. leveled (AssertStep ts) o) (assert_level k ts)

  module _ (n : List ℕ) (es : Expressions) (s : PlainStep) (named : step_named ds n es ≡ alone s es) where
    pub not_alone : (f : JobFault) → nothing_more es ≡ Err f → named_in ds k n es ≡ Err f
    not_alone f h = ap (λ o. o >>= with_levels k) named ∙ ap (λ o. (o >>= λ u. Ok s) >>= with_levels k) h

    module _ (closed : nothing_more es ≡ Ok tt) where
      leveled_by : named_in ds k n es ≡ leveled s (levels_behind k s)
      leveled_by = ap (λ o. o >>= with_levels k) named ∙ ap (λ o. (o >>= λ u. Ok s) >>= with_levels k) closed

      pub no_level : (f : JobFault) → levels_behind k s ≡ Err f → named_in ds k n es ≡ Err f
      no_level f h = leveled_by ∙ ap (leveled s) h

      pub bare_named : (m : ℕ) → levels_behind k s ≡ Ok m → named_in ds k n es ≡ Ok (s, m)
      bare_named m h = leveled_by ∙ ap (leveled s) h

  pub unnamed : (n : List ℕ) (es : Expressions) (f : JobFault) → step_named ds n es ≡ Err f → named_in ds k n es ≡ Err f
  unnamed n es f h = ap (λ o. o >>= with_levels k) h

-- a step without terms is built as it is
pub bare_built : (s : BareStep) → built_step (plain_bare_step s) ≡ plain_bare_step s
bare_built bare.Push = refl
bare_built bare.Pop = refl
bare_built bare.Check = refl

-- ---- the steps

-- these steps were taken, and those are left
pub record Stepping (ds : Stated) (es : Expressions) (end : List Token) (rest : List ℕ) (levels : ℕ) (old now : List PlainStep) : Type 0 where
  pub left : Expressions
  pub begins : BeginsInside 510 left rest end
  pub done : List PlainStep
  pub whole : steps_of ds 0 es ≡ behind done (steps_of ds levels left)
  pub takes : now ≡ old ++ built_steps done

pub stepping_none : (ds : Stated) (es : Expressions) (src : List ℕ) (end : List Token) (old : List PlainStep) → BeginsInside 510 es src end → Stepping ds es end src 0 old old
stepping_none ds es src end old i = record {
  left = es;
  begins = i;
  done = [];
  whole = nothing_behind (steps_of ds 0 es);
  takes = sym (append-nil old);
}

abbrev with_others : {A : Type 0} → Expressions → Outcome A → Outcome (A × Expressions)
with_others es o = o >>= λ a. Ok (a, es)

steps_by_first : (ds : Stated) (k : ℕ) (es : Expressions) (o : Outcome ((PlainStep × ℕ) × Expressions)) → first_by (step_in ds k) es ≡ o → (es ≡ Nil → ⊥) → steps_of ds k es ≡ (o >>= λ p. followed p.0.0 (steps_of ds p.0.1 p.1))
steps_by_first ds k Nil o h some = absurd (some refl)
steps_by_first ds k (Cons e es) o h some = two (step_of ds e) ∙ ap (λ q. q >>= λ p. followed p.0.0 (steps_of ds p.0.1 p.1)) h
  where
    one : (s : PlainStep) (l : Outcome ℕ) → (l >>= λ m. followed s (steps_of ds m es)) ≡ (with_others es (leveled s l) >>= λ p. followed p.0.0 (steps_of ds p.0.1 p.1))
    one s (Ok m) = refl
    one s (Err f) = refl

    two : (r : Outcome PlainStep) → (r >>= λ s. levels_behind k s >>= λ m. followed s (steps_of ds m es)) ≡ (with_others es (r >>= λ s. leveled s (levels_behind k s)) >>= λ p. followed p.0.0 (steps_of ds p.0.1 p.1))
    two (Ok s) = one s (levels_behind k s)
    two (Err f) = refl

module _ (ds : Stated) (es : Expressions) (end : List Token) (rest : List ℕ) (levels : ℕ) (old now : List PlainStep) (t : Stepping ds es end rest levels old now) where
  -- at the closing bracket
  pub all_stepped : (after : List ℕ) → Spans rest (End ∷ []) after → (written : List PlainStep) × (steps_of ds 0 es ≡ Ok written) × HasTokens after end × (now ≡ old ++ built_steps written)
  all_stepped after s =
      let nothing = nothing_before_end 510 t.left rest after end t.begins s in (
        t.done,
        t.whole ∙ ap (λ x. behind t.done (steps_of ds levels x)) nothing.0 ∙ ap Ok (append-nil t.done),
        nothing.1,
        t.takes,
      )

  module _ (unclosed : (ts : List Token) → HasTokens rest (End ∷ ts) → ⊥) where
    some_left : t.left ≡ Nil → ⊥
    some_left none = unclosed end (subst (λ x. HasTokens rest (inside x ++ (End ∷ end))) none t.begins.has)

    of_first : (o : Outcome ((PlainStep × ℕ) × Expressions)) → first_by (step_in ds levels) t.left ≡ o → steps_of ds 0 es ≡ behind t.done (o >>= λ p. followed p.0.0 (steps_of ds p.0.1 p.1))
    of_first o h = t.whole ∙ ap (behind t.done) (steps_by_first ds levels t.left o h some_left)

    pub not_stepped : (f : JobFault) → first_by (step_in ds levels) t.left ≡ Err f → steps_of ds 0 es ≡ Err f
    not_stepped f none = of_first (Err f) none

    pub stepped_more : (more : List ℕ) (after_it : ℕ) (p : (PlainStep × ℕ) × Expressions) (new : List PlainStep) → first_by (step_in ds levels) t.left ≡ Ok p → after_it ≡ p.0.1 → new ≡ now ++ built_step p.0.0 ∷ [] → BeginsInside 510 p.1 more end → Stepping ds es end more after_it old new
    stepped_more more after_it p new first same n i = record {
      left = p.1;
      begins = i;
      done = t.done ++ p.0.0 ∷ [];
      whole = of_first (Ok p) first ∙ one_behind t.done p.0.0 (steps_of ds p.0.1 p.1) ∙ ap (λ m. behind (t.done ++ p.0.0 ∷ []) (steps_of ds m p.1)) (sym same);
      takes =
          n
          ∙ ap (λ l. l ++ built_step p.0.0 ∷ []) t.takes
          ∙ append_assoc old (built_steps t.done) (built_step p.0.0 ∷ [])
          ∙ ap (λ l. old ++ l) (sym (map-append built_step t.done (p.0.0 ∷ [])));
    }

-- ---- the section of the steps

module _ (ds : Stated) where
  pub section_unheaded : (e : Expression) (f : JobFault) → headed e ≡ Err f → section_in ds e ≡ Err f
  section_unheaded e f h = ap (λ o. o >>= λ p. section_named ds p.0 p.1) h

  module _ (e : Expression) (p : List ℕ × Expressions) (n : List ℕ) (h : headed e ≡ Ok p) (same : n ≡ p.0) where
    section_by_name : section_in ds e ≡ section_named ds n p.1
    section_by_name = ap (λ o. o >>= λ p. section_named ds p.0 p.1) h ∙ ap (λ m. section_named ds m p.1) (sym same)

    module _ (is : n ≡ codes "terms") where
      by_terms : section_in ds e ≡ (conditions_of ds p.1 >>= λ ts. Ok (TermsSection, AssertStep ts ∷ []))
      by_terms = section_by_name ∙ ap (λ (x : List ℕ). section_named ds x p.1) is

      pub no_terms_there : (f : JobFault) → conditions_of ds p.1 ≡ Err f → section_in ds e ≡ Err f
      no_terms_there f none = by_terms ∙ ap (λ o. o >>= λ ts. Ok (TermsSection, AssertStep ts ∷ [])) none

      pub terms_there : (ts : List PlainTerm) → conditions_of ds p.1 ≡ Ok ts → section_in ds e ≡ Ok (TermsSection, AssertStep ts ∷ [])
      terms_there ts some = by_terms ∙ ap (λ o. o >>= λ ts. Ok (TermsSection, AssertStep ts ∷ [])) some

    module _ (is : n ≡ codes "steps") where
      by_steps : section_in ds e ≡ (steps_of ds 0 p.1 >>= λ steps. Ok (StepsSection, steps))
      by_steps = section_by_name ∙ ap (λ (x : List ℕ). section_named ds x p.1) is

      pub no_steps_there : (f : JobFault) → steps_of ds 0 p.1 ≡ Err f → section_in ds e ≡ Err f
      no_steps_there f none = by_steps ∙ ap (λ o. o >>= λ steps. Ok (StepsSection, steps)) none

      pub steps_there : (steps : List PlainStep) → steps_of ds 0 p.1 ≡ Ok steps → section_in ds e ≡ Ok (StepsSection, steps)
      steps_there steps some = by_steps ∙ ap (λ o. o >>= λ steps. Ok (StepsSection, steps)) some

    pub neither_there : (n ≡ codes "terms" → ⊥) → (n ≡ codes "steps" → ⊥) → section_in ds e ≡ Err FormFault
    neither_there a b = section_by_name ∙ (rw (other_text n (codes "terms") a, other_text n (codes "steps") b) refl)

-- ---- the last section

last_by_first : (ds : Stated) (others : Expressions) → steps_last ds others ≡ (first_by (section_in ds) others >>= λ p. nothing_more p.1 >>= λ u. Ok p.0)
last_by_first ds Nil = refl
last_by_first ds (Cons e es) = two (headed e)
  where
    one : (r : Outcome (Section × List PlainStep)) → (r >>= λ x. nothing_more es >>= λ u. Ok x) ≡ (with_others es r >>= λ p. nothing_more p.1 >>= λ u. Ok p.0)
    one (Ok x) = refl
    one (Err f) = refl

    two : (o : Outcome (List ℕ × Expressions)) → (o >>= λ p. section_named ds p.0 p.1 >>= λ x. nothing_more es >>= λ u. Ok x) ≡ (with_others es (o >>= λ p. section_named ds p.0 p.1) >>= λ p. nothing_more p.1 >>= λ u. Ok p.0)
    two (Ok p) = one (section_named ds p.0 p.1)
    two (Err f) = refl

module _ (ds : Stated) (others : Expressions) where
  pub no_steps : (f : JobFault) → first_by (section_in ds) others ≡ Err f → steps_last ds others ≡ Err f
  no_steps f none = last_by_first ds others ∙ ap (λ o. o >>= λ p. nothing_more p.1 >>= λ u. Ok p.0) none

  module _ (p : (Section × List PlainStep) × Expressions) (first : first_by (section_in ds) others ≡ Ok p) where
    by_more : steps_last ds others ≡ (nothing_more p.1 >>= λ u. Ok p.0)
    by_more = last_by_first ds others ∙ ap (λ o. o >>= λ p. nothing_more p.1 >>= λ u. Ok p.0) first

    -- the job ends behind its steps
    pub ended : nothing_more p.1 ≡ Ok tt → steps_last ds others ≡ Ok p.0
    ended none = by_more ∙ ap (λ o. o >>= λ u. Ok p.0) none

    -- or it does not
    pub not_ended : (f : JobFault) → nothing_more p.1 ≡ Err f → steps_last ds others ≡ Err f
    not_ended f some = by_more ∙ ap (λ o. o >>= λ u. Ok p.0) some

-- where a bracket closes nothing more stands, and else something does
pub closes : (depth : ℕ) (es : Expressions) (src after : List ℕ) (end : List Token) → BeginsInside depth es src end → Spans src (End ∷ []) after → (nothing_more es ≡ Ok tt) × HasTokens after end
closes depth es src after end i s = (let n = nothing_before_end depth es src after end i s in (ap nothing_more n.0, n.1))

pub does_not_close : (depth : ℕ) (es : Expressions) (src : List ℕ) (end : List Token) → BeginsInside depth es src end → ((ts : List Token) → HasTokens src (End ∷ ts) → ⊥) → nothing_more es ≡ Err FormFault
does_not_close depth Nil src end i none = absurd (none end i.has)
does_not_close depth (Cons e es) src end i none = refl

-- ---- a job of its sections

pub record IsSectioned (e : Expression) (ds : Stated) (others : Expressions) : Type 0 where
  pub inside : Expressions
  pub is_job : section_of (codes "job") e ≡ Ok inside
  pub p : Stated × Expressions
  pub declares : declared_first inside ≡ Ok p
  pub declared : ds ≡ p.0
  pub others_are : others ≡ p.1

abbrev pub job_by : Stated → Outcome (Section × List PlainStep) → Outcome (Section × PlainJob)
job_by ds o = o >>= λ x. Ok (x.0, record { enums = ds.enums; variables = ds.variables; functions = ds.functions; steps = x.1 })

pub no_job : (e : Expression) (f : JobFault) → section_of (codes "job") e ≡ Err f → job_of e ≡ Err f
no_job e f h = ap (λ o. o >>= λ es. declared_first es >>= λ p. job_by p.0 (steps_last p.0 p.1)) h

pub not_declared : (e : Expression) (es : Expressions) (f : JobFault) → section_of (codes "job") e ≡ Ok es → declared_first es ≡ Err f → job_of e ≡ Err f
not_declared e es f s h = ap (λ o. o >>= λ es. declared_first es >>= λ p. job_by p.0 (steps_last p.0 p.1)) s ∙ ap (λ o. o >>= λ p. job_by p.0 (steps_last p.0 p.1)) h

module _ (e : Expression) (ds : Stated) (others : Expressions) (s : IsSectioned e ds others) where
  job_is : job_of e ≡ job_by ds (steps_last ds others)
  job_is =
      ap (λ o. o >>= λ es. declared_first es >>= λ p. job_by p.0 (steps_last p.0 p.1)) s.is_job
      ∙ ap (λ o. o >>= λ p. job_by p.0 (steps_last p.0 p.1)) s.declares
      ∙ sym (λ i. job_by (s.declared i) (steps_last (s.declared i) (s.others_are i)))

  pub without_steps : (f : JobFault) → steps_last ds others ≡ Err f → job_of e ≡ Err f
  without_steps f h = job_is ∙ ap (job_by ds) h

  pub with_steps : (x : Section × List PlainStep) → steps_last ds others ≡ Ok x → job_of e ≡ Ok (x.0, record { enums = ds.enums; variables = ds.variables; functions = ds.functions; steps = x.1 })
  with_steps x h = job_is ∙ ap (job_by ds) h

-- ---- the tokens of a job

abbrev headed_by : List ℕ → Expressions → Expression
headed_by head es = Node (Cons (Leaf (Name head)) es)

-- brackets with a head, of what is inside
headed_tokens : (head : List ℕ) (es : Expressions) (ts : List Token) → inside es ≡ ts → brackets (headed_by head es) ≡ (Begin ∷ Word (Name head) ∷ []) ++ (ts ++ End ∷ [])
headed_tokens head es ts h = ap (λ us. Begin ∷ Word (Name head) ∷ (us ++ End ∷ [])) h

-- brackets with a head that were read
pub one_read : (head : List ℕ) (depth : ℕ) (src inner rest : List ℕ) → 0 < depth → Spans src (Begin ∷ Word (Name head) ∷ []) inner → ReadsInside inner (depth - 1) rest → ReadsOne src depth rest
one_read head depth src inner rest some enters reads =
    let closing = reads.0 in
    let r = reads.1 in
    let taken = flat_map brackets r.read in
    let inner_span = joined inner closing rest taken (End ∷ []) r.span reads.2 in
    let shallow = r.shallow in (
      headed_by head (expressions r.read),
      subst (λ ts. Spans src ts rest) (sym (headed_tokens head (expressions r.read) taken (inside_is r.read))) (joined src inner rest (Begin ∷ Word (Name head) ∷ []) (taken ++ End ∷ []) enters inner_span),
      omega arith,
    )

pub job_read : (src inner rest behind_it : List ℕ) → Spans src (Begin ∷ Word (Name (codes "job")) ∷ []) inner → ReadsSome inner 511 rest → ReadsOne rest 511 behind_it → HasTokens behind_it (End ∷ []) → (e : Expression) × IsReadWithin src 512 e
job_read src inner rest behind_it opens declares last closes_job =
    let r = read_one_more inner rest behind_it 511 declares last in
    let taken = flat_map brackets r.read in
    let whole = headed_by (codes "job") (expressions r.read) in
    let all = joined src inner [] (Begin ∷ Word (Name (codes "job")) ∷ []) (taken ++ End ∷ []) opens (joined inner behind_it [] taken (End ∷ []) r.span closes_job) in
    let shallow = r.shallow in
    (whole, read_from src 512 whole (subst (HasTokens src) (sym (headed_tokens (codes "job") (expressions r.read) taken (inside_is r.read))) all) (omega arith))

-- ---- the whole

pub whole_begins : (bytes : List ℕ) (e : Expression) → IsReadWithin bytes 512 e → Begins 512 e bytes []
whole_begins bytes e r = record { has = subst (HasTokens bytes) (sym (append-nil (brackets e))) (has_tokens bytes 512 e r); shallow = r.shallow }

module _ (bytes : List ℕ) (old new : List PlainStep) where
  abbrev IsWalked : Result (Declared × Which) JobError → Type 0
  IsWalked r = (e : Expression) → IsReadWithin bytes 512 e → Gives (λ x job. Takes (stated_in x.0) (plain_section x.1) old new job) r (job_of e)

  pub job_taken : (walked : Declared × Which) → length bytes ≤ greatest_length → ((e : Expression) × IsReadWithin bytes 512 e) → IsWalked (Ok walked) → TakesJob bytes (stated_in walked.0) (plain_section walked.1) old new
  job_taken walked short read w =
      let t = w read.0 read.1 in
      record {
        written = t.0.1;
        is_job = record {
          short = short;
          expression = read.0;
          read = read.1;
          section = t.0.0;
          stated = t.1;
        };
        is_taken = t.2;
      }

  -- an error of the walk is the fault of the job, unless the text is unreadable
  fault_of_job : (e : Expression) → IsReadWithin bytes 512 e → (x : JobError) → length bytes ≤ greatest_length → IsFaultIn x (job_of e) → IsRefusal x bytes
  fault_of_job e read TooLarge short w = absurd w
  fault_of_job e read (Parse f) short w = absurd w
  fault_of_job e read TooDeep short w = absurd w
  fault_of_job e read BadForm short w = (short, record { expression = e; read = read; stated = w })
  fault_of_job e read (UnknownName n) short w = (short, record { expression = e; read = read; stated = w })
  fault_of_job e read (DuplicateName n) short w = (short, record { expression = e; read = read; stated = w })
  fault_of_job e read BadType short w = (short, record { expression = e; read = read; stated = w })
  fault_of_job e read BadWidth short w = (short, record { expression = e; read = read; stated = w })
  fault_of_job e read (BadLiteral n) short w = (short, record { expression = e; read = read; stated = w })
  fault_of_job e read IllTyped short w = (short, record { expression = e; read = read; stated = w })
  fault_of_job e read NotBool short w = (short, record { expression = e; read = read; stated = w })
  fault_of_job e read Unbalanced short w = (short, record { expression = e; read = read; stated = w })
  fault_of_job e read Memory short w = tt

  fault_of_text : (x : JobError) → length bytes ≤ greatest_length → IsUnreadable x bytes → IsRefusal x bytes
  fault_of_text (Parse f) short u = (short, u)
  fault_of_text TooDeep short u = (short, u)
  fault_of_text Memory short u = tt
  fault_of_text x short u = absurd u

  pub first_refused : (fault first : JobError) → length bytes ≤ greatest_length → IsWalked (Err fault) → IsFirstFault bytes fault first → IsRefusal first bytes
  first_refused fault first short w (inl r) = subst (λ (x : JobError). IsRefusal x bytes) (sym r.2) (fault_of_job r.0 r.1 fault short (w r.0 r.1))
  first_refused fault first short w (inr u) = fault_of_text first short u

-- a refusal for its length is of bytes that are too many
pub too_large : (bytes : List ℕ) (x : JobError) → IsRefusal x bytes → x ≡ TooLarge → IsTooLong bytes
too_large bytes x r h = subst (λ (y : JobError). IsRefusal y bytes) h r

-- ---- the first of two faults

pub text_fault : (bytes : List ℕ) (fault : SExprParseError) → (fault ≡ TextTooDeep → ⊥) → (fault ≡ NoMemory → ⊥) → IsRefused fault 512 bytes → IsTextFault fault bytes
text_fault bytes UnexpectedEnd d m r = r
text_fault bytes Utf8Error d m r = r
text_fault bytes (StringParseError raw) d m r = r
text_fault bytes (ParseIntError e) d m r = r
text_fault bytes UnclosedSExpr d m r = r
text_fault bytes TrailingTokens d m r = r
text_fault bytes IntegerOverflow d m r = r
text_fault bytes ZeroWidthBitVec d m r = r
text_fault bytes TextTooDeep d m r = absurd (d refl)
text_fault bytes NoMemory d m r = absurd (m refl)

-- what was taken of a job is what is built of it
pub built_from : (bytes : List ℕ) (declared : Stated) (section : Section) (old new : List PlainStep) → TakesJob bytes declared section old new → old ≡ []
    → IsBuiltFrom bytes section (record { enums = declared.enums; variables = declared.variables; functions = declared.functions; steps = new })
built_from bytes declared section old new t none =
    let steps = t.is_taken.takes ∙ ap (λ (l : List PlainStep). l ++ built_steps t.written.steps) none in
    record {
      written = t.written;
      is_job = t.is_job;
      by_section = sym t.is_taken.by_section;
      is_built = λ i. record { enums = t.is_taken.enums i; variables = t.is_taken.variables i; functions = t.is_taken.functions i; steps = steps i };
    }
