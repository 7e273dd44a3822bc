-- What the program reads of a term, part by part.
use Rattle.std.specs.Prelude.{◌≡◌, ⊤, List, ◌++◌, map, Option, Some, None, Ok, Err, Result}
use Rattle.std.specs.Rc.{rc_str_bytes}
use Rattle.std.specs.declared.alloc.Global.{Global}
use Rattle.std.specs.declared.vec.Vec.{Vec}
use Rattle.smt_term.specs.PatternView.{plain_part}
use Rattle.smt_term.specs.declared.pattern.PatternElem.{PatternElem}
use Rattle.law_folding.specs.Built.{built}
use Rattle.law_terms.specs.Plain.{PatternPart, PlainTerm}
use Rattle.law_terms.specs.Typing.{AreTyped}
use Rattle.smt_term.specs.View.{plain_op, plain_term, plain_type}
use Rattle.smt_term.specs.declared.term.Term.{Term}
use Rattle.law_texts.specs.Reading.{Expression, Leaf, Node, Expressions}
use Rattle.law_jobs.specs.Declarations.{Declared as Stated}
use Rattle.law_jobs.specs.Outcomes.{Outcome, FormFault}
use Rattle.law_jobs.specs.Terms.{TermForm, Whole as WholeForm, Operator as OperatorForm, OperatorBehind as OperatorBehindForm}
use Rattle.law_jobs.specs.Terms.{Present as PresentForm, Elements as ElementsForm, Fields as FieldsForm, atom_term, other_terms}
use Rattle.law_jobs.specs.Terms.{parts_of as parts_by, second_terms, terms_of}
use Rattle.smt_job_terms.specs.ReadAs.{IsFault}
use Rattle.smt_job_terms.specs.declared.error.JobError.{JobError}
use Rattle.smt_job_terms.specs.declared.error.JobError.TheVariants.{BadForm}
use Rattle.smt_job_terms.specs.declared.form.Form.{Form}
use Rattle.smt_job_terms.specs.declared.form.Form.TheVariants.{Whole, Operator, OperatorBehind, Present, Elements, Fields}

-- the term of an atom; brackets are none
abbrev pub atom_outcome : Expression → Outcome PlainTerm
atom_outcome (Leaf a) = atom_term a
atom_outcome (Node es) = Err FormFault

-- The elements that are stated were appended, and an error is a want of memory or a fault of the form.
abbrev pub AppendsParts : {A : Type 0} → Vec PatternElem Global → Vec PatternElem Global → Option (List PatternPart) → Result A JobError →
    Type 0
AppendsParts old new stated (Ok u) =
    (parts : List PatternPart) × (stated ≡ Some parts) × (map plain_part new.items ≡ map plain_part old.items ++ parts)
AppendsParts old new stated (Err e) = IsFault e FormFault × (e ≡ BadForm → stated ≡ None)

-- what a form says: what a term is made of besides its parts
abbrev pub plain_form : Form → TermForm
plain_form (Whole t) = WholeForm (plain_term t)
plain_form (Operator op) = OperatorForm (plain_op op)
plain_form (OperatorBehind op) = OperatorBehindForm (plain_op op)
plain_form Present = PresentForm
plain_form (Elements ty) = ElementsForm (plain_type ty)
plain_form (Fields names) = FieldsForm (map rc_str_bytes names.items)

-- the parts of a form among these expressions
abbrev pub parts_of : Stated → TermForm → Expressions → Outcome (List PlainTerm)
parts_of ds form es = parts_by form (terms_of ds es) (other_terms ds es) (second_terms ds es)

-- a whole term is built as it is written
abbrev pub StaysAsBuilt : TermForm → Type 0
StaysAsBuilt (WholeForm t) = built t ≡ t
StaysAsBuilt form = ⊤

-- terms of the program as they are built of these
pub record AreBuilt (written : List PlainTerm) (now : List Term) : Type 0 where
  pub are_typed : AreTyped written
  pub same : map plain_term now ≡ map built written
