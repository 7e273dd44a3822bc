-- The lines and the faults of applications whose operands are written as they stand.
use Rattle.std.proofs.Common.{◌≡◌, ℕ, List, [], ◌∷◌, get_or, length, map, ◌≤◌, Option, Result, Ok, Err, arith, refl, sym, ap, subst}
use Rattle.std.specs.Prelude.{IfOk, IsErrOf}
use Rattle.std.specs.Result.{IsErrAnd}
use Rattle.std.specs.Io.KnownBytes.{append_known}
use Rattle.std.specs.declared.alloc.Global.{Global}
use Rattle.std.specs.declared.rc.Rc.{Rc}
use Rattle.std.specs.declared.rc.RcStr.{RcStr}
use Rattle.law_texts.specs.LineTexts.{define_fun_text}
use Rattle.law_texts.specs.Reading.{Expression}
use Rattle.law_lines.specs.Line.{spelled_lines}
use Rattle.law_lines.specs.LineForms.{application_body, operator_head}
use Rattle.law_lines.specs.Lines.{Enums, Written, encode_head, first_type, made_of, next_term}
use Rattle.law_lines.specs.Spelling.{spelled}
use Rattle.law_lines.specs.NameTables.{Tables}
use Rattle.law_terms.specs.Plain.{PlainOp, PlainTerm, terms}
use Rattle.law_terms.specs.Types.{type_of}
use Rattle.smt_script.proofs.PutsLemmas.{appends_then}
use Rattle.smt_script.specs.declared.sink.SinkError.TheVariants.{Fault as Failed}
use Rattle.law_scripts.specs.Script.{name}
use Rattle.smt_spelling.specs.TextFaults.{pattern_fault}
use Rattle.smt_term.specs.View.{plain_op, plain_term}
use Rattle.smt_term.specs.declared.function.Uuf.{Uuf as Function}
use Rattle.smt_term.specs.declared.op.Op.{Op}
use Rattle.smt_term.specs.declared.op.Op.TheVariants.{RecordGet, Uuf}
use Rattle.smt_term.specs.declared.term.Term.{Term}
use Rattle.smt_encode.specs.Alone.{encoded, PutUnder}
use Rattle.smt_encode.specs.Applied.{application_line, fault_of_application, PutApplied, WroteApplied}
use Rattle.smt_spelling.specs.Names.{KeepTables}
use Rattle.smt_encode.specs.Steps.{HasTables, Wrote}
use Rattle.smt_encode.specs.declared.encoder.Encoder.{Encoder}
use Rattle.smt_encode.specs.declared.error.EncodeError.{EncodeError}
use Rattle.smt_spelling.specs.declared.selector_error.SelectorError.{SelectorError}
use Rattle.smt_encode.specs.declared.error.WriteError.{WriteError}
use Rattle.smt_encode.specs.declared.error.WriteError.TheVariants.{Selector, Sink}
use Rattle.smt_encode.specs.declared.writer.Writer.{Writer}
use Rattle.smt_spelling.specs.declared.names.Names.{Names}

-- the type of the first term
pub first_typed : (ts : List Term) (x : Term) → 1 ≤ length ts → x ≡ get_or ts 0 x → first_type (terms (map plain_term ts)) ≡ type_of (plain_term x)
first_typed [] x some is = absurd (omega (arith, some))
first_typed (t ∷ ts) x some is = ap (λ y. type_of (plain_term y)) (sym is)

-- ---- operators that have their own text

-- what an application begins with is the operator's text, and its fault is that of a pattern
pub record HasOwnText (op : PlainOp) : Type 0 where
  pub head : (enums : Enums) (ts : List PlainTerm) (s : Tables) → encode_head enums op (terms ts) s ≡ made_of (operator_head op) s
  pub fault : (enums : Enums) (s : Tables) (ts : List PlainTerm) → fault_of_application enums s op ts ≡ pattern_fault op

pub own_text : (o : Op) → ((a : RcStr Global) → o ≡ RecordGet a → ⊥) → ((f : Rc Function Global) → o ≡ Uuf f → ⊥) → HasOwnText (plain_op o)
own_text (RecordGet a) g u = absurd (g a refl)
own_text (Uuf f) g u = absurd (u f refl)
own_text o g u = record { head = λ enums ts s. refl; fault = λ enums s ts. refl }

-- ---- what was put

-- an error of a selector, handed on, is not the sink's
pub no_failure : {T : Type 0} (e : SelectorError) (result : Result T WriteError) → IsErrAnd result (λ y. y ≡ Selector e) → IsErrOf result (Sink Failed) → ⊥
no_failure e (Ok x) same is = absurd same
no_failure e (Err y) same is = cc

-- a definition behind the lines of what it begins with
pub applied : {S : Type 0} (contents : S → Option (List ℕ)) (old mid new : Writer S) (w : Written Expression) (op : PlainOp) (sort : List ℕ) (es : List (List ℕ)) (body : List ℕ) (result : Result (RcStr Global) WriteError)
    → Wrote contents old mid w.lines w.tables → new.names ≡ mid.names → body ≡ spelled (application_body w.made op (map name es))
    → IfOk result (PutUnder contents mid.script new.script (next_term w.tables) (define_fun_text (next_term w.tables) [] sort body)) → IfOk result (WroteApplied contents old new w op sort es)
applied contents old mid new w op sort es body (Ok x) wrote names is put = record {
  got = appends_then (contents old.script) (contents mid.script) (contents new.script) (spelled_lines w.lines) (application_line w.made op sort es w.tables) wrote.contents_are
      (subst (λ (b : List ℕ). contents new.script ≡ append_known (contents mid.script) (define_fun_text (next_term w.tables) [] sort b)) is put.got);
  named = put.named;
  names = subst (λ (n : Names). KeepTables n w.tables) (sym names) wrote.names;
}
applied contents old mid new w op sort es body (Err e) wrote names is put = tt

-- a definition that begins with what has no lines
pub applied_alone : {S : Type 0} (contents : S → Option (List ℕ)) (old new : Writer S) (head : Expression) (op : PlainOp) (sort : List ℕ) (es : List (List ℕ)) (s : Tables) (result : Result (RcStr Global) WriteError)
    → HasTables old s → new.names ≡ old.names → IfOk result (PutUnder contents old.script new.script (next_term s) (application_line head op sort es s)) → IfOk result (WroteApplied contents old new (made_of head s) op sort es)
applied_alone contents old new head op sort es s (Ok x) has names put = record {
  got = put.got;
  named = put.named;
  names = subst (λ (n : Names). KeepTables n s) (sym names) has;
}
applied_alone contents old new head op sort es s (Err e) has names put = tt

-- what a writer wrote, an encoder over it put
pub put_applied : {S : Type 0} (contents : S → Option (List ℕ)) (old new : Encoder S) (w : Written Expression) (op : PlainOp) (sort : List ℕ) (es : List (List ℕ)) (outcome : Result (RcStr Global) WriteError)
    → IfOk outcome (WroteApplied contents old.writer new.writer w op sort es) → {result : Result (RcStr Global) EncodeError} → result ≡ encoded outcome → IfOk result (PutApplied contents old new w op sort es)
put_applied contents old new w op sort es (Ok x) wrote is =
    subst (λ (r : Result (RcStr Global) EncodeError). IfOk r (PutApplied contents old new w op sort es)) (sym is) (record { got = wrote.got; named = wrote.named; names = wrote.names })
put_applied contents old new w op sort es (Err e) wrote is =
    subst (λ (r : Result (RcStr Global) EncodeError). IfOk r (PutApplied contents old new w op sort es)) (sym is) tt
